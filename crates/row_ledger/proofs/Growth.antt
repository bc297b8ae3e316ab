-- How a history that is kept right grows: one lemma for each kind of event.
use Rattle.std.proofs.{Common.{◌≡◌, ℕ, ◌≤◌, ◌<◌, List, [], ◌∷◌, Bool, false, IsTrue, length, refl, arith}, lemmas.Bool.Decides.nat_tests, lemmas.Grind.common_steps}
use Rattle.dim_hierarchy.specs.{declared.filter.Pick.Pick, declared.row.Row.Row}
use Rattle.measure_agg.specs.Aggregate.{Aggregate}
use Rattle.describing_set.specs.declared.listing.Spot.{Spot}
use Rattle.shard_plan.specs.declared.action.Action.TheVariants as action
use Rattle.row_ledger.specs.{Groups.IsCallOf, Kept.KeepsRight, Listings.IsFirstListing, Past.{failed, is_kept}, Right.{Site, EachEvent, IsFirstPull, Opens, IsRightAck, IsRightAnswer, IsRightFailure, IsLaterPull, IsRightAction, IsRightSplit, IsRightLeft, IsRightPage, IsRightEnd, Stands, StandsRight, IsRight}, declared.event.Event.Event, declared.event.Event.TheVariants.{Synced, Begun, Acked, Asked, Answered, Unknown, Failed, Refused, Called, Split, Moved, Left, Shown, Ended}, declared.page.Page.Page, declared.settings.Call.Call, declared.settings.How.How}
pub use Rattle.row_ledger.specs.Kept.{IsOpeningHistory}
use Rattle.row_ledger.proofs.Within.{Within, StandsRight-within}

-- The opening.

pub IsOpeningHistory-nil : (site : Site) → IsOpeningHistory site []
IsOpeningHistory-nil site = record { few = omega arith; pulls = tt }

-- the next server's first pull
pub IsOpeningHistory-pull : (site : Site) (h : List Event) (listing : List Spot)
    → IsOpeningHistory site h → length h < site.servers → IsFirstListing site listing → IsOpeningHistory site (Synced (length h) listing ∷ h)
IsOpeningHistory-pull site h listing opens more lists = record { few = omega arith; pulls = ((refl, lists), opens.pulls) }

EachEvent-opens : (site : Site) (h : List Event) → EachEvent (IsFirstPull site) h → EachEvent (Opens site) h
EachEvent-opens site [] pulls = tt
EachEvent-opens site (e ∷ past) pulls = (λ first. pulls.0, EachEvent-opens site past pulls.1)

EachEvent-stands : (site : Site) (usable : ℕ → Bool) (h : List Event) → length h ≤ site.servers → EachEvent (IsFirstPull site) h → EachEvent (Stands site usable) h
EachEvent-stands site usable [] few pulls = tt
EachEvent-stands site usable (Synced server listing ∷ past) few pulls =
    (λ behind. absurd (omega arith), EachEvent-stands site usable past (omega arith) pulls.1)
EachEvent-stands site usable (_ ∷ past) few pulls = absurd pulls.0

failed-none : (site : Site) (h : List Event) → EachEvent (IsFirstPull site) h → failed h ≡ []
failed-none site [] pulls = refl
failed-none site (Failed of ∷ past) pulls = absurd pulls.0
failed-none site (e ∷ past) pulls = failed-none site past pulls.1

-- where each server has pulled, the history begins right
pub KeepsRight-opened : (site : Site) (placed : ℕ → Bool) (h : List Event) → IsOpeningHistory site h → length h ≡ site.servers → KeepsRight site placed h
KeepsRight-opened site placed h opens all = record {
  right = record { opened = omega arith; opening = EachEvent-opens site h opens.pulls; each = EachEvent-stands site placed h opens.few opens.pulls };
  kept = λ number is_placed. rw (failed-none site h opens.pulls) refl;
}

-- Events.

StandsRight-grown : (site : Site) (usable : ℕ → Bool) (h : List Event) (e : Event) → StandsRight site usable h → Stands site usable h e → StandsRight site usable (e ∷ h)
StandsRight-grown site usable h e right stands =
    let opened : site.servers ≤ length h = right.opened in
    record {
      opened = omega arith;
      opening = (λ first. absurd (omega arith), right.opening);
      each = (stands, right.each);
    }

KeepsRight-grown : (site : Site) (placed : ℕ → Bool) (h : List Event) (e : Event)
    → KeepsRight site placed h → Stands site placed h e → failed (e ∷ h) ≡ failed h → KeepsRight site placed (e ∷ h)
KeepsRight-grown site placed h e keeps stands same = record {
  right = StandsRight-grown site placed h e keeps.right stands;
  kept = λ number is_placed. rw same (keeps.kept number is_placed);
}

pub KeepsRight-synced : (site : Site) (placed : ℕ → Bool) (h : List Event) (server : ℕ) (listing : List Spot)
    → KeepsRight site placed h → IsLaterPull site placed h server listing → KeepsRight site placed (Synced server listing ∷ h)
KeepsRight-synced site placed h server listing keeps right = KeepsRight-grown site placed h (Synced server listing) keeps (λ behind. right) refl

pub KeepsRight-begun : (site : Site) (placed : ℕ → Bool) (h : List Event) (session server : ℕ) (row : Row)
    → KeepsRight site placed h → row.no ≡ length h → KeepsRight site placed (Begun session server row ∷ h)
KeepsRight-begun site placed h session server row keeps numbered = KeepsRight-grown site placed h (Begun session server row) keeps numbered refl

pub KeepsRight-acked : (site : Site) (placed : ℕ → Bool) (h : List Event) (of : ℕ) (path : List ℕ)
    → KeepsRight site placed h → IsRightAck h of path → KeepsRight site placed (Acked of path ∷ h)
KeepsRight-acked site placed h of path keeps right = KeepsRight-grown site placed h (Acked of path) keeps right refl

pub KeepsRight-asked : (site : Site) (placed : ℕ → Bool) (h : List Event) (session server : ℕ) (filter : List Pick)
    → KeepsRight site placed h → KeepsRight site placed (Asked session server filter ∷ h)
KeepsRight-asked site placed h session server filter keeps = KeepsRight-grown site placed h (Asked session server filter) keeps tt refl

pub KeepsRight-answered : (site : Site) (placed : ℕ → Bool) (h : List Event) (of : ℕ) (answer : Aggregate)
    → KeepsRight site placed h → IsRightAnswer site placed h of answer → KeepsRight site placed (Answered of answer ∷ h)
KeepsRight-answered site placed h of answer keeps right = KeepsRight-grown site placed h (Answered of answer) keeps right refl

pub KeepsRight-unknown : (site : Site) (placed : ℕ → Bool) (h : List Event) (session server dim : ℕ)
    → KeepsRight site placed h → KeepsRight site placed (Unknown session server dim ∷ h)
KeepsRight-unknown site placed h session server dim keeps = KeepsRight-grown site placed h (Unknown session server dim) keeps tt refl

pub KeepsRight-refused : (site : Site) (placed : ℕ → Bool) (h : List Event) (session : ℕ)
    → KeepsRight site placed h → KeepsRight site placed (Refused session ∷ h)
KeepsRight-refused site placed h session keeps = KeepsRight-grown site placed h (Refused session) keeps tt refl

pub KeepsRight-called : (site : Site) (placed : ℕ → Bool) (h : List Event) (session : ℕ) (call : Call) → IsCallOf site.hierarchy call
    → KeepsRight site placed h → KeepsRight site placed (Called session call ∷ h)
KeepsRight-called site placed h session call valid keeps = KeepsRight-grown site placed h (Called session call) keeps valid refl

pub KeepsRight-split : (site : Site) (placed : ℕ → Bool) (h : List Event) (of shard left right : ℕ)
    → KeepsRight site placed h → IsRightSplit site h of shard left right → KeepsRight site placed (Split of shard left right ∷ h)
KeepsRight-split site placed h of shard left right keeps is_right = KeepsRight-grown site placed h (Split of shard left right) keeps is_right refl

pub KeepsRight-moved : (site : Site) (placed : ℕ → Bool) (h : List Event) (of shard worker : ℕ)
    → KeepsRight site placed h → IsRightAction site h of (action.Move shard worker) → KeepsRight site placed (Moved of shard worker ∷ h)
KeepsRight-moved site placed h of shard worker keeps right = KeepsRight-grown site placed h (Moved of shard worker) keeps right refl

pub KeepsRight-left : (site : Site) (placed : ℕ → Bool) (h : List Event) (of shard : ℕ) (how : How)
    → KeepsRight site placed h → IsRightLeft h of how → KeepsRight site placed (Left of shard how ∷ h)
KeepsRight-left site placed h of shard how keeps right = KeepsRight-grown site placed h (Left of shard how) keeps right refl

pub KeepsRight-shown : (site : Site) (placed : ℕ → Bool) (h : List Event) (of : ℕ) (page : Page)
    → KeepsRight site placed h → IsRightPage site h of page → KeepsRight site placed (Shown of page ∷ h)
KeepsRight-shown site placed h of page keeps right = KeepsRight-grown site placed h (Shown of page) keeps right refl

pub KeepsRight-ended : (site : Site) (placed : ℕ → Bool) (h : List Event) (of : ℕ) (how : How)
    → KeepsRight site placed h → IsRightEnd site placed h of how → KeepsRight site placed (Ended of how ∷ h)
KeepsRight-ended site placed h of how keeps right = KeepsRight-grown site placed h (Ended of how) keeps right refl

-- the failure of an insert whose row has no place, or of a query
pub KeepsRight-failed : (site : Site) (placed : ℕ → Bool) (h : List Event) (of : ℕ)
    → KeepsRight site placed h → placed of ≡ false → IsRightFailure h of → KeepsRight site placed (Failed of ∷ h)
KeepsRight-failed site placed h of keeps out right = record {
  right = StandsRight-grown site placed h (Failed of) keeps.right right;
  kept = λ number is_placed.
      let kept : IsTrue (is_kept h number) = keeps.kept number is_placed in grind (arith, common_steps, nat_tests);
}

-- Places and the end.

-- more rows have found their place
pub KeepsRight-place : (site : Site) (placed more : ℕ → Bool) (h : List Event)
    → KeepsRight site placed h → Within placed more → Within more (is_kept h) → KeepsRight site more h
KeepsRight-place site placed more h keeps within kept = record { right = StandsRight-within site placed more h within keeps.right; kept = kept }

-- what a run keeps is a right history
pub IsRight-kept : (site : Site) (placed : ℕ → Bool) (h : List Event) → KeepsRight site placed h → IsRight site h
IsRight-kept site placed h keeps = StandsRight-within site placed (is_kept h) h keeps.kept keeps.right
