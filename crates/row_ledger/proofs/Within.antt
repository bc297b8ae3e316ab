-- What stands rightly over some usable rows does so over more.
use Rattle.std.proofs.{Common.{ℕ, List, [], ◌∷◌, Bool, IsTrue}, lemmas.List.Elements.All-weaker}
use Rattle.std.specs.{List.AllZip, Prelude.{All, Contains}}
use Rattle.dim_hierarchy.specs.{Dimension.Dimension, declared.row.Row.Row}
use Rattle.measure_agg.specs.Aggregate.{Aggregate}
use Rattle.describing_set.specs.{declared.listing.Spot.Spot, declared.set.DescSet.DescSet}
use Rattle.shard_plan.specs.declared.action.Action.{Action}
use Rattle.row_ledger.specs.{Bounds.may, Classes.class_of, Listings.{IsBox, IsListing}, Past.{Step, begun}, Right.{Site, EachEvent, IsRightAnswer, IsLaterPull, MayEnd, IsRightEnd, Stands, StandsRight}, Work.{IsRightDecline, MayEndAction, Settles, IsRightBalance, rows_read}, declared.class.Class.Class, declared.event.Event.Event, declared.settings.Decline.Decline, declared.settings.How.How, declared.settings.How.TheVariants.{Balanced, Declined}}
use Rattle.row_ledger.specs.declared.event.Event.TheVariants as event
use Rattle.row_ledger.specs.declared.class.Class.TheVariants as class_is
use Rattle.row_ledger.specs.declared.settings.Decline.TheVariants as decline
use Rattle.list_words.proofs.Elements.{Contains-filter, Contains-filtered, IsTrue-filtered}

-- each number that the first has the second has
abbrev pub Within : (ℕ → Bool) → (ℕ → Bool) → Type 0
Within fewer more = (number : ℕ) → IsTrue (fewer number) → IsTrue (more number)

pub may-within : (fewer more : ℕ → Bool) → Within fewer more → (past : List Event) (r : Row) → Contains (may fewer past) r → Contains (may more past) r
may-within fewer more within past r has =
    Contains-filter (λ r. more r.no) (begun past) r
    (Contains-filtered (λ r. fewer r.no) (begun past) r has)
    (within r.no (IsTrue-filtered (λ r. fewer r.no) (begun past) r has))

pub All-may-within : (fewer more : ℕ → Bool) → Within fewer more → (past : List Event) (rows : List Row)
    → All (Contains (may fewer past)) rows → All (Contains (may more past)) rows
All-may-within fewer more within past rows all = All-weaker (Contains (may fewer past)) (Contains (may more past)) (may-within fewer more within past) rows all

-- Answers.

IsRightAnswer-within : (site : Site) (fewer more : ℕ → Bool) → Within fewer more → (past : List Event) (of : ℕ) (answer : Aggregate)
    → IsRightAnswer site fewer past of answer → IsRightAnswer site more past of answer
IsRightAnswer-within site fewer more within past of answer right = record {
  query = right.query;
  asked = right.asked;
  is_open = right.is_open;
  allowed = record {
    rows = right.allowed.rows;
    once = right.allowed.once;
    known = right.allowed.known;
    usable = All-may-within fewer more within past right.allowed.rows right.allowed.usable;
    matching = right.allowed.matching;
    total = right.allowed.total;
  };
}

-- Pulls.

pub IsBox-within : (h : List Dimension) (fewer more : ℕ → Bool) → Within fewer more → (past : List Event) (set : DescSet)
    → IsBox h (may fewer past) set → IsBox h (may more past) set
IsBox-within h fewer more within past set box = record { rows = box.rows; usable = All-may-within fewer more within past box.rows box.usable; set_of = box.set_of }

IsListing-within : (site : Site) (fewer more : ℕ → Bool) → Within fewer more → (past : List Event) (server : ℕ) (listing : List Spot)
    → IsListing site fewer past server listing → IsListing site more past server listing
IsListing-within site fewer more within past server listing lists = record {
  places = lists.places;
  boxes = All-weaker (λ (spot : Spot). IsBox site.hierarchy (may fewer past) spot.set) (λ (spot : Spot). IsBox site.hierarchy (may more past) spot.set)
      (λ spot. IsBox-within site.hierarchy fewer more within past spot.set) listing lists.boxes;
  own = lists.own;
  published = lists.published;
}

IsLaterPull-within : (site : Site) (fewer more : ℕ → Bool) → Within fewer more → (past : List Event) (server : ℕ) (listing : List Spot)
    → IsLaterPull site fewer past server listing → IsLaterPull site more past server listing
IsLaterPull-within site fewer more within past server listing later = record {
  of = later.of;
  call = later.call;
  called = later.called;
  is_open = later.is_open;
  pulls = later.pulls;
  lists = IsListing-within site fewer more within past server listing later.lists;
}

-- Ends.

IsRightDecline-within : (site : Site) (fewer more : ℕ → Bool) → Within fewer more → (past : List Event) (of : ℕ) (a : Action) (why : Decline)
    → IsRightDecline site fewer past of a why → IsRightDecline site more past of a why
IsRightDecline-within site fewer more within past of a why right = record {
  rows = right.rows;
  read = record { once = right.read.once; allowed = All-may-within fewer more within past right.rows right.read.allowed; came = right.read.came };
  cause = right.cause;
}

MayEndAction-within : (site : Site) (fewer more : ℕ → Bool) → Within fewer more → (past : List Event) (of : ℕ) (a : Action) (how : How)
    → MayEndAction site fewer past of a how → MayEndAction site more past of a how
MayEndAction-within site fewer more within past of a (Declined decline.OnePlace) may =
    (may.0, may.1, IsRightDecline-within site fewer more within past of a decline.OnePlace may.2)
MayEndAction-within site fewer more within past of a (Declined (decline.NoCell need free)) may =
    (may.0, may.1, IsRightDecline-within site fewer more within past of a (decline.NoCell need free) may.2)
MayEndAction-within site fewer more within past of a _ may = may

pub Settles-within : (site : Site) (fewer more : ℕ → Bool) → Within fewer more → (of : ℕ) (a : Action) (past : List Event) (e : Event)
    → Settles site fewer of a past e → Settles site more of a past e
Settles-within site fewer more within of a past (event.Left x shard (Declined why)) settles =
    (settles.0, IsRightDecline-within site fewer more within past of a why settles.1)
Settles-within site fewer more within of a past _ settles = settles

pub AllZip-weaker : {A B : Type 0} (P Q : A → B → Type 0) → ((a : A) (b : B) → P a b → Q a b) → (xs : List A) (ys : List B) → AllZip P xs ys → AllZip Q xs ys
AllZip-weaker P Q weaker [] [] all = tt
AllZip-weaker P Q weaker [] (y ∷ ys) all = absurd all
AllZip-weaker P Q weaker (x ∷ xs) [] all = absurd all
AllZip-weaker P Q weaker (x ∷ xs) (y ∷ ys) all = (weaker x y all.0, AllZip-weaker P Q weaker xs ys all.1)

IsRightBalance-within : (site : Site) (fewer more : ℕ → Bool) → Within fewer more → (past : List Event) (of most done planned : ℕ)
    → IsRightBalance site fewer past of most done planned → IsRightBalance site more past of most done planned
IsRightBalance-within site fewer more within past of most done planned right = record {
  readings = right.readings;
  places = right.places;
  counts = right.counts;
  once = right.once;
  allowed = All-may-within fewer more within past (rows_read right.readings) right.allowed;
  came = right.came;
  actions = right.actions;
  events = AllZip-weaker (λ a (step : Step). Settles site fewer of a step.past step.event) (λ a (step : Step). Settles site more of a step.past step.event)
      (λ a step. Settles-within site fewer more within of a step.past step.event) _ _ right.events;
  did = right.did;
}

MayEnd-within : (site : Site) (fewer more : ℕ → Bool) → Within fewer more → (past : List Event) (of : ℕ) (class : Class) (how : How)
    → MayEnd site fewer past of class how → MayEnd site more past of class how
MayEnd-within site fewer more within past of (class_is.Action a) how may = MayEndAction-within site fewer more within past of a how may
MayEnd-within site fewer more within past of (class_is.Balance most) (Balanced done planned) may = IsRightBalance-within site fewer more within past of most done planned may
MayEnd-within site fewer more within past of _ _ may = may

IsRightEnd-within : (site : Site) (fewer more : ℕ → Bool) → Within fewer more → (past : List Event) (of : ℕ) (how : How)
    → IsRightEnd site fewer past of how → IsRightEnd site more past of how
IsRightEnd-within site fewer more within past of how right = record {
  call = right.call;
  called = right.called;
  is_open = right.is_open;
  may_end = MayEnd-within site fewer more within past of (class_of right.call) how right.may_end;
  page = right.page;
}

-- Histories.

Stands-within : (site : Site) (fewer more : ℕ → Bool) → Within fewer more → (past : List Event) (e : Event)
    → Stands site fewer past e → Stands site more past e
Stands-within site fewer more within past (event.Synced server listing) right =
    λ behind. IsLaterPull-within site fewer more within past server listing (right behind)
Stands-within site fewer more within past (event.Answered of answer) right = IsRightAnswer-within site fewer more within past of answer right
Stands-within site fewer more within past (event.Ended of how) right = IsRightEnd-within site fewer more within past of how right
Stands-within site fewer more within past _ right = right

EachEvent-within : (site : Site) (fewer more : ℕ → Bool) → Within fewer more → (h : List Event) → EachEvent (Stands site fewer) h → EachEvent (Stands site more) h
EachEvent-within site fewer more within [] each = tt
EachEvent-within site fewer more within (e ∷ past) each =
    (Stands-within site fewer more within past e each.0, EachEvent-within site fewer more within past each.1)

pub StandsRight-within : (site : Site) (fewer more : ℕ → Bool) (h : List Event) → Within fewer more → StandsRight site fewer h → StandsRight site more h
StandsRight-within site fewer more h within right = record {
  opened = right.opened;
  opening = right.opening;
  each = EachEvent-within site fewer more within h right.each;
}
