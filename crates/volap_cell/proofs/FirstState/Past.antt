-- What stands behind an opening: the first shards, and no command.
use Rattle.std.proofs.{Common.{◌≡◌, ◌∙◌, ℕ, ◌+◌, ◌<◌, ◌≤◌, inl, inr, true, List, [], ◌∷◌, length, refl, sym, ap, subst, arith}, lemmas.Bool.{cases_Bool, eq-eqb, eqb-true, eqb-false, false≢true, or_cases, or_right, and_parts}}
use Rattle.std.specs.{List.{list_any, range_with_len}, Prelude.{zero, suc, map, Option, None, option_and_then, ◌==◌, ◌&&◌}}
use Rattle.describing_set.specs.declared.listing.Spot.{Spot}
use Rattle.dim_hierarchy.specs.Dimension.{Dimension}
use Rattle.row_ledger.specs.{Bounds.{known, listing_of, own, passed, published}, Kept.IsOpeningHistory, Listings.IsFirstListing, Past.{acked, event_at, insert_at, insert_in, query_at, query_in, session_in}, Right.IsFirstPull, Shards.{Place, place, is_of, comes_from, first_places, frontier, ids_made}, Site.Site, Workers.is_on, declared.event.Event.Event, declared.event.Event.TheVariants.Synced}
use Rattle.volap_cell.specs.Lineage.{was_on}

-- The events of an opening, one by one.

-- a first pull, with its listing
record IsPull (site : Site) (past : List Event) (e : Event) : Type 0 where
  pub listing : List Spot
  pub is : e ≡ Synced (length past) listing
  pub first : IsFirstListing site listing

first-pull : (site : Site) (past : List Event) (e : Event) → IsFirstPull site past e → IsPull site past e
first-pull site past (Synced server listing) is = record { listing = listing; is = ap (λ s. Synced s listing) is.0; first = is.1 }
first-pull site past _ is = absurd is

-- what holds of the empty history and stays with each first pull holds of an opening
along : (site : Site) (P : List Event → Type 0) → P [] → ((past : List Event) (listing : List Spot) → IsFirstListing site listing → P past → P (Synced (length past) listing ∷ past))
    → (h : List Event) → IsOpeningHistory site h → P h
along site P start step [] opens = start
along site P start step (e ∷ past) opens =
    let few : length (e ∷ past) ≤ site.servers = opens.few in
    let pull : IsPull site past e = first-pull site past e opens.pulls.0 in
    subst (λ x. P (x ∷ past)) (sym pull.is)
    (step past pull.listing pull.first (along site P start step past (record { few = omega arith; pulls = opens.pulls.1 })))

-- What follows.

pub opening-acked : (site : Site) (h : List Event) → IsOpeningHistory site h → acked h ≡ []
opening-acked site = along site (λ h. acked h ≡ []) refl (λ past listing first none. none)

pub opening-frontier : (site : Site) (workers : ℕ) (h : List Event) → IsOpeningHistory site h → frontier workers h ≡ first_places workers
opening-frontier site workers = along site (λ h. frontier workers h ≡ first_places workers) refl (λ past listing first is. is)

-- no shard has stood elsewhere
pub opening-was : (site : Site) (workers x w : ℕ) (h : List Event) → IsOpeningHistory site h → was_on workers h x w ≡ true → is_on workers h x w ≡ true
opening-was site workers x w = along site (λ h. was_on workers h x w ≡ true → is_on workers h x w ≡ true) (λ was. was)
    (λ past listing first older was. elim (or_cases (is_on workers past x w) (was_on workers past x w) was) [ inl now ↦ now | inr before ↦ older before ])

pub opening-ids : (site : Site) (workers : ℕ) (h : List Event) → IsOpeningHistory site h → ids_made workers h ≡ workers
opening-ids site workers = along site (λ h. ids_made workers h ≡ workers) (omega arith) (λ past listing first is. is)

-- a shard comes from itself alone
pub opening-comes : (site : Site) (h : List Event) → IsOpeningHistory site h → (x y : ℕ) → comes_from h x y ≡ true → y ≡ x
opening-comes site = along site (λ h. (x y : ℕ) → comes_from h x y ≡ true → y ≡ x) (λ x y is. eqb-true y x is)
    (λ past listing first older x y is. elim (or_cases (y == x) (comes_from past x y) is) [ inl same ↦ eqb-true y x same | inr more ↦ older x y more ])

pub opening-comes_self : (site : Site) (h : List Event) → IsOpeningHistory site h → (x : ℕ) → comes_from h x x ≡ true
opening-comes_self site = along site (λ h. (x : ℕ) → comes_from h x x ≡ true) (λ x. eq-eqb x x refl) (λ past listing first older x. rw (eq-eqb x x refl) refl)

-- no event is of a kind that a pull isn't
opening-no : {A : Type 0} (f : Event → Option A) → ((server : ℕ) (listing : List Spot) → f (Synced server listing) ≡ None)
    → (site : Site) (h : List Event) → IsOpeningHistory site h → (p : ℕ) → option_and_then f (event_at h p) ≡ None
opening-no {A} f none site = along site (λ h. (p : ℕ) → option_and_then f (event_at h p) ≡ None) (λ p. refl)
    (λ past listing first older p. elim (cases_Bool (p == length past)) [
      | inl here ↦ rw here (none (length past) listing)
      | inr other ↦ rw other (older p)
    ])

pub opening-session : (site : Site) (h : List Event) → IsOpeningHistory site h → (p : ℕ) → option_and_then session_in (event_at h p) ≡ None
opening-session site h opens p = opening-no session_in (λ server listing. refl) site h opens p

-- no insert and no query

pub opening-insert : (site : Site) (h : List Event) → IsOpeningHistory site h → (p : ℕ) → insert_at h p ≡ None
opening-insert site h opens p = opening-no insert_in (λ server listing. refl) site h opens p

pub opening-query : (site : Site) (h : List Event) → IsOpeningHistory site h → (p : ℕ) → query_at h p ≡ None
opening-query site h opens p = opening-no query_in (λ server listing. refl) site h opens p

-- What servers know.

own-none : (h : List Event) (server : ℕ) → acked h ≡ [] → own h server ≡ []
own-none h server none = rw none refl

pub opening-published : (site : Site) (h : List Event) → IsOpeningHistory site h → published h ≡ []
opening-published site h opens = (along site (λ h. (acked h ≡ []) × (published h ≡ [])) (refl, refl)
    (λ past listing first older. (older.0, rw (own-none past (length past) older.0, older.1) refl)) h opens).1

passed-none : (site : Site) (h : List Event) → IsOpeningHistory site h → (server : ℕ) → passed h server ≡ []
passed-none site h opens server = (along site (λ h. (acked h ≡ []) × (published h ≡ []) × (passed h server ≡ [])) (refl, refl, refl)
    (λ past listing first older. (
      older.0,
      rw (own-none past (length past) older.0, older.1) refl,
      elim (cases_Bool (length past == server)) [ inl here ↦ rw (here, older.1, older.2) refl | inr other ↦ rw (other, older.2) refl ],
    )) h opens).2

pub opening-known : (site : Site) (h : List Event) → IsOpeningHistory site h → (hierarchy : List Dimension) (server : ℕ) → known hierarchy h server ≡ []
opening-known site h opens hierarchy server =
    let none = opening-acked site h opens in
    rw (own-none h server none, passed-none site h opens server, none) refl

-- each server that has pulled lists the first shards
pub opening-listing : (site : Site) (h : List Event) → IsOpeningHistory site h → (server : ℕ) → server < length h → IsFirstListing site (listing_of h server)
opening-listing site = along site (λ h. (server : ℕ) → server < length h → IsFirstListing site (listing_of h server)) (λ server within. absurd (omega (arith, within)))
    (λ past listing first older server within. elim (cases_Bool (length past == server)) [
      | inl here ↦ rw here first
      | inr other ↦ rw other (older server (let ne = eqb-false _ _ other in omega (arith, within)))
    ])

-- The first shards.

-- the places of workers from one on
abbrev places_from : ℕ → ℕ → List Place
places_from from n = map (λ w. place w w) (range_with_len from n)

-- a place among them is that of a worker, on itself
pub first-is : (from n x w : ℕ) → list_any (λ (p : Place). is_of x p && (p.worker == w)) (places_from from n) ≡ true → (x ≡ w) × (from ≤ x) × (x < from + n)
first-is from zero x w is = absurd (false≢true is)
first-is from (suc n) x w is = elim (or_cases ((from == x) && (from == w)) _ is) [
  | inl here ↦
      let both = and_parts (from == x) (from == w) here in
      let a = eqb-true from x both.0 in let b = eqb-true from w both.1 in
      (sym a ∙ b, omega arith, omega arith)
  | inr more ↦ (let rest = first-is (from + 1) n x w more in (rest.0, let l = rest.1 in omega arith, let l = rest.2 in omega arith))
]

pub first-there : (from n x : ℕ) → from ≤ x → x < from + n → list_any (is_of x) (places_from from n) ≡ true
first-there from zero x low high = absurd (omega arith)
first-there from (suc n) x low high = elim (cases_Bool (from == x)) [
  | inl here ↦ rw here refl
  | inr other ↦ or_right (from == x) _ (first-there (from + 1) n x (let ne = eqb-false _ _ other in omega arith) (omega arith))
]

pub first-on : (from n x : ℕ) → from ≤ x → x < from + n → list_any (λ (p : Place). is_of x p && (p.worker == x)) (places_from from n) ≡ true
first-on from zero x low high = absurd (omega arith)
first-on from (suc n) x low high = elim (cases_Bool (from == x)) [
  | inl here ↦ rw here refl
  | inr other ↦ or_right _ _ (first-on (from + 1) n x (let ne = eqb-false _ _ other in omega arith) (omega arith))
]
