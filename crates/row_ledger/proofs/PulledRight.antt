-- The worked pulls are right.
use Rattle.std.proofs.{Common.{ℕ, Bool, true, IsTrue, List, [], ◌∷◌, refl, arith}, lemmas.List.Elements.All-from_recursion}
use Rattle.std.specs.Prelude.{Contains}
use Rattle.dim_hierarchy.specs.declared.row.Row.{Row}
use Rattle.dim_hierarchy.specs.Tree as way
use Rattle.describing_set.specs.declared.listing.Spot.{Spot}
use Rattle.row_ledger.specs.{Bounds.{may, own, published}, Kept.{CanAnswer, KeepsRight}, Listings.{IsBox, IsListing, is_covered}, Past.Ack, Worked.{site, berlin, row, box, opened}, WorkedPulls.{inserted, with_berlin, pulled, told}, declared.event.Event.Event, declared.event.Event.TheVariants.{Synced, Called, Ended}, declared.settings.Call.TheVariants.Sync, declared.settings.How.TheVariants.Fine}
use Rattle.row_ledger.proofs.{Answering.{CanAnswer-older, CanAnswer-insert, KeepsRight-insert}, Growth.{KeepsRight-called, KeepsRight-synced, KeepsRight-ended}, Opened.{empty_box, berlin_box, opened_right, opened_answer}}

abbrev pub all : ℕ → Bool
all number = true

pub inserted_right : KeepsRight site all inserted
inserted_right = KeepsRight-insert site all opened 0 0 row (0 ∷ []) (opened_right all) refl refl

pub inserted_answer : CanAnswer all inserted (row ∷ [])
inserted_answer = CanAnswer-insert site all opened [] 0 0 row (0 ∷ []) (opened_right all) (opened_answer all) refl refl

is_empty : (rows : List Row) → IsBox site.hierarchy rows (box [])
is_empty rows = record { rows = []; usable = All-from_recursion (Contains rows) [] tt; set_of = empty_box }

in_berlin : (rows : List Row) → Contains rows row → IsBox site.hierarchy rows (box (berlin ∷ []))
in_berlin rows has = record { rows = row ∷ []; usable = All-from_recursion (Contains rows) (row ∷ []) (has, tt); set_of = berlin_box }

-- server 0 begins to pull, and then server 1

abbrev first_sync : List Event
first_sync = Called 2 (Sync 0) ∷ inserted

abbrev second_sync : List Event
second_sync = Called 2 (Sync 1) ∷ pulled with_berlin

lists_first : IsListing site all first_sync 0 with_berlin
unfolding way.up way.climb
lists_first = record {
  places = refl;
  boxes = All-from_recursion (λ (spot : Spot). IsBox site.hierarchy (may all first_sync) spot.set) with_berlin
      (in_berlin (may all first_sync) (0, omega arith, refl), (is_empty (may all first_sync), tt));
  own = All-from_recursion (λ (a : Ack). IsTrue (is_covered site.hierarchy first_sync with_berlin a)) (own first_sync 0) (refl, tt);
  published = All-from_recursion (λ (a : Ack). IsTrue (is_covered site.hierarchy first_sync with_berlin a)) (published first_sync) tt;
}

pub pulled_right : KeepsRight site all (pulled with_berlin)
pulled_right =
    let called = KeepsRight-called site all inserted 2 (Sync 0) tt inserted_right in
    let synced = KeepsRight-synced site all first_sync 0 with_berlin called
    (record { of = 4; call = Sync 0; called = refl; is_open = refl; pulls = refl; lists = lists_first }) in
    KeepsRight-ended site all (Synced 0 with_berlin ∷ first_sync) 4 Fine synced
    (record { call = Sync 0; called = refl; is_open = refl; may_end = refl; page = refl })

lists_second : IsListing site all second_sync 1 with_berlin
unfolding way.up way.climb
lists_second = record {
  places = refl;
  boxes = All-from_recursion (λ (spot : Spot). IsBox site.hierarchy (may all second_sync) spot.set) with_berlin
      (in_berlin (may all second_sync) (0, omega arith, refl), (is_empty (may all second_sync), tt));
  own = All-from_recursion (λ (a : Ack). IsTrue (is_covered site.hierarchy second_sync with_berlin a)) (own second_sync 1) tt;
  published = All-from_recursion (λ (a : Ack). IsTrue (is_covered site.hierarchy second_sync with_berlin a)) (published second_sync) (refl, tt);
}

pub told_right : KeepsRight site all told
told_right =
    let called = KeepsRight-called site all (pulled with_berlin) 2 (Sync 1) tt pulled_right in
    let synced = KeepsRight-synced site all second_sync 1 with_berlin called
    (record { of = 7; call = Sync 1; called = refl; is_open = refl; pulls = refl; lists = lists_second }) in
    KeepsRight-ended site all (Synced 1 with_berlin ∷ second_sync) 7 Fine synced
    (record { call = Sync 1; called = refl; is_open = refl; may_end = refl; page = refl })

pub told_answer : CanAnswer all told (row ∷ [])
told_answer =
    CanAnswer-older all (Ended 7 Fine) _ _ (CanAnswer-older all (Synced 1 with_berlin) _ _ (CanAnswer-older all (Called 2 (Sync 1)) _ _
    (CanAnswer-older all (Ended 4 Fine) _ _ (CanAnswer-older all (Synced 0 with_berlin) _ _ (CanAnswer-older all (Called 2 (Sync 0)) _ _
    inserted_answer refl) refl) refl) refl) refl) refl
