use Rattle.std.proofs.{Common.{ℕ, Bool, false, List, [], ◌∷◌, refl, arith}, lemmas.List.Elements.All-from_recursion, lemmas.List.Sorted.IsPermutation-refl}
use Rattle.std.specs.{List.IsDistinct, Prelude.{nat_eq, Contains}}
use Rattle.row_ledger.specs.{Bounds.numbers, Pages.{leaf, none, IsPageOf, IsShownTree}, Past.{Ack, acked_into}, Worked.{site, row, once, one_leaf, page_with, called, shown, opened}, declared.event.Event.Event, declared.event.Event.TheVariants.{Begun, Acked}, declared.settings.Call.TheVariants.Tree, declared.settings.How.TheVariants.Fine}
use Rattle.row_ledger.specs.declared.page.Page.TheVariants as page
use Rattle.row_ledger.proofs.{Answering.KeepsRight-insert, Growth.{KeepsRight-called, KeepsRight-shown, KeepsRight-ended, IsRight-kept}, Opened.{opened_right, berlin_box}}
use Rattle.row_ledger.proofs.worked.page_with_the_row_is_right.Goals as goal

abbrev placeless : ℕ → Bool
placeless number = false

is_page : IsPageOf site.hierarchy (row ∷ []) [] (page_with 0 1 once)
is_page = record {
  groups = leaf (one_leaf 1 once) (row ∷ []) none;
  listed = refl;
  root = refl;
  shape = (record { depth = refl; lowest = refl; leaf = refl; blocks = omega arith; items = refl; room = omega arith; agg = refl; set = berlin_box }, tt);
  beneath = IsPermutation-refl (row ∷ []);
  rows = refl;
  queued = refl;
}

distinct : IsDistinct nat_eq (numbers (row ∷ []))
unfolding IsDistinct
distinct = (tt, tt)

-- what was acknowledged before the tree was asked for
abbrev past : List Event
past = Acked 2 (0 ∷ []) ∷ Begun 0 0 row ∷ opened

is_shown : IsShownTree site.hierarchy past (page_with 0 1 once)
is_shown = record {
  tree = row ∷ [];
  queue = [];
  is_page = is_page;
  once = distinct;
  allowed = All-from_recursion (Contains (row ∷ [])) (row ∷ []) ((0, omega arith, refl), tt);
  known = All-from_recursion (λ (a : Ack). Contains (row ∷ []) a.row) (acked_into 0 past) ((0, omega arith, refl), tt);
  least = omega arith;
  most = omega arith;
}

pub returns : goal.returns
returns c =
    let acked = KeepsRight-insert site placeless opened 0 0 row (0 ∷ []) (opened_right placeless) refl refl in
    let asked = KeepsRight-called site placeless past 3 (Tree 0) tt acked in
    let told = KeepsRight-shown site placeless called 4 (page.Tree (page_with 0 1 once)) asked
    (record { call = Tree 0; called = refl; is_open = refl; first = refl; asked = refl; next = refl; alone = refl; shown = is_shown }) in
    let ended = KeepsRight-ended site placeless _ 4 Fine told (record { call = Tree 0; called = refl; is_open = refl; may_end = refl; page = refl }) in
    IsRight-kept site placeless (shown (page_with 0 1 once)) ended
