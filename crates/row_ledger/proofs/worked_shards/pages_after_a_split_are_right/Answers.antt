use Rattle.std.proofs.{Common.{[], ◌∷◌, refl, lit<, arith}, lemmas.List.Elements.All-from_recursion, lemmas.List.Sorted.IsPermutation-refl}
use Rattle.std.specs.{List.IsDistinct, Prelude.{Contains, nat_eq}}
use Rattle.row_ledger.specs.declared.page.Page.TheVariants as page
use Rattle.row_ledger.specs.{Bounds.numbers, Kept.KeepsRight, Pages.{leaf, none, IsPageOf, IsShownTree, AreShownShards}, Past.{Ack, acked_into, acked_rows}, Worked.{site, row, once, one_leaf}, WorkedPulls.both, WorkedShards.{other, across_split, all_lines, shards_shown, audit_shown, tree_of_two, tree_shown}, declared.settings.Call.TheVariants.{Shards, Tree, Audit}, declared.settings.How.TheVariants.Fine}
use Rattle.row_ledger.proofs.{Growth.{KeepsRight-called, KeepsRight-shown, KeepsRight-ended, IsRight-kept}, Opened.{empty_box, berlin_box, munich_box}, PulledRight.all, SplitRight.across_right}
use Rattle.row_ledger.proofs.worked_shards.pages_after_a_split_are_right.Goals as goal

shards_are : AreShownShards site (across_split once) all_lines
shards_are = record {
  places = refl;
  parts = [] ∷ (row ∷ []) ∷ (other ∷ []) ∷ [];
  each = (
    record { count = refl; set = empty_box; came = All-from_recursion (λ (a : Ack). Contains [] a.row) (acked_into 1 (across_split once)) tt },
    (
      record { count = refl; set = berlin_box; came = All-from_recursion (λ (a : Ack). Contains (row ∷ []) a.row) (acked_into 2 (across_split once)) tt },
      (
        record { count = refl; set = munich_box; came = All-from_recursion (λ (a : Ack). Contains (other ∷ []) a.row) (acked_into 3 (across_split once)) tt },
        tt,
      ),
    ),
  );
  divided = record { moves = (0, 1) ∷ []; below = (lit< tt, lit< tt, tt); is = refl };
}

is_page : IsPageOf site.hierarchy (row ∷ []) [] tree_of_two
is_page = record {
  groups = leaf (one_leaf 1 once) (row ∷ []) none;
  listed = refl;
  root = refl;
  shape = (record { depth = refl; lowest = refl; leaf = refl; blocks = omega arith; items = refl; room = omega arith; agg = refl; set = berlin_box }, tt);
  beneath = IsPermutation-refl (row ∷ []);
  rows = refl;
  queued = refl;
}

distinct : IsDistinct nat_eq (numbers (row ∷ []))
unfolding IsDistinct
distinct = (tt, tt)

tree_is : IsShownTree site.hierarchy (audit_shown both) tree_of_two
tree_is = record {
  tree = row ∷ [];
  queue = [];
  is_page = is_page;
  once = distinct;
  allowed = All-from_recursion (Contains (acked_rows (audit_shown both))) (row ∷ []) ((1, omega arith, refl), tt);
  known = All-from_recursion (λ (a : Ack). Contains (row ∷ []) a.row) (acked_into 2 (audit_shown both)) tt;
  least = omega arith;
  most = omega arith;
}

shards_right : KeepsRight site all (shards_shown all_lines)
shards_right =
    let called = KeepsRight-called site all (across_split once) 3 Shards tt across_right in
    let shown = KeepsRight-shown site all _ 11 (page.Shards all_lines) called
    (record { call = Shards; called = refl; is_open = refl; first = refl; asked = tt; next = refl; alone = refl; shown = shards_are }) in
    KeepsRight-ended site all _ 11 Fine shown (record { call = Shards; called = refl; is_open = refl; may_end = refl; page = refl })

audit_right : KeepsRight site all (audit_shown both)
audit_right =
    let called = KeepsRight-called site all (shards_shown all_lines) 3 Audit tt shards_right in
    let shown = KeepsRight-shown site all _ 14 (page.Audit (record { agg = both; shards = 3 })) called
    (record { call = Audit; called = refl; is_open = refl; first = refl; asked = tt; next = refl; alone = refl; shown = record { total = refl; count = refl } }) in
    KeepsRight-ended site all _ 14 Fine shown (record { call = Audit; called = refl; is_open = refl; may_end = refl; page = refl })

pub returns : goal.returns
returns c =
    let called = KeepsRight-called site all (audit_shown both) 3 (Tree 2) tt audit_right in
    let shown = KeepsRight-shown site all _ 17 (page.Tree tree_of_two) called
    (record { call = Tree 2; called = refl; is_open = refl; first = refl; asked = refl; next = refl; alone = refl; shown = tree_is }) in
    IsRight-kept site all (tree_shown tree_of_two)
    (KeepsRight-ended site all _ 17 Fine shown (record { call = Tree 2; called = refl; is_open = refl; may_end = refl; page = refl }))
