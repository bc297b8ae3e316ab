use Rattle.std.proofs.{Common.{List, Some, All, ◌≡◌, ◌∙◌, ◌++◌, length, ap, arith, not, subst, sym}, lemmas.List.Elements.All-filter}
use Rattle.std.specs.Prelude.{reverse}
use Rattle.describing_set.specs.Plane.{goes_left}
use Rattle.dim_hierarchy.specs.{Rows.IsRowOf, declared.row.Row.Row}
use Rattle.core_tree.specs.link_descent.specs.declared.entered.Fresh.{Fresh}
use Rattle.shard_plan.specs.Building.{cells_for}
use Rattle.shard_plan.proofs.Levels.{cells_for-bound}
use Rattle.core_tree.specs.volap_cell.specs.{AdminKinds.{left_of, right_of}, Values.collecting_of, declared.job.Unbuilt.Unbuilt}
use Rattle.core_admin.specs.BuildDue.{blocks_of}
use Rattle.core_admin.proofs.Building.MadeTrees.{sides-count, two-made}
use Rattle.core_admin.proofs.trees.two_trees.Goals as goal

pub cells_for-requires : goal.cells_for-requires
cells_for-requires c =
    let left : c.in_ok-rows_left.rows_left.items ≡ left_of c.args.h.now c.args.plane.now c.args.collecting.now.rows = c.in_ok-rows_left.ensures ∙ ap (left_of c.args.h.now c.args.plane.now) c.as_slice-2.ensures in
    let long = ap (λ (xs : List Row). length xs) left in
    let all = sides-count c.args.h.now c.args.plane.now c.args.collecting.now.rows in
    let few = c.requires.due.few in
    omega arith

pub cells_for-requires-2 : goal.cells_for-requires-2
cells_for-requires-2 c =
    let right : c.in_ok-rows_right.rows_right.items ≡ right_of c.args.h.now c.args.plane.now c.args.collecting.now.rows = c.in_ok-rows_right.ensures ∙ ap (right_of c.args.h.now c.args.plane.now) c.as_slice-3.ensures in
    let long = ap (λ (xs : List Row). length xs) right in
    let all = sides-count c.args.h.now c.args.plane.now c.args.collecting.now.rows in
    let few = c.requires.due.few in
    omega arith

pub overflow_add-cells : goal.overflow_add-cells
overflow_add-cells c =
    let left : c.in_ok-rows_left.rows_left.items ≡ left_of c.args.h.now c.args.plane.now c.args.collecting.now.rows = c.in_ok-rows_left.ensures ∙ ap (left_of c.args.h.now c.args.plane.now) c.as_slice-2.ensures in
    let right : c.in_ok-rows_right.rows_right.items ≡ right_of c.args.h.now c.args.plane.now c.args.collecting.now.rows = c.in_ok-rows_right.ensures ∙ ap (right_of c.args.h.now c.args.plane.now) c.as_slice-3.ensures in
    let long_left = ap (λ (xs : List Row). length xs) left in
    let long_right = ap (λ (xs : List Row). length xs) right in
    let all = sides-count c.args.h.now c.args.plane.now c.args.collecting.now.rows in
    let few = c.requires.due.few in
    let one = cells_for-bound c.len.result (omega arith) in
    let two = cells_for-bound c.len-2.result (omega arith) in
    omega arith

pub both-requires-clause-left : goal.both-requires-clause-left
both-requires-clause-left c =
    let left : c.in_ok-rows_left.rows_left.items ≡ left_of c.args.h.now c.args.plane.now c.args.collecting.now.rows = c.in_ok-rows_left.ensures ∙ ap (left_of c.args.h.now c.args.plane.now) c.as_slice-2.ensures in
    subst (All (IsRowOf c.args.h.now)) (sym left) (All-filter (λ (r : Row). goes_left c.args.h.now c.args.plane.now r.at) (IsRowOf c.args.h.now) c.args.collecting.now.rows c.requires.due.rows)

pub both-requires-clause-right : goal.both-requires-clause-right
both-requires-clause-right c =
    let right : c.in_ok-rows_right.rows_right.items ≡ right_of c.args.h.now c.args.plane.now c.args.collecting.now.rows = c.in_ok-rows_right.ensures ∙ ap (right_of c.args.h.now c.args.plane.now) c.as_slice-3.ensures in
    subst (All (IsRowOf c.args.h.now)) (sym right) (All-filter (λ (r : Row). not (goes_left c.args.h.now c.args.plane.now r.at)) (IsRowOf c.args.h.now) c.args.collecting.now.rows c.requires.due.rows)

pub both-requires-clause-few : goal.both-requires-clause-few
both-requires-clause-few c =
    let left : c.in_ok-rows_left.rows_left.items ≡ left_of c.args.h.now c.args.plane.now c.args.collecting.now.rows = c.in_ok-rows_left.ensures ∙ ap (left_of c.args.h.now c.args.plane.now) c.as_slice-2.ensures in
    let right : c.in_ok-rows_right.rows_right.items ≡ right_of c.args.h.now c.args.plane.now c.args.collecting.now.rows = c.in_ok-rows_right.ensures ∙ ap (right_of c.args.h.now c.args.plane.now) c.as_slice-3.ensures in
    let long_left = ap (λ (xs : List Row). length xs) left in
    let long_right = ap (λ (xs : List Row). length xs) right in
    let all = sides-count c.args.h.now c.args.plane.now c.args.collecting.now.rows in
    let few = c.requires.due.few in
    omega arith

pub both-requires-clause-cells : goal.both-requires-clause-cells
both-requires-clause-cells c =
    let left : c.in_ok-rows_left.rows_left.items ≡ left_of c.args.h.now c.args.plane.now c.args.collecting.now.rows = c.in_ok-rows_left.ensures ∙ ap (left_of c.args.h.now c.args.plane.now) c.as_slice-2.ensures in
    let right : c.in_ok-rows_right.rows_right.items ≡ right_of c.args.h.now c.args.plane.now c.args.collecting.now.rows = c.in_ok-rows_right.ensures ∙ ap (right_of c.args.h.now c.args.plane.now) c.as_slice-3.ensures in
    let one = ap (λ (xs : List Row). cells_for (length xs)) left in
    let two = ap (λ (xs : List Row). cells_for (length xs)) right in
    let enough = c.requires.due.two c.args.plane.now c.requires.cut in
    omega (arith, one, two, enough)

pub returns-clause-made : goal.returns-clause-made
returns-clause-made c =
    two-made c.args.h.now (collecting_of c.args.collecting.now) c.args.purse.now c.both.new.purse c.in_ok-first.first c.in_ok-first.second _ c.in_ok-rows_left.rows_left.items c.in_ok-rows_right.rows_right.items (blocks_of c.place-2.new.room.unbuilt.items) c.args.plane.now c.requires.cut
    (c.in_ok-rows_left.ensures ∙ ap (left_of c.args.h.now c.args.plane.now) c.as_slice-2.ensures)
    (c.in_ok-rows_right.ensures ∙ ap (right_of c.args.h.now c.args.plane.now) c.as_slice-3.ensures)
    c.in_ok-first.ensures.ok c.way_to-left.ensures (ap Some c.way_to-right.ensures)
    (c.place-2.ensures.unbuilt ∙ ap (λ (fs : List Fresh). fs ++ reverse c.in_ok-first.first.blocks.items)
    (c.place.ensures.unbuilt ∙ ap (λ (us : List Unbuilt). blocks_of us ++ reverse c.in_ok-first.second.blocks.items) c.in_ok-room.ensures.1))
    (record {
      frozen_is = c.copy_of.ensures;
      read_is = c.from_vec.ensures ∙ c.in_ok-read.ensures ∙ c.as_slice.ensures;
      unbuilt = c.all_placed-unbuilt.ensures.unbuilt;
      spent = c.all_placed-unbuilt.ensures.spent;
    })
