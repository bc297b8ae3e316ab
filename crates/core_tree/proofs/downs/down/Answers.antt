use Rattle.std.proofs.Common.{◌∙◌, ◌≡◌, List, map, option_map, refl, ap, sym, subst}
use Rattle.dc_node.specs.{Block.{entries_in, is_full}, declared.block.Block.Block, declared.entry.Entry.Entry}
use Rattle.volap_cell.specs.link_descent.specs.Pick.{IsPick}
use Rattle.volap_cell.specs.{Cells.{cell_of, block_in}, TreeKinds.{HasRow, blocks_of}, Values.{actor_of, errand_of, task_of}, World.held_if, declared.cell.Cell.Cell, declared.errand.Way.TheVariants.Carried}
use Rattle.core_tree.specs.Descent.{AreForNew, CanStep, blocks_if, two_if}
use Rattle.core_tree.proofs.{Calls.Behind.{tail-are, held-blocks, held-down, new-down, some-mapped}, Calls.GoesDown.{given-down, down-makes, picked-for}, Rows.Carriers.{carried-way, must-at}}
use Rattle.core_tree.proofs.downs.down.Goals as goal

pub block_in-child-requires : goal.block_in-child-requires
block_in-child-requires c =
    let tail = two_if c.args.first_at (option_map cell_of c.args.first.now) c.args.second_at (option_map cell_of c.args.second.now) in
    let fresh = held_if c.args.fresh_at (option_map cell_of c.args.fresh.now) in
    let a = actor_of c.args.actor.now in
    let (e, r, gate, has, carried) = carried-way a c.args.parent_at c.requires.due.carried in
    let k = given-down c.tree_laws.ensures.gate c.tree_laws.ensures.block c.tree_laws.ensures.child c.tree_laws.ensures.behind c.tree_laws.ensures.behind_fits c.args.h.now
    c.args.parent_at (cell_of c.args.parent.now) c.args.place c.args.child_at (cell_of c.args.child.now) tail fresh a c.requires.here c.requires.due e r gate has carried in
    k.made

pub step-block-requires-clause-can : goal.step-block-requires-clause-can
step-block-requires-clause-can c =
    let first = option_map cell_of c.args.first.now in
    let second = option_map cell_of c.args.second.now in
    let tail = two_if c.args.first_at first c.args.second_at second in
    let fresh = held_if c.args.fresh_at (option_map cell_of c.args.fresh.now) in
    let a = actor_of c.args.actor.now in
    let due = c.requires.due in
    let (e, is, row) = c.row_in-going.ensures in
    let r = c.row_in-going.result.now in
    let has : HasRow a (errand_of e) r = record { errand = ap (option_map errand_of) is; row = ap task_of row } in
    let carried : r.way ≡ Carried c.in-Carried.gate c.args.parent_at = c.in-Carried.is ∙ ap (Carried c.in-Carried.gate) (must-at a (errand_of e) r c.in-Carried.gate c.in-Carried.block c.args.parent_at has c.in-Carried.is due.carried) in
    let k = given-down c.tree_laws.ensures.gate c.tree_laws.ensures.block c.tree_laws.ensures.child c.tree_laws.ensures.behind c.tree_laws.ensures.behind_fits c.args.h.now
    c.args.parent_at (cell_of c.args.parent.now) c.args.place c.args.child_at (cell_of c.args.child.now) tail fresh a c.requires.here due (errand_of e) r c.in-Carried.gate has carried in
    let are : blocks_if first second ≡ blocks_of tail = held-blocks c.args.first_at first c.args.second_at second (tail-are due.entry.stamp (block_in (cell_of c.args.child.now)) tail due.behind).0 in
    let parent : c.block_in-parent.result.now ≡ block_in (cell_of c.args.parent.now) = ap (λ (z : Cell). block_in (cell_of z)) (sym c.block_in-parent.ensures.value) in
    let child : c.block_in-child.result.now ≡ block_in (cell_of c.args.child.now) = ap (λ (z : Cell). block_in (cell_of z)) (sym c.block_in-child.ensures.value) in
    subst (λ (bs : List Block). CanStep c.args.h.now r.row c.block_in-parent.result.now c.block_in-child.result.now bs a.purse a.boxes) (sym are)
    (subst (λ (z : Block). CanStep c.args.h.now r.row z c.block_in-child.result.now (blocks_of tail) a.purse a.boxes) (sym parent)
    (subst (λ (z : Block). CanStep c.args.h.now r.row (block_in (cell_of c.args.parent.now)) z (blocks_of tail) a.purse a.boxes) (sym child) k.can))

pub step-block-requires-clause-picked : goal.step-block-requires-clause-picked
step-block-requires-clause-picked c =
    let tail = two_if c.args.first_at (option_map cell_of c.args.first.now) c.args.second_at (option_map cell_of c.args.second.now) in
    let fresh = held_if c.args.fresh_at (option_map cell_of c.args.fresh.now) in
    let (e, is, row) = c.row_in-going.ensures in
    let r = c.row_in-going.result.now in
    let parent : c.block_in-parent.result.now ≡ block_in (cell_of c.args.parent.now) = ap (λ (z : Cell). block_in (cell_of z)) (sym c.block_in-parent.ensures.value) in
    subst (λ (z : Block). IsPick c.args.h.now r.row.at (map (λ (x : Entry). x.set) (entries_in z.body)) c.args.place) (sym parent)
    (picked-for c.args.h.now c.args.parent_at (cell_of c.args.parent.now) c.args.place c.args.child_at (cell_of c.args.child.now) tail fresh (actor_of c.args.actor.now) (errand_of e) r c.requires.due
    (record { errand = ap (option_map errand_of) is; row = ap task_of row }))

pub returns-clause-made : goal.returns-clause-made
returns-clause-made c =
    let first = option_map cell_of c.args.first.now in
    let second = option_map cell_of c.args.second.now in
    let (e, is, row) = c.row_in-going.ensures in
    let r = c.row_in-going.result.now in
    let to = c.step-block.result in
    let go = c.go_on.ensures e r is row in
    let place = c.args.place in
    let a = actor_of c.args.actor.now in
    down-makes c.frame_law.ensures c.collect_laws.ensures.other c.insert_laws.ensures.goes_down c.tree_laws.ensures.child c.tree_laws.ensures.behind c.args.h.now
    c.args.parent_at (cell_of c.args.parent.now) c.args.child_at (cell_of c.args.child.now) c.args.first_at first c.args.second_at second
    c.args.fresh_at (option_map cell_of c.args.fresh.now) (option_map cell_of c.step-block.new.fresh) a _
    (errand_of e) r c.in-Carried.gate c.in-Carried.block c.block_in-parent.result.now c.step-block.new.parent c.block_in-child.result.now c.step-block.new.child
    c.args.actor.now.purse c.step-block.new.purse place to c.requires.due (ap cell_of c.block_in-parent.ensures.value) (ap cell_of c.block_in-child.ensures.value)
    (record { errand = ap (option_map errand_of) is; row = ap task_of row }) c.in-Carried.is refl c.step-block.ensures
    (λ k. record a { purse = c.step-block.new.purse.spares; boxes = c.step-block.new.boxes; errand = option_map errand_of (go k) })

pub returns-clause-held : goal.returns-clause-held
returns-clause-held c =
    let tail = blocks_if (option_map cell_of c.args.first.now) (option_map cell_of c.args.second.now) in
    let fresh = option_map cell_of c.args.fresh.now in
    let place = c.args.place in
    let went = c.step-block.ensures in
    let child : c.block_in-child.result.now ≡ block_in (cell_of c.args.child.now) = ap (λ (z : Cell). block_in (cell_of z)) (sym c.block_in-child.ensures.value) in
    let purse = c.args.actor.now.purse in
    let there = held-down c.args.fresh_at purse.spares c.step-block.new.purse.spares went.entered.fresh.items (is_full c.block_in-child.result.now.body) fresh (option_map cell_of c.step-block.new.fresh)
    (new-down c.args.h.now c.row_in-going.result.now.row place tail c.block_in-parent.result.now c.step-block.new.parent c.block_in-child.result.now c.step-block.new.child purse c.step-block.new.purse went.entered went.step)
    (subst (λ (z : Block). AreForNew (is_full z.body) 1 purse.spares (held_if c.args.fresh_at fresh)) (sym child) c.requires.due.for_new) went.filled in
    sym (some-mapped cell_of c.step-block.new.fresh) ∙ there ∙ some-mapped cell_of c.args.fresh.now
