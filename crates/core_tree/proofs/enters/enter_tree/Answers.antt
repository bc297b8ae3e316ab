use Rattle.std.proofs.Common.{◌∙◌, ◌≡◌, List, Some, option_map, refl, ap, sym, subst}
use Rattle.dc_node.specs.{Block.is_full, declared.block.Block.Block}
use Rattle.volap_cell.specs.shard_store.specs.declared.gate.Gate.{Gate}
use Rattle.volap_cell.specs.{Cells.{GateCell, cell_of, block_in}, TreeKinds.{HasRow, blocks_of}, Values.{ErrandValue, OfRow, actor_of, errand_of, task_of}, declared.cell.Cell.Cell, declared.errand.RowErrand.RowErrand}
use Rattle.core_tree.specs.Descent.{AreForNew, CanComeIn, blocks_if, two_if}
use Rattle.core_tree.proofs.{Calls.Behind.{tail-are, held-blocks, some-mapped}, Calls.GoesIn.{given-in, enter-makes, new-in, held-in}}
use Rattle.core_tree.proofs.enters.enter_tree.Goals as goal

pub block_in-root-requires : goal.block_in-root-requires
block_in-root-requires c =
    let tail = two_if c.args.first_at (option_map cell_of c.args.first.now) c.args.second_at (option_map cell_of c.args.second.now) in
    let fresh = two_if c.args.fresh_at (option_map cell_of c.args.fresh.now) c.args.top_at (option_map cell_of c.args.top.now) in
    let k = given-in c.tree_laws.ensures.gate c.tree_laws.ensures.block c.tree_laws.ensures.root c.tree_laws.ensures.root_behind_fits c.args.h.now c.args.map_at (cell_of c.args.map.now)
    c.args.gate_at (cell_of c.args.gate.now) c.args.root_at (cell_of c.args.root.now) tail fresh (actor_of c.args.actor.now) c.requires.here c.requires.due in
    k.made

pub come_in-block-requires : goal.come_in-block-requires
come_in-block-requires c =
    let first = option_map cell_of c.args.first.now in
    let second = option_map cell_of c.args.second.now in
    let tail = two_if c.args.first_at first c.args.second_at second in
    let fresh = two_if c.args.fresh_at (option_map cell_of c.args.fresh.now) c.args.top_at (option_map cell_of c.args.top.now) in
    let a = actor_of c.args.actor.now in
    let due = c.requires.due in
    let (e, is, row) = c.row_in-going.ensures in
    let r = c.row_in-going.result.now in
    let k = given-in c.tree_laws.ensures.gate c.tree_laws.ensures.block c.tree_laws.ensures.root c.tree_laws.ensures.root_behind_fits c.args.h.now c.args.map_at (cell_of c.args.map.now)
    c.args.gate_at (cell_of c.args.gate.now) c.args.root_at (cell_of c.args.root.now) tail fresh a c.requires.here due in
    let has : HasRow a (errand_of e) r = record { errand = ap (option_map errand_of) is; row = ap task_of row } in
    let es : due.e ≡ errand_of e = (let both : Some due.e ≡ Some (errand_of e) = sym due.has.errand ∙ has.errand in cc) in
    let row_same : due.r ≡ r = (let ts : OfRow due.r ≡ OfRow r = sym due.has.row ∙ ap (λ (z : ErrandValue). z.task) es ∙ has.row in cc) in
    let are : blocks_if first second ≡ blocks_of tail = held-blocks c.args.first_at first c.args.second_at second (tail-are due.gate.stamp (block_in (cell_of c.args.root.now)) tail due.behind).0 in
    let gate : c.gate_in-gate.result.now ≡ due.gate = (let both : GateCell c.gate_in-gate.result.now ≡ GateCell due.gate = sym (ap cell_of c.gate_in-gate.ensures.value) ∙ due.gate_is in cc) in
    let root : c.block_in-root.result.now ≡ block_in (cell_of c.args.root.now) = ap (λ (z : Cell). block_in (cell_of z)) (sym c.block_in-root.ensures.value) in
    subst (λ (bs : List Block). CanComeIn c.args.h.now r.row c.gate_in-gate.result.now c.block_in-root.result.now bs a.purse a.boxes) (sym are)
    (subst (λ (z : Gate). CanComeIn c.args.h.now r.row z c.block_in-root.result.now (blocks_of tail) a.purse a.boxes) (sym gate)
    (subst (λ (z : Block). CanComeIn c.args.h.now r.row due.gate z (blocks_of tail) a.purse a.boxes) (sym root)
    (subst (λ (z : RowErrand). CanComeIn c.args.h.now z.row due.gate (block_in (cell_of c.args.root.now)) (blocks_of tail) a.purse a.boxes) row_same k.can)))

pub returns-clause-made : goal.returns-clause-made
returns-clause-made c =
    let first = option_map cell_of c.args.first.now in
    let second = option_map cell_of c.args.second.now in
    let (e, is, row) = c.row_in-going.ensures in
    let r = c.row_in-going.result.now in
    let to = c.come_in-block.result in
    let go = c.go_on.ensures e r is row in
    let a = actor_of c.args.actor.now in
    enter-makes c.frame_law.ensures c.collect_laws.ensures.other c.insert_laws.ensures.comes_in c.tree_laws.ensures.root c.tree_laws.ensures.root_behind c.args.h.now c.args.map_at (cell_of c.args.map.now)
    c.args.gate_at (cell_of c.args.gate.now) c.args.root_at (cell_of c.args.root.now) c.args.first_at first c.args.second_at second
    c.args.fresh_at (option_map cell_of c.args.fresh.now) (option_map cell_of c.come_in-block.new.fresh) c.args.top_at (option_map cell_of c.args.top.now) (option_map cell_of c.come_in-block.new.top) a _
    (errand_of e) r c.gate_in-gate.result.now c.come_in-block.new.gate c.block_in-root.result.now c.come_in-block.new.root c.args.actor.now.purse c.come_in-block.new.purse to
    c.requires.due (ap cell_of c.gate_in-gate.ensures.value) (ap cell_of c.block_in-root.ensures.value) (record { errand = ap (option_map errand_of) is; row = ap task_of row }) refl c.come_in-block.ensures
    (λ k. record a { purse = c.come_in-block.new.purse.spares; boxes = c.come_in-block.new.boxes; errand = option_map errand_of (go k) })

pub returns-clause-held : goal.returns-clause-held
returns-clause-held c =
    let first = option_map cell_of c.args.first.now in
    let second = option_map cell_of c.args.second.now in
    let r = c.row_in-going.result.now in
    let came = c.come_in-block.ensures in
    let root : c.block_in-root.result.now ≡ block_in (cell_of c.args.root.now) = ap (λ (z : Cell). block_in (cell_of z)) (sym c.block_in-root.ensures.value) in
    let purse = c.args.actor.now.purse.spares in
    let held = two_if c.args.fresh_at (option_map cell_of c.args.fresh.now) c.args.top_at (option_map cell_of c.args.top.now) in
    let both = held-in c.args.fresh_at c.args.top_at purse c.come_in-block.new.purse.spares came.went.entered.fresh.items (is_full c.block_in-root.result.now.body)
    (option_map cell_of c.args.fresh.now) (option_map cell_of c.args.top.now) (option_map cell_of c.come_in-block.new.fresh) (option_map cell_of c.come_in-block.new.top)
    (new-in c.args.h.now r.row (blocks_if first second) c.gate_in-gate.result.now came.entered c.block_in-root.result.now c.come_in-block.new.root c.args.actor.now.purse c.come_in-block.new.purse came.went.entered came.went.step)
    (subst (λ (z : Block). AreForNew (is_full z.body) 2 purse held) (sym root) c.requires.due.for_new) came.went.filled in
    (sym (some-mapped cell_of c.come_in-block.new.fresh) ∙ both.0 ∙ some-mapped cell_of c.args.fresh.now, sym (some-mapped cell_of c.come_in-block.new.top) ∙ both.1 ∙ some-mapped cell_of c.args.top.now)
