use Rattle.std.proofs.Common.{◌∙◌, option_map, ap, sym}
use Rattle.dc_node.specs.Block.{is_full}
use Rattle.volap_cell.specs.{Cells.{cell_of, block_in}, Values.{actor_of, errand_of, task_of}, declared.cell.Cell.Cell}
use Rattle.core_tree.proofs.EachStep.PutsInLeaf.{can-put, put-makes}
use Rattle.core_tree.proofs.puts.put_in_leaf.Goals as goal

pub block_in-leaf-requires : goal.block_in-leaf-requires
block_in-leaf-requires c =
    (can-put c.args.h.now c.args.at (cell_of c.args.cell.now) (actor_of c.args.actor.now) c.requires.here c.requires.due).made

pub put_leaf-requires-clause-room : goal.put_leaf-requires-clause-room
put_leaf-requires-clause-room c =
    let k = can-put c.args.h.now c.args.at (cell_of c.args.cell.now) (actor_of c.args.actor.now) c.requires.here c.requires.due in
    ap (λ (z : Cell). is_full (block_in (cell_of z)).body) (sym c.block_in-leaf.ensures.value) ∙ k.room

pub put_leaf-requires-clause-some : goal.put_leaf-requires-clause-some
put_leaf-requires-clause-some c =
    (can-put c.args.h.now c.args.at (cell_of c.args.cell.now) (actor_of c.args.actor.now) c.requires.here c.requires.due).boxes

pub returns : goal.returns
returns c =
    let (e, is, row) = c.row_in-going.ensures in
    let r = c.row_in-going.result.now in
    let go = c.go_on.ensures e r is row in
    record {
      made = put-makes c.frame_law.ensures c.collect_laws.ensures.other c.insert_laws.ensures.put c.args.h.now c.args.at (cell_of c.args.cell.now) c.block_in-leaf.result.now c.put_leaf.new.leaf
          (actor_of c.args.actor.now) _ (errand_of e) r c.in-Carried.gate c.in-Carried.block c.requires.due (ap cell_of c.block_in-leaf.ensures.value)
          (record { errand = ap (option_map errand_of) is; row = ap task_of row }) c.in-Carried.is
          c.put_leaf.ensures.row c.put_leaf.ensures.left
          (λ k. record (actor_of c.args.actor.now) { boxes = c.put_leaf.new.self; errand = option_map errand_of (go k) });
    }
