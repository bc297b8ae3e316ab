use Rattle.std.proofs.Common.{◌≡◌, option_map, refl, ap, subst}
use Rattle.dc_node.specs.declared.block.Block.{Block}
use Rattle.volap_cell.specs.{Cells.{block_in, cell_of}, Values.{actor_of, errand_of}}
use Rattle.volap_cell.proofs.Outcomes.{on-ok}
use Rattle.core_tree.specs.ReadDue.{IsAtBlock}
use Rattle.core_tree.proofs.EachStep.VisitsBlock.{is-at-block, visit-makes}
use Rattle.core_tree.proofs.visits.block_visit.Goals as goal

pub block_seen-requires : goal.block_seen-requires
block_seen-requires c =
    let can = is-at-block c.tree_laws.ensures.gate c.tree_laws.ensures.block c.args.h.now c.args.at (cell_of c.args.cell.now) (actor_of c.args.actor.now) (errand_of c.lent-errand.result.now) c.requires.here c.requires.due (ap (option_map errand_of) c.lent-errand.ensures.value) in
    can.0

pub visit_part-requires : goal.visit_part-requires
visit_part-requires c =
    let can = is-at-block c.tree_laws.ensures.gate c.tree_laws.ensures.block c.args.h.now c.args.at (cell_of c.args.cell.now) (actor_of c.args.actor.now) (errand_of c.lent-errand.result.now) c.requires.here c.requires.due (ap (option_map errand_of) c.lent-errand.ensures.value) in
    let block : block_in (cell_of c.args.cell.now) ≡ c.block_seen.result.now = ap block_in c.block_seen.ensures in
    record { due = subst (λ (b : Block). IsAtBlock b (errand_of c.lent-errand.result.now)) block can.1 }

pub returns-clause-made : goal.returns-clause-made
returns-clause-made c =
    on-ok c.visit_part.result c.visit_part.ensures.made (λ did.
    visit-makes c.query_laws.ensures.visits c.args.h.now c.args.at (cell_of c.args.cell.now) c.block_seen.result.now (actor_of c.args.actor.now) _ (errand_of c.lent-errand.result.now) (errand_of c.visit_part.new.errand)
    c.requires.here c.requires.due c.block_seen.ensures (ap (option_map errand_of) c.lent-errand.ensures.value)
    did
    refl)
