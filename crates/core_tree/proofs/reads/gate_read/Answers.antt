use Rattle.std.proofs.Common.{◌≡◌, ◌∙◌, option_map, refl, sym, ap, subst, IsSome, Some}
use Rattle.volap_cell.specs.shard_store.specs.declared.gate.Gate.{Gate}
use Rattle.volap_cell.specs.{Cells.{GateCell, cell_of, gate_shard}, Lending.with_gate, Values.{actor_of, errand_of}}
use Rattle.volap_cell.proofs.Outcomes.{on-ok, on-err}
use Rattle.core_tree.specs.ReadDue.{IsAtGate}
use Rattle.core_tree.proofs.Calls.GateDue.{is-at-gate, read-makes}
use Rattle.core_tree.proofs.reads.gate_read.Goals as goal

pub gate_in-requires : goal.gate_in-requires
gate_in-requires c =
    let (it, is, can) = is-at-gate c.tree_laws.ensures.gate c.args.h.now c.args.map_at c.args.gate_at (cell_of c.args.map.now) (cell_of c.args.gate.now) (actor_of c.args.actor.now) (errand_of c.lent-errand.result.now) c.requires.here c.requires.due (ap (option_map errand_of) c.lent-errand.ensures.value) in
    subst IsSome (sym (ap gate_shard is)) refl

pub read_part-requires : goal.read_part-requires
read_part-requires c =
    let (it, is, can) = is-at-gate c.tree_laws.ensures.gate c.args.h.now c.args.map_at c.args.gate_at (cell_of c.args.map.now) (cell_of c.args.gate.now) (actor_of c.args.actor.now) (errand_of c.lent-errand.result.now) c.requires.here c.requires.due (ap (option_map errand_of) c.lent-errand.ensures.value) in
    let one : GateCell it ≡ GateCell c.gate_in.result.now = sym is ∙ ap cell_of c.gate_in.ensures.value in
    let same : it ≡ c.gate_in.result.now = cc in
    record { due = subst (λ (x : Gate). IsAtGate c.args.h.now x (errand_of c.lent-errand.result.now)) same can }

pub returns-clause-made : goal.returns-clause-made
returns-clause-made c =
    on-ok c.read_part.result c.read_part.ensures.made (λ did.
    read-makes c.query_laws.ensures.begins c.tree_laws.ensures.root c.frame_law.ensures c.args.h.now c.args.map_at c.args.gate_at (cell_of c.args.map.now) (cell_of c.args.gate.now) (GateCell c.read_part.new.gate) c.gate_in.result.now c.read_part.new.gate
    (actor_of c.args.actor.now) _ (errand_of c.lent-errand.result.now) (errand_of c.read_part.new.errand) c.requires.due (ap cell_of c.gate_in.ensures.value) refl (ap (option_map errand_of) c.lent-errand.ensures.value)
    did
    refl)

pub returns-clause-refused : goal.returns-clause-refused
returns-clause-refused c =
    on-err c.read_part.result c.read_part.ensures.refused (λ k.
    let errand = ap Some k.1 ∙ sym (ap (option_map errand_of) c.lent-errand.ensures.value) in
    (refl, ap (with_gate c.args.gate.now) k.0 ∙ sym c.gate_in.ensures.value, (λ i. record (actor_of c.args.actor.now) { errand = errand i })))
