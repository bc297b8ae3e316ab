use Rattle.actor_run.specs.Driving.{IsOpenSince}
use Rattle.whole_steps.specs.part_steps.specs.Reads.{IsBeforeBlocks}
use Rattle.whole_steps.specs.volap_cell.specs.Values.{actor_of}
use Rattle.actor_run.proofs.gates.go_to_gate.Given as goal

abbrev pub invariant-loop : goal.invariant-loop
invariant-loop g l = IsOpenSince l.floor l.initial.player l.player × IsBeforeBlocks l.floor.hierarchy (actor_of l.player.actor)
