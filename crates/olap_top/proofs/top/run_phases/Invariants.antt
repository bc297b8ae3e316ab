use Rattle.std.proofs.Common.{◌≡◌, ◌≤◌, ◌-◌, [], length}
use Rattle.std.specs.Prelude.{is_some}
use Rattle.olap_top.specs.{Standing.{StandsBehind, history_of}, declared.wanted.Wanted.Wanted}
use Rattle.olap_top.proofs.PhaseSteps.{IsAtPhase}
use Rattle.olap_top.proofs.top.run_phases.Given as goal

abbrev pub decreases-loop-done : goal.decreases-loop-done
decreases-loop-done g l = length l.all - l.done

abbrev pub invariant-loop-done : goal.invariant-loop-done
invariant-loop-done g l = record {
  all_is : l.all ≡ l.script.commands;
  within : l.done ≤ length l.all;
  at : IsAtPhase l.script l.done (g.K.Sink.taken l.initial.sink) (g.K.Sink.taken l.sink) (is_some l.initial.run.teller) (history_of l.run.engine) l.run.teller;
  later : g.K.Sink.faults l.initial.sink ≤ g.K.Sink.faults l.sink;
  stands : (wanted : Wanted) → StandsBehind wanted l.script [] l.initial.run.engine → StandsBehind wanted l.script at.ps l.run.engine;
}
