use Rattle.std.proofs.Common.{◌≡◌, ◌-◌, ◌≤◌, [], length, take, drop, reverse, get_or}
use Rattle.script_run.specs.Phases.{phases}
use Rattle.answer_text.specs.{Printed.texts_behind, Told.{phase_text, HasTold}}
use Rattle.answer_text.proofs.text.phase.Given as goal

abbrev pub invariant-loop-teller : goal.invariant-loop-teller
invariant-loop-teller l = record {
  within : l.teller.told ≤ length l.all;
  has : HasTold l.with (take l.teller.told l.all) (reverse l.events) l.teller;
  text : get_or (texts_behind l.with (take l.teller.told l.all) (phases (drop l.teller.told l.all)) (reverse l.events)) l.left [] ≡ phase_text l.with l.all (reverse l.events) l.n;
}

abbrev pub decreases-loop-teller : goal.decreases-loop-teller
decreases-loop-teller l = length l.all - l.teller.told
