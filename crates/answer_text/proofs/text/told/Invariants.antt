use Rattle.std.proofs.Common.{◌≡◌, ◌-◌, ◌≤◌, ◌++◌, length, take, drop, reverse}
use Rattle.std.specs.{List.flat_map, String.string_bytes}
use Rattle.script_run.specs.Phases.{phases}
use Rattle.answer_text.specs.{Printed.{texts_behind, told}, Told.HasTold}
use Rattle.answer_text.proofs.text.told.Given as goal

abbrev pub invariant-loop-teller : goal.invariant-loop-teller
invariant-loop-teller l = record {
  within : l.teller.told ≤ length l.all;
  has : HasTold l.with (take l.teller.told l.all) (reverse l.events) l.teller;
  text : string_bytes l.text ++ flat_map (λ text. text) (texts_behind l.with (take l.teller.told l.all) (phases (drop l.teller.told l.all)) (reverse l.events)) ≡ told l.with l.all (reverse l.events);
}

abbrev pub decreases-loop-teller : goal.decreases-loop-teller
decreases-loop-teller l = length l.all - l.teller.told
