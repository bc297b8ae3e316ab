use Rattle.std.proofs.Common.{◌≡◌, get_or, true}
use Rattle.std.specs.Prelude.{◌==◌, ◌||◌, None}
use Rattle.core_due.specs.Due.{all_below}
use Rattle.seeded_run.specs.Look.{rests}
use Rattle.seeded_run.proofs.alone.others_rest.Given as goal

abbrev pub invariant-loop-other : goal.invariant-loop-other
invariant-loop-other l = all_below l.other (λ a. a == l.number || rests (get_or l.actors a None)) ≡ true
