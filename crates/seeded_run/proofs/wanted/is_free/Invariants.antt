use Rattle.std.proofs.Common.{◌≡◌, get_or, not, true}
use Rattle.std.specs.Prelude.{◌==◌, ◌||◌, None}
use Rattle.core_due.specs.Due.{all_below}
use Rattle.seeded_run.specs.Takes.{carries_at}
use Rattle.seeded_run.proofs.wanted.is_free.Given as goal

abbrev pub invariant-loop-other : goal.invariant-loop-other
invariant-loop-other l = all_below l.other (λ a. a == l.number || not (carries_at (get_or l.actors a None) l.block)) ≡ true
