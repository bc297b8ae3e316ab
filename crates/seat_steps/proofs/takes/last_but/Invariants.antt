use Rattle.std.proofs.Common.{ℕ, ◌≡◌, List, ◌++◌, length, Option, Some}
use Rattle.list_words.specs.Counts.{Each}
use Rattle.seat_steps.proofs.takes.last_but.Given as goal

-- those behind what is left are the one that is kept
abbrev pub invariant-loop-told : goal.invariant-loop-told
invariant-loop-told l = (behind : List (ℕ × Option ℕ)) × (l.held ≡ l.left ++ behind) × Each (λ told. l.kept ≡ Some told.0) behind

abbrev pub decreases-loop-told : goal.decreases-loop-told
decreases-loop-told l = length l.left
