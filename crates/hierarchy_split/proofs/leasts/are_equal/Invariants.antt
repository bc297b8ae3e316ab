use Rattle.std.proofs.Common.{ℕ, ◌≡◌, ◌<◌, get_or}
use Rattle.hierarchy_split.proofs.leasts.are_equal.Given as goal

abbrev pub invariant-loop-least : goal.invariant-loop-least
invariant-loop-least l = (k d : ℕ) → k < l.least-index → get_or l.leasts k d ≡ get_or l.leasts 0 0
