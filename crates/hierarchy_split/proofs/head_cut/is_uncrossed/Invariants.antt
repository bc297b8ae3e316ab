use Rattle.std.proofs.Common.{ℕ, ◌≡◌, ◌<◌, true, false, get_or}
use Rattle.hierarchy_split.proofs.head_cut.is_uncrossed.Given as goal

abbrev pub invariant-loop-i : goal.invariant-loop-i
invariant-loop-i l = (k : ℕ) → k < l.i → get_or l.leasts k 0 ≡ l.concept → get_or l.crossed k true ≡ false
