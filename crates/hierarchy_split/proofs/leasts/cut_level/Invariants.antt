use Rattle.std.proofs.Common.{ℕ, ◌<◌}
use Rattle.hierarchy_split.specs.{Cut.leasts, Order.AreEqual}
use Rattle.hierarchy_split.proofs.leasts.cut_level.Given as goal

abbrev pub invariant-loop-level : goal.invariant-loop-level
invariant-loop-level l = (lower : ℕ) → lower < l.level → AreEqual (leasts l.h l.sets l.dim lower)
