use Rattle.std.proofs.Common.{◌≡◌, ◌==◌, ◌≤◌, take}
use Rattle.std.specs.List.{count_by}
use Rattle.hierarchy_split.proofs.head_cut.kept_count.Given as goal

abbrev pub invariant-loop-least : goal.invariant-loop-least
invariant-loop-least l = (l.count ≡ count_by (λ x. x == l.concept) (take l.least-index l.leasts)) × (l.count ≤ l.least-index)
