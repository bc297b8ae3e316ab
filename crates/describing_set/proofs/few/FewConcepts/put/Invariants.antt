use Rattle.std.proofs.Common.{◌≡◌, ◌≤◌, ◌-◌, ◌++◌, length, take, drop}
use Rattle.describing_set.specs.Ascending.{with_id}
use Rattle.describing_set.proofs.few.FewConcepts.put.Given as goal

-- the concepts before the place stay where they are
abbrev pub invariant-loop-at : goal.invariant-loop-at
invariant-loop-at l = (l.at ≤ length l.self.items) × (with_id l.id l.self.items ≡ take l.at l.self.items ++ with_id l.id (drop l.at l.self.items))

abbrev pub decreases-loop-at : goal.decreases-loop-at
decreases-loop-at l = length l.self.items - l.at
