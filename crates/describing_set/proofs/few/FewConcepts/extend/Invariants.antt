use Rattle.std.proofs.Common.{◌≡◌, ◌++◌, take}
use Rattle.describing_set.proofs.few.FewConcepts.extend.Given as goal

abbrev pub invariant-loop-id : goal.invariant-loop-id
invariant-loop-id l = l.self.items ≡ l.fn.self.items ++ take l.id-index l.ids
