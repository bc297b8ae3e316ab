use Rattle.std.proofs.Common.{ℕ, ◌<◌, length, ap, arith}
use Rattle.arrayvec.specs.ArrayVec.{ArrayVec}
use Rattle.describing_set.specs.Places.{no_concept}
use Rattle.describing_set.proofs.Filled.{AreFilled-more}
use Rattle.describing_set.proofs.few.FewConcepts.push.Goals as goal

pub invariant_of-self : goal.invariant_of-self
invariant_of-self c =
    let f = c.self.invariant in
    let seen = ap (λ (v : ArrayVec ℕ). length v.items) c.self.view_is in
    let lt : c.self.inside.count < 6 = omega (arith, f.used, seen, c.requires) in
    rw c.from.ensures (AreFilled-more 6 no_concept c.self.inside.count c.args.id c.self.inside.places f lt)
