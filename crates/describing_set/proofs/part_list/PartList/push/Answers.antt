use Rattle.std.proofs.Common.{◌<◌, [], length, ap, arith}
use Rattle.arrayvec.specs.ArrayVec.{ArrayVec}
use Rattle.describing_set.specs.{Part.part, declared.part.Part.Part}
use Rattle.describing_set.proofs.Filled.{AreFilled-more}
use Rattle.describing_set.proofs.part_list.PartList.push.Goals as goal

pub invariant_of-self : goal.invariant_of-self
invariant_of-self c =
    let f = c.self.invariant in
    let seen = ap (λ (v : ArrayVec Part). length v.items) c.self.view_is in
    let lt : c.self.inside.count < 8 = omega (arith, f.used, seen, c.requires) in
    rw c.from.ensures (AreFilled-more 8 (part 0 []) c.self.inside.count c.args.part c.self.inside.places f lt)
