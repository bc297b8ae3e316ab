use Rattle.std.proofs.{Common.{◌∙◌, ◌<◌, List, [], length, set, ap, arith}, Math.Seq.take-set-lt}
use Rattle.arrayvec.specs.ArrayVec.{ArrayVec}
use Rattle.describing_set.specs.{Part.part, declared.part.Part.Part}
use Rattle.describing_set.proofs.Filled.{AreFilled-set}
use Rattle.describing_set.proofs.part_list.PartList.set.Goals as goal

pub invariant_of-self : goal.invariant_of-self
invariant_of-self c =
    let f = c.self.invariant in
    let seen = ap (λ (v : ArrayVec Part). length v.items) c.self.view_is in
    let lt : c.args.dim < c.self.inside.count = omega (arith, f.used, seen, c.requires) in
    rw c.from.ensures (AreFilled-set 8 (part 0 []) c.self.inside.count c.args.dim c.args.part c.self.inside.places f lt)

pub returns : goal.returns
returns c =
    let f = c.self.invariant in
    let seen = ap (λ (v : ArrayVec Part). v.items) c.self.view_is in
    let len = ap (λ (xs : List Part). length xs) seen in
    let lt : c.args.dim < c.self.inside.count = omega (arith, f.used, len, c.requires) in
    rw c.from.ensures (take-set-lt c.self.inside.count c.self.inside.places c.args.dim c.args.part lt ∙ ap (λ (xs : List Part). set xs c.args.dim c.args.part) seen)
