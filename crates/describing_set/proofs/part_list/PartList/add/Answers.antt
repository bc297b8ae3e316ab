use Rattle.std.proofs.{Common.{◌∙◌, ◌<◌, ◌≤◌, List, [], length, get_or, set, ap, sym, subst, arith}, Math.Seq.take-set-lt, lemmas.List.set-get_or}
use Rattle.arrayvec.specs.ArrayVec.{ArrayVec}
use Rattle.dim_hierarchy.specs.{Concept.level_of, Dimension.tree}
use Rattle.describing_set.specs.{Part.part, Parts.{IsPart, GrowsPart}, declared.part.Part.Part}
use Rattle.describing_set.proofs.Filled.{AreFilled-set, used-read}
use Rattle.describing_set.proofs.part_list.PartList.add.Goals as goal

pub has_ancestor-requires-clause-part : goal.has_ancestor-requires-clause-part
has_ancestor-requires-clause-part c =
    let read = used-read c.as_slice.result.now c.args.self.now.items c.from.result c.args.dim c.index-as_slice-from.result (part 0 []) c.as_slice.ensures.value c.from.ensures c.requires.within c.index-as_slice-from.is in
    subst (IsPart (tree c.args.h.now c.args.dim)) (sym read) c.requires.part

pub has_ancestor-requires-clause-level : goal.has_ancestor-requires-clause-level
has_ancestor-requires-clause-level c =
    let read = used-read c.as_slice.result.now c.args.self.now.items c.from.result c.args.dim c.index-as_slice-from.result (part 0 []) c.as_slice.ensures.value c.from.ensures c.requires.within c.index-as_slice-from.is in
    subst (λ (p : Part). p.level ≤ level_of c.args.id) (sym read) c.requires.level

pub returns-then-has_ancestor : goal.returns-then-has_ancestor
returns-then-has_ancestor c =
    let items = c.args.self.now.items in
    let read = used-read c.as_slice.result.now items c.from.result c.args.dim c.index-as_slice-from.result (part 0 []) c.as_slice.ensures.value c.from.ensures c.requires.within c.index-as_slice-from.is in
    record {
      now = get_or items c.args.dim (part 0 []);
      grown = subst (λ (o : Part). GrowsPart (tree c.args.h.now c.args.dim) c.args.id o o) read c.if-has_ancestor.ensures.kept;
      new_is = sym (set-get_or items c.args.dim (part 0 []));
    }

pub add-requires-clause-part : goal.add-requires-clause-part
add-requires-clause-part c =
    let read = used-read c.as_slice.result.now c.args.self.now.items c.from.result c.args.dim c.index-as_slice-from.result (part 0 []) c.as_slice.ensures.value c.from.ensures c.requires.within c.index-as_slice-from.is in
    subst (IsPart (tree c.args.h.now c.args.dim)) (sym read) c.requires.part

pub add-requires-clause-level : goal.add-requires-clause-level
add-requires-clause-level c =
    let read = used-read c.as_slice.result.now c.args.self.now.items c.from.result c.args.dim c.index-as_slice-from.result (part 0 []) c.as_slice.ensures.value c.from.ensures c.requires.within c.index-as_slice-from.is in
    subst (λ (p : Part). p.level ≤ level_of c.args.id) (sym read) c.requires.level

pub invariant_of-self : goal.invariant_of-self
invariant_of-self c =
    let f = c.self.invariant in
    let seen = ap (λ (v : ArrayVec Part). length v.items) c.self.view_is in
    let lt : c.args.dim < c.self.inside.count = omega (arith, f.used, seen, c.requires.within) in
    rw c.from-2.ensures (AreFilled-set 8 (part 0 []) c.self.inside.count c.args.dim c.add.new.self c.self.inside.places f lt)

pub returns : goal.returns
returns c =
    let f = c.self.invariant in
    let items = c.args.self.now.items in
    let seen = ap (λ (v : ArrayVec Part). v.items) c.self.view_is in
    let len = ap (λ (xs : List Part). length xs) seen in
    let lt : c.args.dim < c.self.inside.count = omega (arith, f.used, len, c.requires.within) in
    let read = used-read c.as_slice.result.now items c.from.result c.args.dim c.index-as_slice-from.result (part 0 []) c.as_slice.ensures.value c.from.ensures c.requires.within c.index-as_slice-from.is in
    rw c.from-2.ensures (record {
      now = c.add.new.self;
      grown = subst (λ (o : Part). GrowsPart (tree c.args.h.now c.args.dim) c.args.id o c.add.new.self) read c.add.ensures.grown;
      new_is = take-set-lt c.self.inside.count c.self.inside.places c.args.dim c.add.new.self lt ∙ ap (λ (xs : List Part). set xs c.args.dim c.add.new.self) seen;
    })
