use Rattle.std.proofs.Common.{arith, refl, sym, ◌≡◌, ◌∙◌, subst, false, get_or}
use Rattle.std.specs.Prelude.{None, Some, Option, IsSome, is_none}
use Rattle.dim_hierarchy.specs.{Dimension.no_dimension, Filter.{pick_named, picks}}
use Rattle.dim_hierarchy.proofs.{Coordinates.{IsFilterNamed-made, IsFilterSoFar-next, IsFilterSoFar-end}, Named.{length-paired, paired-read}, Places.position-None}
use Rattle.dim_hierarchy.proofs.hierarchy.Hierarchy.picks.Goals as goal

some : {X : Type 0} (o : Option X) → is_none o ≡ false → IsSome o
some None e = absurd cc
some (Some x) e = refl

pub pick-requires : goal.pick-requires
pick-requires c =
    let len = length-paired pick_named c.args.self.now c.args.names.now c.requires.count in
    let read = paired-read pick_named c.args.self.now c.args.names.now c.as_slice.result.now c.loop-dim.dim c.from.result c.table.result.now no_dimension c.index-as_slice-from.result None c.requires.count (omega arith) c.as_slice.ensures c.from.ensures c.table.ensures.value c.index-as_slice-from.is in
    let known = position-None is_none (picks c.args.self.now c.args.names.now) None c.requires.known c.loop-dim.dim (omega (arith, len)) in
    subst IsSome (sym read) (some (get_or (picks c.args.self.now c.args.names.now) c.loop-dim.dim None) known)

pub loop-dim-preserved : goal.loop-dim-preserved
loop-dim-preserved c =
    let read = paired-read pick_named c.args.self.now c.args.names.now c.as_slice.result.now c.loop-dim.dim c.from.result c.table.result.now no_dimension c.index-as_slice-from.result None c.requires.count (omega arith) c.as_slice.ensures c.from.ensures c.table.ensures.value c.index-as_slice-from.is in
    rw c.in_ok-push.ensures.ok (IsFilterSoFar-next c.args.self.now c.args.names.now c.loop-dim.filter c.loop-dim.dim c.in_ok-pick.field-0 c.loop-dim.invariant (sym read ∙ c.in_ok-pick.ensures))

pub returns : goal.returns
returns c =
    let are = IsFilterSoFar-end c.args.self.now c.args.names.now c.loop-dim.filter c.loop-dim.dim c.requires.count (omega arith) c.loop-dim.invariant in
    IsFilterNamed-made c.args.self.now c.args.names.now c.loop-dim.filter c.dims-dim-end.ensures.valid c.requires.count c.requires.some are
