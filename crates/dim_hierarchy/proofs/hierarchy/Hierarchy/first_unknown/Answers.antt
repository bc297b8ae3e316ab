use Rattle.std.proofs.Common.{arith, sym, ◌≡◌, ◌∙◌, ap, Bool, true, false, not, below_more, get_or}
use Rattle.std.specs.Prelude.{None, Some, Option, is_none, is_some}
use Rattle.dim_hierarchy.specs.{Dimension.no_dimension, Filter.{pick_named, picks}}
use Rattle.dim_hierarchy.proofs.{Named.{length-paired, paired-read}, Places.{position-first, position-nowhere}}
use Rattle.dim_hierarchy.proofs.hierarchy.Hierarchy.first_unknown.Goals as goal

none_or_some : {X : Type 0} (o : Option X) (b : Bool) → b ≡ is_some o → is_none o ≡ not b
none_or_some None b e = sym (ap not e)
none_or_some (Some x) b e = sym (ap not e)

pub returns-then-not-knows : goal.returns-then-not-knows
returns-then-not-knows c =
    let len = length-paired pick_named c.args.self.now c.args.names.now c.requires in
    let read = paired-read pick_named c.args.self.now c.args.names.now c.as_slice.result.now c.loop-dim.dim c.from.result c.table.result.now no_dimension c.index-as_slice-from.result None c.requires (omega arith) c.as_slice.ensures c.from.ensures c.table.ensures.value c.index-as_slice-from.is in
    let here = none_or_some (get_or (picks c.args.self.now c.args.names.now) c.loop-dim.dim None) false (c.if-not-knows.ensures ∙ ap is_some read) in
    sym (position-first is_none (picks c.args.self.now c.args.names.now) c.loop-dim.dim None (omega (arith, len)) c.loop-dim.invariant here)

pub loop-dim-preserved : goal.loop-dim-preserved
loop-dim-preserved c =
    let read = paired-read pick_named c.args.self.now c.args.names.now c.as_slice.result.now c.loop-dim.dim c.from.result c.table.result.now no_dimension c.index-as_slice-from.result None c.requires (omega arith) c.as_slice.ensures c.from.ensures c.table.ensures.value c.index-as_slice-from.is in
    let here = none_or_some (get_or (picks c.args.self.now c.args.names.now) c.loop-dim.dim None) true (c.if-not-knows.ensures ∙ ap is_some read) in
    below_more _ _ c.loop-dim.invariant here

pub returns : goal.returns
returns c =
    let len = length-paired pick_named c.args.self.now c.args.names.now c.requires in
    sym (position-nowhere is_none (picks c.args.self.now c.args.names.now) None (λ k lt. c.loop-dim.invariant k (omega (arith, len))))
