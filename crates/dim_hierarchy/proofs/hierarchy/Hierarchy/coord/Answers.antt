use Rattle.std.proofs.Common.{arith, refl, sym, ◌≡◌, ◌∙◌, ap}
use Rattle.std.specs.Prelude.{None, Some, is_none, position}
use Rattle.dim_hierarchy.specs.Row.{leaf_named, leaves}
use Rattle.dim_hierarchy.proofs.{Coordinates.{IsCoordSoFar-start, IsCoordSoFar-next, IsCoordSoFar-end}, Named.length-paired, Places.{position-first, position-nowhere}}
use Rattle.dim_hierarchy.proofs.hierarchy.Hierarchy.coord.Goals as goal

pub loop-dim-init : goal.loop-dim-init
loop-dim-init c = IsCoordSoFar-start c.args.self.now c.args.names.now

pub loop-dim-preserved : goal.loop-dim-preserved
loop-dim-preserved c =
    let few = c.dims-dim-end.ensures.valid.few in
    IsCoordSoFar-next c.args.self.now c.args.names.now c.loop-dim.at c.loop-dim.dim c.from.result c.in-Some.id c.loop-dim.invariant (omega arith) c.from.ensures (sym c.leaf.ensures ∙ c.in-Some.is)

-- this dimension's name is the first unknown
first_unknown : (c : goal.In_default) → position is_none (leaves c.args.self.now c.args.names.now) ≡ Some c.loop-dim.dim
first_unknown c =
    let len = length-paired leaf_named c.args.self.now c.args.names.now c.requires in
    let here = ap is_none (sym c.leaf.ensures ∙ c.in_default.is) in
    position-first is_none (leaves c.args.self.now c.args.names.now) c.loop-dim.dim None (omega (arith, len)) (λ k less. ap is_none (c.loop-dim.invariant.known k less)) here

pub returns-in_default-clause-unknown : goal.returns-in_default-clause-unknown
returns-in_default-clause-unknown c = rw (first_unknown c) refl

pub returns-in_default-clause-known : goal.returns-in_default-clause-known
returns-in_default-clause-known c = rw (first_unknown c) tt

-- all names are known
none_unknown : (c : goal.After-loop-dim) → position is_none (leaves c.args.self.now c.args.names.now) ≡ None
none_unknown c =
    let len = length-paired leaf_named c.args.self.now c.args.names.now c.requires in
    position-nowhere is_none (leaves c.args.self.now c.args.names.now) None (λ k lt. ap is_none (c.loop-dim.invariant.known k (omega (arith, len))))

pub returns-clause-unknown : goal.returns-clause-unknown
returns-clause-unknown c = rw (none_unknown c) tt

pub returns-clause-known : goal.returns-clause-known
returns-clause-known c = rw (none_unknown c) refl

pub returns-clause-ok : goal.returns-clause-ok
returns-clause-ok c =
    IsCoordSoFar-end c.args.self.now c.args.names.now _ c.loop-dim.dim c.dims-dim-end.ensures.valid c.requires (omega arith) c.loop-dim.invariant
