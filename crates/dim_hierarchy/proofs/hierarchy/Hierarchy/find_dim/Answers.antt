use Rattle.std.proofs.Common.{arith, sym, ◌≡◌, ◌∙◌, ap, true}
use Rattle.std.specs.Str.{bytes_eq}
use Rattle.dim_hierarchy.specs.Dimension.{Dimension, dimension, no_dimension}
use Rattle.dim_hierarchy.proofs.Places.{position-first, position-nowhere}
use Rattle.dim_hierarchy.proofs.hierarchy.Hierarchy.find_dim.Goals as goal

pub returns-then-eq : goal.returns-then-eq
returns-then-eq c =
    let name = c.args.name.now in
    let here : bytes_eq (dimension c.args.self.now c.loop-dim.dim).name name ≡ true =
    ap (λ (d : Dimension). bytes_eq d.name name) (sym c.table.ensures.value) ∙ ap (λ s. bytes_eq s name) (sym c.name.ensures) ∙ sym c.eq.ensures ∙ c.if-eq.true in
    sym (position-first (λ (d : Dimension). bytes_eq d.name name) c.args.self.now c.loop-dim.dim no_dimension (omega arith) c.loop-dim.invariant here)

pub returns : goal.returns
returns c =
    let name = c.args.name.now in
    sym (position-nowhere (λ (d : Dimension). bytes_eq d.name name) c.args.self.now no_dimension (λ k lt. c.loop-dim.invariant k (omega arith)))
