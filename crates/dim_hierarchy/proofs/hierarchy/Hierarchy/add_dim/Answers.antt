use Rattle.std.proofs.Common.{◌≡◌, ◌∙◌, ◌++◌, ◌∷◌, [], List, ap, subst, sym}
use Rattle.dim_hierarchy.specs.{Counted.IsCounted, Dimension.{Dimension, new_dimension}}
use Rattle.dim_hierarchy.proofs.{Faults.dim_fault-None, Growth.IsCounted-new_dimension, hierarchy.Hierarchy.add_dim.Goals.{in-Ok-push, in-Err}}
use Rattle.dim_hierarchy.proofs.hierarchy.Hierarchy.add_dim.Goals as goal

pub invariant_of-self : goal.invariant_of-self
invariant_of-self c =
    let h = c.args.self.now in
    let n = c.self.inside.concepts in
    let counted : IsCounted h n = subst (λ (l : List Dimension). IsCounted l n) c.self.view_is c.self.invariant in
    let can = dim_fault-None h c.args.name.now c.args.levels (sym c.dim_fault.ensures ∙ c.in_default.is) in
    elim c.match-push.branch [
      | in-Ok-push w ↦
          let grown = IsCounted-new_dimension h n c.args.name.now c.args.levels counted can.few can.low can.high can.new in
          let e : c.push.new.self.items ≡ h ++ new_dimension c.args.name.now c.args.levels ∷ [] =
          w.in-Ok-push.ensures.items ∙ ap (λ (l : List Dimension). l ++ c.in-Ok.table ∷ []) c.self.view_is ∙ ap (λ (d : Dimension). h ++ d ∷ []) c.in-Ok.ensures in
          subst (λ (l : List Dimension). IsCounted l n) (sym e) grown
      | in-Err w ↦ subst (λ (l : List Dimension). IsCounted l n) (sym w.in-Err.ensures.items) c.self.invariant
    ]
