use Rattle.std.proofs.Common.{ℕ, [], ◌∷◌, subst}
use Rattle.core_steps.proofs.ReuseMade.{three-went, two-went}
use Rattle.core_steps.specs.declared.reuses.ReuseStep.TheVariants as reuse
use Rattle.core_shard.specs.volap_cell.specs.{Cells.cell_of, Steps.Makes, Values.actor_of, World.change, declared.kind.Kind.TheVariants.Reuse}
use Rattle.core_steps.proofs.reuses.ReuseStepCellStep.run.Goals as goal

pub returns-in-Block-clause-went : goal.returns-in-Block-clause-went
returns-in-Block-clause-went c =
    three-went (reuse.Block c.in-Block.gate c.in-Block.block) c.in-Block.is c.lent.ensures.value c.lent-in-Block.ensures.value c.args.others.now _ _ _ c.lent-in-Block-2.ensures.value
    (record {
      makes = subst (λ (s : ℕ). Makes c.args.h.now Reuse (change c.in-Block.gate (cell_of c.lent.result.now) (cell_of c.reuse_block.new.gate) ∷ change c.in-Block.block (cell_of c.lent-in-Block.result.now) (cell_of c.reuse_block.new.block) ∷ change s (cell_of c.lent-in-Block-2.result.now) (cell_of c.reuse_block.new.stock) ∷ []) (actor_of c.args.actor.now) (actor_of c.reuse_block.new.actor)) c.stock_place.ensures c.reuse_block.ensures.made;
      sight = λ s w n sees. tt;
    })

pub returns-in-Gate-clause-went : goal.returns-in-Gate-clause-went
returns-in-Gate-clause-went c =
    two-went (reuse.Gate c.in-Gate.gate) c.in-Gate.is c.lent-in-Gate.ensures.value c.lent-in-Gate-2.ensures.value c.args.others.now _ _ _
    (record {
      makes = subst (λ (s : ℕ). Makes c.args.h.now Reuse (change c.in-Gate.gate (cell_of c.lent-in-Gate.result.now) (cell_of c.reuse_gate.new.gate) ∷ change s (cell_of c.lent-in-Gate-2.result.now) (cell_of c.reuse_gate.new.stock) ∷ []) (actor_of c.args.actor.now) (actor_of c.reuse_gate.new.actor)) c.stock_place-in-Gate.ensures c.reuse_gate.ensures.made;
      sight = λ s w n sees. tt;
    })
