use Rattle.std.proofs.Common.{[], ◌∷◌, refl}
use Rattle.core_steps.proofs.JobMade.{in-place, seven-went}
use Rattle.core_steps.specs.declared.jobs.JobStep.TheVariants as job
use Rattle.core_shard.specs.volap_cell.specs.{Cells.cell_of, World.change}
use Rattle.core_shard.specs.volap_cell.proofs.Outcomes.{on-ok}
use Rattle.core_steps.proofs.jobs.JobStepCellStep.run.Goals as goal

pub returns-in-FinishSplit-clause-went : goal.returns-in-FinishSplit-clause-went
returns-in-FinishSplit-clause-went c = on-ok c.finish_split.result c.finish_split.ensures.made (λ made. seven-went (job.FinishSplit c.in-FinishSplit.map c.in-FinishSplit.gate c.in-FinishSplit.left c.in-FinishSplit.right) c.in-FinishSplit.is
    c.lent-in-FinishSplit.ensures.value c.lent-in-FinishSplit-2.ensures.value c.lent-in-FinishSplit-3.ensures.value c.lent-in-FinishSplit-4.ensures.value c.lent-in-FinishSplit-5.ensures.value c.lent-in-FinishSplit-6.ensures.value c.lent-in-FinishSplit-7.ensures.value
    (record {
      makes = in-place (λ r s l. change c.in-FinishSplit.map (cell_of c.lent-in-FinishSplit.result.now) (cell_of c.finish_split.new.table) ∷ change c.in-FinishSplit.gate (cell_of c.lent-in-FinishSplit-2.result.now) (cell_of c.finish_split.new.gate) ∷ change c.in-FinishSplit.left (cell_of c.lent-in-FinishSplit-3.result.now) (cell_of c.finish_split.new.left) ∷ change c.in-FinishSplit.right (cell_of c.lent-in-FinishSplit-4.result.now) (cell_of c.finish_split.new.right) ∷ change r (cell_of c.lent-in-FinishSplit-5.result.now) (cell_of c.finish_split.new.registry) ∷ change s (cell_of c.lent-in-FinishSplit-6.result.now) (cell_of c.finish_split.new.stock) ∷ change l (cell_of c.lent-in-FinishSplit-7.result.now) (cell_of c.finish_split.new.ledger) ∷ []) c.registry_place.ensures c.stock_place-in-FinishSplit.ensures c.ledger_place.ensures made;
      sight = λ s w n sees. tt;
    }))

pub returns-in-FinishMove-clause-went : goal.returns-in-FinishMove-clause-went
returns-in-FinishMove-clause-went c = on-ok c.finish_move.result c.finish_move.ensures.made (λ made. seven-went (job.FinishMove c.in-FinishMove.from c.in-FinishMove.to c.in-FinishMove.gate c.in-FinishMove.new) c.in-FinishMove.is
    c.lent-in-FinishMove.ensures.value c.lent-in-FinishMove-2.ensures.value c.lent-in-FinishMove-3.ensures.value c.lent-in-FinishMove-4.ensures.value c.lent-in-FinishMove-5.ensures.value c.lent-in-FinishMove-6.ensures.value c.lent-in-FinishMove-7.ensures.value
    (record {
      makes = in-place (λ r s l. change c.in-FinishMove.from (cell_of c.lent-in-FinishMove.result.now) (cell_of c.finish_move.new.from) ∷ change c.in-FinishMove.to (cell_of c.lent-in-FinishMove-2.result.now) (cell_of c.finish_move.new.to) ∷ change c.in-FinishMove.gate (cell_of c.lent-in-FinishMove-3.result.now) (cell_of c.finish_move.new.gate) ∷ change c.in-FinishMove.new (cell_of c.lent-in-FinishMove-4.result.now) (cell_of c.finish_move.new.new) ∷ change r (cell_of c.lent-in-FinishMove-5.result.now) (cell_of c.finish_move.new.registry) ∷ change s (cell_of c.lent-in-FinishMove-6.result.now) (cell_of c.finish_move.new.stock) ∷ change l (cell_of c.lent-in-FinishMove-7.result.now) (cell_of c.finish_move.new.ledger) ∷ []) c.registry_place-in-FinishMove.ensures c.stock_place-in-FinishMove.ensures c.ledger_place-in-FinishMove.ensures made;
      sight = λ s w n sees. tt;
    }))

pub returns-in-FinishHere-clause-went : goal.returns-in-FinishHere-clause-went
returns-in-FinishHere-clause-went c = on-ok c.finish_here.result c.finish_here.ensures.made (λ made. seven-went (job.FinishHere c.in-FinishHere.map c.in-FinishHere.gate c.in-FinishHere.new) c.in-FinishHere.is
    c.lent-in-FinishHere.ensures.value c.lent-in-FinishHere-2.ensures.value c.lent-in-FinishHere-3.ensures.value c.lent-in-FinishHere-4.ensures.value c.lent-in-FinishHere-5.ensures.value c.lent-in-FinishHere-6.ensures.value refl
    (record {
      makes = in-place (λ r s l. change c.in-FinishHere.map (cell_of c.lent-in-FinishHere.result.now) (cell_of c.finish_here.new.table) ∷ change c.in-FinishHere.gate (cell_of c.lent-in-FinishHere-2.result.now) (cell_of c.finish_here.new.gate) ∷ change c.in-FinishHere.new (cell_of c.lent-in-FinishHere-3.result.now) (cell_of c.finish_here.new.new) ∷ change r (cell_of c.lent-in-FinishHere-4.result.now) (cell_of c.finish_here.new.registry) ∷ change s (cell_of c.lent-in-FinishHere-5.result.now) (cell_of c.finish_here.new.stock) ∷ change l (cell_of c.lent-in-FinishHere-6.result.now) (cell_of c.finish_here.new.ledger) ∷ []) c.registry_place-in-FinishHere.ensures c.stock_place-in-FinishHere.ensures c.ledger_place-in-FinishHere.ensures made;
      sight = λ s w n sees. tt;
    }))
