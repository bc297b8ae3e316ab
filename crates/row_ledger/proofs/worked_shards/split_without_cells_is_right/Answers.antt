use Rattle.std.proofs.{Common.{[], ◌∷◌, refl, arith}, lemmas.List.Elements.All-from_recursion}
use Rattle.std.specs.Prelude.{Contains}
use Rattle.shard_plan.specs.declared.action.Action.TheVariants as action
use Rattle.row_ledger.specs.{Past.{Ack, before, acked_into}, Work.{AreReadOf, IsRightDecline}, Worked.{site, row}, WorkedShards.{other, to_split, split_declined}, declared.settings.Call.TheVariants.Split, declared.settings.Decline.TheVariants.NoCell, declared.settings.How.TheVariants.Declined}
use Rattle.row_ledger.proofs.{Growth.{KeepsRight-ended, IsRight-kept}, PulledRight.all, SplitRight.{to_split_right, to_split_answer}}
use Rattle.row_ledger.proofs.worked_shards.split_without_cells_is_right.Goals as goal

read : AreReadOf all (before to_split 7) to_split 0 (other ∷ row ∷ [])
read = record {
  once = to_split_answer.once;
  allowed = to_split_answer.allowed;
  came = All-from_recursion (λ (a : Ack). Contains (other ∷ row ∷ []) a.row) (acked_into 0 (before to_split 7)) ((0, omega arith, refl), ((1, omega arith, refl), tt));
}

decline : IsRightDecline site all to_split 7 (action.Split 0) (NoCell 5 4)
decline = record { rows = other ∷ row ∷ []; read = read; cause = (omega arith, refl) }

pub returns : goal.returns
returns c =
    IsRight-kept site all (split_declined (NoCell 5 4))
    (KeepsRight-ended site all to_split 7 (Declined (NoCell 5 4)) to_split_right
    (record { call = Split 0; called = refl; is_open = refl; may_end = (refl, refl, decline); page = refl }))
