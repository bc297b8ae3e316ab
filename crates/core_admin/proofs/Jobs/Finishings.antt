-- What the calls that end a job ask and do: the command that goes on.
use Rattle.std.proofs.Common.{◌≡◌, ◌∙◌, ℕ, Bool, true, List, Option, Some, None, refl}
use Rattle.row_ledger.specs.Work.{shard_of}
use Rattle.shard_plan.specs.declared.action.Load.{Load}
use Rattle.core_tree.specs.volap_cell.specs.{Commands.stands_after, Planning.has_load, declared.command.Command.Command}
use Rattle.core_admin.specs.FinishDue.{CountsDone, MayGoOnDone, with_one_done}
use Rattle.core_image.specs.NotesDue.{MayGoOn}
use Rattle.core_admin.proofs.PlansAhead.{has-moved}

-- the same shards are among the loads
has-after : (loads : List Load) (shard : ℕ) (to : Option ℕ) (x : ℕ) → has_load (stands_after true shard to loads) x ≡ has_load loads x
has-after loads shard None x = refl
has-after loads shard (Some to) x = has-moved loads shard to x

-- a balance with one action more that is done may go on
pub goes-on-done : (shard : ℕ) (to : Option ℕ) (command command_now : Option Command) (has_job : Bool) → MayGoOnDone command has_job → CountsDone shard to command command_now → MayGoOn command_now has_job
goes-on-done shard to command command_now has_job k counts = record {
  of = k.count.of;
  balance = with_one_done shard to k.count.balance;
  command_is = counts k.count.of k.count.balance k.count.command_is;
  few = k.few;
  stands = λ action is. has-after k.count.balance.standing shard to (shard_of action) ∙ k.stands action is;
  some = k.some;
}
