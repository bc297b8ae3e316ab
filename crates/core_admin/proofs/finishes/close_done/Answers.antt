use Rattle.std.proofs.Common.{Bool, is_some, option_map, subst, sym}
use Rattle.core_tree.specs.volap_cell.specs.Values.{job_of}
use Rattle.core_admin.specs.FinishDue.{ClosesDone, MayCloseDone, with_one_done}
use Rattle.core_admin.proofs.Jobs.Finishings.{goes-on-done}
use Rattle.core_admin.proofs.finishes.close_done.Goals as goal

pub advance-requires : goal.advance-requires
advance-requires c =
    goes-on-done c.args.shard c.args.to c.args.command.now c.count_done.new.command (is_some c.args.job.now)
    (subst (λ (p : Bool). MayCloseDone p c.args.command.now (is_some c.args.job.now)) c.if-planned.true c.requires) c.count_done.ensures

pub returns-then-planned : goal.returns-then-planned
returns-then-planned c =
    subst (λ (p : Bool). ClosesDone p c.args.shard c.args.to c.args.command.now c.advance.new.command (option_map (λ j. job_of j.value) c.advance.new.job)) (sym c.if-planned.true)
    (λ of b is. c.advance.ensures of (with_one_done c.args.shard c.args.to b) (c.count_done.ensures of b is))
