use Rattle.std.proofs.Common.{Bool, Option, true, ap, option_map, refl, subst, sym}
use Rattle.core_tree.specs.volap_cell.specs.{AdminKinds.spent_in, Cells.{cell_of}, Values.{actor_of, job_of, stage_of}, declared.command.Command.Command, declared.job.Job.Job}
use Rattle.core_admin.specs.FinishDue.{Closes, GivesAll, MayClose, MayGiveAll, NotesGivenUp, plans}
use Rattle.core_admin.proofs.Postponing.PostponeReady.{gone-promised, may-close, may-give, postpone-makes}
use Rattle.core_admin.proofs.builds.postpone.Goals as goal

pub note_given_up-requires : goal.note_given_up-requires
note_given_up-requires c =
    gone-promised c.args.h.now c.args.stock_at c.args.ledger_at (cell_of c.args.stock.now) (cell_of c.args.ledger.now) (actor_of c.args.actor.now) c.requires.here c.requires.due c.there-command.result.now c.there-command.ensures
    c.ledger_in-ledger.result.now (ap cell_of c.ledger_in-ledger.ensures.value) c.plans-planned.result c.plans-planned.ensures

pub give_all-requires : goal.give_all-requires
give_all-requires c =
    subst (λ (j : Job). MayGiveAll c.stock_in-stock.result.now c.args.actor.now.purse.spares (spent_in (stage_of j.stage))) (sym c.deref_mut.ensures.value)
    (may-give c.args.h.now c.args.stock_at c.args.ledger_at (cell_of c.args.stock.now) (cell_of c.args.ledger.now) (actor_of c.args.actor.now) c.requires.here c.requires.due c.there-command.result.now c.there-command.ensures
    c.stock_in-stock.result.now (ap cell_of c.stock_in-stock.ensures.value) (job_of c.lent-job.result.now.value) (ap (option_map (λ j. job_of j.value)) c.lent-job.ensures.value))

pub close-requires : goal.close-requires
close-requires c =
    subst (λ (o : Option Command). MayClose c.plans-planned.result o true) (sym c.there-command.ensures)
    (may-close c.args.h.now c.args.stock_at c.args.ledger_at (cell_of c.args.stock.now) (cell_of c.args.ledger.now) (actor_of c.args.actor.now) c.requires.here c.requires.due c.there-command.result.now c.there-command.ensures c.plans-planned.result c.plans-planned.ensures)

pub returns : goal.returns
returns c =
    let job = job_of c.lent-job.result.now.value in
    let planned = c.plans-planned.ensures in
    record {
      made = postpone-makes c.args.h.now c.args.stock_at c.args.ledger_at (cell_of c.args.stock.now) (cell_of c.args.ledger.now) (actor_of c.args.actor.now) c.requires.here c.requires.due c.there-command.result.now c.there-command.ensures
          job (ap (option_map (λ j. job_of j.value)) c.lent-job.ensures.value) c.ledger_in-ledger.result.now c.note_given_up.new.ledger (ap cell_of c.ledger_in-ledger.ensures.value)
          (subst (λ (x : Bool). NotesGivenUp x c.there-command.result.now.of job.shard c.ledger_in-ledger.result.now c.note_given_up.new.ledger) planned
          (subst (λ (j : Job). NotesGivenUp c.plans-planned.result c.there-command.result.now.of j.shard c.ledger_in-ledger.result.now c.note_given_up.new.ledger) c.deref.ensures c.note_given_up.ensures))
          c.stock_in-stock.result.now c.give_all.new.stock (ap cell_of c.stock_in-stock.ensures.value) c.args.actor.now.purse c.give_all.new.purse refl
          (subst (λ (j : Job). GivesAll c.stock_in-stock.result.now c.give_all.new.stock c.args.actor.now.purse c.give_all.new.purse (spent_in (stage_of j.stage))) c.deref_mut.ensures.value c.give_all.ensures)
          c.close.new.command (option_map (λ j. job_of j.value) c.close.new.job)
          (subst (λ (o : Option Command). Closes (plans c.there-command.result.now.work) o c.close.new.command (option_map (λ j. job_of j.value) c.close.new.job)) c.there-command.ensures
          (subst (λ (x : Bool). Closes x c.args.actor.now.command c.close.new.command (option_map (λ j. job_of j.value) c.close.new.job)) planned c.close.ensures))
          c.len-actor.result (c.len-actor.ensures.value);
    }
