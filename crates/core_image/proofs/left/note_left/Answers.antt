use Rattle.std.proofs.Common.{◌∷◌, ap, subst, ◌∙◌, option_map}
use Rattle.row_ledger.specs.{declared.event.Event.TheVariants.Left}
use Rattle.volap_cell.specs.{Cells.{cell_of}, ImageKinds.LeavesAs, Values.{actor_of, job_of, stage_of}, declared.job.Job.Job}
use Rattle.core_image.proofs.EachStep.NotesLeft.{left-makes, left-promised}
use Rattle.core_image.proofs.left.note_left.Goals as goal

pub push-requires : goal.push-requires
push-requires c =
    left-promised c.args.h.now c.args.ledger_at (cell_of c.args.ledger.now) (actor_of c.args.actor.now) c.requires.here c.requires.due
    c.ledger_in-ledger.result.now (ap cell_of c.ledger_in-ledger.ensures.value)

pub returns : goal.returns
returns c =
    record {
      made = left-makes c.args.h.now c.args.ledger_at (cell_of c.args.ledger.now) (actor_of c.args.actor.now) c.requires.here c.requires.due
          c.ledger_in-ledger.result.now (ap cell_of c.ledger_in-ledger.ensures.value)
          c.there-command.result.now c.there-command.ensures (job_of c.there-job.result.now.value) (ap (option_map (λ j. job_of j.value)) c.there-job.ensures)
          c.how_left-how.result (subst (λ (x : Job). LeavesAs (stage_of x.stage) c.how_left-how.result) c.deref.ensures c.how_left-how.ensures)
          c.push.new.self (c.push.ensures.history ∙ ap (λ (x : Job). Left c.there-command.result.now.of x.shard c.how_left-how.result ∷ c.ledger_in-ledger.result.now.history) c.deref-2.ensures) c.push.ensures.promised
          _ _ c.advance.ensures _ c.len-actor.ensures.value;
    }
