-- Where memory is wanting for what is due, what is done in its place is prepared.
use Rattle.std.proofs.Common.{ℕ, ◌≡◌, ◌<◌, ◌∙◌, true, false, Option, Some, None, refl, sym, ap, subst}
use Rattle.core_due.specs.{WorksReady.{AreBytes, IsBookAsked, IsInsteadPrepared, IsJobAsked, IsJobPrepared, IsNotePrepared, IsStopFor, IsWorkAsked}, declared.works.WorkDue.WorkDue}
use Rattle.core_due.specs.declared.works.WorkDue.TheVariants.{Books, Ends, Jobs, Leaves, Shows, Splits, Takes}
use Rattle.core_due.proofs.{BooksHeld.{book-prepared, end-prepared, leave-prepared}, EndsAsked.ended, Holding.there, JobsAsked.{left-asked, next-stands, over-few}, JobsHeld.job-prepared}
use Rattle.core_steps.specs.core_image.proofs.EachStep.SyncsImage.{settle-goes}
use Rattle.core_steps.specs.core_image.specs.NotesDue.{MayBeLeft}
use Rattle.core_steps.specs.{declared.books.BookStep.BookStep, declared.jobs.JobStep.JobStep}
use Rattle.core_steps.specs.declared.books.BookStep.TheVariants as book
use Rattle.core_steps.specs.declared.jobs.JobStep.TheVariants as job
use Rattle.core_steps.specs.declared.notes.NoteStep.TheVariants as note
use Rattle.row_ledger.specs.declared.settings.How.TheVariants.{NoMemory}
use Rattle.core_steps.specs.tree_shape.specs.Laws.{ReadableLaw}
use Rattle.core_steps.specs.volap_cell.specs.{AdminKinds.{HasFrozen, HasJob}, Commands.{EndsJob, EndsStage, MayNoteEnd, due_pull}, ImageKinds.doing, Setting.{Setting, actor_count, ledger_cell, stock_cell}, Steps.Inv, Values.{IsCalled, JobValue, StageValue}, Working.IsJobOf, World.World, declared.command.Command.Command, declared.command.Work.Work}
use Rattle.core_steps.specs.volap_cell.specs.declared.command.Work.TheVariants as work_is

-- a command of which a pull is due may end for want of memory
pull-ends : (servers server : ℕ) (work : Work) (o : Option JobValue) → due_pull servers work ≡ Some server → MayNoteEnd servers work o NoMemory
pull-ends servers server (work_is.Sync x false) o due = refl
pull-ends servers server (work_is.Settle pulls) o due = settle-goes servers pulls server due
pull-ends servers server (work_is.Sync x true) o due = (let never : ◌≡◌ {A = Option ℕ} None (Some server) = due in absurd (cc))
pull-ends servers server _ o due = (let never : ◌≡◌ {A = Option ℕ} None (Some server) = due in absurd (cc))

module _ (s : Setting) (w : World) (inv : Inv s w) (n of : ℕ) (work : Work) (command : (w.actors n).command ≡ doing of work) (bytes : AreBytes s.servers work) (readable : ReadableLaw) where
  lt : n < actor_count s
  lt = there s w inv n (record { of = of; work = work }) command

  -- a job that hasn't frozen its shard

  job-of : (k : Work) → work ≡ k → (x : JobValue) → (w.actors n).job ≡ Some x → IsJobOf k x
  job-of k its x is_job =
      let (c, at, asked) = inv.holds.working.command n x is_job in
      let both : Some c ≡ doing of k = sym at ∙ command ∙ ap (doing of) its in
      let whole : c ≡ record { of = of; work = k } = cc in
      subst (λ (z : Command). IsJobOf z.work x) whole asked

  stops : (k : Work) → work ≡ k → (x : JobValue) → (w.actors n).job ≡ Some x → x.stage ≡ IsCalled → IsStopFor (λ how. IsNotePrepared s w n (note.Ended how)) (IsNotePrepared s w n note.Left) k
  stops (work_is.Balance b) its x is_job called = leave-prepared s w inv n lt (left-asked s w inv n of work command bytes.actions b its x is_job (subst MayBeLeft (sym called) tt))
  stops (work_is.Action a) its x is_job called =
      end-prepared s w inv n lt NoMemory (ended s w inv n of (work_is.Action a) NoMemory (command ∙ ap (doing of) its)
      (subst (λ (o : Option JobValue). EndsJob o NoMemory) (sym is_job) (subst (λ (st : StageValue). EndsStage st NoMemory) (sym called) tt)))
  stops (work_is.Insert row routed) its x is_job called = absurd (job-of (work_is.Insert row routed) its x is_job)
  stops work_is.Query its x is_job called = absurd (job-of work_is.Query its x is_job)
  stops (work_is.Sync server pulled) its x is_job called = absurd (job-of (work_is.Sync server pulled) its x is_job)
  stops (work_is.Settle pulls) its x is_job called = absurd (job-of (work_is.Settle pulls) its x is_job)
  stops work_is.Bare its x is_job called = absurd (job-of work_is.Bare its x is_job)
  stops (work_is.Page subject stands shown) its x is_job called = absurd (job-of (work_is.Page subject stands shown) its x is_job)

  -- one that has frozen its shard is given up
  given-up : (x : JobValue) (stage : StageValue) → HasJob (w.actors n) x stage → HasFrozen stage → IsJobPrepared s w n job.Postpone
  given-up x stage has frozen = job-prepared s w inv n readable lt job.Postpone (record {
    of = of;
    work = work;
    command = command;
    job = x;
    is_job = has.is_job;
    frozen = subst HasFrozen (sym has.stage_is) frozen;
    few = λ b its. over-few s w inv n of work command bytes.actions b its x has.is_job;
    stands = next-stands s w inv n of work command bytes.actions;
    stock_is = inv.holds.numbering.tag stock_cell;
    ledger_is = inv.holds.numbering.tag ledger_cell;
  })

  jobs-instead : (step : JobStep) → IsJobAsked s w n step → IsInsteadPrepared s w n work (Jobs step)
  jobs-instead (job.Freeze map gate) k = stops work refl k.job (k.has).is_job (k.has).stage_is
  jobs-instead (job.CollectBlock block) k = given-up k.job _ k.has tt
  jobs-instead (job.CollectRow gate) k = given-up k.job _ k.has tt
  jobs-instead (job.BuildTrees gate) k = given-up k.job _ k.has tt
  jobs-instead (job.FinishMove from to gate new) k = given-up (k.moved.up).job _ (k.moved.up).has tt
  jobs-instead (job.FinishHere map gate new) k = given-up (k.moved.up).job _ (k.moved.up).has tt
  jobs-instead (job.FinishSplit map gate left right) k = given-up (k.up).job _ (k.up).has tt
  jobs-instead (job.ReadLoad map gate workers) k = tt
  jobs-instead (job.Drained gate) k = tt
  jobs-instead (job.BuildBlock cell) k = tt
  jobs-instead job.Postpone k = tt

  books-instead : (step : BookStep) → IsBookAsked s w n step → IsInsteadPrepared s w n work (Books step)
  books-instead (book.Route desk image) k = book-prepared s w inv n lt (book.FailUnrouted image) (record {
    of = k.of;
    row = k.row;
    command = k.command;
    server = k.server;
    role = k.role;
    image_is = k.image_is;
    ledger_is = inv.holds.numbering.tag ledger_cell;
  })
  books-instead (book.Sync image) k = end-prepared s w inv n lt NoMemory (record {
    of = k.of;
    work = k.work;
    command = k.command;
    ends = pull-ends (w.actors n).setting.servers k.server k.work (w.actors n).job k.due;
    ledger_is = k.ledger_is;
  })
  books-instead (book.Ack desk image) k = tt
  books-instead (book.Answer desk) k = tt
  books-instead (book.FailUnrouted image) k = tt
  books-instead (book.FailRouted desk image) k = tt
  books-instead (book.FailQuery desk) k = tt

  pub instead-prepared : (due : WorkDue) → IsWorkAsked s w n due → IsInsteadPrepared s w n work due
  instead-prepared (Takes desk) k = tt
  instead-prepared (Books step) k = books-instead step k
  instead-prepared (Jobs step) k = jobs-instead step k
  instead-prepared (Splits map gate) k = given-up k.of_job _ k.has tt
  instead-prepared (Ends how) k = tt
  instead-prepared Leaves k = tt
  instead-prepared (Shows subject) k = end-prepared s w inv n lt NoMemory (ended s w inv n k.of (work_is.Page subject true false) NoMemory k.command refl)
