-- What is prepared for a command, and what is made in its place, may be made in a state that one thread holds.
use Rattle.std.proofs.Common.{ℕ, ◌≡◌, ◌<◌, ◌∙◌, List, length, Option, Some, None, get_or, sym, ap, subst}
use Rattle.std.specs.Prelude.{⊤}
use Rattle.core_due.specs.{Ready.{IsPrepared, IsStateOf}, Splits.split_of, WorksReady.{IsInsteadPrepared, IsInsteadReady, IsJobPrepared, IsNotePrepared, IsSplitPrepared, IsStopFor, IsWorkPrepared, IsWorkReady, MayMakeJob, MayMakeNote, MaySplit}, declared.works.WorkDue.WorkDue}
use Rattle.core_due.specs.declared.works.WorkDue.TheVariants.{Books, Ends, Jobs, Leaves, Shows, Splits, Takes}
use Rattle.core_due.proofs.InStates.{may-make}
use Rattle.core_steps.specs.{Books.{book_asks, book_places}, Jobs.{job_asks, job_places}, Notes.{note_asks, note_places}, Parts.{part_asks, part_places}, Steps.{MayMake}, declared.books.BookStep.BookStep, declared.jobs.JobStep.JobStep}
use Rattle.core_steps.specs.declared.books.BookStep.TheVariants as book
use Rattle.core_steps.specs.declared.jobs.JobStep.TheVariants as job
use Rattle.core_steps.specs.declared.notes.NoteStep.TheVariants as note
use Rattle.core_steps.specs.declared.parts.PartStep.TheVariants as part
use Rattle.dim_hierarchy.specs.Dimension.{Dimension}
use Rattle.row_ledger.specs.{declared.settings.How.How, declared.settings.Use.Use}
use Rattle.row_ledger.specs.declared.settings.How.TheVariants.{NoMemory}
use Rattle.core_steps.specs.volap_cell.proofs.Cells.States.{is-some, stands}
use Rattle.core_steps.specs.volap_cell.specs.{Cells.{CellValue}, Setting.{Setting}, State.{Has}, Values.{ActorValue, actor_of}, World.{World}, declared.command.Work.Work, declared.state.State.State}
use Rattle.core_steps.specs.volap_cell.specs.declared.command.Work.TheVariants as work_is

module _ (h : List Dimension) (with : Use) (state : State) (s : Setting) (w : World) (is : IsStateOf h with state s w) (n : ℕ) where
  can-make : (row : List (Option ℕ)) (Asks : List Dimension → List (Option CellValue) → ActorValue → Type 0) → IsPrepared s w n row (Asks s.hierarchy) ⊤ → MayMake h state n row (Asks h) (λ t v m. ⊤)
  can-make row Asks p = may-make h with state s w is n row Asks ⊤ p tt

  may-split : (map gate : ℕ) → IsSplitPrepared s w n map gate → MaySplit h state n map gate
  may-split map gate has =
      let k = stands (split_of map gate (w.actors n).purse) (IsJobPrepared s w n) has in
      let lt : n < length state.actors.items = subst (λ (m : ℕ). n < m) (sym is.count) (k.2).actor in
      let a = stands (get_or state.actors.items n None) (λ x. actor_of x ≡ w.actors n) (is.is.actor n lt) in
      let found : split_of map gate (actor_of a.0).purse ≡ Some k.0 = ap (λ (x : ActorValue). split_of map gate x.purse) a.2 ∙ k.1 in
      is-some (get_or state.actors.items n None) (λ x. Has (split_of map gate (actor_of x).purse) (MayMakeJob h state n)) a.0 a.1
      (is-some (split_of map gate (actor_of a.0).purse) (MayMakeJob h state n) k.0 found (can-make (job_places k.0) (job_asks k.0) k.2))

  pub work-ready : (due : WorkDue) → IsWorkPrepared s w n due → IsWorkReady h state n due
  work-ready (Takes desk) p = can-make (part_places (part.TakePart desk)) (part_asks (part.TakePart desk)) p
  work-ready (Books step) p = can-make (book_places step) (book_asks step) p
  work-ready (Jobs step) p = can-make (job_places step) (job_asks step) p
  work-ready (Splits map gate) p = may-split map gate p
  work-ready (Ends how) p = can-make (note_places (note.Ended how)) (note_asks (note.Ended how)) p
  work-ready Leaves p = can-make (note_places note.Left) (note_asks note.Left) p
  work-ready (Shows subject) p = tt

  may-end : (how : How) → IsNotePrepared s w n (note.Ended how) → MayMakeNote h state n (note.Ended how)
  may-end how p = can-make (note_places (note.Ended how)) (note_asks (note.Ended how)) p

  may-stop : (work : Work) → IsStopFor (λ how. IsNotePrepared s w n (note.Ended how)) (IsNotePrepared s w n note.Left) work → IsStopFor (λ how. MayMakeNote h state n (note.Ended how)) (MayMakeNote h state n note.Left) work
  may-stop (work_is.Balance b) p = can-make (note_places note.Left) (note_asks note.Left) p
  may-stop (work_is.Insert row routed) p = may-end NoMemory p
  may-stop work_is.Query p = may-end NoMemory p
  may-stop (work_is.Sync server pulled) p = may-end NoMemory p
  may-stop (work_is.Settle pulls) p = may-end NoMemory p
  may-stop work_is.Bare p = may-end NoMemory p
  may-stop (work_is.Page subject stands shown) p = may-end NoMemory p
  may-stop (work_is.Action a) p = may-end NoMemory p

  give-up : IsJobPrepared s w n job.Postpone → MayMakeJob h state n job.Postpone
  give-up p = can-make (job_places job.Postpone) (job_asks job.Postpone) p

  job-instead : (work : Work) (step : JobStep) → IsInsteadPrepared s w n work (Jobs step) → IsInsteadReady h state n work (Jobs step)
  job-instead work (job.Freeze map gate) p = may-stop work p
  job-instead work (job.CollectBlock block) p = give-up p
  job-instead work (job.CollectRow gate) p = give-up p
  job-instead work (job.BuildTrees gate) p = give-up p
  job-instead work (job.FinishSplit map gate left right) p = give-up p
  job-instead work (job.FinishMove from to gate new) p = give-up p
  job-instead work (job.FinishHere map gate new) p = give-up p
  job-instead work (job.ReadLoad map gate workers) p = tt
  job-instead work (job.Drained gate) p = tt
  job-instead work (job.BuildBlock cell) p = tt
  job-instead work job.Postpone p = tt

  book-instead : (work : Work) (step : BookStep) → IsInsteadPrepared s w n work (Books step) → IsInsteadReady h state n work (Books step)
  book-instead work (book.Route desk image) p = can-make (book_places (book.FailUnrouted image)) (book_asks (book.FailUnrouted image)) p
  book-instead work (book.Sync image) p = may-end NoMemory p
  book-instead work (book.Ack desk image) p = tt
  book-instead work (book.Answer desk) p = tt
  book-instead work (book.FailUnrouted image) p = tt
  book-instead work (book.FailRouted desk image) p = tt
  book-instead work (book.FailQuery desk) p = tt

  pub instead-ready : (work : Work) (due : WorkDue) → IsInsteadPrepared s w n work due → IsInsteadReady h state n work due
  instead-ready work (Takes desk) p = tt
  instead-ready work (Books step) p = book-instead work step p
  instead-ready work (Jobs step) p = job-instead work step p
  instead-ready work (Splits map gate) p = give-up p
  instead-ready work (Ends how) p = tt
  instead-ready work Leaves p = tt
  instead-ready work (Shows subject) p = may-end NoMemory p
