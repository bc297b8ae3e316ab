-- What becomes of a state where the step that is due for an open command is made, or what is made in its place.
use Rattle.std.proofs.Common.{ℕ, suc, ◌≡◌, ◌≢◌, ◌∙◌, ◌≤◌, Bool, true, false, List, [], ◌∷◌, length, Option, Some, None, get_or, inl, inr, refl, sym, ap, subst, arith}
use Rattle.std.specs.Prelude.{option_and_then, option_map}
use Rattle.cell_stock.specs.declared.purse.Spare.{Spare}
use Rattle.core_due.specs.{Spares.{last_spare, spare_before}, Splits.split_of, WorksReady.{IsInsteadReady, IsStopFor, MayMakeBook, MayMakeJob, MayMakeNote, MaySplit}, declared.works.WorkDue.WorkDue}
use Rattle.core_due.specs.declared.works.WorkDue.TheVariants.{Books, Jobs, Shows, Splits}
use Rattle.core_due.specs.core_steps.specs.{Books.{EndsIn, book_kind, book_may_fail, book_places, book_tells}, Jobs.{job_kind, job_may_fail}, Steps.{IsFurther, IsSame, IsTold}, declared.books.BookStep.BookStep, declared.jobs.JobStep.JobStep}
use Rattle.core_due.specs.core_steps.specs.declared.books.BookStep.TheVariants as book
use Rattle.core_due.specs.core_steps.specs.declared.jobs.JobStep.TheVariants as job
use Rattle.core_due.specs.core_steps.specs.declared.notes.NoteStep.TheVariants as note
use Rattle.dim_hierarchy.specs.Dimension.{Dimension}
use Rattle.list_words.proofs.Elements.{Some-same}
use Rattle.row_ledger.specs.{declared.class.Subject.Subject, declared.event.Event.Event}
use Rattle.row_ledger.specs.declared.settings.How.TheVariants.{NoMemory}
use Rattle.seeded_run.specs.{Arms.{GoesOnWithCommand, TellsIfNote}, Drives.{GivesWay, HasActor, MayGiveWay, Stops, StopsAtDesk, StopsJob, instead_of, is_balance, is_balance_work, is_past_freeze, kind_of_stop}, Instead.in_place_of}
use Rattle.seeded_run.proofs.{Instead.falls-to, States.{further-then, of-actor, some-actor, still-same}}
use Rattle.core_pages.specs.volap_cell.proofs.Cells.States.{of-it, stands}
use Rattle.core_pages.specs.volap_cell.specs.{Setting.ledger_cell, State.{Has, IsWorldOf}, Steps.history_in, Values.{ActorValue, actor_of}, World.World, declared.actor.Actor.Actor, declared.command.Work.Work, declared.kind.Kind.Kind, declared.state.State.State}
use Rattle.core_pages.specs.volap_cell.specs.declared.command.Work.TheVariants as work_is
use Rattle.core_pages.specs.volap_cell.specs.declared.kind.Kind.TheVariants as kind

-- A step that is due is made.

-- a history isn't one that has an event more
longer-is-other : (e : Event) (before now : List Event) → now ≡ e ∷ before → now ≢ before
longer-is-other e before now grows same = (let long : length before ≡ suc (length before) = ap length (sym same ∙ grows) in omega arith)

abbrev pub is_note : Kind → Bool
is_note kind.Note = true
is_note _ = false

-- it is no note
pub other-made : (k : Kind) → is_note k ≡ false → (h : List Dimension) (n : ℕ) (was now : State) → IsFurther h k n was now → GoesOnWithCommand h k n was now
other-made k other h n was now further = (k, further, inl (λ e. (let never : true ≡ false = sym (ap is_note e) ∙ other in absurd (cc))), inl refl)

-- or it is one, and tells an event
pub note-made : (h : List Dimension) (n : ℕ) (was now : State) → IsFurther h kind.Note n was now
    → ((w v : World) → IsWorldOf was.cells.items was.actors.items w → IsWorldOf now.cells.items now.actors.items v → EndsIn (w.cells ledger_cell) (v.cells ledger_cell))
    → GoesOnWithCommand h kind.Note n was now
note-made h n was now further tells = (kind.Note, further, inr (λ w v i j. (let t = tells w v i j in longer-is-other t.0 (history_in w) (history_in v) t.2)), inl refl)

-- some steps at desks are notes
pub book-made : (step : BookStep) (h : List Dimension) (n : ℕ) (was now : State) → IsFurther h (book_kind step) n was now → IsTold was now n (book_places step) (book_tells step) → GoesOnWithCommand h (book_kind step) n was now
book-made (book.Route desk image) h n was now further told = other-made kind.Route refl h n was now further
book-made (book.Ack desk image) h n was now further told = other-made kind.Ack refl h n was now further
book-made (book.Answer desk) h n was now further told = other-made kind.Answer refl h n was now further
book-made (book.Sync image) h n was now further told = other-made kind.Sync refl h n was now further
book-made (book.FailUnrouted image) h n was now further told = note-made h n was now further told
book-made (book.FailRouted desk image) h n was now further told = note-made h n was now further told
book-made (book.FailQuery desk) h n was now further told = note-made h n was now further told

-- Where the state is the same.

module _ (was now : State) (same : IsSame was now) where
  told-from : (k : Kind) (next : State) → TellsIfNote k now next → TellsIfNote k was next
  told-from k next (inl other) = inl other
  told-from k next (inr tells) = inr (λ w v i j. tells w v (same.same w i) j)

  -- the actor goes on from there as from before
  pub goes-on-from : (due : Kind) (h : List Dimension) (n : ℕ) (next : State) → GoesOnWithCommand h due n now next → GoesOnWithCommand h due n was next
  goes-on-from due h n next goes = (goes.0, further-then h goes.0 n was now next same goes.1, told-from goes.0 next goes.2, goes.3)

  -- and so in place of a step that found no memory
  pub goes-on-instead : (due instead : Kind) → in_place_of due ≡ Some instead → in_place_of instead ≡ None → (h : List Dimension) (n : ℕ) (next : State) → GoesOnWithCommand h instead n now next → GoesOnWithCommand h due n was next
  goes-on-instead due instead other none h n next goes = (goes.0, further-then h goes.0 n was now next same goes.1, told-from goes.0 next goes.2, falls-to due instead goes.0 other none goes.3)

-- What is made in place of a step that found no memory.

module _ (h : List Dimension) (state : State) (n : ℕ) where
  by-left : (work : Work) → is_balance_work work ≡ true → IsStopFor (λ how. MayMakeNote h state n (note.Ended how)) (MayMakeNote h state n note.Left) work → MayMakeNote h state n note.Left
  by-left (work_is.Balance b) is stop = stop
  by-left (work_is.Insert row routed) is stop = (let never : false ≡ true = is in absurd (cc))
  by-left work_is.Query is stop = (let never : false ≡ true = is in absurd (cc))
  by-left (work_is.Sync server pulled) is stop = (let never : false ≡ true = is in absurd (cc))
  by-left (work_is.Settle pulls) is stop = (let never : false ≡ true = is in absurd (cc))
  by-left work_is.Bare is stop = (let never : false ≡ true = is in absurd (cc))
  by-left (work_is.Page subject stands shown) is stop = (let never : false ≡ true = is in absurd (cc))
  by-left (work_is.Action a) is stop = (let never : false ≡ true = is in absurd (cc))

  by-end : (work : Work) → is_balance_work work ≡ false → IsStopFor (λ how. MayMakeNote h state n (note.Ended how)) (MayMakeNote h state n note.Left) work → MayMakeNote h state n (note.Ended NoMemory)
  by-end (work_is.Balance b) is stop = (let never : true ≡ false = is in absurd (cc))
  by-end (work_is.Insert row routed) is stop = stop
  by-end work_is.Query is stop = stop
  by-end (work_is.Sync server pulled) is stop = stop
  by-end (work_is.Settle pulls) is stop = stop
  by-end work_is.Bare is stop = stop
  by-end (work_is.Page subject stands shown) is stop = stop
  by-end (work_is.Action a) is stop = stop

  -- a balance leaves its action
  pub stops-left : (a : ActorValue) → Stops h state n a → is_balance a.command ≡ true → MayMakeNote h state n note.Left
  stops-left a stops is = by-left stops.1 (sym (ap is_balance stops.2) ∙ is) stops.3

  -- any other command ends
  pub stops-end : (a : ActorValue) → Stops h state n a → is_balance a.command ≡ false → MayMakeNote h state n (note.Ended NoMemory)
  stops-end a stops is = by-end stops.1 (sym (ap is_balance stops.2) ∙ is) stops.3

  -- what is made in place of what is due, whatever the work
  given-way : (due : WorkDue) (P : Type 0) → ((work : Work) → IsInsteadReady h state n work due → P) → HasActor state n (GivesWay h state n due) → P
  given-way due P so has = (let k = some-actor state n (GivesWay h state n due) has in so (k.2).1 (k.2).3)

  -- a job's step that may fail
  pub job-stops : (step : JobStep) → job_may_fail step ≡ true → HasActor state n (GivesWay h state n (Jobs step)) → StopsJob h state n (is_past_freeze step)
  job-stops (job.Freeze map gate) may has = has
  job-stops (job.CollectBlock block) may has = given-way (Jobs (job.CollectBlock block)) (MayMakeJob h state n job.Postpone) (λ work k. k) has
  job-stops (job.CollectRow gate) may has = given-way (Jobs (job.CollectRow gate)) (MayMakeJob h state n job.Postpone) (λ work k. k) has
  job-stops (job.BuildTrees gate) may has = given-way (Jobs (job.BuildTrees gate)) (MayMakeJob h state n job.Postpone) (λ work k. k) has
  job-stops (job.FinishSplit map gate left right) may has = given-way (Jobs (job.FinishSplit map gate left right)) (MayMakeJob h state n job.Postpone) (λ work k. k) has
  job-stops (job.FinishMove from to gate new) may has = given-way (Jobs (job.FinishMove from to gate new)) (MayMakeJob h state n job.Postpone) (λ work k. k) has
  job-stops (job.FinishHere map gate new) may has = given-way (Jobs (job.FinishHere map gate new)) (MayMakeJob h state n job.Postpone) (λ work k. k) has
  job-stops (job.ReadLoad map gate workers) may has = (let never : false ≡ true = may in absurd (cc))
  job-stops (job.Drained gate) may has = (let never : false ≡ true = may in absurd (cc))
  job-stops (job.BuildBlock cell) may has = (let never : false ≡ true = may in absurd (cc))
  job-stops job.Postpone may has = (let never : false ≡ true = may in absurd (cc))

  -- a page that isn't made
  pub page-stops : (subject : Subject) → HasActor state n (GivesWay h state n (Shows subject)) → MayMakeNote h state n (note.Ended NoMemory)
  page-stops subject has = given-way (Shows subject) (MayMakeNote h state n (note.Ended NoMemory)) (λ work k. k) has

  -- a step at a desk that may fail
  pub desk-stops : (step : BookStep) → book_may_fail step ≡ true → HasActor state n (GivesWay h state n (Books step)) → StopsAtDesk h state n (instead_of step)
  desk-stops (book.Route desk image) may has = given-way (Books (book.Route desk image)) (MayMakeBook h state n (book.FailUnrouted image)) (λ work k. k) has
  desk-stops (book.Sync image) may has = given-way (Books (book.Sync image)) (MayMakeNote h state n (note.Ended NoMemory)) (λ work k. k) has
  desk-stops (book.Ack desk image) may has = (let never : false ≡ true = may in absurd (cc))
  desk-stops (book.Answer desk) may has = (let never : false ≡ true = may in absurd (cc))
  desk-stops (book.FailUnrouted image) may has = (let never : false ≡ true = may in absurd (cc))
  desk-stops (book.FailRouted desk image) may has = (let never : false ≡ true = may in absurd (cc))
  desk-stops (book.FailQuery desk) may has = (let never : false ≡ true = may in absurd (cc))

-- of which kind that is

pub job-stands : (step : JobStep) → job_may_fail step ≡ true → in_place_of (job_kind step) ≡ Some (kind_of_stop (is_past_freeze step))
job-stands (job.Freeze map gate) may = refl
job-stands (job.CollectBlock block) may = refl
job-stands (job.CollectRow gate) may = refl
job-stands (job.BuildTrees gate) may = refl
job-stands (job.FinishSplit map gate left right) may = refl
job-stands (job.FinishMove from to gate new) may = refl
job-stands (job.FinishHere map gate new) may = refl
job-stands (job.ReadLoad map gate workers) may = (let never : false ≡ true = may in absurd (cc))
job-stands (job.Drained gate) may = (let never : false ≡ true = may in absurd (cc))
job-stands (job.BuildBlock cell) may = (let never : false ≡ true = may in absurd (cc))
job-stands job.Postpone may = (let never : false ≡ true = may in absurd (cc))

pub stop-is-sure : (frozen : Bool) → in_place_of (kind_of_stop frozen) ≡ None
stop-is-sure true = refl
stop-is-sure false = refl

pub book-stands : (step : BookStep) → book_may_fail step ≡ true → in_place_of (book_kind step) ≡ Some kind.Note
book-stands (book.Route desk image) may = refl
book-stands (book.Sync image) may = refl
book-stands (book.Ack desk image) may = (let never : false ≡ true = may in absurd (cc))
book-stands (book.Answer desk) may = (let never : false ≡ true = may in absurd (cc))
book-stands (book.FailUnrouted image) may = (let never : false ≡ true = may in absurd (cc))
book-stands (book.FailRouted desk image) may = (let never : false ≡ true = may in absurd (cc))
book-stands (book.FailQuery desk) may = (let never : false ≡ true = may in absurd (cc))

-- The end of a split.

-- there are two spares
pub two-spares : (map gate : ℕ) (spares : List Spare) (step : JobStep) → split_of map gate spares ≡ Some step → 2 ≤ length spares
two-spares map gate [] step is = (let never : ◌≡◌ {A = Option JobStep} None (Some step) = is in absurd (cc))
two-spares map gate (x ∷ []) step is = (let never : ◌≡◌ {A = Option JobStep} None (Some step) = is in absurd (cc))
two-spares map gate (x ∷ y ∷ spares) step is = omega arith

built : (map gate : ℕ) (last before : Option ℕ) (step : JobStep) → option_and_then (λ left. option_map (λ right. job.FinishSplit map gate left right) before) last ≡ Some step
    → (left : ℕ) × (right : ℕ) × (step ≡ job.FinishSplit map gate left right)
built map gate None before step is = (let never : ◌≡◌ {A = Option JobStep} None (Some step) = is in absurd (cc))
built map gate (Some left) None step is = (let never : ◌≡◌ {A = Option JobStep} None (Some step) = is in absurd (cc))
built map gate (Some left) (Some right) step is = (left, right, Some-same (job.FinishSplit map gate left right) step is)

pub is-split : (map gate : ℕ) (spares : List Spare) (step : JobStep) → split_of map gate spares ≡ Some step → (left : ℕ) × (right : ℕ) × (step ≡ job.FinishSplit map gate left right)
is-split map gate spares step is = built map gate (last_spare spares) (spare_before spares) step is

module _ (h : List Dimension) (state : State) (n map gate : ℕ) (may : MaySplit h state n map gate) where
  split-here : (x : Actor) × (get_or state.actors.items n None ≡ Some x) × Has (split_of map gate (actor_of x).purse) (MayMakeJob h state n)
  split-here = stands (get_or state.actors.items n None) (λ x. Has (split_of map gate (actor_of x).purse) (MayMakeJob h state n)) may

  module _ (step : JobStep) (is : HasActor state n (λ a. split_of map gate a.purse ≡ Some step)) where
    -- what is found may be made
    pub split-may : MayMakeJob h state n step
    split-may =
        let x = split-here in
        of-it (split_of map gate (actor_of x.0).purse) (MayMakeJob h state n) step x.2 (of-actor state n (λ a. split_of map gate a.purse ≡ Some step) is x.0 x.1)

    -- it is such a step
    pub split-shape : (left : ℕ) × (right : ℕ) × (step ≡ job.FinishSplit map gate left right)
    split-shape =
        let x = split-here in
        is-split map gate (actor_of x.0).purse step (of-actor state n (λ a. split_of map gate a.purse ≡ Some step) is x.0 x.1)

    -- and gives way as what was due
    pub split-gives-way : (next : State) → IsSame state next → MayGiveWay h state n (Splits map gate) → MayGiveWay h next n (Jobs step)
    split-gives-way next same gives =
        let k = split-shape in
        subst (λ (x : JobStep). MayGiveWay h next n (Jobs x)) (sym k.2) (λ now still. gives now (still-same state next now same still))
