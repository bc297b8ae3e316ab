-- What is due for an actor with an open command can be made, and where it finds no memory, what is done then: what these steps ask is
-- so in every state that meets the invariant, and a state that one thread holds has their cells.
use Rattle.std.specs.Prelude.{ℕ, ◌≡◌, ◌+◌, ◌^◌, ◌<◌, ⊤, true, false, List, [], length, get_or, None}
use Rattle.core_due.specs.{Ready.{IsPrepared, IsStepAsked, IsStepPrepared, MayMakePart}, Splits.split_of, declared.works.WorkDue.WorkDue}
use Rattle.core_due.specs.declared.works.WorkDue.TheVariants.{Books, Ends, Jobs, Leaves, Shows, Splits, Takes}
use Rattle.core_steps.specs.{Books.{book_asks, book_places}, Jobs.{job_asks, job_places}, Notes.{note_asks, note_places, note_sees}, Places.values_at, Steps.MayMake, declared.books.BookStep.BookStep, declared.jobs.JobStep.JobStep, declared.notes.NoteStep.NoteStep}
use Rattle.core_steps.specs.declared.books.BookStep.TheVariants as book
use Rattle.core_steps.specs.declared.jobs.JobStep.TheVariants as job
use Rattle.core_steps.specs.declared.notes.NoteStep.TheVariants as note
use Rattle.core_steps.specs.declared.parts.PartStep.TheVariants as part
use Rattle.dim_hierarchy.specs.Dimension.{Dimension}
use Rattle.row_ledger.specs.declared.class.Subject.{Subject}
use Rattle.row_ledger.specs.declared.settings.How.{How}
use Rattle.row_ledger.specs.declared.settings.How.TheVariants.{NoMemory}
use Rattle.core_steps.specs.volap_cell.specs.{AdminKinds.HasJob, ImageKinds.doing, Setting.{Setting, map_cell}, State.Has, Steps.history_in, Values.{BuildingValue, Builds, JobValue, actor_of}, World.World, declared.command.Work.Work, declared.state.State.State}
use Rattle.core_steps.specs.volap_cell.specs.declared.command.Work.TheVariants as work_is

-- What its numbers tell: servers have numbers of one byte, and a byte counts the actions of a balance.

-- how many actions a work may plan, none where it is no balance
abbrev pub most_in : Work → ℕ
most_in (work_is.Balance b) = b.most
most_in _ = 0

pub record AreBytes (many : ℕ) (work : Work) : Type 0 where
  pub servers : many < 2 ^ 8
  pub actions : most_in work < 2 ^ 8

-- What steps ask of a state.

abbrev pub IsBookAsked : Setting → World → ℕ → BookStep → Type 0
IsBookAsked s w n step = book_asks step s.hierarchy (values_at w.cells (book_places step)) (w.actors n)

abbrev pub IsJobAsked : Setting → World → ℕ → JobStep → Type 0
IsJobAsked s w n step = job_asks step s.hierarchy (values_at w.cells (job_places step)) (w.actors n)

abbrev pub IsNoteAsked : Setting → World → ℕ → NoteStep → Type 0
IsNoteAsked s w n step = note_asks step s.hierarchy (values_at w.cells (note_places step)) (w.actors n)

-- What is still to be made.

-- the blocks of both trees of the actor's split are in their cells, and this is the gate of its shard, to which this table leads
pub record IsSplitting (s : Setting) (w : World) (n map gate : ℕ) : Type 0 where
  pub of_job : JobValue
  pub building : BuildingValue
  pub has : HasJob (w.actors n) of_job (Builds building)
  pub splits : of_job.to ≡ None
  pub in_cells : building.unbuilt ≡ []
  pub map_is : map ≡ map_cell s of_job.worker
  pub gate_is : gate ≡ building.frozen.gate

-- the actor's command has begun with the newest event, and is to show a page of this
pub record IsShowing (w : World) (n : ℕ) (subject : Subject) : Type 0 where
  pub of : ℕ
  pub command : (w.actors n).command ≡ doing of (work_is.Page subject true false)
  pub next : length (history_in w) ≡ of + 1

-- Works.

-- what is due asks this, of whatever state it is due in
abbrev pub IsWorkAsked : Setting → World → ℕ → WorkDue → Type 0
IsWorkAsked s w n (Takes desk) = IsStepAsked s w n (part.TakePart desk)
IsWorkAsked s w n (Books step) = IsBookAsked s w n step
IsWorkAsked s w n (Jobs step) = IsJobAsked s w n step
IsWorkAsked s w n (Splits map gate) = IsSplitting s w n map gate
IsWorkAsked s w n (Ends how) = IsNoteAsked s w n (note.Ended how)
IsWorkAsked s w n Leaves = IsNoteAsked s w n note.Left
IsWorkAsked s w n (Shows subject) = IsShowing w n subject

-- What is said of each step that may be due, or be made where memory is wanting.

-- of what is due: of a part that is taken at a desk, of steps of commands and of jobs, of an end and of a balance that goes on, and of the
-- end of a split whose table and gate these are
abbrev pub IsWorkFor : (Take : ℕ → Type 0) → (Book : BookStep → Type 0) → (Job : JobStep → Type 0) → (End : How → Type 0) → (Leave : Type 0) → (Split : (map gate : ℕ) → Type 0) → WorkDue → Type 0
IsWorkFor Take Book Job End Leave Split (Takes desk) = Take desk
IsWorkFor Take Book Job End Leave Split (Books step) = Book step
IsWorkFor Take Book Job End Leave Split (Jobs step) = Job step
IsWorkFor Take Book Job End Leave Split (Splits map gate) = Split map gate
IsWorkFor Take Book Job End Leave Split (Ends how) = End how
IsWorkFor Take Book Job End Leave Split Leaves = Leave
IsWorkFor Take Book Job End Leave Split (Shows subject) = ⊤

-- a job that hasn't frozen its shard is left by its balance; any other command ends
abbrev pub IsStopFor : (End : How → Type 0) → (Leave : Type 0) → Work → Type 0
IsStopFor End Leave (work_is.Balance b) = Leave
IsStopFor End Leave work = End NoMemory

-- one that has frozen its shard is given up
abbrev pub IsJobInstead : (Job : JobStep → Type 0) → (End : How → Type 0) → (Leave : Type 0) → Work → JobStep → Type 0
IsJobInstead Job End Leave work (job.Freeze map gate) = IsStopFor End Leave work
IsJobInstead Job End Leave work (job.CollectBlock block) = Job job.Postpone
IsJobInstead Job End Leave work (job.CollectRow gate) = Job job.Postpone
IsJobInstead Job End Leave work (job.BuildTrees gate) = Job job.Postpone
IsJobInstead Job End Leave work (job.FinishSplit map gate left right) = Job job.Postpone
IsJobInstead Job End Leave work (job.FinishMove from to gate new) = Job job.Postpone
IsJobInstead Job End Leave work (job.FinishHere map gate new) = Job job.Postpone
IsJobInstead Job End Leave work _ = ⊤

-- of what is made in place of what is due
abbrev pub IsInsteadFor : (Book : BookStep → Type 0) → (Job : JobStep → Type 0) → (End : How → Type 0) → (Leave : Type 0) → Work → WorkDue → Type 0
IsInsteadFor Book Job End Leave work (Books (book.Route desk image)) = Book (book.FailUnrouted image)
IsInsteadFor Book Job End Leave work (Books (book.Sync image)) = End NoMemory
IsInsteadFor Book Job End Leave work (Jobs step) = IsJobInstead Job End Leave work step
IsInsteadFor Book Job End Leave work (Splits map gate) = Job job.Postpone
IsInsteadFor Book Job End Leave work (Shows subject) = End NoMemory
IsInsteadFor Book Job End Leave work _ = ⊤

-- Of a state that meets the invariant: the steps are prepared.

abbrev pub IsBookPrepared : Setting → World → ℕ → BookStep → Type 0
IsBookPrepared s w n step = IsPrepared s w n (book_places step) (book_asks step s.hierarchy) ⊤

abbrev pub IsJobPrepared : Setting → World → ℕ → JobStep → Type 0
IsJobPrepared s w n step = IsPrepared s w n (job_places step) (job_asks step s.hierarchy) ⊤

abbrev pub IsNotePrepared : Setting → World → ℕ → NoteStep → Type 0
IsNotePrepared s w n step = IsPrepared s w n (note_places step) (note_asks step s.hierarchy) ⊤

-- the cells of the last two spares are for the children's gates
abbrev pub IsSplitPrepared : Setting → World → (n map gate : ℕ) → Type 0
IsSplitPrepared s w n map gate = Has (split_of map gate (w.actors n).purse) (IsJobPrepared s w n)

abbrev pub IsWorkPrepared : Setting → World → ℕ → WorkDue → Type 0
IsWorkPrepared s w n due =
    IsWorkFor (λ desk. IsStepPrepared s w n (part.TakePart desk)) (IsBookPrepared s w n) (IsJobPrepared s w n) (λ how. IsNotePrepared s w n (note.Ended how)) (IsNotePrepared s w n note.Left) (IsSplitPrepared s w n) due

abbrev pub IsInsteadPrepared : Setting → World → ℕ → Work → WorkDue → Type 0
IsInsteadPrepared s w n work due = IsInsteadFor (IsBookPrepared s w n) (IsJobPrepared s w n) (λ how. IsNotePrepared s w n (note.Ended how)) (IsNotePrepared s w n note.Left) work due

-- Of a state that one thread holds: they may be made.

abbrev pub MayMakeBook : List Dimension → State → ℕ → BookStep → Type 0
MayMakeBook h state n step = MayMake h state n (book_places step) (book_asks step h) (λ s v m. ⊤)

abbrev pub MayMakeJob : List Dimension → State → ℕ → JobStep → Type 0
MayMakeJob h state n step = MayMake h state n (job_places step) (job_asks step h) (λ s v m. ⊤)

abbrev pub MayMakeNote : List Dimension → State → ℕ → NoteStep → Type 0
MayMakeNote h state n step = MayMake h state n (note_places step) (note_asks step h) (note_sees step)

abbrev pub MaySplit : List Dimension → State → (n map gate : ℕ) → Type 0
MaySplit h state n map gate = Has (get_or state.actors.items n None) (λ a. Has (split_of map gate (actor_of a).purse) (MayMakeJob h state n))

abbrev pub IsWorkReady : List Dimension → State → ℕ → WorkDue → Type 0
IsWorkReady h state n due =
    IsWorkFor (λ desk. MayMakePart h state n (part.TakePart desk)) (MayMakeBook h state n) (MayMakeJob h state n) (λ how. MayMakeNote h state n (note.Ended how)) (MayMakeNote h state n note.Left) (MaySplit h state n) due

abbrev pub IsInsteadReady : List Dimension → State → ℕ → Work → WorkDue → Type 0
IsInsteadReady h state n work due = IsInsteadFor (MayMakeBook h state n) (MayMakeJob h state n) (λ how. MayMakeNote h state n (note.Ended how)) (MayMakeNote h state n note.Left) work due
