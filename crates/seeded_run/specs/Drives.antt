-- What the steps that an actor makes ask of a state that one thread holds.
use Rattle.std.specs.Prelude.{ℕ, ◌≡◌, ⊤, [], Bool, true, false, List, None, Option, Some, get_or}
use Rattle.core_due.specs.{Awaited.IsAwaited, Look.{setting_by, world_by}, Parts.{due_may_fail, ending}, Ready.{CanDescend, MayMakePart, MayMakeRow, MayMakeTree}, Rows.{descent_of, entrance_of}, WorksReady.{IsInsteadReady, IsStopFor, MayMakeBook, MayMakeJob, MayMakeNote}, declared.parts.PartDue.PartDue, declared.works.WorkDue.WorkDue}
use Rattle.core_due.specs.declared.parts.PartDue.TheVariants.{Descends, Enters, Part, Tree}
use Rattle.core_due.specs.declared.works.WorkDue.TheVariants.{Shows}
use Rattle.core_due.specs.core_steps.specs.{Steps.{IsSame, IsSound}, declared.books.BookStep.BookStep, declared.jobs.JobStep.JobStep, declared.rows.RowStep.RowStep}
use Rattle.core_due.specs.core_steps.specs.declared.books.BookStep.TheVariants as book
use Rattle.core_due.specs.core_steps.specs.declared.jobs.JobStep.TheVariants as job
use Rattle.core_due.specs.core_steps.specs.declared.notes.NoteStep.TheVariants as note
use Rattle.core_due.specs.core_steps.specs.declared.parts.PartStep.TheVariants.{TakePart}
use Rattle.dim_hierarchy.specs.Dimension.{Dimension}
use Rattle.row_ledger.specs.declared.settings.Use.{Use}
use Rattle.row_ledger.specs.declared.settings.How.TheVariants as how
use Rattle.core_pages.specs.volap_cell.specs.{ImageKinds.doing, Setting.desk_cell, ShardKinds.pin_of, State.Has, Values.{ActorValue, ErrandValue, actor_of}, declared.command.Command.Command, declared.command.Work.Work, declared.kind.Kind.Kind, declared.state.State.State}
use Rattle.core_pages.specs.volap_cell.specs.declared.command.Work.TheVariants as work_is
use Rattle.core_pages.specs.volap_cell.specs.declared.kind.Kind.TheVariants as kind
use Rattle.seeded_run.specs.{Pages.CanShow, declared.works.Instead.Instead}
use Rattle.seeded_run.specs.declared.works.Instead.TheVariants.{Ends, Fails}

-- the actor of a state
abbrev pub HasActor : State → ℕ → (ActorValue → Type 0) → Type 0
HasActor state n P = Has (get_or state.actors.items n None) (λ a. P (actor_of a))

-- Parts.

-- a step that is found may be made
abbrev pub IsFound : List Dimension → State → ℕ → Option RowStep → Type 0
IsFound h state n found = (step : RowStep) × (found ≡ Some step) × MayMakeRow h state n step

-- what is due for a part may be made
abbrev pub MayGoOn : List Dimension → State → ℕ → PartDue → Type 0
MayGoOn h state n (Part step) = MayMakePart h state n step
MayGoOn h state n (Tree step) = MayMakeTree h state n step
MayGoOn h state n (Enters map gate) = HasActor state n (λ a. IsFound h state n (entrance_of (world_by state.cells.items) a.purse map gate))
MayGoOn h state n (Descends block) = HasActor state n (λ a. CanDescend h state.cells.items a block × IsFound h state n (descent_of h (world_by state.cells.items) a block))

-- the actor's part may end
abbrev pub EndsPart : List Dimension → Use → State → ℕ → ActorValue → Type 0
EndsPart h with state n a = (e : ErrandValue) × (a.errand ≡ Some e) × MayMakePart h state n (ending (setting_by [] with) e (pin_of e.task))

abbrev pub MayEnd : List Dimension → Use → State → ℕ → Type 0
MayEnd h with state n = IsSound h state × HasActor state n (EndsPart h with state n)

-- where the step that is due finds no memory, the part may end in the same state
abbrev pub MayEndInstead : List Dimension → Use → State → ℕ → PartDue → Type 0
MayEndInstead h with state n due = due_may_fail due ≡ true → (now : State) → IsSame state now → MayEnd h with now n

-- a part waits for the worker, and from the first desk that has one the actor may take it
abbrev pub MayTake : List Dimension → Use → State → (n worker : ℕ) → Type 0
MayTake h with state n worker =
    (server : ℕ) × IsAwaited with state.cells.items worker server × ((first : ℕ) → IsAwaited with state.cells.items worker first → MayMakePart h state n (TakePart (desk_cell (setting_by [] with) first)))

-- Open commands.

-- the actor's open command gives way to another step, or ends
abbrev pub GivesWay : List Dimension → State → ℕ → WorkDue → ActorValue → Type 0
GivesWay h state n due a = (of : ℕ) × (work : Work) × (a.command ≡ doing of work) × IsInsteadReady h state n work due

-- where the step that is due finds no memory, so it does in the same state
abbrev pub MayGiveWay : List Dimension → State → ℕ → WorkDue → Type 0
MayGiveWay h state n due = (now : State) → IsSame state now → IsSound h now × HasActor now n (GivesWay h now n due)

-- What is made in place of a step of a command.

-- whether a command is a balance

abbrev pub is_balance_work : Work → Bool
is_balance_work (work_is.Balance b) = true
is_balance_work _ = false

abbrev pub is_balance : Option Command → Bool
is_balance None = false
is_balance (Some c) = is_balance_work c.work

-- the actor's open command stops: a balance leaves the action that it is at, and any other command ends for want of memory
abbrev pub Stops : List Dimension → State → ℕ → ActorValue → Type 0
Stops h state n a = (of : ℕ) × (work : Work) × (a.command ≡ doing of work) × IsStopFor (λ how. MayMakeNote h state n (note.Ended how)) (MayMakeNote h state n note.Left) work

-- whether the shard of a job stays frozen where this step of it finds no memory
abbrev pub is_past_freeze : JobStep → Bool
is_past_freeze (job.Freeze map gate) = false
is_past_freeze step = true

-- a job whose shard stays frozen is given up, and else its command stops

abbrev pub StopsJob : List Dimension → State → ℕ → (frozen : Bool) → Type 0
StopsJob h state n true = MayMakeJob h state n job.Postpone
StopsJob h state n false = HasActor state n (Stops h state n)

abbrev pub kind_of_stop : (frozen : Bool) → Kind
kind_of_stop true = kind.Postpone
kind_of_stop false = kind.Note

-- an insert fails whose part isn't laid, and any other command ends for want of memory

abbrev pub instead_of : BookStep → Instead
instead_of (book.Route desk image) = Fails image
instead_of step = Ends

abbrev pub StopsAtDesk : List Dimension → State → ℕ → Instead → Type 0
StopsAtDesk h state n (Fails image) = MayMakeBook h state n (book.FailUnrouted image)
StopsAtDesk h state n Ends = MayMakeNote h state n (note.Ended how.NoMemory)

-- Pages.

-- the page that is due of the command can be made
abbrev pub MayShow : List Dimension → Use → State → ℕ → WorkDue → Type 0
MayShow h with state n (Shows subject) = CanShow h with state n subject
MayShow h with state n due = ⊤
