-- What is due for an actor with an open command, with the cells of the step; and of which kind that step is.
use Rattle.std.specs.{List.list_any, Prelude.{ℕ, ◌+◌, ◌-◌, ◌==◌, ◌&&◌, Bool, true, false, if◌then◌else◌, nat_lt, List, length, slice_get, Option, Some, None, is_none, Result, Ok, Err}}
use Rattle.cell_stock.specs.declared.purse.Spare.{Spare}
use Rattle.core_due.specs.{Due.is_empty_desk, Wants.last_noted, declared.works.WorkDue.WorkDue}
use Rattle.core_due.specs.declared.works.WorkDue.TheVariants.{Books, Ends, Jobs, Leaves, Shows, Splits, Takes}
use Rattle.core_steps.specs.{Books.book_kind, Jobs.job_kind, declared.books.BookStep.BookStep, declared.jobs.JobStep.JobStep}
use Rattle.core_steps.specs.declared.books.BookStep.TheVariants as book
use Rattle.core_steps.specs.declared.jobs.JobStep.TheVariants as job
use Rattle.link_descent.specs.declared.entered.Fresh.{Fresh}
use Rattle.mapping_table.specs.declared.place.Where.{Where}
use Rattle.mapping_table.specs.declared.place.Where.TheVariants as where_is
use Rattle.query_router.specs.{Desk.{DeskValue, is_waiting, verdict_of}, declared.part.Part.Part, declared.part.Verdict.Verdict}
use Rattle.query_router.specs.declared.part.Verdict.TheVariants as verdict
use Rattle.row_ledger.specs.{declared.class.Subject.Subject, declared.event.Event.Event, declared.settings.Decline.Decline, declared.settings.Decline.TheVariants.Unknown}
use Rattle.row_ledger.specs.declared.settings.How.TheVariants as how
use Rattle.shard_plan.specs.declared.action.Load.{Load}
use Rattle.core_steps.specs.shard_store.specs.declared.gate.Phase.{Phase}
use Rattle.core_steps.specs.shard_store.specs.declared.gate.Phase.TheVariants as phase
use Rattle.core_steps.specs.volap_cell.specs.{Cells.{desk_in, phase_of, where_in}, Commands.settles_next, Setting.{Setting, desk_cell, image_cell, map_cell}, Values.{ActorValue, BuildingValue, Builds, CollectingValue, Collects, IsCalled, IsDeclined, IsFrozen, JobValue, StageValue}, World.World, declared.command.Balance.Balance, declared.command.Work.Work, declared.kind.Kind.Kind, declared.role.Role.Role}
use Rattle.core_steps.specs.volap_cell.specs.declared.command.Work.TheVariants as work_is
use Rattle.core_steps.specs.volap_cell.specs.declared.kind.Kind.TheVariants as kind
use Rattle.core_steps.specs.volap_cell.specs.declared.role.Role.TheVariants as role

-- Inserts and queries.

-- the part of an insert is laid on its server's empty desk
abbrev pub route_due : Setting → World → Role → Option WorkDue
route_due s w (role.Session server) =
    if is_empty_desk (Some (desk_in (w.cells (desk_cell s server)))) then Some (Books (book.Route (desk_cell s server) (image_cell server))) else None
route_due s w _ = None

-- A command whose parts are at their end is ended by what these come to; so where one of them found no memory. Else its actor takes a
-- part that waits; where all are with others, nothing is due.
abbrev pub verdict_due : (desk image : ℕ) → (failed : BookStep) → List Part → Option Verdict → Option WorkDue
verdict_due desk image failed parts None = if list_any is_waiting parts then Some (Takes desk) else None
verdict_due desk image failed parts (Some verdict.NoMemory) = Some (Books failed)
verdict_due desk image failed parts (Some verdict.Placed) = Some (Books (book.Ack desk image))
verdict_due desk image failed parts (Some (verdict.Sum answer)) = Some (Books (book.Answer desk))

abbrev pub parts_due : (desk image : ℕ) → (failed : BookStep) → DeskValue → Option WorkDue
parts_due desk image failed value = verdict_due desk image failed value.parts (verdict_of value.parts)

abbrev pub insert_due : Setting → World → Role → Option WorkDue
insert_due s w (role.Session server) =
    parts_due (desk_cell s server) (image_cell server) (book.FailRouted (desk_cell s server) (image_cell server)) (desk_in (w.cells (desk_cell s server)))
insert_due s w _ = None

abbrev pub query_due : Setting → World → Role → Option WorkDue
query_due s w (role.Session server) =
    parts_due (desk_cell s server) (image_cell server) (book.FailQuery (desk_cell s server)) (desk_in (w.cells (desk_cell s server)))
query_due s w _ = None

-- Pulls and pages.

-- a pull for a server, if there is one, and then the end
abbrev pub pull_due : Option ℕ → WorkDue
pull_due None = Ends how.Fine
pull_due (Some server) = Books (book.Sync (image_cell server))

-- a page is shown right behind its command's beginning, when everyone else is idle; of what isn't there there is none
abbrev pub page_due : List Event → (alone : Bool) → (of : ℕ) → Subject → (there shown : Bool) → Option WorkDue
page_due history alone of subject false shown = Some (Ends (how.Declined Unknown))
page_due history alone of subject true true = Some (Ends how.Fine)
page_due history alone of subject true false = if alone && (length history == of + 1) then Some (Shows subject) else None

-- Jobs.

-- the shard is frozen at the gate to which its worker's table leads

abbrev pub freeze_at : (map : ℕ) → Option Where → Option WorkDue
freeze_at map (Some (where_is.Gate gate)) = Some (Jobs (job.Freeze map gate))
freeze_at map _ = None

abbrev pub freeze_due : Setting → World → JobValue → Option WorkDue
freeze_due s w x = freeze_at (map_cell s x.worker) (where_in (w.cells (map_cell s x.worker)) x.shard)

-- the block that was noted last is read, then the next row of the queue, as it was when the shard was frozen, and then the trees are made

abbrev pub has_more : ℕ → Option Phase → Bool
has_more queued (Some (phase.Frozen upto)) = nat_lt queued upto
has_more queued _ = false

abbrev pub collect_by : (gate : ℕ) → (noted : Option ℕ) → (more : Bool) → JobStep
collect_by gate (Some block) more = job.CollectBlock block
collect_by gate None true = job.CollectRow gate
collect_by gate None false = job.BuildTrees gate

abbrev pub collect_due : World → CollectingValue → JobStep
collect_due w c = collect_by c.frozen.gate (last_noted c.items) (has_more c.queued (phase_of (w.cells c.frozen.gate)))

-- the last block that isn't in its cell yet is put there, and then the shard is replaced: by two children, or by itself at a new gate,
-- whose cell is the last spare's

abbrev pub move_due : Setting → JobValue → (gate new to : ℕ) → JobStep
move_due s x gate new to = if to == x.worker then job.FinishHere (map_cell s x.worker) gate new else job.FinishMove (map_cell s x.worker) (map_cell s to) gate new

abbrev pub move_with : Setting → JobValue → (gate to : ℕ) → Option Spare → Option WorkDue
move_with s x gate to None = None
move_with s x gate to (Some spare) = Some (Jobs (move_due s x gate spare.cell to))

abbrev pub finish_due : Setting → ActorValue → JobValue → (gate : ℕ) → (to : Option ℕ) → Option WorkDue
finish_due s a x gate None = Some (Splits (map_cell s x.worker) gate)
finish_due s a x gate (Some to) = move_with s x gate to (slice_get a.purse (length a.purse - 1))

abbrev pub build_due : Setting → ActorValue → JobValue → BuildingValue → Option Fresh → Option WorkDue
build_due s a x b None = finish_due s a x b.frozen.gate x.to
build_due s a x b (Some unbuilt) = Some (Jobs (job.BuildBlock unbuilt.cell))

-- by how far the job has come, or why it is declined
abbrev pub stage_due : Setting → World → ActorValue → JobValue → StageValue → Result (Option WorkDue) Decline
stage_due s w a x IsCalled = Ok (freeze_due s w x)
stage_due s w a x (IsDeclined why) = Err why
stage_due s w a x (IsFrozen f) = Ok (Some (Jobs (job.Drained f.gate)))
stage_due s w a x (Collects c) = Ok (Some (Jobs (collect_due w c)))
stage_due s w a x (Builds b) = Ok (build_due s a x b (slice_get b.unbuilt (length b.unbuilt - 1)))

-- for a job that is declined this is due
abbrev pub or_declined : (Decline → WorkDue) → Result (Option WorkDue) Decline → Option WorkDue
or_declined declined (Ok due) = due
or_declined declined (Err why) = Some (declined why)

-- an action ends where its job is declined; where it has none its shard, or the worker that it was to go to, didn't stand
abbrev pub action_due : Setting → World → ActorValue → Option JobValue → Option WorkDue
action_due s w a None = Some (Ends (how.Declined Unknown))
action_due s w a (Some x) = or_declined (λ why. Ends (how.Declined why)) (stage_due s w a x x.stage)

-- Balances.

-- a load is read at the gate to which its worker's table leads

abbrev pub load_at : (workers map : ℕ) → Option Where → Option WorkDue
load_at workers map (Some (where_is.Gate gate)) = Some (Jobs (job.ReadLoad map gate workers))
load_at workers map _ = None

abbrev pub load_due : Setting → World → Option Load → Option WorkDue
load_due s w None = None
load_due s w (Some x) = load_at s.workers (map_cell s x.worker) (where_in (w.cells (map_cell s x.worker)) x.shard)

-- with no action before it, a balance still reads loads, or is at its end; an action that is declined it leaves

abbrev pub jobless_due : Setting → World → Balance → Option WorkDue
jobless_due s w b = if is_none b.plan then load_due s w (slice_get b.loads b.read) else Some (Ends (how.Balanced b.done b.over))

abbrev pub balance_due : Setting → World → ActorValue → Balance → Option JobValue → Option WorkDue
balance_due s w a b None = jobless_due s w b
balance_due s w a b (Some x) = or_declined (λ why. Leaves) (stage_due s w a x x.stage)

-- All of it.

-- by what the open command is and how far it has come; `alone` tells whether everyone else is idle
abbrev pub work_due : Setting → World → List Event → (alone : Bool) → ActorValue → (of : ℕ) → Work → Option WorkDue
work_due s w history alone a of (work_is.Insert row false) = route_due s w a.role
work_due s w history alone a of (work_is.Insert row true) = insert_due s w a.role
work_due s w history alone a of work_is.Query = query_due s w a.role
work_due s w history alone a of (work_is.Sync server pulled) = Some (pull_due (if pulled then None else Some server))
work_due s w history alone a of (work_is.Settle pulls) = Some (pull_due (settles_next s.servers pulls))
work_due s w history alone a of work_is.Bare = Some (Ends how.Fine)
work_due s w history alone a of (work_is.Page subject there shown) = page_due history alone of subject there shown
work_due s w history alone a of (work_is.Action x) = action_due s w a a.job
work_due s w history alone a of (work_is.Balance b) = balance_due s w a b a.job

-- the kind of step that it is
abbrev pub work_due_kind : WorkDue → Kind
work_due_kind (Takes desk) = kind.TakePart
work_due_kind (Books step) = book_kind step
work_due_kind (Jobs step) = job_kind step
work_due_kind (Splits map gate) = kind.FinishSplit
work_due_kind (Ends how) = kind.Note
work_due_kind Leaves = kind.Note
work_due_kind (Shows subject) = kind.Note
