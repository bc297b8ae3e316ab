-- Which kind of step is due for an actor, by the part that it is at or the command that it has open: a function of its fields and of
-- cells. Where it waits for others none is due, but where it waits for a block, or for a gate's inserts: of that see `Wants`.
use Rattle.std.specs.{List.list_any, Prelude.{ℕ, zero, suc, ◌+◌, ◌==◌, ◌&&◌, ◌||◌, Bool, true, false, not, nat_le, Option, Some, None, is_some, is_none, if◌then◌else◌, List, length}}
use Rattle.dc_node.specs.{Block.is_leaf, declared.block.Block.Block, declared.todo.Item.Item}
use Rattle.mapping_table.specs.declared.place.Where.{Where}
use Rattle.mapping_table.specs.declared.place.Where.TheVariants as where_is
use Rattle.query_router.specs.{Desk.{DeskValue, is_waiting, waits_for, verdict_of}, declared.part.Part.Part, declared.part.Verdict.Verdict}
use Rattle.query_router.specs.declared.part.Verdict.TheVariants as verdict
use Rattle.row_ledger.specs.declared.event.Event.{Event}
use Rattle.core_steps.specs.shard_store.specs.{declared.gate.Phase.Phase, declared.gate.Phase.TheVariants.Open}
use Rattle.core_steps.specs.volap_cell.specs.{Cells.{CellValue, block_in, desk_in, phase_of, way_in, where_in}, Commands.settles_next, Setting.{Setting, desk_cell, map_cell}, Values.{ActorValue, ErrandValue, TaskValue, OfRow, Unread, Read, JobValue}, World.World, declared.command.Balance.Balance, declared.command.Work.Work, declared.errand.Way.Way, declared.kind.Kind.Kind, declared.role.Role.Role}
pub use Rattle.core_steps.specs.volap_cell.specs.JobSteps.{finish_kind, is_empty, next_of_job, stage_kind}
use Rattle.core_steps.specs.volap_cell.specs.declared.command.Work.TheVariants as work_is
use Rattle.core_steps.specs.volap_cell.specs.declared.errand.Way.TheVariants as way
use Rattle.core_steps.specs.volap_cell.specs.declared.kind.Kind.TheVariants as kind
use Rattle.core_steps.specs.volap_cell.specs.declared.role.Role.TheVariants as role

-- Tests of each number below one.

abbrev pub all_below : ℕ → (ℕ → Bool) → Bool
all_below zero test = true
all_below (suc n) test = test n && all_below n test

abbrev pub any_below : ℕ → (ℕ → Bool) → Bool
any_below zero test = false
any_below (suc n) test = test n || any_below n test

-- Parts that an actor is at.

-- where the part's worker has its shard
abbrev pub led_to : Setting → World → ErrandValue → Option Where
led_to s w e = where_in (w.cells (map_cell s e.worker)) e.shard

-- a part that hasn't passed its gate goes to where its shard is; there this is due
abbrev pub kind_by : Option Where → (ℕ → Kind) → Option Kind
kind_by None at_gate = None
kind_by (Some (where_is.Gate gate)) at_gate = Some (at_gate gate)
kind_by (Some (where_is.Split plane left right)) at_gate = Some kind.Expand
kind_by (Some (where_is.Moved to)) at_gate = Some kind.Forward

-- rows come in at the gate's tree
abbrev pub is_gate_open : Option Phase → Bool
is_gate_open (Some Open) = true
is_gate_open _ = false

-- the gate is open, and the actor has spares for every level of its tree
abbrev pub may_enter : CellValue → ActorValue → Bool
may_enter gate a = is_gate_open (phase_of gate) && nat_le ((way_in gate).height + 2) (length a.purse)

-- at its gate a row's height is looked up, its purse is filled by that, and it comes in
abbrev pub gate_kind : CellValue → ActorValue → Option ℕ → Bool → Kind
gate_kind gate a None filled = kind.LookUp
gate_kind gate a (Some height) false = kind.Refill
gate_kind gate a (Some height) true = if may_enter gate a then kind.EnterTree else kind.EnterQueue

-- a row that is carried is put in a leaf, or goes further down
abbrev pub carry_kind : Block → Kind
carry_kind block = if is_leaf block.body then kind.PutInLeaf else kind.Down

-- what is left of the purse is given back before the part ends
abbrev pub placed_kind : ActorValue → Kind
placed_kind a = if is_empty a.purse then kind.FinishPart else kind.Refill

-- by how far its row has come
abbrev pub row_kind : World → Option Where → ActorValue → Way → Option Kind
row_kind w led a (way.Before height filled) = kind_by led (λ gate. gate_kind (w.cells gate) a height filled)
row_kind w led a (way.Carried gate block) = Some (carry_kind (block_in (w.cells block)))
row_kind w led a (way.Put gate) = Some kind.LeaveTree
row_kind w led a way.Placed = Some (placed_kind a)

-- a query visits the blocks that it has noted, and then ends
abbrev pub read_kind : List Item → Kind
read_kind items = if is_empty items then kind.FinishPart else kind.BlockVisit

-- by what its part asks for
abbrev pub task_kind : World → Option Where → ActorValue → TaskValue → Option Kind
task_kind w led a (OfRow r) = row_kind w led a r.way
task_kind w led a (Unread f) = kind_by led (λ gate. kind.GateRead)
task_kind w led a (Read r) = Some (read_kind r.items)

-- whose shard is there
abbrev pub errand_kind : Setting → World → ActorValue → ErrandValue → Option Kind
errand_kind s w a e = task_kind w (led_to s w e) a e.task

-- Commands that are open.

-- the desk of a session is its server's; no other actor has one
abbrev pub desk_of : Setting → World → Role → Option DeskValue
desk_of s w (role.Session server) = Some (desk_in (w.cells (desk_cell s server)))
desk_of s w _ = None

-- there is a desk, and it has no command
abbrev pub is_empty_desk : Option DeskValue → Bool
is_empty_desk None = false
is_empty_desk (Some desk) = is_none desk.op

-- a step that needs an empty desk
abbrev pub kind_at_empty : Option DeskValue → Kind → Option Kind
kind_at_empty desk k = if is_empty_desk desk then Some k else None

-- A command whose parts are at their end is ended by what these come to. Else its actor takes a part that waits; where all are
-- with others, none is due.
abbrev pub kind_by_verdict : List Part → Option Verdict → Option Kind
kind_by_verdict parts None = if list_any is_waiting parts then Some kind.TakePart else None
kind_by_verdict parts (Some verdict.NoMemory) = Some kind.Note
kind_by_verdict parts (Some verdict.Placed) = Some kind.Ack
kind_by_verdict parts (Some (verdict.Sum answer)) = Some kind.Answer

-- by the parts on the actor's desk
abbrev pub parts_kind : Option DeskValue → Option Kind
parts_kind None = None
parts_kind (Some desk) = kind_by_verdict desk.parts (verdict_of desk.parts)

-- a page is shown right behind its command's beginning, when everyone else is idle
abbrev pub page_kind : List Event → Bool → ℕ → Bool → Option Kind
page_kind history alone of true = Some kind.Note
page_kind history alone of false = if alone && (length history == of + 1) then Some kind.Note else None

-- of what isn't there there is no page
abbrev pub there_kind : List Event → Bool → ℕ → Bool → Bool → Option Kind
there_kind history alone of there shown = if there then page_kind history alone of shown else Some kind.Note

-- of a job, or what is due without one
abbrev pub job_kind : Option JobValue → Kind → Kind
job_kind None without = without
job_kind (Some job) without = next_of_job job

-- with no action before it, a balance still reads loads, or is at its end
abbrev pub balance_kind : Balance → Kind
balance_kind b = if is_none b.plan then kind.LookUp else kind.Note

-- by what the open command is and how far it has come; `alone` tells whether everyone else is idle
abbrev pub work_kind : Setting → List Event → Bool → Option DeskValue → ActorValue → ℕ → Work → Option Kind
work_kind s history alone desk a of (work_is.Insert row false) = kind_at_empty desk kind.Route
work_kind s history alone desk a of (work_is.Insert row true) = parts_kind desk
work_kind s history alone desk a of work_is.Query = parts_kind desk
work_kind s history alone desk a of (work_is.Sync server pulled) = Some (if pulled then kind.Note else kind.Sync)
work_kind s history alone desk a of (work_is.Settle pulls) = Some (if is_some (settles_next s.servers pulls) then kind.Sync else kind.Note)
work_kind s history alone desk a of work_is.Bare = Some kind.Note
work_kind s history alone desk a of (work_is.Page subject there shown) = there_kind history alone of there shown
work_kind s history alone desk a of (work_is.Action x) = Some (job_kind a.job kind.Note)
work_kind s history alone desk a of (work_is.Balance b) = Some (job_kind a.job (balance_kind b))

-- Actors without a part or a command.

-- a hand takes a part that waits for its worker on any desk
abbrev pub hand_kind : Setting → World → ℕ → Option Kind
hand_kind s w worker =
    if any_below s.servers (λ server. list_any (waits_for worker) (desk_in (w.cells (desk_cell s server))).parts) then Some kind.TakePart else None

-- an actor with nothing to do, and not counted in at its desk
abbrev pub does_nothing : ActorValue → Bool
does_nothing a = is_none a.command && is_none a.errand && is_none a.job && is_empty a.purse && not a.counted
