-- What the steps of parts between desks, tables and gates do to the cells that they hold and to their actor.
use Rattle.std.specs.Prelude.{ℕ, ◌≡◌, ◌≢◌, ◌==◌, ◌+◌, ◌⊎◌, Bool, false, List, [], ◌∷◌, ◌++◌, Option, Some, None, position, slice_get, slice_set, length, if◌then◌else◌}
use Rattle.dim_hierarchy.specs.Dimension.{Dimension}
use Rattle.describing_set.specs.{Plane.goes_left, declared.plane.Plane.Plane}
use Rattle.mapping_table.specs.declared.place.Where.TheVariants as where_is
use Rattle.query_router.specs.{Desk.{DeskValue, is_waiting, is_with, waits_for, taken_from, expanded}, declared.part.Part.Part, declared.part.PartState.PartState, declared.part.Want.Want}
use Rattle.query_router.specs.declared.part.PartState.TheVariants as state
use Rattle.query_router.specs.declared.part.Want.TheVariants as want
use Rattle.shard_plan.specs.{Balancing.plan, declared.action.Load.Load}
use Rattle.shard_build.specs.shard_store.specs.declared.gate.Gate.{Gate}
use Rattle.volap_cell.specs.{Cells.DeskCell, Errands.{place_of, Outside}, Planning.next_job, TreeKinds.{Leads, TurnsGate, HasRow, on_way}, Values.{ActorValue, ErrandValue, TaskValue, OfRow, Unread, Read}, World.Change, declared.command.Balance.Balance, declared.command.Command.Command, declared.errand.RowErrand.RowErrand, declared.errand.Way.Way, declared.errand.Way.TheVariants.{Before, Placed}, declared.role.Role.Role, declared.role.Role.TheVariants.{Session, Hand}}
use Rattle.volap_cell.specs.declared.command.Work.TheVariants as work_is

-- Desks.

-- a server's desk becomes another one
pub record TurnsDesk (server : ℕ) (desk desk_now : DeskValue) (d : Change) : Type 0 where
  pub was : d.before ≡ DeskCell server desk
  pub is : d.now ≡ DeskCell server desk_now

-- parts stand on the errand's desk in the place of its taken part
pub record PutsBack (e : ErrandValue) (place : ℕ) (parts : List Part → List Part) (d : Change) : Type 0 where
  pub desk : DeskValue
  pub found : position (is_with e.shard e.worker) desk.parts ≡ Some place
  pub turns : TurnsDesk e.server desk (record desk { parts = parts desk.parts }) d

-- one part does
abbrev pub PutsOne : ErrandValue → Part → Change → Type 0
PutsOne e part d = (place : ℕ) × PutsBack e place (λ parts. slice_set parts place part) d

-- two parts do, side by side
abbrev pub PutsTwo : ErrandValue → Part → Part → Change → Type 0
PutsTwo e left right d = (place : ℕ) × PutsBack e place (λ parts. expanded parts place left right) d

-- a part that waits for a worker
abbrev pub waiting : ℕ → ℕ → List ℕ → Want → Part
waiting shard worker path wanted = record { shard = shard; worker = worker; path = path; state = state.Waiting wanted }

-- Taking a part.

-- a session takes the parts of its own command, whatever their worker; a hand those that wait for its worker
abbrev pub may_take : Role → Part → Bool
may_take (Session server) p = is_waiting p
may_take (Hand worker) p = waits_for worker p
may_take _ p = false

-- a session's desk is that of its server, with its own command
abbrev pub IsDeskFor : Role → ℕ → DeskValue → Option Command → Type 0
IsDeskFor (Session s) server desk (Some c) = (server ≡ s) × (desk.op ≡ Some c.of)
IsDeskFor (Session s) server desk None = ⊥
IsDeskFor (Hand worker) server desk command = Unit {0}
IsDeskFor _ server desk command = ⊥

-- the errand of a part that waited
abbrev pub task_for : Want → List ℕ → TaskValue
task_for (want.Row row) path = OfRow (record { row = row; path = path; way = Before None false })
task_for (want.Filter f) path = Unread f

abbrev pub errand_for : ℕ → Part → Want → ErrandValue
errand_for server p wanted = record { server = server; shard = p.shard; worker = p.worker; task = task_for wanted p.path }

-- the first part on the desk that the actor may take is taken; it has no other, and no job
pub record DoesTakePart (d : Change) (a b : ActorValue) : Type 0 where
  pub free : a.errand ≡ None
  pub no_job : a.job ≡ None
  pub server : ℕ
  pub desk : DeskValue
  pub for : IsDeskFor a.role server desk a.command
  pub place : ℕ
  pub first : position (may_take a.role) desk.parts ≡ Some place
  pub part : Part
  pub part_at : slice_get desk.parts place ≡ Some part
  pub turns : TurnsDesk server desk (record desk { parts = slice_set desk.parts place (taken_from part) }) d
  pub wanted : Want
  pub waits : part.state ≡ state.Waiting wanted
  pub actor_is : b ≡ record a { errand = Some (errand_for server part wanted) }

-- Looking up.

-- of the gate to which the table leads the height of its tree is noted
pub record NotesHeight (m g : Change) (a b : ActorValue) : Type 0 where
  pub e : ErrandValue
  pub r : RowErrand
  pub has : HasRow a e r
  pub filled : Bool
  pub unknown : r.way ≡ Before None filled
  pub leads : Leads m e.worker e.shard (where_is.Gate g.number)
  pub gate : Gate
  pub same : TurnsGate gate gate g
  pub actor_is : b ≡ record a { errand = on_way e r (Before (Some gate.height) filled) }

-- the rows of tree and queue are those of the load that is next; after the last one the actions are planned, and the first
-- of them is the job
pub record ReadsLoad (m g : Change) (a b : ActorValue) : Type 0 where
  pub of : ℕ
  pub balance : Balance
  pub balance_now : Balance
  pub command : a.command ≡ Some (record { of = of; work = work_is.Balance balance })
  pub load : Load
  pub load_at : slice_get balance.loads balance.read ≡ Some load
  pub leads : Leads m load.worker load.shard (where_is.Gate g.number)
  pub gate : Gate
  pub same : TurnsGate gate gate g
  pub most : balance_now.most ≡ balance.most
  pub loads : balance_now.loads ≡ slice_set balance.loads balance.read (record load { rows = gate.agg.count + length gate.queue.rows })
  pub read : balance_now.read ≡ balance.read + 1
  pub standing : balance_now.standing ≡ balance_now.loads
  pub planned : balance_now.plan ≡ (if balance_now.read == length balance.loads then Some (plan balance_now.loads a.setting.workers balance.most) else None)
  pub over : balance_now.over ≡ balance.over
  pub done : balance_now.done ≡ balance.done
  pub actor_is : b ≡ record a { command = Some (record { of = of; work = work_is.Balance balance_now }); job = next_job balance_now }

abbrev pub DoesLookUp : Change → Change → ActorValue → ActorValue → Type 0
DoesLookUp m g a b = NotesHeight m g a b ⊎ ReadsLoad m g a b

-- Going on.

-- what the part asks for, and its path, while it hasn't passed a gate
abbrev pub IsOutside : TaskValue → Want → List ℕ → Type 0
IsOutside (OfRow r) wanted path = (place_of r.way ≡ Outside) × (wanted ≡ want.Row r.row) × (path ≡ r.path)
IsOutside (Unread f) wanted path = (wanted ≡ want.Filter f) × (path ≡ [])
IsOutside (Read r) wanted path = ⊥

-- the shard has moved: its part waits for the worker that has it, and keeps its path
pub record DoesForward (m d : Change) (a b : ActorValue) : Type 0 where
  pub e : ErrandValue
  pub errand : a.errand ≡ Some e
  pub wanted : Want
  pub path : List ℕ
  pub outside : IsOutside e.task wanted path
  pub to : ℕ
  pub leads : Leads m e.worker e.shard (where_is.Moved to)
  pub puts : PutsOne e (waiting e.shard to path wanted) d
  pub actor_is : b ≡ record a { errand = None }

-- the child on the side of the plane on which the coordinate is
abbrev pub child_for : List Dimension → Plane → ℕ → ℕ → RowErrand → ℕ
child_for h plane left right r = if goes_left h plane r.row.at then left else right

-- a row's part goes to the child on its side, which its path gets; a query's part becomes two
abbrev pub PutsChildren : List Dimension → ErrandValue → TaskValue → Plane → ℕ → ℕ → Change → Type 0
PutsChildren h e (OfRow r) plane left right d =
    PutsOne e (waiting (child_for h plane left right r) e.worker (r.path ++ child_for h plane left right r ∷ []) (want.Row r.row)) d
PutsChildren h e (Unread f) plane left right d =
    PutsTwo e (waiting left e.worker [] (want.Filter f)) (waiting right e.worker [] (want.Filter f)) d
PutsChildren h e (Read r) plane left right d = ⊥

-- the shard was split: its part goes on to the children
pub record DoesExpand (h : List Dimension) (m d : Change) (a b : ActorValue) : Type 0 where
  pub e : ErrandValue
  pub errand : a.errand ≡ Some e
  pub wanted : Want
  pub path : List ℕ
  pub outside : IsOutside e.task wanted path
  pub plane : Plane
  pub left : ℕ
  pub right : ℕ
  pub leads : Leads m e.worker e.shard (where_is.Split plane left right)
  pub puts : PutsChildren h e e.task plane left right d
  pub actor_is : b ≡ record a { errand = None }

-- Ending a part.

-- what becomes of the part: a row that is at rest is placed, and a query that has nothing noted is done; before a gate, and
-- where something is still noted, no memory was found
abbrev pub IsOutcome : TaskValue → PartState → Type 0
IsOutcome (OfRow r) s =
    ((r.way ≡ Placed) × (s ≡ state.Placed r.path))
    ⊎ ((place_of r.way ≡ Outside) × (s ≡ state.NoMemory))
IsOutcome (Unread f) s = s ≡ state.NoMemory
IsOutcome (Read r) s = ((r.items ≡ []) × (s ≡ state.Done r.agg)) ⊎ ((r.items ≢ []) × (s ≡ state.NoMemory))

-- the path of a row's part, where what becomes of the part doesn't have it; a query's part has none
abbrev pub path_left : Way → List ℕ → List ℕ
path_left Placed path = []
path_left _ path = path

abbrev pub path_in : TaskValue → List ℕ
path_in (OfRow r) = path_left r.way r.path
path_in (Unread f) = []
path_in (Read r) = []

-- the gate at which a part is pinned
abbrev pub pin_of : TaskValue → Option ℕ
pin_of (OfRow r) = None
pin_of (Unread f) = None
pin_of (Read r) = r.pin

-- the gate is held only where the part is pinned, and has a pin less then
abbrev pub Unpins : Option ℕ → List Change → Type 0
Unpins None [] = Unit {0}
Unpins (Some pinned) (g ∷ []) = (g.number ≡ pinned) × ((gate : Gate) × (gate_now : Gate) × TurnsGate gate gate_now g × (gate ≡ record gate_now { pins = gate_now.pins + 1 }))
Unpins _ _ = ⊥

-- the part stands on its desk again, with what became of it
pub record DoesFinishPart (pinned : List Change) (d : Change) (a b : ActorValue) : Type 0 where
  pub e : ErrandValue
  pub errand : a.errand ≡ Some e
  pub outcome : PartState
  pub is_outcome : IsOutcome e.task outcome
  pub unpins : Unpins (pin_of e.task) pinned
  pub puts : PutsOne e (record { shard = e.shard; worker = e.worker; path = path_in e.task; state = outcome }) d
  pub actor_is : b ≡ record a { errand = None }
