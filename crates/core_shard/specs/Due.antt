-- What a kind asks of the cells that it is given and of its actor, beyond that they are those of a state; and what its inner
-- functions ask.
use Rattle.std.specs.{Ordering.nat_cmp, Prelude.{ℕ, ◌≡◌, ◌+◌, ◌<◌, ◌⊎◌, List, Option, Some, None, IsSome, position, slice_set, [], ◌∷◌, ◌++◌, Bool}}
use Rattle.std.specs.FinMap as map
use Rattle.mapping_table.specs.declared.place.Where.{Where}
use Rattle.mapping_table.specs.declared.place.Where.TheVariants as where_is
use Rattle.query_router.specs.{Desk.{DeskValue, is_with, expanded}, declared.part.Part.Part, declared.part.PartState.PartState, declared.part.Want.Want}
use Rattle.query_router.specs.declared.part.PartState.TheVariants as state
use Rattle.volap_cell.specs.shard_store.specs.declared.gate.Gate.{Gate}
use Rattle.dim_hierarchy.specs.{Dimension.Dimension, Row.IsCoordOf, declared.filter.Pick.Pick}
use Rattle.describing_set.specs.{Plane.IsHierarchyPlane, declared.plane.Plane.Plane}
use Rattle.volap_cell.specs.{Cells.{CellValue, DeskOf, GateCell, MapOf, desk_in, tag_of, where_in}, Errands.{Outside, place_of}, ShardKinds.{IsDeskFor, IsOutcome, IsOutside, may_take, path_in, pin_of, waiting, child_for}, TreeKinds.HasRow, Values.{ActorValue, ErrandValue, OfRow, Read, TaskValue, Unread, task_of}, declared.errand.Errand.Errand, declared.errand.RowErrand.RowErrand, declared.errand.Way.Way, declared.errand.Way.TheVariants.{Placed, Before}, declared.role.Role.Role, declared.role.Role.TheVariants.{Session, Hand}}
use Rattle.volap_cell.specs.declared.errand.Task.TheVariants as task_is
use Rattle.query_router.specs.declared.part.Want.TheVariants as want

-- Taking.

-- the actor has no part and no job, and one that it may take waits on the desk
pub record CanTakePart (desk : CellValue) (a : ActorValue) : Type 0 where
  pub free : a.errand ≡ None
  pub no_job : a.job ≡ None
  pub server : ℕ
  pub desk_is : tag_of desk ≡ DeskOf server
  pub its : IsDeskFor a.role server (desk_in desk) a.command
  pub ready : IsSome (position (may_take a.role) (desk_in desk).parts)

-- an actor with this role takes parts
abbrev pub IsTaker : Role → Type 0
IsTaker (Session server) = Unit {0}
IsTaker (Hand worker) = Unit {0}
IsTaker _ = ⊥

-- the part waits for a worker
pub record IsWaiting (p : Part) : Type 0 where
  pub wanted : Want
  pub waits : p.state ≡ state.Waiting wanted

-- Ending.

-- a row's part ends where the row is at rest, or before its gate; a query's at any time
abbrev pub IsEndOfWay : Way → Type 0
IsEndOfWay w = (w ≡ Placed) ⊎ (place_of w ≡ Outside)

abbrev pub HasEnd : TaskValue → Type 0
HasEnd (OfRow r) = IsEndOfWay r.way
HasEnd _ = Unit {0}

-- the gate that is held is the one at which the part is pinned, and none is where it isn't pinned
abbrev pub IsGateOf : Option ℕ → ℕ → Option CellValue → Type 0
IsGateOf None gate_at None = Unit {0}
IsGateOf (Some pinned) gate_at (Some gate) = gate_at ≡ pinned
IsGateOf _ gate_at _ = ⊥

-- the actor's part can end, and stands on the desk
pub record CanFinishPart (gate_at : ℕ) (gate : Option CellValue) (desk : CellValue) (a : ActorValue) : Type 0 where
  pub e : ErrandValue
  pub errand : a.errand ≡ Some e
  pub ends : HasEnd e.task
  pub desk_is : tag_of desk ≡ DeskOf e.server
  pub gate_of : IsGateOf (pin_of e.task) gate_at gate

-- a gate with a pin
pub record IsPinnedGate (cell : CellValue) : Type 0 where
  pub gate : Gate
  pub is : cell ≡ GateCell gate
  pub some : 0 < gate.pins

-- it has one less
pub record LosesPin (cell cell_now : CellValue) : Type 0 where
  pub gate : Gate
  pub gate_now : Gate
  pub was : cell ≡ GateCell gate
  pub is : cell_now ≡ GateCell gate_now
  pub less : gate ≡ record gate_now { pins = gate_now.pins + 1 }

-- where a gate is held

abbrev pub IsPinned : Option CellValue → Type 0
IsPinned None = Unit {0}
IsPinned (Some cell) = IsPinnedGate cell

abbrev pub LosesPinIf : Option CellValue → Option CellValue → Type 0
LosesPinIf None None = Unit {0}
LosesPinIf (Some cell) (Some cell_now) = LosesPin cell cell_now
LosesPinIf _ _ = ⊥

-- the errand's part stands on the desk, and can end
pub record CanEnd (desk : DeskValue) (e : ErrandValue) : Type 0 where
  pub ends : HasEnd e.task
  pub found : IsSome (position (is_with e.shard e.worker) desk.parts)

-- a part that has ended, as what became of its errand
pub record IsEnded (e : ErrandValue) (p : Part) : Type 0 where
  pub outcome : PartState
  pub is_outcome : IsOutcome e.task outcome
  pub part : p ≡ record { shard = e.shard; worker = e.worker; path = path_in e.task; state = outcome }

pub record Ends (e : ErrandValue) (desk desk_now : DeskValue) : Type 0 where
  pub part : Part
  pub is_ended : IsEnded e part
  pub place : ℕ
  pub found : position (is_with e.shard e.worker) desk.parts ≡ Some place
  pub puts : desk_now ≡ record desk { parts = slice_set desk.parts place part }

-- Going on.

-- the part hasn't passed a gate, and has read none
abbrev pub IsOut : TaskValue → Type 0
IsOut (OfRow r) = place_of r.way ≡ Outside
IsOut (Unread f) = Unit {0}
IsOut (Read r) = ⊥

-- the actor's part is one of a shard that has moved
pub record CanForward (map desk : CellValue) (a : ActorValue) : Type 0 where
  pub e : ErrandValue
  pub errand : a.errand ≡ Some e
  pub out : IsOut e.task
  pub map_is : tag_of map ≡ MapOf e.worker
  pub to : ℕ
  pub moved : where_in map e.shard ≡ Some (where_is.Moved to)
  pub desk_is : tag_of desk ≡ DeskOf e.server

-- the errand's part stands on the desk, and its shard has moved
pub record CanSend (table : map.FinMap nat_cmp Where) (desk : DeskValue) (e : ErrandValue) : Type 0 where
  pub out : IsOut e.task
  pub found : IsSome (position (is_with e.shard e.worker) desk.parts)
  pub to : ℕ
  pub moved : map.get table e.shard ≡ Some (where_is.Moved to)

-- a part that waits for a worker, as its errand was before
pub record WaitsFor (e : ErrandValue) (worker : ℕ) (p : Part) : Type 0 where
  pub wanted : Want
  pub path : List ℕ
  pub outside : IsOutside e.task wanted path
  pub part : p ≡ waiting e.shard worker path wanted

pub record Sends (table : map.FinMap nat_cmp Where) (desk desk_now : DeskValue) (e : ErrandValue) : Type 0 where
  pub to : ℕ
  pub moved : map.get table e.shard ≡ Some (where_is.Moved to)
  pub part : Part
  pub waits : WaitsFor e to part
  pub place : ℕ
  pub found : position (is_with e.shard e.worker) desk.parts ≡ Some place
  pub puts : desk_now ≡ record desk { parts = slice_set desk.parts place part }

-- Expanding.

-- the actor's part is one of a shard that was split
pub record CanExpand (map desk : CellValue) (a : ActorValue) : Type 0 where
  pub e : ErrandValue
  pub errand : a.errand ≡ Some e
  pub out : IsOut e.task
  pub map_is : tag_of map ≡ MapOf e.worker
  pub plane : Plane
  pub left : ℕ
  pub right : ℕ
  pub split : where_in map e.shard ≡ Some (where_is.Split plane left right)
  pub desk_is : tag_of desk ≡ DeskOf e.server

-- a row's coordinate is one of the hierarchy
abbrev pub HasCoord : List Dimension → TaskValue → Type 0
HasCoord h (OfRow r) = IsCoordOf h r.row.at
HasCoord h _ = Unit {0}

-- the errand's part stands on the desk, and its shard was split by a plane of the hierarchy
pub record CanDivide (h : List Dimension) (table : map.FinMap nat_cmp Where) (desk : DeskValue) (errand : Option Errand) : Type 0 where
  pub e : Errand
  pub had : errand ≡ Some e
  pub out : IsOut (task_of e.task)
  pub coord : HasCoord h (task_of e.task)
  pub found : IsSome (position (is_with e.shard e.worker) desk.parts)
  pub plane : Plane
  pub left : ℕ
  pub right : ℕ
  pub split : map.get table e.shard ≡ Some (where_is.Split plane left right)
  pub valid : IsHierarchyPlane h plane

-- the errand is one of a row before its gate, which has a side of the plane
pub record CanGoDown (h : List Dimension) (plane : Plane) (errand : Option Errand) : Type 0 where
  pub e : Errand
  pub had : errand ≡ Some e
  pub r : RowErrand
  pub row : e.task ≡ task_is.Row r
  pub outside : place_of r.way ≡ Outside
  pub coord : IsCoordOf h r.row.at
  pub valid : IsHierarchyPlane h plane

-- the errand is one of a query's part that has read no gate
pub record HasFilter (errand : Option Errand) : Type 0 where
  pub e : Errand
  pub had : errand ≡ Some e
  pub filter : List Pick
  pub unread : e.task ≡ task_is.Unread filter

-- a row's part waits for the child on its side
abbrev pub IsRowOn : List Dimension → Plane → (left right place : ℕ) → (desk desk_now : DeskValue) → Errand → RowErrand → Type 0
IsRowOn h plane left right place desk desk_now e r =
    desk_now ≡ record desk { parts = slice_set desk.parts place (waiting (child_for h plane left right r) e.worker (r.path ++ child_for h plane left right r ∷ []) (want.Row r.row)) }

-- a query's part waits for both
abbrev pub AreBothOn : (left right place : ℕ) → (desk desk_now : DeskValue) → Errand → Type 0
AreBothOn left right place desk desk_now e =
    (f : List Pick) → e.task ≡ task_is.Unread f
    → desk_now ≡ record desk { parts = expanded desk.parts place (waiting left e.worker [] (want.Filter f)) (waiting right e.worker [] (want.Filter f)) }

-- the one or the other
abbrev pub PutsOn : List Dimension → ErrandValue → TaskValue → Plane → (left right place : ℕ) → (desk desk_now : DeskValue) → Type 0
PutsOn h e (OfRow r) plane left right place desk desk_now =
    desk_now ≡ record desk { parts = slice_set desk.parts place (waiting (child_for h plane left right r) e.worker (r.path ++ child_for h plane left right r ∷ []) (want.Row r.row)) }
PutsOn h e (Unread f) plane left right place desk desk_now =
    desk_now ≡ record desk { parts = expanded desk.parts place (waiting left e.worker [] (want.Filter f)) (waiting right e.worker [] (want.Filter f)) }
PutsOn h e (Read r) plane left right place desk desk_now = ⊥

pub record Divides (h : List Dimension) (table : map.FinMap nat_cmp Where) (desk desk_now : DeskValue) (e : ErrandValue) : Type 0 where
  pub plane : Plane
  pub left : ℕ
  pub right : ℕ
  pub split : map.get table e.shard ≡ Some (where_is.Split plane left right)
  pub place : ℕ
  pub found : position (is_with e.shard e.worker) desk.parts ≡ Some place
  pub puts : PutsOn h e e.task plane left right place desk desk_now

-- Looking up.

-- the actor has a row before its gate, whose height isn't known, and the table leads to the gate that is held
pub record CanLookUp (map : CellValue) (gate_at : ℕ) (gate : CellValue) (a : ActorValue) : Type 0 where
  pub e : ErrandValue
  pub r : RowErrand
  pub has : HasRow a e r
  pub filled : Bool
  pub unknown : r.way ≡ Before None filled
  pub map_is : tag_of map ≡ MapOf e.worker
  pub leads : where_in map e.shard ≡ Some (where_is.Gate gate_at)
