-- How far the part of an actor has come, and what its steps ask in whatever state the seat may be.
use Rattle.std.specs.Prelude.{ℕ, ◌≡◌, ◌<◌, ⊤, Bool, true, List, [], length, Option, Some, None}
use mathlib.Core.Option.{none, some}
use Rattle.seat_steps.specs.core_due.specs.{Look.setting_by, Ready.{IsStepPrepared, IsTreePrepared}, Wants.last_noted}
use Rattle.seat_steps.specs.core_shard.specs.Due.{HasEnd}
use Rattle.seat_steps.specs.core_steps.specs.declared.{parts.PartStep.PartStep, trees.TreeStep.TreeStep}
use Rattle.seat_steps.specs.core_steps.specs.declared.trees.TreeStep.TheVariants as tree
use Rattle.dim_hierarchy.specs.declared.filter.Pick.{Pick}
use Rattle.part_steps.specs.declared.parts.{AtGate.AtGate, Route.Route}
use Rattle.seat_steps.specs.{Looks.{Sees, lead_of}, declared.{floor.{Floor.Floor, Player.Player}, looks.Lead.Lead}}
use Rattle.part_steps.specs.declared.parts.AtGate.TheVariants as at_gate
use Rattle.turn_table.specs.{Numbered.value_of, Seat.{IsInOrder, cell_count}}
use Rattle.seat_steps.specs.volap_cell.specs.{Cells.{cell_of, where_in}, Setting.{Setting, desk_cell, map_cell}, Steps.Inv, TreeKinds.HasRow, Values.{ActorValue, ErrandValue, Read, ReadingValue, Unread, actor_of}, World.World, declared.cell.Cell.Cell, declared.errand.RowErrand.RowErrand, declared.errand.Way.Way}
use Rattle.seat_steps.specs.volap_cell.specs.declared.errand.Way.TheVariants as way
use Rattle.seat_steps.specs.volap_turns.specs.Rows.{IsThere}

-- How far a part has come.

-- the actor has a row, which has come so far
pub record HasWay (a : ActorValue) (on : Way) : Type 0 where
  pub e : ErrandValue
  pub r : RowErrand
  pub has : HasRow a e r
  pub way_is : r.way ≡ on

-- its query's part has read no gate
pub record IsUnread (a : ActorValue) : Type 0 where
  pub e : ErrandValue
  pub filter : List Pick
  pub errand : a.errand ≡ Some e
  pub unread : e.task ≡ Unread filter

-- it has read its gate, and this is the block that it noted last
pub record IsVisiting (a : ActorValue) (noted : Option ℕ) : Type 0 where
  pub e : ErrandValue
  pub reading : ReadingValue
  pub errand : a.errand ≡ Some e
  pub task : e.task ≡ Read reading
  pub last : noted ≡ last_noted reading.items

-- the actor's part can end
pub record CanEndPart (a : ActorValue) : Type 0 where
  pub e : ErrandValue
  pub errand : a.errand ≡ Some e
  pub ends : HasEnd e.task

-- this is due for it at its gate
abbrev pub IsFor : AtGate → ActorValue → Type 0
IsFor at_gate.LooksUp a = (filled : Bool) × HasWay a (way.Before None filled)
IsFor at_gate.Enters a = (height : ℕ) × HasWay a (way.Before (Some height) true)
IsFor at_gate.Reads a = IsUnread a

-- Where it goes.

pub record IsRouteOf (f : Floor) (e : ErrandValue) (route : Route) : Type 0 where
  pub map : route.map ≡ map_cell (setting_by [] f.with) e.worker
  pub desk : route.desk ≡ desk_cell (setting_by [] f.with) e.server
  pub shard : route.shard ≡ e.shard

-- the table of its worker is held, and leads so
pub record IsLed (f : Floor) (p : Player) (map : ℕ) (to : Lead) : Type 0 where
  pub there : IsThere p.seat.view.held map
  pub map_is : (e : ErrandValue) → (actor_of p.actor).errand ≡ Some e → map ≡ map_cell (setting_by [] f.with) e.worker
  pub leads : (e : ErrandValue) → (actor_of p.actor).errand ≡ Some e → Sees p map (λ cell. to ≡ lead_of (where_in cell e.shard))

-- Steps.

-- a state that meets the invariant and has the actor and the cells that it holds
pub record IsWith (f : Floor) (p : Player) (s : Setting) (w : World) : Type 0 where
  pub about : s.hierarchy ≡ f.hierarchy
  pub servers : s.servers ≡ f.with.servers
  pub workers : s.workers ≡ f.with.workers
  pub inv : Inv s w
  pub actor : w.actors p.number ≡ actor_of p.actor
  pub held : (k : ℕ) (c : Cell) → value_of p.seat.view.held k ≡ some c → w.cells k ≡ cell_of c

-- what a step asks is so in each of these states, and its cells are there

abbrev pub IsPartSure : Floor → Player → PartStep → Type 0
IsPartSure f p step = (s : Setting) (w : World) → IsWith f p s w → IsStepPrepared s w p.number step

abbrev pub IsTreeSure : Floor → Player → TreeStep → Type 0
IsTreeSure f p step = (s : Setting) (w : World) → IsWith f p s w → IsTreePrepared s w p.number step

-- a purse is filled for a row, and what is left in it is given back for one
abbrev pub IsForRow : TreeStep → ActorValue → Type 0
IsForRow tree.Refill a = (e : ErrandValue) × (r : RowErrand) × HasRow a e r
IsForRow tree.GiveBack a = (e : ErrandValue) × (r : RowErrand) × HasRow a e r
IsForRow step a = ⊤

-- the turn of one more cell may be waited for
pub record MayWaitFor (f : Floor) (p : Player) (cell rank : ℕ) : Type 0 where
  pub within : cell < cell_count f.table
  pub other : value_of p.seat.view.held cell ≡ none
  pub order : IsInOrder p.seat.ranks cell rank
  pub room : length p.seat.view.held < 7
