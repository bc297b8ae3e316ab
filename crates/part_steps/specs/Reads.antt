-- How far a query has come with its part: what it has noted, and which of its steps it made.
use Rattle.std.specs.Prelude.{ℕ, ◌≡◌, ◌≤◌, ◌⊎◌, ⊤, List, Option, Some, None}
use Rattle.seat_steps.specs.core_due.specs.Wants.{last_noted}
use Rattle.seat_steps.specs.core_steps.specs.{Places.{one_at, two_at}, Steps.Went}
use Rattle.seat_steps.specs.core_tree.specs.ReadDue.{room_in_task, room_to_note}
use Rattle.dim_hierarchy.specs.Dimension.{Dimension}
use Rattle.link_descent.specs.Visit.{most_noted}
use Rattle.part_steps.specs.Parts.{IsUnread}
use Rattle.seat_steps.specs.volap_cell.specs.{Setting.Setting, Values.{ActorValue, ErrandValue, Read, TaskValue, actor_of, task_of}, World.World, declared.actor.Actor.Actor, declared.cell.Cell.Cell, declared.errand.Task.Task}
use Rattle.seat_steps.specs.volap_cell.specs.declared.kind.Kind.TheVariants.{BlockVisit, GateRead}

-- What is noted.

-- the block that an actor's query noted last, if there is one

abbrev pub noted_in : TaskValue → Option ℕ
noted_in (Read reading) = last_noted reading.items
noted_in task = None

abbrev pub noted_on : Option ErrandValue → Option ℕ
noted_on None = None
noted_on (Some e) = noted_in e.task

abbrev pub noted_by : ActorValue → Option ℕ
noted_by a = noted_on a.errand

-- a visit of it can note what it must without memory

abbrev pub HasRoomIn : Task → Type 0
HasRoomIn t = (block : ℕ) → noted_in (task_of t) ≡ Some block → most_noted ≤ room_in_task t

abbrev pub HasRoom : Actor → Type 0
HasRoom a = (block : ℕ) → noted_by (actor_of a) ≡ Some block → most_noted ≤ room_to_note a

-- Steps of one kind.

-- what a step asks of the state beyond its cells: nothing
abbrev pub Anything : Setting → World → ℕ → Type 0
Anything s w n = ⊤

-- the actor's query visited the block, by one step over it
pub record VisitsBlock (h : List Dimension) (block : ℕ) (was now : ActorValue) : Type 0 where
  pub before : List (Option Cell)
  pub after : List (Option Cell)
  pub went : Went h BlockVisit Anything (one_at block) before after was now

-- the actor's query read a gate, by one step over the table that leads there and the gate
pub record ReadsGate (h : List Dimension) (was now : ActorValue) : Type 0 where
  pub map : ℕ
  pub gate : ℕ
  pub before : List (Option Cell)
  pub after : List (Option Cell)
  pub went : Went h GateRead Anything (two_at map gate) before after was now

-- The actor is at no part, or at one of a query that has read no gate, or whose last step read its gate. So no block was visited
-- for the part.
abbrev pub IsBeforeBlocks : List Dimension → ActorValue → Type 0
IsBeforeBlocks h a = (a.errand ≡ None) ⊎ IsUnread a ⊎ ((was : ActorValue) × IsUnread was × ReadsGate h was a)
