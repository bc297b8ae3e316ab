-- What is left to do, as four numbers that are compared in their order. With each step the first of them that changes falls; but a
-- command that begins brings its own work with it, and who is counted in at a desk is no work.
use Rattle.std.specs.{Option.option_map_or, Prelude.{ℕ, zero, suc, ◌≡◌, ◌≢◌, ◌==◌, ◌+◌, ◌*◌, ◌-◌, ◌^◌, ◌<◌, ◌≤◌, ◌⊎◌, nat_le, Bool, true, false, cond, List, [], ◌∷◌, map, length, sum_by, Option, Some, None, if◌then◌else◌}}
use Rattle.dc_node.specs.{declared.block.Block.Block, declared.todo.Item.Item}
use Rattle.query_router.specs.{declared.part.Part.Part, declared.part.PartState.PartState}
use Rattle.query_router.specs.declared.part.PartState.TheVariants as state
use Rattle.query_router.specs.declared.part.Want.TheVariants as want
use Rattle.row_ledger.specs.{Past.is_beginning, Shards.comes_from, Workers.left_at, declared.event.Event.Event}
use Rattle.row_ledger.specs.declared.event.Event.TheVariants as event
use Rattle.shard_plan.specs.declared.action.Action.{Action}
use Rattle.shard_build.specs.shard_store.specs.declared.gate.Phase.{Phase}
use Rattle.shard_build.specs.shard_store.specs.declared.gate.Phase.TheVariants as phase
use Rattle.shard_build.specs.tree_shape.specs.{Shape.Shape, Walks.{Noted, pending}}
use Rattle.volap_cell.specs.{Ghost.Ghost, Lineage.went_to, Setting.{Setting, actor_count, cell_count}, Sums.sum_below, Values.{ErrandValue, TaskValue, OfRow, Unread, Read, JobValue, StageValue, IsCalled, IsDeclined, IsFrozen, Collects, Builds}, View.{View, view}, World.World, declared.command.Balance.Balance, declared.command.Command.Command, declared.command.Work.Work, declared.errand.Way.Way}
use Rattle.volap_cell.specs.declared.command.Work.TheVariants as work_is
use Rattle.volap_cell.specs.declared.errand.Way.TheVariants as way

-- What the controlling stream still has; pulls, and inserts up to their gates; inserts past their gates; and queries. Beside them
-- stands how many actors are counted in at desks.
pub record Left : Type 0 where
  pub control : ℕ
  pub gates : ℕ
  pub rows : ℕ
  pub queries : ℕ
  pub counted : ℕ

-- the first that changes falls
abbrev pub Falls : Left → Left → Type 0
Falls before now =
    (now.control < before.control)
    ⊎ ((now.control ≡ before.control) × (now.gates < before.gates))
    ⊎ ((now.control ≡ before.control) × (now.gates ≡ before.gates) × (now.rows < before.rows))
    ⊎ ((now.control ≡ before.control) × (now.gates ≡ before.gates) × (now.rows ≡ before.rows) × (now.queries < before.queries))

-- How far a part may still have to go.

-- whether an event splits the shard, or one that comes from it
abbrev pub splits_under : List Event → ℕ → Event → Bool
splits_under h x (event.Split of shard left right) = comes_from h x shard
splits_under h x _ = false

abbrev pub is_from : Option ℕ → ℕ → Bool
is_from None p = false
is_from (Some at) p = nat_le at p

-- whether an event at a position moves one that comes from the shard, or the shard itself from that position on
abbrev pub moves_ahead : List Event → ℕ → Option ℕ → Event → ℕ → Bool
moves_ahead h x at (event.Moved of shard worker) p = if shard == x then is_from at p else comes_from h x shard
moves_ahead h x at _ p = false

-- how many events of a history are so, by position
abbrev pub count_events : (Event → ℕ → Bool) → List Event → ℕ
count_events test [] = 0
count_events test (e ∷ past) = (if test e (length past) then 1 else 0) + count_events test past

-- from when on moves of the shard are ahead of a part that is at the worker: none where the shard was last brought there
abbrev pub departure : ℕ → List Event → ℕ → ℕ → Option ℕ
departure workers h x w = if went_to h x w then None else left_at workers h x w

-- at most so many times a part of the shard at the worker goes on, itself and all parts that it becomes
abbrev pub far : ℕ → List Event → ℕ → ℕ → ℕ
far workers h x w =
    1 + 2 * count_events (λ e p. splits_under h x e) h + count_events (moves_ahead h x (departure workers h x w)) h

abbrev pub is_split_or_move : Event → Bool
is_split_or_move (event.Split of shard left right) = true
is_split_or_move (event.Moved of shard worker) = true
is_split_or_move _ = false

-- wherever it starts
abbrev pub farthest : List Event → ℕ
farthest h = 1 + 2 * count_events (λ e p. is_split_or_move e) h

-- Blocks that are still to be visited.

-- the cells along right links from one to a stamp, at most so many behind it
abbrev pub chain : (ℕ → Block) → ℕ → ℕ → ℕ → List ℕ
chain blocks zero y stamp = y ∷ []
chain blocks (suc n) y stamp = if (blocks y).stamp == stamp then y ∷ [] else option_map_or (λ z. y ∷ chain blocks n z stamp) (blocks y).right (y ∷ [])

abbrev pub noted_at : (ℕ → Block) → ℕ → Shape → Item → Noted
noted_at blocks n g item = record { cell = item.cell; stamp = item.stamp; level = g.level item.cell; walk = chain blocks n item.cell item.stamp }

-- a block counts as often as it is reached
abbrev pub blocks_left : (ℕ → Block) → ℕ → Shape → List Item → ℕ
blocks_left blocks n g items = sum_below n (λ y. cond (g.inside y) (pending g (map (noted_at blocks n g) items) y) 0)

-- Control.

-- more than there can be blocks and rows
abbrev pub plenty : Setting → ℕ
plenty s = cell_count s + 2 ^ 31 + 4

-- the rows of a queue up to the freeze
abbrev pub frozen_upto : Option Phase → ℕ
frozen_upto (Some (phase.Frozen upto)) = upto
frozen_upto _ = 0

-- a job reads no block twice, so what it has read tells how many are left at most
abbrev pub stage_left : Setting → View → StageValue → ℕ
stage_left s v IsCalled = 6 * plenty s
stage_left s v (IsDeclined why) = 1
stage_left s v (IsFrozen f) = 5 * plenty s
stage_left s v (Collects c) =
    3 * plenty s + 1 + (cell_count s - length c.read) + (frozen_upto (v.phases c.frozen.gate) - c.queued)
stage_left s v (Builds b) = 2 * plenty s + 1 + length b.unbuilt

abbrev pub job_left : Setting → View → Option JobValue → ℕ
job_left s v None = 0
job_left s v (Some job) = stage_left s v job.stage

-- the actions behind the one that a balance is at
abbrev pub actions_left : Setting → Balance → Option (List Action) → ℕ
actions_left s b None = b.most * (8 * plenty s) + 1 + (length b.loads - b.read)
actions_left s b (Some actions) = (length actions - (b.over + 1)) * (8 * plenty s)

abbrev pub shown_left : Bool → ℕ
shown_left shown = if shown then 1 else 2

abbrev pub control_of : Setting → Work → ℕ
control_of s work_is.Bare = 1
control_of s (work_is.Settle pulls) = 1 + (s.servers + s.servers - pulls)
control_of s (work_is.Page subject there shown) = shown_left shown
control_of s (work_is.Action a) = 1
control_of s (work_is.Balance b) = 1 + actions_left s b b.plan
control_of s _ = 0

-- the cells of a gate that is gone
abbrev pub gone_left : Option Phase → List ℕ → ℕ
gone_left (Some phase.Gone) gone = 1 + length gone
gone_left _ gone = 0

-- Pulls, and inserts up to their gates.

-- so much for each time that a part may go on
abbrev pub per_gate : ℕ
per_gate = 6

abbrev pub gates_of_work : List Event → Work → ℕ
gates_of_work h (work_is.Insert row false) = per_gate * farthest h + 1
gates_of_work h (work_is.Sync server pulled) = if pulled then 1 else 2
gates_of_work h _ = 0

-- what is left between the gate and a row's part that was taken
abbrev pub gates_of_way : ℕ → Way → ℕ
gates_of_way ahead (way.Before None filled) = per_gate * ahead - 1
gates_of_way ahead (way.Before (Some height) false) = per_gate * ahead - 2
gates_of_way ahead (way.Before (Some height) true) = per_gate * ahead - 3
gates_of_way ahead _ = 0

abbrev pub gates_of_task : ℕ → TaskValue → ℕ
gates_of_task ahead (OfRow r) = gates_of_way ahead r.way
gates_of_task ahead (Unread f) = 0
gates_of_task ahead (Read r) = 0

abbrev pub gates_of_errand : Setting → List Event → Option ErrandValue → ℕ
gates_of_errand s h None = 0
gates_of_errand s h (Some e) = gates_of_task (far s.workers h e.shard e.worker) e.task

abbrev pub one_if_any : {A : Type 0} → List A → ℕ
one_if_any [] = 0
one_if_any (x ∷ xs) = 1

-- a part for a row on a desk; where no memory was found for it, it still has its path, which a query's part doesn't have
abbrev pub gates_of_state : ℕ → List ℕ → PartState → ℕ
gates_of_state ahead path (state.Waiting (want.Row row)) = per_gate * ahead
gates_of_state ahead path (state.Waiting (want.Filter f)) = 0
gates_of_state ahead path state.NoMemory = one_if_any path
gates_of_state ahead path _ = 0

abbrev pub gates_of_part : Setting → List Event → Part → ℕ
gates_of_part s h p = gates_of_state (far s.workers h p.shard p.worker) p.path p.state

-- Inserts past their gates.

abbrev pub rows_of_way : (ℕ → Shape) → Way → ℕ
rows_of_way shape (way.Before height filled) = 0
rows_of_way shape (way.Carried gate block) = (shape gate).level block + 4
rows_of_way shape (way.Put gate) = 3
rows_of_way shape way.Placed = 2

abbrev pub rows_of_task : (ℕ → Shape) → TaskValue → ℕ
rows_of_task shape (OfRow r) = rows_of_way shape r.way
rows_of_task shape (Unread f) = 0
rows_of_task shape (Read r) = 0

abbrev pub rows_of_errand : (ℕ → Shape) → Option ErrandValue → ℕ
rows_of_errand shape errand = option_map_or (λ (e : ErrandValue). rows_of_task shape e.task) errand 0

abbrev pub rows_of_part : PartState → ℕ
rows_of_part (state.Placed path) = 1
rows_of_part _ = 0

-- Queries.

-- so much for each time that a part may go on: more than a tree has blocks
abbrev pub per_query : Setting → ℕ
per_query s = cell_count s + 8

abbrev pub queries_of_task : Setting → View → Ghost → ℕ → TaskValue → ℕ
queries_of_task s v g ahead (OfRow r) = 0
queries_of_task s v g ahead (Unread f) = per_query s * ahead - 1
queries_of_task s v g ahead (Read r) = 2 + option_map_or (λ c. blocks_left v.blocks (cell_count s) (g.shape c) r.items) r.pin 0

abbrev pub queries_of_errand : Setting → View → Ghost → Option ErrandValue → ℕ
queries_of_errand s v g None = 0
queries_of_errand s v g (Some e) = queries_of_task s v g (far s.workers v.history e.shard e.worker) e.task

abbrev pub queries_of_state : Setting → ℕ → PartState → ℕ
queries_of_state s ahead (state.Waiting (want.Filter f)) = per_query s * ahead
queries_of_state s ahead _ = 0

abbrev pub queries_of_work : Work → ℕ
queries_of_work work_is.Query = 1
queries_of_work _ = 0

-- All of it.

abbrev pub of_work : (Work → ℕ) → Option Command → ℕ
of_work f command = option_map_or (λ (c : Command). f c.work) command 0

abbrev pub left : Setting → World → Ghost → Left
left s w g = left_in s w (view s w) g
  where
    left_in : Setting → World → View → Ghost → Left
    left_in s w v g = record {
      control = sum_below (actor_count s) (λ a. of_work (control_of s) (w.actors a).command + job_left s v (w.actors a).job)
          + sum_below (cell_count s) (λ y. gone_left (v.phases y) (v.gone y));
      gates = sum_below (actor_count s) (λ a. of_work (gates_of_work v.history) (w.actors a).command + gates_of_errand s v.history (w.actors a).errand)
          + sum_below s.servers (λ server. sum_by (gates_of_part s v.history) (v.desks server).parts);
      rows = sum_below (actor_count s) (λ a. rows_of_errand g.shape (w.actors a).errand + one_if_any (w.actors a).purse)
          + sum_below s.servers (λ server. sum_by (λ p. rows_of_part p.state) (v.desks server).parts);
      queries = sum_below (actor_count s) (λ a. of_work queries_of_work (w.actors a).command + queries_of_errand s v g (w.actors a).errand)
          + sum_below s.servers (λ server. sum_by (λ p. queries_of_state s (far s.workers v.history p.shard p.worker) p.state) (v.desks server).parts);
      counted = sum_below (actor_count s) (λ a. if (w.actors a).counted then 1 else 0);
    }

-- so much control a command brings with it at most: a balance of 2^8 actions, or a job
abbrev pub control_brought : Setting → ℕ
control_brought s = 2 ^ 8 * (8 * plenty s) + cell_count s + 2 ^ 32

-- A command begins: it brings so much with it at most. What a query brings is of the last number, and of no matter to the others.
pub record BringsWork (s : Setting) (before now : Left) (history history_now : List Event) : Type 0 where
  pub e : Event
  pub begun : is_beginning e ≡ true
  pub grown : history_now ≡ e ∷ history
  pub control : now.control ≤ before.control + control_brought s
  pub gates : now.gates ≤ before.gates + (per_gate * farthest history + 2)
  pub rows : now.rows ≡ before.rows

-- nobody's work changes, but one actor more or less is counted in at a desk
pub record IsStill (before now : Left) (history history_now : List Event) : Type 0 where
  pub control : now.control ≡ before.control
  pub gates : now.gates ≡ before.gates
  pub rows : now.rows ≡ before.rows
  pub queries : now.queries ≡ before.queries
  pub counts : now.counted ≢ before.counted
  pub quiet : history_now ≡ history

abbrev pub GoesOn : Setting → Left → Left → List Event → List Event → Type 0
GoesOn s before now history history_now = Falls before now ⊎ BringsWork s before now history history_now ⊎ IsStill before now history history_now
