-- What is seen of an actor's errand: whose part it is, how far its row has come, and what its query has read.
use Rattle.std.specs.Prelude.{ℕ, ◌≡◌, Bool, true, false, Option, Some, None, option_map, option_and_then, List, if◌then◌else◌}
use Rattle.dim_hierarchy.specs.declared.row.Row.{Row}
use Rattle.query_router.specs.declared.part.Want.{Want}
use Rattle.query_router.specs.declared.part.Want.TheVariants as want
use Rattle.volap_cell.specs.{Values.{ErrandValue, ReadingValue, TaskValue, OfRow, Unread, Read}, declared.errand.RowErrand.RowErrand, declared.errand.Way.Way}
use Rattle.volap_cell.specs.declared.errand.Way.TheVariants as way

-- The part that was taken: whose desk it is of, its shard and its worker, and what it asks for.
pub record Taken : Type 0 where
  pub server : ℕ
  pub shard : ℕ
  pub worker : ℕ
  pub want : Want

abbrev pub want_of : TaskValue → Want
want_of (OfRow r) = want.Row r.row
want_of (Unread f) = want.Filter f
want_of (Read r) = want.Filter r.wanted.picks

abbrev pub taken_by : ErrandValue → Taken
taken_by e = record { server = e.server; shard = e.shard; worker = e.worker; want = want_of e.task }

abbrev pub taken_of : Option ErrandValue → Option Taken
taken_of errand = option_map taken_by errand

-- How far a row has come. What was looked up before its gate isn't seen.
pub data RowPlace : Type 0 where
  Outside : RowPlace
  AtBlock : ℕ → ℕ → RowPlace
  InLeaf : ℕ → RowPlace
  AtRest : RowPlace

abbrev pub place_of : Way → RowPlace
place_of (way.Before height filled) = Outside
place_of (way.Carried gate block) = AtBlock gate block
place_of (way.Put gate) = InLeaf gate
place_of way.Placed = AtRest

-- the height that was looked up, and whether the purse was filled by it
abbrev pub height_of : Way → Option ℕ
height_of (way.Before height filled) = height
height_of _ = None

abbrev pub is_filled : Way → Bool
is_filled (way.Before height filled) = filled
is_filled _ = false

-- by which a purse is still to be filled

abbrev pub height_in_task : TaskValue → Option ℕ
height_in_task (OfRow r) = if is_filled r.way then None else height_of r.way
height_in_task (Unread f) = None
height_in_task (Read r) = None

abbrev pub height_to_fill : Option ErrandValue → Option ℕ
height_to_fill errand = option_and_then (λ (e : ErrandValue). height_in_task e.task) errand

-- a row on its way: the row, its part's shard, the shards by which it came, its place, and whether the purse was filled for it
pub record RowWay : Type 0 where
  pub row : Row
  pub server : ℕ
  pub shard : ℕ
  pub path : List ℕ
  pub place : RowPlace
  pub filled : Bool

abbrev pub row_way : ErrandValue → RowErrand → RowWay
row_way e r = record { row = r.row; server = e.server; shard = e.shard; path = r.path; place = place_of r.way; filled = is_filled r.way }

abbrev pub way_in_task : ErrandValue → TaskValue → Option RowWay
way_in_task e (OfRow r) = Some (row_way e r)
way_in_task e (Unread f) = None
way_in_task e (Read r) = None

abbrev pub way_of : Option ErrandValue → Option RowWay
way_of None = None
way_of (Some e) = way_in_task e e.task

-- it is a row's

abbrev pub is_of_row : TaskValue → Bool
is_of_row (OfRow r) = true
is_of_row (Unread f) = false
is_of_row (Read r) = false

abbrev pub has_row : Option ErrandValue → Bool
has_row None = false
has_row (Some e) = is_of_row e.task

-- the row has passed its gate
abbrev pub has_passed : RowPlace → Bool
has_passed Outside = false
has_passed (AtBlock gate block) = true
has_passed (InLeaf gate) = true
has_passed AtRest = true

-- the gate in whose tree an insert is
abbrev pub gate_entered : RowPlace → Option ℕ
gate_entered Outside = None
gate_entered (AtBlock gate block) = Some gate
gate_entered (InLeaf gate) = Some gate
gate_entered AtRest = None

-- the block at which a row is carried
abbrev pub block_at : RowPlace → Option ℕ
block_at Outside = None
block_at (AtBlock gate block) = Some block
block_at (InLeaf gate) = None
block_at AtRest = None

-- a row is carried at this block
abbrev pub IsCarried : Option RowWay → ℕ → Type 0
IsCarried None y = ⊥
IsCarried (Some w) y = block_at w.place ≡ Some y

-- a query's part that has read its gate: the shard, and the reading
pub record ReadPart : Type 0 where
  pub server : ℕ
  pub shard : ℕ
  pub reading : ReadingValue

abbrev pub read_in_task : ErrandValue → TaskValue → Option ReadPart
read_in_task e (OfRow r) = None
read_in_task e (Unread f) = None
read_in_task e (Read r) = Some (record { server = e.server; shard = e.shard; reading = r })

abbrev pub read_of : Option ErrandValue → Option ReadPart
read_of None = None
read_of (Some e) = read_in_task e e.task
