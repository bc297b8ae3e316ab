-- What contracts see of a desk, and what its parts come to.
use Rattle.std.specs.{List.list_any, Prelude.{ℕ, ◌+◌, ◌==◌, ◌<◌, ◌&&◌, ◌||◌, Bool, true, false, if◌then◌else◌, Option, Some, None, List, [], ◌∷◌, ◌++◌, take, drop, length, slice_get, IfSome, IsTrue}}
use Rattle.measure_agg.specs.{Aggregate.{Aggregate, agg}, Joining.join}
use Rattle.query_router.specs.{declared.part.Part.Part, declared.part.PartState.PartState, declared.part.Verdict.Verdict}
use Rattle.query_router.specs.declared.part.PartState.TheVariants as state
use Rattle.query_router.specs.declared.part.Verdict.TheVariants as verdict

-- the number of the command, its parts in order, and how many sessions are counted in
pub record DeskValue : Type 0 where
  pub op : Option ℕ
  pub parts : List Part
  pub sessions : ℕ

-- How far a part has come.

abbrev pub state_waits : PartState → Bool
state_waits (state.Waiting want) = true
state_waits _ = false

abbrev pub state_is_taken : PartState → Bool
state_is_taken state.Taken = true
state_is_taken _ = false

abbrev pub state_is_refused : PartState → Bool
state_is_refused state.NoMemory = true
state_is_refused _ = false

abbrev pub state_is_placed : PartState → Bool
state_is_placed (state.Placed path) = true
state_is_placed _ = false

abbrev pub is_waiting : Part → Bool
is_waiting p = state_waits p.state

abbrev pub is_taken : Part → Bool
is_taken p = state_is_taken p.state

abbrev pub is_refused : Part → Bool
is_refused p = state_is_refused p.state

abbrev pub is_placed : Part → Bool
is_placed p = state_is_placed p.state

-- the part waits for a worker or is with one
abbrev pub is_open : Part → Bool
is_open p = is_waiting p || is_taken p

-- the part waits for this worker
abbrev pub waits_for : ℕ → Part → Bool
waits_for worker p = p.worker == worker && is_waiting p

-- the part of this shard is with this worker
abbrev pub is_with : ℕ → ℕ → Part → Bool
is_with shard worker p = p.shard == shard && p.worker == worker && is_taken p

-- there is a part at the place, and it passes the test
pub record IsAt (test : Part → Bool) (parts : List Part) (place : ℕ) : Type 0 where
  pub within : place < length parts
  pub passes : IfSome (slice_get parts place) (λ p. IsTrue (test p))

-- Taken and expanded parts.

-- what stays of a part that was taken
abbrev pub taken_from : Part → Part
taken_from p = record { shard = p.shard; worker = p.worker; path = []; state = state.Taken }

-- two parts stand in the place of one
abbrev pub expanded : List Part → ℕ → Part → Part → List Part
expanded parts place left right = take place parts ++ left ∷ right ∷ drop (place + 1) parts

-- What the parts come to.

-- what a part has read; nothing where it is not done
abbrev pub done_of : PartState → Aggregate
done_of (state.Done a) = a
done_of _ = agg []

-- the aggregates of the parts that are done, together
abbrev pub sum_of : List Part → Aggregate
sum_of [] = agg []
sum_of (p ∷ ps) = join (done_of p.state) (sum_of ps)

-- nothing while a part is open; else that one found no memory; else that one has placed its row; else the sum
abbrev pub verdict_of : List Part → Option Verdict
verdict_of parts =
    if list_any is_open parts then None
    else if list_any is_refused parts then Some verdict.NoMemory
    else if list_any is_placed parts then Some verdict.Placed
    else Some (verdict.Sum (sum_of parts))
