-- Moves of a phase that are made by hand.
use Rattle.std.specs.Prelude.{ℕ, ◌≡◌, ◌≢◌, ◌⊎◌, ◌≤◌, ◌<◌, Bool, true, false, Option, Some, None, List, [], ◌∷◌, length, slice_get, take}
use Rattle.core_pages.specs.volap_cell.specs.{Setting.{Setting, actor_count}, Values.ErrandValue, World.World, declared.kind.Kind.Kind}
use Rattle.core_pages.specs.volap_cell.specs.declared.kind.Kind.TheVariants as kind
use Rattle.seeded_run.specs.{Can.can_step, Commands.may_begin, Due.due, Instead.in_place_of, Machine.{IsSamePhase, about_in, phase_of, world_of}, Phase.IsKeptTurn, Rests.PhaseRun, Steps.is_for_part, declared.machine.Running.Running}

-- One move, of an actor and the kind of step that it is to make, or none.

-- an actor may be told to make a step of this kind: it is due for it, or a job is to be given up in place of the step that is due
abbrev pub MayBeTold : Setting → PhaseRun → World → ℕ → Kind → Type 0
MayBeTold s p w n told = (due s p w n ≡ Some told) ⊎ (told ≡ kind.Postpone)

-- A move of a kind is a turn of the actor. One of none is made where the actor can make no step, and changes nothing.
abbrev pub Moves : Bool → Setting → PhaseRun → World → ℕ → Option Kind → World → Type 0
Moves in_order s p w n (Some told) now = MayBeTold s p w n told × IsKeptTurn in_order s p w n now
Moves in_order s p w n None now = (n < actor_count s → can_step in_order s p w n ≡ false) × (now ≡ w)

-- the actor can't move so: it can make no step of that kind, or where it is to make none, it can make one
abbrev pub CannotMove : Bool → Setting → PhaseRun → World → ℕ → Option Kind → Type 0
CannotMove in_order s p w n (Some told) = told ≢ kind.Postpone → due s p w n ≡ Some told → can_step in_order s p w n ≡ true → n < actor_count s → ⊥
CannotMove in_order s p w n None = can_step in_order s p w n ≡ true

-- Moves, one after the other.

abbrev pub AreMoves : Bool → Setting → PhaseRun → World → List (ℕ × Option Kind) → World → Type 0
AreMoves in_order s p w [] now = now ≡ w
AreMoves in_order s p w (move ∷ moves) now = (mid : World) × Moves in_order s p w move.0 move.1 mid × AreMoves in_order s p mid moves now

-- So many of these moves lead from one state to another: all of them, or those before the first that can't be made.
pub record HasMoved (in_order : Bool) (s : Setting) (p : PhaseRun) (w : World) (moves : List (ℕ × Option Kind)) (count : ℕ) (now : World) : Type 0 where
  pub within : count ≤ length moves
  pub made : AreMoves in_order s p w (take count moves) now
  pub next : (move : ℕ × Option Kind) → slice_get moves count ≡ Some move → CannotMove in_order s p now move.0 move.1

-- some of the first of these moves lead from one state to another, where the next one found no memory
pub record StopsAmong (in_order : Bool) (s : Setting) (p : PhaseRun) (w : World) (moves : List (ℕ × Option Kind)) (now : World) : Type 0 where
  pub count : ℕ
  pub made : AreMoves in_order s p w (take count moves) now

-- The same between two moments of a phase.

-- a later moment of the same phase
pub record IsLater (m now : Running) : Type 0 where
  pub same : IsSamePhase m now
  pub about : about_in now ≡ about_in m

abbrev pub MovesTo : Running → ℕ → Option Kind → Running → Type 0
MovesTo m n told now = Moves m.in_order (about_in m) (phase_of m) (world_of m) n told (world_of now)

abbrev pub CannotMoveAt : Running → ℕ → Option Kind → Type 0
CannotMoveAt m n told = CannotMove m.in_order (about_in m) (phase_of m) (world_of m) n told

abbrev pub HasMovedTo : Running → List (ℕ × Option Kind) → ℕ → Running → Type 0
HasMovedTo m moves count now = HasMoved m.in_order (about_in m) (phase_of m) (world_of m) moves count (world_of now)

abbrev pub StopsAmongAt : Running → List (ℕ × Option Kind) → Running → Type 0
StopsAmongAt m moves now = StopsAmong m.in_order (about_in m) (phase_of m) (world_of m) moves (world_of now)

-- Jobs that are given up.

-- of a job that has frozen its shard, such a step may find no memory
abbrev pub may_find_none : Kind → Bool
may_find_none kind.Collect = true
may_find_none kind.FinishSplit = true
may_find_none kind.FinishMove = true
may_find_none _ = false

-- such a step begins no command, and goes on with no part, and in its place a job is given up
abbrev pub IsOfJob : Kind → Type 0
IsOfJob k = (may_begin k ≡ false) × ((errand : Option ErrandValue) → is_for_part errand k ≡ false) × (in_place_of k ≡ Some kind.Postpone)
