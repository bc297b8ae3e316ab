-- Whose turn it is, and runs in which each step is made by the actor whose turn it is.
use Rattle.std.specs.Prelude.{ℕ, zero, suc, ◌≡◌, ◌%◌, Bool, Option, Some, if◌then◌else◌, List, [], ◌∷◌, ◌++◌, length, slice_get}
use Rattle.rand_pcg.specs.{Lcg.Lcg, Pcg.pcg32}
use Rattle.seeded_turns.specs.{declared.schedule.Schedule.Schedule, declared.schedule.Schedule.TheVariants.{Order, Seed}}

-- the actors below a number that can step, in the order of their numbers
abbrev pub able : (ℕ → Bool) → ℕ → List ℕ
able can zero = []
able can (suc n) = if can n then able can n ++ n ∷ [] else able can n

-- the one that the next word of a generator draws: at the place that is the word's rest by how many there are
abbrev pub drawn : Lcg → List ℕ → Option ℕ
drawn g actors = slice_get actors ((pcg32 g).0 % length actors)

-- whose turn it is, where anybody can step: that of the lowest, or of the one that is drawn
abbrev pub chosen : Schedule → List ℕ → Option ℕ
chosen Order actors = slice_get actors 0
chosen (Seed g) actors = drawn g actors

-- the schedule behind a turn: a generator has gone on by one word
abbrev pub next_schedule : Schedule → Schedule
next_schedule Order = Order
next_schedule (Seed g) = Seed (pcg32 g).1

-- what stands between two turns
pub record Moment (S : Type 0) : Type 0 where
  pub state : S
  pub schedule : Schedule

-- one turn: the actor whose turn it is makes a step
pub record Turn (S : Type 0) (able_in : S → List ℕ) (makes : S → ℕ → S → Type 0) (before now : Moment S) : Type 0 where
  pub actor : ℕ
  pub is_chosen : chosen before.schedule (able_in before.state) ≡ Some actor
  pub step : makes before.state actor now.state
  pub schedule : now.schedule ≡ next_schedule before.schedule

-- Turn by turn from one moment to another. The moments between them stand the newest first, as the events of a history do.
abbrev pub AreTurns : (S : Type 0) → (S → List ℕ) → (S → ℕ → S → Type 0) → Moment S → List (Moment S) → Moment S → Type 0
AreTurns S able_in makes from [] to = to ≡ from
AreTurns S able_in makes from (mid ∷ more) to = Turn S able_in makes mid to × AreTurns S able_in makes from more mid

-- some turns lead from a moment to this state and schedule
pub record Reaches (S : Type 0) (able_in : S → List ℕ) (makes : S → ℕ → S → Type 0) (from : Moment S) (to : S) (schedule : Schedule) : Type 0 where
  pub turns : List (Moment S)
  pub are : AreTurns S able_in makes from turns (record { state = to; schedule = schedule })

-- Some turns lead from a moment to one at which a step found no memory, of the actor whose turn it was. What this leaves is the state.
pub record Stops (S : Type 0) (able_in : S → List ℕ) (makes : S → ℕ → S → Type 0) (stays : S → S → Type 0) (from : Moment S) (to : S) (schedule : Schedule) : Type 0 where
  pub last : Moment S
  pub reached : Reaches S able_in makes from last.state last.schedule
  pub actor : ℕ
  pub is_chosen : chosen last.schedule (able_in last.state) ≡ Some actor
  pub stayed : stays last.state to
  pub word : schedule ≡ next_schedule last.schedule
