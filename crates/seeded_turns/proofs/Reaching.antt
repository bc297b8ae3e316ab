-- A run goes on by a turn.
use Rattle.std.proofs.Common.{◌≡◌, ℕ, List, ◌∷◌, Some}
use Rattle.seeded_turns.specs.{Drawn.{chosen, next_schedule, Moment, Reaches}, declared.schedule.Schedule.Schedule}

pub reach_more : (S : Type 0) (able_in : S → List ℕ) (makes : S → ℕ → S → Type 0) (from : Moment S) (s t : S) (p q : Schedule) (i : ℕ)
    → Reaches S able_in makes from s p → q ≡ next_schedule p → chosen p (able_in s) ≡ Some i → makes s i t → Reaches S able_in makes from t q
reach_more S able_in makes from s t p q i reached on is step = record {
  turns = record { state = s; schedule = p } ∷ reached.turns;
  are = (record { actor = i; is_chosen = is; step = step; schedule = on }, reached.are);
}
