-- What each step keeps a whole run keeps; runs behind one another, and runs of what states stand for.
use Rattle.std.proofs.Common.{◌≡◌, ℕ, List, [], ◌∷◌, Some, sym, ap, subst}
use Rattle.seeded_turns.specs.{Drawn.{chosen, Moment, AreTurns, Reaches}, declared.schedule.Schedule.Schedule}

-- a run keeps what each of its steps keeps
turns_keep : (S : Type 0) (able_in : S → List ℕ) (makes : S → ℕ → S → Type 0) (P : S → Type 0) → ((s t : S) (i : ℕ) → makes s i t → P s → P t)
    → (from to : Moment S) (turns : List (Moment S)) → AreTurns S able_in makes from turns to → P from.state → P to.state
turns_keep S able_in makes P kept from to [] is p = subst P (sym (ap (λ (m : Moment S). m.state) is)) p
turns_keep S able_in makes P kept from to (mid ∷ more) (turn, are) p =
    kept mid.state to.state turn.actor turn.step (turns_keep S able_in makes P kept from mid more are p)

pub run_keeps : (S : Type 0) (able_in : S → List ℕ) (makes : S → ℕ → S → Type 0) (P : S → Type 0) → ((s t : S) (i : ℕ) → makes s i t → P s → P t)
    → (from : Moment S) (to : S) (schedule : Schedule) → Reaches S able_in makes from to schedule → P from.state → P to
run_keeps S able_in makes P kept from to schedule r p = turns_keep S able_in makes P kept from (record { state = to; schedule = schedule }) r.turns r.are p

-- A run of states is a run of what they stand for, where each step is one of these, and the same actors can step.
module _ (S T : Type 0) (of : S → T) (able_in : S → List ℕ) (makes : S → ℕ → S → Type 0) (able_of : T → List ℕ) (makes_of : T → ℕ → T → Type 0)
    (P : S → Type 0) (kept : (s t : S) (i : ℕ) → makes s i t → P s → P t)
    (same : (s : S) → P s → able_in s ≡ able_of (of s)) (steps : (s t : S) (i : ℕ) → makes s i t → P s → makes_of (of s) i (of t)) where
  moment : Moment S → Moment T
  moment m = record { state = of m.state; schedule = m.schedule }

  moments : List (Moment S) → List (Moment T)
  moments [] = []
  moments (m ∷ ms) = moment m ∷ moments ms

  turns_map : (from to : Moment S) (turns : List (Moment S)) → AreTurns S able_in makes from turns to → P from.state
      → AreTurns T able_of makes_of (moment from) (moments turns) (moment to)
  unfolding moment moments
  turns_map from to [] is p = ap moment is
  turns_map from to (mid ∷ more) (turn, are) p =
      let here = turns_keep S able_in makes P kept from mid more are p in (
        record {
          actor = turn.actor;
          is_chosen = subst (λ l. chosen mid.schedule l ≡ Some turn.actor) (same mid.state here) turn.is_chosen;
          step = steps mid.state to.state turn.actor turn.step here;
          schedule = turn.schedule;
        },
        turns_map from mid more are p,
      )

  pub run_map : (from : Moment S) (to : S) (schedule : Schedule) → Reaches S able_in makes from to schedule → P from.state
      → Reaches T able_of makes_of (record { state = of from.state; schedule = from.schedule }) (of to) schedule
  unfolding moment moments
  run_map from to schedule r p = record { turns = moments r.turns; are = turns_map from (record { state = to; schedule = schedule }) r.turns r.are p }
