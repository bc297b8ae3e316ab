-- A hand that has nothing to do takes a part that waits for its worker, if one does.
use Rattle.std.proofs.Common.{◌≡◌, ◌≢◌, ◌∙◌, ◌<◌, ℕ, inl, inr, Bool, true, false, cond, List, [], Option, Some, None, IfSome, get_or, length, option_map, refl, sym, ap, subst}
use Rattle.std.specs.Option.{option_map_or}
use Rattle.dim_hierarchy.specs.Dimension.{Dimension}
use Rattle.row_ledger.specs.declared.settings.Use.{Use}
use Rattle.script_form.specs.declared.script.Command.{Command}
use Rattle.core_pages.specs.volap_cell.specs.{Errands.way_of, Setting.Setting, Sights.IsIdle, State.IsWorldOf, Steps.history_in, Values.{ActorValue, actor_of}, World.World, declared.actor.Actor.Actor, declared.cell.Cell.Cell, declared.kind.Kind.Kind, declared.kind.Kind.TheVariants.TakePart, declared.role.Role.Role}
use Rattle.core_pages.specs.volap_cell.proofs.Cells.States.{same-actor, stands}
use Rattle.core_due.specs.{Due.hand_kind, Look.{setting_by, world_by}, Reuses.reuse_for, Wants.{is_carried_at, meets}}
use Rattle.seeded_run.specs.{Core.IsCore, Due.{actor_kind, free_kind, is_alone, kind_or}, DueSteps.{KnowsBytes, actor_step, due_step, free_step, step_due, step_if_free, step_or, step_where}, Hands.{AreFreeHands, IsFreeHand, IsFreeHandAt}, Machine.{IsDueStep, IsPhaseHeld, IsPhaseKept, KnowsHands, KnowsOtherHands, about_in, phase_of, step_in, world_of}, Rests.{PhaseRun, rest_of}, Survey.{IsSurvey, is_awaited}, Takes.carries_at, declared.hands.FreeHands.FreeHands, declared.machine.Running.Running, declared.survey.Survey.Survey, declared.turn.DueStep.DueStep}
use Rattle.seeded_run.specs.declared.turn.DueStep.TheVariants.{Takes}
use Rattle.seeded_run.proofs.{Due.DueReuses.{idle-kind, idle-meets, idle-step}, Due.DueSteps.in-turn, Holding.LeftAlone.{is-idle, same-or-not}, Seen.core-seen}

-- In the vectors and in the state that they are.

pub hand-there : (cells : List (Option Cell)) (actors : List (Option Actor)) (w : World) → IsWorldOf cells actors w → (n worker : ℕ) → IsFreeHandAt (get_or actors n None) worker → IsFreeHand (w.actors n) worker
hand-there cells actors w is n worker = by (get_or actors n None) refl
  where
    by : (o : Option Actor) → get_or actors n None ≡ o → IsFreeHandAt o worker → IsFreeHand (w.actors n) worker
    by None at free = absurd free
    by (Some a) at free = subst (λ (x : ActorValue). IsFreeHand x worker) (sym (same-actor cells actors w n a is at)) free

pub hands-there : (m : Running) → IsPhaseHeld m → AreFreeHands m.state.actors.items m.hands
hands-there m held n worker low told =
    let a = stands (get_or m.state.actors.items n None) (λ x. actor_of x ≡ (world_of m).actors n) (held.kept.core.is.actor n low) in
    subst (λ o. IsFreeHandAt o worker) (sym a.1) (subst (λ (x : ActorValue). IsFreeHand x worker) (sym a.2) (held.hands n worker low told))

-- such a hand carries no row
pub free-carries : (o : Option Actor) (worker block : ℕ) → IsFreeHandAt o worker → carries_at o block ≡ false
free-carries None worker block free = refl
free-carries (Some a) worker block free = ap (λ e. is_carried_at block (way_of e)) (is-idle (actor_of a) free.idle).errand

-- where nothing is told of anyone
pub none-told : (actors : List (Option Actor)) (hands : FreeHands) → ((n : ℕ) → get_or hands.workers n None ≡ None) → AreFreeHands actors hands
none-told actors hands none n worker low told = (let never : ◌≡◌ {A = Option ℕ} None (Some worker) = sym (none n) ∙ told in cc)

-- Of one more it is noted.

pub one-noted : (actors : List (Option Actor)) (hands now : FreeHands) (n : ℕ) (place : Option Actor) → place ≡ get_or actors n None → AreFreeHands actors hands
    → ((worker : ℕ) → get_or now.workers n None ≡ Some worker → IsFreeHandAt place worker)
    → ((a : ℕ) → a ≢ n → get_or now.workers a None ≡ get_or hands.workers a None) → AreFreeHands actors now
one-noted actors hands now n place read are own others a worker low told = elim (same-or-not a n) [
  | inl is ↦ subst (λ j. IsFreeHandAt (get_or actors j None) worker) (sym is)
      (subst (λ o. IsFreeHandAt o worker) read (own worker (subst (λ j. get_or now.workers j None ≡ Some worker) is told)))
  | inr differs ↦ are a worker low (sym (others a differs) ∙ told)
]

pub hands-noted : (m : Running) (n : ℕ) (hands : FreeHands) (place : Option Actor) → IsPhaseKept m → KnowsOtherHands m n → place ≡ get_or m.state.actors.items n None
    → ((worker : ℕ) → get_or hands.workers n None ≡ Some worker → IsFreeHandAt place worker)
    → ((a : ℕ) → a ≢ n → get_or hands.workers a None ≡ get_or m.hands.workers a None) → KnowsHands (record m { hands = hands })
hands-noted m n hands place kept knows read own others a worker low told = elim (same-or-not a n) [
  | inl is ↦ subst (λ j. IsFreeHand ((world_of m).actors j) worker) (sym is)
      (hand-there m.state.cells.items m.state.actors.items (world_of m) kept.core.is n worker
      (subst (λ o. IsFreeHandAt o worker) read (own worker (subst (λ j. get_or hands.workers j None ≡ Some worker) is told))))
  | inr differs ↦ knows a differs worker low (sym (others a differs) ∙ told)
]

-- What is due.

-- what is due for a hand is seen
pub hand-seen : (h : List Dimension) (with : Use) (cells : List (Option Cell)) (actors : List (Option Actor)) (s : Setting) (w : World) → IsCore h with cells actors s w → (worker : ℕ)
    → hand_kind s w worker ≡ hand_kind (setting_by [] with) (world_by cells) worker
hand-seen h with cells actors s w core worker = core-seen h with cells actors s w core (λ t v. hand_kind t v worker)

module _ (s : Setting) (w : World) (n worker : ℕ) (free : IsFreeHand (w.actors n) worker) where
  idle : IsIdle (w.actors n)
  idle = is-idle (w.actors n) free.idle

  module _ (alone : Bool) (rest : List Command) where
    kind-is : actor_kind s w alone rest (w.actors n) (w.actors n).errand ≡ hand_kind s w worker
    kind-is = idle-kind s w n idle alone rest ∙ ap (λ (r : Role). kind_or (reuse_for w (w.actors n) r) (free_kind s w alone rest r)) free.role

    step-is : actor_step s w alone rest (w.actors n) (w.actors n).errand ≡ option_map (λ k. Takes worker) (hand_kind s w worker)
    step-is = idle-step s w n idle alone rest ∙ ap (λ (r : Role). step_or (reuse_for w (w.actors n) r) (free_step s w alone rest r)) free.role

  takes : (b : Bool) → step_where (option_map_or (meets s w n) (cond b (Some TakePart) None) false) (option_map (λ k. Takes worker) (cond b (Some TakePart) None)) ≡ cond b (Some (Takes worker)) None
  takes true = ap (λ c. step_where c (Some (Takes worker))) (idle-meets s w n idle TakePart)
  takes false = refl

  pub hand-takes : (p : PhaseRun) (b : Bool) → hand_kind s w worker ≡ cond b (Some TakePart) None → due_step false s p w n ≡ cond b (Some (Takes worker)) None
  hand-takes p b is =
      let rest = rest_of p (history_in w) in
      in-turn false true s p w n refl
      ∙ ap (λ (o : Option Kind). step_where (option_map_or (meets s w n) o false) (step_due s p w n)) (kind-is (is_alone s w rest n) (rest n) ∙ is)
      ∙ ap (λ (o : Option DueStep). step_where (option_map_or (meets s w n) (cond b (Some TakePart) None) false) o) (step-is (is_alone s w rest n) (rest n) ∙ ap (option_map (λ k. Takes worker)) is)
      ∙ takes b

-- where the commands go in any order, it is everybody's turn
pub any-order : (m : Running) (n : ℕ) → m.in_order ≡ false → step_in m n ≡ step_if_free (about_in m) (phase_of m) (world_of m) n
any-order m n any = ap (λ b. due_step b (about_in m) (phase_of m) (world_of m) n) any ∙ in-turn false true (about_in m) (phase_of m) (world_of m) n refl

-- by a survey
pub hand-step : (m : Running) (n worker : ℕ) (survey : Survey) → IsPhaseHeld m → m.in_order ≡ false → n < length m.state.actors.items → get_or m.hands.workers n None ≡ Some worker
    → IsSurvey m.with m.state.cells.items m.state.actors.items survey → worker < m.with.workers
    → step_in m n ≡ cond (get_or survey.awaited worker false) (Some (Takes worker)) None
hand-step m n worker survey held any low told tells within =
    let s = about_in m in
    let w = world_of m in
    let awaited = is_awaited m.with m.state.cells.items worker in
    ap (λ b. due_step b s (phase_of m) w n) any
    ∙ hand-takes s w n worker (held.hands n worker low told) (phase_of m) awaited (hand-seen m.h.now m.with m.state.cells.items m.state.actors.items s w held.kept.core worker)
    ∙ ap (λ b. cond b (Some (Takes worker)) None) (sym (tells.awaited worker within))

-- What is told is what the actor does.
pub step-found : (m : Running) (n : ℕ) (told : Option DueStep) → step_in m n ≡ told → IfSome told (KnowsBytes m.with.servers ((world_of m).actors n)) → IfSome told (IsDueStep m n)
step-found m n None is bytes = tt
step-found m n (Some step) is bytes = record { is = is; bytes = bytes }
