-- Whose the first command is that isn't over, where the commands go in order; and what moving a cursor on does.
use Rattle.std.proofs.Common.{◌≡◌, ◌≢◌, ◌∙◌, ◌+◌, ◌<◌, ◌≤◌, ◌⊎◌, inl, inr, ℕ, zero, suc, true, false, List, [], ◌∷◌, length, get_or, Option, Some, None, refl, sym, ap, arith}
use Rattle.std.specs.Prelude.{option_map, slice_get}
use Rattle.script_form.specs.declared.script.Command.{Command}
use Rattle.script_run.proofs.Whole.{get-some}
use Rattle.script_run.specs.Places.{session_of}
use Rattle.core_pages.specs.volap_cell.specs.{Steps.history_in, Values.actor_of, World.World}
use Rattle.core_pages.specs.volap_cell.proofs.Cells.States.{stands}
use Rattle.core_due.specs.Due.{does_nothing}
use Rattle.seeded_run.specs.{Look.rests, Machine.{AloneInOrder, HasBegunTo, IsPhaseKept, WaitsAt, about_in, next_at, phase_of, world_of}, Rests.{PhaseRun, first_open}, declared.hands.FreeHands.FreeHands, declared.machine.Running.Running}
use Rattle.seeded_run.proofs.{Cursors.Firsts.{first-at, first-fails, first-some, late-not, over_in}, Cursors.Held.{none-past, some-within}, Holding.LeftAlone.{apart, is-idle, same-or-not}, Phases.PhaseRuns.{is-actor, past-over}}

some-apart : (o : Option ℕ) (a b : ℕ) → o ≡ Some a → a ≢ b → o ≢ Some b
some-apart o a b x differs y = differs (let z : ◌≡◌ {A = Option ℕ} (Some a) (Some b) = sym x ∙ y in cc)

pub below-or-at : (i n : ℕ) → i < n + 1 → (i < n) ⊎ (i ≡ n)
below-or-at i n h = grind arith

module _ (m : Running) (kept : IsPhaseKept m) (order : m.in_order ≡ true) where
  abbrev p : PhaseRun
  p = phase_of m

  abbrev w : World
  w = world_of m

  -- while an actor has something to do it is its
  pub first-busy : (n : ℕ) → does_nothing (w.actors n) ≡ false → first_open p (history_in w) ≡ Some n
  first-busy n busy = by (first_open p (history_in w)) refl
    where
      idle : (a : ℕ) → first_open p (history_in w) ≢ Some a → does_nothing (w.actors a) ≡ true
      idle = kept.is_running.idle order

      by : (o : Option ℕ) → first_open p (history_in w) ≡ o → first_open p (history_in w) ≡ Some n
      by None is = apart (does_nothing (w.actors n)) (idle n (λ here. (let never : ◌≡◌ {A = Option ℕ} None (Some n) = sym is ∙ here in cc))) busy
      by (Some a) is = elim (same-or-not a n) [
        | inl same ↦ is ∙ ap Some same
        | inr differs ↦ apart (does_nothing (w.actors n)) (idle n (some-apart (first_open p (history_in w)) a n is differs)) busy
      ]

  -- where everyone does nothing, a command is over that has begun, and no other one
  module _ (idle : (a : ℕ) → does_nothing (w.actors a) ≡ true) where
    over-begun : (k : ℕ) (c : Command) → slice_get m.phase.now k ≡ Some c → k < next_at m (session_of m.with c) → over_in p (history_in w) k ≡ true
    over-begun k c at low =
        past-over m.in_order (about_in m) p w kept.core.inv.ghost_of (next_at m) kept.core.inv.holds kept.is_running k c at low
        (is-idle (w.actors (session_of m.with c)) (idle (session_of m.with c))).command

    not-over : (k : ℕ) (c : Command) → slice_get m.phase.now k ≡ Some c → next_at m (session_of m.with c) ≤ k → over_in p (history_in w) k ≡ false
    not-over k c at late = late-not p (history_in w) (next_at m) kept.is_running.cursors k c at late

    -- the first one that hasn't begun is the first that isn't over
    pub first-idle : (place : ℕ) → HasBegunTo m place → WaitsAt m place → first_open p (history_in w) ≡ option_map (session_of m.with) (slice_get m.phase.now place)
    first-idle place begun waits = by (slice_get m.phase.now place) refl
      where
        none : (o : Option ℕ) → first_open p (history_in w) ≡ o → slice_get m.phase.now place ≡ None → first_open p (history_in w) ≡ None
        none None is past = is
        none (Some a) is past =
            let f = first-some p (history_in w) a is in
            let within = some-within m.phase.now f.at f.command f.here in
            let high = none-past m.phase.now place past in
            apart (over_in p (history_in w) f.at) (over-begun f.at f.command f.here (begun f.at f.command f.here (omega (arith, within, high)))) (first-fails p (history_in w) a f)

        by : (o : Option Command) → slice_get m.phase.now place ≡ o → first_open p (history_in w) ≡ option_map (session_of m.with) (slice_get m.phase.now place)
        by (Some c) at =
            first-at p (history_in w) place c at (not-over place c at (waits c at))
            (λ i low.
            let within = some-within m.phase.now place c at in
            let d = get-some m.phase.now i (omega (arith, within, low)) in
            over-begun i d.0 d.1 (begun i d.0 d.1 low))
            ∙ sym (ap (option_map (session_of m.with)) at)
        by None past = none (first_open p (history_in w)) refl past ∙ sym (ap (option_map (session_of m.with)) past)

-- who rests in the vector does nothing
pub rests-so : (m : Running) → IsPhaseKept m → (n : ℕ) → n < length m.state.actors.items → rests (get_or m.state.actors.items n None) ≡ does_nothing ((world_of m).actors n)
rests-so m kept n within =
    let a = stands (get_or m.state.actors.items n None) (λ x. actor_of x ≡ (world_of m).actors n) (kept.core.is.actor n within) in
    ap rests a.1 ∙ ap does_nothing a.2

-- and where all others do too, everyone does
pub all-rest : (m : Running) → IsPhaseKept m → (n : ℕ) → n < length m.state.actors.items → AloneInOrder m n → m.in_order ≡ true → rests (get_or m.state.actors.items n None) ≡ true
    → (a : ℕ) → does_nothing ((world_of m).actors a) ≡ true
all-rest m kept n within alone order here a = elim (same-or-not a n) [
  | inl same ↦ ap (λ x. does_nothing ((world_of m).actors x)) same ∙ sym (rests-so m kept n within) ∙ here
  | inr differs ↦ alone order a differs
]

-- Reading the vector of cursors.

get-of : (xs : List Command) (i : ℕ) (c d : Command) → slice_get xs i ≡ Some c → get_or xs i d ≡ c
get-of [] i c d at = cc
get-of (x ∷ xs) zero c d at = cc
get-of (x ∷ xs) (suc i) c d at = get-of xs i c d at

get-any : (xs : List ℕ) (i d e : ℕ) → i < length xs → get_or xs i d ≡ get_or xs i e
get-any [] i d e low = absurd (omega arith)
get-any (x ∷ xs) zero d e low = refl
get-any (x ∷ xs) (suc i) d e low = get-any xs i d e (omega arith)

pub session-within : (m : Running) → IsPhaseKept m → (place : ℕ) (c : Command) → slice_get m.phase.now place ≡ Some c → session_of m.with c < length m.next.items
session-within m kept place c at =
    omega (arith, is-actor m.in_order (about_in m) (phase_of m) (world_of m) kept.core.inv.ghost_of (next_at m) kept.core.inv.holds kept.is_running place c at, kept.count, kept.core.count)

pub next-read : (m : Running) → IsPhaseKept m → (place : ℕ) (c d : Command) (session from next : ℕ) → slice_get m.phase.now place ≡ Some c → session ≡ session_of m.with (get_or m.phase.now place d) → from ≡ session
    → next ≡ get_or m.next.items from next → next ≡ next_at m (session_of m.with c)
next-read m kept place c d session from next at session_is from_is next_is =
    let who : from ≡ session_of m.with c = from_is ∙ session_is ∙ ap (session_of m.with) (get-of m.phase.now place c d at) in
    next_is ∙ ap (λ k. get_or m.next.items k next) who ∙ get-any m.next.items (session_of m.with c) next (length m.phase.now) (session-within m kept place c at)

-- What is kept whatever is known of the first command.
pub kept-look : (m : Running) → IsPhaseKept m → (begun : ℕ) (first : Option ℕ) (hands : FreeHands) → HasBegunTo m begun → IsPhaseKept (record m { begun = begun; first = first; hands = hands })
kept-look m kept begun first hands to = record {
  core = kept.core;
  may_run = kept.may_run;
  is_running = kept.is_running;
  behind = kept.behind;
  count = kept.count;
  few = kept.few;
  within = kept.within;
  left = kept.left;
  begun = to;
}
