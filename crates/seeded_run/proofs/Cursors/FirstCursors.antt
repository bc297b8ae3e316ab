-- The first commands of sessions in a phase, and a phase that found no memory before its first turn.
use Rattle.std.proofs.{Common.{◌≡◌, ◌≢◌, ◌∙◌, ◌<◌, ℕ, zero, suc, Bool, true, false, ◌==◌, List, [], ◌∷◌, length, Some, refl, sym, ap, subst, arith}, lemmas.Bool.{eq-eqb, eqb-true}}
use Rattle.std.specs.Prelude.{if◌then◌else◌, slice_get}
use Rattle.dim_hierarchy.specs.Dimension.{Dimension}
use Rattle.row_ledger.specs.declared.settings.Use.{Use}
use Rattle.script_form.specs.declared.script.Command.{Command}
use Rattle.script_run.specs.Places.{session_of}
use Rattle.core_pages.specs.volap_cell.specs.declared.state.State.{State}
use Rattle.seeded_run.specs.{Core.HasCore, Hands.AreFreeHands, Kept.AreIdle, Machine.{AreFirstCursors, IsFirstAt, IsFirstMoment, streams_open}, Phase.{ClosesLast, IsCoreHeld, MayAllRun, StopsBehindAny, about, held, most_actors, phase_from}, declared.machine.Running.Running}
use Rattle.seeded_run.proofs.{Holding.LeftAlone.apart, Phases.PhaseRuns.{behind-begins-law, stops-law}}

-- where a session's first command stands, or how many there are
first_in : Use → ℕ → List Command → ℕ
first_in with s [] = 0
first_in with s (c ∷ cs) = if session_of with c == s then 0 else suc (first_in with s cs)

first-at : (with : Use) (s : ℕ) (cs : List Command) → IsFirstAt with cs s (first_in with s cs)
unfolding first_in
first-at with s [] = record { within = omega arith; none = λ i c at low. cc; own = λ c at. cc }
first-at with s (c ∷ cs) = by (first-at with s cs) (session_of with c == s) refl
  where
    by : IsFirstAt with cs s (first_in with s cs) → (b : Bool) → (session_of with c == s) ≡ b → IsFirstAt with (c ∷ cs) s (if session_of with c == s then 0 else suc (first_in with s cs))
    by f true is = subst (λ b. IsFirstAt with (c ∷ cs) s (if b then 0 else suc (first_in with s cs))) (sym is) (record {
      within = omega arith;
      none = λ i d at low. absurd (omega (arith, low));
      own = λ d at. (let same : c ≡ d = cc in ap (session_of with) (sym same) ∙ eqb-true (session_of with c) s is);
    })
    by f false is = subst (λ b. IsFirstAt with (c ∷ cs) s (if b then 0 else suc (first_in with s cs))) (sym is) (record {
      within = (let low = f.within in omega arith);
      none = none;
      own = λ d at. f.own d at;
    })
      where
        none : (i : ℕ) (d : Command) → slice_get (c ∷ cs) i ≡ Some d → i < suc (first_in with s cs) → session_of with d ≢ s
        none zero d at low = λ e. (let same : c ≡ d = cc in apart (session_of with c == s) (eq-eqb (session_of with c) s (ap (session_of with) same ∙ e)) is)
        none (suc i) d at low = f.none i d at (omega (arith, low))

-- Where a phase stops as it begins, so far is a part of a run as it was before.
pub stopped-first : (h : List Dimension) (with : Use) (phase : List Command) (x : State) (in_order : Bool) → StopsBehindAny in_order h with phase x x
stopped-first h with phase x in_order done between =
    let p = phase_from h with phase x in
    let next = λ (s : ℕ). first_in with s phase in
    stops-law in_order (about h with x) p done (held h with x) next
    (behind-begins-law in_order (about h with x) p done (held h with x) next between refl
    (record { first = λ s i c at low. (first-at with s phase).none i c at low; own = λ s c at. (first-at with s phase).own c at }))

-- where a phase begins so
pub first-moment : (m : Running) (x : State) → m.state ≡ x → IsCoreHeld m.h.now m.with x → MayAllRun m.h.now m.with m.phase.now → ClosesLast m.phase.now
    → AreIdle (held m.h.now m.with x) → m.before.value ≡ x → AreFirstCursors m.with m.phase.now (length x.actors.items) m.next.items
    → m.left ≡ streams_open (length m.phase.now) m.next.items → m.begun ≡ 0 → AreFreeHands x.actors.items m.hands → IsFirstMoment m
first-moment m x is core may closes idle before next left begun hands = record {
  core = subst (λ (y : State). HasCore m.h.now m.with y.cells.items y.actors.items) (sym is) core.0;
  few = subst (λ (y : State). length y.actors.items < most_actors) (sym is) core.1;
  may_run = may;
  closes = closes;
  idle = subst (λ (y : State). AreIdle (held m.h.now m.with y)) (sym is) idle;
  before = before ∙ sym is;
  next = subst (λ (y : State). AreFirstCursors m.with m.phase.now (length y.actors.items) m.next.items) (sym is) next;
  left = left;
  begun = begun;
  hands = subst (λ (y : State). AreFreeHands y.actors.items m.hands) (sym is) hands;
}
