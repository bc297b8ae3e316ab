-- A phase: what closes it, and what has been done of it.
use Rattle.std.proofs.{Common.{◌≡◌, ◌∙◌, ℕ, zero, suc, ◌+◌, ◌-◌, ◌<◌, Bool, true, false, List, [], ◌∷◌, ◌++◌, length, take, get_or, slice_get, Some, inl, inr, refl, sym, ap, arith, append-nil}, lemmas.{Bool.false≢true, Option.{get_or_from_slice_get, slice_get_within}}}
use Rattle.dim_hierarchy.specs.Dimension.{Dimension}
use Rattle.row_ledger.specs.declared.{event.Event.Event, settings.Use.Use}
use Rattle.script_form.specs.declared.script.Command.{Command}
use Rattle.script_run.specs.{Phases.closes, Streams.NoneCloses}
use Rattle.hall_hands.specs.seat_steps.specs.declared.floor.Floor.{Floor}
use Rattle.session_runs.proofs.Later.{later-then}
use Rattle.session_runs.specs.Sessions.{BeginsNothing, DoesPhase, EachDoes, EachDoesFirst}
use Rattle.hall_hands.specs.actor_run.specs.Passes.{PassesValue}
use Rattle.threaded_run.proofs.{Coming.came-on, Passing.came-weaker}
use Rattle.threaded_run.specs.{Phases.{AreBack, StopsInPhase}, Streams.{AllFit, ClosesLast, NoneClosesAt}}

bool-false : (b : Bool) → (b ≡ true → ⊥) → b ≡ false
bool-false true never = absurd (never refl)
bool-false false never = refl

pub none-closes : (commands : List Command) → NoneClosesAt commands → NoneCloses commands
none-closes [] none = tt
none-closes (c ∷ cs) none = (none 0 c refl, none-closes cs (λ i x at. none (suc i) x at))

-- a list but for its last
last-split : (phase : List Command) (many : ℕ) (last : Command) → slice_get phase many ≡ Some last → many + 1 ≡ length phase → phase ≡ take many phase ++ last ∷ []
last-split [] many last at long = absurd (omega (arith, long))
last-split (c ∷ []) zero last at long = (let same : c ≡ last = cc in ap (λ (x : Command). x ∷ []) same)
last-split (c ∷ d ∷ cs) zero last at long = absurd (omega (arith, long))
last-split (c ∷ cs) (suc many) last at long = ap (λ (l : List Command). c ∷ l) (last-split cs many last at (omega (arith, long)))

get-take : (phase : List Command) (many i : ℕ) (c : Command) → slice_get (take many phase) i ≡ Some c → (slice_get phase i ≡ Some c) × (i < many)
get-take [] zero i c at = cc
get-take [] (suc many) i c at = cc
get-take (x ∷ phase) zero i c at = cc
get-take (x ∷ phase) (suc many) zero c at = (at, omega arith)
get-take (x ∷ phase) (suc many) (suc i) c at = (let rest = get-take phase many i c at in (rest.0, (let low = rest.1 in omega (arith, low))))

module _ (phase : List Command) (many : ℕ) (long : many + 1 ≡ length phase) where
  -- no one in front of the last closes the phase
  pub front-closes-none : ClosesLast phase → NoneClosesAt (take many phase)
  front-closes-none last i c at = bool-false (closes c) (λ yes. (let there = get-take phase many i c at in let low = there.1 in let end = last i c there.0 yes in omega (arith, low, end, long)))

  pub front-fits : (f : Floor) → AllFit f phase → AllFit f (take many phase)
  front-fits f fit i c at = fit i c (get-take phase many i c at).0

-- a phase without commands, or whose last one doesn't close it, is not closed

pub empty-none : (phase : List Command) → length phase ≡ 0 → NoneClosesAt phase
empty-none phase none i c at = (let within = slice_get_within phase i c at in absurd (omega (arith, within, none)))

pub last-none : (phase : List Command) (last : Command) → last ≡ get_or phase (length phase - 1) last → closes last ≡ false → ClosesLast phase → NoneClosesAt phase
last-none phase last is plain only i c at = bool-false (closes c) (λ yes.
    let end = only i c at yes in
    let here : i ≡ length phase - 1 = omega (arith, end) in
    let same : last ≡ c = is ∙ ap (λ (k : ℕ). get_or phase k last) (sym here) ∙ get_or_from_slice_get phase i c last at in
    false≢true (sym plain ∙ ap closes same ∙ yes))

-- What has been done of a phase.

module _ (with : Use) (h : List Dimension) (phase : List Command) (past now : List Event) where
  pub together-done : NoneClosesAt phase → EachDoes with h phase past now → DoesPhase with h phase past now
  together-done none does = inl (none-closes phase none, does)

  pub together-stops : NoneClosesAt phase → EachDoesFirst with h phase past now → StopsInPhase with h phase past now
  together-stops none first = record { front = phase; more = []; split = sym (append-nil phase); none_closes = none-closes phase none; first = first }

module _ (f : Floor) (phase : List Command) (many : ℕ) (last : Command) (at : slice_get phase many ≡ Some last) (long : many + 1 ≡ length phase) (only : ClosesLast phase) (past : List Event) where
  abbrev front : List Command
  front = take many phase

  pub front-stops : (now : List Event) → EachDoesFirst f.with f.hierarchy front past now → StopsInPhase f.with f.hierarchy phase past now
  front-stops now first = record { front = front; more = last ∷ []; split = last-split phase many last at long; none_closes = none-closes front (front-closes-none phase many long only); first = first }

  module _ (between now : List Event) (does : EachDoes f.with f.hierarchy front past between) where
    pub last-done : EachDoes f.with f.hierarchy (last ∷ []) between now → DoesPhase f.with f.hierarchy phase past now
    last-done then = inr (record { front = front; last = last; split = last-split phase many last at long; none_closes = none-closes front (front-closes-none phase many long only); between = between; first = does; then = then })

    -- where the last one finds no memory
    pub last-stops : ((session : ℕ) → BeginsNothing session between now) → StopsInPhase f.with f.hierarchy phase past now
    last-stops nothing = front-stops now (λ session.
        came-weaker f session front past now false true (λ e. refl) (came-on f session front past between now false (does session) (nothing session)))

pub back-twice : (f : Floor) (was mid now : PassesValue) → AreBack f was mid → AreBack f mid now → AreBack f was now
back-twice f was mid now first second = record { phased = second.phased; setting = second.setting ∙ first.setting; later = later-then was.seen mid.seen now.seen first.later second.later }

-- Events behind it that begin nothing.

module _ (f : Floor) (past mid now : List Event) (nothing : (session : ℕ) → BeginsNothing session mid now) where
  each-on : (commands : List Command) → EachDoes f.with f.hierarchy commands past mid → EachDoes f.with f.hierarchy commands past now
  each-on commands does session = came-on f session commands past mid now false (does session) (nothing session)

  pub phase-on : (phase : List Command) → DoesPhase f.with f.hierarchy phase past mid → DoesPhase f.with f.hierarchy phase past now
  phase-on phase (inl does) = inl (does.0, each-on phase does.1)
  phase-on phase (inr last) = inr (record {
    front = last.front;
    last = last.last;
    split = last.split;
    none_closes = last.none_closes;
    between = last.between;
    first = last.first;
    then = λ session. came-on f session (last.last ∷ []) last.between mid now false (last.then session) (nothing session);
  })
