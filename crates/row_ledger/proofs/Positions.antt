-- Positions of a history, the newest event first.
use Rattle.std.proofs.{Common.{◌≡◌, ◌∙◌, ℕ, ◌≤◌, ◌<◌, ◌-◌, List, [], ◌∷◌, ◌++◌, length, reverse, refl, sym, ap, subst, arith}, lemmas.Bool.Decides.nat_tests, lemmas.Grind.common_steps, lemmas.List.{length-reverse, reverse-append, reverse-reverse}, lemmas.Option.gets}
use Rattle.std.specs.Prelude.{Some, None, slice_get}
use Rattle.row_ledger.specs.{Past.{event_at, before, newest, since}, declared.event.Event.Event}

-- the newest event stands at the length of its past
pub event_at-here : (e : Event) (past : List Event) → event_at (e ∷ past) (length past) ≡ Some e
event_at-here e past = grind (arith, nat_tests)

-- the others stand where they stood
pub event_at-older : (e : Event) (past : List Event) (p : ℕ) → p < length past → event_at (e ∷ past) p ≡ event_at past p
event_at-older e past p older = grind (arith, nat_tests)

-- and none stands further on
pub event_at-past : (h : List Event) (p : ℕ) → length h ≤ p → event_at h p ≡ None
event_at-past [] p beyond = refl
event_at-past (e ∷ past) p beyond = grind (arith, nat_tests, event_at-past past p)

event_at-step : (e : Event) (past : List Event) (p : ℕ) → event_at past p ≡ slice_get (reverse past) p
    → event_at (e ∷ past) p ≡ slice_get (reverse past ++ e ∷ []) p
event_at-step e past p older = grind (arith, nat_tests, common_steps, gets)

event_at-reverse : (h : List Event) (p : ℕ) → event_at h p ≡ slice_get (reverse h) p
event_at-reverse [] p = refl
event_at-reverse (e ∷ past) p = rw (reverse-append (e ∷ []) past) (event_at-step e past p (event_at-reverse past p))

-- positions count from the oldest event
pub event_at_reversed : (events : List Event) (p : ℕ) → event_at (reverse events) p ≡ slice_get events p
event_at_reversed events p = event_at-reverse (reverse events) p ∙ ap (λ l. slice_get l p) (reverse-reverse events)

-- the newest event stands last in the order of time

newest-at : (h : List Event) → newest h ≡ event_at h (length h - 1)
newest-at [] = refl
newest-at (e ∷ past) =
    let n : length (e ∷ past) - 1 ≡ length past = omega arith in
    sym (subst (λ (p : ℕ). event_at (e ∷ past) p ≡ Some e) (sym n) (event_at-here e past))

pub newest_reversed : (events : List Event) → slice_get events (length events - 1) ≡ newest (reverse events)
newest_reversed events = sym (event_at_reversed events (length events - 1)) ∙ ap (λ (n : ℕ). event_at (reverse events) (n - 1)) (sym (length-reverse events)) ∙ sym (newest-at (reverse events))

-- what stands before a position stays
pub before-older : (e : Event) (past : List Event) (p : ℕ) → p ≤ length past → before (e ∷ past) p ≡ before past p
before-older e past p older = grind (arith, nat_tests)

-- before the position of the next event stands all
pub before-all : (h : List Event) → before h (length h) ≡ h
before-all [] = refl
before-all (e ∷ past) = grind (arith, nat_tests)

-- before the newest event stands its past
pub before-here : (e : Event) (past : List Event) → before (e ∷ past) (length past) ≡ past
before-here e past = grind (arith, before-older, before-all)

-- the events behind a position that the newest event stands behind, or doesn't

pub since-inside : (e : Event) (past : List Event) (p : ℕ) → p < length past → since (e ∷ past) p ≡ e ∷ since past p
since-inside e past p inside = grind (arith, nat_tests)

pub since-outside : (e : Event) (past : List Event) (p : ℕ) → length past ≤ p → since (e ∷ past) p ≡ []
since-outside e past p outside = grind (arith, nat_tests)
