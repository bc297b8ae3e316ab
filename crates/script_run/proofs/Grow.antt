-- A part of a run stays one when the history grows.
use Rattle.std.proofs.Common.{◌≡◌, ◌≢◌, ◌∙◌, ℕ, ◌<◌, ◌≤◌, ◌⊎◌, inl, inr, false, List, ◌∷◌, length, refl, sym, ap, subst, arith}
use Rattle.std.specs.Prelude.{Option, Some, None, slice_get, IsTrue}
use Rattle.dim_hierarchy.specs.Dimension.{Dimension}
use Rattle.row_ledger.specs.{Past.{event_at, is_over, is_beginning}, declared.event.Event.Event, declared.event.Event.TheVariants.Ended, declared.settings.Use.Use}
use Rattle.row_ledger.proofs.Positions.{event_at-here, event_at-older, event_at-past, before-older, before-here}
use Rattle.script_form.specs.{declared.script.Command.Command, declared.script.Command.TheVariants.{Insert, Query, Control, Group}}
use Rattle.script_run.specs.{Parts.{IsPartAt, IsNext, HasPlace}, Runs.{HasPulls, Begins, BeginsAt, EndsBefore}}

pub below-or : (a b : ℕ) → (a < b) ⊎ (b ≤ a)
below-or a b = grind arith

pub same-or : (a b : ℕ) → (a ≡ b) ⊎ (a ≢ b)
same-or a b = grind arith

some-none : {X : Type 0} (o : Option Event) (e : Event) → o ≡ Some e → o ≡ None → X
some-none o e a b = cc

-- a position with an event is one of the history
pub within : (history : List Event) (p : ℕ) (e : Event) → event_at history p ≡ Some e → p < length history
within history p e at =
    elim (below-or p (length history)) [
      | inl below ↦ below
      | inr past ↦ some-none (event_at history p) e at (event_at-past history p past)
    ]

begins-older : (with : Use) (h : List Dimension) (e : Event) (history : List Event) (c : Command) (o : Option ℕ) → BeginsAt with h history c o → BeginsAt with h (e ∷ history) c o
begins-older with h e history c None b = tt
begins-older with h e history c (Some p) (b, at, begins) =
    let low = within history p b at in
    (b, event_at-older e history p low ∙ at, subst (λ past. Begins with h past c b) (sym (before-older e history p (omega arith))) begins)

-- a place of a command that has begun is in the history
place-within : (with : Use) (h : List Dimension) (history : List Event) (c : Command) (o : Option ℕ) → BeginsAt with h history c o → (q : ℕ) → o ≡ Some q → q < length history
place-within with h history c None b q is = cc
place-within with h history c (Some p) (e, at, begins) q is = let same : p ≡ q = cc in subst (λ n. n < length history) same (within history p e at)

ends-older : (e : Event) (history : List Event) (o w : Option ℕ) → ((q : ℕ) → w ≡ Some q → q < length history) → EndsBefore history o w → EndsBefore (e ∷ history) o w
ends-older e history o None low b = tt
ends-older e history None (Some q) low b = b
ends-older e history (Some p) (Some q) low (less, over) =
    let lq = low q refl in
    (less, subst (λ past. IsTrue (is_over past p)) (sym (before-older e history q (omega arith))) over)

here-or-none : (e : Event) (history : List Event) (p : ℕ) → length history ≤ p → (b : Event) → event_at (e ∷ history) p ≡ Some b → e ≡ b
here-or-none e history p past b at =
    elim (same-or (length history) p) [
      | inl is ↦ let here = event_at-here e history in let there : event_at (e ∷ history) (length history) ≡ Some b = subst (λ n. event_at (e ∷ history) n ≡ Some b) (sym is) at in cc
      | inr not ↦ some-none (event_at (e ∷ history) p) b at (event_at-past (e ∷ history) p (omega arith))
    ]

at-here : (e : Event) (history : List Event) (p : ℕ) → length history ≤ p → (b : Event) → event_at (e ∷ history) p ≡ Some b → p ≡ length history
at-here e history p past b at =
    elim (same-or (length history) p) [
      | inl is ↦ sym is
      | inr not ↦ some-none (event_at (e ∷ history) p) b at (event_at-past (e ∷ history) p (omega arith))
    ]

no-begin : (e b : Event) → e ≡ b → is_beginning e ≡ false → IsTrue (is_beginning b) → ⊥
no-begin e b is none beginning = let same = ap is_beginning is in cc

-- An event that begins nothing.
pub other : (with : Use) (h : List Dimension) (commands : List Command) (waits : ℕ → ℕ → Type 0) (e : Event) (history : List Event) (place : ℕ → Option ℕ)
    → is_beginning e ≡ false → HasPulls with history e → IsPartAt with h commands waits history place → IsPartAt with h commands waits (e ∷ history) place
other with h commands waits e history place none pulls part = record {
  begun = λ i c at. begins-older with h e history c (place i) (part.begun i c at);
  only = λ p b at beginning.
      elim (below-or p (length history)) [
        | inl below ↦ part.only p b (sym (event_at-older e history p below) ∙ at) beginning
        | inr past ↦ absurd (no-begin e b (here-or-none e history p past b at) none beginning)
      ];
  in_turn = λ i j c d ci dj w. ends-older e history (place i) (place j) (place-within with h history d (place j) (part.begun j d dj)) (part.in_turn i j c d ci dj w);
  pulls = (pulls, part.pulls);
}

-- a beginning pulls nothing
begins-pulls : (with : Use) (h : List Dimension) (c : Command) (e : Event) (history : List Event) → Begins with h history c e → HasPulls with history e
begins-pulls with h (Insert new) (Ended of how) history begins = absurd begins
begins-pulls with h (Query question) (Ended of how) history begins = absurd begins
begins-pulls with h (Control called) (Ended of how) history begins = absurd begins
begins-pulls with h (Group dim level names) (Ended of how) history begins = absurd begins
begins-pulls with h c e history begins = tt

same-command : (commands : List Command) (k : ℕ) (c d : Command) → slice_get commands k ≡ Some c → slice_get commands k ≡ Some d → c ≡ d
same-command commands k c d a b = cc

none-some : (o : Option ℕ) (p : ℕ) → o ≡ None → o ≡ Some p → ⊥
none-some o p a b = cc

none-before : (history : List Event) (o : Option ℕ) → EndsBefore history None o → o ≡ None
none-before history None b = refl
none-before history (Some q) b = absurd b

pub ends-none : (history : List Event) (o w : Option ℕ) → w ≡ None → EndsBefore history o w
ends-none history o w is = subst (EndsBefore history o) (sym is) tt

-- The next command of a session begins.
pub begin : (with : Use) (h : List Dimension) (commands : List Command) (waits : ℕ → ℕ → Type 0) (e : Event) (history : List Event) (place now : ℕ → Option ℕ) (k : ℕ)
    → IsNext with h commands waits history place k e → HasPlace k (length history) place now
    → IsPartAt with h commands waits history place → IsPartAt with h commands waits (e ∷ history) now
begin with h commands waits e history place now k next has part = record {
  begun = λ i c at. elim (same-or i k) [
    | inl is ↦ subst (λ o. BeginsAt with h (e ∷ history) c o) (sym (ap now is ∙ has.here))
        (subst (λ (x : Command). BeginsAt with h (e ∷ history) x (Some (length history))) (same-command commands k next.command c next.at (subst (λ n. slice_get commands n ≡ Some c) is at))
        (e, event_at-here e history, subst (λ past. Begins with h past next.command e) (sym (before-here e history)) next.begins))
    | inr not ↦ subst (λ o. BeginsAt with h (e ∷ history) c o) (sym (has.others i not)) (begins-older with h e history c (place i) (part.begun i c at))
  ];
  only = λ p b at beginning. elim (below-or p (length history)) [
    | inl below ↦
        let old = part.only p b (sym (event_at-older e history p below) ∙ at) beginning in
        (old.0, old.1, old.2, has.others old.0 (λ is. none-some (place k) p next.none (ap place (sym is) ∙ old.3)) ∙ old.3)
    | inr past ↦ (k, next.command, next.at, has.here ∙ ap Some (sym (at-here e history p past b at)))
  ];
  in_turn = λ i j c d ci dj w. elim (same-or j k) [
    | inl is ↦
        let waited = next.waited i c ci (subst (waits i) is w) in
        let apart : i ≢ k = λ at. next.itself (subst (λ n. waits n k) at (subst (waits i) is w)) in
        subst (λ o. EndsBefore (e ∷ history) o (now j)) (sym (has.others i apart ∙ waited.1))
        (subst (λ o. EndsBefore (e ∷ history) (Some waited.0) o) (sym (ap now is ∙ has.here)) (
          place-within with h history c (place i) (part.begun i c ci) waited.0 waited.1,
          subst (λ past. IsTrue (is_over past waited.0)) (sym (before-here e history)) waited.2,
        ))
    | inr other_j ↦
        subst (λ o. EndsBefore (e ∷ history) (now i) o) (sym (has.others j other_j))
        (elim (same-or i k) [
          | inl is ↦ ends-none (e ∷ history) (now i) (place j)
              (none-before history (place j) (subst (λ o. EndsBefore history o (place j)) (ap place is ∙ next.none) (part.in_turn i j c d ci dj w)))
          | inr other_i ↦ subst (λ o. EndsBefore (e ∷ history) o (place j)) (sym (has.others i other_i))
              (ends-older e history (place i) (place j) (place-within with h history d (place j) (part.begun j d dj)) (part.in_turn i j c d ci dj w))
        ])
  ];
  pulls = (begins-pulls with h next.command e history next.begins, part.pulls);
}
