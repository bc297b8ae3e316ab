-- What stays as a history grows, and what its growth adds to the beginnings of a session.
use Rattle.std.proofs.{Common.{◌≡◌, ◌∙◌, ℕ, zero, suc, ◌<◌, ◌≤◌, ◌⊎◌, inl, inr, true, List, [], ◌∷◌, ◌++◌, length, Some, refl, sym, ap, subst, arith, append_assoc, append-nil, length-append}, lemmas.Bool.cases_lt, lemmas.List.append_cancel_left, lemmas.Option.slice_get_within}
use Rattle.std.specs.Prelude.{IsTrue, slice_get}
use Rattle.dim_hierarchy.specs.Dimension.{Dimension}
use Rattle.row_ledger.proofs.{Before.{at-later, before-behind, before-later}, Older.is_over-older, Positions.{before-all, before-here, event_at-here, event_at-older}}
use Rattle.row_ledger.specs.{Past.{before, event_at, is_over, session_in}, Right.EachEvent, declared.event.Event.Event, declared.settings.Use.Use}
use Rattle.script_form.specs.declared.script.Command.{Command}
use Rattle.script_run.proofs.{Begin.{begins-own, bool-or}, Grow.{within}, NextCommand.{get-middle, some-eq}, PlaceFacts.{begins_of-here, begins_of-other, slice_get-left}}
use Rattle.script_run.specs.{Places.{begins_in, begins_of}, Runs.{Begins, BeginsAt, EndsBefore}}
use Rattle.session_runs.specs.Sessions.{IsLater}

-- Histories.

pub later-then : (a b c : List Event) → IsLater a b → IsLater b c → IsLater a c
later-then a b c (first, is) (more, then) = (more ++ first, then ∙ ap (λ l. more ++ l) is ∙ sym (append_assoc more first a))

pub later-length : (past now : List Event) → IsLater past now → length past ≤ length now
later-length past now (newer, is) = omega (arith, ap length is, length-append newer past)

pub at-then : (past now : List Event) → IsLater past now → (p : ℕ) (e : Event) → event_at past p ≡ Some e → event_at now p ≡ Some e
at-then past now (newer, is) p e at = ap (λ l. event_at l p) is ∙ at-later newer past p e at

pub before-then : (past now : List Event) → IsLater past now → (p : ℕ) → p ≤ length past → before now p ≡ before past p
before-then past now (newer, is) p low = ap (λ l. before l p) is ∙ before-later newer past p low

-- what stands below the length of the earlier history stood there
pub at-before : (newer past : List Event) (p : ℕ) → p < length past → event_at (newer ++ past) p ≡ event_at past p
at-before [] past p low = refl
at-before (e ∷ newer) past p low = event_at-older e (newer ++ past) p (omega (arith, length-append newer past)) ∙ at-before newer past p low

pub at-first : (past now : List Event) → IsLater past now → (p : ℕ) → p < length past → event_at now p ≡ event_at past p
at-first past now (newer, is) p low = ap (λ l. event_at l p) is ∙ at-before newer past p low

over-more : (newer past : List Event) (p : ℕ) → IsTrue (is_over past p) → IsTrue (is_over (newer ++ past) p)
over-more [] past p over = over
over-more (e ∷ newer) past p over = is_over-older e (newer ++ past) p (over-more newer past p over)

pub over-then : (past now : List Event) → IsLater past now → (p : ℕ) → IsTrue (is_over past p) → IsTrue (is_over now p)
over-then past now (newer, is) p over = subst (λ l. IsTrue (is_over l p)) (sym is) (over-more newer past p over)

-- the history at a position behind an earlier one is later than that
pub later-before : (past now : List Event) → IsLater past now → (q : ℕ) → length past ≤ q → IsLater past (before now q)
later-before past now (newer, is) q low = let rest = before-behind newer past q low in (rest.0, ap (λ l. before l q) is ∙ rest.1)

pub begins-then : (with : Use) (h : List Dimension) (past now : List Event) → IsLater past now → (c : Command) (p : ℕ) → BeginsAt with h past c (Some p) → BeginsAt with h now c (Some p)
begins-then with h past now later c p (e, at, begins) =
    let low : p < length past = within past p e at in
    (e, at-then past now later p e at, subst (λ l. Begins with h l c e) (sym (before-then past now later p (omega arith))) begins)

pub ends-then : (past now : List Event) → IsLater past now → (p q : ℕ) → q ≤ length past → EndsBefore past (Some p) (Some q) → EndsBefore now (Some p) (Some q)
ends-then past now later p q low (less, over) = (less, subst (λ l. IsTrue (is_over l p)) (sym (before-then past now later q low)) over)

pub ends-first : (past now : List Event) → IsLater past now → (p q : ℕ) → q ≤ length past → EndsBefore now (Some p) (Some q) → EndsBefore past (Some p) (Some q)
ends-first past now later p q low (less, over) = (less, subst (λ l. IsTrue (is_over l p)) (before-then past now later q low) over)

-- what is over in an earlier history ends before all that begins behind it
pub ends-behind : (past now : List Event) → IsLater past now → (p q : ℕ) → p < length past → length past ≤ q → IsTrue (is_over past p) → EndsBefore now (Some p) (Some q)
ends-behind past now later p q inside low over = (omega arith, over-then past (before now q) (later-before past now later q low) p over)

-- What is so of each event.

pub each-at : (P : List Event → Event → Type 0) (h : List Event) (p : ℕ) (e : Event) → EachEvent P h → event_at h p ≡ Some e → P (before h p) e
each-at P [] p e each at = cc
each-at P (x ∷ past) p e each at = elim (cases_lt p (length past)) [
  | inl low ↦ subst (λ l. P l e) (sym (before-then past (x ∷ past) (x ∷ [], refl) p (omega arith))) (each-at P past p e each.1 (sym (event_at-older x past p low) ∙ at))
  | inr high ↦
      let inside = within (x ∷ past) p e at in
      let here : p ≡ length past = omega arith in
      let same : x ≡ e = some-eq x e (event_at (x ∷ past) (length past)) (event_at-here x past) (subst (λ n. event_at (x ∷ past) n ≡ Some e) here at) in
      subst (λ n. P (before (x ∷ past) n) e) (sym here) (subst (P (before (x ∷ past) (length past))) same (subst (λ l. P l x) (sym (before-then past (x ∷ past) (x ∷ [], refl) (length past) (omega arith) ∙ before-all past)) each.0))
]

pub each-from : (P : List Event → Event → Type 0) (h : List Event) → ((p : ℕ) (e : Event) → event_at h p ≡ Some e → P (before h p) e) → EachEvent P h
each-from P [] all = tt
each-from P (x ∷ past) all = (
  subst (λ l. P l x) (before-here x past) (all (length past) x (event_at-here x past)),
  each-from P past (λ p e at.
      let low = within past p e at in
      subst (λ l. P l e) (before-then past (x ∷ past) (x ∷ [], refl) p (omega arith)) (all p e (event_at-older x past p low ∙ at))),
)

-- Beginnings of a session.

last-or : (xs : List ℕ) (x k p : ℕ) → slice_get (xs ++ x ∷ []) k ≡ Some p → (slice_get xs k ≡ Some p) ⊎ (p ≡ x)
last-or [] x zero p at = inr cc
last-or [] x (suc k) p at = cc
last-or (y ∷ xs) x zero p at = inl at
last-or (y ∷ xs) x (suc k) p at = last-or xs x k p at

pub behind-or : (xs ys : List ℕ) (k p : ℕ) → slice_get (xs ++ ys) k ≡ Some p → (slice_get xs k ≡ Some p) ⊎ ((j : ℕ) × (slice_get ys j ≡ Some p))
behind-or [] ys k p at = inr (k, at)
behind-or (x ∷ xs) ys zero p at = inl at
behind-or (x ∷ xs) ys (suc k) p at = behind-or xs ys k p at

-- each of them is a position of the history
pub begins-within : (history : List Event) (s k p : ℕ) → slice_get (begins_of history s) k ≡ Some p → p < length history
unfolding begins_of
begins-within [] s k p at = cc
begins-within (e ∷ past) s k p at = elim (bool-or (begins_in s e)) [
  | inl begins ↦ elim (last-or (begins_of past s) (length past) k p (ap (λ l. slice_get l k) (sym (begins_of-here e past s begins)) ∙ at)) [
    | inl old ↦ let low = begins-within past s k p old in omega arith
    | inr is ↦ omega (arith, is)
  ]
  | inr other ↦ let low = begins-within past s k p (ap (λ l. slice_get l k) (sym (begins_of-other e past s other)) ∙ at) in omega arith
]

-- an event that begins one is among them
pub has-begun : (history : List Event) (p : ℕ) (e : Event) (s : ℕ) → event_at history p ≡ Some e → session_in e ≡ Some s → (k : ℕ) × (slice_get (begins_of history s) k ≡ Some p)
unfolding begins_of
has-begun [] p e s at is = cc
has-begun (x ∷ past) p e s at is = elim (cases_lt p (length past)) [
  | inl low ↦
      let old = has-begun past p e s (sym (event_at-older x past p low) ∙ at) is in
      elim (bool-or (begins_in s x)) [
        | inl begins ↦ (
          old.0,
          ap (λ l. slice_get l old.0) (begins_of-here x past s begins)
              ∙ slice_get-left (begins_of past s) (length past ∷ []) old.0 (slice_get_within (begins_of past s) old.0 p old.1) ∙ old.1,
        )
        | inr other ↦ (old.0, ap (λ l. slice_get l old.0) (begins_of-other x past s other) ∙ old.1)
      ]
  | inr high ↦
      let inside = within (x ∷ past) p e at in
      let here : p ≡ length past = omega arith in
      let same : x ≡ e = some-eq x e (event_at (x ∷ past) (length past)) (event_at-here x past) (subst (λ n. event_at (x ∷ past) n ≡ Some e) here at) in
      let begins : begins_in s x ≡ true = begins-own s x (ap session_in same ∙ is) in (
        length (begins_of past s),
        ap (λ l. slice_get l (length (begins_of past s))) (begins_of-here x past s begins)
            ∙ get-middle (begins_of past s) [] (length past) ∙ ap Some (sym here),
      )
]

-- what a session has begun since an earlier history
pub record HasMore (s : ℕ) (past now : List Event) : Type 0 where
  pub places : List ℕ
  pub are : begins_of now s ≡ begins_of past s ++ places
  pub from : (k p : ℕ) → slice_get places k ≡ Some p → length past ≤ p

begins-more : (s : ℕ) (newer past : List Event) → HasMore s past (newer ++ past)
begins-more s [] past = record { places = []; are = sym (append-nil (begins_of past s)); from = λ k p at. cc }
begins-more s (e ∷ newer) past =
    let more = begins-more s newer past in
    elim (bool-or (begins_in s e)) [
      | inl begins ↦ record {
        places = more.places ++ length (newer ++ past) ∷ [];
        are = begins_of-here e (newer ++ past) s begins ∙ ap (λ l. l ++ length (newer ++ past) ∷ []) more.are ∙ append_assoc (begins_of past s) more.places (length (newer ++ past) ∷ []);
        from = λ k p at. elim (last-or more.places (length (newer ++ past)) k p at) [
          | inl old ↦ more.from k p old
          | inr is ↦ omega (arith, is, length-append newer past)
        ];
      }
      | inr other ↦ record { places = more.places; are = begins_of-other e (newer ++ past) s other ∙ more.are; from = more.from }
    ]

pub has-more : (s : ℕ) (past now : List Event) → IsLater past now → HasMore s past now
has-more s past now (newer, is) = subst (HasMore s past) (sym is) (begins-more s newer past)

-- those that it has begun are behind the earlier history
pub more-from : (s : ℕ) (past now : List Event) (places : List ℕ) → IsLater past now → begins_of now s ≡ begins_of past s ++ places → (k p : ℕ) → slice_get places k ≡ Some p → length past ≤ p
more-from s past now places later are k p at =
    let more = has-more s past now later in
    let same : places ≡ more.places = append_cancel_left (begins_of past s) places more.places (sym are ∙ more.are) in
    more.from k p (ap (λ l. slice_get l k) (sym same) ∙ at)
