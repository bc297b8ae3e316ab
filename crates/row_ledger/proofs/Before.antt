-- What stands before a position of a history, and what has ended there.
use Rattle.std.proofs.{Common.{◌≡◌, ◌∙◌, ℕ, ◌<◌, ◌≤◌, ◌||◌, inl, inr, Bool, true, false, IsTrue, List, [], ◌∷◌, ◌++◌, length, length-append, refl, sym, ap, subst, arith}, lemmas.Bool.{cases_lt, false≢true}, lemmas.Bool.Decides.nat_tests}
use Rattle.std.specs.{List.cons_option, Option.option_map_or, Prelude.{Option, Some, None, filter_map, option_and_then}}
use Rattle.list_words.proofs.Elements.{Some-same}
use Rattle.row_ledger.proofs.{Fresh.{event_at-within, kind-within}, Older.has_ended-older, Positions.{before-older, event_at-here, event_at-older, since-inside, since-outside}}
use Rattle.row_ledger.specs.{Past.{Insert, Query, acked, before, ends_itself, event_at, has_ended, insert_at, insert_in, is_beginning, is_over, query_in, since}, Right.{EachEvent, Stands}, Site.Site, declared.event.Event.Event, declared.event.Event.TheVariants.{Acked, Asked, Begun}}

-- Positions.

-- before a position behind the newest event stands all
pub before-whole : (e : Event) (past : List Event) (p : ℕ) → length past < p → before (e ∷ past) p ≡ e ∷ past
before-whole e past p low = grind (arith, nat_tests)

-- what stands before a position stands there in the whole
pub before-at : (past : List Event) (of p : ℕ) (e : Event) → event_at (before past of) p ≡ Some e → (event_at past p ≡ Some e) × (p < of)
before-at [] of p e at = cc
before-at (x ∷ past) of p e at = elim (cases_lt (length past) of) [
  | inl low ↦
      let here : event_at (x ∷ past) p ≡ Some e = subst (λ (l : List Event). event_at l p ≡ Some e) (before-whole x past of low) at in
      let within : p < length (x ∷ past) = event_at-within (x ∷ past) p (λ none. cc) in
      (here, omega (arith, within, low))
  | inr high ↦
      let older = before-at past of p e (subst (λ (l : List Event). event_at l p ≡ Some e) (before-older x past of high) at) in
      let there : event_at past p ≡ Some e = older.0 in
      (event_at-older x past p (event_at-within past p (λ none. cc)) ∙ there, older.1)
]

pub at-older : (x : Event) (past : List Event) (p : ℕ) (e : Event) → event_at past p ≡ Some e → event_at (x ∷ past) p ≡ Some e
at-older x past p e at = event_at-older x past p (event_at-within past p (λ none. cc)) ∙ at

pub at-later : (later past : List Event) (p : ℕ) (e : Event) → event_at past p ≡ Some e → event_at (later ++ past) p ≡ Some e
at-later [] past p e at = at
at-later (x ∷ later) past p e at = at-older x (later ++ past) p e (at-later later past p e at)

pub before-later : (later past : List Event) (of : ℕ) → of ≤ length past → before (later ++ past) of ≡ before past of
before-later [] past of low = refl
before-later (x ∷ later) past of low = before-older x (later ++ past) of (omega (arith, length-append later past, low)) ∙ before-later later past of low

-- what has ended before a position has ended
pub ended-before : (past : List Event) (p of : ℕ) → has_ended (before past p) of ≡ true → has_ended past of ≡ true
ended-before [] p of ended = ended
ended-before (x ∷ past) p of ended = elim (cases_lt (length past) p) [
  | inl low ↦ subst (λ (l : List Event). has_ended l of ≡ true) (before-whole x past p low) ended
  | inr high ↦ has_ended-older x past of (ended-before past p of (subst (λ (l : List Event). has_ended l of ≡ true) (before-older x past p high) ended))
]

-- where no insert stands behind a position, none began since
pub none-since : (past : List Event) (of : ℕ) → ((p : ℕ) (e : Event) → event_at past p ≡ Some e → of < p → insert_in e ≡ None) → filter_map insert_in (since past of) ≡ []
none-since [] of none = refl
none-since (x ∷ past) of none = elim (cases_lt of (length past)) [
  | inl inside ↦
      let here : insert_in x ≡ None = none (length past) x (event_at-here x past) inside in
      ap (filter_map insert_in) (since-inside x past of inside)
      ∙ ap (λ (o : Option Insert). cons_option o (filter_map insert_in (since past of))) here
      ∙ none-since past of (λ p e at low. none p e (at-older x past p e at) low)
  | inr outside ↦ ap (filter_map insert_in) (since-outside x past of outside)
]

-- and so it has when the history has grown
pub ended-later : (later past : List Event) (of : ℕ) → has_ended past of ≡ true → has_ended (later ++ past) of ≡ true
ended-later [] past of ended = ended
ended-later (x ∷ later) past of ended = has_ended-older x (later ++ past) of (ended-later later past of ended)

-- before a position behind the end stands all
pub before-beyond : (past : List Event) (p : ℕ) → length past ≤ p → before past p ≡ past
before-beyond [] p high = refl
before-beyond (x ∷ past) p high = before-whole x past p (omega (arith, high))

-- what stands before a position is the end of the list
pub before-rest : (past : List Event) (p : ℕ) → (newer : List Event) × (past ≡ newer ++ before past p)
before-rest [] p = ([], refl)
before-rest (x ∷ past) p = elim (cases_lt (length past) p) [
  | inl low ↦ ([], sym (before-whole x past p low))
  | inr high ↦ let rest = before-rest past p in (x ∷ rest.0, ap (λ l. x ∷ l) rest.1 ∙ ap (λ l. x ∷ rest.0 ++ l) (sym (before-older x past p high)))
]

-- and before one behind these events they stand at the end
pub before-behind : (newer past : List Event) (p : ℕ) → length past ≤ p → (between : List Event) × (before (newer ++ past) p ≡ between ++ past)
before-behind [] past p high = ([], before-beyond past p high)
before-behind (x ∷ newer) past p high = elim (cases_lt (length (newer ++ past)) p) [
  | inl low ↦ (x ∷ newer, before-whole x (newer ++ past) p low)
  | inr more ↦ let rest = before-behind newer past p high in (rest.0, before-older x (newer ++ past) p more ∙ rest.1)
]

-- Beginnings and ends.

or-none : (a b : Bool) → b ≡ false → (a || b) ≡ true → a ≡ true
or-none true b left is = refl
or-none false b left is = absurd (false≢true (sym left ∙ is))

-- a command that doesn't end itself and is over before a position has its end there
pub over-ended : (h : List Event) (p of : ℕ) (e : Event) → event_at h of ≡ Some e → ends_itself e ≡ false → IsTrue (is_over (before h p) of) → has_ended (before h p) of ≡ true
over-ended h p of e at no_end over = go (event_at (before h p) of) refl over
  where
    go : (o : Option Event) → event_at (before h p) of ≡ o → (has_ended (before h p) of || option_map_or ends_itself o false) ≡ true → has_ended (before h p) of ≡ true
    go None is over = or-none (has_ended (before h p) of) false refl over
    go (Some d) is over =
        let same : e ≡ d = Some-same d e (sym (before-at h p of d is).0 ∙ at) in
        or-none (has_ended (before h p) of) (ends_itself d) (ap ends_itself (sym same) ∙ no_end) over

-- where each insert that has begun had ended, no row has been acknowledged since
pub acks-stay : (site : Site) (usable : ℕ → Bool) (newer past : List Event) → EachEvent (Stands site usable) (newer ++ past)
    → ((p : ℕ) (i : Insert) → insert_at (newer ++ past) p ≡ Some i → has_ended past p ≡ true) → acked (newer ++ past) ≡ acked past
acks-stay site usable [] past each ended = refl
acks-stay site usable (Acked of path ∷ newer) past each ended =
    let its : insert_at (Acked of path ∷ newer ++ past) of ≡ Some each.0.insert = ap (option_and_then insert_in) (event_at-older (Acked of path) (newer ++ past) of (kind-within insert_in (newer ++ past) of each.0.insert each.0.begun)) ∙ each.0.begun in
    absurd (false≢true (sym each.0.is_open ∙ ended-later newer past of (ended of each.0.insert its)))
acks-stay site usable (x ∷ newer) past each ended =
    acks-stay site usable newer past each.1
    (λ p i is. ended p i (ap (option_and_then insert_in) (event_at-older x (newer ++ past) p (kind-within insert_in (newer ++ past) p i is)) ∙ is))

-- Kinds of events.

pub record BeginsQuery (o : Option Event) : Type 0 where
  pub event : Event
  pub is : o ≡ Some event
  pub begins : IsTrue (is_beginning event)
  pub no_end : ends_itself event ≡ false

pub begins-query : (o : Option Event) (q : Query) → option_and_then query_in o ≡ Some q → BeginsQuery o
begins-query None q is = cc
begins-query (Some (Asked n s f)) q is = record { event = Asked n s f; is = refl; begins = refl; no_end = refl }
begins-query (Some _) q is = cc

pub no-insert : (e : Event) → (IsTrue (is_beginning e) → ⊥) → insert_in e ≡ None
no-insert (Begun n s r) none = absurd (none refl)
no-insert _ none = refl

pub insert-at-later : (h : List Event) (k p : ℕ) (i : Insert) → insert_at (before h k) p ≡ Some i → insert_at h p ≡ Some i
insert-at-later h k p i is = go (event_at (before h k) p) refl is
  where
    go : (o : Option Event) → event_at (before h k) p ≡ o → option_and_then insert_in o ≡ Some i → insert_at h p ≡ Some i
    go None at is = cc
    go (Some e) at is = ap (option_and_then insert_in) (before-at h k p e at).0 ∙ is
