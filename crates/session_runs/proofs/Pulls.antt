-- What a called command pulled, as the history grows behind its end.
use Rattle.std.proofs.{Common.{◌≡◌, ◌≢◌, ◌∙◌, ℕ, ◌<◌, inl, inr, Bool, true, false, List, length, Option, Some, None, sym, ap, subst, arith}, lemmas.Bool.{cases_lt, false≢true, or_cases}}
use Rattle.std.specs.{Option.option_map_or, Prelude.{IsTrue, option_and_then}}
use Rattle.row_ledger.proofs.{Before.{ended-later}, Fresh.kind-within}
use Rattle.row_ledger.specs.{Classes.class_of, Past.{before, call_at, call_in, ends_itself, event_at, has_ended, is_over}, Right.{EachEvent, IsRightEnd, Site, Stands}, declared.class.Class.Class, declared.class.Class.TheVariants.{Sync, Settle}, declared.event.Event.Event, declared.event.Event.TheVariants.{Called, Ended}, declared.settings.Call.Call, declared.settings.How.How, declared.settings.Use.Use}
use Rattle.script_run.specs.Runs.{ArePulls, EndsBefore, HasPulls, PullsAlone, is_pulling}
use Rattle.session_runs.proofs.Later.{at-first, before-then, each-at, ends-first, later-before}
use Rattle.session_runs.specs.Sessions.{EndsWithPulls, IsLater}

-- no other command that pulls was open when the command at a position began, and none has begun since, below a position
abbrev pub PullsAloneTo : ℕ → List Event → ℕ → Type 0
PullsAloneTo until history of =
    (p : ℕ) (call : Call) → p < until → call_at history p ≡ Some call → is_pulling (class_of call) ≡ true → p ≢ of → EndsBefore history (Some p) (Some of)

pub call-within : (history : List Event) (p : ℕ) (call : Call) → call_at history p ≡ Some call → p < length history
call-within history p call at = kind-within call_in history p call at

-- in the earlier history it pulls alone too
pub alone-then : (past now : List Event) → IsLater past now → (of : ℕ) → of < length past → PullsAloneTo (length past) now of → PullsAlone past of
alone-then past now later of inside alone p call at pulling differs =
    let low = call-within past p call at in
    ends-first past now later p of (omega arith)
    (alone p call low (ap (option_and_then call_in) (at-first past now later p low) ∙ at) pulling differs)

-- The event of a call.

pub record IsCalled (o : Option Event) (call : Call) : Type 0 where
  pub session : ℕ
  pub is : o ≡ Some (Called session call)

pub is-called : (o : Option Event) (call : Call) → option_and_then call_in o ≡ Some call → IsCalled o call
is-called None call is = cc
is-called (Some (Called session x)) call is = let same : x ≡ call = cc in record { session = session; is = ap (λ y. Some (Called session y)) same }
is-called (Some _) call is = cc

-- a call that is over has its end
pub call-ended : (history : List Event) (p : ℕ) (call : Call) → call_at history p ≡ Some call → IsTrue (is_over history p) → has_ended history p ≡ true
call-ended history p call at over =
    let called = is-called (event_at history p) call at in
    elim (or_cases (has_ended history p) (option_map_or ends_itself (event_at history p) false) over) [
      | inl ended ↦ ended
      | inr itself ↦ absurd (false≢true (ap (λ o. option_map_or ends_itself o false) (sym called.is) ∙ itself))
    ]

pub ended-then : (past now : List Event) → IsLater past now → (p : ℕ) → has_ended past p ≡ true → has_ended now p ≡ true
ended-then past now (newer, is) p ended = ap (λ l. has_ended l p) is ∙ ended-later newer past p ended

-- in a right history nothing ends a call behind its end
pub ends-once : (site : Site) (usable : ℕ → Bool) (past now : List Event) → IsLater past now → (of : ℕ) → of < length past → EachEvent (Stands site usable) now
    → IsTrue (is_over past of) → (p : ℕ) (how : How) → event_at now p ≡ Some (Ended of how) → p < length past
ends-once site usable past now later of inside right over p how at = elim (cases_lt p (length past)) [
  | inl low ↦ low
  | inr high ↦
      let end : IsRightEnd site usable (before now p) of how = each-at (Stands site usable) now p (Ended of how) right at in
      let there : IsLater past (before now p) = later-before past now later p high in
      let called : call_at past of ≡ Some end.call = ap (option_and_then call_in) (sym (at-first past (before now p) there of inside)) ∙ end.called in
      let ended : has_ended (before now p) of ≡ true = ended-then past (before now p) there of (call-ended past of end.call called over) in
      absurd (false≢true (sym end.is_open ∙ ended))
]

-- so what it pulled stays
pub pulls-then : (site : Site) (usable : ℕ → Bool) (with : Use) (past now : List Event) → IsLater past now → (of : ℕ) → of < length past → EachEvent (Stands site usable) now
    → IsTrue (is_over past of) → EndsWithPulls with past of → EndsWithPulls with now of
pulls-then site usable with past now later of inside right over pulls p how at =
    let low = ends-once site usable past now later of inside right over p how at in
    subst (λ l. HasPulls with l (Ended of how)) (sym (before-then past now later p (omega arith)))
    (pulls p how (sym (at-first past now later p low) ∙ at))

-- a command that doesn't pull pulls nothing
pub plain-pulls : (servers : ℕ) (class : Class) (how : How) (pulled : List ℕ) → is_pulling class ≡ false → ArePulls servers class how pulled
plain-pulls servers (Sync server) how pulled plain = cc
plain-pulls servers Settle how pulled plain = cc
plain-pulls servers class how pulled plain = tt
