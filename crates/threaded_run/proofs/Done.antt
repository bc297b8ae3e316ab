-- What a session's call tells is that it does its command.
use Rattle.std.proofs.Common.{◌≡◌, ◌∙◌, ℕ, Bool, true, false, List, ◌∷◌, Option, Some, None, IfSome, inl, inr, refl, sym, ap, subst, eq-eqb}
use Rattle.std.specs.{Option.option_map_or, Prelude.{IsTrue, ◌||◌, ◌==◌, option_and_then}}
use Rattle.hall_hands.specs.actor_run.specs.Sessions.{Began, EndedInsert, EndedQuery, GoesOn, IsNewest, SessionValue}
use Rattle.hall_hands.specs.actor_run.specs.declared.session.{Asked.Asked, Inserted.Inserted}
use Rattle.hall_hands.specs.actor_run.specs.declared.session.Asked.TheVariants as asked
use Rattle.hall_hands.specs.actor_run.specs.declared.session.Inserted.TheVariants as inserted
use Rattle.row_ledger.proofs.Before.{before-at}
use Rattle.row_ledger.specs.{Classes.class_of, Settled.pulls_since, Past.{before, call_at, call_in, end_in, ends_itself, event_at, has_ended, is_over}, declared.event.Event.Event, declared.settings.Use.Use}
use Rattle.row_ledger.specs.declared.event.Event.TheVariants.{Acked, Answered, Asked as AskedEvent, Begun, Called, Failed, Refused, Unknown}
use Rattle.script_form.specs.declared.script.{Command.Command, Command.TheVariants.{Insert, Query}, NewRow.NewRow, Question.Question}
use Rattle.script_run.specs.Runs.{ArePulls, Begins}
use Rattle.session_runs.proofs.Pulls.{is-called}
use Rattle.session_runs.specs.Sessions.{DoesCommand, EndsWithPulls}
use Rattle.hall_hands.specs.session_steps.specs.Begins.{row_at}

-- What is over.

or-true : (b : Bool) → (b || true) ≡ true
or-true true = refl
or-true false = refl

-- a command is over by the newest event, which ends it
pub over-here : (e : Event) (older : List Event) (of : ℕ) → end_in e ≡ Some of → IsTrue (is_over (e ∷ older) of)
over-here e older of is =
    ap (λ (o : Option ℕ). (option_map_or (λ (x : ℕ). x == of) o false || has_ended older of) || option_map_or ends_itself (event_at (e ∷ older) of) false) is
    ∙ ap (λ (b : Bool). (b || has_ended older of) || option_map_or ends_itself (event_at (e ∷ older) of) false) (eq-eqb of of refl)

-- or by the event that begins it
pub over-itself : (now : List Event) (of : ℕ) (e : Event) → event_at now of ≡ Some e → ends_itself e ≡ true → IsTrue (is_over now of)
over-itself now of e at is =
    ap (λ (o : Option Event). has_ended now of || option_map_or ends_itself o false) at ∙ ap (λ (b : Bool). has_ended now of || b) is ∙ or-true (has_ended now of)

-- Pulls.

if-none : {A : Type 0} (P : A → Type 0) (o : Option A) → ((x : A) → o ≡ Some x → ⊥) → IfSome o P
if-none P None never = tt
if-none P (Some x) never = absurd (never x refl)

-- what isn't called pulls nothing
pub unpulled : (with : Use) (now : List Event) (of : ℕ) (e : Event) → event_at now of ≡ Some e → call_in e ≡ None → EndsWithPulls with now of
unpulled with now of e at plain p how ended = if-none (λ called. ArePulls with.servers (class_of called) how (pulls_since (before now p) of)) (call_at (before now p) of) (λ call is.
    let called = is-called (event_at (before now p) of) call is in
    let there = before-at now p of (Called called.session call) called.is in
    let never : None ≡ Some call = sym plain ∙ ap (option_and_then call_in) (sym at ∙ there.0) in
    cc)

-- A session's commands.

module _ (was now : SessionValue) (goes : GoesOn was now) where
  module _ (of : ℕ) (c : Command) (e : Event) (began : Began of e was now) (begins : Begins was.floor.with was.floor.hierarchy (before now.seen of) c e) (plain : call_in e ≡ None) where
    by-end : (x : Event) → IsNewest x now → end_in x ≡ Some of → DoesCommand was.floor.with was.floor.hierarchy was.number c was.seen now.seen
    by-end x newest ends = record {
      later = goes.later;
      of = of;
      one = began.one;
      begins = (e, began.at, begins);
      over = subst (λ (l : List Event). IsTrue (is_over l of)) (sym newest.1) (over-here x newest.0 of ends);
      pulls = λ alone. unpulled was.floor.with now.seen of e began.at plain;
    }

    by-itself : ends_itself e ≡ true → DoesCommand was.floor.with was.floor.hierarchy was.number c was.seen now.seen
    by-itself ends = record {
      later = goes.later;
      of = of;
      one = began.one;
      begins = (e, began.at, begins);
      over = over-itself now.seen of e began.at ends;
      pulls = λ alone. unpulled was.floor.with now.seen of e began.at plain;
    }

  pub insert-done : (r : Inserted) (new : NewRow) → was.number ≡ new.server → was.server ≡ new.server → EndedInsert r new.names new.measures was now
      → DoesCommand was.floor.with was.floor.hierarchy was.number (Insert new) was.seen now.seen
  insert-done (inserted.Ok of) new n s (b, acked) =
      by-end of (Insert new) (Begun was.number was.server (row_at of b.at new.measures)) b.began (n, s, refl, b.named) refl (Acked of acked.0) acked.1 refl
  insert-done (inserted.Unknown dim) new n s (at, one) = by-itself one.1.0 (Insert new) (Unknown was.number was.server dim) one.1.1 (n, s, at) refl refl
  insert-done inserted.NoMemory new n s (inl one) = by-itself one.1.0 (Insert new) (Refused was.number) one.1.1 n refl refl
  insert-done inserted.NoMemory new n s (inr (of, b, newest)) =
      by-end of (Insert new) (Begun was.number was.server (row_at of b.at new.measures)) b.began (n, s, refl, b.named) refl (Failed of) newest refl

  pub query-done : (r : Asked) (question : Question) → was.number ≡ question.server → was.server ≡ question.server → EndedQuery r question.filter was now
      → DoesCommand was.floor.with was.floor.hierarchy was.number (Query question) was.seen now.seen
  query-done (asked.Answer of agg) question n s (b, newest) =
      by-end of (Query question) (AskedEvent was.number was.server b.filter) b.began (n, s, b.named) refl (Answered of agg) newest refl
  query-done (asked.Unknown dim) question n s (at, one) = by-itself one.1.0 (Query question) (Unknown was.number was.server dim) one.1.1 (n, s, at) refl refl
  query-done asked.NoMemory question n s (inl one) = by-itself one.1.0 (Query question) (Refused was.number) one.1.1 n refl refl
  query-done asked.NoMemory question n s (inr (of, b, newest)) =
      by-end of (Query question) (AskedEvent was.number was.server b.filter) b.began (n, s, b.named) refl (Failed of) newest refl
