-- How what a session has seen is put together from one part of a call to the next.
use Rattle.std.proofs.Common.{◌≡◌, ◌∙◌, ℕ, ◌≤◌, List, [], ◌∷◌, ◌++◌, length, Some, Result, Ok, Err, sym, ap, subst, arith, length-append}
use Rattle.actor_run.specs.{Doing.HasRefused, Sessions.{BeganNothing, Began, GoesOn, IsOneEvent, SessionValue}}
use Rattle.row_ledger.specs.{Past.{event_at, session_in}, declared.event.Event.Event}
use Rattle.row_ledger.specs.declared.event.Event.TheVariants.{Refused}
use Rattle.script_run.specs.Places.{begins_of}
use Rattle.script_run.proofs.{Begin.begins-own, PlaceFacts.begins_of-here}
use Rattle.whole_steps.specs.session_steps.proofs.Grown.{at-pushed}
use Rattle.whole_steps.specs.seat_steps.proofs.Since.{extends-on}
use Rattle.turn_table.specs.Numbered.{Extends}

pub extends-length : (was now : List Event) → Extends now was → length was ≤ length now
extends-length was now later = omega (arith, ap length later.1, length-append later.0 was)

-- An event that was pushed on a longer history than was seen, in which nothing had begun since, begins a command.
pub began : (was now : SessionValue) (of : ℕ) (e : Event) (older newer : List Event) → Extends older was.seen → of ≡ length older → begins_of older was.number ≡ begins_of was.seen was.number
    → session_in e ≡ Some was.number → now.seen ≡ newer ++ e ∷ older → begins_of now.seen was.number ≡ begins_of (e ∷ older) was.number → Began of e was now
began was now of e older newer behind position only session now_is same =
    subst (λ (k : ℕ). Began k e was now) (sym position) (record {
      past = extends-length was.seen older behind;
      at = ap (λ (h : List Event). event_at h (length older)) now_is ∙ at-pushed newer older e;
      one = same ∙ begins_of-here e older was.number (begins-own was.number e session) ∙ ap (λ (l : List ℕ). l ++ length older ∷ []) only;
    })

module _ (was mid now : SessionValue) (first : GoesOn was mid) where
  number : mid.number ≡ was.number
  number = ap (λ (s : SessionValue). s.number) first.same

  -- it went on twice
  pub goes-on : GoesOn mid now → GoesOn was now
  goes-on second = record {
    same = second.same ∙ ap (λ (s : SessionValue). let z : SessionValue = record s { seen = now.seen } in z) first.same;
    later = extends-on now.seen mid.seen was.seen second.later first.later;
    right = second.right;
  }

  module _ (nothing : BeganNothing was mid) where
    -- a command began after a time in which none did
    began-behind : (of : ℕ) (e : Event) → Began of e mid now → Began of e was now
    began-behind of e began = record {
      past = (let longer = extends-length was.seen mid.seen first.later in let past = began.past in omega arith);
      at = began.at;
      one = subst (λ (n : ℕ). begins_of now.seen n ≡ begins_of mid.seen n ++ of ∷ []) number began.one ∙ ap (λ (l : List ℕ). l ++ of ∷ []) nothing;
    }

    -- it was refused after a time in which none began
    pub refused-behind : {T E : Type 0} (r : Result T E) → HasRefused r mid now → HasRefused r was now
    refused-behind (Ok u) one = subst (λ (n : ℕ). IsOneEvent (Refused n) was now) number (one.0, (one.1.0, began-behind one.1.0 (Refused mid.number) one.1.1))
    refused-behind (Err e) none = subst (λ (n : ℕ). begins_of now.seen n ≡ begins_of mid.seen n) number none ∙ nothing
