-- What a call of a puller or of an administrator tells is that it does its command.
use Rattle.std.proofs.{Common.{◌≡◌, ◌∙◌, ℕ, ◌+◌, Bool, true, false, List, [], ◌∷◌, length, Option, Some, inl, inr, refl, sym, ap, subst, arith, eq-eqb}, lemmas.Bool.{cases_lt, false≢true}}
use Rattle.std.specs.{Option.option_map_or, Prelude.{IsTrue, ◌||◌, ◌==◌}}
use Rattle.hall_hands.specs.actor_run.specs.Called.{EndedCall, EndedSo, HasHeard, WasRefused}
use Rattle.row_ledger.proofs.{Older.has_ended-older, Positions.{before-here, event_at-here, event_at-older}}
use Rattle.row_ledger.specs.{Classes.class_of, Past.{before, end_in, event_at, has_ended, is_kept, is_over}, Right.{IsRight, IsRightEnd, Site}, Site.site_of, declared.event.Event.Event, declared.settings.{Call.Call, How.How, Use.Use}}
use Rattle.row_ledger.specs.declared.event.Event.TheVariants.{Called, Ended, Refused}
use Rattle.row_ledger.specs.declared.settings.Call.TheVariants.{Barrier, Sync}
use Rattle.row_ledger.specs.declared.settings.How.TheVariants as how_it
use Rattle.script_form.specs.declared.script.Command.TheVariants.{Control}
use Rattle.script_run.proofs.{Grow.within, NextCommand.some-eq}
use Rattle.script_run.specs.{Phases.closes, Places.session_of_call, Runs.{HasPulls, PullsAlone, can_be_refused}}
use Rattle.hall_hands.specs.seat_steps.specs.declared.floor.Floor.{Floor}
use Rattle.session_runs.proofs.{Pulls.{alone-then, call-within}}
use Rattle.session_runs.specs.Sessions.{DoesCommand, EndsWithPulls}
use Rattle.threaded_run.proofs.Done.{over-here, over-itself, unpulled}

-- what an event ends has ended
ended-at : (past : List Event) (p of : ℕ) (e : Event) → event_at past p ≡ Some e → end_in e ≡ Some of → has_ended past of ≡ true
ended-at [] p of e at is = cc
ended-at (x ∷ past) p of e at is = elim (cases_lt p (length past)) [
  | inl low ↦ has_ended-older x past of (ended-at past p of e (sym (event_at-older x past p low) ∙ at) is)
  | inr high ↦
      let inside = within (x ∷ past) p e at in
      let here : p ≡ length past = omega arith in
      let same : x ≡ e = some-eq x e (event_at (x ∷ past) (length past)) (event_at-here x past) (subst (λ n. event_at (x ∷ past) n ≡ Some e) here at) in
      ap (λ (o : Option ℕ). option_map_or (λ (k : ℕ). k == of) o false || has_ended past of) (ap end_in same ∙ is)
      ∙ ap (λ (b : Bool). b || has_ended past of) (eq-eqb of of refl)
]

-- A call that has ended with the newest event.
module _ (site : Site) (with : Use) (older : List Event) (of : ℕ) (how : How) (right : IsRight site (Ended of how ∷ older)) where
  abbrev now : List Event
  now = Ended of how ∷ older

  end : IsRightEnd site (is_kept now) older of how
  end = right.each.0

  -- what it had pulled is known where it pulled alone
  pub ends-pulled : (PullsAlone older of → HasPulls with older (Ended of how)) → PullsAlone now of → EndsWithPulls with now of
  ends-pulled pulls alone p other at = elim (cases_lt p (length older)) [
    | inl low ↦ absurd (false≢true (sym end.is_open ∙ ended-at older p of (Ended of other) (sym (event_at-older (Ended of how) older p low) ∙ at) refl))
    | inr high ↦
        let inside = within now p (Ended of other) at in
        let here : p ≡ length older = omega arith in
        let newest : event_at now (length older) ≡ Some (Ended of other) = subst (λ n. event_at now n ≡ Some (Ended of other)) here at in
        let same : Ended of how ≡ Ended of other = some-eq (Ended of how) (Ended of other) (event_at now (length older)) (event_at-here (Ended of how) older) newest in
        let begun = call-within older of end.call end.called in
        let before_alone = alone-then older now (Ended of how ∷ [], refl) of begun (λ q call low there pulling differs. alone q call there pulling differs) in
        subst (λ (x : List Event × Event). HasPulls with x.0 x.1) (λ i. (sym (ap (before now) here ∙ before-here (Ended of how) older) i, same i)) (pulls before_alone)
  ]

-- It may be refused, since it does something.
abbrev pub CanBeRefused : Call → Type 0
CanBeRefused call = IsTrue (can_be_refused (class_of call))

module _ (f : Floor) (number : ℕ) (call : Call) (was now : List Event) (heard : HasHeard f was now) (own : number ≡ session_of_call f.with (class_of call)) where
  call-done : (how : How) → EndedCall f number call how was now → DoesCommand f.with f.hierarchy number (Control call) was now
  call-done how ended =
      let of = ended.of in
      let right = subst (IsRight (site_of f.with f.hierarchy)) ended.newest heard.right in
      record {
        later = heard.later;
        of = of;
        one = ended.began.one;
        begins = (Called number call, ended.began.at, (own, refl));
        over = subst (λ (l : List Event). IsTrue (is_over l of)) (sym ended.newest) (over-here (Ended of how) ended.older of refl);
        pulls = subst (λ (l : List Event). PullsAlone l of → EndsWithPulls f.with l of) (sym ended.newest) (ends-pulled (site_of f.with f.hierarchy) f.with ended.older of how right ended.pulls);
      }

  call-refused : CanBeRefused call → WasRefused number was now → DoesCommand f.with f.hierarchy number (Control call) was now
  call-refused can refused =
      let of = refused.of in
      record {
        later = heard.later;
        of = of;
        one = refused.one;
        begins = (Refused number, refused.at, (own, can));
        over = over-itself now of (Refused number) refused.at refl;
        pulls = λ alone. unpulled f.with now of (Refused number) refused.at refl;
      }

  -- whichever way it ended
  pub called-done : CanBeRefused call → (how : How) → EndedSo f number call how was now → DoesCommand f.with f.hierarchy number (Control call) was now
  called-done can how_it.NoMemory (inl refused) = call-refused can refused
  called-done can how_it.NoMemory (inr ended) = call-done how_it.NoMemory ended
  called-done can how ended = call-done how ended

-- Calls of the administrator.

pub admin-calls : (with : Use) (call : Call) → ((server : ℕ) → call ≡ Sync server → ⊥) → session_of_call with (class_of call) ≡ with.servers + 1
admin-calls with (Sync server) other = absurd (other server refl)
admin-calls with call other = refl

-- what closes no phase may be refused
pub may-be-refused : (call : Call) → closes (Control call) ≡ false → CanBeRefused call
may-be-refused Barrier plain = absurd (false≢true (sym plain))
may-be-refused call plain = refl
