-- A phase goes on, event by event.
use Rattle.std.proofs.Common.{◌≡◌, ◌∙◌, inl, inr, false, [], ◌∷◌, ◌++◌, length, get_or, sym, ap, subst, arith}
use Rattle.std.specs.Prelude.{None, is_some}
use Rattle.row_ledger.specs.{Past.{session_in, is_beginning}, declared.event.Event.Event}
use Rattle.script_run.specs.{Parts.{IsPartAt, Waits, place_in}, Places.session_of, Streams.{AreBehind, PhaseBeginLaw, PhaseOtherLaw, RankLaw}}
use Rattle.script_run.proofs.{Begin.places-other, Grow.{begin, other}, NextCommand.{next_law, over-now}, Ranks.law-from, StreamSteps.{begin_law, other_law, over-older}}

no-beginning : (e : Event) → session_in e ≡ None → is_beginning e ≡ false
no-beginning e none = ap is_some none

pub phase_other_law : PhaseOtherLaw
phase_other_law with h commands n e history next opened now_opened phase none pulls ends =
    let same = places-other with [] commands e history none in
    record {
      part = subst (λ ps. IsPartAt with h commands (Waits with commands) (e ∷ history) (λ i. get_or ps i None)) (sym same)
          (other with h commands (Waits with commands) e history (place_in with commands history) (no-beginning e none) pulls phase.part);
      streams = other_law with commands e history next opened now_opened phase.streams none ends;
      past = λ i c at low.
          let found = phase.past i c at low in
          (found.0, ap (λ ps. get_or ps i None) same ∙ found.1, over-older e history found.0 found.2);
    }

pub phase_begin_law : PhaseBeginLaw
phase_begin_law with h front c back n e history next now_next opened now_opened phase low is none ready session begins on =
    let commands = front ++ c ∷ back in
    let behind : AreBehind with commands history (length front) = λ i b at lower.
    elim (ready i b at lower) [
      | inl old ↦ phase.past i b at old
      | inr past ↦
          let found = phase.streams.begun i b at past.0 in
          (found.0, found.1, over-now (opened (session_of with b)) found.0 history past.1 found.2)
    ] in
    let next_is = next_law with h front c back e history next opened phase.streams is none behind session begins in
    record {
      part = begin with h commands (Waits with commands) e history (place_in with commands history) (place_in with commands (e ∷ history)) (length front) next_is.0 next_is.1 phase.part;
      streams = begin_law with front c back e history next now_next opened now_opened phase.streams is none session on;
      past = λ i b at old.
          let found = phase.past i b at old in
          (found.0, next_is.1.others i (λ same. absurd (omega (arith, same, old, low))) ∙ found.1, over-older e history found.0 found.2);
    }

pub rank_law : RankLaw
rank_law done front c back i none is low less = law-from 0 done front c back i none is low less
