-- A teller goes on from phase to phase.
use Rattle.std.proofs.{Common.{◌≡◌, ◌∙◌, ℕ, ◌+◌, ◌-◌, ◌<◌, ◌≤◌, List, [], ◌∷◌, ◌++◌, length, take, drop, reverse, get_or, refl, sym, ap, subst, arith, length-append}, Math.Seq.take-append_seam, lemmas.List.{take-take, drop-take, length-take-le, length-reverse, reverse-append, reverse-reverse}}
use Rattle.std.specs.List.{flat_map}
use Rattle.row_ledger.specs.{declared.event.Event.Event, declared.settings.Use.Use}
use Rattle.script_form.specs.declared.script.Command.{Command}
use Rattle.script_run.specs.Phases.{phases}
use Rattle.answer_text.specs.{Printed.{phase_behind, texts_behind}, Told.{HasTold, NewTellerLaw, TellerLaw, seen_of}, declared.text.Teller.Teller}
use Rattle.answer_text.proofs.ToldLines.{phase_here, phase_next, texts_pushed}

-- it has told the commands up to the end of a phase
pub told-end : (with : Use) (all : List Command) (h : List Event) (n end : ℕ) (t : Teller) → n ≡ end → end ≤ length all → HasTold with (take n all) h t → t.told ≡ end
told-end with all h n end t same low has = has.told ∙ ap (λ k. length (take k all)) same ∙ length-take-le end all low

pub has-next : (with : Use) (all : List Command) (h : List Event) (n end : ℕ) (t : Teller) → n ≡ end → end ≤ length all → HasTold with (take n all) h t
    → HasTold with (take t.told all) h t
has-next with all h n end t same low has = subst (λ k. HasTold with (take k all) h t) (same ∙ sym (told-end with all h n end t same low has)) has

phase-part : (with : Use) (all : List Command) (start count n : ℕ) (h : List Event) → n ≡ start + count
    → phase_behind with (take start (take n all)) (drop start (take n all)) h ≡ phase_behind with (take start all) (take count (drop start all)) h
phase-part with all start count n h is = rw (is, take-take start (start + count) all (omega arith), drop-take start count all) refl

-- and its text was added
pub text-next : (with : Use) (all : List Command) (start n end : ℕ) (h : List Event) (old new whole : List ℕ) (t : Teller)
    → n ≡ end → start < end → end ≤ length all
    → phases (drop start all) ≡ take (end - start) (drop start all) ∷ phases (drop (end - start) (drop start all))
    → new ≡ old ++ phase_behind with (take start (take n all)) (drop start (take n all)) h
    → HasTold with (take n all) h t
    → old ++ flat_map (λ text. text) (texts_behind with (take start all) (phases (drop start all)) h) ≡ whole
    → new ++ flat_map (λ text. text) (texts_behind with (take t.told all) (phases (drop t.told all)) h) ≡ whole
text-next with all start n end h old new whole t same some low phase pushed has so_far =
    let sum : start + (end - start) ≡ end = omega arith in
    let here = pushed ∙ ap (λ l. old ++ l) (phase-part with all start (end - start) n h (same ∙ sym sum)) in
    subst (λ k. new ++ flat_map (λ text. text) (texts_behind with (take k all) (phases (drop k all)) h) ≡ whole) (sum ∙ sym (told-end with all h n end t same low has))
    (texts_pushed old new whole with all start (end - start) h phase here so_far)

-- the phase with a number is this one, or stands further on

pub phase-found : (with : Use) (all : List Command) (start n end : ℕ) (h : List Event) (text whole : List ℕ) (left : ℕ) → left ≡ 0 → n ≡ end → start < end
    → phases (drop start all) ≡ take (end - start) (drop start all) ∷ phases (drop (end - start) (drop start all))
    → text ≡ phase_behind with (take start (take n all)) (drop start (take n all)) h
    → get_or (texts_behind with (take start all) (phases (drop start all)) h) left [] ≡ whole → text ≡ whole
phase-found with all start n end h text whole left none same some phase pushed so_far =
    let sum : start + (end - start) ≡ end = omega arith in
    let first : get_or (texts_behind with (take start all) (phases (drop start all)) h) 0 [] ≡ whole =
    subst (λ k. get_or (texts_behind with (take start all) (phases (drop start all)) h) k [] ≡ whole) none so_far in
    phase_here text whole with all start (end - start) h phase (pushed ∙ phase-part with all start (end - start) n h (same ∙ sym sum)) first

pub phase-further : (with : Use) (all : List Command) (start n end : ℕ) (h : List Event) (whole : List ℕ) (left : ℕ) (t : Teller) → 0 < left → n ≡ end → start < end → end ≤ length all
    → phases (drop start all) ≡ take (end - start) (drop start all) ∷ phases (drop (end - start) (drop start all))
    → HasTold with (take n all) h t
    → get_or (texts_behind with (take start all) (phases (drop start all)) h) left [] ≡ whole
    → get_or (texts_behind with (take t.told all) (phases (drop t.told all)) h) (left - 1) [] ≡ whole
phase-further with all start n end h whole left t more same some low phase has so_far =
    let sum : start + (end - start) ≡ end = omega arith in
    subst (λ k. get_or (texts_behind with (take k all) (phases (drop k all)) h) (left - 1) [] ≡ whole) (sum ∙ sym (told-end with all h n end t same low has))
    (phase_next left whole with all start (end - start) h phase more so_far)

-- It may tell a first phase, and go on when the history has grown.

pub new_teller_law : NewTellerLaw
new_teller_law with commands events teller new =
    let has = new.has with in
    let seen : seen_of teller ≡ 0 = has.notes.seen in
    record {
      within = omega (arith, new.told);
      seen = omega (arith, seen);
      has = subst (λ n. HasTold with (take n commands) (reverse (take (seen_of teller) events)) teller) (sym new.told)
          (subst (λ n. HasTold with [] (reverse (take n events)) teller) (sym seen) has);
    }

pub teller_law : TellerLaw
teller_law with done phase past more events teller has grown =
    let told : teller.told ≡ length done = has.told in
    let seen : seen_of teller ≡ length past = has.notes.seen in
    let front : events ≡ reverse past ++ reverse more = sym (reverse-reverse events) ∙ ap reverse grown ∙ reverse-append more past in
    let first : reverse (take (seen_of teller) events) ≡ past =
    ap (λ n. reverse (take n events)) (seen ∙ sym (length-reverse past))
    ∙ ap (λ l. reverse (take (length (reverse past)) l)) front
    ∙ ap reverse (take-append_seam (reverse past) (reverse more))
    ∙ reverse-reverse past in
    let commands : take teller.told (done ++ phase) ≡ done = ap (λ n. take n (done ++ phase)) told ∙ take-append_seam done phase in
    record {
      within = omega (arith, told, length-append done phase);
      seen = omega (arith, seen, ap length front, length-append (reverse past) (reverse more), length-reverse past);
      has = rw (first, commands) has;
    }
