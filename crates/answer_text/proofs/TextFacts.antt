-- The text of commands and of phases, as the history goes on.
use Rattle.std.proofs.{Common.{◌≡◌, ◌∙◌, ℕ, suc, ◌+◌, true, IsTrue, List, [], ◌∷◌, ◌++◌, length, map, take, refl, sym, ap, arith, append_assoc, append-nil, length-append}, Math.Seq.take-append_seam, lemmas.Bool.and_parts, lemmas.Grind.flat_map-append, lemmas.List.Folds.list_all-append}
use Rattle.std.specs.{List.{AllByRecursion, flat_map}, Prelude.{Option, Some, ◌&&◌}}
use Rattle.row_ledger.specs.{Past.{event_at, page_of}, declared.event.Event.Event, declared.settings.Use.Use}
use Rattle.script_form.specs.declared.script.Command.{Command}
use Rattle.script_run.specs.{Phases.{phases, all_of}, Places.{places_behind, places, are_over, is_over_at, end_of}}
use Rattle.answer_text.specs.Printed.{split_of, lines, phase_behind, texts_behind, texts, text_at, told, told_to}
use Rattle.script_run.proofs.{PhaseFacts.IsSome, PlaceFacts.{NoneMore, places_behind-append, places_behind-length, places_behind-none, count_of-append}}

-- Lines.

pub lines-append : (n : ℕ) (xs ys : List Command) (ps qs : List (Option ℕ)) (history : List Event) → length xs ≡ length ps
    → lines n (xs ++ ys) (ps ++ qs) history ≡ lines n xs ps history ++ lines (n + length xs) ys qs history
unfolding lines
lines-append n [] ys [] qs history same = ap (λ k. lines k ys qs history) (let k : n ≡ n + 0 = omega arith in k)
lines-append n [] ys (p ∷ ps) qs history same = absurd (omega arith)
lines-append n (x ∷ xs) ys [] qs history same = absurd (omega arith)
lines-append n (x ∷ xs) ys (p ∷ ps) qs history same =
    ap (λ rest. text_at n x history p ++ rest)
    (lines-append (n + 1) xs ys ps qs history (omega arith)
    ∙ ap (λ k. lines (n + 1) xs ps history ++ lines k ys qs history) (let k : n + 1 + length xs ≡ n + suc (length xs) = omega arith in k))
    ∙ sym (append_assoc (text_at n x history p) (lines (n + 1) xs ps history) (lines (n + suc (length xs)) ys qs history))

-- what began at a position, how it ended and the page that was shown for it are the same in both histories
pub record IsSameAt (history later : List Event) (p : ℕ) : Type 0 where
  pub event : event_at later p ≡ event_at history p
  pub end : end_of later p ≡ end_of history p
  pub split : split_of later p ≡ split_of history p
  pub page : page_of later p ≡ page_of history p

pub lines-kept : (n : ℕ) (cs : List Command) (begins : List ℕ) (history later : List Event) → AllByRecursion (IsSameAt history later) begins
    → lines n cs (map Some begins) later ≡ lines n cs (map Some begins) history
unfolding lines
lines-kept n [] begins history later same = refl
lines-kept n (c ∷ cs) [] history later same = refl
lines-kept n (c ∷ cs) (p ∷ ps) history later same =
    rw (same.0.event, same.0.end, same.0.split, same.0.page) (ap (λ rest. text_at n c history (Some p) ++ rest) (lines-kept (n + 1) cs ps history later same.1))

-- Texts of phases.

pub texts_behind-append : (with : Use) (before : List Command) (ps qs : List (List Command)) (history : List Event)
    → texts_behind with before (ps ++ qs) history ≡ texts_behind with before ps history ++ texts_behind with (before ++ all_of ps) qs history
unfolding texts_behind
texts_behind-append with before [] qs history = ap (λ b. texts_behind with b qs history) (sym (append-nil before))
texts_behind-append with before (p ∷ ps) qs history =
    ap (λ rest. phase_behind with before p history ∷ rest)
    (texts_behind-append with (before ++ p) ps qs history
    ∙ ap (λ b. texts_behind with (before ++ p) ps history ++ texts_behind with b qs history) (append_assoc before p (all_of ps)))

pub texts_behind-length : (with : Use) (before : List Command) (ps : List (List Command)) (history : List Event) → length (texts_behind with before ps history) ≡ length ps
unfolding texts_behind
texts_behind-length with before [] history = refl
texts_behind-length with before (p ∷ ps) history = ap suc (texts_behind-length with (before ++ p) ps history)

-- phases that are over are told by the lines of their commands
pub texts-over : (with : Use) (before : List Command) (ps : List (List Command)) (history : List Event) → IsTrue (are_over history (places_behind with before (all_of ps) history))
    → flat_map (λ text. text) (texts_behind with before ps history) ≡ lines (length before + 1) (all_of ps) (places_behind with before (all_of ps) history) history
unfolding texts_behind phase_behind places_behind lines
texts-over with before [] history over = refl
texts-over with before (p ∷ ps) history over =
    let here = places_behind with before p history in
    let there = places_behind with (before ++ p) (all_of ps) history in
    let places_are : places_behind with before (p ++ all_of ps) history ≡ here ++ there = places_behind-append with before p (all_of ps) history in
    let split : (are_over history here && are_over history there) ≡ true =
    sym (list_all-append (is_over_at history) here there) ∙ ap (are_over history) (sym places_are) ∙ over in
    let both = and_parts (are_over history here) (are_over history there) split in
    let rest = texts-over with (before ++ p) ps history both.1 in
    rw (both.0, places_are)
    (ap (λ t. lines (length before + 1) p here history ++ t)
    (rest ∙ ap (λ k. lines k (all_of ps) there history) (let k : length (before ++ p) + 1 ≡ length before + 1 + length p = omega (arith, length-append before p) in k))
    ∙ sym (lines-append (length before + 1) p (all_of ps) here there history (sym (places_behind-length with before p history))))

-- phases of which nothing has begun are not told
pub texts-none : (with : Use) (before : List Command) (ps : List (List Command)) (history : List Event) → AllByRecursion IsSome ps → NoneMore with before history
    → flat_map (λ text. text) (texts_behind with before ps history) ≡ []
unfolding texts_behind phase_behind
texts-none with before [] history some none = refl
texts-none with before ([] ∷ ps) history some none = absurd (omega arith)
texts-none with before ((c ∷ cs) ∷ ps) history some none =
    let nowhere = places_behind-none with before (c ∷ cs) history none in
    rw nowhere (texts-none with (before ++ c ∷ cs) ps history some.1
    (record { counts = λ s. omega (arith, none.counts s, count_of-append with s before (c ∷ cs)) }))

-- The text of a run of the first phases.

-- these are the first phases of a script, and these commands are theirs
pub record AreFirst (commands : List Command) (ps rest : List (List Command)) : Type 0 where
  pub split : phases commands ≡ ps ++ rest

pub told_to-first : (with : Use) (commands : List Command) (ps rest : List (List Command)) (history : List Event)
    → AreFirst commands ps rest → IsTrue (are_over history (places with (all_of ps) history))
    → told_to (length ps) with commands history ≡ lines 1 (all_of ps) (places with (all_of ps) history) history
told_to-first with commands ps rest history first over =
    let split = ap (λ l. texts_behind with [] l history) first.split ∙ texts_behind-append with [] ps rest history in
    let front : take (length ps) (texts with commands history) ≡ texts_behind with [] ps history =
    ap (take (length ps)) split
    ∙ ap (λ k. take k (texts_behind with [] ps history ++ texts_behind with (all_of ps) rest history)) (sym (texts_behind-length with [] ps history))
    ∙ take-append_seam (texts_behind with [] ps history) (texts_behind with (all_of ps) rest history) in
    ap (λ ts. flat_map (λ text. text) ts) front ∙ texts-over with [] ps history over

-- nothing more is told where nothing more has begun
pub told-first : (with : Use) (commands : List Command) (ps rest : List (List Command)) (history : List Event)
    → AreFirst commands ps rest → AllByRecursion IsSome rest → IsTrue (are_over history (places with (all_of ps) history)) → NoneMore with (all_of ps) history
    → told with commands history ≡ lines 1 (all_of ps) (places with (all_of ps) history) history
told-first with commands ps rest history first some over none =
    let split = ap (λ l. texts_behind with [] l history) first.split ∙ texts_behind-append with [] ps rest history in
    ap (λ ts. flat_map (λ text. text) ts) split
    ∙ flat_map-append (λ text. text) (texts_behind with [] ps history) (texts_behind with (all_of ps) rest history)
    ∙ ap (λ t. flat_map (λ text. text) (texts_behind with [] ps history) ++ t) (texts-none with (all_of ps) rest history some none)
    ∙ append-nil _
    ∙ texts-over with [] ps history over
