-- Lines, one command more at a time, and the texts of phases.
use Rattle.std.proofs.{Common.{◌≡◌, ◌∙◌, ℕ, ◌+◌, ◌-◌, ◌<◌, ◌≤◌, List, [], ◌∷◌, ◌++◌, Option, None, length, get_or, take, drop, take-add, append-nil, refl, ap, sym, arith}, lemmas.Grind.get_or_tail, lemmas.List.{append_assoc, drop_more, drop_all, drop-drop}}
use Rattle.std.specs.List.{flat_map}
use Rattle.row_ledger.specs.{declared.event.Event.Event, declared.settings.Use.Use}
use Rattle.script_form.specs.declared.script.Command.{Command}
use Rattle.script_run.specs.{Phases.phases, Places.places_behind}
use Rattle.answer_text.specs.Printed.{lines, phase_behind, phase_lines, text_at, texts_behind}
use Rattle.script_run.proofs.PhaseFacts.{phases-nil}

lines_more : (first i : ℕ) (cs : List Command) (ps : List (Option ℕ)) (h : List Event) (c : Command) → i < length cs → length ps ≡ length cs → c ≡ get_or cs i c
    → lines (first + i) (drop i cs) (drop i ps) h ≡ text_at (first + i) c h (get_or ps i None) ++ lines (first + (i + 1)) (drop (i + 1) cs) (drop (i + 1) ps) h
unfolding lines
lines_more first i cs ps h c inside same is =
    let within : i < length ps = omega arith in
    let next : first + i + 1 ≡ first + (i + 1) = omega arith in
    rw (drop_more cs i c inside, ← is, drop_more ps i None within, next) refl

-- what is told of a command was added
pub lines_pushed : (old new whole : List ℕ) (first i : ℕ) (cs : List Command) (ps : List (Option ℕ)) (h : List Event) (c : Command)
    → i < length cs → length ps ≡ length cs → c ≡ get_or cs i c → new ≡ old ++ text_at (first + i) c h (get_or ps i None)
    → old ++ lines (first + i) (drop i cs) (drop i ps) h ≡ whole → new ++ lines (first + (i + 1)) (drop (i + 1) cs) (drop (i + 1) ps) h ≡ whole
lines_pushed old new whole first i cs ps h c inside same is pushed so_far =
    let rest = lines (first + (i + 1)) (drop (i + 1) cs) (drop (i + 1) ps) h in
    ap (λ l. l ++ rest) pushed ∙ (append_assoc old (text_at (first + i) c h (get_or ps i None)) rest ∙ (ap (λ l. old ++ l) (sym (lines_more first i cs ps h c inside same is)) ∙ so_far))

lines_end : (first i : ℕ) (cs : List Command) (ps : List (Option ℕ)) (h : List Event) → length cs ≤ i → lines (first + i) (drop i cs) (drop i ps) h ≡ []
unfolding lines
lines_end first i cs ps h all = rw (drop_all i cs all) refl

-- all were
pub lines_all : (text whole : List ℕ) (first i : ℕ) (cs : List Command) (ps : List (Option ℕ)) (h : List Event) → length cs ≤ i
    → text ++ lines (first + i) (drop i cs) (drop i ps) h ≡ whole → text ≡ whole
lines_all text whole first i cs ps h all so_far =
    sym (append-nil text) ∙ (ap (λ l. text ++ l) (sym (lines_end first i cs ps h all)) ∙ so_far)

-- The texts of phases.

pub phase_behind-is : (with : Use) (before phase : List Command) (h : List Event)
    → phase_behind with before phase h ≡ phase_lines (length before + 1) phase (places_behind with before phase h) h
unfolding phase_behind
phase_behind-is with before phase h = refl

-- the first phase and the others
pub texts_more : (with : Use) (cs : List Command) (start count : ℕ) (h : List Event) → phases (drop start cs) ≡ take count (drop start cs) ∷ phases (drop count (drop start cs))
    → texts_behind with (take start cs) (phases (drop start cs)) h ≡ phase_behind with (take start cs) (take count (drop start cs)) h ∷ texts_behind with (take (start + count) cs) (phases (drop (start + count) cs)) h
unfolding texts_behind
texts_more with cs start count h phase = rw (phase, ← take-add start count cs, drop-drop) refl

pub texts_end : (with : Use) (cs : List Command) (start : ℕ) (h : List Event) → length cs ≤ start → texts_behind with (take start cs) (phases (drop start cs)) h ≡ []
unfolding texts_behind
texts_end with cs start h all = rw (drop_all start cs all, phases-nil) refl

-- the text of a phase was added
pub texts_pushed : (old new whole : List ℕ) (with : Use) (cs : List Command) (start count : ℕ) (h : List Event)
    → phases (drop start cs) ≡ take count (drop start cs) ∷ phases (drop count (drop start cs))
    → new ≡ old ++ phase_behind with (take start cs) (take count (drop start cs)) h
    → old ++ flat_map (λ text. text) (texts_behind with (take start cs) (phases (drop start cs)) h) ≡ whole
    → new ++ flat_map (λ text. text) (texts_behind with (take (start + count) cs) (phases (drop (start + count) cs)) h) ≡ whole
texts_pushed old new whole with cs start count h phase pushed so_far =
    let rest = flat_map (λ text. text) (texts_behind with (take (start + count) cs) (phases (drop (start + count) cs)) h) in
    ap (λ l. l ++ rest) pushed ∙ (append_assoc old (phase_behind with (take start cs) (take count (drop start cs)) h) rest ∙ (ap (λ l. old ++ flat_map (λ text. text) l) (sym (texts_more with cs start count h phase)) ∙ so_far))

pub texts_all : (text whole : List ℕ) (with : Use) (cs : List Command) (start : ℕ) (h : List Event) → length cs ≤ start
    → text ++ flat_map (λ text. text) (texts_behind with (take start cs) (phases (drop start cs)) h) ≡ whole → text ≡ whole
texts_all text whole with cs start h all so_far =
    sym (append-nil text) ∙ (ap (λ l. text ++ flat_map (λ text. text) l) (sym (texts_end with cs start h all)) ∙ so_far)

-- the text of the phase with a number

pub phase_here : (text whole : List ℕ) (with : Use) (cs : List Command) (start count : ℕ) (h : List Event)
    → phases (drop start cs) ≡ take count (drop start cs) ∷ phases (drop count (drop start cs))
    → text ≡ phase_behind with (take start cs) (take count (drop start cs)) h
    → get_or (texts_behind with (take start cs) (phases (drop start cs)) h) 0 [] ≡ whole → text ≡ whole
phase_here text whole with cs start count h phase pushed so_far =
    pushed ∙ (ap (λ l. get_or l 0 []) (sym (texts_more with cs start count h phase)) ∙ so_far)

pub phase_next : (left : ℕ) (whole : List ℕ) (with : Use) (cs : List Command) (start count : ℕ) (h : List Event)
    → phases (drop start cs) ≡ take count (drop start cs) ∷ phases (drop count (drop start cs)) → 0 < left
    → get_or (texts_behind with (take start cs) (phases (drop start cs)) h) left [] ≡ whole
    → get_or (texts_behind with (take (start + count) cs) (phases (drop (start + count) cs)) h) (left - 1) [] ≡ whole
phase_next left whole with cs start count h phase more so_far =
    let rest = texts_behind with (take (start + count) cs) (phases (drop (start + count) cs)) h in
    sym (get_or_tail (phase_behind with (take start cs) (take count (drop start cs)) h) rest left [] more) ∙ (ap (λ l. get_or l left []) (sym (texts_more with cs start count h phase)) ∙ so_far)

pub phase_past : (left : ℕ) (whole : List ℕ) (with : Use) (cs : List Command) (start : ℕ) (h : List Event) → length cs ≤ start
    → get_or (texts_behind with (take start cs) (phases (drop start cs)) h) left [] ≡ whole → [] ≡ whole
phase_past left whole with cs start h all so_far =
    ap (λ l. get_or l left []) (sym (texts_end with cs start h all)) ∙ so_far
