-- What a summary tells, one command more at a time.
use Rattle.std.proofs.{Common.{◌≡◌, ◌∙◌, ℕ, ◌+◌, ◌<◌, ◌≤◌, List, [], ◌∷◌, ◌++◌, true, false, inl, inr, ◌⊎◌, Option, None, length, get_or, drop, append-nil, refl, ap, sym, arith}, lemmas.List.{append_assoc, drop_more, drop_all}}
use Rattle.std.specs.{List.flat_map, Prelude.zip}
use Rattle.measure_agg.specs.Aggregate.{Aggregate}
use Rattle.row_ledger.specs.declared.event.Event.{Event}
use Rattle.script_form.specs.declared.script.Command.{Command}
use Rattle.answer_text.specs.Summary.{asks_total, total_line, total_of, total_words, totals}

-- Two lists side by side.

zip_more : {A B : Type 0} (xs : List A) (ys : List B) (i : ℕ) (x : A) (y : B) → i < length xs → i < length ys
    → zip (drop i xs) (drop i ys) ≡ (get_or xs i x, get_or ys i y) ∷ zip (drop (i + 1) xs) (drop (i + 1) ys)
zip_more xs ys i x y inside within = rw (drop_more xs i x inside, drop_more ys i y within) refl

zip_nil : {A B : Type 0} (xs : List A) (ys : List B) → ys ≡ [] → zip xs ys ≡ []
zip_nil [] ys none = refl
zip_nil (x ∷ xs) ys none = rw none refl

zip_end : {A B : Type 0} (xs : List A) (ys : List B) (i : ℕ) → length xs ≤ i → zip (drop i xs) (drop i ys) ≡ []
zip_end xs ys i all = rw (drop_all i xs all) refl

-- The commands behind a place, each with where it began.

abbrev pub behind : List Command → List (Option ℕ) → ℕ → List (Command × Option ℕ)
behind cs ps i = zip (drop i cs) (drop i ps)

behind_more : (cs : List Command) (ps : List (Option ℕ)) (i : ℕ) (c : Command) → i < length cs → length ps ≡ length cs → c ≡ get_or cs i c
    → behind cs ps i ≡ (c, get_or ps i None) ∷ behind cs ps (i + 1)
behind_more cs ps i c inside same is =
    zip_more cs ps i c None inside (omega arith) ∙ ap (λ d. (d, get_or ps i None) ∷ behind cs ps (i + 1)) (sym is)

-- Aggregates.

pub total_yes : (given whole : List (Option Aggregate)) (h : List Event) (cs : List Command) (ps : List (Option ℕ)) (i : ℕ) (c : Command) → i < length cs → length ps ≡ length cs
    → c ≡ get_or cs i c → asks_total c ≡ true → given ++ totals h (behind cs ps i) ≡ whole
    → (given ++ total_of h c (get_or ps i None) ∷ []) ++ totals h (behind cs ps (i + 1)) ≡ whole
total_yes given whole h cs ps i c inside same is found so_far =
    let here : totals h (behind cs ps i) ≡ total_of h c (get_or ps i None) ∷ totals h (behind cs ps (i + 1)) = ap (totals h) (behind_more cs ps i c inside same is) ∙ rw found refl in
    append_assoc given (total_of h c (get_or ps i None) ∷ []) (totals h (behind cs ps (i + 1))) ∙ ap (λ l. given ++ l) (sym here) ∙ so_far

pub total_no : (given whole : List (Option Aggregate)) (h : List Event) (cs : List Command) (ps : List (Option ℕ)) (i : ℕ) (c : Command) → i < length cs → length ps ≡ length cs
    → c ≡ get_or cs i c → asks_total c ≡ false → given ++ totals h (behind cs ps i) ≡ whole → given ++ totals h (behind cs ps (i + 1)) ≡ whole
total_no given whole h cs ps i c inside same is other so_far =
    let here : totals h (behind cs ps i) ≡ totals h (behind cs ps (i + 1)) = ap (totals h) (behind_more cs ps i c inside same is) ∙ rw other refl in
    ap (λ l. given ++ l) (sym here) ∙ so_far

-- The lines of aggregates.

abbrev pub lines_behind : List (Option Aggregate) → ℕ → List ℕ
lines_behind given i = flat_map (λ at. total_line at.0 at.1) (zip (drop i total_words) (drop i given))

pub line_pushed : (old new whole : List ℕ) (given : List (Option Aggregate)) (i : ℕ) (word : List ℕ) (total : Option Aggregate) → i < length total_words → i < length given
    → word ≡ get_or total_words i [] → total ≡ get_or given i total → new ≡ old ++ total_line word total → old ++ lines_behind given i ≡ whole → new ++ lines_behind given (i + 1) ≡ whole
line_pushed old new whole given i word total inside within named is pushed so_far =
    let here = total_line word total in
    let both : zip (drop i total_words) (drop i given) ≡ (word, total) ∷ zip (drop (i + 1) total_words) (drop (i + 1) given) =
    zip_more total_words given i [] total inside within
    ∙ ap (λ w. (w, get_or given i total) ∷ zip (drop (i + 1) total_words) (drop (i + 1) given)) (sym named)
    ∙ ap (λ t. (word, t) ∷ zip (drop (i + 1) total_words) (drop (i + 1) given)) (sym is) in
    let step : lines_behind given i ≡ here ++ lines_behind given (i + 1) = ap (flat_map (λ at. total_line at.0 at.1)) both in
    ap (λ l. l ++ lines_behind given (i + 1)) pushed ∙ append_assoc old here (lines_behind given (i + 1)) ∙ ap (λ l. old ++ l) (sym step) ∙ so_far

pub lines_pushed : (text whole : List ℕ) (given : List (Option Aggregate)) (i : ℕ) → (length total_words ≤ i) ⊎ (length given ≤ i) → text ++ lines_behind given i ≡ whole → text ≡ whole
lines_pushed text whole given i all so_far =
    let none : zip (drop i total_words) (drop i given) ≡ [] = elim all [
      | inl words ↦ zip_end total_words given i words
      | inr most ↦ zip_nil (drop i total_words) (drop i given) (drop_all i given most)
    ] in
    sym (append-nil text) ∙ ap (λ l. text ++ l) (sym (ap (flat_map (λ at. total_line at.0 at.1)) none)) ∙ so_far
