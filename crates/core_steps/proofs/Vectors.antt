-- Cells that are moved out or lent, and put back: what the vector of all cells is then.
use Rattle.std.proofs.{Common.{◌≡◌, ◌≢◌, ◌∙◌, ℕ, ◌<◌, true, List, [], ◌∷◌, length, Option, Some, None, is_some, get_or, set, refl, sym, ap, subst}, lemmas.List.{get_or-set_other, get_or-set_same, set-get_or, set-set, set_comm}}
use Rattle.core_steps.specs.{Places.{Fill, held, numbers, one_at, others_held, things}, declared.step.Others.Others}
use Rattle.core_steps.proofs.Filling.{by-places, each-thing}
use Rattle.list_words.specs.Counts.{Each}
use Rattle.list_words.proofs.Each.{each-map}
use Rattle.core_shard.specs.volap_cell.specs.{State.{AreDifferent, Stand, given, taken}, declared.cell.Cell.Cell}
use Rattle.core_shard.specs.volap_cell.proofs.Cells.States.{length-given}

-- Elsewhere.

taken-set : {A : Type 0} (ys : List ℕ) (xs : List (Option A)) (f : ℕ) (v : Option A) → Each (λ y. f ≢ y) ys → taken ys (set xs f v) ≡ set (taken ys xs) f v
taken-set [] xs f v off = refl
taken-set {A} (y ∷ ys) xs f v off = ap (λ (l : List (Option A)). taken ys l) (set_comm xs f y v None off.0) ∙ taken-set ys (set xs y None) f v off.1

given-set : {A : Type 0} (ts : List (ℕ × A)) (xs : List (Option A)) (f : ℕ) (v : Option A) → Each (λ (t : ℕ × A). f ≢ t.0) ts → given ts (set xs f v) ≡ set (given ts xs) f v
given-set [] xs f v off = refl
given-set {A} (t ∷ ts) xs f v off = ap (λ (l : List (Option A)). set l t.0 (Some t.1)) (given-set ts xs f v off.1) ∙ set_comm (given ts xs) f t.0 v (Some t.1) off.0

stand-set : {A : Type 0} (ts : List (ℕ × A)) (xs : List (Option A)) (f : ℕ) (v : Option A) → Each (λ (t : ℕ × A). t.0 ≢ f) ts → Stand xs ts → Stand (set xs f v) ts
stand-set [] xs f v off stand = tt
stand-set (t ∷ ts) xs f v off stand = (get_or-set_other xs f t.0 v None off.0 ∙ stand.0, stand-set ts xs f v off.1 stand.1)

-- what isn't put back stays
pub given-off : {A : Type 0} (ts : List (ℕ × A)) (xs : List (Option A)) (y : ℕ) → Each (λ (t : ℕ × A). y ≢ t.0) ts → get_or (given ts xs) y None ≡ get_or xs y None
given-off [] xs y off = refl
given-off (t ∷ ts) xs y off = get_or-set_other (given ts xs) t.0 y (Some t.1) None off.0 ∙ given-off ts xs y off.1

-- What is put back.

-- it stands at its places
pub stand-given : (row : List (Option ℕ)) (held : List (Option Cell)) → Fill row held → (xs : List (Option Cell)) → AreDifferent (numbers row) → Each (λ y. y < length xs) (numbers row) → Stand (given (things row held) xs) (things row held)
stand-given = by-places (λ row held. (xs : List (Option Cell)) → AreDifferent (numbers row) → Each (λ y. y < length xs) (numbers row) → Stand (given (things row held) xs) (things row held))
    (λ xs apart within. tt)
    (λ row held rest. rest)
    (λ y c row held fill rest xs apart within. (
      get_or-set_same (given (things row held) xs) y (Some c) None (subst (λ (n : ℕ). y < n) (sym (length-given (things row held) xs)) within.0),
      stand-set (things row held) (given (things row held) xs) y (Some c) (each-thing (λ z. z ≢ y) row held fill apart.0) (rest xs apart.1 within.1),
    ))

-- where it is what stood there, the cells are as they were
pub put-back : (row : List (Option ℕ)) (held : List (Option Cell)) → Fill row held → (xs : List (Option Cell)) → AreDifferent (numbers row) → Stand xs (things row held) → given (things row held) (taken (numbers row) xs) ≡ xs
put-back = by-places (λ row held. (xs : List (Option Cell)) → AreDifferent (numbers row) → Stand xs (things row held) → given (things row held) (taken (numbers row) xs) ≡ xs)
    (λ xs apart stand. refl)
    (λ row held rest. rest)
    (λ y c row held fill rest xs apart stand.
    ap (λ (l : List (Option Cell)). set l y (Some c)) (rest (set xs y None) apart.1 (stand-set (things row held) xs y None (each-thing (λ z. z ≢ y) row held fill apart.0) stand.1))
    ∙ set-set xs y None (Some c) ∙ ap (λ (o : Option Cell). set xs y o) (sym stand.0) ∙ set-get_or xs y None)

-- A cell that was lent where it stands, while others were out, is as one that was moved out and put back.
lent-back : (f : ℕ) (o : Option Cell) (row : List (Option ℕ)) (held : List (Option Cell)) (xs : List (Option Cell)) → is_some o ≡ true → Fill row held → Each (λ y. f ≢ y) (numbers row)
    → given (things (Some f ∷ row) (o ∷ held)) (taken (f ∷ numbers row) xs) ≡ given (things row held) (set (taken (numbers row) xs) f o)
lent-back f None row held xs some fill off = absurd (cc)
lent-back f (Some c) row held xs some fill off =
    let out = taken (numbers row) xs in
    let apart = each-thing (λ z. f ≢ z) row held fill off in
    ap (λ (l : List (Option Cell)). set (given (things row held) l) f (Some c)) (taken-set (numbers row) xs f None off)
    ∙ ap (λ (l : List (Option Cell)). set l f (Some c)) (given-set (things row held) out f None apart)
    ∙ set-set (given (things row held) out) f None (Some c)
    ∙ sym (given-set (things row held) out f (Some c) apart)

pub each-other : (f : ℕ) (ys : List ℕ) → Each (λ z. z ≢ f) ys → Each (λ z. f ≢ z) ys
each-other f ys = each-map (λ z. z ≢ f) (λ z. f ≢ z) ys (λ z ne e. ne (sym e))

-- one cell, or two with others

pub one-back : (f : ℕ) (cells : List (Option Cell)) (first second : Option Cell) (others : Others) → Fill (one_at f) (held first second others) → set cells f first ≡ given (things (one_at f) (held first second others)) (taken (f ∷ []) cells)
one-back f cells first second others fill =
    let row = None ∷ None ∷ None ∷ None ∷ None ∷ None ∷ [] in
    let rest : Fill row (second ∷ others_held others) = cc in
    let some : is_some first ≡ true = cc in
    sym (lent-back f first row (second ∷ others_held others) cells some rest tt)

pub two-back : (f g : ℕ) (row : List (Option ℕ)) (cells : List (Option Cell)) (first second : Option Cell) (others : List (Option Cell)) → AreDifferent (f ∷ g ∷ numbers row) → Fill (Some f ∷ Some g ∷ row) (first ∷ second ∷ others)
    → given (things row others) (set (set (taken (numbers row) cells) f first) g second) ≡ given (things (Some f ∷ Some g ∷ row) (first ∷ second ∷ others)) (taken (f ∷ g ∷ numbers row) cells)
two-back f g row cells first second others apart fill =
    let rest : Fill (Some g ∷ row) (second ∷ others) = cc in
    let resting : Fill row others = cc in
    let some : is_some first ≡ true = cc in
    let some_too : is_some second ≡ true = cc in
    let off = each-other f (g ∷ numbers row) apart.0 in
    let off_too = each-other g (numbers row) apart.1.0 in
    sym (lent-back f first (Some g ∷ row) (second ∷ others) cells some rest off
    ∙ ap (λ (l : List (Option Cell)). given (things (Some g ∷ row) (second ∷ others)) l) (sym (taken-set (g ∷ numbers row) cells f first off))
    ∙ lent-back g second row others (set cells f first) some_too resting off_too
    ∙ ap (λ (l : List (Option Cell)). given (things row others) (set l g second)) (taken-set (numbers row) cells f first off.1))
