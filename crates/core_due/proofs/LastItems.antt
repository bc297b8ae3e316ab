-- The last items of a list: the block that was noted last, and the last two spares of a purse.
use Rattle.std.proofs.{Common.{ℕ, ◌≡◌, ◌∙◌, ◌-◌, ◌≤◌, ◌⊎◌, List, [], ◌∷◌, ◌++◌, length, Option, Some, None, inl, inr, refl, sym, ap, slice_get, arith}, lemmas.List.{append_assoc, length-append}}
use Rattle.std.specs.Prelude.{option_and_then, option_map}
use Rattle.cell_stock.specs.{Stock.cells_of, declared.purse.Spare.Spare}
use Rattle.core_due.specs.{Spares.{last_spare, spare_before}, Splits.split_of, Wants.last_noted}
use Rattle.core_steps.specs.declared.jobs.JobStep.TheVariants.{FinishSplit}
use Rattle.dc_node.specs.declared.todo.Item.{Item}
use Rattle.list_words.proofs.Elements.{Some-same}
use Rattle.list_words.specs.Counts.{Among}

-- a list with a last item
pub record HasLast {A : Type 0} (xs : List A) : Type 0 where
  pub front : List A
  pub last : A
  pub is : xs ≡ front ++ last ∷ []

pub end-of : {A : Type 0} (xs : List A) → (xs ≡ []) ⊎ HasLast xs
end-of [] = inl refl
end-of {A} (x ∷ xs) = elim (end-of xs) [
  | inl none ↦ inr (record { front = []; last = x; is = ap (λ (ys : List A). x ∷ ys) none })
  | inr more ↦ inr (record { front = x ∷ more.front; last = more.last; is = ap (λ (ys : List A). x ∷ ys) more.is })
]

-- one with items has one
pub ends-in : {A : Type 0} (xs : List A) → 1 ≤ length xs → HasLast xs
ends-in {A} xs some = elim (end-of xs) [
  | inl none ↦ (let long : length xs ≡ 0 = ap (λ (ys : List A). length ys) none in absurd (omega (arith, some, long)))
  | inr e ↦ e
]

-- a list with an item before the last
pub record HasLastTwo {A : Type 0} (xs : List A) : Type 0 where
  pub front : List A
  pub before : A
  pub last : A
  pub is : xs ≡ front ++ before ∷ last ∷ []

-- one with two items has one
pub ends-in-two : {A : Type 0} (xs : List A) → 2 ≤ length xs → HasLastTwo xs
ends-in-two {A} xs some =
    let e = ends-in xs (omega (arith, some)) in
    let long = ap (λ (ys : List A). length ys) e.is ∙ length-append e.front (e.last ∷ []) in
    let f = ends-in e.front (omega (arith, some, long)) in
    record { front = f.front; before = f.last; last = e.last; is = e.is ∙ ap (λ (ys : List A). ys ++ e.last ∷ []) f.is ∙ append_assoc f.front (f.last ∷ []) (e.last ∷ []) }

-- By its place.

behind : {A : Type 0} (xs : List A) (x : A) → slice_get (xs ++ x ∷ []) (length xs) ≡ Some x
behind [] x = refl
behind (y ∷ xs) x = behind xs x

pub last-at : {A : Type 0} (xs : List A) (x : A) → slice_get (xs ++ x ∷ []) (length (xs ++ x ∷ []) - 1) ≡ Some x
last-at xs x =
    let long = length-append xs (x ∷ []) in
    let place : length (xs ++ x ∷ []) - 1 ≡ length xs = omega (arith, long) in
    ap (slice_get (xs ++ x ∷ [])) place ∙ behind xs x

last-of : {A : Type 0} (xs : List A) (e : HasLast xs) → slice_get xs (length xs - 1) ≡ Some e.last
last-of {A} xs e = ap (λ (ys : List A). slice_get ys (length ys - 1)) e.is ∙ last-at e.front e.last

-- one is found there: it is the last one
pub found-last : {A : Type 0} (xs : List A) (x : A) → slice_get xs (length xs - 1) ≡ Some x → (front : List A) × (xs ≡ front ++ x ∷ [])
found-last {A} xs x found = elim (end-of xs) [
  | inl none ↦ (let never : ◌≡◌ {A = Option A} None (Some x) = sym (ap (λ (ys : List A). slice_get ys (length ys - 1)) none) ∙ found in absurd (cc))
  | inr e ↦ (e.front, e.is ∙ ap (λ (y : A). e.front ++ y ∷ []) (sym (Some-same e.last x (sym (last-of xs e) ∙ found))))
]

-- none is found
pub found-none : {A : Type 0} (xs : List A) → slice_get xs (length xs - 1) ≡ None → xs ≡ []
found-none {A} xs found = elim (end-of xs) [
  | inl none ↦ none
  | inr e ↦ (let never : Some e.last ≡ None = sym (last-of xs e) ∙ found in absurd (cc))
]

-- Blocks that are noted.

pub noted-at : (front : List Item) (item : Item) → last_noted (front ++ item ∷ []) ≡ Some item.cell
noted-at [] item = refl
noted-at (x ∷ []) item = refl
noted-at (x ∷ y ∷ front) item = noted-at (y ∷ front) item

-- the block that was noted last
pub record IsNotedLast (items : List Item) (block : ℕ) : Type 0 where
  pub front : List Item
  pub item : Item
  pub is : items ≡ front ++ item ∷ []
  pub cell : item.cell ≡ block

pub noted-last : (items : List Item) (block : ℕ) → last_noted items ≡ Some block → IsNotedLast items block
noted-last items block noted = elim (end-of items) [
  | inl none ↦ (let never : ◌≡◌ {A = Option ℕ} None (Some block) = sym (ap last_noted none) ∙ noted in absurd (cc))
  | inr e ↦ record { front = e.front; item = e.last; is = e.is; cell = sym (Some-same (e.last).cell block (sym (ap last_noted e.is ∙ noted-at e.front e.last) ∙ noted)) }
]

pub none-noted : (items : List Item) → last_noted items ≡ None → items ≡ []
none-noted items noted = elim (end-of items) [
  | inl none ↦ none
  | inr e ↦ (let never : Some (e.last).cell ≡ None = sym (ap last_noted e.is ∙ noted-at e.front e.last) ∙ noted in absurd (cc))
]

-- Spares.

pub spare-last : (front : List Spare) (x : Spare) → last_spare (front ++ x ∷ []) ≡ Some x.cell
spare-last [] x = refl
spare-last (y ∷ []) x = refl
spare-last (y ∷ z ∷ front) x = spare-last (z ∷ front) x

-- the one before the last is the last of those before it
pub before-last : (front : List Spare) (x : Spare) → spare_before (front ++ x ∷ []) ≡ last_spare front
before-last [] x = refl
before-last (y ∷ []) x = refl
before-last (y ∷ z ∷ []) x = refl
before-last (y ∷ z ∷ u ∷ front) x = before-last (z ∷ u ∷ front) x

-- of a purse that ends in two

pub second-last : (xs : List Spare) (e : HasLastTwo xs) → last_spare xs ≡ Some (e.last).cell
second-last xs e = ap last_spare (e.is ∙ sym (append_assoc e.front (e.before ∷ []) (e.last ∷ []))) ∙ spare-last (e.front ++ e.before ∷ []) e.last

pub first-before : (xs : List Spare) (e : HasLastTwo xs) → spare_before xs ≡ Some (e.before).cell
first-before xs e =
    ap spare_before (e.is ∙ sym (append_assoc e.front (e.before ∷ []) (e.last ∷ [])))
    ∙ before-last (e.front ++ e.before ∷ []) e.last
    ∙ spare-last e.front e.before

-- the end of a split with their cells
pub split-is : (map gate : ℕ) (xs : List Spare) (e : HasLastTwo xs) → split_of map gate xs ≡ Some (FinishSplit map gate (e.last).cell (e.before).cell)
split-is map gate xs e =
    ap (option_and_then (λ left. option_map (λ right. FinishSplit map gate left right) (spare_before xs))) (second-last xs e)
    ∙ ap (option_map (λ right. FinishSplit map gate (e.last).cell right)) (first-before xs e)

-- their cells are of the purse

pub cell-among : (front : List Spare) (x : Spare) (more : List Spare) → Among x.cell (cells_of (front ++ x ∷ more))
cell-among [] x more = inl refl
cell-among (y ∷ front) x more = inr (cell-among front x more)

pub next-cell-among : (front : List Spare) (x y : Spare) → Among y.cell (cells_of (front ++ x ∷ y ∷ []))
next-cell-among [] x y = inr (inl refl)
next-cell-among (z ∷ front) x y = inr (next-cell-among front x y)
