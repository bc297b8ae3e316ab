-- Vectors that are filled one place behind another.
use Rattle.std.proofs.{Common.{◌≡◌, ◌∙◌, ℕ, zero, suc, ◌+◌, ◌<◌, ◌≤◌, List, [], ◌∷◌, ◌++◌, length, Option, Some, None, refl, sym, ap, subst, arith}, lemmas.List.{length-append, length-map}, lemmas.List.FromFn.length-range_with_len}
use Rattle.std.specs.{List.range_with_len, Prelude.{◌-◌, ◌*◌, ◌↔◌, IfSome, IsNone, is_some, false}}
use Rattle.cell_stock.specs.{Stock.{IsStock, PurseValue, StockValue, Takes, cells_of}, declared.purse.Spare.Spare}
use Rattle.volap_cell.specs.Filling.{IsFirstStock}

-- what is left in front when a list of numbers that follow one another loses some at its end
pub front : (xs ys : List ℕ) (from n k : ℕ) → xs ++ ys ≡ range_with_len from n → k + length ys ≡ n → xs ≡ range_with_len from k
front [] ys from n k is long =
    let all : length ys ≡ n = ap length is ∙ length-range_with_len from n in
    let none : k ≡ 0 = omega arith in
    sym (ap (range_with_len from) none)
front (x ∷ xs) ys from zero k is long = absurd (let never : ⊥ = cc in never)
front (x ∷ xs) ys from (suc n) zero is long =
    let rest : xs ++ ys ≡ range_with_len (from + 1) n = cc in
    let all : length (xs ++ ys) ≡ n = ap length rest ∙ length-range_with_len (from + 1) n in
    let both = length-append xs ys in absurd (omega arith)
front (x ∷ xs) ys from (suc n) (suc k) is long =
    let rest : xs ++ ys ≡ range_with_len (from + 1) n = cc in
    let here : x ≡ from = cc in
    let ih = front xs ys (from + 1) n k rest (omega arith) in
    cc

-- The stock of the first shards.

unless-none : {A : Type 0} (o : Option A) (P : A → Type 0) → IfSome o P → (is_some o ≡ false → ⊥) → (x : A) × P x
unless-none None P some not = absurd (not refl)
unless-none (Some x) P some not = (x, some)

long-stock : (first cells : ℕ) (was : StockValue) → was ≡ record { cells = first + cells; free = range_with_len first (first + cells - first); stamps = 0; ids = 0 } → length was.free ≡ cells
long-stock first cells was is = ap (λ (v : StockValue). length v.free) is ∙ length-range_with_len first (first + cells - first) ∙ omega arith

-- there are enough, so they are taken
pub was-taken : (first cells workers count : ℕ) (was now : StockValue) (purse purse_now : PurseValue) (result : Option (Unit {0})) → workers + workers ≤ cells → count ≡ 2 * workers
    → was ≡ record { cells = first + cells; free = range_with_len first (first + cells - first); stamps = 0; ids = 0 }
    → (IsNone result ↔ (length was.free < count)) → IfSome result (λ _. Takes count was now purse purse_now) → Takes (2 * workers) was now purse purse_now
was-taken first cells workers count was now purse purse_now result enough count_is is none some =
    let long = long-stock first cells was is in
    subst (λ (k : ℕ). Takes k was now purse purse_now) count_is (unless-none result (λ _. Takes count was now purse purse_now) some (λ is_none. let low = none.0 is_none in absurd (omega arith))).1

pub first-stock : (first cells workers : ℕ) (was taken now : StockValue) (purse purse_now : PurseValue) → workers + workers ≤ cells
    → was ≡ record { cells = first + cells; free = range_with_len first (first + cells - first); stamps = 0; ids = 0 }
    → Takes (2 * workers) was taken purse purse_now → now ≡ record taken { ids = taken.ids + workers } → IsStock now → IsFirstStock first cells workers now
first-stock first cells workers was taken now purse purse_now enough was_is t now_is valid =
    let out : length (cells_of t.spares) ≡ 2 * workers = length-map t.spares (λ (x : Spare). x.cell) ∙ t.count in
    let before : taken.free ++ cells_of t.spares ≡ range_with_len first (first + cells - first) = sym t.cells ∙ ap (λ (v : StockValue). v.free) was_is in
    record {
      count = ap (λ (v : StockValue). v.cells) now_is ∙ t.all ∙ ap (λ (v : StockValue). v.cells) was_is;
      free = ap (λ (v : StockValue). v.free) now_is ∙ front taken.free (cells_of t.spares) first (first + cells - first) (cells - 2 * workers) before (omega arith);
      stamps = (let a = ap (λ (v : StockValue). v.stamps) now_is in let b = t.next in let z = ap (λ (v : StockValue). v.stamps) was_is in omega arith);
      ids = (let a = ap (λ (v : StockValue). v.ids) now_is in let b = t.ids in let z = ap (λ (v : StockValue). v.ids) was_is in omega arith);
      valid = valid;
    }
