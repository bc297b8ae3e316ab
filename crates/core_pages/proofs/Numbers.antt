-- Numbers in lists, and rows by their numbers.
use Rattle.std.proofs.{Common.{ℕ, ◌≡◌, ◌+◌, List, [], ◌∷◌, ◌++◌, map, refl, sym, ap, ◌∙◌, subst, arith}, lemmas.List.map-append, lemmas.List.Sorted.{IsPermutation-refl, IsPermutation-sym, IsPermutation-cons, IsPermutation-trans, IsPermutation-middle}}
use Rattle.std.specs.{List.flat_map, Prelude.IsPermutation}
use Rattle.dim_hierarchy.specs.declared.row.Row.{Row}
use Rattle.list_words.specs.Counts.{Each, times, total}
use Rattle.list_words.proofs.Times.{same_is, times-append, split-at, times-split}
use Rattle.core_image.specs.tree_shape.specs.Shape.{Table, numbers}
use Rattle.core_image.specs.tree_shape.proofs.Whole.Sums.{rows-named}

pub perm-numbers : (find : ℕ → Row) (ns ms : List ℕ) → ((r : ℕ) → times r ns ≡ times r ms) → IsPermutation (map find ns) (map find ms)
perm-numbers find [] [] h = IsPermutation-refl []
perm-numbers find [] (m ∷ ms) h = let a = h m in let o = same_is m m refl in absurd (omega arith)
perm-numbers find (n ∷ ns) ms h =
    let a = h n in
    let o = same_is n n refl in
    let w = split-at n ms (omega arith) in
    let rest : (r : ℕ) → times r ns ≡ times r (w.front ++ w.back) = λ r. (let x = h r in let y = ap (times r) w.is in let z = times-split n r w.front w.back in omega arith) in
    let ih = perm-numbers find ns (w.front ++ w.back) rest in
    let one = IsPermutation-cons (find n) (map find ns) (map find (w.front ++ w.back)) ih in
    let back = IsPermutation-sym (map find w.front ++ find n ∷ map find w.back) (find n ∷ (map find w.front ++ map find w.back)) (IsPermutation-middle (map find w.front) (find n) (map find w.back)) in
    let back2 : IsPermutation (find n ∷ map find (w.front ++ w.back)) (map find ms) = subst (λ xs. IsPermutation (find n ∷ map find (w.front ++ w.back)) xs) (sym (ap (map find) w.is ∙ map-append find w.front (n ∷ w.back)))
    (subst (λ xs. IsPermutation (find n ∷ xs) (map find w.front ++ find n ∷ map find w.back)) (sym (map-append find w.front w.back)) back) in
    IsPermutation-trans (map find (n ∷ ns)) (find n ∷ map find (w.front ++ w.back)) (map find ms) one back2

-- rows with these numbers, in another order
pub perm-rows : (table : Table) (rows : List Row) (ns : List ℕ) → Each (λ r. table.row r.no ≡ r) rows → ((r : ℕ) → times r (numbers rows) ≡ times r ns) → IsPermutation rows (map table.row ns)
perm-rows table rows ns named h = subst (λ xs. IsPermutation xs (map table.row ns)) (rows-named table rows named) (perm-numbers table.row (numbers rows) ns h)

pub times-rows : (r : ℕ) (xs ys : List Row) → times r (numbers (xs ++ ys)) ≡ times r (numbers xs) + times r (numbers ys)
times-rows r xs ys = ap (times r) (map-append (λ (x : Row). x.no) xs ys) ∙ times-append r (numbers xs) (numbers ys)

-- how often a number is in lists together
pub times-flat : {A : Type 0} (f : A → List Row) (r : ℕ) (xs : List A) → times r (numbers (flat_map f xs)) ≡ total (λ x. times r (numbers (f x))) xs
times-flat f r [] = refl
times-flat f r (x ∷ xs) = times-rows r (f x) (flat_map f xs) ∙ ap (λ n. times r (numbers (f x)) + n) (times-flat f r xs)
