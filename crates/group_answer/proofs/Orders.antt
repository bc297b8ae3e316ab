-- Lists in another order, joined.
use Rattle.std.proofs.{Common.{◌≡◌, List, [], ◌∷◌, ◌++◌, length, refl, sym, ap, ◌∙◌, subst, append_assoc}, lemmas.List.append-nil, lemmas.List.Sorted.length_permutation}
use Rattle.dim_hierarchy.specs.declared.row.Row.{Row}
use Rattle.row_ledger.proofs.Grouping.{IsShuffled, shuffled-permutes, shuffled-same}

pub shuffled-comm : (xs ys : List Row) → IsShuffled (xs ++ ys) (ys ++ xs)
shuffled-comm [] ys = subst (IsShuffled ys) (sym (append-nil ys)) (shuffled-same ys)
shuffled-comm (x ∷ xs) ys = (ys, xs, refl, shuffled-comm xs ys)

pub shuffled-append : (xs ys us vs : List Row) → IsShuffled xs ys → IsShuffled us vs → IsShuffled (xs ++ us) (ys ++ vs)
shuffled-append [] ys us vs s t = subst (λ (l : List Row). IsShuffled us (l ++ vs)) (sym s) t
shuffled-append (x ∷ xs) ys us vs (front, back, is, rest) t =
    (front, back ++ vs, ap (λ (l : List Row). l ++ vs) is ∙ append_assoc front (x ∷ back) vs, subst (IsShuffled (xs ++ us)) (append_assoc front back vs) (shuffled-append xs (front ++ back) us vs rest t))

pub shuffled-length : (xs ys : List Row) → IsShuffled xs ys → length ys ≡ length xs
shuffled-length xs ys s = length_permutation xs ys (shuffled-permutes xs ys s)
