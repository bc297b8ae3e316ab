-- Lists side by side.
use Rattle.std.proofs.Common.{List, [], ◌∷◌}
use Rattle.std.specs.List.{AllZip}

pub AllZip-weaker : {A B : Type 0} (R S : A → B → Type 0) (xs : List A) (ys : List B) → ((x : A) (y : B) → R x y → S x y) → AllZip R xs ys → AllZip S xs ys
AllZip-weaker R S [] [] f all = tt
AllZip-weaker R S [] (y0 ∷ ys) f all = absurd all
AllZip-weaker R S (x0 ∷ xs) [] f all = absurd all
AllZip-weaker R S (x0 ∷ xs) (y0 ∷ ys) f all = (f x0 y0 all.0, AllZip-weaker R S xs ys f all.1)
