-- Rows past their gates whose levels are as before have as much left.
use Rattle.std.proofs.Common.{◌≡◌, ℕ, ◌+◌, ◌≤◌, List, [], ◌∷◌, ◌++◌, Option, Some, None, refl, ap, arith}
use Rattle.cell_stock.specs.declared.purse.Spare.{Spare}
use Rattle.volap_cell.specs.tree_shape.specs.Shape.{Shape}
use Rattle.volap_cell.specs.{Errands.{RowWay, AtBlock, way_of, way_in_task, place_of, row_way}, Falls.{rows_of_way, rows_of_task, rows_of_errand, one_if_any}, Values.{ErrandValue, TaskValue, OfRow, Unread, Read}, declared.errand.Way.Way}
use Rattle.volap_cell.specs.declared.errand.Way.TheVariants as way

rows-of-way : (shape shape2 : ℕ → Shape) (w : Way) → ((d y : ℕ) → place_of w ≡ AtBlock d y → (shape2 d).level y ≡ (shape d).level y) → rows_of_way shape2 w ≡ rows_of_way shape w
rows-of-way shape shape2 (way.Before height filled) f = refl
rows-of-way shape shape2 (way.Carried gate block) f = ap (λ (l : ℕ). l + 4) (f gate block refl)
rows-of-way shape shape2 (way.Put gate) f = refl
rows-of-way shape shape2 way.Placed f = refl

rows-of-task : (shape shape2 : ℕ → Shape) (e : ErrandValue) (t : TaskValue) → ((d y : ℕ) (u : RowWay) → way_in_task e t ≡ Some u → u.place ≡ AtBlock d y → (shape2 d).level y ≡ (shape d).level y)
    → rows_of_task shape2 t ≡ rows_of_task shape t
rows-of-task shape shape2 e (OfRow r) f = rows-of-way shape shape2 r.way (λ d y p. f d y (row_way e r) refl p)
rows-of-task shape shape2 e (Unread q) f = refl
rows-of-task shape shape2 e (Read r) f = refl

pub rows-as-before : (shape shape2 : ℕ → Shape) (errand : Option ErrandValue)
    → ((d y : ℕ) (u : RowWay) → way_of errand ≡ Some u → u.place ≡ AtBlock d y → (shape2 d).level y ≡ (shape d).level y)
    → rows_of_errand shape2 errand ≡ rows_of_errand shape errand
rows-as-before shape shape2 None f = refl
rows-as-before shape shape2 (Some e) f = rows-of-task shape shape2 e e.task f

pub any-front : (xs ys zs : List Spare) → xs ≡ ys ++ zs → one_if_any ys ≤ one_if_any xs
any-front xs [] zs e = omega arith
any-front [] (y ∷ ys) zs e = cc
any-front (x ∷ xs) (y ∷ ys) zs e = omega arith
