-- The last spares of a purse.
use Rattle.std.specs.Prelude.{ℕ, List, [], ◌∷◌, Option, Some, None}
use Rattle.cell_stock.specs.declared.purse.Spare.{Spare}

-- the cell of the last one
abbrev pub last_spare : List Spare → Option ℕ
last_spare [] = None
last_spare (x ∷ []) = Some x.cell
last_spare (x ∷ y ∷ spares) = last_spare (y ∷ spares)

-- and of the one before it
abbrev pub spare_before : List Spare → Option ℕ
spare_before [] = None
spare_before (x ∷ []) = None
spare_before (x ∷ y ∷ []) = Some x.cell
spare_before (x ∷ y ∷ z ∷ spares) = spare_before (y ∷ z ∷ spares)
