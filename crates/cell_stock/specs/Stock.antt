-- What contracts see of a stock and of a purse, and how spares go from one to the other.
use Rattle.std.specs.{List.{IsDistinct, range_with_len}, Prelude.{ℕ, ◌≡◌, ◌+◌, ◌<◌, ◌≤◌, ◌^◌, nat_eq, List, [], ◌∷◌, ◌++◌, length, map, All, Contains}}
use Rattle.cell_stock.specs.declared.purse.Spare.{Spare}

-- how many cells there are, the numbers of the free ones, and how many stamps and shard ids were given out, which are
-- the next of each
pub record StockValue : Type 0 where
  pub cells : ℕ
  pub free : List ℕ
  pub stamps : ℕ
  pub ids : ℕ

-- the spares, and for how many more there is room
pub record PurseValue : Type 0 where
  pub spares : List Spare
  pub room : ℕ

-- the cells of spares, and their stamps

abbrev pub cells_of : List Spare → List ℕ
cells_of spares = map (λ s. s.cell) spares

abbrev pub stamps_of : List Spare → List ℕ
stamps_of spares = map (λ s. s.stamp) spares

-- each free cell is one of the stock's and is free once
pub record IsStock (s : StockValue) : Type 0 where
  pub known : All (λ cell. cell < s.cells) s.free
  pub once : IsDistinct nat_eq s.free
  pub stamps : s.stamps < 2 ^ 63
  pub ids : s.ids < 2 ^ 32

-- spares of these cells, with the stamps from the given one on, were added at the end
pub record Fills (cells : List ℕ) (stamp : ℕ) (before now : List Spare) : Type 0 where
  pub spares : List Spare
  pub filled : now ≡ before ++ spares
  pub cells_are : cells_of spares ≡ cells
  pub stamps_are : stamps_of spares ≡ range_with_len stamp (length cells)

-- n free cells went from the stock to the end of the purse, each with a stamp that was not given out before
pub record Takes (n : ℕ) (before now : StockValue) (purse purse_now : PurseValue) : Type 0 where
  pub spares : List Spare
  pub count : length spares ≡ n
  pub filled : purse_now.spares ≡ purse.spares ++ spares
  pub cells : before.free ≡ now.free ++ cells_of spares
  pub stamps : stamps_of spares ≡ range_with_len before.stamps n
  pub next : now.stamps ≡ before.stamps + n
  pub ids : now.ids ≡ before.ids
  pub all : now.cells ≡ before.cells

-- spares that may go back: their cells are the stock's, none of them is free, and none stands twice
pub record AreOut (s : StockValue) (spares : List Spare) : Type 0 where
  pub known : All (λ cell. cell < s.cells) (cells_of spares)
  pub once : IsDistinct nat_eq (s.free ++ cells_of spares)

-- so may one cell
pub record IsOut (s : StockValue) (cell : ℕ) : Type 0 where
  pub known : cell < s.cells
  pub once : IsDistinct nat_eq (s.free ++ cell ∷ [])

-- the cells of all spares of the purse are free again; their stamps are not given out a second time
pub record Gives (before now : StockValue) (purse purse_now : PurseValue) : Type 0 where
  pub emptied : purse_now.spares ≡ []
  pub cells : now.free ≡ before.free ++ cells_of purse.spares
  pub stamps : now.stamps ≡ before.stamps
  pub ids : now.ids ≡ before.ids
  pub all : now.cells ≡ before.cells

-- Laws.

-- Spares that were just taken: their cells were free and aren't any more, no two have the same cell, and their
-- stamps come after those given out before and before those given out from now on.
pub record AreFresh (before now : StockValue) (spares : List Spare) : Type 0 where
  pub cells : All (λ cell. Contains before.free cell × (¬ Contains now.free cell)) (cells_of spares)
  pub apart : IsDistinct nat_eq (cells_of spares)
  pub stamps : All (λ stamp. (before.stamps ≤ stamp) × (stamp < now.stamps)) (stamps_of spares)
