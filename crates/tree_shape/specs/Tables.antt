-- Two tables of rows. A row that begins changes the table at its number alone.
use Rattle.std.specs.Prelude.{ℕ, ◌≡◌, ◌≤◌, ◌⊎◌, Bool, true, List, map}
use Rattle.dim_hierarchy.specs.declared.filter.Pick.{Pick}
use Rattle.measure_agg.specs.Aggregate.{agg}
use Rattle.dc_node.specs.declared.todo.Item.{Item}
use Rattle.list_words.specs.Counts.{times}
use Rattle.tree_shape.specs.{Queries.{IsUnfinished, fits}, Shape.{Table, Node, Shape}}

-- one hierarchy, and for some numbers the same row
pub record AreAlike (of : ℕ → Type 0) (table other : Table) : Type 0 where
  pub hierarchy : other.hierarchy ≡ table.hierarchy
  pub row : (r : ℕ) → of r → other.row r ≡ table.row r

-- the row is in the tree
abbrev pub IsThere : Shape → ℕ → Type 0
IsThere g r = g.placed r ≡ true

-- the row is in the tree or counted
abbrev pub IsThereOrCounted : Shape → List ℕ → ℕ → Type 0
IsThereOrCounted g counted r = (g.placed r ≡ true) ⊎ (1 ≤ times r counted)

-- The query is right over the other table too, and has the same aggregate.
pub record AfterTable (table other : Table) (g : Shape) (look : ℕ → Node) (must : ℕ → Bool) (f : List Pick) (items : List Item) (counted : List ℕ) : Type 0 where
  pub unfinished : IsUnfinished g look must (fits other f) items counted
  pub total : agg (map other.row counted) ≡ agg (map table.row counted)
