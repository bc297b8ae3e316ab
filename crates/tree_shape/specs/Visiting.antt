-- How many visits an unfinished query has still to make, counted over the cells: a block counts as often as it is reached.
use Rattle.std.specs.Prelude.{ℕ, zero, suc, ◌≡◌, ◌+◌, ◌<◌, ◌≤◌, Bool, true, cond, List}
use Rattle.dim_hierarchy.specs.declared.filter.Pick.{Pick}
use Rattle.dc_node.specs.declared.todo.Item.{Item}
use Rattle.tree_shape.specs.{Shape.{Table, TreeCells, Shape}, Steps.{Visits, AfterVisit}, Walks.{Noted, pending}}

-- of the cells below a number
abbrev pub visits_left : Shape → List Noted → ℕ → ℕ
visits_left g ps zero = 0
visits_left g ps (suc n) = cond (g.inside n) (pending g ps n) 0 + visits_left g ps n

-- Where no block is reached twice, there are no more than the cells.
abbrev pub FewLaw : Type 0
FewLaw = (g : Shape) (ps : List Noted) (cells : ℕ) → ((y : ℕ) → g.inside y ≡ true → pending g ps y ≤ 1) → visits_left g ps cells ≤ cells

-- A visit lowers it.
abbrev pub VisitFallsLaw : Type 0
VisitFallsLaw = (table : Table) (cells : TreeCells) (g : Shape) (must : ℕ → Bool) (f : List Pick) (items : List Item) (item : Item) (counted : List ℕ) (n : ℕ)
    → (v : Visits table cells g must f items item counted) → (a : AfterVisit table cells g must f items item counted v.unfinished.noted)
    → g.inside item.cell ≡ true → item.cell < n
    → visits_left g a.unfinished.noted n < visits_left g v.unfinished.noted n
