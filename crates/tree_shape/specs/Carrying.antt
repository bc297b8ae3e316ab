-- Who can go on where rows are carried down a tree: the actor that carries its row deepest waits for nobody.
use Rattle.std.specs.Prelude.{ℕ, ◌≡◌, ◌≤◌, true, Option, Some, None, List, slice_get}
use Rattle.dc_node.specs.{Block.entries_in, declared.entry.Entry.Entry}
use Rattle.list_words.specs.Counts.{Among}
use Rattle.tree_shape.specs.{Shape.{Table, TreeCells, Shape}, Steps.IsIdle, Trees.IsTree}

-- no row of the tree is carried at a lower level
abbrev pub IsDeepest : Shape → ℕ → Type 0
IsDeepest g r = (q : ℕ) → g.placed q ≡ true → g.carried q ≡ true → g.level (g.at r) ≤ g.level (g.at q)

-- of each actor the row that it carries, and the block that its step wants besides the one at which it carries it
pub record Carriers : Type 0 where
  pub row : ℕ → Option ℕ
  pub wants : ℕ → Option ℕ

-- a carrier wants no other block, or the child to which an entry of its block leads
abbrev pub WantsChild : TreeCells → Shape → ℕ → Option ℕ → Type 0
WantsChild cells g r None = Unit {0}
WantsChild cells g r (Some c) =
    (place : ℕ) × (e : Entry) × (slice_get (entries_in (cells.block (g.at r)).body) place ≡ Some e) × (c ≡ e.child)

-- each carried row has its carrier among the actors, and a carrier has a carried row
pub record AreCarriers (cells : TreeCells) (g : Shape) (all : Carriers) (actors : List ℕ) : Type 0 where
  pub some : (r : ℕ) → g.placed r ≡ true → g.carried r ≡ true → (i : ℕ) × Among i actors × (all.row i ≡ Some r)
  pub carried : (i r : ℕ) → all.row i ≡ Some r → (g.placed r ≡ true) × (g.carried r ≡ true)
  pub child : (i r : ℕ) → all.row i ≡ Some r → WantsChild cells g r (all.wants i)

-- nobody carries a row at the block that is wanted, if one is
abbrev pub IsIdleIf : Shape → Option ℕ → Type 0
IsIdleIf g None = Unit {0}
IsIdleIf g (Some c) = IsIdle g c

-- The carrier of the deepest row finds its child idle.
abbrev pub DeepestLaw : Type 0
DeepestLaw = (table : Table) (cells : TreeCells) (g : Shape) (all : Carriers) (actors : List ℕ) (i r : ℕ) → IsTree table cells g
    → AreCarriers cells g all actors → all.row i ≡ Some r → IsDeepest g r → IsIdleIf g (all.wants i)

-- Of some actors, among whom is each carrier, one finds what it wants idle.
abbrev pub SomeLaw : Type 0
SomeLaw = (table : Table) (cells : TreeCells) (g : Shape) (all : Carriers) (actors : List ℕ) (one : ℕ) → IsTree table cells g
    → AreCarriers cells g all actors → Among one actors → (i : ℕ) × Among i actors × IsIdleIf g (all.wants i)
