-- The laws: each step keeps the tree, the places of its rows, and every unfinished query.
use Rattle.std.specs.Prelude.{ℕ, ◌≡◌, ◌≢◌, Bool, true, cond, IsSome, Some, slice_get, List, [], ◌∷◌, ◌++◌, map}
use Rattle.dim_hierarchy.specs.{Dimension.IsHierarchy, declared.filter.Pick.Pick}
use Rattle.measure_agg.specs.Aggregate.{agg}
use Rattle.describing_set.specs.{DescSet.IsSetOf, declared.set.DescSet.DescSet}
use Rattle.dc_node.specs.{Block.entries_in, Summary.{IsSummaryOf, coords}, declared.block.Block.Block, declared.entry.Entry.Entry, declared.todo.Item.Item}
use Rattle.list_words.specs.Counts.{times}
use Rattle.cell_stock.specs.Stock.{PurseValue}
use Rattle.link_descent.specs.shard_store.specs.Gate.{root_entry}
use Rattle.link_descent.specs.declared.entered.Entered.{Entered}
use Rattle.tree_shape.specs.{Collecting.{IsCollecting, IsReadable, Reads, AfterRead, AfterCollecting, root_item}, Queries.{IsUnfinished, fits}, Shape.{Table, Node, TreeCells, nodes, Shape}, Steps.{OpensOver, AfterOpening, LeavesTree, AfterOther, GoesDown, GoesIn, AfterStep, IsPut, AfterPut, Visits, AfterVisit, BeginsQuery, AfterBegin, CountsElsewhere, AfterAll}, Tables.{AreAlike, IsThere, IsThereOrCounted, AfterTable}, Trees.{IsTree, BlockFits, IsBelow, HasBehind, BehindFits}}

-- a leaf block is the root of a new tree
abbrev pub OpeningLaw : Block → Type 0
OpeningLaw leaf = (table : Table) (cells : TreeCells) → OpensOver table cells leaf → AfterOpening table cells

-- what isn't of a tree doesn't touch it
abbrev pub OtherLaw : Type 0
OtherLaw = (table : Table) (g : Shape) (before now : TreeCells) → IsTree table before g → LeavesTree g before now → AfterOther table g before now

-- aggregates and sets go by which rows there are and how often each is
abbrev pub OrderLaw : Type 0
OrderLaw = (table : Table) (ns ms : List ℕ) (set : DescSet) → ((r : ℕ) → times r ns ≡ times r ms)
    → (agg (map table.row ns) ≡ agg (map table.row ms)) × (IsSetOf table.hierarchy (coords (map table.row ns)) set → IsSetOf table.hierarchy (coords (map table.row ms)) set)

-- the gate tells of the rows of its tree, each once
abbrev pub GateLaw : Type 0
GateLaw = (table : Table) (cells : TreeCells) (g : Shape) → IsTree table cells g → (ns : List ℕ) → ((r : ℕ) → times r ns ≡ cond (g.placed r) 1 0)
    → IsSummaryOf table.hierarchy (map table.row ns) cells.gate.agg cells.gate.set

-- a block of the tree is such as the calls ask for, and its group goes on where a walk does
abbrev pub BlockLaw : Type 0
BlockLaw = (table : Table) (cells : TreeCells) (g : Shape) (b : ℕ) → IsTree table cells g → IsHierarchy table.hierarchy → g.inside b ≡ true → b ≢ cells.gate_cell → BlockFits table cells b

-- an entry leads to a block one level below its directory, and the gate to one below itself
abbrev pub ChildLaw : Type 0
ChildLaw = (table : Table) (cells : TreeCells) (g : Shape) (b place : ℕ) (e : Entry) → IsTree table cells g → g.inside b ≡ true → b ≢ cells.gate_cell
    → slice_get (entries_in (cells.block b).body) place ≡ Some e → IsBelow cells g e.child (g.level b)

abbrev pub RootLaw : Type 0
RootLaw = (table : Table) (cells : TreeCells) (g : Shape) → IsTree table cells g → IsBelow cells g cells.gate.root cells.gate.height

-- the blocks behind the head that an entry or the gate leads to are found along right links

abbrev pub BehindLaw : Type 0
BehindLaw = (table : Table) (cells : TreeCells) (g : Shape) (b place n : ℕ) (e : Entry) → IsTree table cells g → g.inside b ≡ true → b ≢ cells.gate_cell
    → slice_get (entries_in (cells.block b).body) place ≡ Some e → HasBehind cells g e n

abbrev pub RootBehindLaw : Type 0
RootBehindLaw = (table : Table) (cells : TreeCells) (g : Shape) (n : ℕ) → IsTree table cells g → HasBehind cells g (root_entry cells.gate) n

-- and are such as the calls ask for

abbrev pub BehindFitsLaw : Type 0
BehindFitsLaw = (table : Table) (cells : TreeCells) (g : Shape) (b place n : ℕ) (e : Entry) → IsTree table cells g → IsHierarchy table.hierarchy → g.inside b ≡ true → b ≢ cells.gate_cell
    → slice_get (entries_in (cells.block b).body) place ≡ Some e → BehindFits table cells e n

abbrev pub RootBehindFitsLaw : Type 0
RootBehindFitsLaw = (table : Table) (cells : TreeCells) (g : Shape) (n : ℕ) → IsTree table cells g → IsHierarchy table.hierarchy → BehindFits table cells (root_entry cells.gate) n

abbrev pub LinkLaw : Type 0
LinkLaw = (cells : TreeCells) (g : Shape) (must fits : ℕ → Bool) (items : List Item) (item : Item) (counted : List ℕ) → item.cell ≢ cells.gate_cell
    → IsUnfinished g (nodes cells) must fits (items ++ item ∷ []) counted
    → (g.inside item.cell ≡ true) × ((cells.block item.cell).stamp ≢ item.stamp → IsSome (cells.block item.cell).right)

-- a row comes in at the gate, with or without a division of the root's head, or under a new root
abbrev pub InLaw : Type 0
InLaw = (table : Table) (g : Shape) (r : ℕ) (before now : TreeCells) (purse purse_now : PurseValue) (entered : Entered) → IsTree table before g
    → GoesIn table g r before now purse purse_now entered → AfterStep table g r entered.at now.gate.height before now purse.spares purse_now.spares

-- a row goes down by an entry, with or without a division of the head that the entry leads to
abbrev pub DownLaw : Type 0
DownLaw = (table : Table) (g : Shape) (r : ℕ) (before now : TreeCells) (purse purse_now : PurseValue) (entered : Entered) → IsTree table before g
    → GoesDown table g r before now purse purse_now entered → AfterStep table g r entered.at (g.level (g.at r)) before now purse.spares purse_now.spares

-- a row is put in its leaf
abbrev pub PutLaw : Type 0
PutLaw = (table : Table) (g : Shape) (r : ℕ) (before now : TreeCells) → IsTree table before g → IsPut table g r before now → AfterPut table g r before now

-- a query begins at the gate, visits a block, counts at other gates, and ends

abbrev pub BeginLaw : Type 0
BeginLaw = (table : Table) (cells : TreeCells) (g : Shape) (must : ℕ → Bool) (f : List Pick) (counted : List ℕ) → IsTree table cells g → BeginsQuery table cells g f counted → AfterBegin table cells g must f counted

abbrev pub VisitLaw : Type 0
VisitLaw = (table : Table) (cells : TreeCells) (g : Shape) (must : ℕ → Bool) (f : List Pick) (items : List Item) (item : Item) (counted : List ℕ) → IsTree table cells g
    → (v : Visits table cells g must f items item counted) → AfterVisit table cells g must f items item counted v.unfinished.noted

abbrev pub ElsewhereLaw : Type 0
ElsewhereLaw = (g : Shape) (look : ℕ → Node) (must fits : ℕ → Bool) (items : List Item) (counted now : List ℕ)
    → CountsElsewhere g fits counted now → IsUnfinished g look must fits items counted → IsUnfinished g look must fits items now

abbrev pub EndLaw : Type 0
EndLaw = (g : Shape) (look : ℕ → Node) (must fits : ℕ → Bool) (counted : List ℕ) → IsUnfinished g look must fits [] counted → AfterAll g must fits counted

-- another table with the same rows in the tree, and for a query those that it has counted too

abbrev pub TreeTableLaw : Type 0
TreeTableLaw = (table other : Table) (cells : TreeCells) (g : Shape) → AreAlike (IsThere g) table other → IsTree table cells g → IsTree other cells g

abbrev pub QueryTableLaw : Type 0
QueryTableLaw = (table other : Table) (g : Shape) (look : ℕ → Node) (must : ℕ → Bool) (f : List Pick) (items : List Item) (counted : List ℕ)
    → AreAlike (IsThereOrCounted g counted) table other → IsUnfinished g look must (fits table f) items counted → AfterTable table other g look must f items counted

-- an administrator begins at the root, finds blocks of the tree alone, reads one, and ends; steps elsewhere leave it as it is

abbrev pub CollectBeginLaw : Type 0
CollectBeginLaw = (table : Table) (cells : TreeCells) (g : Shape) → IsTree table cells g → IsCollecting cells g (root_item cells.gate ∷ []) [] []

abbrev pub ReadableLaw : Type 0
ReadableLaw = (table : Table) (cells : TreeCells) (g : Shape) (items : List Item) (item : Item) (read collected : List ℕ) → IsTree table cells g
    → IsCollecting cells g (items ++ item ∷ []) read collected → IsReadable cells g item

abbrev pub ReadLaw : Type 0
ReadLaw = (table : Table) (cells : TreeCells) (g : Shape) (items : List Item) (item : Item) (read collected : List ℕ) → IsTree table cells g
    → (d : Reads cells g items item read collected) → AfterRead cells g items item read collected d.collecting.noted

abbrev pub CollectOtherLaw : Type 0
CollectOtherLaw = (table : Table) (g : Shape) (before now : TreeCells) (items : List Item) (read collected : List ℕ) → IsTree table before g
    → LeavesTree g before now → IsCollecting before g items read collected → IsCollecting now g items read collected

abbrev pub CollectEndLaw : Type 0
CollectEndLaw = (table : Table) (cells : TreeCells) (g : Shape) (read collected : List ℕ) → IsTree table cells g
    → IsCollecting cells g [] read collected → AfterCollecting table cells g read collected
