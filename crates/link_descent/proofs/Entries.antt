-- The items of a body of a hierarchy, one by one.
use Rattle.std.proofs.{Common.List, lemmas.List.Elements.All-nil}
use Rattle.std.specs.Prelude.{All}
use Rattle.dim_hierarchy.specs.{Dimension.Dimension, Rows.IsRowOf}
use Rattle.describing_set.specs.Sets.{IsDescSetOf}
use Rattle.dc_node.specs.{Block.{rows_in, entries_in, IsBodyOf}, declared.block.Body.Body, declared.block.Body.TheVariants.{Rows, Entries}, declared.entry.Entry.Entry}

abbrev pub HasSet : List Dimension → Entry → Type 0
HasSet h e = IsDescSetOf h e.set

pub All-entries : (h : List Dimension) (b : Body) → IsBodyOf h b → All (HasSet h) (entries_in b)
All-entries h (Rows rows) all = All-nil (HasSet h)
All-entries h (Entries entries) all = all

pub All-rows : (h : List Dimension) (b : Body) → IsBodyOf h b → All (IsRowOf h) (rows_in b)
All-rows h (Rows rows) all = all
All-rows h (Entries entries) all = All-nil (IsRowOf h)
