-- The aggregate and the describing set of the rows of several items.
use Rattle.std.specs.{List.{AllZip, flat_map}, Prelude.{ℕ, ◌≡◌, List, [], ◌∷◌, map, All}}
use Rattle.dim_hierarchy.specs.{Dimension.Dimension, Row.IsCoordOf, Rows.IsRowOf, declared.row.Coord.Coord, declared.row.Row.Row}
use Rattle.measure_agg.specs.{Aggregate.{Aggregate, agg}, Joining.join}
use Rattle.describing_set.specs.{DescSet.IsSetOf, declared.set.DescSet.DescSet}
use Rattle.dc_node.specs.{declared.block.Body.Body, declared.block.Body.TheVariants.{Rows, Entries}, declared.entry.Entry.Entry}

-- the coordinates of rows
abbrev pub coords : List Row → List Coord
coords rows = map (λ r. r.at) rows

-- an aggregate and a set are those of these rows
pub record IsSummaryOf (h : List Dimension) (rows : List Row) (total : Aggregate) (set : DescSet) : Type 0 where
  pub valid : All (IsRowOf h) rows
  pub agg : total ≡ agg rows
  pub set_of : IsSetOf h (coords rows) set

-- several aggregates together
abbrev pub joined : List Aggregate → Aggregate
joined [] = agg []
joined (a ∷ more) = join a (joined more)

abbrev pub aggs : List Entry → List Aggregate
aggs entries = map (λ e. e.agg) entries

-- the set is that of the coordinates of several sets together
pub record IsUnionOf (h : List Dimension) (sets : List DescSet) (set : DescSet) : Type 0 where
  pub union : (lists : List (List Coord)) → AllZip (λ rows s. All (IsCoordOf h) rows × IsSetOf h rows s) lists sets → IsSetOf h (flat_map (λ rows. rows) lists) set

-- the aggregate and the set of all items of a block
abbrev pub IsSummary : List Dimension → Body → Aggregate → DescSet → Type 0
IsSummary h (Rows rows) total set = (total ≡ agg rows.items) × IsSetOf h (coords rows.items) set
IsSummary h (Entries entries) total set = (total ≡ joined (aggs entries.items)) × IsUnionOf h (map (λ e. e.set) entries.items) set

-- how many rows are beneath the items
abbrev pub row_count : Body → ℕ
row_count (Rows rows) = (agg rows.items).count
row_count (Entries entries) = (joined (aggs entries.items)).count
