-- A worker's table that leads somewhere.
use Rattle.std.proofs.Common.{◌≡◌, ℕ, Option, Some, None, ap}
use Rattle.std.specs.Ordering.{nat_cmp}
use Rattle.std.specs.FinMap as map
use Rattle.mapping_table.specs.declared.place.Where.{Where}
use Rattle.core_steps.specs.volap_cell.specs.Cells.{BlockCell, CellValue, DeskCell, FreeCell, GateCell, ImageCell, LedgerCell, MapCell, MapOf, RegistryCell, StockCell, tag_of, where_in}

-- a table that leads somewhere
pub record IsTable (c : CellValue) (worker shard : ℕ) (to : Where) : Type 0 where
  pub places : map.FinMap nat_cmp Where
  pub is : c ≡ MapCell worker places
  pub leads : map.get places shard ≡ Some to

-- one that leads nowhere leads to nothing
pub no-place : {X : Type 0} (to : Where) → ◌≡◌ {A = Option Where} None (Some to) → X
no-place to e = (let never : ◌≡◌ {A = Option Where} None (Some to) = e in absurd (cc))

pub table-of : (c : CellValue) (worker shard : ℕ) (to : Where) → tag_of c ≡ MapOf worker → where_in c shard ≡ Some to → IsTable c worker shard to
table-of (MapCell own places) worker shard to tag leads = record { places = places; is = (let same : own ≡ worker = cc in ap (λ (k : ℕ). MapCell k places) same); leads = leads }
table-of FreeCell worker shard to tag leads = no-place to leads
table-of (LedgerCell l) worker shard to tag leads = no-place to leads
table-of (StockCell k) worker shard to tag leads = no-place to leads
table-of (RegistryCell r) worker shard to tag leads = no-place to leads
table-of (ImageCell t i) worker shard to tag leads = no-place to leads
table-of (DeskCell t d) worker shard to tag leads = no-place to leads
table-of (GateCell g) worker shard to tag leads = no-place to leads
table-of (BlockCell b) worker shard to tag leads = no-place to leads
