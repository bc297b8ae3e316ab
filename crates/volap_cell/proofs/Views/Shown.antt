-- What the view has of the cells that a step holds.
use Rattle.std.proofs.Common.{◌≡◌, ℕ, ◌<◌, Option, Some, sym, ap, ◌∙◌}
use Rattle.std.specs.FinMap as map
use Rattle.std.specs.Ordering.{nat_cmp}
use Rattle.cell_stock.specs.Stock.{StockValue}
use Rattle.mapping_table.specs.declared.place.Where.{Where}
use Rattle.query_router.specs.Desk.{DeskValue}
use Rattle.row_ledger.specs.LedgerValue.{LedgerValue}
use Rattle.server_image.specs.{Image.ImageValue, Registry.RegistryValue}
use Rattle.volap_cell.specs.{Cells.{CellValue, LedgerCell, StockCell, RegistryCell, ImageCell, DeskCell, MapCell, tag_of, ledger_in, stock_in, registry_in, image_in, desk_in, where_in}, Numbering.tag_at, Setting.Setting, TreeKinds.Leads, View.view, World.{World, Change}}
use Rattle.volap_cell.proofs.Cells.Numbers.{at-ledger, at-stock, at-registry, at-image, at-desk, at-map}

-- each cell holds what is its place's
abbrev pub AreTagged : Setting → (ℕ → CellValue) → Type 0
AreTagged s cells = (y : ℕ) → tag_of (cells y) ≡ tag_at s y

pub held-ledger : (s : Setting) (w : World) → AreTagged s w.cells → (y : ℕ) (ledger : LedgerValue) → w.cells y ≡ LedgerCell ledger → ((view s w).history ≡ ledger.history) × ((view s w).promised ≡ ledger.promised)
held-ledger s w tagged y ledger is =
    let number = at-ledger s w.cells tagged y ledger is in
    let here = ap (λ (x : ℕ). ledger_in (w.cells x)) (sym number) ∙ ap ledger_in is in
    (ap (λ (l : LedgerValue). l.history) here, ap (λ (l : LedgerValue). l.promised) here)

pub held-stock : (s : Setting) (w : World) → AreTagged s w.cells → (y : ℕ) (stock : StockValue) → w.cells y ≡ StockCell stock → (view s w).stock ≡ stock
held-stock s w tagged y stock is = ap (λ (x : ℕ). stock_in (w.cells x)) (sym (at-stock s w.cells tagged y stock is)) ∙ ap stock_in is

pub held-registry : (s : Setting) (w : World) → AreTagged s w.cells → (y : ℕ) (registry : RegistryValue) → w.cells y ≡ RegistryCell registry → (view s w).registry ≡ registry
held-registry s w tagged y registry is = ap (λ (x : ℕ). registry_in (w.cells x)) (sym (at-registry s w.cells tagged y registry is)) ∙ ap registry_in is

pub held-image : (s : Setting) (w : World) → AreTagged s w.cells → (y server : ℕ) (image : ImageValue) → w.cells y ≡ ImageCell server image → (server < s.servers) × ((view s w).images server ≡ image)
held-image s w tagged y server image is =
    let (number, lt) = at-image s w.cells tagged y server image is in
    (lt, ap (λ (x : ℕ). image_in (w.cells x)) (sym number) ∙ ap image_in is)

pub held-desk : (s : Setting) (w : World) → AreTagged s w.cells → (y server : ℕ) (desk : DeskValue) → w.cells y ≡ DeskCell server desk → (server < s.servers) × ((view s w).desks server ≡ desk)
held-desk s w tagged y server desk is =
    let (number, lt) = at-desk s w.cells tagged y server desk is in
    (lt, ap (λ (x : ℕ). desk_in (w.cells x)) (sym number) ∙ ap desk_in is)

pub held-map : (s : Setting) (w : World) → AreTagged s w.cells → (y worker : ℕ) (table : map.FinMap nat_cmp Where) → w.cells y ≡ MapCell worker table → (worker < s.workers) × ((view s w).maps worker ≡ map.get table)
held-map s w tagged y worker table is =
    let (number, lt) = at-map s w.cells tagged y worker table is in
    (lt, ap (λ (x : ℕ). where_in (w.cells x)) (sym number) ∙ ap where_in is)

-- where a held table leads
pub held-leads : (s : Setting) (w : World) → AreTagged s w.cells → (m : Change) → w.cells m.number ≡ m.before → (worker shard : ℕ) (to : Where) → Leads m worker shard to → (worker < s.workers) × ((view s w).maps worker shard ≡ Some to)
held-leads s w tagged m at worker shard to leads =
    let (lt, table) = held-map s w tagged m.number worker leads.table (at ∙ leads.was) in
    (lt, ap (λ (f : ℕ → Option Where). f shard) table ∙ leads.leads)
