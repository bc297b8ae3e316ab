-- Which cell is whose, told from its number, from its tag and from what is in it.
use Rattle.std.proofs.Common.{◌≡◌, ℕ, ◌<◌, ◌≤◌, refl, sym, ap, ◌∙◌, arith}
use Rattle.std.specs.FinMap as map
use Rattle.std.specs.Ordering.{nat_cmp}
use Rattle.cell_stock.specs.Stock.{StockValue}
use Rattle.mapping_table.specs.declared.place.Where.{Where}
use Rattle.query_router.specs.Desk.{DeskValue}
use Rattle.row_ledger.specs.LedgerValue.{LedgerValue}
use Rattle.server_image.specs.{Image.ImageValue, Registry.RegistryValue}
use Rattle.volap_cell.specs.{Cells.{CellValue, LedgerCell, StockCell, RegistryCell, ImageCell, DeskCell, MapCell, OfStock, TheLedger, TheStock, TheRegistry, ImageOf, DeskOf, MapOf, tag_of}, Numbering.tag_at, Setting.{Setting, ledger_cell, stock_cell, registry_cell, image_cell, desk_cell, map_cell, first_stock_cell}}

-- From the number to the tag.

pub tag-stock : (s : Setting) → tag_at s stock_cell ≡ TheStock
tag-stock s = refl

pub tag-image : (s : Setting) (server : ℕ) → server < s.servers → tag_at s (image_cell server) ≡ ImageOf server
tag-image s server lt = grind arith

pub tag-desk : (s : Setting) (server : ℕ) → server < s.servers → tag_at s (desk_cell s server) ≡ DeskOf server
tag-desk s server lt = grind arith

pub tag-map : (s : Setting) (worker : ℕ) → worker < s.workers → tag_at s (map_cell s worker) ≡ MapOf worker
tag-map s worker lt = grind arith

pub tag-rest : (s : Setting) (y : ℕ) → first_stock_cell s ≤ y → tag_at s y ≡ OfStock
tag-rest s y le = grind arith

-- From the tag to the number.

pub is-ledger : (s : Setting) (y : ℕ) → tag_at s y ≡ TheLedger → y ≡ ledger_cell
is-ledger s y e = grind arith

pub is-stock : (s : Setting) (y : ℕ) → tag_at s y ≡ TheStock → y ≡ stock_cell
is-stock s y e = grind arith

pub is-registry : (s : Setting) (y : ℕ) → tag_at s y ≡ TheRegistry → y ≡ registry_cell
is-registry s y e = grind arith

pub is-image : (s : Setting) (y server : ℕ) → tag_at s y ≡ ImageOf server → (y ≡ image_cell server) × (server < s.servers)
is-image s y server e = grind arith

pub is-desk : (s : Setting) (y server : ℕ) → tag_at s y ≡ DeskOf server → (y ≡ desk_cell s server) × (server < s.servers)
is-desk s y server e = grind arith

pub is-map : (s : Setting) (y worker : ℕ) → tag_at s y ≡ MapOf worker → (y ≡ map_cell s worker) × (worker < s.workers)
is-map s y worker e = grind arith

-- Cells of a state in which each cell holds what is its place's.

-- the tag of the place where a cell stands that is as this one
pub tag-here : (s : Setting) (cells : ℕ → CellValue) → ((y : ℕ) → tag_of (cells y) ≡ tag_at s y) → (y : ℕ) (c : CellValue) → cells y ≡ c → tag_at s y ≡ tag_of c
tag-here s cells tag y c is = sym (tag y) ∙ ap tag_of is

pub at-ledger : (s : Setting) (cells : ℕ → CellValue) → ((y : ℕ) → tag_of (cells y) ≡ tag_at s y) → (y : ℕ) (ledger : LedgerValue) → cells y ≡ LedgerCell ledger → y ≡ ledger_cell
at-ledger s cells tag y ledger is = is-ledger s y (tag-here s cells tag y (LedgerCell ledger) is)

pub at-stock : (s : Setting) (cells : ℕ → CellValue) → ((y : ℕ) → tag_of (cells y) ≡ tag_at s y) → (y : ℕ) (stock : StockValue) → cells y ≡ StockCell stock → y ≡ stock_cell
at-stock s cells tag y stock is = is-stock s y (tag-here s cells tag y (StockCell stock) is)

pub at-registry : (s : Setting) (cells : ℕ → CellValue) → ((y : ℕ) → tag_of (cells y) ≡ tag_at s y) → (y : ℕ) (registry : RegistryValue) → cells y ≡ RegistryCell registry → y ≡ registry_cell
at-registry s cells tag y registry is = is-registry s y (tag-here s cells tag y (RegistryCell registry) is)

pub at-image : (s : Setting) (cells : ℕ → CellValue) → ((y : ℕ) → tag_of (cells y) ≡ tag_at s y) → (y server : ℕ) (image : ImageValue) → cells y ≡ ImageCell server image → (y ≡ image_cell server) × (server < s.servers)
at-image s cells tag y server image is = is-image s y server (tag-here s cells tag y (ImageCell server image) is)

pub at-desk : (s : Setting) (cells : ℕ → CellValue) → ((y : ℕ) → tag_of (cells y) ≡ tag_at s y) → (y server : ℕ) (desk : DeskValue) → cells y ≡ DeskCell server desk → (y ≡ desk_cell s server) × (server < s.servers)
at-desk s cells tag y server desk is = is-desk s y server (tag-here s cells tag y (DeskCell server desk) is)

pub at-map : (s : Setting) (cells : ℕ → CellValue) → ((y : ℕ) → tag_of (cells y) ≡ tag_at s y) → (y worker : ℕ) (table : map.FinMap nat_cmp Where) → cells y ≡ MapCell worker table → (y ≡ map_cell s worker) × (worker < s.workers)
at-map s cells tag y worker table is = is-map s y worker (tag-here s cells tag y (MapCell worker table) is)
