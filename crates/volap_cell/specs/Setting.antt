-- What a core is about, and which of its cells holds what.
use Rattle.std.specs.Prelude.{ℕ, ◌+◌, List, length}
use Rattle.dim_hierarchy.specs.Dimension.{Dimension}
use Rattle.row_ledger.specs.Site.{Site}
use Rattle.volap_cell.specs.declared.role.Role.{Role}

-- the hierarchy, how many servers, workers and stock cells there are, and what each actor is there for
pub record Setting : Type 0 where
  pub hierarchy : List Dimension
  pub servers : ℕ
  pub workers : ℕ
  pub stock_cells : ℕ
  pub roles : List Role

-- what its history is about
abbrev pub site_in : Setting → Site
site_in s = record { hierarchy = s.hierarchy; servers = s.servers; workers = s.workers }

abbrev pub actor_count : Setting → ℕ
actor_count s = length s.roles

-- The cells. The ledger, the stock and the registry stand first, then a server's image, a server's desk, and a worker's map
-- each; all others are the stock's.

abbrev pub ledger_cell : ℕ
ledger_cell = 0

abbrev pub stock_cell : ℕ
stock_cell = 1

abbrev pub registry_cell : ℕ
registry_cell = 2

abbrev pub image_cell : ℕ → ℕ
image_cell server = 3 + server

abbrev pub desk_cell : Setting → ℕ → ℕ
desk_cell s server = 3 + s.servers + server

abbrev pub map_cell : Setting → ℕ → ℕ
map_cell s worker = 3 + s.servers + s.servers + worker

abbrev pub first_stock_cell : Setting → ℕ
first_stock_cell s = 3 + s.servers + s.servers + s.workers

abbrev pub cell_count : Setting → ℕ
cell_count s = first_stock_cell s + s.stock_cells
