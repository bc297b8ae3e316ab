-- Who is who, and which cell is whose: what never changes.
use Rattle.std.specs.Prelude.{ℕ, ◌≡◌, ◌≢◌, ◌==◌, ◌+◌, ◌-◌, ◌^◌, ◌<◌, ◌≤◌, ⊤, Bool, false, nat_lt, List, [], Option, Some, None, All, slice_get, if◌then◌else◌}
use Rattle.dim_hierarchy.specs.Dimension.{IsHierarchy}
use Rattle.cell_stock.specs.declared.purse.Spare.{Spare}
use Rattle.volap_cell.specs.{Cells.{Tag, OfStock, TheLedger, TheStock, TheRegistry, ImageOf, DeskOf, MapOf}, Errands.Taken, Setting.{Setting, actor_count, cell_count, first_stock_cell, ledger_cell, stock_cell, registry_cell}, Values.JobValue, declared.command.Command.Command, declared.role.Role.Role, declared.role.Role.TheVariants.{Session, Hand, Puller, Admin}}

-- a role's server or worker is there
abbrev pub IsRoleOf : Setting → Role → Type 0
IsRoleOf s (Session server) = server < s.servers
IsRoleOf s (Hand worker) = worker < s.workers
IsRoleOf s Puller = ⊤
IsRoleOf s Admin = ⊤

-- There is a server and a worker, the stock has the cells of the first shards, and there is one administrator at most.
pub record IsSetting (s : Setting) : Type 0 where
  pub hierarchy : IsHierarchy s.hierarchy
  pub servers : 0 < s.servers
  pub workers : 0 < s.workers
  pub enough : s.workers + s.workers ≤ s.stock_cells
  pub few : cell_count s < 2 ^ 32
  pub roles : All (IsRoleOf s) s.roles
  pub admin : (a b : ℕ) → slice_get s.roles a ≡ Some Admin → slice_get s.roles b ≡ Some Admin → a ≡ b

-- whose a cell is
abbrev pub tag_at : Setting → ℕ → Tag
tag_at s y =
    if y == ledger_cell then TheLedger
    else if y == stock_cell then TheStock
    else if y == registry_cell then TheRegistry
    else if nat_lt y (3 + s.servers) then ImageOf (y - 3)
    else if nat_lt y (3 + s.servers + s.servers) then DeskOf (y - (3 + s.servers))
    else if nat_lt y (first_stock_cell s) then MapOf (y - (3 + s.servers + s.servers)) else OfStock

-- Each cell holds what is its place's, each actor knows its number, its role and what it is about, and past the last one there
-- is nobody, which is seen of the role too: it is that of a worker that isn't there. The administrator alone has jobs, and is at no
-- part; without a job it has an empty purse.
pub record Numbering (s : Setting) (tags : ℕ → Tag) (numbers : ℕ → ℕ) (roles : ℕ → Role) (settings : ℕ → Setting) (counted_in : ℕ → Bool) (purses : ℕ → List Spare) (commands : ℕ → Option Command) (taken : ℕ → Option Taken) (jobs : ℕ → Option JobValue) : Type 0 where
  pub setting : IsSetting s
  pub tag : (y : ℕ) → tags y ≡ tag_at s y
  pub number : (a : ℕ) → numbers a ≡ a
  pub role : (a : ℕ) → a < actor_count s → slice_get s.roles a ≡ Some (roles a)
  pub about : (a : ℕ) → settings a ≡ s
  pub nobody : (a : ℕ) → actor_count s ≤ a → (counted_in a ≡ false) × (purses a ≡ []) × (commands a ≡ None) × (taken a ≡ None) × (jobs a ≡ None)
  pub beyond : (a : ℕ) → actor_count s ≤ a → roles a ≡ Hand s.workers
  pub working : (a : ℕ) (j : JobValue) → jobs a ≡ Some j → roles a ≡ Admin
  pub parts : (a : ℕ) (t : Taken) → taken a ≡ Some t → roles a ≢ Admin
  pub idle : (a : ℕ) → roles a ≡ Admin → jobs a ≡ None → purses a ≡ []
