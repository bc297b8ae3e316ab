-- When a page can be read off a state that is looked at one cell at a time, and that it is what the state has.
use Rattle.std.specs.Prelude.{ℕ, ◌≡◌, ◌≢◌, List, Some, None, IsSome}
use Rattle.dim_hierarchy.specs.Dimension.{Dimension}
use Rattle.row_ledger.specs.{declared.page.AuditLine.AuditLine, declared.page.ShardLine.ShardLine, declared.page.TreePage.TreePage}
use Rattle.row_ledger.specs.declared.page.Page.TheVariants as page
use Rattle.core_image.specs.shard_store.specs.declared.gate.Phase.TheVariants.{Gone}
use Rattle.core_image.specs.volap_cell.specs.{Cells.{gate_shard, phase_of}, Setting.{Setting, cell_count}, Sights.{SeesPage, SeesTree}, Steps.Inv, View.view, World.World}
use Rattle.core_pages.specs.Looks.{IsSeenOf, StateValue, cells_in}

-- the cell has the gate of a shard that stands, and nobody is at a part
pub record CanSee (w : World) (gate_at : ℕ) : Type 0 where
  pub gate : IsSome (gate_shard (w.cells gate_at))
  pub stands : phase_of (w.cells gate_at) ≢ Some Gone
  pub quiet : (a : ℕ) → (w.actors a).errand ≡ None

-- it is so of whatever state is seen, if it meets the invariant and has so many cells
abbrev pub CanSeeIn : StateValue → (many gate_at : ℕ) → Type 0
CanSeeIn state many gate_at = (s : Setting) (w : World) → IsSeenOf state w → Inv s w → (cell_count s ≡ many) × CanSee w gate_at

-- and of each such state the page is what it has of its shard
abbrev pub IsSeenIn : StateValue → TreePage → Type 0
IsSeenIn state shown = (s : Setting) (w : World) → IsSeenOf state w → Inv s w → SeesTree s (view s w) shown

-- the page is of the shard whose gate is in the cell
abbrev pub IsOfGate : StateValue → (gate_at : ℕ) → TreePage → Type 0
IsOfGate state gate_at shown = gate_shard (cells_in state gate_at) ≡ Some shown.shard

-- there are so many servers, and nobody is at a part
pub record IsQuiet (servers : ℕ) (s : Setting) (w : World) : Type 0 where
  pub servers_are : s.servers ≡ servers
  pub quiet : (a : ℕ) → (w.actors a).errand ≡ None

abbrev pub IsQuietIn : (servers : ℕ) → StateValue → Type 0
IsQuietIn servers state = (s : Setting) (w : World) → IsSeenOf state w → Inv s w → IsQuiet servers s w

-- of whatever state is seen, if it meets the invariant over these dimensions, these are the lines of its shards
abbrev pub AreSeenIn : List Dimension → StateValue → List ShardLine → Type 0
AreSeenIn h state lines = (s : Setting) (w : World) → s.hierarchy ≡ h → IsSeenOf state w → Inv s w → SeesPage s (view s w) (page.Shards lines)

-- of each such state the audit is what it has
abbrev pub IsAuditedIn : StateValue → AuditLine → Type 0
IsAuditedIn state audit = (s : Setting) (w : World) → IsSeenOf state w → Inv s w → SeesPage s (view s w) (page.Audit audit)
