-- What a page of groups tells of a state that is looked at one cell at a time.
use Rattle.std.specs.Prelude.{ℕ, ◌≡◌, slice_get, Some}
use Rattle.describing_set.specs.declared.listing.Spot.{Spot}
use Rattle.row_ledger.specs.Past.{acked_rows}
use Rattle.core_pages.specs.{Looks.{IsSeenOf, StateValue, cells_in}, Shards.{frontier_in, gate_of}}
use Rattle.core_pages.specs.volap_cell.specs.{Setting.{Setting, cell_count}, Sights.{HasGroups, IsIdle}, Steps.Inv, View.view, World.World}
use Rattle.group_answer.specs.{Groups.{IsGroupPage, Question}, Telling.{IsNarrow, IsOfAll}}
use Rattle.row_ledger.specs.declared.page.GroupPage.{GroupPage}

-- of whatever state is seen, if it meets the invariant over the question's dimensions, the page is what it has
abbrev pub AreGroupsIn : Question → StateValue → GroupPage → Type 0
AreGroupsIn q state page = (s : Setting) (w : World) → s.hierarchy ≡ q.hierarchy → IsSeenOf state w → Inv s w → HasGroups q s (view s w) page

-- and where nobody has anything to do, it is the page of the acknowledged rows
abbrev pub AreAckedIn : Question → StateValue → GroupPage → Type 0
AreAckedIn q state page = (s : Setting) (w : World) → s.hierarchy ≡ q.hierarchy → IsSeenOf state w → Inv s w → ((a : ℕ) → IsIdle (w.actors a)) → IsGroupPage q (acked_rows (view s w).history) page

-- each such state has so many cells
abbrev pub HasCountIn : (many : ℕ) → StateValue → Type 0
HasCountIn many state = (s : Setting) (w : World) → IsSeenOf state w → Inv s w → cell_count s ≡ many

-- the filter picks all, and of each shard that stands the set of the tree's rows and that of the queue's rows are narrow
pub record TellsAll (q : Question) (servers : ℕ) (state : StateValue) : Type 0 where
  pub filter : IsOfAll q
  pub tree : (place : ℕ) (spot : Spot) → slice_get (frontier_in (cells_in state)) place ≡ Some spot → IsNarrow q (gate_of servers (cells_in state) spot).set
  pub queue : (place : ℕ) (spot : Spot) → slice_get (frontier_in (cells_in state)) place ≡ Some spot → IsNarrow q (gate_of servers (cells_in state) spot).queue.set
