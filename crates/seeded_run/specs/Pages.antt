-- What the page of a command asks of a state that one thread holds.
use Rattle.std.specs.Prelude.{ℕ, ◌≡◌, ◌<◌, ◌^◌, [], List, length, Option, Some, None}
use Rattle.core_due.specs.{Look.{cell_at, setting_by, world_by}, WorksReady.MayMakeNote}
use Rattle.core_pages.specs.{Looks.{HasCells, IsValid, StateValue, state_of}, Seen.{AreSeenIn, CanSeeIn, IsAuditedIn, IsOfGate, IsQuietIn, IsSeenIn}}
use Rattle.core_due.specs.core_steps.specs.declared.notes.NoteStep.TheVariants as note
use Rattle.dim_hierarchy.specs.{Dimension.Dimension, declared.filter.Pick.Pick}
use Rattle.group_answer.specs.Seen.{AreGroupsIn, HasCountIn}
use Rattle.mapping_table.specs.declared.place.Where.{Where}
use Rattle.mapping_table.specs.declared.place.Where.TheVariants as where_is
use Rattle.row_ledger.specs.{Groups.{IsQuestion, question}, Past.newest, declared.class.Subject.Subject, declared.event.Event.TheVariants.Called, declared.page.AuditLine.AuditLine, declared.page.GroupPage.GroupPage, declared.page.Page.Page, declared.page.ShardLine.ShardLine, declared.page.TreePage.TreePage, declared.settings.Call.TheVariants.Group, declared.settings.Use.Use}
use Rattle.row_ledger.specs.declared.class.Subject.TheVariants as subject
use Rattle.row_ledger.specs.declared.page.Page.TheVariants as page
use Rattle.server_image.specs.Registry.{host_of}
use Rattle.core_pages.specs.volap_cell.specs.{Cells.{ledger_in, registry_in, where_in}, Setting.{Setting, ledger_cell, map_cell, registry_cell}, World.World, declared.state.State.State}

-- Where a shard stands.

-- as the table of this worker tells
abbrev pub place_at : Setting → World → (shard : ℕ) → (worker : Option ℕ) → Option Where
place_at s w shard None = None
place_at s w shard (Some worker) = where_in (w.cells (map_cell s worker)) shard

-- whose worker the registry tells
abbrev pub place_of : Setting → World → (shard : ℕ) → Option Where
place_of s w shard = place_at s w shard (host_of shard (registry_in (w.cells registry_cell)))

-- Pages.

abbrev pub seen : State → StateValue
seen state = state_of state.cells.items state.actors.items

-- the actor may show this page
abbrev pub MayTell : List Dimension → State → ℕ → Page → Type 0
MayTell h state n shown = MayMakeNote h state n (note.Shown shown)

-- the shard stands; its tree can be read off the state, and shown
pub record ShowsTree (h : List Dimension) (with : Use) (state : State) (n shard : ℕ) : Type 0 where
  pub gate : ℕ
  pub stands : place_of (setting_by [] with) (world_by state.cells.items) shard ≡ Some (where_is.Gate gate)
  pub can_see : CanSeeIn (seen state) (length state.cells.items) gate
  pub may_tell : (shown : TreePage) → IsSeenIn (seen state) shown → IsOfGate (seen state) gate shown → MayTell h state n (page.Tree shown)

-- all shards can be read off the state, and shown
pub record ShowsShards (h : List Dimension) (with : Use) (state : State) (n : ℕ) : Type 0 where
  pub quiet : IsQuietIn with.servers (seen state)
  pub may_tell : (lines : List ShardLine) → AreSeenIn h (seen state) lines → MayTell h state n (page.Shards lines)

-- all rows can be counted in the state, and that can be shown
pub record ShowsRows (h : List Dimension) (with : Use) (state : State) (n : ℕ) : Type 0 where
  pub quiet : IsQuietIn with.servers (seen state)
  pub may_tell : (audit : AuditLine) → IsAuditedIn (seen state) audit → MayTell h state n (page.Audit audit)

-- the groups that the newest event asks for can be read off the state, and shown
pub record ShowsGroups (h : List Dimension) (with : Use) (state : State) (n : ℕ) : Type 0 where
  pub quiet : IsQuietIn with.servers (seen state)
  pub count : HasCountIn (length state.cells.items) (seen state)
  pub session : ℕ
  pub dim : ℕ
  pub level : ℕ
  pub filter : List Pick
  pub called : newest (ledger_in (cell_at state.cells.items ledger_cell)).history ≡ Some (Called session (Group dim level filter))
  pub valid : IsQuestion (question h filter dim level)
  pub may_tell : (shown : GroupPage) → AreGroupsIn (question h filter dim level) (seen state) shown → MayTell h state n (page.Group shown)

abbrev pub Shows : List Dimension → Use → State → ℕ → Subject → Type 0
Shows h with state n (subject.Tree shard) = ShowsTree h with state n shard
Shows h with state n subject.Shards = ShowsShards h with state n
Shows h with state n subject.Rows = ShowsRows h with state n
Shows h with state n subject.Groups = ShowsGroups h with state n

-- the state meets the invariant, and the page can be made and shown
pub record CanShow (h : List Dimension) (with : Use) (state : State) (n : ℕ) (subject : Subject) : Type 0 where
  pub valid : IsValid h (seen state)
  pub there : HasCells (length state.cells.items) (seen state)
  pub few : length state.cells.items < 2 ^ 32
  pub shows : Shows h with state n subject
