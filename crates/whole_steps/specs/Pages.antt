-- What a page asks of the state that is looked at.
use Rattle.std.specs.Prelude.{ℕ, ◌≡◌, ◌<◌, ◌^◌, List, [], ◌∷◌, Some}
use Rattle.call_steps.specs.core_due.specs.Look.{setting_by}
use Rattle.core_pages.specs.{Looks.{HasCells, IsValid, StateValue, cells_in}, Seen.{CanSeeIn, IsOfGate, IsQuietIn}}
use Rattle.dim_hierarchy.specs.{Dimension.Dimension, declared.filter.Pick.Pick}
use Rattle.group_answer.specs.Seen.{HasCountIn}
use Rattle.mapping_table.specs.declared.place.Where.TheVariants as where_is
use Rattle.row_ledger.specs.{Classes.class_of, Groups.{IsQuestion, question}, declared.class.Subject.Subject, declared.event.Event.Event, declared.event.Event.TheVariants.Called, declared.page.TreePage.TreePage, declared.settings.{Call.Call, Use.Use}}
use Rattle.row_ledger.specs.declared.class.Class.TheVariants.{Page}
use Rattle.row_ledger.specs.declared.settings.Call.TheVariants.{Audit, Group, Shards, Tree}
use Rattle.server_image.specs.Registry.{host_of}
use Rattle.core_pages.specs.volap_cell.specs.{Cells.{ledger_in, registry_in, where_in}, Setting.{ledger_cell, map_cell, registry_cell}}

-- the gate of the shard is in this cell, as the table of its worker tells
pub record StandsAt (with : Use) (state : StateValue) (shard gate : ℕ) : Type 0 where
  pub host : ℕ
  pub host_is : host_of shard (registry_in (cells_in state registry_cell)) ≡ Some host
  pub leads : where_in (cells_in state (map_cell (setting_by [] with) host)) shard ≡ Some (where_is.Gate gate)

-- Its tree can be read off a state with so many cells.
pub record TellsTree (h : List Dimension) (with : Use) (many : ℕ) (state : StateValue) (shard : ℕ) : Type 0 where
  pub valid : IsValid h state
  pub there : HasCells many state
  pub few : many < 2 ^ 32
  pub gate : ℕ
  pub stands : StandsAt with state shard gate
  pub can_see : CanSeeIn state many gate
  pub of_shard : (shown : TreePage) → IsOfGate state gate shown → shown.shard ≡ shard

-- All shards or all rows can be read off a state.
pub record TellsAll (h : List Dimension) (with : Use) (state : StateValue) : Type 0 where
  pub valid : IsValid h state
  pub quiet : IsQuietIn with.servers state

-- The group that the newest event calls for can be read off a state with so many cells.
pub record TellsGroup (h : List Dimension) (with : Use) (many : ℕ) (state : StateValue) (dim level : ℕ) (filter : List Pick) : Type 0 where
  pub valid : IsValid h state
  pub quiet : IsQuietIn with.servers state
  pub there : HasCells many state
  pub count : HasCountIn many state
  pub few : many < 2 ^ 32
  pub asks : IsQuestion (question h filter dim level)
  pub session : ℕ
  pub past : List Event
  pub called : (ledger_in (cells_in state ledger_cell)).history ≡ Called session (Group dim level filter) ∷ past

-- a call is for a page
abbrev pub IsForPage : Call → Type 0
IsForPage call = (subject : Subject) × (class_of call ≡ Page subject)

-- what the page of a call asks
abbrev pub CanTell : List Dimension → Use → ℕ → StateValue → Call → Type 0
CanTell h with many state (Tree shard) = TellsTree h with many state shard
CanTell h with many state Shards = TellsAll h with state
CanTell h with many state Audit = TellsAll h with state
CanTell h with many state (Group dim level filter) = TellsGroup h with many state dim level filter
CanTell h with many state other = ⊥
