-- How a hall opens and closes.
use Rattle.std.specs.{List.list_any, Prelude.{ℕ, ◌≡◌, ◌≢◌, ◌+◌, ◌<◌, ◌≤◌, Bool, true, false, if◌then◌else◌, List, [], ◌∷◌, ◌++◌, length, Some}}
use Rattle.actor_run.specs.Passes.{AreAllIn, IsPassesOf, PassesValue}
use Rattle.dim_hierarchy.specs.Dimension.{Dimension}
use Rattle.row_ledger.specs.{Kept.IsOpeningHistory, Right.IsRight, Site.site_of, declared.settings.Use.Use}
use Rattle.script_run.specs.Places.{begins_of}
use Rattle.whole_steps.specs.seat_steps.specs.declared.floor.Floor.{Floor}
use Rattle.whole_steps.specs.shard_store.specs.declared.gate.Phase.TheVariants.{Gone}
use Rattle.whole_steps.specs.volap_cell.specs.{Cells.phase_of, Filling.setting_for, Numbering.IsSetting, Setting.{Setting, site_in}, State.IsWorldOf, World.World, declared.role.Role.{Role}, declared.role.Role.TheVariants.{Admin, Puller}, declared.state.State.State}
use Rattle.whole_steps.specs.volap_turns.specs.Wholes.{AreIdle, HasHistory, IsWhole}

abbrev pub is_admin : Role → Bool
is_admin Admin = true
is_admin role = false

-- the hall's own actor is the administrator where none of the roles is that
abbrev pub own_role : List Role → Role
own_role roles = if list_any is_admin roles then Puller else Admin

-- what a hall with these roles is about; its own actor stands behind them
abbrev pub hall_setting : List Dimension → Use → List Role → Setting
hall_setting h with roles = setting_for h with (roles ++ own_role roles ∷ [])

-- The settings are in range, there is a dimension, and each role names a server or a worker that is there, if it names one; one
-- administrator is among them at most.
pub record IsHallFor (h : List Dimension) (with : Use) (roles : List Role) : Type 0 where
  pub setting : IsSetting (hall_setting h with roles)
  pub dims : 0 < length h
  pub few : length roles ≤ 256

-- All passes are in, and have seen the opening: one pull of each server. No session has begun a command there.
pub record HasOpened (h : List Dimension) (with : Use) (roles : List Role) (f : Floor) (p : PassesValue) : Type 0 where
  pub hierarchy : f.hierarchy ≡ h
  pub settings : f.with ≡ with
  pub own : IsPassesOf f p
  pub setting : p.setting ≡ hall_setting h with roles
  pub all : AreAllIn p
  pub opening : IsOpeningHistory (site_in p.setting) p.seen
  pub pulls : length p.seen ≡ with.servers
  pub begun : (n : ℕ) → begins_of p.seen n ≡ []
  pub gone : p.gone ≡ []

-- no gate of the state is gone
abbrev pub HasNoneGone : State → Type 0
HasNoneGone s = (w : World) → IsWorldOf s.cells.items s.actors.items w → (c : ℕ) → phase_of (w.cells c) ≢ Some Gone

-- The state meets the invariant, and is about what the passes are. Its history is what they have seen, and is right. Each of its actors is
-- idle, and where the administrator knows of no gate that is gone, none is.
pub record HasClosed (f : Floor) (p : PassesValue) (s : State) : Type 0 where
  pub whole : IsWhole f.hierarchy s.cells.items s.actors.items
  pub setting : whole.sound.setting ≡ p.setting
  pub history : HasHistory s.cells.items s.actors.items p.seen
  pub right : IsRight (site_of f.with f.hierarchy) p.seen
  pub idle : AreIdle s.cells.items s.actors.items
  pub gone : p.gone ≡ [] → HasNoneGone s
