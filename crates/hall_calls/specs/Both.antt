-- What is so when both sessions are over.
use Rattle.std.specs.Prelude.{ℕ, List, [], ◌∷◌}
use Rattle.dim_hierarchy.specs.{Dimension.Dimension, declared.filter.NamePick.NamePick}
use Rattle.row_ledger.specs.{Right.IsRight, declared.event.Event.Event, declared.settings.Use.Use}
use Rattle.actor_run.specs.volap_cell.specs.{declared.role.Role.{Role}, declared.role.Role.TheVariants.Session, declared.state.State.State}
use Rattle.actor_run.specs.volap_turns.specs.Wholes.{HasHistory, IsWhole}
use Rattle.hall_calls.specs.{Tells.IsTold, declared.work.Told.Told}

-- two servers and a worker
abbrev pub two_servers : ℕ → Use
two_servers cells = record { servers = 2; workers = 1; threads = 1; cells = cells }

-- a session of each of two servers
abbrev pub two_sessions : List Role
two_sessions = Session 0 ∷ Session 1 ∷ []

-- The state is whole. Its history is right, and has what both sessions tell.
pub record HasBoth (h : List Dimension) (names : List NamePick) (state : State) (one other : Told) : Type 0 where
  pub whole : IsWhole h state.cells.items state.actors.items
  pub history : List Event
  pub history_is : HasHistory state.cells.items state.actors.items history
  pub right : IsRight (record { hierarchy = h; servers = 2; workers = 1 }) history
  pub first : IsTold h names (record { number = 0; server = 0 }) history one
  pub second : IsTold h names (record { number = 1; server = 1 }) history other
