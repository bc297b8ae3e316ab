-- Halls with two roles, of which the first is a session of the first server.
use Rattle.std.specs.Prelude.{ℕ, ◌≡◌, ◌<◌, ⊤, List, [], ◌∷◌, length, Some, slice_get}
use Rattle.hall_hands.specs.actor_run.specs.Passes.{AreAllIn, IsPassesOf, PassesValue}
use Rattle.hall_hands.specs.seat_steps.specs.declared.floor.Floor.{Floor}
use Rattle.hall_hands.specs.volap_cell.specs.declared.role.Role.{Role}
use Rattle.hall_hands.specs.volap_cell.specs.declared.role.Role.TheVariants.{Admin, Hand, Puller, Session}

-- the other role's server or worker is there, of two servers and one worker
abbrev pub IsThere : Role → Type 0
IsThere (Session server) = server < 2
IsThere (Hand worker) = worker < 1
IsThere Puller = ⊤
IsThere Admin = ⊤

abbrev pub pair : Role → List Role
pair other = Session 0 ∷ other ∷ []

-- All passes of the hall are in. It has one dimension, and its first role is a session of the first server.
pub record IsPaired (f : Floor) (p : PassesValue) : Type 0 where
  pub own : IsPassesOf f p
  pub all : AreAllIn p
  pub one : length f.hierarchy ≡ 1
  pub first : slice_get p.setting.roles 0 ≡ Some (Session 0)
