-- Hands: each takes the parts that wait for its worker, from the desks of all servers.
use Rattle.std.specs.{List.list_any, Prelude.{ℕ, ◌≡◌, ◌==◌, if◌then◌else◌, IsSome, List, [], None}}
use mathlib.Core.Option.{some}
use Rattle.session_steps.specs.core_due.specs.Look.{setting_by}
use Rattle.hand_steps.specs.declared.hands.Found.{Found}
use Rattle.hand_steps.specs.declared.hands.Found.TheVariants as found
use Rattle.query_router.specs.Desk.{DeskValue, waits_for}
use Rattle.row_ledger.specs.declared.event.Event.{Event}
use Rattle.session_steps.specs.seat_steps.specs.{Booked.IsAsBefore, Floors.{IsSeated, Stands}, declared.floor.{Floor.Floor, Player.Player}}
use Rattle.turn_table.specs.Numbered.{Extends, value_of}
use Rattle.session_steps.specs.volap_cell.specs.{Cells.{cell_of, desk_in}, ImageKinds.IsFree, Setting.desk_cell, Values.actor_of, declared.cell.Cell.Cell, declared.role.Role.TheVariants.Hand}

-- A hand does nothing.
pub record IsIdleHand (p : Player) : Type 0 where
  pub worker : ℕ
  pub role : (actor_of p.actor).role ≡ Hand worker
  pub free : IsFree (actor_of p.actor)

-- what a hand of a worker finds on a desk
abbrev pub found_on : ℕ → DeskValue → Found
found_on worker desk = if list_any (waits_for worker) desk.parts then found.Part else if desk.sessions == 0 then found.NoSession else found.Nothing

-- The hand is at a part, and as before else. It has pushed no event.
pub record HasTakenPart (f : Floor) (was now : Player) : Type 0 where
  pub stands : Stands f now
  pub number : now.number ≡ was.number
  pub part : IsSome (actor_of now.actor).errand
  pub actor : actor_of now.actor ≡ record (actor_of was.actor) { errand = (actor_of now.actor).errand }
  pub seen : Extends now.seat.view.seen was.seat.view.seen

-- Between the time at which an actor had seen the one history and that at which it had seen the other its seat held a server's desk, and
-- no session was counted there.
pub record NoneCounted (f : Floor) (server number : ℕ) (past now : List Event) : Type 0 where
  pub there : Player
  pub seated : IsSeated f there
  pub number_is : there.number ≡ number
  pub desk : Cell
  pub held : value_of there.seat.view.held (desk_cell (setting_by [] f.with) server) ≡ some desk
  pub none : (desk_in (cell_of desk)).sessions ≡ 0
  pub since : Extends there.seat.view.seen past
  pub before : Extends now there.seat.view.seen

abbrev pub HasFound : Floor → ℕ → Found → Player → Player → Type 0
HasFound f server found.Part was now = HasTakenPart f was now
HasFound f server found.Nothing was now = IsAsBefore f was now
HasFound f server found.NoSession was now = IsAsBefore f was now × NoneCounted f server was.number was.seat.view.seen now.seat.view.seen

-- The actor has done its part, and is at none. It has pushed no event.
pub record HasDonePart (f : Floor) (was now : Player) : Type 0 where
  pub stands : Stands f now
  pub number : now.number ≡ was.number
  pub actor : actor_of now.actor ≡ record (actor_of was.actor) { errand = None; purse = []; boxes = (actor_of now.actor).boxes }
  pub seen : Extends now.seat.view.seen was.seat.view.seen

-- The hand does nothing again, and has pushed no event. Where it found no session at the desk none was counted there meanwhile.
pub record HasServed (f : Floor) (server : ℕ) (r : Found) (was now : Player) : Type 0 where
  pub stands : Stands f now
  pub number : now.number ≡ was.number
  pub actor : actor_of now.actor ≡ record (actor_of was.actor) { purse = (actor_of now.actor).purse; boxes = (actor_of now.actor).boxes }
  pub purse : (actor_of was.actor).purse ≡ [] → (actor_of now.actor).purse ≡ []
  pub seen : Extends now.seat.view.seen was.seat.view.seen
  pub none : r ≡ found.NoSession → NoneCounted f server was.number was.seat.view.seen now.seat.view.seen
