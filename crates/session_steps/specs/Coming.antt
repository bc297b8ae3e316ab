-- Sessions with nothing to do, which come and go.
use Rattle.std.specs.Prelude.{ℕ, ◌≡◌, [], true, false}
use Rattle.part_steps.specs.seat_steps.specs.{Floors.Stands, declared.floor.{Floor.Floor, Player.Player}}
use Rattle.turn_table.specs.Numbered.{Extends}
use Rattle.part_steps.specs.volap_cell.specs.{ImageKinds.IsFree, Values.{ActorValue, actor_of}, declared.role.Role.TheVariants.Session}

-- A session has no command, no part and no job.
pub record IsAtNothing (p : Player) : Type 0 where
  pub server : ℕ
  pub role : (actor_of p.actor).role ≡ Session server
  pub free : IsFree (actor_of p.actor)

-- It stands at its seat as before, has pushed no event, and is now this.
pub record Becomes (f : Floor) (b : ActorValue) (was now : Player) : Type 0 where
  pub stands : Stands f now
  pub number : now.number ≡ was.number
  pub actor : actor_of now.actor ≡ b
  pub seen : Extends now.seat.view.seen was.seat.view.seen

abbrev pub HasCome : Floor → Player → Player → Type 0
HasCome f was now = Becomes f (record (actor_of was.actor) { counted = true }) was now

abbrev pub HasLeft : Floor → Player → Player → Type 0
HasLeft f was now = Becomes f (record (actor_of was.actor) { counted = false }) was now

abbrev pub HasEmptied : Floor → Player → Player → Type 0
HasEmptied f was now = Becomes f (record (actor_of was.actor) { purse = [] }) was now
