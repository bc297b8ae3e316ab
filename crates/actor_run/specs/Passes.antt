-- What contracts see of passes, each an actor with nothing to do at a seat that holds no cell.
use Rattle.std.specs.Prelude.{ℕ, ◌≡◌, ◌==◌, ◌+◌, ◌^◌, ◌<◌, ◌≤◌, ◌⊎◌, false, if◌then◌else◌, List, [], ◌∷◌, ◌++◌, length, count_by, get_or, slice_get, Option, Some, None}
use mathlib.Core.Option.{some, none}
use Rattle.atomic_table.specs.Seated.{TableId}
use Rattle.row_ledger.specs.{Right.IsRight, declared.event.Event.Event}
use Rattle.script_run.specs.Places.{begins_of}
use Rattle.whole_steps.specs.seat_steps.specs.declared.floor.{Floor.Floor, Player.Player}
use Rattle.turn_table.specs.{Numbered.{Extends, value_of}, Seat.{SeatValue, cell_count}}
use Rattle.whole_steps.specs.volap_cell.specs.{Setting.{Setting, actor_count, site_in}, Sights.IsIdle, Values.actor_of, declared.actor.Actor.Actor, declared.cell.Cell.Cell, declared.role.{Role.Role, Role.TheVariants.Admin}}
use Rattle.whole_steps.specs.volap_turns.specs.{Seats.Holds, Wholes.CanBe}
use Rattle.whole_steps.specs.Seats.{no_seat}

-- One pass.

pub record PassValue : Type 0 where
  pub table : TableId
  pub setting : Setting
  pub role : Role
  pub number : ℕ
  pub seen : List Event

abbrev pub pass_of : Player → PassValue
pass_of p = record { table = p.seat.table_id; setting = (actor_of p.actor).setting; role = (actor_of p.actor).role; number = p.number; seen = p.seat.view.seen }

-- The actor has nothing to do and is counted nowhere, and the seat holds no cell; the history that it has seen is right.
pub record IsPass (p : Player) : Type 0 where
  pub holds : Holds (actor_of p.actor).setting.hierarchy p.seat.table_id p.seat p.number p.actor
  pub bare : p.seat.ranks ≡ []
  pub alone : (j : ℕ) (x : Actor) → value_of p.seat.view.actors j ≡ some x → j ≡ p.number
  pub idle : IsIdle (actor_of p.actor)
  pub noted : (actor_of p.actor).seen ≤ length p.seat.view.seen
  pub few : actor_count (actor_of p.actor).setting < 2 ^ 16
  pub right : IsRight (site_in (actor_of p.actor).setting) p.seat.view.seen

-- what a hall and its passes are about is the same
pub record IsAbout (f : Floor) (t : TableId) (s : Setting) : Type 0 where
  pub table : t ≡ f.table
  pub hierarchy : s.hierarchy ≡ f.hierarchy
  pub servers : s.servers ≡ f.with.servers
  pub workers : s.workers ≡ f.with.workers

-- the pass is one of the hall
abbrev pub IsPassOf : Floor → PassValue → Type 0
IsPassOf f p = IsAbout f p.table p.setting

-- All passes but those that are out.

pub record PassesValue : Type 0 where
  pub table : TableId
  pub setting : Setting
  pub out : List ℕ
  pub seen : List Event
  pub gone : List ℕ

-- the places where nothing stands, from a number on
abbrev pub missing : ℕ → List (Option Actor) → List ℕ
missing k [] = []
missing k (None ∷ actors) = k ∷ missing (k + 1) actors
missing k (Some a ∷ actors) = missing (k + 1) actors

-- the cells of the gates that are gone, as the administrator knows them; none while it is out

abbrev pub gone_by : Role → List ℕ → List ℕ
gone_by Admin gates = gates
gone_by role gates = []

abbrev pub gone_at : Option Actor → List ℕ
gone_at None = []
gone_at (Some x) = gone_by (actor_of x).role (actor_of x).gone_gates

abbrev pub gone_among : List (Option Actor) → List ℕ
gone_among [] = []
gone_among (a ∷ actors) = gone_at a ++ gone_among actors

abbrev pub gone_of : Actor → List (Option Actor) → List ℕ
gone_of own actors = gone_at (Some own) ++ gone_among actors

abbrev pub passes_of : SeatValue Cell Actor Event → Actor → List (Option Actor) → PassesValue
passes_of s own actors = record { table = s.table_id; setting = (actor_of own).setting; out = missing 0 actors; seen = s.view.seen; gone = gone_of own actors }

-- one of the actors is the administrator, whether the hall's own or that of a role

abbrev pub IsAdminOf : Setting → ℕ → Type 0
IsAdminOf s number = slice_get s.roles number ≡ Some Admin

abbrev pub HasAdmin : Setting → Type 0
HasAdmin s = (number : ℕ) × IsAdminOf s number

-- the seat of passes, where it isn't out
abbrev pub in_seat : Option (SeatValue Cell Actor Event) → SeatValue Cell Actor Event
in_seat None = no_seat
in_seat (Some s) = s

-- The seat has this actor, which has nothing to do and has noted no more than the seat has seen.
pub record IsIn (about : Setting) (s : SeatValue Cell Actor Event) (a : ℕ) (x : Actor) : Type 0 where
  pub last : Actor
  pub has : value_of s.view.actors a ≡ some last
  pub same : actor_of last ≡ actor_of x
  pub went : last.went ≡ x.went
  pub about_is : (actor_of x).setting ≡ about
  pub idle : IsIdle (actor_of x)
  pub noted : (actor_of x).seen ≤ length s.view.seen

-- it has the one that stands at a place, or none where nothing does
abbrev pub IsAt : Setting → SeatValue Cell Actor Event → ℕ → Option Actor → Type 0
IsAt about s a None = value_of s.view.actors a ≡ none
IsAt about s a (Some x) = IsIn about s a x

-- The seat holds no cell and has each actor whose pass is in, and the hall's own, which stands behind those of the roles.
pub record ArePasses (s : SeatValue Cell Actor Event) (own : Actor) (actors : List (Option Actor)) : Type 0 where
  pub home : s.lifted ≡ false
  pub bare : s.ranks ≡ []
  pub empty : s.view.held ≡ []
  pub possible : CanBe s.view
  pub wide : s.view.cell_count ≡ cell_count s.table_id
  pub count : s.view.actor_count ≡ length actors + 1
  pub number : s.view.number ≡ length actors
  pub many : length actors + 1 ≡ actor_count (actor_of own).setting
  pub few : length actors + 1 < 2 ^ 16
  pub own_one : IsIn (actor_of own).setting s (length actors) own
  pub each : (a : ℕ) → a < length actors → IsAt (actor_of own).setting s a (get_or actors a None)
  pub beyond : (a : ℕ) → length actors < a → value_of s.view.actors a ≡ none
  pub right : IsRight (site_in (actor_of own).setting) s.view.seen
  pub admin : HasAdmin (actor_of own).setting

-- the passes are those of the hall
abbrev pub IsPassesOf : Floor → PassesValue → Type 0
IsPassesOf f p = IsAbout f p.table p.setting

abbrev pub AreAllIn : PassesValue → Type 0
AreAllIn p = p.out ≡ []

-- There is no such role, or its pass is out. The hall's own actor is behind the roles.
abbrev pub IsOut : ℕ → PassesValue → Type 0
IsOut number p = (actor_count p.setting ≤ number + 1) ⊎ (count_by (λ k. k == number) p.out ≡ 1)

-- A pass is given out, with all that the passes had seen.
pub record HasTaken (number : ℕ) (was now : PassesValue) (pass : PassValue) : Type 0 where
  -- there is such a role, and its pass was in
  pub free : (number + 1 < actor_count was.setting) × (count_by (λ k. k == number) was.out ≡ 0)
  pub number_is : pass.number ≡ number
  pub role : slice_get was.setting.roles number ≡ Some pass.role
  pub setting : pass.setting ≡ was.setting
  pub table : pass.table ≡ was.table
  pub seen : pass.seen ≡ was.seen
  pub now_is : now ≡ record was { out = now.out; gone = now.gone }
  pub out : (k : ℕ) → count_by (λ x. x == k) now.out ≡ count_by (λ x. x == k) was.out + (if k == number then 1 else 0)

-- A pass is in again, and the longer of the two histories has been seen. Of that pass nothing has begun there that it hadn't seen, and of
-- the numbers that were not out nothing that the others hadn't.
pub record HasGiven (pass : PassValue) (was now : PassesValue) : Type 0 where
  pub same : now ≡ record was { out = now.out; seen = now.seen; gone = now.gone }
  pub out : (k : ℕ) → count_by (λ x. x == k) was.out ≡ count_by (λ x. x == k) now.out + (if k == pass.number then 1 else 0)
  pub longer : Extends now.seen was.seen
  pub as_pass : Extends now.seen pass.seen
  pub one : (now.seen ≡ was.seen) ⊎ (now.seen ≡ pass.seen)
  pub begun : begins_of now.seen pass.number ≡ begins_of pass.seen pass.number
  pub others : (n : ℕ) → count_by (λ k. k == n) was.out ≡ 0 → begins_of now.seen n ≡ begins_of was.seen n
