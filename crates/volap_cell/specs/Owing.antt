-- What is owed: the ledger's promises, each image's acknowledgements, and who is counted in at each desk.
use Rattle.std.specs.Prelude.{ℕ, ◌≡◌, ◌==◌, ◌&&◌, ◌+◌, ◌^◌, ◌<◌, Bool, true, false, List, length, Option, Some, None, if◌then◌else◌}
use Rattle.query_router.specs.Desk.{DeskValue}
use Rattle.row_ledger.specs.declared.event.Event.{Event}
use Rattle.server_image.specs.Image.{ImageValue}
use Rattle.volap_cell.specs.{Commands.owes, Setting.{Setting, actor_count}, Sums.sum_below, declared.command.Command.Command, declared.command.Work.Work, declared.role.Role.Role, declared.role.Role.TheVariants.Session}
use Rattle.volap_cell.specs.declared.command.Work.TheVariants as work_is

abbrev pub owed_by : Option Command → ℕ
owed_by None = 0
owed_by (Some c) = owes c.work

-- whether an actor is a session of the server
abbrev pub serves : ℕ → Role → Bool
serves server (Session s) = s == server
serves server _ = false

abbrev pub is_insert_work : Work → Bool
is_insert_work (work_is.Insert row routed) = true
is_insert_work _ = false

abbrev pub is_insert : Option Command → Bool
is_insert None = false
is_insert (Some c) = is_insert_work c.work

abbrev pub one_if : Bool → ℕ
one_if b = if b then 1 else 0

-- the inserts of a server's sessions are what its image owes, whether a part for them was routed or not
pub record Owing (s : Setting) (history : List Event) (promised : ℕ) (images : ℕ → ImageValue) (desks : ℕ → DeskValue) (roles : ℕ → Role) (commands : ℕ → Option Command) (counted_in : ℕ → Bool) : Type 0 where
  pub promises : promised ≡ sum_below (actor_count s) (λ a. owed_by (commands a))
  pub few : length history + promised < 2 ^ 31
  pub image : (server : ℕ) → server < s.servers → (images server).owed ≡ sum_below (actor_count s) (λ a. one_if (serves server (roles a) && is_insert (commands a)))
  pub sessions : (server : ℕ) → server < s.servers → (desks server).sessions ≡ sum_below (actor_count s) (λ a. one_if (serves server (roles a) && counted_in a))
