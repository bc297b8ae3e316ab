-- An actor of a phase: what is asked of it before its thread begins, and what has become of it when that has ended.
use Rattle.std.specs.Prelude.{ℕ, ◌≡◌, ◌+◌, ◌<◌, Bool, true, false, List, Some, slice_get}
use Rattle.hall_hands.specs.actor_run.specs.{Passes.{IsPass, IsPassOf, pass_of}, Sessions.IsSessionWith}
use Rattle.row_ledger.specs.declared.event.Event.{Event}
use Rattle.script_form.specs.declared.script.Command.{Command}
use Rattle.hall_hands.specs.seat_steps.specs.declared.floor.{Floor.Floor, Player.Player}
use Rattle.session_runs.specs.Sessions.{BeginsNothing}
use Rattle.threaded_run.specs.{Streams.{DoesAll, DoesSome}, declared.threads.Job.Job}
use Rattle.script_roles.specs.volap_cell.specs.{Values.actor_of, declared.role.Role.Role}
use Rattle.script_roles.specs.volap_cell.specs.declared.role.Role.TheVariants as role

-- between two phases it is a pass of the hall
pub record IsPassIn (f : Floor) (p : Player) : Type 0 where
  pub pass : IsPass p
  pub own : IsPassOf f (pass_of p)

-- Which number is whose: sessions have those of their servers, then come the puller, the administrator and the hands. A session is counted
-- in at its server's desk, and has seen so many events.
abbrev pub IsReadyAs : Role → Floor → ℕ → Player → ℕ → Type 0
IsReadyAs (role.Session server) f n p seen = (server ≡ n) × (n < f.with.servers) × IsSessionWith f server p seen
IsReadyAs role.Puller f n p seen = (n ≡ f.with.servers) × IsPassIn f p
IsReadyAs role.Admin f n p seen = (n ≡ f.with.servers + 1) × IsPassIn f p
IsReadyAs (role.Hand worker) f n p seen = (f.with.servers + 1 < n) × IsPassIn f p

-- The actor with this number may begin. It has begun nothing since that past.
pub record IsReady (f : Floor) (n : ℕ) (past : List Event) (p : Player) (seen : ℕ) : Type 0 where
  pub number : p.number ≡ n
  pub nothing : BeginsNothing n past p.seat.view.seen
  pub kind : IsReadyAs (actor_of p.actor).role f n p seen

-- it has done all of its commands of these, or was stopped before one of them
abbrev pub HasCome : (stopped : Bool) → Floor → ℕ → List Command → (past now : List Event) → Type 0
HasCome false f n commands past now = DoesAll f n commands past now
HasCome true f n commands past now = DoesSome f n commands past now

-- It is a pass of the hall again.
pub record IsBack (f : Floor) (n : ℕ) (commands : List Command) (past : List Event) (p : Player) (stopped : Bool) : Type 0 where
  pub is : IsPassIn f p
  pub number : p.number ≡ n
  pub came : HasCome stopped f n commands past p.seat.view.seen

-- Jobs: what goes to a thread, and comes back.

pub record IsJobReady (f : Floor) (n : ℕ) (past : List Event) (j : Job) : Type 0 where
  pub player : Player
  pub is : j.player ≡ Some player
  pub ready : IsReady f n past player j.seen

pub record IsJobBack (f : Floor) (n : ℕ) (commands : List Command) (past : List Event) (j : Job) : Type 0 where
  pub player : Player
  pub is : j.player ≡ Some player
  pub back : IsBack f n commands past player j.stopped

-- each has the number of its place

abbrev pub AreJobsReady : Floor → List Event → List Job → Type 0
AreJobsReady f past jobs = (i : ℕ) (j : Job) → slice_get jobs i ≡ Some j → IsJobReady f i past j

abbrev pub AreJobsBack : Floor → List Command → List Event → List Job → Type 0
AreJobsBack f commands past jobs = (i : ℕ) (j : Job) → slice_get jobs i ≡ Some j → IsJobBack f i commands past j

-- each has the number of its place behind the first

abbrev pub AreJobsReadyFrom : ℕ → Floor → List Event → List Job → Type 0
AreJobsReadyFrom first f past jobs = (i : ℕ) (j : Job) → slice_get jobs i ≡ Some j → IsJobReady f (first + i) past j

abbrev pub AreJobsBackFrom : ℕ → Floor → List Command → List Event → List Job → Type 0
AreJobsBackFrom first f commands past jobs = (i : ℕ) (j : Job) → slice_get jobs i ≡ Some j → IsJobBack f (first + i) commands past j
