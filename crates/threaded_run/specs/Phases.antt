-- A phase whose commands go all at once: what is asked of the passes before it, and what has become of them.
use Rattle.std.specs.Prelude.{ℕ, ◌≡◌, ◌==◌, ◌+◌, ◌<◌, ◌≤◌, Bool, List, ◌++◌, length, count_by, Some, slice_get}
use Rattle.hall_hands.specs.actor_run.specs.Passes.{AreAllIn, HasGiven, IsPassesOf, PassValue, PassesValue}
use Rattle.dim_hierarchy.specs.Dimension.{Dimension}
use Rattle.row_ledger.specs.declared.{event.Event.Event, settings.Use.Use}
use Rattle.script_form.specs.declared.script.Command.{Command}
use Rattle.hall_hands.specs.seat_steps.specs.declared.floor.Floor.{Floor}
use Rattle.script_roles.specs.Roles.{IsNumbered}
use Rattle.script_run.specs.Streams.{NoneCloses}
use Rattle.session_runs.specs.Sessions.{BeginsNothing, EachDoesFirst}
use Rattle.threaded_run.specs.{Jobs.{AreJobsReady, HasCome}, declared.threads.Job.Job}
use Rattle.turn_table.specs.Numbered.{Extends}
use Rattle.script_roles.specs.volap_cell.specs.{Setting.actor_count, declared.role.Role.Role}
use Rattle.script_roles.specs.volap_cell.specs.declared.role.Role.TheVariants as role

-- The passes are those of a hall with a session for each server, then a puller, an administrator, and hands; all are in. The hall's own actor
-- is a puller.
pub record ArePhased (f : Floor) (p : PassesValue) : Type 0 where
  pub own : IsPassesOf f p
  pub all : AreAllIn p
  pub many : f.with.servers + 3 ≤ actor_count p.setting
  pub roles : (n : ℕ) (r : Role) → n + 1 < actor_count p.setting → slice_get p.setting.roles n ≡ Some r → IsNumbered r f.with n
  pub last : (n : ℕ) → n + 1 ≡ actor_count p.setting → slice_get p.setting.roles n ≡ Some role.Puller

-- all are in again, and have seen more
pub record AreBack (f : Floor) (was now : PassesValue) : Type 0 where
  pub phased : ArePhased f now
  pub setting : now.setting ≡ was.setting
  pub later : Extends now.seen was.seen

-- Meanwhile.

-- So many passes are out, those with the lowest numbers, and went into jobs. Nothing more was seen.
pub record HasTakenSome (f : Floor) (jobs : List Job) (was now : PassesValue) : Type 0 where
  pub own : IsPassesOf f now
  pub setting : now.setting ≡ was.setting
  pub seen : now.seen ≡ was.seen
  pub taken : (k : ℕ) → k < length jobs → count_by (λ x. x == k) now.out ≡ 1
  pub left : (k : ℕ) → length jobs ≤ k → count_by (λ x. x == k) now.out ≡ 0
  pub ready : AreJobsReady f was.seen jobs

pub record HasTakenAll (f : Floor) (jobs : List Job) (was now : PassesValue) : Type 0 where
  pub some : HasTakenSome f jobs was now
  pub count : length jobs + 1 ≡ actor_count was.setting

-- Of so many passes, those below a number are in again. Their actors have come so far, and those that have no job have begun nothing.
pub record HasGivenSome (f : Floor) (commands : List Command) (many given : ℕ) (stopped : Bool) (was now : PassesValue) : Type 0 where
  pub own : IsPassesOf f now
  pub setting : now.setting ≡ was.setting
  pub later : Extends now.seen was.seen
  pub in_again : (k : ℕ) → k < given → count_by (λ x. x == k) now.out ≡ 0
  pub out_still : (k : ℕ) → given ≤ k → k < many → count_by (λ x. x == k) now.out ≡ 1
  pub never_out : (k : ℕ) → many ≤ k → count_by (λ x. x == k) now.out ≡ 0
  pub came : (k : ℕ) → k < given → HasCome stopped f k commands was.seen now.seen
  pub others : (k : ℕ) → many ≤ k → BeginsNothing k was.seen now.seen

-- The pass of the job with this number is in again. Its actor has come so far.
pub record HasGivenJob (f : Floor) (n : ℕ) (commands : List Command) (past : List Event) (stopped : Bool) (was now : PassesValue) : Type 0 where
  pub pass : PassValue
  pub number : pass.number ≡ n
  pub came : HasCome stopped f n commands past pass.seen
  pub given : HasGiven pass was now

-- Memory was wanting in a phase: of its commands in front of one that closes it each session has done the first of its own.
pub record StopsInPhase (with : Use) (h : List Dimension) (phase : List Command) (past now : List Event) : Type 0 where
  pub front : List Command
  pub more : List Command
  pub split : phase ≡ front ++ more
  pub none_closes : NoneCloses front
  pub first : EachDoesFirst with h front past now
