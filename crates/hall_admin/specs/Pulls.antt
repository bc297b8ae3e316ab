-- How a pull of a server ends, as called commands do.
use Rattle.std.specs.Prelude.{ℕ, ◌≡◌, List, Result, Ok, Err}
use Rattle.actor_run.specs.Called.{EndedSo, HasBegunNothing, HasHeard}
use Rattle.hall_admin.specs.{Callers.CallerValue, declared.puller.Synced.Synced}
use Rattle.hall_admin.specs.declared.puller.Synced.TheVariants as synced
use Rattle.row_ledger.specs.declared.{event.Event.Event, settings.{Call.TheVariants.Sync, How.How, How.TheVariants.{Fine, NoMemory}}}
use Rattle.job_steps.specs.seat_steps.specs.declared.floor.Floor.{Floor}

abbrev pub how_of : Synced → How
how_of synced.Ok = Fine
how_of synced.NoMemory = NoMemory

-- or nothing of it stands in the history
abbrev pub TriesSync : {E : Type 0} → Floor → ℕ → ℕ → Result Synced E → List Event → List Event → Type 0
TriesSync f number server (Ok r) was now = EndedSo f number (Sync server) (how_of r) was now
TriesSync f number server (Err e) was now = HasBegunNothing number was now

-- A pull by this caller, of which that is told.
pub record TriesToSync {E : Type 0} (server : ℕ) (r : Result Synced E) (was now : CallerValue) : Type 0 where
  pub same : now ≡ record was { seen = now.seen }
  pub heard : HasHeard was.floor was.seen now.seen
  pub tries : TriesSync was.floor was.number server r was.seen now.seen
