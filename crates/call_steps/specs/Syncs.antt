-- Syncs of a server: what an actor's call comes to.
use Rattle.std.specs.Prelude.{ℕ}
use Rattle.call_steps.specs.Opened.{IsCallDone}
use Rattle.call_steps.specs.declared.syncs.Synced.{Synced}
use Rattle.call_steps.specs.declared.syncs.Synced.TheVariants as synced
use Rattle.row_ledger.specs.declared.settings.{Call.TheVariants.Sync, How.TheVariants.{Fine, NoMemory}}
use Rattle.session_steps.specs.seat_steps.specs.{Booked.IsAsBefore, declared.floor.{Floor.Floor, Player.Player}}

-- The server has pulled for the call, which began at this position; or no memory was found for that, or for the call itself, of which nothing
-- is noted then.
abbrev pub HasSynced : Floor → ℕ → Synced → Player → Player → Type 0
HasSynced f server (synced.Ok of) was now = IsCallDone f of (Sync server) Fine was now
HasSynced f server (synced.Failed of) was now = IsCallDone f of (Sync server) NoMemory was now
HasSynced f server synced.NotBegun was now = IsAsBefore f was now
