-- How many parts of its open command an actor has ended or sent on. With what the parts of a session's query still may go on, these are
-- no more than there are shards, splits and moves for.
use Rattle.std.specs.Prelude.{ℕ, ◌≡◌, ◌≢◌, ◌+◌, ◌^◌, ◌-◌, ◌≤◌, nat_lt, Bool, true, false, if◌then◌else◌, Some, None, is_some}
use Rattle.core_counts.specs.Ahead.{ahead, most_ahead}
use Rattle.core_shard.specs.volap_cell.specs.{Cells.desk_in, Ghost.Ghost, Invariant.InvWith, Setting.{Setting, desk_cell}, Steps.{Step, history_in}, Values.{ActorValue, ErrandValue}, View.view, World.World, declared.command.Command.Command, declared.kind.Kind.Kind, declared.role.Role.TheVariants.Session}
use Rattle.core_shard.specs.volap_cell.specs.declared.command.Work.TheVariants.{Query}

-- one more, as far as a counter of 64 bits goes
abbrev pub one_more : ℕ → ℕ
one_more went = if nat_lt went (2 ^ 64 - 1) then went + 1 else went

-- none where no command was open; one more where the actor was at a part and is at none now
abbrev pub went_if : (begun was_at is_at : Bool) → ℕ → ℕ
went_if false was_at is_at went = 0
went_if true true false went = one_more went
went_if true was_at is_at went = went

-- so many behind a step of an actor
abbrev pub went_after : (before now : ActorValue) → ℕ → ℕ
went_after before now went = went_if (is_some before.command) (is_some before.errand) (is_some now.errand) went

-- an actor has ended or sent on so many parts
pub record IsCounted (s : Setting) (w : World) (a went : ℕ) : Type 0 where
  -- where it is a session whose query is open, with what may still become of the parts no more than that
  pub few : (server : ℕ) (c : Command) → (w.actors a).role ≡ Session server → (w.actors a).command ≡ Some c → c.work ≡ Query
      → went + ahead s.workers (history_in w) (desk_in (w.cells (desk_cell s server))).parts ≤ most_ahead s.workers (history_in w)
  -- a session's part stands on the desk of its own server
  pub own : (server : ℕ) (e : ErrandValue) → (w.actors a).role ≡ Session server → (w.actors a).errand ≡ Some e → e.server ≡ server

-- each actor has
abbrev pub IsCounting : Setting → World → (ℕ → ℕ) → Type 0
IsCounting s w went = (a : ℕ) → IsCounted s w a (went a)

-- A step of any kind keeps that, where its actor counts it.
abbrev pub CountingLaw : Type 0
CountingLaw = (s : Setting) (k : Kind) (n : ℕ) (w now : World) (g g_now : Ghost) → InvWith s (view s w) g → InvWith s (view s now) g_now → Step s k n w now
    → (went went_now : ℕ → ℕ) → went_now n ≡ went_after (w.actors n) (now.actors n) (went n) → ((a : ℕ) → a ≢ n → went_now a ≡ went a)
    → IsCounting s w went → IsCounting s now went_now

-- Where no actor has a command or is at a part, it is so whatever was counted.
abbrev pub RestingCountLaw : Type 0
RestingCountLaw = (s : Setting) (w : World) (went : ℕ → ℕ) → ((a : ℕ) → (w.actors a).command ≡ None) → ((a : ℕ) → (w.actors a).errand ≡ None) → IsCounting s w went
