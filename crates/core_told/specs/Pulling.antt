-- How far an open command has pulled, as each state tells it.
use Rattle.std.specs.Prelude.{ℕ, ◌≡◌, Some, None}
use Rattle.row_ledger.specs.{Settled.pulls_since, declared.event.Event.TheVariants.Ended, declared.settings.How.How, declared.settings.Use.Use}
use Rattle.script_run.specs.Runs.{HasPulls, PullsAlone}
use Rattle.volap_cell.specs.{Commands.MayNoteEnd, Ghost.Ghost, Invariant.InvWith, Opening.IsOpening, Setting.Setting, Steps.{Step, history_in}, View.view, World.World, declared.command.Command.Command as OpenCommand, declared.kind.Kind.Kind}
use Rattle.core_told.specs.Told.{HasPulled}

-- An open command has pulled as far as its actor says, where no other command that pulls was open when it began or has begun since.
abbrev pub IsPulling : Setting → World → Type 0
IsPulling s w = (a : ℕ) (c : OpenCommand) → (w.actors a).command ≡ Some c → PullsAlone (history_in w) c.of → HasPulled s.servers c.work (pulls_since (history_in w) c.of)

-- A step of any kind keeps that.
abbrev pub PullingLaw : Type 0
PullingLaw = (s : Setting) (k : Kind) (n : ℕ) (w now : World) (g g_now : Ghost) → InvWith s (view s w) g → InvWith s (view s now) g_now → Step s k n w now → IsPulling s w → IsPulling s now

-- Where no actor has a command it is so, as in an opening.
abbrev pub RestingLaw : Type 0
RestingLaw = (s : Setting) (w : World) → ((a : ℕ) → (w.actors a).command ≡ None) → IsPulling s w

abbrev pub OpenedPullingLaw : Type 0
OpenedPullingLaw = (s : Setting) (w : World) → IsOpening s w → IsPulling s w

-- In each state a command that may note its end so, and has pulled alone, ends with the pulls that it was to make.
abbrev pub EndingLaw : Type 0
EndingLaw = (s : Setting) (w : World) (g : Ghost) (n : ℕ) (c : OpenCommand) (how : How) (with : Use) → InvWith s (view s w) g → IsPulling s w → (w.actors n).command ≡ Some c
    → MayNoteEnd s.servers c.work (w.actors n).job how → with.servers ≡ s.servers → PullsAlone (history_in w) c.of → HasPulls with (history_in w) (Ended c.of how)
