use Rattle.std.proofs.Common.{◌≡◌, ◌≢◌, ◌<◌, ◌≤◌, ℕ, Some, slice_get}
use Rattle.script_run.specs.Places.{session_of}
use Rattle.script_form.specs.declared.script.Command.{Command}
use Rattle.script_run.proofs.sessions.next_of.Given as goal

abbrev pub invariant-loop-i : goal.invariant-loop-i
invariant-loop-i l = (j : ℕ) (c : Command) → slice_get l.commands j ≡ Some c → l.from ≤ j → j < l.i → session_of l.with c ≢ l.session
