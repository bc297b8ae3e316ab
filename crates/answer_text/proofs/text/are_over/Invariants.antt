use Rattle.std.proofs.Common.{◌≡◌, true, reverse, take}
use Rattle.script_run.specs.Places.{are_over}
use Rattle.answer_text.proofs.text.are_over.Given as goal

abbrev pub invariant-loop-place : goal.invariant-loop-place
invariant-loop-place l = are_over (reverse l.index.events.now) (take l.place-index l.places) ≡ true
