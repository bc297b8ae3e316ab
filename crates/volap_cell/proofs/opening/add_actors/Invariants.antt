use Rattle.volap_cell.specs.Filling.{Adds, IsActor, setting_for}
use Rattle.volap_cell.proofs.opening.add_actors.Given as goal

abbrev pub invariant-loop-number : goal.invariant-loop-number
invariant-loop-number l = Adds l.number (IsActor (setting_for l.h l.with l.roles)) l.initial.actors.items l.actors.items
