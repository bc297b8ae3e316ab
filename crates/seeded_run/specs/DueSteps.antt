-- What an actor does on its turn: it begins its next command, or makes the step that is due for it, with the cells of the step.
use Rattle.std.specs.Prelude.{ℕ, ◌≡◌, ◌&&◌, ⊤, Bool, true, not, is_none, if◌then◌else◌, List, Option, Some, None, option_map}
use Rattle.core_due.specs.{Due.{hand_kind, is_empty}, Parts.{due_kind, part_due}, Reuses.reuse_due, Works.{work_due, work_due_kind}, WorksReady.AreBytes}
use Rattle.core_due.specs.declared.parts.PartDue.TheVariants.{Tree}
use Rattle.core_due.specs.core_steps.specs.declared.{reuses.ReuseStep.ReuseStep, trees.TreeStep.TheVariants.GiveBack}
use Rattle.script_form.specs.declared.script.Command.{Command}
use Rattle.core_pages.specs.volap_cell.specs.{Cells.ledger_in, Setting.{Setting, ledger_cell}, Values.{ActorValue, ErrandValue}, World.World, declared.command.Command.Command as OpenCommand, declared.kind.Kind.Kind, declared.kind.Kind.TheVariants.{Reuse, TakePart}, declared.role.Role.Role}
use Rattle.core_pages.specs.volap_cell.specs.declared.role.Role.TheVariants as role
use Rattle.seeded_run.specs.{Can.{can, can_step}, Commands.may_begin, Due.{free_kind, is_alone}, Rests.{PhaseRun, rest_of}, declared.turn.DueStep.DueStep}
use Rattle.seeded_run.specs.declared.turn.DueStep.TheVariants.{AtPart, AtWork, Begins, Reuses, Takes}

-- What is due, with its cells.

-- a hand takes a part that waits for its worker on any desk; anyone else begins the next command, whichever kind of step that is
abbrev pub free_step : Setting → World → Bool → List Command → Role → Option DueStep
free_step s w alone rest (role.Hand worker) = option_map (λ k. Takes worker) (hand_kind s w worker)
free_step s w alone rest r = option_map (λ k. Begins) (free_kind s w alone rest r)

-- where a cell can be used again, that comes first
abbrev pub step_or : Option ReuseStep → Option DueStep → Option DueStep
step_or None next = next
step_or (Some step) next = Some (Reuses step)

-- by the command that the actor has open, if it has one
abbrev pub command_step : Setting → World → Bool → List Command → ActorValue → Option OpenCommand → Option DueStep
command_step s w alone rest a None = step_or (reuse_due w a) (free_step s w alone rest a.role)
command_step s w alone rest a (Some c) = option_map AtWork (work_due s w (ledger_in (w.cells ledger_cell)).history alone a c.of c.work)

-- the cells of a job stay in the purse; all others that are left in it go back
abbrev pub purse_step : Setting → World → Bool → List Command → ActorValue → Option DueStep
purse_step s w alone rest a = if is_none a.job && not (is_empty a.purse) then Some (AtPart (Tree GiveBack)) else command_step s w alone rest a a.command

-- by the part that the actor is at, if it is at one
abbrev pub actor_step : Setting → World → Bool → List Command → ActorValue → Option ErrandValue → Option DueStep
actor_step s w alone rest a None = purse_step s w alone rest a
actor_step s w alone rest a (Some e) = option_map AtPart (part_due s w a e)

-- where these are the rests of the streams, by session
abbrev pub step_due_by : Setting → World → (ℕ → List Command) → ℕ → Option DueStep
step_due_by s w rest n = actor_step s w (is_alone s w rest n) (rest n) (w.actors n) (w.actors n).errand

-- what is due for an actor while a phase runs
abbrev pub step_due : Setting → PhaseRun → World → ℕ → Option DueStep
step_due s p w n = step_due_by s w (rest_of p (ledger_in (w.cells ledger_cell)).history) n

-- What is done.

-- what is due, where it can be made
abbrev pub step_where : Bool → Option DueStep → Option DueStep
step_where may due = if may then due else None

-- what the actor does where that waits for nothing, if it is its turn
abbrev pub step_if_free : Setting → PhaseRun → World → ℕ → Option DueStep
step_if_free s p w n = step_where (can s p w n) (step_due s p w n)

-- what the actor does, if it can make the step that is due for it
abbrev pub due_step : Bool → Setting → PhaseRun → World → ℕ → Option DueStep
due_step in_order s p w n = step_where (can_step in_order s p w n) (step_due s p w n)

-- What a step tells.

-- it is of this kind; a command begins by one of the kinds that begin one, where none is open
abbrev pub IsOfKind : DueStep → ActorValue → Kind → Type 0
IsOfKind Begins a k = (a.command ≡ None) × (may_begin k ≡ true)
IsOfKind (Takes worker) a k = (a.role ≡ role.Hand worker) × (k ≡ TakePart)
IsOfKind (Reuses step) a k = (a.command ≡ None) × (k ≡ Reuse)
IsOfKind (AtPart due) a k = k ≡ due_kind due
IsOfKind (AtWork due) a k = k ≡ work_due_kind due

-- the numbers of an open command are bytes
abbrev pub KnowsBytes : (servers : ℕ) → ActorValue → DueStep → Type 0
KnowsBytes servers a (AtWork due) = (c : OpenCommand) → a.command ≡ Some c → AreBytes servers c.work
KnowsBytes servers a step = ⊤
