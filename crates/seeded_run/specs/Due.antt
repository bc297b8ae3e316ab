-- Which kind of step is due for an actor: a function of its fields, of what the streams of the phase still have, and of the cells.
-- An actor first goes on with the part that it is at, then empties its purse, then goes on with its command; and without a command it
-- uses cells again, if it is the administrator and can, and at last begins the next one. Where it waits for others none is due, but where it waits for a block, or for a gate's inserts: of that see `can`.
use Rattle.std.specs.Prelude.{ℕ, ◌==◌, ◌&&◌, ◌||◌, Bool, true, not, Option, Some, None, is_none, if◌then◌else◌, List, [], ◌∷◌}
use Rattle.core_due.specs.{Due.{all_below, desk_of, does_nothing, errand_kind, hand_kind, is_empty, kind_at_empty, work_kind}, Reuses.reuse_due}
use Rattle.core_due.specs.core_steps.specs.declared.reuses.ReuseStep.{ReuseStep}
use Rattle.dim_hierarchy.specs.Dimension.{Dimension}
use Rattle.query_router.specs.Desk.{DeskValue}
use Rattle.script_form.specs.declared.script.Command.{Command}
use Rattle.script_form.specs.declared.script.Command.TheVariants as script
use Rattle.script_run.specs.{Phases.closes, Runs.first_unknown}
use Rattle.core_pages.specs.volap_cell.specs.{Cells.ledger_in, Setting.{Setting, actor_count, ledger_cell}, Values.{ActorValue, ErrandValue}, World.World, declared.command.Command.Command as OpenCommand, declared.kind.Kind.Kind, declared.role.Role.Role}
use Rattle.core_pages.specs.volap_cell.specs.declared.kind.Kind.TheVariants as kind
use Rattle.core_pages.specs.volap_cell.specs.declared.role.Role.TheVariants as role
use Rattle.seeded_run.specs.Rests.{PhaseRun, rest_of}

-- Commands that begin.

-- no name is unknown
abbrev pub are_known : List Dimension → Command → Bool
are_known h c = is_none (first_unknown h c)

-- what begins a command, of whose names all are known or one isn't
abbrev pub first_kind : Option DeskValue → Command → Bool → Option Kind
first_kind desk (script.Insert new) true = Some kind.BeginInsert
first_kind desk (script.Query question) true = kind_at_empty desk kind.BeginQuery
first_kind desk c known = Some kind.Note

-- a command that closes its phase begins when all others are over and everyone else is idle
abbrev pub next_kind : List Dimension → Bool → Option DeskValue → List Command → Option Kind
next_kind h alone desk [] = None
next_kind h alone desk (c ∷ more) = if closes c && not alone then None else first_kind desk c (are_known h c)

-- by the role of an actor without a command
abbrev pub free_kind : Setting → World → Bool → List Command → Role → Option Kind
free_kind s w alone rest (role.Hand worker) = hand_kind s w worker
free_kind s w alone rest r = next_kind s.hierarchy alone (desk_of s w r) rest

-- All of it.

-- all other actors are idle, with nothing left in their streams
abbrev pub is_alone : Setting → World → (ℕ → List Command) → ℕ → Bool
is_alone s w rest n = all_below (actor_count s) (λ a. a == n || (does_nothing (w.actors a) && is_empty (rest a)))

-- where a cell can be used again, that comes first
abbrev pub kind_or : Option ReuseStep → Option Kind → Option Kind
kind_or None next = next
kind_or (Some step) next = Some kind.Reuse

-- by the command that the actor has open, if it has one
abbrev pub command_kind : Setting → World → Bool → List Command → ActorValue → Option OpenCommand → Option Kind
command_kind s w alone rest a None = kind_or (reuse_due w a) (free_kind s w alone rest a.role)
command_kind s w alone rest a (Some c) = work_kind s (ledger_in (w.cells ledger_cell)).history alone (desk_of s w a.role) a c.of c.work

-- the cells of a job stay in the purse; all others that are left in it go back
abbrev pub purse_kind : Setting → World → Bool → List Command → ActorValue → Option Kind
purse_kind s w alone rest a = if is_none a.job && not (is_empty a.purse) then Some kind.Refill else command_kind s w alone rest a a.command

-- by the part that the actor is at, if it is at one
abbrev pub actor_kind : Setting → World → Bool → List Command → ActorValue → Option ErrandValue → Option Kind
actor_kind s w alone rest a None = purse_kind s w alone rest a
actor_kind s w alone rest a (Some e) = errand_kind s w a e

-- where these are the rests of the streams, by session
abbrev pub due_by : Setting → World → (ℕ → List Command) → ℕ → Option Kind
due_by s w rest n = actor_kind s w (is_alone s w rest n) (rest n) (w.actors n) (w.actors n).errand

-- the kind that is due for an actor while a phase runs
abbrev pub due : Setting → PhaseRun → World → ℕ → Option Kind
due s p w n = due_by s w (rest_of p (ledger_in (w.cells ledger_cell)).history) n
