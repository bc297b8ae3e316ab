-- Whether an actor can make the step that is due for it: what it wants is free, and where the commands go in order it is its turn.
use Rattle.std.specs.{Option.option_map_or, Prelude.{ℕ, ◌==◌, ◌&&◌, Bool, true, false, if◌then◌else◌, List, Option, Some, None}}
use Rattle.core_due.specs.Wants.{meets}
use Rattle.seeded_turns.specs.Drawn.{able}
use Rattle.core_pages.specs.volap_cell.specs.{Cells.ledger_in, Setting.{Setting, actor_count, ledger_cell}, World.World, declared.kind.Kind.Kind}
use Rattle.core_pages.specs.volap_cell.specs.declared.kind.Kind.TheVariants as kind
use Rattle.seeded_run.specs.{Due.due, Rests.{PhaseRun, first_open}}

-- the actor can make the step that is due for it
abbrev pub can : Setting → PhaseRun → World → ℕ → Bool
can s p w n = option_map_or (meets s w n) (due s p w n) false

-- whether a kind uses a cell again
abbrev pub is_reuse : Option Kind → Bool
is_reuse (Some kind.Reuse) = true
is_reuse _ = false

-- Where the commands go one after the other, only the actor of the first one that isn't over can step; and when all are over, who uses
-- cells again. The session of a command is the number of its actor, so hands never can.

abbrev pub is_turn_of : Option ℕ → ℕ → Option Kind → Bool
is_turn_of (Some first) n k = first == n
is_turn_of None n k = is_reuse k

abbrev pub can_in_order : Setting → PhaseRun → World → ℕ → Bool
can_in_order s p w n = is_turn_of (first_open p (ledger_in (w.cells ledger_cell)).history) n (due s p w n) && can s p w n

abbrev pub can_step : Bool → Setting → PhaseRun → World → ℕ → Bool
can_step in_order s p w n = if in_order then can_in_order s p w n else can s p w n

-- the actors that can step, in the order of their numbers
abbrev pub able_in : Bool → Setting → PhaseRun → World → List ℕ
able_in in_order s p w = able (can_step in_order s p w) (actor_count s)
