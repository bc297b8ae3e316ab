-- What is told of a step that an actor has made because it was due.
use Rattle.std.specs.Prelude.{ℕ, ◌≡◌, ◌≢◌, ◌⊎◌, true, List}
use Rattle.core_due.specs.core_steps.specs.Steps.{IsFurther}
use Rattle.dim_hierarchy.specs.Dimension.{Dimension}
use Rattle.core_pages.specs.volap_cell.specs.{State.IsWorldOf, Steps.history_in, World.World, declared.kind.Kind.Kind, declared.kind.Kind.TheVariants.Note, declared.state.State.State}
use Rattle.core_told.specs.Told.{is_of_part}
use Rattle.seeded_run.specs.Instead.{StandsFor}

-- the actor has gone on with a part or with its purse, where a step of this kind was due
abbrev pub GoesOnAtPart : (h : List Dimension) (due : Kind) (n : ℕ) (was now : State) → Type 0
GoesOnAtPart h due n was now = (k : Kind) × (is_of_part k ≡ true) × IsFurther h k n was now × StandsFor due k

-- a step of this kind is no note, or it has told the history something
abbrev pub TellsIfNote : (k : Kind) (was now : State) → Type 0
TellsIfNote k was now =
    (k ≢ Note) ⊎ ((w v : World) → IsWorldOf was.cells.items was.actors.items w → IsWorldOf now.cells.items now.actors.items v → history_in v ≢ history_in w)

-- the actor has gone on with its command, where a step of this kind was due
abbrev pub GoesOnWithCommand : (h : List Dimension) (due : Kind) (n : ℕ) (was now : State) → Type 0
GoesOnWithCommand h due n was now = (k : Kind) × IsFurther h k n was now × TellsIfNote k was now × StandsFor due k
