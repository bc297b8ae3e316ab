-- What a step of an actor at its seat comes to.
use Rattle.std.specs.Prelude.{ℕ, ◌≡◌, List, Option}
use Rattle.volap_turns.specs.core_counts.specs.Counting.{went_after}
use Rattle.core_due.specs.core_steps.specs.{Places.values, Steps.Went}
use Rattle.dim_hierarchy.specs.Dimension.{Dimension}
use Rattle.seat_steps.specs.{Floors.{AreTold, kept_by}, declared.floor.Player.Player}
use Rattle.turn_table.specs.{Numbered.{after_first, numbers_of, value_of}, Views.seen_of}
use Rattle.core_due.specs.volap_cell.specs.{Cells.CellValue, Setting.{Setting, ledger_cell}, Values.{ActorValue, actor_of}, World.World, declared.cell.Cell.Cell, declared.kind.Kind.Kind}
use Rattle.volap_turns.specs.{Rows.cells_for, Rule.history_of}

-- whatever the step makes of its cells and its actor, the cell that the actor then must keep is held behind the first
abbrev pub IsKeptBy : List Dimension → Kind → (Setting → World → ℕ → Type 0) → (ActorValue → (was now : List (Option CellValue)) → Type 0) → List (Option ℕ) → Player → Type 0
IsKeptBy h kind Sees Tells row p =
    (b : ActorValue) (now : List (Option Cell)) → Went h kind Sees row (cells_for p.seat.view.held row) now (actor_of p.actor) b
    → Tells (actor_of p.actor) (values (cells_for p.seat.view.held row)) (values now) → AreTold (after_first p.seat.ranks) (kept_by b)

-- The step was made over the held cells, which now are these, and was counted. Who held the ledger has seen its event.
pub record HasMade (h : List Dimension) (kind : Kind) (Sees : Setting → World → ℕ → Type 0) (Tells : ActorValue → (was now : List (Option CellValue)) → Type 0) (row : List (Option ℕ)) (was now : Player) : Type 0 where
  pub new : List (ℕ × Cell)
  pub numbers : numbers_of new ≡ numbers_of was.seat.view.held
  pub number : now.number ≡ was.number
  pub went : Went h kind Sees row (cells_for was.seat.view.held row) (cells_for new row) (actor_of was.actor) (actor_of now.actor)
  pub told : Tells (actor_of was.actor) (values (cells_for was.seat.view.held row)) (values (cells_for new row))
  pub seen : now.seat.view.seen ≡ seen_of history_of (value_of new ledger_cell) was.seat.view.seen
  pub counted : now.actor.went ≡ went_after (actor_of was.actor) (actor_of now.actor) was.actor.went
