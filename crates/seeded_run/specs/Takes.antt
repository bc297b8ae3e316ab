-- Whether a step can be made, as one thread sees it that holds a core's cells and actors.
use Rattle.std.specs.{Option.option_map_or, Prelude.{ℕ, ⊤, ◌≡◌, ◌==◌, ◌||◌, Bool, true, false, not, Option, Some, None, List, length, get_or, option_and_then}}
use Rattle.dc_node.specs.Block.{IsBodyOf}
use Rattle.dim_hierarchy.specs.{Dimension.Dimension, Rows.IsRowOf}
use Rattle.query_router.specs.Desk.{DeskValue}
use Rattle.row_ledger.specs.declared.settings.Use.{Use}
use Rattle.script_form.specs.declared.script.Command.{Command}
use Rattle.script_form.specs.declared.script.Command.TheVariants as script
use Rattle.script_run.specs.Phases.{closes}
use Rattle.core_pages.specs.volap_cell.specs.{Cells.{block_in, way_in}, Errands.way_of, Values.{ErrandValue, OfRow, TaskValue, actor_of}, World.World, declared.actor.Actor.Actor, declared.cell.Cell.Cell, declared.errand.RowErrand.RowErrand, declared.errand.Way.TheVariants.Carried, declared.kind.Kind.Kind, declared.role.Role.TheVariants.Session}
use Rattle.core_due.specs.{Due.{all_below, is_empty_desk}, Look.{cell_at, setting_by, world_by}, Wants.{child_of, is_carried_at, wanted_of}, declared.parts.PartDue.PartDue}
use Rattle.core_due.specs.declared.parts.PartDue.TheVariants.{Descends, Enters, Tree}
use Rattle.core_due.specs.core_steps.specs.declared.trees.TreeStep.TheVariants.{VisitBlock}

-- a row and the block at which it is carried are of the dimensions
pub record CanPick (h : List Dimension) (cells : List (Option Cell)) (e : ErrandValue) : Type 0 where
  pub body : (r : RowErrand) (gate block : ℕ) → e.task ≡ OfRow r → r.way ≡ Carried gate block → IsBodyOf h (block_in (cell_at cells block)).body
  pub row : (r : RowErrand) (gate block : ℕ) → e.task ≡ OfRow r → r.way ≡ Carried gate block → IsRowOf h r.row

-- a row that goes down from a block, and that block, are of the dimensions
abbrev pub FitsDue : (h : List Dimension) (cells : List (Option Cell)) (e : ErrandValue) → PartDue → Type 0
FitsDue h cells e (Descends block) = IsBodyOf h (block_in (cell_at cells block)).body × ((r : RowErrand) → e.task ≡ OfRow r → IsRowOf h r.row)
FitsDue h cells e due = ⊤

-- The block that a step wants, by what is due.

-- the child of a block that comes first for a row
abbrev pub child_for : List Dimension → World → TaskValue → (block : ℕ) → Option ℕ
child_for h w (OfRow r) block = child_of h r.row (block_in (w.cells block))
child_for h w _ block = None

abbrev pub wanted_for : List Dimension → World → ErrandValue → PartDue → Option ℕ
wanted_for h w e (Enters map gate) = Some (way_in (w.cells gate)).root
wanted_for h w e (Descends block) = child_for h w e.task block
wanted_for h w e (Tree (VisitBlock block)) = Some block
wanted_for h w e _ = None

-- who isn't there carries no row
abbrev pub carries_at : Option Actor → ℕ → Bool
carries_at None y = false
carries_at (Some a) y = is_carried_at y (way_of (actor_of a).errand)

-- nobody but this actor carries a row at the block
abbrev pub free_by : List (Option Actor) → ℕ → ℕ → Bool
free_by actors n y = all_below (length actors) (λ a. a == n || not (carries_at (get_or actors a None) y))

-- a query begins at an empty desk
abbrev pub HasDeskFor : Option DeskValue → Option Command → Type 0
HasDeskFor desk (Some (script.Query question)) = is_empty_desk desk ≡ true
HasDeskFor desk _ = ⊤

-- a query is next for a session alone
abbrev pub AsksHere : Option Actor → Option Command → Type 0
AsksHere (Some a) (Some (script.Query question)) = (server : ℕ) × (a.role ≡ Session server)
AsksHere o next = ⊤

-- there is a next command, which closes nothing or finds everyone else idle
abbrev pub may_next : Option Command → Bool → Bool
may_next None alone = false
may_next (Some c) alone = not (closes c) || alone

-- what a step of this kind wants at a part, if it is one at a part, is free
abbrev pub is_free_by : List Dimension → Use → List (Option Cell) → List (Option Actor) → ℕ → Option ErrandValue → Kind → Bool
is_free_by h with cells actors n errand k =
    option_map_or (free_by actors n) (option_and_then (λ (e : ErrandValue). wanted_of (setting_by h with) (world_by cells) e k) errand) true
