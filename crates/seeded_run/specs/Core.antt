-- A script's core as one thread holds it, as vectors of cells and actors.
use Rattle.std.specs.Prelude.{ℕ, ◌≡◌, List, length, Option}
use Rattle.dim_hierarchy.specs.Dimension.{Dimension}
use Rattle.row_ledger.specs.declared.settings.Use.{Use}
use Rattle.core_pages.specs.volap_cell.specs.{Setting.{Setting, actor_count, cell_count}, State.{IsWorldOf, Stepped}, Steps.Inv, World.World, declared.actor.Actor.Actor, declared.cell.Cell.Cell, declared.kind.Kind.Kind}
use Rattle.script_roles.specs.Roles.{AreScriptRoles}
use Rattle.seeded_run.specs.Instead.{StandsFor}

-- the vectors are this state, of a core for these dimensions and settings and for a script's actors, which meets the invariant
pub record IsCore (h : List Dimension) (with : Use) (cells : List (Option Cell)) (actors : List (Option Actor)) (s : Setting) (w : World) : Type 0 where
  pub hierarchy : s.hierarchy ≡ h
  pub servers : s.servers ≡ with.servers
  pub workers : s.workers ≡ with.workers
  pub stock : s.stock_cells ≡ with.cells
  pub roles : AreScriptRoles s
  pub count : length actors ≡ actor_count s
  pub places : length cells ≡ cell_count s
  pub is : IsWorldOf cells actors w
  pub inv : Inv s w

-- The same, whatever its actors are there for.
pub record IsStateOf (h : List Dimension) (with : Use) (cells : List (Option Cell)) (actors : List (Option Actor)) (s : Setting) (w : World) : Type 0 where
  pub hierarchy : s.hierarchy ≡ h
  pub servers : s.servers ≡ with.servers
  pub workers : s.workers ≡ with.workers
  pub stock : s.stock_cells ≡ with.cells
  pub count : length actors ≡ actor_count s
  pub places : length cells ≡ cell_count s
  pub is : IsWorldOf cells actors w
  pub inv : Inv s w

pub record HasState (h : List Dimension) (with : Use) (cells : List (Option Cell)) (actors : List (Option Actor)) : Type 0 where
  pub setting : Setting
  pub world : World
  pub is_state : IsStateOf h with cells actors setting world

pub record HasCore (h : List Dimension) (with : Use) (cells : List (Option Cell)) (actors : List (Option Actor)) : Type 0 where
  pub setting : Setting
  pub world : World
  pub is_core : IsCore h with cells actors setting world

-- the vectors after a step of the actor, where one of this kind was due, from what they were
abbrev pub StepsOn : List Dimension → Kind → ℕ → List (Option Cell) → List (Option Actor) → List (Option Cell) → List (Option Actor) → Type 0
StepsOn h due n cells actors cells_now actors_now = (k : Kind) × Stepped h k n cells actors cells_now actors_now × StandsFor due k
