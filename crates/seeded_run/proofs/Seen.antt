-- What is due for an actor, and what it does, is a function of what one thread sees that holds all cells and actors.
use Rattle.std.proofs.Common.{◌≡◌, ◌∙◌, ◌&&◌, ℕ, Bool, not, is_none, List, [], ◌∷◌, Option, None, Some, refl, ap}
use Rattle.std.specs.Prelude.{if◌then◌else◌, slice_get}
use Rattle.dim_hierarchy.specs.Dimension.{Dimension}
use Rattle.row_ledger.specs.declared.settings.Use.{Use}
use Rattle.script_form.specs.declared.script.Command.{Command}
use Rattle.core_pages.specs.volap_cell.specs.{Setting.Setting, Values.{ActorValue, ErrandValue}, World.World, declared.actor.Actor.Actor, declared.cell.Cell.Cell, declared.command.Command.Command as Open, declared.kind.Kind.Kind, declared.kind.Kind.TheVariants.Refill, declared.role.Role.Role}
use Rattle.core_due.proofs.{InStates.cells-seen, Released.reuse-told}
use Rattle.core_due.specs.{Due.is_empty, Look.{cells_only, setting_by, world_by}, Reuses.reuse_due, Wants.wanted_of}
use Rattle.core_due.specs.declared.parts.PartDue.TheVariants.{Tree}
use Rattle.core_due.specs.core_steps.specs.declared.trees.TreeStep.TheVariants.{GiveBack}
use Rattle.seeded_run.specs.{Core.IsCore, Due.{actor_kind, command_kind, free_kind, kind_or}, DueSteps.{actor_step, command_step, free_step, step_or}, Look.ahead, declared.turn.DueStep.TheVariants.AtPart}

-- a setting of which no more is known than the dimensions, and how many servers and workers there are
abbrev pub known_by : List Dimension → (servers workers : ℕ) → Setting
known_by h servers workers = record { hierarchy = h; servers = servers; workers = workers; stock_cells = 0; roles = [] }

-- No more is read of a core, and of a stream no more than its next command.
module _ (s : Setting) (w : World) where
  free-told : (alone : Bool) (rest : List Command) (r : Role) → free_kind s w alone rest r ≡ free_kind (known_by s.hierarchy s.servers s.workers) (cells_only w.cells) alone (ahead (slice_get rest 0)) r
  free-told alone [] r = refl
  free-told alone (c ∷ more) r = refl

  free-step-told : (alone : Bool) (rest : List Command) (r : Role) → free_step s w alone rest r ≡ free_step (known_by s.hierarchy s.servers s.workers) (cells_only w.cells) alone (ahead (slice_get rest 0)) r
  free-step-told alone [] r = refl
  free-step-told alone (c ∷ more) r = refl

  module _ (alone : Bool) (rest : List Command) (a : ActorValue) where
    command-told : (o : Option Open) → command_kind s w alone rest a o ≡ command_kind (known_by s.hierarchy s.servers s.workers) (cells_only w.cells) alone (ahead (slice_get rest 0)) a o
    command-told None =
        ap (λ o. kind_or o (free_kind s w alone rest a.role)) (reuse-told w a)
        ∙ ap (kind_or (reuse_due (cells_only w.cells) a)) (free-told alone rest a.role)
    command-told (Some c) = refl

    command-step-told : (o : Option Open) → command_step s w alone rest a o ≡ command_step (known_by s.hierarchy s.servers s.workers) (cells_only w.cells) alone (ahead (slice_get rest 0)) a o
    command-step-told None =
        ap (λ o. step_or o (free_step s w alone rest a.role)) (reuse-told w a)
        ∙ ap (step_or (reuse_due (cells_only w.cells) a)) (free-step-told alone rest a.role)
    command-step-told (Some c) = refl

    pub kind-told : (o : Option ErrandValue) → actor_kind s w alone rest a o ≡ actor_kind (known_by s.hierarchy s.servers s.workers) (cells_only w.cells) alone (ahead (slice_get rest 0)) a o
    kind-told None = ap (λ o. if is_none a.job && not (is_empty a.purse) then Some Refill else o) (command-told a.command)
    kind-told (Some e) = refl

    pub step-told : (o : Option ErrandValue) → actor_step s w alone rest a o ≡ actor_step (known_by s.hierarchy s.servers s.workers) (cells_only w.cells) alone (ahead (slice_get rest 0)) a o
    step-told None = ap (λ o. if is_none a.job && not (is_empty a.purse) then Some (AtPart (Tree GiveBack)) else o) (command-step-told a.command)
    step-told (Some e) = refl

  pub wanted-told : (e : ErrandValue) (k : Kind) → wanted_of s w e k ≡ wanted_of (known_by s.hierarchy s.servers s.workers) (cells_only w.cells) e k
  wanted-told e k = refl

-- A core that one thread holds.
module _ (h : List Dimension) (with : Use) (cells : List (Option Cell)) (actors : List (Option Actor)) (s : Setting) (w : World) (core : IsCore h with cells actors s w) where
  pub setting-seen : known_by s.hierarchy s.servers s.workers ≡ setting_by h with
  setting-seen =
      ap (λ (g : List Dimension). known_by g s.servers s.workers) core.hierarchy
      ∙ ap (λ (k : ℕ). known_by h k s.workers) core.servers
      ∙ ap (λ (k : ℕ). known_by h with.servers k) core.workers

  pub world-seen : cells_only w.cells ≡ world_by cells
  world-seen = ap cells_only (cells-seen cells actors w core.is)

  -- what is told of no more than that is seen
  pub core-seen : {X : Type 0} (f : Setting → World → X) → f (known_by s.hierarchy s.servers s.workers) (cells_only w.cells) ≡ f (setting_by h with) (world_by cells)
  core-seen f = ap (λ (t : Setting). f t (cells_only w.cells)) setting-seen ∙ ap (f (setting_by h with)) world-seen
