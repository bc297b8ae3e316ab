-- What is due for an actor, and what it does, from its place in the vectors.
use Rattle.std.proofs.Common.{◌≡◌, ◌∙◌, ℕ, ◌<◌, Bool, List, length, get_or, Option, Some, None, ap}
use Rattle.std.specs.Prelude.{slice_get}
use Rattle.dim_hierarchy.specs.Dimension.{Dimension}
use Rattle.row_ledger.specs.declared.settings.Use.{Use}
use Rattle.script_form.specs.declared.script.Command.{Command}
use Rattle.core_pages.specs.volap_cell.proofs.Cells.States.{same-actor}
use Rattle.core_pages.specs.volap_cell.specs.{Setting.Setting, Values.{ActorValue, ErrandValue, actor_of}, World.World, declared.actor.Actor.Actor, declared.cell.Cell.Cell}
use Rattle.core_due.specs.Look.{cells_only, setting_by, world_by}
use Rattle.seeded_run.specs.{Core.IsCore, Due.{actor_kind, due_by, is_alone}, DueSteps.{actor_step, step_due_by}, Look.{IsTold, ahead, alone_by}}
use Rattle.seeded_run.proofs.{Holding.Others.alone-seen, Seen.{core-seen, kind-told, known_by, step-told}}

module _ (h : List Dimension) (with : Use) (cells : List (Option Cell)) (actors : List (Option Actor)) (s : Setting) (w : World) (n : ℕ) (core : IsCore h with cells actors s w) (low : n < length actors)
    (rest : ℕ → List Command) (next : Option Command) (left : ℕ) (a : Actor) (told : IsTold s rest n next left) (at : get_or actors n None ≡ Some a) where
  -- what is told of an actor by no more than what is seen
  seen-at : {X : Type 0} (f : Setting → World → Bool → List Command → ActorValue → Option ErrandValue → X)
      → f s w (is_alone s w rest n) (rest n) (actor_of a) (actor_of a).errand ≡ f (known_by s.hierarchy s.servers s.workers) (cells_only w.cells) (is_alone s w rest n) (ahead (slice_get (rest n) 0)) (actor_of a) (actor_of a).errand
      → f s w (is_alone s w rest n) (rest n) (w.actors n) (w.actors n).errand ≡ f (setting_by h with) (world_by cells) (alone_by actors n next left) (ahead next) (actor_of a) (actor_of a).errand
  seen-at f known =
      ap (λ (v : ActorValue). f s w (is_alone s w rest n) (rest n) v v.errand) (same-actor cells actors w n a core.is at)
      ∙ known
      ∙ core-seen h with cells actors s w core (λ t v. f t v (is_alone s w rest n) (ahead (slice_get (rest n) 0)) (actor_of a) (actor_of a).errand)
      ∙ ap (λ b. f (setting_by h with) (world_by cells) b (ahead (slice_get (rest n) 0)) (actor_of a) (actor_of a).errand) (alone-seen s w rest actors n next left core.count core.is.actor low told)
      ∙ ap (λ o. f (setting_by h with) (world_by cells) (alone_by actors n next left) (ahead o) (actor_of a) (actor_of a).errand) told.next_is

  pub due-seen : due_by s w rest n ≡ actor_kind (setting_by h with) (world_by cells) (alone_by actors n next left) (ahead next) (actor_of a) (actor_of a).errand
  due-seen = seen-at actor_kind (kind-told s w (is_alone s w rest n) (rest n) (actor_of a) (actor_of a).errand)

  pub step-seen : step_due_by s w rest n ≡ actor_step (setting_by h with) (world_by cells) (alone_by actors n next left) (ahead next) (actor_of a) (actor_of a).errand
  step-seen = seen-at actor_step (step-told s w (is_alone s w rest n) (rest n) (actor_of a) (actor_of a).errand)
