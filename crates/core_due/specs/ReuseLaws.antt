-- What is known of the step by which an actor without a command uses a cell again.
use Rattle.std.specs.Prelude.{ℕ, ◌≡◌, ◌≢◌, ⊤, Some, None, List}
use Rattle.core_due.specs.{Look.world_by, Ready.{IsPrepared, IsStateOf}, Reuses.reuse_due}
use Rattle.core_steps.specs.{Reuses.{reuse_asks, reuse_places}, Steps.MayMake, declared.reuses.ReuseStep.ReuseStep}
use Rattle.dim_hierarchy.specs.Dimension.{Dimension}
use Rattle.row_ledger.specs.declared.settings.Use.{Use}
use Rattle.core_steps.specs.shard_store.specs.declared.gate.Phase.TheVariants.{Gone}
use Rattle.core_steps.specs.volap_cell.specs.{Ghost.Ghost, Invariant.InvWith, Setting.Setting, Steps.Inv, Values.ActorValue, View.view, World.World, declared.role.Role.TheVariants.Admin, declared.state.State.State}

abbrev pub IsReusePrepared : Setting → World → ℕ → ReuseStep → Type 0
IsReusePrepared s w n step = IsPrepared s w n (reuse_places step) (reuse_asks step s.hierarchy) ⊤

abbrev pub MayMakeReuse : List Dimension → State → ℕ → ReuseStep → Type 0
MayMakeReuse h state n step = MayMake h state n (reuse_places step) (reuse_asks step h) (λ s v m. ⊤)

-- it is due for an actor without a command
pub record IsReuseDue (w : World) (n : ℕ) (step : ReuseStep) : Type 0 where
  pub no_command : (w.actors n).command ≡ None
  pub due : reuse_due w (w.actors n) ≡ Some step

-- what it asks is so, and its cells are there, which nobody else must keep
abbrev pub ReusePreparedLaw : Type 0
ReusePreparedLaw = (s : Setting) (w : World) (n : ℕ) (step : ReuseStep) → Inv s w → IsReuseDue w n step → IsReusePrepared s w n step

-- it is seen in a state that one thread holds, which may make it
abbrev pub ReuseSeenLaw : Type 0
ReuseSeenLaw = (h : List Dimension) (with : Use) (state : State) (s : Setting) (w : World) (a : ActorValue) → IsStateOf h with state s w → reuse_due (world_by state.cells.items) a ≡ reuse_due w a

abbrev pub ReuseReadyLaw : Type 0
ReuseReadyLaw = (h : List Dimension) (with : Use) (state : State) (s : Setting) (w : World) (n : ℕ) (step : ReuseStep) → IsStateOf h with state s w → IsReuseDue w n step → MayMakeReuse h state n step

-- Where nobody is at a part, none is due for the administrator only where no gate is gone.
abbrev pub NoneGoneLaw : Type 0
NoneGoneLaw = (s : Setting) (w : World) (g : Ghost) → InvWith s (view s w) g → (n : ℕ) → (w.actors n).role ≡ Admin → ((a : ℕ) → (w.actors a).errand ≡ None) → reuse_due w (w.actors n) ≡ None → (c : ℕ) → (view s w).phases c ≢ Some Gone
