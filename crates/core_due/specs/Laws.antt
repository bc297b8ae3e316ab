-- What is known of what is due for parts: of which kind it is, what it asks, and that a state that one thread holds may make it.
use Rattle.std.specs.Prelude.{ℕ, ◌≡◌, true, List, [], option_map, Some}
use Rattle.core_due.specs.{Due.errand_kind, Look.{setting_by, world_by}, Parts.{due_kind, due_may_fail, ending, part_due}, Ready.{CanDescend, HasPrepared, HasReady, HasSpares, IsAsked, IsDescending, IsEntering, IsFreeFor, IsPartPrepared, IsPartReady, IsStateOf, IsTreePrepared, MayMakePart, MayMakeTree}, Rows.{descent_of, entrance_of}, Wants.meets, declared.parts.PartDue.PartDue}
use Rattle.core_due.specs.declared.parts.PartDue.TheVariants.{Tree}
use Rattle.core_steps.specs.{Steps.IsSame, Trees.tree_kind, declared.trees.TreeStep.TreeStep, declared.trees.TreeStep.TheVariants.GiveBack}
use Rattle.dim_hierarchy.specs.Dimension.{Dimension}
use Rattle.row_ledger.specs.declared.settings.Use.{Use}
use Rattle.core_steps.specs.volap_cell.specs.{Setting.Setting, ShardKinds.pin_of, Steps.Inv, Values.{ActorValue, ErrandValue}, World.World, declared.kind.Kind.TheVariants.{Down, EnterTree}, declared.state.State.State}

-- Of every state that meets the invariant.

-- the step that is due for a part is of the kind that is due for it
abbrev pub PartKindLaw : Type 0
PartKindLaw = (s : Setting) (w : World) (a : ActorValue) (e : ErrandValue) → option_map due_kind (part_due s w a e) ≡ errand_kind s w a e

-- this is due for an actor's part
abbrev pub IsDueAt : Setting → World → ℕ → ErrandValue → PartDue → Type 0
IsDueAt s w n e due = ((w.actors n).errand ≡ Some e) × (part_due s w (w.actors n) e ≡ Some due)

-- what its step asks is so
abbrev pub PartAskedLaw : Type 0
PartAskedLaw = (s : Setting) (w : World) (n : ℕ) (e : ErrandValue) (due : PartDue) → Inv s w → IsDueAt s w n e due → IsAsked s w n due

-- and its cells are there, which nobody else must keep where what it wants is free
abbrev pub PartPreparedLaw : Type 0
PartPreparedLaw = (s : Setting) (w : World) (n : ℕ) (e : ErrandValue) (due : PartDue) → Inv s w → IsDueAt s w n e due → IsPartPrepared s w n due

-- as it is where its kind can be made
abbrev pub PartFreeLaw : Type 0
PartFreeLaw = (s : Setting) (w : World) (n : ℕ) (e : ErrandValue) (step : TreeStep) → Inv s w → IsDueAt s w n e (Tree step) → meets s w n (tree_kind step) ≡ true → IsFreeFor w n step

-- a row whose way is to be picked has a step
abbrev pub RowPreparedLaw : Type 0
RowPreparedLaw = (s : Setting) (w : World) (n : ℕ) → Inv s w
    → ((block : ℕ) → IsDescending w n block → HasPrepared s w n Down (descent_of s.hierarchy w (w.actors n) block))
    × ((map gate : ℕ) → IsEntering s w n map gate → HasPrepared s w n EnterTree (entrance_of w (w.actors n).purse map gate))

-- and so have spares of an actor without a part and a job: they go back to the stock
abbrev pub SparesPreparedLaw : Type 0
SparesPreparedLaw = (s : Setting) (w : World) (n : ℕ) → Inv s w → HasSpares (w.actors n) → IsTreePrepared s w n GiveBack

-- Of a state that one thread holds.

-- what is due is seen
abbrev pub PartSeenLaw : Type 0
PartSeenLaw = (h : List Dimension) (with : Use) (state : State) (s : Setting) (w : World) → IsStateOf h with state s w → (a : ActorValue) (e : ErrandValue)
    → part_due s w a e ≡ part_due (setting_by [] with) (world_by state.cells.items) a e

-- what is due may be made, where what it wants is free
abbrev pub PartReadyLaw : Type 0
PartReadyLaw = (h : List Dimension) (with : Use) (state : State) (s : Setting) (w : World) (n : ℕ) (e : ErrandValue) (due : PartDue) → IsStateOf h with state s w → IsDueAt s w n e due → IsPartReady h state w n due

-- so may the step of a row whose way is picked
abbrev pub RowReadyLaw : Type 0
RowReadyLaw = (h : List Dimension) (with : Use) (state : State) (s : Setting) (w : World) (n : ℕ) → IsStateOf h with state s w
    → ((block : ℕ) → IsDescending w n block → CanDescend h state.cells.items (w.actors n) block × HasReady h state w n (descent_of h (world_by state.cells.items) (w.actors n) block))
    × ((map gate : ℕ) → IsEntering s w n map gate → HasReady h state w n (entrance_of (world_by state.cells.items) (w.actors n).purse map gate))

-- so may the spares of an actor without a part and a job be given back
abbrev pub SparesReadyLaw : Type 0
SparesReadyLaw = (h : List Dimension) (with : Use) (state : State) (s : Setting) (w : World) (n : ℕ) → IsStateOf h with state s w → HasSpares (w.actors n) → MayMakeTree h state n GiveBack

-- where a step found no memory, it is the same state still, and the part may end
abbrev pub PartEndsLaw : Type 0
PartEndsLaw = (h : List Dimension) (with : Use) (state now : State) (s : Setting) (w : World) (n : ℕ) (e : ErrandValue) (due : PartDue) → IsStateOf h with state s w → IsDueAt s w n e due → due_may_fail due ≡ true → IsSame state now
    → IsStateOf h with now s w × MayMakePart h now n (ending s e (pin_of e.task))
