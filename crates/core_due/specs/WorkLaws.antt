-- Laws of what is due for an actor with an open command.
use Rattle.std.specs.Prelude.{ℕ, ◌≡◌, [], Bool, true, List, Some, None, option_map}
use Rattle.core_due.specs.{Due.{desk_of, work_kind}, Look.{history_at, setting_by, world_by}, Ready.IsStateOf, Wants.is_drained, Works.{work_due, work_due_kind}, WorksReady.{AreBytes, IsInsteadPrepared, IsInsteadReady, IsShowing, IsWorkAsked, IsWorkPrepared, IsWorkReady}, declared.works.WorkDue.WorkDue}
use Rattle.core_due.specs.declared.works.WorkDue.TheVariants.{Shows}
use Rattle.core_steps.specs.Steps.{IsSame}
use Rattle.dim_hierarchy.specs.Dimension.{Dimension}
use Rattle.row_ledger.specs.{declared.class.Subject.Subject, declared.event.Event.Event, declared.settings.Use.Use}
use Rattle.core_steps.specs.volap_cell.specs.{ImageKinds.doing, Setting.Setting, Steps.{Inv, history_in}, Values.ActorValue, World.World, declared.command.Work.Work, declared.state.State.State}

-- an actor with this command is at no part, and waits for no inserts
pub record IsAtWork (w : World) (n of : ℕ) (work : Work) : Type 0 where
  pub command : (w.actors n).command ≡ doing of work
  pub free : (w.actors n).errand ≡ None
  pub waits : is_drained w (w.actors n).job ≡ true

-- What is due is of the kind that is due.
abbrev pub WorkKindLaw : Type 0
WorkKindLaw = (s : Setting) (w : World) (n of : ℕ) (work : Work) (history : List Event) (alone : Bool) → Inv s w → (w.actors n).command ≡ doing of work
    → option_map work_due_kind (work_due s w history alone (w.actors n) of work) ≡ work_kind s history alone (desk_of s w (w.actors n).role) (w.actors n) of work

-- What it asks is so, in whatever state it is due.
abbrev pub WorkAskedLaw : Type 0
WorkAskedLaw = (s : Setting) (w : World) (n of : ℕ) (work : Work) (alone : Bool) (due : WorkDue) → Inv s w → IsAtWork w n of work → AreBytes s.servers work
    → work_due s w (history_in w) alone (w.actors n) of work ≡ Some due → IsWorkAsked s w n due

-- A page is shown only where everyone else is idle.
abbrev pub ShowLaw : Type 0
ShowLaw = (s : Setting) (w : World) (n of : ℕ) (work : Work) (history : List Event) (alone : Bool) (subject : Subject) → (w.actors n).command ≡ doing of work → IsShowing w n subject
    → work_due s w history alone (w.actors n) of work ≡ Some (Shows subject) → alone ≡ true

-- What a thread sees of a state that it holds tells what is due in it.
abbrev pub WorkSeenLaw : Type 0
WorkSeenLaw = (h : List Dimension) (with : Use) (state : State) (s : Setting) (w : World) (alone : Bool) (a : ActorValue) (of : ℕ) (work : Work) → IsStateOf h with state s w
    → work_due (setting_by [] with) (world_by state.cells.items) (history_at state.cells.items) alone a of work ≡ work_due s w (history_in w) alone a of work

-- The cells are there too; and so it is of what is done in its place where memory is wanting.
abbrev pub WorkPreparedLaw : Type 0
WorkPreparedLaw = (s : Setting) (w : World) (n of : ℕ) (work : Work) (due : WorkDue) → Inv s w → (w.actors n).command ≡ doing of work → AreBytes s.servers work
    → IsWorkAsked s w n due → IsWorkPrepared s w n due × IsInsteadPrepared s w n work due

-- A thread that holds the state can make what is prepared in it.
abbrev pub WorkReadyLaw : Type 0
WorkReadyLaw = (h : List Dimension) (with : Use) (state : State) (s : Setting) (w : World) (n : ℕ) (work : Work) (due : WorkDue) → IsStateOf h with state s w
    → (IsWorkPrepared s w n due → IsWorkReady h state n due) × (IsInsteadPrepared s w n work due → IsInsteadReady h state n work due)

-- Where a step found no memory, the state is the same one still.
abbrev pub StillLaw : Type 0
StillLaw = (h : List Dimension) (with : Use) (was now : State) (s : Setting) (w : World) → IsStateOf h with was s w → IsSame was now → IsStateOf h with now s w
