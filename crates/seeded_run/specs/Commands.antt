-- What the steps of commands ask and tell in a script's core: which command is the next one and may begin, and what became of the
-- history.
use Rattle.std.specs.Prelude.{ℕ, ◌≡◌, ◌<◌, ◌≤◌, ⊤, Bool, true, false, All, List, ◌∷◌, get_or, length, Option, Some, None}
use Rattle.dim_hierarchy.specs.{Dimension.{Dimension, tree}, Names.IsNamePick, Tree.leaf_level}
use Rattle.row_ledger.specs.{Classes.class_of, Groups.IsCallOf, declared.class.Class.Class, declared.class.Class.TheVariants.Sync, declared.event.Event.Event, declared.settings.Use.Use}
use Rattle.script_form.specs.declared.script.Command.{Command}
use Rattle.script_form.specs.declared.script.Command.TheVariants as script
use Rattle.script_run.specs.{Places.session_of, Runs.{Begins, can_be_refused}}
use Rattle.core_pages.specs.volap_cell.specs.{Setting.Setting, State.{Has, IsWorldOf}, Steps.history_in, Values.actor_of, World.World, declared.actor.Actor.Actor, declared.cell.Cell.Cell, declared.kind.Kind.Kind}
use Rattle.core_pages.specs.volap_cell.specs.declared.kind.Kind.TheVariants as kind
use Rattle.core_due.specs.Wants.{meets}
use Rattle.seeded_run.specs.{Core.IsCore, Due.{are_known, due_by}, Look.HasNames}

-- a step of this kind is due for the actor, and it can be made, where this command is the next one of its stream
pub record IsNextAt (s : Setting) (w : World) (n : ℕ) (c : Command) (k : Kind) : Type 0 where
  pub rest : ℕ → List Command
  pub more : List Command
  pub next : rest n ≡ c ∷ more
  pub due_is : due_by s w rest n ≡ Some k
  pub meets_it : meets s w n k ≡ true

abbrev pub IsNext : (h : List Dimension) (with : Use) (cells : List (Option Cell)) (actors : List (Option Actor)) (n : ℕ) (c : Command) (k : Kind) → Type 0
IsNext h with cells actors n c k = (s : Setting) (w : World) → IsCore h with cells actors s w → IsNextAt s w n c k

-- the history has one event more, by which this command begins
pub record IsBegunBy (with : Use) (h : List Dimension) (c : Command) (before now : List Event) : Type 0 where
  pub event : Event
  pub begins : Begins with h before c event
  pub grows : now ≡ event ∷ before

abbrev pub GoesBy : Use → List Dimension → Command → (cells : List (Option Cell)) (actors : List (Option Actor)) (cells_now : List (Option Cell)) (actors_now : List (Option Actor)) → Type 0
GoesBy with h c cells actors cells_now actors_now = (w now : World) → IsWorldOf cells actors w → IsWorldOf cells_now actors_now now → IsBegunBy with h c (history_in w) (history_in now)

-- Beginnings.

-- kinds of steps by which a command begins
abbrev pub may_begin : Kind → Bool
may_begin kind.BeginInsert = true
may_begin kind.BeginQuery = true
may_begin kind.Note = true
may_begin _ = false

-- by which kind a command begins of whose names all are known, or ends of which one isn't
abbrev pub beginning_if : Command → Bool → Kind
beginning_if (script.Insert new) true = kind.BeginInsert
beginning_if (script.Query question) true = kind.BeginQuery
beginning_if c known = kind.Note

abbrev pub beginning : List Dimension → Command → Kind
beginning h c = beginning_if c (are_known h c)

-- a pull is for a server that is there
abbrev pub IsAllowedCall : Use → Class → Type 0
IsAllowedCall with (Sync server) = server < with.servers
IsAllowedCall with class = ⊤

-- A command is for a server that is there. A query is asked where there is a dimension, and picks by one name at least, and so does a
-- group, by a level of its dimension.
abbrev pub IsAllowed : Use → List Dimension → Command → Type 0
IsAllowed with h (script.Insert new) = new.server < with.servers
IsAllowed with h (script.Query question) = (question.server < with.servers) × (0 < length h) × All IsNamePick question.filter
IsAllowed with h (script.Control called) = IsAllowedCall with (class_of called) × IsCallOf h called
IsAllowed with h (script.Group dim level filter) = (dim < length h) × (level ≤ leaf_level (tree h dim)) × All IsNamePick filter

-- the command may find no memory before it begins, and end with that
abbrev pub may_be_refused : Command → Bool
may_be_refused (script.Control called) = can_be_refused (class_of called)
may_be_refused c = true

-- This command is the next one of the actor's stream, and its beginning is due for the actor, which is its session and has no command
-- open.
pub record IsToBegin (h : List Dimension) (with : Use) (cells : List (Option Cell)) (actors : List (Option Actor)) (n : ℕ) (c : Command) : Type 0 where
  pub within : n < length actors
  pub kind_is : Kind
  pub begins : may_begin kind_is ≡ true
  pub next : IsNext h with cells actors n c kind_is
  pub own : session_of with c ≡ n
  pub free : Has (get_or actors n None) (λ a. (actor_of a).command ≡ None)
  pub names : HasNames h c
  pub allowed : IsAllowed with h c
