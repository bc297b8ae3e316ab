-- While an actor isn't idle, or a stream isn't at its end, somebody can make a step.
use Rattle.std.specs.Prelude.{ℕ, ◌≡◌, ◌≢◌, ◌+◌, ◌<◌, ◌&&◌, Bool, true, false, List, [], ◌∷◌, Some, None, is_some, length, slice_get}
use Rattle.script_form.specs.{declared.script.Command.Command, declared.script.Command.TheVariants.Query, declared.script.Question.Question}
use Rattle.script_run.specs.{Phases.closes, Places.session_of}
use Rattle.core_pages.specs.volap_cell.specs.{Commands.once_shown, Ghost.Ghost, Invariant.InvWith, Setting.{Setting, actor_count}, Steps.history_in, View.view, World.World, declared.command.Command.Command as OpenCommand, declared.kind.Kind.Kind, declared.role.Role.TheVariants.{Hand, Session}}
use Rattle.script_roles.specs.Roles.{AreScriptRoles}
use Rattle.core_due.specs.{Due.{does_nothing, is_empty}, Wants.meets}
use Rattle.seeded_run.specs.{Can.able_in, Due.{due_by, is_alone}, Rests.{PhaseRun, first_open, rest_of}}

-- a page that isn't shown is next in the history, with everyone else idle
abbrev pub ArePagesNext : Setting → World → (ℕ → List Command) → Type 0
ArePagesNext s w rest = (a : ℕ) (c : OpenCommand) → (w.actors a).command ≡ Some c → is_some (once_shown c.work) ≡ true
    → (is_alone s w rest a ≡ true) × (length (history_in w) ≡ c.of + 1)

-- nobody is counted in at a desk
abbrev pub IsNobodyIn : World → Type 0
IsNobodyIn w = (a : ℕ) → (w.actors a).counted ≡ false

-- What a run of a script keeps: a server has one session; queries are of sessions, hands begin nothing, and one stream at most has a
-- command next that closes the phase; so it is with pages; and nobody is counted in.
pub record IsScriptRun (s : Setting) (w : World) (rest : ℕ → List Command) : Type 0 where
  pub one : (a b server : ℕ) → (w.actors a).role ≡ Session server → (w.actors b).role ≡ Session server → a ≡ b
  pub asks : (a : ℕ) (q : Question) (more : List Command) → rest a ≡ Query q ∷ more → (server : ℕ) × ((w.actors a).role ≡ Session server)
  pub hands : (a worker : ℕ) → (w.actors a).role ≡ Hand worker → rest a ≡ []
  pub closing : (a b : ℕ) (c d : Command) (cs ds : List Command) → rest a ≡ c ∷ cs → rest b ≡ d ∷ ds → closes c ≡ true → closes d ≡ true → a ≡ b
  pub pages : ArePagesNext s w rest
  pub nobody : IsNobodyIn w

-- a phase whose queries and inserts are to servers that are there, and of which the last command alone may close it
pub record IsPhaseOf (s : Setting) (p : PhaseRun) : Type 0 where
  pub servers : p.with.servers ≡ s.servers
  pub sessions : (i : ℕ) (c : Command) → slice_get p.commands i ≡ Some c → session_of p.with c < s.servers + 2
  pub asked : (i : ℕ) (q : Question) → slice_get p.commands i ≡ Some (Query q) → q.server < s.servers
  pub last : (i : ℕ) (c : Command) → slice_get p.commands i ≡ Some c → closes c ≡ true → i + 1 ≡ length p.commands

-- Of such actors and such a phase only the pages have still to be said, and that nobody is counted in.
abbrev pub ScriptLaw : Type 0
ScriptLaw = (s : Setting) (p : PhaseRun) (w : World) (g : Ghost) → InvWith s (view s w) g → AreScriptRoles s → IsPhaseOf s p
    → ArePagesNext s w (rest_of p (history_in w)) → IsNobodyIn w → IsScriptRun s w (rest_of p (history_in w))

-- the actor is idle, and its stream at its end
abbrev pub is_done : World → (ℕ → List Command) → ℕ → Bool
is_done w rest a = does_nothing (w.actors a) && is_empty (rest a)

-- something is due for an actor
pub record SomeDue (s : Setting) (w : World) (rest : ℕ → List Command) : Type 0 where
  pub actor : ℕ
  pub within : actor < actor_count s
  pub kind_is : Kind
  pub is_due : due_by s w rest actor ≡ Some kind_is

-- While not all are done, something is due for somebody.
abbrev pub DueLaw : Type 0
DueLaw = (s : Setting) (w : World) (g : Ghost) (rest : ℕ → List Command) → InvWith s (view s w) g → IsScriptRun s w rest
    → (a : ℕ) → a < actor_count s → is_done w rest a ≡ false → SomeDue s w rest

-- an actor can make the step that is due
pub record SomeCan (s : Setting) (w : World) (rest : ℕ → List Command) : Type 0 where
  pub due : SomeDue s w rest
  pub meets_it : meets s w due.actor due.kind_is ≡ true

-- And where something is due, somebody can do what is due for it.
abbrev pub CanLaw : Type 0
CanLaw = (s : Setting) (w : World) (g : Ghost) (rest : ℕ → List Command) → InvWith s (view s w) g → SomeDue s w rest → SomeCan s w rest

-- So where nobody can step, all are done: each actor is idle, and each stream at its end.
abbrev pub EndLaw : Type 0
EndLaw = (s : Setting) (p : PhaseRun) (w : World) (g : Ghost) → InvWith s (view s w) g → IsScriptRun s w (rest_of p (history_in w)) → able_in false s p w ≡ []
    → (a : ℕ) → a < actor_count s → is_done w (rest_of p (history_in w)) a ≡ true

-- Where the commands go one after the other: the first one that isn't over is an actor's, who isn't done, and everyone else is idle;
-- and when it closes the phase, all other streams are at their ends.
pub record IsOrderedRun (s : Setting) (p : PhaseRun) (w : World) : Type 0 where
  pub here : (a : ℕ) → first_open p (history_in w) ≡ Some a → (a < actor_count s) × (is_done w (rest_of p (history_in w)) a ≡ false)
  pub others : (a b : ℕ) → first_open p (history_in w) ≡ Some a → b ≢ a → does_nothing (w.actors b) ≡ true
  pub last : (a : ℕ) (c : Command) (more : List Command) → first_open p (history_in w) ≡ Some a → (w.actors a).command ≡ None → rest_of p (history_in w) a ≡ c ∷ more
      → closes c ≡ true → is_alone s w (rest_of p (history_in w)) a ≡ true

-- There too nobody can step when all commands are over, and not before.
abbrev pub OrderEndLaw : Type 0
OrderEndLaw = (s : Setting) (p : PhaseRun) (w : World) (g : Ghost) → InvWith s (view s w) g → IsScriptRun s w (rest_of p (history_in w)) → IsOrderedRun s p w
    → able_in true s p w ≡ [] → first_open p (history_in w) ≡ None
