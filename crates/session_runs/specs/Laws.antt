-- What follows of sessions that each do their commands: the history at the end is through with them, and is a run.
use Rattle.std.specs.Prelude.{List, [], ◌∷◌, ◌++◌}
use Rattle.dim_hierarchy.specs.Dimension.{Dimension}
use Rattle.row_ledger.specs.{Right.{IsRight, Site}, declared.event.Event.Event, declared.settings.Use.Use}
use Rattle.script_form.specs.declared.script.Command.{Command}
use Rattle.script_run.specs.{Between.IsThrough, Phases.phases, Runs.{IsRunOf, IsRunSoFar}, Streams.NoneCloses}
use Rattle.session_runs.specs.Sessions.{DoesPhase, DoesPhases, EachDoes, EachDoesFirst}

-- The sessions do commands that close nothing, all at once.
abbrev pub TogetherLaw : Type 0
TogetherLaw = (site : Site) (with : Use) (h : List Dimension) (done commands : List Command) (past now : List Event) → IsRight site now
    → IsThrough with h done past → NoneCloses commands → EachDoes with h commands past now → IsThrough with h (done ++ commands) now

-- One command is done, and no other begins.
abbrev pub AloneLaw : Type 0
AloneLaw = (site : Site) (with : Use) (h : List Dimension) (done : List Command) (c : Command) (past now : List Event) → IsRight site now
    → IsThrough with h done past → EachDoes with h (c ∷ []) past now → IsThrough with h (done ++ c ∷ []) now

-- A phase is done.
abbrev pub PhaseLaw : Type 0
PhaseLaw = (site : Site) (with : Use) (h : List Dimension) (done phase : List Command) (past now : List Event) → IsRight site now
    → IsThrough with h done past → DoesPhase with h phase past now → IsThrough with h (done ++ phase) now

-- All phases of a script are done, behind an opening in which nothing has begun.
abbrev pub RunLaw : Type 0
RunLaw = (site : Site) (with : Use) (h : List Dimension) (commands : List Command) (opening now : List Event) → IsRight site now
    → IsThrough with h [] opening → DoesPhases with h (phases commands) opening now → IsRunOf with h commands now

-- Sessions that stop on their way: so far it is a part of a run of these commands and of any that were to come behind them.
abbrev pub StopLaw : Type 0
StopLaw = (site : Site) (with : Use) (h : List Dimension) (done commands more : List Command) (past now : List Event) → IsRight site now
    → IsThrough with h done past → NoneCloses commands → EachDoesFirst with h commands past now → IsRunSoFar with h (done ++ (commands ++ more)) now
