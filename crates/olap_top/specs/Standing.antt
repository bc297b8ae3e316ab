-- Where what runs a script stands.
use Rattle.std.specs.Prelude.{List}
use Rattle.row_ledger.specs.declared.event.Event.{Event}
use Rattle.script_form.specs.declared.script.{Command.Command, Script.Script}
use Rattle.olap_top.specs.{Alone.{IsBehindPhases, IsWithinPhase, history_at}, Threads.{IsHallBehind, IsHallOf}, declared.engine.Engine.Engine, declared.engine.Engine.TheVariants.{OneThread, Threads}, declared.wanted.Wanted.Wanted}

-- what has happened so far, the newest first
abbrev pub history_of : Engine → List Event
history_of (OneThread e) = history_at e.state
history_of (Threads e) = e.passes.seen

-- It stands behind these phases of a script that is wanted to run so: each ran to its end, and nobody is at work.
abbrev pub StandsBehind : Wanted → Script → List (List Command) → Engine → Type 0
StandsBehind wanted s ps (OneThread e) = IsBehindPhases wanted s ps e
StandsBehind wanted s ps (Threads e) = IsHallBehind wanted s ps e.hall e.passes

-- it came so far in a phase behind these, perhaps to its end
abbrev pub StandsWithin : Wanted → Script → List (List Command) → List Command → Engine → Type 0
StandsWithin wanted s ps phase (OneThread e) = IsWithinPhase wanted s ps phase e
StandsWithin wanted s ps phase (Threads e) = IsHallOf wanted s e.hall e.passes
