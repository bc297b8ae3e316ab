-- Which event a step puts in the history by which a page is shown.
use Rattle.std.specs.Prelude.{ℕ, Option, Some, None}
use Rattle.row_ledger.specs.{declared.event.Event.Event, declared.event.Event.TheVariants.Shown, declared.page.Page.Page}
use Rattle.volap_cell.specs.{Values.ActorValue, declared.command.Command.Command}

-- where the actor's command began
abbrev pub began_at : Option Command → ℕ
began_at None = 0
began_at (Some c) = c.of

-- what an actor's event is, at its place in the history
abbrev pub shown_by : Page → ActorValue → ℕ → Event
shown_by page a place = Shown (began_at a.command) page
