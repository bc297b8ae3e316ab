-- What an index for one thread is, and what its history says.
use Rattle.std.specs.Prelude.{ℕ, ◌≡◌, ◌≢◌, true, List, [], ◌∷◌, ◌++◌, Some, filter}
use Rattle.dim_hierarchy.specs.{Dimension.Dimension, Filter.matches, declared.row.Row.Row}
use Rattle.measure_agg.specs.Aggregate.{Aggregate, agg}
use Rattle.row_ledger.specs.{Past.{Query, acked_rows, before, query_at}, declared.event.Event.Event, declared.event.Event.TheVariants.Answered, declared.settings.Use.Use}
use Rattle.script_form.specs.declared.script.Command.{Command}
use Rattle.script_run.specs.Runs.{BeginsAt, IsSerial}
use Rattle.olap_top.specs.seeded_run.specs.{Kept.IsBetween, Phase.{IsCoreHeld, MayAllRun, about, held}}
use Rattle.olap_top.specs.volap_cell.specs.Steps.{history_in}
use Rattle.olap_top.specs.Outcomes.{HasRun}
use Rattle.library_runs.specs.declared.index.Index.{Index}

-- one server and one worker, on one thread
abbrev pub alone : ℕ → Use
alone cells = record { servers = 1; workers = 1; threads = 1; cells = cells }

-- the core meets its invariant, and nothing is open behind the commands
pub record IsHeld (x : Index) : Type 0 where
  pub core : IsCoreHeld x.hierarchy (alone x.cells) x.state
  pub may_run : MayAllRun x.hierarchy (alone x.cells) x.commands
  pub between : IsBetween true (about x.hierarchy (alone x.cells) x.state) (alone x.cells) x.commands (held x.hierarchy (alone x.cells) x.state)

-- What was done.

-- what happened in an index, the newest event first
abbrev pub history_of : Index → List Event
history_of x = history_in (held x.hierarchy (alone x.cells) x.state)

-- no command was done yet
pub record IsNew (h : List Dimension) (cells : ℕ) (x : Index) : Type 0 where
  pub hierarchy : x.hierarchy ≡ h
  pub cells_are : x.cells ≡ cells
  pub commands : x.commands ≡ []

-- this command was done besides
pub record HasDone (x : Index) (c : Command) (now : Index) : Type 0 where
  pub hierarchy : now.hierarchy ≡ x.hierarchy
  pub cells_are : now.cells ≡ x.cells
  pub commands : now.commands ≡ x.commands ++ c ∷ []

-- What the history says.

-- an answer to a query of this filter is the aggregate of all matching rows that were acknowledged before it began
abbrev pub IsOfAll : List Dimension → List Event → ℕ → Query → Aggregate → Type 0
IsOfAll h past of query answer = answer ≡ agg (filter (λ (r : Row). matches h query.filter r.at) (acked_rows (before past of)))

-- so it is of each answer
abbrev pub AnswersAreOfAll : List Dimension → List Event → Type 0
AnswersAreOfAll h history =
    (later past : List Event) (of : ℕ) (answer : Aggregate) (query : Query) → history ≡ later ++ Answered of answer ∷ past → query_at past of ≡ Some query
    → IsOfAll h past of query answer

-- The history is right and a run of exactly the commands, each of which ended before the next began; and each answer is of all.
pub record IsRightIndex (x : Index) : Type 0 where
  pub ran : HasRun (alone x.cells) x.hierarchy x.commands (history_of x)
  pub serial : IsSerial (alone x.cells) x.commands (history_of x)
  pub all : AnswersAreOfAll x.hierarchy (history_of x)

-- the newest event is this answer, which is of all, to a query as which the last command began
pub record AnswersLast (x : Index) (answer : Aggregate) : Type 0 where
  pub of : ℕ
  pub past : List Event
  pub newest : history_of x ≡ Answered of answer ∷ past
  pub query : Query
  pub asked : query_at past of ≡ Some query
  pub all : IsOfAll x.hierarchy past of query answer
  pub last : (done : List Command) (c : Command) → x.commands ≡ done ++ c ∷ [] → BeginsAt (alone x.cells) x.hierarchy (history_of x) c (Some of)

-- the newest event is no answer
abbrev pub AnswersNothing : Index → Type 0
AnswersNothing x = (of : ℕ) (answer : Aggregate) (past : List Event) → history_of x ≢ Answered of answer ∷ past
