-- The summary of a run of the generated script, in place of its text: how many inserts found no memory, and the aggregate of each query
-- and of the audit.
use Rattle.std.specs.Prelude.{ℕ, Bool, true, false, ◌||◌, Option, Some, None, option_and_then, List, [], ◌∷◌, ◌++◌, map, flat_map, filter, count_by, zip, codes, decimal}
use Rattle.measure_agg.specs.Aggregate.{Aggregate}
use Rattle.row_ledger.specs.{Past.{event_at, page_of}, declared.event.Event.Event, declared.event.Event.TheVariants.{Answered, Failed, Refused}, declared.page.Page.Page, declared.settings.Use.Use}
use Rattle.row_ledger.specs.declared.page.Page.TheVariants as page
use Rattle.row_ledger.specs.declared.settings.Call.TheVariants as call
use Rattle.script_form.specs.{declared.script.Command.Command, declared.script.Command.TheVariants.{Insert, Query, Control}}
use Rattle.script_run.specs.Places.{end_of, places}
use Rattle.answer_text.specs.Printed.{total_text}

-- a command with the place at which it began
abbrev pub Placed : Type 0
Placed = Command × Option ℕ

-- the commands of a script, each with its place
abbrev pub placed : Use → List Command → List Event → List Placed
placed with commands history = zip commands (places with commands history)

-- Inserts that found no memory.

-- the event that begins a command refuses it
abbrev pub refuses : Option Event → Bool
refuses (Some (Refused session)) = true
refuses begin = false

-- the event that ends a command fails it
abbrev pub fails : Option Event → Bool
fails (Some (Failed of)) = true
fails end = false

-- whether a command is an insert that was refused before it began, or failed after
abbrev pub is_lost : List Event → Command → Option ℕ → Bool
is_lost history (Insert new) place = refuses (option_and_then (event_at history) place) || fails (option_and_then (end_of history) place)
is_lost history c place = false

-- how many such there are
abbrev pub lost : List Event → List Placed → ℕ
lost history commands = count_by (λ at. is_lost history at.0 at.1) commands

-- Aggregates.

-- the aggregate of the answer that ends a query
abbrev pub answered : Option Event → Option Aggregate
answered (Some (Answered of total)) = Some total
answered end = None

-- the aggregate of the page of an audit
abbrev pub audited : Option Page → Option Aggregate
audited (Some (page.Audit audit)) = Some audit.agg
audited shown = None

-- whether a command asks for an aggregate: a query does, and an audit
abbrev pub asks_total : Command → Bool
asks_total (Query question) = true
asks_total (Control call.Audit) = true
asks_total c = false

-- the aggregate that was given to it, if one was
abbrev pub total_of : List Event → Command → Option ℕ → Option Aggregate
total_of history (Query question) place = answered (option_and_then (end_of history) place)
total_of history (Control call.Audit) place = audited (option_and_then (page_of history) place)
total_of history c place = None

-- the aggregates of all that ask for one, in the order of the script
abbrev pub totals : List Event → List Placed → List (Option Aggregate)
totals history commands = map (λ at. total_of history at.0 at.1) (filter (λ at. asks_total at.0) commands)

-- Lines.

-- the words of the aggregates: of all rows, a year, two countries and a group of products, and the audit
abbrev pub total_words : List (List ℕ)
total_words = codes "all" ∷ codes "year" ∷ codes "countries" ∷ codes "group" ∷ codes "audit" ∷ []

abbrev pub or_nomem : Option Aggregate → List ℕ
or_nomem None = codes "nomem"
or_nomem (Some total) = total_text total

abbrev pub total_line : List ℕ → Option Aggregate → List ℕ
total_line word total = word ++ (codes " " ++ (or_nomem total ++ codes "\n"))

-- a line for each aggregate
abbrev pub total_lines : List (Option Aggregate) → List ℕ
total_lines given = flat_map (λ at. total_line at.0 at.1) (zip total_words given)

-- the numbers that made the script, and how many inserts found no memory
abbrev pub head_line : ℕ → ℕ → ℕ → List ℕ
head_line rows seed refused =
    codes "load " ++ (decimal rows ++ (codes " " ++ (decimal seed ++ (codes " refused " ++ (decimal refused ++ codes "\n")))))

-- the whole summary of a run of so many rows by a seed
abbrev pub summary : ℕ → ℕ → Use → List Command → List Event → List ℕ
summary rows seed with commands history =
    head_line rows seed (lost history (placed with commands history)) ++ total_lines (totals history (placed with commands history))
