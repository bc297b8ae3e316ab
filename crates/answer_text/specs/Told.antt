-- What a teller has told of a run, and read of its history.
use Rattle.std.specs.{List.slice_index_or, Prelude.{ℕ, ◌≡◌, ◌≤◌, ◌++◌, List, [], length, reverse, take}}
use Rattle.row_ledger.specs.{declared.event.Event.Event, declared.settings.Use.Use}
use Rattle.script_form.specs.declared.script.Command.{Command}
use Rattle.answer_text.specs.{Marks.Counts, Notes.Knows, Printed.texts, declared.text.Teller.Teller}

-- how many events it has read
abbrev pub seen_of : Teller → ℕ
seen_of teller = teller.notes.seen

-- it has told these commands, and knows this history
pub record HasTold (with : Use) (commands : List Command) (history : List Event) (teller : Teller) : Type 0 where
  pub told : teller.told ≡ length commands
  pub counts : Counts teller.counts.items with commands
  pub notes : Knows teller.notes history

-- it has told nothing
pub record IsTeller (teller : Teller) : Type 0 where
  pub told : teller.told ≡ 0
  pub has : (with : Use) → HasTold with [] [] teller

-- When more commands follow, and the history goes on from the one it knows, it has told the first of the commands, and knows
-- the first of the events.
pub record IsToldOf (with : Use) (commands : List Command) (events : List Event) (teller : Teller) : Type 0 where
  pub within : teller.told ≤ length commands
  pub seen : seen_of teller ≤ length events
  pub has : HasTold with (take teller.told commands) (reverse (take (seen_of teller) events)) teller

-- Such is a new teller, and one whose history has grown.
abbrev pub NewTellerLaw : Type 0
NewTellerLaw = (with : Use) (commands : List Command) (events : List Event) (teller : Teller) → IsTeller teller → IsToldOf with commands events teller

abbrev pub TellerLaw : Type 0
TellerLaw = (with : Use) (done phase : List Command) (past more : List Event) (events : List Event) (teller : Teller)
    → HasTold with done past teller → reverse events ≡ more ++ past → IsToldOf with (done ++ phase) events teller

-- the text of the phase with a number from 0
abbrev pub phase_text : Use → List Command → List Event → ℕ → List ℕ
phase_text with commands history k = slice_index_or (texts with commands history) k []
