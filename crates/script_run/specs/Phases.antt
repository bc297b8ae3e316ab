-- The phases of a script: each ends with a command that closes it, or with the script.
use Rattle.std.specs.Prelude.{ℕ, ◌+◌, ◌*◌, Bool, true, false, if◌then◌else◌, List, [], ◌∷◌, take, flat_map}
use Rattle.row_ledger.specs.{Classes.class_of, declared.class.Class.Class, declared.class.Class.TheVariants.{Settle, Bare, Page}}
use Rattle.script_form.specs.{declared.script.Command.Command, declared.script.Command.TheVariants.{Control, Group}}

-- whether a called command closes its phase: it begins when all others of the phase have ended
abbrev pub is_closing : Class → Bool
is_closing Bare = true
is_closing Settle = true
is_closing (Page subject) = true
is_closing class = false

abbrev pub closes : Command → Bool
closes (Control call) = is_closing (class_of call)
closes (Group dim level filter) = true
closes _ = false

-- phases with one command more in front of the first
abbrev pub with_first : Command → List (List Command) → List (List Command)
with_first c [] = (c ∷ []) ∷ []
with_first c (phase ∷ more) = (c ∷ phase) ∷ more

-- the commands by phases; none of these is empty
unfoldable pub phases : List Command → List (List Command)
phases [] = []
phases (c ∷ cs) = if closes c then (c ∷ []) ∷ phases cs else with_first c (phases cs)

-- the commands of phases, in order
abbrev pub all_of : List (List Command) → List Command
all_of ps = flat_map (λ phase. phase) ps

-- the commands of the first k phases
abbrev pub phases_to : ℕ → List Command → List Command
phases_to k commands = all_of (take k (phases commands))

-- The rank of each command, where so many phases stand before: commands of one rank may run at once, and a command
-- of a higher rank begins when all of the lower ranks have ended.
unfoldable pub ranks_from : ℕ → List Command → List ℕ
ranks_from k [] = []
ranks_from k (c ∷ cs) = if closes c then (2 * k + 1) ∷ ranks_from (k + 1) cs else (2 * k) ∷ ranks_from k cs

abbrev pub ranks : List Command → List ℕ
ranks commands = ranks_from 0 commands
