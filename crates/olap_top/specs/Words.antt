-- What the words of a command line ask for: a script from the source, in a way of running it, or the generated one.
use Rattle.std.specs.{Prelude.{List, map, string_bytes, String, ℕ, Bool, true, false, ◌≡◌, ◌⊎◌, ◌<◌, ◌≤◌, ◌^◌, Some, [], ◌∷◌, ◌++◌, codes}, declared.alloc.Global.Global}
use Rattle.script_form.specs.Fields.{number_of}
use Rattle.olap_top.specs.{declared.wanted.Wanted.Wanted, declared.wanted.Wanted.TheVariants.{Step, Seeded, Run, Load}}

-- Of words without the program's name: `step`, `step --seed N`, `run`, and `load --rows N --seed K` with these two
-- options in either order and, where threads are wanted, with the word `--threads` before, between or behind them.
-- Behind `--seed` and `--rows` there may be an equals sign in place of the space.

abbrev pub SpellsSeed : List ℕ → ℕ → Type 0
SpellsSeed text seed = (number_of text ≡ Some seed) × (seed < 2 ^ 64)

-- how many rows a generated script has at most
abbrev pub most_rows : ℕ
most_rows = 200000

-- this text spells how many rows a generated script is to have
abbrev pub SpellsRows : List ℕ → ℕ → Type 0
SpellsRows text rows = (number_of text ≡ Some rows) × (1 ≤ rows) × (rows ≤ most_rows)

-- these words give the option of this name this text: its name and the text as a word behind it, or one word with an equals sign between them
abbrev pub GiveOption : List ℕ → List (List ℕ) → List ℕ → Type 0
GiveOption name words text = (words ≡ name ∷ text ∷ []) ⊎ (words ≡ (name ++ (codes "=" ++ text)) ∷ [])

abbrev pub GiveSeed : List (List ℕ) → ℕ → Type 0
GiveSeed words seed = (text : List ℕ) × GiveOption (codes "--seed") words text × SpellsSeed text seed

abbrev pub GiveRows : List (List ℕ) → ℕ → Type 0
GiveRows words rows = (text : List ℕ) × GiveOption (codes "--rows") words text × SpellsRows text rows

-- these words are the one option and then the other, with `--threads` before, between or behind them, or without it
abbrev pub AreOptions : Bool → List (List ℕ) → List (List ℕ) → List (List ℕ) → Type 0
AreOptions false one other words = words ≡ one ++ other
AreOptions true one other words =
    (words ≡ codes "--threads" ∷ (one ++ other)) ⊎ (words ≡ one ++ (codes "--threads" ∷ other)) ⊎ (words ≡ one ++ (other ++ (codes "--threads" ∷ [])))

-- these words give the rows and the seed, each once, in either order, and hold `--threads` once where threads are wanted, and else not
pub record GiveLoad (words : List (List ℕ)) (rows seed : ℕ) (threads : Bool) : Type 0 where
  pub for_rows : List (List ℕ)
  pub for_seed : List (List ℕ)
  pub either_order : AreOptions threads for_rows for_seed words ⊎ AreOptions threads for_seed for_rows words
  pub rows_are : GiveRows for_rows rows
  pub seed_is : GiveSeed for_seed seed

abbrev pub Want : List (List ℕ) → Wanted → Type 0
Want words Step = words ≡ codes "step" ∷ []
Want words (Seeded seed) = (options : List (List ℕ)) × (words ≡ codes "step" ∷ options) × GiveSeed options seed
Want words Run = words ≡ codes "run" ∷ []
Want words (Load rows seed threads) = (options : List (List ℕ)) × (words ≡ codes "load" ∷ options) × GiveLoad options rows seed threads

-- the words, without the program's name, ask for this
abbrev pub AskFor : List (String Global) → Wanted → Type 0
AskFor words wanted = Want (map string_bytes words) wanted

-- the words ask for something of which this holds
abbrev pub ForSomeWanted : List (String Global) → (Wanted → Type 0) → Type 0
ForSomeWanted words P = (wanted : Wanted) × AskFor words wanted × P wanted
