-- How it is found in the words of a command line what they want to run.
use Rattle.std.specs.{Option.option_map_or, Prelude.{ℕ, ⊤, ◌≤◌, ◌^◌, Bool, true, false, not, ◌&&◌, nat_lt, nat_le, Option, Some, None, option_and_then, option_map, if◌then◌else◌, List, [], ◌∷◌, length, take, drop, codes}, Str.bytes_eq}
use Rattle.script_form.specs.Fields.{number_of}
use Rattle.olap_top.specs.{Words.most_rows, declared.wanted.Wanted.Wanted, declared.wanted.Wanted.TheVariants.{Step, Seeded, Run, Load}}

-- a load is of no more rows than can be generated
abbrev pub AreFewRows : Wanted → Type 0
AreFewRows (Load rows seed threads) = rows ≤ most_rows
AreFewRows wanted = ⊤

abbrev pub below_2_64 : ℕ → Option ℕ
below_2_64 n = if nat_lt n (2 ^ 64) then Some n else None

abbrev pub seed_of : List ℕ → Option ℕ
seed_of text = option_and_then below_2_64 (number_of text)

abbrev pub from_1_to_most : ℕ → Option ℕ
from_1_to_most n = if nat_le 1 n && nat_le n most_rows then Some n else None

abbrev pub row_count_of : List ℕ → Option ℕ
row_count_of text = option_and_then from_1_to_most (number_of text)

-- what stands in a word behind these bytes at its front
abbrev pub behind : List ℕ → List ℕ → Option (List ℕ)
behind front word = if bytes_eq (take (length front) word) front then Some (drop (length front) word) else None

-- a text, and the words behind it
abbrev pub Given : Type 0
Given = List ℕ × List (List ℕ)

abbrev pub first_word : List (List ℕ) → Option Given
first_word [] = None
first_word (text ∷ rest) = Some (text, rest)

-- what the first of these words give an option
abbrev pub given : List ℕ → List (List ℕ) → Option Given
given name [] = None
given name (word ∷ rest) =
    if bytes_eq word name then first_word rest else option_map (λ text. (text, rest)) (option_and_then (behind (codes "=")) (behind name word))

-- where no word is left
abbrev pub at_end : {A : Type 0} → List (List ℕ) → A → Option A
at_end [] a = Some a
at_end (word ∷ rest) a = None

-- what these words give an option, and nothing more
abbrev pub given_alone : List ℕ → List (List ℕ) → Option (List ℕ)
given_alone name words = option_and_then (λ (one : Given). at_end one.1 one.0) (given name words)

-- the word `--threads` taken off the front of words, where it has not been found before: whether it has been found now, and the words behind
abbrev pub skip_threads : Bool → List (List ℕ) → Bool × List (List ℕ)
skip_threads found [] = (found, [])
skip_threads found (word ∷ rest) = if not found && bytes_eq word (codes "--threads") then (true, rest) else (found, word ∷ rest)

-- a text, whether `--threads` has been found, and the words behind
abbrev pub GivenNext : Type 0
GivenNext = List ℕ × Bool × List (List ℕ)

-- what the first of these words give an option, with `--threads` before it or not
abbrev pub given_next : List ℕ → Bool → List (List ℕ) → Option GivenNext
given_next name found words = option_map (λ (one : Given). (one.0, (skip_threads found words).0, one.1)) (given name (skip_threads found words).1)

-- whether `--threads` has been found at the end, where no other word is left
abbrev pub threads_at_end : Bool → List (List ℕ) → Option Bool
threads_at_end found words = at_end (skip_threads found words).1 (skip_threads found words).0

-- the texts of two options, and whether threads are wanted
abbrev pub GivenBoth : Type 0
GivenBoth = List ℕ × List ℕ × Bool

-- what these words give two options, in this order, with `--threads` or without
abbrev pub given_both : List ℕ → List ℕ → List (List ℕ) → Option GivenBoth
given_both first second words =
    option_and_then
    (λ (one : GivenNext). option_and_then (λ (two : GivenNext). option_map (λ threads. (one.0, two.0, threads)) (threads_at_end two.1 two.2)) (given_next second one.1 one.2))
    (given_next first false words)

-- `step` with these options
abbrev pub step_of : List (List ℕ) → Option Wanted
step_of [] = Some Step
step_of (option ∷ more) = option_and_then (λ text. option_map Seeded (seed_of text)) (given_alone (codes "--seed") (option ∷ more))

-- `run` with these options
abbrev pub run_of : List (List ℕ) → Option Wanted
run_of options = at_end options Run

abbrev pub load_by : List ℕ → List ℕ → Bool → Option Wanted
load_by rows seed threads = option_and_then (λ n. option_map (λ k. Load n k threads) (seed_of seed)) (row_count_of rows)

-- `load` with these options
abbrev pub load_of : List (List ℕ) → Option Wanted
load_of options =
    option_map_or (λ (both : GivenBoth). load_by both.0 both.1 both.2)
    (given_both (codes "--rows") (codes "--seed") options)
    (option_and_then (λ (both : GivenBoth). load_by both.1 both.0 both.2) (given_both (codes "--seed") (codes "--rows") options))

abbrev pub wanted : List (List ℕ) → Option Wanted
wanted [] = None
wanted (first ∷ options) =
    if bytes_eq first (codes "step") then step_of options
    else if bytes_eq first (codes "run") then run_of options
    else if bytes_eq first (codes "load") then load_of options
    else None
