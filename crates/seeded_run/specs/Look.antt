-- What is told of an actor and of the streams, as one thread sees it that holds a core's actors.
use Rattle.std.specs.Prelude.{ℕ, ⊤, ◌≡◌, ◌==◌, ◌&&◌, ◌||◌, Bool, true, if◌then◌else◌, Option, Some, None, List, [], ◌∷◌, length, get_or, slice_get}
use Rattle.core_due.specs.Due.{all_below, does_nothing, is_empty}
use Rattle.dim_hierarchy.specs.Dimension.{Dimension}
use Rattle.script_form.specs.declared.script.Command.{Command}
use Rattle.script_form.specs.declared.script.Command.TheVariants as script
use Rattle.core_pages.specs.volap_cell.specs.{Setting.{Setting, actor_count}, Sums.sum_below, Values.actor_of, declared.actor.Actor.Actor}

-- What is told of the streams.

-- a stream of which the next command alone is known
abbrev pub ahead : Option Command → List Command
ahead None = []
ahead (Some c) = c ∷ []

-- how many streams aren't at their ends
abbrev pub streams_left : Setting → (ℕ → List Command) → ℕ
streams_left s rest = sum_below (actor_count s) (λ a. if is_empty (rest a) then 0 else 1)

-- The next command of an actor, and how many streams aren't at their ends, where these are the rests of the streams.
pub record IsTold (s : Setting) (rest : ℕ → List Command) (n : ℕ) (next : Option Command) (left : ℕ) : Type 0 where
  pub next_is : slice_get (rest n) 0 ≡ next
  pub left_is : streams_left s rest ≡ left

-- all streams but that of an actor with this next command are at their ends
abbrev pub others_end : Option Command → ℕ → Bool
others_end None left = left == 0
others_end (Some c) left = left == 1

-- an actor that isn't there has nothing to do
abbrev pub rests : Option Actor → Bool
rests None = true
rests (Some a) = does_nothing (actor_of a)

-- all other actors have nothing to do
abbrev pub others_rest : List (Option Actor) → ℕ → Bool
others_rest actors n = all_below (length actors) (λ a. a == n || rests (get_or actors a None))

-- everyone else is idle
abbrev pub alone_by : List (Option Actor) → ℕ → Option Command → ℕ → Bool
alone_by actors n next left = others_end next left && others_rest actors n

-- a command to begin has a name, or a pick by names, for each dimension
abbrev pub HasNames : List Dimension → Command → Type 0
HasNames h (script.Insert new) = length new.names ≡ length h
HasNames h (script.Query question) = length question.filter ≡ length h
HasNames h (script.Control call) = ⊤
HasNames h (script.Group dim level filter) = length filter ≡ length h
