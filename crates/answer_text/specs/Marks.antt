-- What is noted of a history: beginnings, and the newest events that end commands, show pages or split shards for them.
use Rattle.std.specs.{List.slice_index_or, Option.{MatchOption, option_map_or}, Prelude.{ℕ, ◌≡◌, ◌<◌, ◌≤◌, ◌==◌, Bool, false, Option, Some, None, IfSome, if◌then◌else◌, List, [], ◌∷◌, ◌++◌, length, ⊤}}
use Rattle.row_ledger.specs.{Belonging.number_in, Right.EachEvent, declared.event.Event.Event, declared.event.Event.TheVariants.Shown, declared.page.Page.Page, declared.settings.Use.Use}
use Rattle.script_form.specs.declared.script.Command.{Command}
use Rattle.script_run.specs.{Places.{begins_of, count_of}, Streams.sessions}

-- the position of the command for which an event shows a page
abbrev pub shown_for : Event → Option ℕ
shown_for (Shown of page) = Some of
shown_for _ = None

-- the page that an event shows
abbrev pub shown : Event → Option Page
shown (Shown of page) = Some page
shown _ = None

-- whether this is the number
abbrev pub is_at : ℕ → Option ℕ → Bool
is_at p place = option_map_or (λ of. of == p) place false

-- the position of the newest event that marks the command that began at a position
unfoldable pub newest : (Event → Option ℕ) → List Event → ℕ → Option ℕ
newest marks [] p = None
newest marks (e ∷ past) p = if is_at p (marks e) then Some (length past) else newest marks past p

-- no place, or a position of the history
abbrev pub IsPosition : List Event → Option ℕ → Type 0
IsPosition history place = MatchOption place ⊤ (λ p. p < length history)

-- for each session its beginnings
pub record KnowsBegins (lists : List (List ℕ)) (past : List Event) : Type 0 where
  pub len : length lists ≡ sessions
  pub begun : (s : ℕ) → s < sessions → slice_index_or lists s [] ≡ begins_of past s

-- for each of the first n positions the newest event that marks its command; there is none behind the end of the list
pub record KnowsNewest (marks : Event → Option ℕ) (n : ℕ) (noted : List (Option ℕ)) (past : List Event) : Type 0 where
  pub few : length noted ≤ n
  pub known : (p : ℕ) → p < n → slice_index_or noted p None ≡ newest marks past p

-- the beginnings as before, and where a session is given this position behind its own
pub record HasBegin (session : Option ℕ) (position : ℕ) (old new : List (List ℕ)) : Type 0 where
  pub len : length new ≡ length old
  pub begun : (s : ℕ) → s < length old → slice_index_or new s [] ≡ (if is_at s session then slice_index_or old s [] ++ position ∷ [] else slice_index_or old s [])

-- the marks of the first n positions as before, and where a command is given this position for its own
pub record HasMark (n : ℕ) (of : Option ℕ) (position : ℕ) (old new : List (Option ℕ)) : Type 0 where
  pub few : length new ≤ n
  pub noted : (p : ℕ) → p < n → slice_index_or new p None ≡ (if is_at p of then Some position else slice_index_or old p None)

-- no event marks a command that begins behind this past
abbrev pub IsQuiet : (Event → Option ℕ) → List Event → Type 0
IsQuiet marks past = (p : ℕ) → length past ≤ p → newest marks past p ≡ None

-- each event that belongs to a command stands behind its beginning
abbrev pub RefersBack : List Event → Type 0
RefersBack history = EachEvent (λ past e. IfSome (number_in e) (λ of. of < length past)) history

-- how many of these commands are of each session
pub record Counts (counts : List ℕ) (with : Use) (commands : List Command) : Type 0 where
  pub len : length counts ≡ sessions
  pub counted : (s : ℕ) → s < sessions → slice_index_or counts s 0 ≡ count_of with s commands
