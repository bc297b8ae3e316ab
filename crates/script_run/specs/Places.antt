-- Where the commands of a script begin in a history: the first command of a session with the session's first beginning,
-- the second with the second, and so on.
use Rattle.std.specs.{List.list_all, Option.option_map_or, Prelude.{ℕ, ◌+◌, ◌==◌, Bool, false, Option, if◌then◌else◌, List, [], ◌∷◌, ◌++◌, length, count_by, find, slice_get}}
use Rattle.row_ledger.specs.{Classes.class_of, Past.{session_in, is_end_of, is_over}, declared.class.Class.Class, declared.class.Class.TheVariants.Sync, declared.event.Event.Event, declared.settings.Use.Use}
use Rattle.script_form.specs.{declared.script.Command.Command, declared.script.Command.TheVariants.{Insert, Query, Control, Group}}

-- the session of a called command: a sync's is the pulling one, any other's the controlling one
abbrev pub session_of_call : Use → Class → ℕ
session_of_call with (Sync server) = with.servers
session_of_call with class = with.servers + 1

-- the session of a command: an insert's and a query's is that of its server, a group's the controlling one
abbrev pub session_of : Use → Command → ℕ
session_of with (Insert new) = new.server
session_of with (Query question) = question.server
session_of with (Control called) = session_of_call with (class_of called)
session_of with (Group dim level filter) = with.servers + 1

-- the server of a command; a called one has none, for which its events have 0
abbrev pub server_for : Command → ℕ
server_for (Insert new) = new.server
server_for (Query question) = question.server
server_for (Control called) = 0
server_for (Group dim level filter) = 0

-- how many commands are of a session
abbrev pub count_of : Use → ℕ → List Command → ℕ
count_of with session commands = count_by (λ c. session_of with c == session) commands

-- whether an event begins a command of a session
abbrev pub begins_in : ℕ → Event → Bool
begins_in session e = option_map_or (λ s. s == session) (session_in e) false

-- the positions at which the commands of a session begin, the oldest first
unfoldable pub begins_of : List Event → ℕ → List ℕ
begins_of [] session = []
begins_of (e ∷ past) session = if begins_in session e then begins_of past session ++ length past ∷ [] else begins_of past session

-- where a command begins that stands behind these others; None where it has not begun
abbrev pub place_behind : Use → List Command → Command → List Event → Option ℕ
place_behind with before c history = slice_get (begins_of history (session_of with c)) (count_of with (session_of with c) before)

-- where commands begin that stand behind others
unfoldable pub places_behind : Use → List Command → List Command → List Event → List (Option ℕ)
places_behind with before [] history = []
places_behind with before (c ∷ cs) history = place_behind with before c history ∷ places_behind with (before ++ c ∷ []) cs history

-- where all commands of a script begin
abbrev pub places : Use → List Command → List Event → List (Option ℕ)
places with commands history = places_behind with [] commands history

-- whether a command has begun and has its end
abbrev pub is_over_at : List Event → Option ℕ → Bool
is_over_at history place = option_map_or (is_over history) place false

abbrev pub are_over : List Event → List (Option ℕ) → Bool
are_over history ps = list_all (is_over_at history) ps

-- the event that ends the command that began at a position
abbrev pub end_of : List Event → ℕ → Option Event
end_of history p = find (is_end_of p) history
