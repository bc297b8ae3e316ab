-- A history is a list of events, the newest first. What stands behind an event in the list is its past,
-- and the length of its past is its position. So every notion "before a position" is a function of a past
-- alone, and nothing that is said of an earlier event changes when the history grows.
use Rattle.std.specs.{List.{list_any, list_all, cons_option}, Option.{option_map_or, option_or}, Prelude.{ℕ, ◌==◌, Bool, true, false, not, ◌||◌, nat_lt, Option, Some, None, is_some, option_map, option_and_then, if◌then◌else◌, List, [], ◌∷◌, length, map, filter, filter_map}}
use Rattle.dim_hierarchy.specs.{declared.filter.Pick.Pick, declared.row.Row.Row}
use Rattle.describing_set.specs.declared.listing.Spot.{Spot}
use Rattle.row_ledger.specs.{declared.event.Event.Event, declared.event.Event.TheVariants.{Synced, Begun, Acked, Asked, Answered, Unknown, Failed, Refused, Called, Split, Moved, Left, Shown, Ended}, declared.page.Page.Page, declared.settings.Call.Call}

-- Positions.

-- the event at a position
abbrev pub event_at : List Event → ℕ → Option Event
event_at [] p = None
event_at (e ∷ past) p = if p == length past then Some e else event_at past p

-- the newest event
abbrev pub newest : List Event → Option Event
newest [] = None
newest (e ∷ past) = Some e

-- the events before a position
abbrev pub before : List Event → ℕ → List Event
before [] p = []
before (e ∷ past) p = if nat_lt (length past) p then e ∷ past else before past p

-- the events behind a position, the newest first
abbrev pub since : List Event → ℕ → List Event
since [] p = []
since (e ∷ past) p = if nat_lt p (length past) then e ∷ since past p else []

-- What an event tells.

-- an insert that begins: its server and its row
pub record Insert : Type 0 where
  pub server : ℕ
  pub row : Row

abbrev pub insert_in : Event → Option Insert
insert_in (Begun session server row) = Some (record { server = server; row = row })
insert_in _ = None

-- a query that begins: its server and its filter
pub record Query : Type 0 where
  pub server : ℕ
  pub filter : List Pick

abbrev pub query_in : Event → Option Query
query_in (Asked session server filter) = Some (record { server = server; filter = filter })
query_in _ = None

-- a command of another kind that begins
abbrev pub call_in : Event → Option Call
call_in (Called session call) = Some call
call_in _ = None

-- a pull: its server, and what it lists
pub record Pull : Type 0 where
  pub server : ℕ
  pub listing : List Spot

abbrev pub pull_in : Event → Option Pull
pull_in (Synced server listing) = Some (record { server = server; listing = listing })
pull_in _ = None

abbrev pub is_pull_of : ℕ → Event → Bool
is_pull_of server e = option_map_or (λ (p : Pull). p.server == server) (pull_in e) false

-- a shard that was split, and its two children
pub record Children : Type 0 where
  pub shard : ℕ
  pub left : ℕ
  pub right : ℕ

abbrev pub split_in : Event → Option Children
split_in (Split of shard left right) = Some (record { shard = shard; left = left; right = right })
split_in _ = None

-- the session of the command that an event begins
abbrev pub session_in : Event → Option ℕ
session_in (Begun session server row) = Some session
session_in (Asked session server filter) = Some session
session_in (Unknown session server dim) = Some session
session_in (Refused session) = Some session
session_in (Called session call) = Some session
session_in _ = None

-- whether an event begins a command
abbrev pub is_beginning : Event → Bool
is_beginning e = is_some (session_in e)

-- whether the event that begins a command is its end too
abbrev pub ends_itself : Event → Bool
ends_itself (Unknown session server dim) = true
ends_itself (Refused session) = true
ends_itself _ = false

-- the position of the command that an event ends
abbrev pub end_in : Event → Option ℕ
end_in (Acked of path) = Some of
end_in (Answered of agg) = Some of
end_in (Failed of) = Some of
end_in (Ended of how) = Some of
end_in _ = None

-- the position of the command that an event ends for want of memory
abbrev pub failed_in : Event → Option ℕ
failed_in (Failed of) = Some of
failed_in _ = None

-- Commands.

-- the insert, the query, or the other command that began at a position
abbrev pub insert_at : List Event → ℕ → Option Insert
insert_at past p = option_and_then insert_in (event_at past p)

abbrev pub query_at : List Event → ℕ → Option Query
query_at past p = option_and_then query_in (event_at past p)

abbrev pub call_at : List Event → ℕ → Option Call
call_at past p = option_and_then call_in (event_at past p)

-- whether an event ends the command that began at a position
abbrev pub is_end_of : ℕ → Event → Bool
is_end_of p e = option_map_or (λ of. of == p) (end_in e) false

abbrev pub has_ended : List Event → ℕ → Bool
has_ended past p = list_any (is_end_of p) past

-- whether the command that began at a position has its end, which may be its beginning
abbrev pub is_over : List Event → ℕ → Bool
is_over past p = has_ended past p || option_map_or ends_itself (event_at past p) false

-- the positions of the commands that began
abbrev pub beginnings : List Event → List ℕ
beginnings [] = []
beginnings (e ∷ past) = if is_beginning e then length past ∷ beginnings past else beginnings past

-- no command is open: each that began has its end
abbrev pub is_idle : List Event → Bool
is_idle past = list_all (is_over past) (beginnings past)

-- Work of called commands: splits and moves that are done, and planned ones that were left.

-- the position of the command that an event is work of
abbrev pub work_in : Event → Option ℕ
work_in (Split of shard left right) = Some of
work_in (Moved of shard worker) = Some of
work_in (Left of shard how) = Some of
work_in _ = None

-- whether an event is work of the command that began at a position
abbrev pub is_work_of : ℕ → Event → Bool
is_work_of p e = option_map_or (λ of. of == p) (work_in e) false

-- an event and the past behind it
pub record Step : Type 0 where
  pub event : Event
  pub past : List Event

-- the work of that command, the newest first
abbrev pub work : List Event → ℕ → List Step
work [] p = []
work (e ∷ past) p = if is_work_of p e then record { event = e; past = past } ∷ work past p else work past p

-- Pages.

-- the page that an event shows for the command that began at a position
abbrev pub page_in : ℕ → Event → Option Page
page_in p (Shown of page) = if of == p then Some page else None
page_in p _ = None

-- the page that was shown for that command, the newest one
abbrev pub page_of : List Event → ℕ → Option Page
page_of [] p = None
page_of (e ∷ past) p = option_or (page_in p e) (page_of past p)

abbrev pub has_page : List Event → ℕ → Bool
has_page past p = is_some (page_of past p)

-- Rows.

-- the rows of the inserts that began, the newest first
abbrev pub begun : List Event → List Row
begun past = map (λ (i : Insert). i.row) (filter_map insert_in past)

-- a row that was acknowledged: the server of its insert, the row, and its path
pub record Ack : Type 0 where
  pub server : ℕ
  pub row : Row
  pub path : List ℕ

abbrev pub ack_of : List ℕ → Insert → Ack
ack_of path i = record { server = i.server; row = i.row; path = path }

-- what an event acknowledges, behind this past
abbrev pub ack_in : List Event → Event → Option Ack
ack_in past (Acked of path) = option_map (ack_of path) (insert_at past of)
ack_in past _ = None

-- the rows that were acknowledged, the newest first
abbrev pub acked : List Event → List Ack
acked [] = []
acked (e ∷ past) = cons_option (ack_in past e) (acked past)

abbrev pub acked_rows : List Event → List Row
acked_rows past = map (λ (a : Ack). a.row) (acked past)

-- the last shard of a path, which took the row; an empty path, which no row has, counts as that of shard 0
abbrev pub last_of : List ℕ → ℕ
last_of [] = 0
last_of (x ∷ []) = x
last_of (x ∷ y ∷ path) = last_of (y ∷ path)

-- whether a path ends with a shard
abbrev pub ends_with : ℕ → List ℕ → Bool
ends_with shard [] = false
ends_with shard (x ∷ []) = x == shard
ends_with shard (x ∷ y ∷ path) = ends_with shard (y ∷ path)

-- the rows that came to a shard: those of which the path ends with it
abbrev pub acked_into : ℕ → List Event → List Ack
acked_into shard past = filter (λ (a : Ack). ends_with shard a.path) (acked past)

-- the positions of the commands that ended for want of memory
abbrev pub failed : List Event → List ℕ
failed past = filter_map failed_in past

-- the row's insert is none of them
abbrev pub is_kept : List Event → ℕ → Bool
is_kept h number = not (list_any (λ of. of == number) (failed h))
