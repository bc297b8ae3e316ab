-- The commands of a session: what it has open, how far it comes, and how it ends.
use Rattle.std.specs.Prelude.{ℕ, ◌≡◌, ◌≤◌, ◌⊎◌, ⊤, Bool, List, ◌∷◌, length, Some, None}
use Rattle.part_steps.specs.core_counts.specs.Ahead.{most_ahead}
use Rattle.dim_hierarchy.specs.declared.row.Row.{Row}
use Rattle.part_steps.specs.Parts.{IsUnread}
use Rattle.row_ledger.specs.{Past.{Query, query_at}, Right.IsRight, declared.event.Event.Event}
use Rattle.row_ledger.specs.declared.event.Event.TheVariants.{Acked, Answered, Failed}
use Rattle.script_run.specs.Places.{begins_of}
use Rattle.part_steps.specs.seat_steps.specs.{Floors.Stands, declared.floor.{Floor.Floor, Player.Player}}
use Rattle.session_steps.specs.declared.commands.{End.End, Next.Next}
use Rattle.session_steps.specs.declared.commands.End.TheVariants as end
use Rattle.session_steps.specs.declared.commands.Next.TheVariants as next
use Rattle.turn_table.specs.Numbered.{Extends}
use Rattle.part_steps.specs.volap_cell.specs.{ImageKinds.doing, Setting.site_in, Values.{actor_of}, declared.command.Work.Work, declared.role.Role.TheVariants.Session}
use Rattle.part_steps.specs.volap_cell.specs.declared.command.Work.TheVariants as work_is

-- What is open.

-- an insert or a query
abbrev pub IsOfSession : Work → Type 0
IsOfSession (work_is.Insert row routed) = ⊤
IsOfSession work_is.Query = ⊤
IsOfSession work = ⊥

-- A session has an insert or a query open, and is at no part and no job.
pub record HasOpen (p : Player) : Type 0 where
  pub server : ℕ
  pub role : (actor_of p.actor).role ≡ Session server
  pub of : ℕ
  pub work : Work
  pub command : (actor_of p.actor).command ≡ doing of work
  pub kind : IsOfSession work
  pub no_part : (actor_of p.actor).errand ≡ None
  pub no_job : (actor_of p.actor).job ≡ None

-- How far it comes.

-- the part of an insert may have been laid; else it is the same work
abbrev pub IsFurtherWork : Work → Work → Type 0
IsFurtherWork (work_is.Insert row routed) work_now = (routed_now : Bool) × (work_now ≡ work_is.Insert row routed_now)
IsFurtherWork work work_now = work_now ≡ work

-- The session has the same command open, and stands at its seat as before; it may be at a part now. It has pushed no event of its own.
pub record IsStillOpen (f : Floor) (was now : Player) : Type 0 where
  pub stands : Stands f now
  pub number : now.number ≡ was.number
  pub command : (of : ℕ) (work : Work) → (actor_of was.actor).command ≡ doing of work → (work_now : Work) × IsFurtherWork work work_now
      × (actor_of now.actor ≡ record (actor_of was.actor) { command = doing of work_now; errand = (actor_of now.actor).errand })
  pub seen : Extends now.seat.view.seen was.seat.view.seen
  pub went : now.actor.went ≡ was.actor.went
  -- a part of a query that it is at has read no gate, and asks for what the query does
  pub asks : (of : ℕ) (q : Query) → (actor_of was.actor).command ≡ doing of work_is.Query → query_at was.seat.view.seen of ≡ Some q
      → ((actor_of now.actor).errand ≡ None) ⊎ ((part : IsUnread (actor_of now.actor)) × (part.filter ≡ q.filter))

-- How it ends.

-- the event is such an end of the command that began at a position
abbrev pub IsEndOf : End → ℕ → Event → Type 0
IsEndOf end.Acked of e = (path : List ℕ) × (e ≡ Acked of path)
IsEndOf (end.Answered agg) of e = e ≡ Answered of agg
IsEndOf end.Failed of e = e ≡ Failed of

-- an insert is acknowledged and a query is answered; each may fail
abbrev pub IsEndFor : End → Work → Type 0
IsEndFor end.Acked work = (row : Row) × (routed : Bool) × (work ≡ work_is.Insert row routed)
IsEndFor (end.Answered agg) work = work ≡ work_is.Query
IsEndFor end.Failed work = ⊤

-- The session's command has ended so, by the newest event that it has seen; the history that it has seen is right, and nothing is
-- open.
pub record HasEnded (f : Floor) (e : End) (was now : Player) : Type 0 where
  pub stands : Stands f now
  pub number : now.number ≡ was.number
  pub older : List Event
  pub behind : Extends older was.seat.view.seen
  pub newest : Event
  pub now_is : now.seat.view.seen ≡ newest ∷ older
  pub right : IsRight (site_in (actor_of now.actor).setting) now.seat.view.seen
  -- it has begun nothing that it hadn't seen
  pub only : (actor_of was.actor).seen ≤ length was.seat.view.seen → begins_of now.seat.view.seen was.number ≡ begins_of was.seat.view.seen was.number
  pub ends : (of : ℕ) (work : Work) → (actor_of was.actor).command ≡ doing of work → IsEndFor e work × IsEndOf e of newest
      × (actor_of now.actor ≡ record (actor_of was.actor) { command = None; seen = length now.seat.view.seen })
  -- parts of a query were ended or sent on no more often than there are shards, splits and moves for
  pub few : (of : ℕ) → (actor_of was.actor).command ≡ doing of work_is.Query → was.actor.went ≤ most_ahead f.with.workers now.seat.view.seen

abbrev pub ComesTo : Floor → Next → Player → Player → Type 0
ComesTo f next.GoesOn was now = IsStillOpen f was now
ComesTo f next.Waits was now = IsStillOpen f was now
ComesTo f (next.Ended e) was now = HasEnded f e was now
