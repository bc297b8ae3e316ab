-- What is so of what a session tells.
use Rattle.std.specs.Prelude.{ℕ, ◌≡◌, ◌≤◌, ⊤, List, length, All, Contains}
use Rattle.actor_run.specs.{Passes.{IsPassOf, PassValue}, Sessions.SessionValue}
use Rattle.actor_run.specs.declared.session.Asked.{Asked}
use Rattle.actor_run.specs.declared.session.Asked.TheVariants as asked
use Rattle.dim_hierarchy.specs.{Dimension.Dimension, Names.IsNamePick, declared.filter.NamePick.NamePick, declared.row.Row.Row}
use Rattle.row_ledger.specs.{declared.event.Event.Event, declared.event.Event.TheVariants.Answered}
use Rattle.actor_run.specs.seat_steps.specs.declared.floor.Floor.{Floor}
use Rattle.actor_run.specs.volap_cell.specs.declared.role.Role.TheVariants.{Session}
use Rattle.hall_calls.specs.{Rows.{AreOwn, Counts, IsOwnRow, Teller}, declared.work.Told.Told}

abbrev pub teller_of : SessionValue → Teller
teller_of s = record { number = s.number; server = s.server }

-- The names of two rows and the picks of a question are one for each dimension.
pub record AreNamesFor (h : List Dimension) (one other : List (List ℕ)) (picks : List NamePick) : Type 0 where
  pub one_each : length one ≡ length h
  pub other_each : length other ≡ length h
  pub pick_each : length picks ≡ length h
  pub some : All IsNamePick picks

-- the session has seen so many different rows of its own
abbrev pub HasOwn : SessionValue → ℕ → Type 0
HasOwn s count = (rows : List Row) × AreOwn (teller_of s) s.seen count rows

-- a row of its own that had not begun when the session had seen less
pub record IsNewRow (was now : SessionValue) (r : Row) : Type 0 where
  pub past : length was.seen ≤ r.no
  pub own : IsOwnRow (teller_of now) now.seen r

-- where there is an answer, the history has it, and it counts these rows
abbrev pub Answers : List Dimension → List NamePick → List Event → List Row → Asked → Type 0
Answers h names history rows (asked.Answer of answer) = Contains history (Answered of answer) × Counts h names rows answer
Answers h names history rows (asked.Unknown dim) = ⊤
Answers h names history rows asked.NoMemory = ⊤

-- A history has as many rows of the session's own as it tells, and its answer, which counts them.
pub record IsTold (h : List Dimension) (names : List NamePick) (t : Teller) (history : List Event) (told : Told) : Type 0 where
  pub rows : List Row
  pub inserted : AreOwn t history told.acked rows
  pub answer : Answers h names history rows told.answer

-- The pass has come back from its session, which told this.
pub record HasWorked (f : Floor) (names : List NamePick) (pass back : PassValue) (told : Told) : Type 0 where
  pub of : IsPassOf f back
  pub number : back.number ≡ pass.number
  pub tells : (server : ℕ) → pass.role ≡ Session server → IsTold f.hierarchy names (record { number = pass.number; server = server }) back.seen told
