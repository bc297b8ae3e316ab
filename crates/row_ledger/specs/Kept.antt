-- What is kept of a history while it goes on.
use Rattle.std.specs.{List.IsDistinct, Prelude.{ℕ, ◌≤◌, Bool, IsTrue, List, length, nat_eq, All, Contains}}
use Rattle.dim_hierarchy.specs.declared.row.Row.{Row}
use Rattle.row_ledger.specs.{Bounds.{may, numbers}, Past.{is_kept, Ack, acked}, Right.{EachEvent, IsFirstPull, StandsRight}, Site.Site, declared.event.Event.Event}

-- an opening so far: only first pulls
pub record IsOpeningHistory (site : Site) (h : List Event) : Type 0 where
  pub few : length h ≤ site.servers
  pub pulls : EachEvent (IsFirstPull site) h

-- What a run keeps: the history is right over the rows that have found their place, and none of these ever fails.
-- A right history doesn't stay right when a failure follows, since an earlier answer may have counted that row; this does.
pub record KeepsRight (site : Site) (placed : ℕ → Bool) (h : List Event) : Type 0 where
  pub right : StandsRight site placed h
  pub kept : (number : ℕ) → IsTrue (placed number) → IsTrue (is_kept h number)

-- A flat list of rows can answer any query behind this past: each stands in it once and may be counted, and all that
-- were acknowledged are there.
pub record CanAnswer (usable : ℕ → Bool) (past : List Event) (rows : List Row) : Type 0 where
  pub once : IsDistinct nat_eq (numbers rows)
  pub allowed : All (Contains (may usable past)) rows
  pub known : All (λ (a : Ack). Contains rows a.row) (acked past)
