-- A session's own rows in a history, and an answer that counts them.
use Rattle.std.specs.{List.IsDistinct, Prelude.{ℕ, ◌≡◌, nat_eq, IsTrue, List, length, Some, All, Contains}}
use Rattle.dim_hierarchy.specs.{Dimension.Dimension, Filter.{IsFilterNamed, matches}, declared.filter.{NamePick.NamePick, Pick.Pick}, declared.row.Row.Row}
use Rattle.measure_agg.specs.Aggregate.{Aggregate, agg}
use Rattle.row_ledger.specs.{Bounds.numbers, Past.{acked, event_at}, declared.event.Event.Event, declared.event.Event.TheVariants.Begun}

-- a session's number and its server
pub record Teller : Type 0 where
  pub number : ℕ
  pub server : ℕ

-- the session's insert of a row has begun in a history, and is acknowledged there
pub record IsOwnRow (t : Teller) (history : List Event) (r : Row) : Type 0 where
  pub begun : event_at history r.no ≡ Some (Begun t.number t.server r)
  pub path : List ℕ
  pub is_acked : Contains (acked history) (record { server = t.server; row = r; path = path })

-- these are so many different rows of its own
pub record AreOwn (t : Teller) (history : List Event) (count : ℕ) (rows : List Row) : Type 0 where
  pub count_is : length rows ≡ count
  pub own : All (IsOwnRow t history) rows
  pub once : IsDistinct nat_eq (numbers rows)

-- The answer is the aggregate of rows, each once, and all of these that the picks match are among them.
pub record Counts (h : List Dimension) (names : List NamePick) (rows : List Row) (answer : Aggregate) : Type 0 where
  pub filter : List Pick
  pub named : IsFilterNamed h names filter
  pub counted : List Row
  pub once : IsDistinct nat_eq (numbers counted)
  pub own : All (λ r. IsTrue (matches h filter r.at) → Contains counted r) rows
  pub total : answer ≡ agg counted
