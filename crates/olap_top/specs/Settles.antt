-- What a history says of queries and settles when nothing is left open.
use Rattle.std.specs.Prelude.{ℕ, ◌≡◌, ◌<◌, Some, List, ◌∷◌, ◌++◌, filter, Contains}
use Rattle.dim_hierarchy.specs.{Filter.matches, declared.row.Row.Row}
use Rattle.measure_agg.specs.Aggregate.{Aggregate, agg}
use Rattle.row_ledger.specs.{Bounds.must, Past.{Ack, Query, acked, acked_rows, before, call_at, query_at}, Settled.IsSettled, Site.Site, declared.event.Event.Event, declared.event.Event.TheVariants.{Answered, Ended}, declared.settings.Call.TheVariants.Settle, declared.settings.How.TheVariants.Fine}
use Rattle.olap_top.specs.Outcomes.{AreOfAllBehindSettles}

-- The answer to a query that is settled is the aggregate of all matching rows that were acknowledged when it began.
abbrev pub SettledAreAll : Site → List Event → Type 0
SettledAreAll site history =
    (later past : List Event) (of : ℕ) (answer : Aggregate) (query : Query) → history ≡ later ++ Answered of answer ∷ past
    → query_at past of ≡ Some query → IsSettled site past of query
    → answer ≡ agg (filter (λ (r : Row). matches site.hierarchy query.filter r.at) (acked_rows (before past of)))

-- From the end of a settle that was fine on, each server must know each row that was acknowledged before the settle began.
abbrev pub SettlesTell : Site → List Event → Type 0
SettlesTell site history =
    (later between past : List Event) (of server : ℕ) (a : Ack) → history ≡ later ++ (between ++ Ended of Fine ∷ past)
    → call_at past of ≡ Some Settle → server < site.servers → Contains (acked (before past of)) a
    → Contains (must site.hierarchy (between ++ Ended of Fine ∷ past) server) a.row

pub record IsSettling (site : Site) (history : List Event) : Type 0 where
  pub answers : SettledAreAll site history
  pub settles : SettlesTell site history
  pub of_all : AreOfAllBehindSettles site.hierarchy history
