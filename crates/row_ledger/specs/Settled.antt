-- When an answer is of all that was acknowledged.
use Rattle.std.specs.{List.range_with_len, Prelude.{ℕ, ◌≡◌, ◌<◌, IsTrue, Some, List, [], ◌∷◌, ◌++◌, map, filter, filter_map, reverse, All, Contains}}
use Rattle.dim_hierarchy.specs.{Dimension.Dimension, Filter.matches, declared.row.Row.Row}
use Rattle.measure_agg.specs.Aggregate.{Aggregate, agg}
use Rattle.row_ledger.specs.{Bounds.must, Past.{Ack, Pull, Query, before, since, insert_in, pull_in, query_at, has_ended, begun, acked, acked_rows}, Right.IsRight, Site.Site, declared.event.Event.Event, declared.event.Event.TheVariants.Answered}

-- The query that began at `of` is settled behind this past: no insert was open when it began, none has begun since, and
-- its server had to know each row that was acknowledged before it.
pub record IsSettled (site : Site) (past : List Event) (of : ℕ) (query : Query) : Type 0 where
  pub none_begun : filter_map insert_in (since past of) ≡ []
  pub none_open : All (λ (r : Row). IsTrue (has_ended (before past of) r.no)) (begun (before past of))
  pub known : All (Contains (must site.hierarchy (before past of) query.server)) (acked_rows (before past of))

-- in a right history a settled answer is the aggregate of all matching rows that were acknowledged when the query began
abbrev pub SettledIsAll : Type 0
SettledIsAll =
    (site : Site) (later past : List Event) (of : ℕ) (answer : Aggregate) (query : Query)
    → IsRight site (later ++ Answered of answer ∷ past) → query_at past of ≡ Some query → IsSettled site past of query
    → answer ≡ agg (filter (λ (r : Row). matches site.hierarchy query.filter r.at) (acked_rows (before past of)))

-- Pulls.

-- the servers that have pulled since a position, the first one first
abbrev pub pulls_since : List Event → ℕ → List ℕ
pulls_since past of = reverse (map (λ (p : Pull). p.server) (filter_map pull_in (since past of)))

-- what a settle pulls: for each server in the order of their numbers, and then for each once more
abbrev pub settle_pulls : ℕ → List ℕ
settle_pulls servers = range_with_len 0 servers ++ range_with_len 0 servers

-- where the servers have so pulled since a position, each must know all that was acknowledged through them before it
abbrev pub SettleTellsAll : Type 0
SettleTellsAll =
    (h : List Dimension) (past : List Event) (of servers server : ℕ) (a : Ack)
    → pulls_since past of ≡ settle_pulls servers → server < servers → a.server < servers
    → Contains (acked (before past of)) a → Contains (must h past server) a.row
