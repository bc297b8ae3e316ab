-- Queries: what each part of an open query has counted, and what is still beneath what it has noted.
use Rattle.std.specs.{List.list_any, Prelude.{ℕ, ◌≡◌, ◌≢◌, ◌==◌, ◌<◌, ◌≤◌, ◌⊎◌, ⊤, Bool, true, false, List, [], Option, Some, None, map, All, Any, if◌then◌else◌}}
use Rattle.dim_hierarchy.specs.{Compiled.compiled, Dimension.Dimension, declared.filter.Pick.Pick, declared.row.Row.Row}
use Rattle.measure_agg.specs.Aggregate.{agg}
use Rattle.dc_node.specs.declared.block.Block.{Block}
use Rattle.query_router.specs.{Desk.{DeskValue, is_refused}, declared.part.Part.Part, declared.part.PartState.PartState}
use Rattle.query_router.specs.declared.part.PartState.TheVariants as state
use Rattle.query_router.specs.declared.part.Want.TheVariants as want
use Rattle.row_ledger.specs.{Bounds.must, Past.{Query, before, query_at}, declared.event.Event.Event}
use Rattle.shard_build.specs.shard_store.specs.declared.gate.Gate.{Gate}
use Rattle.list_words.specs.Counts.{Each, times}
use Rattle.shard_build.specs.tree_shape.specs.{Queries.{IsUnfinished, fits}, Shape.{Shape, nodes}}
use Rattle.volap_cell.specs.{Errands.{ReadPart, Taken}, Growing.{IsUnder, table_of}, Setting.{Setting, actor_count}, Stocking.cells_at, Sums.sum_below, Values.ReadingValue}

-- Pins.

abbrev pub one_pin : ℕ → Option ℕ → ℕ
one_pin c None = 0
one_pin c (Some pin) = if pin == c then 1 else 0

abbrev pub pins_of : ℕ → Option ReadPart → ℕ
pins_of c None = 0
pins_of c (Some p) = one_pin c p.reading.pin

-- A gate counts the parts that are pinned to it. It is one of the part's shard: the shard may be gone, or have another gate today.
pub record Pinning (s : Setting) (gates : ℕ → Option ℕ) (pins : ℕ → ℕ) (reads : ℕ → Option ReadPart) : Type 0 where
  pub counts : (c : ℕ) → pins c ≡ sum_below (actor_count s) (λ a. pins_of c (reads a))
  pub shard : (a c : ℕ) (p : ReadPart) → reads a ≡ Some p → p.reading.pin ≡ Some c → gates c ≡ Some p.shard

-- Rows.

-- whether a query that began at a position must hold the row
abbrev pub must_hold : List Dimension → List Event → ℕ → Query → ℕ → Bool
must_hold h history of q r = list_any (λ (x : Row). x.no == r) (must h (before history of) q.server)

-- What a part has counted: no row twice, only such as the filter matches, and only rows of its shard, or of one that comes from it,
-- that have passed their gates. So none of them ever fails, and no other part counts it.
pub record IsCounted (s : Setting) (history : List Event) (row : ℕ → Row) (placed : ℕ → Bool) (home : ℕ → ℕ) (q : Query) (x : ℕ) (counted : List ℕ) : Type 0 where
  pub once : (r : ℕ) → times r counted ≤ 1
  pub fitting : (r : ℕ) → 1 ≤ times r counted → fits (table_of s row) q.filter r ≡ true
  pub under : (r : ℕ) → 1 ≤ times r counted → IsUnder history placed home x r

-- each row that the query must hold, that its filter matches and that is of the part's shard is counted, or else
abbrev pub HoldsOr : Setting → List Event → (ℕ → Row) → (ℕ → Bool) → (ℕ → ℕ) → ℕ → Query → ℕ → List ℕ → (ℕ → Type 0) → Type 0
HoldsOr s history row placed home of q x counted Else =
    (r : ℕ) → must_hold s.hierarchy history of q r ≡ true → fits (table_of s row) q.filter r ≡ true → IsUnder history placed home x r → (1 ≤ times r counted) ⊎ Else r

-- a part at its end: it has what it counted, which is all that it had to
abbrev pub IsEndOfPart : Setting → List Event → (ℕ → Row) → (ℕ → Bool) → (ℕ → ℕ) → ℕ → Query → ℕ → List ℕ → PartState → Type 0
IsEndOfPart s history row placed home of q x counted (state.Waiting wanted) = counted ≡ []
IsEndOfPart s history row placed home of q x counted (state.Done total) = (total ≡ agg (map row counted)) × HoldsOr s history row placed home of q x counted (λ r. ⊥)
IsEndOfPart s history row placed home of q x counted _ = ⊤

-- what a part that isn't pinned has noted, and one that is: then the tree there is the shape's
abbrev pub IsWalk : Setting → List Event → (ℕ → Row) → (ℕ → Block) → (ℕ → Gate) → (ℕ → Shape) → ℕ → Query → List ℕ → ReadingValue → Option ℕ → Type 0
IsWalk s history row blocks trees shape of q counted r None = r.items ≡ []
IsWalk s history row blocks trees shape of q counted r (Some c) =
    Each (λ i. i.cell ≢ c) r.items
    × IsUnfinished (shape c) (nodes (cells_at blocks trees c)) (must_hold s.hierarchy history of q) (fits (table_of s row) q.filter) r.items counted

-- what isn't counted is in the tree to which the part is pinned, and there beneath what it has noted
abbrev pub IsInTreeOf : (ℕ → Shape) → Option ℕ → ℕ → Type 0
IsInTreeOf shape None r = ⊥
IsInTreeOf shape (Some c) r = (shape c).placed r ≡ true

-- a part that has read its gate
pub record IsReading (s : Setting) (history : List Event) (row : ℕ → Row) (blocks : ℕ → Block) (trees : ℕ → Gate) (shape : ℕ → Shape) (placed : ℕ → Bool) (home : ℕ → ℕ) (of : ℕ) (q : Query) (x : ℕ) (counted : List ℕ) (r : ReadingValue) : Type 0 where
  pub wanted : r.wanted ≡ compiled s.hierarchy q.filter
  pub total : r.agg ≡ agg (map row counted)
  pub walk : IsWalk s history row blocks trees shape of q counted r r.pin
  pub holds : HoldsOr s history row placed home of q x counted (IsInTreeOf shape r.pin)

-- For each open query, on the desk of its server: of every part that didn't find memory wanting, the facts above; and each row that
-- it must hold is under the shard of a part.
pub record Querying (s : Setting) (history : List Event) (row : ℕ → Row) (blocks : ℕ → Block) (trees : ℕ → Gate) (desks : ℕ → DeskValue) (taken : ℕ → Option Taken) (reads : ℕ → Option ReadPart) (shape : ℕ → Shape) (placed : ℕ → Bool) (home : ℕ → ℕ) (counted : ℕ → ℕ → List ℕ) : Type 0 where
  pub counts : (server of : ℕ) (q : Query) → server < s.servers → (desks server).op ≡ Some of → query_at history of ≡ Some q
      → All (λ (p : Part). is_refused p ≡ false → IsCounted s history row placed home q p.shard (counted server p.shard)) (desks server).parts
  pub ends : (server of : ℕ) (q : Query) → server < s.servers → (desks server).op ≡ Some of → query_at history of ≡ Some q
      → All (λ (p : Part). IsEndOfPart s history row placed home of q p.shard (counted server p.shard) p.state) (desks server).parts
  pub whole : (server of : ℕ) (q : Query) → server < s.servers → (desks server).op ≡ Some of → query_at history of ≡ Some q
      → (r : ℕ) → must_hold s.hierarchy history of q r ≡ true → fits (table_of s row) q.filter r ≡ true
      → Any (λ (p : Part). IsUnder history placed home p.shard r) (desks server).parts
  pub reading : (a of : ℕ) (q : Query) (p : ReadPart) → reads a ≡ Some p → (desks p.server).op ≡ Some of → query_at history of ≡ Some q
      → IsReading s history row blocks trees shape placed home of q p.shard (counted p.server p.shard) p.reading
  pub unread : (a : ℕ) (t : Taken) (f : List Pick) → taken a ≡ Some t → t.want ≡ want.Filter f → reads a ≡ None → counted t.server t.shard ≡ []
