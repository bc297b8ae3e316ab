-- What the invariant says of an actor whose query's part has noted a block: its part, the tree that it walks, and what it counted.
use Rattle.std.proofs.{Common.{◌≡◌, ◌≢◌, ℕ, ◌+◌, ◌<◌, ◌≤◌, true, false, cond, eqb, List, [], ◌∷◌, ◌++◌, length, map, Option, Some, None, refl, sym, ap, ◌∙◌, subst, inl, inr, ◌⊎◌, arith}, lemmas.Bool.eqb-true, lemmas.List.length-map, lemmas.List.Elements.All-contains}
use Rattle.dim_hierarchy.specs.declared.filter.Pick.{Pick}
use Rattle.dc_node.specs.declared.todo.Item.{Item}
use Rattle.measure_agg.specs.Aggregate.{Aggregate, agg}
use Rattle.query_router.specs.{Desk.is_refused, declared.part.Part.Part}
use Rattle.row_ledger.specs.{Past.{Query, query_at}, Shards.{comes_from, is_live}}
use Rattle.row_ledger.proofs.Descent.{comes_from-self}
use Rattle.volap_cell.specs.shard_store.specs.{declared.gate.Phase.Phase, declared.gate.Phase.TheVariants.{Open, Frozen, Gone}}
use Rattle.list_words.specs.Counts.{Each, same, times}
use Rattle.list_words.proofs.Truth.{on_bool}
use Rattle.volap_cell.specs.tree_shape.specs.{Laws.GateLaw, Queries.{IsUnfinished, fits}, Shape.{nodes, numbers}, Steps.IsAsked, Trees.IsTree}
use Rattle.volap_cell.specs.{Errands.{ReadPart, taken_by, taken_of, want_of}, Ghost.Ghost, Growing.{IsUnder, table_of}, Invariant.InvWith, Querying.{IsCounted, IsReading, IsWalk, must_hold}, Setting.Setting, Stocking.{cells_at, IsWhole}, Values.{ErrandValue, ReadingValue, Read}, View.{View, view}, World.World}
use Rattle.volap_cell.proofs.{Actors.read-is, Counting.{length-few, passing, passing-once}, Desks.Queries.{IsQueryPart, query-part}, OneEvent.Known.older-rows, OneEvent.Reads.{readers-take, pinned-whole, taken-kept}}

-- a gate's shard is gone, or stands
gone-or : (o : Option Phase) → (o ≡ Some Gone) ⊎ (o ≢ Some Gone)
gone-or None = inr (λ e. cc)
gone-or (Some Open) = inr (λ e. let z : Open ≡ Gone = cc in cc)
gone-or (Some (Frozen upto)) = inr (λ e. let z : Frozen upto ≡ Gone = cc in cc)
gone-or (Some Gone) = inl refl

module _ (s : Setting) (w : World) (g : Ghost) (i : InvWith s (view s w) g) where
  abbrev v : View
  v = view s w

  -- a row in the tree or the queue of a shard that stands is that shard's
  pub home-at : (x r : ℕ) → is_live s.workers v.history x ≡ true → 1 ≤ cond ((g.shape (g.gate x)).placed r) 1 0 + times r (numbers (v.queues (g.gate x)).rows) → (g.placed r ≡ true) × (g.home r ≡ x)
  home-at x r live some =
      let one = i.placing.one x r live in
      on_bool (g.placed r)
      (λ p. on_bool (eqb (g.home r) x)
      (λ q. (p, eqb-true _ _ q))
      (λ q. let none : cond (g.placed r) (same (g.home r) x) 0 ≡ 0 = rw (p, q) refl in absurd (omega arith)))
      (λ p. let none : cond (g.placed r) (same (g.home r) x) 0 ≡ 0 = rw p refl in absurd (omega arith))

  pub under-home : (x r : ℕ) → g.placed r ≡ true → g.home r ≡ x → IsUnder v.history g.placed g.home x r
  under-home x r placed home = record { is_placed = placed; comes = ap (comes_from v.history x) home ∙ comes_from-self v.history x }

  -- a row in a whole tree is of the tree's shard, or of one that comes from it
  pub rows-under : (c x r : ℕ) → v.gates c ≡ Some x → (g.shape c).placed r ≡ true → IsUnder v.history g.placed g.home x r
  rows-under c x r of_shard there = elim (gone-or (v.phases c)) [
    | inl gone ↦ (i.resting.rests c x r of_shard gone there).1
    | inr stands ↦
        let (live, is) = i.lineage.live c x of_shard stands in
        let in_gate : (g.shape (g.gate x)).placed r ≡ true = subst (λ (y : ℕ). (g.shape y).placed r ≡ true) (sym is) there in
        let (placed, home) = home-at x r live (rw in_gate (omega arith)) in
        under-home x r placed home
  ]

  -- a placed row began before
  pub placed-older : (r : ℕ) → g.placed r ≡ true → r < length v.history
  placed-older r placed = (older-rows s v.history i.placing).placed_rows r placed

  -- there are no more rows in a whole tree than events
  pub tree-few : GateLaw → (c x : ℕ) → v.gates c ≡ Some x → IsTree (table_of s v.row) (cells_at v.blocks v.trees c) (g.shape c) → (v.trees c).agg.count ≤ length v.history
  tree-few gates c x of_shard tree =
      let placed = (g.shape c).placed in
      let below : (r : ℕ) → placed r ≡ true → r < length v.history = λ r p. placed-older r (rows-under c x r of_shard p).is_placed in
      let rows = passing placed (length v.history) in
      let each = passing-once placed (length v.history) below in
      let sum = gates (table_of s v.row) (cells_at v.blocks v.trees c) (g.shape c) tree rows each in
      let count : (v.trees c).agg.count ≡ length (map v.row rows) = ap (λ (a : Aggregate). a.count) sum.agg in
      let many = length-map rows v.row in
      let few = length-few rows (length v.history)
      (λ r. let e = each r in on_bool (placed r) (λ p. let k = rw p at e in omega arith) (λ p. let k = rw p at e in omega arith))
      (λ r there. let e = each r in on_bool (placed r) (λ p. below r p) (λ p. let k = rw p at e in absurd (omega arith))) in
      omega arith

  -- and a query has counted no more
  pub counted-few : (q : Query) (x : ℕ) (ns : List ℕ) → IsCounted s v.history v.row g.placed g.home q x ns → (agg (map v.row ns)).count ≤ length v.history
  counted-few q x ns counts =
      let many = length-map ns v.row in
      let few = length-few ns (length v.history) counts.once (λ r there. placed-older r (counts.under r there).is_placed) in
      omega arith

  -- of this hierarchy, which has a dimension, is the filter of each query
  pub asked-of : (of : ℕ) (q : Query) → query_at v.history of ≡ Some q → IsAsked (table_of s v.row) q.filter
  asked-of of q asked = record { filter = (i.telling.filters of q asked).0; dims = (i.telling.filters of q asked).2 }

  -- what a part has counted
  pub part-counts : (e : ErrandValue) (f : List Pick) (k : IsQueryPart s v.history v.desks (taken_by e) f) → IsCounted s v.history v.row g.placed g.home k.q e.shard (g.counted e.server e.shard)
  part-counts e f k =
      subst (λ (x : ℕ). IsCounted s v.history v.row g.placed g.home k.q x (g.counted e.server x)) k.shard
      (All-contains (λ (p : Part). is_refused p ≡ false → IsCounted s v.history v.row g.placed g.home k.q p.shard (g.counted e.server p.shard)) (v.desks e.server).parts k.part
      (i.querying.counts e.server k.of k.q k.within k.op k.asked) k.there (taken-kept k.part.state k.is_at))

-- A part that has noted a block is pinned to a gate, whose tree it walks.
pub record IsWalker (s : Setting) (w : World) (g : Ghost) (e : ErrandValue) (r : ReadingValue) (items : List Item) (item : Item) : Type 0 where
  pub part : IsQueryPart s (view s w).history (view s w).desks (taken_by e) r.wanted.picks
  pub reading : IsReading s (view s w).history (view s w).row (view s w).blocks (view s w).trees g.shape g.placed g.home part.of part.q e.shard (g.counted e.server e.shard) r
  pub counts : IsCounted s (view s w).history (view s w).row g.placed g.home part.q e.shard (g.counted e.server e.shard)
  pub asked : IsAsked (table_of s (view s w).row) part.q.filter
  pub gate : ℕ
  pub pin : r.pin ≡ Some gate
  pub whole : IsWhole (view s w).gates (view s w).phases (view s w).pins gate
  pub of_shard : (view s w).gates gate ≡ Some e.shard
  pub tree : IsTree (table_of s (view s w).row) (cells_at (view s w).blocks (view s w).trees gate) (g.shape gate)
  pub apart : Each (λ i. i.cell ≢ gate) (items ++ item ∷ [])
  pub unfinished : IsUnfinished (g.shape gate) (nodes (cells_at (view s w).blocks (view s w).trees gate)) (must_hold s.hierarchy (view s w).history part.of part.q) (fits (table_of s (view s w).row) part.q.filter) (items ++ item ∷ []) (g.counted e.server e.shard)

pub walker : (s : Setting) (w : World) (g : Ghost) → InvWith s (view s w) g → (n : ℕ) (e : ErrandValue) (r : ReadingValue) (items : List Item) (item : Item) → (w.actors n).errand ≡ Some e → e.task ≡ Read r → r.items ≡ items ++ item ∷ []
    → IsWalker s w g e r items item
walker s w g i n e r items item errand task noted =
    let v = view s w in
    let took : v.taken n ≡ Some (taken_by e) = ap taken_of errand in
    let part = query-part s v.history v.desks v.roles v.commands v.taken i.desking n (taken_by e) r.wanted.picks took (ap want_of task) in
    let p : ReadPart = record { server = e.server; shard = e.shard; reading = r } in
    let reads : v.reads n ≡ Some p = read-is errand task in
    let reading = i.querying.reading n part.of part.q p reads part.op part.asked in
    let (gate, pin, apart, unfinished) = pinned part.of part.q (g.counted e.server e.shard) r.pin refl reading.walk in
    let whole = pinned-whole s v.tags v.numbers v.roles v.settings v.counted_in v.purses v.commands v.taken v.jobs v.gates v.phases v.pins v.reads i.numbering (readers-take s w) i.pinning n gate p reads pin in
    record {
      part = part;
      reading = reading;
      counts = part-counts s w g i e r.wanted.picks part;
      asked = asked-of s w g i part.of part.q part.asked;
      gate = gate;
      pin = pin;
      whole = whole;
      of_shard = i.pinning.shard n gate p reads pin;
      tree = i.growing.tree gate whole;
      apart = subst (Each (λ (i : Item). i.cell ≢ gate)) noted apart;
      unfinished = subst (λ (xs : List Item). IsUnfinished (g.shape gate) (nodes (cells_at v.blocks v.trees gate)) (must_hold s.hierarchy v.history part.of part.q) (fits (table_of s v.row) part.q.filter) xs (g.counted e.server e.shard)) noted unfinished;
    }
  where
    none-noted : (xs ys : List Item) (x : Item) → xs ≡ ys ++ x ∷ [] → xs ≡ [] → ⊥
    none-noted xs [] x e k = (let z : [] ≡ x ∷ [] = sym k ∙ e in cc)
    none-noted xs (y ∷ ys) x e k = (let z : [] ≡ y ∷ (ys ++ x ∷ []) = sym k ∙ e in cc)

    pinned : (of : ℕ) (q : Query) (counted : List ℕ) (pin : Option ℕ) → r.pin ≡ pin → IsWalk s (view s w).history (view s w).row (view s w).blocks (view s w).trees g.shape of q counted r pin
        → (gate : ℕ) × (r.pin ≡ Some gate) × Each (λ i. i.cell ≢ gate) r.items
        × IsUnfinished (g.shape gate) (nodes (cells_at (view s w).blocks (view s w).trees gate)) (must_hold s.hierarchy (view s w).history of q) (fits (table_of s (view s w).row) q.filter) r.items counted
    pinned of q counted None is walk = absurd (none-noted r.items items item noted walk)
    pinned of q counted (Some gate) is walk = (gate, is, walk.0, walk.1)
