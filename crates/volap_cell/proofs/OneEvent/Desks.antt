-- One event more, that splits and moves no shard: desks, and what the parts of queries have counted.
use Rattle.std.proofs.{Common.{◌≡◌, ℕ, ◌<◌, ◌≤◌, ◌∙◌, List, [], ◌∷◌, map, Bool, true, false, length, refl, sym, ap, subst, arith, ◌⊎◌, inl, inr, All, Contains, ◌==◌, le_of_lt, eqb-true}, lemmas.List.Elements.{All-weaker, All-contains, All-contains_itself}, lemmas.List.Folds.Any-from_list_any}
use Rattle.std.specs.{List.list_any, Prelude.{Option, Some, None}}
use Rattle.dim_hierarchy.specs.{Dimension.Dimension, Filter.matches, declared.filter.Pick.Pick, declared.row.Row.Row}
use Rattle.dc_node.specs.declared.block.Block.{Block}
use Rattle.measure_agg.specs.Aggregate.{agg}
use Rattle.query_router.specs.{Desk.{DeskValue, state_is_refused, is_refused}, declared.part.Part.Part, declared.part.PartState.PartState, declared.part.Want.Want}
use Rattle.query_router.specs.declared.part.PartState.TheVariants as state
use Rattle.query_router.specs.declared.part.Want.TheVariants as want
use Rattle.row_ledger.specs.{Bounds.{must, known}, Changes.ShardsStay, Past.{Ack, Query, insert_at, query_at, before, acked}, declared.event.Event.Event}
use Rattle.row_ledger.proofs.{Answering.All-acked_before, Positions.before-older}
use Rattle.list_words.proofs.{Elements.Contains-mapped, Times.same_is}
use Rattle.shard_build.specs.shard_store.specs.declared.gate.Gate.{Gate}
use Rattle.list_words.specs.Counts.{times}
use Rattle.shard_build.specs.tree_shape.specs.{Queries.{IsUnfinished, fits}, Shape.{Shape, nodes}, Tables.{AreAlike, IsThereOrCounted}}
use Rattle.shard_build.specs.tree_shape.proofs.Whole.Tables.{query-alike}
use Rattle.volap_cell.specs.{Desking.{AreUnrelated, AreLinesApart, IsQueryPart, IsWantOf, Desking}, Errands.{Taken, ReadPart}, Growing.{table_of, IsUnder}, Querying.{must_hold, IsCounted, HoldsOr, IsEndOfPart, IsWalk, IsInTreeOf, IsReading, Querying}, Setting.Setting, Stocking.cells_at, Values.ReadingValue, View.row_at, declared.command.Command.Command, declared.role.Role.Role}
use Rattle.volap_cell.proofs.{OneEvent.Known.{AreOlder, All-inside, known-acked}, OneEvent.Older.{comes-stays, insert-kept, query-kept, row-older, Any-weaker, query-within}, OneEvent.Rows.{under-grown, under-was}}

-- an actor has read a gate for a query of the server
abbrev pub IsReader : (ℕ → Option ReadPart) → ℕ → Type 0
IsReader reads server = (a : ℕ) × (p : ReadPart) × (reads a ≡ Some p) × (p.server ≡ server)

-- what a part's command asks for
pub want-grown : (e : Event) (h : List Event) (of : ℕ) (w : Want) → IsWantOf h of w → IsWantOf (e ∷ h) of w
want-grown e h of (want.Row row) i = (i.0, insert-kept e h of i.0 i.1, i.2)
want-grown e h of (want.Filter f) i = (i.0, query-kept e h of i.0 i.1, i.2)

-- what a query must hold, that began before
pub must_hold-grown : (hierarchy : List Dimension) (e : Event) (h : List Event) (of : ℕ) (q : Query) → of ≤ length h → must_hold hierarchy (e ∷ h) of q ≡ must_hold hierarchy h of q
must_hold-grown hierarchy e h of q older = (let f : List Event → ℕ → Bool = λ past r. list_any (λ (x : Row). x.no == r) (must hierarchy past q.server) in ap f (before-older e h of older))

-- a row that a query must hold was acknowledged, and so has passed a gate
pub must_hold-placed : (hierarchy : List Dimension) (h : List Event) (placed : ℕ → Bool) → AreOlder h placed → (of : ℕ) (q : Query) (r : ℕ) → must_hold hierarchy h of q r ≡ true → placed r ≡ true
must_hold-placed hierarchy h placed older of q r held =
    let found = Any-from_list_any (λ (x : Row). x.no == r) (must hierarchy (before h of) q.server) held in
    let of_ack = Contains-mapped (λ (k : Ack). k.row) (known hierarchy (before h of) q.server) found.1 (found.0, found.2, found.3) in
    let k : Ack = of_ack.0 in
    let then : Contains (acked (before h of)) k = known-acked hierarchy (before h of) q.server k of_ack.1 in
    let all : All (Contains (acked h)) (acked (before h of)) = All-acked_before (Contains (acked h)) h of (All-contains_itself (acked h)) in
    let now : Contains (acked h) k = All-contains (Contains (acked h)) (acked (before h of)) k all then in
    let number : k.row.no ≡ r = ap (λ (x : Row). x.no) of_ack.2 ∙ eqb-true found.1.no r found.4 in
    subst (λ (n : ℕ). placed n ≡ true) number (older.acked_rows k now)

module _ (s : Setting) (e : Event) (h : List Event) (stay : ShardsStay s.workers e h) where
  -- Desks.

  pub unrelated-grown : (p other : Part) → AreUnrelated h p other → AreUnrelated (e ∷ h) p other
  unrelated-grown p other i = (comes-stays s.workers e h stay p.shard other.shard ∙ i.0, comes-stays s.workers e h stay other.shard p.shard ∙ i.1)

  pub lines-grown : (parts : List Part) → AreLinesApart h parts → AreLinesApart (e ∷ h) parts
  lines-grown [] i = tt
  lines-grown (p ∷ parts) i = (All-weaker (AreUnrelated h p) (AreUnrelated (e ∷ h) p) (unrelated-grown p) parts i.0, lines-grown parts i.1)

  -- shards that were made stay made
  pub query-parts-grown : (parts : List Part) → All (IsQueryPart s h) parts → All (IsQueryPart s (e ∷ h)) parts
  query-parts-grown parts all = All-weaker (IsQueryPart s h) (IsQueryPart s (e ∷ h)) (λ p i. (i.0, subst (λ (k : ℕ). p.shard < k) (sym stay.ids) i.1)) parts all

  -- what stands on desks began before
  pub desking-grown : (desks : ℕ → DeskValue) (roles : ℕ → Role) (commands : ℕ → Option Command) (taken : ℕ → Option Taken)
      → ((server of : ℕ) → server < s.servers → (desks server).op ≡ Some of → (insert_at (e ∷ h) of ≡ insert_at h of) × (query_at (e ∷ h) of ≡ query_at h of))
      → Desking s h desks roles commands taken → Desking s (e ∷ h) desks roles commands taken
  desking-grown desks roles commands taken same i = record {
    empty = i.empty;
    whose = i.whose;
    on_desk = i.on_desk;
    insert = λ server of insert within op is. let b = same server of within op in i.insert server of insert within op (sym b.0 ∙ is);
    query = λ server of q within op is. let b = same server of within op in let t = i.query server of q within op (sym b.1 ∙ is) in (t.0, lines-grown (desks server).parts t.1, query-parts-grown (desks server).parts t.2);
    takers = i.takers;
    at_parts = λ a t is. let p = i.at_parts a t is in record { within = p.within; of = p.of; op = p.op; wants = want-grown e h p.of t.want p.wants; part = p.part };
    one = i.one;
  }

  -- Queries.

  module _ (placed : ℕ → Bool) (home : ℕ → ℕ) (older : AreOlder h placed) where
    row-was : (r : ℕ) → placed r ≡ true → row_at (e ∷ h) r ≡ row_at h r
    row-was r p = row-older e h r (older.placed_rows r p)

    pub fits-was : (f : List Pick) (r : ℕ) → placed r ≡ true → fits (table_of s (row_at (e ∷ h))) f r ≡ fits (table_of s (row_at h)) f r
    fits-was f r p = ap (λ (x : Row). matches s.hierarchy f x.at) (row-was r p)

    pub counted-grown : (q : Query) (x : ℕ) (counted : List ℕ) → IsCounted s h (row_at h) placed home q x counted → IsCounted s (e ∷ h) (row_at (e ∷ h)) placed home q x counted
    counted-grown q x counted i = record {
      once = i.once;
      fitting = λ r some. let u = i.under r some in fits-was q.filter r u.is_placed ∙ i.fitting r some;
      under = λ r some. under-grown s e h stay placed home x r (i.under r some);
    }

    -- rows that are as they were, as a list
    pub rows-counted : (counted : List ℕ) → ((r : ℕ) → 1 ≤ times r counted → row_at (e ∷ h) r ≡ row_at h r) → map (row_at (e ∷ h)) counted ≡ map (row_at h) counted
    rows-counted [] there = refl
    rows-counted (n ∷ ns) there =
        let is = same_is n n refl in
        let here : row_at (e ∷ h) n ≡ row_at h n = there n (omega arith) in
        let others : map (row_at (e ∷ h)) ns ≡ map (row_at h) ns = rows-counted ns (λ r some. there r (omega arith)) in
        cc

    pub holds-grown : (of : ℕ) (q : Query) (x : ℕ) (counted : List ℕ) (Else : ℕ → Type 0) → of ≤ length h
        → HoldsOr s h (row_at h) placed home of q x counted Else → HoldsOr s (e ∷ h) (row_at (e ∷ h)) placed home of q x counted Else
    holds-grown of q x counted Else began i = λ r m fit u.
        i r (ap (λ (f : ℕ → Bool). f r) (sym (must_hold-grown s.hierarchy e h of q began)) ∙ m) (sym (fits-was q.filter r u.is_placed) ∙ fit) (under-was s e h stay placed home x r u)

    pub end-of-part-grown : (of : ℕ) (q : Query) (x : ℕ) (counted : List ℕ) (st : PartState) → of ≤ length h → (state_is_refused st ≡ false → IsCounted s h (row_at h) placed home q x counted)
        → IsEndOfPart s h (row_at h) placed home of q x counted st → IsEndOfPart s (e ∷ h) (row_at (e ∷ h)) placed home of q x counted st
    end-of-part-grown of q x counted (state.Waiting wanted) began count i = i
    end-of-part-grown of q x counted (state.Done total) began count i =
        let c = count refl in
        (i.0 ∙ ap agg (sym (rows-counted counted (λ r some. let u = c.under r some in row-was r u.is_placed))), holds-grown of q x counted (λ r. ⊥) began i.1)
    end-of-part-grown of q x counted _ began count i = tt

    -- Parts that have read their gates. The rows that one has counted, or that are in the tree that it reads, began before.

    pub walk-grown : (blocks : ℕ → Block) (trees : ℕ → Gate) (shape : ℕ → Shape) (of : ℕ) (q : Query) (counted : List ℕ) (r : ReadingValue) (pin : Option ℕ) → of ≤ length h
        → ((n : ℕ) → (1 ≤ times n counted) ⊎ IsInTreeOf shape pin n → row_at (e ∷ h) n ≡ row_at h n)
        → IsWalk s h (row_at h) blocks trees shape of q counted r pin → IsWalk s (e ∷ h) (row_at (e ∷ h)) blocks trees shape of q counted r pin
    walk-grown blocks trees shape of q counted r None began rows i = i
    walk-grown blocks trees shape of q counted r (Some c) began rows i =
        let alike : AreAlike (IsThereOrCounted (shape c) counted) (table_of s (row_at h)) (table_of s (row_at (e ∷ h))) =
        record { hierarchy = refl; row = λ n there. rows n (elim there [ inl p ↦ inr p | inr some ↦ inl some ]) } in
        let now = query-alike (table_of s (row_at h)) (table_of s (row_at (e ∷ h))) (shape c) (nodes (cells_at blocks trees c)) (must_hold s.hierarchy h of q) q.filter r.items counted alike i.1 in (
          i.0,
          subst (λ (holds : ℕ → Bool). IsUnfinished (shape c) (nodes (cells_at blocks trees c)) holds (fits (table_of s (row_at (e ∷ h))) q.filter) r.items counted)
              (sym (must_hold-grown s.hierarchy e h of q began)) now.unfinished,
        )

    pub reading-grown : (blocks : ℕ → Block) (trees : ℕ → Gate) (shape : ℕ → Shape) (of : ℕ) (q : Query) (x : ℕ) (counted : List ℕ) (r : ReadingValue) → of ≤ length h
        → ((n : ℕ) → (1 ≤ times n counted) ⊎ IsInTreeOf shape r.pin n → row_at (e ∷ h) n ≡ row_at h n)
        → IsReading s h (row_at h) blocks trees shape placed home of q x counted r → IsReading s (e ∷ h) (row_at (e ∷ h)) blocks trees shape placed home of q x counted r
    reading-grown blocks trees shape of q x counted r began rows i = record {
      wanted = i.wanted;
      total = i.total ∙ ap agg (sym (rows-counted counted (λ n some. rows n (inl some))));
      walk = walk-grown blocks trees shape of q counted r r.pin began rows i.walk;
      holds = holds-grown of q x counted (IsInTreeOf shape r.pin) began i.holds;
    }

    -- what stands on desks began before, and so did the rows that readings have counted or may find
    pub querying-grown : (blocks : ℕ → Block) (trees : ℕ → Gate) (desks : ℕ → DeskValue) (taken : ℕ → Option Taken) (reads : ℕ → Option ReadPart) (shape : ℕ → Shape) (counted : ℕ → ℕ → List ℕ)
        → ((server of : ℕ) → (server < s.servers) ⊎ IsReader reads server → (desks server).op ≡ Some of → query_at (e ∷ h) of ≡ query_at h of)
        → ((a of : ℕ) (q : Query) (p : ReadPart) → reads a ≡ Some p → (desks p.server).op ≡ Some of → query_at h of ≡ Some q
        → (n : ℕ) → (1 ≤ times n (counted p.server p.shard)) ⊎ IsInTreeOf shape p.reading.pin n → row_at (e ∷ h) n ≡ row_at h n)
        → Querying s h (row_at h) blocks trees desks taken reads shape placed home counted → Querying s (e ∷ h) (row_at (e ∷ h)) blocks trees desks taken reads shape placed home counted
    querying-grown blocks trees desks taken reads shape counted same rows i = record {
      counts = λ server of q within op is.
          All-weaker (λ (p : Part). is_refused p ≡ false → IsCounted s h (row_at h) placed home q p.shard (counted server p.shard))
          (λ (p : Part). is_refused p ≡ false → IsCounted s (e ∷ h) (row_at (e ∷ h)) placed home q p.shard (counted server p.shard))
          (λ p f not_refused. counted-grown q p.shard (counted server p.shard) (f not_refused)) (desks server).parts (i.counts server of q within op (sym (same server of (inl within) op) ∙ is));
      ends = λ server of q within op is.
          let was : query_at h of ≡ Some q = sym (same server of (inl within) op) ∙ is in
          let count = i.counts server of q within op was in
          All-inside (λ (p : Part). IsEndOfPart s h (row_at h) placed home of q p.shard (counted server p.shard) p.state)
          (λ (p : Part). IsEndOfPart s (e ∷ h) (row_at (e ∷ h)) placed home of q p.shard (counted server p.shard) p.state) (desks server).parts
          (λ p has f. end-of-part-grown of q p.shard (counted server p.shard) p.state (le_of_lt (query-within h of q was))
          (All-contains (λ (p : Part). is_refused p ≡ false → IsCounted s h (row_at h) placed home q p.shard (counted server p.shard)) (desks server).parts p count has) f)
          (i.ends server of q within op was);
      whole = λ server of q within op is r m fit.
          let was : query_at h of ≡ Some q = sym (same server of (inl within) op) ∙ is in
          let held : must_hold s.hierarchy h of q r ≡ true = ap (λ (f : ℕ → Bool). f r) (sym (must_hold-grown s.hierarchy e h of q (le_of_lt (query-within h of q was)))) ∙ m in
          Any-weaker (λ (p : Part). IsUnder h placed home p.shard r) (λ (p : Part). IsUnder (e ∷ h) placed home p.shard r) (λ p. under-grown s e h stay placed home p.shard r) (desks server).parts
          (i.whole server of q within op was r held (sym (fits-was q.filter r (must_hold-placed s.hierarchy h placed older of q r held)) ∙ fit));
      reading = λ a of q p is op asked.
          let was : query_at h of ≡ Some q = sym (same p.server of (inr (a, p, is, refl)) op) ∙ asked in
          reading-grown blocks trees shape of q p.shard (counted p.server p.shard) p.reading (le_of_lt (query-within h of q was)) (rows a of q p is op was) (i.reading a of q p is op was);
      unread = i.unread;
    }
