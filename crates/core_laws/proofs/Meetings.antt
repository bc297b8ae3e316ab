-- Open queries: what their parts have read adds up to what is counted for them, and no row is met twice.
use Rattle.std.proofs.{Common.{◌≡◌, ◌∙◌, inl, inr, ◌⊎◌, ℕ, zero, suc, ◌+◌, ◌<◌, ◌≤◌, Bool, true, false, cond, eqb, leb, List, [], ◌∷◌, length, Option, Some, None, refl, sym, ap, subst, arith, map}, lemmas.Bool.{cases_lt, cond_both, false≢true, eqb-true, eqb-false}, lemmas.List.map-append, lemmas.List.Elements.{All-contains, Contains-append_right}, lemmas.Option.{get_or_from_slice_get, same_Some, slice_get_read, slice_get_within}}
use Rattle.std.specs.Prelude.{Any, Contains, IsTrue, not, slice_get}
use Rattle.measure_agg.proofs.AggLaws.{agg-append}
use Rattle.measure_agg.specs.{Aggregate.{Aggregate, agg}, Joining.join}
use Rattle.dim_hierarchy.specs.declared.filter.Pick.{Pick}
use Rattle.dc_node.specs.declared.todo.Item.{Item}
use Rattle.query_router.specs.{Desk.{is_refused, is_taken, state_is_refused, state_is_taken, state_waits, is_with}, declared.part.Part.Part, declared.part.PartState.PartState, declared.part.Want.Want}
use Rattle.query_router.specs.declared.part.PartState.TheVariants as state
use Rattle.query_router.specs.declared.part.Want.TheVariants as want
use Rattle.row_ledger.proofs.Descent.{comes_from-comparable, live-made}
use Rattle.row_ledger.specs.{Past.{Query, insert_at, query_at}, Shards.comes_from, declared.event.Event.Event}
use Rattle.list_words.proofs.{Times.same_is, Totals.total-append, Truth.on_bool}
use Rattle.list_words.specs.Counts.{same, times, total}
use Rattle.core_tree.specs.tree_shape.specs.{Queries.items_of, Shape.{Node, Shape, nodes}, Walks.{AreNoted, IsNoted, IsTail, Noted, beneath, pending, reach}}
use Rattle.core_tree.specs.volap_cell.proofs.{Desks.Facts.with-parts, Histories.Beginnings.no-query, Histories.Standings.{in-one, standing}, OneEvent.Reads.{readers-take, taken-kept}, Promised.{has-counted, is-placed, pinned-whole, reads-same}}
use Rattle.core_tree.specs.volap_cell.specs.{Desking.{AreLinesApart, AreUnrelated, IsAtPart, IsQueryState, IsTaken, IsWantOf}, Errands.{ReadPart, Taken}, Ghost.Ghost, Growing.IsUnder, Invariant.InvWith, Promises.{HasNotRead, IsAheadOf, IsInOne}, Querying.{IsCounted, IsEndOfPart, IsReading, IsWalk}, Setting.{Setting, site_in}, Stocking.cells_at, View.{View, view}, World.World}
use Rattle.core_tree.proofs.Queries.Walkers.{rows-under}
use Rattle.core_laws.specs.Meeting.{AddUp, HasRead, HasReadBy, IsBeneathPending, IsNotedAt, MeetLaw, MeetsOnce, NotedBlock, Pending, WholePart, agg_read, counted_for, heard}

-- Places in lists.

-- the parts at two places are of lines apart
apart-places : (h : List Event) (parts : List Part) (n m : ℕ) (p other : Part) → AreLinesApart h parts → slice_get parts n ≡ Some p → slice_get parts m ≡ Some other → ((n ≡ m) × (p ≡ other)) ⊎ AreUnrelated h p other
apart-places h [] n m p other apart here there = cc
apart-places h (x ∷ parts) zero zero p other apart here there = inl (refl, same_Some p other (sym here ∙ there))
apart-places h (x ∷ parts) zero (suc m) p other apart here there =
    inr (subst (λ (k : Part). AreUnrelated h k other) (same_Some x p here) (All-contains (AreUnrelated h x) parts other apart.0 (m, slice_get_within parts m other there, get_or_from_slice_get parts m other other there)))
apart-places h (x ∷ parts) (suc n) zero p other apart here there =
    let u = All-contains (AreUnrelated h x) parts p apart.0 (n, slice_get_within parts n p here, get_or_from_slice_get parts n p p here) in
    inr (subst (λ (k : Part). AreUnrelated h p k) (same_Some x other there) (u.1, u.0))
apart-places h (x ∷ parts) (suc n) (suc m) p other apart here there = elim (apart-places h parts n m p other apart.1 here there) [
  | inl same ↦ inl (ap suc same.0, same.1)
  | inr u ↦ inr u
]

-- one item adds no more than all
item-adds : {A : Type 0} (f : A → ℕ) (xs : List A) (n : ℕ) (x : A) → slice_get xs n ≡ Some x → f x ≤ total f xs
item-adds f [] n x here = cc
item-adds f (y ∷ xs) zero x here = (let one : f y ≡ f x = ap f (same_Some y x here) in omega arith)
item-adds f (y ∷ xs) (suc n) x here = (let rest = item-adds f xs n x here in omega arith)

-- where all add up to at most one, one place alone adds something
one-place : {A : Type 0} (f : A → ℕ) (xs : List A) (n m : ℕ) (x y : A) → slice_get xs n ≡ Some x → slice_get xs m ≡ Some y → total f xs ≤ 1 → 1 ≤ f x → 1 ≤ f y → n ≡ m
one-place f [] n m x y here there most some more = cc
one-place f (z ∷ xs) zero zero x y here there most some more = refl
one-place f (z ∷ xs) zero (suc m) x y here there most some more = (let one : f z ≡ f x = ap f (same_Some z x here) in let rest = item-adds f xs m y there in absurd (omega arith))
one-place f (z ∷ xs) (suc n) zero x y here there most some more = (let one : f z ≡ f y = ap f (same_Some z y there) in let rest = item-adds f xs n x here in absurd (omega arith))
one-place f (z ∷ xs) (suc n) (suc m) x y here there most some more = ap suc (one-place f xs n m x y here there (omega arith) some more)

-- Noted blocks.

-- a walk is told by its first cell and its stamp
tail-same : (look : ℕ → Node) (s y : ℕ) (zs us : List ℕ) → IsTail look s y zs → IsTail look s y us → zs ≡ us
tail-same look s y [] [] one other = refl
tail-same look s y [] (u ∷ us) one other = absurd (other.0 one)
tail-same look s y (z ∷ zs) [] one other = absurd (one.0 other)
tail-same look s y (z ∷ zs) (u ∷ us) one other =
    let first : z ≡ u = same_Some z u (sym one.1 ∙ other.1) in
    let rest = tail-same look s z zs us one.2 (subst (λ x. IsTail look s x us) (sym first) other.2) in
    λ k. first k ∷ rest k

level-of : (g : Shape) (look : ℕ → Node) (p : Noted) → IsNoted g look p → g.level p.cell ≡ p.level
level-of g look p ok = (ok.cells p.cell (subst (λ (ws : List ℕ). 1 ≤ times p.cell ws) (sym ok.walks.1) (let one = same_is p.cell p.cell refl in omega arith))).1

-- the cell and the stamp of a noted block tell what is beneath it
noted-same : (g : Shape) (look : ℕ → Node) (p other : Noted) → IsNoted g look p → IsNoted g look other → p.cell ≡ other.cell → p.stamp ≡ other.stamp → (r : ℕ) → beneath g p r ≡ beneath g other r
noted-same g look p other ok also cell stamp r =
    let level : p.level ≡ other.level = sym (level-of g look p ok) ∙ ap g.level cell ∙ level-of g look other also in
    let tail = subst (λ s. IsTail look s p.cell also.walks.0) (sym stamp) (subst (λ y. IsTail look other.stamp y also.walks.0) (sym cell) also.walks.2) in
    let rest = tail-same look p.stamp p.cell ok.walks.0 also.walks.0 ok.walks.2 tail in
    let walk : p.walk ≡ other.walk = ok.walks.1 ∙ (λ k. cell k ∷ rest k) ∙ sym also.walks.1 in
    λ k. cond (g.placed r) (cond (leb (g.level (g.at r)) (level k)) (times (g.above (g.at r) (level k)) (walk k)) 0) 0

-- the block at a place of a list of noted ones
noted-at : (g : Shape) (look : ℕ → Node) (ps : List Noted) (n : ℕ) (item : Item) → AreNoted g look ps → slice_get (items_of ps) n ≡ Some item
    → (p : Noted) × (slice_get ps n ≡ Some p) × (record { cell = p.cell; stamp = p.stamp } ≡ item) × IsNoted g look p
noted-at g look [] n item are here = cc
noted-at g look (p ∷ ps) zero item are here = (p, refl, same_Some (record { cell = p.cell; stamp = p.stamp }) item here, are.0)
noted-at g look (p ∷ ps) (suc n) item are here = noted-at g look ps n item are.1 here

-- what is beneath a block is placed, and reached from it
beneath-is : (g : Shape) (p : Noted) (r : ℕ) → 1 ≤ beneath g p r → (g.placed r ≡ true) × (1 ≤ reach g p (g.at r))
beneath-is g p r some = on_bool (g.placed r)
    (λ placed. let here : beneath g p r ≡ reach g p (g.at r) = rw placed refl in (placed, omega arith))
    (λ out. let none : beneath g p r ≡ 0 = rw out refl in absurd (omega arith))

-- Adding up.

-- a part has read the rows that it counted
pub record ReadsItsRows (v : View) (server : ℕ) (counted : ℕ → List ℕ) (p : Part) : Type 0 where
  pub read : Aggregate
  pub is : HasRead v server p read
  pub of_rows : read ≡ agg (map v.row (counted p.shard))

heard-passes : (p : Part) → not (is_refused p) ≡ true → is_refused p ≡ false
heard-passes p passes = by (is_refused p) passes
  where
    by : (b : Bool) → not b ≡ true → b ≡ false
    by true is = absurd (false≢true is)
    by false is = refl

-- a row that is counted for none of them isn't in the list of all
counted-none : (counted : ℕ → List ℕ) (r : ℕ) (ps : List Part) → ((p : Part) → Contains ps p → is_refused p ≡ false → times r (counted p.shard) ≡ 0) → times r (counted_for counted (heard ps)) ≡ 0
counted-none counted r [] none = refl
counted-none counted r (p ∷ ps) none =
    let rest = counted-none counted r ps (λ o c. none o (Contains-append_right (p ∷ []) ps o c)) in
    cond_both (not (is_refused p)) (p ∷ heard ps) (heard ps) (λ (l : List Part). times r (counted_for counted l) ≡ 0)
    (λ passes.
    (let mine = none p (0, omega arith, refl) (heard-passes p passes) in
    let both = total-append (λ y. same r y) (counted p.shard) (counted_for counted (heard ps)) in
    omega arith))
    (λ fails. rest)

-- one that is counted at most once for each, and not for two of lines apart, is there at most once
counted-once : (h : List Event) (counted : ℕ → List ℕ) (r : ℕ) (ps : List Part) → AreLinesApart h ps → ((p : Part) → Contains ps p → is_refused p ≡ false → times r (counted p.shard) ≤ 1)
    → ((p other : Part) → Contains ps p → Contains ps other → is_refused p ≡ false → is_refused other ≡ false → 1 ≤ times r (counted p.shard) → 1 ≤ times r (counted other.shard) → ¬ AreUnrelated h p other)
    → times r (counted_for counted (heard ps)) ≤ 1
counted-once h counted r [] apart once alone = omega arith
counted-once h counted r (p ∷ ps) apart once alone =
    let later : (o : Part) → Contains ps o → Contains (p ∷ ps) o = Contains-append_right (p ∷ []) ps in
    let rest = counted-once h counted r ps apart.1 (λ o c. once o (later o c)) (λ o n c d. alone o n (later o c) (later n d)) in
    cond_both (not (is_refused p)) (p ∷ heard ps) (heard ps) (λ (l : List Part). times r (counted_for counted l) ≤ 1)
    (λ passes.
    (let first : Contains (p ∷ ps) p = (0, omega arith, refl) in
    let well = heard-passes p passes in
    let mine = once p first well in
    let both = total-append (λ y. same r y) (counted p.shard) (counted_for counted (heard ps)) in
    elim (cases_lt 0 (times r (counted p.shard))) [
      | inl some ↦
          let none = counted-none counted r ps (λ o c heard_it. elim (cases_lt 0 (times r (counted o.shard))) [
            | inl more ↦ absurd (alone p o first (later o c) well heard_it some more (All-contains (AreUnrelated h p) ps o apart.0 c))
            | inr none ↦ omega arith
          ]) in
          omega arith
      | inr none ↦ omega arith
    ]))
    (λ fails. rest)

-- what parts have read adds up where each of them has read its rows
adds-up : (v : View) (server : ℕ) (counted : ℕ → List ℕ) (ps : List Part) → ((p : Part) → Contains ps p → is_refused p ≡ false → ReadsItsRows v server counted p) → AddUp v server counted (heard ps)
adds-up v server counted [] each = record { read = []; each = tt; total = refl }
adds-up v server counted (p ∷ ps) each =
    let rest = adds-up v server counted ps (λ o c heard_it. each o (Contains-append_right (p ∷ []) ps o c) heard_it) in
    cond_both (not (is_refused p)) (p ∷ heard ps) (heard ps) (AddUp v server counted)
    (λ passes.
    (let mine = each p (0, omega arith, refl) (heard-passes p passes) in
    let rows = counted p.shard in
    let others = counted_for counted (heard ps) in
    record {
      read = mine.read ∷ rest.read;
      each = (mine.is, rest.each);
      total = ap agg (map-append v.row rows others) ∙ agg-append (map v.row rows) (map v.row others) ∙ (λ k. join (sym mine.of_rows k) (rest.total k));
    }))
    (λ fails. rest)

-- a part that waits isn't taken
waits-not_taken : (st : PartState) → state_waits st ≡ true → state_is_taken st ≡ true → ⊥
waits-not_taken (state.Waiting wanted) waits taken = absurd (false≢true taken)
waits-not_taken state.Taken waits taken = absurd (false≢true waits)
waits-not_taken (state.Placed path) waits taken = absurd (false≢true waits)
waits-not_taken (state.Done total) waits taken = absurd (false≢true waits)
waits-not_taken state.NoMemory waits taken = absurd (false≢true waits)

-- Parts of an open query.

module _ (s : Setting) (w : World) (g : Ghost) (i : InvWith s (view s w) g) (server of : ℕ) (q : Query) (within : server < s.servers) (op : ((view s w).desks server).op ≡ Some of) (asked : query_at (view s w).history of ≡ Some q) where
  abbrev v : View
  v = view s w

  abbrev parts : List Part
  parts = (v.desks server).parts

  -- an actor that took a part of it asks for rows
  asks : (t : Taken) → IsAtPart s v.history v.desks t → t.server ≡ server → (f : List Pick) × (t.want ≡ want.Filter f)
  asks t at same = by t.want refl at.wants
    where
      same_of : at.of ≡ of
      same_of = (let there : (v.desks server).op ≡ Some at.of = ap (λ (k : ℕ). (v.desks k).op) (sym same) ∙ at.op in cc)

      by : (wanted : Want) → t.want ≡ wanted → IsWantOf v.history at.of wanted → (f : List Pick) × (t.want ≡ want.Filter f)
      by (want.Filter f) is wants = (f, is)
      by (want.Row row) is wants = absurd (no-query v.history of wants.0 q (subst (λ k. insert_at v.history k ≡ Some wants.0) same_of wants.1) asked)

  -- where it has read nothing it has counted nothing
  none-read : (n : ℕ) (t : Taken) (p : Part) → v.taken n ≡ Some t → t.server ≡ server → t.shard ≡ p.shard → v.reads n ≡ None → g.counted server p.shard ≡ []
  none-read n t p takes same shard none =
      let f = asks t (i.desking.at_parts n t takes) same in
      subst (λ k. g.counted server k ≡ []) shard (subst (λ k. g.counted k t.shard ≡ []) same (i.querying.unread n t f.0 takes f.1 none))

  end-of : (p : Part) → Contains parts p → IsEndOfPart s v.history v.row g.placed g.home of q p.shard (g.counted server p.shard) p.state
  end-of p has = All-contains (λ (p : Part). IsEndOfPart s v.history v.row g.placed g.home of q p.shard (g.counted server p.shard) p.state) parts p (i.querying.ends server of q within op asked) has

  valid-of : (p : Part) → Contains parts p → IsQueryState q p.state
  valid-of p has = All-contains (λ (p : Part). IsQueryState q p.state) parts p (i.desking.query server of q within op asked).0 has

  taker-of : (p : Part) → Contains parts p → is_taken p ≡ true → IsTaken v.taken server p
  taker-of p has = All-contains (λ (p : Part). is_taken p ≡ true → IsTaken v.taken server p) parts p (i.desking.takers server within) has

  -- what is read for a part of it
  reading-of : (n : ℕ) (part : ReadPart) → v.reads n ≡ Some part → part.server ≡ server → IsReading s v.history v.row v.blocks v.trees g.shape g.placed g.home of q part.shard (g.counted server part.shard) part.reading
  reading-of n part reads same =
      subst (λ k. IsReading s v.history v.row v.blocks v.trees g.shape g.placed g.home of q part.shard (g.counted k part.shard) part.reading) same
      (i.querying.reading n of q part reads (ap (λ (k : ℕ). (v.desks k).op) same ∙ op) asked)

  pub reads-rows : (p : Part) → Contains parts p → is_refused p ≡ false → ReadsItsRows v server (g.counted server) p
  reads-rows p has heard_it = by p.state refl (valid-of p has) (end-of p has)
    where
      by : (st : PartState) → p.state ≡ st → IsQueryState q st → IsEndOfPart s v.history v.row g.placed g.home of q p.shard (g.counted server p.shard) st → ReadsItsRows v server (g.counted server) p
      by (state.Waiting wanted) is valid end = record { read = agg []; is = subst (HasReadBy v server p (agg [])) (sym is) refl; of_rows = ap (λ (l : List ℕ). agg (map v.row l)) (sym end) }
      by state.Taken is valid end = let t = taker-of p has (rw is refl) in taken t (v.reads t.0) refl
        where
          taken : (t : IsTaken v.taken server p) → (o : Option ReadPart) → v.reads t.0 ≡ o → ReadsItsRows v server (g.counted server) p
          taken t None none = record {
            read = agg [];
            is = subst (HasReadBy v server p (agg [])) (sym is) (t.0, t.1, t.2, t.3, t.4, ap agg_read (sym none));
            of_rows = ap (λ (l : List ℕ). agg (map v.row l)) (sym (none-read t.0 t.1 p t.2 t.3 t.4 none));
          }
          taken t (Some part) reads =
              let same = reads-same (w.actors t.0).errand part t.1 reads t.2 in
              let reading = reading-of t.0 part reads (same.0 ∙ t.3) in
              record {
                read = part.reading.agg;
                is = subst (HasReadBy v server p part.reading.agg) (sym is) (t.0, t.1, t.2, t.3, t.4, ap agg_read (sym reads));
                of_rows = reading.total ∙ ap (λ (k : ℕ). agg (map v.row (g.counted server k))) (same.1 ∙ t.4);
              }
      by (state.Done total) is valid end = record { read = total; is = subst (HasReadBy v server p total) (sym is) refl; of_rows = end.0 }
      by (state.Placed path) is valid end = absurd valid
      by state.NoMemory is valid end = absurd (false≢true (sym heard_it ∙ ap state_is_refused is))

  -- a part that has read nothing has counted nothing
  pub unread-none : (p : Part) → Contains parts p → is_refused p ≡ false → HasNotRead v server p → g.counted server p.shard ≡ []
  unread-none p has heard_it (inl waits) = by p.state refl (end-of p has)
    where
      by : (st : PartState) → p.state ≡ st → IsEndOfPart s v.history v.row g.placed g.home of q p.shard (g.counted server p.shard) st → g.counted server p.shard ≡ []
      by (state.Waiting wanted) is end = end
      by state.Taken is end = absurd (false≢true (sym (ap state_waits is) ∙ waits))
      by (state.Done total) is end = absurd (false≢true (sym (ap state_waits is) ∙ waits))
      by (state.Placed path) is end = absurd (false≢true (sym (ap state_waits is) ∙ waits))
      by state.NoMemory is end = absurd (false≢true (sym (ap state_waits is) ∙ waits))
  unread-none p has heard_it (inr (inl refused)) = absurd (false≢true (sym heard_it ∙ refused))
  unread-none p has heard_it (inr (inr x)) = none-read x.0 x.1 p x.2 x.3 x.4 x.5

  -- what an actor has noted, in the shape of the tree to which its part is pinned
  record Walking (gate : ℕ) (part : ReadPart) : Type 0 where
    pub noted : List Noted
    pub items : items_of noted ≡ part.reading.items
    pub walks : AreNoted (g.shape gate) (nodes (cells_at v.blocks v.trees gate)) noted
    pub rows : (r : ℕ) → (g.shape gate).placed r ≡ true → times r (g.counted server part.shard) + pending (g.shape gate) noted ((g.shape gate).at r) ≤ 1

  walking : (actor gate : ℕ) (part : ReadPart) → v.reads actor ≡ Some part → part.server ≡ server → part.reading.pin ≡ Some gate → Walking gate part
  walking actor gate part reads same pin =
      let walk = subst (IsWalk s v.history v.row v.blocks v.trees g.shape of q (g.counted server part.shard) part.reading) pin (reading-of actor part reads same).walk in
      record { noted = walk.1.noted; items = walk.1.are; walks = walk.1.ok.noted; rows = walk.1.ok.once }

  -- Lines of parts.

  -- the one shard that has a row is where it has its home
  at-home : (r x : ℕ) → IsInOne s v (standing s v g i) r x → (g.placed r ≡ true) × (x ≡ g.home r)
  at-home r x one =
      let placed = is-placed s v g i x r one.stands (omega (arith, one.once)) in
      on_bool (eqb x (g.home r))
      (λ same. (placed, eqb-true x (g.home r) same))
      (λ other. let none = (in-one s v g i r placed).others x one.stands (eqb-false x (g.home r) other) in absurd (omega (arith, none, one.once)))

  ahead-under : (p : Part) (r : ℕ) → IsAheadOf s v (standing s v g i) p r → IsUnder v.history g.placed g.home p.shard r
  ahead-under p r ahead =
      let home = at-home r ahead.0 ahead.1 in
      record { is_placed = home.0; comes = subst (λ y. IsTrue (comes_from v.history p.shard y)) home.1 ahead.2 }

  -- no row is of the lines of two parts
  not-two : (r : ℕ) (p other : Part) → IsUnder v.history g.placed g.home p.shard r → IsUnder v.history g.placed g.home other.shard r → ¬ AreUnrelated v.history p other
  not-two r p other here there u =
      let made = live-made (site_in s) _ v.history (g.home r) i.telling.right.right.each (i.placing.stands r here.is_placed) in
      elim (comes_from-comparable (site_in s) _ v.history p.shard other.shard (g.home r) i.telling.right.right.each made here.comes there.comes) [
        | inl below ↦ false≢true (sym u.0 ∙ below)
        | inr below ↦ false≢true (sym u.1 ∙ below)
      ]

  lines-apart : AreLinesApart v.history parts
  lines-apart = (i.desking.query server of q within op asked).1

  one-part : (r n m : ℕ) (p other : Part) → slice_get parts n ≡ Some p → slice_get parts m ≡ Some other → IsUnder v.history g.placed g.home p.shard r → IsUnder v.history g.placed g.home other.shard r → (n ≡ m) × (p ≡ other)
  one-part r n m p other at there here also = elim (apart-places v.history parts n m p other lines-apart at there) [
    | inl same ↦ same
    | inr u ↦ absurd (not-two r p other here also u)
  ]

  counts-of : (p : Part) → Contains parts p → is_refused p ≡ false → IsCounted s v.history v.row g.placed g.home q p.shard (g.counted server p.shard)
  counts-of p has heard_it = All-contains (λ (p : Part). is_refused p ≡ false → IsCounted s v.history v.row g.placed g.home q p.shard (g.counted server p.shard)) parts p (i.querying.counts server of q within op asked) has heard_it

  place-of : (p : Part) (has : Contains parts p) → slice_get parts has.0 ≡ Some p
  place-of p has = slice_get_read parts (length parts) has.0 p refl has.1 (sym has.2)

  -- Actors at parts.

  -- the part that an actor took, and its place
  record TakenAt (t : Taken) : Type 0 where
    pub place : ℕ
    pub p : Part
    pub there : slice_get parts place ≡ Some p
    pub with : (p.shard ≡ t.shard) × (p.worker ≡ t.worker) × (is_taken p ≡ true)

  taken-at : (actor : ℕ) (t : Taken) → v.taken actor ≡ Some t → t.server ≡ server → TakenAt t
  taken-at actor t takes same =
      let found = subst (λ k. Any (λ (p : Part). is_with t.shard t.worker p ≡ true) (v.desks k).parts) same (i.desking.at_parts actor t takes).part in
      record {
        place = found.0;
        p = found.1;
        there = slice_get_read parts (length parts) found.0 found.1 refl found.2 (sym found.3);
        with = with-parts t.shard t.worker found.1 found.4;
      }

  -- whose two parts have a row in their lines is one actor
  one-actor : (r a b : ℕ) (t u : Taken) → v.taken a ≡ Some t → v.taken b ≡ Some u → t.server ≡ server → u.server ≡ server → IsUnder v.history g.placed g.home t.shard r → IsUnder v.history g.placed g.home u.shard r → a ≡ b
  one-actor r a b t u takes also same same_too here there =
      let at = taken-at a t takes same in
      let too = taken-at b u also same_too in
      let p = (one-part r at.place too.place at.p too.p at.there too.there
      (subst (λ x. IsUnder v.history g.placed g.home x r) (sym at.with.0) here)
      (subst (λ x. IsUnder v.history g.placed g.home x r) (sym too.with.0) there)).1 in
      i.desking.one a b t u takes also (same ∙ sym same_too)
      (sym at.with.0 ∙ ap (λ (p : Part). p.shard) p ∙ too.with.0)
      (sym at.with.1 ∙ ap (λ (p : Part). p.worker) p ∙ too.with.1)

  -- Rows beneath noted blocks.

  -- a block at a place of an actor's list, as the invariant has it
  on-list : (actor place : ℕ) (block : Noted) (at : IsNotedAt s v (standing s v g i) server actor place block) (gate : ℕ) (part : ReadPart) (walked : Walking gate part) → at.part ≡ part → at.gate ≡ gate
      → (p : Noted) × (slice_get walked.noted place ≡ Some p) × ((r : ℕ) → beneath ((standing s v g i).shape at.gate) block r ≡ beneath (g.shape gate) p r)
  unfolding standing
  on-list actor place block at gate part walked same_part same_gate =
      let look = nodes (cells_at v.blocks v.trees gate) in
      let here = subst (λ (items : List Item). slice_get items place ≡ Some (record { cell = block.cell; stamp = block.stamp })) (sym walked.items)
      (subst (λ (part : ReadPart). slice_get part.reading.items place ≡ Some (record { cell = block.cell; stamp = block.stamp })) same_part at.there) in
      let p = noted-at (g.shape gate) look walked.noted place (record { cell = block.cell; stamp = block.stamp }) walked.walks here in
      let walks = subst (λ gate. IsNoted (g.shape gate) (nodes (cells_at v.blocks v.trees gate)) block) same_gate at.walks in (
        p.0,
        p.1,
        λ r.
            (ap (λ gate. beneath (g.shape gate) block r) same_gate
            ∙ noted-same (g.shape gate) look block p.0 walks p.3 (ap (λ (x : Item). x.cell) (sym p.2)) (ap (λ (x : Item). x.stamp) (sym p.2)) r),
      )

  -- a row beneath a noted block is of the line of its part's shard
  block-under : (r actor place : ℕ) (b : IsBeneathPending s v (standing s v g i) server (NotedBlock actor place) r) → IsUnder v.history g.placed g.home b.1.part.shard r
  unfolding standing
  block-under r actor place b =
      rows-under s w g i b.1.gate b.1.part.shard r (i.pinning.shard actor b.1.gate b.1.part b.1.reads b.1.pinned) (beneath-is (g.shape b.1.gate) b.0 r b.2).0

  -- what of it is counted for its part and beneath the blocks of its actor's list
  block-rows : (r actor place : ℕ) (b : IsBeneathPending s v (standing s v g i) server (NotedBlock actor place) r) (walked : Walking b.1.gate b.1.part)
      → times r (g.counted server b.1.part.shard) + pending (g.shape b.1.gate) walked.noted ((g.shape b.1.gate).at r) ≤ 1
  unfolding standing
  block-rows r actor place b walked = walked.rows r (beneath-is (g.shape b.1.gate) b.0 r b.2).0

  -- what is beneath a noted block is beneath its actor's list
  block-pends : (r actor place : ℕ) (b : IsBeneathPending s v (standing s v g i) server (NotedBlock actor place) r) (walked : Walking b.1.gate b.1.part)
      → beneath ((standing s v g i).shape b.1.gate) b.0 r ≤ pending (g.shape b.1.gate) walked.noted ((g.shape b.1.gate).at r)
  unfolding standing
  block-pends r actor place b walked =
      let p = on-list actor place b.0 b.1 b.1.gate b.1.part walked refl refl in
      let adds = item-adds (λ (x : Noted). reach (g.shape b.1.gate) x ((g.shape b.1.gate).at r)) walked.noted place p.0 p.1 in
      let here : beneath (g.shape b.1.gate) p.0 r ≡ reach (g.shape b.1.gate) p.0 ((g.shape b.1.gate).at r) = rw (beneath-is (g.shape b.1.gate) b.0 r b.2).0 refl in
      let same = p.2 r in
      omega arith

  -- who took the part of a noted block
  taker : (actor place r : ℕ) (b : IsBeneathPending s v (standing s v g i) server (NotedBlock actor place) r) → (t : Taken) × (v.taken actor ≡ Some t) × (t.server ≡ server) × (t.shard ≡ b.1.part.shard)
  taker actor place r b = (let t = readers-take s w actor b.1.part b.1.reads in (t.0, t.1, t.2 ∙ b.1.server_is, t.3))

  taker-under : (actor place r : ℕ) (b : IsBeneathPending s v (standing s v g i) server (NotedBlock actor place) r) → IsUnder v.history g.placed g.home (taker actor place r b).0.shard r
  unfolding taker
  taker-under actor place r b = subst (λ x. IsUnder v.history g.placed g.home x r) (sym (taker actor place r b).3) (block-under r actor place b)

  -- Nothing is before two.

  -- what is beneath a noted block is not in the line of a part for which no gate is read
  not-unread : (r place actor at_place : ℕ) → IsBeneathPending s v (standing s v g i) server (WholePart place) r → IsBeneathPending s v (standing s v g i) server (NotedBlock actor at_place) r → ⊥
  not-unread r place actor at_place a b =
      let t = taker actor at_place r b in
      let at = taken-at actor t.0 t.1 t.2 in
      let below = taker-under actor at_place r b in
      let same = (one-part r place at.place a.0 at.p a.1 at.there (ahead-under a.0 r a.3) (subst (λ x. IsUnder v.history g.placed g.home x r) (sym at.with.0) below)).1 in
      let taken : is_taken a.0 ≡ true = ap is_taken same ∙ at.with.2 in
      elim a.2 [
        | inl waits ↦ waits-not_taken a.0.state waits taken
        | inr (inl refused) ↦ false≢true (sym (taken-kept a.0.state taken) ∙ refused)
        | inr (inr x) ↦
            let here = subst (λ y. IsUnder v.history g.placed g.home y r) (sym x.4) (ahead-under a.0 r a.3) in
            let actors = one-actor r actor x.0 t.0 x.1 t.1 x.2 t.2 x.3 below here in
            let none : v.reads actor ≡ None = ap v.reads actors ∙ x.5 in
            let some = b.1.reads in cc
      ]

  -- a row is beneath one noted block
  one-block : (r actor place other other_place : ℕ) → IsBeneathPending s v (standing s v g i) server (NotedBlock actor place) r → IsBeneathPending s v (standing s v g i) server (NotedBlock other other_place) r → NotedBlock actor place ≡ NotedBlock other other_place
  unfolding standing
  one-block r actor place other other_place a b =
      let t = taker actor place r a in
      let u = taker other other_place r b in
      let actors = one-actor r actor other t.0 u.0 t.1 u.1 t.2 u.2 (taker-under actor place r a) (taker-under other other_place r b) in
      let part : b.1.part ≡ a.1.part = same_Some b.1.part a.1.part (sym b.1.reads ∙ ap v.reads (sym actors) ∙ a.1.reads) in
      let gate : b.1.gate ≡ a.1.gate = same_Some b.1.gate a.1.gate (sym b.1.pinned ∙ ap (λ (p : ReadPart). p.reading.pin) part ∙ a.1.pinned) in
      let walked = walking actor a.1.gate a.1.part a.1.reads a.1.server_is a.1.pinned in
      let p = on-list actor place a.0 a.1 a.1.gate a.1.part walked refl refl in
      let o = on-list other other_place b.0 b.1 a.1.gate a.1.part walked part gate in
      let rows = block-rows r actor place a walked in
      let reaches = (beneath-is (g.shape a.1.gate) p.0 r (subst (λ n. 1 ≤ n) (p.2 r) a.2)).1 in
      let reaches_too = (beneath-is (g.shape a.1.gate) o.0 r (subst (λ n. 1 ≤ n) (o.2 r) b.2)).1 in
      let places = one-place (λ (x : Noted). reach (g.shape a.1.gate) x ((g.shape a.1.gate).at r)) walked.noted place other_place p.0 o.0 p.1 o.1 (omega arith) reaches reaches_too in
      λ k. NotedBlock (actors k) (places k)

  pub apart : (one other : Pending) (r : ℕ) → IsBeneathPending s v (standing s v g i) server one r → IsBeneathPending s v (standing s v g i) server other r → one ≡ other
  apart (WholePart place) (WholePart other) r a b = ap WholePart (one-part r place other a.0 b.0 a.1 b.1 (ahead-under a.0 r a.3) (ahead-under b.0 r b.3)).0
  apart (WholePart place) (NotedBlock actor other) r a b = absurd (not-unread r place actor other a b)
  apart (NotedBlock actor place) (WholePart other) r a b = absurd (not-unread r other actor place b a)
  apart (NotedBlock actor place) (NotedBlock other other_place) r a b = one-block r actor place other other_place a b

  -- Nor counted.

  -- what is before the query isn't counted for a part
  not-counted : (one : Pending) (r : ℕ) → IsBeneathPending s v (standing s v g i) server one r → (p : Part) → Contains parts p → is_refused p ≡ false → 1 ≤ times r (g.counted server p.shard) → ⊥
  not-counted (WholePart place) r a p has heard_it some =
      let same = (one-part r place has.0 a.0 p a.1 (place-of p has) (ahead-under a.0 r a.3) ((counts-of p has heard_it).under r some)).1 in
      let none = unread-none p has heard_it (subst (HasNotRead v server) same a.2) in
      let zero_times : times r (g.counted server p.shard) ≡ 0 = ap (times r) none in
      omega arith
  not-counted (NotedBlock actor place) r b p has heard_it some =
      let t = taker actor place r b in
      let at = taken-at actor t.0 t.1 t.2 in
      let here = subst (λ x. IsUnder v.history g.placed g.home x r) (sym at.with.0) (taker-under actor place r b) in
      let same = (one-part r at.place has.0 at.p p at.there (place-of p has) here ((counts-of p has heard_it).under r some)).1 in
      let shard : b.1.part.shard ≡ p.shard = sym t.3 ∙ sym at.with.0 ∙ ap (λ (p : Part). p.shard) same in
      let walked = walking actor b.1.gate b.1.part b.1.reads b.1.server_is b.1.pinned in
      let rows = block-rows r actor place b walked in
      let pends = block-pends r actor place b walked in
      let counted : times r (g.counted server b.1.part.shard) ≡ times r (g.counted server p.shard) = ap (λ x. times r (g.counted server x)) shard in
      omega arith

  pub uncounted : (one : Pending) (r : ℕ) → IsBeneathPending s v (standing s v g i) server one r → times r (counted_for (g.counted server) (heard parts)) ≡ 0
  uncounted one r before = counted-none (g.counted server) r parts (λ p has heard_it. elim (cases_lt 0 (times r (g.counted server p.shard))) [
    | inl some ↦ absurd (not-counted one r before p has heard_it some)
    | inr none ↦ omega arith
  ])

  -- Noted blocks.

  pub noted : (actor place : ℕ) (part : ReadPart) (item : Item) → v.reads actor ≡ Some part → part.server ≡ server → slice_get part.reading.items place ≡ Some item
      → (block : Noted) × IsNotedAt s v (standing s v g i) server actor place block
  unfolding standing
  noted actor place part item reads same here = by part.reading.pin refl
    where
      by : (pin : Option ℕ) → part.reading.pin ≡ pin → (block : Noted) × IsNotedAt s v (standing s v g i) server actor place block
      by None pin =
          let none : part.reading.items ≡ [] = subst (IsWalk s v.history v.row v.blocks v.trees g.shape of q (g.counted server part.shard) part.reading) pin (reading-of actor part reads same).walk in
          let never : slice_get part.reading.items place ≡ None = ap (λ (items : List Item). slice_get items place) none in cc
      by (Some gate) pin =
          let walked = walking actor gate part reads same pin in
          let p = noted-at (g.shape gate) (nodes (cells_at v.blocks v.trees gate)) walked.noted place item walked.walks (subst (λ (items : List Item). slice_get items place ≡ Some item) (sym walked.items) here) in (
            p.0,
            record {
              part = part;
              reads = reads;
              server_is = same;
              gate = gate;
              pinned = pin;
              there = here ∙ ap Some (sym p.2);
              tree = i.growing.tree gate (pinned-whole s w g i actor gate part reads pin);
              walks = p.3;
            },
          )

  pub once : (actor place r : ℕ) (block : Noted) (at : IsNotedAt s v (standing s v g i) server actor place block) → beneath ((standing s v g i).shape at.gate) block r ≤ 1
  once actor place r block at = elim (cases_lt 0 (beneath ((standing s v g i).shape at.gate) block r)) [
    | inl some ↦
        let b : IsBeneathPending s v (standing s v g i) server (NotedBlock actor place) r = (block, at, some) in
        let walked = walking actor at.gate at.part at.reads at.server_is at.pinned in
        let rows = block-rows r actor place b walked in
        let most = block-pends r actor place b walked in
        omega arith
    | inr none ↦ omega arith
  ]

  pub distinct : (r : ℕ) → times r (counted_for (g.counted server) (heard parts)) ≤ 1
  distinct r =
      counted-once v.history (g.counted server) r parts lines-apart (λ p has heard_it. (counts-of p has heard_it).once r)
      (λ p other has too heard_it heard_too some more. not-two r p other ((counts-of p has heard_it).under r some) ((counts-of other too heard_too).under r more))

  pub meets-once : MeetsOnce s v (standing s v g i) of server q (g.counted server)
  meets-once = record {
    counts = has-counted s w g i server of q within op asked;
    distinct = distinct;
    adds_up = adds-up v server (g.counted server) parts reads-rows;
    noted = noted;
    once = once;
    apart = apart;
    uncounted = uncounted;
  }

pub meet-law : MeetLaw
meet-law s w inv = (standing s (view s w) inv.ghost_of inv.holds, λ server of q within op asked. (inv.ghost_of.counted server, meets-once s w inv.ghost_of inv.holds server of q within op asked))
