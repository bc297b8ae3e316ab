-- The rows of a shard that stands, those of its tree and those of its queue: each is there once, may be counted, and is one of as many as
-- the gate tells; and all that were acknowledged into the shard are among them.
use Rattle.std.proofs.{Common.{◌≡◌, ℕ, zero, suc, ◌+◌, ◌≤◌, List, [], ◌∷◌, ◌++◌, Bool, true, false, cond, eqb, map, length, refl, sym, ap, ◌∙◌, subst, arith, ◌==◌, All, Contains, nat_eq, Option, Some, IsTrue}, lemmas.Bool.{eqb-true, eqb-false}, lemmas.List.{length-append, length-map, map-append}, lemmas.List.Elements.{All-append, All-contains, All-contains_itself, All-cons, All-head, All-nil, All-tail, All-weaker, Contains-append_right}}
use Rattle.std.specs.List.{AllByRecursion, IsDistinct}
use Rattle.dim_hierarchy.specs.{Row.IsCoordOf, Rows.IsRowOf, declared.row.Coord.Coord, declared.row.Row.Row}
use Rattle.dc_node.specs.Summary.{IsSummaryOf, coords}
use Rattle.describing_set.specs.{DescSet.IsSetOf, Sets.{IsDescSetOf, JoinsTo}, declared.set.DescSet.DescSet}
use Rattle.measure_agg.specs.Aggregate.{Aggregate}
use Rattle.row_ledger.specs.{Bounds.may, Past.{Ack, Insert, acked, acked_into, before, begun, ends_with, insert_at, insert_in, last_of}, Right.{EachEvent, Stands}, Shards.comes_from, Work.AreReadOf, Workers.is_on, declared.event.Event.Event, declared.event.Event.TheVariants.Begun}
use Rattle.row_ledger.proofs.{Answering.All-acked_before, Descent.{comes_from-self, live-last, live-made}, Older.begun-older}
use Rattle.list_words.proofs.{Elements.{Contains-filter, Contains-filtered, IsTrue-filtered, Contains-nil}, Times.{times-append, same_is, same_not}, Truth.on_bool}
use Rattle.list_words.specs.Counts.{Each, same, times}
use Rattle.core_tree.specs.tree_shape.specs.{Laws.GateLaw, Shape.numbers}
use Rattle.core_tree.specs.volap_cell.specs.{Ghost.Ghost, Growing.{IsUnder, table_of}, Invariant.InvWith, Setting.{Setting, site_in}, Stocking.cells_at, View.{View, view, row_or}, World.World}
use Rattle.core_tree.specs.volap_cell.proofs.{Counting.{length-few, passing, passing-once}, Histories.Knowing.acked-begun}
use Rattle.core_admin.proofs.Collecting.FrozenGates.{IsGateOf, began-within, gate-on}

-- Lists of rows.

-- numbers that stand in a list once at most differ

none-of : (x : ℕ) (ys : List ℕ) → times x ys ≡ 0 → AllByRecursion (λ other. nat_eq x other ≡ false) ys
none-of x [] none = tt
none-of x (y ∷ ys) none = (on_bool (nat_eq x y) (λ q. let one : same x y ≡ 1 = rw q refl in absurd (omega (arith, none, one))) (λ q. q), none-of x ys (omega (arith, none)))

pub distinct-of : (xs : List ℕ) → ((n : ℕ) → times n xs ≤ 1) → IsDistinct nat_eq xs
unfolding IsDistinct
distinct-of [] once = tt
distinct-of (x ∷ xs) once =
    let here = once x in
    let self = same_is x x refl in
    (none-of x xs (omega (arith, here, self)), distinct-of xs (λ n. let more = once n in omega (arith, more)))

-- the rows of some numbers have these numbers
pub numbers-of : (row : ℕ → Row) (ns : List ℕ) → ((n : ℕ) → 1 ≤ times n ns → (row n).no ≡ n) → numbers (map row ns) ≡ ns
numbers-of row [] named = refl
numbers-of row (n ∷ ns) named =
    let one = same_is n n refl in
    let here = named n (omega (arith, one)) in
    let rest = numbers-of row ns (λ m some. named m (omega (arith, some))) in
    λ k. here k ∷ rest k

-- a number that is counted is a row's
pub row-of : (rows : List Row) (n : ℕ) → 1 ≤ times n (numbers rows) → (r : Row) × Contains rows r × (r.no ≡ n)
row-of [] n some = absurd (omega (arith, some))
row-of (x ∷ rows) n some = on_bool (eqb n x.no)
    (λ q. (x, (0, omega arith, refl), sym (eqb-true n x.no q)))
    (λ q. let none = same_not n x.no (eqb-false n x.no q) in
    let later = row-of rows n (omega (arith, some, none)) in
    (later.0, Contains-append_right (x ∷ []) rows later.0 later.1, later.2))

-- and a row's number is counted
pub row-counts : (rows : List Row) (r : Row) → Contains rows r → 1 ≤ times r.no (numbers rows)
row-counts [] r has = absurd (Contains-nil r has)
row-counts (x ∷ rows) r (zero, within, is) = (let one = same_is r.no x.no (ap (λ (y : Row). y.no) (sym is)) in omega (arith, one))
row-counts (x ∷ rows) r (suc k, within, is) = (let rest = row-counts rows r (k, omega arith, is) in omega (arith, rest))

-- what holds of each by place holds of each
all-of : {A : Type 0} (P : A → Type 0) (xs : List A) → Each P xs → All P xs
all-of P [] e = All-nil P
all-of P (x ∷ xs) e = All-cons P x xs e.0 (all-of P xs e.1)

-- Rows of a history.

-- an insert that began has its row among those that began
begun-there : (h : List Event) (p : ℕ) (i : Insert) → insert_at h p ≡ Some i → Contains (begun h) i.row
begun-there [] p i is = absurd (cc)
begun-there (e ∷ past) p i is = on_bool (p == length past)
    (λ q. here e (rw q at is))
    (λ q. begun-older e past i.row (begun-there past p i (rw q at is)))
  where
    here : (e : Event) → insert_in e ≡ Some i → Contains (begun (e ∷ past)) i.row
    here (Begun session server row) is = (0, omega arith, ap (λ (x : Option Insert). (row_or x)) is)
    here _ is = absurd (cc)

-- a path that ends with a shard has it last
last-there : (x : ℕ) (path : List ℕ) → IsTrue (ends_with x path) → last_of path ≡ x
last-there x [] ends = absurd (let never : false ≡ true = ends in cc)
last-there x (y ∷ []) ends = eqb-true y x ends
last-there x (y ∷ z ∷ path) ends = last-there x (z ∷ path) ends

module _ (gates : GateLaw) (s : Setting) (w : World) (g : Ghost) (i : InvWith s (view s w) g) (shard worker : ℕ) (on : is_on s.workers (view s w).history shard worker ≡ true) where
  abbrev v : View
  v = view s w

  abbrev h : List Event
  h = v.history

  abbrev c : ℕ
  c = g.gate shard

  abbrev there : ℕ → Bool
  there = (g.shape c).placed

  its : IsGateOf s v g shard worker c
  its = gate-on s v g i shard worker on

  tree-placed : (r : ℕ) → there r ≡ true → g.placed r ≡ true
  tree-placed r pl =
      let one = i.placing.one shard r its.live in
      let count : ◌≡◌ {A = ℕ} (cond (there r) 1 0) 1 = ap (λ (b : Bool). cond b 1 0) pl in
      on_bool (g.placed r) (λ q. q)
      (λ q. let z : ◌≡◌ {A = ℕ} (cond (g.placed r) (same (g.home r) shard) 0) 0 = ap (λ (b : Bool). cond b (same (g.home r) shard) 0) q in absurd (omega (arith, one, z, count)))

  -- the numbers of the rows in its tree
  abbrev pub in_tree : List ℕ
  in_tree = passing there (length h)

  pub in-tree-once : (r : ℕ) → times r in_tree ≡ cond (there r) 1 0
  in-tree-once = passing-once there (length h) (λ r pl. began-within s v g i r (tree-placed r pl))

  in-tree-there : (r : ℕ) → 1 ≤ times r in_tree → there r ≡ true
  in-tree-there r some =
      let k = in-tree-once r in
      on_bool (there r) (λ q. q) (λ q. let z : ◌≡◌ {A = ℕ} (cond (there r) 1 0) 0 = ap (λ (b : Bool). cond b 1 0) q in absurd (omega (arith, some, k, z)))

  pub told : IsSummaryOf s.hierarchy (map v.row in_tree) (v.trees c).agg (v.trees c).set
  told = gates (table_of s v.row) (cells_at v.blocks v.trees c) (g.shape c) its.tree in_tree in-tree-once

  pub tree-count : (v.trees c).agg.count ≡ length in_tree
  tree-count = ap (λ (a : Aggregate). a.count) told.agg ∙ length-map in_tree v.row

  abbrev pub queued : List Row
  queued = (v.queues c).rows

  abbrev pub rows : List Row
  rows = map v.row in_tree ++ queued

  pub row-numbers : numbers (map v.row in_tree) ≡ in_tree
  row-numbers = numbers-of v.row in_tree (λ r some. (its.tree.numbered r (in-tree-there r some)).0)

  count-rows : (r : ℕ) → times r (numbers rows) ≡ cond (there r) 1 0 + times r (numbers queued)
  count-rows r =
      let parts : times r (numbers rows) ≡ times r (numbers (map v.row in_tree)) + times r (numbers queued) = ap (times r) (map-append (λ (x : Row). x.no) (map v.row in_tree) queued) ∙ times-append r (numbers (map v.row in_tree)) (numbers queued) in
      let tree : times r (numbers (map v.row in_tree)) ≡ cond (there r) 1 0 = ap (times r) row-numbers ∙ in-tree-once r in
      omega (arith, parts, tree)

  pub one-place : (r : ℕ) → times r (numbers rows) ≡ cond (g.placed r) (same (g.home r) shard) 0
  one-place r = count-rows r ∙ i.placing.one shard r its.live

  pub rows-once : (r : ℕ) → times r (numbers rows) ≤ 1
  rows-once r =
      let one = one-place r in
      on_bool (g.placed r)
      (λ q. let z : cond (g.placed r) (same (g.home r) shard) 0 ≡ same (g.home r) shard = ap (λ (b : Bool). cond b (same (g.home r) shard) 0) q in
      on_bool (eqb (g.home r) shard)
      (λ e. let k = same_is (g.home r) shard (eqb-true _ _ e) in omega (arith, one, z, k))
      (λ e. let k = same_not (g.home r) shard (eqb-false _ _ e) in omega (arith, one, z, k)))
      (λ q. let z : ◌≡◌ {A = ℕ} (cond (g.placed r) (same (g.home r) shard) 0) 0 = ap (λ (b : Bool). cond b (same (g.home r) shard) 0) q in omega (arith, one, z))

  rows-placed : (r : ℕ) → 1 ≤ times r (numbers rows) → g.placed r ≡ true
  rows-placed r some =
      let one = one-place r in
      on_bool (g.placed r) (λ q. q)
      (λ q. let z : ◌≡◌ {A = ℕ} (cond (g.placed r) (same (g.home r) shard) 0) 0 = ap (λ (b : Bool). cond b (same (g.home r) shard) 0) q in absurd (omega (arith, one, z, some)))

  -- how many there are
  pub rows-count : length rows ≡ (v.trees c).agg.count + length queued
  rows-count = (let all = length-append (map v.row in_tree) queued in let tree = length-map in_tree v.row in let count = tree-count in omega (arith, all, tree, count))

  pub rows-few : length rows ≤ length h
  rows-few =
      let most = length-few (numbers rows) (length h) rows-once (λ r some. began-within s v g i r (rows-placed r some)) in
      let long = length-map rows (λ (x : Row). x.no) in
      omega (arith, most, long)

  -- each is that of its number
  rows-named : All (λ (r : Row). v.row r.no ≡ r) rows
  rows-named = All-append (λ (r : Row). v.row r.no ≡ r) (map v.row in_tree) queued
      (of-numbers in_tree (λ r some. (its.tree.numbered r (in-tree-there r some)).0))
      (all-of (λ (r : Row). v.row r.no ≡ r) queued (i.queueing.named c its.whole.0))
    where
      of-numbers : (ns : List ℕ) → ((r : ℕ) → 1 ≤ times r ns → (v.row r).no ≡ r) → All (λ (r : Row). v.row r.no ≡ r) (map v.row ns)
      of-numbers [] named = All-nil (λ (r : Row). v.row r.no ≡ r)
      of-numbers (m ∷ ns) named =
          let one = same_is m m refl in
          All-cons (λ (r : Row). v.row r.no ≡ r) (v.row m) (map v.row ns) (ap v.row (named m (omega (arith, one)))) (of-numbers ns (λ r some. named r (omega (arith, some))))

  -- it may be counted
  pub is-allowed : (r : Row) → v.row r.no ≡ r → g.placed r.no ≡ true → Contains (may g.placed h) r
  is-allowed r named pl =
      let (ins, at) = i.placing.begun r.no pl in
      let is : ins.row ≡ r = sym (ap row_or at) ∙ named in
      Contains-filter (λ (x : Row). g.placed x.no) (begun h) r (subst (Contains (begun h)) is (begun-there h r.no ins at)) pl

  -- a row of the shard that was acknowledged is one of them; so is one that was acknowledged into it
  own-there : (k : Ack) → Contains (acked h) k → IsUnder h g.placed g.home shard k.row.no → Contains rows k.row
  own-there k has under =
      let placed = under.is_placed in
      let each : EachEvent (Stands (site_in s) g.placed) h = i.telling.right.right.each in
      let home : g.home k.row.no ≡ shard = live-last (site_in s) g.placed h shard (g.home k.row.no) each its.live (live-made (site_in s) g.placed h (g.home k.row.no) each (i.placing.stands k.row.no placed)) under.comes in
      let one = one-place k.row.no in
      let z : cond (g.placed k.row.no) (same (g.home k.row.no) shard) 0 ≡ same (g.home k.row.no) shard = ap (λ (b : Bool). cond b (same (g.home k.row.no) shard) 0) placed in
      let k1 = same_is (g.home k.row.no) shard home in
      let (r, among, number) = row-of rows k.row.no (omega (arith, one, z, k1)) in
      let named = All-contains (λ (x : Row). v.row x.no ≡ x) rows r rows-named among in
      let begins = acked-begun (site_in s) g.placed h k each has in
      let is : r ≡ k.row = sym named ∙ ap v.row number ∙ ap row_or begins in
      subst (Contains rows) is among

  is-there : (k : Ack) → Contains (acked h) k → IsTrue (ends_with shard k.path) → Contains rows k.row
  is-there k has ends =
      let (placed, path, nobody) = i.placing.acked_rows k has in
      let last : last_of (g.path k.row.no) ≡ shard = ap last_of path ∙ last-there shard k.path ends in
      own-there k has (record { is_placed = placed; comes = subst (λ (x : ℕ). IsTrue (comes_from h x (g.home k.row.no))) last (i.placing.line k.row.no placed).1 })

  pub rows-allowed : All (Contains (may g.placed h)) rows
  rows-allowed = All-weaker (Contains rows) (Contains (may g.placed h))
      (λ r has. is-allowed r (All-contains (λ (x : Row). v.row x.no ≡ x) rows r rows-named has) (rows-placed r.no (row-counts rows r has))) rows (All-contains_itself rows)

  -- a row that is counted is of the shard
  is-under : (r : ℕ) → 1 ≤ times r (numbers rows) → IsUnder h g.placed g.home shard r
  is-under r some =
      let one = one-place r in
      let pl = rows-placed r some in
      let z : cond (g.placed r) (same (g.home r) shard) 0 ≡ same (g.home r) shard = ap (λ (b : Bool). cond b (same (g.home r) shard) 0) pl in
      let home : g.home r ≡ shard = on_bool (eqb (g.home r) shard) (λ q. eqb-true _ _ q) (λ q. let none = same_not (g.home r) shard (eqb-false _ _ q) in absurd (omega (arith, one, z, some, none))) in
      record { is_placed = pl; comes = ap (comes_from h shard) home ∙ comes_from-self h shard }

  pub rows-under : All (λ (r : Row). IsUnder h g.placed g.home shard r.no) rows
  rows-under = All-weaker (Contains rows) (λ (r : Row). IsUnder h g.placed g.home shard r.no) (λ r has. is-under r.no (row-counts rows r has)) rows (All-contains_itself rows)

  pub rows-own : (of : ℕ) → All (λ (k : Ack). IsUnder h g.placed g.home shard k.row.no → Contains rows k.row) (acked (before h of))
  rows-own of = All-weaker (Contains (acked (before h of))) (λ (k : Ack). IsUnder h g.placed g.home shard k.row.no → Contains rows k.row)
      (λ k has. own-there k (All-contains (Contains (acked h)) (acked (before h of)) k (All-acked_before (Contains (acked h)) h of (All-contains_itself (acked h))) has))
      (acked (before h of)) (All-contains_itself (acked (before h of)))

  pub rows-read : (of : ℕ) → AreReadOf g.placed (before h of) h shard rows
  rows-read of = record {
    once = distinct-of (numbers rows) rows-once;
    allowed = rows-allowed;
    came = All-weaker (Contains (acked_into shard (before h of))) (λ (k : Ack). Contains rows k.row)
        (λ k has. is-there k (All-contains (Contains (acked h)) (acked (before h of)) k (All-acked_before (Contains (acked h)) h of (All-contains_itself (acked h))) (Contains-filtered (λ (a : Ack). ends_with shard a.path) (acked (before h of)) k has))
        (IsTrue-filtered (λ (a : Ack). ends_with shard a.path) (acked (before h of)) k has))
        (acked_into shard (before h of)) (All-contains_itself (acked_into shard (before h of)));
  }

  -- The set of all of them.

  all-rows : All (IsRowOf s.hierarchy) rows
  all-rows = All-append (IsRowOf s.hierarchy) (map v.row in_tree) queued told.valid (i.queueing.queue c its.whole.0).summary.valid

  pub valid-coords : (xs : List Row) → All (IsRowOf s.hierarchy) xs → All (IsCoordOf s.hierarchy) (coords xs)
  valid-coords [] all = All-nil (IsCoordOf s.hierarchy)
  valid-coords (x ∷ xs) all = All-cons (IsCoordOf s.hierarchy) x.at (coords xs) (All-head (IsRowOf s.hierarchy) x xs all) (valid-coords xs (All-tail (IsRowOf s.hierarchy) x xs all))

  pub rows-set : (set : DescSet) → JoinsTo s.hierarchy (v.trees c).set (v.queues c).set set → IsSetOf s.hierarchy (coords rows) set
  rows-set set joins =
      let queue = (i.queueing.queue c its.whole.0).summary in
      subst (λ (xs : List Coord). IsSetOf s.hierarchy xs set) (sym (map-append (λ (x : Row). x.at) (map v.row in_tree) queued))
      (joins.joined (coords (map v.row in_tree)) (coords queued) (valid-coords (map v.row in_tree) told.valid) (valid-coords queued queue.valid) told.set_of queue.set_of)

  pub set-valid : (set : DescSet) → JoinsTo s.hierarchy (v.trees c).set (v.queues c).set set → IsDescSetOf s.hierarchy set
  set-valid set joins = record { hierarchy = i.numbering.setting.hierarchy; rows = coords rows; valid = valid-coords rows all-rows; set_of = rows-set set joins }

  pub tree-set : IsDescSetOf s.hierarchy (v.trees c).set
  tree-set = record { hierarchy = i.numbering.setting.hierarchy; rows = coords (map v.row in_tree); valid = valid-coords (map v.row in_tree) told.valid; set_of = told.set_of }
