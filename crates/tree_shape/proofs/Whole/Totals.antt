-- Aggregates and sets go by which rows there are, each once; and what a gate tells of its tree
use Rattle.std.proofs.{Common.{◌≡◌, ◌≢◌, ℕ, zero, suc, ◌+◌, ◌-◌, ◌<◌, ◌≤◌, Bool, true, false, cond, eqb, leb, List, [], ◌∷◌, ◌++◌, length, map, take, drop, refl, sym, ap, ◌∙◌, subst, arith}, lemmas.Bool.{eqb-true, eqb-false, leb-true, leb-false}, lemmas.List.{map-append, length-map, take-append-drop, length-append}, lemmas.List.Elements.{All-nil, All-cons}, lemmas.List.Sorted.IsPermutation-middle}
use Rattle.std.specs.Prelude.{All, Contains, IsSome, Some, slice_get}
use Rattle.dim_hierarchy.specs.{Dimension.IsHierarchy, Rows.IsRowOf, declared.row.Coord.Coord}
use Rattle.measure_agg.specs.{Aggregate.{agg, Aggregate}, Joining.join}
use Rattle.measure_agg.proofs.AggLaws.{agg-append, agg-IsPermutation}
use Rattle.describing_set.specs.{DescSet.IsSetOf, Sets.{IsDescSetOf, AreAmong}, declared.set.DescSet.DescSet}
use Rattle.describing_set.proofs.Laws.{IsSetOf-same}
use Rattle.dc_node.specs.{Block.{rows_in, entries_in, is_leaf, IsBodyOf}, Summary.{IsSummaryOf, coords, joined, aggs, row_count}, declared.block.Body.Body, declared.block.Body.TheVariants.{Rows, Entries}, declared.entry.Entry.Entry, declared.todo.Item.Item}
use Rattle.link_descent.specs.shard_store.specs.Gate.{root_entry}
use Rattle.list_words.specs.Counts.{Each, times, total}
use Rattle.list_words.proofs.{Each.{each-map, all-each, each-left}, Times.{same_is, same-le, each-times, length-le, split-at, times-split}, Truth.on_bool}
use Rattle.tree_shape.specs.{Queries.IsUnfinished, Shape.{Node, Shape, Table, TreeCells, node_of, nodes, numbers}, Trees.{BlockFits, BlockOk, DirOk, EntryOk, HasBehind, IsBehind, IsBelow, IsTree, cells_behind, lies}, Walks.{AreNoted, IsNoted, IsTail, noted_of, reach}}
use Rattle.tree_shape.proofs.{Cutting.Divisions.{sums-low, sums-high, sums-out}, Cutting.Parts.around, Cutting.Relations.all_below, Down.Lands.leaf-valid, Down.Onto.{child_in, child_head, entry_ok}, Reading.Queries.reach-low, Reading.Readings.{contains-row, last-noted, noted-right}, Reading.Visits.spans, Whole.Assembled.{node-block, node-gate, has-entries, root-at}, Whole.Groups.times-all_below, Whole.Sums.coords-valid, Whole.Tails.{IsInTail, behind-head, tail-found}}

pub agg-times : (table : Table) (ns ms : List ℕ) → ((r : ℕ) → times r ns ≡ times r ms) → agg (map table.row ns) ≡ agg (map table.row ms)
agg-times table [] [] h = refl
agg-times table [] (m ∷ ms) h = let a = h m in let o = same_is m m refl in absurd (omega arith)
agg-times table (n ∷ ns) ms h =
    let a = h n in
    let o = same_is n n refl in
    let w = split-at n ms (omega arith) in
    let rest : (r : ℕ) → times r ns ≡ times r (w.front ++ w.back) = λ r. (let x = h r in let y = ap (times r) w.is in let z = times-split n r w.front w.back in omega arith) in
    let ih = agg-times table ns (w.front ++ w.back) rest in
    let x = table.row n in
    agg-append (x ∷ []) (map table.row ns)
    ∙ ap (join (agg (x ∷ []))) (ih ∙ ap agg (map-append table.row w.front w.back))
    ∙ sym (agg-append (x ∷ []) (map table.row w.front ++ map table.row w.back))
    ∙ sym (agg-IsPermutation (map table.row w.front ++ x ∷ map table.row w.back) (x ∷ (map table.row w.front ++ map table.row w.back)) (IsPermutation-middle (map table.row w.front) x (map table.row w.back)))
    ∙ ap agg (sym (map-append table.row w.front (n ∷ w.back)))
    ∙ ap (λ xs. agg (map table.row xs)) (sym w.is)

-- a row with this coordinate
record IsSource (table : Table) (ns : List ℕ) (at : Coord) : Type 0 where
  row : ℕ
  there : 1 ≤ times row ns
  is : (table.row row).at ≡ at

source : (table : Table) (ns : List ℕ) (at : Coord) → Contains (coords (map table.row ns)) at → IsSource table ns at
source table [] at (k, lt, e) = absurd (omega arith)
source table (n ∷ ns) at (zero, lt, e) = let o = same_is n n refl in record { row = n; there = omega arith; is = e }
source table (n ∷ ns) at (suc k, lt, e) = let w = source table ns at (k, (omega arith), e) in let t = w.there in record { row = w.row; there = omega arith; is = w.is }

among : (table : Table) (ns ms : List ℕ) → ((r : ℕ) → times r ns ≡ times r ms) → AreAmong (coords (map table.row ns)) (coords (map table.row ms))
among table ns ms h at c =
    let s = source table ns at c in
    let e = h s.row in
    let t = s.there in
    subst (Contains (coords (map table.row ms))) s.is (contains-row table s.row ms (omega arith))

pub set-times : (table : Table) (ns ms : List ℕ) (set : DescSet) → ((r : ℕ) → times r ns ≡ times r ms) → IsSetOf table.hierarchy (coords (map table.row ns)) set → IsSetOf table.hierarchy (coords (map table.row ms)) set
set-times table ns ms set h s = IsSetOf-same table.hierarchy (coords (map table.row ns)) (coords (map table.row ms)) set (among table ns ms h) (among table ms ns (λ r. sym (h r))) s

all-valid : (table : Table) (ns : List ℕ) → ((r : ℕ) → 1 ≤ times r ns → IsRowOf table.hierarchy (table.row r)) → All (IsRowOf table.hierarchy) (map table.row ns)
all-valid table [] h = All-nil (IsRowOf table.hierarchy)
all-valid table (n ∷ ns) h =
    let o = same_is n n refl in
    All-cons (IsRowOf table.hierarchy) (table.row n) (map table.row ns) (h n (omega arith)) (all-valid table ns (λ r k. h r (omega arith)))

-- an entry counts the rows beneath it
abbrev pub IsCounted : Shape → Entry → Type 0
IsCounted g e = e.agg.count ≡ length (g.below e.child)

pub entry-counted : (g : Shape) (look : ℕ → Node) (table : Table) (k : ℕ) (e : Entry) → EntryOk g look table k e → IsCounted g e
entry-counted g look table k e ok = ap (λ (x : Aggregate). x.count) ok.summary.agg ∙ length-map (g.below e.child) table.row

-- and so do all together
pub joined-below : (g : Shape) (es : List Entry) → Each (IsCounted g) es → (joined (aggs es)).count ≡ length (all_below g es)
joined-below g [] h = refl
joined-below g (e ∷ es) h =
    let one = h.0 in
    let rest = joined-below g es h.1 in
    let both = length-append (g.below e.child) (all_below g es) in
    omega arith

module _ (table : Table) (cells : TreeCells) (g : Shape) (tree : IsTree table cells g) where
  abbrev gate : ℕ
  gate = cells.gate_cell

  abbrev l : ℕ
  l = cells.gate.height - 1

  abbrev root : Entry
  root = root_entry cells.gate

  gate_up : g.level gate ≡ l + 1
  gate_up = let a = tree.level in let b = tree.some in omega arith

  dir : DirOk g (nodes cells) table gate l
  dir = tree.tree.dirs gate l tree.top gate_up

  es : (nodes cells gate).entries ≡ root ∷ []
  es = ap (λ (x : Node). x.entries) (node-gate cells)

  root_ok : EntryOk g (nodes cells) table l root
  root_ok = (subst (Each (EntryOk g (nodes cells) table l)) es dir.entries).0

  pub root-noted : IsNoted g (nodes cells) (noted_of g l root)
  root-noted = root_ok.group

  -- each block but the gate is reached from the root once
  pub reach-root : (y : ℕ) → g.inside y ≡ true → y ≢ gate → reach g (noted_of g l root) y ≡ 1
  reach-root y yi yg =
      let b = tree.tree.shape.below y yi in
      let hh = tree.height in
      let hs = tree.some in
      let ne : g.level y ≢ cells.gate.height = (λ e. yg (tree.only y yi e)) in
      let le : g.level y ≤ l = omega arith in
      let u = tree.tree.shape.higher y l yi le (omega arith) in
      let v = tree.tree.shape.higher y (l + 1) yi (omega arith) (omega arith) in
      let top : g.above (g.above y l) (l + 1) ≡ gate = tree.tree.shape.coherent y l (l + 1) yi le (omega arith) (omega arith) ∙ tree.only _ v.0 (let z = v.1 in omega arith) in
      let s = dir.each (g.above y l) u.0 u.1 in
      let s1 = same_is _ _ top in
      let s2 : spans g (g.above y l) (root ∷ []) ≡ spans g (g.above y l) (nodes cells gate).entries = ap (spans g (g.above y l)) (sym es) in
      let e = reach-low g (noted_of g l root) y le in
      omega arith

  -- and each row of the tree is beneath it once
  all-beneath : (r : ℕ) → times r (g.below cells.gate.root) ≡ cond (g.placed r) 1 0
  all-beneath r = root_ok.rows r ∙ on_bool (g.placed r)
      (λ p. rw p (reach-root (g.at r) (tree.tree.shape.stands r p) (tree.entered r p)))
      (λ p. rw p refl)

  pub gate-sum : (ns : List ℕ) → ((r : ℕ) → times r ns ≡ cond (g.placed r) 1 0) → IsSummaryOf table.hierarchy (map table.row ns) cells.gate.agg cells.gate.set
  gate-sum ns h =
      let e : (r : ℕ) → times r (g.below cells.gate.root) ≡ times r ns = λ r. all-beneath r ∙ sym (h r) in
      record {
        valid = all-valid table ns (λ r k. on_bool (g.placed r) (λ p. (tree.numbered r p).1) (λ p. let a : times r ns ≡ 0 = h r ∙ (rw p refl) in absurd (omega arith)));
        agg = root_ok.summary.agg ∙ agg-times table (g.below cells.gate.root) ns e;
        set_of = set-times table (g.below cells.gate.root) ns cells.gate.set e root_ok.summary.set_of;
      }

  -- as many rows as the gate tells, at the most

  gate_count : cells.gate.agg.count ≡ length (g.below cells.gate.root)
  gate_count = ap (λ (x : Aggregate). x.count) root_ok.summary.agg ∙ length-map (g.below cells.gate.root) table.row

  few : (ns : List ℕ) → ((r : ℕ) → times r ns ≤ cond (g.placed r) 1 0) → length ns ≤ cells.gate.agg.count
  few ns h = let a = length-le ns (g.below cells.gate.root) (λ r. let x = h r in let y = all-beneath r in omega arith) in let c = gate_count in omega arith

  module _ (b : ℕ) (bi : g.inside b ≡ true) (bg : b ≢ cells.gate_cell) (w : IsHierarchy table.hierarchy) where
    is : nodes cells b ≡ node_of (cells.block b)
    is = node-block cells b bg

    ok : BlockOk table g b (cells.block b)
    ok = tree.blocks b bi bg

    -- a leaf
    leaf-fits : g.level b ≡ 0 → (body : Body) → (cells.block b).body ≡ body → is_leaf body ≡ true → IsBodyOf table.hierarchy body × (row_count body ≤ cells.gate.agg.count) × All (λ e. e.agg.count ≤ cells.gate.agg.count) (entries_in body)
    leaf-fits z (Entries entries) e k = cc
    leaf-fits z (Rows rows) e k =
        let valid : Each (IsRowOf table.hierarchy) rows.items = subst (λ (x : Body). Each (IsRowOf table.hierarchy) (rows_in x)) e (leaf-valid g (nodes cells) table b (cells.block b) tree.tree bi z is ok.rows (λ q p. (tree.numbered q p).1)) in
        let n : length rows.items ≤ cells.gate.agg.count = (let m = length-map rows.items (λ r. r.no) in
        let f = few (numbers rows.items) (λ r. let a = tree.tree.leaves b bi z r in
        let t : times r (numbers rows.items) ≡ lies g b r = sym (ap (λ (x : Body). times r (numbers (rows_in x))) e) ∙ sym (ap (λ (x : Node). times r x.rows) is) ∙ a in
        let le = lies-le r in omega arith) in omega arith) in
        (all-each (IsRowOf table.hierarchy) rows.items valid, n, All-nil _)
      where
        lies-le : (r : ℕ) → lies g b r ≤ cond (g.placed r) 1 0
        lies-le r = on_bool (g.placed r)
            (λ p. rw p (on_bool (g.carried r) (λ q. rw q (omega arith)) (λ q. rw q (on_bool (eqb (g.at r) b) (λ u. rw u (omega arith)) (λ u. rw u (omega arith))))))
            (λ p. rw p (omega arith))

    -- a directory

    each-few : (k : ℕ) (xs : List Entry) → Each (EntryOk g (nodes cells) table k) xs → ((r : ℕ) → total (λ e. times r (g.below e.child)) xs ≤ cond (g.placed r) 1 0) → All (λ e. e.agg.count ≤ cells.gate.agg.count) xs
    each-few k [] u h = All-nil _
    each-few k (x ∷ xs) u h =
        let a = entry-counted g (nodes cells) table k x u.0 in
        let f = few (g.below x.child) (λ r. let z = h r in omega arith) in
        All-cons (λ e. e.agg.count ≤ cells.gate.agg.count) x xs (omega arith) (each-few k xs u.1 (λ r. let z = h r in omega arith))

    sets-valid : (k : ℕ) (xs : List Entry) → Each (EntryOk g (nodes cells) table k) xs → All (λ e. IsDescSetOf table.hierarchy e.set) xs
    sets-valid k [] u = All-nil _
    sets-valid k (x ∷ xs) u = All-cons (λ e. IsDescSetOf table.hierarchy e.set) x xs
        (record { hierarchy = w; rows = coords (map table.row (g.below x.child)); valid = coords-valid table (g.below x.child) u.0.summary.valid; set_of = u.0.summary.set_of }) (sets-valid k xs u.1)

    beneath-few : (k : ℕ) → g.level b ≡ k + 1 → (r : ℕ) → total (λ e. times r (g.below e.child)) (nodes cells b).entries ≤ cond (g.placed r) 1 0
    beneath-few k bl r =
        let dr = tree.tree.dirs b k bi bl in
        on_bool (g.placed r)
        (λ p. rw p (on_bool (leb (g.level (g.at r)) k)
        (λ q. let le = leb-true _ _ q in
        let si = tree.tree.shape.stands r p in
        let top = tree.tree.shape.below b bi in
        let u = tree.tree.shape.higher (g.at r) k si le (omega arith) in
        let a = sums-low g (nodes cells) table k r (nodes cells b).entries dr.entries p le in
        let e = dr.each (g.above (g.at r) k) u.0 u.1 in
        let s = same-le (g.above (g.above (g.at r) k) (k + 1)) b in
        omega arith)
        (λ q. let a = sums-high g (nodes cells) table k r (nodes cells b).entries dr.entries p (leb-false _ _ q) in omega arith)))
        (λ p. rw p (let a = sums-out g (nodes cells) table k r (nodes cells b).entries dr.entries p in omega arith))

    dir-fits : (k : ℕ) → g.level b ≡ k + 1 → (body : Body) → (cells.block b).body ≡ body → is_leaf body ≡ false → IsBodyOf table.hierarchy body × (row_count body ≤ cells.gate.agg.count) × All (λ e. e.agg.count ≤ cells.gate.agg.count) (entries_in body)
    dir-fits k bl (Rows rows) e f = cc
    dir-fits k bl (Entries entries) e f =
        let en : (nodes cells b).entries ≡ entries.items = ap (λ (x : Node). x.entries) is ∙ ap entries_in e in
        let u : Each (EntryOk g (nodes cells) table k) entries.items = subst (Each (EntryOk g (nodes cells) table k)) en (tree.tree.dirs b k bi bl).entries in
        let h : (r : ℕ) → total (λ e. times r (g.below e.child)) entries.items ≤ cond (g.placed r) 1 0 = λ r. subst (λ (xs : List Entry). total (λ e. times r (g.below e.child)) xs ≤ cond (g.placed r) 1 0) en (beneath-few k bl r) in
        let j = joined-below g entries.items (each-map (EntryOk g (nodes cells) table k) (IsCounted g) entries.items (entry-counted g (nodes cells) table k) u) in
        let fw = few (all_below g entries.items) (λ r. let z = h r in let t = times-all_below g r entries.items in omega arith) in
        (sets-valid k entries.items u, omega arith, each-few k entries.items u h)

    pub block-fits : BlockFits table cells b
    block-fits =
        let all : IsBodyOf table.hierarchy (cells.block b).body × (row_count (cells.block b).body ≤ cells.gate.agg.count) × All (λ e. e.agg.count ≤ cells.gate.agg.count) (entries_in (cells.block b).body) =
        on_bool (eqb (g.level b) 0)
        (λ q. leaf-fits (eqb-true _ _ q) (cells.block b).body refl (ok.kind ∙ q))
        (λ q. let ne = eqb-false _ _ q in dir-fits (g.level b - 1) (omega arith) (cells.block b).body refl (ok.kind ∙ q)) in
        record { body = all.0; count = all.1; entries = all.2 }

-- a block links on where its walk goes on
pub goes-on : (cells : TreeCells) (item : Item) (zs : List ℕ) → nodes cells item.cell ≡ node_of (cells.block item.cell) → IsTail (nodes cells) item.stamp item.cell zs
    → (cells.block item.cell).stamp ≢ item.stamp → IsSome (cells.block item.cell).right
goes-on cells item [] n h ne = absurd (ne (sym (ap (λ (x : Node). x.stamp) n) ∙ h))
goes-on cells item (z ∷ zs) n h ne =
    let r : (cells.block item.cell).right ≡ Some z = sym (ap (λ (x : Node). x.right) n) ∙ h.1 in
    rw r refl

-- a noted block is of the tree, and links on where its walk goes on
pub links-on : (cells : TreeCells) (g : Shape) (must fit : ℕ → Bool) (items : List Item) (item : Item) (counted : List ℕ) → item.cell ≢ cells.gate_cell
    → IsUnfinished g (nodes cells) must fit (items ++ item ∷ []) counted → (g.inside item.cell ≡ true) × ((cells.block item.cell).stamp ≢ item.stamp → IsSome (cells.block item.cell).right)
links-on cells g must fit items item counted bg u =
    let w = last-noted u.noted items item u.are in
    let n : IsNoted g (nodes cells) w.last = (noted-right g (nodes cells) w.others (w.last ∷ []) (subst (AreNoted g (nodes cells)) w.is u.ok.noted)).0 in
    let o = same_is w.last.cell w.last.cell refl in
    let i = (n.cells w.last.cell (rw n.walks.1 (omega arith))).0 in
    let tail : IsTail (nodes cells) item.stamp item.cell n.walks.0 = subst (λ c. IsTail (nodes cells) item.stamp c n.walks.0) w.cell (subst (λ s. IsTail (nodes cells) s w.last.cell n.walks.0) w.stamp n.walks.2) in
    (subst (λ y. g.inside y ≡ true) w.cell i, goes-on cells item n.walks.0 (node-block cells item.cell bg) tail)

-- Where entries and gates lead.

pub leads-down : (table : Table) (cells : TreeCells) (g : Shape) (b place : ℕ) (e : Entry) → IsTree table cells g → g.inside b ≡ true → b ≢ cells.gate_cell
    → slice_get (entries_in (cells.block b).body) place ≡ Some e → IsBelow cells g e.child (g.level b)
leads-down table cells g b place e t bi bg at =
    let w = around (entries_in (cells.block b).body) place e at in
    let ne = eqb-false (g.level b) 0 (sym (t.blocks b bi bg).kind ∙ has-entries (cells.block b).body place e at) in
    let up : g.level b ≡ (g.level b - 1) + 1 = omega arith in
    let is : (nodes cells b).entries ≡ w.front ++ e ∷ w.back = ap (λ (x : Node). x.entries) (node-block cells b bg) ∙ w.is in
    let c = child_in g (nodes cells) table t.tree b (g.level b - 1) bi up e w.front w.back is in
    let cl = c.1 in
    let gl = t.level in
    let bb = t.tree.shape.below b bi in
    let hh = t.height in
    record {
      inside = c.0;
      block = λ q. let z = ap g.level q in absurd (omega arith);
      below = omega arith;
      head = child_head g (nodes cells) table t.tree b (g.level b - 1) bi up e w.front w.back is;
    }

pub leads-root : (table : Table) (cells : TreeCells) (g : Shape) → IsTree table cells g → IsBelow cells g cells.gate.root cells.gate.height
leads-root table cells g t =
    let c = root-at table cells g t in
    let cl = c.1 in
    let gl = t.level in
    let s = t.some in
    record {
      inside = c.0;
      block = λ q. let z = ap g.level q in absurd (omega arith);
      below = omega arith;
      head = child_head g (nodes cells) table t.tree cells.gate_cell (cells.gate.height - 1) t.top (omega arith) (root_entry cells.gate) [] [] (ap (λ (x : Node). x.entries) (node-gate cells));
    }

-- The blocks behind a head.
module _ (table : Table) (cells : TreeCells) (g : Shape) (t : IsTree table cells g) (k : ℕ) (e : Entry) (low : k < cells.gate.height) (ok : EntryOk g (nodes cells) table k e) where
  abbrev tail : List ℕ
  tail = ok.group.walks.0

  in-tail : (y : ℕ) → 1 ≤ times y tail → IsInTail g k e.child tail y
  in-tail = behind-head g (nodes cells) table k e.child tail e ok refl ok.group.walks.1

  at-head : (g.inside e.child ≡ true) × (g.level e.child ≡ k)
  at-head = ok.group.cells e.child (rw ok.group.walks.1 (let o = same_is e.child e.child refl in omega arith))

  off-gate : (y : ℕ) → g.level y ≡ k → y ≢ cells.gate_cell
  off-gate y lv q = let a = ap g.level q in let b = t.level in absurd (omega arith)

  pub has-behind : (n : ℕ) → HasBehind cells g e n
  has-behind n =
      let is : take n tail ≡ cells_behind cells.block e.stamp n e.child = tail-found (nodes cells) cells.block e.stamp n e.child tail
      (node-block cells e.child (off-gate e.child at-head.1)) (λ y h. node-block cells y (off-gate y (in-tail y h).level)) ok.group.walks.2 in
      record {
        found = ap (λ (ws : List ℕ). take n (drop 1 ws)) ok.group.walks.1 ∙ is;
        behind = subst (Each (IsBehind cells g e.child)) is (each-left (IsBehind cells g e.child) (take n tail) (drop n tail)
            (subst (Each (IsBehind cells g e.child)) (sym (take-append-drop n tail)) (each-times (IsBehind cells g e.child) tail (λ y h.
            let o = in-tail y h in
            record { inside = o.inside; block = off-gate y o.level; apart = o.apart; level = o.level ∙ sym at-head.1; head = o.head }))));
      }

-- an entry leads to a group of the tree, on a level below the gate's
pub record LeadsTo (table : Table) (cells : TreeCells) (g : Shape) (e : Entry) : Type 0 where
  pub level : ℕ
  pub low : level < cells.gate.height
  pub ok : EntryOk g (nodes cells) table level e

pub entry-leads : (table : Table) (cells : TreeCells) (g : Shape) (b place : ℕ) (e : Entry) → IsTree table cells g → g.inside b ≡ true → b ≢ cells.gate_cell
    → slice_get (entries_in (cells.block b).body) place ≡ Some e → LeadsTo table cells g e
entry-leads table cells g b place e t bi bg at =
    let w = around (entries_in (cells.block b).body) place e at in
    let ne = eqb-false (g.level b) 0 (sym (t.blocks b bi bg).kind ∙ has-entries (cells.block b).body place e at) in
    let up : g.level b ≡ (g.level b - 1) + 1 = omega arith in
    let is : (nodes cells b).entries ≡ w.front ++ e ∷ w.back = ap (λ (x : Node). x.entries) (node-block cells b bg) ∙ w.is in
    let bb = t.tree.shape.below b bi in
    let hh = t.height in
    record { level = g.level b - 1; low = omega arith; ok = entry_ok g (nodes cells) table t.tree b (g.level b - 1) bi up e w.front w.back is }

pub root-leads : (table : Table) (cells : TreeCells) (g : Shape) → IsTree table cells g → LeadsTo table cells g (root_entry cells.gate)
root-leads table cells g t =
    let gl = t.level in
    let s = t.some in
    record {
      level = cells.gate.height - 1;
      low = omega arith;
      ok = entry_ok g (nodes cells) table t.tree cells.gate_cell (cells.gate.height - 1) t.top (omega arith) (root_entry cells.gate) [] [] (ap (λ (x : Node). x.entries) (node-gate cells));
    }

pub entry-behind : (table : Table) (cells : TreeCells) (g : Shape) (b place n : ℕ) (e : Entry) → IsTree table cells g → g.inside b ≡ true → b ≢ cells.gate_cell
    → slice_get (entries_in (cells.block b).body) place ≡ Some e → HasBehind cells g e n
entry-behind table cells g b place n e t bi bg at = let w = entry-leads table cells g b place e t bi bg at in has-behind table cells g t w.level e w.low w.ok n

pub root-behind : (table : Table) (cells : TreeCells) (g : Shape) (n : ℕ) → IsTree table cells g → HasBehind cells g (root_entry cells.gate) n
root-behind table cells g n t = let w = root-leads table cells g t in has-behind table cells g t w.level (root_entry cells.gate) w.low w.ok n
