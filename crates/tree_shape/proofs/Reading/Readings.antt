-- A query reads a block, in the words of the call's contract
use Rattle.std.proofs.{Common.{◌≡◌, ◌≢◌, ℕ, suc, ◌+◌, ◌-◌, ◌≤◌, ◌⊎◌, inl, inr, Bool, true, false, cond, eqb, List, [], ◌∷◌, ◌++◌, map, refl, sym, ap, ◌∙◌, subst, arith}, lemmas.Bool.{eqb-true, eqb-false, ne_eqb, eq-eqb}, lemmas.List.{append-nil, map-append}, lemmas.List.Elements.All-contains}
use Rattle.std.specs.Prelude.{Some, Contains}
use Rattle.dim_hierarchy.specs.{Dimension.Dimension, Filter.matches, Row.IsCoordOf, declared.filter.Pick.Pick, declared.row.Row.Row}
use Rattle.dim_hierarchy.proofs.Matching.{matches-Matches}
use Rattle.measure_agg.specs.{Aggregate.agg, Joining.join}
use Rattle.measure_agg.proofs.AggLaws.{agg-append, join_commutative}
use Rattle.describing_set.specs.{Filter.{is_inside, overlaps}, Sets.{IsDescSetOf, Covers}}
use Rattle.describing_set.proofs.{Covering.IsSetOf-Covers, Filters.{is_inside-IsInside, inside_matches, overlaps-Overlaps, matched_overlaps}}
use Rattle.dc_node.specs.{Block.{rows_in, entries_in, is_leaf}, Summary.{coords, joined, aggs}, declared.block.Block.Block, declared.block.Body.Body, declared.block.Body.TheVariants.{Rows, Entries}, declared.entry.Entry.Entry, declared.todo.Item.Item}
use Rattle.link_descent.specs.Visit.{matching, taken, noted, noted_in, noted_right, counted as block_part}
use Rattle.list_words.specs.Counts.{Each, same, times}
use Rattle.list_words.proofs.{Times.times-append, Truth.on_bool}
use Rattle.tree_shape.specs.{Queries.{IsUnfinished, QueryOk, fits, items_of}, Shape.{Node, Shape, Table, TreeCells, node_of, nodes, numbers}, Steps.{AfterVisit, CountsElsewhere, IsAsked, Visits}, Trees.{BlockOk, EntryOk, IsTree, lies}, Walks.{AreNoted, IsNoted, IsTail, Noted, pending}}
use Rattle.tree_shape.proofs.{Cutting.Relations.{IsSumOf, Note, Skip, Take, Verdict, VerdictOk, fitting, left_over, notes, takes}, Reading.Visits.{unplaced, times-fitting, times-unfitting, query-visit_dir, query-visit_leaf, leaf-split, pending-fewer, pending-append, all_noted-append}, Whole.Assembled.node-block, Whole.Sums.coords-valid}

-- The order of noted blocks and of counted rows doesn't matter.

pub query-order : (g : Shape) (look : ℕ → Node) (must fits : ℕ → Bool) (ps qs : List Noted) (counted : List ℕ) → AreNoted g look qs → ((y : ℕ) → pending g qs y ≡ pending g ps y) → QueryOk g look must fits ps counted → QueryOk g look must fits qs counted
query-order g look must fits ps qs counted are same_pending q = record {
  noted = are;
  blocks = λ y i. rw (same_pending y) (q.blocks y i);
  distinct = q.distinct;
  fitting = q.fitting;
  once = λ r p. rw (same_pending (g.at r)) (q.once r p);
  whole = λ r p m f. rw (same_pending (g.at r)) (q.whole r p m f);
  passed = λ r p ca seen y i le up. rw (same_pending y) (q.passed r p ca seen y i le up);
}

pub elsewhere : (g : Shape) (look : ℕ → Node) (must fit : ℕ → Bool) (items : List Item) (counted now : List ℕ) → CountsElsewhere g fit counted now → IsUnfinished g look must fit items counted → IsUnfinished g look must fit items now
elsewhere g look must fit items counted now e u = record {
  noted = u.noted;
  are = u.are;
  ok = record {
    noted = u.ok.noted;
    blocks = u.ok.blocks;
    distinct = e.once;
    fitting = e.fitting;
    once = λ r p. rw (e.here r p) (u.ok.once r p);
    whole = λ r p m f. rw (e.here r p) (u.ok.whole r p m f);
    passed = λ r p ca seen y i le up. u.ok.passed r p ca (let h = e.here r p in omega arith) y i le up;
  };
}

pub noted-left : (g : Shape) (look : ℕ → Node) (ps qs : List Noted) → AreNoted g look (ps ++ qs) → AreNoted g look ps
noted-left g look [] qs h = tt
noted-left g look (p ∷ ps) qs h = (h.0, noted-left g look ps qs h.1)

pub noted-right : (g : Shape) (look : ℕ → Node) (ps qs : List Noted) → AreNoted g look (ps ++ qs) → AreNoted g look qs
noted-right g look [] qs h = h
noted-right g look (p ∷ ps) qs h = noted-right g look ps qs h.1

-- the block that was noted last
pub record IsLast (all : List Noted) (items : List Item) (item : Item) : Type 0 where
  pub others : List Noted
  pub last : Noted
  pub is : all ≡ others ++ last ∷ []
  pub others_are : items_of others ≡ items
  pub cell : last.cell ≡ item.cell
  pub stamp : last.stamp ≡ item.stamp

pub last-noted : (all : List Noted) (items : List Item) (item : Item) → items_of all ≡ items ++ item ∷ [] → IsLast all items item
last-noted [] [] item e = cc
last-noted [] (i ∷ items) item e = cc
last-noted (p ∷ []) [] item e =
    let i : record { cell = p.cell; stamp = p.stamp } ≡ item = cc in
    record { others = []; last = p; is = refl; others_are = refl; cell = ap (λ (x : Item). x.cell) i; stamp = ap (λ (x : Item). x.stamp) i }
last-noted (p ∷ q ∷ ps) [] item e = cc
last-noted (p ∷ ps) (i ∷ items) item e =
    let head : record { cell = p.cell; stamp = p.stamp } ≡ i = cc in
    let tail : items_of ps ≡ items ++ item ∷ [] = cc in
    let w = last-noted ps items item tail in
    record { others = p ∷ w.others; last = w.last; is = ap (λ xs. p ∷ xs) w.is; others_are = (λ k. head k ∷ w.others_are k); cell = w.cell; stamp = w.stamp }

-- What the sets say of the rows beneath.

pub contains-row : (table : Table) (r : ℕ) (ns : List ℕ) → 1 ≤ times r ns → Contains (coords (map table.row ns)) (table.row r).at
contains-row table r [] h = absurd (omega arith)
contains-row table r (n ∷ ns) h = on_bool (eqb r n)
    (λ q. let e = eqb-true _ _ q in (0, omega arith, ap (λ y. (table.row y).at) (sym e)))
    (λ q. let k = rw q at h in let c = contains-row table r ns (omega arith) in (suc c.0, (let j = c.1 in omega (arith, j)), c.2))

module _ (table : Table) (f : List Pick) (asked : IsAsked table f) (e : Entry) (below : List ℕ) (s : IsSumOf table below e) where
  pub set-valid : IsDescSetOf table.hierarchy e.set
  set-valid = record { hierarchy = asked.filter.hierarchy; rows = coords (map table.row below); valid = coords-valid table below s.valid; set_of = s.set_of }

  covered : (r : ℕ) → 1 ≤ times r below → Covers table.hierarchy e.set (table.row r).at
  covered r h = IsSetOf-Covers table.hierarchy (coords (map table.row below)) e.set (table.row r).at s.set_of (contains-row table r below h)

  valid-at : (r : ℕ) → 1 ≤ times r below → IsCoordOf table.hierarchy (table.row r).at
  valid-at r h = All-contains (IsCoordOf table.hierarchy) (coords (map table.row below)) (table.row r).at (coords-valid table below s.valid) (contains-row table r below h)

  pub inside-fits : is_inside table.hierarchy e.set f ≡ true → (r : ℕ) → 1 ≤ times r below → fits table f r ≡ true
  inside-fits i r h = (matches-Matches table.hierarchy f (table.row r).at asked.filter (valid-at r h)).1 (inside_matches table.hierarchy e.set f (table.row r).at ((is_inside-IsInside table.hierarchy e.set f set-valid asked.filter).0 i) (covered r h))

  pub apart-unfit : overlaps table.hierarchy e.set f ≡ false → (r : ℕ) → 1 ≤ times r below → fits table f r ≡ false
  apart-unfit o r h = on_bool (fits table f r)
      (λ m.
      let ma = (matches-Matches table.hierarchy f (table.row r).at asked.filter (valid-at r h)).0 m in
      let ov = (overlaps-Overlaps table.hierarchy e.set f set-valid asked.filter).1 (matched_overlaps table.hierarchy e.set f (table.row r).at asked.dims (covered r h) ma) in
      let bad : true ≡ false = sym ov ∙ o in cc)
      (λ m. m)

-- what the query does with an entry
abbrev pub judge : List Dimension → List Pick → Entry → Verdict
judge h f e = cond (is_inside h e.set f) Take (cond (overlaps h e.set f) Note Skip)

judge-take : (h : List Dimension) (f : List Pick) (e : Entry) → judge h f e ≡ Take → is_inside h e.set f ≡ true
judge-take h f e q = on_bool (is_inside h e.set f) (λ i. i) (λ i. on_bool (overlaps h e.set f)
    (λ o. let z : Note ≡ Take = sym (rw (i, o) refl) ∙ q in cc)
    (λ o. let z : Skip ≡ Take = sym (rw (i, o) refl) ∙ q in cc))

judge-skip : (h : List Dimension) (f : List Pick) (e : Entry) → judge h f e ≡ Skip → overlaps h e.set f ≡ false
judge-skip h f e q = on_bool (is_inside h e.set f)
    (λ i. let z : Take ≡ Skip = sym (rw i refl) ∙ q in cc)
    (λ i. on_bool (overlaps h e.set f) (λ o. let z : Note ≡ Skip = sym (rw (i, o) refl) ∙ q in cc) (λ o. o))

pub judged-all : (g : Shape) (look : ℕ → Node) (table : Table) (f : List Pick) (l : ℕ) (es : List Entry) → IsAsked table f → Each (EntryOk g look table l) es → Each (VerdictOk g (fits table f) (judge table.hierarchy f)) es
judged-all g look table f l [] asked w = tt
judged-all g look table f l (e ∷ es) asked w = (
  record {
    take = λ q r h. inside-fits table f asked e (g.below e.child) w.0.summary (judge-take table.hierarchy f e q) r h;
    skip = λ q r h. apart-unfit table f asked e (g.below e.child) w.0.summary (judge-skip table.hierarchy f e q) r h;
  },
  judged-all g look table f l es asked w.1,
)

-- what is noted is what the contract says, and what is counted has the aggregates of the entries taken

pub notes-are : (g : Shape) (table : Table) (f : List Pick) (l : ℕ) (es : List Entry) → items_of (notes g l (judge table.hierarchy f) es) ≡ noted table.hierarchy f es
notes-are g table f l [] = refl
notes-are g table f l (e ∷ es) =
    let ih = notes-are g table f l es in
    on_bool (is_inside table.hierarchy e.set f)
    (λ i. on_bool (overlaps table.hierarchy e.set f)
    (λ o. rw (i, o) ih)
    (λ o. rw (i, o) ih))
    (λ i. on_bool (overlaps table.hierarchy e.set f)
    (λ o. rw (i, o) (ap (λ xs. record { cell = e.child; stamp = e.stamp } ∷ xs) ih))
    (λ o. rw (i, o) ih))

pub takes-are : (g : Shape) (look : ℕ → Node) (table : Table) (f : List Pick) (l : ℕ) (es : List Entry) → Each (EntryOk g look table l) es → agg (map table.row (takes g (judge table.hierarchy f) es)) ≡ joined (aggs (taken table.hierarchy f es))
takes-are g look table f l [] w = refl
takes-are g look table f l (e ∷ es) w =
    let ih = takes-are g look table f l es w.1 in
    on_bool (is_inside table.hierarchy e.set f)
    (λ i. rw i (
    ap agg (map-append table.row (g.below e.child) (takes g (judge table.hierarchy f) es))
    ∙ agg-append (map table.row (g.below e.child)) (map table.row (takes g (judge table.hierarchy f) es))
    ∙ ap (λ x. join x (agg (map table.row (takes g (judge table.hierarchy f) es)))) (sym w.0.summary.agg)
    ∙ ap (join e.agg) ih))
    (λ i. on_bool (overlaps table.hierarchy e.set f)
    (λ o. rw (i, o) ih)
    (λ o. rw (i, o) ih))

pub fitting-are : (table : Table) (f : List Pick) (rows : List Row) → Each (λ r. table.row r.no ≡ r) rows → map table.row (fitting (fits table f) (numbers rows)) ≡ matching table.hierarchy f rows
fitting-are table f [] h = refl
fitting-are table f (r ∷ rows) h =
    let ih = fitting-are table f rows h.1 in
    let e : fits table f r.no ≡ matches table.hierarchy f r.at = ap (λ (x : Row). matches table.hierarchy f x.at) h.0 in
    on_bool (matches table.hierarchy f r.at)
    (λ m. let m2 : matches table.hierarchy f (table.row r.no).at ≡ true = e ∙ m in rw (m, m2) (cc (h.0, ih)))
    (λ m. let m2 : matches table.hierarchy f (table.row r.no).at ≡ false = e ∙ m in rw (m, m2) ih)

-- what is left of the walk
pub left-are : (look : ℕ → Node) (s l b : ℕ) (zs : List ℕ) (block : Block) → look b ≡ node_of block → IsTail look s b zs → items_of (left_over s l zs) ≡ noted_right block s
left-are look s l b [] block is h =
    let e : block.stamp ≡ s = sym (ap (λ (x : Node). x.stamp) is) ∙ h in
    rw (eq-eqb block.stamp s e) refl
left-are look s l b (z ∷ zs) block is h =
    let ne : block.stamp ≢ s = λ q. h.0 (ap (λ (x : Node). x.stamp) is ∙ q) in
    let r : block.right ≡ Some z = sym (ap (λ (x : Node). x.right) is) ∙ h.1 in
    rw (ne_eqb block.stamp s ne, r) refl

-- no row fits oftener than it stands there
pub fitting-few : (fit : ℕ → Bool) (r : ℕ) (ns : List ℕ) → times r (fitting fit ns) ≤ times r ns
fitting-few fit r ns = on_bool (fit r)
    (λ q. let e = times-fitting fit r ns q in omega arith)
    (λ q. let e = times-unfitting fit r ns q in omega arith)

leaf-part : (h : List Dimension) (f : List Pick) (body : Body) → is_leaf body ≡ true → (noted_in h f body ≡ []) × (block_part h f body ≡ agg (matching h f (rows_in body)))
leaf-part h f (Rows rows) q = (refl, refl)
leaf-part h f (Entries entries) q = cc

dir-part : (h : List Dimension) (f : List Pick) (body : Body) → is_leaf body ≡ false → (noted_in h f body ≡ noted h f (entries_in body)) × (block_part h f body ≡ joined (aggs (taken h f (entries_in body))))
dir-part h f (Rows rows) q = cc
dir-part h f (Entries entries) q = (refl, refl)

pub items-append : (ps qs : List Noted) → items_of (ps ++ qs) ≡ items_of ps ++ items_of qs
items-append ps qs = map-append (λ (p : Noted). record { cell = p.cell; stamp = p.stamp }) ps qs

pub agg-both : (table : Table) (ns ms : List ℕ) → agg (map table.row (ns ++ ms)) ≡ join (agg (map table.row ms)) (agg (map table.row ns))
agg-both table ns ms = ap agg (map-append table.row ns ms) ∙ agg-append (map table.row ns) (map table.row ms) ∙ join_commutative (agg (map table.row ns)) (agg (map table.row ms))

module _ (table : Table) (cells : TreeCells) (g : Shape) (must : ℕ → Bool) (f : List Pick) (items : List Item) (item : Item) (counted : List ℕ)
    (tree : IsTree table cells g) (d : Visits table cells g must f items item counted) where
  abbrev look : ℕ → Node
  look = nodes cells

  abbrev fit : ℕ → Bool
  fit = fits table f

  abbrev b : ℕ
  b = item.cell

  abbrev block : Block
  block = cells.block item.cell

  w : IsLast d.unfinished.noted items item
  w = last-noted d.unfinished.noted items item d.unfinished.are

  abbrev p : Noted
  p = w.last

  abbrev ps : List Noted
  ps = w.others

  all-noted : AreNoted g look (ps ++ p ∷ [])
  all-noted = subst (AreNoted g look) w.is d.unfinished.ok.noted

  p-noted : IsNoted g look p
  p-noted = (noted-right g look ps (p ∷ []) all-noted).0

  was : (y : ℕ) → pending g (p ∷ ps) y ≡ pending g d.unfinished.noted y
  was y = let e : pending g (ps ++ p ∷ []) y ≡ pending g d.unfinished.noted y = ap (λ xs. pending g xs y) (sym w.is) in omega (arith, e, pending-append g ps (p ∷ []) y)

  -- that block first
  q : QueryOk g look must fit (p ∷ ps) counted
  q = query-order g look must fit (ps ++ p ∷ []) (p ∷ ps) counted (p-noted, noted-left g look ps (p ∷ []) all-noted)
      (λ y. omega (arith, pending-append g ps (p ∷ []) y)) (subst (λ xs. QueryOk g look must fit xs counted) w.is d.unfinished.ok)

  zs : List ℕ
  zs = p-noted.walks.0

  at_b : p.walk ≡ b ∷ p-noted.walks.0
  at_b = p-noted.walks.1 ∙ ap (λ c. c ∷ p-noted.walks.0) w.cell

  tail : IsTail look p.stamp b p-noted.walks.0
  tail = subst (λ c. IsTail look p.stamp c p-noted.walks.0) w.cell p-noted.walks.2

  b_in : (g.inside b ≡ true) × (g.level b ≡ p.level)
  b_in = p-noted.cells b (rw at_b (let o : same b b ≡ 1 = rw (eq-eqb b b refl) refl in omega arith))

  is : look b ≡ node_of block
  is = node-block cells b d.block

  ok : BlockOk table g b block
  ok = tree.blocks b b_in.0 d.block

  left_is : items_of (left_over p.stamp p.level p-noted.walks.0) ≡ noted_right block item.stamp
  left_is = left-are look p.stamp p.level b p-noted.walks.0 block is tail ∙ ap (noted_right block) w.stamp

  -- a row that is counted now was counted before, or is in the tree
  seen-before : (r : ℕ) (more : List ℕ) → 1 ≤ times r (more ++ counted) → (g.placed r ≡ false → times r more ≡ 0) → (1 ≤ times r counted) ⊎ (g.placed r ≡ true)
  seen-before r more h none = on_bool (g.placed r)
      (λ pr. inr pr)
      (λ pr. let z = none pr in let s = times-append r more counted in inl (omega arith))

  at-leaf : p.level ≡ 0 → AfterVisit table cells g must f items item counted d.unfinished.noted
  at-leaf z =
      let bl : g.level b ≡ 0 = b_in.1 ∙ z in
      let kind : is_leaf block.body ≡ true = ok.kind ∙ eq-eqb (g.level b) 0 bl in
      let lo : List Noted = left_over p.stamp p.level p-noted.walks.0 in
      let part = leaf-part table.hierarchy f block.body kind in
      let after = query-visit_leaf g look must fit b p p-noted.walks.0 ps counted tree.tree.shape (tree.tree.leaves b b_in.0 bl) b_in.0 bl d.idle at_b z q in
      let rows_are : map table.row (fitting fit (look b).rows) ≡ matching table.hierarchy f (rows_in block.body) = ap (λ (x : Node). map table.row (fitting fit x.rows)) is ∙ fitting-are table f (rows_in block.body) ok.rows in
      record {
        now = fitting fit (look b).rows ++ counted;
        unfinished = record {
          noted = ps ++ lo;
          are = items-append ps lo ∙ ap (λ xs. xs ++ items_of lo) w.others_are ∙ ap (λ xs. items ++ xs) left_is ∙ ap (λ xs. xs ++ noted_right block item.stamp) (sym (append-nil items) ∙ ap (λ xs. items ++ xs) (sym part.0));
          ok = query-order g look must fit (lo ++ ps) (ps ++ lo) (fitting fit (look b).rows ++ counted) (all_noted-append g look ps lo (noted-right g look lo ps after.noted) (noted-left g look lo ps after.noted))
              (λ y. omega (arith, pending-append g ps lo y, pending-append g lo ps y)) after;
        };
        total = agg-both table (fitting fit (look b).rows) counted ∙ ap (λ x. join (agg (map table.row counted)) x) (ap agg rows_are ∙ sym part.1);
        known = λ r h. seen-before r (fitting fit (look b).rows) h (λ pr.
            let a = fitting-few fit r (look b).rows in
            let z : lies g b r ≡ 0 = rw pr refl in
            let y = tree.tree.leaves b b_in.0 bl r in
            omega arith);
        kept = λ r. omega (arith, times-append r (fitting fit (look b).rows) counted);
        fewer = λ y yi. omega (
          arith,
          was y,
          pending-append g ps lo y,
          pending-append g lo ps y,
          leaf-split g b p p-noted.walks.0 ps tree.tree.shape bl at_b z y yi,
        );
      }

  at-directory : p.level ≢ 0 → AfterVisit table cells g must f items item counted d.unfinished.noted
  at-directory z =
      let l : ℕ = p.level - 1 in
      let pl : p.level ≡ l + 1 = omega arith in
      let bl : g.level b ≡ l + 1 = b_in.1 ∙ pl in
      let up : g.level b ≢ 0 = (λ e. let e2 = b_in.1 in absurd (omega arith)) in
      let kind : is_leaf block.body ≡ false = ok.kind ∙ ne_eqb (g.level b) 0 up in
      let lo : List Noted = left_over p.stamp p.level p-noted.walks.0 in
      let v : Entry → Verdict = judge table.hierarchy f in
      let dir = tree.tree.dirs b l b_in.0 bl in
      let part = dir-part table.hierarchy f block.body kind in
      let es : (look b).entries ≡ entries_in block.body = ap (λ (x : Node). x.entries) is in
      let ns : List Noted = notes g l v (look b).entries in
      let after = query-visit_dir g look table must fit v b l p p-noted.walks.0 ps counted tree.tree.shape dir b_in.0 bl d.idle at_b pl (judged-all g look table f l (look b).entries d.asked dir.entries) q in
      let notes_is : items_of ns ≡ noted_in table.hierarchy f block.body = notes-are g table f l (look b).entries ∙ ap (noted table.hierarchy f) es ∙ sym part.0 in
      let rest = noted-right g look ns (lo ++ ps) after.noted in
      record {
        now = takes g v (look b).entries ++ counted;
        unfinished = record {
          noted = (ps ++ ns) ++ lo;
          are = items-append (ps ++ ns) lo ∙ ap (λ xs. xs ++ items_of lo) (items-append ps ns ∙ ap (λ xs. xs ++ items_of ns) w.others_are ∙ ap (λ xs. items ++ xs) notes_is) ∙ ap (λ xs. (items ++ noted_in table.hierarchy f block.body) ++ xs) left_is;
          ok = query-order g look must fit (ns ++ (lo ++ ps)) ((ps ++ ns) ++ lo) (takes g v (look b).entries ++ counted)
              (all_noted-append g look (ps ++ ns) lo (all_noted-append g look ps ns (noted-right g look lo ps rest) (noted-left g look ns (lo ++ ps) after.noted)) (noted-left g look lo ps rest))
              (λ y. omega (arith, pending-append g (ps ++ ns) lo y, pending-append g ps ns y, pending-append g ns (lo ++ ps) y, pending-append g lo ps y)) after;
        };
        total = agg-both table (takes g v (look b).entries) counted ∙ ap (λ x. join (agg (map table.row counted)) x) (takes-are g look table f l (look b).entries dir.entries ∙ ap (λ xs. joined (aggs (taken table.hierarchy f xs))) es ∙ sym part.1);
        known = λ r h. seen-before r (takes g v (look b).entries) h (unplaced g look table fit v b l (look b).entries r dir.entries);
        kept = λ r. omega (arith, times-append r (takes g v (look b).entries) counted);
        fewer = λ y yi. omega (
          arith,
          was y,
          pending-append g (ps ++ ns) lo y,
          pending-append g ps ns y,
          pending-append g ns (lo ++ ps) y,
          pending-append g lo ps y,
          pending-fewer g look table must fit v b l p p-noted.walks.0 ps counted tree.tree.shape dir b_in.0 bl d.idle at_b pl (judged-all g look table f l (look b).entries d.asked dir.entries) q y yi,
        );
      }

  pub after-visit : AfterVisit table cells g must f items item counted d.unfinished.noted
  after-visit = on_bool (eqb p.level 0) (λ z. at-leaf (eqb-true _ _ z)) (λ z. at-directory (eqb-false _ _ z))
