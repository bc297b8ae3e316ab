-- The worked example, step by step through the laws
use Rattle.std.proofs.{Common.{◌≡◌, ◌≢◌, ℕ, zero, suc, ◌<◌, ◌≤◌, inl, inr, Bool, true, false, cond, eqb, leb, List, [], ◌∷◌, ◌++◌, length, map, take, drop, refl, sym, ap, ◌∙◌, subst, arith, add-one}, lemmas.Bool.{eqb-true, eqb-false, ne_eqb, eq-eqb, leb-true, leb-false}, lemmas.List.length-append, lemmas.List.Elements.{All-nil, All-cons}}
use Rattle.std.specs.{List.AllZip, Prelude.{Some, All}}
use Rattle.dim_hierarchy.specs.{Dimension.Dimension, declared.filter.Pick.Pick, declared.row.Coord.Coord, declared.row.Row.Row}
use Rattle.measure_agg.specs.Joining.{one}
use Rattle.describing_set.specs.{DescSet.IsSetOf, Sets.GrowsBy, declared.set.DescSet.DescSet}
use Rattle.hierarchy_split.specs.{Cut.{leasts, lifted}, Order.{AreEqual, least}}
use Rattle.dc_node.specs.{Block.{is_leaf, is_full, rows_in}, Entry.IsWithRow, declared.block.Block.Block, declared.block.Body.TheVariants.Rows, declared.entry.Entry.Entry, declared.todo.Item.Item}
use Rattle.cell_stock.specs.{Stock.PurseValue, declared.purse.Spare.Spare}
use Rattle.link_descent.specs.shard_store.specs.Gate.{root_entry}
use Rattle.link_descent.specs.{Descend.{Enters, Halves}, GateRead.root_items, Visit.{noted_in, noted_right}, declared.entered.Entered.Entered}
use Rattle.list_words.specs.Counts.{Each, times}
use Rattle.list_words.proofs.{Each.each-append, Truth.on_bool}
use Rattle.tree_shape.specs.{Example.{AsksAtGate, HoldsFirst, IsAnswered, IsSample, IsUncut, Sample, Works, cells_at, first_rows, gate_after, halved_cells, leaf_of}, Queries.{IsUnfinished, NoneWaits, fits}, Shape.{Node, Shape, Table, TreeCells, nodes, numbers}, Steps.{AfterBegin, AfterPut, AfterStep, AfterVisit, AreApart, IsIdle, IsSpare}}
use Rattle.tree_shape.proofs.{Building.Openings.after-opening, Down.ComesIn.goes-in, Down.Puts.after-put, Down.Rows.after-all, Reading.Beginnings.after-begin, Reading.Readings.after-visit, Whole.Assembled.{node-gate, root-at}}

length-first : (table : Table) (n : ℕ) → length (first_rows table n) ≡ n
length-first table zero = refl
length-first table (suc n) = let a = length-append (first_rows table n) (table.row n ∷ []) in let b = length-first table n in omega arith

-- rows of one place have no cut

all-same : (h : List Dimension) (one : DescSet) (dim level : ℕ) (rows : List Row) → All (λ y. y ≡ least (lifted h dim level one)) (leasts h (map (λ r. one) rows) dim level)
all-same h one dim level [] = All-nil (λ y. y ≡ least (lifted h dim level one))
all-same h one dim level (r ∷ rows) = All-cons (λ y. y ≡ least (lifted h dim level one)) (least (lifted h dim level one)) (leasts h (map (λ r. one) rows) dim level) refl (all-same h one dim level rows)

const-equal : (h : List Dimension) (one : DescSet) (dim level : ℕ) (rows : List Row) → AreEqual (leasts h (map (λ r. one) rows) dim level)
const-equal h one dim level [] = All-nil _
const-equal h one dim level (r ∷ rows) = all-same h one dim level (r ∷ rows)

module _ (table : Table) (x : Sample) (d : IsSample table x) where
  off : {A : Type 0} (a b : ℕ) (u v : A) → a ≢ b → cond (eqb a b) u v ≡ v
  off a b u v q = rw (ne_eqb a b q) refl

  on : {A : Type 0} (a : ℕ) (u v : A) → cond (eqb a a) u v ≡ u
  on a u v = rw (eq-eqb a a refl) refl

  -- one row more at the gate
  pub with-row : (n : ℕ) → IsWithRow table.hierarchy (table.row n) (root_entry (gate_after table x n)) (root_entry (gate_after table x (suc n)))
  with-row n = record {
    child = refl;
    stamp = refl;
    agg = refl;
    grown = subst (λ (at : Coord). GrowsBy table.hierarchy at (x.set n) (x.set (suc n))) (sym (d.numbered n).1) (subst (λ m. GrowsBy table.hierarchy (x.place n) (x.set n) (x.set m)) (add-one n) (d.grown n));
    valid = d.valid (suc n);
  }

  abbrev empty_purse : PurseValue
  empty_purse = record { spares = []; room = 0 }

  abbrev plain : Entered
  plain = record { fresh = record { items = [] }; at = x.root }

  root-block : (n m : ℕ) → (cells_at table x n m).block x.root ≡ leaf_of x.stamp (first_rows table m)
  root-block n m = on x.root (leaf_of x.stamp (first_rows table m)) (leaf_of x.stamp [])

  other-block : (n m y : ℕ) → y ≢ x.root → (cells_at table x n m).block y ≡ leaf_of x.stamp []
  other-block n m y q = off y x.root (leaf_of x.stamp (first_rows table m)) (leaf_of x.stamp []) q

  -- and what else holds on the way
  pub record Filled (n : ℕ) : Type 0 where
    pub holds : HoldsFirst table (cells_at table x n n) n
    pub only : (y : ℕ) → y ≢ x.gate_cell → y ≢ x.root → holds.shape.inside y ≡ false

  start : Filled 0
  start =
      let o = after-opening table (cells_at table x 0 0) x.stamp (record { root = root-block 0 0; apart = d.root; stamp = refl; height = refl; agg = refl; set = d.empty }) in
      record {
        holds = record {
          shape = o.shape;
          tree = o.tree;
          known = λ r p. let z : true ≡ false = sym p ∙ o.empty r in cc;
          there = λ r lt. absurd (omega arith);
          settled = λ r p. let z : true ≡ false = sym p ∙ o.empty r in cc;
        };
        only = o.others;
      }

  -- blocks under the gate of the first n rows
  abbrev pub under_gate : ℕ → (ℕ → Block) → TreeCells
  under_gate n block = record { gate_cell = x.gate_cell; gate = gate_after table x n; block = block }

  -- a tree with a row more
  pub record HasNext (n : ℕ) (before after : TreeCells) (b : HoldsFirst table before n) : Type 0 where
    pub holds : HoldsFirst table after (suc n)
    pub inside : (y : ℕ) → holds.shape.inside y ≡ b.shape.inside y
    pub spares : (s : Spare) → IsSpare b.shape (nodes before) s → IsSpare holds.shape (nodes after) s

  -- the row comes in and is put in the root, a leaf with room
  module _ (n : ℕ) (block now : ℕ → Block) (b : HoldsFirst table (under_gate n block) n) (leaf : is_leaf (block x.root).body ≡ true) (room : is_full (block x.root).body ≡ false)
      (stamp : (now x.root).stamp ≡ (block x.root).stamp) (right : (now x.root).right ≡ (block x.root).right)
      (body : (now x.root).body ≡ Rows (record { items = rows_in (block x.root).body ++ table.row n ∷ [] })) (other : (y : ℕ) → y ≢ x.root → now y ≡ block y) where
    row-in : AfterStep table b.shape n x.root 1 (under_gate n block) (under_gate (suc n) block) [] []
    row-in = goes-in table b.shape n (under_gate n block) (under_gate (suc n) block) empty_purse empty_purse plain b.tree (record {
      gate_now = gate_after table x (suc n);
      tail = [];
      new = on_bool (b.shape.placed n) (λ p. let z = b.known n p in absurd (omega arith)) (λ p. p);
      numbered = (d.numbered n).0;
      valid = (d.numbered n).2;
      behind = λ full. (let z : true ≡ false = sym full ∙ room in cc);
      step = record {
        step = inl (
          root_entry (gate_after table x (suc n)),
          record { gate_is = refl },
          record { room = room; entry_is = with-row n; head_is = refl; purse_is = refl; fresh = refl; at = refl },
        );
      };
      idle = λ q p c e. (let z : true ≡ false = sym c ∙ b.settled q p in cc);
      spares = tt;
      filled = tt;
      other = λ y yc fr. refl;
      gate_cell = refl;
      gate = record { root = refl; height = refl };
    })

    row-put : AfterPut table row-in.shape n (under_gate (suc n) block) (under_gate (suc n) now)
    row-put = after-put table row-in.shape n (under_gate (suc n) block) (under_gate (suc n) now) row-in.tree (record {
      leaf = x.root;
      placed = row-in.row.placed;
      carried = row-in.row.carried;
      at = row-in.row.at;
      kind = leaf;
      stamp = stamp;
      right = right;
      body = body;
      other = other;
      gate_cell = refl;
      gate = record { root = refl; height = refl };
    })

    unused : row-in.used ≡ []
    unused = sym row-in.purse_is

    pub next-row : HasNext n (under_gate n block) (under_gate (suc n) now) b
    next-row = record {
      holds = record {
        shape = row-put.shape;
        tree = row-put.tree;
        known = λ r pr. on_bool (eqb r n)
            (λ z. let e = eqb-true _ _ z in omega arith)
            (λ z. let k = b.known r (sym (row-in.row.others_placed r (eqb-false _ _ z)) ∙ sym (row-put.placed r) ∙ pr) in omega arith);
        there = λ r lr. on_bool (eqb r n)
            (λ z. row-put.placed r ∙ ap row-in.shape.placed (eqb-true _ _ z) ∙ row-in.row.placed)
            (λ z. let ne = eqb-false _ _ z in row-put.placed r ∙ row-in.row.others_placed r ne ∙ b.there r (omega arith));
        settled = λ r pr. on_bool (eqb r n)
            (λ z. ap row-put.shape.carried (eqb-true _ _ z) ∙ row-put.settled)
            (λ z. let ne = eqb-false _ _ z in row-put.carried r ne ∙ row-in.row.others_carried r ne ∙ b.settled r (sym (row-in.row.others_placed r ne) ∙ sym (row-put.placed r) ∙ pr));
      };
      inside = λ y. row-put.inside y ∙ row-in.inside y (subst (Each (λ (s : Spare). y ≢ s.cell)) (sym unused) tt);
      spares = λ s u. row-put.spares s (row-in.spares s (subst (Each (AreApart s)) (sym unused) tt) u);
    }

  next : (n : ℕ) → n < 32 → Filled n → Filled (suc n)
  next n lt f =
      let w = next-row n (cells_at table x n n).block (cells_at table x (suc n) (suc n)).block f.holds
      (ap (λ (z : Block). is_leaf z.body) (root-block n n)) (rw (root-block n n) (let z = length-first table n in ne_eqb _ _ (omega arith)))
      (ap (λ (z : Block). z.stamp) (root-block (suc n) (suc n)) ∙ sym (ap (λ (z : Block). z.stamp) (root-block n n)))
      (ap (λ (z : Block). z.right) (root-block (suc n) (suc n)) ∙ sym (ap (λ (z : Block). z.right) (root-block n n)))
      (ap (λ (z : Block). z.body) (root-block (suc n) (suc n)) ∙ ap (λ (z : Block). let rows : List Row = rows_in z.body ++ table.row n ∷ [] in Rows (record { items = rows })) (sym (root-block n n)))
      (λ y q. other-block (suc n) (suc n) y q ∙ sym (other-block n n y q)) in
      record { holds = w.holds; only = λ y yg yr. w.inside y ∙ f.only y yg yr }

  pub fill : (n : ℕ) → n ≤ 32 → Filled n
  fill zero le = start
  fill (suc n) le = next n (omega arith) (fill n (omega arith))

  -- the 33rd row

  item-sets : (rows : List Row) → Each (λ r. r.at ≡ x.place 0) rows → AllZip (λ r s. IsSetOf table.hierarchy (r.at ∷ []) s) rows (map (λ r. x.set 1) rows)
  item-sets [] h = tt
  item-sets (r ∷ rows) h = (subst (λ (at : Coord). IsSetOf table.hierarchy (at ∷ []) (x.set 1)) (sym h.0) ((d.grown 0).grown [] (All-nil _) d.empty), item-sets rows h.1)

  places-first : (n : ℕ) → ((r : ℕ) → r < n → x.place r ≡ x.place 0) → Each (λ r. r.at ≡ x.place 0) (first_rows table n)
  places-first zero one = tt
  places-first (suc n) one = each-append (λ r. r.at ≡ x.place 0) (first_rows table n) (table.row n ∷ []) (places-first n (λ r lt. one r (omega arith))) ((d.numbered n).1 ∙ one n (omega arith), tt)

  pub no-cut : (m : ℕ) → ((r : ℕ) → r < m → x.place r ≡ x.place 0) → IsUncut table m
  no-cut m one = record {
    sets = map (λ r. x.set 1) (first_rows table m);
    are_sets = item-sets (first_rows table m) (places-first m one);
    none = λ cut c good. c.level.differ (const-equal table.hierarchy (x.set 1) cut.dim cut.level (first_rows table m));
  }

  -- a spare is none of the sample's cells
  pub spare-ok : (n : ℕ) (f : Filled n) (s : Spare) → s.cell ≢ x.gate_cell → s.cell ≢ x.root → x.stamp ≢ s.stamp → IsSpare f.holds.shape (nodes (cells_at table x n n)) s
  spare-ok n f s sg sr st = record {
    cell = f.only s.cell sg sr;
    unexpected = λ y l i e. on_bool (eqb y x.gate_cell)
        (λ q. let z = eqb-true _ _ q in
        subst (Each (λ (v : Entry). v.stamp ≢ s.stamp)) (sym (ap (λ (u : ℕ). (nodes cells u).entries) z ∙ ap (λ (w : Node). w.entries) (node-gate cells))) (st, tt))
        (λ q. let yg = eqb-false _ _ q in on_bool (eqb y x.root)
        (λ q2. let u = ap f.holds.shape.level (eqb-true _ _ q2) in let v = (root-at table cells f.holds.shape f.holds.tree).1 in absurd (omega arith))
        (λ q2. let bad : true ≡ false = sym i ∙ f.only y yg (eqb-false _ _ q2) in cc));
  }
    where
      cells : TreeCells
      cells = cells_at table x n n

  module _ (m : ℕ) (is32 : m ≡ 32) (uncut : IsUncut table m) where
    abbrev before : TreeCells
    before = cells_at table x m m

    abbrev middle : TreeCells
    middle = halved_cells table x m (drop 16 (first_rows table m))

    abbrev after : TreeCells
    after = halved_cells table x m (drop 16 (first_rows table m) ++ table.row m ∷ [])

    abbrev n : ℕ
    n = x.spare.cell

    abbrev old : Block
    old = leaf_of x.stamp (first_rows table m)

    abbrev head_of : List Row → Block
    head_of rows = record { stamp = x.spare.stamp; right = Some x.spare.cell; body = Rows (record { items = rows }) }

    abbrev new : Block
    new = leaf_of x.stamp (take 16 (first_rows table m))

    abbrev one_spare : PurseValue
    one_spare = record { spares = x.spare ∷ []; room = 0 }

    abbrev divided : Entered
    divided = record { fresh = record { items = record { cell = x.spare.cell; block = leaf_of x.stamp (take 16 (first_rows table m)) } ∷ [] }; at = x.root }

    head-block : (rows : List Row) → (halved_cells table x m rows).block x.root ≡ head_of rows
    head-block rows = on x.root (head_of rows) (cond (eqb x.root n) new (leaf_of x.stamp []))

    new-block : (rows : List Row) → (halved_cells table x m rows).block n ≡ new
    new-block rows = off n x.root (head_of rows) (cond (eqb n n) new (leaf_of x.stamp [])) d.spare_root ∙ on n new (leaf_of x.stamp [])

    far-block : (rows : List Row) (y : ℕ) → y ≢ x.root → y ≢ n → (halved_cells table x m rows).block y ≡ leaf_of x.stamp []
    far-block rows y yr yn = off y x.root (head_of rows) (cond (eqb y n) new (leaf_of x.stamp [])) yr ∙ off y n new (leaf_of x.stamp []) yn

    f : Filled m
    f = fill m (omega arith)

    abbrev b : HoldsFirst table before m
    b = f.holds

    abbrev g : Shape
    g = b.shape

    -- the root is its whole group, so nothing is behind it
    abbrev tail : List ℕ
    tail = take 2 (drop 1 (g.group x.root))

    halves : Halves table.hierarchy (table.row m) (map before.block tail) (root_entry (gate_after table x m)) (root_entry (gate_after table x (suc m))) old (head_of (drop 16 (first_rows table m))) one_spare empty_purse divided
    halves = record {
      full = (let z = length-first table m in eq-eqb _ _ (omega arith));
      why = inl (refl, uncut);
      spare = x.spare;
      purse_is = refl;
      new = new;
      halved = record { head_is = refl; new_is = refl };
      entry_is = with-row m;
      fresh = refl;
      at = refl;
    }

    step : Enters table.hierarchy (table.row m) (map before.block tail) (gate_after table x m) (gate_after table x (suc m)) (before.block x.root) (middle.block x.root) one_spare empty_purse divided
    step = subst (λ (u : Block). Enters table.hierarchy (table.row m) (map before.block tail) (gate_after table x m) (gate_after table x (suc m)) u (middle.block x.root) one_spare empty_purse divided) (sym (root-block m m))
        (subst (λ (u : Block). Enters table.hierarchy (table.row m) (map before.block tail) (gate_after table x m) (gate_after table x (suc m)) old u one_spare empty_purse divided) (sym (head-block (drop 16 (first_rows table m))))
        (record { step = inr (inl (root_entry (gate_after table x (suc m)), record { gate_is = refl }, halves)) }))

    came : AfterStep table g m x.root 1 before middle (x.spare ∷ []) []
    came = goes-in table g m before middle one_spare empty_purse divided b.tree (record {
      gate_now = gate_after table x (suc m);
      tail = tail;
      new = on_bool (g.placed m) (λ p. let z = b.known m p in absurd (omega arith)) (λ p. p);
      numbered = (d.numbered m).0;
      valid = (d.numbered m).2;
      behind = λ full. refl;
      step = step;
      idle = λ q p c e. (let z : true ≡ false = sym c ∙ b.settled q p in cc);
      spares = (spare-ok m f x.spare d.spare_gate d.spare_root d.spare_stamp, tt, tt);
      filled = (new-block (drop 16 (first_rows table m)), tt);
      other = λ y yr fr. far-block (drop 16 (first_rows table m)) y yr fr.0 ∙ sym (other-block m m y yr);
      gate_cell = refl;
      gate = record { root = refl; height = refl };
    })

    put-in : AfterPut table came.shape m middle after
    put-in = after-put table came.shape m middle after came.tree (record {
      leaf = x.root;
      placed = came.row.placed;
      carried = came.row.carried;
      at = came.row.at;
      kind = ap (λ (z : Block). is_leaf z.body) (head-block (drop 16 (first_rows table m)));
      stamp = ap (λ (z : Block). z.stamp) (head-block (drop 16 (first_rows table m) ++ table.row m ∷ [])) ∙ sym (ap (λ (z : Block). z.stamp) (head-block (drop 16 (first_rows table m))));
      right = ap (λ (z : Block). z.right) (head-block (drop 16 (first_rows table m) ++ table.row m ∷ [])) ∙ sym (ap (λ (z : Block). z.right) (head-block (drop 16 (first_rows table m))));
      body = ap (λ (z : Block). z.body) (head-block (drop 16 (first_rows table m) ++ table.row m ∷ [])) ∙ ap (λ (z : Block). let rows : List Row = rows_in z.body ++ table.row m ∷ [] in Rows (record { items = rows })) (sym (head-block (drop 16 (first_rows table m))));
      other = λ y q. on_bool (eqb y n)
          (λ z. let e = eqb-true _ _ z in rw e (new-block (drop 16 (first_rows table m) ++ table.row m ∷ []) ∙ sym (new-block (drop 16 (first_rows table m)))))
          (λ z. let yn = eqb-false _ _ z in far-block (drop 16 (first_rows table m) ++ table.row m ∷ []) y q yn ∙ sym (far-block (drop 16 (first_rows table m)) y q yn));
      gate_cell = refl;
      gate = record { root = refl; height = refl };
    })

    all-there : (r : ℕ) → r < suc m → put-in.shape.placed r ≡ true
    all-there r lr = on_bool (eqb r m)
        (λ z. put-in.placed r ∙ ap came.shape.placed (eqb-true _ _ z) ∙ came.row.placed)
        (λ z. let ne = eqb-false _ _ z in put-in.placed r ∙ came.row.others_placed r ne ∙ b.there r (omega arith))

    all-settled : (r : ℕ) → put-in.shape.placed r ≡ true → put-in.shape.carried r ≡ false
    all-settled r pr = on_bool (eqb r m)
        (λ z. ap put-in.shape.carried (eqb-true _ _ z) ∙ put-in.settled)
        (λ z. let ne = eqb-false _ _ z in put-in.carried r ne ∙ came.row.others_carried r ne ∙ b.settled r (sym (came.row.others_placed r ne) ∙ sym (put-in.placed r) ∙ pr))

    pub halved : HoldsFirst table after (suc m)
    halved = record {
      shape = put-in.shape;
      tree = put-in.tree;
      known = λ r pr. on_bool (eqb r m)
          (λ z. let e = eqb-true _ _ z in omega arith)
          (λ z. let k = b.known r (sym (came.row.others_placed r (eqb-false _ _ z)) ∙ sym (put-in.placed r) ∙ pr) in omega arith);
      there = all-there;
      settled = all-settled;
    }

    -- a spare that isn't used stays one
    pub halved-spares : (s : Spare) → s.cell ≢ x.gate_cell → s.cell ≢ x.root → s.cell ≢ x.spare.cell → x.stamp ≢ s.stamp → s.stamp ≢ x.spare.stamp → IsSpare halved.shape (nodes after) s
    unfolding halved
    halved-spares s sg sr sc st ss = put-in.spares s (came.spares s (subst (Each (AreApart s)) came.purse_is ((sc, ss), tt)) (spare-ok m f s sg sr st))

    -- a query that noted the root before

    module _ (must : ℕ → Bool) (f2 : List Pick) (a : AsksAtGate table x m must f2) where
      abbrev fit : ℕ → Bool
      fit = fits table f2

      abbrev first : Item
      first = record { cell = x.root; stamp = x.stamp }

      abbrev second : Item
      second = record { cell = x.spare.cell; stamp = x.stamp }

      no-rows_queued : (r : ℕ) → times r (numbers x.gate.queue.rows) ≡ 0
      no-rows_queued r = ap (λ xs. times r (numbers xs)) a.empty

      begun : AfterBegin table before g must f2 []
      begun = after-begin table before g must f2 [] b.tree (record {
        asked = a.asked;
        queue = a.queue;
        rows = rw a.empty tt;
        once = λ r. let z = no-rows_queued r in omega arith;
        apart = λ r p. let z = no-rows_queued r in omega arith;
        fitting = λ r h. absurd (omega arith);
      })

      at-root : root_items table.hierarchy f2 (gate_after table x m) ≡ first ∷ []
      at-root = rw a.noted refl

      unseen : times m begun.now ≡ 0
      unseen = on_bool (leb 1 (times m begun.now))
          (λ q. elim (begun.known m (leb-true _ _ q)) [
            | inl z ↦ (let y = no-rows_queued m in absurd (omega arith))
            | inr z ↦ (let y = b.known m z in absurd (omega arith))
          ])
          (λ q. let y = leb-false _ _ q in omega arith)

      used-one : came.used ≡ x.spare ∷ []
      used-one = sym came.purse_is

      waiting : IsUnfinished put-in.shape (nodes after) must fit (first ∷ []) begun.now
      waiting =
          let none : Each (λ (s : Spare). NoneWaits s.stamp (first ∷ [])) came.used = subst (Each (λ (s : Spare). NoneWaits s.stamp (first ∷ []))) (sym used-one) ((d.spare_stamp, tt), tt) in
          put-in.queries must fit (first ∷ []) begun.now
          (came.queries must fit (first ∷ []) begun.now none (λ z. (unseen, a.later))
          (subst (λ items. IsUnfinished g (nodes before) must fit items begun.now) at-root begun.unfinished))

      nobody : (c : ℕ) → IsIdle put-in.shape c
      nobody c q p ca e = let z : true ≡ false = sym ca ∙ all-settled q p in cc

      here : AfterVisit table after put-in.shape must f2 [] first begun.now waiting.noted
      here = after-visit table after put-in.shape must f2 [] first begun.now put-in.tree (record { asked = a.asked; unfinished = waiting; block = d.root; idle = nobody x.root })

      to-right : [] ++ noted_in table.hierarchy f2 (after.block x.root).body ++ noted_right (after.block x.root) x.stamp ≡ [] ++ second ∷ []
      to-right = ap (λ (u : Block). [] ++ noted_in table.hierarchy f2 u.body ++ noted_right u x.stamp) (head-block (drop 16 (first_rows table m) ++ table.row m ∷ []))
          ∙ (rw (ne_eqb x.spare.stamp x.stamp (λ e. d.spare_stamp (sym e))) refl)

      waiting-right : IsUnfinished put-in.shape (nodes after) must fit ([] ++ second ∷ []) here.now
      waiting-right = subst (λ items. IsUnfinished put-in.shape (nodes after) must fit items here.now) to-right here.unfinished

      there : AfterVisit table after put-in.shape must f2 [] second here.now waiting-right.noted
      there = after-visit table after put-in.shape must f2 [] second here.now put-in.tree (record {
        asked = a.asked;
        unfinished = waiting-right;
        block = d.spare_gate;
        idle = nobody n;
      })

      to-end : [] ++ noted_in table.hierarchy f2 (after.block n).body ++ noted_right (after.block n) x.stamp ≡ []
      to-end = ap (λ (u : Block). [] ++ noted_in table.hierarchy f2 u.body ++ noted_right u x.stamp) (new-block (drop 16 (first_rows table m) ++ table.row m ∷ []))
          ∙ (rw (eq-eqb x.stamp x.stamp refl) refl)

      pub answered : IsAnswered table m must f2
      answered =
          let all = after-all put-in.shape (nodes after) must fit there.now (subst (λ items. IsUnfinished put-in.shape (nodes after) must fit items there.now) to-end there.unfinished) in
          record {
            counted = there.now;
            once = all.once;
            fitting = all.fitting;
            whole = λ r lt mu ft. all.whole r (all-there r (omega arith)) mu ft;
          }

  pub works : Works table x
  works = record { filled = λ n le. (fill n le).holds; one_place = λ one m. no-cut m (λ r lt. one r); halved = halved; answered = answered }
