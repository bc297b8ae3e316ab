-- A query begins at a gate, in the words of the calls' contracts
use Rattle.std.proofs.{Common.{◌≡◌, ℕ, ◌+◌, ◌-◌, ◌≤◌, inl, inr, Bool, true, false, eqb, leb, List, [], ◌∷◌, ◌++◌, map, refl, sym, ap, ◌∙◌, subst, arith}, lemmas.Bool.{eqb-true, eqb-false, leb-true, leb-false}, lemmas.List.append-nil}
use Rattle.dim_hierarchy.specs.{Dimension.Dimension, Filter.matches, declared.filter.Pick.Pick, declared.row.Row.Row}
use Rattle.measure_agg.specs.{Aggregate.agg, Joining.join}
use Rattle.describing_set.specs.Filter.{is_inside, overlaps}
use Rattle.dc_node.specs.{Summary.{IsSummaryOf, joined, aggs}, declared.entry.Entry.Entry}
use Rattle.link_descent.specs.shard_store.specs.Gate.{root_entry}
use Rattle.link_descent.specs.{GateRead.queue_part, Visit.{matching, taken, noted}}
use Rattle.list_words.specs.Counts.{Each, times}
use Rattle.list_words.proofs.{Times.{same_is, same_not, times-append}, Truth.on_bool}
use Rattle.tree_shape.specs.{Queries.{QueryOk, fits, items_of}, Shape.{Node, Shape, Table, TreeCells, nodes, numbers}, Steps.{AfterBegin, BeginsQuery}, Trees.{DirOk, IsTree}, Walks.{IsNoted, Noted}}
use Rattle.tree_shape.proofs.{Cutting.Relations.{IsSumOf, Verdict, fitting, notes, takes}, Down.Rows.query-begins, Reading.Readings.{judge, judged-all, notes-are, takes-are, fitting-are, inside-fits, apart-unfit, items-append, agg-both, fitting-few}, Reading.Visits.{unplaced, query-visit_dir, times-fitting, times-unfitting}, Whole.Assembled.node-gate, Whole.Sums.rows-named}

fits-there : (fit : ℕ → Bool) (r : ℕ) (ns : List ℕ) → 1 ≤ times r (fitting fit ns) → fit r ≡ true
fits-there fit r ns h = on_bool (fit r) (λ q. q) (λ q. let e = times-unfitting fit r ns q in absurd (omega arith))

all-match : (h : List Dimension) (f : List Pick) (rows : List Row) → Each (λ r. matches h f r.at ≡ true) rows → matching h f rows ≡ rows
all-match h f [] w = refl
all-match h f (r ∷ rows) w = let ih = all-match h f rows w.1 in rw (w.0) (ap (λ xs. r ∷ xs) ih)

none-match : (h : List Dimension) (f : List Pick) (rows : List Row) → Each (λ r. matches h f r.at ≡ false) rows → matching h f rows ≡ []
none-match h f [] w = refl
none-match h f (r ∷ rows) w = rw (w.0) (none-match h f rows w.1)

-- what holds of each number of a list, of rows with these numbers
each-number : (table : Table) (f : List Pick) (v : Bool) (rows : List Row) → Each (λ r. table.row r.no ≡ r) rows → ((n : ℕ) → 1 ≤ times n (numbers rows) → fits table f n ≡ v) → Each (λ r. matches table.hierarchy f r.at ≡ v) rows
each-number table f v [] named h = tt
each-number table f v (r ∷ rows) named h =
    let o = same_is r.no r.no refl in (
      ap (λ (x : Row). matches table.hierarchy f x.at) (sym named.0) ∙ h r.no (omega arith),
      each-number table f v rows named.1 (λ n k. h n (omega arith)),
    )

module _ (table : Table) (cells : TreeCells) (g : Shape) (must : ℕ → Bool) (f : List Pick) (counted : List ℕ) (tree : IsTree table cells g) (d : BeginsQuery table cells g f counted) where
  abbrev look : ℕ → Node
  look = nodes cells

  abbrev fit : ℕ → Bool
  fit = fits table f

  abbrev gate : ℕ
  gate = cells.gate_cell

  abbrev rows : List Row
  rows = cells.gate.queue.rows

  abbrev queue_entry : Entry
  queue_entry = record { child = 0; stamp = 0; agg = cells.gate.queue.agg; set = cells.gate.queue.set }

  queue_sum : IsSumOf table (numbers rows) queue_entry
  queue_sum = subst (λ xs. IsSummaryOf table.hierarchy xs cells.gate.queue.agg cells.gate.queue.set) (sym (rows-named table rows d.rows)) d.queue.summary

  abbrev queued : List ℕ
  queued = fitting fit (numbers rows)

  abbrev first : List ℕ
  first = queued ++ counted

  read_agg : agg (map table.row queued) ≡ agg (matching table.hierarchy f rows)
  read_agg = ap agg (fitting-are table f rows d.rows)

  queue_is : queue_part table.hierarchy f cells.gate.queue ≡ agg (matching table.hierarchy f rows)
  queue_is = on_bool (is_inside table.hierarchy cells.gate.queue.set f)
      (λ q. rw q (d.queue.summary.agg ∙ ap agg (sym (all-match table.hierarchy f rows (each-number table f true rows d.rows (inside-fits table f d.asked queue_entry (numbers rows) queue_sum q))))))
      (λ q. on_bool (overlaps table.hierarchy cells.gate.queue.set f)
      (λ o. rw (q, o) refl)
      (λ o. rw (q, o) (ap agg (sym (none-match table.hierarchy f rows (each-number table f false rows d.rows (apart-unfit table f d.asked queue_entry (numbers rows) queue_sum o)))))))

  -- the gate is what is noted first
  abbrev way_in : Noted
  way_in = record { cell = cells.gate_cell; stamp = 0; level = cells.gate.height; walk = cells.gate_cell ∷ [] }

  on-way : (y : ℕ) → 1 ≤ times y (gate ∷ []) → y ≡ gate
  on-way y h = on_bool (eqb y gate) (λ q. eqb-true _ _ q) (λ q. let z = same_not y gate (eqb-false _ _ q) in absurd (omega arith))

  way-noted : IsNoted g look way_in
  way-noted = record {
    walks = ([], refl, ap (λ (x : Node). x.stamp) (node-gate cells));
    low = (let hh = tree.height in omega arith);
    cells = λ y h. let e = on-way y h in rw e (tree.top, tree.level);
  }

  begun : QueryOk g look must fit (way_in ∷ []) first
  begun = query-begins g look must fit way_in first tree.tree.shape way-noted (let hh = tree.height in omega arith)
      (λ y i l. let e = tree.only y i l in let o = same_is y gate e in omega arith)
      (λ r. let a = fitting-few fit r (numbers rows) in let b = d.once r in let c = times-append r queued counted in omega arith)
      (λ r h. on_bool (leb 1 (times r queued))
      (λ q. fits-there fit r (numbers rows) (leb-true _ _ q))
      (λ q. let z = leb-false _ _ q in let c = times-append r queued counted in d.fitting r (omega arith)))
      (λ r p. let a = fitting-few fit r (numbers rows) in let b = d.apart r p in let c = times-append r queued counted in omega arith)

  abbrev l : ℕ
  l = cells.gate.height - 1

  up : cells.gate.height ≡ l + 1
  up = let s = tree.some in omega arith

  abbrev v : Entry → Verdict
  v = judge table.hierarchy f

  es : (look gate).entries ≡ root_entry cells.gate ∷ []
  es = ap (λ (x : Node). x.entries) (node-gate cells)

  dir : DirOk g look table gate l
  dir = tree.tree.dirs gate l tree.top (tree.level ∙ up)

  read : QueryOk g look must fit (notes g l v (look gate).entries ++ ([] ++ [])) (takes g v (look gate).entries ++ first)
  read = query-visit_dir g look table must fit v gate l way_in [] [] first tree.tree.shape dir tree.top (tree.level ∙ up) (λ r p c e. tree.entered r p e) refl up (judged-all g look table f l (look gate).entries d.asked dir.entries) begun

  pub after-begin : AfterBegin table cells g must f counted
  after-begin = record {
    now = takes g v (look gate).entries ++ first;
    unfinished = record {
      noted = notes g l v (look gate).entries ++ ([] ++ []);
      are = items-append (notes g l v (look gate).entries) [] ∙ append-nil (items_of (notes g l v (look gate).entries)) ∙ notes-are g table f l (look gate).entries ∙ ap (noted table.hierarchy f) es;
      ok = read;
    };
    total = agg-both table (takes g v (look gate).entries) first
        ∙ ap (λ x. join x (agg (map table.row (takes g v (look gate).entries)))) (agg-both table queued counted ∙ ap (join (agg (map table.row counted))) (read_agg ∙ sym queue_is))
        ∙ ap (join (join (agg (map table.row counted)) (queue_part table.hierarchy f cells.gate.queue))) (takes-are g look table f l (look gate).entries dir.entries ∙ ap (λ xs. joined (aggs (taken table.hierarchy f xs))) es);
    kept = λ r h.
        let a = times-append r (takes g v (look gate).entries) first in
        let c = times-append r queued counted in
        let o = read.distinct r in
        omega arith;
    queue = λ r h q.
        let a = times-append r (takes g v (look gate).entries) first in
        let b = times-fitting fit r (numbers rows) q in
        let c = times-append r queued counted in
        let o = read.distinct r in
        omega arith;
    known = λ r h. on_bool (g.placed r)
        (λ pr. inr pr)
        (λ pr.
        let z = unplaced g look table fit v gate l (look gate).entries r dir.entries pr in
        let a = times-append r (takes g v (look gate).entries) first in
        let c = times-append r queued counted in
        let b = fitting-few fit r (numbers rows) in
        inl (omega arith));
  }
