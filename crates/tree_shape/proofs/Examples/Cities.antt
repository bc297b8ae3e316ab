-- A leaf of two cities is cut in two under a new root, row by row through the laws
use Rattle.std.proofs.{Common.{◌≡◌, ◌≢◌, ℕ, ◌<◌, ◌≤◌, inl, inr, true, false, eqb, leb, List, [], ◌∷◌, ◌++◌, map, take, drop, refl, sym, ap, ◌∙◌, subst, arith, lit<}, lemmas.Bool.{eqb-true, eqb-false, ne_eqb, leb-true, leb-false}, lemmas.List.Elements.{All-nil, All-cons}, lemmas.List.Sorted.IsPermutation-refl}
use Rattle.std.specs.{List.range_with_len, Prelude.{ℤ, pos}}
use Rattle.dim_hierarchy.specs.{Dimension.tree, Filter.{IsPickOf, pick_at}, Tree.{IsConcept, is_under, way_up}}
use Rattle.describing_set.specs.Sets.{GrowsBy}
use Rattle.dc_node.specs.{Entry.IsWithRow, declared.block.Block.Block, declared.todo.Item.Item}
use Rattle.cell_stock.specs.{Stock.PurseValue, declared.purse.Spare.Spare}
use Rattle.link_descent.specs.shard_store.specs.Gate.{IsQueueOf, root_entry}
use Rattle.link_descent.specs.{Descend.{Cuts, CutsRoot}, GateRead.root_items, Visit.is_noted, declared.entered.Entered.Entered}
use Rattle.list_words.specs.Counts.{Each, times}
use Rattle.list_words.proofs.Truth.{on_bool}
use Rattle.tree_shape.specs.{Cities.{CitiesLaw, CitiesWork, IsHalvedExample, berlin, cities, coord_of, cut_cells, earlier, for_munich, full, gate_now, later, left_entry, left_rows, left_with, munich, must_hold, right_entry, rows_from, sample, set_of, settled, table_with, top}, Collecting.AfterRead, Example.{HoldsFirst, IsAnswered, IsSample, gate_after}, Queries.{IsUnfinished, NoneWaits, fits}, Shape.{Shape, TreeCells, nodes, numbers}, Steps.{AfterBegin, AfterPut, AfterStep, AfterVisit, IsAsked, IsIdle}, Trees.IsTree}
use Rattle.tree_shape.proofs.{Down.ComesIn.goes-in, Down.Descends.goes-down, Down.Puts.after-put, Down.Rows.after-all, Examples.CityFacts.{are-row_sets, berlin-valid, cut_sets, each-numbered, empty-set, few16, few31, first-city, good_cut, grown-set, hierarchy-valid, is-good, is-sample, munich-valid, one-valid, place-valid, rows-set, second-city, some16, some31, uncut, valid-set}, Examples.Steps.{Filled, fill, spare-ok}, Reading.Beginnings.after-begin, Reading.Collects.{after-read, collect-begins, collect-ends}, Reading.Readings.after-visit, Whole.Tables.{query-alike, tree-alike}}

pub real_sample : IsSample earlier (sample 16)
real_sample = is-sample 16 some16 few16 (pos 0)

-- one row more of Berlin, in a set that has Berlin
berlin-grown : GrowsBy cities (coord_of berlin) (set_of (berlin ∷ [])) (set_of (berlin ∷ []))
berlin-grown = grown-set 16 some16 few16 1

-- What the query asks for.

asked : (turn : ℕ) (measures : ℤ) → IsAsked (table_with turn measures) for_munich
asked turn measures = record {
  filter = record {
    hierarchy = hierarchy-valid;
    count = refl;
    picks = λ dim lt. (let z : dim ≡ 0 = omega arith in subst (λ d. IsPickOf (tree cities d) (pick_at for_munich d)) (sym z)
        ((λ e. cc), All-cons (IsConcept (tree cities 0)) munich [] (record { level = lit< tt; number = lit< tt }) (All-nil _)));
  };
  dims = lit< tt;
}

pub no-queue : IsQueueOf cities (sample 16).gate.queue
no-queue = record {
  summary = record { valid = All-nil _; agg = refl; set_of = empty-set };
  valid = valid-set 16 some16 few16 0;
}

-- The leaf without a good cut.

notes-both : is_noted cities for_munich (root_entry (gate_after (table_with 31 (pos 0)) (sample 31) 32)) ≡ true
unfolding is_under way_up
notes-both = refl

pub halved-example : IsHalvedExample (table_with 31 (pos 0)) (sample 31)
halved-example = record {
  places = is-sample 31 some31 few31 (pos 0);
  uncut = uncut;
  asks = record { asked = asked 31 (pos 0); queue = no-queue; empty = refl; noted = notes-both; later = refl };
}

-- The cut of the full leaf.

abbrev spares : PurseValue
spares = record { spares = top ∷ (sample 16).spare ∷ []; room = 0 }

abbrev one_spare : PurseValue
one_spare = record { spares = top ∷ []; room = 0 }

abbrev no_spare : PurseValue
no_spare = record { spares = []; room = 0 }

abbrev entered_cut : Entered
entered_cut = record {
  fresh = record { items = record { cell = 2; block = (cut_cells (rows_from 0 16) left_entry).block 2 } ∷ record { cell = 3; block = (cut_cells (rows_from 0 16) left_entry).block 3 } ∷ [] };
  at = 3;
}

abbrev at_root : Entered
at_root = record { fresh = record { items = [] }; at = 1 }

-- the cells: before, with the row at the new root, and with the row at the left leaf
abbrev cut_root : TreeCells
cut_root = cut_cells (rows_from 0 16) left_entry

abbrev cut_left : TreeCells
cut_left = cut_cells (rows_from 0 16) left_with

-- the root is its whole group, whatever is looked at behind it
cuts : (tail : List Block) → Cuts cities tail (root_entry (gate_after earlier (sample 16) 32)) left_entry right_entry (full.block 1) (cut_root.block 1) spares one_spare (sample 16).spare (cut_root.block 2)
cuts tail = record {
  full = refl;
  purse_is = refl;
  behind = [];
  cut = inl (
    refl,
    record {
      sets = cut_sets 16;
      are_sets = are-row_sets 16 some16 few16 (pos 0) (range_with_len 0 32);
      cut = good_cut;
      good = is-good;
      order = IsPermutation-refl (range_with_len 0 32);
      head_is = refl;
      new_is = refl;
    },
    refl,
  );
  left_is = record { child = refl; stamp = refl; summary = (refl, rows-set berlin refl berlin-valid refl refl (earlier.row 0) (rows_from 1 15) (each-numbered (λ r. r.at ≡ coord_of berlin) earlier.row 0 16 (λ r le lt. ap coord_of (first-city 16 some16 few16 r (omega arith))))); valid = one-valid 16 some16 few16 0 };
  right_is = record { child = refl; stamp = refl; summary = (refl, rows-set munich refl munich-valid refl refl (earlier.row 16) (rows_from 17 15) (each-numbered (λ r. r.at ≡ coord_of munich) earlier.row 16 16 (λ r le lt. ap coord_of (second-city 16 some16 few16 r le (omega arith))))); valid = one-valid 16 some16 few16 16 };
}

root-with : IsWithRow cities (later.row 32) (root_entry (gate_after earlier (sample 16) 32)) (record { child = 1; stamp = 0; agg = gate_now.agg; set = gate_now.set })
root-with = record { child = refl; stamp = refl; agg = refl; grown = grown-set 16 some16 few16 32; valid = valid-set 16 some16 few16 33 }

cuts-root : (tail : List Block) → CutsRoot cities (later.row 32) tail (gate_after earlier (sample 16) 32) gate_now (full.block 1) (cut_root.block 1) spares no_spare entered_cut
cuts-root tail = record {
  spare = (sample 16).spare;
  new = cut_root.block 2;
  left = left_entry;
  right = right_entry;
  between = one_spare;
  cuts = cuts tail;
  top = top;
  purse_is = refl;
  fresh = refl;
  entry_now = record { child = 1; stamp = 0; agg = gate_now.agg; set = gate_now.set };
  entry_is = root-with;
  gate_is = refl;
  at = refl;
}

module _ (f : Filled earlier (sample 16) real_sample 32) where
  abbrev g : Shape
  g = f.holds.shape

  -- row 32 begins
  same-row : (r : ℕ) → r < 32 → later.row r ≡ earlier.row r
  same-row r lt = rw (ne_eqb r 32 (omega arith)) refl

  begun : IsTree later full g
  begun = tree-alike earlier later g (record { hierarchy = refl; row = λ r p. same-row r (f.holds.known r p) }) full f.holds.tree

  begun-holds : HoldsFirst later full 32
  begun-holds = record { shape = g; tree = begun; known = f.holds.known; there = f.holds.there; settled = f.holds.settled }

  idle-before : (c : ℕ) → IsIdle g c
  idle-before c q p ca e = let z : true ≡ false = sym ca ∙ f.holds.settled q p in cc

  came : AfterStep later g 32 3 2 full cut_root (top ∷ (sample 16).spare ∷ []) []
  came = goes-in later g 32 full cut_root spares no_spare entered_cut begun (record {
    gate_now = gate_now;
    tail = take 2 (drop 1 (g.group 1));
    new = on_bool (g.placed 32) (λ p. let z = f.holds.known 32 p in absurd (omega arith)) (λ p. p);
    numbered = refl;
    valid = place-valid 16 some16 few16 32;
    behind = λ full. refl;
    step = record { step = inr (inr (cuts-root (map full.block (take 2 (drop 1 (g.group 1)))))) };
    idle = idle-before 1;
    spares = (
      spare-ok earlier (sample 16) real_sample 32 f top (eqb-false 3 0 refl) (eqb-false 3 1 refl) (eqb-false 0 2 refl),
      ((eqb-false 3 2 refl, eqb-false 2 1 refl), tt),
      (spare-ok earlier (sample 16) real_sample 32 f (sample 16).spare (eqb-false 2 0 refl) (eqb-false 2 1 refl) (eqb-false 0 1 refl), tt, tt),
    );
    filled = (refl, (refl, tt));
    other = λ y y1 fr. rw (ne_eqb y 1 y1, ne_eqb y 2 fr.0, ne_eqb y 3 fr.1.0) refl;
    gate_cell = refl;
    gate = record { root = refl; height = refl };
  })

  -- another row isn't carried
  still : (q : ℕ) → came.shape.placed q ≡ true → q ≢ 32 → came.shape.carried q ≡ false
  still q p ne = came.row.others_carried q ne ∙ f.holds.settled q (sym (came.row.others_placed q ne) ∙ p)

  went : AfterStep later came.shape 32 1 (came.shape.level (came.shape.at 32)) cut_root cut_left [] []
  went = goes-down later came.shape 32 cut_root cut_left no_spare no_spare at_root came.tree (record {
    parent = 3;
    place = 0;
    entry = left_entry;
    tail = [];
    placed = came.row.placed;
    carried = came.row.carried;
    at = came.row.at;
    entry_at = refl;
    behind = λ full. cc;
    step = record {
      entry = left_entry;
      entry_at = refl;
      step = inl (
        left_with,
        record { parent_is = refl },
        record {
          room = refl;
          entry_is = record { child = refl; stamp = refl; agg = refl; grown = berlin-grown; valid = one-valid 16 some16 few16 0 };
          head_is = refl;
          purse_is = refl;
          fresh = refl;
          at = refl;
        },
      );
    };
    idle = λ q p ca e. on_bool (eqb q 32)
        (λ z. let a : came.shape.at q ≡ 3 = ap came.shape.at (eqb-true _ _ z) ∙ came.row.at in eqb-false 1 3 refl (sym e ∙ a))
        (λ z. let bad : true ≡ false = sym ca ∙ still q p (eqb-false _ _ z) in cc);
    spares = tt;
    filled = tt;
    other = λ y y3 y1 fr. rw (ne_eqb y 1 y1, ne_eqb y 3 y3) refl;
    gate_cell = refl;
    gate = record { root = refl; height = refl };
  })

  put-in : AfterPut later went.shape 32 cut_left settled
  put-in = after-put later went.shape 32 cut_left settled went.tree (record {
    leaf = 1;
    placed = went.row.placed;
    carried = went.row.carried;
    at = went.row.at;
    kind = refl;
    stamp = refl;
    right = refl;
    body = refl;
    other = λ y y1. rw (ne_eqb y 1 y1) refl;
    gate_cell = refl;
    gate = record { root = refl; height = refl };
  })

  placed-as : (q : ℕ) → q ≢ 32 → put-in.shape.placed q ≡ g.placed q
  placed-as q ne = put-in.placed q ∙ went.row.others_placed q ne ∙ came.row.others_placed q ne

  all-there : (q : ℕ) → q < 33 → put-in.shape.placed q ≡ true
  all-there q lt = on_bool (eqb q 32)
      (λ z. put-in.placed q ∙ ap went.shape.placed (eqb-true _ _ z) ∙ went.row.placed)
      (λ z. let ne = eqb-false _ _ z in placed-as q ne ∙ f.holds.there q (omega arith))

  all-settled : (q : ℕ) → put-in.shape.placed q ≡ true → put-in.shape.carried q ≡ false
  all-settled q p = on_bool (eqb q 32)
      (λ z. ap put-in.shape.carried (eqb-true _ _ z) ∙ put-in.settled)
      (λ z. let ne = eqb-false _ _ z in put-in.carried q ne ∙ went.row.others_carried q ne ∙ still q (sym (went.row.others_placed q ne) ∙ sym (put-in.placed q) ∙ p) ne)

  all-known : (q : ℕ) → put-in.shape.placed q ≡ true → q < 33
  all-known q p = on_bool (eqb q 32)
      (λ z. let e = eqb-true _ _ z in omega arith)
      (λ z. let k = f.holds.known q (sym (placed-as q (eqb-false _ _ z)) ∙ p) in omega arith)

  idle-after : (c : ℕ) → IsIdle put-in.shape c
  idle-after c q p ca e = let z : true ≡ false = sym ca ∙ all-settled q p in cc

  -- A query for Munich.

  abbrev first : Item
  first = record { cell = 1; stamp = 0 }

  abbrev second : Item
  second = record { cell = 2; stamp = 0 }

  asks : AfterBegin earlier full g must_hold for_munich []
  asks = after-begin earlier full g must_hold for_munich [] f.holds.tree (record {
    asked = asked 16 (pos 0);
    queue = no-queue;
    rows = tt;
    once = λ r. omega arith;
    apart = λ r p. omega arith;
    fitting = λ r h. absurd (omega arith);
  })

  notes-root : root_items cities for_munich (gate_after earlier (sample 16) 32) ≡ first ∷ []
  unfolding is_under way_up
  notes-root = refl

  asks-first : IsUnfinished g (nodes full) must_hold (fits earlier for_munich) (first ∷ []) asks.now
  asks-first = subst (λ items. IsUnfinished g (nodes full) must_hold (fits earlier for_munich) items asks.now) notes-root asks.unfinished

  in-tree : (r : ℕ) → 1 ≤ times r asks.now → g.placed r ≡ true
  in-tree r h = elim (asks.known r h) [ inl z ↦ absurd (omega arith) | inr z ↦ z ]

  -- row 32 begins, comes in, goes down and is put
  still-right : IsUnfinished put-in.shape (nodes settled) must_hold (fits later for_munich) (first ∷ []) asks.now
  still-right =
      let t = query-alike earlier later g (nodes full) must_hold for_munich (first ∷ []) asks.now (record {
        hierarchy = refl;
        row = λ r h. same-row r (f.holds.known r (elim h [ inl p ↦ p | inr c ↦ in-tree r c ]));
      }) asks-first in
      let waits : Each (λ (s : Spare). NoneWaits s.stamp (first ∷ [])) (top ∷ (sample 16).spare ∷ []) = ((eqb-false 0 2 refl, tt), ((eqb-false 0 1 refl, tt), tt)) in
      let unseen : times 32 asks.now ≡ 0 = on_bool (leb 1 (times 32 asks.now))
      (λ q. let k = f.holds.known 32 (in-tree 32 (leb-true _ _ q)) in absurd (omega arith))
      (λ q. let k = leb-false _ _ q in omega arith) in
      let u = came.queries must_hold (fits later for_munich) (first ∷ []) asks.now (subst (Each (λ (s : Spare). NoneWaits s.stamp (first ∷ []))) came.purse_is waits) (λ z. (unseen, refl)) t.unfinished in
      let none : went.used ≡ [] = sym went.purse_is in
      put-in.queries must_hold (fits later for_munich) (first ∷ []) asks.now
      (went.queries must_hold (fits later for_munich) (first ∷ []) asks.now (subst (Each (λ (s : Spare). NoneWaits s.stamp (first ∷ []))) (sym none) tt) (λ z. (let bad : true ≡ false = sym came.row.placed ∙ z in cc)) u)

  here : AfterVisit later settled put-in.shape must_hold for_munich [] first asks.now still-right.noted
  here = after-visit later settled put-in.shape must_hold for_munich [] first asks.now put-in.tree (record { asked = asked 16 (pos 7); unfinished = still-right; block = eqb-false 1 0 refl; idle = idle-after 1 })

  right : IsUnfinished put-in.shape (nodes settled) must_hold (fits later for_munich) (second ∷ []) here.now
  right = here.unfinished

  there : AfterVisit later settled put-in.shape must_hold for_munich [] second here.now right.noted
  there = after-visit later settled put-in.shape must_hold for_munich [] second here.now put-in.tree (record { asked = asked 16 (pos 7); unfinished = right; block = eqb-false 2 0 refl; idle = idle-after 2 })

  answered : IsAnswered later 32 must_hold for_munich
  answered =
      let all = after-all put-in.shape (nodes settled) must_hold (fits later for_munich) there.now there.unfinished in
      record {
        counted = there.now;
        once = all.once;
        fitting = all.fitting;
        whole = λ r lt mu ft. all.whole r (all-there r (omega arith)) mu ft;
      }

  -- The blocks one by one.

  abbrev left_item : Item
  left_item = record { cell = 1; stamp = 1 }

  at-top : AfterRead settled put-in.shape [] (record { cell = 3; stamp = 2 }) [] [] (collect-begins later settled put-in.shape put-in.tree).noted
  at-top = after-read later settled put-in.shape [] (record { cell = 3; stamp = 2 }) [] [] put-in.tree (record { collecting = collect-begins later settled put-in.shape put-in.tree; idle = idle-after 3 })

  at-munich : AfterRead settled put-in.shape (left_item ∷ []) second (3 ∷ []) [] at-top.collecting.noted
  at-munich = after-read later settled put-in.shape (left_item ∷ []) second (3 ∷ []) [] put-in.tree (record { collecting = at-top.collecting; idle = idle-after 2 })

  at-berlin : AfterRead settled put-in.shape [] left_item (3 ∷ 2 ∷ []) (numbers (rows_from 16 16)) at-munich.collecting.noted
  at-berlin = after-read later settled put-in.shape [] left_item (3 ∷ 2 ∷ []) (numbers (rows_from 16 16)) put-in.tree (record { collecting = at-munich.collecting; idle = idle-after 1 })

  pub cities-work : CitiesWork
  cities-work = record {
    filled = f.holds;
    begun = begun-holds;
    cut = record { shape = came.shape; tree = came.tree; placed = came.row.placed; carried = came.row.carried; at = came.row.at };
    down = record { shape = went.shape; tree = went.tree; placed = went.row.placed; carried = went.row.carried; at = went.row.at };
    put = record { shape = put-in.shape; tree = put-in.tree; known = all-known; there = all-there; settled = all-settled };
    answered = answered;
    collected = collect-ends later settled put-in.shape (3 ∷ 2 ∷ 1 ∷ []) (numbers (rows_from 16 16) ++ numbers left_rows) put-in.tree at-berlin.collecting;
  }

pub all-work : CitiesLaw
all-work = (halved-example, cities-work (fill earlier (sample 16) real_sample 32 (omega arith)))
