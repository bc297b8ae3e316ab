-- The worked example of a head cut, row by row through the laws
use Rattle.std.proofs.{Common.{◌≡◌, ◌≢◌, ℕ, zero, suc, ◌+◌, ◌≤◌, inl, inr, true, false, eqb, leb, List, [], ◌∷◌, ◌++◌, length, map, refl, sym, ap, ◌∙◌, subst, arith, lit<, lit≤}, lemmas.Bool.{eqb-true, eqb-false, ne_eqb, leb-true, leb-false}, lemmas.List.length-append, lemmas.List.Elements.{All-nil, All-cons}}
use Rattle.std.specs.List.{range_with_len}
use Rattle.dim_hierarchy.specs.{Dimension.tree, Filter.{IsPickOf, pick_at}, Tree.{IsConcept, climb, is_under, up, way_up}, declared.row.Row.Row}
use Rattle.dc_node.specs.{Entry.IsWithRow, declared.block.Block.Block, declared.todo.Item.Item}
use Rattle.cell_stock.specs.{Stock.PurseValue, declared.purse.Spare.Spare}
use Rattle.link_descent.specs.shard_store.specs.{Gate.root_entry, declared.gate.Gate.Gate}
use Rattle.link_descent.specs.{Descend.{Cuts, CutsRoot}, Divide.IsCutByHead, GateRead.root_items, declared.entered.Entered.Entered}
use Rattle.list_words.specs.Counts.{Each, times}
use Rattle.list_words.proofs.{Each.each-append, Truth.on_bool}
use Rattle.tree_shape.specs.{Cities.{berlin, cities, coord_of, munich}, Example.{HoldsFirst, IsAnswered, IsUncut, gate_after}, HeadCuts.{HeadCutWork, before_last, berlin_entry, cut_group, for_berlin, munich_entry, new_spare, top_spare, town_rows, town_sample, towns, two_blocks}, Queries.{IsUnfinished, NoneWaits, fits}, Shape.{Shape, TreeCells, nodes}, Steps.{AfterBegin, AfterStep, AfterVisit, IsAsked, IsIdle, IsSpare}, Trees.HasBehind}
use Rattle.tree_shape.proofs.{Down.ComesIn.goes-in, Down.Rows.after-all, Examples.Cities.no-queue, Examples.CityFacts.{berlin-valid, each-numbered, hierarchy-valid, munich-valid, rows-set}, Examples.HeadFacts.{are-sets, berlin-set, good-town_cut, in-berlin, in-munich, munich-set, real_towns, town-grown, town-sets, town-valid, town_cut, town_group}, Examples.Steps.{halved, halved-spares, next-row, no-cut}, Reading.Beginnings.after-begin, Reading.Readings.after-visit, Whole.Totals.root-behind}

-- Filling the head.

-- a tree of two blocks, in which later spares are none of its cells
record HasGroup (n : ℕ) (head : List Row) : Type 0 where
  holds : HoldsFirst towns (two_blocks n head) n
  spares : (s : Spare) → 3 ≤ s.cell → 2 ≤ s.stamp → IsSpare holds.shape (nodes (two_blocks n head)) s

uncut : IsUncut towns 32
uncut = no-cut towns town_sample real_towns 32 (λ r lt. ap coord_of (in-berlin r (omega arith)))

first-group : HasGroup 33 (town_rows 16 17)
first-group = record {
  holds = halved towns town_sample real_towns 32 refl uncut;
  spares = λ s c t. halved-spares towns town_sample real_towns 32 refl uncut s (λ e. absurd (omega arith)) (λ e. absurd (omega arith)) (λ e. absurd (omega arith)) (λ e. absurd (omega arith)) (λ e. absurd (omega arith));
}

-- so many rows more come to the head

abbrev number_after : ℕ → ℕ → ℕ
number_after zero n = n
number_after (suc k) n = number_after k (suc n)

abbrev head_after : ℕ → ℕ → List Row → List Row
head_after zero n head = head
head_after (suc k) n head = head_after k (suc n) (head ++ towns.row n ∷ [])

more : (k n : ℕ) (head : List Row) → length head + k ≤ 32 → HasGroup n head → HasGroup (number_after k n) (head_after k n head)
more zero n head few b = b
more (suc k) n head few b =
    let w = next-row towns town_sample real_towns n (two_blocks n head).block (two_blocks (suc n) (head ++ towns.row n ∷ [])).block b.holds refl (ne_eqb _ _ (omega arith)) refl refl refl (λ y y1. rw (ne_eqb y 1 y1) refl) in
    let l = length-append head (towns.row n ∷ []) in
    more k (suc n) (head ++ towns.row n ∷ []) (omega arith) (record { holds = w.holds; spares = λ s c t. w.spares s (b.spares s c t) })

full-group : HasGroup 48 (town_rows 16 32)
full-group = more 15 33 (town_rows 16 17) (let l : length (town_rows 16 17) ≡ 17 = refl in omega arith) first-group

-- The head cut.

abbrev before : TreeCells
before = two_blocks 48 (town_rows 16 32)

abbrev purse : PurseValue
purse = record { spares = top_spare ∷ new_spare ∷ []; room = 0 }

abbrev one_spare : PurseValue
one_spare = record { spares = top_spare ∷ []; room = 0 }

abbrev no_spare : PurseValue
no_spare = record { spares = []; room = 0 }

abbrev entered : Entered
entered = record { fresh = record { items = record { cell = 3; block = cut_group.block 3 } ∷ record { cell = 4; block = cut_group.block 4 } ∷ [] }; at = 4 }

-- what stands behind the head
abbrev tail : List Block
tail = map before.block (2 ∷ [])

abbrev gate_now : Gate
gate_now = cut_group.gate

by-head : IsCutByHead cities (before.block 1) tail 3 2 (cut_group.block 1) (cut_group.block 3)
unfolding up climb
by-head = record {
  items = town_group;
  are_sets = record { head = are-sets (range_with_len 16 32); others = are-sets (range_with_len 0 16) };
  cut = town_cut;
  good = good-town_cut;
  head_is = refl;
  new_is = refl;
}

of-berlin : (first n : ℕ) → first + n ≤ 33 → Each (λ r. r.at ≡ coord_of berlin) (map towns.row (range_with_len first n))
of-berlin first n le = each-numbered (λ r. r.at ≡ coord_of berlin) towns.row first n (λ r h lt. ap coord_of (in-berlin r (omega arith)))

cuts : Cuts cities tail (root_entry (gate_after towns town_sample 48)) munich_entry berlin_entry (before.block 1) (cut_group.block 1) purse one_spare new_spare (cut_group.block 3)
cuts = record {
  full = refl;
  purse_is = refl;
  behind = tail;
  cut = inr (eqb-false 1 0 refl, refl, by-head, refl);
  left_is = record {
    child = refl;
    stamp = refl;
    summary = (refl, rows-set munich refl munich-valid refl refl (towns.row 33) (town_rows 34 14) (each-numbered (λ r. r.at ≡ coord_of munich) towns.row 33 15 (λ r h lt. ap coord_of (in-munich r h))));
    valid = munich-set;
  };
  right_is = record {
    child = refl;
    stamp = refl;
    summary = (refl, rows-set berlin refl berlin-valid refl refl (towns.row 16) (town_rows 17 16 ++ town_rows 0 16) (each-append (λ r. r.at ≡ coord_of berlin) (town_rows 16 17) (town_rows 0 16) (of-berlin 16 17 (omega arith)) (of-berlin 0 16 (omega arith))));
    valid = berlin-set;
  };
}

with-row : IsWithRow cities (towns.row 48) (root_entry (gate_after towns town_sample 48)) (record { child = 1; stamp = 0; agg = gate_now.agg; set = gate_now.set })
with-row = record { child = refl; stamp = refl; agg = refl; grown = town-grown 48; valid = town-sets 49 }

cuts-root : CutsRoot cities (towns.row 48) tail (gate_after towns town_sample 48) gate_now (before.block 1) (cut_group.block 1) purse no_spare entered
cuts-root = record {
  spare = new_spare;
  new = cut_group.block 3;
  left = munich_entry;
  right = berlin_entry;
  between = one_spare;
  cuts = cuts;
  top = top_spare;
  purse_is = refl;
  fresh = refl;
  entry_now = record { child = 1; stamp = 0; agg = gate_now.agg; set = gate_now.set };
  entry_is = with-row;
  gate_is = refl;
  at = refl;
}

module _ (f : HasGroup 48 (town_rows 16 32)) where
  abbrev g : Shape
  g = f.holds.shape

  found : HasBehind before g (root_entry before.gate) 2
  found = root-behind towns before g 2 f.holds.tree

  came : AfterStep towns g 48 4 2 before cut_group (top_spare ∷ new_spare ∷ []) []
  came = goes-in towns g 48 before cut_group purse no_spare entered f.holds.tree (record {
    gate_now = gate_now;
    tail = 2 ∷ [];
    new = on_bool (g.placed 48) (λ p. let z = f.holds.known 48 p in absurd (omega arith)) (λ p. p);
    numbered = refl;
    valid = town-valid 48;
    behind = λ full. sym found.found;
    step = record { step = inr (inr cuts-root) };
    idle = λ q p c e. (let z : true ≡ false = sym c ∙ f.holds.settled q p in cc);
    spares = (f.spares top_spare (lit≤ tt) (lit≤ tt), ((eqb-false 4 3 refl, eqb-false 3 2 refl), tt), (f.spares new_spare (lit≤ tt) (lit≤ tt), tt, tt));
    filled = (refl, (refl, tt));
    other = λ y y1 fr. rw (ne_eqb y 1 y1, ne_eqb y 3 fr.0, ne_eqb y 4 fr.1.0) refl;
    gate_cell = refl;
    gate = record { root = refl; height = refl };
  })

  -- nobody carries a row but at the new root
  idle : (c : ℕ) → c ≢ 4 → IsIdle came.shape c
  idle c ne q p ca e = on_bool (eqb q 48)
      (λ z. ne (sym e ∙ ap came.shape.at (eqb-true _ _ z) ∙ came.row.at))
      (λ z. let n = eqb-false _ _ z in let bad : true ≡ false = sym ca ∙ came.row.others_carried q n ∙ f.holds.settled q (sym (came.row.others_placed q n) ∙ p) in cc)

  -- A query for Berlin that noted the root before.

  asked : IsAsked towns for_berlin
  asked = record {
    filter = record {
      hierarchy = hierarchy-valid;
      count = refl;
      picks = λ dim lt. (let z : dim ≡ 0 = omega arith in subst (λ d. IsPickOf (tree cities d) (pick_at for_berlin d)) (sym z)
          ((λ e. cc), All-cons (IsConcept (tree cities 0)) berlin [] (record { level = lit< tt; number = lit< tt }) (All-nil _)));
    };
    dims = lit< tt;
  }

  begun : AfterBegin towns before g before_last for_berlin []
  begun = after-begin towns before g before_last for_berlin [] f.holds.tree (record {
    asked = asked;
    queue = no-queue;
    rows = tt;
    once = λ r. omega arith;
    apart = λ r p. omega arith;
    fitting = λ r h. absurd (omega arith);
  })

  -- the head, the new block and the one behind it

  abbrev first : Item
  first = record { cell = 1; stamp = 0 }

  abbrev second : Item
  second = record { cell = 3; stamp = 0 }

  abbrev third : Item
  third = record { cell = 2; stamp = 0 }

  notes-root : root_items cities for_berlin (gate_after towns town_sample 48) ≡ first ∷ []
  unfolding is_under way_up
  notes-root = refl

  unseen : times 48 begun.now ≡ 0
  unseen = on_bool (leb 1 (times 48 begun.now))
      (λ q. elim (begun.known 48 (leb-true _ _ q)) [ inl z ↦ absurd (omega arith) | inr z ↦ (let y = f.holds.known 48 z in absurd (omega arith)) ])
      (λ q. let y = leb-false _ _ q in omega arith)

  still-right : IsUnfinished came.shape (nodes cut_group) before_last (fits towns for_berlin) (first ∷ []) begun.now
  still-right =
      let waits : Each (λ (s : Spare). NoneWaits s.stamp (first ∷ [])) (top_spare ∷ new_spare ∷ []) = ((eqb-false 0 3 refl, tt), ((eqb-false 0 2 refl, tt), tt)) in
      came.queries before_last (fits towns for_berlin) (first ∷ []) begun.now (subst (Each (λ (s : Spare). NoneWaits s.stamp (first ∷ []))) came.purse_is waits) (λ z. (unseen, refl))
      (subst (λ items. IsUnfinished g (nodes before) before_last (fits towns for_berlin) items begun.now) notes-root begun.unfinished)

  at-head : AfterVisit towns cut_group came.shape before_last for_berlin [] first begun.now still-right.noted
  at-head = after-visit towns cut_group came.shape before_last for_berlin [] first begun.now came.tree (record { asked = asked; unfinished = still-right; block = eqb-false 1 0 refl; idle = idle 1 (eqb-false 1 4 refl) })

  to-new : IsUnfinished came.shape (nodes cut_group) before_last (fits towns for_berlin) (second ∷ []) at-head.now
  to-new = at-head.unfinished

  at-new : AfterVisit towns cut_group came.shape before_last for_berlin [] second at-head.now to-new.noted
  at-new = after-visit towns cut_group came.shape before_last for_berlin [] second at-head.now came.tree (record { asked = asked; unfinished = to-new; block = eqb-false 3 0 refl; idle = idle 3 (eqb-false 3 4 refl) })

  to-last : IsUnfinished came.shape (nodes cut_group) before_last (fits towns for_berlin) (third ∷ []) at-new.now
  to-last = at-new.unfinished

  at-last : AfterVisit towns cut_group came.shape before_last for_berlin [] third at-new.now to-last.noted
  at-last = after-visit towns cut_group came.shape before_last for_berlin [] third at-new.now came.tree (record { asked = asked; unfinished = to-last; block = eqb-false 2 0 refl; idle = idle 2 (eqb-false 2 4 refl) })

  answered : IsAnswered towns 48 before_last for_berlin
  answered =
      let all = after-all came.shape (nodes cut_group) before_last (fits towns for_berlin) at-last.now at-last.unfinished in
      record {
        counted = at-last.now;
        once = all.once;
        fitting = all.fitting;
        whole = λ r lt mu ft. all.whole r (came.row.others_placed r (λ e. absurd (omega arith)) ∙ f.holds.there r lt) mu ft;
      }

  work : HeadCutWork
  work = record { filled = f.holds; cut = came; answered = answered }

pub head-cut_work : HeadCutWork
head-cut_work = work full-group
