-- A job is given up, and its cells are free again: those of the purse, and those that were meant for new blocks.
use Rattle.std.proofs.{Common.{◌≡◌, ◌≢◌, ℕ, ◌+◌, ◌^◌, ◌<◌, ◌≤◌, Bool, true, false, cond, eqb, List, [], ◌∷◌, ◌++◌, Option, refl, sym, ap, ◌∙◌, subst, arith, append-nil}, lemmas.Bool.{eqb-true, eqb-false, ne_eqb}}
use Rattle.cell_stock.specs.{Stock.{IsStock, PurseValue, StockValue, Gives, cells_of}, declared.purse.Spare.Spare}
use Rattle.dc_node.specs.declared.todo.Item.{Item}
use Rattle.list_words.specs.Counts.{Each, times}
use Rattle.list_words.proofs.{Each.{each-map, each-left}, Times.{times-append, all-times, distinct-times}, Truth.on_bool}
use Rattle.core_tree.specs.tree_shape.specs.{Queries.NoneWaits, Shape.nodes, Steps.{AreApart, AreSpares}}
use Rattle.core_tree.specs.volap_cell.specs.{Ghost.{AGate, Ghost, InJob, InPurse, InTree, NotOfStock, Owner, Unused, is_in_job, is_in_purse, is_in_tree, is_unused}, Invariant.InvWith, Setting.Setting, Stocking.{LeavesStamp, Stamping, Stocking, all_items, all_spares, cells_at, items_of_job, items_of_read, spent_of}, Values.JobValue, View.View}
use Rattle.core_tree.proofs.Stocks.Spares.{other-purse}

-- the cells of these spares are free again
pub record Returns (before now : StockValue) (spares : List Spare) : Type 0 where
  pub counts : (y : ℕ) → times y now.free ≡ times y before.free + times y (cells_of spares)
  pub stamps : now.stamps ≡ before.stamps
  pub ids : now.ids ≡ before.ids
  pub all : now.cells ≡ before.cells

pub cells-append : (y : ℕ) (xs ys : List Spare) → times y (cells_of (xs ++ ys)) ≡ times y (cells_of xs) + times y (cells_of ys)
cells-append y [] ys = omega arith
cells-append y (x ∷ xs) ys = (let k = cells-append y xs ys in omega (arith, k))

-- two purses go back one after the other
pub gives-returns : (stock between now : StockValue) (purse emptied spent spent_now : PurseValue) → Gives stock between purse emptied → Gives between now spent spent_now → Returns stock now (purse.spares ++ spent.spares)
gives-returns stock between now purse emptied spent spent_now first second = record {
  counts = λ y.
      let one = ap (times y) first.cells ∙ times-append y stock.free (cells_of purse.spares) in
      let two = ap (times y) second.cells ∙ times-append y between.free (cells_of spent.spares) in
      let both = cells-append y purse.spares spent.spares in
      omega (arith, one, two, both);
  stamps = second.stamps ∙ first.stamps;
  ids = second.ids ∙ first.ids;
  all = second.all ∙ first.all;
}

-- Owners.

abbrev pub returned : ℕ → Owner → Owner
returned n (InPurse a) = cond (eqb a n) Unused (InPurse a)
returned n (InJob a) = cond (eqb a n) Unused (InJob a)
returned n NotOfStock = NotOfStock
returned n Unused = Unused
returned n AGate = AGate
returned n (InTree c) = InTree c

abbrev pub one : Bool → ℕ
one b = cond b 1 0

-- a cell has one use
pub one-use : (n : ℕ) (o : Owner) → one (is_unused o) + one (is_in_purse n o) + one (is_in_job n o) ≤ 1
one-use n NotOfStock = omega arith
one-use n Unused = omega arith
one-use n AGate = omega arith
one-use n (InTree c) = omega arith
one-use n (InPurse a) = on_bool (eqb a n) (λ q. rw q (omega arith)) (λ q. rw q (omega arith))
one-use n (InJob a) = on_bool (eqb a n) (λ q. rw q (omega arith)) (λ q. rw q (omega arith))

unused-now : (n : ℕ) (o : Owner) → one (is_unused (returned n o)) ≡ one (is_unused o) + one (is_in_purse n o) + one (is_in_job n o)
unused-now n NotOfStock = refl
unused-now n Unused = refl
unused-now n AGate = refl
unused-now n (InTree c) = refl
unused-now n (InPurse a) = on_bool (eqb a n) (λ q. rw q refl) (λ q. rw q refl)
unused-now n (InJob a) = on_bool (eqb a n) (λ q. rw q refl) (λ q. rw q refl)

-- what tells none of the three is as before
other-now : (n : ℕ) (f : Owner → Bool) → f Unused ≡ false → f (InPurse n) ≡ false → f (InJob n) ≡ false → (o : Owner) → f (returned n o) ≡ f o
other-now n f u p j NotOfStock = refl
other-now n f u p j Unused = refl
other-now n f u p j AGate = refl
other-now n f u p j (InTree c) = refl
other-now n f u p j (InPurse a) = on_bool (eqb a n)
    (λ q. ap (λ (b : Bool). f (cond b Unused (InPurse a))) q ∙ u ∙ sym (ap (λ (z : ℕ). f (InPurse z)) (eqb-true a n q) ∙ p))
    (λ q. ap (λ (b : Bool). f (cond b Unused (InPurse a))) q)
other-now n f u p j (InJob a) = on_bool (eqb a n)
    (λ q. ap (λ (b : Bool). f (cond b Unused (InJob a))) q ∙ u ∙ sym (ap (λ (z : ℕ). f (InJob z)) (eqb-true a n q) ∙ j))
    (λ q. ap (λ (b : Bool). f (cond b Unused (InJob a))) q)

none-in-purse : (n : ℕ) (o : Owner) → is_in_purse n (returned n o) ≡ false
none-in-purse n NotOfStock = refl
none-in-purse n Unused = refl
none-in-purse n AGate = refl
none-in-purse n (InTree c) = refl
none-in-purse n (InPurse a) = on_bool (eqb a n) (λ q. ap (λ (b : Bool). is_in_purse n (cond b Unused (InPurse a))) q) (λ q. ap (λ (b : Bool). is_in_purse n (cond b Unused (InPurse a))) q ∙ q)
none-in-purse n (InJob a) = on_bool (eqb a n) (λ q. ap (λ (b : Bool). is_in_purse n (cond b Unused (InJob a))) q) (λ q. ap (λ (b : Bool). is_in_purse n (cond b Unused (InJob a))) q)

none-in-job : (n : ℕ) (o : Owner) → is_in_job n (returned n o) ≡ false
none-in-job n NotOfStock = refl
none-in-job n Unused = refl
none-in-job n AGate = refl
none-in-job n (InTree c) = refl
none-in-job n (InPurse a) = on_bool (eqb a n) (λ q. ap (λ (b : Bool). is_in_job n (cond b Unused (InPurse a))) q) (λ q. ap (λ (b : Bool). is_in_job n (cond b Unused (InPurse a))) q)
none-in-job n (InJob a) = on_bool (eqb a n) (λ q. ap (λ (b : Bool). is_in_job n (cond b Unused (InJob a))) q) (λ q. ap (λ (b : Bool). is_in_job n (cond b Unused (InJob a))) q ∙ q)

was-so : (n : ℕ) (o z : Owner) → z ≢ Unused → returned n o ≡ z → o ≡ z
was-so n NotOfStock z ne e = e
was-so n Unused z ne e = e
was-so n AGate z ne e = e
was-so n (InTree c) z ne e = e
was-so n (InPurse a) z ne e = on_bool (eqb a n)
    (λ q. absurd (ne (sym (sym (ap (λ (b : Bool). cond b Unused (InPurse a)) q) ∙ e))))
    (λ q. sym (ap (λ (b : Bool). cond b Unused (InPurse a)) q) ∙ e)
was-so n (InJob a) z ne e = on_bool (eqb a n)
    (λ q. absurd (ne (sym (sym (ap (λ (b : Bool). cond b Unused (InJob a)) q) ∙ e))))
    (λ q. sym (ap (λ (b : Bool). cond b Unused (InJob a)) q) ∙ e)

module _ (s : Setting) (v : View) (g : Ghost) (i : InvWith s v g) (n : ℕ) (now : StockValue) (x : Returns v.stock now (v.purses n ++ spent_of (v.jobs n))) (purses_now : ℕ → List Spare) (jobs_now : ℕ → Option JobValue)
    (mine : purses_now n ≡ []) (off : (a : ℕ) → a ≢ n → purses_now a ≡ v.purses a) (spent : spent_of (jobs_now n) ≡ []) (noted : items_of_job (jobs_now n) ≡ []) (jobs_off : (a : ℕ) → a ≢ n → jobs_now a ≡ v.jobs a) where
  abbrev pub owner_now : ℕ → Owner
  owner_now y = returned n (g.owner y)

  uses : (y : ℕ) → times y now.free ≡ one (is_unused (owner_now y))
  uses y =
      let free = i.stocking.unused y in
      let purse = i.stocking.purse n y in
      let job = i.stocking.job n y in
      let counts = x.counts y in
      let all = unused-now n (g.owner y) in
      let both = cells-append y (v.purses n) (spent_of (v.jobs n)) in
      omega (arith, free, purse, job, counts, all, both)

  few : (b : Bool) → one b ≤ 1
  few true = omega arith
  few false = omega arith

  stock-valid : IsStock now
  stock-valid = record {
    known = all-times (λ y. y < now.cells) now.free (λ y some.
        let of_stock : g.owner y ≢ NotOfStock = (λ e. let none : one (is_unused (owner_now y)) ≡ 0 = ap (λ (o : Owner). one (is_unused (returned n o))) e in let k = uses y in absurd (omega (arith, none, k, some))) in
        let lt = (i.stocking.within y of_stock).1 in
        let a = x.all in let b = i.stocking.count in omega (arith, lt, a, b));
    once = distinct-times now.free (λ y. let k = uses y in let l = few (is_unused (owner_now y)) in omega (arith, k, l));
    stamps = subst (λ (m : ℕ). m < 2 ^ 63) (sym x.stamps) i.stocking.valid.stamps;
    ids = subst (λ (m : ℕ). m < 2 ^ 32) (sym x.ids) i.stocking.valid.ids;
  }

  pub returned-stocking : Stocking s now v.made v.gates v.phases v.pins v.gone purses_now jobs_now owner_now g.shape
  returned-stocking =
      let k = i.stocking in record {
        valid = stock-valid;
        count = x.all ∙ k.count;
        within = λ y ne. k.within y (λ e. ne (ap (returned n) e));
        every = λ y high low no. k.every y high low (was-so n (g.owner y) NotOfStock (λ e. cc) no);
        unused = uses;
        purse = λ a y. on_bool (eqb a n)
            (λ q. let e = eqb-true a n q in
            subst (λ (z : ℕ). times y (cells_of (purses_now z)) ≡ one (is_in_purse z (owner_now y))) (sym e) (ap (λ (ss : List Spare). times y (cells_of ss)) mine ∙ sym (ap one (none-in-purse n (g.owner y)))))
            (λ q. let ne = eqb-false a n q in
            ap (λ (ss : List Spare). times y (cells_of ss)) (off a ne) ∙ k.purse a y ∙ sym (ap one (other-now n (is_in_purse a) refl (other-purse a n ne) refl (g.owner y))));
        job = λ a y. on_bool (eqb a n)
            (λ q. let e = eqb-true a n q in
            subst (λ (z : ℕ). times y (cells_of (spent_of (jobs_now z))) ≡ one (is_in_job z (owner_now y))) (sym e) (ap (λ (ss : List Spare). times y (cells_of ss)) spent ∙ sym (ap one (none-in-job n (g.owner y)))))
            (λ q. let ne = eqb-false a n q in
            ap (λ (j : Option JobValue). times y (cells_of (spent_of j))) (jobs_off a ne) ∙ k.job a y ∙ sym (ap one (other-now n (is_in_job a) refl refl (ne_eqb n a (λ e. ne (sym e))) (g.owner y))));
        gate = λ c is. ap (returned n) (k.gate c is);
        gate_back = λ c own. k.gate_back c (was-so n (g.owner c) AGate (λ e. cc) own);
        tree = λ c y whole yi yc. let o = k.tree c y whole yi yc in (ap (returned n) o.0, o.1);
        tree_back = λ c y own. k.tree_back c y (was-so n (g.owner y) (InTree c) (λ e. cc) own);
        gone_cells = λ c gone y. k.gone_cells c gone y ∙ sym (ap one (other-now n (is_in_tree c) refl refl refl (g.owner y)));
        none_gone = k.none_gone;
      }

  -- Stamps: the actor has no spare any more, and nothing is noted for its job.

  spares-of : (P : ℕ → List Spare → Type 0) → P n [] → ((a : ℕ) → a ≢ n → P a (all_spares v.purses v.jobs a)) → (a : ℕ) → P a (all_spares purses_now jobs_now a)
  spares-of P none old a = on_bool (eqb a n)
      (λ q. let e = eqb-true a n q in
      subst (λ (z : ℕ). P z (all_spares purses_now jobs_now z)) (sym e) (subst (P n) (sym (ap (λ (ss : List Spare). ss ++ spent_of (jobs_now n)) mine ∙ spent)) none))
      (λ q. let ne = eqb-false a n q in
      subst (λ (ss : List Spare). P a (ss ++ spent_of (jobs_now a))) (sym (off a ne)) (subst (λ (j : Option JobValue). P a (v.purses a ++ spent_of j)) (sym (jobs_off a ne)) (old a ne)))

  -- of all that was noted a part is left
  items-left : (stamp b : ℕ) → NoneWaits stamp (all_items v.reads v.jobs b) → NoneWaits stamp (all_items v.reads jobs_now b)
  items-left stamp b none = on_bool (eqb b n)
      (λ q. let e = eqb-true b n q in
      let now_is : all_items v.reads jobs_now b ≡ items_of_read (v.reads b) = ap (λ (j : Option JobValue). items_of_read (v.reads b) ++ items_of_job j) (ap jobs_now e) ∙ ap (λ (xs : List Item). items_of_read (v.reads b) ++ xs) noted ∙ append-nil (items_of_read (v.reads b)) in
      subst (NoneWaits stamp) (sym now_is) (each-left (λ (z : Item). z.stamp ≢ stamp) (items_of_read (v.reads b)) (items_of_job (v.jobs b)) none))
      (λ q. subst (λ (j : Option JobValue). NoneWaits stamp (items_of_read (v.reads b) ++ items_of_job j)) (sym (jobs_off b (eqb-false b n q))) none)

  pub returned-stamping : Stamping now v.blocks v.made v.trees v.gates v.phases v.pins purses_now v.reads jobs_now g.shape
  returned-stamping =
      let k = i.stamping in record {
        blocks_given = λ y made. subst (λ (m : ℕ). (v.blocks y).stamp < m) (sym x.stamps) (k.blocks_given y made);
        blocks_apart = k.blocks_apart;
        unspared = λ a y made. spares-of (λ a ss. Each (LeavesStamp y (v.blocks y).stamp) ss) tt (λ a ne. k.unspared a y made) a;
        given = spares-of (λ a ss. Each (λ (y : Spare). y.stamp < now.stamps) ss) tt (λ a ne. subst (λ (m : ℕ). Each (λ (y : Spare). y.stamp < m) (all_spares v.purses v.jobs a)) (sym x.stamps) (k.given a));
        apart = λ a b ne. spares-of (λ a ss. a ≢ b → Each (λ (y : Spare). Each (AreApart y) (all_spares purses_now jobs_now b)) ss)
            (λ no. tt)
            (λ a na no. spares-of (λ b ss. a ≢ b → Each (λ (y : Spare). Each (AreApart y) ss) (all_spares v.purses v.jobs a))
            (λ no. each-map (λ (y : Spare). y.stamp < v.stock.stamps) (λ (y : Spare). Each (AreApart y) []) (all_spares v.purses v.jobs a) (λ y lt. tt) (k.given a)) (λ b nb no. k.apart a b no) b no)
            a ne;
        spare = λ a c whole. spares-of (λ a ss. AreSpares (g.shape c) (nodes (cells_at v.blocks v.trees c)) ss) tt (λ a ne. k.spare a c whole) a;
        waits = λ a b. spares-of (λ a ss. Each (λ (y : Spare). NoneWaits y.stamp (all_items v.reads jobs_now b)) ss) tt
            (λ a ne. each-map (λ (y : Spare). NoneWaits y.stamp (all_items v.reads v.jobs b)) (λ (y : Spare). NoneWaits y.stamp (all_items v.reads jobs_now b)) (all_spares v.purses v.jobs a) (λ y none. items-left y.stamp b none) (k.waits a b)) a;
        fresh = λ c stamp whole le. k.fresh c stamp whole (subst (λ (m : ℕ). m ≤ stamp) x.stamps le);
        fresh_waits = λ b stamp le. items-left stamp b (k.fresh_waits b stamp (subst (λ (m : ℕ). m ≤ stamp) x.stamps le));
      }
