-- An actor without a job gives its spares back, and takes others for them: each cell is free, or is in its purse, as often as before, and
-- what it takes has stamps that weren't given out. That keeps what the invariant says of cells and stamps.
use Rattle.std.proofs.{Common.{◌≡◌, ◌≢◌, ℕ, ◌+◌, ◌^◌, ◌<◌, ◌≤◌, Bool, false, cond, eqb, leb, List, [], ◌∷◌, ◌++◌, Option, Some, None, refl, sym, ap, ◌∙◌, subst, ◌⊎◌, inl, inr, arith, append-nil}, lemmas.Bool.{eqb-true, eqb-false, leb-false, leb-true}}
use Rattle.cell_stock.specs.{Stock.{AreOut, IsStock, StockValue, cells_of, stamps_of}, declared.purse.Spare.Spare}
use Rattle.list_words.specs.Counts.{Each, times}
use Rattle.list_words.proofs.{Each.{each-both, each-map, each-append, each-here}, Times.{times-append, same_is, all-times, distinct-times, each-differs}, Truth.on_bool}
use Rattle.volap_cell.specs.tree_shape.specs.{Queries.NoneWaits, Shape.nodes, Steps.{AreApart, AreSpares, IsSpare}}
use Rattle.volap_cell.specs.{Ghost.{AGate, Ghost, InJob, InPurse, InTree, NotOfStock, Owner, Unused, is_in_job, is_in_purse, is_in_tree, is_unused}, Invariant.InvWith, Lineage.Lineage, Numbering.Numbering, Owing.one_if, Setting.{Setting, actor_count, cell_count, first_stock_cell}, Stocking.{IsWhole, LeavesStamp, Stamping, Stocking, all_items, all_spares, cells_at, spent_of}, Values.JobValue, View.{View, view}, Working.{IsFrozenFor, Working, IsBuilding}, World.World, declared.role.Role.TheVariants.Admin}
use Rattle.volap_cell.proofs.{Cells.Blanks.spent-owner, Cells.Spares.among-cells}
use Rattle.core_tree.proofs.{Rows.Carriers.purse-owned, Stocks.Spares.{AreDistinct, each-cell, in-own, other-purse, owner-purse, spares-from}}

-- between a stock and a purse
pub record Exchanges (before now : StockValue) (purse purse_now : List Spare) : Type 0 where
  pub counts : (y : ℕ) → times y now.free + times y (cells_of purse_now) ≡ times y before.free + times y (cells_of purse)
  pub later : before.stamps ≤ now.stamps
  pub few : now.stamps < 2 ^ 63
  pub ids : now.ids ≡ before.ids
  pub all : now.cells ≡ before.cells
  pub given : Each (λ (x : Spare). (before.stamps ≤ x.stamp) × (x.stamp < now.stamps)) purse_now
  pub once : (stamp : ℕ) → times stamp (stamps_of purse_now) ≤ 1

-- spares of which no cell and no stamp is counted twice
pub distinct-spares : (xs : List Spare) → ((y : ℕ) → times y (cells_of xs) ≤ 1) → ((y : ℕ) → times y (stamps_of xs) ≤ 1) → AreDistinct xs
distinct-spares [] cells stamps = tt
distinct-spares (x ∷ xs) cells stamps = (
  each-both (λ (y : Spare). x.cell ≢ y.cell) (λ (y : Spare). x.stamp ≢ y.stamp) (AreApart x) xs (λ y p q. (p, q))
      (each-differs (λ (y : Spare). y.cell) x.cell xs (let k = cells x.cell in let s = same_is x.cell x.cell refl in omega arith))
      (each-differs (λ (y : Spare). y.stamp) x.stamp xs (let k = stamps x.stamp in let s = same_is x.stamp x.stamp refl in omega arith)),
  distinct-spares xs (λ y. let k = cells y in omega arith) (λ y. let k = stamps y in omega arith),
)

-- Owners.

-- a cell that isn't free and isn't in this purse is neither afterwards
abbrev pub exchanged_owner : List Spare → ℕ → (ℕ → Owner) → ℕ → Owner
exchanged_owner purse n owner y = cond (leb 1 (times y (cells_of purse))) (InPurse n) (cond (is_in_purse n (owner y)) Unused (owner y))

one-use : (n : ℕ) (o : Owner) → one_if (is_unused o) + one_if (is_in_purse n o) ≤ 1
one-use n NotOfStock = omega arith
one-use n Unused = omega arith
one-use n (InPurse a) = on_bool (eqb a n) (λ q. (rw q (omega arith))) (λ q. (rw q (omega arith)))
one-use n AGate = omega arith
one-use n (InTree c) = omega arith
one-use n (InJob a) = omega arith

-- a cell that was free, or in the purse
abbrev pub WasSpare : ℕ → Owner → Type 0
WasSpare n o = (o ≡ Unused) ⊎ (o ≡ InPurse n)

was-spare : (n : ℕ) (o : Owner) → 1 ≤ one_if (is_unused o) + one_if (is_in_purse n o) → WasSpare n o
was-spare n NotOfStock le = absurd (omega arith)
was-spare n Unused le = inl refl
was-spare n (InPurse a) le = on_bool (eqb a n) (λ q. inr (ap InPurse (eqb-true _ _ q))) (λ q. let z : one_if (is_in_purse n (InPurse a)) ≡ 0 = ap one_if q in absurd (omega arith))
was-spare n AGate le = absurd (omega arith)
was-spare n (InTree c) le = absurd (omega arith)
was-spare n (InJob a) le = absurd (omega arith)

module _ (s : Setting) (w : World) (g : Ghost) (i : InvWith s (view s w) g) (n : ℕ) (now : StockValue) (purse : List Spare) (jobless : (view s w).jobs n ≡ None) (x : Exchanges (view s w).stock now ((view s w).purses n) purse) where
  abbrev v : View
  v = view s w

  abbrev owner_now : ℕ → Owner
  owner_now = exchanged_owner purse n g.owner

  -- a cell is free, or in the purse, but not both
  uses : (y : ℕ) → times y now.free + times y (cells_of purse) ≡ one_if (is_unused (g.owner y)) + one_if (is_in_purse n (g.owner y))
  uses y = (let k = x.counts y in let free = i.stocking.unused y in let mine = i.stocking.purse n y in omega arith)

  one : (y : ℕ) → times y now.free + times y (cells_of purse) ≤ 1
  one y = (let k = uses y in let l = one-use n (g.owner y) in omega arith)

  -- each cell of the new purse is in it; one that was in the old purse alone is free; each other one has the owner that it had
  on-owner : (P : Owner → Type 0) (y : ℕ) → (1 ≤ times y (cells_of purse) → WasSpare n (g.owner y) → P (InPurse n)) → (times y (cells_of purse) ≡ 0 → g.owner y ≡ InPurse n → P Unused)
      → (times y (cells_of purse) ≡ 0 → is_in_purse n (g.owner y) ≡ false → P (g.owner y)) → P (owner_now y)
  on-owner P y new free else_ = on_bool (leb 1 (times y (cells_of purse)))
      (λ q. subst (λ (b : Bool). P (cond b (InPurse n) (cond (is_in_purse n (g.owner y)) Unused (g.owner y)))) (sym q)
      (let le = leb-true 1 (times y (cells_of purse)) q in let k = uses y in new le (was-spare n (g.owner y) (omega arith))))
      (λ q. let gt = leb-false 1 (times y (cells_of purse)) q in
      let none : times y (cells_of purse) ≡ 0 = omega arith in
      subst (λ (b : Bool). P (cond b (InPurse n) (cond (is_in_purse n (g.owner y)) Unused (g.owner y)))) (sym q)
      (on_bool (is_in_purse n (g.owner y))
      (λ r. subst (λ (b : Bool). P (cond b Unused (g.owner y))) (sym r) (free none (owner-purse n (g.owner y) r)))
      (λ r. subst (λ (b : Bool). P (cond b Unused (g.owner y))) (sym r) (else_ none r))))

  -- what tells neither free cells nor this purse
  as-before : (f : Owner → Bool) → f Unused ≡ false → f (InPurse n) ≡ false → (y : ℕ) → f (owner_now y) ≡ f (g.owner y)
  as-before f a b y = on-owner (λ o. f o ≡ f (g.owner y)) y
      (λ le was. b ∙ elim was [ inl u ↦ sym (ap f u ∙ a) | inr p ↦ sym (ap f p ∙ b) ])
      (λ none p. a ∙ sym (ap f p ∙ b))
      (λ none off. refl)

  owner-kept : (y : ℕ) (o : Owner) → o ≢ Unused → o ≢ InPurse n → g.owner y ≡ o → owner_now y ≡ o
  owner-kept y o nu np is = on-owner (λ z. z ≡ o) y
      (λ le was. absurd (elim was [ inl u ↦ nu (sym is ∙ u) | inr p ↦ np (sym is ∙ p) ]))
      (λ none p. absurd (np (sym is ∙ p)))
      (λ none off. is)

  owner-was : (y : ℕ) (o : Owner) → o ≢ Unused → o ≢ InPurse n → owner_now y ≡ o → g.owner y ≡ o
  owner-was y o nu np = on-owner (λ z. z ≡ o → g.owner y ≡ o) y
      (λ le was e. absurd (np (sym e)))
      (λ none p e. absurd (nu (sym e)))
      (λ none off e. e)

  free-now : (y : ℕ) → times y now.free ≡ one_if (is_unused (owner_now y))
  free-now y =
      let k = uses y in let l = one y in
      on-owner (λ o. times y now.free ≡ one_if (is_unused o)) y
      (λ le was. omega arith)
      (λ none p. let a : one_if (is_unused (g.owner y)) ≡ 0 = ap (λ (o : Owner). one_if (is_unused o)) p in
      let b : one_if (is_in_purse n (g.owner y)) ≡ 1 = ap (λ (o : Owner). one_if (is_in_purse n o)) p ∙ in-own n in omega arith)
      (λ none off. let b : one_if (is_in_purse n (g.owner y)) ≡ 0 = ap one_if off in omega arith)

  purse-now : (y : ℕ) → times y (cells_of purse) ≡ one_if (is_in_purse n (owner_now y))
  purse-now y =
      let l = one y in
      on-owner (λ o. times y (cells_of purse) ≡ one_if (is_in_purse n o)) y
      (λ le was. let own = in-own n in omega arith)
      (λ none p. none)
      (λ none off. let b : one_if (is_in_purse n (g.owner y)) ≡ 0 = ap one_if off in omega arith)

  -- The stock.

  within : (y : ℕ) → g.owner y ≢ NotOfStock → (first_stock_cell s ≤ y) × (y < cell_count s)
  within = i.stocking.within

  spare-within : (y : ℕ) → WasSpare n (g.owner y) → (first_stock_cell s ≤ y) × (y < cell_count s)
  spare-within y was = i.stocking.within y (λ z. elim was [ inl u ↦ (let no : Unused ≡ NotOfStock = sym u ∙ z in cc) | inr p ↦ (let no : InPurse n ≡ NotOfStock = sym p ∙ z in cc) ])

  pub stock-valid : IsStock now
  stock-valid = record {
    known = all-times (λ y. y < now.cells) now.free (λ y some.
        let k = uses y in
        let lt = (spare-within y (was-spare n (g.owner y) (omega arith))).1 in
        let a = x.all in let b = i.stocking.count in omega arith);
    once = distinct-times now.free (λ y. let k = one y in omega arith);
    stamps = x.few;
    ids = subst (λ (m : ℕ). m < 2 ^ 32) (sym x.ids) i.stocking.valid.ids;
  }

  -- by the actor

  module _ (purses_now : ℕ → List Spare) (mine : purses_now n ≡ purse) (off : (a : ℕ) → a ≢ n → purses_now a ≡ v.purses a) where
    pub exchanged-stocking : Stocking s now v.made v.gates v.phases v.pins v.gone purses_now v.jobs owner_now g.shape
    exchanged-stocking =
        let k = i.stocking in record {
          valid = stock-valid;
          count = x.all ∙ k.count;
          within = λ y ne. on-owner (λ o. o ≢ NotOfStock → (first_stock_cell s ≤ y) × (y < cell_count s)) y (λ le was e. spare-within y was) (λ none p e. spare-within y (inr p)) (λ none r e. within y e) ne;
          every = λ y high low no. k.every y high low (owner-was y NotOfStock (λ e. cc) (λ e. cc) no);
          unused = free-now;
          purse = λ a y. on_bool (eqb a n)
              (λ q. let e = eqb-true _ _ q in
              subst (λ (z : ℕ). times y (cells_of (purses_now z)) ≡ cond (is_in_purse z (owner_now y)) 1 0) (sym e) (ap (λ (ss : List Spare). times y (cells_of ss)) mine ∙ purse-now y))
              (λ q. let ne = eqb-false _ _ q in
              ap (λ (ss : List Spare). times y (cells_of ss)) (off a ne) ∙ k.purse a y ∙ ap one_if (sym (as-before (is_in_purse a) refl (other-purse a n ne) y)));
          job = λ a y. k.job a y ∙ ap one_if (sym (as-before (is_in_job a) refl refl y));
          gate = λ c is. owner-kept c AGate (λ e. cc) (λ e. cc) (k.gate c is);
          gate_back = λ c own. k.gate_back c (owner-was c AGate (λ e. cc) (λ e. cc) own);
          tree = λ c y whole yi yc. let o = k.tree c y whole yi yc in (owner-kept y (InTree c) (λ e. cc) (λ e. cc) o.0, o.1);
          tree_back = λ c y own. k.tree_back c y (owner-was y (InTree c) (λ e. cc) (λ e. cc) own);
          gone_cells = λ c gone y. k.gone_cells c gone y ∙ ap one_if (sym (as-before (is_in_tree c) refl refl y));
          none_gone = k.none_gone;
        }

    -- Stamps.

    -- the spares of the actor, which has no job, and those of others
    spares-of : (P : ℕ → List Spare → Type 0) → P n purse → ((a : ℕ) → a ≢ n → P a (all_spares v.purses v.jobs a)) → (a : ℕ) → P a (all_spares purses_now v.jobs a)
    spares-of P new old a = on_bool (eqb a n)
        (λ q. subst (λ (z : ℕ). P z (all_spares purses_now v.jobs z)) (sym (eqb-true _ _ q))
        (subst (λ (ss : List Spare). P n (ss ++ spent_of (v.jobs n))) (sym mine) (subst (λ (job : Option JobValue). P n (purse ++ spent_of job)) (sym jobless) (subst (P n) (sym (append-nil purse)) new))))
        (λ q. let ne = eqb-false _ _ q in subst (λ (ss : List Spare). P a (ss ++ spent_of (v.jobs a))) (sym (off a ne)) (old a ne))

    distinct-now : AreDistinct purse
    distinct-now = distinct-spares purse (λ y. let k = one y in omega arith) x.once

    -- the cells of the new purse were free, or in it
    cells-were : Each (λ (y : Spare). WasSpare n (g.owner y.cell)) purse
    cells-were = each-cell (λ y. WasSpare n (g.owner y)) purse (λ y le. let k = uses y in was-spare n (g.owner y) (omega arith))

    -- a spare of another actor is of its purse, or of its job
    abbrev IsOfOther : ℕ → Owner → Type 0
    IsOfOther a o = (o ≡ InPurse a) ⊎ (o ≡ InJob a)

    of-other : (a : ℕ) → Each (λ (y : Spare). IsOfOther a (g.owner y.cell)) (all_spares v.purses v.jobs a)
    of-other a = each-append (λ (y : Spare). IsOfOther a (g.owner y.cell)) (v.purses a) (spent_of (v.jobs a))
        (each-map (λ (y : Spare). g.owner y.cell ≡ InPurse a) (λ (y : Spare). IsOfOther a (g.owner y.cell)) (v.purses a) (λ y p. inl p) (purse-owned s v g i a))
        (each-here (λ (y : Spare). IsOfOther a (g.owner y.cell)) (spent_of (v.jobs a)) (λ y among. inr (spent-owner s w g i a y.cell (among-cells y (spent_of (v.jobs a)) among))))

    two-owners : (a : ℕ) (o : Owner) → a ≢ n → WasSpare n o → IsOfOther a o → ⊥
    two-owners a o ne was of = elim was [
      | inl u ↦ elim of [ inl p ↦ (let no : Unused ≡ InPurse a = sym u ∙ p in cc) | inr j ↦ (let no : Unused ≡ InJob a = sym u ∙ j in cc) ]
      | inr m ↦ elim of [ inl p ↦ (let no : InPurse n ≡ InPurse a = sym m ∙ p in ne cc) | inr j ↦ (let no : InPurse n ≡ InJob a = sym m ∙ j in cc) ]
    ]

    -- what the purse has now is apart from what others have
    apart-from : (a : ℕ) → a ≢ n → Each (λ (y : Spare). Each (AreApart y) (all_spares v.purses v.jobs a)) purse
    apart-from a ne = each-both (λ (y : Spare). WasSpare n (g.owner y.cell)) (λ (y : Spare). (v.stock.stamps ≤ y.stamp) × (y.stamp < now.stamps)) (λ (y : Spare). Each (AreApart y) (all_spares v.purses v.jobs a)) purse
        (λ y was fresh. each-both (λ (z : Spare). IsOfOther a (g.owner z.cell)) (λ (z : Spare). z.stamp < v.stock.stamps) (AreApart y) (all_spares v.purses v.jobs a)
        (λ z of given. ((λ e. two-owners a (g.owner z.cell) ne (subst (λ (c : ℕ). WasSpare n (g.owner c)) e was) of), (λ e. let le = fresh.0 in absurd (omega arith))))
        (of-other a) (i.stamping.given a))
        cells-were x.given

    flipped : (a : ℕ) → a ≢ n → Each (λ (z : Spare). Each (AreApart z) purse) (all_spares v.purses v.jobs a)
    flipped a ne = each-both (λ (z : Spare). IsOfOther a (g.owner z.cell)) (λ (z : Spare). z.stamp < v.stock.stamps) (λ (z : Spare). Each (AreApart z) purse) (all_spares v.purses v.jobs a)
        (λ z of given. each-both (λ (y : Spare). WasSpare n (g.owner y.cell)) (λ (y : Spare). (v.stock.stamps ≤ y.stamp) × (y.stamp < now.stamps)) (AreApart z) purse
        (λ y was fresh. ((λ e. two-owners a (g.owner z.cell) ne (subst (λ (c : ℕ). WasSpare n (g.owner c)) (sym e) was) of), (λ e. let le = fresh.0 in absurd (omega arith))))
        cells-were x.given)
        (of-other a) (i.stamping.given a)

    outside : (c y : ℕ) → IsWhole v.gates v.phases v.pins c → WasSpare n (g.owner y) → (g.shape c).inside y ≡ false
    outside c y whole was = on_bool ((g.shape c).inside y)
        (λ q. absurd (on_bool (eqb y c)
        (λ e. let own : g.owner y ≡ AGate = ap g.owner (eqb-true _ _ e) ∙ i.stocking.gate c whole.0 in
        elim was [ inl u ↦ (let no : Unused ≡ AGate = sym u ∙ own in cc) | inr p ↦ (let no : InPurse n ≡ AGate = sym p ∙ own in cc) ])
        (λ e. let own = (i.stocking.tree c y whole q (eqb-false _ _ e)).0 in
        elim was [ inl u ↦ (let no : Unused ≡ InTree c = sym u ∙ own in cc) | inr p ↦ (let no : InPurse n ≡ InTree c = sym p ∙ own in cc) ])))
        (λ q. q)

    pub exchanged-stamping : Stamping now v.blocks v.made v.trees v.gates v.phases v.pins purses_now v.reads v.jobs g.shape
    exchanged-stamping =
        let k = i.stamping in
        let later = x.later in record {
          blocks_given = λ y made. let lt = k.blocks_given y made in omega (arith, lt, later);
          blocks_apart = k.blocks_apart;
          unspared = λ a y made. spares-of (λ a ss. Each (LeavesStamp y (v.blocks y).stamp) ss)
              (each-map (λ (z : Spare). (v.stock.stamps ≤ z.stamp) × (z.stamp < now.stamps)) (LeavesStamp y (v.blocks y).stamp) purse (λ z fresh ne e. let lt = k.blocks_given y made in let le = fresh.0 in absurd (omega (arith, lt, le, e))) x.given)
              (λ a ne. k.unspared a y made) a;
          given = spares-of (λ a ss. Each (λ (y : Spare). y.stamp < now.stamps) ss)
              (each-map (λ (y : Spare). (v.stock.stamps ≤ y.stamp) × (y.stamp < now.stamps)) (λ (y : Spare). y.stamp < now.stamps) purse (λ y both. both.1) x.given)
              (λ a ne. each-map (λ (y : Spare). y.stamp < v.stock.stamps) (λ (y : Spare). y.stamp < now.stamps) (all_spares v.purses v.jobs a) (λ y lt. omega arith) (k.given a));
          apart = λ a b ne. spares-of (λ a ss. a ≢ b → Each (λ (y : Spare). Each (AreApart y) (all_spares purses_now v.jobs b)) ss)
              (λ ne. spares-of (λ b ss. n ≢ b → Each (λ (y : Spare). Each (AreApart y) ss) purse) (λ no. absurd (no refl)) (λ b nb no. apart-from b nb) b ne)
              (λ a na ne. spares-of (λ b ss. a ≢ b → Each (λ (y : Spare). Each (AreApart y) ss) (all_spares v.purses v.jobs a)) (λ no. flipped a na) (λ b nb no. k.apart a b no) b ne)
              a ne;
          spare = λ a c whole. spares-of (λ a ss. AreSpares (g.shape c) (nodes (cells_at v.blocks v.trees c)) ss)
              (spares-from (g.shape c) (nodes (cells_at v.blocks v.trees c)) purse
              (each-both (λ (y : Spare). WasSpare n (g.owner y.cell)) (λ (y : Spare). (v.stock.stamps ≤ y.stamp) × (y.stamp < now.stamps)) (IsSpare (g.shape c) (nodes (cells_at v.blocks v.trees c))) purse
              (λ y was fresh. record { cell = outside c y.cell whole was; unexpected = k.fresh c y.stamp whole fresh.0 }) cells-were x.given)
              distinct-now)
              (λ a ne. k.spare a c whole) a;
          waits = λ a b. spares-of (λ a ss. Each (λ (y : Spare). NoneWaits y.stamp (all_items v.reads v.jobs b)) ss)
              (each-map (λ (y : Spare). (v.stock.stamps ≤ y.stamp) × (y.stamp < now.stamps)) (λ (y : Spare). NoneWaits y.stamp (all_items v.reads v.jobs b)) purse (λ y both. k.fresh_waits b y.stamp both.0) x.given)
              (λ a ne. k.waits a b) a;
          fresh = λ c stamp whole le. k.fresh c stamp whole (omega arith);
          fresh_waits = λ b stamp le. k.fresh_waits b stamp (omega arith);
        }

    -- The rest.

    -- an administrator without a job gets no spares
    pub exchanged-numbering : n < actor_count s → (v.roles n ≡ Admin → purse ≡ []) → Numbering s v.tags v.numbers v.roles v.settings v.counted_in purses_now v.commands v.taken v.jobs
    exchanged-numbering few admin =
        let k = i.numbering in record {
          setting = k.setting;
          tag = k.tag;
          number = k.number;
          role = k.role;
          about = k.about;
          nobody = λ a past. let no = k.nobody a past in (no.0, off a (λ e. absurd (omega arith)) ∙ no.1, no.2, no.3, no.4);
          beyond = k.beyond;
          working = k.working;
          parts = k.parts;
          idle = λ a role none. on_bool (eqb a n)
              (λ q. let e = eqb-true a n q in ap purses_now e ∙ mine ∙ admin (ap v.roles (sym e) ∙ role))
              (λ q. off a (eqb-false a n q) ∙ k.idle a role none);
        }

    pub exchanged-lineage : Lineage s v.history now v.registry v.maps v.gates v.phases g.gate
    exchanged-lineage =
        let k = i.lineage in record {
          ids = x.ids ∙ k.ids;
          front = k.front;
          gate_of = k.gate_of;
          known = k.known;
          live = k.live;
          leads = k.leads;
          split = k.split;
          divided = k.divided;
          moved = k.moved;
          later = k.later;
          made = k.made;
        }

    pub exchanged-working : Working s v.history v.blocks v.made v.trees v.phases v.active v.queues purses_now v.commands v.jobs g.gate g.shape g.placed
    exchanged-working =
        let k = i.working in
        let other : (a : ℕ) (j : JobValue) → v.jobs a ≡ Some j → a ≢ n = λ a j is e. let no : Some j ≡ None = sym is ∙ ap v.jobs e ∙ jobless in cc in
        record {
          command = k.command;
          front = k.front;
          to = k.to;
          unspent = λ a j is st. off a (other a j is) ∙ k.unspent a j is st;
          declined = k.declined;
          frozen = λ a j f is st. subst (λ (ss : List Spare). IsFrozenFor s v.trees v.phases g.gate ss j f) (sym (off a (other a j is))) (k.frozen a j f is st);
          collected = k.collected;
          building = λ a j b is st. subst (λ (ss : List Spare). IsBuilding s v.history v.blocks v.made v.trees v.queues v.phases v.active g.shape ss b) (sym (off a (other a j is))) (k.building a j b is st);
        }

-- what is in a purse may go back
pub are-out : (s : Setting) (v : View) (g : Ghost) → InvWith s v g → (n : ℕ) → AreOut v.stock (v.purses n)
are-out s v g i n =
    let uses : (y : ℕ) → times y v.stock.free + times y (cells_of (v.purses n)) ≤ 1 = λ y. (let free = i.stocking.unused y in let mine = i.stocking.purse n y in let l = one-use n (g.owner y) in omega arith) in
    record {
      known = all-times (λ y. y < v.stock.cells) (cells_of (v.purses n)) (λ y some.
          let mine = i.stocking.purse n y in
          let was = was-spare n (g.owner y) (omega arith) in
          let lt = (i.stocking.within y (λ z. elim was [ inl u ↦ (let no : Unused ≡ NotOfStock = sym u ∙ z in cc) | inr p ↦ (let no : InPurse n ≡ NotOfStock = sym p ∙ z in cc) ])).1 in
          let b = i.stocking.count in omega arith);
      once = distinct-times (v.stock.free ++ cells_of (v.purses n)) (λ y. let k = uses y in let l = times-append y v.stock.free (cells_of (v.purses n)) in omega arith);
    }
