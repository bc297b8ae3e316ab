-- Each cell of the stock has one use, which its owner tells.
use Rattle.std.proofs.{Common.{◌≡◌, ◌≢◌, ◌∙◌, ◌||◌, ◌<◌, ◌≤◌, ◌⊎◌, inl, inr, ℕ, Bool, true, cond, eqb, List, [], Option, Some, None, IsSome, refl, sym, ap, subst, arith}, lemmas.Bool.{false≢true, eqb-true, eqb-false, eq-eqb, or_right}, lemmas.Option.same_Some}
use Rattle.cell_stock.specs.{Stock.cells_of, declared.purse.Spare.Spare}
use Rattle.row_ledger.specs.Shards.{is_live}
use Rattle.core_tree.specs.shard_store.specs.declared.gate.Phase.TheVariants.{Gone}
use Rattle.list_words.proofs.Truth.{on_bool, eqb-self}
use Rattle.list_words.specs.Counts.{times}
use Rattle.core_tree.specs.volap_cell.proofs.Histories.Standings.{live-on, standing}
use Rattle.core_tree.specs.volap_cell.specs.{Cells.{CellValue, FreeCell, LedgerCell, StockCell, RegistryCell, ImageCell, DeskCell, MapCell, GateCell, BlockCell, TheStock, stock_in, tag_of}, Ghost.{Owner, NotOfStock, Unused, InPurse, AGate, InTree, InJob, Ghost, is_in_job, is_in_purse, is_unused}, Invariant.InvWith, Setting.{Setting, cell_count, first_stock_cell, stock_cell}, Stocking.spent_of, Values.JobValue, View.{View, view}}
use Rattle.core_laws.specs.CellUse.{CellUseLaw, HasNoUse, HasOneUse, IsUsedOnce, uses}

-- what is in the cell of the stock
stock-of : (c : CellValue) → tag_of c ≡ TheStock → c ≡ StockCell (stock_in c)
stock-of FreeCell tag = cc
stock-of (LedgerCell l) tag = cc
stock-of (StockCell x) tag = refl
stock-of (RegistryCell r) tag = cc
stock-of (ImageCell server image) tag = cc
stock-of (DeskCell server desk) tag = cc
stock-of (MapCell worker table) tag = cc
stock-of (GateCell gate) tag = cc
stock-of (BlockCell b) tag = cc

-- the shard of a gate
the-shard : (o : Option ℕ) → IsSome o → (x : ℕ) × (o ≡ Some x)
the-shard None e = absurd (false≢true e)
the-shard (Some x) e = (x, refl)

-- whether a cell isn't the stock's
is-other : (o : Owner) → (o ≡ NotOfStock) ⊎ (o ≢ NotOfStock)
is-other NotOfStock = inl refl
is-other Unused = inr (λ e. cc)
is-other (InPurse a) = inr (λ e. cc)
is-other AGate = inr (λ e. cc)
is-other (InTree c) = inr (λ e. cc)
is-other (InJob a) = inr (λ e. cc)

abbrev one : Bool → ℕ
one b = cond b 1 0

module _ (s : Setting) (v : View) (g : Ghost) (i : InvWith s v g) where
  abbrev Lives : ℕ → Type 0
  Lives x = is_live s.workers v.history x ≡ true

  -- whether a shard that stands uses the cell
  abbrev has : ℕ → ℕ → Bool
  has x y = eqb (g.gate x) y || (g.shape (g.gate x)).inside y

  uses-is : (x y : ℕ) → uses s v (standing s v g i) x y ≡ one (has x y)
  unfolding standing
  uses-is x y = refl

  its-gate : (x : ℕ) → Lives x → (v.gates (g.gate x) ≡ Some x) × (v.phases (g.gate x) ≢ Some Gone)
  its-gate x live = (let on = live-on s v x live in let at = i.lineage.gate_of x on.0 on.1 in (at.1, at.2))

  -- two shards that stand have two gates
  same-gate : (x z : ℕ) → Lives x → Lives z → g.gate x ≡ g.gate z → x ≡ z
  same-gate x z live other e = same_Some x z (sym (its-gate x live).0 ∙ ap v.gates e ∙ (its-gate z other).0)

  -- whose a cell is that a shard uses
  owned : (x y : ℕ) → Lives x → has x y ≡ true → ((g.owner y ≡ AGate) × (g.gate x ≡ y)) ⊎ (g.owner y ≡ InTree (g.gate x))
  owned x y live used =
      let at = its-gate x live in
      let some : IsSome (v.gates (g.gate x)) = subst IsSome (sym at.0) refl in
      on_bool (eqb (g.gate x) y)
      (λ q. let e = eqb-true (g.gate x) y q in inl (ap g.owner (sym e) ∙ i.stocking.gate (g.gate x) some, e))
      (λ q.
      let ne = eqb-false (g.gate x) y q in
      let inside : (g.shape (g.gate x)).inside y ≡ true = subst (λ (b : Bool). (b || (g.shape (g.gate x)).inside y) ≡ true) q used in
      inr (i.stocking.tree (g.gate x) y (some, inl at.1) inside (λ e. ne (sym e))).0)

  -- no two shards use one cell
  alone : (x z y : ℕ) → Lives x → Lives z → has x y ≡ true → has z y ≡ true → x ≡ z
  alone x z y live other here there = elim (owned x y live here) [
    | inl a ↦ elim (owned z y other there) [
      | inl b ↦ same-gate x z live other (a.1 ∙ sym b.1)
      | inr b ↦ (let no : AGate ≡ InTree (g.gate z) = sym a.0 ∙ b in cc)
    ]
    | inr a ↦ elim (owned z y other there) [
      | inl b ↦ (let no : AGate ≡ InTree (g.gate x) = sym b.0 ∙ a in cc)
      | inr b ↦ (let both : InTree (g.gate x) ≡ InTree (g.gate z) = sym a ∙ b in let e : g.gate x ≡ g.gate z = cc in same-gate x z live other e)
    ]
  ]

  -- a cell that is no gate's and of no tree no shard uses
  none-uses : (y : ℕ) → g.owner y ≢ AGate → ((c : ℕ) → g.owner y ≢ InTree c) → (x : ℕ) → Lives x → uses s v (standing s v g i) x y ≡ 0
  none-uses y no_gate no_tree x live =
      uses-is x y
      ∙ on_bool (has x y)
      (λ q. elim (owned x y live q) [ inl a ↦ absurd (no_gate a.0) | inr a ↦ absurd (no_tree (g.gate x) a) ])
      (λ q. ap one q)

  -- a shard uses a cell alone, and the cell isn't free
  used-once : (x y : ℕ) → Lives x → has x y ≡ true → IsUsedOnce s v (standing s v g i) v.stock.free y x
  used-once x y live here = record {
    not_free = i.stocking.unused y ∙ (elim (owned x y live here) [ inl a ↦ ap (λ (o : Owner). one (is_unused o)) a.0 | inr a ↦ ap (λ (o : Owner). one (is_unused o)) a ]);
    stands = live;
    once = uses-is x y ∙ ap one here;
    others = λ z other ne. uses-is z y ∙ on_bool (has z y) (λ q. absurd (ne (sym (alone x z y live other here q)))) (λ q. ap one q);
  }

  -- where nobody has spares or a job, and no gate is left of a shard that is gone
  module _ (no_spares : (a : ℕ) → v.purses a ≡ []) (no_jobs : (a : ℕ) → v.jobs a ≡ None) (none_gone : (c : ℕ) → v.phases c ≢ Some Gone) where
    -- the shard of a gate stands
    of-gate : (c : ℕ) → IsSome (v.gates c) → (x : ℕ) × Lives x × (g.gate x ≡ c)
    of-gate c some = (let (x, is) = the-shard (v.gates c) some in let at = i.lineage.live c x is (none_gone c) in (x, at.0, at.1))

    -- a cell of the stock, by its owner
    by-owner : (y : ℕ) → first_stock_cell s ≤ y → y < cell_count s → (o : Owner) → g.owner y ≡ o → HasOneUse s v (standing s v g i) v.stock.free y
    by-owner y high low NotOfStock is = absurd (i.stocking.every y high low is)
    by-owner y high low Unused is = inl (record {
      once = i.stocking.unused y ∙ ap (λ (o : Owner). one (is_unused o)) is;
      none = none-uses y (λ e. let no : Unused ≡ AGate = sym is ∙ e in cc) (λ c e. let no : Unused ≡ InTree c = sym is ∙ e in cc);
    })
    by-owner y high low (InPurse a) is =
        let none : times y (cells_of (v.purses a)) ≡ 0 = ap (λ (spares : List Spare). times y (cells_of spares)) (no_spares a) in
        let some : one (is_in_purse a (g.owner y)) ≡ 1 = ap (λ (o : Owner). one (is_in_purse a o)) is ∙ ap one (eqb-self a) in
        let at = i.stocking.purse a y in
        absurd (omega (arith, none, some, at))
    by-owner y high low (InJob a) is =
        let none : times y (cells_of (spent_of (v.jobs a))) ≡ 0 = ap (λ (job : Option JobValue). times y (cells_of (spent_of job))) (no_jobs a) in
        let some : one (is_in_job a (g.owner y)) ≡ 1 = ap (λ (o : Owner). one (is_in_job a o)) is ∙ ap one (eqb-self a) in
        let at = i.stocking.job a y in
        absurd (omega (arith, none, some, at))
    by-owner y high low AGate is =
        let (x, live, gate) = of-gate y (i.stocking.gate_back y is) in
        inr (x, used-once x y live (ap (λ (b : Bool). b || (g.shape (g.gate x)).inside y) (eq-eqb (g.gate x) y gate)))
    by-owner y high low (InTree c) is =
        let back = i.stocking.tree_back c y is in
        let (x, live, gate) = of-gate c back.0 in
        let inside : (g.shape (g.gate x)).inside y ≡ true = ap (λ (k : ℕ). (g.shape k).inside y) gate ∙ (back.1 (back.0, inl (none_gone c))).0 in
        inr (x, used-once x y live (or_right (eqb (g.gate x) y) ((g.shape (g.gate x)).inside y) inside))

  -- a cell that isn't the stock's
  no-use : (y : ℕ) → g.owner y ≡ NotOfStock → HasNoUse s v (standing s v g i) v.stock.free y
  no-use y is = record {
    not_free = i.stocking.unused y ∙ ap (λ (o : Owner). one (is_unused o)) is;
    none = none-uses y (λ e. let no : NotOfStock ≡ AGate = sym is ∙ e in cc) (λ c e. let no : NotOfStock ≡ InTree c = sym is ∙ e in cc);
  }

  -- and which these are
  outside : (y : ℕ) → (y < first_stock_cell s) ⊎ (cell_count s ≤ y) → g.owner y ≡ NotOfStock
  outside y out = elim (is-other (g.owner y)) [
    | inl is ↦ is
    | inr stocked ↦ (let (above, below) = i.stocking.within y stocked in elim out [ inl low ↦ absurd (omega (arith, above, low)) | inr high ↦ absurd (omega (arith, below, high)) ])
  ]

pub cell-use-law : CellUseLaw
cell-use-law s w inv no_spares no_jobs none_gone =
    let v = view s w in let g = inv.ghost_of in let i = inv.holds in record {
      stock = v.stock;
      stock_is = stock-of (w.cells stock_cell) (i.numbering.tag stock_cell);
      standing = standing s v g i;
      each = λ y high low. by-owner s v g i no_spares no_jobs none_gone y high low (g.owner y) refl;
      others = λ y out. no-use s v g i y (outside s v g i y out);
    }
