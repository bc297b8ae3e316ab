-- What each cell of an opening is.
use Rattle.std.proofs.{Common.{◌≡◌, ◌≢◌, ◌∙◌, ℕ, ◌+◌, ◌-◌, ◌<◌, ◌≤◌, inl, inr, refl, sym, ap, subst, arith}, lemmas.Bool.{cases_Bool, cases_lt, eqb-true, eqb-false, ne_eqb, lt-ltb, le-ltb, ltb-true, ltb-false}}
use Rattle.std.specs.Prelude.{nat_lt, ◌==◌}
use Rattle.list_words.specs.Counts.{times}
use Rattle.list_words.proofs.Times.{times-above}
use Rattle.volap_cell.specs.{Cells.{CellValue, FreeCell, GateCell, Tag, OfStock, tag_of, gate_shard}, Ghost.{Owner, InTree}, Numbering.{IsSetting, tag_at}, Opening.IsOpening, Setting.{Setting, cell_count, first_stock_cell, ledger_cell, stock_cell, registry_cell}, World.World}
use Rattle.volap_cell.proofs.FirstState.Cells.{Found, IsOther, IsSpare, IsGateOf, IsRootOf, NoGate, is-there, no-gate, not-of-stock, not-owned, owner_in, seek, seek-found, seek-within}

-- a tag that isn't the stock's
record IsTagged (c : CellValue) (tag : Tag) : Type 0 where
  pub is : tag_of c ≡ tag
  pub other : tag ≢ OfStock

module _ (s : Setting) (w : World) (set : IsSetting s) (o : IsOpening s w) where
  -- the cells before the stock's
  fixed : (y : ℕ) → y < first_stock_cell s → IsTagged (w.cells y) (tag_at s y)
  fixed y low = elim (cases_Bool (y == ledger_cell)) [
    | inl here ↦ rw here (record { is = ap (λ (k : ℕ). tag_of (w.cells k)) (eqb-true y ledger_cell here) ∙ ap tag_of o.ledger_is; other = λ e. cc })
    | inr n0 ↦ elim (cases_Bool (y == stock_cell)) [
      | inl here ↦ rw (n0, here) (record { is = ap (λ (k : ℕ). tag_of (w.cells k)) (eqb-true y stock_cell here) ∙ ap tag_of o.stock_is; other = λ e. cc })
      | inr n1 ↦ elim (cases_Bool (y == registry_cell)) [
        | inl here ↦ rw (n0, n1, here) (record { is = ap (λ (k : ℕ). tag_of (w.cells k)) (eqb-true y registry_cell here) ∙ ap tag_of o.registry_is; other = λ e. cc })
        | inr n2 ↦
            let a = eqb-false y ledger_cell n0 in let b = eqb-false y stock_cell n1 in let c = eqb-false y registry_cell n2 in
            elim (cases_Bool (nat_lt y (3 + s.servers))) [
              | inl below ↦
                  let l = ltb-true y (3 + s.servers) below in
                  let e : y ≡ 3 + (y - 3) = omega arith in
                  rw (n0, n1, n2, below) (record { is = ap (λ (k : ℕ). tag_of (w.cells k)) e ∙ ap tag_of (o.images (y - 3) (omega arith)); other = λ e. cc })
              | inr nb ↦ elim (cases_Bool (nat_lt y (3 + s.servers + s.servers))) [
                | inl below ↦
                    let m = ltb-false y (3 + s.servers) nb in
                    let l = ltb-true y (3 + s.servers + s.servers) below in
                    let e : y ≡ 3 + s.servers + (y - (3 + s.servers)) = omega arith in
                    rw (n0, n1, n2, nb, below) (record { is = ap (λ (k : ℕ). tag_of (w.cells k)) e ∙ ap tag_of (o.desks (y - (3 + s.servers)) (omega arith)); other = λ e. cc })
                | inr nc ↦
                    let m = ltb-false y (3 + s.servers + s.servers) nc in
                    let e : y ≡ 3 + s.servers + s.servers + (y - (3 + s.servers + s.servers)) = omega arith in
                    rw (n0, n1, n2, nb, nc, lt-ltb y (first_stock_cell s) low) (record { is = ap (λ (k : ℕ). tag_of (w.cells k)) e ∙ ap tag_of (o.tables (y - (3 + s.servers + s.servers)) (omega arith)).1; other = λ e. cc })
              ]
            ]
      ]
    ]
  ]

  -- the stock's
  pub stock-tag : (y : ℕ) → first_stock_cell s ≤ y → tag_at s y ≡ OfStock
  stock-tag y high = rw (
    ne_eqb y ledger_cell (λ e. absurd (omega arith)),
    ne_eqb y stock_cell (λ e. absurd (omega arith)),
    ne_eqb y registry_cell (λ e. absurd (omega arith)),
    le-ltb y (3 + s.servers) (omega arith),
    le-ltb y (3 + s.servers + s.servers) (omega arith),
    le-ltb y (first_stock_cell s) high,
  ) refl

  -- a cell with a tag of the stock isn't before the stock's
  behind : (y : ℕ) → tag_of (w.cells y) ≡ OfStock → first_stock_cell s ≤ y
  behind y tag = elim (cases_lt y (first_stock_cell s)) [
    | inl low ↦ absurd ((fixed y low).other (sym (fixed y low).is ∙ tag))
    | inr high ↦ high
  ]

  -- a cell that isn't free is before the last
  before-last : (y : ℕ) → w.cells y ≢ FreeCell → y < cell_count s
  before-last y some = elim (cases_lt y (cell_count s)) [ inl low ↦ low | inr high ↦ absurd (some (o.rest y high)) ]

  -- a gate and a root are the stock's

  gate-in : (i : ℕ) (low : i < s.workers) → w.cells (o.gate i) ≡ GateCell (o.shards i low).gate
  gate-in i low = (o.shards i low).in_cell

  gate-filled : (i : ℕ) → i < s.workers → w.cells (o.gate i) ≢ FreeCell
  gate-filled i low free = let g = gate-in i low in cc

  root-filled : (i : ℕ) → i < s.workers → w.cells (o.root i) ≢ FreeCell
  root-filled i low free = let r = (o.shards i low).root in cc

  root-no_gate : (i : ℕ) → i < s.workers → NoGate (w.cells (o.root i))
  root-no_gate i low = no-gate (w.cells (o.root i)) (ap gate_shard (o.shards i low).root)

  -- of the roots one cell is one worker's
  root-of : (i : ℕ) → i < s.workers → seek o.root s.workers (o.root i) ≡ i
  root-of i low = o.apart (seek o.root s.workers (o.root i)) i (seek-within o.root s.workers (o.root i) set.workers) low (seek-found o.root s.workers (o.root i) i low refl)

  abbrev pub owner_at : ℕ → Owner
  owner_at y = owner_in s o.gate o.root y (w.cells y)

  abbrev pub free_at : ℕ → ℕ
  free_at y = times y o.stock.free

  abbrev pub FoundAt : ℕ → Type 0
  FoundAt y = Found s w o.gate o.root free_at owner_at y

  -- the root is of its gate's tree
  pub owner-root : (i : ℕ) → i < s.workers → owner_at (o.root i) ≡ InTree (o.gate i)
  owner-root i low = ap (owner_in s o.gate o.root (o.root i)) (o.shards i low).root ∙ ap (λ (k : ℕ). InTree (o.gate k)) (root-of i low)

  found-gate : (i : ℕ) → i < s.workers → FoundAt (o.gate i)
  found-gate i low = IsGateOf i low refl (behind (o.gate i) (ap tag_of (gate-in i low))) (before-last (o.gate i) (gate-filled i low)) (ap (owner_in s o.gate o.root (o.gate i)) (gate-in i low)) (o.filled (o.gate i) (gate-filled i low))

  found-root : (i : ℕ) → i < s.workers → FoundAt (o.root i)
  found-root i low = IsRootOf i low refl (behind (o.root i) (ap tag_of (o.shards i low).root)) (before-last (o.root i) (root-filled i low))
      (owner-root i low) (o.filled (o.root i) (root-filled i low)) (root-no_gate i low)

  found-fixed : (y : ℕ) → y < first_stock_cell s → FoundAt y
  found-fixed y low =
      let f = fixed y low in
      let other : tag_of (w.cells y) ≢ OfStock = (λ e. f.other (sym f.is ∙ e)) in
      IsOther (inl low) (not-owned s o.gate o.root y (w.cells y) other) (o.filled y (λ free. other (ap tag_of free))) (no-gate (w.cells y) (not-of-stock (w.cells y) other))

  found-free : (y : ℕ) → first_stock_cell s ≤ y → y < cell_count s → ((i : ℕ) → i < s.workers → (y ≢ o.gate i) × (y ≢ o.root i)) → FoundAt y
  found-free y high low off =
      let f = o.free y high low off in
      IsSpare high low (ap (owner_in s o.gate o.root y) f.0 ∙ (rw (lt-ltb y (cell_count s) low) refl)) f.1 (no-gate (w.cells y) (ap gate_shard f.0))

  found-past : (y : ℕ) → cell_count s ≤ y → FoundAt y
  found-past y high =
      let c = o.count in
      IsOther (inr high) (ap (owner_in s o.gate o.root y) (o.rest y high) ∙ (rw (le-ltb y (cell_count s) high) refl)) (times-above o.stock.cells y o.stock.free o.valid.known (omega arith)) (no-gate (w.cells y) (ap gate_shard (o.rest y high)))

  pub found : (y : ℕ) → FoundAt y
  found y = elim (is-there o.gate s.workers y) [
    | inl g ↦ subst FoundAt g.2 (found-gate g.0 g.1)
    | inr no-g ↦ elim (is-there o.root s.workers y) [
      | inl r ↦ subst FoundAt r.2 (found-root r.0 r.1)
      | inr no-r ↦ elim (cases_lt y (first_stock_cell s)) [
        | inl low ↦ found-fixed y low
        | inr high ↦ elim (cases_lt y (cell_count s)) [
          | inl below ↦ found-free y high below (λ i l. ((λ e. no-g i l (sym e)), (λ e. no-r i l (sym e))))
          | inr past ↦ found-past y past
        ]
      ]
    ]
  ]

  -- whose a cell is
  pub tag-is : (y : ℕ) → tag_of (w.cells y) ≡ tag_at s y
  tag-is y = elim (is-there o.gate s.workers y) [
    | inl g ↦ subst (λ (k : ℕ). tag_of (w.cells k) ≡ tag_at s k) g.2 (of-stock (o.gate g.0) (ap tag_of (gate-in g.0 g.1)))
    | inr no-g ↦ elim (is-there o.root s.workers y) [
      | inl r ↦ subst (λ (k : ℕ). tag_of (w.cells k) ≡ tag_at s k) r.2 (of-stock (o.root r.0) (ap tag_of (o.shards r.0 r.1).root))
      | inr no-r ↦ elim (cases_lt y (first_stock_cell s)) [
        | inl low ↦ (fixed y low).is
        | inr high ↦ of-stock y (elim (cases_lt y (cell_count s)) [
          | inl below ↦ ap tag_of (o.free y high below (λ i l. ((λ e. no-g i l (sym e)), (λ e. no-r i l (sym e))))).0
          | inr past ↦ ap tag_of (o.rest y past)
        ])
      ]
    ]
  ]
    where
      of-stock : (y : ℕ) → tag_of (w.cells y) ≡ OfStock → tag_of (w.cells y) ≡ tag_at s y
      of-stock y tag = tag ∙ sym (stock-tag y (behind y tag))
