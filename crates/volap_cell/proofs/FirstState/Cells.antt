-- The cells of an opening: each is one of the fixed cells, a gate, a root or free.
use Rattle.std.proofs.{Common.{◌≡◌, ◌≢◌, ◌∙◌, ℕ, zero, suc, ◌<◌, ◌≤◌, ◌⊎◌, inl, inr, true, [], refl, sym, ap, arith}, lemmas.Bool.{cases_Bool, cases_lt, eqb-true, eqb-false, false≢true}}
use Rattle.std.specs.Prelude.{None, nat_lt, ◌==◌, if◌then◌else◌}
use Rattle.volap_cell.specs.{Cells.{CellValue, FreeCell, LedgerCell, StockCell, RegistryCell, ImageCell, DeskCell, MapCell, GateCell, BlockCell, OfStock, has_block, tag_of, gate_shard, phase_of, active_in, pins_in, queue_in, gone_in, no_queue}, Ghost.{Owner, NotOfStock, Unused, AGate, InTree}, Setting.{Setting, cell_count, first_stock_cell}, World.World}

-- Numbers below a bound, found by what a function says of them.

-- the last of them that f takes to y; 0 if none
abbrev pub seek : (ℕ → ℕ) → ℕ → ℕ → ℕ
seek f zero y = 0
seek f (suc n) y = if f n == y then n else seek f n y

pub seek-found : (f : ℕ → ℕ) (n y i : ℕ) → i < n → f i ≡ y → f (seek f n y) ≡ y
seek-found f zero y i low is = absurd (omega arith)
seek-found f (suc n) y i low is = elim (cases_Bool (f n == y)) [
  | inl here ↦ rw here (eqb-true (f n) y here)
  | inr other ↦ rw other (seek-found f n y i (let ne : i ≢ n = (λ e. eqb-false (f n) y other (ap f (sym e) ∙ is)) in omega arith) is)
]

pub seek-within : (f : ℕ → ℕ) (n y : ℕ) → 0 < n → seek f n y < n
seek-within f zero y some = some
seek-within f (suc zero) y some = elim (cases_Bool (f 0 == y)) [ inl here ↦ rw here (omega arith) | inr other ↦ rw other (omega arith) ]
seek-within f (suc (suc n)) y some = elim (cases_Bool (f (suc n) == y)) [
  | inl here ↦ rw here (omega arith)
  | inr other ↦ rw other (let l = seek-within f (suc n) y (omega arith) in omega arith)
]

-- whether there is one
pub is-there : (f : ℕ → ℕ) (n y : ℕ) → ((i : ℕ) × (i < n) × (f i ≡ y)) ⊎ ((i : ℕ) → i < n → f i ≢ y)
is-there f zero y = inr (λ i low. absurd (omega arith))
is-there f (suc n) y = elim (cases_Bool (f n == y)) [
  | inl here ↦ inl (n, omega arith, eqb-true (f n) y here)
  | inr other ↦ elim (is-there f n y) [
    | inl found ↦ inl (found.0, (let l = found.1 in omega arith), found.2)
    | inr none ↦ inr (λ i low is. elim (cases_lt i n) [
      | inl below ↦ none i below is
      | inr above ↦ (let e : i ≡ n = omega arith in eqb-false (f n) y other (ap f (sym e) ∙ is))
    ])
  ]
]

-- Cells by what they hold.

-- a cell that holds no gate
pub record NoGate (c : CellValue) : Type 0 where
  pub gate : gate_shard c ≡ None
  pub phase : phase_of c ≡ None
  pub active : active_in c ≡ 0
  pub pins : pins_in c ≡ 0
  pub queue : queue_in c ≡ no_queue
  pub gone : gone_in c ≡ []

pub no-gate : (c : CellValue) → gate_shard c ≡ None → NoGate c
no-gate FreeCell none = record { gate = refl; phase = refl; active = refl; pins = refl; queue = refl; gone = refl }
no-gate (LedgerCell l) none = record { gate = refl; phase = refl; active = refl; pins = refl; queue = refl; gone = refl }
no-gate (StockCell l) none = record { gate = refl; phase = refl; active = refl; pins = refl; queue = refl; gone = refl }
no-gate (RegistryCell l) none = record { gate = refl; phase = refl; active = refl; pins = refl; queue = refl; gone = refl }
no-gate (ImageCell server l) none = record { gate = refl; phase = refl; active = refl; pins = refl; queue = refl; gone = refl }
no-gate (DeskCell server l) none = record { gate = refl; phase = refl; active = refl; pins = refl; queue = refl; gone = refl }
no-gate (MapCell worker l) none = record { gate = refl; phase = refl; active = refl; pins = refl; queue = refl; gone = refl }
no-gate (GateCell g) none = absurd (let never : ⊥ = cc in never)
no-gate (BlockCell b) none = record { gate = refl; phase = refl; active = refl; pins = refl; queue = refl; gone = refl }

-- a cell that isn't of the stock holds neither a gate nor a block
pub not-of-stock : (c : CellValue) → tag_of c ≢ OfStock → gate_shard c ≡ None
not-of-stock FreeCell tag = absurd (tag refl)
not-of-stock (GateCell g) tag = absurd (tag refl)
not-of-stock (BlockCell b) tag = absurd (tag refl)
not-of-stock (LedgerCell l) tag = refl
not-of-stock (StockCell l) tag = refl
not-of-stock (RegistryCell l) tag = refl
not-of-stock (ImageCell server l) tag = refl
not-of-stock (DeskCell server l) tag = refl
not-of-stock (MapCell worker l) tag = refl

-- The use of a cell.

abbrev pub owner_in : Setting → (ℕ → ℕ) → (ℕ → ℕ) → ℕ → CellValue → Owner
owner_in s gate root y FreeCell = if nat_lt y (cell_count s) then Unused else NotOfStock
owner_in s gate root y (GateCell g) = AGate
owner_in s gate root y (BlockCell b) = InTree (gate (seek root s.workers y))
owner_in s gate root y _ = NotOfStock

pub not-owned : (s : Setting) (gate root : ℕ → ℕ) (y : ℕ) (c : CellValue) → tag_of c ≢ OfStock → owner_in s gate root y c ≡ NotOfStock
not-owned s gate root y FreeCell tag = absurd (tag refl)
not-owned s gate root y (GateCell g) tag = absurd (tag refl)
not-owned s gate root y (BlockCell b) tag = absurd (tag refl)
not-owned s gate root y (LedgerCell l) tag = refl
not-owned s gate root y (StockCell l) tag = refl
not-owned s gate root y (RegistryCell l) tag = refl
not-owned s gate root y (ImageCell server l) tag = refl
not-owned s gate root y (DeskCell server l) tag = refl
not-owned s gate root y (MapCell worker l) tag = refl

-- a block is of the tree of a worker's gate
pub block-owned : (s : Setting) (gate root : ℕ → ℕ) (y : ℕ) (c : CellValue) → has_block c ≡ true → owner_in s gate root y c ≡ InTree (gate (seek root s.workers y))
block-owned s gate root y (BlockCell b) made = refl
block-owned s gate root y FreeCell made = absurd (false≢true made)
block-owned s gate root y (GateCell g) made = absurd (false≢true made)
block-owned s gate root y (LedgerCell l) made = absurd (false≢true made)
block-owned s gate root y (StockCell l) made = absurd (false≢true made)
block-owned s gate root y (RegistryCell l) made = absurd (false≢true made)
block-owned s gate root y (ImageCell server l) made = absurd (false≢true made)
block-owned s gate root y (DeskCell server l) made = absurd (false≢true made)
block-owned s gate root y (MapCell worker l) made = absurd (false≢true made)

-- what a cell of an opening is
pub data Found (s : Setting) (w : World) (gate root owner_free : ℕ → ℕ) (owner : ℕ → Owner) (y : ℕ) : Type 0 where
  IsOther : ((y < first_stock_cell s) ⊎ (cell_count s ≤ y)) → owner y ≡ NotOfStock → owner_free y ≡ 0 → NoGate (w.cells y) → Found s w gate root owner_free owner y
  IsSpare : first_stock_cell s ≤ y → y < cell_count s → owner y ≡ Unused → owner_free y ≡ 1 → NoGate (w.cells y) → Found s w gate root owner_free owner y
  IsGateOf : (i : ℕ) → i < s.workers → gate i ≡ y → first_stock_cell s ≤ y → y < cell_count s → owner y ≡ AGate → owner_free y ≡ 0 → Found s w gate root owner_free owner y
  IsRootOf : (i : ℕ) → i < s.workers → root i ≡ y → first_stock_cell s ≤ y → y < cell_count s → owner y ≡ InTree (gate i) → owner_free y ≡ 0 → NoGate (w.cells y) → Found s w gate root owner_free owner y
