-- Which cells an actor may be lent, of a state that meets the invariant: each that is no block, the block at which it carries its row,
-- its spares, and of a tree those blocks at which nobody else carries a row.
use Rattle.std.proofs.{Common.{◌≡◌, ◌≢◌, ◌∙◌, ℕ, ◌<◌, ◌≤◌, inl, inr, true, false, IsSome, refl, sym, ap, arith}, lemmas.Bool.cases_lt}
use Rattle.core_due.specs.Ready.{IsFree, IsLendable}
use Rattle.core_steps.specs.core_tree.proofs.Calls.Lends.{behind-unkept, spare-unkept}
use Rattle.core_steps.specs.tree_shape.specs.Trees.{IsBehind}
use Rattle.core_steps.specs.volap_cell.proofs.{Cells.Holding.{carries, keeps-block, one-keeps}, Cells.Numbers.{tag-desk, tag-map, tag-rest, tag-stock}}
use Rattle.core_steps.specs.volap_cell.specs.{Cells.{BlockCell, CellValue, DeskCell, DeskOf, FreeCell, GateCell, ImageCell, LedgerCell, MapCell, MapOf, OfStock, RegistryCell, StockCell, TheStock, gate_shard, has_block, tag_of}, Ghost.{AGate, Ghost, InPurse, InTree, NotOfStock}, Invariant.InvWith, Setting.{Setting, desk_cell, first_stock_cell, map_cell, stock_cell}, Stocking.{IsWhole, cells_at}, View.{View, view}, World.{MustKeep, World}}

-- What is no block.

gate-no-block : (c : CellValue) → IsSome (gate_shard c) → has_block c ≡ false
gate-no-block (BlockCell b) e = (let never : false ≡ true = e in cc)
gate-no-block FreeCell e = refl
gate-no-block (LedgerCell l) e = refl
gate-no-block (StockCell k) e = refl
gate-no-block (RegistryCell r) e = refl
gate-no-block (ImageCell t i) e = refl
gate-no-block (DeskCell t d) e = refl
gate-no-block (MapCell t m) e = refl
gate-no-block (GateCell g) e = refl

other-no-block : (c : CellValue) → tag_of c ≢ OfStock → has_block c ≡ false
other-no-block (BlockCell b) e = absurd (e refl)
other-no-block FreeCell e = refl
other-no-block (LedgerCell l) e = refl
other-no-block (StockCell k) e = refl
other-no-block (RegistryCell r) e = refl
other-no-block (ImageCell t i) e = refl
other-no-block (DeskCell t d) e = refl
other-no-block (MapCell t m) e = refl
other-no-block (GateCell g) e = refl

module _ (s : Setting) (w : World) (g : Ghost) (i : InvWith s (view s w) g) where
  abbrev v : View
  v = view s w

  -- Cells that are a server's or a worker's, or of all.

  fixed-low : (y : ℕ) → tag_of (w.cells y) ≢ OfStock → y < first_stock_cell s
  fixed-low y fixed = elim (cases_lt y (first_stock_cell s)) [
    | inl lt ↦ lt
    | inr ge ↦ absurd (fixed (i.numbering.tag y ∙ tag-rest s y ge))
  ]

  pub stock-tag : tag_of (w.cells stock_cell) ≡ TheStock
  stock-tag = i.numbering.tag stock_cell ∙ tag-stock s

  pub desk-tag : (server : ℕ) → server < s.servers → tag_of (w.cells (desk_cell s server)) ≡ DeskOf server
  desk-tag server low = i.numbering.tag (desk_cell s server) ∙ tag-desk s server low

  pub map-tag : (worker : ℕ) → worker < s.workers → tag_of (w.cells (map_cell s worker)) ≡ MapOf worker
  map-tag worker low = i.numbering.tag (map_cell s worker) ∙ tag-map s worker low

  -- Cells of the stock.

  -- who has one has one of the stock's cells
  pub owned-tag : (y : ℕ) → g.owner y ≢ NotOfStock → tag_of (w.cells y) ≡ OfStock
  owned-tag y owned = i.numbering.tag y ∙ tag-rest s y (i.stocking.within y owned).0

  pub spare-owned : (n y : ℕ) → g.owner y ≡ InPurse n → g.owner y ≢ NotOfStock
  spare-owned n y own e = (let never : InPurse n ≡ NotOfStock = sym own ∙ e in cc)

  pub tree-owned : (c y : ℕ) → g.owner y ≡ InTree c → g.owner y ≢ NotOfStock
  tree-owned c y own e = (let never : InTree c ≡ NotOfStock = sym own ∙ e in cc)

  -- a block of a tree behind a head
  pub behind-owned : (c head y : ℕ) → IsWhole v.gates v.phases v.pins c → IsBehind (cells_at v.blocks v.trees c) (g.shape c) head y → g.owner y ≡ InTree c
  behind-owned c head y whole b = (i.stocking.tree c y whole b.inside b.block).0

  pub gate-owned : (y : ℕ) → IsSome (gate_shard (w.cells y)) → g.owner y ≢ NotOfStock
  gate-owned y gate e = (let never : AGate ≡ NotOfStock = sym (i.stocking.gate y gate) ∙ e in cc)

  pub gate-low : (y : ℕ) → IsSome (gate_shard (w.cells y)) → first_stock_cell s ≤ y
  gate-low y gate = (i.stocking.within y (gate-owned y gate)).0

  -- and so none of a server's or a worker's

  pub off-map : (worker y : ℕ) → worker < s.workers → g.owner y ≢ NotOfStock → y ≢ map_cell s worker
  off-map worker y low owned same = (let never : OfStock ≡ MapOf worker = sym (owned-tag y owned) ∙ ap (λ (z : ℕ). tag_of (w.cells z)) same ∙ map-tag worker low in cc)

  pub off-desk : (server y : ℕ) → server < s.servers → g.owner y ≢ NotOfStock → desk_cell s server ≢ y
  off-desk server y low owned same = (let never : DeskOf server ≡ OfStock = sym (desk-tag server low) ∙ ap (λ (z : ℕ). tag_of (w.cells z)) same ∙ owned-tag y owned in cc)

  pub map-off-desk : (server worker : ℕ) → server < s.servers → desk_cell s server ≢ map_cell s worker
  map-off-desk server worker low same = omega arith

  -- What may be lent.

  module _ (n : ℕ) (If : Type 0) where
    free-other : (y : ℕ) → has_block (w.cells y) ≡ false → IsFree w n y
    free-other y none a ne keeps = (let block = keeps-block s w g i a y keeps in let never : true ≡ false = sym block ∙ none in cc)

    -- what is a server's or a worker's, or the one of its kind

    pub lend-fixed : (y : ℕ) → tag_of (w.cells y) ≢ OfStock → IsLendable s w n If y
    lend-fixed y fixed = record {
      within = (let low = fixed-low y fixed in omega (arith, low));
      free = λ if. free-other y (other-no-block (w.cells y) fixed);
    }

    pub lend-stock : IsLendable s w n If stock_cell
    lend-stock = lend-fixed stock_cell (λ e. let never : TheStock ≡ OfStock = sym stock-tag ∙ e in cc)

    pub lend-desk : (server : ℕ) → server < s.servers → IsLendable s w n If (desk_cell s server)
    lend-desk server low = lend-fixed (desk_cell s server) (λ e. let never : DeskOf server ≡ OfStock = sym (desk-tag server low) ∙ e in cc)

    pub lend-map : (worker : ℕ) → worker < s.workers → IsLendable s w n If (map_cell s worker)
    lend-map worker low = lend-fixed (map_cell s worker) (λ e. let never : MapOf worker ≡ OfStock = sym (map-tag worker low) ∙ e in cc)

    -- a gate
    pub lend-gate : (y : ℕ) → IsSome (gate_shard (w.cells y)) → IsLendable s w n If y
    lend-gate y gate = record { within = (i.stocking.within y (gate-owned y gate)).1; free = λ if. free-other y (gate-no-block (w.cells y) gate) }

    -- the block at which it carries its row
    pub lend-own : (y : ℕ) → MustKeep (w.actors n) y → IsLendable s w n If y
    lend-own y own =
        let here = carries s v g i n y own in
        record { within = (i.stocking.within y (tree-owned here.gate y here.owner)).1; free = λ if a ne keeps. ne (one-keeps s w g i a n y keeps own) }

    -- one of its spares
    pub lend-spare : (y : ℕ) → g.owner y ≡ InPurse n → IsLendable s w n If y
    lend-spare y own = record { within = (i.stocking.within y (spare-owned n y own)).1; free = λ if a ne keeps. spare-unkept s w g i n a y own keeps }

    -- a block of a tree, where that is free
    pub lend-block : (c y : ℕ) → g.owner y ≡ InTree c → (If → IsFree w n y) → IsLendable s w n If y
    lend-block c y own free = record { within = (i.stocking.within y (tree-owned c y own)).1; free = free }

    -- and one behind a head at all times
    pub lend-behind : (c head y : ℕ) → IsWhole v.gates v.phases v.pins c → IsBehind (cells_at v.blocks v.trees c) (g.shape c) head y → IsLendable s w n If y
    lend-behind c head y whole b = record {
      within = (i.stocking.within y (tree-owned c y (behind-owned c head y whole b))).1;
      free = λ if a ne keeps. behind-unkept s w g i c whole a head y b keeps;
    }
