-- The calls that use a cell again: what they ask of the stock, and what they did.
use Rattle.std.proofs.{Common.{◌≡◌, ◌≢◌, ℕ, ◌+◌, false, eqb, List, [], ◌∷◌, ◌++◌, length, Option, Some, refl, sym, ap, ◌∙◌, subst, arith}, lemmas.Bool.eqb-true, lemmas.List.length-append}
use Rattle.cell_stock.specs.Stock.{IsOut, StockValue}
use Rattle.dim_hierarchy.specs.Dimension.{Dimension}
use Rattle.core_tree.specs.shard_store.specs.{declared.gate.Gate.Gate, declared.gate.Phase.Phase, declared.gate.Phase.TheVariants.Gone}
use Rattle.list_words.specs.Counts.{times}
use Rattle.list_words.proofs.{Times.{times-append, same_is, distinct-times, times-distinct}, Truth.on_bool}
use Rattle.core_tree.specs.tree_shape.specs.Laws.{OtherLaw}
use Rattle.core_tree.specs.volap_cell.specs.{AdminKinds.ReusesBlock, Cells.{CellValue, FreeCell, GateCell, StockCell, gone_in, phase_of, pins_in, stock_in}, Ghost.{Ghost, InTree, NotOfStock, is_unused}, Invariant.InvWith, Setting.Setting, Steps.{IsHere, Makes}, Values.ActorValue, View.view, World.{World, change, held}}
use Rattle.core_tree.specs.volap_cell.proofs.Cells.Numbers.{at-stock}
use Rattle.core_admin.specs.ReuseDue.{CanReuseBlock}
use Rattle.core_admin.proofs.{Postponing.Returned.one, Reusing.FreesBlock.reuse-block-keeps, Reusing.FreesCells.in-tree}
use Rattle.core_tree.specs.volap_cell.specs.declared.kind.Kind.TheVariants as kind

-- a cell in which a gate is seen
pub gate-in : (c : CellValue) (p : Phase) → phase_of c ≡ Some p → (gate : Gate) × (c ≡ GateCell gate)
gate-in (GateCell gate) p is = (gate, refl)
gate-in _ p is = absurd (cc)

-- a cell with another use than being free may go back
pub is-out : (s : Setting) (w : World) (g : Ghost) → InvWith s (view s w) g → (at stock_at : ℕ) (stock : StockValue) → w.cells stock_at ≡ StockCell stock → g.owner at ≢ NotOfStock → is_unused (g.owner at) ≡ false → IsOut stock at
is-out s w g i at stock_at stock here of_stock used =
    let v = view s w in
    let is : v.stock ≡ stock = ap (λ (y : ℕ). stock_in (w.cells y)) (sym (at-stock s w.cells i.numbering.tag stock_at stock here)) ∙ ap stock_in here in
    subst (λ (z : StockValue). IsOut z at) is (record {
      known = (let lt = (i.stocking.within at of_stock).1 in let count = i.stocking.count in omega (arith, lt, count));
      once = distinct-times (v.stock.free ++ at ∷ []) (λ y.
          let parts = times-append y v.stock.free (at ∷ []) in
          let few = times-distinct v.stock.free i.stocking.valid.once y in
          let mine = i.stocking.unused y in
          on_bool (eqb y at)
          (λ q.
          let e = eqb-true y at q in
          let it = same_is y at e in
          let none : one (is_unused (g.owner y)) ≡ 0 = ap (λ (k : ℕ). one (is_unused (g.owner k))) e ∙ ap one used in
          omega (arith, parts, mine, it, none))
          (λ q. let no = same-not y q in omega (arith, parts, few, no)));
    })
  where
    same-not : (z : ℕ) → eqb z at ≡ false → times z (at ∷ []) ≡ 0
    same-not z q = rw q refl

-- a list that ends with something isn't empty, and ends with one thing

pub not-empty : (cells : List ℕ) (x : ℕ) → cells ++ x ∷ [] ≢ []
not-empty cells x e = (let more = sym (length-append cells (x ∷ [])) ∙ ap length e in absurd (omega (arith, more)))

pub same-ends : (xs ys : List ℕ) (x y : ℕ) → xs ++ x ∷ [] ≡ ys ++ y ∷ [] → (xs ≡ ys) × (x ≡ y)
same-ends [] [] x y e = (refl, cc)
same-ends [] (z ∷ ys) x y e = absurd (not-empty ys y (let both : x ∷ [] ≡ z ∷ (ys ++ y ∷ []) = e in sym (cc)))
same-ends (z ∷ xs) [] x y e = absurd (not-empty xs x (let both : z ∷ (xs ++ x ∷ []) ≡ y ∷ [] = e in cc))
same-ends (z ∷ xs) (t ∷ ys) x y e =
    let both : z ∷ (xs ++ x ∷ []) ≡ t ∷ (ys ++ y ∷ []) = e in
    let k = same-ends xs ys x y (cc) in
    let head : z ≡ t = cc in
    ((λ j. head j ∷ k.0 j), k.1)

module _ (other : OtherLaw) (h : List Dimension) (gate_at at stock_at : ℕ) (gate block stock : CellValue) (a : ActorValue) (here : IsHere h (held gate_at gate ∷ held at block ∷ held stock_at stock ∷ []) a) (due : CanReuseBlock at gate stock a) where
  abbrev s : Setting
  s = a.setting

  abbrev w : World
  w = here.world

  abbrev g : Ghost
  g = here.inv.ghost_of

  gone : (view s w).phases gate_at ≡ Some Gone
  gone = ap phase_of here.agrees.cells.0 ∙ due.can.gone

  owner : g.owner at ≡ InTree gate_at
  owner =
      let cells = here.inv.holds.stocking.gone_cells gate_at gone at in
      let list = ap (λ (c : CellValue). times at (gone_in c)) here.agrees.cells.0 ∙ ap (times at) due.last ∙ times-append at due.cells (at ∷ []) in
      let it = same_is at at refl in
      in-tree gate_at (g.owner at) (omega (arith, cells, list, it))

  pub block-out : (value : StockValue) → stock ≡ StockCell value → IsOut value at
  block-out value is = is-out s w g here.inv.holds at stock_at value (here.agrees.cells.1.1.0 ∙ is)
      (λ e. let no : InTree gate_at ≡ NotOfStock = sym owner ∙ e in cc) (ap is_unused owner)

  pub listed : (z : Gate) → gate ≡ GateCell z → z.gone ≢ []
  listed z is none = not-empty due.cells at (sym due.last ∙ ap gone_in is ∙ none)

  pub reuse-block-makes : (z : Gate) (xs : List ℕ) (cell : ℕ) (value : StockValue) (gate2 block2 stock2 : CellValue) → gate ≡ GateCell z → stock ≡ StockCell value → z.gone ≡ xs ++ cell ∷ []
      → gate2 ≡ GateCell (record z { gone = xs }) → block2 ≡ FreeCell → stock2 ≡ StockCell (record value { free = value.free ++ at ∷ [] })
      → Makes h kind.Reuse (change gate_at gate gate2 ∷ change at block block2 ∷ change stock_at stock stock2 ∷ []) a a
  reuse-block-makes z xs cell value gate2 block2 stock2 is stock_is ends is2 free stock_is2 =
      let same = same-ends due.cells xs at cell (sym due.last ∙ ap gone_in is ∙ ends) in
      let phase : ◌≡◌ {A = Option Phase} (Some z.phase) (Some Gone) = ap phase_of (sym is) ∙ due.can.gone in
      let does : ReusesBlock (change gate_at gate gate2) (change at block block2) (change stock_at stock stock2) a a = record {
        gate = z;
        may = record { role = due.can.role; no_command = due.can.no_command; is_gone = cc; unpinned = ap pins_in (sym is) ∙ due.can.unpinned };
        cells = xs;
        last = ends ∙ (λ j. xs ++ sym same.1 j ∷ []);
        turns = record { was = is; is = is2 };
        freed = free;
        frees = record { stock = value; was = stock_is; is = stock_is2 };
        actor_is = refl;
      } in
      record { does = does; keeps = reuse-block-keeps other h (change gate_at gate gate2) (change at block block2) (change stock_at stock stock2) a a does }
