-- The step in at the gate, from what the call's contract says
use Rattle.std.proofs.{Common.{◌≡◌, ℕ, ◌+◌, ◌-◌, arith, inl, inr, eqb, map, sym, ap, ◌∙◌, subst}, lemmas.Bool.{eqb-true, eqb-false}}
use Rattle.cell_stock.specs.Stock.{PurseValue}
use Rattle.link_descent.specs.shard_store.specs.{Gate.root_entry, declared.gate.Gate.Gate}
use Rattle.link_descent.specs.{Descend.{KeepsRoot, Passes, Halves}, declared.entered.Entered.Entered}
use Rattle.dc_node.specs.declared.entry.Entry.{Entry}
use Rattle.list_words.specs.Counts.{Each}
use Rattle.list_words.proofs.Truth.{on_bool}
use Rattle.tree_shape.specs.{Shape.{Shape, Table, TreeCells}, Steps.{AfterStep, GoesIn}, Trees.IsTree}
use Rattle.tree_shape.proofs.{Cutting.RootCuts.after-root, Down.Enters.{root-entry-now, enters-pass, enters-half}}

module _ (table : Table) (g : Shape) (r : ℕ) (before now : TreeCells) (purse purse_now : PurseValue) (entered : Entered)
    (tree : IsTree table before g) (d : GoesIn table g r before now purse purse_now entered) where
  abbrev root : ℕ
  root = before.gate.root

  height : (e2 : Entry) → KeepsRoot e2 before.gate d.gate_now → now.gate.height ≡ before.gate.height
  height e2 k = d.gate.height ∙ ap (λ (x : Gate). x.height) k.gate_is

  top : (e2 : Entry) → KeepsRoot e2 before.gate d.gate_now → (before.gate.height - 1) + 1 ≡ now.gate.height
  top e2 k = let h = height e2 k in let s = tree.some in omega arith

  passes : (e2 : Entry) → KeepsRoot e2 before.gate d.gate_now → Passes table.hierarchy (table.row r) (root_entry before.gate) e2 (before.block root) (now.block root) purse purse_now entered
      → AfterStep table g r entered.at now.gate.height before now purse.spares purse_now.spares
  passes e2 k s =
      subst (λ x. AfterStep table g r x now.gate.height before now purse.spares purse_now.spares) (sym s.at)
      (subst (λ l. AfterStep table g r root l before now purse.spares purse_now.spares) (top e2 k) (enters-pass table g r before now purse.spares purse_now.spares tree d.new d.numbered d.valid d.gate_cell (height e2 k) e2 s.entry_is (d.gate.root ∙ ap root_entry k.gate_is ∙ root-entry-now table r before.gate e2 s.entry_is) d.idle d.spares
      (ap (λ (x : PurseValue). x.spares) s.purse_is) s.room
      (λ y yg. on_bool (eqb y root)
      (λ q. let e = eqb-true _ _ q in rw e s.head_is)
      (λ q. d.other y (eqb-false _ _ q) (rw s.fresh tt)))))

  halved : (e2 : Entry) → KeepsRoot e2 before.gate d.gate_now → Halves table.hierarchy (table.row r) (map before.block d.tail) (root_entry before.gate) e2 (before.block root) (now.block root) purse purse_now entered
      → AfterStep table g r entered.at now.gate.height before now purse.spares purse_now.spares
  halved e2 k s =
      let fill : now.block s.spare.cell ≡ s.new = (subst (λ xs. Each (λ f. now.block f.cell ≡ f.block) xs) s.fresh d.filled).0 in
      subst (λ x. AfterStep table g r x now.gate.height before now purse.spares purse_now.spares) (sym s.at)
      (subst (λ l. AfterStep table g r root l before now purse.spares purse_now.spares) (top e2 k) (enters-half table g r before now purse.spares purse_now.spares tree d.new d.numbered d.valid d.gate_cell (height e2 k) e2 s.entry_is (d.gate.root ∙ ap root_entry k.gate_is ∙ root-entry-now table r before.gate e2 s.entry_is) d.idle d.spares
      s.spare s.new s.purse_is fill s.full s.halved (λ y yg yc yn. d.other y yc (rw s.fresh (yn, tt)))))

  pub goes-in : AfterStep table g r entered.at now.gate.height before now purse.spares purse_now.spares
  goes-in =
      elim d.step.step [
        | inl s ↦ passes s.0 s.1 s.2
        | inr t ↦ elim t [
          | inl s ↦ halved s.0 s.1 s.2
          | inr s ↦ after-root table g r before now purse purse_now entered tree d s
        ]
      ]
