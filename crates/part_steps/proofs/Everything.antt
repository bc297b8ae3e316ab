-- Behind a step a part of a query over everything is at its end, or has read its gate alone; and one that has read it alone ends.
use Rattle.std.proofs.{Common.{◌≡◌, ◌∙◌, ◌⊎◌, ℕ, suc, true, nat_lt, List, [], ◌∷◌, ◌++◌, length, Option, Some, None, refl, sym, ap, subst, inl, inr, arith}, lemmas.Bool.{and_from, and_parts}}
use Rattle.std.specs.List.{list_all}
use Rattle.dc_node.specs.declared.todo.Item.{Item}
use Rattle.describing_set.specs.{Filter.{is_inside, is_part_inside, is_part_met, overlaps}, declared.part.Part.Part}
use Rattle.dim_hierarchy.specs.{Dimension.Dimension, Filter.{in_each, is_picked}, Tree.Tree, declared.filter.Pick.Pick}
use Rattle.dim_hierarchy.specs.declared.filter.Pick.TheVariants.{All}
use Rattle.link_descent.specs.GateRead.{root_items}
use Rattle.list_words.proofs.Truth.{on_bool}
use Rattle.part_steps.proofs.{Keeping.IsNoBalance, NoRows.{IsNoRow, its-task, no-leaving, no-put, no-queue, no-row, read-alone, unread-alone}}
use Rattle.part_steps.specs.{Counts.{HasReadAlone, IsOfEverything}, Parts.IsForRow}
use Rattle.seat_steps.specs.core_steps.specs.{Parts.part_kind, Trees.tree_kind}
use Rattle.seat_steps.specs.core_steps.specs.declared.{parts.PartStep.PartStep, trees.TreeStep.TreeStep}
use Rattle.seat_steps.specs.core_steps.specs.declared.parts.PartStep.TheVariants as part
use Rattle.seat_steps.specs.core_steps.specs.declared.trees.TreeStep.TheVariants as tree
use Rattle.seat_steps.specs.core_tree.specs.ReadDue.{IsOfAll}
use Rattle.seat_steps.specs.shard_store.specs.declared.gate.Gate.{Gate}
use Rattle.seat_steps.specs.volap_cell.specs.{Kinds.Does, TreeKinds.{DoesBlockVisit, DoesGateRead, pin_if}, Values.{ActorValue, ErrandValue, Read, ReadingValue, Unread}, World.Change}
use Rattle.seat_steps.specs.volap_cell.specs.declared.kind.Kind.TheVariants as kind

-- What a query over everything notes at its gate: nothing, since a set that its filter meets is inside it.

all-picked : (t : Tree) (ids : List ℕ) → list_all (is_picked t All) ids ≡ true
all-picked t [] = refl
all-picked t (id ∷ ids) = all-picked t ids

met-inside : (h : List Dimension) (ps : List Part) (f : List Pick) → IsOfAll h f → in_each is_part_met h ps f ≡ true → in_each is_part_inside h ps f ≡ true
met-inside [] [] f all met = refl
met-inside [] (p ∷ ps) f all met = met
met-inside (d ∷ ds) [] f all met = met
met-inside (d ∷ ds) (p ∷ ps) [] all met = met
met-inside (d ∷ ds) (p ∷ ps) (x ∷ xs) all met =
    let here : is_part_inside d.tree p x ≡ true = ap (is_part_inside d.tree p) (all 0 (omega arith)) ∙ all-picked d.tree p.ids.items in
    let there = met-inside ds ps xs (λ dim lt. all (suc dim) (omega (arith, lt))) (and_parts (is_part_met d.tree p x) (in_each is_part_met ds ps xs) met).1 in
    and_from (is_part_inside d.tree p x) (in_each is_part_inside ds ps xs) here there

nothing-noted : (h : List Dimension) (f : List Pick) (gate : Gate) → IsOfAll h f → root_items h f gate ≡ []
nothing-noted h f gate all = on_bool (overlaps h gate.set f)
    (λ q. let inside : is_inside h gate.set f ≡ true = met-inside h gate.set.parts.items f all (and_parts (nat_lt 0 (length h)) (in_each is_part_met h gate.set.parts.items f) q).1 in rw (q, inside) refl)
    (λ q. rw q refl)

some-noted : (items : List Item) (item : Item) → items ++ item ∷ [] ≡ [] → ⊥
some-noted [] item e = cc
some-noted (first ∷ items) item e = cc

abbrev errand_in : ActorValue → Option ErrandValue
errand_in a = a.errand

module _ (h : List Dimension) (a b : ActorValue) (e : ErrandValue) (errand : a.errand ≡ Some e) (off : IsNoRow e) where
  -- A step between desks, tables and gates ends the part, or sends it on.

  take-part : (cs : List Change) → Does h kind.TakePart cs a b → b.errand ≡ None
  take-part (d ∷ []) does = (let never : None ≡ Some e = sym does.free ∙ errand in absurd (cc))
  take-part cs does = absurd does

  look-up : IsNoBalance a.command → (cs : List Change) → Does h kind.LookUp cs a b → b.errand ≡ None
  look-up none (m ∷ g ∷ []) does = elim does [
    | inl n ↦ absurd (no-row a e errand off n.e n.r n.has)
    | inr r ↦ absurd (none r.of r.balance r.command)
  ]
  look-up none cs does = absurd does

  forward : (cs : List Change) → Does h kind.Forward cs a b → b.errand ≡ None
  forward (m ∷ d ∷ []) does = ap errand_in does.actor_is
  forward cs does = absurd does

  expand : (cs : List Change) → Does h kind.Expand cs a b → b.errand ≡ None
  expand (m ∷ d ∷ []) does = ap errand_in does.actor_is
  expand cs does = absurd does

  finish : (cs : List Change) → Does h kind.FinishPart cs a b → b.errand ≡ None
  finish (d ∷ []) does = ap errand_in does.actor_is
  finish (g ∷ d ∷ []) does = ap errand_in does.actor_is
  finish cs does = absurd does

  pub part-ends : (step : PartStep) (cs : List Change) → IsNoBalance a.command → Does h (part_kind step) cs a b → b.errand ≡ None
  part-ends (part.TakePart desk) cs none does = take-part cs does
  part-ends (part.LookUp map gate) cs none does = look-up none cs does
  part-ends (part.Forward map desk) cs none does = forward cs does
  part-ends (part.Expand map desk) cs none does = expand cs does
  part-ends (part.FinishPart desk) cs none does = finish cs does
  part-ends (part.FinishPinned gate desk) cs none does = finish cs does

  -- A step at a gate or at a block reads the gate, or visits the block.

  module _ {X : Type 0} (reads : (m g : Change) → DoesGateRead h m g a b → X) (visits : (c : Change) → DoesBlockVisit h c a b → X) where
    gate-read : (cs : List Change) → Does h kind.GateRead cs a b → X
    gate-read (m ∷ g ∷ []) does = reads m g does
    gate-read cs does = absurd does

    block-visit : (cs : List Change) → Does h kind.BlockVisit cs a b → X
    block-visit (c ∷ []) does = visits c does
    block-visit cs does = absurd does

    tree-reads : (step : TreeStep) (cs : List Change) → IsForRow step a → Does h (tree_kind step) cs a b → X
    tree-reads (tree.PutInLeaf leaf) cs of_row does = absurd (no-put h a b e errand off cs does)
    tree-reads (tree.LeaveTree gate) cs of_row does = absurd (no-leaving h a b e errand off cs does)
    tree-reads (tree.EnterQueue map gate) cs of_row does = absurd (no-queue h a b e errand off cs does)
    tree-reads (tree.ReadGate map gate) cs of_row does = gate-read cs does
    tree-reads (tree.VisitBlock block) cs of_row does = block-visit cs does
    tree-reads tree.Refill cs of_row does = absurd (no-row a e errand off of_row.0 of_row.1 of_row.2)
    tree-reads tree.GiveBack cs of_row does = absurd (no-row a e errand off of_row.0 of_row.1 of_row.2)

module _ (h : List Dimension) (a b : ActorValue) where
  -- a part of a query over everything, by its reading of the gate

  reads-alone : IsOfEverything h a → (m g : Change) → DoesGateRead h m g a b → HasReadAlone b
  reads-alone k m g does =
      let same : Unread k.unread.filter ≡ Unread does.filter = sym k.unread.unread ∙ its-task a k.unread.e does.e k.unread.errand does.errand ∙ does.unread in
      let one : k.unread.filter ≡ does.filter = cc in
      let nothing = nothing-noted h does.filter does.gate (subst (IsOfAll h) one k.all) in
      record { e = _; reading = _; errand = ap errand_in does.actor_is; task = refl; none = nothing; alone = ap (pin_if g.number) nothing }

  no-visit : {X : Type 0} → IsOfEverything h a → (c : Change) → DoesBlockVisit h c a b → X
  no-visit k c does = (let never : Unread k.unread.filter ≡ Read does.r = sym k.unread.unread ∙ its-task a k.unread.e does.e k.unread.errand does.errand ∙ does.reading in absurd (cc))

  pub tree-alone : (step : TreeStep) (cs : List Change) → IsForRow step a → Does h (tree_kind step) cs a b → IsOfEverything h a → (b.errand ≡ None) ⊎ HasReadAlone b
  tree-alone step cs of_row does k =
      tree-reads h a b k.unread.e k.unread.errand (unread-alone k.unread) (λ m g reads. inr (reads-alone k m g reads)) (no-visit k) step cs of_row does

  -- one that has read it alone is led to no gate, and has noted no block

  no-gate : {X : Type 0} → HasReadAlone a → (m g : Change) → DoesGateRead h m g a b → X
  no-gate k m g does = (let never : Read k.reading ≡ Unread does.filter = sym k.task ∙ its-task a k.e does.e k.errand does.errand ∙ does.unread in absurd (cc))

  no-block : {X : Type 0} → HasReadAlone a → (c : Change) → DoesBlockVisit h c a b → X
  no-block k c does =
      let same : Read k.reading ≡ Read does.r = sym k.task ∙ its-task a k.e does.e k.errand does.errand ∙ does.reading in
      let one : k.reading ≡ does.r = cc in
      absurd (some-noted does.items does.item (sym does.noted ∙ ap (λ (z : ReadingValue). z.items) (sym one) ∙ k.none))

  pub tree-over : (step : TreeStep) (cs : List Change) → IsForRow step a → Does h (tree_kind step) cs a b → HasReadAlone a → b.errand ≡ None
  tree-over step cs of_row does k = tree-reads h a b k.e k.errand (read-alone k) (no-gate k) (no-block k) step cs of_row does
