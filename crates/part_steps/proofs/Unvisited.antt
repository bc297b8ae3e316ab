-- From a query's part that has read no gate a step leads to no part, to one that has read no gate, or to one whose gate it read.
use Rattle.std.proofs.Common.{◌≡◌, ◌∙◌, List, [], ◌∷◌, Option, Some, None, sym, ap, inl, inr}
use Rattle.seat_steps.specs.core_steps.specs.{Parts.part_kind, Steps.Went, Trees.{tree_kind, tree_places}}
use Rattle.seat_steps.specs.core_steps.specs.declared.{parts.PartStep.PartStep, trees.TreeStep.TreeStep}
use Rattle.seat_steps.specs.core_steps.specs.declared.parts.PartStep.TheVariants as part
use Rattle.seat_steps.specs.core_steps.specs.declared.trees.TreeStep.TheVariants as tree
use Rattle.dim_hierarchy.specs.Dimension.{Dimension}
use Rattle.part_steps.proofs.NoRows.{IsNoRow, its-task, no-leaving, no-put, no-queue, no-row, unread-alone}
use Rattle.part_steps.specs.{Parts.IsUnread, Reads.{Anything, IsBeforeBlocks}}
use Rattle.seat_steps.specs.volap_cell.specs.{Kinds.Does, Values.{ActorValue, ErrandValue, Read, ReadingValue, Unread}, World.Change, declared.cell.Cell.Cell}
use Rattle.seat_steps.specs.volap_cell.specs.declared.kind.Kind.TheVariants as kind

-- an actor with the same part has read no gate either
pub unread-still : {a b : ActorValue} → b.errand ≡ a.errand → IsUnread a → IsUnread b
unread-still same u = record { e = u.e; filter = u.filter; errand = same ∙ u.errand; unread = u.unread }

module _ (h : List Dimension) (a b : ActorValue) (u : IsUnread a) where
  abbrev errand_in : ActorValue → Option ErrandValue
  errand_in z = z.errand

  -- What the part is not.

  off : IsNoRow u.e
  off = unread-alone u

  no-reading : (e : ErrandValue) (r : ReadingValue) → a.errand ≡ Some e → e.task ≡ Read r → ⊥
  no-reading e r errand reading = (let never : Unread u.filter ≡ Read r = sym u.unread ∙ its-task a u.e e u.errand errand ∙ reading in cc)

  no-none : a.errand ≡ None → ⊥
  no-none free = (let never : None ≡ Some u.e = sym free ∙ u.errand in cc)

  -- Parts.

  take-part : (cs : List Change) → Does h kind.TakePart cs a b → IsBeforeBlocks h b
  take-part (d ∷ []) does = absurd (no-none does.free)
  take-part cs does = absurd does

  look-up : (cs : List Change) → Does h kind.LookUp cs a b → IsBeforeBlocks h b
  look-up (m ∷ g ∷ []) does = elim does [
    | inl n ↦ absurd (no-row a u.e u.errand off n.e n.r n.has)
    | inr r ↦ inr (inl (unread-still (ap errand_in r.actor_is) u))
  ]
  look-up cs does = absurd does

  forward : (cs : List Change) → Does h kind.Forward cs a b → IsBeforeBlocks h b
  forward (m ∷ d ∷ []) does = inl (ap errand_in does.actor_is)
  forward cs does = absurd does

  expand : (cs : List Change) → Does h kind.Expand cs a b → IsBeforeBlocks h b
  expand (m ∷ d ∷ []) does = inl (ap errand_in does.actor_is)
  expand cs does = absurd does

  finish : (cs : List Change) → Does h kind.FinishPart cs a b → IsBeforeBlocks h b
  finish (d ∷ []) does = inl (ap errand_in does.actor_is)
  finish (g ∷ d ∷ []) does = inl (ap errand_in does.actor_is)
  finish cs does = absurd does

  pub part-unvisited : (step : PartStep) (cs : List Change) → Does h (part_kind step) cs a b → IsBeforeBlocks h b
  part-unvisited (part.TakePart desk) cs does = take-part cs does
  part-unvisited (part.LookUp map gate) cs does = look-up cs does
  part-unvisited (part.Forward map desk) cs does = forward cs does
  part-unvisited (part.Expand map desk) cs does = expand cs does
  part-unvisited (part.FinishPart desk) cs does = finish cs does
  part-unvisited (part.FinishPinned gate desk) cs does = finish cs does

  -- Trees and purses.

  no-visit : (cs : List Change) → Does h kind.BlockVisit cs a b → ⊥
  no-visit (c ∷ []) does = no-reading does.e does.r does.errand does.reading
  no-visit cs does = does

  refill : (cs : List Change) → Does h kind.Refill cs a b → IsBeforeBlocks h b
  refill (c ∷ []) does = elim does.does [
    | inl f ↦ absurd (no-row a u.e u.errand off f.1.e f.1.r f.1.has)
    | inr e ↦ inr (inl (unread-still (ap errand_in e.actor_is) u))
  ]
  refill cs does = absurd does

  pub tree-unvisited : (step : TreeStep) (was now : List (Option Cell)) → Went h (tree_kind step) Anything (tree_places step) was now a b → IsBeforeBlocks h b
  tree-unvisited (tree.PutInLeaf leaf) was now went = absurd (no-put h a b u.e u.errand off _ went.makes.does)
  tree-unvisited (tree.LeaveTree gate) was now went = absurd (no-leaving h a b u.e u.errand off _ went.makes.does)
  tree-unvisited (tree.EnterQueue map gate) was now went = absurd (no-queue h a b u.e u.errand off _ went.makes.does)
  tree-unvisited (tree.ReadGate map gate) was now went = inr (inr (a, u, record { map = map; gate = gate; before = was; after = now; went = went }))
  tree-unvisited (tree.VisitBlock block) was now went = absurd (no-visit _ went.makes.does)
  tree-unvisited tree.Refill was now went = refill _ went.makes.does
  tree-unvisited tree.GiveBack was now went = refill _ went.makes.does
