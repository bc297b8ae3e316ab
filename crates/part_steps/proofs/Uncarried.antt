-- What the steps of parts and trees leave of their actor: it is beside its part as before, and carries no row.
use Rattle.std.proofs.Common.{◌≡◌, ◌∙◌, ℕ, true, List, [], ◌∷◌, Option, Some, None, refl, sym, ap, inl, inr}
use Rattle.cell_stock.specs.declared.purse.Spare.{Spare}
use Rattle.seat_steps.specs.core_steps.specs.{Parts.part_kind, Trees.tree_kind}
use Rattle.seat_steps.specs.core_steps.specs.declared.{parts.PartStep.PartStep, trees.TreeStep.TreeStep}
use Rattle.seat_steps.specs.core_steps.specs.declared.parts.PartStep.TheVariants as part
use Rattle.seat_steps.specs.core_steps.specs.declared.trees.TreeStep.TheVariants as tree
use Rattle.dim_hierarchy.specs.Dimension.{Dimension}
use Rattle.query_router.specs.declared.part.{Part.Part, Want.Want}
use Rattle.query_router.specs.declared.part.Want.TheVariants as want
use Rattle.part_steps.specs.Goings.{IsBesidePart}
use Rattle.seat_steps.specs.Floors.{at_block, kept_by, kept_on}
use Rattle.seat_steps.specs.volap_cell.specs.{Errands.{IsCarried, RowWay, block_at, way_of}, ImageKinds.doing, Kinds.Does, ShardKinds.errand_for, TreeKinds.on_way, Values.{ActorValue, ErrandValue}, World.Change, declared.command.Balance.Balance}
use Rattle.seat_steps.specs.volap_cell.specs.declared.command.Work.TheVariants as work_is
use Rattle.seat_steps.specs.volap_cell.specs.declared.errand.Way.TheVariants.{Before, Placed, Put}
use Rattle.seat_steps.specs.volap_cell.specs.declared.kind.Kind.TheVariants as kind

-- the actor is beside its part as before, and carries no row
abbrev pub IsUncarried : ActorValue → ActorValue → Type 0
IsUncarried a b = IsBesidePart a b × (kept_by b ≡ [])

abbrev with_part : ActorValue → ActorValue → ActorValue
with_part a z = record a { errand = z.errand; purse = z.purse; boxes = z.boxes }

-- no more changes than the errand, the purse and the boxes
pub beside : (a b : ActorValue) (errand : Option ErrandValue) (purse : List Spare) (boxes : ℕ) → b ≡ record a { errand = errand; purse = purse; boxes = boxes } → IsBesidePart a b
beside a b errand purse boxes e = e ∙ ap (with_part a) (sym e)

uncarried : (a b : ActorValue) (errand : Option ErrandValue) (purse : List Spare) (boxes : ℕ) → b ≡ record a { errand = errand; purse = purse; boxes = boxes } → kept_on (way_of errand) ≡ [] → IsUncarried a b
uncarried a b errand purse boxes e none = (beside a b errand purse boxes e, ap kept_by e ∙ none)

-- where no block must be kept, none is
none-at : (o : Option ℕ) → ((y : ℕ) → o ≡ Some y → ⊥) → at_block o ≡ []
none-at None off = refl
none-at (Some y) off = absurd (off y refl)

none-on : (way : Option RowWay) → ((y : ℕ) → ¬ IsCarried way y) → kept_on way ≡ []
none-on None off = refl
none-on (Some r) off = none-at (block_at r.place) off

-- Parts.

-- a part that is taken is before its gate
taken-outside : (server : ℕ) (p : Part) (wanted : Want) → kept_on (way_of (Some (errand_for server p wanted))) ≡ []
taken-outside server p (want.Row row) = refl
taken-outside server p (want.Filter filter) = refl

module _ (h : List Dimension) (a b : ActorValue) where
  pub take-part : (cs : List Change) → Does h kind.TakePart cs a b → IsUncarried a b
  take-part (d ∷ []) does = uncarried a b (Some (errand_for does.server does.part does.wanted)) a.purse a.boxes does.actor_is (taken-outside does.server does.part does.wanted)
  take-part cs does = absurd does

  look-up : (cs : List Change) → ((of : ℕ) (balance : Balance) → a.command ≡ doing of (work_is.Balance balance) → ⊥) → Does h kind.LookUp cs a b → IsUncarried a b
  look-up (m ∷ g ∷ []) none does = elim does [
    | inl n ↦ uncarried a b (on_way n.e n.r (Before (Some n.gate.height) n.filled)) a.purse a.boxes n.actor_is refl
    | inr r ↦ absurd (none r.of r.balance r.command)
  ]
  look-up cs none does = absurd does

  forward : (cs : List Change) → Does h kind.Forward cs a b → IsUncarried a b
  forward (m ∷ d ∷ []) does = uncarried a b None a.purse a.boxes does.actor_is refl
  forward cs does = absurd does

  expand : (cs : List Change) → Does h kind.Expand cs a b → IsUncarried a b
  expand (m ∷ d ∷ []) does = uncarried a b None a.purse a.boxes does.actor_is refl
  expand cs does = absurd does

  finish : (cs : List Change) → Does h kind.FinishPart cs a b → IsUncarried a b
  finish (d ∷ []) does = uncarried a b None a.purse a.boxes does.actor_is refl
  finish (g ∷ d ∷ []) does = uncarried a b None a.purse a.boxes does.actor_is refl
  finish cs does = absurd does

  pub part-left : (step : PartStep) (cs : List Change) → ((of : ℕ) (balance : Balance) → a.command ≡ doing of (work_is.Balance balance) → ⊥) → Does h (part_kind step) cs a b → IsUncarried a b
  part-left (part.TakePart desk) cs none does = take-part cs does
  part-left (part.LookUp map gate) cs none does = look-up cs none does
  part-left (part.Forward map desk) cs none does = forward cs does
  part-left (part.Expand map desk) cs none does = expand cs does
  part-left (part.FinishPart desk) cs none does = finish cs does
  part-left (part.FinishPinned gate desk) cs none does = finish cs does

  -- Trees and purses.

  put-in-leaf : (cs : List Change) → Does h kind.PutInLeaf cs a b → IsUncarried a b
  put-in-leaf (c ∷ []) does = uncarried a b (on_way does.e does.r (Put does.gate)) a.purse b.boxes does.actor_is refl
  put-in-leaf cs does = absurd does

  leave-tree : (cs : List Change) → Does h kind.LeaveTree cs a b → IsUncarried a b
  leave-tree (g ∷ []) does = uncarried a b (on_way does.e does.r Placed) a.purse a.boxes does.actor_is refl
  leave-tree cs does = absurd does

  enter-queue : (cs : List Change) → Does h kind.EnterQueue cs a b → IsUncarried a b
  enter-queue (m ∷ g ∷ []) does = uncarried a b (on_way does.e does.r Placed) a.purse a.boxes does.actor_is refl
  enter-queue cs does = absurd does

  gate-read : (cs : List Change) → Does h kind.GateRead cs a b → IsUncarried a b
  gate-read (m ∷ g ∷ []) does = uncarried a b _ a.purse a.boxes does.actor_is refl
  gate-read cs does = absurd does

  block-visit : (cs : List Change) → Does h kind.BlockVisit cs a b → IsUncarried a b
  block-visit (c ∷ []) does = uncarried a b _ a.purse a.boxes does.actor_is refl
  block-visit cs does = absurd does

  refill : (cs : List Change) → Does h kind.Refill cs a b → IsUncarried a b
  refill (c ∷ []) does = elim does.does [
    | inl f ↦ uncarried a b (on_way f.1.e f.1.r (Before (Some f.0) true)) b.purse b.boxes f.1.actor_is refl
    | inr e ↦ uncarried a b a.errand [] a.boxes e.actor_is (none-on (way_of a.errand) e.none_carried)
  ]
  refill cs does = absurd does

  pub tree-left : (step : TreeStep) (cs : List Change) → Does h (tree_kind step) cs a b → IsUncarried a b
  tree-left (tree.PutInLeaf leaf) cs does = put-in-leaf cs does
  tree-left (tree.LeaveTree gate) cs does = leave-tree cs does
  tree-left (tree.EnterQueue map gate) cs does = enter-queue cs does
  tree-left (tree.ReadGate map gate) cs does = gate-read cs does
  tree-left (tree.VisitBlock block) cs does = block-visit cs does
  tree-left tree.Refill cs does = refill cs does
  tree-left tree.GiveBack cs does = refill cs does
