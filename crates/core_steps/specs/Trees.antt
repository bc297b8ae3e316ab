-- What the steps of rows and queries at a gate or a block are, where their cells are, and what they ask.
use Rattle.std.specs.Prelude.{ℕ, ◌≤◌, List, ◌∷◌, Option, Some, Bool, true, false}
use Rattle.core_steps.specs.Places.{one_at, two_at}
use Rattle.core_steps.specs.declared.trees.TreeStep.{TreeStep}
use Rattle.core_steps.specs.declared.trees.TreeStep.TheVariants as tree
use Rattle.core_admin.specs.core_tree.specs.{Due.CanPutInLeaf, DueAtGates.{CanEnterQueue, CanGiveBack, CanLeaveTree, CanRefill}, ReadDue.{CanBlockVisit, CanGateRead, room_to_note}}
use Rattle.dim_hierarchy.specs.Dimension.{Dimension}
use Rattle.core_shard.specs.link_descent.specs.Visit.{most_noted}
use Rattle.core_shard.specs.volap_cell.specs.{Cells.CellValue, Setting.stock_cell, Values.ActorValue, declared.actor.Actor.Actor, declared.kind.Kind.Kind}
use Rattle.core_shard.specs.volap_cell.specs.declared.kind.Kind.TheVariants as kind

abbrev pub tree_kind : TreeStep → Kind
tree_kind (tree.PutInLeaf leaf) = kind.PutInLeaf
tree_kind (tree.LeaveTree gate) = kind.LeaveTree
tree_kind (tree.EnterQueue map gate) = kind.EnterQueue
tree_kind (tree.ReadGate map gate) = kind.GateRead
tree_kind (tree.VisitBlock block) = kind.BlockVisit
tree_kind tree.Refill = kind.Refill
tree_kind tree.GiveBack = kind.Refill

abbrev pub tree_places : TreeStep → List (Option ℕ)
tree_places (tree.PutInLeaf leaf) = one_at leaf
tree_places (tree.LeaveTree gate) = one_at gate
tree_places (tree.EnterQueue map gate) = two_at map gate
tree_places (tree.ReadGate map gate) = two_at map gate
tree_places (tree.VisitBlock block) = one_at block
tree_places tree.Refill = one_at stock_cell
tree_places tree.GiveBack = one_at stock_cell

abbrev pub tree_asks : TreeStep → List Dimension → List (Option CellValue) → ActorValue → Type 0
tree_asks (tree.PutInLeaf leaf_at) h (Some leaf ∷ _) a = CanPutInLeaf leaf_at leaf a
tree_asks (tree.LeaveTree gate_at) h (Some gate ∷ _) a = CanLeaveTree gate_at a
tree_asks (tree.EnterQueue map_at gate_at) h (Some map ∷ Some gate ∷ _) a = CanEnterQueue map_at map gate_at gate a
tree_asks (tree.ReadGate map_at gate_at) h (Some map ∷ Some gate ∷ _) a = CanGateRead map gate_at a
tree_asks (tree.VisitBlock block_at) h (Some block ∷ _) a = CanBlockVisit block_at a
tree_asks tree.Refill h (Some stock ∷ _) a = CanRefill stock a
tree_asks tree.GiveBack h (Some stock ∷ _) a = CanGiveBack stock a
tree_asks step h held a = ⊥

-- whether it may find no memory
abbrev pub tree_may_fail : TreeStep → Bool
tree_may_fail (tree.EnterQueue map gate) = true
tree_may_fail (tree.ReadGate map gate) = true
tree_may_fail (tree.VisitBlock block) = true
tree_may_fail tree.Refill = true
tree_may_fail step = false

-- whether it finds its memory in the rooms of its actor
abbrev pub tree_has_room : TreeStep → Actor → Type 0
tree_has_room (tree.VisitBlock block) a = most_noted ≤ room_to_note a
tree_has_room step a = ⊥
