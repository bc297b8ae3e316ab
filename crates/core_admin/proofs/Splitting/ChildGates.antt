-- The gates of the children of a shard: their sets are valid, and their boxes are true.
use Rattle.std.proofs.Common.{◌≡◌, ℕ, ◌+◌, Bool, true, false, List, Option, Some, sym, ap, ◌∙◌, subst, drop}
use Rattle.std.specs.FinMap as map
use Rattle.std.specs.Ordering.{nat_cmp}
use Rattle.describing_set.specs.{Sets.IsDescSetOf, declared.plane.Plane.Plane, declared.set.DescSet.DescSet}
use Rattle.dim_hierarchy.specs.Dimension.{Dimension}
use Rattle.mapping_table.specs.declared.place.Where.{Where}
use Rattle.server_image.specs.Registry.{RegistryValue}
use Rattle.core_tree.specs.shard_store.specs.{Gate.IsQueueOf, declared.gate.Gate.Gate}
use Rattle.core_tree.specs.volap_cell.specs.{AdminKinds.{IsGateFor, IsTrueBox}, Values.{BuildingValue, Builds, JobValue}, declared.job.BuiltTree.BuiltTree}
use Rattle.core_admin.specs.{BuildDue.side_of, FinishDue.IsLate, SplitDue.{DividesShard, EntersBoth, IsChildGate, MayDivideShard}}

module _ (h : List Dimension) (plane : Plane) (left : Bool) (shard : ℕ) (tree : BuiltTree) (gate made : Gate) (late : IsLate h gate) (is : IsChildGate h plane left shard tree gate made) where
  made-is : IsGateFor h shard tree (side_of h plane left (drop late.upto gate.queue.rows)) made
  made-is = is late.upto late.frozen

  pub child-true : (box : DescSet) → IsTrueBox h made.set made.queue.rows box → IsTrueBox h tree.set made.queue.rows box
  child-true box = subst (λ (set : DescSet). IsTrueBox h set made.queue.rows box) made-is.set

-- What a job has built is what it is asked to have built.
module _ (h : List Dimension) (table : map.FinMap nat_cmp Where) (gate : Gate) (registry : RegistryValue) (first : ℕ) (job : JobValue) (due : MayDivideShard h table gate registry first job)
    (building : BuildingValue) (stage : job.stage ≡ Builds building) where
  pub divides : (left_at right_at : ℕ) (table_now : map.FinMap nat_cmp Where) (registry_now : RegistryValue) (plane : Plane) (divided : building.frozen.plane ≡ Some plane) (tree : BuiltTree) (right_is : building.right ≡ Some tree) (left right : Gate)
      → IsChildGate h plane true first building.left gate left → IsChildGate h plane false (first + 1) tree gate right → (left_box right_box : DescSet) → IsTrueBox h left.set left.queue.rows left_box → IsTrueBox h right.set right.queue.rows right_box
      → EntersBoth table table_now registry registry_now job.shard plane first left_at right_at left_box right_box → DividesShard h left_at right_at table table_now gate registry registry_now first job left right
  divides left_at right_at table_now registry_now plane divided tree right_is left right left_gate right_gate left_box right_box left_true right_true enters = record {
    building = building;
    stage_is = stage;
    plane = plane;
    divided = divided;
    right_tree = tree;
    right_is = right_is;
    left_gate = left_gate;
    right_gate = right_gate;
    left_box = left_box;
    right_box = right_box;
    left_true = child-true h plane true first building.left gate left due.gate_is left_gate left_box left_true;
    right_true = child-true h plane false (first + 1) tree gate right due.gate_is right_gate right_box right_true;
    enters = enters;
  }
