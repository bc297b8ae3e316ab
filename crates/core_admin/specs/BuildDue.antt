-- What the step that makes the new trees asks of the gate and of its actor, and what its calls do.
use Rattle.std.specs.Prelude.{ℕ, ◌≡◌, ◌+◌, ◌^◌, ◌<◌, ◌≤◌, List, [], Some, None, length, map, filter, All, Bool, true, false, not}
use Rattle.cell_stock.specs.{Stock.PurseValue, declared.purse.Spare.Spare}
use Rattle.describing_set.specs.{Plane.{IsHierarchyPlane, goes_left}, declared.plane.Plane.Plane}
use Rattle.dim_hierarchy.specs.{Dimension.Dimension, Rows.IsRowOf, declared.row.Row.Row}
use Rattle.core_tree.specs.link_descent.specs.declared.entered.Fresh.{Fresh}
use Rattle.core_tree.specs.shard_build.specs.{Built.IsBuilt, declared.builder.Built.Built}
use Rattle.shard_plan.specs.Building.{cells_for}
use Rattle.core_tree.specs.shard_store.specs.declared.gate.Phase.TheVariants as phase
use Rattle.core_tree.specs.volap_cell.specs.{AdminKinds.{HasJob, IsBuiltOf, left_of, right_of}, Cells.{CellValue, phase_of}, Values.{ActorValue, BuildingValue, CollectingValue, JobValue, Builds, Collects}, declared.job.Unbuilt.Unbuilt}

-- nothing is noted for the actor's job any more, and the queue as it was when the shard was frozen is collected
pub record CanBuildTrees (gate_at : ℕ) (gate : CellValue) (a : ActorValue) : Type 0 where
  pub job : JobValue
  pub collecting : CollectingValue
  pub has : HasJob a job (Collects collecting)
  pub all_read : collecting.items ≡ []
  pub here : collecting.frozen.gate ≡ gate_at
  pub frozen : phase_of gate ≡ Some (phase.Frozen collecting.queued)

-- rows of the hierarchy, a plane of it, and spares for the blocks of all trees
pub record CanBuild (h : List Dimension) (spares : List Spare) (c : CollectingValue) : Type 0 where
  pub rows : All (IsRowOf h) c.rows
  pub few : length c.rows < 2 ^ 32
  pub plane : (p : Plane) → c.frozen.plane ≡ Some p → IsHierarchyPlane h p
  pub one : c.frozen.plane ≡ None → cells_for (length c.rows) ≤ length spares
  pub two : (p : Plane) → c.frozen.plane ≡ Some p → cells_for (length (left_of h p c.rows)) + cells_for (length (right_of h p c.rows)) ≤ length spares

pub record MayBuild (h : List Dimension) (spares : List Spare) (job : JobValue) : Type 0 where
  pub collecting : CollectingValue
  pub stage_is : job.stage ≡ Collects collecting
  pub can : CanBuild h spares collecting

-- what is built of what was collected
pub record IsMadeOf (h : List Dimension) (c : CollectingValue) (purse purse_now : PurseValue) (b : BuildingValue) : Type 0 where
  pub frozen_is : b.frozen ≡ c.frozen
  pub read_is : b.read ≡ c.read
  pub built : IsBuiltOf h c.frozen.plane c.rows purse purse_now b

pub record BuildsTrees (h : List Dimension) (purse purse_now : PurseValue) (job job_now : JobValue) : Type 0 where
  pub collecting : CollectingValue
  pub building : BuildingValue
  pub was : job.stage ≡ Collects collecting
  pub made : IsMadeOf h collecting purse purse_now building
  pub is : job_now ≡ record job { stage = Builds building }

-- blocks that aren't in their cells, without their boxes
abbrev pub blocks_of : List Unbuilt → List Fresh
blocks_of unbuilt = map (λ u. record { cell = u.cell; block = u.block.value }) unbuilt

-- two trees, one after the other
pub record AreBuilt (h : List Dimension) (left right : List Row) (purse purse_now : PurseValue) (first second : Built) : Type 0 where
  pub between : PurseValue
  pub left_is : IsBuilt h left purse between first
  pub right_is : IsBuilt h right between purse_now second

-- whether a row is on the side, by whether it goes left
abbrev pub is_side : Bool → Bool → Bool
is_side true goes = goes
is_side false goes = not goes

-- the rows on one side of a plane
abbrev pub side_of : List Dimension → Plane → Bool → List Row → List Row
side_of h plane left rows = filter (λ r. is_side left (goes_left h plane r.at)) rows
