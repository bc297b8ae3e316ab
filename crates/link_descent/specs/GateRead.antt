-- What a query takes at a gate, of the queue and of the tree: an aggregate where the set is inside the filter; where it
-- overlaps else, the matching rows one by one, or the root noted.
use Rattle.std.specs.Prelude.{if◌then◌else◌, List, [], ◌∷◌}
use Rattle.dim_hierarchy.specs.{Dimension.Dimension, declared.filter.Pick.Pick}
use Rattle.measure_agg.specs.Aggregate.{Aggregate, agg}
use Rattle.describing_set.specs.Filter.{is_inside, overlaps}
use Rattle.dc_node.specs.{Summary.{joined, aggs}, declared.todo.Item.Item}
use Rattle.shard_store.specs.{Gate.root_entry, declared.gate.Gate.Gate, declared.queue.Queue.Queue}
use Rattle.link_descent.specs.Visit.{matching, taken, noted}

-- what it takes of the queue
abbrev pub queue_part : List Dimension → List Pick → Queue → Aggregate
queue_part h f queue = if is_inside h queue.set f then queue.agg else if overlaps h queue.set f then agg (matching h f queue.rows) else agg []

-- what it takes of the tree
abbrev pub tree_part : List Dimension → List Pick → Gate → Aggregate
tree_part h f gate = joined (aggs (taken h f (root_entry gate ∷ [])))

-- the root, where it has to go down
abbrev pub root_items : List Dimension → List Pick → Gate → List Item
root_items h f gate = noted h f (root_entry gate ∷ [])
