-- How many items each block of a built tree has.
use Rattle.std.specs.{Int.div_ceil, List.flat_map, Prelude.{ℕ, zero, suc, ◌-◌, min, List, [], ◌∷◌, ◌++◌, map, nat_le, if◌then◌else◌}}
use Rattle.dc_node.specs.Block.{size}
use Rattle.tree_shape.specs.link_descent.specs.declared.entered.Fresh.{Fresh}
use Rattle.shard_plan.specs.Building.{leaf_rows, parent_nodes, leaves_for, levels_of}

abbrev pub sizes_of : List Fresh → List ℕ
sizes_of blocks = map (λ f. size f.block.body) blocks

-- how many of n items each of the blocks takes, one after the other: k as long as there are so many, then those that are left
abbrev pub put_by : ℕ → ℕ → ℕ → List ℕ
put_by k zero n = []
put_by k (suc blocks) n = min k n ∷ put_by k blocks (n - k)

-- how many blocks each parent over a level of n has; there is no parent over the root
abbrev pub parent_sizes : ℕ → List ℕ
parent_sizes n = if nat_le n 1 then [] else put_by parent_nodes (div_ceil n parent_nodes) n

-- how many rows each leaf of the tree of n rows has, and then how many entries each parent has, level by level
abbrev pub built_sizes : ℕ → List ℕ
built_sizes n = put_by leaf_rows (leaves_for n) n ++ flat_map parent_sizes (levels_of n)
