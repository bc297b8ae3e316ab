-- One dimension of a describing set: the part of a list of concepts.
use Rattle.std.specs.{List.list_any, Prelude.{ℕ, zero, suc, ◌==◌, List, length, map, Bool, nat_le, if◌then◌else◌}}
use Rattle.dim_hierarchy.specs.Tree.{Tree, up, leaf_level}
use Rattle.describing_set.specs.{Ascending.{ascending, most_of_set}, declared.part.Part.Part}

-- a level and concepts of it
abbrev pub part : ℕ → List ℕ → Part
part level ids = record { level = level; ids = record { items = ids } }

-- the different ancestors of concepts at a level, ascending
abbrev pub ancestors : Tree → ℕ → List ℕ → List ℕ
ancestors t level ids = ascending (map (λ id. up t id level) ids)

-- the deepest level, from `top` up, at which the concepts have at most 6 different ancestors, and these ancestors
unfoldable pub part_from : Tree → ℕ → List ℕ → Part
part_from t zero ids = part 0 (ancestors t 0 ids)
part_from t (suc top) ids =
    if nat_le (length (ancestors t (suc top) ids)) most_of_set then part (suc top) (ancestors t (suc top) ids) else part_from t top ids

-- the part of a list of leaf concepts
abbrev pub part_of : Tree → List ℕ → Part
part_of t ids = part_from t (leaf_level t) ids

-- the concept's ancestor at the part's level is in the part
abbrev pub has_ancestor : Tree → Part → ℕ → Bool
has_ancestor t p id = list_any (λ x. x == up t id p.level) p.ids.items
