-- Which items of a head have a lifted concept in common with an item that no head cut keeps beside them.
use Rattle.std.specs.{List.list_any, Prelude.{ℕ, ◌==◌, List, Bool, not, ◌&&◌, ◌||◌}}
use Rattle.dim_hierarchy.specs.{Dimension.{Dimension, tree}, Tree.up}
use Rattle.describing_set.specs.{DescSet.part_at, declared.set.DescSet.DescSet}
use Rattle.hierarchy_split.specs.{Cut.lifted, Order.least}

-- one of an item's lifted concepts is among these
abbrev pub has_lifted : List Dimension → ℕ → ℕ → DescSet → List ℕ → Bool
has_lifted h dim level set concepts = list_any (λ id. list_any (λ x. x == up (tree h dim) id level) concepts) (part_at set dim).ids.items

-- an item has another least lifted concept than this one, and yet a lifted concept of it
abbrev pub crosses : List Dimension → ℕ → ℕ → DescSet → DescSet → Bool
crosses h dim level set other =
    not (least (lifted h dim level other) == least (lifted h dim level set)) && has_lifted h dim level other (lifted h dim level set)

-- so does an item of the head
abbrev pub is_crossed_in_head : List Dimension → List DescSet → ℕ → ℕ → DescSet → Bool
is_crossed_in_head h head dim level set = list_any (crosses h dim level set) head

-- one of the items of other blocks has a lifted concept of this item
abbrev pub is_crossed_in_others : List Dimension → List DescSet → ℕ → ℕ → DescSet → Bool
is_crossed_in_others h others dim level set = list_any (λ other. has_lifted h dim level set (lifted h dim level other)) others

-- one that no head cut keeps beside this item has a lifted concept of it
abbrev pub is_crossed : List Dimension → List DescSet → List DescSet → ℕ → ℕ → DescSet → Bool
is_crossed h head others dim level set = is_crossed_in_head h head dim level set || is_crossed_in_others h others dim level set
