-- How a name is found by its hash.
use Rattle.std.specs.{BTreeMap.is_at, Cmp.Lexicographic.slice_cmp, Global.Global, List.{flat_map, fold, slice_get, slice_index}, Map.lookup, Option.option_map, Ordering.nat_cmp, Prelude.{ℕ, zero, suc, ◌≡◌, ◌<◌, ◌%◌, ◌/◌, ◌++◌, cond, List, [], ◌∷◌, map, length, replicate, nat_eq, Vec, Option, Some, None, All}, Str.bytes_eq}
use Rattle.std.specs.FinMap as fin
use Rattle.std.specs.Hash as fed
use Rattle.std.specs.Hash.FoldHasher as folding
use Rattle.dim_hierarchy.specs.{declared.name_nodes.NameNode.NameNode, declared.name_nodes.Stop.Stop, declared.name_nodes.Stop.TheVariants.{Here, Free, Full}}

-- each node has a place for each digit
abbrev pub HaveDigits : List NameNode → Type 0
HaveDigits nodes = All (λ n. length n.next ≡ 8) nodes

-- what std's hasher makes of a name
abbrev pub hash_of : List ℕ → ℕ
hash_of name = folding.finish (fold folding.write folding.initial (fed.slice fed.u8 name))

-- the node of a name, with none behind it
abbrev pub new_node : (hash : ℕ) (name : Vec ℕ Global) (id : ℕ) → NameNode
new_node h v c = record { hash = h; name = v; id = c; next = replicate 8 0 }

-- where a name's way ends, which has come to the place `at`, of whose node `onward` tells where it leads behind that
abbrev pub stop_at : (name : List ℕ) (hash at : ℕ) → Option NameNode → (NameNode → Stop) → Stop
stop_at name hash at None onward = Full
stop_at name hash at (Some n) onward = cond (nat_eq n.hash hash) (cond (bytes_eq n.name.items name) (Here at) Full) (onward n)

-- where a name's way ends, which has come to the place `at`, with so many digits left
abbrev pub stop_behind : (nodes : List NameNode) (name : List ℕ) (hash left at digits : ℕ) → Stop
stop_behind nodes name hash zero at digits = stop_at name hash at (slice_get nodes at) (λ _. Full)
stop_behind nodes name hash (suc left) at digits = stop_at name hash at (slice_get nodes at) (λ n.
    let next = slice_index n.next (digits % 8) in
    cond (nat_eq next 0) (Free at (digits % 8)) (stop_behind nodes name hash left next (digits / 8)))

-- where a name's way ends
unfoldable pub stop_of : (nodes : List NameNode) (name : List ℕ) (hash : ℕ) → Stop
stop_of nodes name hash = stop_behind nodes name hash 21 0 hash

-- the places of a stop are places
abbrev pub IsStop : List NameNode → Stop → Type 0
IsStop nodes (Here at) = at < length nodes
IsStop nodes (Free at digit) = (at < length nodes) × (digit < 8)
IsStop nodes Full = Unit

-- the concept that names of a map have
abbrev pub found_among : List (Vec ℕ Global × ℕ) → List ℕ → Option ℕ
found_among others name = lookup (is_at (λ k. slice_cmp nat_cmp name k.items)) others

-- the concept that is found where a name's way ends
abbrev pub told_at : (nodes : List NameNode) (others : List (Vec ℕ Global × ℕ)) (name : List ℕ) → Stop → Option ℕ
told_at nodes others name (Here at) = option_map (λ n. n.id) (slice_get nodes at)
told_at nodes others name (Free at digit) = found_among others name
told_at nodes others name Full = found_among others name

-- the concept of a name
abbrev pub named_in : (nodes : List NameNode) (others : List (Vec ℕ Global × ℕ)) → List ℕ → Option ℕ
named_in nodes others name = told_at nodes others name (stop_of nodes name (hash_of name))

-- a name with its concept, where it has one
abbrev pub entry_of : List ℕ → Option ℕ → List (List ℕ × ℕ)
entry_of name None = []
entry_of name (Some id) = (name, id) ∷ []

-- all names
abbrev pub names_of : (nodes : List NameNode) (others : List (Vec ℕ Global × ℕ)) → List (List ℕ)
names_of nodes others = map (λ n. n.name.items) nodes ++ map (λ e. e.0.items) others

-- all names, each with its concept
abbrev pub name_map : (nodes : List NameNode) (others : List (Vec ℕ Global × ℕ)) → fin.FinMap (slice_cmp nat_cmp) ℕ
name_map nodes others = fin.from_entries (flat_map (λ name. entry_of name (named_in nodes others name)) (names_of nodes others))
