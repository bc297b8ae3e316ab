-- What the steps keep that make one dimension of a describing set, the part of a list of concepts.
use Rattle.std.specs.{List.slice_index_or, Prelude.{ℕ, ◌≡◌, ◌≤◌, List, [], ◌∷◌, ◌++◌, length, slice_set}}
use Rattle.dim_hierarchy.specs.{Concept.level_of, Tree.{Tree, IsConcept}}
use Rattle.describing_set.specs.{Ascending.most_of_set, Part.{part, part_from}, Places.AreFilled, Sorted.{In, Ascends}, declared.part.Part.Part}

-- eight places, of which the first `count` are used and the others hold no concept of level 0
abbrev pub AreParts : ℕ → List Part → Type 0
AreParts count places = AreFilled 8 (part 0 []) count places

-- concepts of the tree at the level `top` or deeper
pub record AreConcepts (t : Tree) (top : ℕ) (ids : List ℕ) : Type 0 where
  pub concept : (id : ℕ) → In id ids → IsConcept t id
  pub level : (id : ℕ) → In id ids → top ≤ level_of id

-- at most 6 concepts of the part's level, ascending
pub record IsPart (t : Tree) (p : Part) : Type 0 where
  pub concept : (id : ℕ) → In id p.ids.items → IsConcept t id
  pub level : (id : ℕ) → In id p.ids.items → level_of id ≡ p.level
  pub ascends : Ascends p.ids.items
  pub few : length p.ids.items ≤ most_of_set

-- where the old part is that of a list of concepts, the new one is that of the list with this concept
pub record GrowsPart (t : Tree) (id : ℕ) (old new : Part) : Type 0 where
  pub grown : (top : ℕ) (ids : List ℕ) → AreConcepts t top ids → old ≡ part_from t top ids → new ≡ part_from t top (id ∷ ids)

-- of some parts the one at a place has a concept more
pub record PartGrows (t : Tree) (dim id : ℕ) (old new : List Part) : Type 0 where
  pub now : Part
  pub grown : GrowsPart t id (slice_index_or old dim (part 0 [])) now
  pub new_is : new ≡ slice_set old dim now

-- where two parts are those of two lists of concepts, the result is that of both lists together
pub record JoinsParts (t : Tree) (left right result : Part) : Type 0 where
  pub joined : (top : ℕ) (xs ys : List ℕ) → AreConcepts t top xs → AreConcepts t top ys
      → left ≡ part_from t top xs → right ≡ part_from t top ys → result ≡ part_from t top (xs ++ ys)
