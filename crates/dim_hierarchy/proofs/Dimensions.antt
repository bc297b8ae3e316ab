-- Dimensions by number, and what their names stand for.
use Rattle.std.proofs.{Common.{ℕ, ◌≡◌, ◌≢◌, ◌<◌, ◌≤◌, List, length, get_or, refl, ap, ◌∙◌}, lemmas.List.{get_or_default, get_or_past}}
use Rattle.std.specs.{Cmp.Lexicographic.slice_cmp, Ordering.nat_cmp, Prelude.{Option, Some, None, IfNone, IsSome}}
use Rattle.std.specs.FinMap as map
use Rattle.dim_hierarchy.specs.{Concept.level_of, Dimension.{Dimension, IsDimension, dimension, no_dimension, find}, Tree.IsConcept}

-- past the last dimension there is no name
pub find-past : (h : List Dimension) (dim : ℕ) (name : List ℕ) → length h ≤ dim → find h dim name ≡ None
find-past h dim name le =
    ap (λ (d : Dimension). map.get d.names name) (get_or_past h dim no_dimension le) ∙ map.get-empty (slice_cmp nat_cmp) name

-- a dimension as the code reads it
pub dimension-read : (h read : List Dimension) (i dim : ℕ) (d : Dimension) → read ≡ h → i ≡ dim → dim < length h → d ≡ get_or read i d → d ≡ dimension h dim
dimension-read h read i dim d e n lt is =
    is ∙ ap (λ (l : List Dimension). get_or l i d) e ∙ ap (λ k. get_or h k d) n ∙ get_or_default h dim d no_dimension lt

-- a concept below ALL has a name, so a search for one finds some
pub named-some : {X : Type 0} (d : Dimension) → IsDimension d → (id : ℕ) → IsConcept d.tree id → 0 < level_of id → (found : Option X) → IfNone found ((name : List ℕ) → map.get d.names name ≢ Some id) → IsSome found
named-some d valid id c below None none = let n = valid.all_named id c below in absurd (none n.0 n.1)
named-some d valid id c below (Some x) none = refl
