-- A filter that is All in each dimension: each set is inside it.
use Rattle.std.proofs.Common.{◌≡◌, List, get_or, true, sym, subst, refl}
use Rattle.describing_set.specs.{DescSet.part_at, Filter.{is_inside, overlaps}, Sets.IsDescSetOf, declared.set.DescSet.DescSet}
use Rattle.describing_set.proofs.Filters.{is_inside-IsInside}
use Rattle.dim_hierarchy.specs.{Dimension.{Dimension, tree}, Filter.IsFilterOf, Meaning.IsPicked, declared.filter.Pick.Pick}
use Rattle.measure_agg.proofs.AggLaws.{join_empty_right}
use Rattle.list_words.proofs.Truth.{on_bool}
use Rattle.core_tree.specs.ReadDue.{IsOfAll, OfAllLaw}

all-inside : (h : List Dimension) (f : List Pick) (set : DescSet) → IsFilterOf h f → IsDescSetOf h set → IsOfAll h f → is_inside h set f ≡ true
all-inside h f set filter valid all =
    (is_inside-IsInside h set f valid filter).1 (record { picked = λ dim lt k d within. subst (λ (p : Pick). IsPicked (tree h dim) p (get_or (part_at set dim).ids.items k d)) (sym (all dim lt)) tt })

pub of-all : OfAllLaw
of-all h f gate filter queue set all =
    let in_queue = all-inside h f gate.queue.set filter queue.valid all in
    let in_tree = all-inside h f gate.set filter set all in
    (rw in_queue refl, rw in_tree (join_empty_right gate.agg), on_bool (overlaps h gate.set f) (λ q. rw (q, in_tree) refl) (λ q. rw q refl))
