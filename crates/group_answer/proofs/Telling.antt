-- What a set tells of the rows that it is the set of.
use Rattle.std.proofs.{Common.{ℕ, ◌≡◌, ◌≢◌, ◌<◌, ◌≤◌, true, false, Option, Some, None, List, [], length, All as Every, Contains, sym, ap, ◌∙◌, subst, arith}, lemmas.List.Elements.{All-contains, All-contains_itself}}
use Rattle.std.specs.Prelude.{IfNone}
use Rattle.dim_hierarchy.specs.{Concept.level_of, Dimension.tree, Filter.matches, Meaning.{IsPicked, Matches}, Row.{IsCoordOf, concept_at}, Rows.IsRowOf, Tree.{Tree, leaf_level, up}, declared.filter.Pick.Pick, declared.row.Coord.Coord, declared.row.Row.Row}
use Rattle.dim_hierarchy.proofs.{Ancestors.up-up, Matching.matches-Matches}
use Rattle.dc_node.specs.Summary.{coords}
use Rattle.describing_set.specs.{DescSet.{IsSetOf, part_at}, Filter.IsInside, Sets.{Covers, IsDescSetOf}, declared.part.Part.Part, declared.set.DescSet.DescSet}
use Rattle.describing_set.proofs.{Covering.IsSetOf-Covers, Filters.inside_matches, Parts.part_from-few, Sets.{IsPart-concepts, part_at-IsPart, part_at-above}, Sorted.All-from_In}
use Rattle.list_words.specs.Counts.{Each}
use Rattle.list_words.proofs.{Each.{each-all, each-both, each-map}, Elements.{Contains-map}, Truth.on_bool}
use Rattle.group_answer.specs.{Groups.{IsQuestion, Question, concept_of}, Telling.{AreBelow, AreUnder, IsCommon, IsOfAll}}

-- where nothing is there, what follows of the one fact follows of the other
pub if-none : {A P Q : Type 0} → (o : Option A) → (P → Q) → IfNone o P → IfNone o Q
if-none None f p = f p
if-none (Some x) f p = p

module _ (q : Question) (asks : IsQuestion q) (set : DescSet) (valid : IsDescSetOf q.hierarchy set) where
  abbrev t : Tree
  t = tree q.hierarchy q.dim

  abbrev p : Part
  p = part_at set q.dim

  pub part-below : q.level ≤ p.level → AreBelow t q.level p.ids.items
  part-below le =
      let part = part_at-IsPart q.hierarchy set q.dim asks.dim valid in
      record {
        concepts = IsPart-concepts t p part;
        below = All-from_In (λ (id : ℕ). q.level ≤ level_of id) p.ids.items (λ id i. let e = part.level id i in omega (arith, le, e));
      }

  -- a filter of all has each set inside
  pub inside-all : IsOfAll q → IsInside q.hierarchy set q.filter
  inside-all all = record { picked = λ dim lt. subst (λ (pick : Pick). Every (IsPicked (tree q.hierarchy dim) pick) (part_at set dim).ids.items) (sym (all dim lt)) (λ k d less. tt) }

  module _ (rows : List Row) (are : Every (IsRowOf q.hierarchy) rows) (set_of : IsSetOf q.hierarchy (coords rows) set) where
    covered : Each (λ (r : Row). Covers q.hierarchy set r.at) rows
    covered = each-map (Contains rows) (λ (r : Row). Covers q.hierarchy set r.at) rows
        (λ r c. IsSetOf-Covers q.hierarchy (coords rows) set r.at set_of (Contains-map (λ (x : Row). x.at) rows r c)) (each-all (Contains rows) rows (All-contains_itself rows))

    valid_rows : Each (λ (r : Row). IsCoordOf q.hierarchy r.at) rows
    valid_rows = each-all (λ (r : Row). IsCoordOf q.hierarchy r.at) rows are

    -- a set without concepts has no rows
    pub none-empty : length p.ids.items ≡ 0 → Each (λ (r : Row). matches q.hierarchy q.filter r.at ≡ false) rows
    none-empty none = each-map (λ (r : Row). Covers q.hierarchy set r.at) (λ (r : Row). matches q.hierarchy q.filter r.at ≡ false) rows
        (λ r c. let there = c.ancestor q.dim asks.dim in absurd (omega (arith, none, there.1))) covered

    -- a set that the filter doesn't overlap has no row that matches
    pub none-apart : ((at : Coord) → Covers q.hierarchy set at → ¬ Matches q.hierarchy q.filter at) → Each (λ (r : Row). matches q.hierarchy q.filter r.at ≡ false) rows
    none-apart apart = each-both (λ (r : Row). Covers q.hierarchy set r.at) (λ (r : Row). IsCoordOf q.hierarchy r.at) (λ (r : Row). matches q.hierarchy q.filter r.at ≡ false) rows
        (λ r c v. on_bool (matches q.hierarchy q.filter r.at) (λ m. absurd (apart r.at c ((matches-Matches q.hierarchy q.filter r.at asks.filter v).0 m))) (λ m. m)) covered valid_rows

    -- a set of no row has no concept
    rows-some : 0 < length p.ids.items → rows ≢ []
    rows-some some none =
        let of_none : IsSetOf q.hierarchy [] set = subst (λ (rs : List Row). IsSetOf q.hierarchy (coords rs) set) none set_of in
        let is = of_none.parts q.dim asks.dim ∙ part_from-few t (leaf_level t) [] (omega arith) in
        absurd (omega (arith, some, ap (λ (x : Part). length x.ids.items) is))

    -- all rows of a set that is all under one concept
    pub all-under : (id : ℕ) → IsCommon q set id → AreUnder q id rows
    all-under id common = record {
      some = rows-some common.some;
      each = each-both (λ (r : Row). Covers q.hierarchy set r.at) (λ (r : Row). IsCoordOf q.hierarchy r.at) (λ (r : Row). (matches q.hierarchy q.filter r.at ≡ true) × (concept_of q r ≡ id)) rows
          (λ r c v. (
            (matches-Matches q.hierarchy q.filter r.at asks.filter v).1 (inside_matches q.hierarchy set q.filter r.at common.inside c),
            (let x = concept_at r.at q.dim in
                let high = part_at-above q.hierarchy set r.at q.dim asks.dim valid v in
                let tree_is = (asks.filter.hierarchy.each q.dim asks.dim).tree in
                sym (up-up t tree_is x p.level q.level (v.leaf q.dim asks.dim).concept common.level high)
                ∙ All-contains (λ (y : ℕ). up t y q.level ≡ id) p.ids.items (up t x p.level) common.each (c.ancestor q.dim asks.dim)),
          )) covered valid_rows;
    }
