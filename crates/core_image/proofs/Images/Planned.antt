-- The parts of a query that begins: of shards in whose lines all rows are that it must hold, none of which comes from another one.
use Rattle.std.proofs.{Common.{◌≡◌, ℕ, zero, suc, ◌+◌, ◌≤◌, ◌<◌, List, [], ◌∷◌, Bool, true, IsTrue, refl, sym, ap, subst, arith, ◌==◌, ◌∙◌, map, length, Contains, eqb-true}, lemmas.Bool.{cond_both, false_from_ne_true}, lemmas.List.Elements.{All-contains_itself, All-map, All-weaker, Contains-append_right}, lemmas.List.Folds.Any-from_list_any}
use Rattle.std.specs.{List.list_any, Prelude.filter}
use Rattle.dim_hierarchy.specs.{Dimension.Dimension, Filter.{IsFilterOf, matches}, Row.IsCoordOf, declared.filter.Pick.Pick, declared.row.Coord.Coord, declared.row.Row.Row}
use Rattle.dim_hierarchy.proofs.Matching.{matches-Matches}
use Rattle.describing_set.specs.{DescSet.covers, Filter.overlaps, Sets.IsDescSetOf, declared.listing.Spot.Spot, declared.set.DescSet.DescSet}
use Rattle.describing_set.proofs.{Covering.covers-Covers, Filters.{matched_overlaps, overlaps-Overlaps}}
use Rattle.row_ledger.specs.{Bounds.known, Laws.AscendFrom, Listings.places_of, Past.{Ack, Query}, Shards.comes_from, declared.event.Event.Event}
use Rattle.list_words.proofs.Elements.{Contains-filtered, Contains-mapped, Contains-nil}
use Rattle.row_ledger.proofs.Positions.{before-here}
use Rattle.volap_cell.specs.{Desking.{AreLinesApart, AreUnrelated}, ImageKinds.query_part, Querying.must_hold}

-- Apart.

ascend-above : (from : ℕ) (spots : List Spot) → AscendFrom from (places_of spots) → (y : Spot) → Contains spots y → from ≤ y.shard
ascend-above from [] ascend y has = absurd (Contains-nil y has)
ascend-above from (x ∷ xs) ascend y (zero, within, here) = subst (λ (z : Spot). from ≤ z.shard) here ascend.0
ascend-above from (x ∷ xs) ascend y (suc k, within, here) = (let first = ascend.0 in let rest = ascend-above (x.shard + 1) xs ascend.1 y (k, omega arith, here) in omega (arith, first, rest))

-- listed shards in the order of their ids, of which none comes from another one
pub parts-apart : (history : List Event) (wanted : List Pick) (test : Spot → Bool) (from : ℕ) (spots : List Spot) → AscendFrom from (places_of spots)
    → ((x y : Spot) → Contains spots x → Contains spots y → IsTrue (comes_from history x.shard y.shard) → x.shard ≡ y.shard)
    → AreLinesApart history (map (query_part wanted) (filter test spots))
parts-apart history wanted test from [] ascend apart = tt
parts-apart history wanted test from (x ∷ xs) ascend apart =
    let later : (y : Spot) → Contains xs y → Contains (x ∷ xs) y = λ y has. Contains-append_right (x ∷ []) xs y has in
    let rest = parts-apart history wanted test (x.shard + 1) xs ascend.1 (λ y z a b. apart y z (later y a) (later z b)) in
    let unrelated : (y : Spot) → Contains xs y → AreUnrelated history (query_part wanted x) (query_part wanted y) = λ y has.
    let above = ascend-above (x.shard + 1) xs ascend.1 y has in (
      false_from_ne_true _ (λ comes. let same = apart x y (0, omega arith, refl) (later y has) comes in absurd (omega (arith, above, same))),
      false_from_ne_true _ (λ comes. let same = apart y x (later y has) (0, omega arith, refl) comes in absurd (omega (arith, above, same))),
    ) in
    cond_both (test x) (x ∷ filter test xs) (filter test xs) (λ (ys : List Spot). AreLinesApart history (map (query_part wanted) ys))
    (λ yes. (
      All-map (AreUnrelated history (query_part wanted x)) (query_part wanted) (filter test xs)
          (All-weaker (Contains (filter test xs)) (λ (y : Spot). AreUnrelated history (query_part wanted x) (query_part wanted y)) (λ y has. unrelated y (Contains-filtered test xs y has)) (filter test xs) (All-contains_itself (filter test xs))),
      rest,
    ))
    (λ off. rest)

-- Whole.

-- a filter that matches a row overlaps each box that covers it
pub box-overlaps : (h : List Dimension) (set : DescSet) (wanted : List Pick) (at : Coord) → IsDescSetOf h set → IsFilterOf h wanted → IsCoordOf h at → 0 < length h → covers h set at ≡ true → matches h wanted at ≡ true → overlaps h set wanted ≡ true
box-overlaps h set wanted at valid filter_of coord some covered matched =
    (overlaps-Overlaps h set wanted valid filter_of).1
    (matched_overlaps h set wanted at some ((covers-Covers h set at valid.set_of.count coord).0 covered) ((matches-Matches h wanted at filter_of coord).0 matched))

-- a row that a query must hold was known to its server when it began
pub held-known : (hierarchy : List Dimension) (e : Event) (h : List Event) (q : Query) (r : ℕ) → must_hold hierarchy (e ∷ h) (length h) q r ≡ true → (k : Ack) × Contains (known hierarchy h q.server) k × (k.row.no ≡ r)
held-known hierarchy e h q r held =
    let now : list_any (λ (x : Row). x.no == r) (map (λ (k : Ack). k.row) (known hierarchy h q.server)) ≡ true =
    ap (λ (past : List Event). list_any (λ (x : Row). x.no == r) (map (λ (k : Ack). k.row) (known hierarchy past q.server))) (sym (before-here e h)) ∙ held in
    let found = Any-from_list_any (λ (x : Row). x.no == r) (map (λ (k : Ack). k.row) (known hierarchy h q.server)) now in
    let of_ack = Contains-mapped (λ (k : Ack). k.row) (known hierarchy h q.server) found.1 (found.0, found.2, found.3) in
    (of_ack.0, of_ack.1, ap (λ (x : Row). x.no) of_ack.2 ∙ eqb-true found.1.no r found.4)
