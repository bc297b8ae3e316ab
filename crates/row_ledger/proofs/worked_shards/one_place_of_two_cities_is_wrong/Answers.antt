use Rattle.std.proofs.{Common.{◌≡◌, ◌∙◌, ◌<◌, zero, suc, List, [], ◌∷◌, map, length, ap, sym, subst, arith}, lemmas.List.Elements.All-contains}
use Rattle.std.specs.Prelude.{All, Contains}
use Rattle.dim_hierarchy.specs.{declared.row.Coord.Coord, declared.row.Row.Row}
use Rattle.describing_set.specs.{DescSet.{part_at, IsSetOf}, Sets.AreAmong, declared.part.Part.Part}
use Rattle.describing_set.proofs.Laws.{IsSetOf-same}
use Rattle.row_ledger.specs.{Classes.class_of, Past.is_kept, Right.MayEnd, Work.AreOnePlace, Worked.{site, berlin, munich, in_city, row, box}, WorkedShards.{other, to_split, split_declined}, declared.settings.Call.Call, declared.settings.Call.TheVariants.Split, declared.settings.Decline.TheVariants.OnePlace, declared.settings.How.TheVariants.Declined}
use Rattle.list_words.proofs.Elements.{Contains-map, Contains-mapped}
use Rattle.row_ledger.proofs.Opened.{both_box}
use Rattle.row_ledger.proofs.worked_shards.one_place_of_two_cities_is_wrong.Goals as goal

abbrev cities : List Coord
cities = in_city berlin ∷ in_city munich ∷ []

-- rows among both, with both, have the set of both cities, which has two concepts
two_places : (rows : List Row) → All (Contains (other ∷ row ∷ [])) rows → Contains rows row → Contains rows other → AreOnePlace site.hierarchy rows → ⊥
two_places rows among has_row has_other one =
    let same : IsSetOf site.hierarchy cities one.set = IsSetOf-same site.hierarchy (map (λ (r : Row). r.at) rows) cities one.set within back one.set_of in
    let count : length one.set.parts.items ≡ 1 = same.count in
    let part : part_at one.set 0 ≡ part_at (box (berlin ∷ munich ∷ [])) 0 = same.parts 0 (omega arith) ∙ sym (both_box.parts 0 (omega arith)) in
    let few : length (part_at one.set 0).ids.items < 2 = one.few 0 _ (omega arith) in
    let two : length (part_at one.set 0).ids.items ≡ 2 = ap (λ (p : Part). length p.ids.items) part in
    omega arith
  where
    city : (r : Row) → Contains (other ∷ row ∷ []) r → Contains cities r.at
    city r (zero, low, here) = (1, omega arith, ap (λ (r : Row). r.at) here)
    city r (suc zero, low, here) = (0, omega arith, ap (λ (r : Row). r.at) here)
    city r (suc (suc k), low, here) = absurd (omega arith)

    within : AreAmong (map (λ (r : Row). r.at) rows) cities
    within at has =
        let found = Contains-mapped (λ (r : Row). r.at) rows at has in
        subst (Contains cities) found.2 (city found.0 (All-contains (Contains (other ∷ row ∷ [])) rows found.0 among found.1))

    back : AreAmong cities (map (λ (r : Row). r.at) rows)
    back at (zero, low, here) = subst (Contains (map (λ (r : Row). r.at) rows)) here (Contains-map (λ (r : Row). r.at) rows row has_row)
    back at (suc zero, low, here) = subst (Contains (map (λ (r : Row). r.at) rows)) here (Contains-map (λ (r : Row). r.at) rows other has_other)
    back at (suc (suc k), low, here) = absurd (omega arith)

pub returns : goal.returns
returns c right =
    let end = right.each.0 in
    let call : end.call ≡ Split 0 = cc end.called in
    let may : MayEnd site (is_kept (split_declined OnePlace)) to_split 7 (class_of (Split 0)) (Declined OnePlace) =
    subst (λ (call : Call). MayEnd site (is_kept (split_declined OnePlace)) to_split 7 (class_of call) (Declined OnePlace)) call end.may_end in
    let decline = may.2 in
    let has_other : Contains decline.rows other = decline.read.came 0 (record { server = 0; row = other; path = 0 ∷ [] }) (omega arith) in
    let has_row : Contains decline.rows row = decline.read.came 1 (record { server = 0; row = row; path = 0 ∷ [] }) (omega arith) in
    two_places decline.rows decline.read.allowed has_row has_other decline.cause
