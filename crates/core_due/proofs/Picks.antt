-- By the entries of a directory a row goes down by one of them.
use Rattle.std.proofs.{Common.{◌≡◌, ℕ, zero, suc, ◌+◌, ◌-◌, ◌≤◌, ◌⊎◌, inl, inr, List, length, map, slice_get, Some, subst, arith}, lemmas.Bool.cases_lt, lemmas.List.length-map, lemmas.Option.slice_get_cases}
use Rattle.dc_node.specs.{Block.{entries_in, is_leaf, size}, declared.block.Body.Body, declared.block.Body.TheVariants.{Entries, Rows}, declared.entry.Entry.Entry}
use Rattle.describing_set.specs.{Sets.{growth_of, size_of}, declared.set.DescSet.DescSet}
use Rattle.dim_hierarchy.specs.{Dimension.Dimension, declared.row.Coord.Coord}
use Rattle.link_descent.specs.Pick.{IsPick, pick_place}
use Rattle.link_descent.proofs.Picks.{IsBefore, IsBestOf, IsBestOf-keeps, IsBestOf-one, IsBestOf-takes, IsPick-from_best, IsPick-place}
use Rattle.std.proofs.Common.{false}

pub entries-some : (body : Body) → is_leaf body ≡ false → 1 ≤ size body → 1 ≤ length (entries_in body)
entries-some (Rows rows) leaf some = cc
entries-some (Entries entries) leaf some = some

module _ (h : List Dimension) (at : Coord) (sets : List DescSet) where
  is-before-or : (a b : DescSet) → IsBefore h at a b ⊎ (¬ IsBefore h at a b)
  is-before-or a b = elim (cases_lt (growth_of h a at) (growth_of h b at)) [
    | inl less ↦ inl (inl less)
    | inr more ↦ elim (cases_lt (growth_of h b at) (growth_of h a at)) [
      | inl less ↦ inr (λ k. elim k [ inl x ↦ absurd (omega arith) | inr x ↦ (let e = x.0 in absurd (omega arith)) ])
      | inr same ↦ elim (cases_lt (size_of h a) (size_of h b)) [
        | inl less ↦ inl (inr (omega arith, less))
        | inr large ↦ inr (λ k. elim k [ inl x ↦ absurd (omega arith) | inr x ↦ (let e = x.1 in absurd (omega arith)) ])
      ]
    ]
  ]

  -- of the first sets one comes first
  best-of : (n : ℕ) → suc n ≤ length sets → (best : ℕ) × IsBestOf h at sets (n + 1) best
  best-of zero some = (0, IsBestOf-one h at sets)
  best-of (suc n) some =
      let (best, is) = best-of n (omega arith) in
      let w = is.within in
      let more : n + 1 + 1 ≡ suc n + 1 = omega arith in
      elim (slice_get_cases sets best).1 [
        | inr past ↦ (let le = past.0 in absurd (omega arith))
        | inl here ↦ elim (slice_get_cases sets (n + 1)).1 [
          | inr past ↦ (let le = past.0 in absurd (omega arith))
          | inl next ↦ elim (is-before-or next.0 here.0) [
            | inl before ↦ (n + 1, subst (λ (m : ℕ). IsBestOf h at sets m (n + 1)) more (IsBestOf-takes h at sets (n + 1) best here.0 next.0 is here.2 next.2 before))
            | inr unless ↦ (best, subst (λ (m : ℕ). IsBestOf h at sets m best) more (IsBestOf-keeps h at sets (n + 1) best here.0 next.0 is here.2 next.2 unless))
          ]
        ]
      ]

  picks-one : 1 ≤ length sets → (place : ℕ) × IsPick h at sets place × (pick_place h at sets ≡ Some place)
  picks-one some =
      let (best, is) = best-of (length sets - 1) (omega arith) in
      let pick = IsPick-from_best h at sets (length sets - 1 + 1) best (omega arith) is in
      (best, pick, IsPick-place h at sets best pick)

-- the entry that comes first for a row
pub record HasPick (h : List Dimension) (at : Coord) (entries : List Entry) : Type 0 where
  pub place : ℕ
  pub pick : IsPick h at (map (λ (e : Entry). e.set) entries) place
  pub place_is : pick_place h at (map (λ (e : Entry). e.set) entries) ≡ Some place
  pub entry : Entry
  pub entry_at : slice_get entries place ≡ Some entry

pub has-pick : (h : List Dimension) (at : Coord) (entries : List Entry) → 1 ≤ length entries → HasPick h at entries
has-pick h at entries some =
    let many = length-map entries (λ (e : Entry). e.set) in
    let (place, pick, is) = picks-one h at (map (λ (e : Entry). e.set) entries) (omega arith) in
    elim (slice_get_cases entries place).1 [
      | inl k ↦ record { place = place; pick = pick; place_is = is; entry = k.0; entry_at = k.2 }
      | inr k ↦ (let low = pick.within in let past = k.0 in absurd (omega arith))
    ]
