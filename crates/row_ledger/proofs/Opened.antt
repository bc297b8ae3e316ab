-- The opening of the worked histories, and the sets in their boxes.
use Rattle.std.proofs.{Common.{◌≡◌, ◌<◌, ℕ, zero, suc, Bool, [], ◌∷◌, refl, arith}, lemmas.List.Elements.All-from_recursion}
use Rattle.dim_hierarchy.specs.Dimension.{tree}
use Rattle.dim_hierarchy.specs.Tree as way
use Rattle.describing_set.specs.{DescSet.{part_at, column, IsSetOf}, Part.{part_of, part_from}, declared.listing.Spot.Spot}
use Rattle.row_ledger.specs.{Kept.{CanAnswer, KeepsRight}, Listings.IsFirstListing, Worked.{site, berlin, munich, in_city, box, first_listing, opened}, declared.event.Event.TheVariants.Synced}
use Rattle.row_ledger.proofs.{Answering.{CanAnswer-nil, CanAnswer-older}, Growth.{IsOpeningHistory-nil, IsOpeningHistory-pull, KeepsRight-opened}}

-- no rows have an empty box
pub empty_box : IsSetOf site.hierarchy [] (box [])
unfolding part_from way.up way.climb
empty_box = record { count = refl; parts = parts }
  where
    parts : (dim : ℕ) → dim < 1 → part_at (box []) dim ≡ part_of (tree site.hierarchy dim) (column [] dim)
    parts zero low = refl
    parts (suc dim) low = absurd (omega arith)

pub berlin_box : IsSetOf site.hierarchy (in_city berlin ∷ []) (box (berlin ∷ []))
unfolding part_from way.up way.climb
berlin_box = record { count = refl; parts = parts }
  where
    parts : (dim : ℕ) → dim < 1 → part_at (box (berlin ∷ [])) dim ≡ part_of (tree site.hierarchy dim) (column (in_city berlin ∷ []) dim)
    parts zero low = refl
    parts (suc dim) low = absurd (omega arith)

pub munich_box : IsSetOf site.hierarchy (in_city munich ∷ []) (box (munich ∷ []))
unfolding part_from way.up way.climb
munich_box = record { count = refl; parts = parts }
  where
    parts : (dim : ℕ) → dim < 1 → part_at (box (munich ∷ [])) dim ≡ part_of (tree site.hierarchy dim) (column (in_city munich ∷ []) dim)
    parts zero low = refl
    parts (suc dim) low = absurd (omega arith)

pub both_box : IsSetOf site.hierarchy (in_city berlin ∷ in_city munich ∷ []) (box (berlin ∷ munich ∷ []))
unfolding part_from way.up way.climb
both_box = record { count = refl; parts = parts }
  where
    parts : (dim : ℕ) → dim < 1 → part_at (box (berlin ∷ munich ∷ [])) dim ≡ part_of (tree site.hierarchy dim) (column (in_city berlin ∷ in_city munich ∷ []) dim)
    parts zero low = refl
    parts (suc dim) low = absurd (omega arith)

is_first : IsFirstListing site first_listing
is_first = record { places = refl; boxes = All-from_recursion (λ (spot : Spot). IsSetOf site.hierarchy [] spot.set) first_listing (empty_box, (empty_box, tt)) }

pub opened_right : (placed : ℕ → Bool) → KeepsRight site placed opened
opened_right placed =
    KeepsRight-opened site placed opened
    (IsOpeningHistory-pull site _ first_listing (IsOpeningHistory-pull site [] first_listing (IsOpeningHistory-nil site) (omega arith) is_first) (omega arith) is_first)
    refl

pub opened_answer : (usable : ℕ → Bool) → CanAnswer usable opened []
opened_answer usable = CanAnswer-older usable (Synced 1 first_listing) _ [] (CanAnswer-older usable (Synced 0 first_listing) [] [] (CanAnswer-nil usable) refl) refl
