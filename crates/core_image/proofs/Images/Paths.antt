-- Paths: from each shard of one the last one comes, and all that comes from that.
use Rattle.std.proofs.{Common.{◌≡◌, ℕ, zero, suc, ◌-◌, ◌<◌, List, [], ◌∷◌, length, Bool, true, refl, ap, subst, arith, ◌∙◌}, lemmas.Bool.and_parts}
use Rattle.std.specs.Prelude.{Contains, IsTrue, slice_index_or}
use Rattle.row_ledger.specs.{Past.last_of, Right.{Site, EachEvent, Stands}, Shards.{comes_from, descends, ids_made, is_child, is_path, was_listed}, declared.event.Event.Event}
use Rattle.row_ledger.proofs.Descent.{comes_from-self}
use Rattle.list_words.proofs.Elements.{Contains-nil}
pub use Rattle.volap_cell.proofs.Histories.Lines.{child-comes, comes_from-through}
use Rattle.server_image.specs.Image.{last_shard}

-- from each shard of a path the last one comes
descends-leads : (site : Site) (usable : ℕ → Bool) (past : List Event) (x : ℕ) (path : List ℕ) → EachEvent (Stands site usable) past → last_of (x ∷ path) < ids_made site.workers past
    → descends past x path ≡ true → (y : ℕ) → Contains (x ∷ path) y → comes_from past y (last_of (x ∷ path)) ≡ true
descends-leads site usable past x [] each made d y (zero, within, here) = subst (λ t. comes_from past t x ≡ true) here (comes_from-self past x)
descends-leads site usable past x [] each made d y (suc k, within, here) = absurd (omega (arith, within))
descends-leads site usable past x (z ∷ path) each made d y (zero, within, here) =
    let parts = and_parts (is_child past x z) (descends past z path) d in
    let below = descends-leads site usable past z path each made parts.1 z (0, omega arith, refl) in
    subst (λ t. comes_from past t (last_of (z ∷ path)) ≡ true) here
    (comes_from-through site usable past x z (last_of (z ∷ path)) each made (child-comes site usable past x z each parts.0).0 below)
descends-leads site usable past x (z ∷ path) each made d y (suc k, within, here) =
    let parts = and_parts (is_child past x z) (descends past z path) d in
    descends-leads site usable past z path each made parts.1 y (k, omega arith, here)

pub path-leads : (site : Site) (usable : ℕ → Bool) (past : List Event) (server : ℕ) (path : List ℕ) → EachEvent (Stands site usable) past → last_of path < ids_made site.workers past
    → IsTrue (is_path past server path) → (y : ℕ) → Contains path y → comes_from past y (last_of path) ≡ true
path-leads site usable past server [] each made is y has = absurd (Contains-nil y has)
path-leads site usable past server (x ∷ path) each made is y has = descends-leads site usable past x path each made (and_parts (was_listed past server x) (descends past x path) is).1 y has

-- what an image notes as the last shard is that of the path, as a path of no shards has shard 0 by both

last-at : (x : ℕ) (path : List ℕ) → slice_index_or (x ∷ path) (length path) 0 ≡ last_of (x ∷ path)
last-at x [] = refl
last-at x (y ∷ path) = last-at y path

pub last-same : (path : List ℕ) → last_shard path ≡ last_of path
last-same [] = refl
last-same (x ∷ path) = (let place : length (x ∷ path) - 1 ≡ length path = omega arith in ap (λ (k : ℕ). slice_index_or (x ∷ path) k 0) place ∙ last-at x path)
