-- The ranks that are told for cells, and the cell that an actor must keep.
use Rattle.std.proofs.Common.{◌≡◌, ◌∙◌, ℕ, List, [], ◌∷◌, ◌++◌, Option, Some, None, refl, sym, ap, subst}
use mathlib.Core.Option.{some, some-injective, some-ne-none}
use Rattle.list_words.specs.Counts.{Each}
use Rattle.seat_steps.specs.Floors.{AreTold, at_block, kept_by, kept_on}
use Rattle.turn_table.specs.{Numbered.{HaveOwnNumbers, value_of, without}, Seat.free_rank}
use Rattle.turn_table.proofs.Numbered.{find_append_first, find_here, without_else}
use Rattle.core_due.specs.volap_cell.specs.{Errands.{IsCarried, RowWay, block_at, way_of}, Values.ActorValue, World.MustKeep}

-- What is told for a cell.

pub told-more : (kept ranks more : List (ℕ × Option ℕ)) → AreTold ranks kept → AreTold (ranks ++ more) kept
told-more [] ranks more told = tt
told-more (k ∷ kept) ranks more told = (find_append_first ranks more k.0 k.1 told.0, told-more kept ranks more told.1)

-- where no other cell is held, the one that is kept is held alone
pub alone-left : (kept : Option ℕ) (ranks : List (ℕ × Option ℕ)) → HaveOwnNumbers ranks → AreTold ranks (at_block kept) → Each (λ (told : ℕ × Option ℕ). kept ≡ Some told.0) ranks → ranks ≡ at_block kept
alone-left None [] apart told all = refl
alone-left None (r ∷ ranks) apart told all = absurd (cc)
alone-left (Some y) [] apart told all = absurd (some-ne-none (Some free_rank) (sym told.0))
alone-left (Some y) (r ∷ []) apart told all =
    let same : r.0 ≡ y = cc in
    let rank : r.1 ≡ Some free_rank = some-injective r.1 (Some free_rank) (sym (find_here [] r.0 r.1) ∙ ap (λ (k : ℕ). value_of (r ∷ []) k) same ∙ told.0) in
    λ i. (same i, rank i) ∷ []
alone-left (Some y) (r ∷ q ∷ ranks) apart told all =
    let same : q.0 ≡ r.0 = cc in absurd (some-ne-none q.1 (sym (find_here ranks q.0 q.1) ∙ ap (λ (k : ℕ). value_of (q ∷ ranks) k) same ∙ apart.0))

-- The cell that an actor must keep.

abbrev first-of : List (ℕ × Option ℕ) → Option ℕ
first-of [] = None
first-of (r ∷ ranks) = Some r.0

same-block : (kept : Option ℕ) (y : ℕ) → at_block kept ≡ at_block (Some y) → kept ≡ Some y
same-block None y e = ap first-of e
same-block (Some z) y e = ap first-of e

-- it is the one for which a rank must be told
keeps-on : (way : Option RowWay) (kept : Option ℕ) (y : ℕ) → at_block kept ≡ kept_on way → IsCarried way y → kept ≡ Some y
keeps-on None kept y e k = absurd k
keeps-on (Some r) kept y e k = same-block kept y (e ∙ ap at_block k)

pub keeps-named : (kept : Option ℕ) (a : ActorValue) (y : ℕ) → at_block kept ≡ kept_by a → MustKeep a y → kept ≡ Some y
keeps-named kept a y e k = keeps-on (way_of a.errand) kept y e k

told-on : (ranks : List (ℕ × Option ℕ)) (way : Option RowWay) (y : ℕ) → AreTold ranks (kept_on way) → IsCarried way y → value_of ranks y ≡ some (Some free_rank)
told-on ranks None y told k = absurd k
told-on ranks (Some r) y told k = (subst (λ (o : Option ℕ). AreTold ranks (at_block o)) k told).0

-- a rank is told for it
pub kept-told : (ranks : List (ℕ × Option ℕ)) (a : ActorValue) (y : ℕ) → AreTold ranks (kept_by a) → MustKeep a y → value_of ranks y ≡ some (Some free_rank)
kept-told ranks a y told k = told-on ranks (way_of a.errand) y told k

still-on : (ranks : List (ℕ × Option ℕ)) (cell : ℕ) (kept : Option ℕ) → (kept ≡ Some cell → ⊥) → AreTold ranks (at_block kept) → AreTold (without ranks cell) (at_block kept)
still-on ranks cell None free told = tt
still-on ranks cell (Some y) free told = (without_else ranks cell y (λ e. free (ap (λ (z : ℕ). Some z) e)) ∙ told.0, tt)

still-way : (ranks : List (ℕ × Option ℕ)) (cell : ℕ) (way : Option RowWay) → (IsCarried way cell → ⊥) → AreTold ranks (kept_on way) → AreTold (without ranks cell) (kept_on way)
still-way ranks cell None free told = tt
still-way ranks cell (Some r) free told = still-on ranks cell (block_at r.place) free told

-- and still is where another cell is given back
pub still-told : (ranks : List (ℕ × Option ℕ)) (a : ActorValue) (cell : ℕ) → (MustKeep a cell → ⊥) → AreTold ranks (kept_by a) → AreTold (without ranks cell) (kept_by a)
still-told ranks a cell free told = still-way ranks cell (way_of a.errand) free told
