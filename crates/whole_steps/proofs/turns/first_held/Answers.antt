use Rattle.std.proofs.Common.{◌≡◌, ℕ, ◌≤◌, List, [], ◌∷◌, length, Option, None, slice_index_or, subst, arith}
use mathlib.Core.Option.{some}
use Rattle.turn_table.proofs.Numbered.{find_here}
use Rattle.turn_table.specs.Numbered.{value_of}
use Rattle.whole_steps.proofs.turns.first_held.Goals as goal

first-told : (l : List (ℕ × Option ℕ)) → 1 ≤ length l → (x : Option ℕ) × (value_of l (slice_index_or l 0 (0, None)).0 ≡ some x)
first-told [] long = absurd (omega (arith, long))
first-told (p ∷ ps) long = (p.1, find_here ps p.0 p.1)

pub returns-in-len1-up-clause-some : goal.returns-in-len1-up-clause-some
returns-in-len1-up-clause-some c =
    subst (λ (l : List (ℕ × Option ℕ)). (x : Option ℕ) × (value_of l (slice_index_or c.held.result.now 0 (0, None)).0 ≡ some x)) c.held.ensures.ranks (first-told c.held.result.now c.in-len1-up.len_at_least)
