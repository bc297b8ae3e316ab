-- What a desk keeps of how far its parts have come.
use Rattle.std.specs.Prelude.{ℕ, ◌≡◌, ◌≤◌, false, List, All, take, length, count_by}
use Rattle.query_router.specs.{Desk.is_open, declared.part.Part.Part}

-- the parts before a place are at an end
pub record HasEnded (parts : List Part) (ended : ℕ) : Type 0 where
  pub within : ended ≤ length parts
  pub none_open : All (λ p. is_open p ≡ false) (take ended parts)

-- a place before which no part is open, and how many are
pub record IsProgress (parts : List Part) (ended open_parts : ℕ) : Type 0 where
  pub has_ended : HasEnded parts ended
  pub count : open_parts ≡ count_by is_open parts
