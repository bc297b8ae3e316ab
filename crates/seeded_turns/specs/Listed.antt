-- The actors that can step, as they are listed while they are counted.
use Rattle.std.specs.Prelude.{ℕ, ◌≡◌, ◌<◌, List, Some, length, get_or, slice_get}

-- so many of them, the first ones
abbrev pub listed_count : ℕ
listed_count = 256

-- they stand in their places
abbrev pub AreListed : List ℕ → List ℕ → Type 0
AreListed able listed = (k : ℕ) → k < length able → k < listed_count → slice_get able k ≡ Some (get_or listed k 0)
