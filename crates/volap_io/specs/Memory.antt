-- What a contract sees of a source and of a sink in memory.
use Rattle.std.specs.Prelude.{◌≡◌, ◌<◌, ◌⊎◌, ℕ, List, length, Contains}

-- the bytes left, the calls that fail, how many bytes a call gives at most, and the calls and faults so far
pub record Supply : Type 0 where
  pub left : List ℕ
  pub fail : List ℕ
  pub most : ℕ
  pub calls : ℕ
  pub faults : ℕ

-- the bytes taken, how many there is room for in all, and the rest as at a source
pub record Store : Type 0 where
  pub taken : List ℕ
  pub room : ℕ
  pub fail : List ℕ
  pub most : ℕ
  pub calls : ℕ
  pub faults : ℕ

-- the next call is one of those that fail
abbrev pub ReadFails : Supply → Type 0
ReadFails supply = Contains supply.fail supply.calls

-- the next call is one of those that fail, or there is no room for any of the piece
abbrev pub WriteFails : Store → List ℕ → Type 0
WriteFails store piece =
    Contains store.fail store.calls ⊎ ((0 < length piece) × (length store.taken ≡ store.room))
