-- Walks along right links, and what is beneath a noted block.
use Rattle.std.specs.Prelude.{ℕ, ◌≡◌, ◌≢◌, ◌<◌, ◌≤◌, true, cond, leb, List, [], ◌∷◌, Some}
use Rattle.dc_node.specs.declared.entry.Entry.{Entry}
use Rattle.list_words.specs.Counts.{total, times}
use Rattle.tree_shape.specs.Shape.{Node, Shape}

-- the cells from y along right links, y first, end at the first one with the stamp s
abbrev pub IsTail : (ℕ → Node) → ℕ → ℕ → List ℕ → Type 0
IsTail look s y [] = (look y).stamp ≡ s
IsTail look s y (z ∷ zs) = ((look y).stamp ≢ s) × ((look y).right ≡ Some z) × IsTail look s z zs

-- the cells of a walk from a cell to a stamp
abbrev pub IsWalk : (ℕ → Node) → ℕ → ℕ → List ℕ → Type 0
IsWalk look y s ws = (zs : List ℕ) × (ws ≡ y ∷ zs) × IsTail look s y zs

-- a noted block with its level, and the cells of the walk from it to the stamp
pub record Noted : Type 0 where
  pub cell : ℕ
  pub stamp : ℕ
  pub level : ℕ
  pub walk : List ℕ

pub record IsNoted (g : Shape) (look : ℕ → Node) (p : Noted) : Type 0 where
  pub walks : IsWalk look p.cell p.stamp p.walk
  pub low : p.level < g.height
  pub cells : (y : ℕ) → 1 ≤ times y p.walk → (g.inside y ≡ true) × (g.level y ≡ p.level)

abbrev pub AreNoted : Shape → (ℕ → Node) → List Noted → Type 0
AreNoted g look [] = Unit {0}
AreNoted g look (p ∷ ps) = IsNoted g look p × AreNoted g look ps

-- an entry's group as a noted block; the entry's directory is on the level above l
abbrev pub noted_of : Shape → ℕ → Entry → Noted
noted_of g l e = record { cell = e.child; stamp = e.stamp; level = l; walk = g.group e.child }

-- How often a block is reached from a noted block: where it hangs on the walk, or is on it.
abbrev pub reach : Shape → Noted → ℕ → ℕ
reach g p y = cond (leb (g.level y) p.level) (times (g.above y p.level) p.walk) 0

-- and from all noted blocks
abbrev pub pending : Shape → List Noted → ℕ → ℕ
pending g ps y = total (λ p. reach g p y) ps

-- how often a row is beneath a noted block
abbrev pub beneath : Shape → Noted → ℕ → ℕ
beneath g p r = cond (g.placed r) (reach g p (g.at r)) 0
