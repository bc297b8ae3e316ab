-- The gates that are gone and whose own cells are not free again: the administrator has a list of them all.
use Rattle.std.specs.Prelude.{ℕ, ◌≡◌, ◌==◌, Bool, true, false, not, cond, List, filter, Option, Some}
use Rattle.list_words.specs.Counts.{times}
use Rattle.shard_build.specs.shard_store.specs.{declared.gate.Phase.Phase, declared.gate.Phase.TheVariants.Gone}
use Rattle.volap_cell.specs.{declared.role.Role.Role, declared.role.Role.TheVariants.Admin}

-- the cells of the gates, the last one that went last, and for how many more there is room
pub record GoneGatesValue : Type 0 where
  pub cells : List ℕ
  pub room : ℕ

-- a gate is on the list no more
abbrev pub without_gate : ℕ → List ℕ → List ℕ
without_gate gate cells = filter (λ c. not (c == gate)) cells

abbrev pub is_gone : Option Phase → Bool
is_gone (Some Gone) = true
is_gone phase = false

-- in the administrator's list a cell stands once where a gate that is gone is in it, and else not at all
pub record Reusing (roles : ℕ → Role) (phases : ℕ → Option Phase) (gone_gates : ℕ → List ℕ) : Type 0 where
  pub listed : (a c : ℕ) → roles a ≡ Admin → times c (gone_gates a) ≡ cond (is_gone (phases c)) 1 0
