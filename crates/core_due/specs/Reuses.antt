-- Which cell of the gates that are gone is used again next: the administrator, between two commands, gives one after the other back.
use Rattle.std.specs.Prelude.{ℕ, ◌==◌, ◌&&◌, ◌||◌, ◌-◌, Bool, nat_lt, if◌then◌else◌, List, [], ◌∷◌, length, slice_get, Option, Some, None, option_map}
use Rattle.core_steps.specs.declared.reuses.ReuseStep.{ReuseStep}
use Rattle.core_steps.specs.declared.reuses.ReuseStep.TheVariants as reuse
use Rattle.core_steps.specs.volap_cell.specs.{Cells.{CellValue, GateCell, gone_in, phase_of, pins_in}, Reusing.is_gone, Values.ActorValue, World.World, declared.role.Role.Role, declared.role.Role.TheVariants.Admin}

-- the gate is gone, and no query is pinned to it
abbrev pub is_released : CellValue → Bool
is_released cell = is_gone (phase_of cell) && (pins_in cell == 0)

abbrev pub shard_in : CellValue → ℕ
shard_in (GateCell gate) = gate.shard
shard_in _ = 0

-- of two gates that of the lower shard is first, and of one shard that in the lower cell
abbrev pub is_before : World → ℕ → ℕ → Bool
is_before w x y = nat_lt (shard_in (w.cells x)) (shard_in (w.cells y)) || ((shard_in (w.cells x) == shard_in (w.cells y)) && nat_lt x y)

-- the first of one that is known, if one is, and of another one
abbrev pub earlier : World → Option ℕ → ℕ → Option ℕ
earlier w None x = Some x
earlier w (Some y) x = if is_before w x y then Some x else Some y

-- where that one is released
abbrev pub earlier_released : World → Option ℕ → ℕ → Option ℕ
earlier_released w best x = if is_released (w.cells x) then earlier w best x else best

-- and of all of a list that are released
abbrev pub first_by : World → Option ℕ → List ℕ → Option ℕ
first_by w best [] = best
first_by w best (x ∷ gates) = first_by w (earlier_released w best x) gates

-- the gate whose cells are used again next
abbrev pub released : World → ActorValue → Option ℕ
released w a = first_by w None a.gone_gates

-- the cell of the block that stands last in its list, and its own where none does
abbrev pub reuse_by : (gate : ℕ) → Option ℕ → ReuseStep
reuse_by gate None = reuse.Gate gate
reuse_by gate (Some block) = reuse.Block gate block

abbrev pub reuse_at : World → ℕ → ReuseStep
reuse_at w gate = reuse_by gate (slice_get (gone_in (w.cells gate)) (length (gone_in (w.cells gate)) - 1))

-- what is due for an actor without a command: the administrator alone uses cells again

abbrev pub reuse_for : World → ActorValue → Role → Option ReuseStep
reuse_for w a Admin = option_map (reuse_at w) (released w a)
reuse_for w a role = None

abbrev pub reuse_due : World → ActorValue → Option ReuseStep
reuse_due w a = reuse_for w a a.role
