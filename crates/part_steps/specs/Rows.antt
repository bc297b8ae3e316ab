-- Rows that are to come in at a gate, or to go down from a block, in whatever state the seat may be.
use Rattle.std.specs.Prelude.{ℕ}
use Rattle.seat_steps.specs.core_due.specs.Ready.{IsDescending, IsEntering}
use Rattle.seat_steps.specs.{Floors.IsAround, declared.floor.{Floor.Floor, Player.Player}}
use Rattle.seat_steps.specs.volap_cell.specs.{Setting.Setting, World.World}

abbrev pub IsToEnter : Floor → Player → (map gate : ℕ) → Type 0
IsToEnter f p map gate = (s : Setting) (w : World) → IsAround f p s w → IsEntering s w p.number map gate

abbrev pub IsToDescend : Floor → Player → (block : ℕ) → Type 0
IsToDescend f p block = (s : Setting) (w : World) → IsAround f p s w → IsDescending w p.number block
