-- Cells of gates that are gone, which the administrator uses again between two commands, one at a time.
use Rattle.std.specs.Prelude.{ℕ, ◌≡◌, ◌-◌, ⊤, true, false, length, slice_get, Option, None}
use Rattle.seat_steps.specs.core_due.specs.Reuses.{is_released}
use Rattle.seat_steps.specs.core_steps.specs.{Reuses.{reuse_asks, reuse_places}, declared.reuses.ReuseStep.ReuseStep}
use Rattle.seat_steps.specs.core_steps.specs.declared.reuses.ReuseStep.TheVariants as reuse
use Rattle.seat_steps.specs.{Booked.{IsDue, IsUnchanged}, Floors.{IsSeated, Stands}, Looks.Sees, Made.HasMade, declared.floor.{Floor.Floor, Player.Player}}
use Rattle.turn_table.specs.Numbered.{Extends}
use Rattle.seat_steps.specs.volap_cell.specs.{Cells.{CellValue, gone_in}, Reusing.without_gate, Values.{ActorValue, actor_of}, declared.{kind.Kind.TheVariants.Reuse, role.Role.TheVariants.Admin}}
use Rattle.seat_steps.specs.volap_turns.specs.Rows.{AreAt, IsThere}

-- the administrator is between two commands
pub record IsBetween (p : Player) : Type 0 where
  pub role : (actor_of p.actor).role ≡ Admin
  pub no_command : (actor_of p.actor).command ≡ None
  pub no_part : (actor_of p.actor).errand ≡ None

abbrev pub IsReuseDue : Floor → Player → ReuseStep → Type 0
IsReuseDue f p step = IsDue f p (reuse_places step) (reuse_asks step)

-- the cell of the block that stands last in a gate's list
abbrev pub last_gone : CellValue → Option ℕ
last_gone cell = slice_get (gone_in cell) (length (gone_in cell) - 1)

-- The held gate is gone and no query is pinned to it; this block stands last in its list, if one does.
pub record IsReleasedAt (p : Player) (gate : ℕ) (last : Option ℕ) : Type 0 where
  pub there : IsThere p.seat.view.held gate
  pub released : Sees p gate (λ cell. is_released cell ≡ true)
  pub last_is : Sees p gate (λ cell. last ≡ last_gone cell)

-- What comes of it.

-- the cell that is used again
abbrev pub cell_of_reuse : ReuseStep → ℕ
cell_of_reuse (reuse.Block gate block) = block
cell_of_reuse (reuse.Gate gate) = gate

-- the actor behind it: with its own cell the gate is on the list no more
abbrev pub after_reuse : ReuseStep → ActorValue → ActorValue
after_reuse (reuse.Block gate block) a = a
after_reuse (reuse.Gate gate) a = record a { gone_gates = without_gate gate a.gone_gates }

-- The cell is the stock's again: the actor, which held what the step needs, has made the step.
pub record HasReused (f : Floor) (cell : ℕ) (was now : Player) : Type 0 where
  pub stands : Stands f now
  pub step : ReuseStep
  pub cell_is : cell ≡ cell_of_reuse step
  pub mid : Player
  pub same : IsUnchanged was mid
  pub at : AreAt (reuse_places step) mid.seat.view.held
  pub made : HasMade f.hierarchy Reuse (λ s w n. ⊤) (λ a was now. ⊤) (reuse_places step) mid now
  pub actor : actor_of now.actor ≡ after_reuse step (actor_of was.actor)
  pub seen : Extends now.seat.view.seen mid.seat.view.seen

-- while the actor was as before and held the gate, this was seen not to be gone, or to have a query pinned to it
pub record WasInUse (f : Floor) (was : Player) (gate : ℕ) : Type 0 where
  pub mid : Player
  pub same : IsUnchanged was mid
  pub seated : IsSeated f mid
  pub there : IsThere mid.seat.view.held gate
  pub in_use : Sees mid gate (λ cell. is_released cell ≡ false)
