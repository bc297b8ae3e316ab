-- What the steps that are due go on with: a part or a purse, cells that are used again, or the next command.
use Rattle.std.specs.Prelude.{ℕ, ◌&&◌, Bool, is_none, is_some, false, List, Option, Some, None, get_or}
use Rattle.core_pages.specs.volap_cell.specs.{Values.{ErrandValue, actor_of}, declared.actor.Actor.Actor, declared.kind.Kind.Kind}
use Rattle.core_pages.specs.volap_cell.specs.declared.kind.Kind.TheVariants as kind
use Rattle.core_told.specs.Told.{is_of_part}
use Rattle.seeded_run.specs.Commands.{may_begin}

-- whether a step of this kind goes on with the part that its actor has, or with its purse, or uses a cell again: who looks up without a
-- part reads a load
abbrev pub is_for_part : Option ErrandValue → Kind → Bool
is_for_part errand kind.LookUp = is_some errand
is_for_part errand k = is_of_part k

-- whether a step of this kind begins the actor's next command
abbrev pub begins_of_one : Option Actor → Kind → Bool
begins_of_one None k = false
begins_of_one (Some a) k = is_none (actor_of a).command && may_begin k

abbrev pub begins_by : List (Option Actor) → ℕ → Kind → Bool
begins_by actors n k = begins_of_one (get_or actors n None) k
