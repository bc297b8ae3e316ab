-- The one state that vectors of cells and actors are, and what it is about.
use Rattle.std.specs.{Option.option_map_or, Prelude.{List, map, Option}}
use Rattle.dim_hierarchy.specs.Dimension.{Dimension}
use Rattle.row_ledger.specs.declared.settings.Use.{Use}
use Rattle.core_pages.specs.volap_cell.specs.{Filling.world_of, Setting.Setting, World.World, declared.actor.Actor.Actor, declared.cell.Cell.Cell, declared.role.Role.Role, declared.role.Role.TheVariants.Hand}

-- what each actor is there for
abbrev pub roles_in : List (Option Actor) → List Role
roles_in actors = map (λ (o : Option Actor). option_map_or (λ (a : Actor). a.role) o (Hand 0)) actors

-- what the core is about, where it has these dimensions and settings and these actors
abbrev pub setting_in : List Dimension → Use → List (Option Actor) → Setting
setting_in h with actors = record { hierarchy = h; servers = with.servers; workers = with.workers; stock_cells = with.cells; roles = roles_in actors }

-- what stands in each cell, and who each actor is
abbrev pub world_in : List Dimension → Use → List (Option Cell) → List (Option Actor) → World
world_in h with cells actors = world_of (setting_in h with actors) cells actors
