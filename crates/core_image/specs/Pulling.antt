-- What a pull asks of the cells that it is given and of its actor; and what its inner functions ask and do.
use Rattle.std.specs.Prelude.{ℕ, ◌≡◌, ◌+◌, ◌^◌, ◌<◌, List, ◌∷◌, length, Some}
use Rattle.dim_hierarchy.specs.Dimension.{Dimension}
use Rattle.describing_set.specs.declared.listing.Spot.{Spot}
use Rattle.row_ledger.specs.LedgerValue.{LedgerValue}
use Rattle.row_ledger.specs.declared.event.Event.TheVariants as event
use Rattle.server_image.specs.{Image.{ImageValue, AreGrowths, IsSynced}, Registry.RegistryValue, Spots.AreBoxes}
use Rattle.volap_cell.specs.{Cells.{CellValue, ImageOf, TheLedger, TheRegistry, tag_of}, Commands.due_pull, ImageKinds.doing, Values.ActorValue, declared.command.Work.Work}

-- a pull for the server of the image is due for the actor's command; servers have numbers of one byte
pub record CanSync (image registry ledger : CellValue) (a : ActorValue) : Type 0 where
  pub of : ℕ
  pub work : Work
  pub command : a.command ≡ doing of work
  pub server : ℕ
  pub due : due_pull a.setting.servers work ≡ Some server
  pub few : a.setting.servers < 2 ^ 8
  pub image_is : tag_of image ≡ ImageOf server
  pub registry_is : tag_of registry ≡ TheRegistry
  pub ledger_is : tag_of ledger ≡ TheLedger

-- the boxes and the growths are of the hierarchy
pub record CanPull (h : List Dimension) (image : ImageValue) (registry : RegistryValue) : Type 0 where
  pub boxes : AreBoxes h registry.frontier
  pub growths : AreGrowths h image.growths

-- the growths are in the registry, the server lists what stands, and the ledger tells it
pub record Pulls (h : List Dimension) (server : ℕ) (image image_now : ImageValue) (registry registry_now : RegistryValue) (ledger ledger_now : LedgerValue) : Type 0 where
  pub listing : List Spot
  pub synced : IsSynced h image image_now registry registry_now listing
  pub history : ledger_now.history ≡ event.Synced server listing ∷ ledger.history
  pub promised : ledger_now.promised ≡ ledger.promised
  pub few : length ledger_now.history + ledger_now.promised < 2 ^ 31
