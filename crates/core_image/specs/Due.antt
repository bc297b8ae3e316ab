-- What a kind asks of the cells that it is given and of its actor, beyond that they are those of a state; and what its inner
-- functions ask and do.
use Rattle.std.specs.Prelude.{ℕ, ◌≡◌, ◌+◌, ◌<◌, true, List, [], ◌∷◌, length, Some, None}
use Rattle.dim_hierarchy.specs.{Dimension.Dimension, Row.IsCoordOf, declared.row.Coord.Coord, declared.row.Row.Row}
use Rattle.query_router.specs.{Desk.{DeskValue, verdict_of}, declared.part.Part.Part}
use Rattle.query_router.specs.declared.part.PartState.TheVariants as state
use Rattle.query_router.specs.declared.part.Verdict.TheVariants as verdict
use Rattle.row_ledger.specs.LedgerValue.{LedgerValue}
use Rattle.row_ledger.specs.declared.event.Event.TheVariants as event
use Rattle.server_image.specs.{Image.{ImageValue, AreGrowths, IsAcked}, Spots.AreBoxes}
use Rattle.volap_cell.specs.{Cells.{CellValue, DeskOf, ImageOf, TheLedger, tag_of, desk_in}, ImageKinds.{cleared, doing}, Values.ActorValue, declared.command.Work.TheVariants.Insert, declared.role.Role.TheVariants.Session}

-- the actor's insert was routed, and the part on its server's desk is placed; the image is the server's
pub record CanAck (desk image ledger : CellValue) (a : ActorValue) : Type 0 where
  pub of : ℕ
  pub row : Row
  pub command : a.command ≡ doing of (Insert row true)
  pub idle : a.errand ≡ None
  pub server : ℕ
  pub role : a.role ≡ Session server
  pub desk_is : tag_of desk ≡ DeskOf server
  pub placed : verdict_of (desk_in desk).parts ≡ Some verdict.Placed
  pub image_is : tag_of image ≡ ImageOf server
  pub ledger_is : tag_of ledger ≡ TheLedger

-- there is one part, and it is placed by this path
pub record HasPath (parts : List Part) (path : List ℕ) : Type 0 where
  pub part : Part
  pub parts_are : parts ≡ part ∷ []
  pub placed : part.state ≡ state.Placed path

pub record IsPlacedBy (parts : List Part) : Type 0 where
  pub path : List ℕ
  pub has : HasPath parts path

-- what stands in the cells is ready for the acknowledgement of a row at this coordinate
pub record CanBook (h : List Dimension) (at : Coord) (desk : DeskValue) (image : ImageValue) (ledger : LedgerValue) : Type 0 where
  pub path : List ℕ
  pub has : HasPath desk.parts path
  pub some : 0 < length path
  pub boxes : AreBoxes h image.spots
  pub growths : AreGrowths h image.growths
  pub coord : IsCoordOf h at
  pub owed : 0 < image.owed
  pub promised : 0 < ledger.promised

-- the acknowledgement is booked
pub record Books (h : List Dimension) (of : ℕ) (at : Coord) (desk desk_now : DeskValue) (image image_now : ImageValue) (ledger ledger_now : LedgerValue) : Type 0 where
  pub path : List ℕ
  pub has : HasPath desk.parts path
  pub clear : desk_now ≡ cleared desk
  pub grows : IsAcked h path at image image_now
  pub history : ledger_now.history ≡ event.Acked of path ∷ ledger.history
  pub promised : ledger_now.promised + 1 ≡ ledger.promised
