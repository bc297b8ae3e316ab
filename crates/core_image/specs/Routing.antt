-- What the routing of an insert asks of the cells that it is given and of its actor; and what its inner function asks and does.
use Rattle.std.specs.Prelude.{ℕ, ◌≡◌, false, List, [], ◌∷◌, Some, None, slice_get}
use Rattle.dim_hierarchy.specs.{Dimension.Dimension, Row.IsCoordOf, declared.row.Coord.Coord, declared.row.Row.Row}
use Rattle.describing_set.specs.declared.listing.Spot.{Spot}
use Rattle.query_router.specs.Desk.{DeskValue}
use Rattle.server_image.specs.{Image.{ImageValue, IsRoute}, Spots.AreBoxes}
use Rattle.volap_cell.specs.{Cells.{CellValue, DeskOf, ImageOf, tag_of, desk_in}, ImageKinds.{doing, part_for}, Values.ActorValue, declared.command.Work.TheVariants.Insert, declared.role.Role.TheVariants.Session}

-- no part for the actor's insert was routed yet, and its server's desk is empty; the image is the server's
pub record CanRoute (desk image : CellValue) (a : ActorValue) : Type 0 where
  pub of : ℕ
  pub row : Row
  pub command : a.command ≡ doing of (Insert row false)
  pub server : ℕ
  pub role : a.role ≡ Session server
  pub desk_is : tag_of desk ≡ DeskOf server
  pub empty : (desk_in desk).op ≡ None
  pub image_is : tag_of image ≡ ImageOf server

-- the desk is empty, and the image can tell where a row at this coordinate goes
pub record CanLay (h : List Dimension) (at : Coord) (desk : DeskValue) (image : ImageValue) : Type 0 where
  pub empty : desk.op ≡ None
  pub boxes : AreBoxes h image.spots
  pub coord : IsCoordOf h at

-- the row's one part lies on the desk, for the shard that comes first for it
pub record Lays (h : List Dimension) (of : ℕ) (row : Row) (image : ImageValue) (desk desk_now : DeskValue) : Type 0 where
  pub place : ℕ
  pub first : IsRoute h row.at image.spots place
  pub spot : Spot
  pub spot_at : slice_get image.spots place ≡ Some spot
  pub put : desk_now ≡ record desk { op = Some of; parts = part_for row spot ∷ [] }
