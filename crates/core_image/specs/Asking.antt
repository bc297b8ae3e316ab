-- What a query that begins and one that is answered ask of the cells that they are given and of their actor; and what their inner
-- functions ask and do.
use Rattle.std.specs.Prelude.{ℕ, ◌≡◌, ◌+◌, ◌^◌, ◌<◌, List, ◌∷◌, length, map, IsSome, Option, Some, None}
use Rattle.dim_hierarchy.specs.{Dimension.Dimension, Filter.IsFilterOf, declared.filter.Pick.Pick}
use Rattle.measure_agg.specs.Aggregate.{Aggregate}
use Rattle.query_router.specs.{Desk.{DeskValue, sum_of, verdict_of}, declared.part.Verdict.Verdict, declared.part.Verdict.TheVariants.Sum}
use Rattle.row_ledger.specs.LedgerValue.{LedgerValue}
use Rattle.row_ledger.specs.declared.event.Event.TheVariants as event
use Rattle.server_image.specs.{Image.{ImageValue, planned}, Spots.AreBoxes}
use Rattle.volap_cell.specs.{Cells.{CellValue, DeskOf, ImageOf, TheLedger, tag_of, desk_in}, ImageKinds.{IsFree, cleared, doing, query_part}, Values.ActorValue, declared.command.Work.TheVariants.Query, declared.role.Role.TheVariants.Session}

-- the actor has nothing to do, its server's desk is empty, and the filter is one of the hierarchy; the image is the server's
pub record CanBeginQuery (h : List Dimension) (desk image ledger : CellValue) (a : ActorValue) (filter : List Pick) : Type 0 where
  pub free : IsFree a
  pub server : ℕ
  pub role : a.role ≡ Session server
  pub valid : IsFilterOf h filter
  pub dims : 0 < length h
  pub desk_is : tag_of desk ≡ DeskOf server
  pub empty : (desk_in desk).op ≡ None
  pub image_is : tag_of image ≡ ImageOf server
  pub ledger_is : tag_of ledger ≡ TheLedger

-- the desk is empty, and the image can tell which shards the filter asks
pub record CanAsk (h : List Dimension) (filter : List Pick) (desk : DeskValue) (image : ImageValue) : Type 0 where
  pub empty : desk.op ≡ None
  pub boxes : AreBoxes h image.spots
  pub valid : IsFilterOf h filter

-- the query is in the ledger, which has room for its end, and its parts lie on the desk
pub record OpensQuery (h : List Dimension) (session server : ℕ) (filter : List Pick) (image : ImageValue) (desk desk_now : DeskValue) (ledger ledger_now : LedgerValue) : Type 0 where
  pub history : ledger_now.history ≡ event.Asked session server filter ∷ ledger.history
  pub promised : ledger_now.promised ≡ ledger.promised + 1
  pub few : length ledger_now.history + ledger_now.promised < 2 ^ 31
  pub put : desk_now ≡ record desk { op = Some (length ledger.history); parts = map (query_part filter) (planned h filter image.spots) }

-- Answers.

-- the actor's query stands on its server's desk, and its parts come to a sum
pub record CanAnswer (desk ledger : CellValue) (a : ActorValue) : Type 0 where
  pub of : ℕ
  pub command : a.command ≡ doing of Query
  pub idle : a.errand ≡ None
  pub server : ℕ
  pub role : a.role ≡ Session server
  pub desk_is : tag_of desk ≡ DeskOf server
  pub answer : Aggregate
  pub sum : verdict_of (desk_in desk).parts ≡ Some (Sum answer)
  pub ledger_is : tag_of ledger ≡ TheLedger

-- a command comes to a sum
abbrev pub IsSum : Option Verdict → Type 0
IsSum come = (answer : Aggregate) × (come ≡ Some (Sum answer))

-- the parts on the desk are of a command, and come to a sum that can be counted; and its end is promised
pub record CanGive (desk : DeskValue) (ledger : LedgerValue) : Type 0 where
  pub op : IsSome desk.op
  pub few : (sum_of desk.parts).count < 2 ^ 63
  pub sum : IsSum (verdict_of desk.parts)
  pub promised : 0 < ledger.promised

-- the desk is cleared, and the answer is in the ledger
pub record GivesAnswer (of : ℕ) (desk desk_now : DeskValue) (ledger ledger_now : LedgerValue) : Type 0 where
  pub answer : Aggregate
  pub sum : verdict_of desk.parts ≡ Some (Sum answer)
  pub clear : desk_now ≡ cleared desk
  pub history : ledger_now.history ≡ event.Answered of answer ∷ ledger.history
  pub promised : ledger_now.promised + 1 ≡ ledger.promised
