-- What a query that begins asks of the cells is so in each state, and what is asked is what the kind does.
use Rattle.std.proofs.Common.{◌≡◌, ℕ, ◌+◌, ◌<◌, List, [], ◌∷◌, length, None, sym, ap, ◌∙◌, subst, arith}
use Rattle.dim_hierarchy.specs.{Dimension.Dimension, declared.filter.Pick.Pick}
use Rattle.query_router.specs.Desk.{DeskValue}
use Rattle.row_ledger.specs.{LedgerValue.LedgerValue, declared.event.Event.TheVariants.Asked}
use Rattle.server_image.specs.{Image.ImageValue, Spots.AreBoxes}
use Rattle.volap_cell.specs.{Cells.{CellValue, DeskCell, ImageCell, LedgerCell, DeskOf, ImageOf, tag_of, desk_in}, Ghost.Ghost, ImageKinds.{DoesBeginQuery, doing}, Invariant.InvWith, Setting.Setting, Steps.{IsHere, Makes}, Values.ActorValue, View.{View, view}, World.{World, change, held}}
use Rattle.volap_cell.specs.declared.command.Work.TheVariants as work_is
use Rattle.volap_cell.specs.declared.kind.Kind.TheVariants as kind
use Rattle.volap_cell.proofs.Views.Shown.{held-image}
use Rattle.core_image.specs.Asking.{CanBeginQuery, CanAsk, OpensQuery}
use Rattle.core_image.proofs.{Images.Valid.image-boxes, EachStep.AsksQuery.query-keeps}

module _ (hs : List Dimension) (desk_at image_at ledger_at : ℕ) (desk image ledger : CellValue) (a : ActorValue) (filter : List Pick) (here : IsHere hs (held desk_at desk ∷ held image_at image ∷ held ledger_at ledger ∷ []) a)
    (due : CanBeginQuery hs desk image ledger a filter)
    (desk_server : ℕ) (dv : DeskValue) (desk_is : desk ≡ DeskCell desk_server dv) (image_server : ℕ) (iv : ImageValue) (image_is : image ≡ ImageCell image_server iv) (lv : LedgerValue) (ledger_is : ledger ≡ LedgerCell lv) where
  abbrev s : Setting
  s = a.setting

  abbrev w : World
  w = here.world

  abbrev v : View
  v = view s w

  abbrev g : Ghost
  g = here.inv.ghost_of

  i : InvWith s v g
  i = here.inv.holds

  desk-server : desk_server ≡ due.server
  desk-server = (let tags : DeskOf desk_server ≡ DeskOf due.server = sym (ap tag_of desk_is) ∙ due.desk_is in cc)

  image-server : image_server ≡ due.server
  image-server = (let tags : ImageOf image_server ≡ ImageOf due.server = sym (ap tag_of image_is) ∙ due.image_is in cc)

  -- the cells, by the server

  desk-cell : desk ≡ DeskCell due.server dv
  desk-cell = desk_is ∙ ap (λ (x : ℕ). DeskCell x dv) desk-server

  image-cell : image ≡ ImageCell due.server iv
  image-cell = image_is ∙ ap (λ (x : ℕ). ImageCell x iv) image-server

  image-held : (due.server < s.servers) × (v.images due.server ≡ iv)
  image-held = held-image s w i.numbering.tag image_at due.server iv (here.agrees.cells.1.0 ∙ image-cell)

  empty : dv.op ≡ None
  empty = sym (ap (λ (x : CellValue). (desk_in x).op) desk_is) ∙ due.empty

  pub can-ask : CanAsk hs filter dv iv
  can-ask = record {
    empty = empty;
    boxes = subst (λ (x : List Dimension). AreBoxes x iv.spots) here.about (subst (λ (x : ImageValue). AreBoxes s.hierarchy x.spots) image-held.1 (image-boxes s w g i due.server image-held.0));
    valid = due.valid;
  }

  -- the kind was done

  pub has-asked : (dv2 : DeskValue) (lv2 : LedgerValue) (desk2 image2 ledger2 : CellValue) (b : ActorValue) → OpensQuery hs a.number desk_server filter iv dv dv2 lv lv2
      → desk2 ≡ DeskCell desk_server dv2 → image2 ≡ ImageCell image_server iv → ledger2 ≡ LedgerCell lv2 → b ≡ record a { command = doing (length lv.history) work_is.Query; seen = length lv2.history }
      → Makes hs kind.BeginQuery (change desk_at desk desk2 ∷ change image_at image image2 ∷ change ledger_at ledger ledger2 ∷ []) a b
  has-asked dv2 lv2 desk2 image2 ledger2 b asks desk2_is image2_is ledger2_is b_is =
      let seen : b.seen ≡ length lv2.history = ap (λ (x : ActorValue). x.seen) b_is in
      let more : lv.promised + 2 ≡ lv2.promised + 1 = (let p = asks.promised in omega (arith, p)) in
      let does : DoesBeginQuery hs (change desk_at desk desk2) (change image_at image image2) (change ledger_at ledger ledger2) a b = record {
        free = due.free;
        server = due.server;
        role = due.role;
        filter = filter;
        valid = due.valid;
        dims = due.dims;
        image = iv;
        same = record { was = image-cell; is = image2_is ∙ ap (λ (x : ℕ). ImageCell x iv) image-server };
        desk = dv;
        empty = empty;
        asked = record { ledger = lv; ledger_now = lv2; was = ledger_is; is = ledger2_is; history = asks.history ∙ ap (λ (x : ℕ). Asked a.number x filter ∷ lv.history) desk-server; promised = more; all_seen = seen };
        put = record { was = desk-cell; is = desk2_is ∙ ap (λ (x : ℕ). DeskCell x dv2) desk-server ∙ ap (DeskCell due.server) asks.put };
        actor_is = b_is ∙ (λ k. record a { command = doing (length lv.history) work_is.Query; seen = sym seen k });
      } in
      record { does = does; keeps = query-keeps hs (change desk_at desk desk2) (change image_at image image2) (change ledger_at ledger ledger2) a b does asks.few }
