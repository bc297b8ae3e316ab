-- What the routing of an insert asks of the cells is so in each state, and what is laid is what the kind does.
use Rattle.std.proofs.Common.{◌≡◌, ℕ, ◌<◌, List, [], ◌∷◌, false, true, Some, None, sym, ap, ◌∙◌, subst}
use Rattle.dim_hierarchy.specs.{Dimension.Dimension, Row.IsCoordOf, declared.row.Row.Row}
use Rattle.query_router.specs.Desk.{DeskValue}
use Rattle.row_ledger.specs.Past.{Insert, insert_at}
use Rattle.server_image.specs.{Image.ImageValue, Spots.AreBoxes}
use Rattle.volap_cell.specs.{Cells.{CellValue, DeskCell, ImageCell, DeskOf, ImageOf, tag_of, desk_in}, Ghost.Ghost, ImageKinds.{DoesRoute, doing}, Invariant.InvWith, Setting.Setting, Steps.{IsHere, Makes}, Values.ActorValue, View.{View, view}, World.{World, change, held}, declared.command.Command.Command}
use Rattle.volap_cell.specs.declared.command.Work.TheVariants as work_is
use Rattle.volap_cell.specs.declared.kind.Kind.TheVariants as kind
use Rattle.volap_cell.proofs.Views.Shown.{held-image}
use Rattle.core_image.specs.Routing.{CanRoute, CanLay, Lays}
use Rattle.core_image.proofs.{Images.Valid.image-boxes, EachStep.RoutesInsert.route-keeps}

module _ (hs : List Dimension) (desk_at image_at : ℕ) (desk image : CellValue) (a : ActorValue) (here : IsHere hs (held desk_at desk ∷ held image_at image ∷ []) a) (due : CanRoute desk image a)
    (desk_server : ℕ) (dv : DeskValue) (desk_is : desk ≡ DeskCell desk_server dv) (image_server : ℕ) (iv : ImageValue) (image_is : image ≡ ImageCell image_server iv) where
  abbrev s : Setting
  s = a.setting

  abbrev w : World
  w = here.world

  abbrev v : View
  v = view s w

  abbrev g : Ghost
  g = here.inv.ghost_of

  i : InvWith s v g
  i = here.inv.holds

  desk-server : desk_server ≡ due.server
  desk-server = (let tags : DeskOf desk_server ≡ DeskOf due.server = sym (ap tag_of desk_is) ∙ due.desk_is in cc)

  image-server : image_server ≡ due.server
  image-server = (let tags : ImageOf image_server ≡ ImageOf due.server = sym (ap tag_of image_is) ∙ due.image_is in cc)

  -- the cells, by the server

  desk-cell : desk ≡ DeskCell due.server dv
  desk-cell = desk_is ∙ ap (λ (x : ℕ). DeskCell x dv) desk-server

  image-cell : image ≡ ImageCell due.server iv
  image-cell = image_is ∙ ap (λ (x : ℕ). ImageCell x iv) image-server

  image-held : (due.server < s.servers) × (v.images due.server ≡ iv)
  image-held = held-image s w i.numbering.tag image_at due.server iv (here.agrees.cells.1.0 ∙ image-cell)

  empty : dv.op ≡ None
  empty = sym (ap (λ (x : CellValue). (desk_in x).op) desk_is) ∙ due.empty

  abbrev its : Command
  its = record { of = due.of; work = work_is.Insert due.row false }

  begun-here : (insert : Insert) × (insert_at v.history due.of ≡ Some insert) × (insert.row ≡ due.row)
  begun-here =
      let progress = i.telling.progress here.number its (ap (λ (x : ActorValue). x.command) here.agrees.actor_is ∙ due.command) in
      (record { server = progress.0; row = due.row }, progress.2, λ k. due.row)

  pub can-lay : CanLay hs due.row.at dv iv
  can-lay = subst (λ (x : List Dimension). CanLay x due.row.at dv iv) here.about
      (record {
        empty = empty;
        boxes = subst (λ (x : ImageValue). AreBoxes s.hierarchy x.spots) image-held.1 (image-boxes s w g i due.server image-held.0);
        coord = subst (λ (r : Row). IsCoordOf s.hierarchy r.at) begun-here.2 (i.telling.rows due.of begun-here.0 begun-here.1).0;
      })

  -- the kind was done

  pub has-routed : (dv2 : DeskValue) (desk2 image2 : CellValue) (b : ActorValue) → Lays hs due.of due.row iv dv dv2 → desk2 ≡ DeskCell desk_server dv2 → image2 ≡ ImageCell image_server iv → b ≡ record a { command = doing due.of (work_is.Insert due.row true) }
      → Makes hs kind.Route (change desk_at desk desk2 ∷ change image_at image image2 ∷ []) a b
  has-routed dv2 desk2 image2 b lays desk2_is image2_is b_is =
      let does : DoesRoute hs (change desk_at desk desk2) (change image_at image image2) a b = record {
        of = due.of;
        row = due.row;
        command = due.command;
        server = due.server;
        role = due.role;
        image = iv;
        same = record { was = image-cell; is = image2_is ∙ ap (λ (x : ℕ). ImageCell x iv) image-server };
        place = lays.place;
        first = lays.first;
        spot = lays.spot;
        spot_at = lays.spot_at;
        desk = dv;
        empty = empty;
        put = record { was = desk-cell; is = desk2_is ∙ ap (λ (x : ℕ). DeskCell x dv2) desk-server ∙ ap (DeskCell due.server) lays.put };
        actor_is = b_is;
      } in
      record { does = does; keeps = route-keeps hs (change desk_at desk desk2) (change image_at image image2) a b does }
