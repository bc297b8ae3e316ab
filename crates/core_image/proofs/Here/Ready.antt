-- What the booking of an acknowledgement asks of the cells is so in each state, and what is booked is what the kind does.
use Rattle.std.proofs.{Common.{◌≡◌, ℕ, ◌+◌, ◌<◌, List, [], ◌∷◌, Bool, true, length, Option, Some, None, refl, sym, ap, ◌∙◌, subst, arith, ◌==◌, ◌&&◌, All}, lemmas.Bool.{false≢true}, lemmas.List.Elements.All-head}
use Rattle.std.specs.{Option.option_map_or, Prelude.IsTrue}
use Rattle.dim_hierarchy.specs.{Dimension.Dimension, declared.row.Row.Row}
use Rattle.query_router.specs.{Desk.{DeskValue, verdict_of}, declared.part.Part.Part, declared.part.PartState.PartState}
use Rattle.query_router.specs.declared.part.PartState.TheVariants as state
use Rattle.query_router.specs.declared.part.Verdict.TheVariants as verdict
use Rattle.row_ledger.specs.{LedgerValue.LedgerValue, Past.{Insert, insert_at}, Shards.is_path, declared.event.Event.Event}
use Rattle.server_image.specs.{Image.{ImageValue, AreGrowths}, Spots.AreBoxes}
use Rattle.list_words.proofs.Truth.{eqb-self}
use Rattle.volap_cell.specs.{Cells.{CellValue, DeskCell, ImageCell, LedgerCell, DeskOf, ImageOf, tag_of, desk_in}, Ghost.Ghost, ImageKinds.{DoesAck, doing}, Invariant.InvWith, Owing.{is_insert, one_if, owed_by, serves}, Placing.IsRowPart, Setting.{Setting, actor_count}, Steps.{IsHere, Makes}, Values.ActorValue, View.{View, view, no_row}, World.{World, change, held}, declared.command.Command.Command, declared.command.Work.Work, declared.role.Role.Role, declared.role.Role.TheVariants.Session}
use Rattle.volap_cell.specs.declared.command.Work.TheVariants as work_is
use Rattle.volap_cell.specs.declared.kind.Kind.TheVariants as kind
use Rattle.volap_cell.proofs.{Persons.has-command, Sums.sum-some, Views.Shown.{held-desk, held-image, held-ledger}}
use Rattle.core_image.specs.Due.{CanAck, CanBook, Books}
use Rattle.core_image.proofs.{Images.Valid.{image-boxes, image-growths}, EachStep.AcksInsert.ack-keeps, Rows.begun-of}

-- one part that comes to a place is placed
one-placed : (p : Part) → verdict_of (p ∷ []) ≡ Some verdict.Placed → (path : List ℕ) × (p.state ≡ state.Placed path)
one-placed p is = at p.state refl is
  where
    at : (st : PartState) → p.state ≡ st → verdict_of (record p { state = st } ∷ []) ≡ Some verdict.Placed → (path : List ℕ) × (p.state ≡ state.Placed path)
    at (state.Waiting wanted) same is = absurd (cc)
    at state.Taken same is = absurd (cc)
    at (state.Done total) same is = absurd (cc)
    at (state.Placed path) same is = (path, same)
    at state.NoMemory same is = absurd (cc)

-- the row of a command, and its number

row_in : Work → Row
row_in (work_is.Insert row routed) = row
row_in _ = no_row

-- an actor's command is read as it is said of it
pub at-command : (command : Command) (row : Row) (routed : Bool) (has : Option Command) → has ≡ Some command → command.work ≡ work_is.Insert row routed → (of : ℕ) (said : Row) (whether : Bool) → has ≡ doing of (work_is.Insert said whether) → (command.of ≡ of) × (row ≡ said)
unfolding row_in
at-command command row routed has is work of said whether due =
    let both : ◌≡◌ {A = Option Command} (Some command) (doing of (work_is.Insert said whether)) = sym is ∙ due in
    (ap (λ (o : Option Command). option_map_or (λ (c : Command). c.of) o 0) both, ap row_in (sym work) ∙ ap (λ (o : Option Command). option_map_or (λ (c : Command). row_in c.work) o no_row) both)

-- a path has a shard
some-path : (h : List Event) (server : ℕ) (path : List ℕ) → IsTrue (is_path h server path) → 0 < length path
some-path h server [] is = absurd (false≢true is)
some-path h server (x ∷ path) is = omega arith

module _ (hs : List Dimension) (desk_at image_at ledger_at : ℕ) (desk image ledger : CellValue) (a : ActorValue) (here : IsHere hs (held desk_at desk ∷ held image_at image ∷ held ledger_at ledger ∷ []) a) (due : CanAck desk image ledger a)
    (desk_server : ℕ) (dv : DeskValue) (desk_is : desk ≡ DeskCell desk_server dv) (image_server : ℕ) (iv : ImageValue) (image_is : image ≡ ImageCell image_server iv) (lv : LedgerValue) (ledger_is : ledger ≡ LedgerCell lv) where
  abbrev s : Setting
  s = a.setting

  abbrev w : World
  w = here.world

  abbrev v : View
  v = view s w

  abbrev n : ℕ
  n = here.number

  abbrev g : Ghost
  g = here.inv.ghost_of

  i : InvWith s v g
  i = here.inv.holds

  abbrev its : Command
  its = record { of = due.of; work = work_is.Insert due.row true }

  command : v.commands n ≡ Some its
  command = ap (λ (x : ActorValue). x.command) here.agrees.actor_is ∙ due.command

  role : v.roles n ≡ Session due.server
  role = ap (λ (x : ActorValue). x.role) here.agrees.actor_is ∙ due.role

  desk-server : desk_server ≡ due.server
  desk-server = (let tags : DeskOf desk_server ≡ DeskOf due.server = sym (ap tag_of desk_is) ∙ due.desk_is in cc)

  image-server : image_server ≡ due.server
  image-server = (let tags : ImageOf image_server ≡ ImageOf due.server = sym (ap tag_of image_is) ∙ due.image_is in cc)

  -- the cells, by the server

  desk-cell : desk ≡ DeskCell due.server dv
  desk-cell = desk_is ∙ ap (λ (x : ℕ). DeskCell x dv) desk-server

  image-cell : image ≡ ImageCell due.server iv
  image-cell = image_is ∙ ap (λ (x : ℕ). ImageCell x iv) image-server

  desk-held : (due.server < s.servers) × (v.desks due.server ≡ dv)
  desk-held = held-desk s w i.numbering.tag desk_at due.server dv (here.agrees.cells.0 ∙ desk-cell)

  image-held : (due.server < s.servers) × (v.images due.server ≡ iv)
  image-held = held-image s w i.numbering.tag image_at due.server iv (here.agrees.cells.1.0 ∙ image-cell)

  ledger-held : (v.history ≡ lv.history) × (v.promised ≡ lv.promised)
  ledger-held = held-ledger s w i.numbering.tag ledger_at lv (here.agrees.cells.1.1.0 ∙ ledger_is)

  abbrev insert : Insert
  insert = record { server = due.server; row = due.row }

  begun-here : insert_at v.history due.of ≡ Some insert
  begun-here = (begun-of s w g i n due.of due.server due.row command role).0

  op : (v.desks due.server).op ≡ Some due.of
  op = i.desking.on_desk n due.server its command role refl

  -- the part of the insert

  one-part : (p : Part) × (dv.parts ≡ p ∷ [])
  one-part = (let one = i.desking.insert due.server due.of insert desk-held.0 op begun-here in (one.0, sym (ap (λ (x : DeskValue). x.parts) desk-held.1) ∙ one.1))

  placed-part : (path : List ℕ) × (one-part.0.state ≡ state.Placed path)
  placed-part = one-placed one-part.0 (ap verdict_of (sym one-part.1) ∙ ap (λ (x : CellValue). verdict_of (desk_in x).parts) (sym desk_is) ∙ due.placed)

  lead : IsTrue (is_path v.history due.server placed-part.0)
  lead =
      let P : Part → Type 0 = λ p. IsRowPart v.history v.images v.ways g.placed g.path due.server due.of p p.state in
      let all : All P (one-part.0 ∷ []) = subst (All P) (ap (λ (x : DeskValue). x.parts) desk-held.1 ∙ one-part.1) (i.inserting.parts due.server due.of insert desk-held.0 op begun-here) in
      let at = subst (λ (st : PartState). IsRowPart v.history v.images v.ways g.placed g.path due.server due.of one-part.0 st) placed-part.1 (All-head P one-part.0 [] all) in
      at.3.is_path

  few : n < actor_count s
  few = has-command s v i.numbering n its command

  can-book-here : CanBook s.hierarchy due.row.at dv iv lv
  can-book-here =
      record {
        path = placed-part.0;
        has = record { part = one-part.0; parts_are = one-part.1; placed = placed-part.1 };
        some = some-path v.history due.server placed-part.0 lead;
        boxes = subst (λ (x : ImageValue). AreBoxes s.hierarchy x.spots) image-held.1 (image-boxes s w g i due.server image-held.0);
        growths = subst (λ (x : ImageValue). AreGrowths s.hierarchy x.growths) image-held.1 (image-growths s w g i due.server image-held.0);
        coord = (i.telling.rows due.of insert begun-here).0;
        owed =
            let f : ℕ → ℕ = λ b. one_if (serves due.server (v.roles b) && is_insert (v.commands b)) in
            let some = sum-some (actor_count s) f n few in
            let one : f n ≡ 1 = ap (λ (r : Role). one_if (serves due.server r && is_insert (v.commands n))) role ∙ ap (λ (c : Option Command). one_if ((due.server == due.server) && is_insert c)) command ∙ (rw (eqb-self due.server) refl) in
            let all = i.owing.image due.server image-held.0 in
            let same : (v.images due.server).owed ≡ iv.owed = ap (λ (x : ImageValue). x.owed) image-held.1 in
            omega (arith, some, one, all, same);
        promised =
            let some = sum-some (actor_count s) (λ b. owed_by (v.commands b)) n few in
            let one : owed_by (v.commands n) ≡ 1 = ap owed_by command in
            let all = i.owing.promises in
            let same = ledger-held.1 in
            omega (arith, some, one, all, same);
      }

  pub can-book : CanBook hs due.row.at dv iv lv
  can-book = subst (λ (x : List Dimension). CanBook x due.row.at dv iv lv) here.about can-book-here

  -- the kind was done

  pub has-acked : (dv2 : DeskValue) (iv2 : ImageValue) (lv2 : LedgerValue) (desk2 image2 ledger2 : CellValue) (b : ActorValue) → Books hs due.of due.row.at dv dv2 iv iv2 lv lv2
      → desk2 ≡ DeskCell desk_server dv2 → image2 ≡ ImageCell image_server iv2 → ledger2 ≡ LedgerCell lv2 → b ≡ record a { command = None; seen = length lv2.history }
      → Makes hs kind.Ack (change desk_at desk desk2 ∷ change image_at image image2 ∷ change ledger_at ledger ledger2 ∷ []) a b
  has-acked dv2 iv2 lv2 desk2 image2 ledger2 b booked desk2_is image2_is ledger2_is b_is =
      let seen : b.seen ≡ length lv2.history = ap (λ (x : ActorValue). x.seen) b_is in
      let used : lv.promised + 0 ≡ lv2.promised + 1 = (let p = booked.promised in omega (arith, p)) in
      let does : DoesAck hs (change desk_at desk desk2) (change image_at image image2) (change ledger_at ledger ledger2) a b = record {
        of = due.of;
        row = due.row;
        command = due.command;
        idle = due.idle;
        server = due.server;
        role = due.role;
        desk = dv;
        op = ap (λ (x : DeskValue). x.op) (sym desk-held.1) ∙ op;
        part = booked.has.part;
        parts = booked.has.parts_are;
        path = booked.path;
        placed = booked.has.placed;
        clear = record { was = desk-cell; is = desk2_is ∙ ap (λ (x : ℕ). DeskCell x dv2) desk-server ∙ ap (DeskCell due.server) booked.clear };
        image = iv;
        image_now = iv2;
        grows = booked.grows;
        turns = record { was = image-cell; is = image2_is ∙ ap (λ (x : ℕ). ImageCell x iv2) image-server };
        acked = record { ledger = lv; ledger_now = lv2; was = ledger_is; is = ledger2_is; history = booked.history; promised = used; all_seen = seen };
        actor_is = b_is ∙ (λ k. record a { command = None; seen = sym seen k });
      } in
      record { does = does; keeps = ack-keeps hs (change desk_at desk desk2) (change image_at image image2) (change ledger_at ledger ledger2) a b does }
