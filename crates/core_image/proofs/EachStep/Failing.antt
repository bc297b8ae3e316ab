-- What the failures of inserts and queries ask of what their cells hold is so in each state, and what they did is what the kind does.
use Rattle.std.proofs.Common.{◌≡◌, ℕ, ◌+◌, ◌<◌, List, [], ◌∷◌, false, true, length, Option, Some, None, refl, sym, ap, ◌∙◌, arith}
use Rattle.std.specs.Option.{option_map_or}
use Rattle.dim_hierarchy.specs.Dimension.{Dimension}
use Rattle.query_router.specs.Desk.{DeskValue, verdict_of}
use Rattle.row_ledger.specs.{LedgerValue.LedgerValue, declared.event.Event.TheVariants.Failed}
use Rattle.server_image.specs.Image.{ImageValue}
use Rattle.volap_cell.specs.{Cells.{CellValue, DeskCell, DeskOf, ImageCell, ImageOf, LedgerCell, desk_in, tag_of}, ImageKinds.{FailsQuery, FailsRouted, FailsUnrouted, OfQuery, OfUnrouted, cleared, doing}, Steps.{IsHere, Makes}, Values.ActorValue, World.{change, held}, declared.command.Command.Command, declared.command.Work.Work, declared.role.Role.TheVariants.Session}
use Rattle.volap_cell.specs.declared.command.Work.TheVariants as work_is
use Rattle.volap_cell.specs.declared.kind.Kind.TheVariants as kind
use Rattle.core_image.specs.NotesDue.{CanFailQuery, CanFailRouted, CanFailUnrouted}
use Rattle.core_image.proofs.{Commands.Backed.{all-promised, its-desk, some-owed}, EachStep.FailsQuery.query-keeps, EachStep.FailsRouted.routed-keeps, EachStep.FailsUnrouted.unrouted-keeps}

-- the number of an actor's command is the one that is said of it
its-number : (command : Command) (has : Option Command) (of : ℕ) (work : Work) → has ≡ Some command → has ≡ doing of work → command.of ≡ of
its-number command has of work is said = ap (λ (o : Option Command). option_map_or (λ (c : Command). c.of) o 0) (sym is ∙ said)

-- An insert without a part.

module _ (hs : List Dimension) (image_at ledger_at : ℕ) (image ledger : CellValue) (a : ActorValue) (here : IsHere hs (held image_at image ∷ held ledger_at ledger ∷ []) a) (due : CanFailUnrouted image ledger a)
    (server : ℕ) (iv : ImageValue) (image_is : image ≡ ImageCell server iv) (lv : LedgerValue) (ledger_is : ledger ≡ LedgerCell lv) where
  servers : server ≡ due.server
  servers = (let tags : ImageOf server ≡ ImageOf due.server = sym (ap tag_of image_is) ∙ due.image_is in cc)

  abbrev its : Command
  its = record { of = due.of; work = work_is.Insert due.row false }

  pub unrouted-owed : 0 < iv.owed
  unrouted-owed = some-owed a.setting here.world here.inv.ghost_of here.inv.holds here.number its (ap (λ (x : ActorValue). x.command) here.agrees.actor_is ∙ due.command) refl
      server (ap (λ (x : ActorValue). x.role) here.agrees.actor_is ∙ due.role ∙ ap Session (sym servers)) image_at iv (here.agrees.cells.0 ∙ image_is)

  pub unrouted-promised : 0 < lv.promised
  unrouted-promised =
      let all = all-promised a.setting here.world here.inv.ghost_of here.inv.holds here.number its (ap (λ (x : ActorValue). x.command) here.agrees.actor_is ∙ due.command) ledger_at lv (here.agrees.cells.1.0 ∙ ledger_is) in
      omega (arith, all)

  pub unrouted-makes : (command : Command) → a.command ≡ Some command → (iv2 : ImageValue) → iv ≡ record iv2 { owed = iv2.owed + 1 } → (lv2 : LedgerValue) → lv2.history ≡ Failed command.of ∷ lv.history → lv2.promised + 1 ≡ lv.promised
      → (seen : ℕ) → seen ≡ length lv2.history → Makes hs kind.Note (change image_at image (ImageCell server iv2) ∷ change ledger_at ledger (LedgerCell lv2) ∷ []) a (record a { command = None; seen = seen })
  unrouted-makes command has iv2 forgoes lv2 history promised seen all_seen =
      let d : FailsUnrouted (change image_at image (ImageCell server iv2)) (change ledger_at ledger (LedgerCell lv2)) a (record a { command = None; seen = seen }) = record {
        of = command.of;
        row = due.row;
        command = due.command ∙ ap (λ (x : ℕ). doing x (work_is.Insert due.row false)) (sym (its-number command a.command due.of _ has due.command));
        server = server;
        role = due.role ∙ ap Session (sym servers);
        image = iv;
        image_now = iv2;
        forgoes = forgoes;
        turns = record { was = image_is; is = refl };
        failed = record { ledger = lv; ledger_now = lv2; was = ledger_is; is = refl; history = history; promised = omega (arith, promised); all_seen = all_seen };
        actor_is = refl;
      } in
      record { does = OfUnrouted d; keeps = unrouted-keeps hs _ _ a _ d }

-- An insert with its part.

module _ (hs : List Dimension) (desk_at image_at ledger_at : ℕ) (desk image ledger : CellValue) (a : ActorValue) (here : IsHere hs (held desk_at desk ∷ held image_at image ∷ held ledger_at ledger ∷ []) a) (due : CanFailRouted desk image ledger a)
    (desk_server : ℕ) (dv : DeskValue) (desk_is : desk ≡ DeskCell desk_server dv) (server : ℕ) (iv : ImageValue) (image_is : image ≡ ImageCell server iv) (lv : LedgerValue) (ledger_is : ledger ≡ LedgerCell lv) where
  image-server : server ≡ due.server
  image-server = (let tags : ImageOf server ≡ ImageOf due.server = sym (ap tag_of image_is) ∙ due.image_is in cc)

  desk-server : desk_server ≡ server
  desk-server = (let tags : DeskOf desk_server ≡ DeskOf due.server = sym (ap tag_of desk_is) ∙ due.desk_is in let same : desk_server ≡ due.server = cc in same ∙ sym image-server)

  abbrev routed : Command
  routed = record { of = due.of; work = work_is.Insert due.row true }

  command-here : (here.world.actors here.number).command ≡ Some routed
  command-here = ap (λ (x : ActorValue). x.command) here.agrees.actor_is ∙ due.command

  role-here : (here.world.actors here.number).role ≡ Session server
  role-here = ap (λ (x : ActorValue). x.role) here.agrees.actor_is ∙ due.role ∙ ap Session (sym image-server)

  pub routed-owed : 0 < iv.owed
  routed-owed = some-owed a.setting here.world here.inv.ghost_of here.inv.holds here.number routed command-here refl server role-here image_at iv (here.agrees.cells.1.0 ∙ image_is)

  pub routed-promised : 0 < lv.promised
  routed-promised =
      let all = all-promised a.setting here.world here.inv.ghost_of here.inv.holds here.number routed command-here ledger_at lv (here.agrees.cells.1.1.0 ∙ ledger_is) in
      omega (arith, all)

  pub routed-makes : (command : Command) → a.command ≡ Some command → (dv2 : DeskValue) → dv2 ≡ cleared dv → (iv2 : ImageValue) → iv ≡ record iv2 { owed = iv2.owed + 1 }
      → (lv2 : LedgerValue) → lv2.history ≡ Failed command.of ∷ lv.history → lv2.promised + 1 ≡ lv.promised → (seen : ℕ) → seen ≡ length lv2.history
      → Makes hs kind.Note (change desk_at desk (DeskCell desk_server dv2) ∷ change image_at image (ImageCell server iv2) ∷ change ledger_at ledger (LedgerCell lv2) ∷ []) a (record a { command = None; seen = seen })
  routed-makes command has dv2 clear iv2 forgoes lv2 history promised seen all_seen =
      let number = its-number command a.command due.of _ has due.command in
      let desk-cell : desk ≡ DeskCell server dv = desk_is ∙ ap (λ (x : ℕ). DeskCell x dv) desk-server in
      let d : FailsRouted (change desk_at desk (DeskCell desk_server dv2)) (change image_at image (ImageCell server iv2)) (change ledger_at ledger (LedgerCell lv2)) a (record a { command = None; seen = seen }) = record {
        of = command.of;
        row = due.row;
        command = due.command ∙ ap (λ (x : ℕ). doing x (work_is.Insert due.row true)) (sym number);
        idle = due.idle;
        server = server;
        role = due.role ∙ ap Session (sym image-server);
        refused = record {
          desk = dv;
          op = its-desk a.setting here.world here.inv.ghost_of here.inv.holds here.number routed command-here refl server role-here desk_at dv (here.agrees.cells.0 ∙ desk-cell) ∙ ap Some (sym number);
          refused = ap (λ (c : CellValue). verdict_of (desk_in c).parts) (sym desk_is) ∙ due.refused;
          clear = record { was = desk-cell; is = ap (λ (x : ℕ). DeskCell x dv2) desk-server ∙ ap (DeskCell server) clear };
        };
        image = iv;
        image_now = iv2;
        forgoes = forgoes;
        turns = record { was = image_is; is = refl };
        failed = record { ledger = lv; ledger_now = lv2; was = ledger_is; is = refl; history = history; promised = omega (arith, promised); all_seen = all_seen };
        actor_is = refl;
      } in
      record { does = d; keeps = routed-keeps hs _ _ _ a _ d }

-- A query.

module _ (hs : List Dimension) (desk_at ledger_at : ℕ) (desk ledger : CellValue) (a : ActorValue) (here : IsHere hs (held desk_at desk ∷ held ledger_at ledger ∷ []) a) (due : CanFailQuery desk ledger a)
    (server : ℕ) (dv : DeskValue) (desk_is : desk ≡ DeskCell server dv) (lv : LedgerValue) (ledger_is : ledger ≡ LedgerCell lv) where
  query-server : server ≡ due.server
  query-server = (let tags : DeskOf server ≡ DeskOf due.server = sym (ap tag_of desk_is) ∙ due.desk_is in cc)

  abbrev asked : Command
  asked = record { of = due.of; work = work_is.Query }

  asked-here : (here.world.actors here.number).command ≡ Some asked
  asked-here = ap (λ (x : ActorValue). x.command) here.agrees.actor_is ∙ due.command

  pub query-promised : 0 < lv.promised
  query-promised =
      let all = all-promised a.setting here.world here.inv.ghost_of here.inv.holds here.number asked asked-here ledger_at lv (here.agrees.cells.1.0 ∙ ledger_is) in
      omega (arith, all)

  pub query-makes : (command : Command) → a.command ≡ Some command → (dv2 : DeskValue) → dv2 ≡ cleared dv → (lv2 : LedgerValue) → lv2.history ≡ Failed command.of ∷ lv.history → lv2.promised + 1 ≡ lv.promised
      → (seen : ℕ) → seen ≡ length lv2.history → Makes hs kind.Note (change desk_at desk (DeskCell server dv2) ∷ change ledger_at ledger (LedgerCell lv2) ∷ []) a (record a { command = None; seen = seen })
  query-makes command has dv2 clear lv2 history promised seen all_seen =
      let number = its-number command a.command due.of _ has due.command in
      let role = due.role ∙ ap Session (sym query-server) in
      let d : FailsQuery (change desk_at desk (DeskCell server dv2)) (change ledger_at ledger (LedgerCell lv2)) a (record a { command = None; seen = seen }) = record {
        of = command.of;
        command = due.command ∙ ap (λ (x : ℕ). doing x work_is.Query) (sym number);
        idle = due.idle;
        server = server;
        role = role;
        refused = record {
          desk = dv;
          op = its-desk a.setting here.world here.inv.ghost_of here.inv.holds here.number asked asked-here refl server (ap (λ (x : ActorValue). x.role) here.agrees.actor_is ∙ role) desk_at dv (here.agrees.cells.0 ∙ desk_is) ∙ ap Some (sym number);
          refused = ap (λ (c : CellValue). verdict_of (desk_in c).parts) (sym desk_is) ∙ due.refused;
          clear = record { was = desk_is; is = ap (DeskCell server) clear };
        };
        failed = record { ledger = lv; ledger_now = lv2; was = ledger_is; is = refl; history = history; promised = omega (arith, promised); all_seen = all_seen };
        actor_is = refl;
      } in
      record { does = OfQuery d; keeps = query-keeps hs _ _ a _ d }
