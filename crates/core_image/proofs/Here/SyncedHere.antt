-- What a pull asks of the cells is so in each state, and what was pulled is what the kind does.
use Rattle.std.proofs.Common.{◌≡◌, ℕ, ◌+◌, ◌^◌, ◌<◌, List, [], ◌∷◌, length, Option, sym, ap, ◌∙◌, subst, arith}
use Rattle.std.specs.Option.{option_map_or}
use Rattle.dim_hierarchy.specs.Dimension.{Dimension}
use Rattle.row_ledger.specs.{LedgerValue.LedgerValue, declared.event.Event.TheVariants.Synced}
use Rattle.server_image.specs.{Image.{ImageValue, AreGrowths}, Registry.RegistryValue, Spots.AreBoxes}
use Rattle.volap_cell.specs.{Cells.{CellValue, ImageCell, LedgerCell, RegistryCell, ImageOf, tag_of}, Commands.{due_pull, pulled_once}, Ghost.Ghost, ImageKinds.{DoesSync, doing}, Invariant.InvWith, Setting.Setting, Steps.{IsHere, Makes}, Values.ActorValue, View.{View, view}, World.{World, change, held}, declared.command.Command.Command}
use Rattle.volap_cell.specs.declared.command.Work.TheVariants as work_is
use Rattle.volap_cell.specs.declared.kind.Kind.TheVariants as kind
use Rattle.volap_cell.proofs.Views.Shown.{held-image, held-registry}
use Rattle.core_image.specs.Pulling.{CanSync, CanPull, Pulls}
use Rattle.core_image.proofs.{Images.Valid.{image-growths, registry-boxes}, EachStep.SyncsImage.{settle-goes, sync-keeps}}

-- a settle of which a pull is due is far from the end of its numbers
pub few-pulls : (image registry ledger : CellValue) (a : ActorValue) → CanSync image registry ledger a → (of pulls : ℕ) → a.command ≡ doing of (work_is.Settle pulls) → pulls + 1 < 2 ^ 16
few-pulls image registry ledger a due of pulls is =
    let both : ◌≡◌ {A = Option Command} (doing of (work_is.Settle pulls)) (doing due.of due.work) = sym is ∙ due.command in
    let works : work_is.Settle pulls ≡ due.work = ap (λ (o : Option Command). option_map_or (λ (c : Command). c.work) o (work_is.Settle pulls)) both in
    let less = settle-goes a.setting.servers pulls due.server (ap (due_pull a.setting.servers) works ∙ due.due) in
    let few = due.few in omega (arith, less, few)

module _ (hs : List Dimension) (image_at registry_at ledger_at : ℕ) (image registry ledger : CellValue) (a : ActorValue) (here : IsHere hs (held image_at image ∷ held registry_at registry ∷ held ledger_at ledger ∷ []) a) (due : CanSync image registry ledger a)
    (image_server : ℕ) (iv : ImageValue) (image_is : image ≡ ImageCell image_server iv) (rv : RegistryValue) (registry_is : registry ≡ RegistryCell rv) (lv : LedgerValue) (ledger_is : ledger ≡ LedgerCell lv) where
  abbrev s : Setting
  s = a.setting

  abbrev w : World
  w = here.world

  abbrev v : View
  v = view s w

  abbrev g : Ghost
  g = here.inv.ghost_of

  i : InvWith s v g
  i = here.inv.holds

  image-server : image_server ≡ due.server
  image-server = (let tags : ImageOf image_server ≡ ImageOf due.server = sym (ap tag_of image_is) ∙ due.image_is in cc)

  -- the cells

  image-cell : image ≡ ImageCell due.server iv
  image-cell = image_is ∙ ap (λ (x : ℕ). ImageCell x iv) image-server

  image-held : (due.server < s.servers) × (v.images due.server ≡ iv)
  image-held = held-image s w i.numbering.tag image_at due.server iv (here.agrees.cells.0 ∙ image-cell)

  registry-held : v.registry ≡ rv
  registry-held = held-registry s w i.numbering.tag registry_at rv (here.agrees.cells.1.0 ∙ registry_is)

  pub can-pull : CanPull hs iv rv
  can-pull = subst (λ (x : List Dimension). CanPull x iv rv) here.about
      (record {
        boxes = subst (λ (x : RegistryValue). AreBoxes s.hierarchy x.frontier) registry-held (registry-boxes s w g i);
        growths = subst (λ (x : ImageValue). AreGrowths s.hierarchy x.growths) image-held.1 (image-growths s w g i due.server image-held.0);
      })

  -- the kind was done

  pub has-synced : (iv2 : ImageValue) (rv2 : RegistryValue) (lv2 : LedgerValue) (image2 registry2 ledger2 : CellValue) (b : ActorValue) → Pulls hs image_server iv iv2 rv rv2 lv lv2
      → image2 ≡ ImageCell image_server iv2 → registry2 ≡ RegistryCell rv2 → ledger2 ≡ LedgerCell lv2 → b ≡ record a { command = doing due.of (pulled_once due.work); seen = length lv2.history }
      → Makes hs kind.Sync (change image_at image image2 ∷ change registry_at registry registry2 ∷ change ledger_at ledger ledger2 ∷ []) a b
  has-synced iv2 rv2 lv2 image2 registry2 ledger2 b pulls image2_is registry2_is ledger2_is b_is =
      let seen : b.seen ≡ length lv2.history = ap (λ (x : ActorValue). x.seen) b_is in
      let same : lv.promised + 1 ≡ lv2.promised + 1 = (let p = pulls.promised in omega (arith, p)) in
      let does : DoesSync hs (change image_at image image2) (change registry_at registry registry2) (change ledger_at ledger ledger2) a b = record {
        of = due.of;
        work = due.work;
        command = due.command;
        server = due.server;
        due = due.due;
        image = iv;
        image_now = iv2;
        registry = rv;
        registry_now = rv2;
        listing = pulls.listing;
        synced = pulls.synced;
        turns_image = record { was = image-cell; is = image2_is ∙ ap (λ (x : ℕ). ImageCell x iv2) image-server };
        was = registry_is;
        is = registry2_is;
        pulled = record { ledger = lv; ledger_now = lv2; was = ledger_is; is = ledger2_is; history = pulls.history ∙ ap (λ (x : ℕ). Synced x pulls.listing ∷ lv.history) image-server; promised = same; all_seen = seen };
        actor_is = b_is ∙ (λ k. record a { command = doing due.of (pulled_once due.work); seen = sym seen k });
      } in
      record { does = does; keeps = sync-keeps hs (change image_at image image2) (change registry_at registry registry2) (change ledger_at ledger ledger2) a b does pulls.few }
