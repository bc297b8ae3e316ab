-- What stands behind an actor's command in each state: a promise of the ledger, an acknowledgement that its server's image owes, and
-- its server's desk.
use Rattle.std.proofs.Common.{◌≡◌, ℕ, ◌<◌, ◌≤◌, Bool, true, Option, Some, refl, sym, ap, ◌∙◌, arith, ◌==◌, ◌&&◌}
use Rattle.query_router.specs.Desk.{DeskValue}
use Rattle.row_ledger.specs.LedgerValue.{LedgerValue}
use Rattle.server_image.specs.Image.{ImageValue}
use Rattle.list_words.proofs.Truth.{eqb-self}
use Rattle.volap_cell.specs.{Cells.{DeskCell, ImageCell, LedgerCell}, Commands.owes, Desking.is_on_desk, Ghost.Ghost, Invariant.InvWith, Owing.{is_insert, one_if, owed_by, serves}, Setting.{Setting, actor_count}, View.{View, view}, World.World, declared.command.Command.Command, declared.role.Role.Role, declared.role.Role.TheVariants.Session}
use Rattle.volap_cell.proofs.{Persons.has-command, Sums.sum-some, Views.Shown.{held-desk, held-image, held-ledger}}

module _ (s : Setting) (w : World) (g : Ghost) (i : InvWith s (view s w) g) (n : ℕ) (its : Command) (has : (view s w).commands n ≡ Some its) where
  abbrev v : View
  v = view s w

  there : n < actor_count s
  there = has-command s v i.numbering n its has

  -- all that the command owes is promised
  pub all-promised : (y : ℕ) (ledger : LedgerValue) → w.cells y ≡ LedgerCell ledger → owes its.work ≤ ledger.promised
  all-promised y ledger is =
      let some = sum-some (actor_count s) (λ b. owed_by (v.commands b)) n there in
      let mine : owed_by (v.commands n) ≡ owes its.work = ap owed_by has in
      let all = i.owing.promises in
      let same = (held-ledger s w i.numbering.tag y ledger is).1 in
      omega (arith, some, mine, all, same)

  -- an insert's acknowledgement is owed
  pub some-owed : is_insert (Some its) ≡ true → (server : ℕ) → v.roles n ≡ Session server → (y : ℕ) (image : ImageValue) → w.cells y ≡ ImageCell server image → 0 < image.owed
  some-owed insert server role y image is =
      let held = held-image s w i.numbering.tag y server image is in
      let f : ℕ → ℕ = λ b. one_if (serves server (v.roles b) && is_insert (v.commands b)) in
      let some = sum-some (actor_count s) f n there in
      let one : f n ≡ 1 =
      ap (λ (r : Role). one_if (serves server r && is_insert (v.commands n))) role ∙ ap (λ (c : Option Command). one_if ((server == server) && is_insert c)) has
      ∙ ap (λ (b : Bool). one_if ((server == server) && b)) insert ∙ (rw (eqb-self server) refl) in
      let all = i.owing.image server held.0 in
      let same : (v.images server).owed ≡ image.owed = ap (λ (x : ImageValue). x.owed) held.1 in
      omega (arith, some, one, all, same)

  -- its desk has it
  pub its-desk : is_on_desk its.work ≡ true → (server : ℕ) → v.roles n ≡ Session server → (y : ℕ) (desk : DeskValue) → w.cells y ≡ DeskCell server desk → desk.op ≡ Some its.of
  its-desk on server role y desk is =
      let held = held-desk s w i.numbering.tag y server desk is in
      sym (ap (λ (x : DeskValue). x.op) held.1) ∙ i.desking.on_desk n server its has role on
