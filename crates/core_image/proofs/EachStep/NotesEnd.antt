-- The end of a command is noted: what that asks of the ledger is so in each state, and it keeps the invariant.
use Rattle.std.proofs.Common.{◌≡◌, ℕ, ◌<◌, ◌≤◌, List, [], ◌∷◌, length, Option, Some, None, refl, sym, ap, ◌∙◌, subst, arith}
use Rattle.std.specs.Option.{option_map_or}
use Rattle.dim_hierarchy.specs.Dimension.{Dimension}
use Rattle.row_ledger.specs.{LedgerValue.LedgerValue, declared.settings.How.How}
use Rattle.volap_cell.specs.{Cells.{CellValue, LedgerCell}, Commands.{MayNoteEnd, owes}, Ghost.Ghost, ImageKinds.{NotesEnded, OfEnded, doing}, Invariant.InvWith, Setting.Setting, Steps.{IsHere, Keeps, Makes}, Values.ActorValue, View.view, World.{World, Change, change, held}, declared.command.Command.Command, declared.command.Work.Work}
use Rattle.volap_cell.specs.declared.kind.Kind.TheVariants as kind
use Rattle.core_image.specs.NotesDue.{CanNoteEnded, NotesEnd}
use Rattle.core_image.proofs.{Commands.Backed.all-promised, Commands.BalanceEnds.balance-ends, Commands.Endings.ends-as, EachStep.CallsEnd.{IsEnding, ended-kept}}

-- what a command is that may end so
ending : (s : Setting) (w : World) (g : Ghost) (i : InvWith s (view s w) g) (n of : ℕ) (work : Work) (how : How) → (view s w).commands n ≡ doing of work → MayNoteEnd s.servers work ((view s w).jobs n) how
    → IsEnding s (view s w).history g.placed of work ((view s w).jobs n) how
ending s w g i n of work how has ends =
    let its : Command = record { of = of; work = work } in
    ends-as s (view s w) g i n of work has (i.telling.is_open n its has) (i.telling.progress n its has) how ends
    (λ b is. subst (λ (x : Work). IsEnding s (view s w).history g.placed of x ((view s w).jobs n) how) (sym is)
    (balance-ends s (view s w) g i n of b (has ∙ ap (doing of) is) how (subst (λ (x : Work). MayNoteEnd s.servers x ((view s w).jobs n) how) is ends)))

ended-keeps : (hierarchy : List Dimension) (l : Change) (a b : ActorValue) (d : NotesEnded l a b) → Keeps hierarchy kind.Note (l ∷ []) a b (OfEnded d)
ended-keeps hierarchy l a b d s w n g i_same i ag sight =
    let x : NotesEnded l (w.actors n) b = subst (λ (z : ActorValue). NotesEnded l z b) (sym ag.actor_is) d in
    let ends : MayNoteEnd s.servers x.work (w.actors n).job x.how_it_ends = subst (λ (z : Setting). MayNoteEnd z.servers x.work (w.actors n).job x.how_it_ends) (i.numbering.about n) x.ends in
    ended-kept l b s w n g i (record { cells = ag.cells; actor_is = refl; free = λ y ne. ag.free y ne }) x (ending s w g i n x.of x.work x.how_it_ends x.command ends)

module _ (hs : List Dimension) (ledger_at : ℕ) (how : How) (ledger : CellValue) (a : ActorValue) (here : IsHere hs (held ledger_at ledger ∷ []) a) (due : CanNoteEnded how ledger a) (command : Command) (has : a.command ≡ Some command) (lv : LedgerValue) (ledger_is : ledger ≡ LedgerCell lv) where
  its-work : command.work ≡ due.work
  its-work = ap (λ (o : Option Command). option_map_or (λ (c : Command). c.work) o command.work) (sym has ∙ due.command)

  command-here : (here.world.actors here.number).command ≡ doing due.of due.work
  command-here = ap (λ (x : ActorValue). x.command) here.agrees.actor_is ∙ due.command

  ends-here : MayNoteEnd a.setting.servers due.work (here.world.actors here.number).job how
  ends-here = subst (λ (x : ActorValue). MayNoteEnd a.setting.servers due.work x.job how) (sym here.agrees.actor_is) due.ends

  pub some-left : (left : ℕ) → left ≡ owes command.work → 0 < left
  some-left left is =
      let some = (ending a.setting here.world here.inv.ghost_of here.inv.holds here.number due.of due.work how command-here ends-here).some in
      let same = ap owes its-work in
      omega (arith, some, same, is)

  pub left-promised : (left : ℕ) → left ≡ owes command.work → left ≤ lv.promised
  left-promised left is =
      let all = all-promised a.setting here.world here.inv.ghost_of here.inv.holds here.number (record { of = due.of; work = due.work }) command-here ledger_at lv (here.agrees.cells.0 ∙ ledger_is) in
      let same = ap owes its-work in
      omega (arith, all, same, is)

  pub ended-makes : (left : ℕ) → left ≡ owes command.work → (lv2 : LedgerValue) → NotesEnd command.of how left lv lv2 → (seen : ℕ) → seen ≡ length lv2.history
      → Makes hs kind.Note (change ledger_at ledger (LedgerCell lv2) ∷ []) a (record a { command = None; job = None; seen = seen })
  ended-makes left is lv2 notes seen all_seen =
      let promised = notes.promised in
      let d : NotesEnded (change ledger_at ledger (LedgerCell lv2)) a (record a { command = None; job = None; seen = seen }) = record {
        of = command.of;
        work = command.work;
        command = has;
        how_it_ends = how;
        ends = subst (λ (x : Work). MayNoteEnd a.setting.servers x a.job how) (sym its-work) due.ends;
        ended = record { ledger = lv; ledger_now = lv2; was = ledger_is; is = refl; history = notes.history; promised = omega (arith, promised, is); all_seen = all_seen };
        actor_is = refl;
      } in
      record { does = OfEnded d; keeps = ended-keeps hs _ a _ d }
