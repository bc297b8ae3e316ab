-- A command that asks nothing of the registry is noted: that keeps the invariant.
use Rattle.std.proofs.{Common.{◌≡◌, ℕ, ◌+◌, ◌<◌, List, [], ◌∷◌, false, length, None, refl, sym, ◌∙◌, subst}, lemmas.Bool.{false≢true}}
use Rattle.dim_hierarchy.specs.Dimension.{Dimension}
use Rattle.row_ledger.specs.{Classes.class_of, Groups.IsCallOf, LedgerValue.LedgerValue, declared.class.Class.Class, declared.event.Event.Event, declared.event.Event.TheVariants.Called, declared.settings.Call.Call}
use Rattle.row_ledger.specs.declared.class.Class.TheVariants as class_is
use Rattle.row_ledger.specs.declared.class.Subject.TheVariants as subject
use Rattle.server_image.specs.Registry.{RegistryValue}
use Rattle.volap_cell.specs.{Cells.{CellValue, LedgerCell}, Commands.owes, ImageKinds.{IsBegun, NotesCalled, OfCalled, asks_registry, doing}, Setting.Setting, Steps.{Keeps, Makes}, Values.ActorValue, View.{View, view}, World.{Change, Agrees, after, change}, declared.command.Work.Work}
use Rattle.volap_cell.specs.declared.kind.Kind.TheVariants as kind
use Rattle.volap_cell.proofs.{Histories.Books.{EventNew, one-event}, Persons.has-role, Views.Books.view-note_called, Views.Shown.held-ledger}
use Rattle.core_image.specs.NotesDue.{CanNoteCalled, Notes, work_alone}
use Rattle.core_image.proofs.{Commands.NewCommands.{alone-begins, caller-there}, Commands.Owed.{IsFew, few-pushed}, EachStep.CallsBegin.call-kept}

-- what the step needs beside what it does: the ledger holds no more than it may, a pull is for a server that is there, and a
-- group asks a question of the hierarchy
record IsSound (hierarchy : List Dimension) (l : Change) (a b : ActorValue) (registry : RegistryValue) (d : NotesCalled registry false l a b) : Type 0 where
  pub few : IsFew d.pushed
  pub server : (x : ℕ) → class_of d.called ≡ class_is.Sync x → x < a.setting.servers
  pub valid : IsCallOf hierarchy d.called

called-keeps : (hierarchy : List Dimension) (registry : RegistryValue) (l : Change) (a b : ActorValue) (d : NotesCalled registry false l a b) → IsSound hierarchy l a b registry d → Keeps hierarchy kind.Note (l ∷ []) a b (OfCalled registry d)
called-keeps hierarchy registry l a b d sound s w n g i_same i ag sight =
    let here : (x : NotesCalled registry false l (w.actors n) b) × IsSound hierarchy l (w.actors n) b registry x = subst (λ (z : ActorValue). (x : NotesCalled registry false l z b) × IsSound hierarchy l z b registry x) (sym ag.actor_is) (d, sound) in
    let agrees : Agrees w (l ∷ []) n (w.actors n) = record { cells = ag.cells; actor_is = refl; free = λ x ne. ag.free x ne } in
    let x = here.0 in
    let v : View = view s w in
    let e : Event = Called (w.actors n).number x.called in
    let pushed : EventNew (view s (after w (l ∷ []) n b)) v e (1 + owes x.work) 1 b.seen = one-event s w n b i.numbering.tag l agrees.cells x.pushed in
    let ledger-was : (v.history ≡ x.pushed.ledger.history) × (v.promised ≡ x.pushed.ledger.promised) = held-ledger s w i.numbering.tag l.number x.pushed.ledger (agrees.cells.0 ∙ x.pushed.was) in
    let about : (w.actors n).setting ≡ s = i.numbering.about n in
    call-kept (l ∷ []) b s w n g i agrees x.called (subst (λ (hs : List Dimension). IsCallOf hs x.called) (sym i_same) here.1.valid) x.work x.job x.free (has-role s v i.numbering n (caller-there (v.roles n) x.called x.allowed s.workers)) pushed
    (few-pushed x.pushed v.history v.promised (view s (after w (l ∷ []) n b)).promised ledger-was.0 ledger-was.1 pushed.promised_is here.1.few)
    (view-note_called s w n registry false l (w.actors n) b agrees x)
    (alone-begins s v g i (w.actors n).number (v.roles n) (v.purses n) x.called x.asks_is (λ server is. subst (λ (z : Setting). server < z.servers) about (here.1.server server is)) (w.actors n).setting.workers registry x.work x.job x.begun)
    (x.actor_is ∙ (λ k. record (w.actors n) { command = doing (length (sym ledger-was.0 k)) x.work; job = x.job; seen = b.seen }))
    (OfCalled registry x) tt

-- The kind was done.

alone-begun : (workers : ℕ) (r : RegistryValue) (class : Class) → asks_registry class ≡ false → IsBegun workers r class (work_alone class) None
alone-begun workers r (class_is.Sync server) alone = (refl, refl)
alone-begun workers r class_is.Settle alone = (refl, refl)
alone-begun workers r class_is.Bare alone = (refl, refl)
alone-begun workers r (class_is.Page subject.Shards) alone = (refl, refl)
alone-begun workers r (class_is.Page subject.Rows) alone = (refl, refl)
alone-begun workers r (class_is.Page subject.Groups) alone = (refl, refl)
alone-begun workers r _ alone = absurd (false≢true (sym alone))

-- a registry without shards, for a step that holds none
no_registry : RegistryValue
no_registry = record { frontier = []; retired = [] }

pub called-makes : (hs : List Dimension) (ledger_at : ℕ) (call : Call) (ledger : CellValue) (a : ActorValue) → CanNoteCalled hs call ledger a → (lv : LedgerValue) → ledger ≡ LedgerCell lv → (lv2 : LedgerValue)
    → (of : ℕ) → of ≡ length lv.history → (work : Work) → work ≡ work_alone (class_of call) → Notes (Called a.number call) (1 + owes work) 1 lv lv2 → (seen : ℕ) → seen ≡ length lv2.history
    → Makes hs kind.Note (change ledger_at ledger (LedgerCell lv2) ∷ []) a (record a { command = doing of work; seen = seen })
called-makes hs ledger_at call ledger a due lv ledger_is lv2 of of_is work work_is notes seen all_seen =
    let d : NotesCalled no_registry false (change ledger_at ledger (LedgerCell lv2)) a (record a { command = doing of work; seen = seen }) = record {
      free = due.free;
      called = call;
      allowed = due.allowed;
      asks_is = due.alone;
      work = work;
      job = None;
      begun = subst (λ (x : Work). IsBegun a.setting.workers no_registry (class_of call) x None) (sym work_is) (alone-begun a.setting.workers no_registry (class_of call) due.alone);
      pushed = record { ledger = lv; ledger_now = lv2; was = ledger_is; is = refl; history = notes.history; promised = notes.promised; all_seen = all_seen };
      actor_is = λ k. record a { command = doing (of_is k) work; job = due.free.job k; seen = seen };
    } in
    record { does = OfCalled no_registry d; keeps = called-keeps hs no_registry _ a _ d (record { few = notes.few; server = due.server; valid = due.valid }) }
