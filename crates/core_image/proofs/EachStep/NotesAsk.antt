-- A command that asks the registry what stands is noted: that keeps the invariant.
use Rattle.std.proofs.Common.{◌≡◌, ◌≢◌, ℕ, ◌+◌, List, [], ◌∷◌, true, false, length, Option, refl, sym, ap, ◌∙◌, subst}
use Rattle.dim_hierarchy.specs.Dimension.{Dimension}
use Rattle.row_ledger.specs.{Classes.class_of, Groups.IsCallOf, LedgerValue.LedgerValue, declared.class.Class.Class, declared.event.Event.Event, declared.event.Event.TheVariants.Called, declared.settings.Call.Call, declared.settings.Call.TheVariants.{Sync, Split, Move, Balance, Barrier, Settle, Shards, Tree, Audit, Group}}
use Rattle.row_ledger.specs.declared.class.Class.TheVariants as class_is
use Rattle.server_image.specs.Registry.{RegistryValue}
use Rattle.volap_cell.specs.{Cells.{CellValue, LedgerCell, RegistryCell, TheLedger, TheRegistry, tag_of}, Commands.owes, ImageKinds.{IsAsked, IsBegun, NotesCalled, OfCalledAsking, asks_registry, doing}, Setting.Setting, Steps.{Keeps, Makes}, Values.{ActorValue, JobValue}, View.{View, view}, World.{Change, Agrees, after, change}, declared.command.Work.Work}
use Rattle.volap_cell.specs.declared.kind.Kind.TheVariants as kind
use Rattle.volap_cell.proofs.{Cells.Past.ledger-past, Histories.Books.EventNew, Persons.has-role, Views.Books.view-note_asking, Views.Fields.pushed-new, Views.Shown.{held-ledger, held-registry}}
use Rattle.core_image.specs.NotesDue.{BeginsAsking, CanNoteAsking, Notes}
use Rattle.core_image.proofs.{Commands.NewCommands.{asker-admin, asking-begins, caller-there}, Commands.Owed.{IsFew, few-pushed}, EachStep.CallsBegin.call-kept}

-- what the step needs beside what it does: the ledger holds no more than it may, the administrator has no spares, and a balance
-- makes no more actions than a byte can tell
record IsSoundAsk (l : Change) (a b : ActorValue) (registry : RegistryValue) (d : NotesCalled registry true l a b) : Type 0 where
  pub few : IsFew d.pushed
  pub spares : a.purse ≡ []
  pub begins : BeginsAsking a.setting.workers registry (class_of d.called) d.work d.job

-- a group asks nothing of the registry
asking-valid : (hs : List Dimension) (call : Call) → asks_registry (class_of call) ≡ true → IsCallOf hs call
asking-valid hs (Group dim level filter) asks = absurd (let never : false ≡ true = asks in cc)
asking-valid hs (Sync server) asks = tt
asking-valid hs (Split shard) asks = tt
asking-valid hs (Move shard worker) asks = tt
asking-valid hs (Balance _) asks = tt
asking-valid hs Barrier asks = tt
asking-valid hs Settle asks = tt
asking-valid hs Shards asks = tt
asking-valid hs (Tree shard) asks = tt
asking-valid hs Audit asks = tt

asking-keeps : (hierarchy : List Dimension) (registry : RegistryValue) (c l : Change) (a b : ActorValue) (asked : IsAsked registry c) (d : NotesCalled registry true l a b) → IsSoundAsk l a b registry d
    → Keeps hierarchy kind.Note (c ∷ l ∷ []) a b (OfCalledAsking registry asked d)
asking-keeps hierarchy registry c l a b asked d sound s w n g i_same i ag sight =
    let here : (x : NotesCalled registry true l (w.actors n) b) × IsSoundAsk l (w.actors n) b registry x = subst (λ (z : ActorValue). (x : NotesCalled registry true l z b) × IsSoundAsk l z b registry x) (sym ag.actor_is) (d, sound) in
    let agrees : Agrees w (c ∷ l ∷ []) n (w.actors n) = record { cells = ag.cells; actor_is = refl; free = λ x ne. ag.free x ne } in
    let x = here.0 in
    let v : View = view s w in
    let e : Event = Called (w.actors n).number x.called in
    let apart : tag_of c.before ≢ tag_of l.before = (λ q. let never : TheRegistry ≡ TheLedger = sym (ap tag_of asked.was) ∙ q ∙ ap tag_of x.pushed.was in cc) in
    let pushed : EventNew (view s (after w (c ∷ l ∷ []) n b)) v e (1 + owes x.work) 1 b.seen =
    pushed-new x.pushed (ledger-past s w.cells i.numbering.tag (c ∷ []) l [] agrees.cells (apart, tt) x.pushed.ledger x.pushed.ledger_now x.pushed.was x.pushed.is) in
    let ledger-was : (v.history ≡ x.pushed.ledger.history) × (v.promised ≡ x.pushed.ledger.promised) = held-ledger s w i.numbering.tag l.number x.pushed.ledger (agrees.cells.1.0 ∙ x.pushed.was) in
    let registry-was : v.registry ≡ registry = held-registry s w i.numbering.tag c.number registry (agrees.cells.0 ∙ asked.was) in
    let about : (w.actors n).setting ≡ s = i.numbering.about n in
    call-kept (c ∷ l ∷ []) b s w n g i agrees x.called (asking-valid s.hierarchy x.called x.asks_is) x.work x.job x.free (has-role s v i.numbering n (caller-there (v.roles n) x.called x.allowed s.workers)) pushed
    (few-pushed x.pushed v.history v.promised (view s (after w (c ∷ l ∷ []) n b)).promised ledger-was.0 ledger-was.1 pushed.promised_is here.1.few)
    (view-note_asking s w n registry true c l (w.actors n) b agrees asked x)
    (asking-begins s v g i (w.actors n).number (v.roles n) (v.purses n) x.called x.asks_is registry registry-was (asker-admin (v.roles n) x.called x.allowed x.asks_is) here.1.spares x.work x.job
    (subst (λ (z : Setting). BeginsAsking z.workers registry (class_of x.called) x.work x.job) about here.1.begins))
    (x.actor_is ∙ (λ k. record (w.actors n) { command = doing (length (sym ledger-was.0 k)) x.work; job = x.job; seen = b.seen }))
    (OfCalledAsking registry asked x) tt

-- The kind was done.

-- what begins is begun
begins-begun : (workers : ℕ) (r : RegistryValue) (class : Class) (work : Work) (job : Option JobValue) → BeginsAsking workers r class work job → IsBegun workers r class work job
begins-begun workers r (class_is.Balance most) work job is = is.0
begins-begun workers r (class_is.Sync server) work job is = is
begins-begun workers r class_is.Settle work job is = is
begins-begun workers r class_is.Bare work job is = is
begins-begun workers r (class_is.Page subject) work job is = is
begins-begun workers r (class_is.Action x) work job is = is

pub asking-makes : (hs : List Dimension) (registry_at ledger_at : ℕ) (call : Call) (workers : ℕ) (registry ledger : CellValue) (a : ActorValue) → CanNoteAsking call workers registry ledger a
    → (rv : RegistryValue) → registry ≡ RegistryCell rv → (rv2 : RegistryValue) → rv2 ≡ rv → (lv : LedgerValue) → ledger ≡ LedgerCell lv → (lv2 : LedgerValue)
    → (of : ℕ) → of ≡ length lv.history → (work : Work) (job : Option JobValue) → BeginsAsking workers rv (class_of call) work job → Notes (Called a.number call) (1 + owes work) 1 lv lv2 → (seen : ℕ) → seen ≡ length lv2.history
    → Makes hs kind.Note (change registry_at registry (RegistryCell rv2) ∷ change ledger_at ledger (LedgerCell lv2) ∷ []) a (record a { command = doing of work; job = job; seen = seen })
asking-makes hs registry_at ledger_at call workers registry ledger a due rv registry_is rv2 same lv ledger_is lv2 of of_is work job begins notes seen all_seen =
    let here : BeginsAsking a.setting.workers rv (class_of call) work job = subst (λ (x : ℕ). BeginsAsking x rv (class_of call) work job) due.workers_are begins in
    let asked : IsAsked rv (change registry_at registry (RegistryCell rv2)) = record { was = registry_is; same = ap RegistryCell same ∙ sym registry_is } in
    let d : NotesCalled rv true (change ledger_at ledger (LedgerCell lv2)) a (record a { command = doing of work; job = job; seen = seen }) = record {
      free = due.free;
      called = call;
      allowed = due.allowed;
      asks_is = due.asks;
      work = work;
      job = job;
      begun = begins-begun a.setting.workers rv (class_of call) work job here;
      pushed = record { ledger = lv; ledger_now = lv2; was = ledger_is; is = refl; history = notes.history; promised = notes.promised; all_seen = all_seen };
      actor_is = λ k. record a { command = doing (of_is k) work; job = job; seen = seen };
    } in
    record { does = OfCalledAsking rv asked d; keeps = asking-keeps hs rv _ _ a _ asked d (record { few = notes.few; spares = due.spares; begins = here }) }
