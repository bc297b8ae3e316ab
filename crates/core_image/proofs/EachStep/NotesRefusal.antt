-- A command that ends with its beginning, as it names what isn't known or finds no memory, is noted: that keeps the invariant, and
-- brings nothing with it.
use Rattle.std.proofs.Common.{◌≡◌, ◌≢◌, ℕ, List, [], ◌∷◌, true, false, length, Option, Some, None, refl, sym, ap, ◌∙◌, subst, arith, inl, inr}
use Rattle.dim_hierarchy.specs.Dimension.{Dimension}
use Rattle.row_ledger.specs.{Changes.{ShardsStay, is_quiet}, Kept.KeepsRight, LedgerValue.LedgerValue, Past.{Insert, Query, ends_itself, insert_in, is_beginning, is_work_of, query_in, session_in}, declared.event.Event.Event, declared.event.Event.TheVariants.{Refused, Unknown}}
use Rattle.row_ledger.proofs.{Changes.quiet, Growth.{KeepsRight-refused, KeepsRight-unknown}}
use Rattle.volap_cell.specs.{Cells.{CellValue, LedgerCell}, Commands.server_of, Falls.{BringsWork, is_split_or_move, left}, Ghost.Ghost, ImageKinds.{DoesNote, NotesRefused, NotesUnknown, OfRefused, OfUnknown, Pushes}, Invariant.InvWith, Owing.Owing, Setting.{Setting, site_in}, Steps.{IsKept, Keeps, Makes, SeesNote}, Telling.Telling, Values.ActorValue, View.{View, view, row_at}, World.{World, Change, Agrees, after, change}, declared.command.Command.Command}
use Rattle.volap_cell.specs.declared.kind.Kind.TheVariants as kind
use Rattle.volap_cell.proofs.{Histories.Books.{EventNew, one-event}, OneEvent.Noted.telling-begins, OneEvent.Quiet.{Told, told-here}, Views.Books.{by_refusal, view-note_refused, view-note_unknown}, Views.Frames.{actor-at, actor-off}, Views.Seen.renewed, Views.Shown.held-ledger}
use Rattle.core_image.specs.NotesDue.{CanNoteRefused, CanNoteUnknown, Notes}
use Rattle.core_image.proofs.{Commands.Owed.{IsFew, few-pushed}, Lessens.Remains.{Stays, control_at, control-changed, gates_at, gates-changed, no-more, rows_at, rows-changed}}

-- what such an event is
pub record EndsItself (e : Event) (session : ℕ) : Type 0 where
  pub is_quiet_one : is_quiet e ≡ true
  pub begins : is_beginning e ≡ true
  pub over : ends_itself e ≡ true
  pub by : session_in e ≡ Some session
  pub no_insert : insert_in e ≡ None
  pub no_query : query_in e ≡ None
  pub no_work : (of : ℕ) → is_work_of of e ≡ false
  pub no_shard : is_split_or_move e ≡ false

module _ (e : Event) (l : Change) (b : ActorValue) (s : Setting) (w : World) (n : ℕ) (g : Ghost) (i : InvWith s (view s w) g) (ag : Agrees w (l ∷ []) n (w.actors n)) (itself : EndsItself e (w.actors n).number) (free : (w.actors n).command ≡ None)
    (pushes : Pushes e 1 1 l b.seen) (few : IsFew pushes) (actor_is : b ≡ record (w.actors n) { seen = b.seen }) (viewed : view s (after w (l ∷ []) n b) ≡ renewed by_refusal (view s (after w (l ∷ []) n b)) (view s w))
    (right : KeepsRight (site_in s) g.placed (e ∷ (view s w).history)) where
  abbrev v : View
  v = view s w

  abbrev h : List Event
  h = v.history

  abbrev w2 : World
  w2 = after w (l ∷ []) n b

  abbrev u : View
  u = view s w2

  pushed : EventNew u v e 1 1 b.seen
  pushed = one-event s w n b i.numbering.tag l ag.cells pushes

  -- the view afterwards, with its history written out
  abbrev v2 : View
  v2 = record (renewed by_refusal u v) { history = e ∷ h; row = row_at (e ∷ h) }

  same : u ≡ v2
  same = viewed ∙ (λ k. record (renewed by_refusal u v) { history = pushed.history_is k; row = row_at (pushed.history_is k) })

  actor-now : w2.actors n ≡ record (w.actors n) { seen = b.seen }
  actor-now = actor-at w.actors n b ∙ actor_is

  ledger-was : (v.history ≡ pushes.ledger.history) × (v.promised ≡ pushes.ledger.promised)
  ledger-was = held-ledger s w i.numbering.tag l.number pushes.ledger (ag.cells.0 ∙ pushes.was)

  told : Told s v g (e ∷ h)
  told = told-here s w g e itself.is_quiet_one (λ a of balance is. itself.no_work of) i

  telling-now : Telling s (e ∷ h) v.commands v.jobs v.roles v2.seen g.placed
  telling-now = telling-begins s e h n v.commands v.commands v.jobs v.jobs v.roles v.seen v2.seen g.placed
      (record {
        others = λ a ne. (refl, refl, ap (λ (x : ActorValue). x.seen) (actor-off w.actors n b a ne));
        all_seen = ap (λ (x : ActorValue). x.seen) actor-now ∙ pushed.all_seen ∙ ap length pushed.history_is;
      })
      right i.telling (itself.by ∙ ap Some (i.numbering.number n)) free
      (λ c has. let never : ◌≡◌ {A = Option Command} None (Some c) = sym free ∙ has in absurd (cc))
      (inl itself.over)
      (λ insert is. let never : ◌≡◌ {A = Option Insert} None (Some insert) = sym itself.no_insert ∙ is in absurd (cc))
      (λ q is. let never : ◌≡◌ {A = Option Query} None (Some q) = sym itself.no_query ∙ is in absurd (cc))

  owing-now : Owing s (e ∷ h) v2.promised v.images v.desks v.roles v.commands v.counted_in
  owing-now = record {
    promises = (let moved = pushed.promised_is in let old = i.owing.promises in omega (arith, moved, old));
    few = few-pushed pushes h v.promised v2.promised ledger-was.0 ledger-was.1 pushed.promised_is few;
    image = i.owing.image;
    sessions = i.owing.sessions;
  }

  holds : InvWith s v2 g
  holds = record {
    numbering = i.numbering;
    telling = telling-now;
    owing = owing-now;
    turning = i.turning;
    stocking = i.stocking;
    stamping = i.stamping;
    lineage = told.lineage;
    leading = i.leading;
    growing = told.growing;
    queueing = told.queueing;
    resting = told.resting;
    placing = told.placing;
    inserting = told.inserting;
    imaging = told.imaging;
    covering = told.covering;
    desking = told.desking;
    pinning = i.pinning;
    querying = told.querying;
    working = told.working;
    balancing = told.balancing;
    reusing = i.reusing;
  }

  -- What is left.

  others : (a : ℕ) → a ≢ n → w2.actors a ≡ w.actors a
  others a ne = actor-off w.actors n b a ne

  stay : ShardsStay s.workers e h
  stay = (quiet s.hierarchy s.workers e h itself.is_quiet_one).shards

  still : Stays (w.actors n) (w2.actors n)
  still = record {
    command = ap (λ (x : ActorValue). x.command) actor-now;
    errand = ap (λ (x : ActorValue). x.errand) actor-now;
    purse = ap (λ (x : ActorValue). x.purse) actor-now;
    job = ap (λ (x : ActorValue). x.job) actor-now;
  }

  begins : BringsWork s (left s w g) (left s w2 g) h u.history
  begins =
      let control = control-changed s w w2 g n v2 same others (inr still) refl refl in
      let gates = gates-changed s w w2 g n v2 same others (inr still) e h refl refl stay itself.no_shard in
      let rows = rows-changed s w w2 g n v2 same others (inr still) in
      let control_same = ap (control_at s v) actor-now in
      let gates_same = ap (gates_at s h) actor-now in
      let rows_same = ap (rows_at g) actor-now in
      record {
        e = e;
        begun = itself.begins;
        grown = pushed.history_is;
        control = no-more (left s w2 g).control (left s w g).control _ (omega (arith, control, control_same));
        gates = no-more (left s w2 g).gates (left s w g).gates _ (omega (arith, gates, gates_same));
        rows = omega (arith, rows, rows_same);
      }

  pub refusal-kept : (does : DoesNote l (w.actors n) b) → SeesNote s w n l (w.actors n) b does → IsKept s kind.Note n w w2 g
  refusal-kept does sight = record {
    step = record { changes = l ∷ []; actor = b; agrees = ag; does = does; sight = sight; now_is = refl };
    ghost_now = g;
    holds = subst (λ (z : View). InvWith s z g) (sym same) holds;
    newer = e ∷ [];
    grows = pushed.history_is;
    goes_on = inr (inl begins);
  }

pub unknown-keeps : (hierarchy : List Dimension) (l : Change) (a b : ActorValue) (d : NotesUnknown l a b) → IsFew d.pushed → Keeps hierarchy kind.Note (l ∷ []) a b (OfUnknown d)
unknown-keeps hierarchy l a b d few s w n g i_same i ag sight =
    let here : (x : NotesUnknown l (w.actors n) b) × IsFew x.pushed = subst (λ (z : ActorValue). (x : NotesUnknown l z b) × IsFew x.pushed) (sym ag.actor_is) (d, few) in
    let agrees : Agrees w (l ∷ []) n (w.actors n) = record { cells = ag.cells; actor_is = refl; free = λ x ne. ag.free x ne } in
    let x = here.0 in
    refusal-kept (Unknown (w.actors n).number (server_of (w.actors n).role) x.dim) l b s w n g i agrees
    (record { is_quiet_one = refl; begins = refl; over = refl; by = refl; no_insert = refl; no_query = refl; no_work = λ of. refl; no_shard = refl })
    x.free.command x.pushed here.1 x.actor_is (view-note_unknown s w n l (w.actors n) b agrees x)
    (KeepsRight-unknown (site_in s) g.placed (view s w).history (w.actors n).number (server_of (w.actors n).role) x.dim i.telling.right) (OfUnknown x) tt

pub refused-keeps : (hierarchy : List Dimension) (l : Change) (a b : ActorValue) (d : NotesRefused l a b) → IsFew d.pushed → Keeps hierarchy kind.Note (l ∷ []) a b (OfRefused d)
refused-keeps hierarchy l a b d few s w n g i_same i ag sight =
    let here : (x : NotesRefused l (w.actors n) b) × IsFew x.pushed = subst (λ (z : ActorValue). (x : NotesRefused l z b) × IsFew x.pushed) (sym ag.actor_is) (d, few) in
    let agrees : Agrees w (l ∷ []) n (w.actors n) = record { cells = ag.cells; actor_is = refl; free = λ x ne. ag.free x ne } in
    let x = here.0 in
    refusal-kept (Refused (w.actors n).number) l b s w n g i agrees
    (record { is_quiet_one = refl; begins = refl; over = refl; by = refl; no_insert = refl; no_query = refl; no_work = λ of. refl; no_shard = refl })
    x.free.command x.pushed here.1 x.actor_is (view-note_refused s w n l (w.actors n) b agrees x)
    (KeepsRight-refused (site_in s) g.placed (view s w).history (w.actors n).number i.telling.right) (OfRefused x) tt

-- The kind was done.

pub unknown-makes : (hs : List Dimension) (ledger_at : ℕ) (ledger : CellValue) (a : ActorValue) → CanNoteUnknown ledger a → (dim : ℕ) (lv : LedgerValue) → ledger ≡ LedgerCell lv → (lv2 : LedgerValue) → (server : ℕ) → server ≡ server_of a.role
    → Notes (Unknown a.number server dim) 1 1 lv lv2 → (seen : ℕ) → seen ≡ length lv2.history → Makes hs kind.Note (change ledger_at ledger (LedgerCell lv2) ∷ []) a (record a { seen = seen })
unknown-makes hs ledger_at ledger a due dim lv ledger_is lv2 server is notes seen all_seen =
    let d : NotesUnknown (change ledger_at ledger (LedgerCell lv2)) a (record a { seen = seen }) = record {
      free = due.free;
      dim = dim;
      pushed = record { ledger = lv; ledger_now = lv2; was = ledger_is; is = refl; history = notes.history ∙ ap (λ (s : ℕ). Unknown a.number s dim ∷ lv.history) is; promised = notes.promised; all_seen = all_seen };
      actor_is = refl;
    } in
    record { does = OfUnknown d; keeps = unknown-keeps hs _ a _ d notes.few }

pub refused-makes : (hs : List Dimension) (ledger_at : ℕ) (ledger : CellValue) (a : ActorValue) → CanNoteRefused ledger a → (lv : LedgerValue) → ledger ≡ LedgerCell lv → (lv2 : LedgerValue)
    → Notes (Refused a.number) 1 1 lv lv2 → (seen : ℕ) → seen ≡ length lv2.history → Makes hs kind.Note (change ledger_at ledger (LedgerCell lv2) ∷ []) a (record a { seen = seen })
refused-makes hs ledger_at ledger a due lv ledger_is lv2 notes seen all_seen =
    let d : NotesRefused (change ledger_at ledger (LedgerCell lv2)) a (record a { seen = seen }) = record {
      free = due.free;
      pushed = record { ledger = lv; ledger_now = lv2; was = ledger_is; is = refl; history = notes.history; promised = notes.promised; all_seen = all_seen };
      actor_is = refl;
    } in
    record { does = OfRefused d; keeps = refused-keeps hs _ a _ d notes.few }
