-- A page is shown behind its own beginning: that keeps the invariant, and less is left.
use Rattle.std.proofs.{Common.{◌≡◌, ◌≢◌, ℕ, ◌+◌, ◌<◌, ◌≤◌, List, [], ◌∷◌, Bool, true, false, eqb, length, Option, Some, None, refl, sym, ap, ◌∙◌, subst, arith, inl, inr, ◌||◌, is_some, option_and_then, Contains, IsTrue, le_of_lt, eq-eqb}, lemmas.Bool.{and_from, false≢true, eqb-true, eqb-false}}
use Rattle.std.specs.{List.list_all, Option.option_map_or, Prelude.{if◌then◌else◌}}
use Rattle.dim_hierarchy.specs.{Dimension.Dimension, declared.row.Row.Row}
use Rattle.row_ledger.specs.{Classes.{class_of, is_there}, Kept.KeepsRight, LedgerValue.LedgerValue, Past.{Ack, acked, before, beginnings, call_at, call_in, ends_itself, event_at, has_ended, has_page, is_idle, is_over, session_in}, Right.{Asks, IsShown}, declared.class.Class.Class, declared.class.Subject.Subject, declared.event.Event.Event, declared.event.Event.TheVariants.{Called, Shown}, declared.page.Page.Page, declared.settings.Call.Call}
use Rattle.row_ledger.proofs.{Fresh.kind-within, Growth.KeepsRight-shown, Positions.{before-here, before-older, event_at-older}}
use Rattle.list_words.proofs.Truth.{on_bool}
use Rattle.volap_cell.specs.{Cells.{CellValue, LedgerCell, ledger_in}, Commands.{once_shown, owes}, Desking.is_on_desk, Falls.{control_of, job_left, left, of_work}, Ghost.Ghost, ImageKinds.{NotesShown, OfShown, doing}, Invariant.InvWith, Owing.{Owing, is_insert_work}, Setting.{Setting, actor_count, site_in}, Sights.Sees, Steps.{IsHere, IsKept, Keeps, Makes}, Telling.IsProgress, Values.{ActorValue, JobValue}, View.{View, view, row_at}, Working.IsJobOf, World.{World, Change, Agrees, after, change, held}, declared.command.Balance.Balance, declared.command.Command.Command, declared.command.Work.Work, declared.role.Role.Role}
use Rattle.volap_cell.specs.declared.command.Work.TheVariants as work_is
use Rattle.volap_cell.specs.declared.kind.Kind.TheVariants as kind
use Rattle.volap_cell.proofs.{Histories.Books.{EventNew, one-event}, OneEvent.Noted.{new-told, telling-goes-on}, OneEvent.Older.kind-older, OneEvent.Quiet.{Told, told-here}, OneEvent.Told.{called-kept, commands-older}, Persons.has-command, Views.Books.{by_event, view-note_shown}, Views.Fields.IsNewAt, Views.Frames.{actor-at, actor-off}, Views.Seen.renewed, Views.Shown.held-ledger}
use Rattle.core_image.specs.NotesDue.{CanNoteShown, HasShown, Shows}
use Rattle.core_image.proofs.{Commands.Backed.all-promised, Commands.Going.{going-balancing, going-desking, going-inserting, going-numbering, going-working, others-routed, placing-routed}, Commands.Owed.{owed-others, promises-now}, Lessens.Remains.{control_at, control-changed}, Pages.PagesShown.{page-shown, shown-before}}

-- Commands of which a page is due.

-- what is so of such a command, and of what it is once its page is shown
record IsShowing (s : Setting) (h : List Event) (of : ℕ) (shown : Page) (work now : Work) : Type 0 where
  pub off_desk : is_on_desk work ≡ false
  pub off_desk_now : is_on_desk now ≡ false
  pub no_insert : is_insert_work work ≡ false
  pub no_insert_now : is_insert_work now ≡ false
  pub owes_less : owes work ≡ owes now + 1
  pub jobless : (j : JobValue) → IsJobOf work j → ⊥
  pub no_balance : (b : Balance) → now ≡ work_is.Balance b → ⊥
  pub calls : (c : Call) × (call_at h of ≡ Some c) × Asks (class_of c) shown
  pub first : has_page h of ≡ false
  pub progress : (job : Option JobValue) (role : Role) → IsProgress s (Shown of shown ∷ h) of now job role
  pub falls : control_of s now < control_of s work

has-shown : (h : List Event) (of : ℕ) (shown : Page) → has_page (Shown of shown ∷ h) of ≡ true
has-shown h of shown = rw (eq-eqb of of refl) refl

showing : (s : Setting) (h : List Event) (of : ℕ) (work : Work) (shown : Page) (now : Work) (job : Option JobValue) (role : Role) → of < length h → IsProgress s h of work job role → once_shown work ≡ Some now → Shows work shown → IsShowing s h of shown work now
showing s h of (work_is.Page subject true false) shown now job role began is once shows =
    let same : work_is.Page subject true true ≡ now = cc in
    subst (λ (x : Work). IsShowing s h of shown (work_is.Page subject true false) x) same (record {
      off_desk = refl;
      off_desk_now = refl;
      no_insert = refl;
      no_insert_now = refl;
      owes_less = refl;
      jobless = λ j never. never;
      no_balance = λ b never. cc;
      calls = (is.0.0, is.0.1, subst (λ (c : Class). Asks c shown) (sym is.0.2) shows);
      first = is.1;
      progress = λ job_ role_. (
        called-kept (Shown of shown) h of _ is.0,
        has-shown h of shown,
        ap (λ (past : List Event). is_there s.workers past subject) (before-older (Shown of shown) h of (le_of_lt began)) ∙ is.2,
        λ t. refl,
      );
      falls = omega arith;
    })
showing s h of work shown now job role began is once shows = absurd shows

-- such a command isn't over
shows-some : (work : Work) (shown : Page) → Shows work shown → (1 ≤ owes work) × (is_some (once_shown work) ≡ true)
shows-some (work_is.Page subject true false) shown shows = (omega arith, refl)
shows-some work shown shows = absurd shows

-- the page of a command is shown
pub page-marked : (subject : Subject) (there done : Bool) → is_some (once_shown (work_is.Page subject there done)) ≡ true → once_shown (work_is.Page subject there done) ≡ Some (work_is.Page subject there true)
page-marked subject true false some = refl
page-marked subject true true some = absurd (false≢true some)
page-marked subject false done some = absurd (false≢true some)

-- Where a command has just begun.

as-called : (e : Event) (c : Call) → call_in e ≡ Some c → (session : ℕ) × (e ≡ Called session c)
as-called (Called session c) d is = (let same : c ≡ d = cc in (session, ap (λ (x : Call). Called session x) same))
as-called _ d is = absurd (let never : ◌≡◌ {A = Option Call} None (Some d) = is in cc)

-- the newest event is its beginning
pub record IsNewest (h : List Event) (of : ℕ) (c : Call) : Type 0 where
  pub session : ℕ
  pub past : List Event
  pub is : h ≡ Called session c ∷ past
  pub at : length past ≡ of

pub newest-call : (h : List Event) (of : ℕ) (c : Call) → length h ≡ of + 1 → call_at h of ≡ Some c → IsNewest h of c
newest-call [] of c long is = absurd (omega (arith, long))
newest-call (e ∷ past) of c long is =
    let at : length past ≡ of = omega (arith, long) in
    let told : call_in e ≡ Some c = sym (new-told call_in e past) ∙ ap (call_at (e ∷ past)) at ∙ is in
    let called = as-called e c told in
    record { session = called.0; past = past; is = ap (λ (x : Event). x ∷ past) called.1; at = at }

-- what holds of each position where a command began

begun-more : (test : ℕ → Bool) (at : ℕ) (places : List ℕ) (o : Option ℕ) → ((a : ℕ) → o ≡ Some a → test at ≡ true) → list_all test places ≡ true → list_all test (if is_some o then at ∷ places else places) ≡ true
begun-more test at places (Some a) here rest = and_from (test at) (list_all test places) (here a refl) rest
begun-more test at places None here rest = rest

begun-all : (test : ℕ → Bool) (past : List Event) → ((q a : ℕ) → option_and_then session_in (event_at past q) ≡ Some a → test q ≡ true) → list_all test (beginnings past) ≡ true
begun-all test [] all = refl
begun-all test (e ∷ past) all = begun-more test (length past) (beginnings past) (session_in e)
    (λ a is. all (length past) a (new-told session_in e past ∙ is))
    (begun-all test past (λ q a own. all q a (kind-older session_in e past q (kind-within session_in past q a own) ∙ own)))

-- The step.

module _ (shown : Page) (l : Change) (b : ActorValue) (s : Setting) (w : World) (n : ℕ) (g : Ghost) (i : InvWith s (view s w) g) (ag : Agrees w (l ∷ []) n (w.actors n)) (does : NotesShown shown l (w.actors n) b) (shows : Shows does.work shown) (sees : Sees s w n shown) where
  abbrev v : View
  v = view s w

  abbrev h : List Event
  h = v.history

  abbrev w2 : World
  w2 = after w (l ∷ []) n b

  abbrev u : View
  u = view s w2

  abbrev of : ℕ
  of = does.of

  abbrev e : Event
  e = Shown of shown

  pushed : EventNew u v e 0 1 b.seen
  pushed = one-event s w n b i.numbering.tag l ag.cells does.shown

  -- the view afterwards, with its history written out
  abbrev v2 : View
  v2 = record (renewed by_event u v) { history = e ∷ h; row = row_at (e ∷ h) }

  same : u ≡ v2
  same = view-note_shown s w n shown l (w.actors n) b ag does ∙ (λ k. record (renewed by_event u v) { history = pushed.history_is k; row = row_at (pushed.history_is k) })

  -- The command.

  abbrev its : Command
  its = record { of = of; work = does.work }

  abbrev its_now : Command
  its_now = record { of = of; work = does.work_now }

  actor-now : w2.actors n ≡ record (w.actors n) { command = Some its_now; seen = b.seen }
  actor-now = actor-at w.actors n b ∙ does.actor_is

  goes : IsNewAt v2.commands v.commands n (Some its) (Some its_now)
  goes = record {
    was_there = does.command;
    is_there = ap (λ (a : ActorValue). a.command) actor-now;
    elsewhere = λ a ne. ap (λ (x : ActorValue). x.command) (actor-off w.actors n b a ne);
  }

  there : n < actor_count s
  there = has-command s v i.numbering n its does.command

  began : of < length h
  began = commands-older s h i.telling n its does.command

  is : IsShowing s h of shown does.work does.work_now
  is = showing s h of does.work shown does.work_now (v.jobs n) (v.roles n) began (i.telling.progress n its does.command) does.once shows

  jobless : (j : JobValue) → v.jobs n ≡ Some j → ⊥
  jobless j has =
      let job = i.working.command n j has in
      let both : ◌≡◌ {A = Option Command} (Some its) (Some job.0) = sym does.command ∙ job.1 in
      let it : its ≡ job.0 = cc in
      is.jobless j (subst (λ (c : Command). IsJobOf c.work j) (sym it) job.2)

  off-desk : (c : Command) → Some its ≡ Some c → is_on_desk c.work ≡ false
  off-desk c has = (let it : its ≡ c = cc in subst (λ (x : Command). is_on_desk x.work ≡ false) it is.off_desk)

  unrouted : (p : ℕ) (row : Row) → Some its ≡ doing p (work_is.Insert row true) → ⊥
  unrouted p row has = (let on = off-desk (record { of = p; work = work_is.Insert row true }) has in false≢true (sym on))

  no-insert : (p : ℕ) (row : Row) → its_now.work ≡ work_is.Insert row false → ⊥
  no-insert p row has = false≢true (sym is.no_insert_now ∙ ap is_insert_work has)

  -- nobody else has a command
  only-one : (a : ℕ) (c : Command) → v.commands a ≡ Some c → its ≡ c
  only-one a c has = on_bool (eqb a n)
      (λ q. let both : ◌≡◌ {A = Option Command} (Some its) (Some c) = sym does.command ∙ ap v.commands (sym (eqb-true a n q)) ∙ has in cc)
      (λ q. let idle = sees.alone a (eqb-false a n q) in let never : ◌≡◌ {A = Option Command} None (Some c) = sym idle.command ∙ has in absurd (cc))

  -- What is shown.

  newest : IsNewest h of is.calls.0
  newest = newest-call h of is.calls.0
      (ap length (held-ledger s w i.numbering.tag l.number does.shown.ledger (ag.cells.0 ∙ does.shown.was)).0 ∙ does.next)
      is.calls.1

  behind : before h of ≡ newest.past
  behind = ap (λ (x : List Event). before x of) newest.is ∙ ap (before (Called newest.session is.calls.0 ∷ newest.past)) (sym newest.at) ∙ before-here (Called newest.session is.calls.0) newest.past

  over-then : (q a : ℕ) → option_and_then session_in (event_at newest.past q) ≡ Some a → is_over newest.past q ≡ true
  over-then q a own =
      let at = newest.at in
      let within : q < length newest.past = kind-within session_in newest.past q a own in
      let now : option_and_then session_in (event_at h q) ≡ Some a =
      ap (λ (x : List Event). option_and_then session_in (event_at x q)) newest.is ∙ kind-older session_in (Called newest.session is.calls.0) newest.past q within ∙ own in
      elim (i.telling.status a q now) [
        | inl over ↦
            ap (λ (o : Option Event). has_ended newest.past q || option_map_or ends_itself o false) (sym (event_at-older (Called newest.session is.calls.0) newest.past q within))
            ∙ ap (λ (x : List Event). is_over x q) (sym newest.is) ∙ over
        | inr open_ ↦
            let mine : of ≡ q = ap (λ (c : Command). c.of) (only-one open_.0 open_.1 open_.2) ∙ open_.3 in
            absurd (omega (arith, at, within, mine))
      ]

  settled : (r : ℕ) → g.placed r ≡ true → (k : Ack) × Contains (acked h) k × (k.row.no ≡ r)
  settled r p = elim (i.placing.others r p) [
    | inl k ↦ k
    | inr t ↦ absurd (unrouted r t.1 (ap Some (only-one t.0 _ t.2)))
  ]

  right : KeepsRight (site_in s) g.placed (e ∷ h)
  right = KeepsRight-shown (site_in s) g.placed h of shown i.telling.right (record {
    call = is.calls.0;
    called = is.calls.1;
    is_open = i.telling.is_open n its does.command;
    first = is.first;
    asked = is.calls.2;
    next = ap length newest.is ∙ (let at = newest.at in omega (arith, at));
    alone = subst (λ (past : List Event). IsTrue (is_idle past)) (sym behind) (begun-all (is_over newest.past) newest.past over-then);
    shown = subst (λ (past : List Event). IsShown (site_in s) past is.calls.0 shown) (sym behind)
        (shown-before (site_in s) newest.session is.calls.0 newest.past shown
        (subst (λ (past : List Event). IsShown (site_in s) past is.calls.0 shown) newest.is (page-shown s w g i settled newest.session is.calls.0 newest.past newest.is shown sees.page)));
  })

  -- Parts.

  told : Told s v g (e ∷ h)
  told = told-here s w g e refl (λ a p balance has. refl) i

  owing-now : Owing s (e ∷ h) v2.promised v.images v.desks v.roles v2.commands v.counted_in
  owing-now = record {
    promises = promises-now (actor_count s) n there v.commands v2.commands (Some its) (Some its_now) goes v.promised v2.promised 0 1 pushed.promised_is
        (let less = is.owes_less in omega (arith, less)) i.owing.promises;
    few = (let moved = pushed.promised_is in let few = i.owing.few in omega (arith, moved, few));
    image = λ x lt. i.owing.image x lt ∙ sym (owed-others (actor_count s) n there v.commands v2.commands (Some its) (Some its_now) goes v.roles is.no_insert is.no_insert_now x);
    sessions = i.owing.sessions;
  }

  holds : InvWith s v2 g
  holds = record {
    numbering = going-numbering n (Some its) its_now v.commands v2.commands goes s v.tags v.numbers v.roles v.settings v.counted_in v.purses v.taken v.jobs there i.numbering;
    telling = telling-goes-on s e h n v.commands v2.commands v.jobs v.jobs v.roles v.seen v2.seen g.placed
        (record {
          others = λ a ne. (goes.elsewhere a ne, refl, ap (λ (x : ActorValue). x.seen) (actor-off w.actors n b a ne));
          all_seen = ap (λ (x : ActorValue). x.seen) actor-now ∙ pushed.all_seen ∙ ap length pushed.history_is;
        })
        right i.telling its its_now refl refl (λ p has. let both : ◌≡◌ {A = Option ℕ} (Some of) (Some p) = has in let mine : of ≡ p = cc in sym mine) does.command goes.is_there refl
        (is.progress (v.jobs n) (v.roles n));
    owing = owing-now;
    turning = i.turning;
    stocking = i.stocking;
    stamping = i.stamping;
    lineage = told.lineage;
    leading = i.leading;
    growing = told.growing;
    queueing = told.queueing;
    resting = told.resting;
    placing = placing-routed s (e ∷ h) v.commands v2.commands v.ways v.queues g.gate g.shape g.placed g.home g.path (others-routed n (Some its) its_now v.commands v2.commands goes unrouted) told.placing;
    inserting = going-inserting n (Some its) its_now v.commands v2.commands goes s (e ∷ h) v.images v.desks v.ways g.placed g.path no-insert told.inserting;
    imaging = told.imaging;
    covering = told.covering;
    desking = going-desking n (Some its) its_now v.commands v2.commands goes s (e ∷ h) v.desks v.roles v.taken off-desk is.off_desk_now told.desking;
    pinning = i.pinning;
    querying = told.querying;
    working = going-working n (Some its) its_now v.commands v2.commands goes s (e ∷ h) v.blocks v.made v.trees v.phases v.active v.queues v.purses v.jobs g.gate g.shape g.placed jobless told.working;
    balancing = going-balancing n (Some its) its_now v.commands v2.commands goes s (e ∷ h) v.jobs g.placed g.home is.no_balance told.balancing;
    reusing = i.reusing;
  }

  -- What is left.

  others : (a : ℕ) → a ≢ n → w2.actors a ≡ w.actors a
  others a ne = actor-off w.actors n b a ne

  control-less : (left s w2 g).control < (left s w g).control
  control-less =
      let control = control-changed s w w2 g n v2 same others (inl there) refl refl in
      let was : control_at s v (w.actors n) ≡ control_of s does.work + job_left s v (w.actors n).job = ap (λ (c : Option Command). of_work (control_of s) c + job_left s v (w.actors n).job) does.command in
      let now : control_at s v (w2.actors n) ≡ control_of s does.work_now + job_left s v (w.actors n).job = ap (control_at s v) actor-now in
      let falls = is.falls in
      omega (arith, control, was, now, falls)

  pub shown-kept : IsKept s kind.Note n w w2 g
  shown-kept = record {
    step = record { changes = l ∷ []; actor = b; agrees = ag; does = OfShown shown does; sight = sees; now_is = refl };
    ghost_now = g;
    holds = subst (λ (z : View). InvWith s z g) (sym same) holds;
    newer = e ∷ [];
    grows = pushed.history_is;
    goes_on = inl (inl control-less);
  }

-- a page of the kind that the command asks for
shown-keeps : (hierarchy : List Dimension) (shown : Page) (l : Change) (a b : ActorValue) (d : NotesShown shown l a b) → Shows d.work shown → Keeps hierarchy kind.Note (l ∷ []) a b (OfShown shown d)
shown-keeps hierarchy shown l a b d shows s w n g i_same i ag sees =
    let both = subst (λ (z : ActorValue). (x : NotesShown shown l z b) × Shows x.work shown) (sym ag.actor_is) (d, shows) in
    shown-kept shown l b s w n g i (record { cells = ag.cells; actor_is = refl; free = λ x ne. ag.free x ne }) both.0 both.1 sees

-- What the note asks of the ledger is so in each state, and what it did is what the kind does.

module _ (hs : List Dimension) (ledger_at : ℕ) (shown : Page) (ledger : CellValue) (a : ActorValue) (here : IsHere hs (held ledger_at ledger ∷ []) a) (due : CanNoteShown shown ledger a) (lv : LedgerValue) (ledger_is : ledger ≡ LedgerCell lv) where
  pub shown-promised : 0 < lv.promised
  shown-promised =
      let has : (here.world.actors here.number).command ≡ doing due.of due.work = ap (λ (x : ActorValue). x.command) here.agrees.actor_is ∙ due.command in
      let all = all-promised a.setting here.world here.inv.ghost_of here.inv.holds here.number (record { of = due.of; work = due.work }) has ledger_at lv (here.agrees.cells.0 ∙ ledger_is) in
      let some = (shows-some due.work shown due.shows).0 in
      omega (arith, all, some)

  pub shown-due : (p : ℕ) (work : Work) → a.command ≡ doing p work → is_some (once_shown work) ≡ true
  shown-due p work has =
      let same : due.work ≡ work = ap (λ (o : Option Command). option_map_or (λ (c : Command). c.work) o work) (sym due.command ∙ has) in
      ap (λ (x : Work). is_some (once_shown x)) (sym same) ∙ (shows-some due.work shown due.shows).1

  pub shown-makes : (command : Command) → a.command ≡ Some command → (lv2 : LedgerValue) → lv2.history ≡ Shown command.of shown ∷ lv.history → lv2.promised + 1 ≡ lv.promised
      → (command2 : Option Command) → HasShown a.command command2 → (seen : ℕ) → seen ≡ length lv2.history
      → Makes hs kind.Note (change ledger_at ledger (LedgerCell lv2) ∷ []) a (record a { command = command2; seen = seen })
  shown-makes command has lv2 history promised command2 on seen all_seen =
      let of_is : command.of ≡ due.of = ap (λ (o : Option Command). option_map_or (λ (c : Command). c.of) o 0) (sym has ∙ due.command) in
      let now = on due.of due.work due.command in
      let d : NotesShown shown (change ledger_at ledger (LedgerCell lv2)) a (record a { command = command2; seen = seen }) = record {
        of = due.of;
        work = due.work;
        work_now = now.0;
        command = due.command;
        once = now.1;
        shown = record {
          ledger = lv;
          ledger_now = lv2;
          was = ledger_is;
          is = refl;
          history = history ∙ ap (λ (x : ℕ). Shown x shown ∷ lv.history) of_is;
          promised = omega (arith, promised);
          all_seen = all_seen;
        };
        next = sym (ap (λ (c : CellValue). length (ledger_in c).history) ledger_is) ∙ due.next;
        actor_is = λ k. record a { command = now.2 k; seen = seen };
      } in
      record { does = OfShown shown d; keeps = shown-keeps hs shown _ a _ d due.shows }
