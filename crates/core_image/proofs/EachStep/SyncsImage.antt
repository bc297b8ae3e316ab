-- A pull keeps the invariant, and less is left.
use Rattle.std.proofs.{Common.{◌≡◌, ℕ, ◌+◌, ◌^◌, ◌<◌, List, [], ◌∷◌, Bool, true, false, eqb, length, IsTrue, Option, Some, None, refl, sym, ap, ◌∙◌, subst, arith, ◌⊎◌, inl, inr, ◌==◌, ◌&&◌, eq-eqb}, lemmas.Bool.{cases_lt, false≢true, or_left, eqb-true, eqb-false}, lemmas.Bool.Decides.nat_tests}
use Rattle.std.specs.{List.list_any, Prelude.nat_lt}
use Rattle.dim_hierarchy.specs.{Dimension.Dimension, declared.row.Row.Row}
use Rattle.describing_set.specs.declared.listing.Spot.{Spot}
use Rattle.row_ledger.specs.{Classes.class_of, Kept.KeepsRight, Past.{call_at, is_pull_of, since}, Right.pulls_for, declared.event.Event.Event, declared.event.Event.TheVariants.Synced, declared.settings.Call.Call}
use Rattle.row_ledger.proofs.{Growth.KeepsRight-synced, Positions.since-inside}
use Rattle.server_image.specs.Image.{ImageValue}
use Rattle.list_words.proofs.Truth.{on_bool}
use Rattle.volap_cell.specs.{Commands.{due_pull, owes, pulled_once, settles_next}, Desking.is_on_desk, Falls.{control_of, gates_of_work, left, of_work}, Ghost.Ghost, ImageKinds.{DoesSync, doing}, Invariant.InvWith, Owing.{Owing, is_insert, is_insert_work, one_if, owed_by, serves}, Setting.{Setting, actor_count, site_in}, Steps.{IsKept, Keeps}, Telling.{IsProgress, Telling}, Values.{ActorValue, JobValue}, View.{View, view, row_at}, Working.IsJobOf, World.{World, Change, Agrees, after}, declared.command.Balance.Balance, declared.command.Command.Command, declared.command.Work.Work, declared.role.Role.Role}
use Rattle.volap_cell.specs.declared.command.Work.TheVariants as work_is
use Rattle.volap_cell.specs.declared.kind.Kind.TheVariants as kind
use Rattle.volap_cell.proofs.{Histories.Books.image-registry-event, OneEvent.Known.{AreOlder, older-rows}, OneEvent.Noted.{IsNotedBy, telling-goes-on}, OneEvent.Synced.{balancing-synced, desking-synced, inserting-synced, placing-synced, pull-changes, querying-synced, resting-synced, working-synced}, OneEvent.Told.{called-kept, commands-older}, OneEvent.Trees.{growing-grown, past-there, queueing-grown}, Persons.has-command, Sums.sum-kept, Views.Books.{by_sync, view-sync}, Views.Fields.{IsNew, IsNewAt, IsPushed}, Views.Frames.{actor-at, actor-off}, Views.Seen.renewed, Views.Shown.held-ledger}
use Rattle.core_image.proofs.{Commands.Going.{going-balancing, going-desking, going-inserting, going-numbering, going-working, others-routed, placing-routed}, Images.Pulled.{covering-now, imaging-now, inserting-now, leading-now, lineage-now}, Images.Pushed.lists, Lessens.Lefts.{IsSteady, control-goes, gates-go}}

-- Commands that pull.

-- What is so of a command of which a pull for a server is due: a sync, or a settle that isn't at its end.
pub record IsPull (s : Setting) (h : List Event) (of server : ℕ) (work : Work) : Type 0 where
  pub off_desk : is_on_desk work ≡ false
  pub off_desk_now : is_on_desk (pulled_once work) ≡ false
  pub no_insert : is_insert_work work ≡ false
  pub no_insert_now : is_insert_work (pulled_once work) ≡ false
  pub owes_same : owes (pulled_once work) ≡ owes work
  pub jobless : (j : JobValue) → IsJobOf work j → ⊥
  pub no_balance : (b : Balance) → pulled_once work ≡ work_is.Balance b → ⊥
  pub calls : (c : Call) × (call_at h of ≡ Some c) × IsTrue (pulls_for server (class_of c))
  pub progress : (listing : List Spot) (job : Option JobValue) (role : Role) → IsProgress s (Synced server listing ∷ h) of (pulled_once work) job role
  pub falls : (control_of s (pulled_once work) < control_of s work) ⊎ ((control_of s (pulled_once work) ≡ control_of s work) × (gates_of_work h (pulled_once work) < gates_of_work h work))

-- a settle with a pull to come isn't at its end
pub settle-goes : (servers pulls server : ℕ) → settles_next servers pulls ≡ Some server → pulls < servers + servers
settle-goes servers pulls server next = elim (cases_lt pulls (servers + servers)) [
  | inl less ↦ less
  | inr all ↦
      let first : nat_lt pulls servers ≡ false = grind (arith, nat_tests) in
      let second : nat_lt pulls (servers + servers) ≡ false = grind (arith, nat_tests) in
      let none : settles_next servers pulls ≡ None = rw (first, second) refl in
      let never : ◌≡◌ {A = Option ℕ} None (Some server) = sym none ∙ next in absurd (cc)
]

pull-of : (s : Setting) (h : List Event) (of server : ℕ) (work : Work) (job : Option JobValue) (role : Role) → of < length h → IsProgress s h of work job role → due_pull s.servers work ≡ Some server → IsPull s h of server work
pull-of s h of server (work_is.Sync t false) job role began is due =
    let same : t ≡ server = cc in
    record {
      off_desk = refl;
      off_desk_now = refl;
      no_insert = refl;
      no_insert_now = refl;
      owes_same = refl;
      jobless = λ j never. never;
      no_balance = λ b never. cc;
      calls = (is.0.0, is.0.1, ap (pulls_for server) is.0.2 ∙ eq-eqb t server same);
      progress = λ listing job_ role_. (
        called-kept (Synced server listing) h of _ is.0,
        is.1,
        λ z. ap (list_any (is_pull_of t)) (since-inside (Synced server listing) h of began) ∙ or_left (server == t) (list_any (is_pull_of t) (since h of)) (eq-eqb server t (sym same)),
      );
      falls = inr (refl, omega arith);
    }
pull-of s h of server (work_is.Settle pulls) job role began is due =
    let more = settle-goes s.servers pulls server due in
    record {
      off_desk = refl;
      off_desk_now = refl;
      no_insert = refl;
      no_insert_now = refl;
      owes_same = refl;
      jobless = λ j never. never;
      no_balance = λ b never. cc;
      calls = (is.0.0, is.0.1, ap (pulls_for server) is.0.2);
      progress = λ listing job_ role_. (called-kept (Synced server listing) h of _ is.0, omega (arith, more));
      falls = inl (omega (arith, more));
    }
pull-of s h of server (work_is.Sync t true) job role began is due = (let never : ◌≡◌ {A = Option ℕ} None (Some server) = due in absurd (cc))
pull-of s h of server _ job role began is due = (let never : ◌≡◌ {A = Option ℕ} None (Some server) = due in absurd (cc))

-- The step.

module _ (im r l : Change) (b : ActorValue) (s : Setting) (w : World) (n : ℕ) (g : Ghost) (i : InvWith s (view s w) g) (ag : Agrees w (im ∷ r ∷ l ∷ []) n (w.actors n)) (does : DoesSync s.hierarchy im r l (w.actors n) b)
    (room : length does.pulled.ledger_now.history + does.pulled.ledger_now.promised < 2 ^ 31) where
  abbrev cs : List Change
  cs = im ∷ r ∷ l ∷ []

  abbrev v : View
  v = view s w

  abbrev h : List Event
  h = v.history

  abbrev w2 : World
  w2 = after w cs n b

  abbrev u : View
  u = view s w2

  abbrev of : ℕ
  of = does.of

  abbrev server : ℕ
  server = does.server

  abbrev listing : List Spot
  listing = does.listing

  abbrev e : Event
  e = Synced server listing

  -- the view afterwards, with its history and its registry written out
  abbrev v2 : View
  v2 = record (renewed by_sync u v) { registry = does.registry_now; history = e ∷ h; row = row_at (e ∷ h) }

  books : (server < s.servers) × IsNewAt u.images v.images server does.image does.image_now × IsNew u.registry v.registry does.registry does.registry_now × IsPushed e 1 1 b.seen u.history v.history u.promised v.promised
  books = image-registry-event s w n b i.numbering.tag im r l ag.cells does.turns_image does.registry does.registry_now does.was does.is does.pulled

  within : server < s.servers
  within = books.0

  turned : IsNewAt v2.images v.images server does.image does.image_now
  turned = books.1

  registry-there : v.registry ≡ does.registry
  registry-there = (let reg = books.2 in reg.was_that)

  registry-now : u.registry ≡ does.registry_now
  registry-now = (let reg = books.2 in reg.is_that)

  pushed : IsPushed e 1 1 b.seen u.history v.history u.promised v.promised
  pushed = books.3

  same : u ≡ v2
  same = view-sync s w n s.hierarchy im r l (w.actors n) b ag does ∙ (λ k. record (renewed by_sync u v) { registry = registry-now k; history = pushed.history_is k; row = row_at (pushed.history_is k) })

  ledger-was : (h ≡ does.pulled.ledger.history) × (v.promised ≡ does.pulled.ledger.promised)
  ledger-was = held-ledger s w i.numbering.tag l.number does.pulled.ledger (ag.cells.1.1.0 ∙ does.pulled.was)

  -- The command.

  abbrev had : Command
  had = record { of = of; work = does.work }

  abbrev its : Command
  its = record { of = of; work = pulled_once does.work }

  goes : IsNewAt v2.commands v.commands n (Some had) (Some its)
  goes = record {
    was_there = does.command;
    is_there = ap (λ (a : ActorValue). a.command) (actor-at w.actors n b ∙ does.actor_is);
    elsewhere = λ a ne. ap (λ (x : ActorValue). x.command) (actor-off w.actors n b a ne);
  }

  few : n < actor_count s
  few = has-command s v i.numbering n had does.command

  began : (a : ℕ) (c : Command) → v.commands a ≡ Some c → c.of < length h
  began = commands-older s h i.telling

  pull : IsPull s h of server does.work
  pull = pull-of s h of server does.work (v.jobs n) (v.roles n) (began n had does.command) (i.telling.progress n had does.command) (ap (λ (x : Setting). due_pull x.servers does.work) (sym (i.numbering.about n)) ∙ does.due)

  jobless : (j : JobValue) → v.jobs n ≡ Some j → ⊥
  jobless j is =
      let job = i.working.command n j is in
      let both : ◌≡◌ {A = Option Command} (Some had) (Some job.0) = sym does.command ∙ job.1 in
      let it : had ≡ job.0 = cc in
      pull.jobless j (subst (λ (c : Command). IsJobOf c.work j) (sym it) job.2)

  off-desk : (c : Command) → Some had ≡ Some c → is_on_desk c.work ≡ false
  off-desk c is = (let it : had ≡ c = cc in subst (λ (x : Command). is_on_desk x.work ≡ false) it pull.off_desk)

  unrouted : (p : ℕ) (row : Row) → Some had ≡ doing p (work_is.Insert row true) → ⊥
  unrouted p row is = (let on = off-desk (record { of = p; work = work_is.Insert row true }) is in false≢true (sym on))

  no-insert : (p : ℕ) (row : Row) → its.work ≡ work_is.Insert row false → ⊥
  no-insert p row is = false≢true (sym pull.no_insert_now ∙ ap is_insert_work is)

  right : KeepsRight (site_in s) g.placed (e ∷ h)
  right = KeepsRight-synced (site_in s) g.placed h server listing i.telling.right (record {
    of = of;
    call = pull.calls.0;
    called = pull.calls.1;
    is_open = i.telling.is_open n had does.command;
    pulls = pull.calls.2;
    lists = lists s w g i server within does.image does.image_now does.registry does.registry_now listing turned.was_there registry-there does.synced;
  })

  noted : IsNotedBy e h n v.commands v2.commands v.jobs v.jobs v.seen v2.seen
  noted = record {
    others = λ a ne. (goes.elsewhere a ne, refl, ap (λ (x : ActorValue). x.seen) (actor-off w.actors n b a ne));
    all_seen = ap (λ (a : ActorValue). a.seen) (actor-at w.actors n b) ∙ pushed.all_seen ∙ ap length pushed.history_is;
  }

  telling-now : Telling s (e ∷ h) v2.commands v.jobs v.roles v2.seen g.placed
  telling-now = telling-goes-on s e h n v.commands v2.commands v.jobs v.jobs v.roles v.seen v2.seen g.placed noted right i.telling had its refl refl
      (λ p is. let never : ◌≡◌ {A = Option ℕ} None (Some p) = is in absurd (cc)) does.command goes.is_there refl (pull.progress listing (v.jobs n) (v.roles n))

  -- What is owed stays.

  kept : v.promised ≡ v2.promised
  kept = (let p = pushed.promised_is in omega (arith, p))

  owing-now : Owing s (e ∷ h) v2.promised v2.images v.desks v.roles v2.commands v.counted_in
  owing-now = record {
    promises =
        let sums = sum-kept (actor_count s) (λ a. owed_by (v.commands a)) (λ a. owed_by (v2.commands a)) n (λ a ne. ap owed_by (goes.elsewhere a ne))
        (ap owed_by goes.is_there ∙ pull.owes_same ∙ sym (ap owed_by does.command)) in
        let old = i.owing.promises in omega (arith, sums, kept, old);
    few =
        let long : length does.pulled.ledger_now.history ≡ length (e ∷ h) = ap length (does.pulled.history ∙ ap (λ (past : List Event). e ∷ past) (sym ledger-was.0)) in
        let promises = does.pulled.promised in
        let had_ = ledger-was.1 in omega (arith, long, promises, had_, room, kept);
    image = λ x lt.
        let sums = sum-kept (actor_count s) (λ a. one_if (serves x (v.roles a) && is_insert (v.commands a))) (λ a. one_if (serves x (v.roles a) && is_insert (v2.commands a))) n
        (λ a ne. ap (λ (c : Option Command). one_if (serves x (v.roles a) && is_insert c)) (goes.elsewhere a ne))
        (ap (λ (c : Option Command). one_if (serves x (v.roles n) && is_insert c)) goes.is_there ∙ ap (λ (is : Bool). one_if (serves x (v.roles n) && is)) (pull.no_insert_now ∙ sym pull.no_insert)
        ∙ sym (ap (λ (c : Option Command). one_if (serves x (v.roles n) && is_insert c)) does.command)) in
        let owed : (v2.images x).owed ≡ (v.images x).owed = on_bool (eqb x server)
        (λ q. let is = eqb-true x server q in
        ap (λ (y : ImageValue). y.owed) (ap v2.images is ∙ turned.is_there) ∙ does.synced.owed ∙ sym (ap (λ (y : ImageValue). y.owed) (ap v.images is ∙ turned.was_there)))
        (λ q. ap (λ (y : ImageValue). y.owed) (turned.elsewhere x (eqb-false x server q))) in
        owed ∙ i.owing.image x lt ∙ sym sums;
    sessions = i.owing.sessions;
  }

  -- All parts.

  some : 0 < length h
  some = past-there s g.placed h i.numbering.setting i.telling.right

  older : AreOlder h g.placed
  older = older-rows s h i.placing

  pub holds : InvWith s v2 g
  holds = record {
    numbering = going-numbering n (Some had) its v.commands v2.commands goes s v.tags v.numbers v.roles v.settings v.counted_in v.purses v.taken v.jobs few i.numbering;
    telling = telling-now;
    owing = owing-now;
    turning = i.turning;
    stocking = i.stocking;
    stamping = i.stamping;
    lineage = lineage-now s w g i server within does.image does.image_now does.registry does.registry_now listing turned.was_there registry-there does.synced v2.images turned;
    leading = leading-now s w g i server within does.image does.image_now does.registry does.registry_now listing turned.was_there registry-there does.synced v2.images turned v.desks i.leading;
    growing = growing-grown s e h some v.blocks v.trees v.gates v.phases v.pins g.shape i.growing;
    queueing = queueing-grown s e h some v.gates v.phases v.queues i.queueing;
    resting = resting-synced s h server listing v.gates v.phases g.shape g.placed g.home i.resting;
    placing = placing-routed s (e ∷ h) v.commands v2.commands v.ways v.queues g.gate g.shape g.placed g.home g.path (others-routed n (Some had) its v.commands v2.commands goes unrouted)
        (placing-synced s h server listing v.commands v.ways v.queues g.gate g.shape g.placed g.home g.path i.placing);
    inserting = going-inserting n (Some had) its v.commands v2.commands goes s (e ∷ h) v2.images v.desks v.ways g.placed g.path no-insert
        (inserting-synced s h server listing v2.images v.desks v.commands v.ways g.placed g.path
        (inserting-now s w g i server within does.image does.image_now does.registry does.registry_now listing turned.was_there registry-there does.synced v2.images turned v.desks v.commands v.ways i.inserting));
    imaging = imaging-now s w g i server within does.image does.image_now does.registry does.registry_now listing turned.was_there registry-there does.synced v2.images turned;
    covering = covering-now s w g i server within does.image does.image_now does.registry does.registry_now listing turned.was_there registry-there does.synced v2.images turned;
    desking = going-desking n (Some had) its v.commands v2.commands goes s (e ∷ h) v.desks v.roles v.taken off-desk pull.off_desk_now (desking-synced s h server listing v.desks v.roles v.commands v.taken i.desking);
    pinning = i.pinning;
    querying = querying-synced s h server listing v.blocks v.trees v.desks v.taken v.reads g.shape g.placed g.home g.counted older i.querying;
    working = going-working n (Some had) its v.commands v2.commands goes s (e ∷ h) v.blocks v.made v.trees v.phases v.active v.queues v.purses v.jobs g.gate g.shape g.placed jobless
        (working-synced s h server listing v.blocks v.made v.trees v.phases v.active v.queues v.purses v.commands v.jobs g.gate g.shape g.placed began i.working);
    balancing = going-balancing n (Some had) its v.commands v2.commands goes s (e ∷ h) v.jobs g.placed g.home pull.no_balance (balancing-synced s h server listing v.commands v.jobs g.placed g.home began i.balancing);
    reusing = i.reusing;
  }

  -- What is left.

  steady : IsSteady (w.actors n) b
  steady = record {
    errand = ap (λ (a : ActorValue). a.errand) does.actor_is;
    purse = ap (λ (a : ActorValue). a.purse) does.actor_is;
    job = ap (λ (a : ActorValue). a.job) does.actor_is;
  }

  was-left : (f : Work → ℕ) → of_work f (w.actors n).command ≡ f does.work
  was-left f = ap (of_work f) does.command

  now-left : (f : Work → ℕ) → of_work f b.command ≡ f (pulled_once does.work)
  now-left f = ap (λ (a : ActorValue). of_work f a.command) does.actor_is

  same-desk : IsNewAt v2.desks v.desks server (v.desks server) (v.desks server)
  same-desk = record { was_there = refl; is_there = refl; elsewhere = λ x ne. refl }

  control-gone : (left s w2 g).control + control_of s does.work ≡ (left s w g).control + control_of s (pulled_once does.work)
  control-gone =
      let gone = control-goes s w cs n b e v2 few same refl (pull-changes s h server listing).shards refl steady g g refl refl in
      let was = was-left (control_of s) in
      let now = now-left (control_of s) in omega (arith, gone, was, now)

  gates-gone : (left s w2 g).gates + gates_of_work h does.work ≡ (left s w g).gates + gates_of_work h (pulled_once does.work)
  gates-gone =
      let gone = gates-go s w cs n b e v2 few same refl (pull-changes s h server listing).shards refl steady g g server (v.desks server) (v.desks server) within same-desk in
      let was = was-left (gates_of_work h) in
      let now = now-left (gates_of_work h) in omega (arith, gone, was, now)

  pub sync-kept : IsKept s kind.Sync n w w2 g
  sync-kept = record {
    step = record { changes = cs; actor = b; agrees = ag; does = does; sight = tt; now_is = refl };
    ghost_now = g;
    holds = subst (λ (z : View). InvWith s z g) (sym same) holds;
    newer = e ∷ [];
    grows = pushed.history_is;
    goes_on = inl (elim pull.falls [
      | inl less ↦ inl (omega (arith, control-gone, less))
      | inr both ↦ inr (inl (let alike = both.0 in omega (arith, control-gone, alike), let less = both.1 in omega (arith, gates-gone, less)))
    ]);
  }

-- where the ledger has room
pub sync-keeps : (hierarchy : List Dimension) (im r l : Change) (a b : ActorValue) (does : DoesSync hierarchy im r l a b) → length does.pulled.ledger_now.history + does.pulled.ledger_now.promised < 2 ^ 31
    → Keeps hierarchy kind.Sync (im ∷ r ∷ l ∷ []) a b does
sync-keeps hierarchy im r l a b does room s w n g same i ag sight =
    let Fits : List Dimension → ActorValue → Type 0 = λ hs z. (x : DoesSync hs im r l z b) × (length x.pulled.ledger_now.history + x.pulled.ledger_now.promised < 2 ^ 31) in
    let here : Fits s.hierarchy (w.actors n) = subst (λ (hs : List Dimension). Fits hs (w.actors n)) (sym same) (subst (Fits hierarchy) (sym ag.actor_is) (does, room)) in
    sync-kept im r l b s w n g i (record { cells = ag.cells; actor_is = refl; free = λ x ne. ag.free x ne }) here.0 here.1
