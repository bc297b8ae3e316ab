-- A balance leaves the action that it is at: that keeps the invariant, and less is left.
use Rattle.std.proofs.{Common.{◌≡◌, ◌≢◌, ℕ, suc, ◌+◌, ◌-◌, ◌*◌, ◌<◌, ◌≤◌, List, [], ◌∷◌, Bool, true, false, eqb, length, Option, Some, None, refl, sym, ap, ◌∙◌, subst, arith, ◌⊎◌, inl, inr, le_of_lt, option_map, option_and_then, slice_get, suc-mul}, lemmas.Bool.{cases_lt, false≢true, eqb-true, eqb-false}, lemmas.Option.slice_get_past}
use Rattle.std.specs.Option.{option_map_or}
use Rattle.dim_hierarchy.specs.{Dimension.Dimension, declared.row.Row.Row}
use Rattle.query_router.specs.Desk.{DeskValue}
use Rattle.row_ledger.specs.{Belonging.number_in, Changes.ShardsStay, Kept.KeepsRight, LedgerValue.LedgerValue, Right.MayLeave, Work.IsCause, Workers.is_on, declared.event.Event.Event, declared.event.Event.TheVariants.Left, declared.settings.Decline.Decline, declared.settings.How.How}
use Rattle.row_ledger.specs.declared.class.Class.TheVariants as class_is
use Rattle.row_ledger.specs.declared.settings.Decline.TheVariants as decline
use Rattle.row_ledger.specs.declared.settings.How.TheVariants as how_is
use Rattle.row_ledger.proofs.{Changes.quiet, Growth.KeepsRight-left}
use Rattle.server_image.specs.Image.{ImageValue}
use Rattle.shard_plan.specs.declared.action.Action.{Action}
use Rattle.volap_cell.specs.shard_store.specs.declared.queue.Queue.{Queue}
use Rattle.volap_cell.specs.tree_shape.specs.Shape.{Shape}
use Rattle.list_words.proofs.Truth.{on_bool}
use Rattle.core_image.specs.NotesDue.{CanNoteLeft, GoesOn}
use Rattle.core_image.proofs.{Commands.Backed.all-promised, Commands.Endings.never-unknown, Commands.Ends.only-its, Commands.Jobs.{items-new, spent-new, stamping-alike, stocking-alike, not-declined}, Commands.NextAction.{balancing-next, next-is, within, inside, next-action}, Commands.Owed.{owed-others, promises-now}, Lessens.Remains.{control_at, control-changed}}
use Rattle.volap_cell.specs.{AdminKinds.spent_in, Cells.{CellValue, LedgerCell}, Commands.after_action, Desking.{Desking, is_on_desk}, Errands.{RowWay, Taken}, Falls.{actions_left, control_of, job_left, left, of_work, plenty, stage_left}, Ghost.Ghost, ImageKinds.{LeavesAs, NotesLeft, OfLeft, doing}, Invariant.InvWith, Owing.{Owing, is_insert_work}, Placing.{Inserting, Placing}, Planning.{next_job, job_for}, Setting.{Setting, actor_count, site_in}, Steps.{IsKept, Keeps, IsHere, Makes}, Stocking.{items_in, items_of_job, spent_of}, Telling.IsCalledAs, Values.{ActorValue, JobValue, StageValue, IsCalled, IsDeclined, IsFrozen, Collects, Builds}, View.{View, view, row_at}, Working.{Balancing, IsBalancing, IsDeclinedFor, IsJobOf, Working, begun_job, frozen_in, action_of}, World.{World, Change, Agrees, after, change, held}, declared.command.Balance.Balance, declared.command.Command.Command, declared.command.Work.Work, declared.role.Role.Role, declared.role.Role.TheVariants.Admin}
use Rattle.volap_cell.specs.declared.command.Work.TheVariants as work_is
use Rattle.volap_cell.specs.declared.kind.Kind.TheVariants as kind
use Rattle.volap_cell.proofs.{Histories.Books.{EventNew, one-event}, OneEvent.Known.{AreOlder, older-rows}, OneEvent.Noted.telling-goes-on, OneEvent.Older.on-stays, OneEvent.Quiet.{covering-quiet, desking-quiet, desks-older, imaging-quiet, inserting-quiet, lineage-quiet, placing-quiet, querying-quiet, readers-older, resting-quiet, working-quiet}, OneEvent.Reads.{ReadersTake, pinned-whole, readers-take, reading-rows-older}, OneEvent.Told.{called-kept, commands-older, no-work}, OneEvent.Trees.{growing-grown, past-there, queueing-grown}, OneEvent.Work.one-balance-grown, Persons.has-command, Views.Books.{by_call, view-note_left}, Views.Fields.IsNewAt, Views.Frames.{actor-at, actor-off}, Views.Seen.renewed}

-- An actor's command becomes another one; neither is an insert, and neither stands on a desk.

module _ (n : ℕ) (its its_now : Command) (commands commands_now : ℕ → Option Command) (turn : IsNewAt commands_now commands n (Some its) (Some its_now)) where
  said : {A : Type 0} (f : Command → A) (none : A) (a : ℕ) (c : Command) → commands a ≡ Some c → a ≡ n → f c ≡ f its
  said f none a c has e = ap (λ (o : Option Command). option_map_or f o none) (sym has ∙ ap commands e ∙ turn.was_there)

  said-now : {A : Type 0} (f : Command → A) (none : A) (a : ℕ) (c : Command) → commands_now a ≡ Some c → a ≡ n → f c ≡ f its_now
  said-now f none a c has e = ap (λ (o : Option Command). option_map_or f o none) (sym has ∙ ap commands_now e ∙ turn.is_there)

  turned-placing : is_insert_work its.work ≡ false → (s : Setting) (h : List Event) (ways : ℕ → Option RowWay) (queues : ℕ → Queue) (gate : ℕ → ℕ) (shape : ℕ → Shape) (placed : ℕ → Bool) (home : ℕ → ℕ) (path : ℕ → List ℕ)
      → Placing s h commands ways queues gate shape placed home path → Placing s h commands_now ways queues gate shape placed home path
  turned-placing no_insert s h ways queues gate shape placed home path i = record {
    one = i.one;
    stands = i.stands;
    begun = i.begun;
    line = i.line;
    acked_rows = i.acked_rows;
    others = λ r p. elim (i.others r p) [
      | inl k ↦ inl k
      | inr t ↦
          let ne : t.0 ≢ n = (λ e. false≢true (sym no_insert ∙ sym (said (λ (k : Command). is_insert_work k.work) false t.0 _ t.2 e))) in
          inr (t.0, t.1, turn.elsewhere t.0 ne ∙ t.2)
    ];
  }

  turned-inserting : is_insert_work its_now.work ≡ false → (s : Setting) (h : List Event) (images : ℕ → ImageValue) (desks : ℕ → DeskValue) (ways : ℕ → Option RowWay) (placed : ℕ → Bool) (path : ℕ → List ℕ)
      → Inserting s h images desks commands ways placed path → Inserting s h images desks commands_now ways placed path
  turned-inserting no_insert s h images desks ways placed path i = record {
    unrouted = λ a r row is.
        let ne : a ≢ n = (λ e. false≢true (sym no_insert ∙ sym (said-now (λ (k : Command). is_insert_work k.work) false a _ is e))) in
        i.unrouted a r row (sym (turn.elsewhere a ne) ∙ is);
    parts = i.parts;
    on_way = i.on_way;
  }

  turned-desking : is_on_desk its.work ≡ false → is_on_desk its_now.work ≡ false → (s : Setting) (h : List Event) (desks : ℕ → DeskValue) (roles : ℕ → Role) (taken : ℕ → Option Taken)
      → Desking s h desks roles commands taken → Desking s h desks roles commands_now taken
  turned-desking off off_now s h desks roles taken i = record {
    empty = i.empty;
    whose = λ x of within op.
        let (a, c, has, is, serves, on) = i.whose x of within op in
        let ne : a ≢ n = (λ e. false≢true (sym off ∙ sym (said (λ (k : Command). is_on_desk k.work) false a c has e) ∙ on)) in
        (a, c, turn.elsewhere a ne ∙ has, is, serves, on);
    on_desk = λ a x c has serves on.
        let ne : a ≢ n = (λ e. false≢true (sym off_now ∙ sym (said-now (λ (k : Command). is_on_desk k.work) false a c has e) ∙ on)) in
        i.on_desk a x c (sym (turn.elsewhere a ne) ∙ has) serves on;
    insert = i.insert;
    query = i.query;
    takers = i.takers;
    at_parts = i.at_parts;
    one = i.one;
  }

-- a job that is left has spent nothing and noted nothing, and something is left of it
leaves-bare : (stage : StageValue) (how : How) → LeavesAs stage how → (spent_in stage ≡ []) × (items_in stage ≡ []) × (frozen_in stage ≡ None)
leaves-bare IsCalled how leaves = (refl, refl, refl)
leaves-bare (IsDeclined why) how leaves = (refl, refl, refl)
leaves-bare (IsFrozen f) how leaves = absurd leaves
leaves-bare (Collects c) how leaves = absurd leaves
leaves-bare (Builds b) how leaves = absurd leaves

leaves-some : (s : Setting) (v : View) (stage : StageValue) (how : How) → LeavesAs stage how → 1 ≤ stage_left s v stage
leaves-some s v IsCalled how leaves = omega arith
leaves-some s v (IsDeclined why) how leaves = omega arith
leaves-some s v (IsFrozen f) how leaves = absurd leaves
leaves-some s v (Collects c) how leaves = absurd leaves
leaves-some s v (Builds b) how leaves = absurd leaves

-- how it may be left
may-leave : (hs : List Dimension) (a : Action) (stage : StageValue) (how : How) → LeavesAs stage how → ((why : Decline) → stage ≡ IsDeclined why → (rows : List Row) × IsCause hs a rows why) → MayLeave how
may-leave hs a IsCalled how leaves cause = subst MayLeave (sym leaves) tt
may-leave hs a (IsDeclined why) how leaves cause = (let found = cause why refl in subst MayLeave (sym leaves) (by why found.0 found.1))
  where
    by : (why : Decline) (rows : List Row) → IsCause hs a rows why → MayLeave (how_is.Declined why)
    by decline.Unknown rows c = absurd (never-unknown hs a rows c)
    by decline.OnePlace rows c = tt
    by (decline.NoCell need free) rows c = tt
may-leave hs a (IsFrozen f) how leaves cause = absurd leaves
may-leave hs a (Collects c) how leaves cause = absurd leaves
may-leave hs a (Builds b) how leaves cause = absurd leaves

-- a job at its beginning leaves so much
job-few : (s : Setting) (v : View) (job : Option JobValue) → ((j : JobValue) → job ≡ Some j → j.stage ≡ IsCalled) → job_left s v job ≤ 6 * plenty s
job-few s v None called = omega arith
job-few s v (Some j) called = (let at : job_left s v (Some j) ≡ 6 * plenty s = ap (stage_left s v) (called j refl) in omega (arith, at))

module _ (l : Change) (b : ActorValue) (s : Setting) (w : World) (n : ℕ) (g : Ghost) (i : InvWith s (view s w) g) (ag : Agrees w (l ∷ []) n (w.actors n)) (does : NotesLeft l (w.actors n) b) where
  abbrev v : View
  v = view s w

  abbrev h : List Event
  h = v.history

  abbrev w2 : World
  w2 = after w (l ∷ []) n b

  abbrev u : View
  u = view s w2

  abbrev of : ℕ
  of = does.of

  abbrev job : JobValue
  job = does.job

  abbrev next : Balance
  next = after_action false job does.balance

  abbrev e : Event
  e = Left of job.shard does.left_as

  pushed : EventNew u v e 0 1 b.seen
  pushed = one-event s w n b i.numbering.tag l ag.cells does.left

  -- the view afterwards, with its history written out
  abbrev v2 : View
  v2 = record (renewed by_call u v) { history = e ∷ h; row = row_at (e ∷ h) }

  same : u ≡ v2
  same = view-note_left s w n l (w.actors n) b ag does ∙ (λ k. record (renewed by_call u v) { history = pushed.history_is k; row = row_at (pushed.history_is k) })

  -- The command and its job.

  abbrev its : Command
  its = record { of = of; work = work_is.Balance does.balance }

  abbrev its_now : Command
  its_now = record { of = of; work = work_is.Balance next }

  actor-now : w2.actors n ≡ record (w.actors n) { command = Some its_now; job = next_job next; seen = b.seen }
  actor-now = actor-at w.actors n b ∙ does.actor_is

  turn : IsNewAt v2.commands v.commands n (Some its) (Some its_now)
  turn = record {
    was_there = does.command;
    is_there = ap (λ (a : ActorValue). a.command) actor-now;
    elsewhere = λ a ne. ap (λ (x : ActorValue). x.command) (actor-off w.actors n b a ne);
  }

  new : IsNewAt v2.jobs v.jobs n (Some job) (next_job next)
  new = record {
    was_there = does.job_is;
    is_there = ap (λ (a : ActorValue). a.job) actor-now;
    elsewhere = λ a ne. ap (λ (x : ActorValue). x.job) (actor-off w.actors n b a ne);
  }

  there : n < actor_count s
  there = has-command s v i.numbering n its does.command

  began : (a : ℕ) (c : Command) → v.commands a ≡ Some c → c.of < length h
  began = commands-older s h i.telling

  progress : IsCalledAs h of (class_is.Balance does.balance.most) × (v.roles n ≡ Admin)
  progress = i.telling.progress n its does.command

  bal : IsBalancing s h g.placed g.home (Some job) of does.balance
  bal = subst (λ (j : Option JobValue). IsBalancing s h g.placed g.home j of does.balance) does.job_is (i.balancing.balance n of does.balance does.command)

  is-next : next_job does.balance ≡ Some (begun_job job)
  is-next =
      let c = i.working.command n job does.job_is in
      let works : c.0.work ≡ work_is.Balance does.balance = ap (λ (o : Option Command). option_map_or (λ (k : Command). k.work) o work_is.Query) (sym c.1 ∙ does.command) in
      subst (λ (x : Work). IsJobOf x job) works c.2

  declined : (why : Decline) → job.stage ≡ IsDeclined why → IsDeclinedFor s h g.placed of job why
  declined why st = i.working.declined n job its why does.job_is does.command st

  bare : (spent_in job.stage ≡ []) × (items_in job.stage ≡ []) × (frozen_in job.stage ≡ None)
  bare = leaves-bare job.stage does.left_as does.leaves

  its-next : (j : JobValue) → next_job next ≡ Some j → (j.stage ≡ IsCalled) × (is_on s.workers h j.shard j.worker ≡ true) × ((worker : ℕ) → j.to ≡ Some worker → worker < s.workers)
  its-next = next-is s h g.placed g.home of does.balance job does.left_as bal is-next does.leaves declined (began n its does.command)

  over : (actions : List Action) × (does.balance.plan ≡ Some actions) × (does.balance.over < length actions) × (length actions ≤ does.balance.most)
  over = within s h g.placed g.home of does.balance job does.left_as bal is-next does.leaves declined (began n its does.command)

  right : KeepsRight (site_in s) g.placed (e ∷ h)
  right = KeepsRight-left (site_in s) g.placed h of job.shard does.left_as i.telling.right (record {
    call = progress.0.0;
    most = does.balance.most;
    called = progress.0.1;
    is_open = i.telling.is_open n its does.command;
    plans = progress.0.2;
    may_leave = may-leave s.hierarchy (action_of job) job.stage does.left_as does.leaves (λ why st. let d = declined why st in (d.rows, d.cause));
  })

  stay : ShardsStay s.workers e h
  stay = (quiet s.hierarchy s.workers e h refl).shards

  -- Parts.

  some : 0 < length h
  some = past-there s g.placed h i.numbering.setting i.telling.right

  older : AreOlder h g.placed
  older = older-rows s h i.placing

  on-desks : (server p : ℕ) → server < s.servers → (v.desks server).op ≡ Some p → p < length h
  on-desks = desks-older s h i.telling i.desking

  takes : ReadersTake v.taken v.reads
  takes = readers-take s w

  owing-now : Owing s (e ∷ h) v2.promised v.images v.desks v.roles v2.commands v.counted_in
  owing-now = record {
    promises = promises-now (actor_count s) n there v.commands v2.commands (Some its) (Some its_now) turn v.promised v2.promised 0 1 pushed.promised_is
        (let more = over.2 in let few = over.3 in omega (arith, more, few)) i.owing.promises;
    few = (let moved = pushed.promised_is in let few = i.owing.few in omega (arith, moved, few));
    image = λ x lt. i.owing.image x lt ∙ sym (owed-others (actor_count s) n there v.commands v2.commands (Some its) (Some its_now) turn v.roles refl refl x);
    sessions = i.owing.sessions;
  }

  spent-same : (a : ℕ) → spent_of (v2.jobs a) ≡ spent_of (v.jobs a)
  spent-same a = on_bool (eqb a n)
      (λ q. let x = eqb-true a n q in ap (λ (y : ℕ). spent_of (v2.jobs y)) x ∙ ap spent_of new.is_there ∙ spent-new (next_job next) (λ j is. (its-next j is).0)
      ∙ sym (ap (λ (y : ℕ). spent_of (v.jobs y)) x ∙ ap spent_of new.was_there ∙ bare.0))
      (λ q. ap spent_of (new.elsewhere a (eqb-false a n q)))

  items-same : (a : ℕ) → items_of_job (v2.jobs a) ≡ items_of_job (v.jobs a)
  items-same a = on_bool (eqb a n)
      (λ q. let x = eqb-true a n q in ap (λ (y : ℕ). items_of_job (v2.jobs y)) x ∙ ap items_of_job new.is_there ∙ items-new (next_job next) (λ j is. (its-next j is).0)
      ∙ sym (ap (λ (y : ℕ). items_of_job (v.jobs y)) x ∙ ap items_of_job new.was_there ∙ bare.1))
      (λ q. ap items_of_job (new.elsewhere a (eqb-false a n q)))

  had-job : (a : ℕ) (j : JobValue) → v2.jobs a ≡ Some j → ((a ≢ n) × (v.jobs a ≡ Some j)) ⊎ ((a ≡ n) × (next_job next ≡ Some j))
  had-job a j is = on_bool (eqb a n)
      (λ q. let x = eqb-true a n q in inr (x, sym new.is_there ∙ ap v2.jobs (sym x) ∙ is))
      (λ q. let ne = eqb-false a n q in inl (ne, sym (new.elsewhere a ne) ∙ is))

  not-called : {A : Type 0} (f : StageValue → Option A) (j : JobValue) (x : A) → f IsCalled ≡ None → next_job next ≡ Some j → f j.stage ≡ Some x → ⊥
  not-called {A} f j x none is has = (let never : ◌≡◌ {A = Option A} None (Some x) = sym none ∙ ap f (sym (its-next j is).0) ∙ has in cc)

  working-now : Working s (e ∷ h) v.blocks v.made v.trees v.phases v.active v.queues v.purses v2.commands v2.jobs g.gate g.shape g.placed
  working-now =
      let k = working-quiet s e h refl v.blocks v.made v.trees v.phases v.active v.queues v.purses v.commands v.jobs g.gate g.shape g.placed began i.working in
      record {
        command = λ a j is. elim (had-job a j is) [
          | inl t ↦ (let old = k.command a j t.1 in (old.0, turn.elsewhere a t.0 ∙ old.1, old.2))
          | inr t ↦
              let called = (its-next j t.1).0 in
              (its_now, ap v2.commands t.0 ∙ turn.is_there, t.1 ∙ (λ z. Some (record j { stage = called z })))
        ];
        front = λ a j is. elim (had-job a j is) [ inl t ↦ k.front a j t.1 | inr t ↦ on-stays s.workers e h stay j.shard j.worker ∙ (its-next j t.1).1 ];
        to = λ a worker j is. elim (had-job a j is) [ inl t ↦ k.to a worker j t.1 | inr t ↦ (its-next j t.1).2 worker ];
        unspent = λ a j is none. elim (had-job a j is) [ inl t ↦ k.unspent a j t.1 none | inr t ↦ ap v.purses t.0 ∙ k.unspent n job does.job_is bare.2 ];
        declined = λ a j c why is has stage. elim (had-job a j is) [
          | inl t ↦ k.declined a j c why t.1 (sym (turn.elsewhere a t.0) ∙ has) stage
          | inr t ↦ absurd (not-declined why (sym (its-next j t.1).0 ∙ stage))
        ];
        frozen = λ a j f is at. elim (had-job a j is) [ inl t ↦ k.frozen a j f t.1 at | inr t ↦ absurd (not-called frozen_in j f refl t.1 at) ];
        collected = λ a j c is stage. elim (had-job a j is) [ inl t ↦ k.collected a j c t.1 stage | inr t ↦ absurd (not-called frozen_in j c.frozen refl t.1 (ap frozen_in stage)) ];
        building = λ a j c is stage. elim (had-job a j is) [ inl t ↦ k.building a j c t.1 stage | inr t ↦ absurd (not-called frozen_in j c.frozen refl t.1 (ap frozen_in stage)) ];
      }

  balancing-now : Balancing s (e ∷ h) v2.commands v2.jobs g.placed g.home
  balancing-now = record {
    balance = λ a p k is. on_bool (eqb a n)
        (λ q.
        let x = eqb-true a n q in
        let both : ◌≡◌ {A = Option Command} (Some its_now) (Some (record { of = p; work = work_is.Balance k })) = sym turn.is_there ∙ ap v2.commands (sym x) ∙ is in
        let same_of : of ≡ p = ap (λ (o : Option Command). option_map_or (λ (c : Command). c.of) o 0) both in
        let works : work_is.Balance next ≡ work_is.Balance k = ap (λ (o : Option Command). option_map_or (λ (c : Command). c.work) o work_is.Query) both in
        let same_balance : next ≡ k = cc in
        subst (λ (j : Option JobValue). IsBalancing s (e ∷ h) g.placed g.home j p k) (sym (ap v2.jobs x ∙ new.is_there))
        (subst (λ (y : ℕ). IsBalancing s (e ∷ h) g.placed g.home (next_job next) y k) same_of
        (subst (λ (y : Balance). IsBalancing s (e ∷ h) g.placed g.home (next_job next) of y) same_balance
        (balancing-next s h g.placed g.home of does.balance job does.left_as bal is-next does.leaves declined (began n its does.command)))))
        (λ q.
        let ne = eqb-false a n q in
        let was : v.commands a ≡ Some (record { of = p; work = work_is.Balance k }) = sym (turn.elsewhere a ne) ∙ is in
        let other : number_in e ≢ Some p = (λ r. let mine : of ≡ p = cc in ne (only-its s h v.commands v.jobs v.roles v.seen g.placed i.telling n its does.command a _ was (sym mine))) in
        subst (λ (j : Option JobValue). IsBalancing s (e ∷ h) g.placed g.home j p k) (sym (new.elsewhere a ne))
        (one-balance-grown s e h stay g.placed g.home (v.jobs a) p k (le_of_lt (began a _ was)) (no-work e p other) (i.balancing.balance a p k was)));
  }

  holds : InvWith s v2 g
  holds = record {
    numbering = record {
      setting = i.numbering.setting;
      tag = i.numbering.tag;
      number = i.numbering.number;
      role = i.numbering.role;
      about = i.numbering.about;
      beyond = i.numbering.beyond;
      nobody = λ a le. let (counted, purse, none, takes_none, jobless) = i.numbering.nobody a le in
          let ne : a ≢ n = (λ x. absurd (omega (arith, there, le, x))) in
          (counted, purse, turn.elsewhere a ne ∙ none, takes_none, new.elsewhere a ne ∙ jobless);
      working = λ a j is. elim (had-job a j is) [ inl t ↦ i.numbering.working a j t.1 | inr t ↦ ap v.roles t.0 ∙ progress.1 ];
      parts = i.numbering.parts;
      idle = λ a role none. on_bool (eqb a n)
          (λ q. ap v.purses (eqb-true a n q) ∙ i.working.unspent n job does.job_is bare.2)
          (λ q. i.numbering.idle a role (sym (new.elsewhere a (eqb-false a n q)) ∙ none));
    };
    telling = telling-goes-on s e h n v.commands v2.commands v.jobs v2.jobs v.roles v.seen v2.seen g.placed
        (record {
          others = λ a ne. (turn.elsewhere a ne, new.elsewhere a ne, ap (λ (x : ActorValue). x.seen) (actor-off w.actors n b a ne));
          all_seen = ap (λ (x : ActorValue). x.seen) actor-now ∙ pushed.all_seen ∙ ap length pushed.history_is;
        })
        right i.telling its its_now refl refl (λ p is. let both : ◌≡◌ {A = Option ℕ} (Some of) (Some p) = is in let mine : of ≡ p = cc in sym mine) does.command turn.is_there refl
        (called-kept e h of _ progress.0, progress.1);
    owing = owing-now;
    turning = i.turning;
    stocking = stocking-alike s v.jobs v2.jobs v.purses spent-same v.stock v.made v.gates v.phases v.pins v.gone g.owner g.shape i.stocking;
    stamping = stamping-alike v.jobs v2.jobs v.purses spent-same items-same v.stock v.blocks v.made v.trees v.gates v.phases v.pins v.reads g.shape i.stamping;
    lineage = lineage-quiet s e h refl v.stock v.registry v.maps v.gates v.phases g.gate i.lineage;
    leading = i.leading;
    growing = growing-grown s e h some v.blocks v.trees v.gates v.phases v.pins g.shape i.growing;
    queueing = queueing-grown s e h some v.gates v.phases v.queues i.queueing;
    resting = resting-quiet s e h refl v.gates v.phases g.shape g.placed g.home i.resting;
    placing = turned-placing n its its_now v.commands v2.commands turn refl s (e ∷ h) v.ways v.queues g.gate g.shape g.placed g.home g.path
        (placing-quiet s e h refl v.commands v.ways v.queues g.gate g.shape g.placed g.home g.path i.placing);
    inserting = turned-inserting n its its_now v.commands v2.commands turn refl s (e ∷ h) v.images v.desks v.ways g.placed g.path
        (inserting-quiet s e h refl v.images v.desks v.commands v.ways g.placed g.path on-desks i.inserting);
    imaging = imaging-quiet s e h refl v.images g.placed older i.imaging;
    covering = covering-quiet s e h refl v.registry v.images g.placed g.home g.path older i.covering;
    desking = turned-desking n its its_now v.commands v2.commands turn refl refl s (e ∷ h) v.desks v.roles v.taken (desking-quiet s e h refl v.desks v.roles v.commands v.taken on-desks i.desking);
    pinning = i.pinning;
    querying = querying-quiet s e h refl v.blocks v.trees v.desks v.taken v.reads g.shape g.placed g.home g.counted older (readers-older s h i.telling i.desking takes)
        (reading-rows-older s h some g.placed g.home older v.blocks v.trees v.gates v.phases v.pins v.desks v.roles v.commands v.taken v.reads g.shape g.counted takes
        (pinned-whole s v.tags v.numbers v.roles v.settings v.counted_in v.purses v.commands v.taken v.jobs v.gates v.phases v.pins v.reads i.numbering takes i.pinning) i.growing i.desking i.querying)
        i.querying;
    working = working-now;
    balancing = balancing-now;
    reusing = i.reusing;
  }

  -- What is left.

  others : (a : ℕ) → a ≢ n → w2.actors a ≡ w.actors a
  others a ne = actor-off w.actors n b a ne

  control-less : (left s w2 g).control < (left s w g).control
  control-less =
      let control = control-changed s w w2 g n v2 same others (inl there) refl refl in
      let unit = 8 * plenty s in
      let len = length over.0 in
      let at = does.balance.over in
      let was : control_at s v (w.actors n) ≡ 1 + (len - (at + 1)) * unit + stage_left s v job.stage =
      (λ k. of_work (control_of s) (does.command k) + job_left s v (does.job_is k)) ∙ ap (λ (p : Option (List Action)). 1 + actions_left s does.balance p + stage_left s v job.stage) over.1 in
      let now : control_at s v (w2.actors n) ≡ 1 + (len - (at + 1 + 1)) * unit + job_left s v (next_job next) =
      ap (control_at s v) actor-now ∙ ap (λ (p : Option (List Action)). 1 + actions_left s next p + job_left s v (next_job next)) over.1 in
      let some_left = leaves-some s v job.stage does.left_as does.leaves in
      let few = job-few s v (next_job next) (λ j is. (its-next j is).0) in
      elim (cases_lt (at + 1) len) [
        | inl more ↦
            let one : len - (at + 1) ≡ suc (len - (at + 1 + 1)) = omega (arith, more) in
            let sum : (len - (at + 1)) * unit ≡ (len - (at + 1 + 1)) * unit + unit = ap (λ (x : ℕ). x * unit) one ∙ suc-mul (len - (at + 1 + 1)) unit in
            omega (arith, control, was, now, sum, few)
        | inr last ↦
            let one : len - (at + 1) ≡ len - (at + 1 + 1) = omega (arith, last) in
            let same_left : (len - (at + 1)) * unit ≡ (len - (at + 1 + 1)) * unit = ap (λ (x : ℕ). x * unit) one in
            let nothing : next_job next ≡ None =
            ap (λ (p : Option (List Action)). option_map (job_for next.standing) (option_and_then (λ (xs : List Action). slice_get xs next.over) p)) over.1
            ∙ ap (option_map (job_for next.standing)) (slice_get_past over.0 (at + 1) last) in
            let none : job_left s v (next_job next) ≡ 0 = ap (job_left s v) nothing in
            omega (arith, control, was, now, same_left, none, some_left)
      ]

  pub left-kept : IsKept s kind.Note n w w2 g
  left-kept = record {
    step = record { changes = l ∷ []; actor = b; agrees = ag; does = OfLeft does; sight = tt; now_is = refl };
    ghost_now = g;
    holds = subst (λ (z : View). InvWith s z g) (sym same) holds;
    newer = e ∷ [];
    grows = pushed.history_is;
    goes_on = inl (inl control-less);
  }

pub left-keeps : (hierarchy : List Dimension) (l : Change) (a b : ActorValue) (d : NotesLeft l a b) → Keeps hierarchy kind.Note (l ∷ []) a b (OfLeft d)
left-keeps hierarchy l a b d s w n g i_same i ag sight =
    left-kept l b s w n g i (record { cells = ag.cells; actor_is = refl; free = λ x ne. ag.free x ne }) (subst (λ (z : ActorValue). NotesLeft l z b) (sym ag.actor_is) d)

-- What the note asks of the ledger is so in each state, and what it did is what the kind does.

module _ (hs : List Dimension) (ledger_at : ℕ) (ledger : CellValue) (a : ActorValue) (here : IsHere hs (held ledger_at ledger ∷ []) a) (due : CanNoteLeft ledger a) (lv : LedgerValue) (ledger_is : ledger ≡ LedgerCell lv) where
  command-here : (here.world.actors here.number).command ≡ doing due.of (work_is.Balance due.balance)
  command-here = ap (λ (x : ActorValue). x.command) here.agrees.actor_is ∙ due.command

  job-here : (here.world.actors here.number).job ≡ Some due.job
  job-here = ap (λ (x : ActorValue). x.job) here.agrees.actor_is ∙ due.job_is

  pub left-promised : 0 < lv.promised
  left-promised =
      let i = here.inv.holds in
      let s = a.setting in
      let v = view s here.world in
      let g = here.inv.ghost_of in
      let n = here.number in
      let its : Command = record { of = due.of; work = work_is.Balance due.balance } in
      let all = all-promised s here.world g i n its command-here ledger_at lv (here.agrees.cells.0 ∙ ledger_is) in
      let bal : IsBalancing s v.history g.placed g.home (Some due.job) due.of due.balance = subst (λ (j : Option JobValue). IsBalancing s v.history g.placed g.home j due.of due.balance) job-here (i.balancing.balance n due.of due.balance command-here) in
      let c = i.working.command n due.job job-here in
      let works : c.0.work ≡ work_is.Balance due.balance = ap (λ (o : Option Command). option_map_or (λ (k : Command). k.work) o work_is.Query) (sym c.1 ∙ command-here) in
      let next : next_job due.balance ≡ Some (begun_job due.job) = subst (λ (x : Work). IsJobOf x due.job) works c.2 in
      let at = next-action due.balance (begun_job due.job) next in
      let planned = bal.planned at.0 at.2 in
      let few = planned.few in
      let more = inside due.balance.over at.0 at.1 at.3 in
      omega (arith, all, few, more)

  pub left-makes : (command : Command) → a.command ≡ Some command → (job : JobValue) → a.job ≡ Some job → (how : How) → LeavesAs job.stage how → (lv2 : LedgerValue) → lv2.history ≡ Left command.of job.shard how ∷ lv.history → lv2.promised + 1 ≡ lv.promised
      → (command2 : Option Command) (job2 : Option JobValue) → GoesOn a.command command2 job2 → (seen : ℕ) → seen ≡ length lv2.history
      → Makes hs kind.Note (change ledger_at ledger (LedgerCell lv2) ∷ []) a (record a { command = command2; job = job2; seen = seen })
  left-makes command has job has_job how leaves lv2 history promised command2 job2 goes seen all_seen =
      let of_is : command.of ≡ due.of = ap (λ (o : Option Command). option_map_or (λ (c : Command). c.of) o 0) (sym has ∙ due.command) in
      let on = goes due.of due.balance due.command in
      let d : NotesLeft (change ledger_at ledger (LedgerCell lv2)) a (record a { command = command2; job = job2; seen = seen }) = record {
        of = due.of;
        balance = due.balance;
        command = due.command;
        job = job;
        job_is = has_job;
        left_as = how;
        leaves = leaves;
        left = record {
          ledger = lv;
          ledger_now = lv2;
          was = ledger_is;
          is = refl;
          history = history ∙ ap (λ (x : ℕ). Left x job.shard how ∷ lv.history) of_is;
          promised = omega (arith, promised);
          all_seen = all_seen;
        };
        actor_is = λ k. record a { command = on.0 k; job = on.1 k; seen = seen };
      } in
      record { does = OfLeft d; keeps = left-keeps hs _ a _ d }
