-- A job is given up: that keeps the invariant, and less is left.
use Rattle.std.proofs.Common.{◌≡◌, ◌≢◌, ℕ, ◌+◌, ◌-◌, ◌*◌, ◌<◌, ◌≤◌, List, [], ◌∷◌, ◌++◌, true, false, length, Option, Some, None, is_some, refl, sym, ap, ◌∙◌, subst, arith, inl, le_of_lt}
use Rattle.std.specs.Option.{option_map_or}
use Rattle.cell_stock.specs.{Stock.StockValue, declared.purse.Spare.Spare}
use Rattle.dim_hierarchy.specs.Dimension.{Dimension}
use Rattle.row_ledger.specs.{Belonging.number_in, Changes.{ShardsStay, is_quiet}, Right.{MayEnd, shows}, declared.class.Class.Class, declared.event.Event.Event, declared.event.Event.TheVariants.{Ended, Left}, declared.settings.Decline.Decline}
use Rattle.row_ledger.specs.declared.class.Class.TheVariants as class_is
use Rattle.row_ledger.specs.declared.settings.How.TheVariants as how_is
use Rattle.row_ledger.proofs.{Changes.quiet, Growth.{KeepsRight-ended, KeepsRight-left}}
use Rattle.shard_plan.specs.declared.action.Action.{Action}
use Rattle.core_tree.specs.volap_cell.specs.{AdminKinds.{DoesPostpone, GivesUp, HasFrozen}, Cells.{TheLedger, TheStock, tag_of}, Commands.{after_action, owes}, Errands.{RowWay, Taken, taken_by, taken_of, way_of}, Falls.{control_of, job_left, left, of_work, stage_left}, Ghost.Ghost, ImageKinds.{Pushes, doing}, Invariant.InvWith, Lineage.Lineage, Owing.{Owing, owed_by}, Planning.next_job, Setting.{Setting, actor_count, site_in}, Steps.{IsKept, Keeps}, Stocking.{items_of_job, spent_of}, Telling.{IsCalledAs, IsProgress, Telling}, Turning.Turning, Values.{ActorValue, ErrandValue, JobValue, StageValue, IsCalled, IsDeclined, IsFrozen, Collects, Builds}, View.{View, view, row_at}, Working.{Balancing, IsBalancing, IsDeclinedFor, IsJobOf, begun_job}, World.{World, Change, Agrees, after}, declared.command.Balance.Balance, declared.command.Command.Command, declared.command.Work.Work, declared.role.Role.TheVariants.Admin}
use Rattle.core_tree.specs.volap_cell.specs.declared.command.Work.TheVariants as work_is
use Rattle.core_tree.specs.volap_cell.specs.declared.kind.Kind.TheVariants as kind
use Rattle.core_tree.specs.volap_cell.proofs.{Cells.Past.{ledger-past, stock-past}, OneEvent.Known.{AreOlder, older-rows}, OneEvent.Noted.{IsNotedBy, telling-ends, telling-goes-on}, OneEvent.Older.on-stays, OneEvent.Quiet.{balancing-quiet, covering-quiet, desking-quiet, desks-older, imaging-quiet, inserting-quiet, lineage-quiet, placing-quiet, querying-quiet, readers-older, resting-quiet}, OneEvent.Reads.{ReadersTake, pinned-whole, readers-take, reading-rows-older}, OneEvent.Told.{called-kept, commands-older, no-work}, OneEvent.Trees.{growing-grown, past-there, queueing-grown}, OneEvent.Work.one-balance-grown, Persons.has-command, Views.Admin.{by_postpone, view-postpone}, Views.Fields.{IsNew, IsNewAt, IsPushed, pushed-new}, Views.Frames.{actor-at, actor-off}, Views.Seen.renewed}
use Rattle.core_image.proofs.{Commands.Endings.{right-end, unasked}, Commands.Ends.only-its, Commands.Jobs.{items-new, spent-new}, Commands.JobsEnd.jobless-balancing, Commands.NextAction.{balancing-next, next-is, within}, Commands.Owed.{owed-others, promises-now}, Lessens.Remains.{control_at, control-changed}, Pages.Pageless.asks_page}
use Rattle.core_admin.proofs.{Jobs.NextJobs.{IsNextOf, none-insert, numbering-next, off-desk, working-next, balancing-one, control-next}, Jobs.TurnedCommands.{IsOffDesk, turned-desking, turned-inserting, turned-placing}, Postponing.Returned.{Returns, gives-returns, returned, returned-stamping, returned-stocking}}

-- a frozen job leaves more than one at its beginning does not
frozen-some : (s : Setting) (v : View) (stage : StageValue) → HasFrozen stage → 1 ≤ stage_left s v stage
frozen-some s v IsCalled frozen = absurd frozen
frozen-some s v (IsDeclined why) frozen = absurd frozen
frozen-some s v (IsFrozen f) frozen = omega arith
frozen-some s v (Collects c) frozen = omega arith
frozen-some s v (Builds b) frozen = omega arith

module _ (c led : Change) (b : ActorValue) (s : Setting) (w : World) (n : ℕ) (g : Ghost) (i : InvWith s (view s w) g) (ag : Agrees w (c ∷ led ∷ []) n (w.actors n)) (d : DoesPostpone c led (w.actors n) b) where
  abbrev v : View
  v = view s w

  abbrev h : List Event
  h = v.history

  abbrev w2 : World
  w2 = after w (c ∷ led ∷ []) n b

  abbrev u : View
  u = view s w2

  abbrev job : JobValue
  job = d.job

  abbrev its : Command
  its = record { of = d.of; work = d.work }

  there : n < actor_count s
  there = has-command s v i.numbering n its d.command

  its-job : IsJobOf d.work job
  its-job =
      let k = i.working.command n job d.is_job in
      let works : k.0.work ≡ d.work = ap (λ (o : Option Command). option_map_or (λ (x : Command). x.work) o work_is.Query) (sym k.1 ∙ d.command) in
      subst (λ (x : Work). IsJobOf x job) works k.2

  began : (a : ℕ) (k : Command) → v.commands a ≡ Some k → k.of < length h
  began = commands-older s h i.telling

  progress : IsProgress s h d.of d.work (Some job) (v.roles n)
  progress = subst (λ (j : Option JobValue). IsProgress s h d.of d.work j (v.roles n)) d.is_job (i.telling.progress n its d.command)

  stocks : IsNew u.stock v.stock d.stock d.stock_now
  stocks = stock-past s w.cells i.numbering.tag [] c (led ∷ []) ag.cells tt d.stock d.stock_now d.turns.was d.turns.is

  returns : Returns v.stock u.stock (v.purses n ++ spent_of (v.jobs n))
  returns =
      let gave = gives-returns d.stock d.between d.stock_now d.purse d.purse_now d.spent d.spent_now d.gives d.gives_spent in
      let spares : d.purse.spares ++ d.spent.spares ≡ v.purses n ++ spent_of (v.jobs n) = (λ k. d.purse_was k ++ (d.spent_was ∙ sym (ap spent_of d.is_job)) k) in
      subst (λ (x : StockValue). Returns x u.stock (v.purses n ++ spent_of (v.jobs n))) (sym stocks.was_that)
      (subst (λ (x : StockValue). Returns d.stock x (v.purses n ++ spent_of (v.jobs n))) (sym stocks.is_that) (subst (Returns d.stock d.stock_now) spares gave))

  -- what becomes of the command, and of the history

  module _ (e : Event) (used : ℕ) (command2 : Option Command) (job2 : Option JobValue) (q : is_quiet e ≡ true) (p : Pushes e 0 used led b.seen) (is : b ≡ record (w.actors n) { purse = []; seen = b.seen; command = command2; job = job2 }) where
    pushed : IsPushed e 0 used b.seen u.history h u.promised v.promised
    pushed = pushed-new p (ledger-past s w.cells i.numbering.tag (c ∷ []) led [] ag.cells ((λ t. let no : TheStock ≡ TheLedger = sym (ap tag_of d.turns.was) ∙ t ∙ ap tag_of p.was in cc), tt) p.ledger p.ledger_now p.was p.is)

    -- the view afterwards, with its history written out
    abbrev v2 : View
    v2 = record (renewed by_postpone u v) { history = e ∷ h; row = row_at (e ∷ h) }

    same : u ≡ v2
    same = view-postpone s w n c led (w.actors n) b ag d ∙ (λ k. record (renewed by_postpone u v) { history = pushed.history_is k; row = row_at (pushed.history_is k) })

    actor-now : w2.actors n ≡ record (w.actors n) { purse = []; seen = b.seen; command = command2; job = job2 }
    actor-now = actor-at w.actors n b ∙ is

    turn : IsNewAt v2.commands v.commands n (Some its) command2
    turn = record {
      was_there = d.command;
      is_there = ap (λ (a : ActorValue). a.command) actor-now;
      elsewhere = λ a ne. ap (λ (x : ActorValue). x.command) (actor-off w.actors n b a ne);
    }

    new : IsNewAt v2.jobs v.jobs n (Some job) job2
    new = record {
      was_there = d.is_job;
      is_there = ap (λ (a : ActorValue). a.job) actor-now;
      elsewhere = λ a ne. ap (λ (x : ActorValue). x.job) (actor-off w.actors n b a ne);
    }

    mine : v2.purses n ≡ []
    mine = ap (λ (a : ActorValue). a.purse) actor-now

    off : (a : ℕ) → a ≢ n → v2.purses a ≡ v.purses a
    off a ne = ap (λ (x : ActorValue). x.purse) (actor-off w.actors n b a ne)

    stay : ShardsStay s.workers e h
    stay = (quiet s.hierarchy s.workers e h q).shards

    abbrev g2 : Ghost
    g2 = record g { owner = λ y. returned n (g.owner y) }

    -- What each case shows.

    module _ (telling : Telling s (e ∷ h) v2.commands v2.jobs v.roles v2.seen g.placed) (owes_so : owed_by (Some its) + 0 ≡ owed_by command2 + used) (used_some : 1 ≤ used)
        (next : (j : JobValue) → job2 ≡ Some j → IsNextOf s h command2 j) (plain_now : (k : Command) → command2 ≡ Some k → IsOffDesk k.work) (balancing : Balancing s (e ∷ h) v2.commands v2.jobs g.placed g.home)
        (less : of_work (control_of s) command2 + job_left s v job2 < of_work (control_of s) (Some its) + job_left s v (Some job)) where
      spent-now : spent_of (v2.jobs n) ≡ []
      spent-now = ap spent_of new.is_there ∙ spent-new job2 (λ j has. (next j has).called)

      items-now : items_of_job (v2.jobs n) ≡ []
      items-now = ap items_of_job new.is_there ∙ items-new job2 (λ j has. (next j has).called)

      some : 0 < length h
      some = past-there s g.placed h i.numbering.setting i.telling.right

      older : AreOlder h g.placed
      older = older-rows s h i.placing

      on-desks : (server r : ℕ) → server < s.servers → (v.desks server).op ≡ Some r → r < length h
      on-desks = desks-older s h i.telling i.desking

      takes : ReadersTake v.taken v.reads
      takes = readers-take s w

      plain : IsOffDesk its.work
      plain = off-desk d.work job its-job

      -- the next job, over the history as it is then
      later : (j : JobValue) → job2 ≡ Some j → IsNextOf s (e ∷ h) command2 j
      later j has = (let k = next j has in record { called = k.called; whose = k.whose; front = on-stays s.workers e h stay j.shard j.worker ∙ k.front; to = k.to })

      owing-now : Owing s (e ∷ h) v2.promised v.images v.desks v.roles v2.commands v.counted_in
      owing-now = record {
        promises = promises-now (actor_count s) n there v.commands v2.commands (Some its) command2 turn v.promised v2.promised 0 used pushed.promised_is owes_so i.owing.promises;
        few = (let moved = pushed.promised_is in let few = i.owing.few in omega (arith, moved, few, used_some));
        image = λ x lt. i.owing.image x lt ∙ sym (owed-others (actor_count s) n there v.commands v2.commands (Some its) command2 turn v.roles plain.no_insert (none-insert command2 (λ k has. (plain_now k has).no_insert)) x);
        sessions = i.owing.sessions;
      }

      turning-now : Turning s v.ways v2.purses v.boxes v.phases v.active g.gate g.shape g.home
      turning-now =
          let k = i.turning in record {
            one = k.one;
            carrying = k.carrying;
            in_leaf = k.in_leaf;
            carried = k.carried;
            enough = λ a x y way has at. subst (λ (ss : List Spare). ((g.shape x).level y ≤ length ss) × (2 * length ss + 1 ≤ v.boxes a)) (sym (off a (λ e. on-way a way has e))) (k.enough a x y way has at);
            boxed = λ a way has filled. subst (λ (ss : List Spare). 2 * length ss + 1 ≤ v.boxes a) (sym (off a (λ e. on-way a way has e))) (k.boxed a way has filled);
            counts = k.counts;
          }
        where
          on-way : (a : ℕ) (way : RowWay) → v.ways a ≡ Some way → a ≡ n → ⊥
          on-way a way has e = not-taken (w.actors n).errand (i.numbering.parts n) way (ap v.ways (sym e) ∙ has)
            where
              not-taken : (errand : Option ErrandValue) → ((t : Taken) → taken_of errand ≡ Some t → v.roles n ≢ Admin) → (way : RowWay) → way_of errand ≡ Some way → ⊥
              not-taken None parts way has = cc
              not-taken (Some x) parts way has = parts (taken_by x) refl (i.numbering.working n job d.is_job)

      lineage-now : Lineage s (e ∷ h) u.stock v.registry v.maps v.gates v.phases g.gate
      lineage-now =
          let k = lineage-quiet s e h q v.stock v.registry v.maps v.gates v.phases g.gate i.lineage in record {
            ids = returns.ids ∙ k.ids;
            front = k.front;
            gate_of = k.gate_of;
            known = k.known;
            live = k.live;
            leads = k.leads;
            split = k.split;
            divided = k.divided;
            moved = k.moved;
            later = k.later;
            made = k.made;
          }

      holds : InvWith s v2 g2
      holds = record {
        numbering = numbering-next s v g i n job job2 v2.jobs new (e ∷ h) command2 later v2.commands (Some its) turn v2.purses mine off;
        telling = telling;
        owing = owing-now;
        turning = turning-now;
        stocking = returned-stocking s v g i n u.stock returns v2.purses v2.jobs mine off spent-now items-now new.elsewhere;
        stamping = returned-stamping s v g i n u.stock returns v2.purses v2.jobs mine off spent-now items-now new.elsewhere;
        lineage = lineage-now;
        leading = i.leading;
        growing = growing-grown s e h some v.blocks v.trees v.gates v.phases v.pins g.shape i.growing;
        queueing = queueing-grown s e h some v.gates v.phases v.queues i.queueing;
        resting = resting-quiet s e h q v.gates v.phases g.shape g.placed g.home i.resting;
        placing = turned-placing n its command2 v.commands v2.commands turn plain plain_now s (e ∷ h) v.ways v.queues g.gate g.shape g.placed g.home g.path
            (placing-quiet s e h q v.commands v.ways v.queues g.gate g.shape g.placed g.home g.path i.placing);
        inserting = turned-inserting n its command2 v.commands v2.commands turn plain plain_now s (e ∷ h) v.images v.desks v.ways g.placed g.path
            (inserting-quiet s e h q v.images v.desks v.commands v.ways g.placed g.path on-desks i.inserting);
        imaging = imaging-quiet s e h q v.images g.placed older i.imaging;
        covering = covering-quiet s e h q v.registry v.images g.placed g.home g.path older i.covering;
        desking = turned-desking n its command2 v.commands v2.commands turn plain plain_now s (e ∷ h) v.desks v.roles v.taken (desking-quiet s e h q v.desks v.roles v.commands v.taken on-desks i.desking);
        pinning = i.pinning;
        querying = querying-quiet s e h q v.blocks v.trees v.desks v.taken v.reads g.shape g.placed g.home g.counted older (readers-older s h i.telling i.desking takes)
            (reading-rows-older s h some g.placed g.home older v.blocks v.trees v.gates v.phases v.pins v.desks v.roles v.commands v.taken v.reads g.shape g.counted takes
            (pinned-whole s v.tags v.numbers v.roles v.settings v.counted_in v.purses v.commands v.taken v.jobs v.gates v.phases v.pins v.reads i.numbering takes i.pinning) i.growing i.desking i.querying)
            i.querying;
        working = working-next s v g i n job job2 v2.jobs new (e ∷ h) command2 later v2.commands (Some its) turn v2.purses mine v.blocks v.made v.trees v.phases v.active v.queues g.gate g.shape g.placed;
        balancing = balancing;
        reusing = i.reusing;
      }

      control-less : (left s w2 g2).control < (left s w g).control
      control-less =
          let control = control-changed s w w2 g n v2 same (λ a ne. actor-off w.actors n b a ne) (inl there) refl refl in
          let was : control_at s v (w.actors n) ≡ of_work (control_of s) (Some its) + job_left s v (Some job) = (λ k. of_work (control_of s) (d.command k) + job_left s v (d.is_job k)) in
          let now : control_at s v (w2.actors n) ≡ of_work (control_of s) command2 + job_left s v job2 = ap (control_at s v) actor-now in
          omega (arith, control, was, now, less)

      kept : IsKept s kind.Postpone n w w2 g
      kept = record {
        step = record { changes = c ∷ led ∷ []; actor = b; agrees = ag; does = d; sight = tt; now_is = refl };
        ghost_now = g2;
        holds = subst (λ (z : View). InvWith s z g2) (sym same) holds;
        newer = e ∷ [];
        grows = pushed.history_is;
        goes_on = inl (inl control-less);
      }

    -- what every event of the actor's is noted by
    noted : IsNotedBy e h n v.commands v2.commands v.jobs v2.jobs v.seen v2.seen
    noted = record {
      others = λ a ne. (turn.elsewhere a ne, new.elsewhere a ne, ap (λ (x : ActorValue). x.seen) (actor-off w.actors n b a ne));
      all_seen = ap (λ (x : ActorValue). x.seen) actor-now ∙ pushed.all_seen ∙ ap length pushed.history_is;
    }

  -- A split or a move ends.

  frozen-left : 1 ≤ stage_left s v job.stage
  frozen-left = frozen-some s v job.stage d.frozen

  ends : (class : Class) → IsCalledAs h d.of class → asks_page class ≡ false → MayEnd (site_in s) g.placed h d.of class how_is.Postponed → shows class how_is.Postponed ≡ false → owes d.work ≡ 2 → control_of s d.work ≡ 1
      → Pushes (Ended d.of how_is.Postponed) 0 2 led b.seen → b ≡ record (w.actors n) { purse = []; seen = b.seen; command = None; job = None } → IsKept s kind.Postpone n w w2 g
  ends class called pageless may unshown two one_left p is =
      let e : Event = Ended d.of how_is.Postponed in
      let right = KeepsRight-ended (site_in s) g.placed h d.of how_is.Postponed i.telling.right
      (right-end s v g i n d.of class how_is.Postponed called (i.telling.is_open n its d.command) may (unasked s v g i n d.of class called pageless ∙ sym unshown)) in
      let turned = turn e 2 None None refl p is in
      let gone = new e 2 None None refl p is in
      kept e 2 None None refl p is
      (telling-ends s e h n v.commands u.commands v.jobs u.jobs v.roles v.seen u.seen g.placed (noted e 2 None None refl p is) right i.telling its refl d.command turned.is_there)
      (omega (arith, two)) (omega arith) (λ j has. cc) (λ k has. cc)
      (jobless-balancing n its v.commands u.commands turned (Some job) v.jobs u.jobs gone s (e ∷ h) g.placed g.home (balancing-quiet s e h refl v.commands v.jobs g.placed g.home began (λ a p k has. refl) i.balancing))
      (let some = frozen-left in omega (arith, some, one_left))

  -- A balance goes on.

  module _ (balance : Balance) (works : d.work ≡ work_is.Balance balance) where
    abbrev next : Balance
    next = after_action false job balance

    abbrev its_now : Command
    its_now = record { of = d.of; work = work_is.Balance next }

    abbrev left_as : Event
    left_as = Left d.of job.shard how_is.Postponed

    command-is : v.commands n ≡ Some (record { of = d.of; work = work_is.Balance balance })
    command-is = d.command ∙ ap (doing d.of) works

    bal : IsBalancing s h g.placed g.home (Some (begun_job job)) d.of balance
    bal =
        let k = i.balancing.balance n d.of balance command-is in record {
          places = k.places;
          readings = k.readings;
          loads = k.loads;
          each = k.each;
          read = k.read;
          still = k.still;
          planned = k.planned;
          from = k.from;
          at_work = ap is_some (sym d.is_job) ∙ k.at_work;
        }

    is-next : next_job balance ≡ Some (begun_job job)
    is-next = subst (λ (x : Work). IsJobOf x job) works its-job

    calls : IsCalledAs h d.of (class_is.Balance balance.most) × (v.roles n ≡ Admin)
    calls = subst (λ (x : Work). IsProgress s h d.of x (Some job) (v.roles n)) works progress

    began-here : d.of < length h
    began-here = began n its d.command

    undeclined : (why : Decline) → IsCalled ≡ IsDeclined why → IsDeclinedFor s h g.placed d.of (begun_job job) why
    undeclined why e = cc

    balancing-on : (p : Pushes left_as 0 1 led b.seen) → b ≡ record (w.actors n) { purse = []; seen = b.seen; command = Some its_now; job = next_job next } → Balancing s (left_as ∷ h) u.commands u.jobs g.placed g.home
    balancing-on p is =
        let e = left_as in
        let turned = turn e 1 (Some its_now) (next_job next) refl p is in
        let news = new e 1 (Some its_now) (next_job next) refl p is in
        let stays = stay e 1 (Some its_now) (next_job next) refl p is in
        balancing-one s (e ∷ h) g.placed g.home n d.of next (Some its) v.commands u.commands turned u.jobs (next_job next) news.is_there
        (balancing-next s h g.placed g.home d.of balance (begun_job job) how_is.Postponed bal is-next refl undeclined began-here) (λ a r k ne was.
        let other : number_in e ≢ Some r = (λ z. let mine : d.of ≡ r = cc in ne (only-its s h v.commands v.jobs v.roles v.seen g.placed i.telling n its d.command a _ was (sym mine))) in
        subst (λ (j : Option JobValue). IsBalancing s (e ∷ h) g.placed g.home j r k) (sym (news.elsewhere a ne))
        (one-balance-grown s e h stays g.placed g.home (v.jobs a) r k (le_of_lt (began a _ was)) (no-work e r other) (i.balancing.balance a r k was)))

    control-falls : of_work (control_of s) (Some its_now) + job_left s v (next_job next) < of_work (control_of s) (Some its) + job_left s v (Some job)
    control-falls =
        let over = within s h g.placed g.home d.of balance (begun_job job) how_is.Postponed bal is-next refl undeclined began-here in
        let nexts = next-is s h g.placed g.home d.of balance (begun_job job) how_is.Postponed bal is-next refl undeclined began-here in
        let was = ap (control_of s) works in
        let some_left = frozen-left in
        let less = control-next s v false job balance over.0 over.1 over.2 (λ j is. (nexts j is).0) in
        omega (arith, was, less, some_left)

    goes-on : Pushes left_as 0 1 led b.seen → b ≡ record (w.actors n) { purse = []; seen = b.seen; command = Some its_now; job = next_job next } → IsKept s kind.Postpone n w w2 g
    goes-on p is =
        let e = left_as in
        let turned = turn e 1 (Some its_now) (next_job next) refl p is in
        let news = new e 1 (Some its_now) (next_job next) refl p is in
        let right = KeepsRight-left (site_in s) g.placed h d.of job.shard how_is.Postponed i.telling.right (record {
          call = calls.0.0;
          most = balance.most;
          called = calls.0.1;
          is_open = i.telling.is_open n its d.command;
          plans = calls.0.2;
          may_leave = tt;
        }) in
        let stays = stay e 1 (Some its_now) (next_job next) refl p is in
        let nexts = next-is s h g.placed g.home d.of balance (begun_job job) how_is.Postponed bal is-next refl undeclined began-here in
        let over = within s h g.placed g.home d.of balance (begun_job job) how_is.Postponed bal is-next refl undeclined began-here in
        let at = balance.over in
        let len = length over.0 in
        let owed : owed_by (Some its) ≡ balance.most + 1 - at = ap owes works in
        let inside = over.2 in
        let few = over.3 in
        kept e 1 (Some its_now) (next_job next) refl p is
        (telling-goes-on s e h n v.commands u.commands v.jobs u.jobs v.roles v.seen u.seen g.placed (noted e 1 (Some its_now) (next_job next) refl p is) right i.telling its its_now refl refl
        (λ r has. let both : ◌≡◌ {A = Option ℕ} (Some d.of) (Some r) = has in let it : d.of ≡ r = cc in sym it) d.command turned.is_there refl
        (called-kept e h d.of _ calls.0, calls.1))
        (omega (arith, owed, inside, few)) (omega arith)
        (λ j has. record { called = (nexts j has).0; whose = (its_now, refl, has ∙ (λ z. Some (record j { stage = (nexts j has).0 z }))); front = (nexts j has).1; to = (nexts j has).2 })
        (λ k has. let it : its_now ≡ k = cc in subst (λ (x : Command). IsOffDesk x.work) it (record { no_insert = refl; off = refl }))
        (balancing-on p is) control-falls

  -- Each command that may have a job.

  by-work : (work : Work) → d.work ≡ work → IsJobOf work job → IsProgress s h d.of work (Some job) (v.roles n) → GivesUp d.of work job led (w.actors n) b → IsKept s kind.Postpone n w w2 g
  by-work (work_is.Action act) is of told f = ends (class_is.Action act) told.0 refl (sym told.2, told.1) refl (ap owes is) (ap (control_of s) is) f.0 f.1
  by-work (work_is.Balance balance) is of told f = goes-on balance is f.0 f.1
  by-work (work_is.Insert row routed) is of told f = absurd of
  by-work work_is.Query is of told f = absurd of
  by-work (work_is.Sync server pulled) is of told f = absurd of
  by-work work_is.Bare is of told f = absurd of
  by-work (work_is.Settle pulls) is of told f = absurd of
  by-work (work_is.Page subject there shown) is of told f = absurd of

  pub postpone-kept : IsKept s kind.Postpone n w w2 g
  postpone-kept = by-work d.work refl its-job progress d.gives_up

pub postpone-keeps : (h : List Dimension) (c led : Change) (a b : ActorValue) (d : DoesPostpone c led a b) → Keeps h kind.Postpone (c ∷ led ∷ []) a b d
postpone-keeps h c led a b d s w n g about i ag sight =
    postpone-kept c led b s w n g i (record { cells = ag.cells; actor_is = refl; free = λ x ne. ag.free x ne }) (subst (λ (z : ActorValue). DoesPostpone c led z b) (sym ag.actor_is) d)
