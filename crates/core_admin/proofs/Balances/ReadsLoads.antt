-- A balance reads a load: that keeps the invariant, and less is left.
use Rattle.std.proofs.{Common.{if◌then◌else◌, ◌≡◌, ◌≢◌, ℕ, suc, ◌+◌, ◌-◌, ◌*◌, ◌<◌, ◌≤◌, List, [], ◌∷◌, true, false, eqb, length, Option, Some, None, refl, sym, ap, ◌∙◌, subst, arith, ◌⊎◌, inl, inr, option_map, option_and_then, slice_get, suc-mul, ◌==◌}, Math.Nat.{mul-le-mul_left, mul_comm}, lemmas.Bool.{eqb-true, eqb-false}, lemmas.List.length-set}
use Rattle.std.specs.Option.{option_map_or}
use Rattle.dim_hierarchy.specs.{Dimension.Dimension, declared.row.Row.Row}
use Rattle.mapping_table.specs.declared.place.Where.TheVariants as where_is
use Rattle.row_ledger.specs.{Past.{event_at, has_ended, session_in}, Work.Reading, Workers.is_on, declared.event.Event.Event}
use Rattle.row_ledger.specs.declared.class.Class.TheVariants as class_is
use Rattle.shard_plan.specs.{Balancing.plan, declared.action.Action.Action, declared.action.Load.Load}
use Rattle.core_tree.specs.shard_store.specs.declared.gate.Gate.{Gate}
use Rattle.core_tree.specs.tree_shape.specs.Laws.{GateLaw}
use Rattle.list_words.proofs.Truth.{on_bool}
use Rattle.core_tree.specs.volap_cell.specs.{AdminKinds.rows_at, Cells.{GateCell, queue_in, way_in, way_to_tree}, Falls.{actions_left, control_of, job_left, left, of_work, plenty}, Ghost.Ghost, Invariant.InvWith, Numbering.Numbering, Owing.Owing, Planning.{job_for, next_job}, Setting.{Setting, actor_count}, ShardKinds.ReadsLoad, Steps.{IsKept, Keeps}, Stocking.{items_of_job, spent_of}, Telling.{IsCalledAs, IsProgress, Telling}, Values.{ActorValue, JobValue, StageValue, IsCalled}, View.{View, view}, Working.{Balancing, IsBalancing, IsReadLoad, Working, frozen_in}, World.{Agrees, Change, World, after}, declared.command.Balance.Balance, declared.command.Command.Command, declared.kind.Kind.TheVariants.LookUp, declared.role.Role.TheVariants.Admin}
use Rattle.core_tree.specs.volap_cell.specs.declared.command.Work.TheVariants as work_is
use Rattle.core_tree.specs.volap_cell.proofs.{Persons.has-command, Views.Fields.IsNewAt, Views.Frames.{actor-at, actor-off}, Views.Parts.{by_load, view-read_load}, Views.Seen.renewed, Views.Shown.held-leads}
use Rattle.core_image.proofs.{Commands.Jobs.{items-new, not-declined, spent-new, stamping-alike, stocking-alike}, Commands.Owed.{owed-others, promises-now}, Lessens.Remains.{control_at, control-changed}}
use Rattle.core_admin.specs.LoadDue.{after_load, loads_read}
use Rattle.core_admin.proofs.{Balances.LoadsRead.{balancing-read, first-is, is-planned, jobless, over-none, unplanned, within}, Collecting.ShardRows.{rows as rows-of, rows-allowed, rows-count, rows-once, rows-own, rows-under}, Jobs.NextJobs.{job-few, balancing-one}, Jobs.TurnedCommands.{IsOffDesk, turned-desking, turned-inserting, turned-placing}}

-- no plan's first action leaves more than all that it might have
first-few : (unit most left_of_job : ℕ) (actions : List Action) → length actions ≤ most → left_of_job ≤ unit → (actions ≡ [] → left_of_job ≡ 0) → (length actions - (0 + 1)) * unit + left_of_job ≤ most * unit
first-few unit most job [] few le none = (let no = none refl in omega (arith, no))
first-few unit most job (a ∷ actions) few le none =
    let n = length actions in
    let fits = mul-le-mul_left {m = suc n} {n = most} unit few in
    let less : suc n - (0 + 1) ≡ n = omega arith in
    let here : (suc n - (0 + 1)) * unit ≡ n * unit = ap (λ (x : ℕ). x * unit) less in
    let one = suc-mul n unit in
    let turned = mul_comm unit (suc n) in
    let turned_most = mul_comm unit most in
    omega (arith, fits, here, one, le, turned, turned_most)

-- a load whose rows are those that its gate tells, as it stands in its cell
module _ (gates : GateLaw) (s : Setting) (w : World) (g : Ghost) (i : InvWith s (view s w) g) (load : Load) (on : is_on s.workers (view s w).history load.shard load.worker ≡ true) (gate : Gate) (there : w.cells (g.gate load.shard) ≡ GateCell gate) where
  abbrev rows : List Row
  rows = rows-of gates s w g i load.shard load.worker on

  pub count-of : rows_at gate ≡ length rows
  count-of =
      let tree : (view s w).trees (g.gate load.shard) ≡ way_to_tree gate = ap way_in there in
      let queue : (view s w).queues (g.gate load.shard) ≡ gate.queue = ap queue_in there in
      sym (rows-count gates s w g i load.shard load.worker on ∙ (λ k. (tree k).agg.count + length (queue k).rows))

  abbrev pub reading-of : Reading
  reading-of = record { load = record load { rows = rows_at gate }; rows = rows }

  pub is-reading : (of : ℕ) → IsReadLoad s (view s w).history g.placed g.home of reading-of
  is-reading of = record {
    count = count-of;
    once = rows-once gates s w g i load.shard load.worker on;
    under = rows-under gates s w g i load.shard load.worker on;
    usable = rows-allowed gates s w g i load.shard load.worker on;
    own = rows-own gates s w g i load.shard load.worker on of;
  }

module _ (gates : GateLaw) (s : Setting) (w : World) (n : ℕ) (g : Ghost) (i : InvWith s (view s w) g) (m gt : Change) (b : ActorValue) (ag : Agrees w (m ∷ gt ∷ []) n (w.actors n)) (d : ReadsLoad m gt (w.actors n) b) where
  abbrev v : View
  v = view s w

  abbrev h : List Event
  h = v.history

  abbrev w2 : World
  w2 = after w (m ∷ gt ∷ []) n b

  abbrev u : View
  u = view s w2

  abbrev v2 : View
  v2 = renewed by_load u v

  same : u ≡ v2
  same = view-read_load s w n m gt (w.actors n) b ag d

  -- The rows that are read.

  led : (is_on s.workers h d.load.shard d.load.worker ≡ true) × (g.gate d.load.shard ≡ gt.number)
  led = i.lineage.leads d.load.worker d.load.shard gt.number (held-leads s w i.numbering.tag m ag.cells.0 d.load.worker d.load.shard (where_is.Gate gt.number) d.leads).1

  on : is_on s.workers h d.load.shard d.load.worker ≡ true
  on = led.0

  there-is : w.cells (g.gate d.load.shard) ≡ GateCell d.gate
  there-is = ap w.cells led.1 ∙ ag.cells.1.0 ∙ d.same.was

  abbrev reading : Reading
  reading = reading-of gates s w g i d.load on d.gate there-is

  is-read : IsReadLoad s h g.placed g.home d.of reading
  is-read = is-reading gates s w g i d.load on d.gate there-is d.of

  -- The command and its job.

  abbrev next : Balance
  next = after_load d.balance d.load (rows_at d.gate) s.workers

  about : (w.actors n).setting ≡ s
  about = i.numbering.about n

  same-length : length (loads_read d.balance d.load (rows_at d.gate)) ≡ length d.balance.loads
  same-length = length-set d.balance.loads d.balance.read (record d.load { rows = rows_at d.gate })

  is-next : d.balance_now ≡ next
  is-next =
      let now : List Load = loads_read d.balance d.load (rows_at d.gate) in
      let planned : d.balance_now.plan ≡ next.plan = d.planned
      ∙ (λ k. if d.read k == length d.balance.loads then Some (plan (d.loads k) (about k).workers d.balance.most) else None)
      ∙ ap (λ (len : ℕ). if (d.balance.read + 1) == len then Some (plan now s.workers d.balance.most) else None) (sym same-length) in
      let standing : d.balance_now.standing ≡ next.standing = d.standing ∙ d.loads in
      λ k. record { most = d.most k; loads = d.loads k; read = d.read k; standing = standing k; plan = planned k; over = d.over k; done = d.done k }

  abbrev its : Command
  its = record { of = d.of; work = work_is.Balance d.balance }

  abbrev its_now : Command
  its_now = record { of = d.of; work = work_is.Balance next }

  actor-now : w2.actors n ≡ record (w.actors n) { command = Some its_now; job = next_job next }
  actor-now = actor-at w.actors n b ∙ d.actor_is ∙ (λ k. record (w.actors n) { command = Some (record { of = d.of; work = work_is.Balance (is-next k) }); job = next_job (is-next k) })

  turn : IsNewAt v2.commands v.commands n (Some its) (Some its_now)
  turn = record {
    was_there = d.command;
    is_there = ap (λ (a : ActorValue). a.command) actor-now;
    elsewhere = λ a ne. ap (λ (x : ActorValue). x.command) (actor-off w.actors n b a ne);
  }

  there : n < actor_count s
  there = has-command s v i.numbering n its d.command

  progress : IsCalledAs h d.of (class_is.Balance d.balance.most) × (v.roles n ≡ Admin)
  progress = i.telling.progress n its d.command

  bal : IsBalancing s h g.placed g.home (v.jobs n) d.of d.balance
  bal = i.balancing.balance n d.of d.balance d.command

  idle : v.jobs n ≡ None
  idle = jobless s h g.placed g.home d.of d.balance (v.jobs n) bal d.load d.load_at

  new : IsNewAt v2.jobs v.jobs n None (next_job next)
  new = record {
    was_there = idle;
    is_there = ap (λ (a : ActorValue). a.job) actor-now;
    elsewhere = λ a ne. ap (λ (x : ActorValue). x.job) (actor-off w.actors n b a ne);
  }

  its-first : (j : JobValue) → next_job next ≡ Some j → (j.stage ≡ IsCalled) × (is_on s.workers h j.shard j.worker ≡ true) × ((worker : ℕ) → j.to ≡ Some worker → worker < s.workers)
  its-first = first-is s h g.placed g.home d.of d.balance (v.jobs n) bal d.load d.load_at (rows_at d.gate) reading refl is-read i.numbering.setting.workers

  plain : IsOffDesk its.work
  plain = record { no_insert = refl; off = refl }

  plain-now : (c : Command) → Some its_now ≡ Some c → IsOffDesk c.work
  plain-now c is = (let mine : its_now ≡ c = cc in subst (λ (x : Command). IsOffDesk x.work) mine (record { no_insert = refl; off = refl }))

  -- Parts.

  had-job : (a : ℕ) (j : JobValue) → v2.jobs a ≡ Some j → ((a ≢ n) × (v.jobs a ≡ Some j)) ⊎ ((a ≡ n) × (next_job next ≡ Some j))
  had-job a j is = on_bool (eqb a n)
      (λ q. let x = eqb-true a n q in inr (x, sym new.is_there ∙ ap v2.jobs (sym x) ∙ is))
      (λ q. let ne = eqb-false a n q in inl (ne, sym (new.elsewhere a ne) ∙ is))

  spent-same : (a : ℕ) → spent_of (v2.jobs a) ≡ spent_of (v.jobs a)
  spent-same a = on_bool (eqb a n)
      (λ q. let x = eqb-true a n q in ap (λ (y : ℕ). spent_of (v2.jobs y)) x ∙ ap spent_of new.is_there ∙ spent-new (next_job next) (λ j is. (its-first j is).0)
      ∙ sym (ap (λ (y : ℕ). spent_of (v.jobs y)) x ∙ ap spent_of idle))
      (λ q. ap spent_of (new.elsewhere a (eqb-false a n q)))

  items-same : (a : ℕ) → items_of_job (v2.jobs a) ≡ items_of_job (v.jobs a)
  items-same a = on_bool (eqb a n)
      (λ q. let x = eqb-true a n q in ap (λ (y : ℕ). items_of_job (v2.jobs y)) x ∙ ap items_of_job new.is_there ∙ items-new (next_job next) (λ j is. (its-first j is).0)
      ∙ sym (ap (λ (y : ℕ). items_of_job (v.jobs y)) x ∙ ap items_of_job idle))
      (λ q. ap items_of_job (new.elsewhere a (eqb-false a n q)))

  numbering-now : Numbering s v.tags v.numbers v.roles v.settings v.counted_in v.purses v2.commands v.taken v2.jobs
  numbering-now =
      let k = i.numbering in record {
        setting = k.setting;
        tag = k.tag;
        number = k.number;
        role = k.role;
        about = k.about;
        beyond = k.beyond;
        nobody = λ a le. let (counted, purse, none, takes_none, without) = k.nobody a le in
            let ne : a ≢ n = (λ x. absurd (omega (arith, there, le, x))) in
            (counted, purse, turn.elsewhere a ne ∙ none, takes_none, new.elsewhere a ne ∙ without);
        working = λ a j is. elim (had-job a j is) [ inl t ↦ k.working a j t.1 | inr t ↦ ap v.roles t.0 ∙ progress.1 ];
        parts = k.parts;
        idle = λ a role none. on_bool (eqb a n)
            (λ q. let x = eqb-true a n q in k.idle a role (ap v.jobs x ∙ idle))
            (λ q. k.idle a role (sym (new.elsewhere a (eqb-false a n q)) ∙ none));
      }

  by-command : (P : ℕ → Command → Type 0) → P n its_now → ((a : ℕ) (c : Command) → a ≢ n → v.commands a ≡ Some c → P a c) → (a : ℕ) (c : Command) → v2.commands a ≡ Some c → P a c
  by-command P mine others a c is = on_bool (eqb a n)
      (λ q.
      let x = eqb-true a n q in
      let both : ◌≡◌ {A = Option Command} (Some its_now) (Some c) = sym turn.is_there ∙ ap v2.commands (sym x) ∙ is in
      let same_command : its_now ≡ c = ap (λ (o : Option Command). option_map_or (λ (k : Command). k) o its_now) both in
      subst (λ (y : ℕ). P y c) (sym x) (subst (P n) same_command mine))
      (λ q. let ne = eqb-false a n q in others a c ne (sym (turn.elsewhere a ne) ∙ is))

  telling-now : Telling s h v2.commands v2.jobs v.roles v.seen g.placed
  telling-now =
      let k = i.telling in record {
        right = k.right;
        own = by-command (λ a c. option_and_then session_in (event_at h c.of) ≡ Some a) (k.own n its d.command) (λ a c ne has. k.own a c has);
        is_open = by-command (λ a c. has_ended h c.of ≡ false) (k.is_open n its d.command) (λ a c ne has. k.is_open a c has);
        progress = by-command (λ a c. IsProgress s h c.of c.work (v2.jobs a) (v.roles a)) progress
            (λ a c ne has. subst (λ (j : Option JobValue). IsProgress s h c.of c.work j (v.roles a)) (sym (new.elsewhere a ne)) (k.progress a c has));
        last = k.last;
        within = k.within;
        rows = k.rows;
        filters = k.filters;
        status = λ a p is. elim (k.status a p is) [
          | inl over ↦ inl over
          | inr t ↦ inr (on_bool (eqb t.0 n)
              (λ q. (n, its_now, turn.is_there, ap (λ (o : Option Command). option_map_or (λ (c : Command). c.of) o 0) (sym d.command ∙ ap v.commands (sym (eqb-true t.0 n q)) ∙ t.2) ∙ t.3))
              (λ q. (t.0, t.1, turn.elsewhere t.0 (eqb-false t.0 n q) ∙ t.2, t.3)))
        ];
      }

  owing-now : Owing s h v.promised v.images v.desks v.roles v2.commands v.counted_in
  owing-now = record {
    promises = promises-now (actor_count s) n there v.commands v2.commands (Some its) (Some its_now) turn v.promised v.promised 0 0 refl refl i.owing.promises;
    few = i.owing.few;
    image = λ x lt. i.owing.image x lt ∙ sym (owed-others (actor_count s) n there v.commands v2.commands (Some its) (Some its_now) turn v.roles refl refl x);
    sessions = i.owing.sessions;
  }

  not-called : {A : Type 0} (f : StageValue → Option A) (j : JobValue) (x : A) → f IsCalled ≡ None → next_job next ≡ Some j → f j.stage ≡ Some x → ⊥
  not-called {A} f j x none is has = (let never : ◌≡◌ {A = Option A} None (Some x) = sym none ∙ ap f (sym (its-first j is).0) ∙ has in cc)

  working-now : Working s h v.blocks v.made v.trees v.phases v.active v.queues v.purses v2.commands v2.jobs g.gate g.shape g.placed
  working-now =
      let k = i.working in record {
        command = λ a j is. elim (had-job a j is) [
          | inl t ↦ (let old = k.command a j t.1 in (old.0, turn.elsewhere a t.0 ∙ old.1, old.2))
          | inr t ↦
              let called = (its-first j t.1).0 in
              (its_now, ap v2.commands t.0 ∙ turn.is_there, t.1 ∙ (λ z. Some (record j { stage = called z })))
        ];
        front = λ a j is. elim (had-job a j is) [ inl t ↦ k.front a j t.1 | inr t ↦ (its-first j t.1).1 ];
        to = λ a worker j is. elim (had-job a j is) [ inl t ↦ k.to a worker j t.1 | inr t ↦ (its-first j t.1).2 worker ];
        unspent = λ a j is none. elim (had-job a j is) [ inl t ↦ k.unspent a j t.1 none | inr t ↦ ap v.purses t.0 ∙ i.numbering.idle n progress.1 idle ];
        declined = λ a j c why is has stage. elim (had-job a j is) [
          | inl t ↦ k.declined a j c why t.1 (sym (turn.elsewhere a t.0) ∙ has) stage
          | inr t ↦ absurd (not-declined why (sym (its-first j t.1).0 ∙ stage))
        ];
        frozen = λ a j f is at. elim (had-job a j is) [ inl t ↦ k.frozen a j f t.1 at | inr t ↦ absurd (not-called frozen_in j f refl t.1 at) ];
        collected = λ a j c is stage. elim (had-job a j is) [ inl t ↦ k.collected a j c t.1 stage | inr t ↦ absurd (not-called frozen_in j c.frozen refl t.1 (ap frozen_in stage)) ];
        building = λ a j c is stage. elim (had-job a j is) [ inl t ↦ k.building a j c t.1 stage | inr t ↦ absurd (not-called frozen_in j c.frozen refl t.1 (ap frozen_in stage)) ];
      }

  balancing-now : Balancing s h v2.commands v2.jobs g.placed g.home
  balancing-now = balancing-one s h g.placed g.home n d.of next (Some its) v.commands v2.commands turn v2.jobs (next_job next) new.is_there
      (balancing-read s h g.placed g.home d.of d.balance (v.jobs n) bal d.load d.load_at (rows_at d.gate) reading refl is-read i.numbering.setting.workers)
      (λ a q y ne was. subst (λ (j : Option JobValue). IsBalancing s h g.placed g.home j q y) (sym (new.elsewhere a ne)) (i.balancing.balance a q y was))

  holds : InvWith s v2 g
  holds = record {
    numbering = numbering-now;
    telling = telling-now;
    owing = owing-now;
    turning = i.turning;
    stocking = stocking-alike s v.jobs v2.jobs v.purses spent-same v.stock v.made v.gates v.phases v.pins v.gone g.owner g.shape i.stocking;
    stamping = stamping-alike v.jobs v2.jobs v.purses spent-same items-same v.stock v.blocks v.made v.trees v.gates v.phases v.pins v.reads g.shape i.stamping;
    lineage = i.lineage;
    leading = i.leading;
    growing = i.growing;
    queueing = i.queueing;
    resting = i.resting;
    placing = turned-placing n its (Some its_now) v.commands v2.commands turn plain plain-now s h v.ways v.queues g.gate g.shape g.placed g.home g.path i.placing;
    inserting = turned-inserting n its (Some its_now) v.commands v2.commands turn plain plain-now s h v.images v.desks v.ways g.placed g.path i.inserting;
    imaging = i.imaging;
    covering = i.covering;
    desking = turned-desking n its (Some its_now) v.commands v2.commands turn plain plain-now s h v.desks v.roles v.taken i.desking;
    pinning = i.pinning;
    querying = i.querying;
    working = working-now;
    balancing = balancing-now;
    reusing = i.reusing;
  }

  -- What is left.

  others : (a : ℕ) → a ≢ n → w2.actors a ≡ w.actors a
  others a ne = actor-off w.actors n b a ne

  abbrev unit : ℕ
  unit = 8 * plenty s

  abbrev most : ℕ
  most = d.balance.most

  job-less : job_left s v (next_job next) ≤ unit
  job-less = (let few = job-few s v (next_job next) (λ j is. (its-first j is).0) in omega (arith, few))

  -- the balance has less to do: a load less to read, or no load and no more actions than it may make
  less-of : (p : Option (List Action)) → next.plan ≡ p → actions_left s next p + job_left s v (next_job next) < most * unit + 1 + (length d.balance.loads - d.balance.read)
  less-of None is =
      let lt = within s h g.placed g.home d.of d.balance (v.jobs n) bal d.load d.load_at in
      let len : length next.loads ≡ length d.balance.loads = same-length in
      let none : job_left s v (next_job next) ≡ 0 = ap (λ (p : Option (List Action)). job_left s v (option_map (job_for next.standing) (option_and_then (λ (xs : List Action). slice_get xs next.over) p))) is in
      let is_left : actions_left s next None ≡ most * unit + 1 + (length next.loads - (d.balance.read + 1)) = refl in
      omega (arith, lt, len, none, is_left)
  less-of (Some actions) is =
      let over : d.balance.over ≡ 0 = over-none s h g.placed g.home d.of d.balance (v.jobs n) bal d.load d.load_at in
      let its_plan = is-planned s h g.placed g.home d.of d.balance (v.jobs n) bal d.load d.load_at (rows_at d.gate) reading refl is-read i.numbering.setting.workers actions is in
      let empty : actions ≡ [] → job_left s v (next_job next) ≡ 0 = λ none. ap (λ (p : Option (List Action)). job_left s v (option_map (job_for next.standing) (option_and_then (λ (xs : List Action). slice_get xs next.over) p))) (is ∙ ap Some none) in
      let few = first-few unit most (job_left s v (next_job next)) actions its_plan.few job-less empty in
      let at : (length actions - (next.over + 1)) * unit ≡ (length actions - (0 + 1)) * unit = ap (λ (x : ℕ). (length actions - (x + 1)) * unit) over in
      let is_left : actions_left s next (Some actions) ≡ (length actions - (next.over + 1)) * unit = refl in
      omega (arith, few, at, is_left)

  control-less : (left s w2 g).control < (left s w g).control
  control-less =
      let control = control-changed s w w2 g n v2 same others (inl there) refl refl in
      let was : control_at s v (w.actors n) ≡ 1 + actions_left s d.balance None + 0 =
      (λ k. of_work (control_of s) (d.command k) + job_left s v (idle k)) ∙ ap (λ (p : Option (List Action)). 1 + actions_left s d.balance p + 0) (unplanned s h g.placed g.home d.of d.balance (v.jobs n) bal d.load d.load_at) in
      let is_left : actions_left s d.balance None ≡ most * unit + 1 + (length d.balance.loads - d.balance.read) = refl in
      let now : control_at s v (w2.actors n) ≡ 1 + actions_left s next next.plan + job_left s v (next_job next) = ap (control_at s v) actor-now in
      let less = less-of next.plan refl in
      omega (arith, control, was, is_left, now, less)

  pub load-kept : IsKept s LookUp n w w2 g
  load-kept = record {
    step = record { changes = m ∷ gt ∷ []; actor = b; agrees = ag; does = inr d; sight = tt; now_is = refl };
    ghost_now = g;
    holds = subst (λ (z : View). InvWith s z g) (sym same) holds;
    newer = [];
    grows = ap (λ (z : View). z.history) same;
    goes_on = inl (inl control-less);
  }

pub load-keeps : GateLaw → (h : List Dimension) (m gt : Change) (a b : ActorValue) (d : ReadsLoad m gt a b) → Keeps h LookUp (m ∷ gt ∷ []) a b (inr d)
load-keeps gates h m gt a b d s w n g _ i ag sight =
    load-kept gates s w n g i m gt b (record { cells = ag.cells; actor_is = refl; free = λ x ne. ag.free x ne }) (subst (λ (z : ActorValue). ReadsLoad m gt z b) (sym ag.actor_is) d)
