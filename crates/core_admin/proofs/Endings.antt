-- A job comes to its end, whose gate retires: that keeps the invariant, and less is left.
use Rattle.std.proofs.{Common.{◌≡◌, ◌≢◌, ℕ, ◌+◌, ◌-◌, ◌*◌, ◌<◌, ◌≤◌, true, false, cond, eqb, List, [], ◌∷◌, ◌++◌, length, Option, Some, None, IsSome, refl, sym, ap, ◌∙◌, subst, ◌⊎◌, inl, inr, arith, le_of_lt, ◌==◌, ◌||◌}, lemmas.Bool.{eqb-true, eqb-false}}
use Rattle.std.specs.Option.{option_map_or}
use Rattle.row_ledger.specs.{Belonging.number_in, Classes.class_of, Kept.KeepsRight, LedgerValue.LedgerValue, Past.{Step, before, work, call_at, end_in, has_ended, has_page, session_in}, Right.{AsksFor, IsRightAction, MayEnd, shows}, Shards.is_live, Work.{Did, DidOnly, is_known, shard_of}, Workers.is_on, declared.class.Class.Class, declared.event.Event.Event, declared.event.Event.TheVariants.Ended, declared.settings.Call.Call}
use Rattle.list_words.specs.Counts.{same, times}
use Rattle.list_words.proofs.Truth.{on_bool}
use Rattle.dim_hierarchy.specs.declared.row.Row.{Row}
use Rattle.row_ledger.proofs.{Growth.KeepsRight-ended, Positions.before-older}
use Rattle.shard_plan.specs.{declared.action.Action.Action, declared.action.Load.Load}
use Rattle.core_tree.specs.shard_store.specs.{declared.gate.Phase.Phase, declared.gate.Phase.TheVariants.Gone}
use Rattle.core_tree.specs.tree_shape.specs.{Laws.OtherLaw, Shape.{Shape, numbers}}
use Rattle.core_tree.specs.volap_cell.specs.{AdminKinds.{Finishes, PushesBoth, HasJob}, Cells.{CellValue, GateCell, LedgerCell, gate_shard, ledger_in, phase_of}, Commands.{after_action, owes}, Desking.Desking, Errands.ReadPart, Falls.{control_of, job_left, left, of_work, plenty}, Ghost.{AGate, Ghost, InPurse, InTree, Owner}, Growing.{Growing, Queueing, Resting}, ImageKinds.{Pushes, doing}, Imaging.{Covering, Imaging}, Invariant.InvWith, Lineage.Lineage, Owing.{Owing, owed_by}, Placing.{Inserting, Placing}, Planning.{job_for, next_job}, Querying.{IsInTreeOf, Querying}, Reusing.{Reusing, is_gone}, Setting.{Setting, actor_count, cell_count, ledger_cell, site_in}, Steps.history_in, Telling.{IsCalledAs, IsProgress, Telling}, Values.{ActorValue, JobValue, IsCalled, BuildingValue, Builds}, View.{View, row_at, view}, Working.{Balancing, IsBalancing, IsJobOf, action_of, begun_job}, World.{Change, World}, declared.command.Balance.Balance, declared.command.Command.Command, declared.command.Work.Work, declared.role.Role.Role, declared.role.Role.TheVariants.Admin}
use Rattle.core_tree.specs.volap_cell.proofs.{OneEvent.Known.{AreOlder, older-rows}, OneEvent.Noted.telling-goes-on, OneEvent.Older.{call-kept, query-same}, OneEvent.Quiet.{covering-quiet, desking-quiet, desks-older, imaging-quiet, inserting-quiet, lineage-quiet, placing-quiet, querying-quiet, readers-older, resting-quiet}, OneEvent.Reads.{ReadersTake, pinned-whole, readers-take, reading-rows-older}, OneEvent.Told.{called-kept, commands-older}, OneEvent.Trees.{growing-grown, past-there, queueing-grown}, Persons.{has-command, only-admin}, Reusing.{more-off, more-there, reusing-turned, stands-off}, Views.Admin.by_finish, Views.Fields.{IsNew, IsNewAt, IsPushed, pushed-new}, Views.Seen.renewed}
use Rattle.core_image.proofs.{Commands.Endings.unasked, Commands.NextAction.next-action, Commands.Owed.{owed-others, promises-now}}
use Rattle.core_admin.proofs.{Jobs.FinishedCommands.telling-finished, Jobs.NextJobs.{IsNextOf, numbering-next, off-desk, working-next, balancing-one, control-next}, Jobs.TurnedCommands.{IsOffDesk, turned-desking, turned-inserting, turned-placing}, Moving.BalanceDone.{balancing-done, next-is, within, IsDoneBy}, Postponing.Returned.one, Retiring.Gates.{Retiring, gate-old, not-new, retired-stocking}, Retiring.Left.control-retired, Retiring.Trees.{retired-growing, retired-pinning, retired-queueing, retired-stamping}, ShardLines.{KeepsBoxes, KeepsLines, covering-kept, desking-kept, imaging-kept, inserting-kept, querying-kept, rows}, SharedLineage.{LeadsOn, leading-shared, lineage-shared}, SharedRows.{SharesRows, placing-shared, resting-shared, shared_ghost, turning-shared}, Untouched.querying-off}
use Rattle.row_ledger.specs.declared.class.Class.TheVariants as class_is
use Rattle.row_ledger.specs.declared.settings.How.TheVariants as how_is
use Rattle.shard_plan.specs.declared.action.Action.TheVariants as action
use Rattle.core_tree.specs.volap_cell.specs.declared.command.Work.TheVariants as work_is

-- what a job's end leaves
pub record IsFinished (s : Setting) (w w2 : World) (g : Ghost) : Type 0 where
  pub ghost_now : Ghost
  pub holds : InvWith s (view s w2) ghost_now
  pub newer : List Event
  pub grows : history_in w2 ≡ newer ++ history_in w
  pub falls : (left s w2 ghost_now).control < (left s w g).control

-- The command of a job is a split or a move, or a balance.
finish-cases : (gate of : ℕ) (work k : Work) (job : JobValue) (e : Event) (led : Change) (a b : ActorValue) → work ≡ k → IsJobOf k job → Finishes gate of k job e led a b
    → ((b ≡ record a { purse = []; seen = b.seen; command = None; job = None; gone_gates = a.gone_gates ++ gate ∷ [] }) × PushesBoth e (Ended of how_is.Fine) led b.seen × (work ≡ work_is.Action (action_of job)))
    ⊎ ((balance : Balance) × (work ≡ work_is.Balance balance)
    × (b ≡ record a { purse = []; seen = b.seen; command = doing of (work_is.Balance (after_action true job balance)); job = next_job (after_action true job balance); gone_gates = a.gone_gates ++ gate ∷ [] }) × Pushes e 0 1 led b.seen)
finish-cases gate of work (work_is.Action act) job e led a b is its f = inl (f.1, f.0, is ∙ ap work_is.Action (sym its))
finish-cases gate of work (work_is.Balance k) job e led a b is its f = inr (k, is, f.1, f.0)
finish-cases gate of work (work_is.Insert row routed) job e led a b is its f = absurd its
finish-cases gate of work work_is.Query job e led a b is its f = absurd its
finish-cases gate of work (work_is.Sync server pulled) job e led a b is its f = absurd its
finish-cases gate of work work_is.Bare job e led a b is its f = absurd its
finish-cases gate of work (work_is.Settle pulls) job e led a b is its f = absurd its
finish-cases gate of work (work_is.Page subject there shown) job e led a b is its f = absurd its

-- the next job of a balance is at its beginning
next-called : (balance : Balance) (j : JobValue) → next_job balance ≡ Some j → j.stage ≡ IsCalled
next-called balance j has = (let k = next-action balance j has in ap (λ (z : JobValue). z.stage) k.4 ∙ by balance.standing k.1)
  where
    by : (loads : List Load) (a : Action) → (job_for loads a).stage ≡ IsCalled
    by loads (action.Split z) = refl
    by loads (action.Move z to) = refl

-- the actor has no spares behind it, and its job is at the beginning
pub closes : (gate of : ℕ) (work : Work) (job : JobValue) (e : Event) (led : Change) (a b : ActorValue) → IsJobOf work job → Finishes gate of work job e led a b → (b.purse ≡ []) × ((j : JobValue) → b.job ≡ Some j → j.stage ≡ IsCalled)
closes gate of work job e led a b its f = elim (finish-cases gate of work work job e led a b refl its f) [
  | inl t ↦ (ap (λ (k : ActorValue). k.purse) t.0, λ j is. let no : ◌≡◌ {A = Option JobValue} None (Some j) = sym (ap (λ (k : ActorValue). k.job) t.0) ∙ is in cc)
  | inr t ↦ (ap (λ (k : ActorValue). k.purse) t.2, λ j is. next-called (after_action true job t.0) j (sym (ap (λ (k : ActorValue). k.job) t.2) ∙ is))
]

-- the command asks for its job's action
asks-for : (s : Setting) (h : List Event) (of : ℕ) (work : Work) (job : JobValue) (role : Role) → IsJobOf work job → IsProgress s h of work (Some job) role → (call : Call) × (call_at h of ≡ Some call) × AsksFor h of (class_of call) (action_of job)
asks-for s h of (work_is.Action act) job role its p = (p.0.0, p.0.1, subst (λ (c : Class). AsksFor h of c (action_of job)) (sym p.0.2) (its, p.1))
asks-for s h of (work_is.Balance k) job role its p = (p.0.0, p.0.1, subst (λ (c : Class). AsksFor h of c (action_of job)) (sym p.0.2) tt)
asks-for s h of (work_is.Insert row routed) job role its p = absurd its
asks-for s h of work_is.Query job role its p = absurd its
asks-for s h of (work_is.Sync server pulled) job role its p = absurd its
asks-for s h of work_is.Bare job role its p = absurd its
asks-for s h of (work_is.Settle pulls) job role its p = absurd its
asks-for s h of (work_is.Page subject there shown) job role its p = absurd its

-- The command of an actor's job.
module _ (s : Setting) (w : World) (n : ℕ) (g : Ghost) (i : InvWith s (view s w) g) (of : ℕ) (its : Work) (command : (w.actors n).command ≡ doing of its) (job : JobValue) (is_job : (w.actors n).job ≡ Some job) where
  abbrev past : List Event
  past = (view s w).history

  -- it asks for the job
  pub job-asked : IsJobOf its job
  job-asked =
      let k = i.working.command n job is_job in
      let works : k.0.work ≡ its = ap (λ (p : Option Command). option_map_or (λ (q : Command). q.work) p work_is.Query) (sym k.1 ∙ command) in
      subst (λ (p : Work). IsJobOf p job) works k.2

  pub job-progress : IsProgress s past of its (Some job) ((view s w).roles n)
  job-progress = subst (λ (j : Option JobValue). IsProgress s past of its j ((view s w).roles n)) is_job (i.telling.progress n (record { of = of; work = its }) command)

  pub right-action : is_live s.workers past (shard_of (action_of job)) ≡ true → IsRightAction (site_in s) past of (action_of job)
  right-action live =
      let asks = asks-for s past of its job ((view s w).roles n) job-asked job-progress in
      record { call = asks.0; called = asks.1; is_open = i.telling.is_open n (record { of = of; work = its }) command; asked = asks.2; live = live }

-- The gate of an actor's job has retired, and new gates have taken its rows: what becomes of the command, of the history and of the
-- parts of the invariant, with an event for it at the end of the history.
pub record Ending (s : Setting) (w w2 : World) (n : ℕ) (g : Ghost) (owner : ℕ → Owner) (gate : ℕ → ℕ) (shape : ℕ → Shape) (home : ℕ → ℕ) : Type 0 where
  -- the command and its job
  pub of : ℕ
  pub work : Work
  pub command : (w.actors n).command ≡ doing of work
  pub job : JobValue
  pub building : BuildingValue
  pub has : HasJob (w.actors n) job (Builds building)
  pub in_cells : building.unbuilt ≡ []
  -- the event
  pub e : Event
  pub number : number_in e ≡ Some of
  pub no_session : session_in e ≡ None
  pub no_end : end_in e ≡ None
  pub page : has_page (e ∷ (view s w).history) of ≡ has_page (view s w).history of
  pub did : Did (action_of job) e
  pub done : IsDoneBy s (view s w).history g.placed of job e
  pub right : KeepsRight (site_in s) g.placed (e ∷ (view s w).history)
  -- the actor and the ledger
  pub led : Change
  pub actor : ActorValue
  pub actor_is : w2.actors n ≡ actor
  pub others : (a : ℕ) → a ≢ n → w2.actors a ≡ w.actors a
  pub ledger : (lv lv2 : LedgerValue) → led.before ≡ LedgerCell lv → led.now ≡ LedgerCell lv2 → IsNew (ledger_in (w2.cells ledger_cell)) (ledger_in (w.cells ledger_cell)) lv lv2
  -- the gates, the rows, the tables and the registry
  pub view_is : view s w2 ≡ renewed by_finish (view s w2) (view s w)
  pub retiring : Retiring s (view s w) (view s w2) g (shared_ghost g owner gate shape home) n
  pub finishes : Finishes retiring.x of work job e led (w.actors n) actor
  pub lines : KeepsLines s (view s w) g home e
  pub boxes : KeepsBoxes s (view s w) g home (view s w2).registry
  pub shares : SharesRows s (view s w) (view s w2) g (shared_ghost g owner gate shape home) n retiring e
  pub leads : LeadsOn s (view s w) (view s w2) g (shared_ghost g owner gate shape home) n retiring e

module _ (s : Setting) (w w2 : World) (n : ℕ) (g : Ghost) (owner : ℕ → Owner) (gate : ℕ → ℕ) (shape : ℕ → Shape) (home : ℕ → ℕ) (i : InvWith s (view s w) g) (d : Ending s w w2 n g owner gate shape home) (other : OtherLaw) where
  abbrev v : View
  v = view s w

  abbrev h : List Event
  h = v.history

  abbrev u : View
  u = view s w2

  abbrev g2 : Ghost
  g2 = shared_ghost g owner gate shape home

  abbrev e : Event
  e = d.e

  abbrev b : ActorValue
  b = d.actor

  abbrev its : Command
  its = record { of = d.of; work = d.work }

  its-work : IsJobOf d.work d.job
  its-work = job-asked s w n g i d.of d.work d.command d.job d.has.is_job

  plain : IsOffDesk d.work
  plain = off-desk d.work d.job its-work

  admin : v.roles n ≡ Admin
  admin = i.numbering.working n d.job d.has.is_job

  progress : IsProgress s h d.of d.work (Some d.job) (v.roles n)
  progress = job-progress s w n g i d.of d.work d.command d.job d.has.is_job

  there : n < actor_count s
  there = has-command s v i.numbering n its d.command

  began : d.of < length h
  began = commands-older s h i.telling n its d.command

  gate-is-old : (z : ℕ) → IsSome (v.gates z) → d.retiring.new z ≡ false
  gate-is-old = gate-old s v u g g2 n i d.retiring

  pin-old : (a z : ℕ) (p : ReadPart) → v.reads a ≡ Some p → p.reading.pin ≡ Some z → shape z ≡ g.shape z
  pin-old a z p has pin = d.retiring.shape_off z (gate-is-old z (subst IsSome (sym (i.pinning.shard a z p has pin)) refl))

  takes : ReadersTake v.taken v.reads
  takes = readers-take s w

  -- Parts, over the history with the event.

  rows-same : row_at (e ∷ h) ≡ v.row
  rows-same = rows s w g i home e d.lines

  growing-1 : Growing s (row_at (e ∷ h)) u.blocks u.trees u.gates u.phases u.pins shape
  growing-1 = subst (λ (row : ℕ → Row). Growing s row u.blocks u.trees u.gates u.phases u.pins shape) (sym rows-same) (retired-growing s w u g g2 n i d.retiring admin other)

  queueing-1 : Queueing s (row_at (e ∷ h)) u.gates u.phases u.queues
  queueing-1 = subst (λ (row : ℕ → Row). Queueing s row u.gates u.phases u.queues) (sym rows-same) (retired-queueing s w u g g2 n i d.retiring admin)

  lineage-1 : Lineage s (e ∷ h) u.stock u.registry u.maps u.gates u.phases gate
  lineage-1 = lineage-shared s v u g g2 n i d.retiring e d.shares d.leads

  resting-1 : Resting (e ∷ h) u.gates u.phases shape g.placed home
  resting-1 = resting-shared s w u g owner gate shape home n i d.retiring e d.lines d.shares admin

  placing-1 : Placing s (e ∷ h) v.commands v.ways u.queues gate shape g.placed home g.path
  placing-1 = placing-shared s w u g owner gate shape home n i d.retiring e d.lines d.shares

  inserting-1 : Inserting s (e ∷ h) v.images v.desks v.commands v.ways g.placed g.path
  inserting-1 = inserting-kept s w g i home e d.lines

  imaging-1 : Imaging s (e ∷ h) (row_at (e ∷ h)) v.images g.placed
  imaging-1 = imaging-kept s w g i home e d.lines

  covering-1 : Covering s (e ∷ h) (row_at (e ∷ h)) u.registry v.images g.placed home g.path
  covering-1 = covering-kept s w g i home e d.lines u.registry d.boxes

  desking-1 : Desking s (e ∷ h) v.desks v.roles v.commands v.taken
  desking-1 = desking-kept s w g i home e d.lines

  querying-1 : Querying s (e ∷ h) (row_at (e ∷ h)) u.blocks u.trees v.desks v.taken v.reads shape g.placed home g.counted
  querying-1 = querying-kept s w g i home e d.lines u.blocks u.trees shape pin-old
      (querying-off s v g other i u.blocks u.trees
      (λ z k whole own. d.retiring.blocks_off z (not-new s v u g g2 n i d.retiring z (λ p. let no : InPurse n ≡ InTree k = sym p ∙ own in cc)))
      (λ z whole. d.retiring.trees_off z (gate-is-old z whole.0))
      (λ a z p has pin. pinned-whole s v.tags v.numbers v.roles v.settings v.counted_in v.purses v.commands v.taken v.jobs v.gates v.phases v.pins v.reads i.numbering takes i.pinning a z p has pin))

  -- The command.

  seen-off : (a : ℕ) → a ≢ n → u.seen a ≡ v.seen a
  seen-off a ne = ap (λ (k : ActorValue). k.seen) (d.others a ne)

  -- a balance is the administrator's
  only-balance : (a of : ℕ) (k : Balance) → v.commands a ≡ Some (record { of = of; work = work_is.Balance k }) → a ≡ n
  only-balance a of k has =
      let role = (i.telling.progress a _ has).1 in
      i.numbering.setting.admin a n (i.numbering.role a (has-command s v i.numbering a _ has) ∙ ap Some role) (i.numbering.role n there ∙ ap Some admin)

  -- What becomes of the command and of the job.

  module _ (command2 : Option Command) (job2 : Option JobValue) (is : b ≡ record (w.actors n) { purse = []; seen = b.seen; command = command2; job = job2; gone_gates = (w.actors n).gone_gates ++ d.retiring.x ∷ [] }) where
    turn : IsNewAt u.commands v.commands n (Some its) command2
    turn = record {
      was_there = d.command;
      is_there = ap (λ (a : ActorValue). a.command) (d.actor_is ∙ is);
      elsewhere = λ a ne. ap (λ (k : ActorValue). k.command) (d.others a ne);
    }

    new : IsNewAt u.jobs v.jobs n (Some d.job) job2
    new = record {
      was_there = d.has.is_job;
      is_there = ap (λ (a : ActorValue). a.job) (d.actor_is ∙ is);
      elsewhere = λ a ne. ap (λ (k : ActorValue). k.job) (d.others a ne);
    }

    -- the old gate comes to the administrator's list, and no new one
    reusing-now : Reusing v.roles u.phases u.gone_gates
    reusing-now =
        let x = d.retiring.x in
        let list : u.gone_gates n ≡ v.gone_gates n ++ x ∷ [] = ap (λ (a : ActorValue). a.gone_gates) (d.actor_is ∙ is) in
        reusing-turned v.roles v.phases u.phases v.gone_gates u.gone_gates i.reusing n x (λ a role. only-admin s v i.numbering n a admin role)
        (λ z ne. ap (times z) list ∙ more-off (v.gone_gates n) x z ne)
        (let now = ap (times x) list in
        let more = more-there (v.gone_gates n) x in
        let was : times x (v.gone_gates n) ≡ 0 = i.reusing.listed n x admin ∙ ap (λ (p : Option Phase). cond (is_gone p) 1 0) d.retiring.frozen in
        let gone : ◌≡◌ {A = ℕ} (cond (is_gone (u.phases x)) 1 0) 1 = ap (λ (p : Option Phase). cond (is_gone p) 1 0) d.retiring.phase_x in
        omega (arith, now, more, was, gone))
        (λ z ne. on_bool (d.retiring.new z)
        (λ q. ap is_gone (d.retiring.phase_new z q) ∙ sym (stands-off (v.phases z) (λ e. no-gate z q (has-phase (w.cells z) Gone e))))
        (λ q. ap is_gone (d.retiring.phases_off z q ne)))
      where
        has-phase : (c : CellValue) (p : Phase) → phase_of c ≡ Some p → IsSome (gate_shard c)
        has-phase (GateCell gate) p is = refl
        has-phase _ p is = cc

        no-gate : (z : ℕ) → d.retiring.new z ≡ true → IsSome (v.gates z) → ⊥
        no-gate z q is = (let no : InPurse n ≡ AGate = sym (d.retiring.purse_cell z q) ∙ i.stocking.gate z is in cc)

    -- What each case shows besides.
    together : (history newer : List Event) → u.history ≡ history → history ≡ newer ++ h → Telling s history u.commands u.jobs v.roles u.seen g.placed → Owing s history u.promised v.images v.desks v.roles u.commands v.counted_in
        → Lineage s history u.stock u.registry u.maps u.gates u.phases gate → Growing s (row_at history) u.blocks u.trees u.gates u.phases u.pins shape → Queueing s (row_at history) u.gates u.phases u.queues → Resting history u.gates u.phases shape g.placed home
        → Placing s history v.commands v.ways u.queues gate shape g.placed home g.path → Inserting s history v.images v.desks v.commands v.ways g.placed g.path → Imaging s history (row_at history) v.images g.placed
        → Covering s history (row_at history) u.registry v.images g.placed home g.path → Desking s history v.desks v.roles v.commands v.taken → Querying s history (row_at history) u.blocks u.trees v.desks v.taken v.reads shape g.placed home g.counted
        → Balancing s history u.commands u.jobs g.placed home → ((j : JobValue) → job2 ≡ Some j → IsNextOf s history command2 j) → ((k : Command) → command2 ≡ Some k → IsOffDesk k.work)
        → of_work (control_of s) command2 + job_left s u job2 + (1 + cell_count s) < of_work (control_of s) (Some its) + (2 * plenty s + 1) → IsFinished s w w2 g
    together history newer hist past telling owing lineage growing queueing resting placing inserting imaging covering desking querying balancing next plain_now less =
        let v2 : View = record (renewed by_finish u v) { history = history; row = row_at history } in
        let same : u ≡ v2 = d.view_is ∙ (λ k. record (renewed by_finish u v) { history = hist k; row = row_at (hist k) }) in
        record {
          ghost_now = g2;
          holds = subst (λ (z : View). InvWith s z g2) (sym same) (record {
            numbering = numbering-next s v g i n d.job job2 u.jobs new history command2 next u.commands (Some its) turn u.purses d.retiring.purse d.retiring.purses_off;
            telling = telling;
            owing = owing;
            turning = turning-shared s w u g owner gate shape home n i d.retiring e d.lines d.shares admin;
            stocking = retired-stocking s v u g g2 n i d.retiring;
            stamping = retired-stamping s w u g g2 n i d.retiring admin other;
            lineage = lineage;
            leading = leading-shared s v u g g2 n i d.retiring e d.shares d.leads;
            growing = growing;
            queueing = queueing;
            resting = resting;
            placing = turned-placing n its command2 v.commands u.commands turn plain plain_now s history v.ways u.queues gate shape g.placed home g.path placing;
            inserting = turned-inserting n its command2 v.commands u.commands turn plain plain_now s history v.images v.desks v.ways g.placed g.path inserting;
            imaging = imaging;
            covering = covering;
            desking = turned-desking n its command2 v.commands u.commands turn plain plain_now s history v.desks v.roles v.taken desking;
            pinning = retired-pinning s w u g g2 n i d.retiring admin;
            querying = querying;
            working = working-next s v g i n d.job job2 u.jobs new history command2 next u.commands (Some its) turn u.purses d.retiring.purse u.blocks u.made u.trees u.phases u.active u.queues gate shape g.placed;
            balancing = balancing;
            reusing = reusing-now;
          });
          newer = newer;
          grows = hist ∙ past;
          falls = control-retired s w w2 u g g2 n i d.retiring refl d.others (Some its) command2 d.job job2 d.building d.command turn.is_there d.has.is_job new.is_there d.has.stage_is d.in_cells less;
        }

  -- A command of one action ends with the event.

  module _ (is : b ≡ record (w.actors n) { purse = []; seen = b.seen; command = None; job = None; gone_gates = (w.actors n).gone_gates ++ d.retiring.x ∷ [] }) (p : PushesBoth e (Ended d.of how_is.Fine) d.led b.seen) (is_action : d.work ≡ work_is.Action (action_of d.job)) where
    abbrev f : Event
    f = Ended d.of how_is.Fine

    abbrev history : List Event
    history = f ∷ e ∷ h

    news : IsNew (ledger_in (w2.cells ledger_cell)) (ledger_in (w.cells ledger_cell)) p.ledger p.ledger_now
    news = d.ledger p.ledger p.ledger_now p.was p.is

    hist : u.history ≡ history
    hist = ap (λ (l : LedgerValue). l.history) news.is_that ∙ p.history ∙ sym (ap (λ (l : LedgerValue). f ∷ e ∷ l.history) news.was_that)

    promised : v.promised ≡ u.promised + 2
    promised = ap (λ (l : LedgerValue). l.promised) news.was_that ∙ p.promised ∙ sym (ap (λ (l : LedgerValue). l.promised + 2) news.is_that)

    told : IsCalledAs h d.of (class_is.Action (action_of d.job)) × (work h d.of ≡ []) × (true ≡ is_known (site_in s) (before h d.of) (action_of d.job))
    told = subst (λ (k : Work). IsProgress s h d.of k (Some d.job) (v.roles n)) is_action progress

    right : KeepsRight (site_in s) g.placed history
    right = KeepsRight-ended (site_in s) g.placed (e ∷ h) d.of how_is.Fine d.right (record {
      call = told.0.0;
      called = call-kept e h d.of _ told.0.1;
      is_open = ap (λ (o : Option ℕ). option_map_or (λ (k : ℕ). k == d.of) o false || has_ended h d.of) d.no_end ∙ i.telling.is_open n its d.command;
      may_end = subst (λ (c : Class). MayEnd (site_in s) g.placed (e ∷ h) d.of c how_is.Fine) (sym told.0.2) (
        ap (λ (past : List Event). is_known (site_in s) past (action_of d.job)) (before-older e h d.of (le_of_lt began)) ∙ sym told.2,
        subst (DidOnly (action_of d.job)) (sym (d.done.worked ∙ ap (λ (k : List Step). record { event = e; past = h } ∷ k) told.1)) d.did,
      );
      page = d.page ∙ unasked s v g i n d.of _ told.0 refl ∙ ap (λ (c : Class). shows c how_is.Fine) (sym told.0.2);
    })

    no-job : (j : JobValue) → ◌≡◌ {A = Option JobValue} None (Some j) → j.stage ≡ IsCalled
    no-job j k = cc

    turned : IsNewAt u.commands v.commands n (Some its) None
    turned = turn None None is

    some : 0 < length (e ∷ h)
    some = omega arith

    older : AreOlder (e ∷ h) g.placed
    older = older-rows s (e ∷ h) placing-1

    on-desks : (server k : ℕ) → server < s.servers → (v.desks server).op ≡ Some k → k < length (e ∷ h)
    on-desks server k within op = (let lt = desks-older s h i.telling i.desking server k within op in omega (arith, lt))

    owing : Owing s history u.promised v.images v.desks v.roles u.commands v.counted_in
    owing =
        let two : owes d.work ≡ 2 = ap owes is_action in record {
          promises = promises-now (actor_count s) n there v.commands u.commands (Some its) None turned v.promised u.promised 0 2 (omega (arith, promised)) (omega (arith, two)) i.owing.promises;
          few = (let few = i.owing.few in omega (arith, promised, few));
          image = λ k lt. i.owing.image k lt ∙ sym (owed-others (actor_count s) n there v.commands u.commands (Some its) None turned v.roles plain.no_insert refl k);
          sessions = i.owing.sessions;
        }

    ends-with : IsFinished s w w2 g
    ends-with = together None None is history (f ∷ e ∷ []) hist refl
        (telling-finished s h v.commands u.commands v.jobs u.jobs v.roles v.seen u.seen g.placed i.telling n its e how_is.Fine turned (new None None is).elsewhere seen-off d.number d.no_session d.lines.no_insert d.lines.no_query d.no_end right
        (ap (λ (a : ActorValue). a.seen) d.actor_is ∙ p.all_seen ∙ ap length p.history ∙ sym (ap length (ap (λ (l : LedgerValue). f ∷ e ∷ l.history) news.was_that))))
        owing
        (lineage-quiet s f (e ∷ h) refl u.stock u.registry u.maps u.gates u.phases gate lineage-1)
        (growing-grown s f (e ∷ h) some u.blocks u.trees u.gates u.phases u.pins shape growing-1)
        (queueing-grown s f (e ∷ h) some u.gates u.phases u.queues queueing-1)
        (resting-quiet s f (e ∷ h) refl u.gates u.phases shape g.placed home resting-1)
        (placing-quiet s f (e ∷ h) refl v.commands v.ways u.queues gate shape g.placed home g.path placing-1)
        (inserting-quiet s f (e ∷ h) refl v.images v.desks v.commands v.ways g.placed g.path on-desks inserting-1)
        (imaging-quiet s f (e ∷ h) refl v.images g.placed older imaging-1)
        (covering-quiet s f (e ∷ h) refl u.registry v.images g.placed home g.path older covering-1)
        (desking-quiet s f (e ∷ h) refl v.desks v.roles v.commands v.taken on-desks desking-1)
        (querying-quiet s f (e ∷ h) refl u.blocks u.trees v.desks v.taken v.reads shape g.placed home g.counted older
        (λ server k known op. let lt = readers-older s h i.telling i.desking takes server k known op in omega (arith, lt))
        (λ a k q r has op asked m known. let lt = reading-rows-older s h (past-there s g.placed h i.numbering.setting i.telling.right) g.placed g.home (older-rows s h i.placing) v.blocks v.trees v.gates v.phases v.pins v.desks v.roles v.commands v.taken v.reads g.shape g.counted takes
        (pinned-whole s v.tags v.numbers v.roles v.settings v.counted_in v.purses v.commands v.taken v.jobs v.gates v.phases v.pins v.reads i.numbering takes i.pinning) i.growing i.desking i.querying
        a k q r has op (sym (query-same e h d.lines.no_query k) ∙ asked) m (elim known [ inl one ↦ inl one | inr in_tree ↦ inr (in-old r.reading.pin (λ z pin. pin-old a z r has pin) m in_tree) ]) in omega (arith, lt))
        querying-1)
        (record { balance = λ a k q has. absurd (none-now a k q has) })
        (λ j k. cc) (λ j k. cc)
        (let one : control_of s d.work ≡ 1 = ap (control_of s) is_action in omega (arith, one))
      where
        none-now : (a k : ℕ) (q : Balance) → u.commands a ≡ Some (record { of = k; work = work_is.Balance q }) → ⊥
        none-now a k q has = on_bool (eqb a n)
            (λ z. let no : ◌≡◌ {A = Option Command} None (Some (record { of = k; work = work_is.Balance q })) = sym turned.is_there ∙ ap u.commands (sym (eqb-true a n z)) ∙ has in cc)
            (λ z. let ne = eqb-false a n z in ne (only-balance a k q (sym (turned.elsewhere a ne) ∙ has)))

        in-old : (pin : Option ℕ) → ((z : ℕ) → pin ≡ Some z → shape z ≡ g.shape z) → (m : ℕ) → IsInTreeOf shape pin m → IsInTreeOf g.shape pin m
        in-old None same m k = k
        in-old (Some z) same m k = subst (λ (t : Shape). t.placed m ≡ true) (same z refl) k

  -- A balance goes on.

  module _ (balance : Balance) (works : d.work ≡ work_is.Balance balance) where
    abbrev next : Balance
    next = after_action true d.job balance

    abbrev its_now : Command
    its_now = record { of = d.of; work = work_is.Balance next }

    bal : IsBalancing s h g.placed g.home (Some d.job) d.of balance
    bal = subst (λ (j : Option JobValue). IsBalancing s h g.placed g.home j d.of balance) d.has.is_job (i.balancing.balance n d.of balance (d.command ∙ ap (doing d.of) works))

    is-next : next_job balance ≡ Some (begun_job d.job)
    is-next = subst (λ (k : Work). IsJobOf k d.job) works its-work

    calls : IsCalledAs h d.of (class_is.Balance balance.most) × (v.roles n ≡ Admin)
    calls = subst (λ (k : Work). IsProgress s h d.of k (Some d.job) (v.roles n)) works progress

    module _ (is : b ≡ record (w.actors n) { purse = []; seen = b.seen; command = Some its_now; job = next_job next; gone_gates = (w.actors n).gone_gates ++ d.retiring.x ∷ [] }) (p : Pushes e 0 1 d.led b.seen) where
      pushed : IsPushed e 0 1 b.seen u.history h u.promised v.promised
      pushed = pushed-new p (d.ledger p.ledger p.ledger_now p.was p.is)

      done : IsBalancing s (e ∷ h) g.placed home (next_job next) d.of next
      done = balancing-done s w g i home e d.lines d.of balance d.job bal is-next began d.done

      nexts : (j : JobValue) → next_job next ≡ Some j → (j.stage ≡ IsCalled) × (is_on s.workers (e ∷ h) j.shard j.worker ≡ true) × ((worker : ℕ) → j.to ≡ Some worker → worker < s.workers)
      nexts = next-is s w g i home e d.lines d.of balance d.job bal is-next began d.done

      over : (actions : List Action) × (balance.plan ≡ Some actions) × (balance.over < length actions) × (length actions ≤ balance.most)
      over = within s w g i home e d.lines d.of balance d.job bal is-next began d.done

      command-on : IsNewAt u.commands v.commands n (Some its) (Some its_now)
      command-on = turn (Some its_now) (next_job next) is

      job-on : IsNewAt u.jobs v.jobs n (Some d.job) (next_job next)
      job-on = new (Some its_now) (next_job next) is

      owing-on : Owing s (e ∷ h) u.promised v.images v.desks v.roles u.commands v.counted_in
      owing-on =
          let owed : owed_by (Some its) ≡ balance.most + 1 - balance.over = ap owes works in
          let more = over.2 in
          let few = over.3 in
          let moved = pushed.promised_is in
          record {
            promises = promises-now (actor_count s) n there v.commands u.commands (Some its) (Some its_now) command-on v.promised u.promised 0 1 moved (omega (arith, owed, more, few)) i.owing.promises;
            few = (let bound = i.owing.few in omega (arith, moved, bound));
            image = λ k lt. i.owing.image k lt ∙ sym (owed-others (actor_count s) n there v.commands u.commands (Some its) (Some its_now) command-on v.roles plain.no_insert refl k);
            sessions = i.owing.sessions;
          }

      balancing : Balancing s (e ∷ h) u.commands u.jobs g.placed home
      balancing = balancing-one s (e ∷ h) g.placed home n d.of next (Some its) v.commands u.commands command-on u.jobs (next_job next) job-on.is_there done (λ a r k ne was. absurd (ne (only-balance a r k was)))

      falls : control_of s (work_is.Balance next) + job_left s u (next_job next) + (1 + cell_count s) < control_of s d.work + (2 * plenty s + 1)
      falls =
          let was = ap (control_of s) works in
          let less = control-next s u true d.job balance over.0 over.1 over.2 (next-called next) in
          omega (arith, was, less)

      goes-on : IsFinished s w w2 g
      goes-on = together (Some its_now) (next_job next) is (e ∷ h) (e ∷ []) pushed.history_is refl
          (telling-goes-on s e h n v.commands u.commands v.jobs u.jobs v.roles v.seen u.seen g.placed
          (record {
            others = λ a ne. (command-on.elsewhere a ne, job-on.elsewhere a ne, seen-off a ne);
            all_seen = ap (λ (a : ActorValue). a.seen) d.actor_is ∙ pushed.all_seen ∙ ap length pushed.history_is;
          })
          d.right i.telling its its_now d.no_session d.no_end (λ r has. let both : Some d.of ≡ Some r = sym d.number ∙ has in let it : d.of ≡ r = cc in sym it) d.command command-on.is_there refl (called-kept e h d.of _ calls.0, calls.1))
          owing-on lineage-1 growing-1 queueing-1 resting-1 placing-1 inserting-1 imaging-1 covering-1 desking-1 querying-1 balancing
          (λ j has. let k = nexts j has in record { called = k.0; whose = (its_now, refl, has ∙ (λ z. Some (record j { stage = k.0 z }))); front = k.1; to = k.2 })
          (λ k has. let it : its_now ≡ k = cc in subst (λ (z : Command). IsOffDesk z.work) it (record { no_insert = refl; off = refl }))
          falls

  -- Either is so.
  pub finished : IsFinished s w w2 g
  finished = elim (finish-cases d.retiring.x d.of d.work d.work d.job e d.led (w.actors n) b refl its-work d.finishes) [
    | inl t ↦ ends-with t.0 t.1 t.2
    | inr t ↦ goes-on t.0 t.1 t.2 t.3
  ]
