-- What the steps of the administrator's splits, moves and balances ask is so where they are due.
use Rattle.std.proofs.{Common.{ℕ, ◌≡◌, ◌<◌, ◌≤◌, ◌+◌, ◌-◌, ◌^◌, ◌∙◌, ◌==◌, Bool, true, false, is_none, is_some, List, [], length, Option, Some, None, inl, inr, refl, sym, ap, subst, arith, slice_get, get_or, eqb-true, if◌then◌else◌, ◌⊎◌}, lemmas.Bool.{eqb-false, ltb-false, ltb-true}, lemmas.Option.slice_get_cases}
use Rattle.std.specs.Prelude.{IfSome, option_and_then, option_map}
use Rattle.cell_stock.specs.declared.purse.Spare.{Spare}
use Rattle.core_steps.specs.core_admin.specs.FinishDue.{IsBuiltUp, IsMovedUp}
use Rattle.core_due.specs.{Wants.{is_drained, last_noted}, Works.{action_due, balance_due, build_due, collect_by, finish_due, freeze_at, has_more, load_at, load_due, move_with, or_declined, stage_due}, WorksReady.{IsJobAsked, IsNoteAsked, IsWorkAsked, most_in}, declared.works.WorkDue.WorkDue}
use Rattle.core_due.specs.declared.works.WorkDue.TheVariants.{Ends, Leaves}
use Rattle.core_due.proofs.{EndsAsked.ended, LastItems.{found-last, found-none, none-noted, noted-last}, GatesLed.led-tag, Owned.map-tag, Tables.table-of}
use Rattle.core_steps.specs.core_image.proofs.Commands.NextAction.{inside, next-action, next-has-load}
use Rattle.core_steps.specs.core_image.specs.NotesDue.{MayBeLeft}
use Rattle.core_steps.specs.declared.jobs.JobStep.TheVariants as job
use Rattle.core_steps.specs.declared.notes.NoteStep.TheVariants.{Left}
use Rattle.link_descent.specs.declared.entered.Fresh.{Fresh}
use Rattle.mapping_table.specs.declared.place.Where.{Where}
use Rattle.mapping_table.specs.declared.place.Where.TheVariants as where_is
use Rattle.row_ledger.specs.{declared.settings.Decline.Decline, declared.settings.Decline.TheVariants.Unknown}
use Rattle.row_ledger.specs.declared.settings.How.TheVariants as how
use Rattle.shard_plan.specs.{declared.action.Action.Action, declared.action.Load.Load}
use Rattle.core_steps.specs.shard_store.specs.declared.gate.Phase.{Phase}
use Rattle.core_steps.specs.shard_store.specs.declared.gate.Phase.TheVariants as phase
use Rattle.core_steps.specs.volap_cell.proofs.Cells.Numbers.{is-map}
use Rattle.core_steps.specs.volap_cell.specs.{Cells.{MapOf, active_in, phase_of, tag_of, where_in}, Commands.{EndsJob, EndsStage}, ImageKinds.doing, Invariant.InvWith, Planning.{HasLoadNext, job_for, next_job}, Setting.{Setting, ledger_cell, map_cell, registry_cell, stock_cell}, Steps.Inv, Values.{BuildingValue, Builds, CollectingValue, Collects, IsCalled, IsDeclined, IsFrozen, JobValue, StageValue}, View.view, Working.{IsJobOf, begun_job, frozen_in}, World.World, declared.command.Balance.Balance, declared.command.Command.Command, declared.command.Work.Work, declared.job.Frozen.Frozen}
use Rattle.core_steps.specs.volap_cell.specs.declared.command.Work.TheVariants as work_is

-- The queue as it was when the shard was frozen.

more-upto : (queued : ℕ) (p : Option Phase) → has_more queued p ≡ true → (upto : ℕ) × (p ≡ Some (phase.Frozen upto)) × (queued < upto)
more-upto queued (Some (phase.Frozen upto)) e = (upto, refl, ltb-true queued upto e)
more-upto queued (Some phase.Open) e = absurd (cc)
more-upto queued (Some phase.Gone) e = absurd (cc)
more-upto queued None e = absurd (cc)

no-more : (queued upto : ℕ) → has_more queued (Some (phase.Frozen upto)) ≡ false → upto ≤ queued
no-more queued upto e = ltb-false queued upto e

-- a balance that has planned and has no action before it is through
through : (b : Balance) (actions : List Action) → b.plan ≡ Some actions → next_job b ≡ None → length actions ≤ b.over
through b actions planned none = by (slice_get_cases actions b.over).1
  where
    at-plan : option_map (job_for b.standing) (slice_get actions b.over) ≡ None
    at-plan = sym (ap (λ (p : Option (List Action)). option_map (job_for b.standing) (option_and_then (λ (xs : List Action). slice_get xs b.over) p)) planned) ∙ none

    by : ((x : Action) × (b.over < length actions) × (slice_get actions b.over ≡ Some x) × (get_or actions b.over x ≡ x)) ⊎ ((length actions ≤ b.over) × (slice_get actions b.over ≡ None)) → length actions ≤ b.over
    by (inl some) = (let never : Some (job_for b.standing some.0) ≡ None = sym (ap (option_map (job_for b.standing)) some.2) ∙ at-plan in absurd (cc))
    by (inr past) = past.0

none-next : (o : Option JobValue) → is_some o ≡ false → o ≡ None
none-next None e = refl
none-next (Some j) e = absurd (cc)

module _ (s : Setting) (w : World) (inv : Inv s w) (n of : ℕ) (work : Work) (command : (w.actors n).command ≡ doing of work) (few : most_in work < 2 ^ 8) where
  abbrev i : InvWith s (view s w) inv.ghost_of
  i = inv.holds

  -- a byte counts one action more
  pub over-few : (b : Balance) → work ≡ work_is.Balance b → (x : JobValue) → (w.actors n).job ≡ Some x → b.over + 1 < 2 ^ 8
  over-few b its x is_job =
      let at : (w.actors n).command ≡ doing of (work_is.Balance b) = command ∙ ap (doing of) its in
      let most : most_in work ≡ b.most = ap most_in its in
      let (c, is, asked) = i.working.command n x is_job in
      let both : Some c ≡ doing of (work_is.Balance b) = sym is ∙ at in
      let whole : c ≡ record { of = of; work = work_is.Balance b } = cc in
      let one : c.work ≡ work_is.Balance b = ap (λ (z : Command). z.work) whole in
      let (actions, a, planned, here, own) = next-action b (begun_job x) (subst (λ (z : Work). IsJobOf z x) one asked) in
      let at_most = ((i.balancing.balance n of b at).planned actions planned).few in
      let lt_all = inside b.over actions a here in
      omega (arith, most, few, at_most, lt_all)

  -- the shard of the action behind it is among the loads
  pub next-stands : (b : Balance) → work ≡ work_is.Balance b → HasLoadNext (record b { over = b.over + 1 })
  next-stands b its = next-has-load s (view s w).history inv.ghost_of.placed of b (i.balancing.balance n of b (command ∙ ap (doing of) its)).planned

  -- the balance leaves the action that it is at
  pub left-asked : (b : Balance) → work ≡ work_is.Balance b → (x : JobValue) → (w.actors n).job ≡ Some x → MayBeLeft x.stage → IsNoteAsked s w n Left
  left-asked b its x is_job left = record {
    of = of;
    balance = b;
    command = command ∙ ap (doing of) its;
    job = x;
    job_is = is_job;
    left = left;
    few = over-few b its x is_job;
    stands = next-stands b its;
    ledger_is = i.numbering.tag ledger_cell;
  }

  -- Jobs.

  module _ (x : JobValue) (is_job : (w.actors n).job ≡ Some x) where
    abbrev table : ℕ
    table = map_cell s x.worker

    freeze-asked : x.stage ≡ IsCalled → (o : Option Where) → where_in (w.cells table) x.shard ≡ o → IfSome (freeze_at table o) (IsWorkAsked s w n)
    freeze-asked stage (Some (where_is.Gate gate)) leads =
        let places = table-of (w.cells table) x.worker x.shard (where_is.Gate gate) (led-tag s w inv.ghost_of inv.holds x.worker x.shard (where_is.Gate gate) leads) leads in
        record {
          job = x;
          has = record { is_job = is_job; stage_is = stage };
          leads = record { table = places.places; was = places.is; leads = places.leads; same = refl };
          stock_is = i.numbering.tag stock_cell;
        }
    freeze-asked stage (Some (where_is.Split plane left right)) leads = tt
    freeze-asked stage (Some (where_is.Moved to)) leads = tt
    freeze-asked stage None leads = tt

    drained-asked : (f : Frozen) → x.stage ≡ IsFrozen f → active_in (w.cells f.gate) ≡ 0 → IsJobAsked s w n (job.Drained f.gate)
    drained-asked f stage drained = record { job = x; frozen = f; has = record { is_job = is_job; stage_is = stage }; here = refl; drained = drained }

    collect-asked : (c : CollectingValue) → x.stage ≡ Collects c → (noted : Option ℕ) → last_noted c.items ≡ noted → (more : Bool) → has_more c.queued (phase_of (w.cells c.frozen.gate)) ≡ more
        → IsJobAsked s w n (collect_by c.frozen.gate noted more)
    collect-asked c stage (Some block) noted more has =
        let k = noted-last c.items block noted in
        record { job = x; collecting = c; has = record { is_job = is_job; stage_is = stage }; items = k.front; item = k.item; noted = k.is; here = k.cell }
    collect-asked c stage None noted true has =
        let (upto, frozen, less) = more-upto c.queued (phase_of (w.cells c.frozen.gate)) has in
        record { job = x; collecting = c; has = record { is_job = is_job; stage_is = stage }; all_read = none-noted c.items noted; here = refl; upto = upto; frozen = frozen; more = less }
    collect-asked c stage None noted false has =
        let its = i.working.frozen n x c.frozen is_job (ap frozen_in stage) in
        let most = no-more c.queued its.upto (sym (ap (has_more c.queued) its.phase_is) ∙ has) in
        let least = (i.working.collected n x c is_job stage).upto its.upto its.phase_is in
        let same : its.upto ≡ c.queued = omega (arith, most, least) in
        record { job = x; collecting = c; has = record { is_job = is_job; stage_is = stage }; all_read = none-noted c.items noted; here = refl; frozen = its.phase_is ∙ ap (λ (z : ℕ). Some (phase.Frozen z)) same }

    -- all blocks are in their cells

    front-there : x.worker < s.workers
    front-there = (is-map s table x.worker (sym (i.numbering.tag table) ∙ led-tag s w inv.ghost_of inv.holds x.worker x.shard _ (i.lineage.gate_of x.shard x.worker (i.working.front n x is_job)).0)).1

    pub table-is : tag_of (w.cells table) ≡ MapOf x.worker
    table-is = map-tag s w inv.ghost_of inv.holds x.worker front-there

    unfoldable pub built-up : (b : BuildingValue) → x.stage ≡ Builds b → b.unbuilt ≡ [] → IsBuiltUp b.frozen.gate (w.cells registry_cell) (w.cells stock_cell) (w.cells ledger_cell) (w.actors n)
    built-up b stage built = record {
      of = of;
      work = work;
      command = command;
      job = x;
      building = b;
      has = record { is_job = is_job; stage_is = stage };
      in_cells = built;
      here = refl;
      few = λ balance is. over-few balance is x is_job;
      stands = next-stands;
      registry_is = i.numbering.tag registry_cell;
      stock_is = i.numbering.tag stock_cell;
      ledger_is = i.numbering.tag ledger_cell;
    }

    move-asked : (b : BuildingValue) → x.stage ≡ Builds b → b.unbuilt ≡ [] → (to : ℕ) → x.to ≡ Some to → (spare : Spare) → slice_get (w.actors n).purse (length (w.actors n).purse - 1) ≡ Some spare
        → (same : Bool) → (to == x.worker) ≡ same → IsJobAsked s w n (if same then job.FinishHere table b.frozen.gate spare.cell else job.FinishMove table (map_cell s to) b.frozen.gate spare.cell)
    unfolding built-up
    move-asked b stage built to to_is spare found = by
      where
        up : IsMovedUp b.frozen.gate spare.cell (w.cells registry_cell) (w.cells stock_cell) (w.cells ledger_cell) (w.actors n)
        up = (let k = found-last (w.actors n).purse spare found in record { up = built-up b stage built; worker = to; to_is = to_is; rest = k.0; spare = spare; spares = k.1; cell = refl })

        by : (same : Bool) → (to == x.worker) ≡ same → IsJobAsked s w n (if same then job.FinishHere table b.frozen.gate spare.cell else job.FinishMove table (map_cell s to) b.frozen.gate spare.cell)
        by true e = (let here : to ≡ x.worker = eqb-true _ _ e in record { moved = up; here = here; table_is = table-is ∙ ap MapOf (sym here) })
        by false e = record { moved = up; elsewhere = eqb-false _ _ e; from_is = table-is; to_is = map-tag s w inv.ghost_of inv.holds to (i.working.to n to x is_job to_is) }

    finish-asked : (b : BuildingValue) → x.stage ≡ Builds b → b.unbuilt ≡ [] → (to : Option ℕ) → x.to ≡ to → IfSome (finish_due s (w.actors n) x b.frozen.gate to) (IsWorkAsked s w n)
    finish-asked b stage built None to_is = record { of_job = x; building = b; has = record { is_job = is_job; stage_is = stage }; splits = to_is; in_cells = built; map_is = refl; gate_is = refl }
    finish-asked b stage built (Some to) to_is = by (slice_get (w.actors n).purse (length (w.actors n).purse - 1)) refl
      where
        by : (o : Option Spare) → slice_get (w.actors n).purse (length (w.actors n).purse - 1) ≡ o → IfSome (move_with s x b.frozen.gate to o) (IsWorkAsked s w n)
        by None found = tt
        by (Some spare) found = move-asked b stage built to to_is spare found (to == x.worker) refl

    build-asked : (b : BuildingValue) → x.stage ≡ Builds b → (o : Option Fresh) → slice_get b.unbuilt (length b.unbuilt - 1) ≡ o → IfSome (build_due s (w.actors n) x b o) (IsWorkAsked s w n)
    build-asked b stage None found = finish-asked b stage (found-none b.unbuilt found) x.to refl
    build-asked b stage (Some f) found =
        let k = found-last b.unbuilt f found in
        record { job = x; building = b; has = record { is_job = is_job; stage_is = stage }; others = k.0; next = f; unbuilt = k.1; here = refl }

    -- by how far it has come; that it waits for inserts is asked apart
    stage-asked : (declined : Decline → WorkDue) → ((why : Decline) → x.stage ≡ IsDeclined why → IsWorkAsked s w n (declined why)) → is_drained w (w.actors n).job ≡ true
        → (stage : StageValue) → x.stage ≡ stage → IfSome (or_declined declined (stage_due s w (w.actors n) x stage)) (IsWorkAsked s w n)
    stage-asked declined ends waits IsCalled stage = freeze-asked stage (where_in (w.cells table) x.shard) refl
    stage-asked declined ends waits (IsDeclined why) stage = ends why stage
    stage-asked declined ends waits (IsFrozen f) stage =
        let seen : is_drained w (Some (record x { stage = IsFrozen f })) ≡ true = sym (ap (is_drained w) is_job ∙ ap (λ (st : StageValue). is_drained w (Some (record x { stage = st }))) stage) ∙ waits in
        drained-asked f stage (eqb-true _ _ seen)
    stage-asked declined ends waits (Collects c) stage = collect-asked c stage (last_noted c.items) refl (has_more c.queued (phase_of (w.cells c.frozen.gate))) refl
    stage-asked declined ends waits (Builds b) stage = build-asked b stage (slice_get b.unbuilt (length b.unbuilt - 1)) refl

  -- Splits and moves.

  pub action-asked : (a : Action) → work ≡ work_is.Action a → is_drained w (w.actors n).job ≡ true → IfSome (action_due s w (w.actors n) (w.actors n).job) (IsWorkAsked s w n)
  action-asked a is waits = by (w.actors n).job refl
    where
      command-is : (w.actors n).command ≡ doing of (work_is.Action a)
      command-is = command ∙ ap (doing of) is

      by : (o : Option JobValue) → (w.actors n).job ≡ o → IfSome (action_due s w (w.actors n) o) (IsWorkAsked s w n)
      by None is_job = ended s w inv n of (work_is.Action a) (how.Declined Unknown) command-is (subst (λ (o : Option JobValue). EndsJob o (how.Declined Unknown)) (sym is_job) refl)
      by (Some x) is_job = stage-asked x is_job (λ why. Ends (how.Declined why))
          (λ why stage. ended s w inv n of (work_is.Action a) (how.Declined why) command-is (subst (λ (o : Option JobValue). EndsJob o (how.Declined why)) (sym is_job) (subst (λ (st : StageValue). EndsStage st (how.Declined why)) (sym stage) refl)))
          waits x.stage refl

  -- Balances.

  load-asked : (b : Balance) → work ≡ work_is.Balance b → (o : Option Load) → slice_get b.loads b.read ≡ o → IfSome (load_due s w o) (IsWorkAsked s w n)
  load-asked b is None next = tt
  load-asked b is (Some load) next = by (where_in (w.cells (map_cell s load.worker)) load.shard) refl
    where
      by : (o : Option Where) → where_in (w.cells (map_cell s load.worker)) load.shard ≡ o → IfSome (load_at s.workers (map_cell s load.worker) o) (IsWorkAsked s w n)
      by (Some (where_is.Gate gate)) leads = record {
        of = of;
        balance = b;
        command = command ∙ ap (doing of) is;
        load = load;
        load_at = next;
        map_is = led-tag s w inv.ghost_of inv.holds load.worker load.shard (where_is.Gate gate) leads;
        leads = leads;
        workers_are = ap (λ (t : Setting). t.workers) (sym (i.numbering.about n));
      }
      by (Some (where_is.Split plane left right)) leads = tt
      by (Some (where_is.Moved to)) leads = tt
      by None leads = tt

  jobless-asked : (b : Balance) → work ≡ work_is.Balance b → (w.actors n).job ≡ None → (o : Option (List Action)) → b.plan ≡ o
      → IfSome (if is_none o then load_due s w (slice_get b.loads b.read) else Some (Ends (how.Balanced b.done b.over))) (IsWorkAsked s w n)
  jobless-asked b is none None planned = load-asked b is (slice_get b.loads b.read) refl
  jobless-asked b is none (Some actions) planned =
      let command_is : (w.actors n).command ≡ doing of (work_is.Balance b) = command ∙ ap (doing of) is in
      let k = i.balancing.balance n of b command_is in
      let all = through b actions planned (none-next (next_job b) (sym k.at_work ∙ ap is_some none)) in
      let most = (k.planned actions planned).within in
      let over : b.over ≡ length actions = omega (arith, all, most) in
      ended s w inv n of (work_is.Balance b) (how.Balanced b.done b.over) command_is (refl, refl, (actions, planned, over))

  pub balance-asked : (b : Balance) → work ≡ work_is.Balance b → is_drained w (w.actors n).job ≡ true → IfSome (balance_due s w (w.actors n) b (w.actors n).job) (IsWorkAsked s w n)
  balance-asked b is waits = by (w.actors n).job refl
    where
      by : (o : Option JobValue) → (w.actors n).job ≡ o → IfSome (balance_due s w (w.actors n) b o) (IsWorkAsked s w n)
      by None is_job = jobless-asked b is is_job b.plan refl
      by (Some x) is_job = stage-asked x is_job (λ why. Leaves) (λ why stage. left-asked b is x is_job (subst MayBeLeft (sym stage) tt)) waits x.stage refl
