-- What is due for a job or a balance: its step is prepared in every state that the seat may be in, and so is what is done in its place
-- where memory is wanting.
use Rattle.std.proofs.Common.{◌≡◌, ◌≢◌, ◌∙◌, ℕ, ◌+◌, ◌-◌, ◌<◌, ◌==◌, Bool, true, false, List, [], length, Option, Some, None, if◌then◌else◌, refl, sym, ap, subst, arith, eq-eqb, ne_eqb}
use Rattle.std.specs.{Option.option_map_or, Prelude.{Ok, is_none, option_and_then, option_map, slice_get}}
use Rattle.cell_stock.specs.declared.purse.Spare.{Spare}
use Rattle.seat_steps.specs.core_due.proofs.JobCells.{one-gate}
use Rattle.seat_steps.specs.core_due.specs.{Due.{desk_of, work_kind}, Look.setting_by, Spares.{last_spare, spare_before}, Splits.split_of, Wants.{gate_awaited, is_drained, last_noted}, WorkLaws.{WorkAskedLaw, WorkKindLaw, WorkPreparedLaw}}
use Rattle.seat_steps.specs.core_due.specs.{Works.{action_due, balance_due, build_due, collect_by, finish_due, freeze_at, has_more, jobless_due, load_at, load_due, move_due, move_with, or_declined, stage_due, work_due, work_due_kind}, WorksReady.{AreBytes, IsInsteadPrepared, IsJobInstead, IsJobPrepared, IsNotePrepared, IsSplitPrepared, IsWorkPrepared}, declared.works.WorkDue.WorkDue}
use Rattle.seat_steps.specs.core_due.specs.declared.works.WorkDue.TheVariants.{Ends, Jobs, Leaves, Splits}
use Rattle.seat_steps.specs.core_steps.specs.declared.jobs.JobStep.{JobStep}
use Rattle.seat_steps.specs.core_steps.specs.declared.jobs.JobStep.TheVariants as job
use Rattle.seat_steps.specs.core_steps.specs.declared.notes.NoteStep.TheVariants as note
use Rattle.job_steps.specs.{Dues.{IsAtJob, IsJobDue, IsToBuild, IsToCollect, IsToDrain, IsToFinish, IsToFreeze, IsToRead, LeadsTo}, Jobs.IsOfAdmin}
use Rattle.seat_steps.specs.link_descent.specs.declared.entered.Fresh.{Fresh}
use Rattle.list_words.proofs.Elements.{Some-same}
use Rattle.mapping_table.specs.declared.place.Where.{Where}
use Rattle.query_router.specs.Desk.{DeskValue}
use Rattle.mapping_table.specs.declared.place.Where.TheVariants as where_is
use Rattle.row_ledger.specs.declared.settings.How.{How}
use Rattle.row_ledger.specs.declared.settings.How.TheVariants as how
use Rattle.seat_steps.proofs.Around.{around, seen-there, within}
use Rattle.seat_steps.specs.{Floors.{IsAround, IsSeated}, Looks.{Sees, lead_of}, declared.floor.{Floor.Floor, Player.Player}}
use Rattle.seat_steps.specs.declared.looks.Lead.TheVariants as lead
use Rattle.shard_plan.specs.declared.action.Action.{Action}
use Rattle.turn_table.specs.Seat.{cell_count}
use Rattle.seat_steps.specs.volap_cell.specs.{AdminKinds.HasJob, Cells.{active_in, phase_of, where_in}, Commands.MayNoteEnd, ImageKinds.doing, Setting.{Setting, map_cell}, State.Has, Steps.history_in, Values.{ActorValue, BuildingValue, Builds, CollectingValue, Collects, IsCalled, IsFrozen, JobValue, StageValue, actor_of}, Working.frozen_in, World.World, declared.{command.{Balance.Balance, Command.Command, Work.Work}, job.Frozen.Frozen, kind.Kind.Kind}}
use Rattle.seat_steps.specs.volap_cell.specs.declared.command.Work.TheVariants as work_is
use Rattle.seat_steps.specs.volap_turns.specs.Rows.{IsThere}

-- An actor that has such a command open, by what it is alone.
pub record IsOpenAt (f : Floor) (a : ActorValue) : Type 0 where
  pub of : ℕ
  pub work : Work
  pub command : a.command ≡ doing of work
  pub kind : IsOfAdmin work
  pub no_part : a.errand ≡ None
  pub bytes : AreBytes f.with.servers work

pub open-at : {f : Floor} {p : Player} → IsAtJob f p → IsOpenAt f (actor_of p.actor)
open-at at = record { of = at.opened.of; work = at.opened.work; command = at.opened.command; kind = at.opened.kind; no_part = at.opened.no_part; bytes = at.bytes }

-- Where tables lead.

lead-gate : (o : Option Where) (gate : ℕ) → lead.Gate gate ≡ lead_of o → o ≡ Some (where_is.Gate gate)
lead-gate None gate e = absurd (cc)
lead-gate (Some (where_is.Gate g)) gate e = cc
lead-gate (Some (where_is.Split plane left right)) gate e = absurd (cc)
lead-gate (Some (where_is.Moved to)) gate e = absurd (cc)

freeze-leads : (map : ℕ) (o : Option Where) (due : WorkDue) → freeze_at map o ≡ Some due → (gate : ℕ) × (o ≡ Some (where_is.Gate gate))
freeze-leads map None due e = absurd (cc)
freeze-leads map (Some (where_is.Gate gate)) due e = (gate, refl)
freeze-leads map (Some (where_is.Split plane left right)) due e = absurd (cc)
freeze-leads map (Some (where_is.Moved to)) due e = absurd (cc)

load-leads : (workers map : ℕ) (o : Option Where) (due : WorkDue) → load_at workers map o ≡ Some due → (gate : ℕ) × (o ≡ Some (where_is.Gate gate))
load-leads workers map None due e = absurd (cc)
load-leads workers map (Some (where_is.Gate gate)) due e = (gate, refl)
load-leads workers map (Some (where_is.Split plane left right)) due e = absurd (cc)
load-leads workers map (Some (where_is.Moved to)) due e = absurd (cc)

some-due : (o : Option WorkDue) (k : Kind) → option_map work_due_kind o ≡ Some k → (due : WorkDue) × (o ≡ Some due)
some-due None k e = absurd (cc)
some-due (Some due) k e = (due, refl)

-- What is done instead.

module _ (Job : JobStep → Type 0) (End : How → Type 0) (Leave : Type 0) (work : Work) where
  collects-instead : (gate : ℕ) (noted : Option ℕ) (more : Bool) → IsJobInstead Job End Leave work (collect_by gate noted more) → Job job.Postpone
  collects-instead gate (Some block) more x = x
  collects-instead gate None true x = x
  collects-instead gate None false x = x

  moves-instead : (from to gate new : ℕ) (here : Bool) → IsJobInstead Job End Leave work (if here then job.FinishHere from gate new else job.FinishMove from to gate new) → Job job.Postpone
  moves-instead from to gate new true x = x
  moves-instead from to gate new false x = x

-- The end of a split with the last spares.
splits-with : (P : JobStep → Type 0) (map gate left right : ℕ) (spares : List Spare) → last_spare spares ≡ Some left → spare_before spares ≡ Some right → Has (split_of map gate spares) P → P (job.FinishSplit map gate left right)
splits-with P map gate left right spares last before has =
    let is : split_of map gate spares ≡ Some (job.FinishSplit map gate left right) =
    ap (option_and_then (λ l. option_map (λ r. job.FinishSplit map gate l r) (spare_before spares))) last ∙ ap (option_map (λ r. job.FinishSplit map gate left r)) before in
    subst (λ (o : Option JobStep). Has o P) is has

no-worker : (g : ℕ → ℕ) (o : Option ℕ) → None ≡ option_map g o → o ≡ None
no-worker g None e = refl
no-worker g (Some x) e = absurd (cc)

a-worker : (g : ℕ → ℕ) (o : Option ℕ) (y : ℕ) → Some y ≡ option_map g o → (x : ℕ) × (o ≡ Some x) × (y ≡ g x)
a-worker g None y e = absurd (cc)
a-worker g (Some x) y e = (x, refl, Some-same (g x) y (sym e))

module _ (asked : WorkAskedLaw) (prepared : WorkPreparedLaw) (f : Floor) (p : Player) (at : IsOpenAt f (actor_of p.actor)) where
  abbrev pub a : ActorValue
  a = actor_of p.actor

  module _ (s : Setting) (w : World) (is : IsAround f p s w) where
    pub map-in : (worker : ℕ) → map_cell (setting_by [] f.with) worker ≡ map_cell s worker
    map-in worker = ap (λ (n : ℕ). 3 + n + n + worker) (sym is.servers)

    command-in : (w.actors p.number).command ≡ doing at.of at.work
    command-in = ap (λ (x : ActorValue). x.command) is.actor ∙ at.command

    bytes-in : AreBytes s.servers at.work
    bytes-in = subst (λ (n : ℕ). AreBytes n at.work) (sym is.servers) at.bytes

    free-in : (w.actors p.number).errand ≡ None
    free-in = ap (λ (x : ActorValue). x.errand) is.actor ∙ at.no_part

    -- what is due is prepared, and what is done instead
    pub due-in : (due : WorkDue) → work_due s w (history_in w) false (w.actors p.number) at.of at.work ≡ Some due → is_drained w (w.actors p.number).job ≡ true → IsWorkPrepared s w p.number due × IsInsteadPrepared s w p.number at.work due
    due-in due e drained =
        prepared s w p.number at.of at.work due is.inv command-in bytes-in
        (asked s w p.number at.of at.work false due is.inv (record { command = command-in; free = free-in; waits = drained }) bytes-in e)

    -- Of a job at its stage.

    module _ (x : JobValue) (stage : StageValue) (has : HasJob a x stage) where
      job-in : (w.actors p.number).job ≡ Some x
      job-in = ap (λ (y : ActorValue). y.job) is.actor ∙ has.is_job

      work-at : (k : Work) → IsOfAdmin k → (o : Option WorkDue) → stage_due s w (w.actors p.number) x stage ≡ Ok o → work_due s w (history_in w) false (w.actors p.number) at.of k ≡ o
      work-at (work_is.Insert row routed) kind o e = absurd kind
      work-at work_is.Query kind o e = absurd kind
      work-at (work_is.Sync server pulled) kind o e = absurd kind
      work-at (work_is.Settle pulls) kind o e = absurd kind
      work-at work_is.Bare kind o e = absurd kind
      work-at (work_is.Page subject there shown) kind o e = absurd kind
      work-at (work_is.Action action) kind o e =
          ap (action_due s w (w.actors p.number)) job-in
          ∙ ap (or_declined (λ why. Ends (how.Declined why))) (ap (stage_due s w (w.actors p.number) x) has.stage_is ∙ e)
      work-at (work_is.Balance balance) kind o e =
          ap (balance_due s w (w.actors p.number) balance) job-in
          ∙ ap (or_declined (λ why. Leaves)) (ap (stage_due s w (w.actors p.number) x) has.stage_is ∙ e)

      pub stage-in : (due : WorkDue) → stage_due s w (w.actors p.number) x stage ≡ Ok (Some due) → option_map_or (λ gate. active_in (w.cells gate) == 0) (gate_awaited stage) true ≡ true
          → IsWorkPrepared s w p.number due × IsInsteadPrepared s w p.number at.work due
      stage-in due e drained =
          due-in due (work-at at.work at.kind (Some due) e)
          (ap (is_drained w) job-in ∙ ap (λ (st : StageValue). option_map_or (λ gate. active_in (w.cells gate) == 0) (gate_awaited st) true) has.stage_is ∙ drained)

      -- its gate is there
      pub gate-in : (fr : Frozen) → frozen_in stage ≡ Some fr → (gate : ℕ) → fr.gate ≡ gate → gate < cell_count f.table
      gate-in fr on gate here = within f p s w is gate (one-gate s w is.inv p.number x stage (record { is_job = job-in; stage_is = has.stage_is }) fr on gate here).each.0.within

    -- something is due for such a command
    module _ (kinds : WorkKindLaw) where
      some-kind : (desk : Option DeskValue) (k : Work) → IsOfAdmin k → (x : Kind) × (work_kind s (history_in w) false desk (w.actors p.number) at.of k ≡ Some x)
      some-kind desk (work_is.Insert row routed) kind = absurd kind
      some-kind desk work_is.Query kind = absurd kind
      some-kind desk (work_is.Sync server pulled) kind = absurd kind
      some-kind desk (work_is.Settle pulls) kind = absurd kind
      some-kind desk work_is.Bare kind = absurd kind
      some-kind desk (work_is.Page subject there shown) kind = absurd kind
      some-kind desk (work_is.Action action) kind = (_, refl)
      some-kind desk (work_is.Balance balance) kind = (_, refl)

      pub some-in : (due : WorkDue) × (work_due s w (history_in w) false (w.actors p.number) at.of at.work ≡ Some due)
      some-in =
          let k = some-kind (desk_of s w (w.actors p.number).role) at.work at.kind in
          some-due (work_due s w (history_in w) false (w.actors p.number) at.of at.work) k.0 (kinds s w p.number at.of at.work (history_in w) false is.inv command-in ∙ k.1)

  -- Freezing.

  module _ (map shard : ℕ) (called : IsToFreeze f a map shard) where
    freeze-in : (s : Setting) (w : World) (is : IsAround f p s w) → (gate : ℕ) → where_in (w.cells (map_cell s (called.job).worker)) (called.job).shard ≡ Some (where_is.Gate gate) → IsJobPrepared s w p.number (job.Freeze map gate)
    freeze-in s w is gate leads =
        let x = called.job in
        subst (λ (y : ℕ). IsJobPrepared s w p.number (job.Freeze y gate)) (sym (called.map_is ∙ map-in s w is x.worker))
        (stage-in s w is x IsCalled called.has (Jobs (job.Freeze (map_cell s x.worker) gate)) (ap (λ (o : Option Where). Ok (freeze_at (map_cell s x.worker) o)) leads) refl).0

    pub freeze-due : (gate : ℕ) → LeadsTo p map shard (lead.Gate gate) → IsJobDue f p (job.Freeze map gate)
    freeze-due gate led = record {
      prepared = λ s w is. (
          let map_is : map ≡ map_cell s (called.job).worker = called.map_is ∙ map-in s w is (called.job).worker in
          let seen = seen-there f p s w is map (λ cell. lead.Gate gate ≡ lead_of (where_in cell shard)) led.there led.leads in
          freeze-in s w is gate (subst (λ (y : ℕ × ℕ). where_in (w.cells y.0) y.1 ≡ Some (where_is.Gate gate)) (λ j. (map_is j, called.shard_is j)) (lead-gate (where_in (w.cells map) shard) gate seen))
          );
    }

    -- its table is there
    pub freeze-table : WorkKindLaw → IsSeated f p → map < cell_count f.table
    freeze-table kinds seated =
        let k = around f p seated in
        let x = called.job in
        let some = some-in k.0 k.1 k.2 kinds in
        let o = where_in (k.1.cells (map_cell k.0 x.worker)) x.shard in
        let due = work-at k.0 k.1 k.2 x IsCalled called.has at.work at.kind (freeze_at (map_cell k.0 x.worker) o) refl in
        let leads = freeze-leads (map_cell k.0 x.worker) o some.0 (sym due ∙ some.1) in
        within f p k.0 k.1 k.2 map (freeze-in k.0 k.1 k.2 leads.0 leads.1).cells.0.within

  -- Draining.

  pub drain-due : (gate : ℕ) → IsToDrain a gate → IsThere p.seat.view.held gate → Sees p gate (λ cell. (active_in cell == 0) ≡ true) → IsJobDue f p (job.Drained gate)
  drain-due gate frozen there none = record {
    prepared = λ s w is. (
        let drained = seen-there f p s w is gate (λ cell. (active_in cell == 0) ≡ true) there none in
        subst (λ (y : ℕ). IsJobPrepared s w p.number (job.Drained y)) (sym frozen.gate_is)
        (stage-in s w is frozen.job (IsFrozen frozen.frozen) frozen.has (Jobs (job.Drained frozen.frozen.gate)) refl
        (subst (λ (y : ℕ). (active_in (w.cells y) == 0) ≡ true) frozen.gate_is drained)).0
        );
  }

  -- Collecting.

  module _ (noted : Option ℕ) (gate queued : ℕ) (k : IsToCollect a noted gate queued) where
    abbrev c : CollectingValue
    c = k.collecting

    collect-in : (s : Setting) (w : World) (is : IsAround f p s w) → (step : JobStep) → collect_by c.frozen.gate (last_noted c.items) (has_more c.queued (phase_of (w.cells c.frozen.gate))) ≡ step → IsJobPrepared s w p.number step
    collect-in s w is step e = (stage-in s w is k.job (Collects c) k.has (Jobs step) (ap (λ (x : JobStep). Ok (Some (Jobs x))) e) refl).0

    pub collect-instead : IsJobDue f p job.Postpone
    collect-instead = record {
      prepared = λ s w is. (
          let more = has_more c.queued (phase_of (w.cells c.frozen.gate)) in
          let both = stage-in s w is k.job (Collects c) k.has (Jobs (collect_by c.frozen.gate (last_noted c.items) more)) refl refl in
          collects-instead (IsJobPrepared s w p.number) (λ h. IsNotePrepared s w p.number (note.Ended h)) (IsNotePrepared s w p.number note.Left) at.work c.frozen.gate (last_noted c.items) more both.1
          );
    }

    pub block-due : (block : ℕ) → noted ≡ Some block → IsJobDue f p (job.CollectBlock block)
    block-due block is_noted = record {
      prepared = λ s w is. collect-in s w is (job.CollectBlock block) (ap (λ (o : Option ℕ). collect_by c.frozen.gate o (has_more c.queued (phase_of (w.cells c.frozen.gate)))) (sym k.noted_is ∙ is_noted));
    }

    pub at-gate-due : noted ≡ None → IsThere p.seat.view.held gate → (more : Bool) → Sees p gate (λ cell. more ≡ has_more queued (phase_of cell)) → IsJobDue f p (collect_by gate None more)
    at-gate-due none there more seen = record {
      prepared = λ s w is. (
          let here = seen-there f p s w is gate (λ cell. more ≡ has_more queued (phase_of cell)) there seen in
          let same : has_more c.queued (phase_of (w.cells c.frozen.gate)) ≡ more = subst (λ (y : ℕ × ℕ). has_more y.1 (phase_of (w.cells y.0)) ≡ more) (λ j. (k.gate_is j, k.queued_is j)) (sym here) in
          subst (λ (y : ℕ). IsJobPrepared s w p.number (collect_by y None more)) (sym k.gate_is)
          (collect-in s w is (collect_by c.frozen.gate None more) (λ j. collect_by c.frozen.gate ((sym k.noted_is ∙ none) j) (same j)))
          );
    }

  -- Building.

  pub build-step-due : (cell : ℕ) → IsToBuild a cell → IsJobDue f p (job.BuildBlock cell)
  build-step-due cell k = record {
    prepared = λ s w is. (
        let e : stage_due s w (w.actors p.number) k.job (Builds k.building) ≡ Ok (Some (Jobs (job.BuildBlock k.last.cell))) =
        ap (λ (o : Option Fresh). Ok (build_due s (w.actors p.number) k.job k.building o)) k.last_is in
        subst (λ (y : ℕ). IsJobPrepared s w p.number (job.BuildBlock y)) (sym k.cell_is) (stage-in s w is k.job (Builds k.building) k.has (Jobs (job.BuildBlock k.last.cell)) e refl).0
        );
  }

  -- Ending.

  module _ (map gate : ℕ) (to : Option ℕ) (k : IsToFinish f a map gate to) where
    abbrev b : BuildingValue
    b = k.building

    -- by the worker to which it goes
    finish-in : (s : Setting) (w : World) (is : IsAround f p s w) → (o : Option ℕ) → (k.job).to ≡ o → (due : WorkDue) → finish_due s (w.actors p.number) k.job b.frozen.gate o ≡ Some due
        → IsWorkPrepared s w p.number due × IsInsteadPrepared s w p.number at.work due
    finish-in s w is o to_is due e =
        let first : stage_due s w (w.actors p.number) k.job (Builds b) ≡ Ok (finish_due s (w.actors p.number) k.job b.frozen.gate (k.job).to) =
        ap (λ (u : Option Fresh). Ok (build_due s (w.actors p.number) k.job b u)) k.in_cells in
        stage-in s w is k.job (Builds b) k.has due (first ∙ ap (λ (u : Option ℕ). Ok (finish_due s (w.actors p.number) k.job b.frozen.gate u)) to_is ∙ ap (λ (u : Option WorkDue). Ok u) e) refl

    map-here : (s : Setting) (w : World) → IsAround f p s w → map ≡ map_cell s (k.job).worker
    map-here s w is = k.map_is ∙ map-in s w is (k.job).worker

    -- A split.

    module _ (none : to ≡ None) where
      pub splits : (k.job).to ≡ None
      splits = no-worker (map_cell (setting_by [] f.with)) (k.job).to (sym none ∙ k.to_is)

      split-both : (s : Setting) (w : World) (is : IsAround f p s w) → IsSplitPrepared s w p.number (map_cell s (k.job).worker) b.frozen.gate × IsJobPrepared s w p.number job.Postpone
      split-both s w is = finish-in s w is None splits (Splits (map_cell s (k.job).worker) b.frozen.gate) refl

      pub split-instead : IsJobDue f p job.Postpone
      split-instead = record { prepared = λ s w is. (split-both s w is).1 }

      pub split-due : (left right : ℕ) → last_spare a.purse ≡ Some left → spare_before a.purse ≡ Some right → IsJobDue f p (job.FinishSplit map gate left right)
      split-due left right last before = record {
        prepared = λ s w is. (
            let purse : (w.actors p.number).purse ≡ a.purse = ap (λ (x : ActorValue). x.purse) is.actor in
            let has = subst (λ (xs : List Spare). Has (split_of (map_cell s (k.job).worker) b.frozen.gate xs) (IsJobPrepared s w p.number)) purse (split-both s w is).0 in
            subst (λ (y : ℕ × ℕ). IsJobPrepared s w p.number (job.FinishSplit y.0 y.1 left right)) (λ j. (sym (map-here s w is) j, sym k.gate_is j))
            (splits-with (IsJobPrepared s w p.number) (map_cell s (k.job).worker) b.frozen.gate left right a.purse last before has)
            );
      }

    -- A move.

    module _ (table : ℕ) (some : to ≡ Some table) (spare : Spare) (last : slice_get a.purse (length a.purse - 1) ≡ Some spare) where
      abbrev goes : (x : ℕ) × ((k.job).to ≡ Some x) × (table ≡ map_cell (setting_by [] f.with) x)
      goes = a-worker (map_cell (setting_by [] f.with)) (k.job).to table (sym some ∙ k.to_is)

      move-both : (s : Setting) (w : World) (is : IsAround f p s w) → IsJobPrepared s w p.number (move_due s k.job b.frozen.gate spare.cell goes.0)
          × IsJobInstead (IsJobPrepared s w p.number) (λ h. IsNotePrepared s w p.number (note.Ended h)) (IsNotePrepared s w p.number note.Left) at.work (move_due s k.job b.frozen.gate spare.cell goes.0)
      move-both s w is =
          let purse : (w.actors p.number).purse ≡ a.purse = ap (λ (x : ActorValue). x.purse) is.actor in
          let found : slice_get (w.actors p.number).purse (length (w.actors p.number).purse - 1) ≡ Some spare = ap (λ (xs : List Spare). slice_get xs (length xs - 1)) purse ∙ last in
          finish-in s w is (Some goes.0) goes.1 (Jobs (move_due s k.job b.frozen.gate spare.cell goes.0)) (ap (move_with s k.job b.frozen.gate goes.0) found)

      pub move-instead : IsJobDue f p job.Postpone
      move-instead = record {
        prepared = λ s w is.
            moves-instead (IsJobPrepared s w p.number) (λ h. IsNotePrepared s w p.number (note.Ended h)) (IsNotePrepared s w p.number note.Left) at.work (map_cell s (k.job).worker) (map_cell s goes.0) b.frozen.gate spare.cell (goes.0 == (k.job).worker) (move-both s w is).1;
      }

      -- to the same worker
      pub stay-due : table ≡ map → IsJobDue f p (job.FinishHere map gate spare.cell)
      stay-due here = record {
        prepared = λ s w is. (
            let same : goes.0 ≡ (k.job).worker = (let x = sym goes.2 ∙ here ∙ k.map_is in omega (arith, x)) in
            let step : move_due s k.job b.frozen.gate spare.cell goes.0 ≡ job.FinishHere (map_cell s (k.job).worker) b.frozen.gate spare.cell =
            ap (λ (q : Bool). if q then job.FinishHere (map_cell s (k.job).worker) b.frozen.gate spare.cell else job.FinishMove (map_cell s (k.job).worker) (map_cell s goes.0) b.frozen.gate spare.cell) (eq-eqb goes.0 (k.job).worker same) in
            subst (λ (y : ℕ × ℕ). IsJobPrepared s w p.number (job.FinishHere y.0 y.1 spare.cell)) (λ j. (sym (map-here s w is) j, sym k.gate_is j))
            (subst (IsJobPrepared s w p.number) step (move-both s w is).0)
            );
      }

      -- and to another one
      pub move-step-due : table ≢ map → IsJobDue f p (job.FinishMove map table gate spare.cell)
      move-step-due away = record {
        prepared = λ s w is. (
            let other : goes.0 ≢ (k.job).worker = λ e. away (goes.2 ∙ ap (map_cell (setting_by [] f.with)) e ∙ sym k.map_is) in
            let step : move_due s k.job b.frozen.gate spare.cell goes.0 ≡ job.FinishMove (map_cell s (k.job).worker) (map_cell s goes.0) b.frozen.gate spare.cell =
            ap (λ (q : Bool). if q then job.FinishHere (map_cell s (k.job).worker) b.frozen.gate spare.cell else job.FinishMove (map_cell s (k.job).worker) (map_cell s goes.0) b.frozen.gate spare.cell) (ne_eqb goes.0 (k.job).worker other) in
            let table_is : table ≡ map_cell s goes.0 = goes.2 ∙ map-in s w is goes.0 in
            subst (λ (y : ℕ × ℕ × ℕ). IsJobPrepared s w p.number (job.FinishMove y.0 y.1 y.2 spare.cell)) (λ j. (sym (map-here s w is) j, sym table_is j, sym k.gate_is j))
            (subst (IsJobPrepared s w p.number) step (move-both s w is).0)
            );
      }

  -- Balances.

  -- such a command is what is open
  work-is : (of : ℕ) (work : Work) → a.command ≡ doing of work → (at.of ≡ of) × (at.work ≡ work)
  work-is of work command =
      let same : ◌≡◌ {A = Command} (record { of = at.of; work = at.work }) (record { of = of; work = work }) = Some-same _ _ (sym command ∙ at.command) in
      (ap (λ (c : Command). c.of) same, ap (λ (c : Command). c.work) same)

  -- without a job nothing is waited for
  jobless-in : (s : Setting) (w : World) (is : IsAround f p s w) → a.job ≡ None → (balance : Balance) → at.work ≡ work_is.Balance balance → (due : WorkDue) → jobless_due s w balance ≡ Some due
      → IsWorkPrepared s w p.number due × IsInsteadPrepared s w p.number at.work due
  jobless-in s w is none balance work due e =
      let no_job : (w.actors p.number).job ≡ None = ap (λ (x : ActorValue). x.job) is.actor ∙ none in
      due-in s w is due
      (ap (λ (x : Work). work_due s w (history_in w) false (w.actors p.number) at.of x) work ∙ ap (balance_due s w (w.actors p.number) balance) no_job ∙ e)
      (ap (is_drained w) no_job)

  module _ (map shard : ℕ) (reads : IsToRead f a map shard) where
    load-in : (s : Setting) (w : World) (is : IsAround f p s w) → (gate : ℕ) → where_in (w.cells (map_cell s (reads.load).worker)) (reads.load).shard ≡ Some (where_is.Gate gate) → IsJobPrepared s w p.number (job.ReadLoad map gate f.with.workers)
    load-in s w is gate leads =
        let table = map_cell s (reads.load).worker in
        let balance = reads.balance in
        let due : jobless_due s w balance ≡ Some (Jobs (job.ReadLoad table gate s.workers)) =
        ap (λ (o : Option (List Action)). if is_none o then load_due s w (slice_get balance.loads balance.read) else Some (Ends (how.Balanced balance.done balance.over))) reads.unplanned
        ∙ ap (load_due s w) reads.load_at
        ∙ ap (load_at s.workers table) leads in
        let map_is : map ≡ table = reads.map_is ∙ map-in s w is (reads.load).worker in
        subst (λ (y : ℕ × ℕ). IsJobPrepared s w p.number (job.ReadLoad y.0 gate y.1)) (λ j. (sym map_is j, is.workers j))
        (jobless-in s w is reads.no_job balance (work-is reads.of (work_is.Balance balance) reads.command).1 (Jobs (job.ReadLoad table gate s.workers)) due).0

    pub read-due : (gate : ℕ) → LeadsTo p map shard (lead.Gate gate) → IsJobDue f p (job.ReadLoad map gate f.with.workers)
    read-due gate led = record {
      prepared = λ s w is. (
          let map_is : map ≡ map_cell s (reads.load).worker = reads.map_is ∙ map-in s w is (reads.load).worker in
          let seen = seen-there f p s w is map (λ cell. lead.Gate gate ≡ lead_of (where_in cell shard)) led.there led.leads in
          load-in s w is gate (subst (λ (y : ℕ × ℕ). where_in (w.cells y.0) y.1 ≡ Some (where_is.Gate gate)) (λ j. (map_is j, reads.shard_is j)) (lead-gate (where_in (w.cells map) shard) gate seen))
          );
    }

    -- its table is there
    pub read-table : WorkKindLaw → IsSeated f p → map < cell_count f.table
    read-table kinds seated =
        let k = around f p seated in
        let some = some-in k.0 k.1 k.2 kinds in
        let balance = reads.balance in
        let table = map_cell k.0 (reads.load).worker in
        let o = where_in (k.1.cells table) (reads.load).shard in
        let no_job : (k.1.actors p.number).job ≡ None = ap (λ (x : ActorValue). x.job) k.2.actor ∙ reads.no_job in
        let due : work_due k.0 k.1 (history_in k.1) false (k.1.actors p.number) at.of at.work ≡ load_at (k.0).workers table o =
        ap (λ (x : Work). work_due k.0 k.1 (history_in k.1) false (k.1.actors p.number) at.of x) (work-is reads.of (work_is.Balance balance) reads.command).1
        ∙ ap (balance_due k.0 k.1 (k.1.actors p.number) balance) no_job
        ∙ ap (λ (o : Option (List Action)). if is_none o then load_due k.0 k.1 (slice_get balance.loads balance.read) else Some (Ends (how.Balanced balance.done balance.over))) reads.unplanned
        ∙ ap (load_due k.0 k.1) reads.load_at in
        let leads = load-leads (k.0).workers table o some.0 (sym due ∙ some.1) in
        within f p k.0 k.1 k.2 map (load-in k.0 k.1 k.2 leads.0 leads.1).cells.0.within

  -- the end of a balance may be noted
  pub balance-ends : (of : ℕ) (balance : Balance) → a.command ≡ doing of (work_is.Balance balance) → a.job ≡ None → is_none balance.plan ≡ false → IsSeated f p
      → (work : Work) × (of : ℕ) × (a.command ≡ doing of work) × MayNoteEnd f.with.servers work a.job (how.Balanced balance.done balance.over)
  balance-ends of balance command none planned seated =
      let k = around f p seated in
      let end = how.Balanced balance.done balance.over in
      let no_job : (k.1.actors p.number).job ≡ None = ap (λ (x : ActorValue). x.job) k.2.actor ∙ none in
      let due : work_due k.0 k.1 (history_in k.1) false (k.1.actors p.number) at.of at.work ≡ Some (Ends end) =
      ap (λ (x : Work). work_due k.0 k.1 (history_in k.1) false (k.1.actors p.number) at.of x) (work-is of (work_is.Balance balance) command).1
      ∙ ap (balance_due k.0 k.1 (k.1.actors p.number) balance) no_job
      ∙ ap (λ (q : Bool). if q then load_due k.0 k.1 (slice_get balance.loads balance.read) else Some (Ends end)) planned in
      let note = asked k.0 k.1 p.number at.of at.work false (Ends end) k.2.inv (record { command = command-in k.0 k.1 k.2; free = free-in k.0 k.1 k.2; waits = ap (is_drained k.1) no_job }) (bytes-in k.0 k.1 k.2) due in (
        note.work,
        note.of,
        ap (λ (x : ActorValue). x.command) (sym k.2.actor) ∙ note.command,
        subst (λ (n : ℕ). MayNoteEnd n note.work a.job end) seated.servers (subst (λ (x : ActorValue). MayNoteEnd x.setting.servers note.work x.job end) k.2.actor note.ends),
      )
