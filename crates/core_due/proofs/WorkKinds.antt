-- The step that is due for an open command is of the kind that is due: where a table or a purse could leave it without a step, the
-- invariant says that it doesn't.
use Rattle.std.proofs.{Common.{ℕ, zero, suc, ◌≡◌, ◌+◌, ◌-◌, ◌∙◌, ◌==◌, ◌&&◌, Bool, true, false, is_none, is_some, List, [], ◌∷◌, ◌++◌, length, Option, Some, None, option_map, refl, sym, ap, subst, arith, slice_get, get_or, eq-eqb, if◌then◌else◌}, lemmas.Bool.{or_left, or_right}, lemmas.Option.slice_get-get_or}
use Rattle.std.specs.List.{list_any}
use Rattle.cell_stock.specs.declared.purse.Spare.{Spare}
use Rattle.core_due.specs.{Due.{balance_kind, desk_of, is_empty, is_empty_desk, job_kind, kind_at_empty, kind_by_verdict, parts_kind, there_kind, work_kind}, Works.{action_due, balance_due, build_due, collect_by, finish_due, freeze_at, freeze_due, insert_due, load_at, load_due, move_due, move_with, page_due, pull_due, query_due, route_due, or_declined, stage_due, verdict_due, work_due, work_due_kind}, declared.works.WorkDue.WorkDue}
use Rattle.core_due.specs.declared.works.WorkDue.TheVariants.{Books, Ends, Leaves, Shows, Takes}
use Rattle.core_due.proofs.{LastItems.{found-last, found-none}, SparesLeft.one-left}
use Rattle.core_steps.specs.{Books.book_kind, declared.books.BookStep.BookStep}
use Rattle.core_steps.specs.declared.books.BookStep.TheVariants as book
use Rattle.core_steps.specs.declared.jobs.JobStep.TheVariants as job
use Rattle.core_steps.specs.Jobs.{job_kind as kind_of_job}
use Rattle.link_descent.specs.declared.entered.Fresh.{Fresh}
use Rattle.query_router.specs.{Desk.{is_waiting, verdict_of}, declared.part.Part.Part, declared.part.Verdict.Verdict}
use Rattle.query_router.specs.declared.part.Verdict.TheVariants as verdict
use Rattle.row_ledger.specs.declared.settings.Decline.{Decline}
use Rattle.row_ledger.specs.{Shards.{Place, frontier, is_of}, Workers.is_on, declared.class.Subject.Subject, declared.event.Event.Event}
use Rattle.row_ledger.specs.declared.settings.How.TheVariants as how
use Rattle.shard_plan.specs.{declared.action.Action.Action, declared.action.Load.Load}
use Rattle.core_steps.specs.tree_shape.specs.Laws.{CollectEndLaw}
use Rattle.core_steps.specs.volap_cell.specs.{Cells.{desk_in}, ImageKinds.doing, Invariant.InvWith, JobSteps.{finish_kind, stage_kind}, Setting.{Setting, desk_cell, image_cell, map_cell}, Steps.{Inv, history_in}, Values.{ActorValue, BuildingValue, Builds, Collects, IsCalled, IsDeclined, IsFrozen, JobValue, StageValue}, View.view, Working.places_in, World.World, declared.command.Balance.Balance, declared.command.Work.Work, declared.role.Role.Role, declared.role.Role.TheVariants.{Admin, Hand, Puller, Session}}
use Rattle.core_steps.specs.volap_cell.specs.declared.command.Work.TheVariants as work_is
use Rattle.core_steps.specs.volap_cell.specs.declared.kind.Kind.TheVariants as kind

-- where a test decides
if-kind : (b : Bool) (x : WorkDue) → option_map work_due_kind (if b then Some x else None) ≡ (if b then Some (work_due_kind x) else None)
if-kind true x = refl
if-kind false x = refl

-- Inserts, queries, pulls and pages.

verdict-kind : (desk image : ℕ) (failed : BookStep) (ps : List Part) (v : Option Verdict) → book_kind failed ≡ kind.Note → option_map work_due_kind (verdict_due desk image failed ps v) ≡ kind_by_verdict ps v
verdict-kind desk image failed ps None note = if-kind (list_any is_waiting ps) (Takes desk)
verdict-kind desk image failed ps (Some verdict.NoMemory) note = ap Some note
verdict-kind desk image failed ps (Some verdict.Placed) note = refl
verdict-kind desk image failed ps (Some (verdict.Sum answer)) note = refl

route-kind : (s : Setting) (w : World) (r : Role) → option_map work_due_kind (route_due s w r) ≡ kind_at_empty (desk_of s w r) kind.Route
route-kind s w (Session x) = if-kind (is_empty_desk (Some (desk_in (w.cells (desk_cell s x))))) (Books (book.Route (desk_cell s x) (image_cell x)))
route-kind s w (Hand worker) = refl
route-kind s w Puller = refl
route-kind s w Admin = refl

insert-kind : (s : Setting) (w : World) (r : Role) → option_map work_due_kind (insert_due s w r) ≡ parts_kind (desk_of s w r)
insert-kind s w (Session x) = (let ps = (desk_in (w.cells (desk_cell s x))).parts in verdict-kind (desk_cell s x) (image_cell x) (book.FailRouted (desk_cell s x) (image_cell x)) ps (verdict_of ps) refl)
insert-kind s w (Hand worker) = refl
insert-kind s w Puller = refl
insert-kind s w Admin = refl

query-kind : (s : Setting) (w : World) (r : Role) → option_map work_due_kind (query_due s w r) ≡ parts_kind (desk_of s w r)
query-kind s w (Session x) = (let ps = (desk_in (w.cells (desk_cell s x))).parts in verdict-kind (desk_cell s x) (image_cell x) (book.FailQuery (desk_cell s x)) ps (verdict_of ps) refl)
query-kind s w (Hand worker) = refl
query-kind s w Puller = refl
query-kind s w Admin = refl

sync-kind : (server : ℕ) (pulled : Bool) → work_due_kind (pull_due (if pulled then None else Some server)) ≡ (if pulled then kind.Note else kind.Sync)
sync-kind server true = refl
sync-kind server false = refl

pull-kind : (o : Option ℕ) → work_due_kind (pull_due o) ≡ (if is_some o then kind.Sync else kind.Note)
pull-kind None = refl
pull-kind (Some x) = refl

show-kind : (history : List Event) (alone : Bool) (of : ℕ) (subject : Subject) (stands shown : Bool) → option_map work_due_kind (page_due history alone of subject stands shown) ≡ there_kind history alone of stands shown
show-kind history alone of subject false shown = refl
show-kind history alone of subject true true = refl
show-kind history alone of subject true false = if-kind (alone && (length history == of + 1)) (Shows subject)

-- Jobs.

collect-kind : (gate : ℕ) (noted : Option ℕ) (more : Bool) → kind_of_job (collect_by gate noted more) ≡ kind.Collect
collect-kind gate (Some block) more = refl
collect-kind gate None true = refl
collect-kind gate None false = refl

not-empty : {A : Type 0} (front : List A) (x : A) → is_empty (front ++ x ∷ []) ≡ false
not-empty [] x = refl
not-empty (y ∷ front) x = refl

-- Loads.

-- the shard of a load is on the load's worker
listed-on : (loads : List Load) (k : ℕ) (load : Load) → slice_get loads k ≡ Some load → list_any (λ (p : Place). is_of load.shard p && (p.worker == load.worker)) (places_in loads) ≡ true
listed-on [] k load is = (let never : ◌≡◌ {A = Option Load} None (Some load) = is in absurd (cc))
listed-on (l ∷ loads) zero load is =
    let both : ◌≡◌ {A = Option Load} (Some l) (Some load) = is in
    let same : l ≡ load = cc in
    let first : (l.shard == load.shard) ≡ true = eq-eqb l.shard load.shard (ap (λ (x : Load). x.shard) same) in
    let second : (l.worker == load.worker) ≡ true = eq-eqb l.worker load.worker (ap (λ (x : Load). x.worker) same) in
    or_left ((l.shard == load.shard) && (l.worker == load.worker)) _ (λ k. first k && second k)
listed-on (l ∷ loads) (suc k) load is = or_right ((l.shard == load.shard) && (l.worker == load.worker)) _ (listed-on loads k load is)

module _ (s : Setting) (w : World) (inv : Inv s w) (n of : ℕ) (ends : CollectEndLaw) where
  abbrev i : InvWith s (view s w) inv.ghost_of
  i = inv.holds

  abbrev a : ActorValue
  a = w.actors n

  module _ (x : JobValue) (is_job : (w.actors n).job ≡ Some x) where
    freeze-kind : option_map work_due_kind (freeze_due s w x) ≡ Some kind.Freeze
    freeze-kind = ap (λ o. option_map work_due_kind (freeze_at (map_cell s x.worker) o)) (i.lineage.gate_of x.shard x.worker (i.working.front n x is_job)).0

    move-kind : (gate new to : ℕ) → kind_of_job (move_due s x gate new to) ≡ kind.FinishMove
    move-kind gate new to = by (to == x.worker)
      where
        by : (b : Bool) → kind_of_job (if b then job.FinishHere (map_cell s x.worker) gate new else job.FinishMove (map_cell s x.worker) (map_cell s to) gate new) ≡ kind.FinishMove
        by true = refl
        by false = refl

    -- where all blocks are in their cells

    module _ (b : BuildingValue) (stage : x.stage ≡ Builds b) where
      finish-is : b.unbuilt ≡ [] → (to : Option ℕ) → x.to ≡ to → option_map work_due_kind (finish_due s (w.actors n) x b.frozen.gate to) ≡ Some (finish_kind to)
      finish-is built None to_is = refl
      finish-is built (Some to) to_is = by (slice_get (w.actors n).purse (length (w.actors n).purse - 1)) refl
        where
          by : (o : Option Spare) → slice_get (w.actors n).purse (length (w.actors n).purse - 1) ≡ o → option_map work_due_kind (move_with s x b.frozen.gate to o) ≡ Some kind.FinishMove
          by None found =
              let one = one-left s w inv n ends x is_job b stage to to_is in
              let none : length (w.actors n).purse ≡ 0 = ap (λ (xs : List Spare). length xs) (found-none (w.actors n).purse found) in
              absurd (omega (arith, one, none))
          by (Some spare) found = ap Some (move-kind b.frozen.gate spare.cell to)

      build-is : (o : Option Fresh) → slice_get b.unbuilt (length b.unbuilt - 1) ≡ o → option_map work_due_kind (build_due s (w.actors n) x b o) ≡ Some (if is_empty b.unbuilt then finish_kind x.to else kind.BuildBlock)
      build-is None found =
          let built = found-none b.unbuilt found in
          finish-is built x.to refl ∙ ap (λ (xs : List Fresh). Some (if is_empty xs then finish_kind x.to else kind.BuildBlock)) (sym built)
      build-is (Some f) found =
          let k = found-last b.unbuilt f found in
          let some : is_empty b.unbuilt ≡ false = ap (λ (xs : List Fresh). is_empty xs) k.1 ∙ not-empty k.0 f in
          ap (λ (z : Bool). Some (if z then finish_kind x.to else kind.BuildBlock)) (sym some)

    stage-is : (declined : Decline → WorkDue) → ((why : Decline) → work_due_kind (declined why) ≡ kind.Note) → (stage : StageValue) → x.stage ≡ stage → option_map work_due_kind (or_declined declined (stage_due s w (w.actors n) x stage)) ≡ Some (stage_kind x.to stage)
    stage-is declined note IsCalled stage = freeze-kind
    stage-is declined note (IsDeclined why) stage = ap Some (note why)
    stage-is declined note (IsFrozen f) stage = refl
    stage-is declined note (Collects c) stage = ap Some (collect-kind c.frozen.gate _ _)
    stage-is declined note (Builds b) stage = build-is b stage (slice_get b.unbuilt (length b.unbuilt - 1)) refl

  action-is : (o : Option JobValue) → (w.actors n).job ≡ o → option_map work_due_kind (action_due s w (w.actors n) o) ≡ Some (job_kind o kind.Note)
  action-is None none = refl
  action-is (Some x) is_job = stage-is x is_job (λ why. Ends (how.Declined why)) (λ why. refl) x.stage refl

  -- A balance that isn't planned yet has a load to read, whose shard stands on its worker.

  module _ (b : Balance) (command : (w.actors n).command ≡ doing of (work_is.Balance b)) where
    load-is : b.plan ≡ None → option_map work_due_kind (load_due s w (slice_get b.loads b.read)) ≡ Some kind.LookUp
    load-is unplanned =
        let k = i.balancing.balance n of b command in
        let first : Load = record { shard = 0; worker = 0; rows = 0 } in
        let load = get_or b.loads b.read first in
        let next : slice_get b.loads b.read ≡ Some load = slice_get-get_or b.loads b.read first (k.still unplanned).5 in
        let front : places_in b.loads ≡ frontier s.workers (history_in w) = k.places ∙ sym ((k.still unplanned).0) in
        let on : is_on s.workers (history_in w) load.shard load.worker ≡ true =
        subst (λ (places : List Place). list_any (λ (p : Place). is_of load.shard p && (p.worker == load.worker)) places ≡ true) front (listed-on b.loads b.read load next) in
        ap (λ (o : Option Load). option_map work_due_kind (load_due s w o)) next ∙ ap (λ o. option_map work_due_kind (load_at s.workers (map_cell s load.worker) o)) (i.lineage.gate_of load.shard load.worker on).0

    jobless-is : (o : Option (List Action)) → b.plan ≡ o
        → option_map work_due_kind (if is_none o then load_due s w (slice_get b.loads b.read) else Some (Ends (how.Balanced b.done b.over))) ≡ Some (if is_none o then kind.LookUp else kind.Note)
    jobless-is None planned = load-is planned
    jobless-is (Some actions) planned = refl

    balance-is : (o : Option JobValue) → (w.actors n).job ≡ o → option_map work_due_kind (balance_due s w (w.actors n) b o) ≡ Some (job_kind o (balance_kind b))
    balance-is None none = jobless-is b.plan refl
    balance-is (Some x) is_job = stage-is x is_job (λ why. Leaves) (λ why. refl) x.stage refl

  -- All of it.
  pub work-kind : (history : List Event) (alone : Bool) (work : Work) → (w.actors n).command ≡ doing of work → option_map work_due_kind (work_due s w history alone (w.actors n) of work) ≡ work_kind s history alone (desk_of s w (w.actors n).role) (w.actors n) of work
  work-kind history alone (work_is.Insert row false) command = route-kind s w (w.actors n).role
  work-kind history alone (work_is.Insert row true) command = insert-kind s w (w.actors n).role
  work-kind history alone work_is.Query command = query-kind s w (w.actors n).role
  work-kind history alone (work_is.Sync server pulled) command = ap Some (sync-kind server pulled)
  work-kind history alone (work_is.Settle pulls) command = ap Some (pull-kind _)
  work-kind history alone work_is.Bare command = refl
  work-kind history alone (work_is.Page subject stands shown) command = show-kind history alone of subject stands shown
  work-kind history alone (work_is.Action act) command = action-is (w.actors n).job refl
  work-kind history alone (work_is.Balance b) command = balance-is b command (w.actors n).job refl
