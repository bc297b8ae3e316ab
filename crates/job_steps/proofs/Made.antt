-- What a step of a job makes of its actor, and what the steps that end an action come to.
use Rattle.std.proofs.Common.{◌≡◌, ◌∙◌, ℕ, ◌<◌, ◌≤◌, false, List, [], ◌∷◌, length, Option, Some, None, inl, inr, refl, sym, ap, subst, arith, length-append}
use Rattle.std.specs.Prelude.{⊤}
use Rattle.cell_stock.specs.declared.purse.Spare.{Spare}
use Rattle.seat_steps.specs.core_due.specs.Ready.{IsLendable}
use Rattle.seat_steps.specs.core_steps.specs.{Jobs.{job_asks, job_kind, job_places}, Places.{numbers, values}, declared.jobs.JobStep.JobStep}
use Rattle.seat_steps.specs.core_steps.specs.declared.jobs.JobStep.TheVariants as job
use Rattle.dim_hierarchy.specs.Dimension.{Dimension}
use Rattle.job_steps.specs.{Dues.{IsAtJob, IsJobDue, IsQuiet, over_by}, Jobs.{CameTo, GoesOnWithJob, HasEndedAction, HasJobOpen, HasPassed, IsFurtherJob, always}}
use Rattle.list_words.proofs.Elements.{Some-same}
use Rattle.list_words.specs.Counts.{Each}
use Rattle.row_ledger.specs.declared.{event.Event.Event}
use Rattle.row_ledger.specs.declared.event.Event.TheVariants as event
use Rattle.row_ledger.specs.declared.settings.How.TheVariants as how
use Rattle.seat_steps.proofs.{Around.{around, asked-held, within}, HeldLedger.{changed, does-held, newest}, Since.{extends-on, pushed-since}}
use Rattle.seat_steps.specs.{Booked.{HasBooked, IsUnchanged}, Floors.{AreTold, IsSeated, Stands, kept_on}, Made.{HasMade, IsKeptBy}, declared.floor.{Floor.Floor, Player.Player}}
use Rattle.turn_table.specs.{Numbered.{Extends, after_first}, Seat.cell_count}
use Rattle.seat_steps.specs.volap_cell.specs.{AdminKinds.{DoesPostpone, Finishes, GivesUp}, Commands.after_action, Errands.way_of, ImageKinds.{Pushes, doing}, Kinds.Does, Planning.next_job, Setting.{ledger_cell, stock_cell}, ShardKinds.{ReadsLoad}, Values.{ActorValue, ErrandValue, JobValue, actor_of}, World.{Change}, declared.{actor.Actor.Actor, command.{Command.Command, Work.Work}}}
use Rattle.seat_steps.specs.volap_cell.specs.declared.kind.Kind.TheVariants as kind
use Rattle.seat_steps.specs.volap_cell.specs.declared.command.Work.TheVariants as work_is
use Rattle.seat_steps.specs.volap_turns.specs.Rows.{AreAt, IsThere, cells_for}

-- How many cells a step has.
pub job-few : (step : JobStep) → (0 < length (numbers (job_places step))) × (length (numbers (job_places step)) ≤ 7)
job-few (job.ReadLoad map gate workers) = (omega arith, omega arith)
job-few (job.Freeze map gate) = (omega arith, omega arith)
job-few (job.Drained gate) = (omega arith, omega arith)
job-few (job.CollectBlock block) = (omega arith, omega arith)
job-few (job.CollectRow gate) = (omega arith, omega arith)
job-few (job.BuildTrees gate) = (omega arith, omega arith)
job-few (job.BuildBlock cell) = (omega arith, omega arith)
job-few (job.FinishSplit map gate left right) = (omega arith, omega arith)
job-few (job.FinishMove from to gate new) = (omega arith, omega arith)
job-few (job.FinishHere map gate new) = (omega arith, omega arith)
job-few job.Postpone = (omega arith, omega arith)

-- What it asks is so of the cells that are held at its places.
pub job-asked : (f : Floor) (p : Player) → IsSeated f p → (step : JobStep) → IsJobDue f p step → AreAt (job_places step) p.seat.view.held → job_asks step f.hierarchy (values (cells_for p.seat.view.held (job_places step))) (actor_of p.actor)
job-asked f p seated step due at =
    let it = around f p seated in
    let ready = due.prepared it.0 it.1 it.2 in
    subst (λ (h : List Dimension). job_asks step h (values (cells_for p.seat.view.held (job_places step))) (actor_of p.actor)) (it.2).about
    (asked-held f p it.0 it.1 it.2 (job_places step) (job_asks step (it.0).hierarchy) at ready.asked)

-- Steps by which no action is over: the command, the job and the purse alone change, and the command stays what it is.

same-work : (work : Work) → IsFurtherJob work work
same-work (work_is.Insert row routed) = refl
same-work work_is.Query = refl
same-work (work_is.Sync server pulled) = refl
same-work (work_is.Settle pulls) = refl
same-work work_is.Bare = refl
same-work (work_is.Page subject there shown) = refl
same-work (work_is.Action action) = refl
same-work (work_is.Balance balance) = (balance, refl)

abbrev pub CommandGoesOn : Option Command → Option Command → Type 0
CommandGoesOn c c_now = (of : ℕ) (work : Work) → c ≡ doing of work → (work_now : Work) × IsFurtherJob work work_now × (c_now ≡ doing of work_now)

abbrev pub IsBesideJob : ActorValue → ActorValue → Type 0
IsBesideJob a b = (b ≡ record a { command = b.command; job = b.job; purse = b.purse }) × CommandGoesOn a.command b.command

beside-job : (a b : ActorValue) (purse : List Spare) (j : Option JobValue) → b ≡ record a { purse = purse; job = j } → IsBesideJob a b
beside-job a b purse j e = (
  subst (λ (x : ActorValue). x ≡ record a { command = x.command; job = x.job; purse = x.purse }) (sym e) refl,
  λ of work c. (work, same-work work, ap (λ (x : ActorValue). x.command) e ∙ c),
)

module _ (h : List Dimension) (a b : ActorValue) (none : a.errand ≡ None) where
  freeze-beside : (cs : List Change) → Does h kind.Freeze cs a b → IsBesideJob a b
  freeze-beside (m ∷ g ∷ c ∷ []) d = elim d.does [
    | inl one ↦ beside-job a b a.purse _ one.1.2
    | inr t ↦ elim t.2 [
      | inl less ↦ beside-job a b a.purse _ less.1.2
      | inr more ↦ beside-job a b b.purse _ more.1.actor_is
    ]
  ]
  freeze-beside cs d = absurd d

  drained-beside : (cs : List Change) → Does h kind.Drained cs a b → IsBesideJob a b
  drained-beside (g ∷ []) d = beside-job a b a.purse _ d.actor_is
  drained-beside cs d = absurd d

  collect-beside : (cs : List Change) → Does h kind.Collect cs a b → IsBesideJob a b
  collect-beside (c ∷ []) d = elim d [
    | inl block ↦ beside-job a b a.purse _ block.actor_is
    | inr t ↦ elim t [
      | inl row ↦ beside-job a b a.purse _ row.actor_is
      | inr trees ↦ beside-job a b b.purse _ trees.actor_is
    ]
  ]
  collect-beside cs d = absurd d

  build-beside : (cs : List Change) → Does h kind.BuildBlock cs a b → IsBesideJob a b
  build-beside (c ∷ []) d = beside-job a b a.purse _ d.actor_is
  build-beside cs d = absurd d

  -- a balance has read a load
  load-beside : (m g : Change) → ReadsLoad m g a b → IsBesideJob a b
  load-beside m g d = (
    subst (λ (x : ActorValue). x ≡ record a { command = x.command; job = x.job; purse = x.purse }) (sym d.actor_is) refl,
    λ of work c. (
        let same : ◌≡◌ {A = Command} (record { of = d.of; work = work_is.Balance d.balance }) (record { of = of; work = work }) = Some-same _ _ (sym c ∙ d.command) in
        subst (λ (x : Command). (work_now : Work) × IsFurtherJob x.work work_now × (b.command ≡ doing x.of work_now)) same (work_is.Balance d.balance_now, (d.balance_now, refl), ap (λ (x : ActorValue). x.command) d.actor_is)
        ),
  )

  look-beside : (cs : List Change) → Does h kind.LookUp cs a b → IsBesideJob a b
  look-beside (m ∷ g ∷ []) d = elim d [
    | inl row ↦ (let never : ◌≡◌ {A = Option ErrandValue} None (Some row.e) = sym none ∙ row.has.errand in absurd (cc))
    | inr load ↦ load-beside m g load
  ]
  look-beside cs d = absurd d

  quiet-beside : (step : JobStep) → IsQuiet step → (cs : List Change) → Does h (job_kind step) cs a b → IsBesideJob a b
  quiet-beside (job.ReadLoad map gate workers) quiet cs d = look-beside cs d
  quiet-beside (job.Freeze map gate) quiet cs d = freeze-beside cs d
  quiet-beside (job.Drained gate) quiet cs d = drained-beside cs d
  quiet-beside (job.CollectBlock block) quiet cs d = collect-beside cs d
  quiet-beside (job.CollectRow gate) quiet cs d = collect-beside cs d
  quiet-beside (job.BuildTrees gate) quiet cs d = collect-beside cs d
  quiet-beside (job.BuildBlock cell) quiet cs d = build-beside cs d
  quiet-beside (job.FinishSplit map gate left right) quiet cs d = absurd quiet
  quiet-beside (job.FinishMove from to gate new) quiet cs d = absurd quiet
  quiet-beside (job.FinishHere map gate new) quiet cs d = absurd quiet
  quiet-beside job.Postpone quiet cs d = absurd quiet

  -- No step of a job puts its actor at a part.

  finishes-errand : (gate of : ℕ) (work : Work) (j : JobValue) (e : Event) (l : Change) → Finishes gate of work j e l a b → b.errand ≡ None
  finishes-errand gate of (work_is.Insert row routed) j e l d = ap (λ (x : ActorValue). x.errand) d.1 ∙ none
  finishes-errand gate of work_is.Query j e l d = ap (λ (x : ActorValue). x.errand) d.1 ∙ none
  finishes-errand gate of (work_is.Sync server pulled) j e l d = ap (λ (x : ActorValue). x.errand) d.1 ∙ none
  finishes-errand gate of (work_is.Settle pulls) j e l d = ap (λ (x : ActorValue). x.errand) d.1 ∙ none
  finishes-errand gate of work_is.Bare j e l d = ap (λ (x : ActorValue). x.errand) d.1 ∙ none
  finishes-errand gate of (work_is.Page subject there shown) j e l d = ap (λ (x : ActorValue). x.errand) d.1 ∙ none
  finishes-errand gate of (work_is.Action action) j e l d = ap (λ (x : ActorValue). x.errand) d.1 ∙ none
  finishes-errand gate of (work_is.Balance balance) j e l d = ap (λ (x : ActorValue). x.errand) d.1 ∙ none

  gives-errand : (of : ℕ) (work : Work) (j : JobValue) (l : Change) → GivesUp of work j l a b → b.errand ≡ None
  gives-errand of (work_is.Insert row routed) j l d = ap (λ (x : ActorValue). x.errand) d.1 ∙ none
  gives-errand of work_is.Query j l d = ap (λ (x : ActorValue). x.errand) d.1 ∙ none
  gives-errand of (work_is.Sync server pulled) j l d = ap (λ (x : ActorValue). x.errand) d.1 ∙ none
  gives-errand of (work_is.Settle pulls) j l d = ap (λ (x : ActorValue). x.errand) d.1 ∙ none
  gives-errand of work_is.Bare j l d = ap (λ (x : ActorValue). x.errand) d.1 ∙ none
  gives-errand of (work_is.Page subject there shown) j l d = ap (λ (x : ActorValue). x.errand) d.1 ∙ none
  gives-errand of (work_is.Action action) j l d = ap (λ (x : ActorValue). x.errand) d.1 ∙ none
  gives-errand of (work_is.Balance balance) j l d = ap (λ (x : ActorValue). x.errand) d.1 ∙ none

  split-errand : (cs : List Change) → Does h kind.FinishSplit cs a b → b.errand ≡ None
  split-errand (m ∷ x ∷ l ∷ r ∷ reg ∷ c ∷ led ∷ []) d = finishes-errand x.number d.of d.work d.job _ led d.finishes
  split-errand cs d = absurd d

  move-errand : (cs : List Change) → Does h kind.FinishMove cs a b → b.errand ≡ None
  move-errand (m ∷ x ∷ g ∷ reg ∷ c ∷ led ∷ []) d = finishes-errand x.number d.of d.work d.job _ led d.finishes
  move-errand (m ∷ n ∷ x ∷ g ∷ reg ∷ c ∷ led ∷ []) d = finishes-errand x.number d.of d.work d.job _ led d.finishes
  move-errand cs d = absurd d

  postpone-errand : (cs : List Change) → Does h kind.Postpone cs a b → b.errand ≡ None
  postpone-errand (c ∷ led ∷ []) d = gives-errand d.of d.work d.job led d.gives_up
  postpone-errand cs d = absurd d

  beside-errand : IsBesideJob a b → b.errand ≡ None
  beside-errand beside = ap (λ (x : ActorValue). x.errand) beside.0 ∙ none

  job-errand : (step : JobStep) (cs : List Change) → Does h (job_kind step) cs a b → b.errand ≡ None
  job-errand (job.ReadLoad map gate workers) cs d = beside-errand (look-beside cs d)
  job-errand (job.Freeze map gate) cs d = beside-errand (freeze-beside cs d)
  job-errand (job.Drained gate) cs d = beside-errand (drained-beside cs d)
  job-errand (job.CollectBlock block) cs d = beside-errand (collect-beside cs d)
  job-errand (job.CollectRow gate) cs d = beside-errand (collect-beside cs d)
  job-errand (job.BuildTrees gate) cs d = beside-errand (collect-beside cs d)
  job-errand (job.BuildBlock cell) cs d = beside-errand (build-beside cs d)
  job-errand (job.FinishSplit map gate left right) cs d = split-errand cs d
  job-errand (job.FinishMove from to gate new) cs d = move-errand cs d
  job-errand (job.FinishHere map gate new) cs d = move-errand cs d
  job-errand job.Postpone cs d = postpone-errand cs d

-- so it keeps no cell
pub job-kept : (h : List Dimension) (p : Player) (step : JobStep) → (actor_of p.actor).errand ≡ None → IsKeptBy h (job_kind step) (λ s w n. ⊤) (λ a was now. ⊤) (job_places step) p
job-kept h p step none b now went told =
    subst (λ (e : Option ErrandValue). AreTold (after_first p.seat.ranks) (kept_on (way_of e))) (sym (job-errand h (actor_of p.actor) b none step _ went.makes.does)) tt

-- The actor has gone on.

module _ (f : Floor) {was now : Player} where
  pub goes-on : (step : JobStep) → IsQuiet step → (actor_of was.actor).errand ≡ None → Stands f now → Extends now.seat.view.seen was.seat.view.seen
      → HasMade f.hierarchy (job_kind step) (λ s w n. ⊤) (λ a was now. ⊤) (job_places step) was now → GoesOnWithJob f was now
  goes-on step quiet none stands seen made =
      let a = actor_of was.actor in
      let b = actor_of now.actor in
      let beside = quiet-beside f.hierarchy a b none step quiet _ made.went.makes.does in
      record {
        stands = stands;
        number = made.number;
        command = λ of work c. (
            let next = beside.1 of work c in
            (next.0, next.1, beside.0 ∙ ap (λ (x : Option Command). record a { command = x; job = b.job; purse = b.purse }) next.2)
            );
        seen = seen;
      }

-- the same since an earlier time at which the actor was the same
pub goes-since : (f : Floor) {p was now : Player} → IsUnchanged p was → GoesOnWithJob f was now → GoesOnWithJob f p now
goes-since f {p} {was} {now} same went = record {
  stands = went.stands;
  number = went.number ∙ same.number;
  command = λ of work c. (
      let next = went.command of work (ap (λ (x : ActorValue). x.command) same.actor ∙ c) in
      (next.0, next.1, next.2 ∙ ap (λ (x : ActorValue). record x { command = doing of next.0; job = (actor_of now.actor).job; purse = (actor_of now.actor).purse }) same.actor)
      );
  seen = extends-on now.seat.view.seen was.seat.view.seen p.seat.view.seen went.seen same.seen;
}

-- What is open stays so.
pub opened-since : {p q : Player} → IsUnchanged p q → HasJobOpen p → HasJobOpen q
opened-since {p} {q} same has = record {
  of = has.of;
  work = has.work;
  command = ap (λ (x : ActorValue). x.command) same.actor ∙ has.command;
  kind = has.kind;
  no_part = ap (λ (x : ActorValue). x.errand) same.actor ∙ has.no_part;
  noted = (
      let long = ap (λ (l : List Event). length l) same.seen.1 ∙ length-append same.seen.0 p.seat.view.seen in
      let noted = has.noted in
      let seen = ap (λ (x : ActorValue). x.seen) same.actor in
      omega (arith, long, noted, seen)
      );
}

pub at-since : {f : Floor} {p q : Player} → IsUnchanged p q → IsAtJob f p → IsAtJob f q
unfolding opened-since
at-since same at = record { opened = opened-since same at.opened; bytes = at.bytes }

-- Events.

-- the actor's record behind a step that pushes
abbrev pub IsActorNow : ActorValue → ActorValue → ℕ → Option Command → Option JobValue → Type 0
IsActorNow a b seen command j = b ≡ record a { purse = []; seen = seen; command = command; job = j; gone_gates = b.gone_gates }

pub actor-now : (a b : ActorValue) (seen : ℕ) (command : Option Command) (j : Option JobValue) (gone : List ℕ) → b.seen ≡ seen → b ≡ record a { purse = []; seen = b.seen; command = command; job = j; gone_gates = gone } → IsActorNow a b seen command j
actor-now a b seen command j gone all e =
    e ∙ (λ i. record a { purse = []; seen = all i; command = command; job = j; gone_gates = (sym (ap (λ (x : ActorValue). x.gone_gates) e)) i })

-- A job that is given up.

module _ {f : Floor} (p : Player) {was now : Player} (same : IsUnchanged p was) (has : HasJobOpen p) (booked : HasBooked f kind.Postpone (λ s w n. ⊤) (λ a was now. ⊤) (job_places job.Postpone) was now) where
  abbrev mid : Player
  mid = booked.mid

  abbrev a : ActorValue
  a = actor_of mid.actor

  abbrev b : ActorValue
  b = actor_of now.actor

  ledger-there : IsThere mid.seat.view.held ledger_cell
  ledger-there = booked.at.there.1.0

  actor-same : a ≡ actor_of p.actor
  actor-same = ap (λ (x : Actor). actor_of x) booked.took.same.actor ∙ same.actor

  given : DoesPostpone (changed mid.seat.view.held booked.made.new stock_cell) (changed mid.seat.view.held booked.made.new ledger_cell) a b
  given = does-held booked.made booked.at

  pub gave-up : CameTo f (over_by b.command how.Postponed) p now
  gave-up = by given.work given.command given.gives_up
    where
      ends : (work : Work) → a.command ≡ doing given.of work → Pushes (event.Ended given.of how.Postponed) 0 2 (changed mid.seat.view.held booked.made.new ledger_cell) b.seen → b ≡ record a { purse = []; seen = b.seen; command = None; job = None } → CameTo f (over_by b.command how.Postponed) p now
      ends work command pushes e =
          let is = newest booked.made booked.whole ledger-there pushes in
          let last : HasEndedAction f how.Postponed p now = record {
            of = given.of;
            work = work;
            command = ap (λ (x : ActorValue). x.command) (sym actor-same) ∙ command;
            job = given.job;
            job_is = ap (λ (x : ActorValue). x.job) (sym actor-same) ∙ given.is_job;
            pushed = pushed-since p same booked (always (event.Ended given.of how.Postponed)) is.0 has.noted;
            ended = tt;
            actor = subst (λ (x : ActorValue). IsActorNow x b (length now.seat.view.seen) None None) actor-same (actor-now a b (length now.seat.view.seen) None None a.gone_gates is.1 e);
          } in
          subst (λ (o : Option Command). CameTo f (over_by o how.Postponed) p now) (sym (ap (λ (x : ActorValue). x.command) e)) last

      by : (work : Work) → a.command ≡ doing given.of work → GivesUp given.of work given.job (changed mid.seat.view.held booked.made.new ledger_cell) a b → CameTo f (over_by b.command how.Postponed) p now
      by (work_is.Insert row routed) command d = ends (work_is.Insert row routed) command d.0 d.1
      by work_is.Query command d = ends work_is.Query command d.0 d.1
      by (work_is.Sync server pulled) command d = ends (work_is.Sync server pulled) command d.0 d.1
      by (work_is.Settle pulls) command d = ends (work_is.Settle pulls) command d.0 d.1
      by work_is.Bare command d = ends work_is.Bare command d.0 d.1
      by (work_is.Page subject there shown) command d = ends (work_is.Page subject there shown) command d.0 d.1
      by (work_is.Action action) command d = ends (work_is.Action action) command d.0 d.1
      by (work_is.Balance balance) command d =
          let is = newest booked.made booked.whole ledger-there d.0 in
          let next = after_action false given.job balance in
          let passed : HasPassed f p now = record {
            of = given.of;
            balance = balance;
            command = ap (λ (x : ActorValue). x.command) (sym actor-same) ∙ command;
            job = given.job;
            job_is = ap (λ (x : ActorValue). x.job) (sym actor-same) ∙ given.is_job;
            done = false;
            newest = event.Left given.of given.job.shard how.Postponed;
            outcome = refl;
            pushed = pushed-since p same booked (always (event.Left given.of given.job.shard how.Postponed)) is.0 has.noted;
            actor = subst (λ (x : ActorValue). IsActorNow x b (length now.seat.view.seen) (doing given.of (work_is.Balance next)) (next_job next)) actor-same
                (actor-now a b (length now.seat.view.seen) (doing given.of (work_is.Balance next)) (next_job next) a.gone_gates is.1 d.1);
          } in
          subst (λ (o : Option Command). CameTo f (over_by o how.Postponed) p now) (sym (ap (λ (x : ActorValue). x.command) d.1)) passed

-- The first cell of a step that is due is one of the table.
pub first-within : (f : Floor) (p : Player) → IsSeated f p → (step : JobStep) → IsJobDue f p step → (y : ℕ) (ys : List ℕ) → numbers (job_places step) ≡ y ∷ ys → y < cell_count f.table
first-within f p seated step due y ys is =
    let it = around f p seated in
    let ready = due.prepared it.0 it.1 it.2 in
    within f p it.0 it.1 it.2 y (subst (Each (IsLendable it.0 it.1 p.number ⊤)) is ready.cells).0.within
