-- A job that has built all blocks, in a state: its frozen gate, its command, and what its end asks of the other cells is so.
use Rattle.std.proofs.{Common.{◌≡◌, ◌≢◌, ℕ, ◌+◌, ◌<◌, ◌≤◌, ◌^◌, List, [], ◌∷◌, ◌++◌, true, cond, take, reverse, length, Option, Some, refl, sym, ap, ◌∙◌, subst, arith}, lemmas.List.{length-drop, length-reverse, length-take}, lemmas.List.Elements.All-drop, lemmas.List.Sums.count_by-le-length}
use Rattle.std.specs.{Option.option_map_or, Ordering.nat_cmp, Prelude.{IsSome, IsTrue}}
use Rattle.std.specs.FinMap as map
use Rattle.cell_stock.specs.{Stock.{AreOut, StockValue, cells_of}, declared.purse.Spare.Spare}
use Rattle.dim_hierarchy.specs.{Dimension.Dimension, Rows.IsRowOf}
use Rattle.mapping_table.specs.declared.place.Where.{Where}
use Rattle.mapping_table.specs.declared.place.Where.TheVariants as where_is
use Rattle.row_ledger.specs.{LedgerValue.LedgerValue, Listings.places_of, Past.{Step, work}, Shards.frontier, Work.{Settles, is_done}}
use Rattle.list_words.proofs.{Each.each-right, Elements.length-AllZip, Times.{times-append, all-times, distinct-times}}
use Rattle.server_image.specs.Registry.{RegistryValue, on_frontier}
use Rattle.core_tree.specs.shard_store.specs.{Gate.IsQueueOf, declared.gate.Gate.Gate, declared.queue.Queue.Queue}
use Rattle.core_tree.specs.shard_store.specs.declared.gate.Phase.TheVariants as phase
use Rattle.list_words.specs.Counts.{Each, times}
use Rattle.core_tree.specs.volap_cell.specs.{AdminKinds.IsUpTo, Cells.{CellValue, GateCell, LedgerCell, MapCell, MapOf, RegistryCell, StockCell, active_in, gate_shard, phase_of, queue_in, tag_of}, Ghost.{Ghost, NotOfStock, is_in_purse}, ImageKinds.doing, Invariant.InvWith, Planning.next_job, Setting.{Setting, site_in}, Steps.IsHere, Values.{ActorValue, JobValue}, View.{View, view}, Working.{IsBuilding, IsFrozenFor, IsJobOf, begun_job, frozen_in}, World.{Change, held}, declared.command.Balance.Balance, declared.command.Command.Command, declared.command.Work.Work}
use Rattle.core_tree.specs.volap_cell.specs.declared.command.Work.TheVariants as work_is
use Rattle.core_tree.specs.volap_cell.proofs.Views.Shown.{held-map, held-registry, held-stock}
use Rattle.core_image.proofs.{Commands.Backed.all-promised, Commands.NextAction.next-action, Images.Hosts.stands-live}
use Rattle.core_admin.specs.FinishDue.{IsBuiltUp, IsLate, MayCloseDone, gone_by, plans}
use Rattle.core_admin.proofs.{Collecting.FrozenGates.{IsGateOf, frozen-gate, queue-few, shard-gate}, Postponing.PostponeReady.owes-enough, Postponing.Returned.{cells-append, one-use}}

-- the first spares of a purse may go back, as all may
pub rest-out : (s : Setting) (v : View) (g : Ghost) → InvWith s v g → (n : ℕ) (rest last : List Spare) → v.purses n ≡ rest ++ last → AreOut v.stock rest
rest-out s v g i n rest last is =
    let fewer : (y : ℕ) → times y (cells_of rest) ≤ times y (cells_of (v.purses n)) = λ y. (let all = ap (λ (xs : List Spare). times y (cells_of xs)) is in
    let both = cells-append y rest last in omega (arith, all, both)) in
    record {
      known = all-times (λ y. y < v.stock.cells) (cells_of rest) (λ y some.
          let few = fewer y in
          let purse = i.stocking.purse n y in
          let of_stock : g.owner y ≢ NotOfStock = (λ e.
          let none : times y (cells_of (v.purses n)) ≡ 0 = purse ∙ ap (λ o. cond (is_in_purse n o) 1 0) e in absurd (omega (arith, few, none, some))) in
          let lt = (i.stocking.within y of_stock).1 in
          let b = i.stocking.count in omega (arith, lt, b));
      once = distinct-times (v.stock.free ++ cells_of rest) (λ y.
          let few = fewer y in
          let whole = uses y in
          let l = times-append y v.stock.free (cells_of rest) in omega (arith, few, whole, l));
    }
  where
    uses : (y : ℕ) → times y v.stock.free + times y (cells_of (v.purses n)) ≤ 1
    uses y = (let free = i.stocking.unused y in let purse = i.stocking.purse n y in let l = one-use n (g.owner y) in omega (arith, free, purse, l))

-- where a balance has a job, fewer actions are done than are planned
done-few : (s : Setting) (v : View) (g : Ghost) → InvWith s v g → (n of : ℕ) (b : Balance) (job : JobValue) → v.commands n ≡ doing of (work_is.Balance b) → next_job b ≡ Some (begun_job job) → b.done ≤ b.over
done-few s v g i n of b job has is =
    let bal = i.balancing.balance n of b has in
    let at = next-action b (begun_job job) is in
    let planned = bal.planned at.0 at.2 in
    let long = length-AllZip (λ a (step : Step). Settles (site_in s) g.placed of a step.past step.event) (take b.over at.0) (reverse (work v.history of)) planned.events in
    let taken = length-take b.over at.0 in
    let back = length-reverse (work v.history of) in
    let most = count_by-le-length (λ (step : Step). is_done step.event) (work v.history of) in
    let done = planned.done in
    omega (arith, long, taken, back, most, done)

module _ (hs : List Dimension) (maps others : List Change) (gate_at registry_at stock_at ledger_at : ℕ) (gate registry stock ledger : CellValue) (a : ActorValue)
    (here : IsHere hs (maps ++ (held gate_at gate ∷ (others ++ (held registry_at registry ∷ held stock_at stock ∷ held ledger_at ledger ∷ [])))) a) (up : IsBuiltUp gate_at registry stock ledger a) where
  abbrev pub s : Setting
  s = a.setting

  abbrev pub v : View
  v = view s here.world

  abbrev pub n : ℕ
  n = here.number

  abbrev pub g : Ghost
  g = here.inv.ghost_of

  abbrev job : JobValue
  job = up.job

  abbrev old : ℕ
  old = up.building.frozen.gate

  pub i : InvWith s v g
  i = here.inv.holds

  abbrev behind : List Change
  behind = held registry_at registry ∷ held stock_at stock ∷ held ledger_at ledger ∷ []

  -- behind the tables
  rest : Each (λ (k : Change). here.world.cells k.number ≡ k.before) (held gate_at gate ∷ (others ++ behind))
  rest = each-right (λ (k : Change). here.world.cells k.number ≡ k.before) maps (held gate_at gate ∷ (others ++ behind)) here.agrees.cells

  last : Each (λ (k : Change). here.world.cells k.number ≡ k.before) behind
  last = each-right (λ (k : Change). here.world.cells k.number ≡ k.before) others behind rest.1

  pub command-here : v.commands n ≡ doing up.of up.work
  command-here = ap (λ (x : ActorValue). x.command) here.agrees.actor_is ∙ up.command

  pub job-here : v.jobs n ≡ Some job
  job-here = ap (λ (x : ActorValue). x.job) here.agrees.actor_is ∙ up.has.is_job

  pub purse-here : v.purses n ≡ a.purse
  purse-here = ap (λ (x : ActorValue). x.purse) here.agrees.actor_is

  pub its-job : IsJobOf up.work job
  its-job =
      let k = i.working.command n job job-here in
      let works : k.0.work ≡ up.work = ap (λ (o : Option Command). option_map_or (λ (x : Command). x.work) o work_is.Query) (sym k.1 ∙ command-here) in
      subst (λ (x : Work). IsJobOf x job) works k.2

  pub job-same : (j : JobValue) → a.job ≡ Some j → job ≡ j
  job-same j has = (let both : ◌≡◌ {A = Option JobValue} (Some job) (Some j) = sym up.has.is_job ∙ has in cc)

  was : IsBuilding s v.history v.blocks v.made v.trees v.queues v.phases v.active g.shape (v.purses n) up.building
  was = i.working.building n job up.building job-here up.has.stage_is

  pub frozen-here : IsFrozenFor s v.trees v.phases g.gate (v.purses n) job up.building.frozen
  frozen-here = i.working.frozen n job up.building.frozen job-here (ap frozen_in up.has.stage_is)

  its : IsGateOf s v g job.shard job.worker old
  its = frozen-gate s v g i n job job-here up.building.frozen (ap frozen_in up.has.stage_is)

  -- The gate.

  pub gate-there : (x : Gate) × (gate ≡ GateCell x)
  gate-there = shard-gate gate job.shard (ap gate_shard (sym rest.0) ∙ ap v.gates (sym up.here) ∙ its.gate_is)

  module _ (x : Gate) (is : gate ≡ GateCell x) where
    pub there : here.world.cells old ≡ GateCell x
    there = ap here.world.cells up.here ∙ rest.0 ∙ is

    frozen-is : IsUpTo x was.upto
    frozen-is = (let both : Some (phase.Frozen was.upto) ≡ Some x.phase = sym was.phase_is ∙ ap phase_of there in cc)

    queue-is : v.queues old ≡ x.queue
    queue-is = ap queue_in there

    valid : IsQueueOf s.hierarchy x.queue
    valid = subst (IsQueueOf s.hierarchy) queue-is (i.queueing.queue old its.whole.0)

    within : was.upto ≤ length x.queue.rows
    within = subst (λ (q : Queue). was.upto ≤ length q.rows) queue-is (i.queueing.upto old was.upto was.phase_is)

    few : length x.queue.rows < 2 ^ 31
    few =
        let most = queue-few s v g i n job job-here in
        let all = i.owing.few in
        let same_gate : length x.queue.rows ≡ length (v.queues (g.gate job.shard)).rows = ap (λ (q : Queue). length q.rows) (sym queue-is) ∙ ap (λ (y : ℕ). length (v.queues y).rows) (sym its.leads) in
        omega (arith, most, all, same_gate)

    pub is-late : IsLate hs x
    is-late = subst (λ (h : List Dimension). IsLate h x) here.about (record {
      upto = was.upto;
      frozen = frozen-is;
      within = within;
      late = record {
        valid = All-drop (IsRowOf s.hierarchy) was.upto x.queue.rows valid.summary.valid;
        few = (let long = length-drop was.upto x.queue.rows in let most = few in omega (arith, long, most));
      };
    })

    pub is-drained : x.active ≡ 0
    is-drained = ap active_in (sym there) ∙ was.drained

  -- The rest.

  pub its-front : (r : RegistryValue) → registry ≡ RegistryCell r → places_of r.frontier ≡ frontier s.workers v.history
  its-front r r_is = subst (λ (z : RegistryValue). places_of z.frontier ≡ frontier s.workers v.history) (held-registry s here.world i.numbering.tag registry_at r (last.0 ∙ r_is)) i.lineage.front

  pub is-listed : (r : RegistryValue) → registry ≡ RegistryCell r → IsTrue (on_frontier job.shard r)
  is-listed r r_is = stands-live s.workers v.history r (its-front r r_is) job.shard ∙ its.live

  pub stock-here : (sv : StockValue) → stock ≡ StockCell sv → v.stock ≡ sv
  stock-here sv sv_is = held-stock s here.world i.numbering.tag stock_at sv (last.1.0 ∙ sv_is)

  pub enough-promised : (lv : LedgerValue) → ledger ≡ LedgerCell lv → gone_by (plans up.work) ≤ lv.promised
  enough-promised lv lv_is =
      let all = all-promised s here.world g i n (record { of = up.of; work = up.work }) command-here ledger_at lv (last.1.1.0 ∙ lv_is) in
      let some = owes-enough s v g i n up.of up.work job command-here its-job in
      omega (arith, all, some)

  pub may-close : (work : Work) → up.work ≡ work → MayCloseDone (plans work) a.command true
  may-close (work_is.Balance b) same =
      let over = up.few b same in
      let done = done-few s v g i n up.of b job (command-here ∙ ap (doing up.of) same) (subst (λ (k : Work). IsJobOf k job) same its-job) in
      record { count = record { of = up.of; balance = b; command_is = up.command ∙ ap (doing up.of) same; few = omega (arith, over, done) }; few = over; stands = up.stands b same; some = refl }
  may-close (work_is.Action act) same = tt
  may-close (work_is.Insert row routed) same = tt
  may-close work_is.Query same = tt
  may-close (work_is.Sync server pulled) same = tt
  may-close work_is.Bare same = tt
  may-close (work_is.Settle pulls) same = tt
  may-close (work_is.Page subject there shown) same = tt

  -- the table of the worker that has the shard knows it
  pub known : (from_at : ℕ) (from : CellValue) → here.world.cells from_at ≡ from → tag_of from ≡ MapOf job.worker → (worker : ℕ) (table : map.FinMap nat_cmp Where) → from ≡ MapCell worker table → IsSome (map.get table job.shard)
  known from_at from at tag worker table is =
      let both : MapOf worker ≡ MapOf job.worker = ap tag_of (sym is) ∙ tag in
      let same : worker ≡ job.worker = cc in
      let held_table = held-map s here.world i.numbering.tag from_at worker table (at ∙ is) in
      let leads = (i.lineage.gate_of job.shard job.worker (i.working.front n job job-here)).0 in
      let found : map.get table job.shard ≡ Some (where_is.Gate (g.gate job.shard)) = ap (λ (f : ℕ → Option Where). f job.shard) (sym held_table.1) ∙ ap (λ (y : ℕ). v.maps y job.shard) same ∙ leads in
      subst IsSome (sym found) refl
