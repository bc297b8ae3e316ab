-- What the call asks of the stock, the ledger and the command that gives a job up is so in each state, and what it did is what the kind does.
use Rattle.std.proofs.Common.{◌≡◌, ◌≢◌, ℕ, ◌+◌, ◌<◌, ◌≤◌, List, [], ◌∷◌, ◌++◌, Bool, true, false, cond, length, Option, Some, refl, sym, ap, ◌∙◌, subst, arith, append-nil}
use Rattle.std.specs.Option.{option_map_or}
use Rattle.cell_stock.specs.{Stock.{StockValue, PurseValue, cells_of}, declared.purse.Spare.Spare}
use Rattle.dim_hierarchy.specs.Dimension.{Dimension}
use Rattle.row_ledger.specs.LedgerValue.{LedgerValue}
use Rattle.list_words.specs.Counts.{times}
use Rattle.list_words.proofs.Times.{times-append, all-times, distinct-times}
use Rattle.core_tree.specs.volap_cell.specs.{AdminKinds.{DoesPostpone, GivesUp, HasFrozen, spent_in}, Cells.{CellValue, LedgerCell, StockCell}, Commands.owes, Ghost.{Ghost, NotOfStock, is_in_job, is_in_purse}, ImageKinds.doing, Invariant.InvWith, Setting.Setting, Steps.{IsHere, Makes}, Stocking.spent_of, Values.{ActorValue, JobValue, stage_of}, View.{View, view}, Working.{IsJobOf, begun_job}, World.{Change, change, held}, declared.command.Command.Command, declared.command.Work.Work, declared.job.Building.Building, declared.job.Stage.Stage}
use Rattle.core_tree.specs.volap_cell.specs.declared.command.Work.TheVariants as work_is
use Rattle.core_tree.specs.volap_cell.specs.declared.job.Stage.TheVariants as stage_is
use Rattle.core_tree.specs.volap_cell.specs.declared.kind.Kind.TheVariants as kind
use Rattle.core_tree.specs.volap_cell.proofs.Views.Shown.{held-stock}
use Rattle.core_image.proofs.{Commands.Backed.all-promised, Commands.NextAction.{inside, next-action}}
use Rattle.core_tree.proofs.Stocks.Exchanges.{are-out}
use Rattle.core_admin.specs.FinishDue.{CanPostpone, Closes, GivesAll, GivesSpent, MayClose, MayGiveAll, NotesGivenUp, gone_by, plans}
use Rattle.core_admin.proofs.{Postponing.PostponesJob.postpone-keeps, Postponing.Returned.{cells-append, one-use}}

-- a job that builds nothing has spent nothing
nothing-spent : (stock : StockValue) → GivesSpent stock stock []
nothing-spent stock = record {
  spent = record { spares = []; room = 0 };
  spent_now = record { spares = []; room = 0 };
  is = refl;
  gives = record { emptied = refl; cells = sym (append-nil stock.free); stamps = refl; ids = refl; all = refl };
}

pub none-spent : (stock : StockValue) (stage : Stage) → ((b : Building) → stage ≡ stage_is.Building b → ⊥) → GivesSpent stock stock (spent_in (stage_of stage))
none-spent stock stage_is.Called never = nothing-spent stock
none-spent stock (stage_is.Declined why) never = nothing-spent stock
none-spent stock (stage_is.Frozen f room) never = nothing-spent stock
none-spent stock (stage_is.Collecting c) never = nothing-spent stock
none-spent stock (stage_is.Building b) never = absurd (never b refl)

-- what is in a purse and what a job has spent may go back
pub all-out : (s : Setting) (v : View) (g : Ghost) → InvWith s v g → (n : ℕ) → MayGiveAll v.stock (v.purses n) (spent_of (v.jobs n))
all-out s v g i n =
    let uses : (y : ℕ) → times y v.stock.free + times y (cells_of (v.purses n ++ spent_of (v.jobs n))) ≤ 1 = λ y. (
    let free = i.stocking.unused y in
    let mine = i.stocking.purse n y in
    let spent = i.stocking.job n y in
    let both = cells-append y (v.purses n) (spent_of (v.jobs n)) in
    let l = one-use n (g.owner y) in omega (arith, free, mine, spent, both, l)) in
    record {
      mine = are-out s v g i n;
      all = record {
        known = all-times (λ y. y < v.stock.cells) (cells_of (v.purses n ++ spent_of (v.jobs n))) (λ y some.
            let mine = i.stocking.purse n y in
            let spent = i.stocking.job n y in
            let both = cells-append y (v.purses n) (spent_of (v.jobs n)) in
            let of_stock : g.owner y ≢ NotOfStock = (λ e.
            let no_purse : times y (cells_of (v.purses n)) ≡ 0 = mine ∙ ap (λ o. cond (is_in_purse n o) 1 0) e in
            let no_job : times y (cells_of (spent_of (v.jobs n))) ≡ 0 = spent ∙ ap (λ o. cond (is_in_job n o) 1 0) e in absurd (omega (arith, both, no_purse, no_job, some))) in
            let lt = (i.stocking.within y of_stock).1 in
            let b = i.stocking.count in omega (arith, lt, b));
        once = distinct-times (v.stock.free ++ cells_of (v.purses n ++ spent_of (v.jobs n))) (λ y. let k = uses y in let l = times-append y v.stock.free (cells_of (v.purses n ++ spent_of (v.jobs n))) in omega (arith, k, l));
      };
    }

-- a command with a job has as many pushes as go by its end or its next action
pub owes-enough : (s : Setting) (v : View) (g : Ghost) → InvWith s v g → (n of : ℕ) (work : Work) (job : JobValue) → v.commands n ≡ doing of work → IsJobOf work job → gone_by (plans work) ≤ owes work
owes-enough s v g i n of (work_is.Action act) job has is = omega arith
owes-enough s v g i n of (work_is.Balance b) job has is =
    let bal = i.balancing.balance n of b has in
    let at = next-action b (begun_job job) is in
    let planned = bal.planned at.0 at.2 in
    let few = planned.few in
    let more = inside b.over at.0 at.1 at.3 in
    omega (arith, few, more)
owes-enough s v g i n of (work_is.Insert row routed) job has is = absurd is
owes-enough s v g i n of work_is.Query job has is = absurd is
owes-enough s v g i n of (work_is.Sync server pulled) job has is = absurd is
owes-enough s v g i n of work_is.Bare job has is = absurd is
owes-enough s v g i n of (work_is.Settle pulls) job has is = absurd is
owes-enough s v g i n of (work_is.Page subject there shown) job has is = absurd is

module _ (hs : List Dimension) (stock_at ledger_at : ℕ) (stock ledger : CellValue) (a : ActorValue) (here : IsHere hs (held stock_at stock ∷ held ledger_at ledger ∷ []) a) (due : CanPostpone stock ledger a) where
  abbrev s : Setting
  s = a.setting

  abbrev v : View
  v = view s here.world

  abbrev n : ℕ
  n = here.number

  i : InvWith s v here.inv.ghost_of
  i = here.inv.holds

  command-here : v.commands n ≡ doing due.of due.work
  command-here = ap (λ (x : ActorValue). x.command) here.agrees.actor_is ∙ due.command

  job-here : v.jobs n ≡ Some due.job
  job-here = ap (λ (x : ActorValue). x.job) here.agrees.actor_is ∙ due.is_job

  its-job : IsJobOf due.work due.job
  its-job =
      let k = i.working.command n due.job job-here in
      let works : k.0.work ≡ due.work = ap (λ (o : Option Command). option_map_or (λ (x : Command). x.work) o work_is.Query) (sym k.1 ∙ command-here) in
      subst (λ (x : Work). IsJobOf x due.job) works k.2

  module _ (command : Command) (has : a.command ≡ Some command) where
    of-is : command.of ≡ due.of
    of-is = ap (λ (o : Option Command). option_map_or (λ (k : Command). k.of) o 0) (sym has ∙ due.command)

    work-is : command.work ≡ due.work
    work-is = ap (λ (o : Option Command). option_map_or (λ (k : Command). k.work) o work_is.Query) (sym has ∙ due.command)

    pub gone-promised : (lv : LedgerValue) → ledger ≡ LedgerCell lv → (planned : Bool) → planned ≡ plans command.work → gone_by planned ≤ lv.promised
    gone-promised lv is planned planned_is =
        let all = all-promised s here.world here.inv.ghost_of i n (record { of = due.of; work = due.work }) command-here ledger_at lv (here.agrees.cells.1.0 ∙ is) in
        let some = owes-enough s v here.inv.ghost_of i n due.of due.work due.job command-here its-job in
        let same : gone_by planned ≡ gone_by (plans due.work) = ap gone_by (planned_is ∙ ap plans work-is) in
        omega (arith, all, some, same)

    pub may-give : (sv : StockValue) → stock ≡ StockCell sv → (job : JobValue) → a.job ≡ Some job → MayGiveAll sv a.purse (spent_in job.stage)
    may-give sv is job has_job =
        let all = all-out s v here.inv.ghost_of i n in
        let stock_is : v.stock ≡ sv = held-stock s here.world i.numbering.tag stock_at sv (here.agrees.cells.0 ∙ is) in
        let purse : v.purses n ≡ a.purse = ap (λ (x : ActorValue). x.purse) here.agrees.actor_is in
        let spent : spent_of (v.jobs n) ≡ spent_in job.stage = ap (λ (x : ActorValue). spent_of x.job) here.agrees.actor_is ∙ ap spent_of has_job in
        subst (λ (x : StockValue). MayGiveAll x a.purse (spent_in job.stage)) stock_is
        (subst (λ (xs : List Spare). MayGiveAll v.stock xs (spent_in job.stage)) purse (subst (MayGiveAll v.stock (v.purses n)) spent all))

    pub may-close : (planned : Bool) → planned ≡ plans command.work → MayClose planned (Some command) true
    may-close planned is = by due.work refl planned (is ∙ ap plans work-is)
      where
        by : (work : Work) → due.work ≡ work → (planned : Bool) → planned ≡ plans work → MayClose planned (Some command) true
        by work same false is = tt
        by (work_is.Balance b) same true is = record {
          of = command.of;
          balance = b;
          command_is = (λ k. Some (record { of = command.of; work = (work-is ∙ same) k }));
          few = due.few b same;
          stands = due.stands b same;
          some = refl;
        }
        by (work_is.Action act) same true is = cc
        by (work_is.Insert row routed) same true is = cc
        by work_is.Query same true is = cc
        by (work_is.Sync server pulled) same true is = cc
        by work_is.Bare same true is = cc
        by (work_is.Settle pulls) same true is = cc
        by (work_is.Page subject there shown) same true is = cc

    -- what it did

    module _ (job : JobValue) (has_job : a.job ≡ Some job) (lv lv2 : LedgerValue) (ledger_is : ledger ≡ LedgerCell lv) (notes : NotesGivenUp (plans command.work) command.of job.shard lv lv2) (sv sv2 : StockValue) (stock_is : stock ≡ StockCell sv)
        (purse purse_now : PurseValue) (purse_is : purse.spares ≡ a.purse) (gives : GivesAll sv sv2 purse purse_now (spent_in job.stage)) (command2 : Option Command) (job2 : Option JobValue) (closes : Closes (plans command.work) (Some command) command2 job2)
        (seen : ℕ) (all_seen : seen ≡ length lv2.history) where
      abbrev led : Change
      led = change ledger_at ledger (LedgerCell lv2)

      abbrev b : ActorValue
      b = record a { purse = purse_now.spares; seen = seen; command = command2; job = job2 }

      emptied : b ≡ record a { purse = []; seen = seen; command = command2; job = job2 }
      emptied = λ k. record a { purse = gives.gives.emptied k; seen = seen; command = command2; job = job2 }

      gives-up : (work : Work) → command.work ≡ work → IsJobOf work job → GivesUp command.of work job led a b
      gives-up (work_is.Balance balance) is of =
          let planned : plans command.work ≡ true = ap plans is in
          let noted : NotesGivenUp true command.of job.shard lv lv2 = subst (λ (x : Bool). NotesGivenUp x command.of job.shard lv lv2) planned notes in
          let on : Closes true (Some command) command2 job2 = subst (λ (x : Bool). Closes x (Some command) command2 job2) planned closes in
          let next = on command.of balance (λ k. Some (record { of = command.of; work = is k })) in
          let promised = noted.promised in (
            record { ledger = lv; ledger_now = lv2; was = ledger_is; is = refl; history = noted.history; promised = omega (arith, promised); all_seen = all_seen },
            emptied ∙ (λ k. record a { purse = []; seen = seen; command = next.0 k; job = next.1 k }),
          )
      gives-up (work_is.Action act) is of =
          let planned : plans command.work ≡ false = ap plans is in
          let noted : NotesGivenUp false command.of job.shard lv lv2 = subst (λ (x : Bool). NotesGivenUp x command.of job.shard lv lv2) planned notes in
          let over : Closes false (Some command) command2 job2 = subst (λ (x : Bool). Closes x (Some command) command2 job2) planned closes in
          let promised = noted.promised in (
            record { ledger = lv; ledger_now = lv2; was = ledger_is; is = refl; history = noted.history; promised = omega (arith, promised); all_seen = all_seen },
            emptied ∙ (λ k. record a { purse = []; seen = seen; command = over.0 k; job = over.1 k }),
          )
      gives-up (work_is.Insert row routed) is of = absurd of
      gives-up work_is.Query is of = absurd of
      gives-up (work_is.Sync server pulled) is of = absurd of
      gives-up work_is.Bare is of = absurd of
      gives-up (work_is.Settle pulls) is of = absurd of
      gives-up (work_is.Page subject there shown) is of = absurd of

      pub postpone-makes : Makes hs kind.Postpone (change stock_at stock (StockCell sv2) ∷ led ∷ []) a b
      postpone-makes =
          let same : due.job ≡ job = (let both : ◌≡◌ {A = Option JobValue} (Some due.job) (Some job) = sym due.is_job ∙ has_job in cc) in
          let d : DoesPostpone (change stock_at stock (StockCell sv2)) led a b = record {
            of = command.of;
            work = command.work;
            command = has;
            job = job;
            is_job = has_job;
            frozen = subst (λ (j : JobValue). HasFrozen j.stage) same due.frozen;
            stock = sv;
            between = gives.between;
            stock_now = sv2;
            purse = purse;
            purse_now = purse_now;
            spent = gives.spent.spent;
            spent_now = gives.spent.spent_now;
            purse_was = purse_is;
            spent_was = gives.spent.is;
            gives = gives.gives;
            gives_spent = gives.spent.gives;
            turns = record { was = stock_is; is = refl };
            gives_up = gives-up command.work refl (subst (λ (j : JobValue). IsJobOf command.work j) same (subst (λ (x : Work). IsJobOf x due.job) (sym work-is) its-job));
          } in
          record { does = d; keeps = postpone-keeps hs _ _ a b d }
