-- One event more, that splits and moves no shard and is no work of the commands in question: jobs and balances.
use Rattle.std.proofs.{Common.{◌≡◌, ℕ, ◌≤◌, ◌∙◌, List, ◌∷◌, take, drop, reverse, Bool, false, IsTrue, length, refl, sym, ap, subst, All, Contains, count_by}, lemmas.List.Elements.All-weaker}
use Rattle.std.specs.{List.AllZip, Prelude.{Option, Some}}
use Rattle.dim_hierarchy.specs.declared.row.Row.{Row}
use Rattle.cell_stock.specs.declared.purse.Spare.{Spare}
use Rattle.dc_node.specs.declared.block.Block.{Block}
use Rattle.row_ledger.specs.{Bounds.may, Changes.ShardsStay, Past.{Ack, Step, acked, acked_into, before, work, is_work_of}, Shards.{frontier, comes_from}, Work.{Reading, Settles, is_done}, declared.event.Event.Event, declared.settings.Decline.Decline}
use Rattle.row_ledger.proofs.{Older.may-older, Positions.before-older}
use Rattle.shard_plan.specs.{declared.action.Action.Action, declared.action.Load.Load}
use Rattle.shard_plan.specs.declared.action.Action.TheVariants as action
use Rattle.shard_build.specs.shard_store.specs.{declared.gate.Gate.Gate, declared.gate.Phase.Phase, declared.queue.Queue.Queue}
use Rattle.list_words.specs.Counts.{Each}
use Rattle.list_words.proofs.Each.{each-map}
use Rattle.shard_build.specs.tree_shape.specs.Shape.{Shape}
use Rattle.volap_cell.specs.{Growing.IsUnder, Setting.{Setting, site_in}, Values.{BuildingValue, CollectingValue, JobValue}, Working.{HasBegun, IsBuilding, IsCollected, IsDeclinedFor, Working, IsReadLoad, IsAhead, IsPlanned, IsBalancing, Balancing}, declared.command.Balance.Balance, declared.command.Command.Command}
use Rattle.volap_cell.specs.declared.command.Work.TheVariants as work_is
use Rattle.volap_cell.proofs.{Histories.Knowing.insert-older, OneEvent.Older.{comes-stays, live-stays, on-stays, Any-weaker}, OneEvent.Rows.{under-grown, under-was}}

-- an event that isn't work of a command
pub work-same : (e : Event) (h : List Event) (p : ℕ) → is_work_of p e ≡ false → work (e ∷ h) p ≡ work h p
work-same e h p none = rw none refl

-- rows that may be counted may be so later
pub rows-may-grown : (placed : ℕ → Bool) (e : Event) (h : List Event) (rows : List Row) → All (Contains (may placed h)) rows → All (Contains (may placed (e ∷ h))) rows
rows-may-grown placed e h rows all = All-weaker (Contains (may placed h)) (Contains (may placed (e ∷ h))) (may-older placed e h) rows all

-- what a declined job has read
pub declined-grown : (s : Setting) (e : Event) (h : List Event) (placed : ℕ → Bool) (of : ℕ) (job : JobValue) (why : Decline) → of ≤ length h
    → IsDeclinedFor s h placed of job why → IsDeclinedFor s (e ∷ h) placed of job why
declined-grown s e h placed of job why began i = record {
  rows = i.rows;
  read = record {
    once = i.read.once;
    allowed = rows-may-grown placed e h i.rows i.read.allowed;
    came = subst (λ (past : List Event). All (λ (a : Ack). Contains i.rows a.row) (acked_into job.shard past)) (sym (before-older e h of began)) i.read.came;
  };
  cause = i.cause;
}

-- rows that began stay begun
pub begun-grown : (e : Event) (h : List Event) (rows : List Row) → Each (HasBegun h) rows → Each (HasBegun (e ∷ h)) rows
begun-grown e h rows all = each-map (HasBegun h) (HasBegun (e ∷ h)) rows (λ r o. (o.0, insert-older e h r.no o.0 o.1, o.2)) all

-- what a job has collected, and what it has built of that
pub collected-grown : (e : Event) (h : List Event) (blocks : ℕ → Block) (trees : ℕ → Gate) (queues : ℕ → Queue) (phases : ℕ → Option Phase) (active : ℕ → ℕ) (shape : ℕ → Shape) (k : CollectingValue)
    → IsCollected h blocks trees queues phases active shape k → IsCollected (e ∷ h) blocks trees queues phases active shape k
collected-grown e h blocks trees queues phases active shape k o = record {
  drained = o.drained;
  at_blocks = o.at_blocks;
  named = begun-grown e h o.at_blocks o.named;
  rows = o.rows;
  collecting = o.collecting;
  upto = o.upto;
  blocks_first = o.blocks_first;
}

pub building-grown : (s : Setting) (e : Event) (h : List Event) (blocks : ℕ → Block) (made : ℕ → Bool) (trees : ℕ → Gate) (queues : ℕ → Queue) (phases : ℕ → Option Phase) (active : ℕ → ℕ) (shape : ℕ → Shape) (purse : List Spare) (b : BuildingValue)
    → IsBuilding s h blocks made trees queues phases active shape purse b → IsBuilding s (e ∷ h) blocks made trees queues phases active shape purse b
building-grown s e h blocks made trees queues phases active shape purse b o = record {
  drained = o.drained;
  upto = o.upto;
  phase_is = o.phase_is;
  at_blocks = o.at_blocks;
  named = begun-grown e h o.at_blocks o.named;
  read = o.read;
  built = o.built;
  purse_was = o.purse_was;
  purse_now = o.purse_now;
  purse_is = o.purse_is;
  trees_are = o.trees_are;
  in_cells = o.in_cells;
}

module _ (s : Setting) (e : Event) (h : List Event) (stay : ShardsStay s.workers e h) where
  -- each command began before
  pub working-grown : (blocks : ℕ → Block) (made : ℕ → Bool) (trees : ℕ → Gate) (phases : ℕ → Option Phase) (active : ℕ → ℕ) (queues : ℕ → Queue) (purses : ℕ → List Spare) (commands : ℕ → Option Command) (jobs : ℕ → Option JobValue) (gate : ℕ → ℕ) (shape : ℕ → Shape) (placed : ℕ → Bool)
      → ((a : ℕ) (c : Command) → commands a ≡ Some c → c.of ≤ length h)
      → Working s h blocks made trees phases active queues purses commands jobs gate shape placed → Working s (e ∷ h) blocks made trees phases active queues purses commands jobs gate shape placed
  working-grown blocks made trees phases active queues purses commands jobs gate shape placed began i = record {
    command = i.command;
    front = λ a j is. on-stays s.workers e h stay j.shard j.worker ∙ i.front a j is;
    to = i.to;
    unspent = i.unspent;
    declined = λ a j c why is by st. declined-grown s e h placed c.of j why (began a c by) (i.declined a j c why is by st);
    frozen = i.frozen;
    collected = λ a j k is st. collected-grown e h blocks trees queues phases active shape k (i.collected a j k is st);
    building = λ a j b is st. building-grown s e h blocks made trees queues phases active shape (purses a) b (i.building a j b is st);
  }

  -- Balances.

  pub read-load-grown : (placed : ℕ → Bool) (home : ℕ → ℕ) (of : ℕ) (r : Reading) → of ≤ length h → IsReadLoad s h placed home of r → IsReadLoad s (e ∷ h) placed home of r
  read-load-grown placed home of r began i = record {
    count = i.count;
    once = i.once;
    under = All-weaker (λ (x : Row). IsUnder h placed home r.load.shard x.no) (λ (x : Row). IsUnder (e ∷ h) placed home r.load.shard x.no)
        (λ x. under-grown s e h stay placed home r.load.shard x.no) r.rows i.under;
    usable = rows-may-grown placed e h r.rows i.usable;
    own = subst (λ (past : List Event). All (λ (k : Ack). IsUnder (e ∷ h) placed home r.load.shard k.row.no → Contains r.rows k.row) (acked past)) (sym (before-older e h of began))
        (All-weaker (λ (k : Ack). IsUnder h placed home r.load.shard k.row.no → Contains r.rows k.row) (λ (k : Ack). IsUnder (e ∷ h) placed home r.load.shard k.row.no → Contains r.rows k.row)
        (λ k f u. f (under-was s e h stay placed home r.load.shard k.row.no u)) (acked (before h of)) i.own);
  }

  pub ahead-grown : (standing : List Load) (a : Action) → IsAhead s h standing a → IsAhead s (e ∷ h) standing a
  ahead-grown standing (action.Split x) i = (i.0, on-stays s.workers e h stay x _ ∙ i.1)
  ahead-grown standing (action.Move x worker) i = ((i.0.0, on-stays s.workers e h stay x _ ∙ i.0.1), i.1)

  pub planned-grown : (placed : ℕ → Bool) (of : ℕ) (b : Balance) (actions : List Action) → is_work_of of e ≡ false → IsPlanned s h placed of b actions → IsPlanned s (e ∷ h) placed of b actions
  planned-grown placed of b actions none i =
      let same : work (e ∷ h) of ≡ work h of = work-same e h of none in
      record {
        all_read = i.all_read;
        is_plan = i.is_plan;
        within = i.within;
        few = i.few;
        events = subst (λ (steps : List Step). AllZip (λ a (step : Step). Settles (site_in s) placed of a step.past step.event) (take b.over actions) (reverse steps)) (sym same) i.events;
        done = i.done ∙ ap (λ (steps : List Step). count_by (λ (step : Step). is_done step.event) steps) (sym same);
        ahead = All-weaker (IsAhead s h b.standing) (IsAhead s (e ∷ h) b.standing) (ahead-grown b.standing) (drop b.over actions) i.ahead;
      }

  pub one-balance-grown : (placed : ℕ → Bool) (home : ℕ → ℕ) (job : Option JobValue) (of : ℕ) (b : Balance) → of ≤ length h → is_work_of of e ≡ false
      → IsBalancing s h placed home job of b → IsBalancing s (e ∷ h) placed home job of b
  one-balance-grown placed home job of b began none i =
      let past : before (e ∷ h) of ≡ before h of = before-older e h of began in
      let same : work (e ∷ h) of ≡ work h of = work-same e h of none in
      record {
        places = i.places ∙ ap (frontier s.workers) (sym past);
        readings = i.readings;
        loads = i.loads;
        each = All-weaker (IsReadLoad s h placed home of) (IsReadLoad s (e ∷ h) placed home of) (λ r. read-load-grown placed home of r began) i.readings i.each;
        read = i.read;
        still = λ unplanned. let t = i.still unplanned in (stay.frontier ∙ t.0 ∙ ap (frontier s.workers) (sym past), same ∙ t.1, t.2, t.3, t.4, t.5);
        planned = λ actions is. planned-grown placed of b actions none (i.planned actions is);
        from = λ x live. Any-weaker (λ (l : Load). IsTrue (comes_from h l.shard x)) (λ (l : Load). IsTrue (comes_from (e ∷ h) l.shard x))
            (λ l comes. comes-stays s.workers e h stay l.shard x ∙ comes) b.loads (i.from x (sym (live-stays s.workers e h stay x) ∙ live));
        at_work = i.at_work;
      }

  -- each balance began before, and the event is no work of it
  pub balancing-grown : (commands : ℕ → Option Command) (jobs : ℕ → Option JobValue) (placed : ℕ → Bool) (home : ℕ → ℕ)
      → ((a of : ℕ) (b : Balance) → commands a ≡ Some (record { of = of; work = work_is.Balance b }) → (of ≤ length h) × (is_work_of of e ≡ false))
      → Balancing s h commands jobs placed home → Balancing s (e ∷ h) commands jobs placed home
  balancing-grown commands jobs placed home other i = record {
    balance = λ a of b is. let t = other a of b is in one-balance-grown placed home (jobs a) of b t.0 t.1 (i.balance a of b is);
  }
