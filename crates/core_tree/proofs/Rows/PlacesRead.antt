-- A row passes its gate: what queries have counted, and what jobs and balances have read, stays right. The row was in no shard before, so
-- no query has counted it, and none has to: those that it must hold were acknowledged.
use Rattle.std.proofs.{Common.{◌≡◌, ℕ, Bool, true, false, List, Option, All, Contains}, lemmas.List.Elements.{All-contains, All-contains_itself, All-weaker}}
use Rattle.dc_node.specs.declared.block.Block.{Block}
use Rattle.dim_hierarchy.specs.declared.row.Row.{Row}
use Rattle.query_router.specs.{Desk.{DeskValue, is_refused}, declared.part.Part.Part, declared.part.PartState.PartState}
use Rattle.query_router.specs.declared.part.PartState.TheVariants as state
use Rattle.row_ledger.specs.{Bounds.may, Past.{Ack, Query, Step, acked, before}, Work.{Reading, Settles}, declared.event.Event.Event}
use Rattle.row_ledger.proofs.{Answering.All-acked_before, Within.{All-may-within, AllZip-weaker, Settles-within}}
use Rattle.shard_plan.specs.declared.action.Action.{Action}
use Rattle.volap_cell.specs.shard_store.specs.{declared.gate.Gate.Gate, declared.gate.Phase.Phase, declared.queue.Queue.Queue}
use Rattle.cell_stock.specs.declared.purse.Spare.{Spare}
use Rattle.volap_cell.specs.tree_shape.specs.Shape.{Shape}
use Rattle.volap_cell.specs.{Errands.{ReadPart, RowWay, Taken}, Growing.IsUnder, Querying.{HoldsOr, IsCounted, IsEndOfPart, IsInTreeOf, Querying}, Setting.{Setting, site_in}, Values.JobValue, Working.{Balancing, IsPlanned, IsReadLoad, Working}, declared.command.Balance.Balance, declared.command.Command.Command}
use Rattle.volap_cell.proofs.{OneEvent.Desks.must_hold-placed, OneEvent.Known.{All-inside, AreOlder}, OneEvent.Older.Any-weaker}
use Rattle.core_tree.proofs.Rows.Places.{placed-within, under-before, under-placed, with_one}

module _ (h : List Event) (placed : ℕ → Bool) (home : ℕ → ℕ) (path : ℕ → List ℕ) (way : RowWay) (out : placed way.row.no ≡ false) (older : AreOlder h placed) where
  abbrev placed_now : ℕ → Bool
  placed_now = with_one placed way.row.no true

  abbrev home_now : ℕ → ℕ
  home_now = with_one home way.row.no way.shard

  under : (y q : ℕ) → IsUnder h placed home y q → IsUnder h placed_now home_now y q
  under = under-placed h placed home path way out

  -- Queries.

  counted-placed : (s : Setting) (row : ℕ → Row) (q : Query) (x : ℕ) (counted : List ℕ) → IsCounted s h row placed home q x counted → IsCounted s h row placed_now home_now q x counted
  counted-placed s row q x counted i = record { once = i.once; fitting = i.fitting; under = λ n some. under x n (i.under n some) }

  -- what a query must hold has passed its gate before
  holds-placed : (s : Setting) (row : ℕ → Row) (of : ℕ) (q : Query) (x : ℕ) (counted : List ℕ) (Else : ℕ → Type 0) → HoldsOr s h row placed home of q x counted Else → HoldsOr s h row placed_now home_now of q x counted Else
  holds-placed s row of q x counted Else i = λ n must fit u. i n must fit (under-before h placed home path way out x n (must_hold-placed s.hierarchy h placed older of q n must) u)

  end-placed : (s : Setting) (row : ℕ → Row) (of : ℕ) (q : Query) (x : ℕ) (counted : List ℕ) (st : PartState) → IsEndOfPart s h row placed home of q x counted st → IsEndOfPart s h row placed_now home_now of q x counted st
  end-placed s row of q x counted (state.Done total) i = (i.0, holds-placed s row of q x counted (λ n. ⊥) i.1)
  end-placed s row of q x counted (state.Waiting wanted) i = i
  end-placed s row of q x counted state.Taken i = i
  end-placed s row of q x counted (state.Placed w) i = i
  end-placed s row of q x counted state.NoMemory i = i

  pub querying-placed : (s : Setting) (row : ℕ → Row) (blocks : ℕ → Block) (trees : ℕ → Gate) (desks : ℕ → DeskValue) (taken : ℕ → Option Taken) (reads : ℕ → Option ReadPart) (shape : ℕ → Shape) (counted : ℕ → ℕ → List ℕ)
      → Querying s h row blocks trees desks taken reads shape placed home counted → Querying s h row blocks trees desks taken reads shape placed_now home_now counted
  querying-placed s row blocks trees desks taken reads shape counted i = record {
    counts = λ server of q within op is.
        All-weaker (λ (p : Part). is_refused p ≡ false → IsCounted s h row placed home q p.shard (counted server p.shard)) (λ (p : Part). is_refused p ≡ false → IsCounted s h row placed_now home_now q p.shard (counted server p.shard))
        (λ p f kept. counted-placed s row q p.shard (counted server p.shard) (f kept)) (desks server).parts (i.counts server of q within op is);
    ends = λ server of q within op is.
        All-weaker (λ (p : Part). IsEndOfPart s h row placed home of q p.shard (counted server p.shard) p.state) (λ (p : Part). IsEndOfPart s h row placed_now home_now of q p.shard (counted server p.shard) p.state)
        (λ p. end-placed s row of q p.shard (counted server p.shard) p.state) (desks server).parts (i.ends server of q within op is);
    whole = λ server of q within op is n must fit.
        Any-weaker (λ (p : Part). IsUnder h placed home p.shard n) (λ (p : Part). IsUnder h placed_now home_now p.shard n) (λ p. under p.shard n) (desks server).parts (i.whole server of q within op is n must fit);
    reading = λ a of q p is op asked. let o = i.reading a of q p is op asked in record {
      wanted = o.wanted;
      total = o.total;
      walk = o.walk;
      holds = holds-placed s row of q p.shard (counted p.server p.shard) (IsInTreeOf shape p.reading.pin) o.holds;
    };
    unread = i.unread;
  }

  -- Jobs.

  rows-may : (rows : List Row) → All (Contains (may placed h)) rows → All (Contains (may placed_now h)) rows
  rows-may rows all = All-may-within placed placed_now (placed-within h placed home path way out) h rows all

  pub working-placed : (s : Setting) (blocks : ℕ → Block) (made : ℕ → Bool) (trees : ℕ → Gate) (phases : ℕ → Option Phase) (active : ℕ → ℕ) (queues : ℕ → Queue) (purses : ℕ → List Spare) (commands : ℕ → Option Command) (jobs : ℕ → Option JobValue) (gate : ℕ → ℕ) (shape : ℕ → Shape)
      → Working s h blocks made trees phases active queues purses commands jobs gate shape placed → Working s h blocks made trees phases active queues purses commands jobs gate shape placed_now
  working-placed s blocks made trees phases active queues purses commands jobs gate shape i = record {
    command = i.command;
    front = i.front;
    to = i.to;
    unspent = i.unspent;
    declined = λ a j c why isj isc st. let o = i.declined a j c why isj isc st in record {
      rows = o.rows;
      read = record { once = o.read.once; allowed = rows-may o.rows o.read.allowed; came = o.read.came };
      cause = o.cause;
    };
    frozen = i.frozen;
    collected = i.collected;
    building = i.building;
  }

  -- Balances.

  load-placed : (s : Setting) (of : ℕ) (r : Reading) → IsReadLoad s h placed home of r → IsReadLoad s h placed_now home_now of r
  load-placed s of r i = record {
    count = i.count;
    once = i.once;
    under = All-weaker (λ (x : Row). IsUnder h placed home r.load.shard x.no) (λ (x : Row). IsUnder h placed_now home_now r.load.shard x.no) (λ x. under r.load.shard x.no) r.rows i.under;
    usable = rows-may r.rows i.usable;
    own = All-inside (λ (k : Ack). IsUnder h placed home r.load.shard k.row.no → Contains r.rows k.row) (λ (k : Ack). IsUnder h placed_now home_now r.load.shard k.row.no → Contains r.rows k.row) (acked (before h of))
        (λ k has f u.
        let all : All (Contains (acked h)) (acked (before h of)) = All-acked_before (Contains (acked h)) h of (All-contains_itself (acked h)) in
        let now = All-contains (Contains (acked h)) (acked (before h of)) k all has in
        f (under-before h placed home path way out r.load.shard k.row.no (older.acked_rows k now) u))
        i.own;
  }

  plan-placed : (s : Setting) (of : ℕ) (b : Balance) (actions : List Action) → IsPlanned s h placed of b actions → IsPlanned s h placed_now of b actions
  plan-placed s of b actions i = record {
    all_read = i.all_read;
    is_plan = i.is_plan;
    within = i.within;
    few = i.few;
    events = AllZip-weaker (λ a (step : Step). Settles (site_in s) placed of a step.past step.event) (λ a (step : Step). Settles (site_in s) placed_now of a step.past step.event)
        (λ a step. Settles-within (site_in s) placed placed_now (placed-within h placed home path way out) of a step.past step.event) _ _ i.events;
    done = i.done;
    ahead = i.ahead;
  }

  pub balancing-placed : (s : Setting) (commands : ℕ → Option Command) (jobs : ℕ → Option JobValue) → Balancing s h commands jobs placed home → Balancing s h commands jobs placed_now home_now
  balancing-placed s commands jobs i = record {
    balance = λ a of b is. let o = i.balance a of b is in record {
      places = o.places;
      readings = o.readings;
      loads = o.loads;
      each = All-weaker (IsReadLoad s h placed home of) (IsReadLoad s h placed_now home_now of) (load-placed s of) o.readings o.each;
      read = o.read;
      still = o.still;
      planned = λ actions planned. plan-placed s of b actions (o.planned actions planned);
      from = o.from;
      at_work = o.at_work;
    };
  }
