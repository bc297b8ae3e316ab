-- What the call that reads a load asks for, and what it did.
use Rattle.std.proofs.{Common.{if◌then◌else◌, ◌≡◌, ℕ, ◌+◌, ◌^◌, ◌<◌, ◌≤◌, List, [], ◌∷◌, true, eqb, length, Option, Some, None, ◌==◌, refl, sym, ap, ◌∙◌, subst, inr, arith, All}, lemmas.Bool.{eqb-true, eqb-false}, lemmas.List.{length-map, length-set, take_all}, lemmas.List.Elements.{All-cons, All-head, All-nil, All-tail, All-weaker}}
use Rattle.std.specs.FinMap as map
use Rattle.std.specs.Ordering.{nat_cmp}
use Rattle.balancer.specs.Turn.{rows_of_all}
use Rattle.dim_hierarchy.specs.{Dimension.Dimension, declared.row.Row.Row}
use Rattle.mapping_table.specs.declared.place.Where.{Where}
use Rattle.mapping_table.specs.declared.place.Where.TheVariants as where_is
use Rattle.row_ledger.specs.{Shards.{frontier, place}, Work.{Reading, loads as loads_of}, Workers.is_on}
use Rattle.shard_plan.specs.{Balancing.plan, declared.action.Load.Load}
use Rattle.core_tree.specs.shard_store.specs.declared.gate.Gate.{Gate}
use Rattle.list_words.specs.Counts.{times}
use Rattle.list_words.proofs.{Times.same_not, Truth.on_bool}
use Rattle.core_tree.specs.tree_shape.specs.{Laws.GateLaw, Shape.numbers}
use Rattle.core_tree.specs.volap_cell.specs.{AdminKinds.rows_at, Cells.{CellValue, GateCell, MapCell, MapOf, gate_shard, tag_of, where_in}, Ghost.Ghost, Growing.IsUnder, ImageKinds.doing, Invariant.InvWith, Setting.Setting, ShardKinds.ReadsLoad, Steps.{IsHere, Makes}, TreeKinds.Leads, Values.{ActorValue, JobValue}, View.{View, view}, Working.{IsBalancing, IsReadLoad, places_in}, World.{World, change, held}, declared.command.Balance.Balance, declared.kind.Kind.TheVariants.LookUp}
use Rattle.core_tree.specs.volap_cell.specs.declared.command.Work.TheVariants as work_is
use Rattle.core_tree.specs.volap_cell.proofs.{Counting.length-few, Views.Shown.held-leads}
use Rattle.core_admin.specs.LoadDue.{CanNote, CanReadLoad, NotesLoad, after_load, loads_read}
use Rattle.core_admin.proofs.{Balances.LoadLists.{few-places, rows-most}, Balances.LoadsRead.{balancing-read, unplanned}, Balances.ReadsLoads.{count-of, is-reading, load-keeps, reading-of}, Collecting.FrozenGates.{began-within, shard-gate}, Collecting.ShardRows.rows-few}

-- what holds of the numbers of all rows
of-counted : (P : ℕ → Type 0) (rows : List Row) (n : ℕ) → All (λ (r : Row). P r.no) rows → 1 ≤ times n (numbers rows) → P n
of-counted P [] n all some = absurd (omega (arith, some))
of-counted P (r ∷ rows) n all some = on_bool (eqb n r.no)
    (λ q. subst P (sym (eqb-true n r.no q)) (All-head (λ (x : Row). P x.no) r rows all))
    (λ q. let none = same_not n r.no (eqb-false n r.no q) in of-counted P rows n (All-tail (λ (x : Row). P x.no) r rows all) (omega (arith, some, none)))

all-loads : (m : ℕ) (rs : List Reading) → All (λ (r : Reading). r.load.rows ≤ m) rs → All (λ (l : Load). l.rows ≤ m) (loads_of rs)
all-loads m [] all = All-nil (λ (l : Load). l.rows ≤ m)
all-loads m (r ∷ rs) all = All-cons (λ (l : Load). l.rows ≤ m) r.load (loads_of rs) (All-head (λ (x : Reading). x.load.rows ≤ m) r rs all) (all-loads m rs (All-tail (λ (x : Reading). x.load.rows ≤ m) r rs all))

-- A load that was read has no more rows than there are events, and there are few loads.

module _ (s : Setting) (v : View) (g : Ghost) (i : InvWith s v g) (job : Option JobValue) (of : ℕ) where
  reading-few : (r : Reading) → IsReadLoad s v.history g.placed g.home of r → r.load.rows ≤ length v.history
  reading-few r is =
      let most = length-few (numbers r.rows) (length v.history) is.once
      (λ n some. began-within s v g i n (of-counted (λ k. IsUnder v.history g.placed g.home r.load.shard k) r.rows n is.under some).is_placed) in
      let long = length-map r.rows (λ (x : Row). x.no) in
      let count = is.count in
      omega (arith, most, long, count)

  pub rows-fit : (b : Balance) → IsBalancing s v.history g.placed g.home job of b → b.read ≡ length b.loads → length b.loads ≤ 2 ^ 31 + 2 ^ 8 → rows_of_all b.loads < 2 ^ 63
  rows-fit b bal all few =
      let h = v.history in
      let each = All-weaker (IsReadLoad s h g.placed g.home of) (λ (r : Reading). r.load.rows ≤ length h) reading-few bal.readings bal.each in
      let whole : loads_of bal.readings ≡ b.loads = bal.loads ∙ take_all b.read b.loads (omega (arith, all)) in
      let most = rows-most b.loads (2 ^ 31) (All-weaker (λ (l : Load). l.rows ≤ length h) (λ (l : Load). l.rows ≤ 2 ^ 31) (λ l le. let n = i.owing.few in omega (arith, le, n)) b.loads
      (subst (All (λ (l : Load). l.rows ≤ length h)) whole (all-loads (length h) bal.readings each))) in
      omega (arith, most, few)

  pub loads-few : (b : Balance) → IsBalancing s v.history g.placed g.home job of b → b.plan ≡ None → s.workers < 2 ^ 8 → length b.loads < 2 ^ 31 + 2 ^ 8
  loads-few b bal none few =
      let same : places_in b.loads ≡ frontier s.workers v.history = bal.places ∙ sym (bal.still none).0 in
      let long : length b.loads ≡ length (frontier s.workers v.history) = sym (length-map b.loads (λ (l : Load). place l.shard l.worker)) ∙ ap length same in
      let most = few-places s.workers v.history in
      let n = i.owing.few in
      omega (arith, long, most, few, n)

-- a cell that is a worker's has its table
is-table : (c : CellValue) (worker : ℕ) → tag_of c ≡ MapOf worker → (table : map.FinMap nat_cmp Where) × (c ≡ MapCell worker table)
is-table (MapCell w table) worker is = (let same : w ≡ worker = cc in (table, ap (λ (x : ℕ). MapCell x table) same))
is-table _ worker is = absurd (cc)

module _ (gates : GateLaw) (hs : List Dimension) (workers map_at : ℕ) (cell : CellValue) (gate_at : ℕ) (gate : CellValue) (a : ActorValue) (here : IsHere hs (held map_at cell ∷ held gate_at gate ∷ []) a) (due : CanReadLoad workers cell gate_at a) where
  abbrev s : Setting
  s = a.setting

  abbrev w : World
  w = here.world

  abbrev v : View
  v = view s w

  abbrev g : Ghost
  g = here.inv.ghost_of

  abbrev i : InvWith s v g
  i = here.inv.holds

  abbrev shard : ℕ
  shard = due.load.shard

  table : (t : map.FinMap nat_cmp Where) × (cell ≡ MapCell due.load.worker t)
  table = is-table cell due.load.worker due.map_is

  leading : Leads (held map_at cell) due.load.worker shard (where_is.Gate gate_at)
  leading = record { table = table.0; was = table.1; leads = ap (λ (c : CellValue). where_in c shard) (sym table.1) ∙ due.leads; same = refl }

  led : (is_on s.workers v.history shard due.load.worker ≡ true) × (g.gate shard ≡ gate_at)
  led = i.lineage.leads due.load.worker shard gate_at (held-leads s w i.numbering.tag (held map_at cell) here.agrees.cells.0 due.load.worker shard (where_is.Gate gate_at) leading).1

  -- the gate to which the table leads stands in its cell
  pub its-gate : (x : Gate) × (gate ≡ GateCell x)
  its-gate =
      let stands = i.lineage.gate_of shard due.load.worker led.0 in
      shard-gate gate shard (ap gate_shard (sym here.agrees.cells.1.0) ∙ ap v.gates (sym led.1) ∙ stands.1)

  command-here : (w.actors here.number).command ≡ doing due.of (work_is.Balance due.balance)
  command-here = ap (λ (x : ActorValue). x.command) here.agrees.actor_is ∙ due.command

  bal : IsBalancing s v.history g.placed g.home (v.jobs here.number) due.of due.balance
  bal = i.balancing.balance here.number due.of due.balance command-here

  module _ (x : Gate) (was : gate ≡ GateCell x) where
    there-is : w.cells (g.gate shard) ≡ GateCell x
    there-is = ap w.cells led.1 ∙ here.agrees.cells.1.0 ∙ was

    pub few-rows : rows_at x < 2 ^ 32
    few-rows = (let few = rows-few gates s w g i shard due.load.worker led.0 in let n = i.owing.few in let c = count-of gates s w g i due.load led.0 x there-is in omega (arith, few, n, c))

    pub can-note : workers < 2 ^ 8 → CanNote due.balance (rows_at x)
    can-note few =
        let none = unplanned s v.history g.placed g.home due.of due.balance (v.jobs here.number) bal due.load due.load_at in
        let many = loads-few s v g i (v.jobs here.number) due.of due.balance bal none (subst (λ (k : ℕ). k < 2 ^ 8) due.workers_are few) in
        let len : length (loads_read due.balance due.load (rows_at x)) ≡ length due.balance.loads = length-set due.balance.loads due.balance.read (record due.load { rows = rows_at x }) in
        let le : length (loads_read due.balance due.load (rows_at x)) ≤ 2 ^ 31 + 2 ^ 8 = omega (arith, many, len) in
        record {
          load = due.load;
          load_at = due.load_at;
          unplanned = none;
          standing = (bal.still none).4;
          few = omega (arith, many);
          few_rows = λ all. rows-fit s v g i _ due.of _ (balancing-read s v.history g.placed g.home due.of due.balance (v.jobs here.number) bal due.load due.load_at (rows_at x) (reading-of gates s w g i due.load led.0 x there-is) refl (is-reading gates s w g i due.load led.0 x there-is due.of) i.numbering.setting.workers)
              (all ∙ sym len) le;
        }

    pub load-makes : (cell2 gate2 : CellValue) (b_now : Balance) (job : Option JobValue) (b : ActorValue) → cell2 ≡ cell → gate2 ≡ GateCell x → NotesLoad due.balance (rows_at x) workers b_now job
        → b ≡ record a { command = doing due.of (work_is.Balance b_now); job = job } → Makes hs LookUp (change map_at cell cell2 ∷ change gate_at gate gate2 ∷ []) a b
    load-makes cell2 gate2 b_now job b map_is is notes b_is =
        let did = notes due.load due.load_at in
        let now : b_now ≡ after_load due.balance due.load (rows_at x) workers = did.0 in
        let does : ReadsLoad (change map_at cell cell2) (change gate_at gate gate2) a b = record {
          of = due.of;
          balance = due.balance;
          balance_now = b_now;
          command = due.command;
          load = due.load;
          load_at = due.load_at;
          leads = record { table = table.0; was = table.1; leads = ap (λ (c : CellValue). where_in c shard) (sym table.1) ∙ due.leads; same = map_is };
          gate = x;
          same = record { was = was; is = is };
          most = ap (λ (y : Balance). y.most) now;
          loads = ap (λ (y : Balance). y.loads) now;
          read = ap (λ (y : Balance). y.read) now;
          standing = ap (λ (y : Balance). y.standing) now ∙ sym (ap (λ (y : Balance). y.loads) now);
          planned = planned-is b_now now;
          over = ap (λ (y : Balance). y.over) now;
          done = ap (λ (y : Balance). y.done) now;
          actor_is = b_is ∙ (λ k. record a { command = doing due.of (work_is.Balance b_now); job = did.1 k });
        } in
        record { does = inr does; keeps = load-keeps gates hs (change map_at cell cell2) (change gate_at gate gate2) a b does }
      where
        planned-is : (b_now : Balance) → b_now ≡ after_load due.balance due.load (rows_at x) workers → b_now.plan ≡ (if b_now.read == length due.balance.loads then Some (plan b_now.loads a.setting.workers due.balance.most) else None)
        planned-is b_now now =
            let len : length (loads_read due.balance due.load (rows_at x)) ≡ length due.balance.loads = length-set due.balance.loads due.balance.read (record due.load { rows = rows_at x }) in
            ap (λ (y : Balance). y.plan) now
            ∙ (λ k. if (due.balance.read + 1) == len k then Some (plan (loads_read due.balance due.load (rows_at x)) (due.workers_are k) due.balance.most) else None)
            ∙ sym (ap (λ (y : Balance). if y.read == length due.balance.loads then Some (plan y.loads a.setting.workers due.balance.most) else None) now)
