-- What the reading of a gate asks for, and what it did, in the words of its calls.
use Rattle.std.proofs.{Common.{◌≡◌, ℕ, ◌+◌, ◌<◌, ◌≤◌, true, cond, eqb, List, [], ◌∷◌, length, map, Option, Some, None, IsSome, refl, sym, ap, ◌∙◌, subst, arith}, lemmas.Bool.eqb-true, lemmas.List.length-map}
use Rattle.std.specs.Option.{option_map_or}
use Rattle.dim_hierarchy.specs.{Dimension.Dimension, declared.filter.Pick.Pick, declared.row.Row.Row}
use Rattle.describing_set.specs.Sets.{IsDescSetOf}
use Rattle.mapping_table.specs.declared.place.Where.TheVariants as where_is
use Rattle.measure_agg.specs.Aggregate.{Aggregate}
use Rattle.dc_node.specs.Summary.{coords}
use Rattle.row_ledger.specs.Past.{Query, query_at}
use Rattle.volap_cell.specs.shard_store.specs.{Gate.IsQueueOf, declared.gate.Gate.Gate}
use Rattle.list_words.specs.Counts.{times}
use Rattle.list_words.proofs.Truth.{on_bool}
use Rattle.volap_cell.specs.tree_shape.specs.{Laws.{BeginLaw, GateLaw, OtherLaw, RootLaw}, Shape.numbers}
use Rattle.volap_cell.specs.tree_shape.proofs.Whole.Sums.{coords-valid}
use Rattle.volap_cell.specs.{Cells.{CellValue, FreeCell, LedgerCell, StockCell, RegistryCell, ImageCell, DeskCell, MapCell, GateCell, BlockCell, gate_shard, pins_in, queue_in, way_in}, Errands.{ReadPart, Taken, taken_by, taken_of, read_of, read_in_task, want_of}, Ghost.Ghost, Growing.table_of, Invariant.InvWith, Querying.{pins_of, one_pin}, Setting.{Setting, actor_count}, Steps.{IsHere, Makes}, Stocking.cells_at, TreeKinds.{DoesGateRead, Leads}, Values.{ActorValue, ErrandValue, ReadingValue, TaskValue, OfRow, Unread, Read}, View.{View, view}, World.{World, change, held}, declared.kind.Kind.TheVariants.GateRead}
use Rattle.volap_cell.proofs.{Counting.{length-few, passing, passing-once, sum-keyed}, Desks.Queries.{IsQueryPart, query-part, alone}}
use Rattle.core_tree.proofs.{EachStep.ReadsGate.{IsShardGate, shard-gate, read-keeps, few-same}, Queries.Walkers.{asked-of, home-at, placed-older, rows-under, tree-few}}
use Rattle.core_tree.specs.ReadDue.{CanGateRead, CanBegin, BeginsFor, IsAtGate}

-- a part that has read its gate has a query's errand

reads-task : (e : ErrandValue) (t : TaskValue) (p : ReadPart) → e.task ≡ t → read_in_task e t ≡ Some p → (r : ReadingValue) × (e.task ≡ Read r) × (p ≡ record { server = e.server; shard = e.shard; reading = r })
reads-task e (OfRow r) p is reads = cc
reads-task e (Unread f) p is reads = cc
reads-task e (Read r) p is reads = (r, is, (let same : record { server = e.server; shard = e.shard; reading = r } ≡ p = cc in sym same))

reads-errand : (errand : Option ErrandValue) (p : ReadPart) → read_of errand ≡ Some p → (e : ErrandValue) × (r : ReadingValue) × (errand ≡ Some e) × (e.task ≡ Read r) × (p ≡ record { server = e.server; shard = e.shard; reading = r })
reads-errand None p reads = cc
reads-errand (Some e) p reads = (let (r, task, is) = reads-task e e.task p refl reads in (e, r, refl, task, is))

one-most : (y : ℕ) (pin : Option ℕ) → one_pin y pin ≤ 1
one-most y None = omega arith
one-most y (Some c) = on_bool (eqb c y) (λ q. rw q (omega arith)) (λ q. rw q (omega arith))

pins-most : (y : ℕ) (o : Option ReadPart) → pins_of y o ≤ 1
pins-most y None = omega arith
pins-most y (Some p) = one-most y p.reading.pin

-- a part that is counted at a gate is pinned there

pin-counted : (y : ℕ) (pin : Option ℕ) → 1 ≤ one_pin y pin → pin ≡ Some y
pin-counted y None k = absurd (omega arith)
pin-counted y (Some c) k = on_bool (eqb c y) (λ q. ap Some (eqb-true _ _ q)) (λ q. let none : one_pin y (Some c) ≡ 0 = rw q refl in absurd (omega arith))

counted-pinned : (y : ℕ) (o : Option ReadPart) → 1 ≤ pins_of y o → (p : ReadPart) × (o ≡ Some p) × (p.reading.pin ≡ Some y)
counted-pinned y None k = absurd (omega arith)
counted-pinned y (Some p) k = (p, refl, pin-counted y p.reading.pin k)

abbrev server_of : Option ReadPart → ℕ
server_of o = option_map_or (λ (p : ReadPart). p.server) o 0

module _ (s : Setting) (w : World) (g : Ghost) (i : InvWith s (view s w) g) where
  abbrev v : View
  v = view s w

  -- the part of a query at which a reader is
  reader-part : (a : ℕ) (p : ReadPart) → v.reads a ≡ Some p → (t : Taken) × (f : List Pick) × (v.taken a ≡ Some t) × IsQueryPart s v.history v.desks t f × (p.server ≡ t.server) × (p.shard ≡ t.shard)
  reader-part a p is =
      let (e, r, errand, task, same) = reads-errand (w.actors a).errand p is in
      let took : v.taken a ≡ Some (taken_by e) = ap taken_of errand in
      (taken_by e, r.wanted.picks, took, query-part s v.history v.desks v.roles v.commands v.taken i.desking a (taken_by e) r.wanted.picks took (ap want_of task), ap (λ (z : ReadPart). z.server) same, ap (λ (z : ReadPart). z.shard) same)

  -- at a gate no more parts are pinned than there are servers, since the query of each has one part of the gate's shard
  pins-few : (c x : ℕ) → v.gates c ≡ Some x → v.pins c ≤ s.servers
  pins-few c x of_shard =
      let most = sum-keyed (λ a. pins_of c (v.reads a)) (λ a. server_of (v.reads a)) (λ a. pins-most c (v.reads a)) (actor_count s) s.servers below apart in
      let all = i.pinning.counts c in omega arith
    where
      shard-is : (a : ℕ) (p : ReadPart) → v.reads a ≡ Some p → p.reading.pin ≡ Some c → p.shard ≡ x
      shard-is a p is pin = (let z : Some p.shard ≡ Some x = sym (i.pinning.shard a c p is pin) ∙ of_shard in cc)

      below : (a : ℕ) → a < actor_count s → 1 ≤ pins_of c (v.reads a) → server_of (v.reads a) < s.servers
      below a lt some =
          let (p, is, pin) = counted-pinned c (v.reads a) some in
          let (t, f, took, part, server, shard) = reader-part a p is in
          let here : server_of (v.reads a) ≡ t.server = ap server_of is ∙ server in
          subst (λ (y : ℕ). y < s.servers) (sym here) part.within

      apart : (a b : ℕ) → a < actor_count s → b < actor_count s → 1 ≤ pins_of c (v.reads a) → 1 ≤ pins_of c (v.reads b) → server_of (v.reads a) ≡ server_of (v.reads b) → a ≡ b
      apart a b la lb some_a some_b same =
          let (p, is_a, pin_a) = counted-pinned c (v.reads a) some_a in
          let (q, is_b, pin_b) = counted-pinned c (v.reads b) some_b in
          let (t, f, took_a, part_a, server_a, shard_a) = reader-part a p is_a in
          let (u, h, took_b, part_b, server_b, shard_b) = reader-part b q is_b in
          alone s v.history v.desks v.roles v.commands v.taken i.desking u h part_b a b t took_b took_a
          (sym (ap server_of is_a ∙ server_a) ∙ same ∙ ap server_of is_b ∙ server_b)
          (sym shard_a ∙ shard-is a p is_a pin_a ∙ sym (shard-is b q is_b pin_b) ∙ shard_b)

  -- a query of this hierarchy can read a gate that its shard's worker leads to
  can-begin : GateLaw → (c x : ℕ) (gate : Gate) (of : ℕ) (q : Query) → IsShardGate s w g x c → w.cells c ≡ GateCell gate → query_at v.history of ≡ Some q → CanBegin s.hierarchy gate q.filter
  can-begin gates c x gate of q k here asked =
      let asks = asked-of s w g i of q asked in
      let tree = i.growing.tree c k.whole in
      let queue_is : v.queues c ≡ gate.queue = ap queue_in here in
      let queue : IsQueueOf s.hierarchy gate.queue = subst (IsQueueOf s.hierarchy) queue_is (i.queueing.queue c k.whole.0) in
      let placed = (g.shape c).placed in
      let rows = passing placed (length v.history) in
      let sum = gates (table_of s v.row) (cells_at v.blocks v.trees c) (g.shape c) tree rows (passing-once placed (length v.history) (λ r p. placed-older s w g i r (rows-under s w g i c x r k.of_shard p).is_placed)) in
      let in_tree = tree-few s w g i gates c x k.of_shard tree in
      let tree_is : (v.trees c).agg.count ≡ gate.agg.count = ap (λ (y : CellValue). (way_in y).agg.count) here in
      let in_queue : length (numbers gate.queue.rows) ≤ length v.history = length-few (numbers gate.queue.rows) (length v.history) (λ r. queue-once r) (λ r there. queue-older r there) in
      let many = length-map gate.queue.rows (λ (r : Row). r.no) in
      let queued : gate.queue.agg.count ≡ length gate.queue.rows = ap (λ (a : Aggregate). a.count) queue.summary.agg in
      let pinned = pins-few c x k.of_shard in
      let pins_is : v.pins c ≡ gate.pins = ap pins_in here in
      let all = i.owing.few in
      let cells_few = i.numbering.setting.few in
      record {
        filter = asks.filter;
        queue = queue;
        set = subst (λ (y : CellValue). IsDescSetOf s.hierarchy (way_in y).set) here
            (record { hierarchy = asks.filter.hierarchy; rows = coords (map v.row rows); valid = coords-valid (table_of s v.row) rows sum.valid; set_of = sum.set_of });
        few = omega arith;
        pins = omega arith;
      }
    where
      at-queue : (r : ℕ) → 1 ≤ times r (numbers gate.queue.rows) → (g.placed r ≡ true)
      at-queue r there = (home-at s w g i x r k.live (subst (λ (y : ℕ). 1 ≤ cond ((g.shape y).placed r) 1 0 + times r (numbers (v.queues y).rows)) (sym k.gate_is)
          (subst (λ (y : CellValue). 1 ≤ cond ((g.shape c).placed r) 1 0 + times r (numbers (queue_in y).rows)) (sym here) (omega arith)))).0

      queue-older : (r : ℕ) → 1 ≤ times r (numbers gate.queue.rows) → r < length v.history
      queue-older r there = placed-older s w g i r (at-queue r there)

      queue-once : (r : ℕ) → times r (numbers gate.queue.rows) ≤ 1
      queue-once r =
          let one = subst (λ (y : CellValue). cond ((g.shape c).placed r) 1 0 + times r (numbers (queue_in y).rows) ≤ 1) here
          (subst (λ (y : ℕ). cond ((g.shape y).placed r) 1 0 + times r (numbers (v.queues y).rows) ≤ 1) k.gate_is (let one = i.placing.one x r k.live in let few = few-same (g.placed r) (g.home r) x in omega arith)) in
          omega arith

-- the cell is a gate, and what it has can be read
pub is-at-gate : GateLaw → (h : List Dimension) (map_at gate_at : ℕ) (places gate : CellValue) (a : ActorValue) (e : ErrandValue) → IsHere h (held map_at places ∷ held gate_at gate ∷ []) a → CanGateRead places gate_at a → a.errand ≡ Some e
    → (it : Gate) × (gate ≡ GateCell it) × IsAtGate h it e
is-at-gate gates h map_at gate_at places gate a e k due errand =
    let s = a.setting in
    let w = k.world in
    let v = view s w in
    let g = k.inv.ghost_of in
    let i = k.inv.holds in
    let own : (w.actors k.number).errand ≡ Some due.e = ap (λ (x : ActorValue). x.errand) k.agrees.actor_is ∙ due.errand in
    let part = query-part s v.history v.desks v.roles v.commands v.taken i.desking k.number (taken_by due.e) due.filter (ap taken_of own) (ap want_of due.unread) in
    let at = shard-gate s w g i map_at due.e.worker due.e.shard gate_at due.places (k.agrees.cells.0 ∙ due.table_is) due.leads in
    let (it, is) = a-gate (w.cells gate_at) at.whole.0 in
    let can = can-begin s w g i gates gate_at due.e.shard it part.of part.q at is part.asked in
    let z : Some e ≡ Some due.e = sym errand ∙ due.errand in
    let one : e ≡ due.e = cc in (
      it,
      sym k.agrees.cells.1.0 ∙ is,
      record {
        filter = due.filter;
        unread = ap (λ (x : ErrandValue). x.task) one ∙ due.unread;
        can = subst (λ (x : List Dimension). CanBegin x it due.filter) k.about (subst (CanBegin s.hierarchy it) part.filter can);
      },
    )
  where
    a-gate : (y : CellValue) → IsSome (gate_shard y) → (it : Gate) × (y ≡ GateCell it)
    a-gate (GateCell it) is = (it, refl)
    a-gate FreeCell is = cc
    a-gate (LedgerCell l) is = cc
    a-gate (StockCell t) is = cc
    a-gate (RegistryCell r) is = cc
    a-gate (ImageCell server m) is = cc
    a-gate (DeskCell server d) is = cc
    a-gate (MapCell worker m) is = cc
    a-gate (BlockCell b) is = cc

-- what it did, where the part read the gate
pub read-makes : BeginLaw → RootLaw → OtherLaw → (h : List Dimension) (map_at gate_at : ℕ) (places gate gate_now : CellValue) (it it_now : Gate) (a b : ActorValue) (e e_now : ErrandValue) → CanGateRead places gate_at a
    → gate ≡ GateCell it → gate_now ≡ GateCell it_now → a.errand ≡ Some e → BeginsFor h gate_at it it_now e e_now → b ≡ record a { errand = Some e_now }
    → Makes h GateRead (change map_at places places ∷ change gate_at gate gate_now ∷ []) a b
read-makes begins roots other h map_at gate_at places gate gate_now it it_now a b e e_now due was is errand did actor_is =
    let z : Some due.e ≡ Some e = sym due.errand ∙ errand in
    let one : due.e ≡ e = cc in
    let does : DoesGateRead h (change map_at places places) (change gate_at gate gate_now) a b = record {
      e = e;
      errand = errand;
      filter = did.filter;
      unread = did.unread;
      leads = subst (λ (x : ErrandValue). Leads (change map_at places places) x.worker x.shard (where_is.Gate gate_at)) one (record { table = due.places; was = due.table_is; leads = due.leads; same = refl });
      gate = it;
      pinned = record { was = was; is = is ∙ ap GateCell did.pinned };
      actor_is = actor_is ∙ ap (λ (x : ErrandValue). record a { errand = Some x }) did.now_is;
    } in
    record { does = does; keeps = read-keeps begins roots other h (change map_at places places) (change gate_at gate gate_now) a b does }
