-- What the invariant says of an actor that is at a part: it, its server and its worker are there, it has no job, and the gates and blocks
-- that its part names stand.
use Rattle.std.proofs.{Common.{◌≡◌, ◌∙◌, ℕ, ◌<◌, Bool, true, false, IsSome, List, [], ◌∷◌, ◌++◌, Option, Some, None, refl, sym, ap, subst}, lemmas.Bool.{and_parts, eqb-true}}
use Rattle.std.specs.Prelude.{◌==◌, ◌&&◌, ◌||◌}
use Rattle.core_due.specs.Due.{led_to}
use Rattle.core_due.proofs.GatesLed.{led-stands}
use Rattle.core_steps.specs.core_tree.proofs.Queries.Walkers.{walker}
use Rattle.dc_node.specs.declared.todo.Item.{Item}
use Rattle.list_words.proofs.Each.{each-right}
use Rattle.mapping_table.specs.declared.place.Where.TheVariants as where_is
use Rattle.query_router.specs.{Desk.{is_open, is_taken, is_waiting}, declared.part.Part.Part}
use Rattle.core_steps.specs.tree_shape.proofs.Whole.Totals.{links-on}
use Rattle.core_steps.specs.tree_shape.specs.Queries.{fits}
use Rattle.core_steps.specs.volap_cell.proofs.{Actors.row-at, Histories.Standings.live-on, Persons.has-taken}
use Rattle.core_steps.specs.volap_cell.specs.{Cells.{gate_shard}, Errands.{InLeaf, ReadPart, RowWay, has_passed, place_of, read_in_task, read_of, row_way, taken_by, taken_of}, Ghost.{Ghost, InTree}, Growing.table_of, Invariant.InvWith, Querying.must_hold, Setting.{Setting, actor_count}, ShardKinds.pin_of, Stocking.cells_at, TreeKinds.HasRow, Values.{ErrandValue, JobValue, OfRow, Read, ReadingValue, TaskValue, Unread}, View.{View, view}, World.World, declared.errand.RowErrand.RowErrand}
use Rattle.core_steps.specs.volap_cell.specs.declared.errand.Way.TheVariants as way

-- Parts on desks.

taken-open : (p : Part) → is_taken p ≡ true → is_open p ≡ true
taken-open p e = by (is_waiting p) (is_taken p) e
  where
    by : (a b : Bool) → b ≡ true → (a || b) ≡ true
    by true b e = refl
    by false b e = e

module _ (s : Setting) (w : World) (g : Ghost) (i : InvWith s (view s w) g) (n : ℕ) (e : ErrandValue) (errand : (w.actors n).errand ≡ Some e) where
  abbrev v : View
  v = view s w

  took : v.taken n ≡ Some (taken_by e)
  took = ap taken_of errand

  pub part-there : n < actor_count s
  part-there = has-taken s v i.numbering n (taken_by e) took

  -- the server and the worker of its part
  pub part-places : (e.server < s.servers) × (e.worker < s.workers)
  part-places =
      let here = i.desking.at_parts n (taken_by e) took in
      let p = here.part.1 in
      let both = and_parts (p.shard == e.shard && p.worker == e.worker) (is_taken p) here.part.4 in
      let is = and_parts (p.shard == e.shard) (p.worker == e.worker) both.0 in
      let known = subst (λ (q : Part). is_open q ≡ true → (q.worker < s.workers) × IsSome (v.maps q.worker q.shard)) here.part.3 (i.leading.parts e.server here.within here.part.0 p here.part.2)
      (taken-open p both.1) in
      (here.within, subst (λ (k : ℕ). k < s.workers) (eqb-true p.worker e.worker is.1) known.0)

  pub part-no-job : (w.actors n).job ≡ None
  part-no-job = by (w.actors n).job refl
    where
      by : (j : Option JobValue) → (w.actors n).job ≡ j → (w.actors n).job ≡ None
      by None none = none
      by (Some j) some = absurd (i.numbering.parts n (taken_by e) took (i.numbering.working n j some))

  -- the gate to which its worker's table leads
  pub led-gate : (gate : ℕ) → led_to s w e ≡ Some (where_is.Gate gate) → IsSome (gate_shard (w.cells gate))
  led-gate gate leads = led-stands s w g i e.worker e.shard gate leads

  -- the gate whose tree its insert leaves
  pub left-gate : (r : RowErrand) (gate : ℕ) → e.task ≡ OfRow r → r.way ≡ way.Put gate → IsSome (gate_shard (w.cells gate))
  left-gate r gate row is =
      let x : RowWay = row_way e r in
      let has : HasRow (w.actors n) e r = record { errand = errand; row = row } in
      let was : v.ways n ≡ Some x = row-at has in
      let in_leaf : x.place ≡ InLeaf gate = ap place_of is in
      let in_tree = (i.turning.in_leaf n gate x was in_leaf).0 in
      let passed : g.placed x.row.no ≡ true = (i.inserting.on_way n x was).passed ∙ ap has_passed in_leaf in
      let on = live-on s v (g.home x.row.no) (i.placing.stands x.row.no passed) in
      let there = (i.lineage.gate_of (g.home x.row.no) on.0 on.1).1 in
      subst (λ (y : ℕ). IsSome (v.gates y)) in_tree.gate_is (subst IsSome (sym there) refl)

  -- the gate at which it is pinned
  pub pinned-gate : (gate : ℕ) → pin_of e.task ≡ Some gate → IsSome (gate_shard (w.cells gate))
  pinned-gate gate = by e.task refl
    where
      by : (t : TaskValue) → e.task ≡ t → pin_of t ≡ Some gate → IsSome (gate_shard (w.cells gate))
      by (OfRow r) is pin = (let never : ◌≡◌ {A = Option ℕ} None (Some gate) = pin in absurd (cc))
      by (Unread f) is pin = (let never : ◌≡◌ {A = Option ℕ} None (Some gate) = pin in absurd (cc))
      by (Read r) is pin =
          let part : ReadPart = record { server = e.server; shard = e.shard; reading = r } in
          let reads : v.reads n ≡ Some part = ap read_of errand ∙ ap (read_in_task e) is in
          subst IsSome (sym (i.pinning.shard n gate part reads pin)) refl

  -- the block that it noted last is one of a tree
  pub noted-block : (r : ReadingValue) (front : List Item) (item : Item) → e.task ≡ Read r → r.items ≡ front ++ item ∷ [] → (c : ℕ) × (g.owner item.cell ≡ InTree c)
  noted-block r front item task noted =
      let x = walker s w g i n e r front item errand task noted in
      let apart = (each-right (λ (z : Item). z.cell ≡ x.gate → ⊥) front (item ∷ []) x.apart).0 in
      let linked = links-on (cells_at v.blocks v.trees x.gate) (g.shape x.gate) (must_hold s.hierarchy v.history x.part.of x.part.q) (fits (table_of s v.row) x.part.q.filter) front item (g.counted e.server e.shard) apart x.unfinished in
      (x.gate, (i.stocking.tree x.gate item.cell x.whole linked.0 apart).0)
