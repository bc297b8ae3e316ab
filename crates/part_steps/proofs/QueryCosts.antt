-- What is counted for a query: the gate that it reads can be tested, and a query over everything tests nothing there.
use mathlib.Core.Option.{some}
use Rattle.std.proofs.Common.{◌≡◌, ◌∙◌, ℕ, List, get_or, true, Option, Some, None, refl, sym, ap, subst}
use Rattle.describing_set.proofs.Filters.{is_inside-IsInside}
use Rattle.describing_set.specs.{DescSet.part_at, Filter.is_inside}
use Rattle.dim_hierarchy.specs.{Dimension.{Dimension, tree}, Filter.IsFilterOf, Meaning.IsPicked, declared.filter.Pick.Pick}
use Rattle.part_steps.specs.{Counts.{CanTest, HasReadAlone, IsOfEverything, Tests, tests_in_queue}, Parts.{IsLed, IsUnread, IsVisiting}}
use Rattle.part_steps.proofs.{NoRows.its-task, PartsSure.{errand-in, leads-in, with-around}}
use Rattle.seat_steps.proofs.Around.{around}
use Rattle.seat_steps.specs.{Floors.IsSeated, Looks.Sees, declared.floor.{Floor.Floor, Player.Player}}
use Rattle.seat_steps.specs.declared.looks.Lead.TheVariants as lead
use Rattle.turn_table.specs.Numbered.{value_of}
use Rattle.seat_steps.specs.core_due.specs.Wants.{last_noted}
use Rattle.seat_steps.specs.core_due.proofs.{AtParts.led-gate, Gates.gate-is}
use Rattle.seat_steps.specs.core_tree.specs.ReadDue.{IsOfAll}
use Rattle.seat_steps.specs.shard_store.specs.{Gate.IsQueueOf, declared.queue.Queue.Queue}
use Rattle.seat_steps.specs.volap_cell.proofs.Desks.Queries.{query-part}
use Rattle.seat_steps.specs.volap_cell.specs.{Cells.{CellValue, cell_of, queue_in}, Errands.{taken_by, taken_of, want_of}, Values.{ActorValue, ErrandValue, Read, ReadingValue, Unread, actor_of}, View.{View, view}, declared.cell.Cell.Cell}

-- What a query over everything tests.

no-tests : (h : List Dimension) (f : List Pick) (queue : Queue) → IsFilterOf h f → IsQueueOf h queue → IsOfAll h f → tests_in_queue h f queue ≡ 0
no-tests h f queue filter valid all =
    let inside : is_inside h queue.set f ≡ true = (is_inside-IsInside h queue.set f valid.valid filter).1
    (record { picked = λ dim lt k d within. subst (λ (p : Pick). IsPicked (tree h dim) p (get_or (part_at queue.set dim).ids.items k d)) (sym (all dim lt)) tt }) in
    rw inside refl

module _ (f : Floor) (p : Player) (seated : IsSeated f p) (map gate : ℕ) (led : IsLed f p map (lead.Gate gate)) where
  abbrev a : ActorValue
  a = actor_of p.actor

  -- the gate to which the held table leads the actor's query can be tested
  pub can-test : IsUnread a → Sees p gate (λ cell. CanTest f.hierarchy a cell)
  can-test u c e =
      let (s, w, is_around) = around f p seated in
      let at = with-around f p s w is_around in
      let v : View = view s w in
      let i = at.inv.holds in
      let own = errand-in f p s w at u.e u.errand in
      let part = query-part s v.history v.desks v.roles v.commands v.taken i.desking p.number (taken_by u.e) u.filter (ap taken_of own) (ap want_of u.unread) in
      let stands = led-gate s w at.inv.ghost_of i p.number u.e own gate (leads-in f p map gate led s w at u.e u.errand) in
      let (it, is) = gate-is (w.cells gate) stands in
      record {
        unread = u;
        gate = it;
        gate_is = sym (at.held gate c e) ∙ is;
        queue = subst (λ (h : List Dimension). IsQueueOf h it.queue) at.about (subst (IsQueueOf s.hierarchy) (ap queue_in is) (i.queueing.queue gate stands));
        filter = subst (λ (h : List Dimension). IsFilterOf h u.filter) at.about (subst (IsFilterOf s.hierarchy) part.filter (i.telling.filters part.of part.q part.asked).0);
      }

  -- a query over everything tests nothing there
  pub none-tested : (c : Cell) (tests : ℕ) → value_of p.seat.view.held gate ≡ some c → Tests f.hierarchy a (cell_of c) tests → IsOfEverything f.hierarchy a → tests ≡ 0
  unfolding can-test
  none-tested c tests e counts of_all =
      let can = can-test of_all.unread c e in
      counts of_all.unread ∙ ap (λ (x : CellValue). tests_in_queue f.hierarchy of_all.unread.filter (queue_in x)) can.gate_is ∙ no-tests f.hierarchy of_all.unread.filter can.gate.queue can.filter can.queue of_all.all

-- A part has read its gate or it hasn't.

pub not-read : {X : Type 0} (x : ActorValue) → IsUnread x → (e : ErrandValue) (r : ReadingValue) → x.errand ≡ Some e → e.task ≡ Read r → X
not-read x u e r errand task = (let never : Unread u.filter ≡ Read r = sym u.unread ∙ its-task x u.e e u.errand errand ∙ task in absurd (cc))

-- one that has read it alone has noted no block
pub none-noted : {X : Type 0} (x : ActorValue) (noted : Option ℕ) (block : ℕ) → IsVisiting x noted → noted ≡ Some block → HasReadAlone x → X
none-noted x noted block v is r =
    let same : Read v.reading ≡ Read r.reading = sym v.task ∙ its-task x v.e r.e v.errand r.errand ∙ r.task in
    let one : v.reading ≡ r.reading = cc in
    let never : None ≡ Some block = sym (v.last ∙ ap (λ (z : ReadingValue). last_noted z.items) one ∙ ap last_noted r.none) ∙ is in
    absurd (cc)
