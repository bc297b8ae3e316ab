-- A part before its gate: the turns that it waits for, where the held table leads it, and how its row comes in there.
use Rattle.std.proofs.{Common.{◌≡◌, ◌∙◌, ℕ, ◌<◌, ◌==◌, ◌&&◌, true, false, [], ◌∷◌, Some, IsSome, sym, ap, subst, arith}, lemmas.Bool.{and_parts, eqb-true, or_right}}
use Rattle.seat_steps.specs.core_due.specs.Due.{led_to, may_enter}
use Rattle.seat_steps.specs.core_due.proofs.StepsPrepared.{carried-own}
use Rattle.dc_node.specs.Block.{is_leaf}
use Rattle.part_steps.specs.{Parts.{HasWay, IsLed, IsRouteOf, MayWaitFor}, Rows.{IsToDescend, IsToEnter}, declared.parts.Route.Route}
use Rattle.seat_steps.specs.{Floors.{IsSeated, at_block, kept_by, kept_on}, Looks.{Sees, lead_of}, declared.{floor.{Floor.Floor, Player.Player}, looks.Lead.Lead}}
use Rattle.seat_steps.specs.declared.looks.Lead.TheVariants as lead
use Rattle.part_steps.proofs.{PartsSure.{errand-in, gate-there, lead-nowhere, leads-in, led-map, led-there, map-in, seen-in, table-there, with-around}, Takings.{first-turn, second-turn}}
use Rattle.seat_steps.proofs.Around.{around, kept-there, within}
use Rattle.query_router.specs.{Desk.{is_open, is_taken, is_waiting}, declared.part.Part.Part}
use Rattle.turn_table.specs.Seat.{cell_count, free_rank}
use Rattle.seat_steps.specs.volap_cell.specs.{Cells.{block_in, where_in}, Errands.{block_at, place_of, taken_by, taken_of, way_in_task, way_of}, Setting.map_cell, Values.{ActorValue, ErrandValue, TaskValue, actor_of}, View.view, declared.errand.Way.Way}
use Rattle.seat_steps.specs.volap_cell.specs.declared.errand.Way.TheVariants as way
use Rattle.seat_steps.specs.volap_turns.specs.Rows.{IsThere}

module _ (f : Floor) (p : Player) (seated : IsSeated f p) where
  abbrev pub a : ActorValue
  a = actor_of p.actor

  -- the turn of the table comes first
  pub table-turn : (e : ErrandValue) → a.errand ≡ Some e → (route : Route) → IsRouteOf f e route → p.seat.ranks ≡ [] → MayWaitFor f p route.map 1
  table-turn e errand route is bare =
      let k = around f p seated in
      let at = with-around f p k.0 k.1 k.2 in
      let low = within f p k.0 k.1 k.2 (map_cell k.0 e.worker) (table-there f p k.0 k.1 at e errand) in
      first-turn f p seated route.map 1 (subst (λ (y : ℕ). y < cell_count f.table) (sym (is.map ∙ map-in f p k.0 k.1 at e.worker)) low) bare

  module _ (map gate : ℕ) (led : IsLed f p map (lead.Gate gate)) where
    -- then that of the gate
    pub gate-turn : (e : ErrandValue) → a.errand ≡ Some e → p.seat.ranks ≡ (map, Some 1) ∷ [] → MayWaitFor f p gate 2
    gate-turn e errand ranks =
        let k = around f p seated in
        let there = gate-there f p map gate led k.0 k.1 (with-around f p k.0 k.1 k.2) e errand in
        second-turn f p seated gate 2 map 1 (within f p k.0 k.1 k.2 gate there.0) ranks (omega arith) there.1

    -- where rows come in at it, the actor's does
    pub comes-in : (height : ℕ) → HasWay a (way.Before (Some height) true) → IsThere p.seat.view.held gate → Sees p gate (λ cell. may_enter cell a ≡ true) → IsToEnter f p map gate
    comes-in height on there opens s w at =
        let is = with-around f p s w at in
        record {
          e = on.e;
          r = on.r;
          height = height;
          errand = ap (λ (x : ActorValue). x.errand) at.actor ∙ on.has.errand;
          row = on.has.row;
          way_is = on.way_is;
          map_is = led-map f p s w is map (lead.Gate gate) led on.e on.has.errand;
          leads = leads-in f p map gate led s w is on.e on.has.errand;
          may = ap (may_enter (w.cells gate)) at.actor ∙ seen-in f p s w is gate (λ cell. may_enter cell a ≡ true) there opens;
        }

  -- it leads somewhere: each part that an actor is at is one of its desk, and is in the table of its worker
  module _ (map : ℕ) (e : ErrandValue) (errand : a.errand ≡ Some e) where
    pub led-somewhere : {X : Type 0} → IsLed f p map lead.Nowhere → X
    led-somewhere led =
        let (s, w, is_around) = around f p seated in
        let at = with-around f p s w is_around in
        let i = at.inv.holds in
        let here = i.desking.at_parts p.number (taken_by e) (ap taken_of (errand-in f p s w at e errand)) in
        let q : Part = here.part.1 in
        let both = and_parts (q.shard == e.shard && q.worker == e.worker) (is_taken q) here.part.4 in
        let is = and_parts (q.shard == e.shard) (q.worker == e.worker) both.0 in
        let known = subst (λ (r : Part). is_open r ≡ true → (r.worker < s.workers) × IsSome ((view s w).maps r.worker r.shard)) here.part.3 (i.leading.parts e.server here.within here.part.0 q here.part.2) (or_right (is_waiting q) (is_taken q) both.1) in
        let some : IsSome (led_to s w e) = subst (λ (r : ℕ × ℕ). IsSome ((view s w).maps r.0 r.1)) (λ k. (eqb-true q.worker e.worker is.1 k, eqb-true q.shard e.shard is.0 k)) known.1 in
        lead-nowhere (led_to s w e) some (led-there f p s w at map lead.Nowhere led e errand)

  -- A row that is carried.

  module _ (gate block : ℕ) (on : HasWay a (way.Carried gate block)) where
    pub carried-there : IsThere p.seat.view.held block
    carried-there = kept-there f p seated block (carried-own a on.e on.r gate block on.has.errand on.has.row on.way_is)

    -- it goes down from a directory
    pub goes-down : Sees p block (λ cell. is_leaf (block_in cell).body ≡ false) → IsToDescend f p block
    goes-down directory s w at = record {
      e = on.e;
      r = on.r;
      gate = gate;
      errand = ap (λ (x : ActorValue). x.errand) at.actor ∙ on.has.errand;
      row = on.has.row;
      way_is = on.way_is;
      directory = seen-in f p s w (with-around f p s w at) block (λ cell. is_leaf (block_in cell).body ≡ false) carried-there directory;
    }

-- its block is what it must keep
pub way-kept : (a : ActorValue) (gate block : ℕ) → HasWay a (way.Carried gate block) → kept_by a ≡ (block, Some free_rank) ∷ []
way-kept a gate block on = ap (λ o. kept_on (way_of o)) on.has.errand ∙ ap (λ (t : TaskValue). kept_on (way_in_task on.e t)) on.has.row ∙ ap (λ (x : Way). at_block (block_at (place_of x))) on.way_is

-- where a table leads that was looked into
pub led-seen : (f : Floor) (p : Player) (route : Route) (to : Lead) → ((e : ErrandValue) → (actor_of p.actor).errand ≡ Some e → IsRouteOf f e route) → IsThere p.seat.view.held route.map → Sees p route.map (λ cell. to ≡ lead_of (where_in cell route.shard))
    → IsLed f p route.map to
led-seen f p route to is there seen = record {
  there = there;
  map_is = λ e errand. (is e errand).map;
  leads = λ e errand. subst (λ (x : ℕ). Sees p route.map (λ cell. to ≡ lead_of (where_in cell x))) (is e errand).shard seen;
}
