-- The steps of a part at a seat, each where it is due: what it asks is so in each state that has the actor and the cells that it holds.
use Rattle.std.proofs.Common.{◌≡◌, ◌≢◌, ◌∙◌, ℕ, ◌+◌, ◌<◌, inl, inr, Bool, true, false, not, [], is_some, IsSome, Option, Some, None, refl, sym, ap, subst}
use Rattle.seat_steps.specs.core_due.specs.{Due.{is_empty, led_to, may_enter}, Look.setting_by, Parts.{task_due, visit_due}, Ready.{IsStepPrepared, IsTreePrepared}}
use Rattle.seat_steps.specs.core_due.specs.declared.parts.PartDue.TheVariants.{Tree}
use Rattle.seat_steps.specs.core_due.proofs.{AtParts.{led-gate, part-places}, Owned.{gate-owned, lend-gate, lend-map, off-map}, PartsReady.is-prepared, StepsPrepared.{ending-prepared, enter_queue-prepared, expand-prepared, forward-prepared, give_back-prepared, leave_tree-prepared, look_up-prepared, put_in_leaf-prepared, read_gate-prepared, refill-prepared}}
use Rattle.seat_steps.specs.core_shard.specs.Due.{HasEnd, IsEndOfWay, IsOut}
use Rattle.seat_steps.specs.core_steps.specs.declared.{parts.PartStep.PartStep, trees.TreeStep.TreeStep}
use Rattle.seat_steps.specs.core_steps.specs.declared.parts.PartStep.TheVariants as part
use Rattle.seat_steps.specs.core_steps.specs.declared.trees.TreeStep.TheVariants as tree
use Rattle.dc_node.specs.Block.{is_leaf}
use Rattle.describing_set.specs.declared.plane.Plane.{Plane}
use Rattle.mapping_table.specs.declared.place.Where.{Where}
use Rattle.mapping_table.specs.declared.place.Where.TheVariants as where_is
use Rattle.part_steps.specs.{Parts.{CanEndPart, HasWay, IsFor, IsLed, IsPartSure, IsTreeSure, IsUnread, IsVisiting, IsWith}, declared.parts.AtGate.AtGate}
use Rattle.seat_steps.specs.{Floors.{IsAround, kept_by, kept_on, at_block}, Looks.{Sees, lead_of}, Takes.TakesTurn, declared.{floor.{Floor.Floor, Player.Player}, looks.Lead.Lead}}
use Rattle.seat_steps.specs.declared.looks.Lead.TheVariants as lead
use Rattle.part_steps.specs.declared.parts.AtGate.TheVariants as at_gate
use Rattle.seat_steps.proofs.Around.{still-held, still-sees, still-there}
use Rattle.seat_steps.specs.volap_cell.specs.{Cells.{CellValue, block_in, where_in}, Errands.{Outside, RowPlace, block_at, place_of, way_in_task, way_of}, Setting.{Setting, cell_count, desk_cell, map_cell}, ShardKinds.pin_of, Values.{ActorValue, ErrandValue, OfRow, Read, TaskValue, Unread, actor_of}, World.World, declared.errand.Way.Way}
use Rattle.seat_steps.specs.volap_cell.specs.declared.errand.Way.TheVariants as way
use Rattle.seat_steps.specs.volap_turns.specs.Rows.{IsThere}

-- Where a table leads.

lead-gate : (o : Option Where) (gate : ℕ) → lead.Gate gate ≡ lead_of o → o ≡ Some (where_is.Gate gate)
lead-gate None gate e = absurd (cc)
lead-gate (Some (where_is.Gate g)) gate e = cc
lead-gate (Some (where_is.Split plane left right)) gate e = absurd (cc)
lead-gate (Some (where_is.Moved to)) gate e = absurd (cc)

lead-split : (o : Option Where) → lead.Split ≡ lead_of o → (plane : Plane) × (left : ℕ) × (right : ℕ) × (o ≡ Some (where_is.Split plane left right))
lead-split None e = absurd (cc)
lead-split (Some (where_is.Gate g)) e = absurd (cc)
lead-split (Some (where_is.Split plane left right)) e = (plane, left, right, refl)
lead-split (Some (where_is.Moved to)) e = absurd (cc)

-- a part's shard is in the table of its worker
pub lead-nowhere : {X : Type 0} (o : Option Where) → IsSome o → lead.Nowhere ≡ lead_of o → X
lead-nowhere None some e = cc
lead-nowhere (Some (where_is.Gate g)) some e = absurd (cc)
lead-nowhere (Some (where_is.Split plane left right)) some e = absurd (cc)
lead-nowhere (Some (where_is.Moved to)) some e = absurd (cc)

lead-moved : (o : Option Where) → lead.Moved ≡ lead_of o → (to : ℕ) × (o ≡ Some (where_is.Moved to))
lead-moved None e = absurd (cc)
lead-moved (Some (where_is.Gate g)) e = absurd (cc)
lead-moved (Some (where_is.Split plane left right)) e = absurd (cc)
lead-moved (Some (where_is.Moved to)) e = (to, refl)

-- Who carries no row keeps no cell.

ends-alone : (e : ErrandValue) (t : TaskValue) → HasEnd t → kept_on (way_in_task e t) ≡ []
ends-alone e (OfRow r) (inl placed) = ap (λ (x : Way). at_block (block_at (place_of x))) placed
ends-alone e (OfRow r) (inr out) = ap (λ (x : RowPlace). at_block (block_at x)) out
ends-alone e (Unread f) ends = refl
ends-alone e (Read r) ends = refl

-- How far a part has come.

module _ {a : ActorValue} where
  -- a row can end its part in its place, and before its gate
  pub way-ends : (on : Way) → HasWay a on → IsEndOfWay on → CanEndPart a
  way-ends on k ends = record { e = k.e; errand = k.has.errand; ends = subst HasEnd (sym k.has.row) (subst IsEndOfWay (sym k.way_is) ends) }

  pub unread-ends : IsUnread a → CanEndPart a
  unread-ends u = record { e = u.e; errand = u.errand; ends = subst HasEnd (sym u.unread) tt }

  pub visit-ends : (noted : Option ℕ) → IsVisiting a noted → CanEndPart a
  visit-ends noted v = record { e = v.e; errand = v.errand; ends = subst HasEnd (sym v.task) tt }

  -- so can a part before its gate
  pub for-ends : (due : AtGate) → IsFor due a → CanEndPart a
  for-ends at_gate.LooksUp is = way-ends (way.Before None is.0) is.1 (inr refl)
  for-ends at_gate.Enters is = way-ends (way.Before (Some is.0) true) is.1 (inr refl)
  for-ends at_gate.Reads is = unread-ends is

  -- and no table has led it to a gate yet
  way-out : (on : Way) → HasWay a on → place_of on ≡ Outside → (e : ErrandValue) × (a.errand ≡ Some e) × IsOut e.task
  way-out on k out = (k.e, k.has.errand, subst IsOut (sym k.has.row) (ap place_of k.way_is ∙ out))

  -- What is due before the gate.

  pub before-unknown : (height : Option ℕ) (filled none_is : Bool) → is_some height ≡ not none_is → none_is ≡ true → HasWay a (way.Before height filled) → IsFor at_gate.LooksUp a
  before-unknown None filled none_is e is on = (filled, on)
  before-unknown (Some height) filled none_is e is on = (let never : true ≡ false = e ∙ ap not is in absurd (cc))

  pub before-known : (height : Option ℕ) (filled now none_is : Bool) → is_some height ≡ not none_is → none_is ≡ false → filled ≡ now → HasWay a (way.Before height filled) → (known : ℕ) × HasWay a (way.Before (Some known) now)
  before-known None filled now none_is e is same on = (let never : false ≡ true = e ∙ ap not is in absurd (cc))
  before-known (Some height) filled now none_is e is same on = (height, subst (λ (x : Bool). HasWay a (way.Before (Some height) x)) same on)

  -- Who carries no row keeps no cell.

  pub way-bare : (on : Way) → HasWay a on → block_at (place_of on) ≡ None → kept_by a ≡ []
  way-bare on k none =
      ap (λ o. kept_on (way_of o)) k.has.errand ∙ ap (λ (t : TaskValue). kept_on (way_in_task k.e t)) k.has.row ∙ ap (λ (x : Way). at_block (block_at (place_of x))) k.way_is ∙ ap at_block none

  pub end-bare : CanEndPart a → kept_by a ≡ []
  end-bare c = ap (λ o. kept_on (way_of o)) c.errand ∙ ends-alone c.e c.e.task c.ends

-- before its gate
pub for-out : (a : ActorValue) (due : AtGate) → IsFor due a → (e : ErrandValue) × (a.errand ≡ Some e) × IsOut e.task
for-out a at_gate.LooksUp is = way-out (way.Before None is.0) is.1 refl
for-out a at_gate.Enters is = way-out (way.Before (Some is.0) true) is.1 refl
for-out a at_gate.Reads is = (is.e, is.errand, subst IsOut (sym is.unread) tt)

-- What is so of each state.

module _ (f : Floor) (p : Player) where
  abbrev pub a : ActorValue
  a = actor_of p.actor

  -- a state that the seat may be in is one of those
  pub with-around : (s : Setting) (w : World) → IsAround f p s w → IsWith f p s w
  with-around s w at = record { about = at.about; servers = at.servers; workers = at.workers; inv = at.inv; actor = at.actor; held = at.held }

  module _ (s : Setting) (w : World) (at : IsWith f p s w) where
    pub errand-in : (e : ErrandValue) → a.errand ≡ Some e → (w.actors p.number).errand ≡ Some e
    errand-in e errand = ap (λ (x : ActorValue). x.errand) at.actor ∙ errand

    pub map-in : (worker : ℕ) → map_cell (setting_by [] f.with) worker ≡ map_cell s worker
    map-in worker = ap (λ (n : ℕ). 3 + n + n + worker) (sym at.servers)

    desk-in : (server : ℕ) → desk_cell (setting_by [] f.with) server ≡ desk_cell s server
    desk-in server = ap (λ (n : ℕ). 3 + n + server) (sym at.servers)

    pub seen-in : (k : ℕ) (P : CellValue → Type 0) → IsThere p.seat.view.held k → Sees p k P → P (w.cells k)
    seen-in k P there sees = subst P (sym (at.held k there.0 there.1)) (sees there.0 there.1)

    -- where the held table leads
    module _ (map : ℕ) (to : Lead) (led : IsLed f p map to) (e : ErrandValue) (errand : a.errand ≡ Some e) where
      pub led-map : map ≡ map_cell s e.worker
      led-map = led.map_is e errand ∙ map-in e.worker

      pub led-there : to ≡ lead_of (led_to s w e)
      led-there = subst (λ (y : ℕ). to ≡ lead_of (where_in (w.cells y) e.shard)) led-map (seen-in map (λ cell. to ≡ lead_of (where_in cell e.shard)) led.there (led.leads e errand))

  -- Rows behind their gates, and purses.

  pub refill-sure : (height : ℕ) → HasWay a (way.Before (Some height) false) → IsTreeSure f p tree.Refill
  refill-sure height on s w at = refill-prepared s w at.inv.ghost_of at.inv.holds p.number on.e (errand-in s w at on.e on.has.errand) on.r on.has.row height on.way_is

  pub leave-sure : (gate : ℕ) → HasWay a (way.Put gate) → IsTreeSure f p (tree.LeaveTree gate)
  leave-sure gate on s w at = leave_tree-prepared s w at.inv.ghost_of at.inv.holds p.number on.e (errand-in s w at on.e on.has.errand) on.r on.has.row gate on.way_is

  pub give-back-sure : HasWay a way.Placed → is_empty a.purse ≡ false → IsTreeSure f p tree.GiveBack
  give-back-sure on more s w at =
      give_back-prepared s w at.inv.ghost_of at.inv.holds p.number on.e (errand-in s w at on.e on.has.errand) on.r on.has.row on.way_is (ap (λ (x : ActorValue). is_empty x.purse) at.actor ∙ more)

  pub put-sure : (gate block : ℕ) → HasWay a (way.Carried gate block) → IsThere p.seat.view.held block → Sees p block (λ cell. is_leaf (block_in cell).body ≡ true) → IsTreeSure f p (tree.PutInLeaf block)
  put-sure gate block on there leaf s w at =
      put_in_leaf-prepared s w at.inv.ghost_of at.inv.holds p.number on.e (errand-in s w at on.e on.has.errand) on.r on.has.row gate block on.way_is (seen-in s w at block (λ cell. is_leaf (block_in cell).body ≡ true) there leaf)

  -- Queries.

  pub visit-sure : (block : ℕ) → IsVisiting a (Some block) → IsTreeSure f p (tree.VisitBlock block)
  visit-sure block v s w at =
      is-prepared s w p.number at.inv v.e (errand-in s w at v.e v.errand) (Tree (tree.VisitBlock block))
      (ap (task_due s w (w.actors p.number) v.e) v.task ∙ ap (λ (o : Option ℕ). Some (visit_due s v.e v.reading.pin o)) (sym v.last))

  -- At a gate.

  module _ (map gate : ℕ) (led : IsLed f p map (lead.Gate gate)) where
    pub leads-in : (s : Setting) (w : World) (at : IsWith f p s w) (e : ErrandValue) → a.errand ≡ Some e → led_to s w e ≡ Some (where_is.Gate gate)
    leads-in s w at e errand = lead-gate (led_to s w e) gate (led-there s w at map (lead.Gate gate) led e errand)

    pub look-up-sure : (filled : Bool) → HasWay a (way.Before None filled) → IsPartSure f p (part.LookUp map gate)
    look-up-sure filled on s w at =
        subst (λ (y : ℕ). IsStepPrepared s w p.number (part.LookUp y gate)) (sym (led-map s w at map (lead.Gate gate) led on.e on.has.errand))
        (look_up-prepared s w at.inv.ghost_of at.inv.holds p.number on.e (errand-in s w at on.e on.has.errand) gate (leads-in s w at on.e on.has.errand) on.r filled on.has.row on.way_is)

    pub read-sure : IsUnread a → IsTreeSure f p (tree.ReadGate map gate)
    read-sure u s w at =
        subst (λ (y : ℕ). IsTreePrepared s w p.number (tree.ReadGate y gate)) (sym (led-map s w at map (lead.Gate gate) led u.e u.errand))
        (read_gate-prepared s w at.inv.ghost_of at.inv.holds p.number u.e (errand-in s w at u.e u.errand) gate (leads-in s w at u.e u.errand) u.filter u.unread)

    pub queue-sure : (height : ℕ) → HasWay a (way.Before (Some height) true) → IsThere p.seat.view.held gate → Sees p gate (λ cell. may_enter cell a ≡ false) → IsTreeSure f p (tree.EnterQueue map gate)
    queue-sure height on there shut s w at =
        subst (λ (y : ℕ). IsTreePrepared s w p.number (tree.EnterQueue y gate)) (sym (led-map s w at map (lead.Gate gate) led on.e on.has.errand))
        (enter_queue-prepared s w at.inv.ghost_of at.inv.holds p.number on.e (errand-in s w at on.e on.has.errand) gate (leads-in s w at on.e on.has.errand) on.r height on.has.row on.way_is
        (ap (may_enter (w.cells gate)) at.actor ∙ seen-in s w at gate (λ cell. may_enter cell a ≡ false) there shut))

    -- the gate is there, and isn't the table
    pub gate-there : (s : Setting) (w : World) → IsWith f p s w → (e : ErrandValue) → a.errand ≡ Some e → (gate < cell_count s) × (gate ≢ map)
    gate-there s w at e errand =
        let g = at.inv.ghost_of in
        let i = at.inv.holds in
        let in_w = errand-in s w at e errand in
        let stands = led-gate s w g i p.number e in_w gate (leads-in s w at e errand) in (
          (lend-gate s w g i p.number (Unit {0}) gate stands).within,
          subst (λ (y : ℕ). gate ≢ y) (sym (led-map s w at map (lead.Gate gate) led e errand)) (off-map s w g i e.worker gate (part-places s w g i p.number e in_w).1 (gate-owned s w g i gate stands)),
        )

  -- the table is there
  pub table-there : (s : Setting) (w : World) → IsWith f p s w → (e : ErrandValue) → a.errand ≡ Some e → map_cell s e.worker < cell_count s
  table-there s w at e errand =
      let g = at.inv.ghost_of in
      let i = at.inv.holds in
      (lend-map s w g i p.number (Unit {0}) e.worker (part-places s w g i p.number e (errand-in s w at e errand)).1).within

  -- Back to the desk.

  module _ (e : ErrandValue) (errand : a.errand ≡ Some e) (desk : ℕ) (desk_is : desk ≡ desk_cell (setting_by [] f.with) e.server) where
    desk-here : (s : Setting) (w : World) → IsWith f p s w → desk ≡ desk_cell s e.server
    desk-here s w at = desk_is ∙ desk-in s w at e.server

    module _ (out : IsOut e.task) (map : ℕ) where
      pub forward-sure : IsLed f p map lead.Moved → IsPartSure f p (part.Forward map desk)
      forward-sure led s w at =
          let moved = lead-moved (led_to s w e) (led-there s w at map lead.Moved led e errand) in
          let map_is = led-map s w at map lead.Moved led e errand in
          subst (λ (y : ℕ × ℕ). IsStepPrepared s w p.number (part.Forward y.0 y.1)) (λ j. (sym map_is j, sym (desk-here s w at) j))
          (forward-prepared s w at.inv.ghost_of at.inv.holds p.number e (errand-in s w at e errand) out moved.0 moved.1)

      pub expand-sure : IsLed f p map lead.Split → IsPartSure f p (part.Expand map desk)
      expand-sure led s w at =
          let split = lead-split (led_to s w e) (led-there s w at map lead.Split led e errand) in
          let map_is = led-map s w at map lead.Split led e errand in
          subst (λ (y : ℕ × ℕ). IsStepPrepared s w p.number (part.Expand y.0 y.1)) (λ j. (sym map_is j, sym (desk-here s w at) j))
          (expand-prepared s w at.inv.ghost_of at.inv.holds p.number e (errand-in s w at e errand) out split.0 split.1 split.2 split.3)

    module _ (ends : HasEnd e.task) where
      pub finish-sure : pin_of e.task ≡ None → IsPartSure f p (part.FinishPart desk)
      finish-sure pin s w at =
          subst (λ (y : ℕ). IsStepPrepared s w p.number (part.FinishPart y)) (sym (desk-here s w at)) (ending-prepared s w at.inv.ghost_of at.inv.holds p.number e (errand-in s w at e errand) ends None pin)

      pub pinned-sure : (gate : ℕ) → pin_of e.task ≡ Some gate → IsPartSure f p (part.FinishPinned gate desk)
      pinned-sure gate pin s w at =
          subst (λ (y : ℕ). IsStepPrepared s w p.number (part.FinishPinned gate y)) (sym (desk-here s w at)) (ending-prepared s w at.inv.ghost_of at.inv.holds p.number e (errand-in s w at e errand) ends (Some gate) pin)

-- One cell more.

module _ {cell : ℕ} {rank : Option ℕ} {was now : Player} (took : TakesTurn cell rank was now) where
  number-was : was.number ≡ now.number
  number-was = sym took.same.number

  actor-was : actor_of was.actor ≡ actor_of now.actor
  actor-was = ap actor_of (sym took.same.actor)

  errand-was : (e : ErrandValue) → (actor_of now.actor).errand ≡ Some e → (actor_of was.actor).errand ≡ Some e
  errand-was e errand = ap (λ (x : ActorValue). x.errand) actor-was ∙ errand

  module _ {f : Floor} where
    with-on : (s : Setting) (w : World) → IsWith f now s w → IsWith f was s w
    with-on s w at = record {
      about = at.about;
      servers = at.servers;
      workers = at.workers;
      inv = at.inv;
      actor = ap (λ (n : ℕ). w.actors n) number-was ∙ at.actor ∙ sym actor-was;
      held = λ k c e. at.held k c (still-held took k c e);
    }

    -- what was so of each state is so of those that are left
    pub part-on : (step : PartStep) → IsPartSure f was step → IsPartSure f now step
    part-on step sure s w at = subst (λ (n : ℕ). IsStepPrepared s w n step) number-was (sure s w (with-on s w at))

    pub tree-on : (step : TreeStep) → IsTreeSure f was step → IsTreeSure f now step
    tree-on step sure s w at = subst (λ (n : ℕ). IsTreePrepared s w n step) number-was (sure s w (with-on s w at))

    pub led-on : (map : ℕ) (to : Lead) → IsLed f was map to → IsLed f now map to
    led-on map to led = record {
      there = still-there took map led.there;
      map_is = λ e errand. led.map_is e (errand-was e errand);
      leads = λ e errand. still-sees took map (λ cell. to ≡ lead_of (where_in cell e.shard)) led.there (led.leads e (errand-was e errand));
    }
