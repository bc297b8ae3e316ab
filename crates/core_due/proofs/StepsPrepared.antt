-- The steps of a part, each where it is due: its cells are there, and it may be made.
use Rattle.std.proofs.{Common.{◌≡◌, ◌≢◌, ◌∙◌, ℕ, ◌<◌, inl, inr, Bool, true, false, IsSome, List, [], ◌∷◌, ◌++◌, Option, Some, None, refl, sym, ap, subst}, lemmas.Bool.cases_lt}
use Rattle.std.specs.Prelude.{⊤, if◌then◌else◌}
use Rattle.core_due.specs.{Due.{is_empty, led_to, may_enter}, Parts.ending, Ready.{IsFreeFor, IsStepPrepared, IsTreePrepared}}
use Rattle.core_due.proofs.{AtParts.{led-gate, left-gate, noted-block, part-no-job, part-places, part-there, pinned-gate}, Gates.{gate-is, must-queue}, Tables.{IsTable, table-of}, Owned.{desk-tag, gate-owned, lend-block, lend-desk, lend-gate, lend-map, lend-own, lend-stock, map-off-desk, map-tag, off-desk, off-map, stock-tag}}
use Rattle.core_steps.specs.core_shard.specs.Due.{HasEnd, IsGateOf, IsOut}
use Rattle.core_steps.specs.declared.parts.PartStep.TheVariants as part
use Rattle.core_steps.specs.declared.trees.TreeStep.TheVariants as tree
use Rattle.dc_node.specs.{Block.is_leaf, declared.todo.Item.Item}
use Rattle.describing_set.specs.declared.plane.Plane.{Plane}
use Rattle.dim_hierarchy.specs.declared.filter.Pick.{Pick}
use Rattle.mapping_table.specs.declared.place.Where.TheVariants as where_is
use Rattle.core_steps.specs.volap_cell.specs.{Cells.{CellValue, block_in, gate_shard}, Errands.{IsCarried, block_at, height_in_task, height_of, height_to_fill, is_filled, place_of, way_in_task, way_of}, Ghost.Ghost, Invariant.InvWith, Setting.{Setting, actor_count, desk_cell, map_cell}, ShardKinds.pin_of, TreeKinds.HasRow, Values.{ActorValue, ErrandValue, OfRow, Read, ReadingValue, TaskValue, Unread}, View.view, World.{MustKeep, World}, declared.errand.RowErrand.RowErrand, declared.errand.Way.Way}
use Rattle.core_steps.specs.volap_cell.specs.declared.errand.Way.TheVariants as way

-- an actor that carries its row at a block must keep that
pub carried-own : (a : ActorValue) (e : ErrandValue) (r : RowErrand) (gate block : ℕ) → a.errand ≡ Some e → e.task ≡ OfRow r → r.way ≡ way.Carried gate block → MustKeep a block
carried-own a e r gate block errand row is =
    let place : block_at (place_of r.way) ≡ Some block = ap (λ (x : Way). block_at (place_of x)) is in
    let task : IsCarried (way_in_task e e.task) block = subst (λ (t : TaskValue). IsCarried (way_in_task e t) block) (sym row) place in
    subst (λ (o : Option ErrandValue). IsCarried (way_of o) block) (sym errand) task

-- and one whose row is in its place none
rest-keeps : (a : ActorValue) (e : ErrandValue) (r : RowErrand) (y : ℕ) → a.errand ≡ Some e → e.task ≡ OfRow r → r.way ≡ way.Placed → ¬ MustKeep a y
rest-keeps a e r y errand row is keeps =
    let place : block_at (place_of r.way) ≡ Some y = subst (λ (t : TaskValue). IsCarried (way_in_task e t) y) row (subst (λ (o : Option ErrandValue). IsCarried (way_of o) y) errand keeps) in
    let never : ◌≡◌ {A = Option ℕ} None (Some y) = sym (ap (λ (x : Way). block_at (place_of x)) is) ∙ place in
    absurd (cc)

not-empty : {A : Type 0} (xs : List A) → is_empty xs ≡ false → xs ≢ []
not-empty xs some none = (let never : true ≡ false = sym (ap is_empty none) ∙ some in cc)

module _ (s : Setting) (w : World) (g : Ghost) (i : InvWith s (view s w) g) (n : ℕ) (e : ErrandValue) (errand : (w.actors n).errand ≡ Some e) where
  server-low : e.server < s.servers
  server-low = (part-places s w g i n e errand).0

  worker-low : e.worker < s.workers
  worker-low = (part-places s w g i n e errand).1

  there : n < actor_count s
  there = part-there s w g i n e errand

  -- Between desks and tables.

  abbrev map_at : ℕ
  map_at = map_cell s e.worker

  abbrev desk_at : ℕ
  desk_at = desk_cell s e.server

  pub forward-prepared : IsOut e.task → (to : ℕ) → led_to s w e ≡ Some (where_is.Moved to) → IsStepPrepared s w n (part.Forward map_at desk_at)
  forward-prepared out to leads = record {
    cells = (lend-map s w g i n ⊤ e.worker worker-low, (lend-desk s w g i n ⊤ e.server server-low, tt));
    apart = ((map-off-desk s w g i e.server e.worker server-low, tt), (tt, tt));
    actor = there;
    asked = record { e = e; errand = errand; out = out; map_is = map-tag s w g i e.worker worker-low; to = to; moved = leads; desk_is = desk-tag s w g i e.server server-low };
  }

  pub expand-prepared : IsOut e.task → (plane : Plane) (left right : ℕ) → led_to s w e ≡ Some (where_is.Split plane left right) → IsStepPrepared s w n (part.Expand map_at desk_at)
  expand-prepared out plane left right leads = record {
    cells = (lend-map s w g i n ⊤ e.worker worker-low, (lend-desk s w g i n ⊤ e.server server-low, tt));
    apart = ((map-off-desk s w g i e.server e.worker server-low, tt), (tt, tt));
    actor = there;
    asked = record { e = e; errand = errand; out = out; map_is = map-tag s w g i e.worker worker-low; plane = plane; left = left; right = right; split = leads; desk_is = desk-tag s w g i e.server server-low };
  }

  -- it ends with the gate at which it is pinned, or with none
  pub ending-prepared : HasEnd e.task → (pin : Option ℕ) → pin_of e.task ≡ pin → IsStepPrepared s w n (ending s e pin)
  ending-prepared ends None pin = record {
    cells = (lend-desk s w g i n ⊤ e.server server-low, tt);
    apart = (tt, tt);
    actor = there;
    asked = record { e = e; errand = errand; ends = ends; desk_is = desk-tag s w g i e.server server-low; gate_of = subst (λ (p : Option ℕ). IsGateOf p 0 None) (sym pin) tt };
  }
  ending-prepared ends (Some gate) pin =
      let stands = pinned-gate s w g i n e errand gate pin in
      record {
        cells = (lend-gate s w g i n ⊤ gate stands, (lend-desk s w g i n ⊤ e.server server-low, tt));
        apart = ((off-desk s w g i e.server gate server-low (gate-owned s w g i gate stands), tt), (tt, tt));
        actor = there;
        asked = record {
          e = e;
          errand = errand;
          ends = ends;
          desk_is = desk-tag s w g i e.server server-low;
          gate_of = subst (λ (p : Option ℕ). IsGateOf p gate (Some (w.cells gate))) (sym pin) refl;
        };
      }

  -- At a gate.

  module _ (gate : ℕ) (leads : led_to s w e ≡ Some (where_is.Gate gate)) where
    stands : IsSome (gate_shard (w.cells gate))
    stands = led-gate s w g i n e errand gate leads

    off : gate ≢ map_at
    off = off-map s w g i e.worker gate worker-low (gate-owned s w g i gate stands)

    table : IsTable (w.cells map_at) e.worker e.shard (where_is.Gate gate)
    table = table-of (w.cells map_at) e.worker e.shard (where_is.Gate gate) (map-tag s w g i e.worker worker-low) leads

    pub look_up-prepared : (r : RowErrand) (filled : Bool) → e.task ≡ OfRow r → r.way ≡ way.Before None filled → IsStepPrepared s w n (part.LookUp map_at gate)
    look_up-prepared r filled row is = record {
      cells = (lend-map s w g i n ⊤ e.worker worker-low, (lend-gate s w g i n ⊤ gate stands, tt));
      apart = ((off, tt), (tt, tt));
      actor = there;
      asked = record { e = e; r = r; has = record { errand = errand; row = row }; filled = filled; unknown = is; map_is = map-tag s w g i e.worker worker-low; leads = leads };
    }

    pub read_gate-prepared : (filter : List Pick) → e.task ≡ Unread filter → IsTreePrepared s w n (tree.ReadGate map_at gate)
    read_gate-prepared filter task = record {
      cells = (lend-map s w g i n ⊤ e.worker worker-low, (lend-gate s w g i n ⊤ gate stands, tt));
      apart = ((off, tt), (tt, tt));
      actor = there;
      asked = record { e = e; errand = errand; filter = filter; unread = task; places = table.places; table_is = table.is; leads = table.leads };
    }

    pub enter_queue-prepared : (r : RowErrand) (height : ℕ) → e.task ≡ OfRow r → r.way ≡ way.Before (Some height) true → may_enter (w.cells gate) (w.actors n) ≡ false → IsTreePrepared s w n (tree.EnterQueue map_at gate)
    enter_queue-prepared r height row is may =
        let found = gate-is (w.cells gate) stands in
        record {
          cells = (lend-map s w g i n ⊤ e.worker worker-low, (lend-gate s w g i n ⊤ gate stands, tt));
          apart = ((off, tt), (tt, tt));
          actor = there;
          asked = record {
            e = e;
            r = r;
            has = record { errand = errand; row = row };
            outside = ap place_of is;
            leads = record { table = table.places; was = table.is; leads = table.leads; same = refl };
            gate = found.0;
            gate_is = found.1;
            why = must-queue found.0 (w.actors n) height r.way is (ap (λ (c : CellValue). may_enter c (w.actors n)) (sym found.1) ∙ may);
          };
        }

  -- A row in a tree, and purses.

  module _ (r : RowErrand) (row : e.task ≡ OfRow r) where
    has : HasRow (w.actors n) e r
    has = record { errand = errand; row = row }

    pub refill-prepared : (height : ℕ) → r.way ≡ way.Before (Some height) false → IsTreePrepared s w n tree.Refill
    refill-prepared height is = record {
      cells = (lend-stock s w g i n ⊤, tt);
      apart = (tt, tt);
      actor = there;
      asked = record { stock_is = stock-tag s w g i; no_job = part-no-job s w g i n e errand; e = e; r = r; has = has; height = height; noted = ap height_of is; unfilled = ap is_filled is };
    }

    pub put_in_leaf-prepared : (gate block : ℕ) → r.way ≡ way.Carried gate block → is_leaf (block_in (w.cells block)).body ≡ true → IsTreePrepared s w n (tree.PutInLeaf block)
    put_in_leaf-prepared gate block is leaf =
        let own = carried-own (w.actors n) e r gate block errand row is in
        record { cells = (lend-own s w g i n ⊤ block own, tt); apart = (tt, tt); actor = there; asked = record { carried = own; leaf = leaf } }

    pub leave_tree-prepared : (gate : ℕ) → r.way ≡ way.Put gate → IsTreePrepared s w n (tree.LeaveTree gate)
    leave_tree-prepared gate is = record {
      cells = (lend-gate s w g i n ⊤ gate (left-gate s w g i n e errand r gate row is), tt);
      apart = (tt, tt);
      actor = there;
      asked = record { e = e; r = r; has = has; put = is };
    }

    pub give_back-prepared : r.way ≡ way.Placed → is_empty (w.actors n).purse ≡ false → IsTreePrepared s w n tree.GiveBack
    give_back-prepared is some = record {
      cells = (lend-stock s w g i n ⊤, tt);
      apart = (tt, tt);
      actor = there;
      asked = record {
        stock_is = stock-tag s w g i;
        no_job = part-no-job s w g i n e errand;
        some = not-empty (w.actors n).purse some;
        none_to_fill = ap height_to_fill errand ∙ ap height_in_task row ∙ ap (λ (x : Way). if is_filled x then None else height_of x) is;
        none_carried = λ y. rest-keeps (w.actors n) e r y errand row is;
      };
    }

  -- A query in a tree.

  pub visit-prepared : (r : ReadingValue) (front : List Item) (item : Item) → e.task ≡ Read r → r.items ≡ front ++ item ∷ [] → IsTreePrepared s w n (tree.VisitBlock item.cell)
  visit-prepared r front item task noted =
      let block = noted-block s w g i n e errand r front item task noted in
      record {
        cells = (lend-block s w g i n (IsFreeFor w n (tree.VisitBlock item.cell)) block.0 item.cell block.1 (λ free. free), tt);
        apart = (tt, tt);
        actor = there;
        asked = record { e = e; errand = errand; r = r; reading = task; last = record { items = front; item = item; noted = noted; here = refl } };
      }

-- Without a part.

-- spares that an actor without a part or a job has go back to the stock
pub spares-prepared : (s : Setting) (w : World) (g : Ghost) → InvWith s (view s w) g → (n : ℕ) → (w.actors n).errand ≡ None → (w.actors n).job ≡ None → is_empty (w.actors n).purse ≡ false → IsTreePrepared s w n tree.GiveBack
spares-prepared s w g i n none no_job some = record {
  cells = (lend-stock s w g i n ⊤, tt);
  apart = (tt, tt);
  actor = elim (cases_lt n (actor_count s)) [ inl here ↦ here | inr past ↦ absurd (not-empty (w.actors n).purse some (i.numbering.nobody n past).1) ];
  asked = record {
    stock_is = stock-tag s w g i;
    no_job = no_job;
    some = not-empty (w.actors n).purse some;
    none_to_fill = ap height_to_fill none;
    none_carried = λ y keeps. subst (λ (o : Option ErrandValue). IsCarried (way_of o) y) none keeps;
  };
}
