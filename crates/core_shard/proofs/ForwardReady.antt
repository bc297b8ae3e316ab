-- The call that sends a part on: what its inner functions ask, and what it did.
use Rattle.std.proofs.Common.{◌≡◌, ℕ, List, [], ◌∷◌, true, Some, None, sym, ap, subst, ◌∙◌, Any}
use Rattle.std.specs.FinMap as map
use Rattle.std.specs.{Ordering.nat_cmp, Prelude.{IsSome, position, slice_set}}
use Rattle.dim_hierarchy.specs.Dimension.{Dimension}
use Rattle.mapping_table.specs.declared.place.Where.{Where}
use Rattle.query_router.specs.{Desk.{DeskValue, is_with}, declared.part.Part.Part}
use Rattle.volap_cell.specs.{Cells.{CellValue, DeskCell, DeskOf, MapCell, MapOf, tag_of, where_in}, Errands.{taken_by, taken_of}, ShardKinds.DoesForward, Steps.{IsHere, Makes}, Values.{ActorValue, ErrandValue}, View.view, World.{change, held}, declared.kind.Kind.TheVariants.Forward}
use Rattle.volap_cell.proofs.Views.Shown.{held-desk}
use Rattle.core_shard.specs.Due.{CanForward, CanSend, Sends}
use Rattle.core_shard.proofs.{FinishReady.first-place, ForwardsPart.forward-keeps}

-- the part of an actor has its place on the desk that it holds, beside one other cell
pub its-place : (hs : List Dimension) (at : ℕ) (cell : CellValue) (desk_at : ℕ) (desk : CellValue) (a : ActorValue) → IsHere hs (held at cell ∷ held desk_at desk ∷ []) a → (e : ErrandValue) → a.errand ≡ Some e → (dv : DeskValue) → desk ≡ DeskCell e.server dv
    → IsSome (position (is_with e.shard e.worker) dv.parts)
its-place hs at cell desk_at desk a here e errand dv is =
    let v = view a.setting here.world in
    let takes : v.taken here.number ≡ Some (taken_by e) = ap (λ (x : ActorValue). taken_of x.errand) here.agrees.actor_is ∙ ap taken_of errand in
    let place = here.inv.holds.desking.at_parts here.number (taken_by e) takes in
    let held = held-desk a.setting here.world here.inv.holds.numbering.tag desk_at e.server dv (here.agrees.cells.1.0 ∙ is) in
    first-place (is_with e.shard e.worker) dv.parts (subst (λ (d : DeskValue). Any (λ (p : Part). is_with e.shard e.worker p ≡ true) d.parts) held.1 place.part)

-- a worker's table, and a server's desk, by whose they are

pub its-map : (cell : CellValue) (worker at : ℕ) (table : map.FinMap nat_cmp Where) → cell ≡ MapCell worker table → tag_of cell ≡ MapOf at → cell ≡ MapCell at table
its-map cell worker at table is tag = (let tags : MapOf worker ≡ MapOf at = sym (ap tag_of is) ∙ tag in let same : worker ≡ at = cc in is ∙ ap (λ (x : ℕ). MapCell x table) same)

pub its-desk : (cell : CellValue) (server at : ℕ) (dv : DeskValue) → cell ≡ DeskCell server dv → tag_of cell ≡ DeskOf at → (server ≡ at) × (cell ≡ DeskCell at dv)
its-desk cell server at dv is tag = (let tags : DeskOf server ≡ DeskOf at = sym (ap tag_of is) ∙ tag in let same : server ≡ at = cc in (same, is ∙ ap (λ (x : ℕ). DeskCell x dv) same))

module _ (hs : List Dimension) (map_at : ℕ) (cell : CellValue) (desk_at : ℕ) (desk : CellValue) (a : ActorValue) (here : IsHere hs (held map_at cell ∷ held desk_at desk ∷ []) a) (due : CanForward cell desk a)
    (worker : ℕ) (table : map.FinMap nat_cmp Where) (map_is : cell ≡ MapCell worker table) (server : ℕ) (dv : DeskValue) (desk_is : desk ≡ DeskCell server dv) where
  pub can-send : CanSend table dv due.e
  can-send = record {
    out = due.out;
    found = its-place hs map_at cell desk_at desk a here due.e due.errand dv (its-desk desk server due.e.server dv desk_is due.desk_is).1;
    to = due.to;
    moved = ap (λ (c : CellValue). where_in c due.e.shard) (sym map_is) ∙ due.moved;
  }

  pub forward-makes : (cell2 : CellValue) → cell2 ≡ MapCell worker table → (dv2 : DeskValue) (desk2 : CellValue) (b : ActorValue) → Sends table dv dv2 due.e → desk2 ≡ DeskCell server dv2 → b ≡ record a { errand = None }
      → Makes hs Forward (change map_at cell cell2 ∷ change desk_at desk desk2 ∷ []) a b
  forward-makes cell2 map2_is dv2 desk2 b sends is2 b_is =
      let desk_here = its-desk desk server due.e.server dv desk_is due.desk_is in
      let does : DoesForward (change map_at cell cell2) (change desk_at desk desk2) a b = record {
        e = due.e;
        errand = due.errand;
        wanted = sends.waits.wanted;
        path = sends.waits.path;
        outside = sends.waits.outside;
        to = sends.to;
        leads = record { table = table; was = its-map cell worker due.e.worker table map_is due.map_is; leads = sends.moved; same = map2_is ∙ sym map_is };
        puts = (
          sends.place,
          record {
            desk = dv;
            found = sends.found;
            turns = record {
              was = desk_here.1;
              is = is2 ∙ ap (λ (x : ℕ). DeskCell x dv2) desk_here.0 ∙ ap (DeskCell due.e.server) (sends.puts ∙ (λ k. record dv { parts = slice_set dv.parts sends.place (sends.waits.part k) }));
            };
          },
        );
        actor_is = b_is;
      } in
      record { does = does; keeps = forward-keeps hs (change map_at cell cell2) (change desk_at desk desk2) a b does }
