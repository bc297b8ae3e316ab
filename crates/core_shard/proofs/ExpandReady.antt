-- The call that expands a part: what its inner functions ask, and what it did.
use Rattle.std.proofs.Common.{◌≡◌, ℕ, List, [], ◌∷◌, ◌++◌, Option, Some, None, option_map, refl, sym, ap, subst, ◌∙◌}
use Rattle.std.specs.FinMap as map
use Rattle.std.specs.{Ordering.nat_cmp, Prelude.{Err, IsSome, Ok, OnOk, Result, position, slice_set}}
use Rattle.describing_set.specs.{Plane.IsHierarchyPlane, declared.plane.Plane.Plane}
use Rattle.dim_hierarchy.specs.{Dimension.Dimension, Row.IsCoordOf, declared.row.Row.Row}
use Rattle.mapping_table.specs.declared.place.Where.{Where}
use Rattle.mapping_table.specs.declared.place.Where.TheVariants as where_is
use Rattle.query_router.specs.{Desk.{DeskValue, is_with}, declared.part.Part.Part, declared.part.Want.Want}
use Rattle.query_router.specs.declared.part.Want.TheVariants as want
use Rattle.list_words.proofs.Elements.{Some-same}
use Rattle.volap_cell.specs.{Cells.{CellValue, DeskCell, MapCell, where_in}, Errands.{taken_by, taken_of}, ShardKinds.{DoesExpand, IsOutside, PutsChildren, TurnsDesk, child_for, waiting}, Steps.{IsHere, Makes}, Values.{ActorValue, ErrandValue, OfRow, Read, TaskValue, Unread, errand_of, task_of}, View.{View, view}, World.{change, held}, declared.errand.Errand.Errand, declared.errand.RowErrand.RowErrand, declared.errand.Task.Task, declared.kind.Kind.TheVariants.Expand}
use Rattle.volap_cell.specs.declared.errand.Task.TheVariants as task_is
use Rattle.volap_cell.proofs.Views.Shown.{held-leads}
use Rattle.core_shard.specs.Due.{CanDivide, CanExpand, CanGoDown, Divides, HasCoord, IsOut, IsRowOn, PutsOn, WaitsFor}
use Rattle.core_shard.proofs.{BackFacts.row-begun, ExpandsPart.expand-keeps, ForwardReady.{its-desk, its-map, its-place}}

-- what two clauses say of an Ok
pub on-both : {T E : Type 0} {P Q R : Type 0} (r : Result T E) → (P → Q → R) → OnOk r P → OnOk r Q → OnOk r R
on-both (Ok x) f p q = f p q
on-both (Err x) f p q = tt

-- A row's part.

-- the errand of a row that goes on to its child
abbrev pub gone_down : List Dimension → Plane → (left right : ℕ) → Errand → RowErrand → Errand
gone_down h plane left right e r = record e { shard = child_for h plane left right r; task = task_is.Row (record r { path = r.path ++ child_for h plane left right r ∷ [] }) }

pub down-out : (h : List Dimension) (plane : Plane) (left right : ℕ) (o : Option Errand) (had : Errand) (due : CanGoDown h plane o) → gone_down h plane left right due.e due.r ≡ had → IsOut (task_of had.task)
down-out h plane left right o had due is = subst (λ (z : Errand). IsOut (task_of z.task)) is due.outside

pub row-on : (h : List Dimension) (plane : Plane) (left right place : ℕ) (desk desk2 : DeskValue) (e : Errand) (r : RowErrand) (had : Errand) (part : Part) → gone_down h plane left right e r ≡ had → WaitsFor (errand_of had) had.worker part
    → desk2 ≡ record desk { parts = slice_set desk.parts place part } → IsRowOn h plane left right place desk desk2 e r
row-on h plane left right place desk desk2 e r had part is waits puts =
    let w : WaitsFor (errand_of (gone_down h plane left right e r)) e.worker part = subst (λ (z : Errand). WaitsFor (errand_of z) z.worker part) (sym is) waits in
    let child = child_for h plane left right r in
    let outside = w.outside in
    let part_is : part ≡ waiting child e.worker (r.path ++ child ∷ []) (want.Row r.row) = w.part ∙ (λ k. waiting child e.worker (outside.2 k) (outside.1 k)) in
    puts ∙ (λ k. record desk { parts = slice_set desk.parts place (part_is k) })

-- what was done for a row's part, beside where it stood
pub divided-row : (h : List Dimension) (table : map.FinMap nat_cmp Where) (desk desk2 : DeskValue) (errand : Option Errand) (had : Errand) → errand ≡ Some had → (r : RowErrand) → had.task ≡ task_is.Row r
    → (plane : Plane) (left right : ℕ) → map.get table had.shard ≡ Some (where_is.Split plane left right) → (place : ℕ) → position (is_with had.shard had.worker) desk.parts ≡ Some place
    → ((e : Errand) (r : RowErrand) → errand ≡ Some e → e.task ≡ task_is.Row r → IsRowOn h plane left right place desk desk2 e r) → (e : Errand) → errand ≡ Some e → Divides h table desk desk2 (errand_of e)
divided-row h table desk desk2 errand had is r row plane left right split place found done e is_e =
    subst (λ (z : Errand). Divides h table desk desk2 (errand_of z)) (Some-same e had (sym is_e ∙ is)) (record {
      plane = plane;
      left = left;
      right = right;
      split = split;
      place = place;
      found = found;
      puts = subst (λ (t : Task). PutsOn h (errand_of had) (task_of t) plane left right place desk desk2) (sym row) (done had r is row);
    })

-- Of the cells.

module _ (hs : List Dimension) (map_at : ℕ) (cell : CellValue) (desk_at : ℕ) (desk : CellValue) (a : ActorValue) (here : IsHere hs (held map_at cell ∷ held desk_at desk ∷ []) a) (due : CanExpand cell desk a)
    (worker : ℕ) (table : map.FinMap nat_cmp Where) (map_is : cell ≡ MapCell worker table) (server : ℕ) (dv : DeskValue) (desk_is : desk ≡ DeskCell server dv) where
  abbrev v : View
  v = view a.setting here.world

  its-coord : (task : TaskValue) → due.e.task ≡ task → HasCoord hs task
  its-coord (OfRow r) is =
      let takes : v.taken here.number ≡ Some (taken_by due.e) = ap (λ (x : ActorValue). taken_of x.errand) here.agrees.actor_is ∙ ap taken_of due.errand in
      let (x, begun, row, number) = row-begun a.setting v here.inv.ghost_of here.inv.holds here.number due.e takes r is in
      let coord = (here.inv.holds.telling.rows _ x begun).0 in
      subst (λ (d : List Dimension). IsCoordOf d r.row.at) here.about (subst (λ (z : Row). IsCoordOf a.setting.hierarchy z.at) row coord)
  its-coord (Unread f) is = tt
  its-coord (Read r) is = tt

  pub can-divide : (errand : Option Errand) → option_map errand_of errand ≡ a.errand → CanDivide hs table dv errand
  can-divide errand same = from errand (same ∙ due.errand)
    where
      from : (o : Option Errand) → option_map errand_of o ≡ Some due.e → CanDivide hs table dv o
      from None is = (let never : ◌≡◌ {A = Option ErrandValue} None (Some due.e) = is in absurd (cc))
      from (Some e) is =
          let it : due.e ≡ errand_of e = Some-same (errand_of e) due.e is in
          let leads = held-leads a.setting here.world here.inv.holds.numbering.tag (held map_at cell) here.agrees.cells.0 due.e.worker due.e.shard (where_is.Split due.plane due.left due.right)
          (record { table = table; was = its-map cell worker due.e.worker table map_is due.map_is; leads = ap (λ (c : CellValue). where_in c due.e.shard) (sym map_is) ∙ due.split; same = refl }) in
          let valid = here.inv.holds.lineage.divided due.e.worker due.e.shard due.left due.right due.plane leads.1 in
          let split : map.get table due.e.shard ≡ Some (where_is.Split due.plane due.left due.right) = ap (λ (c : CellValue). where_in c due.e.shard) (sym map_is) ∙ due.split in
          record {
            e = e;
            had = refl;
            out = subst (λ (z : ErrandValue). IsOut z.task) it due.out;
            coord = subst (λ (z : ErrandValue). HasCoord hs z.task) it (its-coord due.e.task refl);
            found = subst (λ (z : ErrandValue). IsSome (position (is_with z.shard z.worker) dv.parts)) it (its-place hs map_at cell desk_at desk a here due.e due.errand dv (its-desk desk server due.e.server dv desk_is due.desk_is).1);
            plane = due.plane;
            left = due.left;
            right = due.right;
            split = subst (λ (z : ErrandValue). map.get table z.shard ≡ Some (where_is.Split due.plane due.left due.right)) it split;
            valid = subst (λ (d : List Dimension). IsHierarchyPlane d due.plane) here.about valid.0;
          }

  pub expand-makes : (cell2 : CellValue) → cell2 ≡ MapCell worker table → (dv2 : DeskValue) (desk2 : CellValue) (b : ActorValue) → Divides hs table dv dv2 due.e → desk2 ≡ DeskCell server dv2 → b ≡ record a { errand = None }
      → Makes hs Expand (change map_at cell cell2 ∷ change desk_at desk desk2 ∷ []) a b
  expand-makes cell2 map2_is dv2 desk2 b done is2 b_is =
      let outside = out-of due.e.task due.out in
      let does : DoesExpand hs (change map_at cell cell2) (change desk_at desk desk2) a b = record {
        e = due.e;
        errand = due.errand;
        wanted = outside.0;
        path = outside.1;
        outside = outside.2;
        plane = done.plane;
        left = done.left;
        right = done.right;
        leads = record { table = table; was = its-map cell worker due.e.worker table map_is due.map_is; leads = done.split; same = map2_is ∙ sym map_is };
        puts = puts-of due.e.task done.puts;
        actor_is = b_is;
      } in
      record { does = does; keeps = expand-keeps hs (change map_at cell cell2) (change desk_at desk desk2) a b does }
    where
      desk_here : (server ≡ due.e.server) × (desk ≡ DeskCell due.e.server dv)
      desk_here = its-desk desk server due.e.server dv desk_is due.desk_is

      out-of : (task : TaskValue) → IsOut task → (wanted : Want) × (path : List ℕ) × IsOutside task wanted path
      out-of (OfRow r) is = (want.Row r.row, r.path, (is, refl, refl))
      out-of (Unread f) is = (want.Filter f, [], (refl, refl))
      out-of (Read r) is = absurd is

      turns : (parts : List Part) → dv2 ≡ record dv { parts = parts } → TurnsDesk due.e.server dv (record dv { parts = parts }) (change desk_at desk desk2)
      turns parts is = record { was = desk_here.1; is = is2 ∙ ap (λ (x : ℕ). DeskCell x dv2) desk_here.0 ∙ ap (DeskCell due.e.server) is }

      puts-of : (task : TaskValue) → PutsOn hs due.e task done.plane done.left done.right done.place dv dv2 → PutsChildren hs due.e task done.plane done.left done.right (change desk_at desk desk2)
      puts-of (OfRow r) puts = (done.place, record { desk = dv; found = done.found; turns = turns _ puts })
      puts-of (Unread f) puts = (done.place, record { desk = dv; found = done.found; turns = turns _ puts })
      puts-of (Read r) puts = absurd puts
