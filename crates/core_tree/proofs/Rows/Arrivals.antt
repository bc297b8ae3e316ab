-- What the invariant says of an actor's row before its gate, where the table of its part's worker leads to a gate: all that the row's coming
-- to that gate's shard rests on.
use Rattle.std.proofs.Common.{◌≡◌, ◌≢◌, ℕ, ◌<◌, ◌&&◌, ◌||◌, ◌==◌, Bool, true, false, List, [], ◌∷◌, Option, Some, None, is_some, refl, sym, ap, ◌∙◌, subst}
use Rattle.std.specs.List.{list_any}
use Rattle.dim_hierarchy.specs.declared.row.Row.{Row}
use Rattle.mapping_table.specs.declared.place.Where.TheVariants as where_is
use Rattle.row_ledger.specs.{Past.{Insert, insert_at}, Shards.{Place, frontier, is_live, is_of}, declared.event.Event.Event}
use Rattle.volap_cell.specs.shard_store.specs.declared.gate.Phase.TheVariants.{Gone}
use Rattle.list_words.proofs.Truth.{on_bool}
use Rattle.volap_cell.specs.{Desking.is_on_desk, Errands.{Outside, RowWay, has_passed, is_filled, place_of, row_way, way_of}, Ghost.Ghost, ImageKinds.doing, Invariant.InvWith, Placing.{IsLead, IsRouted}, Setting.{Setting, actor_count, site_in}, Telling.IsProgress, TreeKinds.HasRow, Values.{ErrandValue, JobValue, ActorValue, OfRow}, View.{View, row_or, view}, World.World, declared.command.Command.Command, declared.command.Work.Work, declared.errand.RowErrand.RowErrand, declared.errand.Way.Way, declared.role.Role.Role}
use Rattle.volap_cell.specs.declared.command.Work.TheVariants as work_is
use Rattle.volap_cell.specs.declared.errand.Way.TheVariants as way_is
use Rattle.volap_cell.proofs.{Actors.{row-at, taken-is}, Histories.Beginnings.no-query, Persons.has-taken}
use Rattle.row_ledger.proofs.Ended.{number_of}

-- an actor has one errand and one row
pub same-row : {a : ActorValue} {e f : ErrandValue} {r q : RowErrand} → HasRow a e r → HasRow a f q → (e ≡ f) × (r ≡ q)
same-row {a} {e} {f} {r} {q} has also =
    let errands : ◌≡◌ {A = Option ErrandValue} (Some e) (Some f) = sym has.errand ∙ also.errand in
    let errand : e ≡ f = cc in
    let tasks : OfRow r ≡ OfRow q = sym has.row ∙ ap (λ (x : ErrandValue). x.task) errand ∙ also.row in
    (errand, cc)

-- a row for which the purse was filled is outside
pub filled-outside : (w : Way) → is_filled w ≡ true → place_of w ≡ Outside
filled-outside (way_is.Before height filled) e = refl
filled-outside (way_is.Carried gate block) e = cc
filled-outside (way_is.Put gate) e = cc
filled-outside way_is.Placed e = cc

-- a shard that stands on a worker stands
pub on-live : (x w : ℕ) (places : List Place) → list_any (λ (p : Place). is_of x p && (p.worker == w)) places ≡ true → list_any (is_of x) places ≡ true
on-live x w [] e = cc
on-live x w (p ∷ places) e = on_bool (is_of x p)
    (λ q. ap (λ (b : Bool). b || list_any (is_of x) places) q)
    (λ q. ap (λ (b : Bool). b || list_any (is_of x) places) q
    ∙ on-live x w places (ap (λ (b : Bool). (b && (p.worker == w)) || list_any (λ (p : Place). is_of x p && (p.worker == w)) places) (sym q) ∙ e))

-- the command of an insert that stands on its desk was routed
routed-work : (s : Setting) (h : List Event) (of : ℕ) (insert : Insert) (work : Work) (job : Option JobValue) (role : Role) → insert_at h of ≡ Some insert → is_on_desk work ≡ true → IsProgress s h of work job role
    → (row : Row) × (work ≡ work_is.Insert row true)
routed-work s h of insert (work_is.Insert row true) job role began on p = (row, refl)
routed-work s h of insert (work_is.Insert row false) job role began on p = cc
routed-work s h of insert work_is.Query job role began on p = absurd (no-query h of insert p.0 began p.2)
routed-work s h of insert _ job role began on p = cc

-- the row is outside, its insert is open, and the gate to which it is led is that of the shard of its part, which stands
pub record Arrives (s : Setting) (v : View) (g : Ghost) (n gate : ℕ) (way : RowWay) : Type 0 where
  pub was : v.ways n ≡ Some way
  pub out : g.placed way.row.no ≡ false
  pub insert : Insert
  pub began : insert_at v.history way.row.no ≡ Some insert
  pub row_is : insert.row ≡ way.row
  pub server : insert.server ≡ way.server
  pub within : way.server < s.servers
  pub routed : IsRouted v.commands way.row.no
  pub lead : IsLead v.history v.images way.server way.path way.shard
  pub live : is_live s.workers v.history way.shard ≡ true
  pub gate_is : g.gate way.shard ≡ gate
  pub is_gate : v.gates gate ≡ Some way.shard
  pub stands : v.phases gate ≢ Some Gone
  pub known : v.row way.row.no ≡ way.row
  pub few : n < actor_count s
  pub jobless : v.jobs n ≡ None

jobless-of : (s : Setting) (v : View) (g : Ghost) (i : InvWith s v g) (n : ℕ) (job : Option JobValue) → v.jobs n ≡ job → v.taken n ≢ None → job ≡ None
jobless-of s v g i n None is some = refl
jobless-of s v g i n (Some j) is some = absurd (at (v.taken n) refl)
  where
    at : (o : Option _) → v.taken n ≡ o → ⊥
    at None e = some e
    at (Some t) e = i.numbering.parts n t e (i.numbering.working n j is)

pub arrives : (s : Setting) (w : World) (g : Ghost) → InvWith s (view s w) g → (n gate : ℕ) (e : ErrandValue) (r : RowErrand) → HasRow (w.actors n) e r → place_of r.way ≡ Outside
    → (view s w).maps e.worker e.shard ≡ Some (where_is.Gate gate) → Arrives s (view s w) g n gate (row_way e r)
arrives s w g i n gate e r has outside leads =
    let v = view s w in
    let was : way_of (w.actors n).errand ≡ Some (row_way e r) = row-at has in
    let taken = taken-is has.errand has.row in
    let on_way = i.inserting.on_way n (row_way e r) was in
    let at = i.desking.at_parts n _ taken in
    let (insert, began, same) = at.wants in
    let number : r.row.no ≡ at.of = ap (λ (x : Row). x.no) (sym same) ∙ number_of (site_in s) g.placed v.history at.of insert i.telling.right.right.each began in
    let (a, c, its, its_of, role, on) = i.desking.whose e.server at.of at.within at.op in
    let begun_there : insert_at v.history c.of ≡ Some insert = ap (insert_at v.history) its_of ∙ began in
    let work = routed-work s v.history c.of insert c.work (v.jobs a) (v.roles a) begun_there on (i.telling.progress a c its) in
    let at_row : c.of ≡ r.row.no = its_of ∙ sym number in
    let its_command : (view s w).commands a ≡ Some c = its in
    let is_routed : ◌≡◌ {A = Option Command} (Some c) (doing r.row.no (work_is.Insert work.0 true)) = (λ k. doing (at_row k) (work.1 k)) in
    let led = i.lineage.leads e.worker e.shard gate leads in
    let there = i.lineage.gate_of e.shard e.worker led.0 in
    record {
      was = was;
      out = on_way.passed ∙ ap has_passed outside;
      insert = on_way.known.0;
      began = on_way.known.1;
      row_is = on_way.known.2;
      server = on_way.known.3;
      within = at.within;
      routed = (a, work.0, ◌∙◌ {c = doing r.row.no (work_is.Insert work.0 true)} its_command is_routed);
      lead = on_way.lead;
      live = on-live e.shard e.worker (frontier s.workers v.history) led.0;
      gate_is = led.1;
      is_gate = subst (λ (y : ℕ). v.gates y ≡ Some e.shard) led.1 there.1;
      stands = subst (λ (y : ℕ). v.phases y ≢ Some Gone) led.1 there.2;
      known = ap row_or on_way.known.1 ∙ on_way.known.2;
      few = has-taken s v i.numbering n _ taken;
      jobless = jobless-of s v g i n (v.jobs n) refl (λ none. let no : is_some (v.taken n) ≡ false = ap is_some none in let yes : is_some (v.taken n) ≡ true = ap is_some taken in cc);
    }
