-- A height is noted: nothing is seen of it, and less is left.
use Rattle.std.proofs.Common.{◌≡◌, ℕ, ◌+◌, ◌<◌, ◌≤◌, List, [], ◌∷◌, Bool, true, false, Option, Some, None, refl, sym, ap, subst, ◌∙◌, inl, inr, arith}
use Rattle.std.specs.FinMap as map
use Rattle.std.specs.{Ordering.nat_cmp, Prelude.sum_by}
use Rattle.dim_hierarchy.specs.Dimension.{Dimension}
use Rattle.mapping_table.specs.declared.place.Where.{Where}
use Rattle.mapping_table.specs.declared.place.Where.TheVariants as where_is
use Rattle.row_ledger.specs.declared.event.Event.{Event}
use Rattle.list_words.proofs.Elements.{Some-same}
use Rattle.volap_cell.specs.shard_store.specs.declared.gate.Gate.{Gate}
use Rattle.volap_cell.specs.{Cells.{CellValue, GateCell, MapCell, MapOf, gate_shard, tag_of, where_in}, Errands.{taken_by, taken_of}, Falls.{control_of, far, gates_of_errand, gates_of_part, gates_of_task, gates_of_way, gates_of_work, gone_left, job_left, left, of_work}, Ghost.Ghost, Invariant.InvWith, Setting.{Setting, actor_count, cell_count}, ShardKinds.NotesHeight, Steps.{IsHere, IsKept, Keeps, Makes}, Sums.sum_below, TreeKinds.on_way, Values.{ActorValue, ErrandValue, OfRow, errand_of, task_of}, View.{View, view}, World.{Agrees, Change, World, after, change, held}, declared.errand.Errand.Errand, declared.errand.RowErrand.RowErrand, declared.errand.Way.TheVariants.Before, declared.kind.Kind.TheVariants.LookUp}
use Rattle.volap_cell.specs.declared.errand.Task.TheVariants as task_is
use Rattle.volap_cell.proofs.{Persons.has-taken, Sums.{sum-changed, sum-same}, Views.Frames.{actor-at, actor-off, unmoved-one}, Views.Parts.view-note_height, Views.Shown.held-leads}
use Rattle.core_shard.specs.Due.{CanLookUp}
use Rattle.core_shard.proofs.FinishReady.{is-gate}

-- a row whose height is known has a step less to its gate
nearer : (ahead height : ℕ) (filled : Bool) → 1 ≤ ahead → gates_of_way ahead (Before (Some height) filled) < gates_of_way ahead (Before None filled)
nearer ahead height true le = omega (arith, le)
nearer ahead height false le = omega (arith, le)

module _ (m gc : Change) (b : ActorValue) (s : Setting) (w : World) (n : ℕ) (g : Ghost) (i : InvWith s (view s w) g) (ag : Agrees w (m ∷ gc ∷ []) n (w.actors n)) (does : NotesHeight m gc (w.actors n) b) where
  abbrev cs : List Change
  cs = m ∷ gc ∷ []

  abbrev v : View
  v = view s w

  abbrev w2 : World
  w2 = after w cs n b

  abbrev u : View
  u = view s w2

  abbrev h : List Event
  h = v.history

  abbrev e : ErrandValue
  e = does.e

  same : u ≡ v
  same = view-note_height s w n m gc (w.actors n) b ag does

  few : n < actor_count s
  few = has-taken s v i.numbering n (taken_by e) (ap taken_of does.has.errand)

  command : b.command ≡ (w.actors n).command
  command = ap (λ (x : ActorValue). x.command) does.actor_is

  job : b.job ≡ (w.actors n).job
  job = ap (λ (x : ActorValue). x.job) does.actor_is

  control : (left s w2 g).control ≡ (left s w g).control
  control =
      let F : ActorValue → ℕ = λ x. of_work (control_of s) x.command + job_left s v x.job in
      let rest : ℕ = sum_below (cell_count s) (λ y. gone_left (v.phases y) (v.gone y)) in
      let is : (left s w2 g).control ≡ sum_below (actor_count s) (λ x. F (w2.actors x)) + rest =
      ap (λ (z : View). sum_below (actor_count s) (λ x. of_work (control_of s) (w2.actors x).command + job_left s z (w2.actors x).job) + sum_below (cell_count s) (λ y. gone_left (z.phases y) (z.gone y))) same in
      let kept : F b ≡ F (w.actors n) = (λ k. of_work (control_of s) (command k) + job_left s v (job k)) in
      let all = sum-same (actor_count s) (λ x. F (w.actors x)) (λ x. F (w2.actors x)) (λ x lt. unmoved-one F w.actors n b kept x) in
      omega (arith, is, all)

  abbrev ahead : ℕ
  ahead = far s.workers h e.shard e.worker

  gates : (left s w2 g).gates < (left s w g).gates
  gates =
      let F : ActorValue → ℕ = λ x. of_work (gates_of_work h) x.command + gates_of_errand s h x.errand in
      let desks : ℕ = sum_below s.servers (λ x. sum_by (gates_of_part s h) (v.desks x).parts) in
      let is : (left s w2 g).gates ≡ sum_below (actor_count s) (λ x. F (w2.actors x)) + desks =
      ap (λ (z : View). sum_below (actor_count s) (λ x. of_work (gates_of_work z.history) (w2.actors x).command + gates_of_errand s z.history (w2.actors x).errand) + sum_below s.servers (λ x. sum_by (gates_of_part s z.history) (z.desks x).parts)) same in
      let changed = sum-changed (actor_count s) (λ x. F (w.actors x)) (λ x. F (w2.actors x)) n (λ x ne. ap F (actor-off w.actors n b x ne)) few in
      let here : F (w2.actors n) ≡ F b = ap F (actor-at w.actors n b) in
      let work : of_work (gates_of_work h) b.command ≡ of_work (gates_of_work h) (w.actors n).command = ap (of_work (gates_of_work h)) command in
      let was : gates_of_errand s h (w.actors n).errand ≡ gates_of_way ahead (Before None does.filled) = ap (gates_of_errand s h) does.has.errand ∙ ap (gates_of_task ahead) does.has.row ∙ ap (gates_of_way ahead) does.unknown in
      let now : gates_of_errand s h b.errand ≡ gates_of_way ahead (Before (Some does.gate.height) does.filled) = ap (λ (x : ActorValue). gates_of_errand s h x.errand) does.actor_is in
      let less = nearer ahead does.gate.height does.filled (omega arith) in
      omega (arith, is, changed, here, work, was, now, less)

  pub look-kept : IsKept s LookUp n w w2 g
  look-kept = (let history = ap (λ (z : View). z.history) same in record {
    step = record { changes = cs; actor = b; agrees = ag; does = inl does; sight = tt; now_is = refl };
    ghost_now = g;
    holds = subst (λ (z : View). InvWith s z g) (sym same) i;
    newer = [];
    grows = history;
    goes_on = inl (inr (inl (control, gates)));
  })

pub look-keeps : (h : List Dimension) (m gc : Change) (a b : ActorValue) (does : NotesHeight m gc a b) → Keeps h LookUp (m ∷ gc ∷ []) a b (inl does)
look-keeps h m gc a b does s w n g _ i ag sight =
    look-kept m gc b s w n g i (record { cells = ag.cells; actor_is = refl; free = λ x ne. ag.free x ne }) (subst (λ (z : ActorValue). NotesHeight m gc z b) (sym ag.actor_is) does)

-- The call.

-- a cell that is a worker's has its table
is-table : (c : CellValue) (worker : ℕ) → tag_of c ≡ MapOf worker → (table : map.FinMap nat_cmp Where) × (c ≡ MapCell worker table)
is-table (MapCell w table) worker is = (let same : w ≡ worker = cc in (table, ap (λ (x : ℕ). MapCell x table) same))
is-table _ worker is = absurd (cc)

module _ (hs : List Dimension) (map_at : ℕ) (cell : CellValue) (gate_at : ℕ) (gate : CellValue) (a : ActorValue) (here : IsHere hs (held map_at cell ∷ held gate_at gate ∷ []) a) (due : CanLookUp cell gate_at gate a) where
  table : (t : map.FinMap nat_cmp Where) × (cell ≡ MapCell due.e.worker t)
  table = is-table cell due.e.worker due.map_is

  -- the gate to which the table leads stands in its cell
  pub its-gate : (x : Gate) × (gate ≡ GateCell x)
  its-gate =
      let i = here.inv.holds in
      let s = a.setting in
      let v = view s here.world in
      let leads = held-leads s here.world i.numbering.tag (held map_at cell) here.agrees.cells.0 due.e.worker due.e.shard (where_is.Gate gate_at)
      (record { table = table.0; was = table.1; leads = ap (λ (c : CellValue). where_in c due.e.shard) (sym table.1) ∙ due.leads; same = refl }) in
      let l = i.lineage.leads due.e.worker due.e.shard gate_at leads.1 in
      let stands = i.lineage.gate_of due.e.shard due.e.worker l.0 in
      let is : gate_shard (here.world.cells gate_at) ≡ Some due.e.shard = ap v.gates (sym l.1) ∙ stands.1 in
      is-gate gate due.e.shard (ap gate_shard (sym here.agrees.cells.1.0) ∙ is)

  pub look-makes : (cell2 gate2 : CellValue) (x : Gate) (b : ActorValue) → cell2 ≡ cell → gate ≡ GateCell x → gate2 ≡ GateCell x → b ≡ record a { errand = on_way due.e due.r (Before (Some x.height) due.filled) }
      → Makes hs LookUp (change map_at cell cell2 ∷ change gate_at gate gate2 ∷ []) a b
  look-makes cell2 gate2 x b map_is was is b_is =
      let does : NotesHeight (change map_at cell cell2) (change gate_at gate gate2) a b = record {
        e = due.e;
        r = due.r;
        has = due.has;
        filled = due.filled;
        unknown = due.unknown;
        leads = record { table = table.0; was = table.1; leads = ap (λ (c : CellValue). where_in c due.e.shard) (sym table.1) ∙ due.leads; same = map_is };
        gate = x;
        same = record { was = was; is = is };
        actor_is = b_is;
      } in
      record { does = inl does; keeps = look-keeps hs (change map_at cell cell2) (change gate_at gate gate2) a b does }

-- the errand with the height is that of the actor's row
pub height-noted : (a : ActorValue) (cell : CellValue) (gate_at : ℕ) (gate : CellValue) (due : CanLookUp cell gate_at gate a) (errand : Errand) (going : RowErrand) (before : Option ℕ) (filled : Bool) (height : ℕ) (x : Gate)
    → a.errand ≡ Some (errand_of errand) → errand.task ≡ task_is.Row going → going.way ≡ Before before filled → height ≡ x.height → on_way (errand_of errand) going (Before (Some height) filled) ≡ on_way due.e due.r (Before (Some x.height) due.filled)
height-noted a cell gate_at gate due errand going before filled height x has row way is =
    let e_is : due.e ≡ errand_of errand = Some-same (errand_of errand) due.e (sym has ∙ due.has.errand) in
    let tasks : OfRow due.r ≡ OfRow going = sym due.has.row ∙ ap (λ (z : ErrandValue). z.task) e_is ∙ ap task_of row in
    let r_is : due.r ≡ going = cc in
    let ways : Before None due.filled ≡ Before before filled = sym due.unknown ∙ ap (λ (z : RowErrand). z.way) r_is ∙ way in
    let filled_is : due.filled ≡ filled = cc in
    λ k. on_way (sym e_is k) (sym r_is k) (Before (Some (is k)) (sym filled_is k))
