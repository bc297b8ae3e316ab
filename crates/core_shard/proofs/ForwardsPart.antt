-- A part goes on to the worker to which its shard has moved: the invariant holds still, and less is left.
use Rattle.std.proofs.{Common.{◌≡◌, ℕ, ◌+◌, ◌*◌, ◌-◌, ◌<◌, ◌≤◌, List, [], ◌∷◌, take, drop, Option, Some, None, refl, sym, ap, subst, ◌∙◌, ◌⊎◌, inl, inr, arith}, Math.Nat.mul-add, lemmas.Nat.mul-le}
use Rattle.std.specs.Prelude.{IsSome, slice_set}
use Rattle.dim_hierarchy.specs.Dimension.{Dimension}
use Rattle.mapping_table.specs.declared.place.Where.{Where}
use Rattle.mapping_table.specs.declared.place.Where.TheVariants as where_is
use Rattle.query_router.specs.{Desk.DeskValue, declared.part.Part.Part, declared.part.Want.Want}
use Rattle.query_router.specs.declared.part.PartState.TheVariants as state
use Rattle.row_ledger.specs.{Workers.left_at, declared.event.Event.Event}
use Rattle.volap_cell.specs.{Cells.tag_of, Errands.{RowWay, gate_entered, read_in_task, row_way, way_in_task}, Falls.{GoesOn, far, gates_of_errand, gates_of_part, gates_of_state, gates_of_task, gates_of_way, left, per_query, queries_of_errand, queries_of_state, queries_of_task, rows_of_errand, rows_of_part, rows_of_task}, Ghost.Ghost, Invariant.InvWith, Querying.pins_of, Setting.{Setting, actor_count, site_in}, ShardKinds.{DoesForward, IsOutside, waiting}, Steps.{IsKept, Keeps}, Values.{ActorValue, ErrandValue, OfRow, Read, TaskValue, Unread}, View.{View, view}, World.{Agrees, Change, World, after}, declared.kind.Kind.TheVariants.Forward}
use Rattle.volap_cell.proofs.{Desks.Facts.with-parts, Desks.Shared.TurnsParts, Histories.Books.{DeskNew, table-desk}, Histories.Departures.{StaysAt, on-stays-at}, OneEvent.Reads.readers-take, Persons.has-taken, Views.Parts.view-forward, Views.Shown.held-leads}
use Rattle.core_shard.proofs.{BackFacts.{IsInPlace, back-reads, back-taken, back-ways, in-place, one-turned}, FarLess.far-moved, FinishesPart.{gates-outside, taken-state}, GoesBack.{GoesBack, back-holds}, LeftOver.{control-same, gates-turn, queries-turn, queries_of_part, rows-turn, with_parts}, WaitsAgain.waiting-parts}

-- a row before its gate is in no tree, and nothing was read for a part before its gate

pub outside-tree : (e : ErrandValue) (task : TaskValue) (wanted : Want) (path : List ℕ) → IsOutside task wanted path → (w : RowWay) → way_in_task e task ≡ Some w → gate_entered w.place ≡ None
outside-tree e (OfRow r) wanted path is w has = (let it : row_way e r ≡ w = cc in ap (λ (x : RowWay). gate_entered x.place) (sym it) ∙ ap gate_entered is.0)
outside-tree e (Unread f) wanted path is w has = (let never : ◌≡◌ {A = Option RowWay} None (Some w) = has in absurd (cc))
outside-tree e (Read r) wanted path is w has = absurd is

pub outside-pins : (c : ℕ) (e : ErrandValue) (task : TaskValue) (wanted : Want) (path : List ℕ) → IsOutside task wanted path → pins_of c (read_in_task e task) ≡ 0
outside-pins c e (OfRow r) wanted path is = refl
outside-pins c e (Unread f) wanted path is = refl
outside-pins c e (Read r) wanted path is = absurd is

-- where a shard is to which a move leads
module _ (s : Setting) (v : View) (g : Ghost) (i : InvWith s v g) (x w to : ℕ) (leads : v.maps w x ≡ Some (where_is.Moved to)) where
  pub its-table : (to < s.workers) × IsSome (v.maps to x)
  its-table = (let m = i.lineage.moved w x to leads in (m.0, m.2))

  position-of : (o : Option ℕ) → IsSome o → (p : ℕ) × (o ≡ Some p)
  position-of None some = cc
  position-of (Some p) some = (p, refl)

  pub far-forward : far s.workers v.history x to < far s.workers v.history x w
  far-forward =
      let m = i.lineage.moved w x to leads in
      let p = position-of (left_at s.workers v.history x w) m.3 in
      far-moved s.workers v.history x w to p.0 m.4 p.1 (there (v.maps to x) refl m.2 p.0 p.1)
    where
      there : (o : Option Where) → v.maps to x ≡ o → IsSome (v.maps to x) → (p : ℕ) → left_at s.workers v.history x w ≡ Some p → StaysAt s.workers v.history x to ⊎ ((q : ℕ) × (left_at s.workers v.history x to ≡ Some q) × (p < q))
      there None is some p left = (let never : IsSome {T = Where} None = subst (λ (z : Option Where). IsSome z) is some in absurd (cc))
      there (Some (where_is.Gate c)) is some p left = inl (on-stays-at (site_in s) g.placed v.history x to i.telling.right.right.each (i.lineage.leads to x c is).0)
      there (Some (where_is.Split plane l r)) is some p left = inl (i.lineage.divided to x l r plane is).2
      there (Some (where_is.Moved u)) is some p left =
          let q = position-of (left_at s.workers v.history x to) (i.lineage.moved to x u is).3 in
          inr (q.0, q.1, i.lineage.later w x to u p q.0 leads is left q.1)

module _ (m d : Change) (b : ActorValue) (s : Setting) (w : World) (n : ℕ) (g : Ghost) (i : InvWith s (view s w) g) (ag : Agrees w (m ∷ d ∷ []) n (w.actors n)) (does : DoesForward m d (w.actors n) b) where
  abbrev cs : List Change
  cs = m ∷ d ∷ []

  abbrev v : View
  v = view s w

  abbrev w2 : World
  w2 = after w cs n b

  abbrev u : View
  u = view s w2

  abbrev h : List Event
  h = v.history

  abbrev e : ErrandValue
  e = does.e

  abbrev to : ℕ
  to = does.to

  abbrev part : Part
  part = waiting e.shard to does.path does.wanted

  abbrev place : ℕ
  place = does.puts.0

  abbrev desk : DeskValue
  desk = does.puts.1.desk

  leads : (e.worker < s.workers) × (v.maps e.worker e.shard ≡ Some (where_is.Moved to))
  leads = held-leads s w i.numbering.tag m ag.cells.0 e.worker e.shard (where_is.Moved to) does.leads

  new : (e.server < s.servers) × DeskNew u v e.server desk (record desk { parts = slice_set desk.parts place part })
  new = table-desk s w n b i.numbering.tag m d ag.cells e.worker (ap tag_of does.leads.was) does.leads.same does.puts.1.turns

  found : (old : Part) × IsInPlace e desk.parts place old
  found = in-place e desk.parts place does.puts.1.found

  abbrev old : Part
  old = found.0

  abbrev front : List Part
  front = take place desk.parts

  abbrev behind : List Part
  behind = drop (place + 1) desk.parts

  turn : TurnsParts v.desks u.desks e.server front old (part ∷ []) behind
  turn = one-turned v.desks u.desks e.server desk e place old part new.1 found.1

  errand-none : b.errand ≡ None
  errand-none = ap (λ (x : ActorValue). x.errand) does.actor_is

  same : u ≡ with_parts v u.desks u.taken u.ways u.reads v.pins
  same = view-forward s w n m d (w.actors n) b ag does

  back : GoesBack v n e front old (part ∷ []) behind u.desks u.taken u.ways u.reads v.pins
  back = record {
    turn = turn;
    with = found.1.with;
    taken = back-taken s w cs n b e does.errand errand-none;
    ways = back-ways s w cs n b e does.errand errand-none;
    reads = back-reads s w cs n b e does.errand errand-none;
    outside = outside-tree e e.task does.wanted does.path does.outside;
    pins = λ c. let none = outside-pins c e e.task does.wanted does.path does.outside in omega (arith, none);
  }

  holds : InvWith s (with_parts v u.desks u.taken u.ways u.reads v.pins) g
  holds = back-holds s v g i (readers-take s w) n e front old (part ∷ []) behind u.desks u.taken u.ways u.reads v.pins back g.counted
      (waiting-parts s v g i n e back.taken.was_there back.ways.was_there back.reads.was_there does.wanted does.path does.outside front behind old turn.was found.1.with u.ways back.ways to (its-table s v g i e.shard e.worker to leads.1))

  -- What is left.

  few : n < actor_count s
  few = has-taken s v i.numbering n _ back.taken.was_there

  command : b.command ≡ (w.actors n).command
  command = ap (λ (x : ActorValue). x.command) does.actor_is

  job : b.job ≡ (w.actors n).job
  job = ap (λ (x : ActorValue). x.job) does.actor_is

  purse : b.purse ≡ (w.actors n).purse
  purse = ap (λ (x : ActorValue). x.purse) does.actor_is

  abbrev ahead : ℕ
  ahead = far s.workers h e.shard e.worker

  abbrev ahead_now : ℕ
  ahead_now = far s.workers h e.shard to

  less : ahead_now < ahead
  less = far-forward s v g i e.shard e.worker to leads.1

  was-taken : old.state ≡ state.Taken
  was-taken = taken-state old.state (with-parts e.shard e.worker old found.1.with).2

  control : (left s w2 g).control ≡ (left s w g).control
  control = control-same s w g cs n b u.desks u.taken u.ways u.reads v.pins g.counted same few command job purse e.server new.0 front old (part ∷ []) behind turn

  gates : (left s w2 g).gates + gates_of_task ahead e.task ≡ (left s w g).gates + gates_of_state ahead_now does.path (state.Waiting does.wanted)
  gates =
      let turned = gates-turn s w g cs n b u.desks u.taken u.ways u.reads v.pins g.counted same few command job purse e.server new.0 front old (part ∷ []) behind turn in
      let was : gates_of_errand s h (w.actors n).errand ≡ gates_of_task ahead e.task = ap (gates_of_errand s h) does.errand in
      let none : gates_of_part s h old ≡ 0 = ap (gates_of_state (far s.workers h old.shard old.worker) old.path) was-taken in
      let now : gates_of_errand s h b.errand ≡ 0 = ap (gates_of_errand s h) errand-none in
      omega (arith, turned, was, none, now)

  rows : (left s w2 g).rows + rows_of_task g.shape e.task ≡ (left s w g).rows
  rows =
      let turned = rows-turn s w g cs n b u.desks u.taken u.ways u.reads v.pins g.counted same few command job purse e.server new.0 front old (part ∷ []) behind turn in
      let was : rows_of_errand g.shape (w.actors n).errand ≡ rows_of_task g.shape e.task = ap (rows_of_errand g.shape) does.errand in
      let none : rows_of_part old.state ≡ 0 = ap rows_of_part was-taken in
      let now : rows_of_errand g.shape b.errand ≡ 0 = ap (rows_of_errand g.shape) errand-none in
      omega (arith, turned, was, none, now)

  queries : (left s w2 g).queries + queries_of_task s v g ahead e.task ≡ (left s w g).queries + queries_of_state s ahead_now (state.Waiting does.wanted)
  queries =
      let turned = queries-turn s w g cs n b u.desks u.taken u.ways u.reads v.pins g.counted same few command job purse e.server new.0 front old (part ∷ []) behind turn in
      let was : queries_of_errand s v g (w.actors n).errand ≡ queries_of_task s v g ahead e.task = ap (queries_of_errand s v g) does.errand in
      let none : queries_of_part s h old ≡ 0 = ap (queries_of_state s (far s.workers h old.shard old.worker)) was-taken in
      let now : queries_of_errand s v g b.errand ≡ 0 = ap (queries_of_errand s v g) errand-none in
      omega (arith, turned, was, none, now)

  goes : (task : TaskValue) → e.task ≡ task → IsOutside task does.wanted does.path → GoesOn s (left s w g) (left s w2 g) h h
  goes (OfRow r) is (outside, want_is, path_is) =
      let some = gates-outside ahead r.way outside in
      let was : gates_of_task ahead e.task ≡ gates_of_way ahead r.way = ap (gates_of_task ahead) is in
      let now : gates_of_state ahead_now does.path (state.Waiting does.wanted) ≡ 6 * ahead_now = ap (λ (x : Want). gates_of_state ahead_now does.path (state.Waiting x)) want_is in
      inl (inr (inl (control, omega (arith, gates, some, was, now, less))))
  goes (Unread f) is (want_is, path_is) =
      let no_gates : gates_of_task ahead e.task ≡ 0 = ap (gates_of_task ahead) is in
      let no_part : gates_of_state ahead_now does.path (state.Waiting does.wanted) ≡ 0 = ap (λ (x : Want). gates_of_state ahead_now does.path (state.Waiting x)) want_is in
      let no_rows : rows_of_task g.shape e.task ≡ 0 = ap (rows_of_task g.shape) is in
      let was : queries_of_task s v g ahead e.task ≡ per_query s * ahead - 1 = ap (queries_of_task s v g ahead) is in
      let now : queries_of_state s ahead_now (state.Waiting does.wanted) ≡ per_query s * ahead_now = ap (λ (x : Want). queries_of_state s ahead_now (state.Waiting x)) want_is in
      let more : per_query s * (ahead_now + 1) ≤ per_query s * ahead = mul-le (per_query s) (ahead_now + 1) (per_query s) ahead (omega arith) (omega (arith, less)) in
      let one : per_query s * (ahead_now + 1) ≡ per_query s * ahead_now + per_query s * 1 = mul-add (per_query s) ahead_now 1 in
      inl (inr (inr (inr (control, omega (arith, gates, no_gates, no_part), omega (arith, rows, no_rows), omega (arith, queries, was, now, more, one)))))
  goes (Read r) is outside = absurd outside

  pub forward-kept : IsKept s Forward n w w2 g
  forward-kept = (let history = ap (λ (z : View). z.history) same in record {
    step = record { changes = cs; actor = b; agrees = ag; does = does; sight = tt; now_is = refl };
    ghost_now = g;
    holds = subst (λ (z : View). InvWith s z g) (sym same) holds;
    newer = [];
    grows = history;
    goes_on = subst (λ (l : List Event). GoesOn s (left s w g) (left s w2 g) h l) (sym history) (goes e.task refl does.outside);
  })

pub forward-keeps : (h : List Dimension) (m d : Change) (a b : ActorValue) (does : DoesForward m d a b) → Keeps h Forward (m ∷ d ∷ []) a b does
forward-keeps h m d a b does s w n g _ i ag sight =
    forward-kept m d b s w n g i (record { cells = ag.cells; actor_is = refl; free = λ x ne. ag.free x ne }) (subst (λ (z : ActorValue). DoesForward m d z b) (sym ag.actor_is) does)
