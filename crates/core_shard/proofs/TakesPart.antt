-- A part is taken: the invariant holds still, and less is left.
use Rattle.std.proofs.{Common.{◌≡◌, ◌≢◌, ℕ, ◌+◌, ◌*◌, ◌-◌, ◌<◌, ◌≤◌, List, [], ◌∷◌, true, take, drop, Option, Some, None, refl, sym, ap, subst, ◌∙◌, inl, inr, arith, ◌==◌, ◌||◌, Contains, eqb-true}, lemmas.Bool.and_parts, lemmas.List.Elements.All-contains, lemmas.Nat.mul-le}
use Rattle.std.specs.Prelude.{IsSome, slice_set}
use Rattle.dim_hierarchy.specs.Dimension.{Dimension}
use Rattle.query_router.specs.{Desk.{DeskValue, is_open, is_taken, is_waiting, state_waits, taken_from}, declared.part.Part.Part, declared.part.PartState.PartState, declared.part.Want.Want}
use Rattle.query_router.specs.declared.part.PartState.TheVariants as state
use Rattle.query_router.specs.declared.part.Want.TheVariants as want
use Rattle.row_ledger.specs.declared.event.Event.{Event}
use Rattle.volap_cell.specs.{Errands.{read_in_task, read_of, taken_of, way_of}, Falls.{GoesOn, far, gates_of_errand, gates_of_part, gates_of_state, left, per_query, queries_of_errand, queries_of_state, rows_of_errand, rows_of_part}, Ghost.Ghost, Invariant.InvWith, Setting.{Setting, actor_count}, ShardKinds.{DoesTakePart, IsDeskFor, errand_for, may_take, task_for}, Steps.{IsKept, Keeps}, Values.{ActorValue, ErrandValue}, View.{View, view}, World.{World, Change, Agrees, after}, declared.command.Command.Command, declared.kind.Kind.TheVariants.TakePart, declared.role.Role.Role, declared.role.Role.TheVariants.{Admin, Hand, Session}}
use Rattle.volap_cell.proofs.{Desks.Lists.{found-at, old-was, place-set, place-splits}, Desks.Shared.{TurnsParts, turned-parts}, Histories.Books.{DeskNew, one-desk}, Persons.has-role, Views.Frames.{actor-at, actor-off, unmoved}, Views.Parts.view-take_part}
use Rattle.core_shard.proofs.{GoesOut.{GoesOut, out-holds}, LeftOver.{control-same, gates-turn, queries-turn, queries_of_part, rows-turn, with_parts}}

-- who takes parts is no administrator
no-admin : (r : Role) (server : ℕ) (desk : DeskValue) (command : Option Command) → IsDeskFor r server desk command → r ≢ Admin
no-admin (Session x) server desk command its = (λ same. let never : Session x ≡ Admin = same in cc)
no-admin (Hand x) server desk command its = (λ same. let never : Hand x ≡ Admin = same in cc)
no-admin _ server desk command its = absurd its

-- and takes parts of a worker that is there
is-there : (r : Role) (workers server : ℕ) (desk : DeskValue) (command : Option Command) (p : Part) → IsDeskFor r server desk command → may_take r p ≡ true → p.worker < workers → r ≢ Hand workers
is-there (Session x) workers server desk command p its may lt same = (let never : Session x ≡ Hand workers = same in cc)
is-there (Hand x) workers server desk command p its may lt same =
    let worker : p.worker ≡ x = eqb-true p.worker x (and_parts (p.worker == x) (is_waiting p) may).0 in
    let workers_is : x ≡ workers = cc in
    omega (arith, worker, workers_is, lt)
is-there _ workers server desk command p its may lt same = absurd its

-- nothing was read for it
none-read : (e : ErrandValue) (wanted : Want) (path : List ℕ) → read_in_task e (task_for wanted path) ≡ None
none-read e (want.Row row) path = refl
none-read e (want.Filter f) path = refl

module _ (d : Change) (b : ActorValue) (s : Setting) (w : World) (n : ℕ) (g : Ghost) (i : InvWith s (view s w) g) (ag : Agrees w (d ∷ []) n (w.actors n)) (does : DoesTakePart d (w.actors n) b) where
  abbrev cs : List Change
  cs = d ∷ []

  abbrev v : View
  v = view s w

  abbrev w2 : World
  w2 = after w cs n b

  abbrev u : View
  u = view s w2

  abbrev server : ℕ
  server = does.server

  abbrev desk : DeskValue
  desk = does.desk

  abbrev part : Part
  part = does.part

  abbrev e : ErrandValue
  e = errand_for server part does.wanted

  abbrev front : List Part
  front = take does.place desk.parts

  abbrev behind : List Part
  behind = drop (does.place + 1) desk.parts

  books : (server < s.servers) × DeskNew u v server desk (record desk { parts = slice_set desk.parts does.place (taken_from part) })
  books = one-desk s w n b i.numbering.tag d ag.cells does.turns

  within : server < s.servers
  within = books.0

  turn : TurnsParts v.desks u.desks server front part (taken_from part ∷ []) behind
  turn = turned-parts v.desks u.desks server desk (slice_set desk.parts does.place (taken_from part)) front part (taken_from part ∷ []) behind books.1
      (place-splits desk.parts does.place part does.part_at) (place-set desk.parts does.place part (taken_from part) does.part_at)

  in-parts : Contains (v.desks server).parts part
  in-parts = subst (λ (xs : List Part). Contains xs part) (sym turn.was) (old-was front behind part)

  table : (part.worker < s.workers) × IsSome (v.maps part.worker part.shard)
  table =
      let P : Part → Type 0 = λ p. is_open p ≡ true → (p.worker < s.workers) × IsSome (v.maps p.worker p.shard) in
      All-contains P (v.desks server).parts part (i.leading.parts server within) in-parts (ap (λ (st : PartState). state_waits st || is_taken (record part { state = st })) does.waits)

  passes : may_take (w.actors n).role part ≡ true
  passes =
      let (x, here, may) = found-at (may_take (w.actors n).role) desk.parts does.place does.first in
      let both : Some x ≡ Some part = sym here ∙ does.part_at in
      let it : x ≡ part = cc in
      subst (λ (p : Part). may_take (w.actors n).role p ≡ true) it may

  few : n < actor_count s
  few = has-role s v i.numbering n (is-there (w.actors n).role s.workers server desk (w.actors n).command part does.for passes table.0)

  errand-is : b.errand ≡ Some e
  errand-is = ap (λ (x : ActorValue). x.errand) does.actor_is

  reads-same : u.reads ≡ v.reads
  reads-same = unmoved (λ (x : ActorValue). read_of x.errand) w.actors n b (ap read_of errand-is ∙ none-read e does.wanted part.path ∙ sym (ap read_of does.free))

  same : u ≡ with_parts v u.desks u.taken u.ways v.reads v.pins
  same = view-take_part s w n d (w.actors n) b ag does ∙ (λ k. with_parts v u.desks u.taken u.ways (reads-same k) v.pins)

  out : GoesOut s v n server front part behind does.wanted u.desks u.taken u.ways
  out = record {
    within = within;
    few = few;
    role = no-admin (w.actors n).role server desk (w.actors n).command does.for;
    waits = does.waits;
    turn = turn;
    taken = record { was_there = ap taken_of does.free; is_there = ap (λ (x : ActorValue). taken_of x.errand) (actor-at w.actors n b) ∙ ap taken_of errand-is; elsewhere = λ a ne. ap (λ (x : ActorValue). taken_of x.errand) (actor-off w.actors n b a ne) };
    ways = record { was_there = ap way_of does.free; is_there = ap (λ (x : ActorValue). way_of x.errand) (actor-at w.actors n b) ∙ ap way_of errand-is; elsewhere = λ a ne. ap (λ (x : ActorValue). way_of x.errand) (actor-off w.actors n b a ne) };
    unread = ap read_of does.free;
  }

  holds : InvWith s (with_parts v u.desks u.taken u.ways v.reads v.pins) g
  holds = out-holds s v g i n server front part behind does.wanted u.desks u.taken u.ways out

  -- What is left: a step towards the gate, or of the query.

  command : b.command ≡ (w.actors n).command
  command = ap (λ (x : ActorValue). x.command) does.actor_is

  job : b.job ≡ (w.actors n).job
  job = ap (λ (x : ActorValue). x.job) does.actor_is

  purse : b.purse ≡ (w.actors n).purse
  purse = ap (λ (x : ActorValue). x.purse) does.actor_is

  abbrev h : List Event
  h = v.history

  abbrev ahead : ℕ
  ahead = far s.workers h part.shard part.worker

  control : (left s w2 g).control ≡ (left s w g).control
  control = control-same s w g cs n b u.desks u.taken u.ways v.reads v.pins g.counted same few command job purse server within front part (taken_from part ∷ []) behind turn

  goes : (wanted : Want) → does.wanted ≡ wanted → GoesOn s (left s w g) (left s w2 g) h h
  goes (want.Row row) is =
      let turned = gates-turn s w g cs n b u.desks u.taken u.ways v.reads v.pins g.counted same few command job purse server within front part (taken_from part ∷ []) behind turn in
      let was : gates_of_errand s h (w.actors n).errand ≡ 0 = ap (gates_of_errand s h) does.free in
      let now : gates_of_errand s h b.errand ≡ 6 * ahead - 1 = ap (gates_of_errand s h) (errand-is ∙ (λ k. Some (errand_for server part (is k)))) in
      let waited : gates_of_part s h part ≡ 6 * ahead = (λ k. gates_of_state ahead part.path (does.waits k)) ∙ ap (λ (x : Want). gates_of_state ahead part.path (state.Waiting x)) is in
      inl (inr (inl (control, omega (arith, turned, was, now, waited))))
  goes (want.Filter f) is =
      let gates = gates-turn s w g cs n b u.desks u.taken u.ways v.reads v.pins g.counted same few command job purse server within front part (taken_from part ∷ []) behind turn in
      let rows = rows-turn s w g cs n b u.desks u.taken u.ways v.reads v.pins g.counted same few command job purse server within front part (taken_from part ∷ []) behind turn in
      let queries = queries-turn s w g cs n b u.desks u.taken u.ways v.reads v.pins g.counted same few command job purse server within front part (taken_from part ∷ []) behind turn in
      let filter_errand : b.errand ≡ Some (errand_for server part (want.Filter f)) = errand-is ∙ (λ k. Some (errand_for server part (is k))) in
      let filter_part : part.state ≡ state.Waiting (want.Filter f) = does.waits ∙ ap state.Waiting is in
      let g_was : gates_of_errand s h (w.actors n).errand ≡ 0 = ap (gates_of_errand s h) does.free in
      let g_now : gates_of_errand s h b.errand ≡ 0 = ap (gates_of_errand s h) filter_errand in
      let g_part : gates_of_part s h part ≡ 0 = ap (gates_of_state ahead part.path) filter_part in
      let r_was : rows_of_errand g.shape (w.actors n).errand ≡ 0 = ap (rows_of_errand g.shape) does.free in
      let r_now : rows_of_errand g.shape b.errand ≡ 0 = ap (rows_of_errand g.shape) filter_errand in
      let r_part : rows_of_part part.state ≡ 0 = ap rows_of_part filter_part in
      let q_was : queries_of_errand s v g (w.actors n).errand ≡ 0 = ap (queries_of_errand s v g) does.free in
      let q_now : queries_of_errand s v g b.errand ≡ per_query s * ahead - 1 = ap (queries_of_errand s v g) filter_errand in
      let q_part : queries_of_part s h part ≡ per_query s * ahead = ap (queries_of_state s ahead) filter_part in
      let some : 1 ≤ per_query s * ahead = mul-le 1 1 (per_query s) ahead (omega arith) (omega arith) in
      inl (inr (inr (inr (control, omega (arith, gates, g_was, g_now, g_part), omega (arith, rows, r_was, r_now, r_part), omega (arith, queries, q_was, q_now, q_part, some)))))

  pub take-kept : IsKept s TakePart n w w2 g
  take-kept = record {
    step = record { changes = cs; actor = b; agrees = ag; does = does; sight = tt; now_is = refl };
    ghost_now = g;
    holds = subst (λ (z : View). InvWith s z g) (sym same) holds;
    newer = [];
    grows = ap (λ (z : View). z.history) same;
    goes_on = subst (λ (l : List Event). GoesOn s (left s w g) (left s w2 g) h l) (sym (ap (λ (z : View). z.history) same)) (goes does.wanted refl);
  }

pub take-keeps : (h : List Dimension) (d : Change) (a b : ActorValue) (does : DoesTakePart d a b) → Keeps h TakePart (d ∷ []) a b does
take-keeps h d a b does s w n g _ i ag sight =
    take-kept d b s w n g i (record { cells = ag.cells; actor_is = refl; free = λ x ne. ag.free x ne }) (subst (λ (z : ActorValue). DoesTakePart d z b) (sym ag.actor_is) does)
