-- A query's part reads on, at its gate or at a block that it noted: the whole invariant is kept, and less is left.
use Rattle.std.proofs.{Common.{◌≡◌, ◌≢◌, ℕ, ◌+◌, ◌<◌, true, false, cond, eqb, get_or, List, [], ◌++◌, Option, Some, None, Contains, refl, sym, ap, ◌∙◌, subst, inl, inr, arith}, lemmas.Bool.{eqb-true, eqb-false}, lemmas.List.Elements.{All-contains, All-contains_itself}}
use Rattle.std.specs.{Option.option_map_or, Prelude.sum_by}
use Rattle.cell_stock.specs.declared.purse.Spare.{Spare}
use Rattle.dim_hierarchy.specs.declared.filter.Pick.{Pick}
use Rattle.dc_node.specs.declared.todo.Item.{Item}
use Rattle.query_router.specs.{Desk.{is_refused, is_taken, state_is_taken}, declared.part.Part.Part, declared.part.PartState.PartState}
use Rattle.query_router.specs.declared.part.PartState.TheVariants as state
use Rattle.query_router.specs.declared.part.Want.TheVariants as want
use Rattle.row_ledger.specs.{Past.{Query, query_at}, declared.event.Event.Event}
use Rattle.volap_cell.specs.tree_shape.specs.{Queries.NoneWaits, Shape.{Shape, nodes}, Steps.IsSpare}
use Rattle.list_words.proofs.{Each.{each-both, each-append, each-right, each-left}, Truth.{on_bool, eqb-self}}
use Rattle.volap_cell.specs.{Errands.{ReadPart, Taken, taken_by, taken_of, read_of, want_of, way_in_task}, Falls.{left, far, rows_of_task, rows_of_errand, gates_of_task, gates_of_errand, gates_of_work, gates_of_part, control_of, of_work, job_left, gone_left, one_if_any, rows_of_part, queries_of_task, queries_of_errand, queries_of_work, queries_of_state, blocks_left}, Ghost.Ghost, Growing.Growing, Invariant.InvWith, Kinds.Does, Querying.{Pinning, Querying, IsCounted, IsEndOfPart, IsReading}, Setting.{Setting, actor_count, cell_count}, Steps.{HasSight, IsKept}, Stocking.{cells_at, IsWhole, Stocking, Stamping, NoneExpects, all_spares, all_items, items_of_read, items_of_job}, Sums.sum_below, TreeKinds.with_reading, Values.{ActorValue, ErrandValue, ReadingValue, TaskValue, OfRow, Unread, Read}, View.{View, view}, World.{World, Change, after, Agrees}, declared.kind.Kind.Kind}
use Rattle.volap_cell.proofs.{Actors.query-read, Desks.Queries.{IsQueryPart, the-part, alone}, OneEvent.Ahead.job-stays, OneEvent.Reads.readers-take, Persons.has-taken, Sums.{sum-same, sum-less}, Views.Commits.view-step, Views.Frames.{Same, actor-at, actor-off, unmoved-one}, Views.Seen.beside, Views.Trees.by_gate_read}
use Rattle.core_tree.proofs.Stocks.Spares.{spares-each}

-- the view after the step: what is read and who is pinned is new
abbrev pub view_read : Setting → World → World → View
view_read s w w2 = record (view s w) { pins = (view s w2).pins; reads = (view s w2).reads }

-- What a kind of this sort shows of its own: the part asked for the same before, it is one of an open query, what it counts and
-- notes then is right, it notes no block at a stamp that isn't expected yet, and it has less before it.
pub record ReadsStep (s : Setting) (w : World) (n : ℕ) (cs : List Change) (b : ActorValue) (g : Ghost) : Type 0 where
  pub e : ErrandValue
  pub errand : (w.actors n).errand ≡ Some e
  pub task : TaskValue
  pub task_is : e.task ≡ task
  pub r : ReadingValue
  pub actor_is : b ≡ record (w.actors n) { errand = with_reading e r }
  pub wanted : want.Filter r.wanted.picks ≡ want_of task
  pub no_row : way_in_task e task ≡ None
  pub cells : Same (beside by_gate_read) cs
  pub whole : (d : ℕ) → IsWhole (view s w).gates (view s w).phases (view s (after w cs n b)).pins d → IsWhole (view s w).gates (view s w).phases (view s w).pins d
  pub pinning : Pinning s (view s w).gates (view s (after w cs n b)).pins (view s (after w cs n b)).reads
  pub part : IsQueryPart s (view s w).history (view s w).desks (taken_by e) r.wanted.picks
  pub now : List ℕ
  pub counts : IsCounted s (view s w).history (view s w).row g.placed g.home part.q e.shard now
  pub reading : IsReading s (view s w).history (view s w).row (view s w).blocks (view s w).trees g.shape g.placed g.home part.of part.q e.shard now r
  pub gate : ℕ
  pub gate_whole : IsWhole (view s w).gates (view s w).phases (view s w).pins gate
  pub waits : (stamp : ℕ) → NoneExpects (g.shape gate) (cells_at (view s w).blocks (view s w).trees gate) stamp → NoneWaits stamp (items_of_read ((view s w).reads n)) → NoneWaits stamp r.items
  pub less : queries_of_task s (view s w) g (far s.workers (view s w).history e.shard e.worker) (Read r) < queries_of_task s (view s w) g (far s.workers (view s w).history e.shard e.worker) task

-- Small facts.

-- a part that is taken isn't at its end
end-taken : (s : Setting) (w : World) (g : Ghost) (of : ℕ) (q : Query) (x : ℕ) (counted : List ℕ) (st : PartState) → state_is_taken st ≡ true → IsEndOfPart s (view s w).history (view s w).row g.placed g.home of q x counted st
end-taken s w g of q x counted state.Taken is = tt
end-taken s w g of q x counted (state.Waiting wanted) is = absurd (let z : false ≡ true = is in cc)
end-taken s w g of q x counted (state.Done total) is = absurd (let z : false ≡ true = is in cc)
end-taken s w g of q x counted (state.Placed path) is = absurd (let z : false ≡ true = is in cc)
end-taken s w g of q x counted state.NoMemory is = absurd (let z : false ≡ true = is in cc)

-- a task without a row has no gates and no trees before it
no-gates : (e : ErrandValue) (task : TaskValue) (ahead : ℕ) → way_in_task e task ≡ None → gates_of_task ahead task ≡ 0
no-gates e (OfRow r) ahead is = cc
no-gates e (Unread f) ahead is = refl
no-gates e (Read r) ahead is = refl

no-rows : (e : ErrandValue) (task : TaskValue) (shape : ℕ → Shape) → way_in_task e task ≡ None → rows_of_task shape task ≡ 0
no-rows e (OfRow r) shape is = cc
no-rows e (Unread f) shape is = refl
no-rows e (Read r) shape is = refl

-- of the view and the ghost a query's work reads history, blocks and shapes alone

work-same : (s : Setting) (v u : View) (g : Ghost) (counted : ℕ → ℕ → List ℕ) (ahead : ℕ) (task : TaskValue) → u.blocks ≡ v.blocks → queries_of_task s u (record g { counted = counted }) ahead task ≡ queries_of_task s v g ahead task
work-same s v u g counted ahead (OfRow r) blocks = refl
work-same s v u g counted ahead (Unread f) blocks = refl
work-same s v u g counted ahead (Read r) blocks = (λ k. 2 + option_map_or (λ (c : ℕ). blocks_left (blocks k) (cell_count s) (g.shape c) r.items) r.pin 0)

errand-same : (s : Setting) (v u : View) (g : Ghost) (counted : ℕ → ℕ → List ℕ) (errand : Option ErrandValue) → u.history ≡ v.history → u.blocks ≡ v.blocks → queries_of_errand s u (record g { counted = counted }) errand ≡ queries_of_errand s v g errand
errand-same s v u g counted None history blocks = refl
errand-same s v u g counted (Some e) history blocks =
    ap (λ (h : List Event). queries_of_task s u (record g { counted = counted }) (far s.workers h e.shard e.worker) e.task) history
    ∙ work-same s v u g counted (far s.workers v.history e.shard e.worker) e.task blocks

module _ (s : Setting) (w : World) (n : ℕ) (cs : List Change) (b : ActorValue) (g : Ghost) (i : InvWith s (view s w) g) (ag : Agrees w cs n (w.actors n)) (d : ReadsStep s w n cs b g) where
  abbrev v : View
  v = view s w

  abbrev w2 : World
  w2 = after w cs n b

  abbrev v2 : View
  v2 = view_read s w w2

  abbrev server : ℕ
  server = d.e.server

  abbrev shard : ℕ
  shard = d.e.shard

  -- the rows that each part has counted
  abbrev counted : ℕ → ℕ → List ℕ
  counted x y = cond (eqb x server) (cond (eqb y shard) d.now (g.counted x y)) (g.counted x y)

  abbrev g2 : Ghost
  g2 = record g { counted = counted }

  same : view s w2 ≡ v2
  same = view-step by_gate_read s w cs n (w.actors n) b ag d.cells (query-read by_gate_read d.actor_is d.errand d.task_is d.wanted d.no_row refl)

  me : w2.actors n ≡ b
  me = actor-at w.actors n b

  abbrev mine : ReadPart
  mine = record { server = server; shard = shard; reading = d.r }

  reads-me : v2.reads n ≡ Some mine
  reads-me = ap (λ (a : ActorValue). read_of a.errand) (me ∙ d.actor_is)

  reads-off : (a : ℕ) → a ≢ n → v2.reads a ≡ v.reads a
  reads-off a ne = ap (λ (a : ActorValue). read_of a.errand) (actor-off w.actors n b a ne)

  taken-me : v.taken n ≡ Some (taken_by d.e)
  taken-me = ap taken_of d.errand

  few : n < actor_count s
  few = has-taken s v i.numbering n (taken_by d.e) taken-me

  -- Of this part, or of another one.

  counted-here : counted server shard ≡ d.now
  counted-here = rw (eqb-self server, eqb-self shard) refl

  counted-off : (x y : ℕ) → ¬ ((x ≡ server) × (y ≡ shard)) → counted x y ≡ g.counted x y
  counted-off x y off = on_bool (eqb x server)
      (λ p. on_bool (eqb y shard) (λ q. absurd (off (eqb-true _ _ p, eqb-true _ _ q))) (λ q. rw (p, q) refl))
      (λ p. rw p refl)

  by_part : (P : ℕ → ℕ → List ℕ → Type 0) → P server shard d.now → ((x y : ℕ) → ¬ ((x ≡ server) × (y ≡ shard)) → P x y (g.counted x y)) → (x y : ℕ) → P x y (counted x y)
  by_part P at els x y = on_bool (eqb x server)
      (λ p. on_bool (eqb y shard)
      (λ q. let ex = eqb-true _ _ p in
      let ey = eqb-true _ _ q in
      subst (λ (z : ℕ). P z y (counted z y)) (sym ex) (subst (λ (z : ℕ). P server z (counted server z)) (sym ey) (subst (P server shard) (sym counted-here) at)))
      (λ q. let off : ¬ ((x ≡ server) × (y ≡ shard)) = (λ k. eqb-false _ _ q k.1) in subst (P x y) (sym (counted-off x y off)) (els x y off)))
      (λ p. let off : ¬ ((x ≡ server) × (y ≡ shard)) = (λ k. eqb-false _ _ p k.0) in subst (P x y) (sym (counted-off x y off)) (els x y off))

  -- the command on the desk is the part's
  its-of : (x of : ℕ) → x ≡ server → (v.desks x).op ≡ Some of → of ≡ d.part.of
  its-of x of is op = (let z : Some of ≡ Some d.part.of = sym op ∙ ap (λ (y : ℕ). (v.desks y).op) is ∙ d.part.op in cc)

  its-query : (of : ℕ) (q : Query) → of ≡ d.part.of → query_at v.history of ≡ Some q → q ≡ d.part.q
  its-query of q is asked = (let z : Some q ≡ Some d.part.q = sym asked ∙ ap (query_at v.history) is ∙ d.part.asked in cc)

  -- who is at another part is another actor, and the other way round
  off-part : (a : ℕ) (t : Taken) → a ≢ n → v.taken a ≡ Some t → ¬ ((t.server ≡ server) × (t.shard ≡ shard))
  off-part a t ne is k = ne (alone s v.history v.desks v.roles v.commands v.taken i.desking (taken_by d.e) d.r.wanted.picks d.part a n t taken-me is k.0 k.1)

  -- Queries.

  abbrev Counts : ℕ → ℕ → List ℕ → Type 0
  Counts x y ns = (of : ℕ) (q : Query) (p : Part) → x < s.servers → (v.desks x).op ≡ Some of → query_at v.history of ≡ Some q → Contains (v.desks x).parts p → p.shard ≡ y → is_refused p ≡ false
      → IsCounted s v.history v.row g.placed g.home q y ns

  counts-now : (x y : ℕ) → Counts x y (counted x y)
  counts-now = by_part Counts
      (λ of q p within op asked there shard_is well. subst (λ (z : Query). IsCounted s v.history v.row g.placed g.home z shard d.now) (sym (its-query of q (its-of server of refl op) asked)) d.counts)
      (λ x y off of q p within op asked there shard_is well. subst (λ (z : ℕ). IsCounted s v.history v.row g.placed g.home q z (g.counted x z)) shard_is
      (All-contains (λ (p : Part). is_refused p ≡ false → IsCounted s v.history v.row g.placed g.home q p.shard (g.counted x p.shard)) (v.desks x).parts p (i.querying.counts x of q within op asked) there well))

  abbrev Ends : ℕ → ℕ → List ℕ → Type 0
  Ends x y ns = (of : ℕ) (q : Query) (p : Part) → x < s.servers → (v.desks x).op ≡ Some of → query_at v.history of ≡ Some q → Contains (v.desks x).parts p → p.shard ≡ y
      → IsEndOfPart s v.history v.row g.placed g.home of q y ns p.state

  ends-now : (x y : ℕ) → Ends x y (counted x y)
  ends-now = by_part Ends
      (λ of q p within op asked there shard_is.
      let one = the-part s v.history v.desks v.roles v.commands v.taken i.desking (taken_by d.e) d.r.wanted.picks d.part p there shard_is in
      end-taken s w g of q shard d.now p.state (ap is_taken one ∙ d.part.is_at))
      (λ x y off of q p within op asked there shard_is. subst (λ (z : ℕ). IsEndOfPart s v.history v.row g.placed g.home of q z (g.counted x z) p.state) shard_is
      (All-contains (λ (p : Part). IsEndOfPart s v.history v.row g.placed g.home of q p.shard (g.counted x p.shard) p.state) (v.desks x).parts p (i.querying.ends x of q within op asked) there))

  abbrev AreRead : ReadPart → Type 0
  AreRead p = (of : ℕ) (q : Query) → (v.desks p.server).op ≡ Some of → query_at v.history of ≡ Some q → IsReading s v.history v.row v.blocks v.trees g.shape g.placed g.home of q p.shard (counted p.server p.shard) p.reading

  reads-mine : AreRead mine
  reads-mine of q op asked =
      let of_is = its-of server of refl op in
      subst (λ (ns : List ℕ). IsReading s v.history v.row v.blocks v.trees g.shape g.placed g.home of q shard ns d.r) (sym counted-here)
      (subst (λ (z : ℕ). IsReading s v.history v.row v.blocks v.trees g.shape g.placed g.home z q shard d.now d.r) (sym of_is)
      (subst (λ (z : Query). IsReading s v.history v.row v.blocks v.trees g.shape g.placed g.home d.part.of z shard d.now d.r) (sym (its-query of q of_is asked)) d.reading))

  reads-others : (a : ℕ) (p : ReadPart) → a ≢ n → v.reads a ≡ Some p → AreRead p
  reads-others a p ne is of q op asked =
      let (t, took, server_is, shard_is) = readers-take s w a p is in
      subst (λ (ns : List ℕ). IsReading s v.history v.row v.blocks v.trees g.shape g.placed g.home of q p.shard ns p.reading)
      (sym (counted-off p.server p.shard (λ k. off-part a t ne took (server_is ∙ k.0, shard_is ∙ k.1)))) (i.querying.reading a of q p is op asked)

  reading-now : (a : ℕ) (p : ReadPart) → v2.reads a ≡ Some p → AreRead p
  reading-now a p is = on_bool (eqb a n)
      (λ q. let one : Some mine ≡ Some p = sym reads-me ∙ ap v2.reads (sym (eqb-true _ _ q)) ∙ is in
      let same_part : mine ≡ p = cc in subst AreRead same_part reads-mine)
      (λ q. let ne = eqb-false _ _ q in reads-others a p ne (sym (reads-off a ne) ∙ is))

  unread-now : (a : ℕ) (t : Taken) (f : List Pick) → v.taken a ≡ Some t → t.want ≡ want.Filter f → v2.reads a ≡ None → counted t.server t.shard ≡ []
  unread-now a t f took asks none = on_bool (eqb a n)
      (λ q. let z : Some mine ≡ None = sym reads-me ∙ ap v2.reads (sym (eqb-true _ _ q)) ∙ none in absurd cc)
      (λ q. let ne = eqb-false _ _ q in counted-off t.server t.shard (off-part a t ne took) ∙ i.querying.unread a t f took asks (sym (reads-off a ne) ∙ none))

  querying : Querying s v.history v.row v.blocks v.trees v.desks v.taken v2.reads g.shape g.placed g.home counted
  querying = record {
    counts = λ x of q within op asked j p lt. let it = get_or (v.desks x).parts j p in counts-now x it.shard of q it within op asked (All-contains_itself (v.desks x).parts j p lt) refl;
    ends = λ x of q within op asked j p lt. let it = get_or (v.desks x).parts j p in ends-now x it.shard of q it within op asked (All-contains_itself (v.desks x).parts j p lt) refl;
    whole = i.querying.whole;
    reading = λ a of q p is op asked. reading-now a p is of q op asked;
    unread = unread-now;
  }

  -- Cells and stamps.

  stocking : Stocking s v.stock v.made v.gates v.phases v2.pins v.gone v.purses v.jobs g.owner g.shape
  stocking =
      let k = i.stocking in record {
        valid = k.valid;
        count = k.count;
        within = k.within;
        every = k.every;
        unused = k.unused;
        purse = k.purse;
        job = k.job;
        gate = k.gate;
        gate_back = k.gate_back;
        tree = λ c y whole inside ne. k.tree c y (d.whole c whole) inside ne;
        tree_back = λ c y is. let back = k.tree_back c y is in (back.0, λ whole. back.1 (d.whole c whole));
        gone_cells = k.gone_cells;
        none_gone = k.none_gone;
      }

  -- what the actor has noted then
  items-me : (stamp : ℕ) → NoneExpects (g.shape d.gate) (cells_at v.blocks v.trees d.gate) stamp → NoneWaits stamp (all_items v.reads v.jobs n) → NoneWaits stamp (all_items v2.reads v.jobs n)
  items-me stamp unexpected none =
      let old = each-left (λ (x : Item). x.stamp ≢ stamp) (items_of_read (v.reads n)) (items_of_job (v.jobs n)) none in
      let rest = each-right (λ (x : Item). x.stamp ≢ stamp) (items_of_read (v.reads n)) (items_of_job (v.jobs n)) none in
      let new : NoneWaits stamp (items_of_read (v2.reads n)) = subst (λ (o : Option ReadPart). NoneWaits stamp (items_of_read o)) (sym reads-me) (d.waits stamp unexpected old) in
      each-append (λ (x : Item). x.stamp ≢ stamp) (items_of_read (v2.reads n)) (items_of_job (v.jobs n)) new rest

  items-now : (stamp a : ℕ) → NoneExpects (g.shape d.gate) (cells_at v.blocks v.trees d.gate) stamp → NoneWaits stamp (all_items v.reads v.jobs a) → NoneWaits stamp (all_items v2.reads v.jobs a)
  items-now stamp a unexpected none = on_bool (eqb a n)
      (λ q. let is = eqb-true _ _ q in
      subst (λ (z : ℕ). NoneWaits stamp (all_items v2.reads v.jobs z)) (sym is) (items-me stamp unexpected (subst (λ (z : ℕ). NoneWaits stamp (all_items v.reads v.jobs z)) is none)))
      (λ q. subst (λ (o : Option ReadPart). NoneWaits stamp (items_of_read o ++ items_of_job (v.jobs a))) (sym (reads-off a (eqb-false _ _ q))) none)

  stamping : Stamping v.stock v.blocks v.made v.trees v.gates v.phases v2.pins v.purses v2.reads v.jobs g.shape
  stamping =
      let k = i.stamping in record {
        blocks_given = k.blocks_given;
        blocks_apart = k.blocks_apart;
        unspared = k.unspared;
        given = k.given;
        apart = k.apart;
        spare = λ a c whole. k.spare a c (d.whole c whole);
        waits = λ a x. each-both (IsSpare (g.shape d.gate) (nodes (cells_at v.blocks v.trees d.gate))) (λ (y : Spare). NoneWaits y.stamp (all_items v.reads v.jobs x)) (λ (y : Spare). NoneWaits y.stamp (all_items v2.reads v.jobs x)) (all_spares v.purses v.jobs a)
            (λ y spare none. items-now y.stamp x spare.unexpected none) (spares-each (g.shape d.gate) (nodes (cells_at v.blocks v.trees d.gate)) (all_spares v.purses v.jobs a) (k.spare a d.gate d.gate_whole)) (k.waits a x);
        fresh = λ c stamp whole le. k.fresh c stamp (d.whole c whole) le;
        fresh_waits = λ x stamp le. items-now stamp x (k.fresh d.gate stamp d.gate_whole le) (k.fresh_waits x stamp le);
      }

  growing : Growing s v.row v.blocks v.trees v.gates v.phases v2.pins g.shape
  growing = record { tree = λ c whole. i.growing.tree c (d.whole c whole) }

  holds : InvWith s v2 g2
  holds = record {
    numbering = i.numbering;
    telling = i.telling;
    owing = i.owing;
    turning = i.turning;
    stocking = stocking;
    stamping = stamping;
    lineage = i.lineage;
    leading = i.leading;
    growing = growing;
    queueing = i.queueing;
    resting = i.resting;
    placing = i.placing;
    inserting = i.inserting;
    imaging = i.imaging;
    covering = i.covering;
    desking = i.desking;
    pinning = d.pinning;
    querying = querying;
    working = i.working;
    balancing = i.balancing;
    reusing = i.reusing;
  }

  -- What is left.

  actor-same : {A : Type 0} (f : ActorValue → A) → f b ≡ f (w.actors n) → (a : ℕ) → f (w2.actors a) ≡ f (w.actors a)
  actor-same f e a = unmoved-one f w.actors n b e a

  command : b.command ≡ (w.actors n).command
  command = ap (λ (x : ActorValue). x.command) d.actor_is

  control-same : (left s w2 g2).control ≡ (left s w g).control
  control-same =
      ap (λ (u : View). sum_below (actor_count s) (λ a. of_work (control_of s) (w2.actors a).command + job_left s u (w2.actors a).job) + sum_below (cell_count s) (λ y. gone_left (u.phases y) (u.gone y))) same
      ∙ ap (λ (x : ℕ). x + sum_below (cell_count s) (λ y. gone_left (v.phases y) (v.gone y)))
      (sum-same (actor_count s) (λ a. of_work (control_of s) (w.actors a).command + job_left s v (w.actors a).job) (λ a. of_work (control_of s) (w2.actors a).command + job_left s v2 (w2.actors a).job)
      (λ a lt.
      let one = actor-same (λ z. of_work (control_of s) z.command) (ap (of_work (control_of s)) command) a in
      let two = actor-same (λ z. job_left s v2 z.job) (ap (λ (x : ActorValue). job_left s v2 x.job) d.actor_is) a in
      let three = job-stays s v v2 refl (w.actors a).job in omega arith))

  abbrev ahead : ℕ
  ahead = far s.workers v.history d.e.shard d.e.worker

  gates-errand : gates_of_errand s v.history b.errand ≡ gates_of_errand s v.history (w.actors n).errand
  gates-errand =
      let now : gates_of_errand s v.history b.errand ≡ 0 = ap (λ (x : ActorValue). gates_of_errand s v.history x.errand) d.actor_is in
      let old : gates_of_errand s v.history (w.actors n).errand ≡ 0 = ap (gates_of_errand s v.history) d.errand ∙ ap (gates_of_task ahead) d.task_is ∙ no-gates d.e d.task ahead d.no_row in
      now ∙ sym old

  gates-same : (left s w2 g2).gates ≡ (left s w g).gates
  gates-same =
      ap (λ (u : View). sum_below (actor_count s) (λ a. of_work (gates_of_work u.history) (w2.actors a).command + gates_of_errand s u.history (w2.actors a).errand)
      + sum_below s.servers (λ server. sum_by (gates_of_part s u.history) (u.desks server).parts)) same
      ∙ ap (λ (x : ℕ). x + sum_below s.servers (λ server. sum_by (gates_of_part s v.history) (v.desks server).parts))
      (sum-same (actor_count s) (λ a. of_work (gates_of_work v.history) (w.actors a).command + gates_of_errand s v.history (w.actors a).errand)
      (λ a. of_work (gates_of_work v.history) (w2.actors a).command + gates_of_errand s v.history (w2.actors a).errand)
      (λ a lt.
      let one = actor-same (λ z. of_work (gates_of_work v.history) z.command) (ap (of_work (gates_of_work v.history)) command) a in
      let two = actor-same (λ z. gates_of_errand s v.history z.errand) gates-errand a in omega arith))

  rows-errand : rows_of_errand g.shape b.errand ≡ rows_of_errand g.shape (w.actors n).errand
  rows-errand =
      let now : rows_of_errand g.shape b.errand ≡ 0 = ap (λ (x : ActorValue). rows_of_errand g.shape x.errand) d.actor_is in
      let old : rows_of_errand g.shape (w.actors n).errand ≡ 0 = ap (rows_of_errand g.shape) d.errand ∙ ap (rows_of_task g.shape) d.task_is ∙ no-rows d.e d.task g.shape d.no_row in
      now ∙ sym old

  rows-same : (left s w2 g2).rows ≡ (left s w g).rows
  rows-same =
      ap (λ (u : View). sum_below (actor_count s) (λ a. rows_of_errand g.shape (w2.actors a).errand + one_if_any (w2.actors a).purse) + sum_below s.servers (λ server. sum_by (λ (p : Part). rows_of_part p.state) (u.desks server).parts)) same
      ∙ ap (λ (x : ℕ). x + sum_below s.servers (λ server. sum_by (λ (p : Part). rows_of_part p.state) (v.desks server).parts))
      (sum-same (actor_count s) (λ a. rows_of_errand g.shape (w.actors a).errand + one_if_any (w.actors a).purse) (λ a. rows_of_errand g.shape (w2.actors a).errand + one_if_any (w2.actors a).purse)
      (λ a lt.
      let one = actor-same (λ z. rows_of_errand g.shape z.errand) rows-errand a in
      let two = actor-same (λ z. one_if_any z.purse) (ap (λ (x : ActorValue). one_if_any x.purse) d.actor_is) a in omega arith))

  queries-less : (left s w2 g2).queries < (left s w g).queries
  queries-less =
      let desks = sum_below s.servers (λ server. sum_by (λ (p : Part). queries_of_state s (far s.workers v.history p.shard p.worker) p.state) (v.desks server).parts) in
      let is : (left s w2 g2).queries ≡ sum_below (actor_count s) (λ a. of_work queries_of_work (w2.actors a).command + queries_of_errand s v2 g2 (w2.actors a).errand) + desks =
      ap (λ (u : View). sum_below (actor_count s) (λ a. of_work queries_of_work (w2.actors a).command + queries_of_errand s u g2 (w2.actors a).errand)
      + sum_below s.servers (λ server. sum_by (λ (p : Part). queries_of_state s (far s.workers u.history p.shard p.worker) p.state) (u.desks server).parts)) same in
      let less = sum-less (actor_count s) (λ a. of_work queries_of_work (w.actors a).command + queries_of_errand s v g (w.actors a).errand) (λ a. of_work queries_of_work (w2.actors a).command + queries_of_errand s v2 g2 (w2.actors a).errand) n few
      (let now : queries_of_errand s v2 g2 (w2.actors n).errand ≡ queries_of_task s v g ahead (Read d.r) =
      ap (λ (a : ActorValue). queries_of_errand s v2 g2 a.errand) (me ∙ d.actor_is) ∙ work-same s v v2 g counted ahead (Read d.r) refl in
      let old : queries_of_errand s v g (w.actors n).errand ≡ queries_of_task s v g ahead d.task = ap (queries_of_errand s v g) d.errand ∙ ap (queries_of_task s v g ahead) d.task_is in
      let work : of_work queries_of_work (w2.actors n).command ≡ of_work queries_of_work (w.actors n).command = actor-same (λ z. of_work queries_of_work z.command) (ap (of_work queries_of_work) command) n in
      let k = d.less in omega arith)
      (λ a ne.
      let off = actor-off w.actors n b a ne in
      let one : of_work queries_of_work (w2.actors a).command ≡ of_work queries_of_work (w.actors a).command = ap (λ (z : ActorValue). of_work queries_of_work z.command) off in
      let two : queries_of_errand s v2 g2 (w2.actors a).errand ≡ queries_of_errand s v2 g2 (w.actors a).errand = ap (λ (z : ActorValue). queries_of_errand s v2 g2 z.errand) off in
      let three = errand-same s v v2 g counted (w.actors a).errand refl refl in omega arith) in
      omega arith

  pub query-kept : (k : Kind) (does : Does s.hierarchy k cs (w.actors n) b) → HasSight s w n s.hierarchy k cs (w.actors n) b does → IsKept s k n w w2 g
  query-kept k does sight = record {
    step = record { changes = cs; actor = b; agrees = ag; does = does; sight = sight; now_is = refl };
    ghost_now = g2;
    holds = subst (λ (u : View). InvWith s u g2) (sym same) holds;
    newer = [];
    grows = ap (λ (u : View). u.history) same;
    goes_on = inl (inr (inr (inr (control-same, gates-same, rows-same, queries-less))));
  }
