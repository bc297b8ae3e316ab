-- What is left is within limits that the size of a core gives.
use Rattle.std.proofs.{Common.{◌≡◌, ◌≢◌, ◌∙◌, ℕ, zero, suc, ◌+◌, ◌*◌, ◌<◌, ◌≤◌, inl, inr, Bool, true, false, cond, leb, eqb, List, [], ◌∷◌, length, Option, Some, None, All, Contains, refl, sym, ap, subst, arith, ◌||◌}, lemmas.Bool.{false≢true, leb-true, leb-false, eqb-true, eqb-false}, lemmas.List.length-map, lemmas.List.Elements.All-contains, lemmas.List.Sums.sum_by-cons, lemmas.Nat.mul-le}
use Rattle.std.specs.{Option.option_map_or, Prelude.{sum_by, IsSome}}
use Rattle.cell_stock.specs.{Stock.cells_of, declared.purse.Spare.Spare}
use Rattle.query_router.specs.{Desk.{is_open, is_taken, is_waiting, state_waits}, declared.part.Part.Part, declared.part.PartState.PartState}
use Rattle.query_router.specs.declared.part.PartState.TheVariants as state
use Rattle.query_router.specs.declared.part.Want.TheVariants as want
use Rattle.row_ledger.specs.{Past.Query, Shards.{comes_from, ids_made}, declared.event.Event.Event, declared.event.Event.TheVariants.Split}
use Rattle.row_ledger.proofs.Descent.{comes_from-self}
use Rattle.list_words.specs.Counts.{same, times}
use Rattle.list_words.proofs.{Times.{same_is, same_not}, Truth.on_bool}
use Rattle.core_pages.specs.volap_cell.specs.{Desking.{AreLinesApart, AreUnrelated, IsQueryPart, IsQueryState}, Errands.{ReadPart, place_of, row_way, taken_by, taken_of, want_of}, Falls.{left, far, farthest, count_events, is_split_or_move, of_work, gates_of_work, gates_of_way, gates_of_task, gates_of_errand, gates_of_state, gates_of_part, one_if_any, rows_of_way, rows_of_task, rows_of_errand, rows_of_part, per_gate, per_query, blocks_left, queries_of_work, queries_of_task, queries_of_errand, queries_of_state}, Ghost.{Ghost, InTree, NotOfStock, is_in_purse}, Growing.table_of, Invariant.InvWith, Querying.IsWalk, Setting.{Setting, actor_count, cell_count}, Stocking.cells_at, Sums.sum_below, Values.{ErrandValue, TaskValue, OfRow, Unread, Read, ReadingValue}, View.{View, view}, World.World, declared.command.Command.Command, declared.command.Work.Work, declared.errand.RowErrand.RowErrand, declared.errand.Way.Way}
use Rattle.core_pages.specs.volap_cell.specs.declared.command.Work.TheVariants as work_is
use Rattle.core_pages.specs.volap_cell.specs.declared.errand.Way.TheVariants as way
use Rattle.core_pages.specs.volap_cell.proofs.{Actors.{read-is, way-is}, Counting.length-few, Desks.Facts.on-desk, Desks.Queries.query-part, OneEvent.Reads.{pinned-whole, readers-take}}
use Rattle.core_pages.specs.core_image.proofs.{Images.KnownMade.known-made, Lessens.Fars.far-most}
use Rattle.core_due.specs.core_tree.proofs.Queries.BlocksLeft.{left-is, left-few}
use Rattle.seeded_run.specs.{Measure.{LimitsLaw, limits_of, most_events, most_far, most_waiting}, Ranks.IsWithin}

-- Sums.

sum-most : (n k : ℕ) (f : ℕ → ℕ) → ((a : ℕ) → a < n → f a ≤ k) → sum_below n f ≤ n * k
sum-most zero k f each = omega arith
sum-most (suc n) k f each =
    let here = each n (omega arith) in
    let rest = sum-most n k f (λ a lt. each a (omega arith)) in omega arith

both : (a b x y : ℕ) → x ≤ a → y ≤ b → x + y < a + b + 1
both a b x y h k = omega arith

sum-none : {X : Type 0} (f : X → ℕ) (xs : List X) → ((x : X) → Contains xs x → f x ≡ 0) → sum_by f xs ≡ 0
sum-none f [] none = refl
sum-none f (x ∷ xs) none =
    let here = none x (0, omega arith, refl) in
    let rest = sum-none f xs (λ y has. none y (suc has.0, omega (arith, has.1), has.2)) in
    let all = sum_by-cons f x xs in omega arith

-- Histories.

count-few : (test : Event → ℕ → Bool) (h : List Event) → count_events test h ≤ length h
count-few test [] = omega arith
count-few test (e ∷ past) =
    let rest = count-few test past in
    on_bool (test e (length past)) (λ q. rw q (omega arith)) (λ q. rw q (omega arith))

ids-few : (workers : ℕ) (h : List Event) → ids_made workers h ≤ workers + 2 * length h
ids-few workers [] = omega arith
ids-few workers (Split of shard l r ∷ past) = (let rest = ids-few workers past in omega arith)
ids-few workers (_ ∷ past) = (let rest = ids-few workers past in omega arith)

-- Parts that wait.

-- the shards of the parts that wait
abbrev waiting_shards : List Part → List ℕ
waiting_shards [] = []
waiting_shards (p ∷ parts) = cond (is_waiting p) (p.shard ∷ waiting_shards parts) (waiting_shards parts)

later : (p : Part) (parts : List Part) (q : Part) → Contains parts q → Contains (p ∷ parts) q
later p parts q has = (suc has.0, omega (arith, has.1), has.2)

-- each is that of such a part
found : (parts : List Part) (x : ℕ) → 1 ≤ times x (waiting_shards parts) → (q : Part) × Contains parts q × (is_waiting q ≡ true) × (q.shard ≡ x)
found [] x some = absurd (omega arith)
found (p ∷ parts) x some = on_bool (is_waiting p)
    (λ t. on_bool (eqb x p.shard)
    (λ e. (p, (0, omega arith, refl), t, sym (eqb-true _ _ e)))
    (λ e. let o = same_not x p.shard (eqb-false _ _ e) in
    let more : 1 ≤ same x p.shard + times x (waiting_shards parts) = rw t at some in
    let (q, has, waits, is) = found parts x (omega arith) in (q, later p parts q has, waits, is)))
    (λ t. let more : 1 ≤ times x (waiting_shards parts) = rw t at some in
    let (q, has, waits, is) = found parts x more in (q, later p parts q has, waits, is))

-- parts whose lines are apart are of different shards
once : (h : List Event) (parts : List Part) → AreLinesApart h parts → (x : ℕ) → times x (waiting_shards parts) ≤ 1
once h [] apart x = omega arith
once h (p ∷ parts) apart x =
    let rest = once h parts apart.1 x in
    on_bool (is_waiting p)
    (λ t. rw t (on_bool (eqb x p.shard)
    (λ e. on_bool (leb 1 (times x (waiting_shards parts)))
    (λ k. let (q, has, waits, is) = found parts x (leb-true _ _ k) in
    let unrelated = All-contains (AreUnrelated h p) parts q apart.0 has in
    absurd (false≢true (sym unrelated.0 ∙ ap (comes_from h p.shard) (is ∙ eqb-true _ _ e) ∙ comes_from-self h p.shard)))
    (λ k. let none = leb-false _ _ k in let o = same_is x p.shard (eqb-true _ _ e) in omega arith))
    (λ e. let o = same_not x p.shard (eqb-false _ _ e) in omega arith)))
    (λ t. rw t rest)

-- where all others count nothing, they make as much as they are
many : (b : ℕ) (f : Part → ℕ) → ((p : Part) → f p ≤ cond (is_waiting p) b 0) → (parts : List Part) → sum_by f parts ≤ length (waiting_shards parts) * b
many b f each [] = omega arith
many b f each (p ∷ parts) =
    let rest = many b f each parts in
    let here = each p in
    let all = sum_by-cons f p parts in
    on_bool (is_waiting p)
    (λ t. let k : f p ≤ b = rw t at here in rw t (omega arith))
    (λ t. let k : f p ≤ 0 = rw t at here in rw t (omega arith))

-- What one counts.

few-any : {X : Type 0} (xs : List X) → one_if_any xs ≤ 1
few-any [] = omega arith
few-any (x ∷ xs) = omega arith

way-gates : (ahead : ℕ) (x : Way) → gates_of_way ahead x ≤ per_gate * ahead
way-gates ahead (way.Before None filled) = omega arith
way-gates ahead (way.Before (Some height) false) = omega arith
way-gates ahead (way.Before (Some height) true) = omega arith
way-gates ahead (way.Carried gate block) = omega arith
way-gates ahead (way.Put gate) = omega arith
way-gates ahead way.Placed = omega arith

task-gates : (ahead : ℕ) (t : TaskValue) → gates_of_task ahead t ≤ per_gate * ahead
task-gates ahead (OfRow r) = way-gates ahead r.way
task-gates ahead (Unread f) = omega arith
task-gates ahead (Read r) = omega arith

state-gates : (ahead : ℕ) (path : List ℕ) (st : PartState) → 1 ≤ ahead → gates_of_state ahead path st ≤ per_gate * ahead
state-gates ahead path (state.Waiting (want.Row row)) some = omega arith
state-gates ahead path (state.Waiting (want.Filter f)) some = omega arith
state-gates ahead path state.NoMemory some = (let few = few-any path in omega arith)
state-gates ahead path state.Taken some = omega arith
state-gates ahead path (state.Placed way) some = omega arith
state-gates ahead path (state.Done total) some = omega arith

query-gates : (ahead : ℕ) (q : Query) (path : List ℕ) (st : PartState) → IsQueryState q st → path ≡ [] → gates_of_state ahead path st ≡ 0
query-gates ahead q path (state.Waiting wanted) is none = ap (λ z. gates_of_state ahead path (state.Waiting z)) is
query-gates ahead q path state.NoMemory is none = ap one_if_any none
query-gates ahead q path state.Taken is none = refl
query-gates ahead q path (state.Placed way) is none = absurd is
query-gates ahead q path (state.Done total) is none = refl

state-rows : (st : PartState) → rows_of_part st ≤ 1
state-rows (state.Placed path) = omega arith
state-rows (state.Waiting wanted) = omega arith
state-rows state.NoMemory = omega arith
state-rows state.Taken = omega arith
state-rows (state.Done total) = omega arith

query-rows : (q : Query) (st : PartState) → IsQueryState q st → rows_of_part st ≡ 0
query-rows q (state.Placed path) is = absurd is
query-rows q (state.Waiting wanted) is = refl
query-rows q state.NoMemory is = refl
query-rows q state.Taken is = refl
query-rows q (state.Done total) is = refl

work-queries : (k : Work) → queries_of_work k ≤ 1
work-queries work_is.Query = omega arith
work-queries (work_is.Insert row routed) = omega arith
work-queries _ = omega arith

-- In a state that meets the invariant.

module _ (s : Setting) (w : World) (g : Ghost) (i : InvWith s (view s w) g) where
  abbrev v : View
  v = view s w

  abbrev cells : ℕ
  cells = cell_count s

  events : length v.history < most_events
  events = (let few = i.owing.few in omega arith)

  farthest-few : farthest v.history ≤ most_far
  farthest-few =
      let few = count-few (λ e p. is_split_or_move e) v.history in
      let all = events in omega arith

  far-few : (x y : ℕ) → far s.workers v.history x y ≤ most_far
  far-few x y = (let most = far-most s.workers v.history x y in let few = farthest-few in omega arith)

  -- Pulls, and inserts up to their gates.

  work-gates : (k : Work) → gates_of_work v.history k ≤ per_gate * most_far + 1
  work-gates (work_is.Insert row false) = (let few = farthest-few in omega arith)
  work-gates (work_is.Insert row true) = omega arith
  work-gates (work_is.Sync server true) = omega arith
  work-gates (work_is.Sync server false) = omega arith
  work-gates _ = omega arith

  command-gates : (c : Option Command) → of_work (gates_of_work v.history) c ≤ per_gate * most_far + 1
  command-gates None = omega arith
  command-gates (Some c) = work-gates c.work

  errand-gates : (e : Option ErrandValue) → gates_of_errand s v.history e ≤ per_gate * most_far
  errand-gates None = omega arith
  errand-gates (Some e) =
      let most = task-gates (far s.workers v.history e.shard e.worker) e.task in
      let few = far-few e.shard e.worker in omega arith

  part-gates : (p : Part) → gates_of_part s v.history p ≤ per_gate * most_far
  part-gates p =
      let most = state-gates (far s.workers v.history p.shard p.worker) p.path p.state (omega arith) in
      let few = far-few p.shard p.worker in omega arith

  -- Desks.

  -- nothing stands on a desk, or a part of an insert, or parts of a query
  data Stands (parts : List Part) : Type 0 where
    Nothing : parts ≡ [] → Stands parts
    OneRow : (p : Part) → parts ≡ p ∷ [] → Stands parts
    Asked : (q : Query) → All (λ (p : Part). IsQueryState q p.state) parts → AreLinesApart v.history parts → All (IsQueryPart s v.history) parts → Stands parts

  stands : (server : ℕ) → server < s.servers → Stands (v.desks server).parts
  stands server lt = by (v.desks server).op refl
    where
      by : (o : Option ℕ) → (v.desks server).op ≡ o → Stands (v.desks server).parts
      by None op = Nothing (i.desking.empty server lt op)
      by (Some of) op = elim (on-desk s v g i server of lt op) [
        | inl row ↦ (let one = i.desking.insert server of row.0 lt op row.1 in OneRow one.0 one.1)
        | inr asked ↦ (let parts = i.desking.query server of asked.0 lt op asked.1 in Asked asked.0 parts.0 parts.1 parts.2)
      ]

  desk-gates : (parts : List Part) → Stands parts → sum_by (gates_of_part s v.history) parts ≤ per_gate * most_far
  desk-gates parts (Nothing none) = subst (λ (ps : List Part). sum_by (gates_of_part s v.history) ps ≤ per_gate * most_far) (sym none) (omega arith)
  desk-gates parts (OneRow p one) = subst (λ (ps : List Part). sum_by (gates_of_part s v.history) ps ≤ per_gate * most_far) (sym one) (let k = part-gates p in let all = sum_by-cons (gates_of_part s v.history) p [] in omega arith)
  desk-gates parts (Asked q states apart paths) =
      let none = sum-none (gates_of_part s v.history) parts (λ p has. query-gates (far s.workers v.history p.shard p.worker) q p.path p.state
      (All-contains (λ (x : Part). IsQueryState q x.state) parts p states has) (All-contains (IsQueryPart s v.history) parts p paths has).0) in omega arith

  desk-rows : (parts : List Part) → Stands parts → sum_by (λ (p : Part). rows_of_part p.state) parts ≤ 1
  desk-rows parts (Nothing none) = subst (λ (ps : List Part). sum_by (λ (p : Part). rows_of_part p.state) ps ≤ 1) (sym none) (omega arith)
  desk-rows parts (OneRow p one) = subst (λ (ps : List Part). sum_by (λ (p : Part). rows_of_part p.state) ps ≤ 1) (sym one) (let k = state-rows p.state in let all = sum_by-cons (λ (x : Part). rows_of_part x.state) p [] in omega arith)
  desk-rows parts (Asked q states apart paths) =
      let none = sum-none (λ (p : Part). rows_of_part p.state) parts (λ p has. query-rows q p.state (All-contains (λ (x : Part). IsQueryState q x.state) parts p states has)) in omega arith

  -- Inserts past their gates.

  -- the spares of a purse are different cells
  purse-few : (a : ℕ) → length (v.purses a) ≤ cells
  purse-few a =
      let few = length-few (cells_of (v.purses a)) cells
      (λ y. let k = i.stocking.purse a y in on_bool (is_in_purse a (g.owner y)) (λ q. let e = rw q at k in omega arith) (λ q. let e = rw q at k in omega arith))
      (λ y some. let k = i.stocking.purse a y in on_bool (is_in_purse a (g.owner y))
      (λ q. (i.stocking.within y (λ (e : g.owner y ≡ NotOfStock). false≢true (sym (ap (is_in_purse a) e) ∙ q))).1)
      (λ q. let e = rw q at k in absurd (omega arith))) in
      let same_length = length-map (v.purses a) (λ (x : Spare). x.cell) in omega arith

  way-rows : (a : ℕ) (e : ErrandValue) (r : RowErrand) → (w.actors a).errand ≡ Some e → e.task ≡ OfRow r → (x : Way) → r.way ≡ x → rows_of_way g.shape x ≤ cells + 4
  way-rows a e r errand task (way.Before height filled) is = omega arith
  way-rows a e r errand task (way.Carried gate block) is =
      let enough = i.turning.enough a gate block (row_way e r) (way-is errand task) (ap place_of is) in
      let few = purse-few a in omega (arith, enough.0)
  way-rows a e r errand task (way.Put gate) is = omega arith
  way-rows a e r errand task way.Placed is = omega arith

  task-rows : (a : ℕ) (e : ErrandValue) → (w.actors a).errand ≡ Some e → (t : TaskValue) → e.task ≡ t → rows_of_task g.shape t ≤ cells + 4
  task-rows a e errand (OfRow r) task = way-rows a e r errand task r.way refl
  task-rows a e errand (Unread f) task = omega arith
  task-rows a e errand (Read r) task = omega arith

  errand-rows : (a : ℕ) (o : Option ErrandValue) → (w.actors a).errand ≡ o → rows_of_errand g.shape o ≤ cells + 4
  errand-rows a None errand = omega arith
  errand-rows a (Some e) errand = task-rows a e errand e.task refl

  -- Queries.

  -- so much counts a part that waits at most
  abbrev asks : ℕ
  asks = per_query s * most_far

  ask-few : (x y : ℕ) → per_query s * far s.workers v.history x y ≤ asks
  ask-few x y = mul-le (per_query s) (far s.workers v.history x y) (per_query s) most_far (omega arith) (far-few x y)

  waiting-few : (server : ℕ) → server < s.servers → Stands (v.desks server).parts → length (waiting_shards (v.desks server).parts) ≤ most_waiting s
  waiting-few server lt (Nothing none) = subst (λ (ps : List Part). length (waiting_shards ps) ≤ most_waiting s) (sym none) (omega arith)
  waiting-few server lt (OneRow p one) =
      subst (λ (ps : List Part). length (waiting_shards ps) ≤ most_waiting s) (sym one) (on_bool (is_waiting p) (λ t. rw t (omega arith)) (λ t. rw t (omega arith)))
  waiting-few server lt (Asked q states apart paths) =
      let parts = (v.desks server).parts in
      let few = length-few (waiting_shards parts) (ids_made s.workers v.history) (once v.history parts apart)
      (λ x some. let (p, has, waits, is) = found parts x some in
      let knows = All-contains (λ (c : Part). is_open c ≡ true → (c.worker < s.workers) × IsSome (v.maps c.worker c.shard)) parts p (i.leading.parts server lt) has (ap (λ b. b || is_taken p) waits) in
      subst (λ (y : ℕ). y < ids_made s.workers v.history) is (known-made s v g i p.shard p.worker knows.1)) in
      let made = ids-few s.workers v.history in
      let all = events in omega arith

  state-queries : (p : Part) → queries_of_state s (far s.workers v.history p.shard p.worker) p.state ≤ cond (is_waiting p) asks 0
  state-queries p = by p.state
    where
      by : (st : PartState) → queries_of_state s (far s.workers v.history p.shard p.worker) st ≤ cond (state_waits st) asks 0
      by (state.Waiting (want.Filter f)) = ask-few p.shard p.worker
      by (state.Waiting (want.Row row)) = omega arith
      by state.NoMemory = omega arith
      by state.Taken = omega arith
      by (state.Placed path) = omega arith
      by (state.Done total) = omega arith

  desk-queries : (server : ℕ) → server < s.servers → sum_by (λ (p : Part). queries_of_state s (far s.workers v.history p.shard p.worker) p.state) (v.desks server).parts ≤ most_waiting s * asks
  desk-queries server lt =
      let each = many asks (λ (p : Part). queries_of_state s (far s.workers v.history p.shard p.worker) p.state) state-queries (v.desks server).parts in
      let few = mul-le (length (waiting_shards (v.desks server).parts)) asks (most_waiting s) asks (waiting-few server lt (stands server lt)) (omega arith) in
      omega (arith, each, few)

  -- a part has no more blocks to visit than there are cells

  walk-few : (a : ℕ) (p : ReadPart) → v.reads a ≡ Some p → (of : ℕ) (q : Query) (counted : List ℕ) (pin : Option ℕ) → p.reading.pin ≡ pin → IsWalk s v.history v.row v.blocks v.trees g.shape of q counted p.reading pin
      → option_map_or (λ c. blocks_left v.blocks cells (g.shape c) p.reading.items) pin 0 ≤ cells
  walk-few a p reads of q counted None is walk = omega arith
  walk-few a p reads of q counted (Some c) is walk =
      let whole = pinned-whole s v.tags v.numbers v.roles v.settings v.counted_in v.purses v.commands v.taken v.jobs v.gates v.phases v.pins v.reads i.numbering (readers-take s w) i.pinning a c p reads is in
      let tree = i.growing.tree c whole in
      let known : (y : ℕ) → (g.shape c).inside y ≡ true → y ≢ c → y < cells =
      λ y inside ne. (i.stocking.within y (λ e. let z : InTree c ≡ NotOfStock = sym (i.stocking.tree c y whole inside ne).0 ∙ e in cc)).1 in
      let u = walk.1 in
      let is_left = left-is (table_of s v.row) (cells_at v.blocks v.trees c) (g.shape c) cells tree known u.noted p.reading.items u.are u.ok.noted walk.0 u.ok.blocks in
      let few = left-few (table_of s v.row) (cells_at v.blocks v.trees c) (g.shape c) cells tree known u.noted u.ok.blocks in
      omega (arith, is_left, few)

  visits-few : (a : ℕ) (e : ErrandValue) (r : ReadingValue) → (w.actors a).errand ≡ Some e → e.task ≡ Read r
      → option_map_or (λ c. blocks_left v.blocks cells (g.shape c) r.items) r.pin 0 ≤ cells
  visits-few a e r errand task =
      let part = query-part s v.history v.desks v.roles v.commands v.taken i.desking a (taken_by e) r.wanted.picks (ap taken_of errand) (ap want_of task) in
      let p : ReadPart = record { server = e.server; shard = e.shard; reading = r } in
      let reads : v.reads a ≡ Some p = read-is errand task in
      let reading = i.querying.reading a part.of part.q p reads part.op part.asked in
      walk-few a p reads part.of part.q (g.counted e.server e.shard) r.pin refl reading.walk

  task-queries : (a : ℕ) (e : ErrandValue) → (w.actors a).errand ≡ Some e → (t : TaskValue) → e.task ≡ t → queries_of_task s v g (far s.workers v.history e.shard e.worker) t ≤ asks
  task-queries a e errand (OfRow r) task = omega arith
  task-queries a e errand (Unread f) task = (let most = ask-few e.shard e.worker in omega arith)
  task-queries a e errand (Read r) task = (let few = visits-few a e r errand task in omega arith)

  errand-queries : (a : ℕ) (o : Option ErrandValue) → (w.actors a).errand ≡ o → queries_of_errand s v g o ≤ asks
  errand-queries a None errand = omega arith
  errand-queries a (Some e) errand = task-queries a e errand e.task refl

  command-queries : (c : Option Command) → of_work queries_of_work c ≤ 1
  command-queries None = omega arith
  command-queries (Some c) = work-queries c.work

  -- All of it.

  pub within : IsWithin (limits_of s) (left s w g)
  within = record {
    gates = both _ _ _ _
        (sum-most (actor_count s) (2 * (per_gate * most_far) + 1) (λ a. of_work (gates_of_work v.history) (w.actors a).command + gates_of_errand s v.history (w.actors a).errand)
        (λ a lt. let c = command-gates (w.actors a).command in let e = errand-gates (w.actors a).errand in omega arith))
        (sum-most s.servers (per_gate * most_far) (λ server. sum_by (gates_of_part s v.history) (v.desks server).parts) (λ server lt. desk-gates (v.desks server).parts (stands server lt)));
    rows = both _ _ _ _
        (sum-most (actor_count s) (cells + 5) (λ a. rows_of_errand g.shape (w.actors a).errand + one_if_any (w.actors a).purse)
        (λ a lt. let e = errand-rows a (w.actors a).errand refl in let p = few-any (w.actors a).purse in omega arith))
        (let k = sum-most s.servers 1 (λ server. sum_by (λ (p : Part). rows_of_part p.state) (v.desks server).parts) (λ server lt. desk-rows (v.desks server).parts (stands server lt)) in omega arith);
    queries = both _ _ _ _
        (sum-most (actor_count s) (asks + 1) (λ a. of_work queries_of_work (w.actors a).command + queries_of_errand s v g (w.actors a).errand)
        (λ a lt. let c = command-queries (w.actors a).command in let e = errand-queries a (w.actors a).errand refl in omega arith))
        (sum-most s.servers (most_waiting s * asks) (λ server. sum_by (λ (p : Part). queries_of_state s (far s.workers v.history p.shard p.worker) p.state) (v.desks server).parts) (λ server lt. desk-queries server lt));
  }

pub limits-law : LimitsLaw
limits-law s w g i = within s w g i
