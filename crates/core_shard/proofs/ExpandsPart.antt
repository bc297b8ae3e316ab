-- A part goes on to the children of its shard: the invariant holds still, and less is left.
use Rattle.std.proofs.{Common.{◌≡◌, ℕ, ◌+◌, ◌*◌, ◌-◌, ◌<◌, ◌≤◌, List, [], ◌∷◌, ◌++◌, Bool, true, false, take, drop, Some, None, refl, sym, ap, subst, ◌⊎◌, inl, inr, arith}, Math.Nat.mul-add, lemmas.Nat.mul-le}
use Rattle.std.specs.Prelude.{if◌then◌else◌, slice_set, sum_by}
use Rattle.describing_set.specs.Plane.{goes_left}
use Rattle.dim_hierarchy.specs.{Dimension.Dimension, declared.filter.Pick.Pick}
use Rattle.mapping_table.specs.declared.place.Where.TheVariants as where_is
use Rattle.query_router.specs.{Desk.{DeskValue, expanded}, declared.part.Part.Part}
use Rattle.query_router.specs.declared.part.PartState.TheVariants as state
use Rattle.query_router.specs.declared.part.Want.TheVariants as want
use Rattle.row_ledger.specs.declared.event.Event.{Event}
use Rattle.volap_cell.specs.{Cells.tag_of, Errands.{Outside, place_of, taken_by}, Falls.{GoesOn, far, gates_of_errand, gates_of_part, gates_of_state, gates_of_task, gates_of_way, left, per_query, queries_of_errand, queries_of_state, queries_of_task, rows_of_errand, rows_of_part, rows_of_task}, Ghost.Ghost, Invariant.InvWith, Setting.{Setting, actor_count, site_in}, ShardKinds.{DoesExpand, IsOutside, PutsChildren, child_for, waiting}, Steps.{IsKept, Keeps}, Values.{ActorValue, ErrandValue, OfRow, Read, TaskValue, Unread}, View.{View, view}, World.{Agrees, Change, World, after}, declared.errand.RowErrand.RowErrand, declared.kind.Kind.TheVariants.Expand}
use Rattle.volap_cell.proofs.{Desks.Facts.with-parts, Desks.Lists.place-splits, Desks.Shared.{TurnsParts, turned-parts}, Histories.Books.{DeskNew, table-desk}, OneEvent.Reads.readers-take, Persons.has-taken, Views.Parts.view-expand, Views.Shown.held-leads}
use Rattle.core_shard.proofs.{BackFacts.{IsInPlace, back-reads, back-taken, back-ways, in-place, one-turned}, ChildrenWait.{nothing_yet, row-child, two-children}, FarLess.far-split, FinishesPart.{gates-outside, taken-state}, ForwardsPart.{outside-pins, outside-tree}, GoesBack.{AreParts, GoesBack, back-holds}, LeftOver.{control-same, gates-turn, queries-turn, queries_of_part, rows-turn, with_parts}}

module _ (m d : Change) (b : ActorValue) (s : Setting) (w : World) (n : ℕ) (g : Ghost) (i : InvWith s (view s w) g) (ag : Agrees w (m ∷ d ∷ []) n (w.actors n)) (does : DoesExpand s.hierarchy m d (w.actors n) b) where
  abbrev cs : List Change
  cs = m ∷ d ∷ []

  abbrev v : View
  v = view s w

  abbrev w2 : World
  w2 = after w cs n b

  abbrev u : View
  u = view s w2

  abbrev h : List Event
  h = v.history

  abbrev e : ErrandValue
  e = does.e

  leads : (e.worker < s.workers) × (v.maps e.worker e.shard ≡ Some (where_is.Split does.plane does.left does.right))
  leads = held-leads s w i.numbering.tag m ag.cells.0 e.worker e.shard (where_is.Split does.plane does.left does.right) does.leads

  errand-none : b.errand ≡ None
  errand-none = ap (λ (x : ActorValue). x.errand) does.actor_is

  same : u ≡ with_parts v u.desks u.taken u.ways u.reads v.pins
  same = view-expand s w n s.hierarchy m d (w.actors n) b ag does

  abbrev takes : v.taken n ≡ Some (taken_by e)
  takes = (back-taken s w cs n b e does.errand errand-none).was_there

  abbrev ahead : ℕ
  ahead = far s.workers h e.shard e.worker

  less : far s.workers h does.left e.worker + far s.workers h does.right e.worker + 1 ≤ ahead
  less = far-split (site_in s) g.placed h i.telling.right.right.each e.shard does.left does.right (i.lineage.divided e.worker e.shard does.left does.right does.plane leads.1).1 e.worker

  -- what is common to both: others stand in the place of the part
  module _ (place : ℕ) (desk : DeskValue) (parts : List Part) (new : (e.server < s.servers) × DeskNew u v e.server desk (record desk { parts = parts })) (old : Part) (found : IsInPlace e desk.parts place old) (news : List Part)
      (turn : TurnsParts v.desks u.desks e.server (take place desk.parts) old news (drop (place + 1) desk.parts)) (counted : ℕ → ℕ → List ℕ)
      (are : AreParts s v g e (take place desk.parts) old news (drop (place + 1) desk.parts) u.ways counted (i.desking.at_parts n (taken_by e) takes).of) where
    abbrev front : List Part
    front = take place desk.parts

    abbrev behind : List Part
    behind = drop (place + 1) desk.parts

    abbrev back : GoesBack v n e front old news behind u.desks u.taken u.ways u.reads v.pins
    back = record {
      turn = turn;
      with = found.with;
      taken = back-taken s w cs n b e does.errand errand-none;
      ways = back-ways s w cs n b e does.errand errand-none;
      reads = back-reads s w cs n b e does.errand errand-none;
      outside = outside-tree e e.task does.wanted does.path does.outside;
      pins = λ c. let none = outside-pins c e e.task does.wanted does.path does.outside in omega (arith, none);
    }

    abbrev g2 : Ghost
    g2 = record g { counted = counted }

    holds : InvWith s (with_parts v u.desks u.taken u.ways u.reads v.pins) g2
    holds = back-holds s v g i (readers-take s w) n e front old news behind u.desks u.taken u.ways u.reads v.pins back counted are

    few : n < actor_count s
    few = has-taken s v i.numbering n _ takes

    command : b.command ≡ (w.actors n).command
    command = ap (λ (x : ActorValue). x.command) does.actor_is

    job : b.job ≡ (w.actors n).job
    job = ap (λ (x : ActorValue). x.job) does.actor_is

    purse : b.purse ≡ (w.actors n).purse
    purse = ap (λ (x : ActorValue). x.purse) does.actor_is

    was-taken : old.state ≡ state.Taken
    was-taken = taken-state old.state (with-parts e.shard e.worker old found.with).2

    control : (left s w2 g2).control ≡ (left s w g).control
    control = control-same s w g cs n b u.desks u.taken u.ways u.reads v.pins counted same few command job purse e.server new.0 front old news behind turn

    gates : (left s w2 g2).gates + gates_of_task ahead e.task ≡ (left s w g).gates + sum_by (gates_of_part s h) news
    gates =
        let turned = gates-turn s w g cs n b u.desks u.taken u.ways u.reads v.pins counted same few command job purse e.server new.0 front old news behind turn in
        let was : gates_of_errand s h (w.actors n).errand ≡ gates_of_task ahead e.task = ap (gates_of_errand s h) does.errand in
        let none : gates_of_part s h old ≡ 0 = ap (gates_of_state (far s.workers h old.shard old.worker) old.path) was-taken in
        let now : gates_of_errand s h b.errand ≡ 0 = ap (gates_of_errand s h) errand-none in
        omega (arith, turned, was, none, now)

    rows : (left s w2 g2).rows + rows_of_task g.shape e.task ≡ (left s w g).rows + sum_by (λ (p : Part). rows_of_part p.state) news
    rows =
        let turned = rows-turn s w g cs n b u.desks u.taken u.ways u.reads v.pins counted same few command job purse e.server new.0 front old news behind turn in
        let was : rows_of_errand g.shape (w.actors n).errand ≡ rows_of_task g.shape e.task = ap (rows_of_errand g.shape) does.errand in
        let none : rows_of_part old.state ≡ 0 = ap rows_of_part was-taken in
        let now : rows_of_errand g.shape b.errand ≡ 0 = ap (rows_of_errand g.shape) errand-none in
        omega (arith, turned, was, none, now)

    queries : (left s w2 g2).queries + queries_of_task s v g ahead e.task ≡ (left s w g).queries + sum_by (queries_of_part s h) news
    queries =
        let turned = queries-turn s w g cs n b u.desks u.taken u.ways u.reads v.pins counted same few command job purse e.server new.0 front old news behind turn in
        let was : queries_of_errand s v g (w.actors n).errand ≡ queries_of_task s v g ahead e.task = ap (queries_of_errand s v g) does.errand in
        let none : queries_of_part s h old ≡ 0 = ap (queries_of_state s (far s.workers h old.shard old.worker)) was-taken in
        let now : queries_of_errand s v g b.errand ≡ 0 = ap (queries_of_errand s v g) errand-none in
        omega (arith, turned, was, none, now)

    kept-so : GoesOn s (left s w g) (left s w2 g2) h h → IsKept s Expand n w w2 g
    kept-so goes = (let history = ap (λ (z : View). z.history) same in record {
      step = record { changes = cs; actor = b; agrees = ag; does = does; sight = tt; now_is = refl };
      ghost_now = g2;
      holds = subst (λ (z : View). InvWith s z g2) (sym same) holds;
      newer = [];
      grows = history;
      goes_on = subst (λ (l : List Event). GoesOn s (left s w g) (left s w2 g2) h l) (sym history) goes;
    })

  -- A row's part goes to the child on its side.

  which : (r : RowErrand) → (child_for s.hierarchy does.plane does.left does.right r ≡ does.left) ⊎ (child_for s.hierarchy does.plane does.left does.right r ≡ does.right)
  which r = side (goes_left s.hierarchy does.plane r.row.at)
    where
      side : (b : Bool) → ((if b then does.left else does.right) ≡ does.left) ⊎ ((if b then does.left else does.right) ≡ does.right)
      side true = inl refl
      side false = inr refl

  row-kept : (r : RowErrand) → e.task ≡ OfRow r → place_of r.way ≡ Outside → PutsChildren s.hierarchy e (OfRow r) does.plane does.left does.right d → IsKept s Expand n w w2 g
  row-kept r is outside (place, puts) =
      let child : ℕ = child_for s.hierarchy does.plane does.left does.right r in
      let part : Part = waiting child e.worker (r.path ++ child ∷ []) (want.Row r.row) in
      let desk = puts.desk in
      let new = table-desk s w n b i.numbering.tag m d ag.cells e.worker (ap tag_of does.leads.was) does.leads.same puts.turns in
      let (old, found) = in-place e desk.parts place puts.found in
      let turn = one-turned v.desks u.desks e.server desk e place old part new.1 found in
      let goes = back-ways s w cs n b e does.errand errand-none in
      let reads = back-reads s w cs n b e does.errand errand-none in
      let are = row-child s v g i n e takes goes.was_there reads.was_there (take place desk.parts) (drop (place + 1) desk.parts) old turn.was found.with u.ways goes leads.0 does.plane does.left does.right leads.1 r is outside child (which r) in
      let parts = slice_set desk.parts place part in
      let c = control place desk parts new old found (part ∷ []) turn g.counted are in
      let gs = gates place desk parts new old found (part ∷ []) turn g.counted are in
      let was : gates_of_task ahead e.task ≡ gates_of_way ahead r.way = ap (gates_of_task ahead) is in
      let some = gates-outside ahead r.way outside in
      let nearer : far s.workers h child e.worker + 1 ≤ ahead = near child (which r) in
      kept-so place desk parts new old found (part ∷ []) turn g.counted are (inl (inr (inl (c, omega (arith, gs, was, some, nearer)))))
    where
      near : (child : ℕ) → (child ≡ does.left) ⊎ (child ≡ does.right) → far s.workers h child e.worker + 1 ≤ ahead
      near child (inl same) = (let it : far s.workers h child e.worker ≡ far s.workers h does.left e.worker = ap (λ (x : ℕ). far s.workers h x e.worker) same in omega (arith, it, less))
      near child (inr same) = (let it : far s.workers h child e.worker ≡ far s.workers h does.right e.worker = ap (λ (x : ℕ). far s.workers h x e.worker) same in omega (arith, it, less))

  -- A query's part becomes two.

  query-kept : (f : List Pick) → e.task ≡ Unread f → PutsChildren s.hierarchy e (Unread f) does.plane does.left does.right d → IsKept s Expand n w w2 g
  query-kept f is (place, puts) =
      let one : Part = waiting does.left e.worker [] (want.Filter f) in
      let other : Part = waiting does.right e.worker [] (want.Filter f) in
      let desk = puts.desk in
      let new = table-desk s w n b i.numbering.tag m d ag.cells e.worker (ap tag_of does.leads.was) does.leads.same puts.turns in
      let (old, found) = in-place e desk.parts place puts.found in
      let parts = expanded desk.parts place one other in
      let turn = turned-parts v.desks u.desks e.server desk parts (take place desk.parts) old (one ∷ other ∷ []) (drop (place + 1) desk.parts) new.1 (place-splits desk.parts place old found.here) refl in
      let goes = back-ways s w cs n b e does.errand errand-none in
      let reads = back-reads s w cs n b e does.errand errand-none in
      let counted = nothing_yet g.counted e.server does.left does.right in
      let are = two-children s v g i n e takes goes.was_there reads.was_there (take place desk.parts) (drop (place + 1) desk.parts) old turn.was found.with u.ways goes leads.0 does.plane does.left does.right leads.1 f is in
      let c = control place desk parts new old found (one ∷ other ∷ []) turn counted are in
      let gs = gates place desk parts new old found (one ∷ other ∷ []) turn counted are in
      let rs = rows place desk parts new old found (one ∷ other ∷ []) turn counted are in
      let qs = queries place desk parts new old found (one ∷ other ∷ []) turn counted are in
      let no_gates : gates_of_task ahead e.task ≡ 0 = ap (gates_of_task ahead) is in
      let no_rows : rows_of_task g.shape e.task ≡ 0 = ap (rows_of_task g.shape) is in
      let was : queries_of_task s v g ahead e.task ≡ per_query s * ahead - 1 = ap (queries_of_task s v g ahead) is in
      let l = far s.workers h does.left e.worker in
      let r = far s.workers h does.right e.worker in
      let more : per_query s * (l + r + 1) ≤ per_query s * ahead = mul-le (per_query s) (l + r + 1) (per_query s) ahead (omega arith) less in
      let first : per_query s * (l + r + 1) ≡ per_query s * (l + r) + per_query s * 1 = mul-add (per_query s) (l + r) 1 in
      let second : per_query s * (l + r) ≡ per_query s * l + per_query s * r = mul-add (per_query s) l r in
      kept-so place desk parts new old found (one ∷ other ∷ []) turn counted are (inl (inr (inr (inr (c, omega (arith, gs, no_gates), omega (arith, rs, no_rows), omega (arith, qs, was, more, first, second))))))

  expand-task : (task : TaskValue) → e.task ≡ task → IsOutside task does.wanted does.path → PutsChildren s.hierarchy e task does.plane does.left does.right d → IsKept s Expand n w w2 g
  expand-task (OfRow r) is outside puts = row-kept r is outside.0 puts
  expand-task (Unread f) is outside puts = query-kept f is puts
  expand-task (Read r) is outside puts = absurd outside

  pub expand-kept : IsKept s Expand n w w2 g
  expand-kept = expand-task e.task refl does.outside does.puts

pub expand-keeps : (h : List Dimension) (m d : Change) (a b : ActorValue) (does : DoesExpand h m d a b) → Keeps h Expand (m ∷ d ∷ []) a b does
expand-keeps h m d a b does s w n g same i ag sight =
    expand-kept m d b s w n g i (record { cells = ag.cells; actor_is = refl; free = λ x ne. ag.free x ne })
    (subst (λ (hs : List Dimension). DoesExpand hs m d (w.actors n) b) (sym same) (subst (λ (z : ActorValue). DoesExpand h m d z b) (sym ag.actor_is) does))
