-- A part is finished: the invariant holds still, and less is left.
use Rattle.std.proofs.{Common.{◌≡◌, ◌≢◌, ℕ, ◌+◌, ◌*◌, ◌-◌, ◌<◌, ◌≤◌, List, [], ◌∷◌, ◌++◌, true, false, eqb, take, drop, Option, Some, None, refl, sym, ap, subst, ◌∙◌, inl, inr, arith}, lemmas.Bool.{eqb-true, eqb-false, ne_eqb}, lemmas.Nat.mul-le}
use Rattle.std.specs.Prelude.{slice_set}
use Rattle.dim_hierarchy.specs.Dimension.{Dimension}
use Rattle.query_router.specs.{Desk.{DeskValue, state_is_taken}, declared.part.Part.Part, declared.part.PartState.PartState}
use Rattle.query_router.specs.declared.part.PartState.TheVariants as state
use Rattle.row_ledger.specs.declared.event.Event.{Event}
use Rattle.volap_cell.specs.shard_store.specs.declared.gate.Gate.{Gate}
use Rattle.list_words.proofs.Truth.{on_bool, eqb-self}
use Rattle.volap_cell.specs.{Errands.{Outside, RowWay, gate_entered, place_of, row_way, way_in_task}, Falls.{GoesOn, far, gates_of_errand, gates_of_part, gates_of_state, gates_of_task, gates_of_way, left, one_if_any, per_query, queries_of_errand, queries_of_state, queries_of_task, rows_of_errand, rows_of_part, rows_of_task, rows_of_way}, Ghost.Ghost, Invariant.InvWith, Querying.one_pin, Setting.{Setting, actor_count}, ShardKinds.{DoesFinishPart, IsOutcome, Unpins, path_in, pin_of}, Steps.{IsKept, Keeps}, Values.{ActorValue, ErrandValue, OfRow, Read, TaskValue, Unread}, View.{View, view}, World.{World, Change, Agrees, after}, declared.errand.Way.Way, declared.kind.Kind.TheVariants.FinishPart}
use Rattle.volap_cell.specs.declared.errand.Way.TheVariants as way
use Rattle.volap_cell.proofs.{Desks.Facts.with-parts, Desks.Shared.TurnsParts, Histories.Books.{DeskNew, gate-desk, one-desk}, OneEvent.Reads.readers-take, Persons.has-taken, Views.Parts.{view-finish_part, view-finish_unpinned}}
use Rattle.core_shard.proofs.{BackFacts.{IsInPlace, back-reads, back-taken, back-ways, in-place, one-turned, pin-read}, EndsPart.ended-parts, GoesBack.{GoesBack, back-holds}, LeftOver.{control-same, gates-turn, queries-turn, queries_of_part, rows-turn, with_parts}}

-- a part that is taken is nothing else
pub taken-state : (st : PartState) → state_is_taken st ≡ true → st ≡ state.Taken
taken-state state.Taken is = refl
taken-state (state.Waiting wanted) is = (let never : false ≡ true = is in cc)
taken-state (state.Done total) is = (let never : false ≡ true = is in cc)
taken-state (state.Placed path) is = (let never : false ≡ true = is in cc)
taken-state state.NoMemory is = (let never : false ≡ true = is in cc)

-- a row at its end is in no tree
outside-way : (e : ErrandValue) (task : TaskValue) (outcome : PartState) → IsOutcome task outcome → (w : RowWay) → way_in_task e task ≡ Some w → gate_entered w.place ≡ None
outside-way e (OfRow r) outcome (inl done) w is = (let it : row_way e r ≡ w = cc in ap (λ (x : RowWay). gate_entered x.place) (sym it) ∙ ap (λ (x : Way). gate_entered (place_of x)) done.0)
outside-way e (OfRow r) outcome (inr refused) w is = (let it : row_way e r ≡ w = cc in ap (λ (x : RowWay). gate_entered x.place) (sym it) ∙ ap gate_entered refused.0)
outside-way e (Unread f) outcome done w is = (let never : ◌≡◌ {A = Option RowWay} None (Some w) = is in absurd (cc))
outside-way e (Read r) outcome done w is = (let never : ◌≡◌ {A = Option RowWay} None (Some w) = is in absurd (cc))

-- a row before its gate has so many steps left at least
pub gates-outside : (ahead : ℕ) (w : Way) → place_of w ≡ Outside → 6 * ahead - 3 ≤ gates_of_way ahead w
gates-outside ahead (way.Before None filled) is = omega arith
gates-outside ahead (way.Before (Some height) false) is = omega arith
gates-outside ahead (way.Before (Some height) true) is = omega arith
gates-outside ahead (way.Carried gate block) is = absurd (cc)
gates-outside ahead (way.Put gate) is = absurd (cc)
gates-outside ahead way.Placed is = absurd (cc)

any-most : {A : Type 0} (xs : List A) → one_if_any xs ≤ 1
any-most [] = omega arith
any-most (x ∷ xs) = omega arith

module _ (pinned : List Change) (d : Change) (b : ActorValue) (s : Setting) (w : World) (n : ℕ) (g : Ghost) (i : InvWith s (view s w) g) (ag : Agrees w (pinned ++ d ∷ []) n (w.actors n)) (does : DoesFinishPart pinned d (w.actors n) b) where
  abbrev cs : List Change
  cs = pinned ++ d ∷ []

  abbrev v : View
  v = view s w

  abbrev w2 : World
  w2 = after w cs n b

  abbrev u : View
  u = view s w2

  abbrev h : List Event
  h = v.history

  abbrev e : ErrandValue
  e = does.e

  abbrev pub part : Part
  part = record { shard = e.shard; worker = e.worker; path = path_in e.task; state = does.outcome }

  abbrev pub place : ℕ
  place = does.puts.0

  abbrev pub desk : DeskValue
  desk = does.puts.1.desk

  -- where no gate is held no pin changes; else one pin goes
  module _ (new : (e.server < s.servers) × DeskNew u v e.server desk (record desk { parts = slice_set desk.parts place part })) (pins : (c : ℕ) → u.pins c + one_pin c (pin_of e.task) ≡ v.pins c) where
    found : (old : Part) × IsInPlace e desk.parts place old
    found = in-place e desk.parts place does.puts.1.found

    abbrev old : Part
    old = found.0

    abbrev front : List Part
    front = take place desk.parts

    abbrev behind : List Part
    behind = drop (place + 1) desk.parts

    turn : TurnsParts v.desks u.desks e.server front old (part ∷ []) behind
    turn = one-turned v.desks u.desks e.server desk e place old part new.1 found.1

    errand-none : b.errand ≡ None
    errand-none = ap (λ (x : ActorValue). x.errand) does.actor_is

    back : GoesBack v n e front old (part ∷ []) behind u.desks u.taken u.ways u.reads u.pins
    back = record {
      turn = turn;
      with = found.1.with;
      taken = back-taken s w cs n b e does.errand errand-none;
      ways = back-ways s w cs n b e does.errand errand-none;
      reads = back-reads s w cs n b e does.errand errand-none;
      outside = outside-way e e.task does.outcome does.is_outcome;
      pins = λ c. ap (λ (x : ℕ). u.pins c + x) (pin-read c e e.task) ∙ pins c;
    }

    pub finish-holds : InvWith s (with_parts v u.desks u.taken u.ways u.reads u.pins) g
    finish-holds = back-holds s v g i (readers-take s w) n e front old (part ∷ []) behind u.desks u.taken u.ways u.reads u.pins back g.counted
        (ended-parts s v g i n e back.taken.was_there back.ways.was_there back.reads.was_there does.outcome does.is_outcome front behind old turn.was found.1.with u.ways back.ways)

    pub finish-same : u ≡ with_parts v u.desks u.taken u.ways u.reads u.pins
    finish-same = view-finish_part s w n pinned d (w.actors n) b ag does

    -- What is left.

    few : n < actor_count s
    few = has-taken s v i.numbering n _ back.taken.was_there

    command : b.command ≡ (w.actors n).command
    command = ap (λ (x : ActorValue). x.command) does.actor_is

    job : b.job ≡ (w.actors n).job
    job = ap (λ (x : ActorValue). x.job) does.actor_is

    purse : b.purse ≡ (w.actors n).purse
    purse = ap (λ (x : ActorValue). x.purse) does.actor_is

    abbrev ahead : ℕ
    ahead = far s.workers h e.shard e.worker

    was-taken : old.state ≡ state.Taken
    was-taken = taken-state old.state (with-parts e.shard e.worker old found.1.with).2

    control : (left s w2 g).control ≡ (left s w g).control
    control = control-same s w g cs n b u.desks u.taken u.ways u.reads u.pins g.counted finish-same few command job purse e.server new.0 front old (part ∷ []) behind turn

    gates : (left s w2 g).gates + gates_of_task ahead e.task ≡ (left s w g).gates + gates_of_state ahead (path_in e.task) does.outcome
    gates =
        let turned = gates-turn s w g cs n b u.desks u.taken u.ways u.reads u.pins g.counted finish-same few command job purse e.server new.0 front old (part ∷ []) behind turn in
        let was : gates_of_errand s h (w.actors n).errand ≡ gates_of_task ahead e.task = ap (gates_of_errand s h) does.errand in
        let none : gates_of_part s h old ≡ 0 = ap (gates_of_state (far s.workers h old.shard old.worker) old.path) was-taken in
        let now : gates_of_errand s h b.errand ≡ 0 = ap (gates_of_errand s h) errand-none in
        omega (arith, turned, was, none, now)

    rows : (left s w2 g).rows + rows_of_task g.shape e.task ≡ (left s w g).rows + rows_of_part does.outcome
    rows =
        let turned = rows-turn s w g cs n b u.desks u.taken u.ways u.reads u.pins g.counted finish-same few command job purse e.server new.0 front old (part ∷ []) behind turn in
        let was : rows_of_errand g.shape (w.actors n).errand ≡ rows_of_task g.shape e.task = ap (rows_of_errand g.shape) does.errand in
        let none : rows_of_part old.state ≡ 0 = ap rows_of_part was-taken in
        let now : rows_of_errand g.shape b.errand ≡ 0 = ap (rows_of_errand g.shape) errand-none in
        omega (arith, turned, was, none, now)

    queries : (left s w2 g).queries + queries_of_task s v g ahead e.task ≡ (left s w g).queries + queries_of_state s ahead does.outcome
    queries =
        let turned = queries-turn s w g cs n b u.desks u.taken u.ways u.reads u.pins g.counted finish-same few command job purse e.server new.0 front old (part ∷ []) behind turn in
        let was : queries_of_errand s v g (w.actors n).errand ≡ queries_of_task s v g ahead e.task = ap (queries_of_errand s v g) does.errand in
        let none : queries_of_part s h old ≡ 0 = ap (queries_of_state s (far s.workers h old.shard old.worker)) was-taken in
        let now : queries_of_errand s v g b.errand ≡ 0 = ap (queries_of_errand s v g) errand-none in
        omega (arith, turned, was, none, now)

    -- a query's part that ends leaves gates and rows as they are
    query-goes : (task : TaskValue) → e.task ≡ task → gates_of_task ahead task ≡ 0 → gates_of_state ahead (path_in task) does.outcome ≡ 0 → rows_of_task g.shape task ≡ 0 → rows_of_part does.outcome ≡ 0
        → 1 ≤ queries_of_task s v g ahead task → queries_of_state s ahead does.outcome ≡ 0 → GoesOn s (left s w g) (left s w2 g) h h
    query-goes task is a a2 c c2 f f2 =
        let no_gates : gates_of_task ahead e.task ≡ 0 = ap (gates_of_task ahead) is ∙ a in
        let no_path : gates_of_state ahead (path_in e.task) does.outcome ≡ 0 = ap (λ (t : TaskValue). gates_of_state ahead (path_in t) does.outcome) is ∙ a2 in
        let no_rows : rows_of_task g.shape e.task ≡ 0 = ap (rows_of_task g.shape) is ∙ c in
        let some : queries_of_task s v g ahead e.task ≡ queries_of_task s v g ahead task = ap (queries_of_task s v g ahead) is in
        inl (inr (inr (inr (control, omega (arith, gates, no_gates, no_path), omega (arith, rows, no_rows, c2), omega (arith, queries, some, f, f2)))))

    goes : (task : TaskValue) → e.task ≡ task → IsOutcome task does.outcome → GoesOn s (left s w g) (left s w2 g) h h
    goes (OfRow r) is (inl rests) =
        let none : gates_of_task ahead e.task ≡ 0 = ap (gates_of_task ahead) is ∙ ap (gates_of_way ahead) rests.0 in
        let no_path : gates_of_state ahead (path_in e.task) does.outcome ≡ 0 = ap (gates_of_state ahead (path_in e.task)) rests.1 in
        let two : rows_of_task g.shape e.task ≡ 2 = ap (rows_of_task g.shape) is ∙ ap (rows_of_way g.shape) rests.0 in
        let one : rows_of_part does.outcome ≡ 1 = ap rows_of_part rests.1 in
        inl (inr (inr (inl (control, omega (arith, gates, none, no_path), omega (arith, rows, two, one)))))
    goes (OfRow r) is (inr refused) =
        let some = gates-outside ahead r.way refused.0 in
        let was : gates_of_task ahead e.task ≡ gates_of_way ahead r.way = ap (gates_of_task ahead) is in
        let path : gates_of_state ahead (path_in e.task) does.outcome ≡ one_if_any (path_in e.task) = ap (gates_of_state ahead (path_in e.task)) refused.1 in
        let most = any-most (path_in e.task) in
        inl (inr (inl (control, omega (arith, gates, some, was, path, most))))
    goes (Unread f) is done =
        let some : 8 * 1 ≤ per_query s * ahead = mul-le 8 1 (per_query s) ahead (omega arith) (omega arith) in
        query-goes (Unread f) is refl (ap (gates_of_state ahead []) done) refl (ap rows_of_part done) (omega (arith, some)) (ap (queries_of_state s ahead) done)
    goes (Read r) is (inl done) = query-goes (Read r) is refl (ap (gates_of_state ahead []) done.1) refl (ap rows_of_part done.1) (omega arith) (ap (queries_of_state s ahead) done.1)
    goes (Read r) is (inr refused) = query-goes (Read r) is refl (ap (gates_of_state ahead []) refused.1) refl (ap rows_of_part refused.1) (omega arith) (ap (queries_of_state s ahead) refused.1)

    pub finish-goes : GoesOn s (left s w g) (left s w2 g) h h
    finish-goes = goes e.task refl does.is_outcome

-- Without a gate, and with one.

module _ (d : Change) (b : ActorValue) (s : Setting) (w : World) (n : ℕ) (g : Ghost) (i : InvWith s (view s w) g) where
  pub finish-kept : (ag : Agrees w (d ∷ []) n (w.actors n)) (does : DoesFinishPart [] d (w.actors n) b) → IsKept s FinishPart n w (after w (d ∷ []) n b) g
  finish-kept ag does =
      let new = one-desk s w n b i.numbering.tag d ag.cells does.puts.1.turns in
      let u = view s (after w (d ∷ []) n b) in
      let none : pin_of does.e.task ≡ None = no-pin (pin_of does.e.task) does.unpins in
      let stay = view-finish_unpinned s w n d (w.actors n) b ag does in
      let pins : (c : ℕ) → u.pins c + one_pin c (pin_of does.e.task) ≡ (view s w).pins c =
      λ c. (let same : u.pins c ≡ (view s w).pins c = ap (λ (z : View). z.pins c) stay in let zero : one_pin c (pin_of does.e.task) ≡ 0 = ap (one_pin c) none in omega (arith, same, zero)) in
      let same = finish-same [] d b s w n g i ag does new pins in
      let history = ap (λ (z : View). z.history) same in
      record {
        step = record { changes = d ∷ []; actor = b; agrees = ag; does = does; sight = tt; now_is = refl };
        ghost_now = g;
        holds = subst (λ (z : View). InvWith s z g) (sym same) (finish-holds [] d b s w n g i ag does new pins);
        newer = [];
        grows = history;
        goes_on = subst (λ (l : List Event). GoesOn s (left s w g) (left s (after w (d ∷ []) n b) g) (view s w).history l) (sym history) (finish-goes [] d b s w n g i ag does new pins);
      }
    where
      no-pin : (pin : Option ℕ) → Unpins pin [] → pin ≡ None
      no-pin None none = refl
      no-pin (Some p) none = absurd none

  pub finish-kept-pinned : (p : Change) (ag : Agrees w (p ∷ d ∷ []) n (w.actors n)) (does : DoesFinishPart (p ∷ []) d (w.actors n) b) → IsKept s FinishPart n w (after w (p ∷ d ∷ []) n b) g
  finish-kept-pinned p ag does = with-pin (pin_of does.e.task) refl does.unpins
    where
      with-pin : (pin : Option ℕ) → pin_of does.e.task ≡ pin → Unpins pin (p ∷ []) → IsKept s FinishPart n w (after w (p ∷ d ∷ []) n b) g
      with-pin None is none = absurd none
      with-pin (Some c) is (number, gates) =
          let (gate, gate_now, turns, less) = gates in
          let books = gate-desk s w n b i.numbering.tag p d ag.cells turns does.puts.1.turns in
          let now = view s (after w (p ∷ d ∷ []) n b) in
          let new : (does.e.server < s.servers) × DeskNew now (view s w) does.e.server does.puts.1.desk (record does.puts.1.desk { parts = slice_set does.puts.1.desk.parts does.puts.0 (record { shard = does.e.shard; worker = does.e.worker; path = path_in does.e.task; state = does.outcome }) }) = (books.0, books.1) in
          let pins : (y : ℕ) → now.pins y + one_pin y (pin_of does.e.task) ≡ (view s w).pins y =
          λ y. on_bool (eqb y p.number)
          (λ q.
          let here = eqb-true y p.number q in
          let one : one_pin y (pin_of does.e.task) ≡ 1 = ap (one_pin y) is ∙ ap (λ (z : ℕ). one_pin z (Some c)) (here ∙ number) ∙ rw (eqb-self c) refl in
          let was : (view s w).pins y ≡ gate.pins = ap (view s w).pins here ∙ books.2.was_there in
          let after_it : now.pins y ≡ gate_now.pins = ap now.pins here ∙ books.2.is_there in
          let fewer : gate.pins ≡ gate_now.pins + 1 = ap (λ (x : Gate). x.pins) less in
          omega (arith, one, was, after_it, fewer))
          (λ q.
          let ne = eqb-false y p.number q in
          let other : c ≢ y = (λ z. ne (sym z ∙ sym number)) in
          let zero : one_pin y (pin_of does.e.task) ≡ 0 = ap (one_pin y) is ∙ rw (ne_eqb c y other) refl in
          let same = books.2.elsewhere y ne in
          omega (arith, zero, same)) in
          let same = finish-same (p ∷ []) d b s w n g i ag does new pins in
          let history = ap (λ (z : View). z.history) same in
          record {
            step = record { changes = p ∷ d ∷ []; actor = b; agrees = ag; does = does; sight = tt; now_is = refl };
            ghost_now = g;
            holds = subst (λ (z : View). InvWith s z g) (sym same) (finish-holds (p ∷ []) d b s w n g i ag does new pins);
            newer = [];
            grows = history;
            goes_on = subst (λ (l : List Event). GoesOn s (left s w g) (left s (after w (p ∷ d ∷ []) n b) g) (view s w).history l) (sym history) (finish-goes (p ∷ []) d b s w n g i ag does new pins);
          }

pub finish-keeps : (h : List Dimension) (d : Change) (a b : ActorValue) (does : DoesFinishPart [] d a b) → Keeps h FinishPart (d ∷ []) a b does
finish-keeps h d a b does s w n g _ i ag sight =
    finish-kept d b s w n g i (record { cells = ag.cells; actor_is = refl; free = λ x ne. ag.free x ne }) (subst (λ (z : ActorValue). DoesFinishPart [] d z b) (sym ag.actor_is) does)

pub finish-keeps-pinned : (h : List Dimension) (p d : Change) (a b : ActorValue) (does : DoesFinishPart (p ∷ []) d a b) → Keeps h FinishPart (p ∷ d ∷ []) a b does
finish-keeps-pinned h p d a b does s w n g _ i ag sight =
    finish-kept-pinned d b s w n g i p (record { cells = ag.cells; actor_is = refl; free = λ x ne. ag.free x ne }) (subst (λ (z : ActorValue). DoesFinishPart (p ∷ []) d z b) (sym ag.actor_is) does)
