-- A part that waited is taken from its desk by an actor that has none: what the invariant keeps.
use Rattle.std.proofs.{Common.{◌≡◌, ◌≢◌, ℕ, ◌<◌, List, [], ◌∷◌, ◌++◌, true, false, eqb, Option, Some, None, refl, sym, ap, subst, ◌∙◌, ◌⊎◌, inl, inr, arith, All, Any, Contains, option_and_then, ◌||◌}, lemmas.Bool.{eq-eqb, false≢true, eqb-true, eqb-false}, lemmas.List.Elements.{All-contains, All-weaker, All-cons, All-nil}}
use Rattle.std.specs.Prelude.{IsSome}
use Rattle.dim_hierarchy.specs.{declared.filter.Pick.Pick, declared.row.Row.Row}
use Rattle.query_router.specs.{Desk.{DeskValue, is_open, is_refused, is_taken, is_waiting, is_with, state_is_refused, state_is_taken, state_waits, taken_from}, declared.part.Part.Part, declared.part.PartState.PartState, declared.part.Want.Want}
use Rattle.query_router.specs.declared.part.PartState.TheVariants as state
use Rattle.query_router.specs.declared.part.Want.TheVariants as want
use Rattle.row_ledger.specs.Past.{event_at, insert_at, query_at, session_in}
use Rattle.list_words.proofs.{Elements.Contains-nil, Truth.on_bool}
use Rattle.volap_cell.specs.{Desking.{AreLinesApart, Desking, IsAtPart, IsInsertState, IsQueryPart, IsQueryState, IsTaken, IsWantOf, AreUnrelated, is_on_desk}, Errands.{Outside, RowPlace, RowWay, Taken, gate_entered, taken_by, way_in_task}, Ghost.Ghost, Growing.IsUnder, ImageKinds.doing, Invariant.InvWith, Lineage.Leading, Numbering.Numbering, Owing.Owing, Placing.{Inserting, IsOnWay, IsRowPart, NobodyAt, Placing}, Querying.{IsCounted, IsEndOfPart, Querying}, Setting.{Setting, actor_count}, ShardKinds.{errand_for, task_for}, Turning.{Turning, inside_of}, Values.ErrandValue, View.View, declared.command.Command.Command, declared.role.Role.TheVariants.Admin}
use Rattle.volap_cell.specs.declared.command.Work.TheVariants as work_is
use Rattle.volap_cell.proofs.{Desks.Facts.{insert-server, on-desk, others-apart, others-part, with-parts}, Desks.Lists.{Contains-one, apart-others, alone, any-of, apart-exchanged, old-was, others-now, some-of, was-cases}, Desks.Shared.{TurnsParts, by-desk, leading-turned, op-same, owing-turned, parts-turned}, Histories.Beginnings.no-query, Sums.sum-kept, Views.Fields.IsNewAt}

-- The step, without the cells: of an actor that is there, and isn't the administrator.
pub record GoesOut (s : Setting) (v : View) (n server : ℕ) (before : List Part) (part : Part) (behind : List Part) (wanted : Want) (desks_now : ℕ → DeskValue) (taken_now : ℕ → Option Taken) (ways_now : ℕ → Option RowWay) : Type 0 where
  pub within : server < s.servers
  pub few : n < actor_count s
  pub role : v.roles n ≢ Admin
  pub waits : part.state ≡ state.Waiting wanted
  pub turn : TurnsParts v.desks desks_now server before part (taken_from part ∷ []) behind
  pub taken : IsNewAt taken_now v.taken n None (Some (taken_by (errand_for server part wanted)))
  pub ways : IsNewAt ways_now v.ways n None (way_in_task (errand_for server part wanted) (errand_for server part wanted).task)
  pub unread : v.reads n ≡ None

module _ (s : Setting) (v : View) (g : Ghost) (i : InvWith s v g) (n server : ℕ) (before : List Part) (part : Part) (behind : List Part) (wanted : Want)
    (desks_now : ℕ → DeskValue) (taken_now : ℕ → Option Taken) (ways_now : ℕ → Option RowWay)
    (k : GoesOut s v n server before part behind wanted desks_now taken_now ways_now) where
  abbrev e : ErrandValue
  e = errand_for server part wanted

  abbrev now : Part
  now = taken_from part

  within : server < s.servers
  within = k.within

  -- The desk and its command.

  in-parts : Contains (v.desks server).parts part
  in-parts = subst (λ (xs : List Part). Contains xs part) (sym k.turn.was) (old-was before behind part)

  has-op : (o : Option ℕ) → (v.desks server).op ≡ o → (of : ℕ) × (o ≡ Some of)
  has-op None is = absurd (Contains-nil part (subst (λ (xs : List Part). Contains xs part) (i.desking.empty server within is) in-parts))
  has-op (Some of) is = (of, refl)

  abbrev of : ℕ
  of = (has-op (v.desks server).op refl).0

  op : (v.desks server).op ≡ Some of
  op = (has-op (v.desks server).op refl).1

  same-of : (p : ℕ) → (v.desks server).op ≡ Some p → of ≡ p
  same-of p is = (let both : Some of ≡ Some p = sym op ∙ is in cc)

  not-taken : is_taken part ≡ false
  not-taken = ap state_is_taken k.waits

  is-waiting : is_waiting part ≡ true
  is-waiting = ap state_waits k.waits

  apart : (p : Part) → Contains (before ++ behind) p → p.shard ≢ part.shard
  apart p has = others-apart s v g i server of within op before behind part k.turn.was p has

  other-part : (a : ℕ) (t : Taken) → v.taken a ≡ Some t → t.server ≡ server → (p : Part) × Contains (before ++ behind) p × (is_with t.shard t.worker p ≡ true)
  other-part a t has same = others-part s v g i server before behind part k.turn.was t same (λ is shard worker. false≢true (sym not-taken ∙ is)) (i.desking.at_parts a t has)

  -- no actor is at a part of the shard
  nobody-there : (a : ℕ) (t : Taken) → v.taken a ≡ Some t → t.server ≡ server → t.shard ≢ part.shard
  nobody-there a t has same shard = (let (p, rest, with) = other-part a t has same in apart p rest ((with-parts t.shard t.worker p with).0 ∙ shard))

  -- The actor.

  -- who has a part now had it, or it is the actor's
  took : (a : ℕ) (t : Taken) → taken_now a ≡ Some t → ((a ≡ n) × (t ≡ taken_by e)) ⊎ ((a ≢ n) × (v.taken a ≡ Some t))
  took a t is = on_bool (eqb a n)
      (λ q. let same = eqb-true a n q in let both : Some t ≡ Some (taken_by e) = sym is ∙ ap taken_now same ∙ k.taken.is_there in inl (same, cc))
      (λ q. let ne = eqb-false a n q in inr (ne, sym (k.taken.elsewhere a ne) ∙ is))

  went : (a : ℕ) (w : RowWay) → ways_now a ≡ Some w → ((a ≡ n) × (way_in_task e e.task ≡ Some w)) ⊎ ((a ≢ n) × (v.ways a ≡ Some w))
  went a w is = on_bool (eqb a n)
      (λ q. let same = eqb-true a n q in inl (same, sym k.ways.is_there ∙ ap ways_now (sym same) ∙ is))
      (λ q. let ne = eqb-false a n q in inr (ne, sym (k.ways.elsewhere a ne) ∙ is))

  still-taken : (a : ℕ) (t : Taken) → v.taken a ≡ Some t → (a ≢ n) × (taken_now a ≡ Some t)
  still-taken a t is =
      let ne : a ≢ n = (λ z. let never : ◌≡◌ {A = Option Taken} None (Some t) = sym k.taken.was_there ∙ ap v.taken (sym z) ∙ is in absurd (cc)) in
      (ne, k.taken.elsewhere a ne ∙ is)

  still-ways : (a : ℕ) (w : RowWay) → v.ways a ≡ Some w → ways_now a ≡ Some w
  still-ways a w is =
      let ne : a ≢ n = (λ z. let never : ◌≡◌ {A = Option RowWay} None (Some w) = sym k.ways.was_there ∙ ap v.ways (sym z) ∙ is in absurd (cc)) in
      k.ways.elsewhere a ne ∙ is

  pub out-numbering : Numbering s v.tags v.numbers v.roles v.settings v.counted_in v.purses v.commands taken_now v.jobs
  out-numbering = (let m = i.numbering in record {
    setting = m.setting;
    tag = m.tag;
    number = m.number;
    role = m.role;
    about = m.about;
    beyond = m.beyond;
    nobody = λ a le. let (counted, purse, none, takes, job) = m.nobody a le in (counted, purse, none, k.taken.elsewhere a (λ z. absurd (omega (arith, k.few, z, le))) ∙ takes, job);
    working = m.working;
    parts = λ a t is. elim (took a t is) [
      | inl mine ↦ λ admin. k.role (ap v.roles (sym mine.0) ∙ admin)
      | inr other ↦ m.parts a t other.1
    ];
    idle = m.idle;
  })

  -- Its row, if it is one: it has passed no gate, and nobody was at it.

  record IsNewRow (w : RowWay) : Type 0 where
    pub outside : w.place ≡ Outside
    pub unfilled : w.filled ≡ false
    pub unplaced : g.placed w.row.no ≡ false
    pub nobody : NobodyAt v.ways w.row.no
    pub on_way : IsOnWay v.history v.images g.placed g.path w
    pub number : w.row.no ≡ of

  new-row-of : (want_is : Want) → wanted ≡ want_is → (w : RowWay) → way_in_task (errand_for server part want_is) (task_for want_is part.path) ≡ Some w → IsNewRow w
  new-row-of (want.Filter f) same w is = (let never : ◌≡◌ {A = Option RowWay} None (Some w) = is in absurd (cc))
  new-row-of (want.Row row) same w is =
      let waits : part.state ≡ state.Waiting (want.Row row) = k.waits ∙ ap state.Waiting same in
      let it : record { row = row; server = server; shard = part.shard; path = part.path; place = Outside; filled = false } ≡ w = cc in
      elim (on-desk s v g i server of within op) [
        | inl here ↦
            let (x, begun, its_server, number) = here in
            let one = i.desking.insert server of x within op begun in
            let is_one : part ≡ one.0 = (alone before behind part one.0 (sym k.turn.was ∙ one.1)).0 in
            let state_is : one.0.state ≡ state.Waiting (want.Row row) = ap (λ (p : Part). p.state) (sym is_one) ∙ waits in
            let its_row : want.Row row ≡ want.Row x.row = subst (IsInsertState x) state_is one.2 in
            let row_is : x.row ≡ row = cc in
            let P : Part → Type 0 = λ p. IsRowPart v.history v.images v.ways g.placed g.path server of p p.state in
            let at : P part = All-contains P (v.desks server).parts part (i.inserting.parts server of x within op begun) in-parts in
            let facts = subst (λ (st : PartState). IsRowPart v.history v.images v.ways g.placed g.path server of part st) waits at in
            let no : of ≡ row.no = sym number ∙ ap (λ (r : Row). r.no) row_is in
            subst IsNewRow it (record {
              outside = refl;
              unfilled = refl;
              unplaced = ap g.placed (sym no) ∙ facts.0;
              nobody = subst (NobodyAt v.ways) no facts.1;
              on_way = record {
                known = (x, ap (insert_at v.history) (sym no) ∙ begun, row_is, its_server);
                lead = facts.2;
                passed = ap g.placed (sym no) ∙ facts.0;
                came = λ never. absurd (false≢true never);
              };
              number = sym no;
            })
        | inr here ↦
            let (q, asked, its_server) = here in
            let P : Part → Type 0 = λ p. IsQueryState q p.state in
            let at : P part = All-contains P (v.desks server).parts part (i.desking.query server of q within op asked).0 in-parts in
            let never : want.Row row ≡ want.Filter q.filter = subst (IsQueryState q) waits at in absurd (cc)
      ]

  new-row : (w : RowWay) → way_in_task e e.task ≡ Some w → IsNewRow w
  new-row w is = new-row-of wanted refl w is

  -- a row at which nobody was, and which isn't this one
  nobody-still : (r : ℕ) → r ≢ of → NobodyAt v.ways r → NobodyAt ways_now r
  nobody-still r other none a w is = elim (went a w is) [
    | inl mine ↦ λ same. other (sym same ∙ (new-row w mine.1).number)
    | inr it ↦ none a w it.1
  ]

  -- a row that has passed a gate is another one, where this one is a row
  nobody-placed : (r : ℕ) → g.placed r ≡ true → NobodyAt v.ways r → NobodyAt ways_now r
  nobody-placed r placed none a w is = elim (went a w is) [
    | inl mine ↦ λ same. false≢true (sym (new-row w mine.1).unplaced ∙ ap g.placed same ∙ placed)
    | inr it ↦ none a w it.1
  ]

  pub out-placing : Placing s v.history v.commands ways_now v.queues g.gate g.shape g.placed g.home g.path
  out-placing = (let m = i.placing in record {
    one = m.one;
    stands = m.stands;
    begun = m.begun;
    line = m.line;
    acked_rows = λ a has. let o = m.acked_rows a has in (o.0, o.1, nobody-placed a.row.no o.0 o.2);
    others = m.others;
  })

  outside-none : (o : Option RowWay) → way_in_task e e.task ≡ o → (c : ℕ) → inside_of c o ≡ 0
  outside-none None is c = refl
  outside-none (Some w) is c = ap (λ (p : RowPlace). inside_of c (Some (record w { place = p }))) (new-row w is).outside

  pub out-turning : Turning s ways_now v.purses v.boxes v.phases v.active g.gate g.shape g.home
  out-turning = (let m = i.turning in record {
    one = λ a b w x is has same. elim (went a w is) [
      | inl mine ↦ elim (went b x has) [
        | inl its ↦ mine.0 ∙ sym its.0
        | inr other ↦ absurd ((new-row w mine.1).nobody b x other.1 (sym same))
      ]
      | inr first ↦ elim (went b x has) [
        | inl its ↦ absurd ((new-row x its.1).nobody a w first.1 same)
        | inr other ↦ m.one a b w x first.1 other.1 same
      ]
    ];
    carrying = λ a c y w is place. elim (went a w is) [
      | inl mine ↦ (let never : ◌≡◌ {A = Option ℕ} None (Some c) = sym (ap gate_entered (new-row w mine.1).outside) ∙ ap gate_entered place in absurd (cc))
      | inr it ↦ m.carrying a c y w it.1 place
    ];
    in_leaf = λ a c w is place. elim (went a w is) [
      | inl mine ↦ (let never : ◌≡◌ {A = Option ℕ} None (Some c) = sym (ap gate_entered (new-row w mine.1).outside) ∙ ap gate_entered place in absurd (cc))
      | inr it ↦ m.in_leaf a c w it.1 place
    ];
    carried = λ c r phase placed carried. let (a, y, w, is, row, place) = m.carried c r phase placed carried in (a, y, w, still-ways a w is, row, place);
    enough = λ a c y w is place. elim (went a w is) [
      | inl mine ↦ (let never : ◌≡◌ {A = Option ℕ} None (Some c) = sym (ap gate_entered (new-row w mine.1).outside) ∙ ap gate_entered place in absurd (cc))
      | inr it ↦ m.enough a c y w it.1 place
    ];
    boxed = λ a w is filled. elim (went a w is) [
      | inl mine ↦ absurd (false≢true (sym (new-row w mine.1).unfilled ∙ filled))
      | inr it ↦ m.boxed a w it.1 filled
    ];
    counts = λ c. m.counts c ∙ sym (sum-kept (actor_count s) (λ a. inside_of c (v.ways a)) (λ a. inside_of c (ways_now a)) n (λ a ne. ap (inside_of c) (k.ways.elsewhere a ne))
        (ap (inside_of c) k.ways.is_there ∙ outside-none (way_in_task e e.task) refl c ∙ sym (ap (inside_of c) k.ways.was_there)));
  })

  -- The desk.

  desk_of : (x p : ℕ) → (desks_now x).op ≡ Some p → (v.desks x).op ≡ Some p
  desk_of x p is = sym (op-same v.desks desks_now server before part (now ∷ []) behind k.turn x) ∙ is

  turned : (Q : ℕ → DeskValue → Type 0) (x : ℕ) → (x ≢ server → Q x (v.desks x)) → Q server (record (v.desks server) { parts = before ++ now ∷ behind }) → Q x (desks_now x)
  turned = by-desk v.desks desks_now server before part (now ∷ []) behind k.turn

  all-turned : (P Q : Part → Type 0) → All P (v.desks server).parts → ((p : Part) → Contains (before ++ behind) p → P p → Q p) → Q now → All Q (before ++ now ∷ behind)
  all-turned P Q all others new = parts-turned v.desks desks_now server before part (now ∷ []) behind k.turn P Q all others (All-cons Q now [] new (All-nil Q))

  pub out-owing : Owing s v.history v.promised v.images desks_now v.roles v.commands v.counted_in
  out-owing = owing-turned v.desks desks_now server before part (now ∷ []) behind k.turn s v.history v.promised v.images v.roles v.commands v.counted_in i.owing

  pub its-table : (part.worker < s.workers) × IsSome (v.maps part.worker part.shard)
  its-table =
      let P : Part → Type 0 = λ p. is_open p ≡ true → (p.worker < s.workers) × IsSome (v.maps p.worker p.shard) in
      All-contains P (v.desks server).parts part (i.leading.parts server within) in-parts (λ j. is-waiting j || is_taken part)

  pub out-leading : Leading s v.maps v.images desks_now
  out-leading =
      let P : Part → Type 0 = λ p. is_open p ≡ true → (p.worker < s.workers) × IsSome (v.maps p.worker p.shard) in
      leading-turned v.desks desks_now server before part (now ∷ []) behind k.turn s v.maps v.images within (All-cons P now [] (λ kept. its-table) (All-nil P)) i.leading

  part-still : (x r : ℕ) (p : Part) (st : PartState) → r ≢ of → IsRowPart v.history v.images v.ways g.placed g.path x r p st → IsRowPart v.history v.images ways_now g.placed g.path x r p st
  part-still x r p (state.Waiting wanted) ne o = (o.0, nobody-still r ne o.1, o.2)
  part-still x r p (state.Placed way) ne o = (o.0, o.1, nobody-still r ne o.2, o.3)
  part-still x r p state.NoMemory ne o = (o.0, nobody-still r ne o.1, o.2)
  part-still x r p _ ne o = tt

  -- the command of an insert whose part was not routed is another one
  unrouted-other : (a r : ℕ) (row : Row) → v.commands a ≡ doing r (work_is.Insert row false) → r ≢ of
  unrouted-other a r row is same =
      let (b, c, has, began, serves, on) = i.desking.whose server of within op in
      let whose : Some a ≡ Some b = sym (i.telling.own a (record { of = r; work = work_is.Insert row false }) is) ∙ ap (λ (p : ℕ). option_and_then session_in (event_at v.history p)) (same ∙ sym began) ∙ i.telling.own b c has in
      let one : a ≡ b = cc in
      let both : Some (record { of = r; work = work_is.Insert row false }) ≡ Some c = sym is ∙ ap v.commands one ∙ has in
      let it : record { of = r; work = work_is.Insert row false } ≡ c = cc in
      false≢true (ap (λ (z : Command). is_on_desk z.work) it ∙ on)

  pub out-inserting : Inserting s v.history v.images desks_now v.commands ways_now g.placed g.path
  out-inserting = record {
    unrouted = λ a r row is. let o = i.inserting.unrouted a r row is in (o.0, nobody-still r (unrouted-other a r row is) o.1);
    parts = λ x r ins lt is begun.
        let was = desk_of x r is in
        let all = i.inserting.parts x r ins lt was begun in
        turned (λ y d. y ≡ x → All (λ (p : Part). IsRowPart v.history v.images ways_now g.placed g.path y r p p.state) d.parts) x
        (λ ne same.
        let other : r ≢ of = (λ z. ne (sym (insert-server s v g i x r ins lt was begun) ∙ insert-server s v g i server of ins within op (ap (insert_at v.history) (sym z) ∙ begun))) in
        All-weaker (λ (p : Part). IsRowPart v.history v.images v.ways g.placed g.path x r p p.state) (λ (p : Part). IsRowPart v.history v.images ways_now g.placed g.path x r p p.state) (λ p o. part-still x r p p.state other o) (v.desks x).parts all)
        (λ same.
        let here = same-of r (ap (λ (y : ℕ). (v.desks y).op) same ∙ was) in
        let began = ap (insert_at v.history) here ∙ begun in
        let one = i.desking.insert server of ins within op began in
        let none = alone before behind part one.0 (sym k.turn.was ∙ one.1) in
        let P : Part → Type 0 = λ p. IsRowPart v.history v.images ways_now g.placed g.path server r p p.state in
        subst (All P) (λ j. sym none.1 j ++ now ∷ sym none.2 j) (All-cons P now [] tt (All-nil P))) refl;
    on_way = λ a w is. elim (went a w is) [
      | inl mine ↦ (new-row w mine.1).on_way
      | inr it ↦ i.inserting.on_way a w it.1
    ];
  }

  -- what the part asks for is its command's
  wants : IsWantOf v.history of (taken_by e).want
  wants = wants-of wanted refl
    where
      wants-of : (want_is : Want) → wanted ≡ want_is → IsWantOf v.history of (taken_by (errand_for server part want_is)).want
      wants-of (want.Row row) same = elim (on-desk s v g i server of within op) [
        | inl here ↦
            let one = i.desking.insert server of here.0 within op here.1 in
            let is_one : part ≡ one.0 = (alone before behind part one.0 (sym k.turn.was ∙ one.1)).0 in
            let its_row : want.Row row ≡ want.Row here.0.row = subst (IsInsertState here.0) (ap (λ (p : Part). p.state) (sym is_one) ∙ k.waits ∙ ap state.Waiting same) one.2 in
            (here.0, here.1, cc)
        | inr here ↦
            let at = All-contains (λ (p : Part). IsQueryState here.0 p.state) (v.desks server).parts part (i.desking.query server of here.0 within op here.1).0 in-parts in
            let never : want.Row row ≡ want.Filter here.0.filter = subst (IsQueryState here.0) (k.waits ∙ ap state.Waiting same) at in absurd (cc)
      ]
      wants-of (want.Filter f) same = elim (on-desk s v g i server of within op) [
        | inl here ↦
            let one = i.desking.insert server of here.0 within op here.1 in
            let is_one : part ≡ one.0 = (alone before behind part one.0 (sym k.turn.was ∙ one.1)).0 in
            let never : want.Filter f ≡ want.Row here.0.row = subst (IsInsertState here.0) (ap (λ (p : Part). p.state) (sym is_one) ∙ k.waits ∙ ap state.Waiting same) one.2 in absurd (cc)
        | inr here ↦
            let at = All-contains (λ (p : Part). IsQueryState here.0 p.state) (v.desks server).parts part (i.desking.query server of here.0 within op here.1).0 in-parts in
            let filters : want.Filter f ≡ want.Filter here.0.filter = subst (IsQueryState here.0) (k.waits ∙ ap state.Waiting same) at in
            (here.0, here.1, cc)
      ]

  its-taken : is_with part.shard part.worker now ≡ true
  its-taken = (rw (eq-eqb part.shard part.shard refl, eq-eqb part.worker part.worker refl) refl)

  pub out-desking : Desking s v.history desks_now v.roles v.commands taken_now
  out-desking = (let m = i.desking in record {
    empty = λ x lt is. turned (λ y d. d.op ≡ None → d.parts ≡ []) x (λ ne. m.empty x lt) (λ none. let never : ◌≡◌ {A = Option ℕ} (Some of) None = sym op ∙ none in absurd (cc)) is;
    whose = λ x p lt is. m.whose x p lt (desk_of x p is);
    on_desk = λ a x c has serves on. op-same v.desks desks_now server before part (now ∷ []) behind k.turn x ∙ m.on_desk a x c has serves on;
    insert = λ x p ins lt is begun.
        let was = desk_of x p is in
        turned (λ y d. y ≡ x → (q : Part) × (d.parts ≡ q ∷ []) × IsInsertState ins q.state) x (λ ne same. m.insert x p ins lt was begun)
        (λ same.
        let here = same-of p (ap (λ (y : ℕ). (v.desks y).op) same ∙ was) in
        let one = m.insert server of ins within op (ap (insert_at v.history) here ∙ begun) in
        let none = alone before behind part one.0 (sym k.turn.was ∙ one.1) in
        (now, (λ j. none.1 j ++ now ∷ none.2 j), tt)) refl;
    query = λ x p q lt is asked.
        let was = desk_of x p is in
        turned (λ y d. y ≡ x → All (λ (c : Part). IsQueryState q c.state) d.parts × AreLinesApart v.history d.parts × All (IsQueryPart s v.history) d.parts) x (λ ne same. m.query x p q lt was asked)
        (λ same.
        let here = same-of p (ap (λ (y : ℕ). (v.desks y).op) same ∙ was) in
        let old = m.query server of q within op (ap (query_at v.history) here ∙ asked) in
        let lines = subst (AreLinesApart v.history) k.turn.was old.1 in (
          all-turned (λ (c : Part). IsQueryState q c.state) (λ (c : Part). IsQueryState q c.state) old.0 (λ c has o. o) tt,
          apart-exchanged v.history before (now ∷ []) behind part lines (All-nil (AreUnrelated v.history now), tt)
              (λ c other has is. subst (AreUnrelated v.history c) (only-one other is) (unrelated-now c (apart-others v.history before behind part lines c has))),
          all-turned (IsQueryPart s v.history) (IsQueryPart s v.history) old.2 (λ c has o. o) (refl, (All-contains (IsQueryPart s v.history) (v.desks server).parts part old.2 in-parts).1),
        )) refl;
    takers = λ x lt. turned (λ y d. y ≡ x → All (λ (c : Part). is_taken c ≡ true → IsTaken taken_now y c) d.parts) x
        (λ ne same. All-weaker (λ (c : Part). is_taken c ≡ true → IsTaken v.taken x c) (λ (c : Part). is_taken c ≡ true → IsTaken taken_now x c) (λ c f is. taker-still x c (f is)) (v.desks x).parts (m.takers x lt))
        (λ same. all-turned (λ (c : Part). is_taken c ≡ true → IsTaken v.taken server c) (λ (c : Part). is_taken c ≡ true → IsTaken taken_now server c) (m.takers server within) (λ c has f is. taker-still server c (f is))
        (λ is. (n, taken_by e, k.taken.is_there, refl, refl, refl))) refl;
    at_parts = λ a t is. elim (took a t is) [
      | inl mine ↦ subst (IsAtPart s v.history desks_now) (sym mine.1) (record {
        within = within;
        of = of;
        op = op-same v.desks desks_now server before part (now ∷ []) behind k.turn server ∙ op;
        wants = wants;
        part = subst (λ (d : DeskValue). Any (λ (c : Part). is_with part.shard part.worker c ≡ true) d.parts) (sym k.turn.is)
            (any-of (λ (c : Part). is_with part.shard part.worker c ≡ true) (before ++ now ∷ behind) now (old-was before behind now) its-taken);
      })
      | inr other ↦ at-still a t other.1
    ];
    one = λ a b t u is has server_is shard worker. elim (took a t is) [
      | inl mine ↦ elim (took b u has) [
        | inl its ↦ mine.0 ∙ sym its.0
        | inr other ↦ absurd (nobody-there b u other.1 (sym server_is ∙ ap (λ (z : Taken). z.server) mine.1) (sym shard ∙ ap (λ (z : Taken). z.shard) mine.1))
      ]
      | inr first ↦ elim (took b u has) [
        | inl its ↦ absurd (nobody-there a t first.1 (server_is ∙ ap (λ (z : Taken). z.server) its.1) (shard ∙ ap (λ (z : Taken). z.shard) its.1))
        | inr other ↦ m.one a b t u first.1 other.1 server_is shard worker
      ]
    ];
  })
    where
      taker-still : (x : ℕ) (c : Part) → IsTaken v.taken x c → IsTaken taken_now x c
      taker-still x c (a, t, has, is_server, shard, worker) = (a, t, (still-taken a t has).1, is_server, shard, worker)

      only-one : (other : Part) → Contains (now ∷ []) other → now ≡ other
      only-one other is = Contains-one now other is

      unrelated-now : (c : Part) → AreUnrelated v.history part c → AreUnrelated v.history c now
      unrelated-now c u = (u.1, u.0)

      at-still : (a : ℕ) (t : Taken) → v.taken a ≡ Some t → IsAtPart s v.history desks_now t
      at-still a t has = (let at = i.desking.at_parts a t has in record {
        within = at.within;
        of = at.of;
        op = op-same v.desks desks_now server before part (now ∷ []) behind k.turn t.server ∙ at.op;
        wants = at.wants;
        part = turned (λ y d. y ≡ t.server → Any (λ (c : Part). is_with t.shard t.worker c ≡ true) d.parts) t.server (λ off same. at.part)
            (λ same. let (p, rest, with) = other-part a t has (sym same) in any-of (λ (x : Part). is_with t.shard t.worker x ≡ true) (before ++ now ∷ behind) p (others-now before (now ∷ []) behind p rest) with) refl;
      })

  -- Queries.

  pub out-querying : Querying s v.history v.row v.blocks v.trees desks_now taken_now v.reads g.shape g.placed g.home g.counted
  out-querying = (let m = i.querying in record {
    counts = λ x p q lt is asked.
        let was = desk_of x p is in
        let P : ℕ → Part → Type 0 = λ y c. is_refused c ≡ false → IsCounted s v.history v.row g.placed g.home q c.shard (g.counted y c.shard) in
        turned (λ y d. y ≡ x → All (P y) d.parts) x (λ ne same. m.counts x p q lt was asked)
        (λ same.
        let here = same-of p (ap (λ (y : ℕ). (v.desks y).op) same ∙ was) in
        let all = m.counts server of q within op (ap (query_at v.history) here ∙ asked) in
        all-turned (P server) (P server) all (λ c has o. o) (λ kept. All-contains (P server) (v.desks server).parts part all in-parts (ap state_is_refused k.waits))) refl;
    ends = λ x p q lt is asked.
        let was = desk_of x p is in
        let P : ℕ → Part → Type 0 = λ y c. IsEndOfPart s v.history v.row g.placed g.home p q c.shard (g.counted y c.shard) c.state in
        turned (λ y d. y ≡ x → All (P y) d.parts) x (λ ne same. m.ends x p q lt was asked)
        (λ same. all-turned (P server) (P server) (m.ends server p q within (ap (λ (y : ℕ). (v.desks y).op) same ∙ was) asked) (λ c has o. o) tt) refl;
    whole = λ x p q lt is asked r must fit.
        let was = desk_of x p is in
        let U : Part → Type 0 = λ c. IsUnder v.history g.placed g.home c.shard r in
        turned (λ y d. y ≡ x → Any U d.parts) x (λ ne same. m.whole x p q lt was asked r must fit)
        (λ same.
        let (c, has, under) = some-of U (v.desks server).parts (m.whole server p q within (ap (λ (y : ℕ). (v.desks y).op) same ∙ was) asked r must fit) in
        elim (was-cases before behind part c (subst (λ (xs : List Part). Contains xs c) k.turn.was has)) [
          | inl it ↦ any-of U (before ++ now ∷ behind) now (old-was before behind now) (subst U (sym it) under)
          | inr rest ↦ any-of U (before ++ now ∷ behind) c (others-now before (now ∷ []) behind c rest) under
        ]) refl;
    reading = λ a p q r is op_now asked. m.reading a p q r is (desk_of r.server p op_now) asked;
    unread = λ a t f is asks none. elim (took a t is) [
      | inl mine ↦ counted-none t f mine.1 asks
      | inr other ↦ m.unread a t f other.1 asks none
    ];
  })
    where
      counted-none : (t : Taken) (f : List Pick) → t ≡ taken_by e → t.want ≡ want.Filter f → g.counted t.server t.shard ≡ []
      counted-none t f is asks =
          subst (λ (z : Taken). g.counted z.server z.shard ≡ []) (sym is) (elim (on-desk s v g i server of within op) [
            | inl here ↦
                let w : IsWantOf v.history of (want.Filter f) = subst (IsWantOf v.history of) (ap (λ (z : Taken). z.want) (sym is) ∙ asks) wants in
                absurd (no-query v.history of here.0 w.0 here.1 w.1)
            | inr here ↦
                let P : Part → Type 0 = λ c. IsEndOfPart s v.history v.row g.placed g.home of here.0 c.shard (g.counted server c.shard) c.state in
                let at = All-contains P (v.desks server).parts part (i.querying.ends server of here.0 within op here.1) in-parts in
                subst (IsEndOfPart s v.history v.row g.placed g.home of here.0 part.shard (g.counted server part.shard)) k.waits at
          ])

  pub out-holds : InvWith s (record v { desks = desks_now; taken = taken_now; ways = ways_now }) g
  out-holds = record {
    numbering = out-numbering;
    telling = i.telling;
    owing = out-owing;
    turning = out-turning;
    stocking = i.stocking;
    stamping = i.stamping;
    lineage = i.lineage;
    leading = out-leading;
    growing = i.growing;
    queueing = i.queueing;
    resting = i.resting;
    placing = out-placing;
    inserting = out-inserting;
    imaging = i.imaging;
    covering = i.covering;
    desking = out-desking;
    pinning = i.pinning;
    querying = out-querying;
    working = i.working;
    balancing = i.balancing;
    reusing = i.reusing;
  }
