-- A part that an actor took goes back to its desk, as it is then, or as others in its place: what the invariant keeps.
use Rattle.std.proofs.{Common.{◌≡◌, ◌≢◌, ℕ, ◌+◌, ◌<◌, List, [], ◌∷◌, ◌++◌, true, false, eqb, Option, Some, None, refl, sym, ap, subst, ◌∙◌, ◌⊎◌, inl, inr, arith, All, Any, Contains}, lemmas.Bool.{false≢true, eqb-true, eqb-false}, lemmas.List.Elements.{All-weaker, All-cons, All-nil}}
use Rattle.std.specs.Prelude.{IsSome}
use Rattle.query_router.specs.{Desk.{DeskValue, is_open, is_refused, is_taken, is_with}, declared.part.Part.Part, declared.part.PartState.PartState}
use Rattle.query_router.specs.declared.part.PartState.TheVariants as state
use Rattle.row_ledger.specs.Past.{Insert, Query, insert_at, query_at}
use Rattle.list_words.proofs.{Each.{each-map, each-right}, Truth.on_bool}
use Rattle.volap_cell.specs.tree_shape.specs.Queries.{NoneWaits, fits}
use Rattle.volap_cell.specs.{Desking.{AreLinesApart, AreUnrelated, Desking, IsAtPart, IsInsertState, IsQueryPart, IsQueryState, IsTaken}, Errands.{AtBlock, InLeaf, ReadPart, RowPlace, RowWay, Taken, gate_entered, read_in_task, taken_by, way_in_task}, Ghost.Ghost, Growing.{Growing, IsUnder, table_of}, Invariant.InvWith, Lineage.Leading, Numbering.Numbering, Owing.Owing, Placing.{Inserting, IsRowPart, NobodyAt, Placing}, Querying.{IsCounted, IsEndOfPart, IsReading, Pinning, Querying, must_hold, pins_of}, Setting.{Setting, actor_count}, Stocking.{IsWhole, Stamping, Stocking, all_items, all_spares, items_of_job, items_of_read}, Turning.{Turning, inside_of, is_inside}, Values.ErrandValue, View.View}
use Rattle.volap_cell.proofs.{Desks.Facts.{others-apart, others-part, with-parts}, Desks.Lists.{alone, any-of, apart-exchanged, new-now, others-now, some-of, was-cases}, Desks.Shared.{TurnsParts, by-desk, leading-turned, op-same, owing-turned, parts-turned}, OneEvent.Reads.ReadersTake, Persons.has-taken, Sums.{sum-changed, sum-kept}, Views.Fields.IsNewAt}

-- A field that an actor alone had is empty there, and is as it was for the others.

-- who has something now is another one, and had it before
pub others-had : {A : Type 0} (now was : ℕ → Option A) (n : ℕ) (old : Option A) → IsNewAt now was n old None → (a : ℕ) (x : A) → now a ≡ Some x → (a ≢ n) × (was a ≡ Some x)
others-had {A} now was n old new a x is =
    let ne : a ≢ n = (λ e. let never : ◌≡◌ {A = Option A} None (Some x) = sym new.is_there ∙ ap now (sym e) ∙ is in absurd (cc)) in
    (ne, sym (new.elsewhere a ne) ∙ is)

-- The step, without the cells.

pub record GoesBack (v : View) (n : ℕ) (e : ErrandValue) (before : List Part) (old : Part) (new behind : List Part) (desks_now : ℕ → DeskValue) (taken_now : ℕ → Option Taken) (ways_now : ℕ → Option RowWay) (reads_now : ℕ → Option ReadPart) (pins_now : ℕ → ℕ) : Type 0 where
  pub turn : TurnsParts v.desks desks_now e.server before old new behind
  pub with : is_with e.shard e.worker old ≡ true
  pub taken : IsNewAt taken_now v.taken n (Some (taken_by e)) None
  pub ways : IsNewAt ways_now v.ways n (way_in_task e e.task) None
  pub reads : IsNewAt reads_now v.reads n (read_in_task e e.task) None
  pub outside : (w : RowWay) → way_in_task e e.task ≡ Some w → gate_entered w.place ≡ None
  pub pins : (c : ℕ) → pins_now c + pins_of c (read_in_task e e.task) ≡ v.pins c

-- What the parts must be that stand there then: of an insert one, of a query such as are apart, and have counted what they must.
pub record AreParts (s : Setting) (v : View) (g : Ghost) (e : ErrandValue) (before : List Part) (old : Part) (new behind : List Part) (ways_now : ℕ → Option RowWay) (counted_now : ℕ → ℕ → List ℕ) (of : ℕ) : Type 0 where
  pub none_taken : All (λ (p : Part). is_taken p ≡ false) new
  pub leads : All (λ (p : Part). is_open p ≡ true → (p.worker < s.workers) × IsSome (v.maps p.worker p.shard)) new
  pub insert : (x : Insert) → insert_at v.history of ≡ Some x → (p : Part) × (new ≡ p ∷ []) × IsInsertState x p.state × IsRowPart v.history v.images ways_now g.placed g.path e.server of p p.state
  pub query : (q : Query) → query_at v.history of ≡ Some q → All (λ (p : Part). IsQueryState q p.state) new
  pub made : (q : Query) → query_at v.history of ≡ Some q → All (IsQueryPart s v.history) new
  pub counts : (q : Query) → query_at v.history of ≡ Some q → All (λ (p : Part). is_refused p ≡ false → IsCounted s v.history v.row g.placed g.home q p.shard (counted_now e.server p.shard)) new
  pub ends : (q : Query) → query_at v.history of ≡ Some q → All (λ (p : Part). IsEndOfPart s v.history v.row g.placed g.home of q p.shard (counted_now e.server p.shard) p.state) new
  pub apart : (q : Query) → query_at v.history of ≡ Some q → AreLinesApart v.history new × ((p other : Part) → Contains (before ++ behind) p → Contains new other → AreUnrelated v.history p other)
  pub whole : (q : Query) → query_at v.history of ≡ Some q → (r : ℕ) → must_hold s.hierarchy v.history of q r ≡ true → fits (table_of s v.row) q.filter r ≡ true → IsUnder v.history g.placed g.home old.shard r
      → Any (λ (p : Part). IsUnder v.history g.placed g.home p.shard r) new
  pub same : (p : Part) → Contains (before ++ behind) p → counted_now e.server p.shard ≡ g.counted e.server p.shard
  pub off : (x : ℕ) → x ≢ e.server → (y : ℕ) → counted_now x y ≡ g.counted x y

module _ (s : Setting) (v : View) (g : Ghost) (i : InvWith s v g) (readers : ReadersTake v.taken v.reads) (n : ℕ) (e : ErrandValue) (before : List Part) (old : Part) (new behind : List Part)
    (desks_now : ℕ → DeskValue) (taken_now : ℕ → Option Taken) (ways_now : ℕ → Option RowWay) (reads_now : ℕ → Option ReadPart) (pins_now : ℕ → ℕ)
    (k : GoesBack v n e before old new behind desks_now taken_now ways_now reads_now pins_now) where
  few : n < actor_count s
  few = has-taken s v i.numbering n (taken_by e) k.taken.was_there

  abbrev pub its-place : IsAtPart s v.history v.desks (taken_by e)
  its-place = i.desking.at_parts n (taken_by e) k.taken.was_there

  within : e.server < s.servers
  within = its-place.within

  pub op : (v.desks e.server).op ≡ Some its-place.of
  op = its-place.op

  its : (old.shard ≡ e.shard) × (old.worker ≡ e.worker) × (is_taken old ≡ true)
  its = with-parts e.shard e.worker old k.with

  took : (a : ℕ) (t : Taken) → taken_now a ≡ Some t → (a ≢ n) × (v.taken a ≡ Some t)
  took = others-had taken_now v.taken n (Some (taken_by e)) k.taken

  went : (a : ℕ) (w : RowWay) → ways_now a ≡ Some w → (a ≢ n) × (v.ways a ≡ Some w)
  went = others-had ways_now v.ways n (way_in_task e e.task) k.ways

  had-read : (a : ℕ) (p : ReadPart) → reads_now a ≡ Some p → (a ≢ n) × (v.reads a ≡ Some p)
  had-read = others-had reads_now v.reads n (read_in_task e e.task) k.reads

  -- of the desk's other parts none is of the shard
  apart : (p : Part) → Contains (before ++ behind) p → p.shard ≢ e.shard
  apart p has same = others-apart s v g i e.server its-place.of within op before behind old k.turn.was p has (same ∙ sym its.0)

  -- another actor's part on this desk is one of them
  other-part : (a : ℕ) (t : Taken) → a ≢ n → v.taken a ≡ Some t → t.server ≡ e.server → (p : Part) × Contains (before ++ behind) p × (is_with t.shard t.worker p ≡ true)
  other-part a t ne has same =
      others-part s v g i e.server before behind old k.turn.was t same (λ is shard worker. ne (i.desking.one a n t (taken_by e) has k.taken.was_there same (shard ∙ its.0) (worker ∙ its.1))) (i.desking.at_parts a t has)

  -- Who is at which part.

  nobody-still : (r : ℕ) → NobodyAt v.ways r → NobodyAt ways_now r
  nobody-still r none a w is = none a w (went a w is).1

  pub back-numbering : Numbering s v.tags v.numbers v.roles v.settings v.counted_in v.purses v.commands taken_now v.jobs
  back-numbering = (let m = i.numbering in record {
    setting = m.setting;
    tag = m.tag;
    number = m.number;
    role = m.role;
    about = m.about;
    beyond = m.beyond;
    nobody = λ a le. let (counted, purse, none, takes, job) = m.nobody a le in (counted, purse, none, k.taken.elsewhere a (λ z. absurd (omega (arith, few, z, le))) ∙ takes, job);
    working = m.working;
    parts = λ a t is. m.parts a t (took a t is).1;
    idle = m.idle;
  })

  part-still : (server r : ℕ) (p : Part) (st : PartState) → IsRowPart v.history v.images v.ways g.placed g.path server r p st → IsRowPart v.history v.images ways_now g.placed g.path server r p st
  part-still server r p (state.Waiting wanted) o = (o.0, nobody-still r o.1, o.2)
  part-still server r p (state.Placed way) o = (o.0, o.1, nobody-still r o.2, o.3)
  part-still server r p state.NoMemory o = (o.0, nobody-still r o.1, o.2)
  part-still server r p _ o = tt

  pub back-placing : Placing s v.history v.commands ways_now v.queues g.gate g.shape g.placed g.home g.path
  back-placing = (let m = i.placing in record {
    one = m.one;
    stands = m.stands;
    begun = m.begun;
    line = m.line;
    acked_rows = λ a has. let o = m.acked_rows a has in (o.0, o.1, nobody-still a.row.no o.2);
    others = m.others;
  })

  -- Trees: the part's row is in none.

  not-inside : (p : RowPlace) → gate_entered p ≡ None → (c : ℕ) → is_inside c p ≡ 0
  not-inside (AtBlock gate block) none c = absurd (cc)
  not-inside (InLeaf gate) none c = absurd (cc)
  not-inside _ none c = refl

  none-inside : (o : Option RowWay) → way_in_task e e.task ≡ o → (c : ℕ) → inside_of c o ≡ 0
  none-inside None is c = refl
  none-inside (Some w) is c = not-inside w.place (k.outside w is) c

  pub back-turning : Turning s ways_now v.purses v.boxes v.phases v.active g.gate g.shape g.home
  back-turning = (let m = i.turning in record {
    one = λ a b w x is has. m.one a b w x (went a w is).1 (went b x has).1;
    carrying = λ a c y w is. m.carrying a c y w (went a w is).1;
    in_leaf = λ a c w is. m.in_leaf a c w (went a w is).1;
    carried = λ c r phase placed carried.
        let (a, y, w, is, row, place) = m.carried c r phase placed carried in
        let ne : a ≢ n = (λ z.
        let mine : way_in_task e e.task ≡ Some w = sym k.ways.was_there ∙ ap v.ways (sym z) ∙ is in
        let never : Some c ≡ None = sym (ap gate_entered place) ∙ k.outside w mine in absurd (cc)) in
        (a, y, w, k.ways.elsewhere a ne ∙ is, row, place);
    enough = λ a c y w is. m.enough a c y w (went a w is).1;
    boxed = λ a w is. m.boxed a w (went a w is).1;
    counts = λ c. m.counts c ∙ sym (sum-kept (actor_count s) (λ a. inside_of c (v.ways a)) (λ a. inside_of c (ways_now a)) n (λ a ne. ap (inside_of c) (k.ways.elsewhere a ne))
        (ap (inside_of c) k.ways.is_there ∙ sym (ap (inside_of c) k.ways.was_there ∙ none-inside (way_in_task e e.task) refl c)));
  })

  -- Pins: there may be one less.

  whole-was : (c : ℕ) → IsWhole v.gates v.phases pins_now c → IsWhole v.gates v.phases v.pins c
  whole-was c (is, inl stands) = (is, inl stands)
  whole-was c (is, inr pinned) = (is, inr (let p = k.pins c in omega (arith, p, pinned)))

  pub back-stocking : Stocking s v.stock v.made v.gates v.phases pins_now v.gone v.purses v.jobs g.owner g.shape
  back-stocking = (let m = i.stocking in record {
    valid = m.valid;
    count = m.count;
    within = m.within;
    every = m.every;
    unused = m.unused;
    purse = m.purse;
    job = m.job;
    gate = m.gate;
    gate_back = m.gate_back;
    tree = λ c y whole. m.tree c y (whole-was c whole);
    tree_back = λ c y owned. let o = m.tree_back c y owned in (o.0, λ whole. o.1 (whole-was c whole));
    gone_cells = m.gone_cells;
    none_gone = m.none_gone;
  })

  pub back-growing : Growing s v.row v.blocks v.trees v.gates v.phases pins_now g.shape
  back-growing = record { tree = λ c whole. i.growing.tree c (whole-was c whole) }

  items-less : (stamp b : ℕ) → NoneWaits stamp (items_of_read (v.reads b) ++ items_of_job (v.jobs b)) → NoneWaits stamp (items_of_read (reads_now b) ++ items_of_job (v.jobs b))
  items-less stamp b none = on_bool (eqb b n)
      (λ q.
      let is : b ≡ n = eqb-true b n q in
      subst (λ (o : Option ReadPart). NoneWaits stamp (items_of_read o ++ items_of_job (v.jobs b))) (sym (ap reads_now is ∙ k.reads.is_there))
      (each-right (λ x. x.stamp ≢ stamp) (items_of_read (v.reads b)) (items_of_job (v.jobs b)) none))
      (λ q. subst (λ (o : Option ReadPart). NoneWaits stamp (items_of_read o ++ items_of_job (v.jobs b))) (sym (k.reads.elsewhere b (eqb-false b n q))) none)

  pub back-stamping : Stamping v.stock v.blocks v.made v.trees v.gates v.phases pins_now v.purses reads_now v.jobs g.shape
  back-stamping = (let m = i.stamping in record {
    blocks_given = m.blocks_given;
    blocks_apart = m.blocks_apart;
    unspared = m.unspared;
    given = m.given;
    apart = m.apart;
    spare = λ a c whole. m.spare a c (whole-was c whole);
    waits = λ a b. each-map (λ x. NoneWaits x.stamp (all_items v.reads v.jobs b)) (λ x. NoneWaits x.stamp (all_items reads_now v.jobs b)) (all_spares v.purses v.jobs a) (λ x none. items-less x.stamp b none) (m.waits a b);
    fresh = λ c stamp whole. m.fresh c stamp (whole-was c whole);
    fresh_waits = λ b stamp le. items-less stamp b (m.fresh_waits b stamp le);
  })

  pub back-pinning : Pinning s v.gates pins_now reads_now
  back-pinning = record {
    counts = λ c.
        let changed = sum-changed (actor_count s) (λ a. pins_of c (v.reads a)) (λ a. pins_of c (reads_now a)) n (λ a ne. ap (pins_of c) (k.reads.elsewhere a ne)) few in
        let mine = ap (pins_of c) k.reads.was_there in
        let none : pins_of c (reads_now n) ≡ 0 = ap (pins_of c) k.reads.is_there in
        let was = i.pinning.counts c in
        let less = k.pins c in
        omega (arith, changed, mine, none, was, less);
    shard = λ a c p is. i.pinning.shard a c p (had-read a p is).1;
  }

  -- The desk.

  module _ (counted_now : ℕ → ℕ → List ℕ) (parts : AreParts s v g e before old new behind ways_now counted_now its-place.of) where
    desk_of : (x of : ℕ) → (desks_now x).op ≡ Some of → (v.desks x).op ≡ Some of
    desk_of x of is = sym (op-same v.desks desks_now e.server before old new behind k.turn x) ∙ is

    same-of : (of : ℕ) → (v.desks e.server).op ≡ Some of → its-place.of ≡ of
    same-of of is = (let both : Some its-place.of ≡ Some of = sym op ∙ is in cc)

    turned : (Q : ℕ → DeskValue → Type 0) (x : ℕ) → (x ≢ e.server → Q x (v.desks x)) → Q e.server (record (v.desks e.server) { parts = before ++ (new ++ behind) }) → Q x (desks_now x)
    turned = by-desk v.desks desks_now e.server before old new behind k.turn

    all-turned : (P Q : Part → Type 0) → All P (v.desks e.server).parts → ((p : Part) → Contains (before ++ behind) p → P p → Q p) → All Q new → All Q (before ++ (new ++ behind))
    all-turned = parts-turned v.desks desks_now e.server before old new behind k.turn

    pub back-owing : Owing s v.history v.promised v.images desks_now v.roles v.commands v.counted_in
    back-owing = owing-turned v.desks desks_now e.server before old new behind k.turn s v.history v.promised v.images v.roles v.commands v.counted_in i.owing

    pub back-leading : Leading s v.maps v.images desks_now
    back-leading = leading-turned v.desks desks_now e.server before old new behind k.turn s v.maps v.images within parts.leads i.leading

    -- of an insert there is no other part
    no-others : (x : Insert) → insert_at v.history its-place.of ≡ Some x → (before ≡ []) × (behind ≡ [])
    no-others x begun = (let one = i.desking.insert e.server its-place.of x within op begun in let none = alone before behind old one.0 (sym k.turn.was ∙ one.1) in (none.1, none.2))

    pub back-inserting : Inserting s v.history v.images desks_now v.commands ways_now g.placed g.path
    back-inserting = record {
      unrouted = λ a r row is. let o = i.inserting.unrouted a r row is in (o.0, nobody-still r o.1);
      parts = λ x r ins lt is begun.
          let was = desk_of x r is in
          let P : ℕ → Part → Type 0 = λ y p. IsRowPart v.history v.images ways_now g.placed g.path y r p p.state in
          let all = i.inserting.parts x r ins lt was begun in
          turned (λ y d. y ≡ x → All (P y) d.parts) x (λ ne same. All-weaker (λ (p : Part). IsRowPart v.history v.images v.ways g.placed g.path x r p p.state) (P x) (λ p o. part-still x r p p.state o) (v.desks x).parts all)
          (λ same.
          let here = same-of r (ap (λ (y : ℕ). (v.desks y).op) same ∙ was) in
          let one = parts.insert ins (ap (insert_at v.history) here ∙ begun) in
          all-turned (λ (p : Part). IsRowPart v.history v.images v.ways g.placed g.path e.server r p p.state) (P e.server)
          (subst (λ (y : ℕ). All (λ (p : Part). IsRowPart v.history v.images v.ways g.placed g.path y r p p.state) (v.desks y).parts) (sym same) all)
          (λ p has o. part-still e.server r p p.state o)
          (subst (All (P e.server)) (sym one.1) (All-cons (P e.server) one.0 [] (subst (λ (y : ℕ). IsRowPart v.history v.images ways_now g.placed g.path e.server y one.0 one.0.state) here one.3) (All-nil (P e.server)))))
          refl;
      on_way = λ a w is. i.inserting.on_way a w (went a w is).1;
    }

    taken-still : (x : ℕ) (p : Part) → ((x ≢ e.server) ⊎ (p.shard ≢ e.shard)) → IsTaken v.taken x p → IsTaken taken_now x p
    taken-still x p off (a, t, has, server, shard, worker) =
        let ne : a ≢ n = (λ z.
        let mine : Some t ≡ Some (taken_by e) = sym has ∙ ap v.taken z ∙ k.taken.was_there in
        let it : t ≡ taken_by e = cc in
        elim off [
          | inl other ↦ other (sym server ∙ ap (λ (y : Taken). y.server) it)
          | inr other ↦ other (sym shard ∙ ap (λ (y : Taken). y.shard) it)
        ]) in
        (a, t, k.taken.elsewhere a ne ∙ has, server, shard, worker)

    pub back-desking : Desking s v.history desks_now v.roles v.commands taken_now
    back-desking = (let m = i.desking in record {
      empty = λ x lt is. turned (λ y d. d.op ≡ None → d.parts ≡ []) x (λ ne. m.empty x lt) (λ none. let never : ◌≡◌ {A = Option ℕ} (Some its-place.of) None = sym op ∙ none in absurd (cc)) is;
      whose = λ x of lt is. m.whose x of lt (desk_of x of is);
      on_desk = λ a x c has serves on. op-same v.desks desks_now e.server before old new behind k.turn x ∙ m.on_desk a x c has serves on;
      insert = λ x of ins lt is begun.
          let was = desk_of x of is in
          turned (λ y d. y ≡ x → (p : Part) × (d.parts ≡ p ∷ []) × IsInsertState ins p.state) x (λ ne same. m.insert x of ins lt was begun)
          (λ same.
          let here = same-of of (ap (λ (y : ℕ). (v.desks y).op) same ∙ was) in
          let began = ap (insert_at v.history) here ∙ begun in
          let one = parts.insert ins began in
          let none = no-others ins began in
          (one.0, (λ j. none.0 j ++ (one.1 j ++ none.1 j)), one.2)) refl;
      query = λ x of q lt is asked.
          let was = desk_of x of is in
          turned (λ y d. y ≡ x → All (λ (p : Part). IsQueryState q p.state) d.parts × AreLinesApart v.history d.parts × All (IsQueryPart s v.history) d.parts) x (λ ne same. m.query x of q lt was asked)
          (λ same.
          let here = same-of of (ap (λ (y : ℕ). (v.desks y).op) same ∙ was) in
          let asks = ap (query_at v.history) here ∙ asked in
          let old_parts = m.query e.server its-place.of q within op asks in
          let apart_now = parts.apart q asks in (
            all-turned (λ (p : Part). IsQueryState q p.state) (λ (p : Part). IsQueryState q p.state) old_parts.0 (λ p has o. o) (parts.query q asks),
            apart-exchanged v.history before new behind old (subst (AreLinesApart v.history) k.turn.was old_parts.1) apart_now.0 apart_now.1,
            all-turned (IsQueryPart s v.history) (IsQueryPart s v.history) old_parts.2 (λ p has o. o) (parts.made q asks),
          )) refl;
      takers = λ x lt. turned (λ y d. y ≡ x → All (λ (p : Part). is_taken p ≡ true → IsTaken taken_now y p) d.parts) x
          (λ ne same. All-weaker (λ (p : Part). is_taken p ≡ true → IsTaken v.taken x p) (λ (p : Part). is_taken p ≡ true → IsTaken taken_now x p) (λ p f is. taken-still x p (inl ne) (f is)) (v.desks x).parts (m.takers x lt))
          (λ same. all-turned (λ (p : Part). is_taken p ≡ true → IsTaken v.taken e.server p) (λ (p : Part). is_taken p ≡ true → IsTaken taken_now e.server p) (m.takers e.server within)
          (λ p has f is. taken-still e.server p (inr (apart p has)) (f is))
          (All-weaker (λ (p : Part). is_taken p ≡ false) (λ (p : Part). is_taken p ≡ true → IsTaken taken_now e.server p) (λ p none is. absurd (false≢true (sym none ∙ is))) new parts.none_taken)) refl;
      at_parts = λ a t is.
          let (ne, has) = took a t is in
          let at = m.at_parts a t has in
          record {
            within = at.within;
            of = at.of;
            op = op-same v.desks desks_now e.server before old new behind k.turn t.server ∙ at.op;
            wants = at.wants;
            part = turned (λ y d. y ≡ t.server → Any (λ (p : Part). is_with t.shard t.worker p ≡ true) d.parts) t.server (λ off same. at.part)
                (λ same. let (p, rest, with) = other-part a t ne has (sym same) in any-of (λ (x : Part). is_with t.shard t.worker x ≡ true) (before ++ (new ++ behind)) p (others-now before new behind p rest) with) refl;
          };
      one = λ a b t u is has. m.one a b t u (took a t is).1 (took b u has).1;
    })

    -- Queries.

    -- what another actor's part has counted is as it was
    counted-still : (a : ℕ) (t : Taken) → taken_now a ≡ Some t → counted_now t.server t.shard ≡ g.counted t.server t.shard
    counted-still a t is = on_bool (eqb t.server e.server)
        (λ q.
        let same = eqb-true t.server e.server q in
        let (ne, has) = took a t is in
        let (p, rest, with) = other-part a t ne has same in
        let shard = (with-parts t.shard t.worker p with).0 in
        let here : counted_now e.server t.shard ≡ g.counted e.server t.shard = subst (λ (y : ℕ). counted_now e.server y ≡ g.counted e.server y) shard (parts.same p rest) in
        subst (λ (y : ℕ). counted_now y t.shard ≡ g.counted y t.shard) (sym same) here)
        (λ q. parts.off t.server (eqb-false t.server e.server q) t.shard)

    pub back-querying : Querying s v.history v.row v.blocks v.trees desks_now taken_now reads_now g.shape g.placed g.home counted_now
    back-querying = (let m = i.querying in record {
      counts = λ x of q lt is asked.
          let was = desk_of x of is in
          let P : ℕ → Part → Type 0 = λ y p. is_refused p ≡ false → IsCounted s v.history v.row g.placed g.home q p.shard (g.counted y p.shard) in
          let Q : ℕ → Part → Type 0 = λ y p. is_refused p ≡ false → IsCounted s v.history v.row g.placed g.home q p.shard (counted_now y p.shard) in
          turned (λ y d. y ≡ x → All (Q y) d.parts) x
          (λ ne same. All-weaker (P x) (Q x) (λ p f kept. subst (IsCounted s v.history v.row g.placed g.home q p.shard) (sym (parts.off x ne p.shard)) (f kept)) (v.desks x).parts (m.counts x of q lt was asked))
          (λ same.
          let here = same-of of (ap (λ (y : ℕ). (v.desks y).op) same ∙ was) in
          let asks = ap (query_at v.history) here ∙ asked in
          all-turned (P e.server) (Q e.server) (m.counts e.server its-place.of q within op asks) (λ p has f kept. subst (IsCounted s v.history v.row g.placed g.home q p.shard) (sym (parts.same p has)) (f kept)) (parts.counts q asks)) refl;
      ends = λ x of q lt is asked.
          let was = desk_of x of is in
          turned (λ y d. y ≡ x → All (λ (p : Part). IsEndOfPart s v.history v.row g.placed g.home of q p.shard (counted_now y p.shard) p.state) d.parts) x
          (λ ne same. All-weaker (λ (p : Part). IsEndOfPart s v.history v.row g.placed g.home of q p.shard (g.counted x p.shard) p.state) (λ (p : Part). IsEndOfPart s v.history v.row g.placed g.home of q p.shard (counted_now x p.shard) p.state)
          (λ p f. subst (λ (l : List ℕ). IsEndOfPart s v.history v.row g.placed g.home of q p.shard l p.state) (sym (parts.off x ne p.shard)) f) (v.desks x).parts (m.ends x of q lt was asked))
          (λ same.
          let here = same-of of (ap (λ (y : ℕ). (v.desks y).op) same ∙ was) in
          let asks = ap (query_at v.history) here ∙ asked in
          subst (λ (o : ℕ). All (λ (p : Part). IsEndOfPart s v.history v.row g.placed g.home o q p.shard (counted_now e.server p.shard) p.state) (before ++ (new ++ behind))) here
          (all-turned (λ (p : Part). IsEndOfPart s v.history v.row g.placed g.home its-place.of q p.shard (g.counted e.server p.shard) p.state)
          (λ (p : Part). IsEndOfPart s v.history v.row g.placed g.home its-place.of q p.shard (counted_now e.server p.shard) p.state) (m.ends e.server its-place.of q within op asks)
          (λ p has f. subst (λ (l : List ℕ). IsEndOfPart s v.history v.row g.placed g.home its-place.of q p.shard l p.state) (sym (parts.same p has)) f) (parts.ends q asks))) refl;
      whole = λ x of q lt is asked r must fit.
          let was = desk_of x of is in
          turned (λ y d. y ≡ x → Any (λ (p : Part). IsUnder v.history g.placed g.home p.shard r) d.parts) x (λ ne same. m.whole x of q lt was asked r must fit)
          (λ same.
          let here = same-of of (ap (λ (y : ℕ). (v.desks y).op) same ∙ was) in
          let asks = ap (query_at v.history) here ∙ asked in
          let must_here = subst (λ (o : ℕ). must_hold s.hierarchy v.history o q r ≡ true) (sym here) must in
          let U : Part → Type 0 = λ p. IsUnder v.history g.placed g.home p.shard r in
          let (p, has, under) = some-of U (v.desks e.server).parts (m.whole e.server its-place.of q within op asks r must_here fit) in
          elim (was-cases before behind old p (subst (λ (xs : List Part). Contains xs p) k.turn.was has)) [
            | inl it ↦ (let (c, new_has, c_under) = some-of U new (parts.whole q asks r must_here fit (subst U (sym it) under)) in any-of U (before ++ (new ++ behind)) c (new-now before new behind c new_has) c_under)
            | inr rest ↦ any-of U (before ++ (new ++ behind)) p (others-now before new behind p rest) under
          ]) refl;
      reading = λ a of q p is op_now asked.
          let (ne, has) = had-read a p is in
          let (t, takes, server, shard) = readers a p has in
          let still = counted-still a t (k.taken.elsewhere a ne ∙ takes) in
          let same : counted_now p.server p.shard ≡ g.counted p.server p.shard = (subst (λ (y : ℕ). counted_now y p.shard ≡ g.counted y p.shard) server (subst (λ (y : ℕ). counted_now t.server y ≡ g.counted t.server y) shard still)) in
          subst (λ (l : List ℕ). IsReading s v.history v.row v.blocks v.trees g.shape g.placed g.home of q p.shard l p.reading) (sym same) (m.reading a of q p has (desk_of p.server of op_now) asked);
      unread = λ a t f is wants none.
          let (ne, has) = took a t is in
          counted-still a t is ∙ m.unread a t f has wants (sym (k.reads.elsewhere a ne) ∙ none);
    })

    -- All parts.

    pub back-holds : InvWith s (record v { desks = desks_now; taken = taken_now; ways = ways_now; reads = reads_now; pins = pins_now }) (record g { counted = counted_now })
    back-holds = record {
      numbering = back-numbering;
      telling = i.telling;
      owing = back-owing;
      turning = back-turning;
      stocking = back-stocking;
      stamping = back-stamping;
      lineage = i.lineage;
      leading = back-leading;
      growing = back-growing;
      queueing = i.queueing;
      resting = i.resting;
      placing = back-placing;
      inserting = back-inserting;
      imaging = i.imaging;
      covering = i.covering;
      desking = back-desking;
      pinning = back-pinning;
      querying = back-querying;
      working = i.working;
      balancing = i.balancing;
      reusing = i.reusing;
    }
