-- What an actor's part is at its end: an insert's is placed, with its path, or its row has passed no gate; a query's has counted all that it must.
use Rattle.std.proofs.{Common.{◌≡◌, ◌≢◌, ℕ, ◌<◌, ◌≤◌, List, [], ◌∷◌, ◌++◌, true, false, Option, Some, None, refl, sym, ap, subst, ◌∙◌, inl, inr, arith, All, ◌||◌}, lemmas.Bool.{false≢true}}
use Rattle.std.specs.Prelude.{IsSome, IsTrue}
use Rattle.dc_node.specs.declared.todo.Item.{Item}
use Rattle.query_router.specs.{Desk.{is_open, is_taken, is_with, state_is_taken, state_waits}, declared.part.Part.Part, declared.part.PartState.PartState}
use Rattle.row_ledger.specs.{Past.{Insert, Query, insert_at, last_of, query_at}, Shards.is_path, declared.event.Event.Event}
use Rattle.list_words.specs.Counts.{times}
use Rattle.volap_cell.specs.tree_shape.specs.{Queries.{IsUnfinished, fits}, Shape.nodes}
use Rattle.volap_cell.specs.tree_shape.proofs.Down.Rows.{after-all}
use Rattle.volap_cell.specs.{Desking.{IsInsertState, IsQueryPart, IsQueryState}, Errands.{Outside, ReadPart, RowWay, has_passed, place_of, read_in_task, taken_by, way_in_task}, Ghost.Ghost, Growing.table_of, Invariant.InvWith, Placing.{IsLead, IsRowPart}, Querying.{IsEndOfPart, IsInTreeOf, IsReading, IsWalk, must_hold}, Setting.Setting, ShardKinds.{IsOutcome, path_in, path_left}, Stocking.cells_at, Values.{ErrandValue, OfRow, Read, ReadingValue, TaskValue, Unread}, View.View, declared.errand.Way.Way}
use Rattle.volap_cell.specs.declared.errand.Way.TheVariants as way
use Rattle.volap_cell.proofs.Views.Fields.{IsNewAt}
use Rattle.core_shard.proofs.{BackFacts.{read-no-insert, row-no-query, unread-no-insert}, GoesBack.AreParts, OnePart.{all-one, its-made, one-apart, one-counted, one-under, op}, RowBack.{row-nobody, row-number, row-on, row-passed}}

-- at its end a part neither waits nor is taken
closed : (task : TaskValue) (outcome : PartState) → IsOutcome task outcome → (state_waits outcome ≡ false) × (state_is_taken outcome ≡ false)
closed (OfRow r) outcome (inl done) = (ap state_waits done.1, ap state_is_taken done.1)
closed (OfRow r) outcome (inr refused) = (ap state_waits refused.1, ap state_is_taken refused.1)
closed (Unread f) outcome is = (ap state_waits is, ap state_is_taken is)
closed (Read r) outcome (inl done) = (ap state_waits done.1, ap state_is_taken done.1)
closed (Read r) outcome (inr refused) = (ap state_waits refused.1, ap state_is_taken refused.1)

-- a path has a shard
some-path : (h : List Event) (server : ℕ) (path : List ℕ) → IsTrue (is_path h server path) → path ≢ []
some-path h server path is none = false≢true (subst (λ (p : List ℕ). IsTrue (is_path h server p)) none is)

-- a row's part that has not passed its gate has its path
path-outside : (w : Way) (path : List ℕ) → place_of w ≡ Outside → path_left w path ≡ path
path-outside (way.Before height filled) path is = refl
path-outside (way.Carried gate block) path is = refl
path-outside (way.Put gate) path is = refl
path-outside way.Placed path is = absurd (cc)

module _ (s : Setting) (v : View) (g : Ghost) (i : InvWith s v g) (n : ℕ) (e : ErrandValue) (takes : v.taken n ≡ Some (taken_by e)) (goes : v.ways n ≡ way_in_task e e.task) (reads : v.reads n ≡ read_in_task e e.task)
    (outcome : PartState) (is : IsOutcome e.task outcome) (before behind : List Part) (old : Part) (was : (v.desks e.server).parts ≡ before ++ old ∷ behind) (with : is_with e.shard e.worker old ≡ true)
    (ways_now : ℕ → Option RowWay) (ways : IsNewAt ways_now v.ways n (way_in_task e e.task) None) where
  abbrev of : ℕ
  of = (i.desking.at_parts n (taken_by e) takes).of

  abbrev pub ended : Part
  ended = record { shard = e.shard; worker = e.worker; path = path_in e.task; state = outcome }

  one : (P : Part → Type 0) → P ended → All P (ended ∷ [])
  one P p = all-one P ended p

  -- Inserts.

  row-part : (x : Insert) → insert_at v.history of ≡ Some x → (task : TaskValue) → e.task ≡ task → IsOutcome task outcome
      → IsInsertState x outcome × IsRowPart v.history v.images ways_now g.placed g.path e.server of ended outcome
  row-part x begun (OfRow r) same done =
      let on = row-on s v g i n e takes goes r same in
      let nobody = row-nobody s v g i n e takes goes r same ways_now ways in
      let passed_is = row-passed s v g i n e takes goes r same in
      elim done [
        | inl rests ↦
            let passed = ap place_of rests.0 in
            let lead : IsLead v.history v.images e.server r.path (last_of r.path) = subst (IsLead v.history v.images e.server r.path) (sym on.lead.last) on.lead in (
              subst (IsInsertState x) (sym rests.1) tt,
              subst (IsRowPart v.history v.images ways_now g.placed g.path e.server of ended) (sym rests.1)
                  (passed_is ∙ ap has_passed passed, ap g.path (sym (row-number s v g i n e takes goes r same)) ∙ on.came (ap has_passed passed), nobody, lead),
            )
        | inr refused ↦ (subst (IsInsertState x) (sym refused.1) tt, subst (IsRowPart v.history v.images ways_now g.placed g.path e.server of ended) (sym refused.1) (passed_is ∙ ap has_passed refused.0, nobody, (λ z. some-path v.history e.server r.path on.lead.is_path (sym (path-outside r.way r.path refused.0) ∙ sym (ap path_in same) ∙ z))))
      ]
  row-part x begun (Unread f) same done = absurd (unread-no-insert s v g i n e takes f same x begun)
  row-part x begun (Read r) same done = absurd (read-no-insert s v g i n e takes r same x begun)

  -- Queries.

  query-state : (q : Query) → query_at v.history of ≡ Some q → (task : TaskValue) → e.task ≡ task → IsOutcome task outcome → IsQueryState q outcome
  query-state q asked (OfRow r) same done = absurd (row-no-query s v g i n e takes r same q asked)
  query-state q asked (Unread f) same done = subst (IsQueryState q) (sym done) tt
  query-state q asked (Read r) same (inl done) = subst (IsQueryState q) (sym done.1) tt
  query-state q asked (Read r) same (inr refused) = subst (IsQueryState q) (sym refused.1) tt

  query-path : (q : Query) → query_at v.history of ≡ Some q → (task : TaskValue) → e.task ≡ task → ended.path ≡ []
  query-path q asked (OfRow r) same = absurd (row-no-query s v g i n e takes r same q asked)
  query-path q asked (Unread f) same = ap path_in same
  query-path q asked (Read r) same = ap path_in same

  -- what is in the tree of a gate is counted, where nothing is noted
  from-tree : (q : Query) (pin : Option ℕ) (r : ReadingValue) → r.items ≡ [] → IsWalk s v.history v.row v.blocks v.trees g.shape of q (g.counted e.server e.shard) r pin
      → (row : ℕ) → must_hold s.hierarchy v.history of q row ≡ true → fits (table_of s v.row) q.filter row ≡ true → IsInTreeOf g.shape pin row → 1 ≤ times row (g.counted e.server e.shard)
  from-tree q None r none walk row must fit inside = absurd inside
  from-tree q (Some c) r none walk row must fit inside =
      let look = nodes (cells_at v.blocks v.trees c) in
      let must_row = must_hold s.hierarchy v.history of q in
      let fits_row = fits (table_of s v.row) q.filter in
      let done = subst (λ (items : List Item). IsUnfinished (g.shape c) look must_row fits_row items (g.counted e.server e.shard)) none walk.1 in
      let all = (after-all (g.shape c) look must_row fits_row (g.counted e.server e.shard) done).whole row inside must fit in
      omega (arith, all)

  end : (q : Query) → query_at v.history of ≡ Some q → (task : TaskValue) → e.task ≡ task → IsOutcome task outcome → IsEndOfPart s v.history v.row g.placed g.home of q e.shard (g.counted e.server e.shard) outcome
  end q asked (OfRow r) same done = absurd (row-no-query s v g i n e takes r same q asked)
  end q asked (Unread f) same done = subst (IsEndOfPart s v.history v.row g.placed g.home of q e.shard (g.counted e.server e.shard)) (sym done) tt
  end q asked (Read r) same (inr refused) = subst (IsEndOfPart s v.history v.row g.placed g.home of q e.shard (g.counted e.server e.shard)) (sym refused.1) tt
  end q asked (Read r) same (inl done) =
      let p : ReadPart = record { server = e.server; shard = e.shard; reading = r } in
      let reading : IsReading s v.history v.row v.blocks v.trees g.shape g.placed g.home of q e.shard (g.counted e.server e.shard) r = i.querying.reading n of q p (reads ∙ ap (read_in_task e) same) (op s v g i n e takes before behind old was with) asked in
      subst (IsEndOfPart s v.history v.row g.placed g.home of q e.shard (g.counted e.server e.shard)) (sym done.1) (
        reading.total,
        λ row must fit under. elim (reading.holds row must fit under) [
          | inl has ↦ inl has
          | inr inside ↦ inl (from-tree q r.pin r done.0 reading.walk row must fit inside)
        ],
      )

  pub ended-parts : AreParts s v g e before old (ended ∷ []) behind ways_now g.counted of
  ended-parts = (let shut = closed e.task outcome is in record {
    none_taken = one (λ (p : Part). is_taken p ≡ false) shut.1;
    leads = one (λ (p : Part). is_open p ≡ true → (p.worker < s.workers) × IsSome (v.maps p.worker p.shard)) (λ opened. absurd (false≢true (sym (λ j. shut.0 j || shut.1 j) ∙ opened)));
    insert = λ x begun. let part = row-part x begun e.task refl is in (ended, refl, part.0, part.1);
    query = λ q asked. one (λ (p : Part). IsQueryState q p.state) (query-state q asked e.task refl is);
    made = λ q asked. one (IsQueryPart s v.history) (query-path q asked e.task refl, its-made s v g i n e takes before behind old was with q asked);
    counts = one-counted s v g i n e takes before behind old was with ended refl;
    ends = λ q asked. one (λ (p : Part). IsEndOfPart s v.history v.row g.placed g.home of q p.shard (g.counted e.server p.shard) p.state) (end q asked e.task refl is);
    apart = one-apart s v g i n e takes before behind old was with ended refl;
    whole = λ q asked r must fit under. one-under s v g i n e takes before behind old was with ended refl r under;
    same = λ p has. refl;
    off = λ x ne y. refl;
  })
