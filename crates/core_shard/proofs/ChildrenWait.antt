-- What an actor's part becomes where its shard was split: a row's waits for the child on its side, and a query's for both.
use Rattle.std.proofs.{Common.{◌≡◌, ◌≢◌, ℕ, ◌<◌, List, [], ◌∷◌, ◌++◌, Bool, true, false, not, Option, Some, None, refl, sym, ap, subst, ◌∙◌, ◌⊎◌, inl, inr, arith, All, Any, Contains, ◌==◌, ◌&&◌, ◌||◌}, lemmas.Bool.{false≢true, ne_eqb}, lemmas.List.Elements.{All-cons, All-contains, All-nil, All-weaker, Contains-append_left, Contains-append_right}}
use Rattle.std.specs.Prelude.{IsSome, IsTrue, if◌then◌else◌}
use Rattle.describing_set.specs.{declared.listing.Spot.Spot, declared.plane.Plane.Plane}
use Rattle.dim_hierarchy.specs.declared.filter.Pick.{Pick}
use Rattle.mapping_table.specs.declared.place.Where.TheVariants as where_is
use Rattle.query_router.specs.{Desk.{is_open, is_refused, is_taken, is_with}, declared.part.Part.Part}
use Rattle.query_router.specs.declared.part.Want.TheVariants as want
use Rattle.row_ledger.specs.{Past.{Query, query_at}, Shards.{comes_from, ids_made, is_child}}
use Rattle.row_ledger.proofs.Descent.{WasSplit, comes_from-child, split-made}
use Rattle.list_words.proofs.Truth.{eqb-self}
use Rattle.volap_cell.specs.{Desking.{AreUnrelated, IsQueryPart, IsQueryState}, Errands.{Outside, RowWay, has_passed, place_of, read_in_task, taken_by, way_in_task}, Ghost.Ghost, Growing.IsUnder, Invariant.InvWith, Placing.IsLead, Querying.{IsCounted, IsEndOfPart}, Setting.{Setting, site_in}, ShardKinds.waiting, Values.{ErrandValue, OfRow, Unread}, View.View, declared.errand.RowErrand.RowErrand}
use Rattle.volap_cell.proofs.{Desks.Lists.{Contains-head, any-of}, Histories.Lines.{AreChildren, are-children, comes-made, comes_from-through, last-on, path-on}, Views.Fields.IsNewAt}
use Rattle.core_shard.proofs.{BackFacts.{row-no-query, unread-filter, unread-no-insert, wants}, GoesBack.AreParts, OnePart.{all-one, its-shard, unrelated}, RowBack.{row-nobody, row-on, row-passed, row-want}}

-- what the parts of the children have counted, which is nothing
abbrev pub nothing_yet : (ℕ → ℕ → List ℕ) → (server left right : ℕ) → ℕ → ℕ → List ℕ
nothing_yet counted server left right x y = if (x == server) && ((y == left) || (y == right)) then [] else counted x y

module _ (s : Setting) (v : View) (g : Ghost) (i : InvWith s v g) (n : ℕ) (e : ErrandValue) (takes : v.taken n ≡ Some (taken_by e)) (goes : v.ways n ≡ way_in_task e e.task) (reads : v.reads n ≡ read_in_task e e.task)
    (before behind : List Part) (old : Part) (was : (v.desks e.server).parts ≡ before ++ old ∷ behind) (with : is_with e.shard e.worker old ≡ true)
    (ways_now : ℕ → Option RowWay) (ways : IsNewAt ways_now v.ways n (way_in_task e e.task) None) (worker_is : e.worker < s.workers)
    (plane : Plane) (left right : ℕ) (leads : v.maps e.worker e.shard ≡ Some (where_is.Split plane left right)) where
  abbrev of : ℕ
  of = (i.desking.at_parts n (taken_by e) takes).of

  was-split : WasSplit v.history e.shard left right
  was-split = (i.lineage.divided e.worker e.shard left right plane leads).1

  pub children : AreChildren v.history e.shard left right
  children = are-children (site_in s) g.placed v.history e.shard left right i.telling.right.right.each was-split

  tables : IsTrue (is_child v.history e.shard left) × IsTrue (is_child v.history e.shard right) × (left ≢ right) × IsSome (v.maps e.worker left) × IsSome (v.maps e.worker right)
  tables = i.lineage.split e.worker e.shard left right plane leads

  -- Rows: a part for one of the children.

  module _ (r : RowErrand) (is : e.task ≡ OfRow r) (outside : place_of r.way ≡ Outside) (child : ℕ) (its : (child ≡ left) ⊎ (child ≡ right)) where
    abbrev pub child-part : Part
    child-part = waiting child e.worker (r.path ++ child ∷ []) (want.Row r.row)

    is-child : is_child v.history e.shard child ≡ true
    is-child = elim its [
      | inl same ↦ ap (is_child v.history e.shard) same ∙ tables.0
      | inr same ↦ ap (is_child v.history e.shard) same ∙ tables.1
    ]

    its-table : IsSome (v.maps e.worker child)
    its-table = elim its [
      | inl same ↦ subst (λ (x : ℕ). IsSome (v.maps e.worker x)) (sym same) tables.3
      | inr same ↦ subst (λ (x : ℕ). IsSome (v.maps e.worker x)) (sym same) tables.4
    ]

    above : (z : ℕ) → comes_from v.history z child ≡ true → (child ≡ z) ⊎ (comes_from v.history z e.shard ≡ true)
    above z comes = elim its [
      | inl same ↦ subst (λ (c : ℕ). (c ≡ z) ⊎ (comes_from v.history z e.shard ≡ true)) (sym same) (children.above_left z (ap (comes_from v.history z) (sym same) ∙ comes))
      | inr same ↦ subst (λ (c : ℕ). (c ≡ z) ⊎ (comes_from v.history z e.shard ≡ true)) (sym same) (children.above_right z (ap (comes_from v.history z) (sym same) ∙ comes))
    ]

    lead : IsLead v.history v.images e.server (r.path ++ child ∷ []) child
    lead = (let on = (row-on s v g i n e takes goes r is).lead in record {
      is_path = path-on v.history e.server r.path child on.is_path (ap (λ (x : ℕ). is_child v.history x child) on.last ∙ is-child);
      last = last-on r.path child;
      listed = All-weaker (λ (x : Spot). IsTrue (comes_from v.history x.shard e.shard) → Contains r.path x.shard) (λ (x : Spot). IsTrue (comes_from v.history x.shard child) → Contains (r.path ++ child ∷ []) x.shard)
          (λ x held comes. elim (above x.shard comes) [
            | inl same ↦ Contains-append_right r.path (child ∷ []) x.shard (subst (Contains (child ∷ [])) same (Contains-head child []))
            | inr more ↦ Contains-append_left r.path (child ∷ []) x.shard (held more)
          ]) (v.images e.server).spots on.listed;
    })

    pub row-child : AreParts s v g e before old (child-part ∷ []) behind ways_now g.counted of
    row-child = record {
      none_taken = all-one (λ (p : Part). is_taken p ≡ false) child-part refl;
      leads = all-one (λ (p : Part). is_open p ≡ true → (p.worker < s.workers) × IsSome (v.maps p.worker p.shard)) child-part (λ opened. (worker_is, its-table));
      insert = λ x begun. (
        child-part,
        refl,
        row-want s v g i n e takes goes r is x begun,
        (row-passed s v g i n e takes goes r is ∙ ap has_passed outside, row-nobody s v g i n e takes goes r is ways_now ways, lead),
      );
      query = λ q asked. absurd (row-no-query s v g i n e takes r is q asked);
      made = λ q asked. absurd (row-no-query s v g i n e takes r is q asked);
      counts = λ q asked. absurd (row-no-query s v g i n e takes r is q asked);
      ends = λ q asked. absurd (row-no-query s v g i n e takes r is q asked);
      apart = λ q asked. absurd (row-no-query s v g i n e takes r is q asked);
      whole = λ q asked. absurd (row-no-query s v g i n e takes r is q asked);
      same = λ p has. refl;
      off = λ x ne y. refl;
    }

  -- Queries: a part for each of them.

  module _ (f : List Pick) (is : e.task ≡ Unread f) where
    abbrev pub left-part : Part
    left-part = waiting left e.worker [] (want.Filter f)

    abbrev pub right-part : Part
    right-part = waiting right e.worker [] (want.Filter f)

    abbrev now : ℕ → ℕ → List ℕ
    now = nothing_yet g.counted e.server left right

    all-two : (P : Part → Type 0) → P left-part → P right-part → All P (left-part ∷ right-part ∷ [])
    all-two P a b = All-cons P left-part (right-part ∷ []) a (all-one P right-part b)

    none-left : now e.server left ≡ []
    none-left = rw (eqb-self e.server, eqb-self left) refl

    none-right : now e.server right ≡ []
    none-right = at (right == left)
      where
        at : (b : Bool) → (if (e.server == e.server) && (b || (right == right)) then [] else g.counted e.server right) ≡ []
        at true = rw (eqb-self e.server) refl
        at false = rw (eqb-self e.server, eqb-self right) refl

    -- nothing is counted rightly
    none-counted : (q : Query) (x : ℕ) (counted : List ℕ) → counted ≡ [] → IsCounted s v.history v.row g.placed g.home q x counted
    none-counted q x counted none = subst (IsCounted s v.history v.row g.placed g.home q x) (sym none) (record { once = λ r. omega arith; fitting = λ r le. absurd (omega (arith, le)); under = λ r le. absurd (omega (arith, le)) })

    -- a child is unrelated to the other parts
    child-apart : (q : Query) → query_at v.history of ≡ Some q → (child : ℕ) → comes_from v.history e.shard child ≡ true → ((z : ℕ) → comes_from v.history z child ≡ true → (child ≡ z) ⊎ (comes_from v.history z e.shard ≡ true))
        → child < ids_made s.workers v.history → (p : Part) → Contains (before ++ behind) p → (comes_from v.history p.shard child ≡ false) × (comes_from v.history child p.shard ≡ false)
    child-apart q asked child from above made p has =
        let lines = unrelated s v g i n e takes before behind old was with q asked p has in (
          is-no (comes_from v.history p.shard child) (λ comes. elim (above p.shard comes) [
            | inl same ↦ false≢true (sym lines.0 ∙ ap (comes_from v.history e.shard) (sym same) ∙ from)
            | inr more ↦ false≢true (sym lines.1 ∙ more)
          ]),
          is-no (comes_from v.history child p.shard) (λ comes.
              let each = i.telling.right.right.each in
              let below : p.shard < ids_made s.workers v.history = elim (comes-made (site_in s) g.placed v.history child p.shard each comes) [ inl same ↦ omega (arith, same, made) | inr lt ↦ lt ] in
              false≢true (sym lines.0 ∙ comes_from-through (site_in s) g.placed v.history e.shard child p.shard each below from comes)),
        )
      where
        is-no : (b : Bool) → (b ≡ true → ⊥) → b ≡ false
        is-no true never = absurd (never refl)
        is-no false never = refl

    made : (e.shard < ids_made s.workers v.history) × (left < ids_made s.workers v.history) × (right < ids_made s.workers v.history)
    made = split-made (site_in s) g.placed v.history e.shard left right i.telling.right.right.each was-split

    -- the counts of other parts, which are of other shards
    others-same : (q : Query) → query_at v.history of ≡ Some q → (p : Part) → Contains (before ++ behind) p → now e.server p.shard ≡ g.counted e.server p.shard
    others-same q asked p has =
        let lines = unrelated s v g i n e takes before behind old was with q asked p has in
        let not_left : p.shard ≢ left = (λ same. false≢true (sym lines.0 ∙ ap (comes_from v.history e.shard) same ∙ children.from_left)) in
        let not_right : p.shard ≢ right = (λ same. false≢true (sym lines.0 ∙ ap (comes_from v.history e.shard) same ∙ children.from_right)) in
        rw (eqb-self e.server, ne_eqb p.shard left not_left, ne_eqb p.shard right not_right) refl

    off-same : (x : ℕ) → x ≢ e.server → (y : ℕ) → now x y ≡ g.counted x y
    off-same x ne y = rw (ne_eqb x e.server ne) refl

    -- its query, as the part is one of a query
    its-query : (q : Query) × (query_at v.history of ≡ Some q)
    its-query = (let w = wants s v g i n e takes (Unread f) is in (w.0, w.1))

    pub two-children : AreParts s v g e before old (left-part ∷ right-part ∷ []) behind ways_now now of
    two-children = (let (query, asked) = its-query in record {
      none_taken = all-two (λ (p : Part). is_taken p ≡ false) refl refl;
      leads = all-two (λ (p : Part). is_open p ≡ true → (p.worker < s.workers) × IsSome (v.maps p.worker p.shard)) (λ opened. (worker_is, tables.3)) (λ opened. (worker_is, tables.4));
      insert = λ x begun. absurd (unread-no-insert s v g i n e takes f is x begun);
      query = λ q asked. let w = ap want.Filter (sym (unread-filter s v g i n e takes f is q asked)) in all-two (λ (p : Part). IsQueryState q p.state) w w;
      made = λ q asked. all-two (IsQueryPart s v.history) (refl, made.1) (refl, made.2);
      counts = λ q asked. all-two (λ (p : Part). is_refused p ≡ false → IsCounted s v.history v.row g.placed g.home q p.shard (now e.server p.shard)) (λ kept. none-counted q left (now e.server left) none-left) (λ kept. none-counted q right (now e.server right) none-right);
      ends = λ q asked. all-two (λ (p : Part). IsEndOfPart s v.history v.row g.placed g.home of q p.shard (now e.server p.shard) p.state) none-left none-right;
      apart = λ q asked. (
        (all-one (AreUnrelated v.history left-part) right-part (children.left_right, children.right_left), (All-nil (AreUnrelated v.history right-part), tt)),
        λ p other has new.
            let l = child-apart q asked left children.from_left children.above_left made.1 p has in
            let r = child-apart q asked right children.from_right children.above_right made.2 p has in
            All-contains (AreUnrelated v.history p) (left-part ∷ right-part ∷ []) other (all-two (AreUnrelated v.history p) l r) new,
      );
      whole = λ q asked r must fit under.
          let u : IsUnder v.history g.placed g.home e.shard r = subst (λ (x : ℕ). IsUnder v.history g.placed g.home x r) (its-shard s v g i n e takes before behind old was with) under in
          let cut = comes_from-child (site_in s) g.placed v.history e.shard left right (g.home r) i.telling.right.right.each was-split (i.placing.stands r u.is_placed) u.comes in
          let U : Part → Type 0 = λ p. IsUnder v.history g.placed g.home p.shard r in
          side r u.is_placed (comes_from v.history right (g.home r)) refl cut;
      same = others-same query asked;
      off = off-same;
    })
      where
        side : (r : ℕ) → g.placed r ≡ true → (b : Bool) → comes_from v.history right (g.home r) ≡ b → comes_from v.history left (g.home r) ≡ not (comes_from v.history right (g.home r))
            → Any (λ (p : Part). IsUnder v.history g.placed g.home p.shard r) (left-part ∷ right-part ∷ [])
        side r placed true comes cut = any-of (λ (p : Part). IsUnder v.history g.placed g.home p.shard r) (left-part ∷ right-part ∷ []) right-part (Contains-append_right (left-part ∷ []) (right-part ∷ []) right-part (Contains-head right-part []))
            (record { is_placed = placed; comes = comes })
        side r placed false comes cut = any-of (λ (p : Part). IsUnder v.history g.placed g.home p.shard r) (left-part ∷ right-part ∷ []) left-part (Contains-head left-part (right-part ∷ []))
            (record { is_placed = placed; comes = cut ∙ ap not comes })
