-- What a page tells that is read off a state in which all rows that have passed a gate are acknowledged: it may be shown.
use Rattle.std.proofs.{Common.{◌≡◌, ◌≢◌, ℕ, ◌≤◌, List, [], ◌∷◌, ◌++◌, Bool, true, false, cond, eqb, length, map, refl, sym, ap, ◌∙◌, subst, arith, inl, inr, All, Contains, IsTrue, eqb-true}, lemmas.Bool.{cases_lt, eqb-false}, lemmas.Bool.Decides.nat_tests, lemmas.List.{length-map, length-append, map-append}, lemmas.List.Elements.{All-contains, All-contains_itself, All-weaker, Contains-append_cases, Contains-append_right}}
use Rattle.std.specs.{List.{AllByRecursion, AllZip, IsDistinct, filter}, Prelude.{nat_eq, IsPermutation, flat_map}}
use Rattle.dim_hierarchy.specs.declared.row.Row.{Row}
use Rattle.describing_set.specs.declared.listing.Spot.{Spot}
use Rattle.measure_agg.proofs.AggLaws.{agg-IsPermutation}
use Rattle.row_ledger.specs.{Groups.{IsGroupPage, Question, question}, Listings.places_of, Pages.{AreShownShards, IsPageOf, IsShardLine, IsShown, IsShownAudit, IsShownGroup, IsShownTree, places_shown}, Past.{Ack, acked, acked_into, acked_rows, ends_with, last_of}, Right.{EachEvent, Stands}, Shards.{comes_from, place}, Site.Site, declared.event.Event.Event, declared.event.Event.TheVariants.Called, declared.page.AuditLine.AuditLine, declared.page.GroupPage.GroupPage, declared.page.Page.Page, declared.page.ShardLine.ShardLine, declared.page.TreePage.TreePage, declared.settings.Call.Call, declared.settings.Call.TheVariants.{Sync, Split, Move, Balance, Barrier, Settle, Shards, Tree, Audit, Group}}
use Rattle.row_ledger.specs.declared.page.Page.TheVariants as page
use Rattle.row_ledger.proofs.{Descent.{live-last, live-made}, Ended.acked-distinct, Grouping.{IsShuffled, groups-shuffled, matching-shuffled, shuffled-permutes}}
use Rattle.list_words.proofs.{Elements.{Contains-filtered, Contains-map, Contains-mapped, Contains-nil, IsTrue-filtered, Contains-first}, Times.{length-le, same_is, same_not, split-at, times-split}, Truth.on_bool}
use Rattle.list_words.specs.Counts.{Each, same, times}
use Rattle.volap_cell.specs.tree_shape.specs.Shape.{numbers}
use Rattle.volap_cell.specs.{Ghost.Ghost, Invariant.InvWith, Setting.{Setting, site_in}, Sights.{HasAll, HasGroups, HasRows, SeesAudit, SeesGroups, SeesLine, SeesPage}, View.{View, view, row_at}, World.World}
use Rattle.core_image.proofs.{Answered.distinct-once, Images.Valid.acked-placed, Pages.RowsDivided.{count-parts, count-rows, home-once, its-gate}}

-- Rows and their numbers.

each-has : (P : Row → Type 0) (rows : List Row) (r : Row) → Each P rows → Contains rows r → P r
each-has P [] r all has = absurd (Contains-nil r has)
each-has P (x ∷ rows) r all has = elim (Contains-first x rows r has) [
  | inl here ↦ subst P here all.0
  | inr later ↦ each-has P rows r all.1 later
]

row-counts : (rows : List Row) (r : Row) → Contains rows r → 1 ≤ times r.no (numbers rows)
row-counts [] r has = absurd (Contains-nil r has)
row-counts (x ∷ rows) r has = elim (Contains-first x rows r has) [
  | inl here ↦ let one = same_is r.no x.no (ap (λ (y : Row). y.no) (sym here)) in omega (arith, one)
  | inr later ↦ let rest = row-counts rows r later in omega (arith, rest)
]

row-of : (rows : List Row) (n : ℕ) → 1 ≤ times n (numbers rows) → (r : Row) × Contains rows r × (r.no ≡ n)
row-of [] n some = absurd (omega (arith, some))
row-of (x ∷ rows) n some = on_bool (eqb n x.no)
    (λ q. (x, (0, omega arith, refl), sym (eqb-true n x.no q)))
    (λ q. let none = same_not n x.no (eqb-false n x.no q) in
    let later = row-of rows n (omega (arith, some, none)) in
    (later.0, Contains-append_right (x ∷ []) rows later.0 later.1, later.2))

-- the rows of numbers in another order
shuffled-numbers : (row : ℕ → Row) (ns ms : List ℕ) → ((n : ℕ) → times n ns ≡ times n ms) → IsShuffled (map row ns) (map row ms)
shuffled-numbers row [] [] alike = refl
shuffled-numbers row [] (m ∷ ms) alike = let a = alike m in let one = same_is m m refl in absurd (omega (arith, a, one))
shuffled-numbers row (n ∷ ns) ms alike =
    let a = alike n in
    let one = same_is n n refl in
    let w = split-at n ms (omega (arith, a, one)) in
    let rest : (r : ℕ) → times r ns ≡ times r (w.front ++ w.back) = λ r. (let x = alike r in let y = ap (times r) w.is in let z = times-split n r w.front w.back in omega (arith, x, y, z)) in (
      map row w.front,
      map row w.back,
      ap (map row) w.is ∙ map-append row w.front (n ∷ w.back),
      subst (IsShuffled (map row ns)) (map-append row w.front w.back) (shuffled-numbers row ns (w.front ++ w.back) rest),
    )

numbered : (row : ℕ → Row) (xs : List Row) → ((r : Row) → Contains xs r → row r.no ≡ r) → map row (numbers xs) ≡ xs
numbered row [] named = refl
numbered row (x ∷ xs) named =
    let here = named x (0, omega arith, refl) in
    let rest = numbered row xs (λ r has. named r (Contains-append_right (x ∷ []) xs r has)) in
    λ k. here k ∷ rest k

-- lists of the same numbers have the same rows, where each row is the one of its number
same-rows : (row : ℕ → Row) (xs ys : List Row) → ((r : Row) → Contains xs r → row r.no ≡ r) → ((r : Row) → Contains ys r → row r.no ≡ r) → ((n : ℕ) → times n (numbers xs) ≡ times n (numbers ys)) → IsShuffled xs ys
same-rows row xs ys named named_ys alike =
    subst (λ (l : List Row). IsShuffled l ys) (numbered row xs named)
    (subst (IsShuffled (map row (numbers xs))) (numbered row ys named_ys) (shuffled-numbers row (numbers xs) (numbers ys) alike))

-- numbers that differ stand in a list once at most

apart-none : (x : ℕ) (ys : List ℕ) → AllByRecursion (λ y. nat_eq x y ≡ false) ys → times x ys ≡ 0
apart-none x [] apart = refl
apart-none x (y ∷ ys) apart =
    let here : nat_eq x y ≡ false = apart.0 in
    let ne : x ≢ y = (λ is. let one : nat_eq x y ≡ true = grind (arith, nat_tests) in absurd (cc)) in
    let none = same_not x y ne in let rest = apart-none x ys apart.1 in omega (arith, none, rest)

distinct-few : (xs : List ℕ) → IsDistinct nat_eq xs → (n : ℕ) → times n xs ≤ 1
unfolding IsDistinct
distinct-few [] apart n = omega arith
distinct-few (x ∷ xs) apart n = on_bool (eqb n x)
    (λ q. let is = eqb-true n x q in
    let none : times n xs ≡ 0 = ap (λ (y : ℕ). times y xs) is ∙ apart-none x xs apart.0 in
    let one = same_is n x is in omega (arith, none, one))
    (λ q. let none = same_not n x (eqb-false n x q) in let rest = distinct-few xs apart.1 n in omega (arith, none, rest))

-- of those that are chosen there are no more
chosen-few : (test : Ack → Bool) (acks : List Ack) (n : ℕ) → times n (numbers (map (λ (a : Ack). a.row) (filter test acks))) ≤ times n (numbers (map (λ (a : Ack). a.row) acks))
chosen-few test [] n = omega arith
chosen-few test (a ∷ acks) n =
    let rest = chosen-few test acks n in
    on_bool (test a) (λ q. rw q (omega (arith, rest))) (λ q. rw q (omega (arith, rest)))

-- a path that ends with a shard has it last
last-there : (x : ℕ) (path : List ℕ) → IsTrue (ends_with x path) → last_of path ≡ x
last-there x [] ends = absurd (let never : false ≡ true = ends in cc)
last-there x (y ∷ []) ends = eqb-true y x ends
last-there x (y ∷ z ∷ path) ends = last-there x (z ∷ path) ends

-- what is so or not is at most one
one-or-none : (b : Bool) (x y : ℕ) → cond b (same x y) 0 ≤ 1
one-or-none false x y = omega arith
one-or-none true x y = on_bool (eqb x y)
    (λ q. let one = same_is x y (eqb-true x y q) in omega (arith, one))
    (λ q. let none = same_not x y (eqb-false x y q) in omega (arith, none))

-- The state.

module _ (s : Setting) (w : World) (g : Ghost) (i : InvWith s (view s w) g) (settled : (r : ℕ) → g.placed r ≡ true → (k : Ack) × Contains (acked (view s w).history) k × (k.row.no ≡ r)) where
  abbrev v : View
  v = view s w

  abbrev h : List Event
  h = v.history

  each : EachEvent (Stands (site_in s) g.placed) h
  each = i.telling.right.right.each

  -- the row of its number that has passed a gate is acknowledged
  is-acked : (r : Row) → v.row r.no ≡ r → g.placed r.no ≡ true → Contains (acked_rows h) r
  is-acked r named p =
      let k = settled r.no p in
      let is : k.0.row ≡ r = sym (acked-placed s w g i k.0 k.1).1 ∙ ap (row_at h) k.2 ∙ named in
      subst (Contains (acked_rows h)) is (Contains-map (λ (a : Ack). a.row) (acked h) k.0 k.1)

  -- Of one shard.

  module _ (x : ℕ) (tree queue : List Row) (has : HasRows s v x tree queue) where
    abbrev rows : List Row
    rows = tree ++ queue

    named-rows : (r : Row) → Contains rows r → v.row r.no ≡ r
    named-rows r c = elim (Contains-append_cases tree queue r c) [
      | inl t ↦ each-has (λ (y : Row). v.row y.no ≡ y) tree r has.named t
      | inr q ↦ each-has (λ (y : Row). v.row y.no ≡ y) queue r (subst (Each (λ (y : Row). v.row y.no ≡ y)) has.queue_is (i.queueing.named has.gate (rw has.is_gate refl))) q
    ]

    placed-rows : (r : Row) → Contains rows r → g.placed r.no ≡ true
    placed-rows r c = on_bool (g.placed r.no)
        (λ q. q)
        (λ q. let some = row-counts rows r c in let none : times r.no (numbers rows) ≡ 0 = count-rows s w g i x tree queue has r.no ∙ rw q refl in absurd (omega (arith, some, none)))

    once-rows : (n : ℕ) → times n (numbers rows) ≤ 1
    once-rows n = (let counted = count-rows s w g i x tree queue has n in let few = one-or-none (g.placed n) (g.home n) x in omega (arith, counted, few))

    -- a row that came to the shard is in it
    came : (k : Ack) → Contains (acked h) k → IsTrue (ends_with x k.path) → Contains rows k.row
    came k has_k ends =
        let there = i.placing.acked_rows k has_k in
        let p : g.placed k.row.no ≡ true = there.0 in
        let line = i.placing.line k.row.no p in
        let last : last_of (g.path k.row.no) ≡ x = ap last_of there.1 ∙ last-there x k.path ends in
        let comes : comes_from h x (g.home k.row.no) ≡ true = subst (λ (y : ℕ). comes_from h y (g.home k.row.no) ≡ true) last line.1 in
        let made = live-made (site_in s) g.placed h (g.home k.row.no) each (i.placing.stands k.row.no p) in
        let home : g.home k.row.no ≡ x = live-last (site_in s) g.placed h x (g.home k.row.no) each (its-gate s w g i x tree queue has).0 made comes in
        let one : times k.row.no (numbers rows) ≡ 1 = count-rows s w g i x tree queue has k.row.no ∙ (rw p (same_is (g.home k.row.no) x home)) in
        let found = row-of rows k.row.no (omega (arith, one)) in
        let is : found.0 ≡ k.row = sym (named-rows found.0 found.1) ∙ ap (row_at h) found.2 ∙ (acked-placed s w g i k has_k).1 in
        subst (Contains rows) is found.1

    all-came : All (λ (a : Ack). Contains rows a.row) (acked_into x h)
    all-came = All-weaker (Contains (acked_into x h)) (λ (a : Ack). Contains rows a.row)
        (λ a has_a. came a (Contains-filtered (λ (b : Ack). ends_with x b.path) (acked h) a has_a) (IsTrue-filtered (λ (b : Ack). ends_with x b.path) (acked h) a has_a)) (acked_into x h) (All-contains_itself (acked_into x h))

    least : length (acked_into x h) ≤ length rows
    least =
        let into : List Row = map (λ (a : Ack). a.row) (acked_into x h) in
        let few = length-le (numbers into) (numbers rows) (λ n. elim (cases_lt 0 (times n (numbers into))) [
          | inl some ↦
              let found = row-of into n some in
              let from = Contains-mapped (λ (a : Ack). a.row) (acked_into x h) found.0 found.1 in
              let there : Contains rows from.0.row = All-contains (λ (a : Ack). Contains rows a.row) (acked_into x h) from.0 all-came from.1 in
              let counted : 1 ≤ times n (numbers rows) = subst (λ (m : ℕ). 1 ≤ times m (numbers rows)) (ap (λ (r : Row). r.no) from.2 ∙ found.2) (row-counts rows from.0.row there) in
              let chosen = chosen-few (λ (b : Ack). ends_with x b.path) (acked h) n in
              let once = distinct-few (numbers (acked_rows h)) (acked-distinct (site_in s) g.placed h each) n in
              omega (arith, counted, chosen, once)
          | inr none ↦ omega (arith, none)
        ]) in
        let a = length-map (acked_into x h) (λ (b : Ack). b.row) in
        let b = length-map into (λ (r : Row). r.no) in
        let c = length-map rows (λ (r : Row). r.no) in
        omega (arith, few, a, b, c)

    most : length rows ≤ length (acked h)
    most =
        let few = length-le (numbers rows) (numbers (acked_rows h)) (λ n. elim (cases_lt 0 (times n (numbers rows))) [
          | inl some ↦
              let found = row-of rows n some in
              let there = is-acked found.0 (named-rows found.0 found.1) (placed-rows found.0 found.1) in
              let counted : 1 ≤ times n (numbers (acked_rows h)) = subst (λ (m : ℕ). 1 ≤ times m (numbers (acked_rows h))) found.2 (row-counts (acked_rows h) found.0 there) in
              let once = once-rows n in
              omega (arith, counted, once)
          | inr none ↦ omega (arith, none)
        ]) in
        let a = length-map (acked h) (λ (b : Ack). b.row) in
        let b = length-map (acked_rows h) (λ (r : Row). r.no) in
        let c = length-map rows (λ (r : Row). r.no) in
        omega (arith, few, a, b, c)

    tree-shown : (shown : TreePage) → shown.shard ≡ x → IsPageOf s.hierarchy tree queue shown → IsShownTree s.hierarchy h shown
    tree-shown shown same_shard is =
        let rows_is = is.rows in
        let queued_is = is.queued in
        let whole = length-append tree queue in
        record {
          tree = tree;
          queue = queue;
          is_page = is;
          once = distinct-once (numbers rows) once-rows;
          allowed = All-weaker (Contains rows) (Contains (acked_rows h)) (λ r c. is-acked r (named-rows r c) (placed-rows r c)) rows (All-contains_itself rows);
          known = subst (λ (y : ℕ). All (λ (a : Ack). Contains rows a.row) (acked_into y h)) (sym same_shard) all-came;
          least = (let few : length (acked_into shown.shard h) ≤ length rows = subst (λ (y : ℕ). length (acked_into y h) ≤ length rows) (sym same_shard) least in omega (arith, few, rows_is, queued_is, whole));
          most = (let few = most in omega (arith, few, rows_is, queued_is, whole));
        }

  -- Of all shards.

  named-parts : (spots : List Spot) (parts : List (List Row)) → AllZip (HasAll s v) spots parts → (r : Row) → Contains (flat_map (λ rows. rows) parts) r → v.row r.no ≡ r
  named-parts [] [] all r c = absurd (Contains-nil r c)
  named-parts [] (part ∷ parts) all r c = absurd all
  named-parts (spot ∷ spots) [] all r c = absurd all
  named-parts (spot ∷ spots) (part ∷ parts) all r c = elim (Contains-append_cases part (flat_map (λ rows. rows) parts) r c) [
    | inl here ↦ (let (tree, queue, has, is) = all.0 in named-rows spot.shard tree queue has r (subst (λ (ys : List Row). Contains ys r) is here))
    | inr later ↦ named-parts spots parts all.1 r later
  ]

  count-acked : (n : ℕ) → times n (numbers (acked_rows h)) ≡ cond (g.placed n) 1 0
  count-acked n = on_bool (g.placed n)
      (λ q. let k = settled n q in
      let some : 1 ≤ times n (numbers (acked_rows h)) = subst (λ (m : ℕ). 1 ≤ times m (numbers (acked_rows h))) k.2 (row-counts (acked_rows h) k.0.row (Contains-map (λ (a : Ack). a.row) (acked h) k.0 k.1)) in
      let once = distinct-few (numbers (acked_rows h)) (acked-distinct (site_in s) g.placed h each) n in
      rw q (omega (arith, some, once)))
      (λ q. elim (cases_lt 0 (times n (numbers (acked_rows h)))) [
        | inl some ↦
            let found = row-of (acked_rows h) n some in
            let from = Contains-mapped (λ (a : Ack). a.row) (acked h) found.0 found.1 in
            let p : g.placed n ≡ true = subst (λ (m : ℕ). g.placed m ≡ true) (ap (λ (r : Row). r.no) from.2 ∙ found.2) (acked-placed s w g i from.0 from.1).0 in
            absurd (let never : false ≡ true = sym q ∙ p in cc)
        | inr none ↦ rw q (omega (arith, none))
      ])

  named-acked : (r : Row) → Contains (acked_rows h) r → v.row r.no ≡ r
  named-acked r c =
      let from = Contains-mapped (λ (a : Ack). a.row) (acked h) r c in
      subst (λ (y : Row). v.row y.no ≡ y) from.2 (acked-placed s w g i from.0 from.1).1

  divided : (parts : List (List Row)) → AllZip (HasAll s v) v.registry.frontier parts → IsShuffled (acked_rows h) (flat_map (λ rows. rows) parts)
  divided parts all = same-rows v.row (acked_rows h) (flat_map (λ rows. rows) parts) named-acked (named-parts v.registry.frontier parts all)
      (λ n. count-acked n ∙ (on_bool (g.placed n) (λ q. (rw q (sym (home-once s w g i n q)))) (λ q. rw q refl)) ∙ sym (count-parts s w g i v.registry.frontier parts all n))

  permuted : (parts : List (List Row)) → AllZip (HasAll s v) v.registry.frontier parts → IsPermutation (acked_rows h) (flat_map (λ rows. rows) parts)
  permuted parts all = shuffled-permutes (acked_rows h) (flat_map (λ rows. rows) parts) (divided parts all)

  audit-shown : (audit : AuditLine) → SeesAudit s v audit → IsShownAudit (site_in s) h audit
  audit-shown audit sees = record {
    total = sees.total ∙ sym (agg-IsPermutation (acked_rows h) (flat_map (λ rows. rows) sees.parts) (permuted sees.parts sees.each));
    count = sees.shards ∙ sym (length-map v.registry.frontier (λ (spot : Spot). place spot.shard spot.worker)) ∙ ap length i.lineage.front;
  }

  lines-shown : (spots : List Spot) (lines : List ShardLine) → AllZip (SeesLine s v) spots lines
      → (places_shown lines ≡ places_of spots) × ((parts : List (List Row)) × AllZip (HasAll s v) spots parts × AllZip (IsShardLine s.hierarchy h) lines parts)
  lines-shown [] [] all = (refl, ([], tt, tt))
  lines-shown [] (line ∷ lines) all = absurd all
  lines-shown (spot ∷ spots) [] all = absurd all
  lines-shown (spot ∷ spots) (line ∷ lines) all =
      let sees = all.0 in
      let (places, (parts, has, shown)) = lines-shown spots lines all.1 in
      let rows_is = sees.rows in
      let queued_is = sees.queued in
      let whole = length-append sees.tree sees.queue in (
        λ k. place (sees.shard k) (sees.worker k) ∷ places k,
        (
          (sees.tree ++ sees.queue) ∷ parts,
          ((sees.tree, sees.queue, sees.has, refl), has),
          (
            record {
              count = omega (arith, rows_is, queued_is, whole);
              set = sees.set;
              came = subst (λ (y : ℕ). All (λ (a : Ack). Contains (sees.tree ++ sees.queue) a.row) (acked_into y h)) (sym sees.shard) (all-came spot.shard sees.tree sees.queue sees.has);
            },
            shown,
          ),
        ),
      )

  shards-shown : (lines : List ShardLine) → AllZip (SeesLine s v) v.registry.frontier lines → AreShownShards (site_in s) h lines
  shards-shown lines all =
      let (places, (parts, has, shown)) = lines-shown v.registry.frontier lines all in
      record { places = places ∙ i.lineage.front; parts = parts; each = shown; divided = permuted parts has }

  pub groups-shown : (q : Question) (group : GroupPage) → HasGroups q s v group → IsGroupPage q (acked_rows h) group
  groups-shown q group has =
      let rows = flat_map (λ rows. rows) has.parts in
      let moved = divided has.parts has.each in
      record { lines = has.is_page.lines ∙ sym (groups-shuffled q (acked_rows h) rows moved); all = has.is_page.all ∙ sym (matching-shuffled q (acked_rows h) rows moved) }

  -- the newest event calls for the page
  module _ (session : ℕ) (call : Call) (past : List Event) (newest : h ≡ Called session call ∷ past) where
    group-shown : (group : GroupPage) → SeesGroups s v group → IsShownGroup (site_in s) h call group
    group-shown group sees =
        let both : Called session call ∷ past ≡ Called sees.session (Group sees.dim sees.level sees.filter) ∷ sees.past = sym newest ∙ sees.called in
        let is : Group sees.dim sees.level sees.filter ≡ call = cc in
        subst (λ (c : Call). IsShownGroup (site_in s) h c group) is (groups-shown (question s.hierarchy sees.filter sees.dim sees.level) group sees.has)

    pub page-shown : (shown : Page) → SeesPage s v shown → IsShown (site_in s) h call shown
    page-shown (page.Shards lines) sees = shards-shown lines sees
    page-shown (page.Tree tree) sees = tree-shown tree.shard sees.tree sees.queue sees.has tree refl sees.is_page
    page-shown (page.Audit audit) sees = audit-shown audit sees
    page-shown (page.Group group) sees = group-shown group sees

-- Behind the beginning of its command a page tells what it told before it.

lines-before : (site : Site) (session : ℕ) (call : Call) (past : List Event) (lines : List ShardLine) (parts : List (List Row)) → AllZip (IsShardLine site.hierarchy (Called session call ∷ past)) lines parts → AllZip (IsShardLine site.hierarchy past) lines parts
lines-before site session call past [] [] all = tt
lines-before site session call past [] (part ∷ parts) all = absurd all
lines-before site session call past (line ∷ lines) [] all = absurd all
lines-before site session call past (line ∷ lines) (part ∷ parts) all =
    let i = all.0 in (record { count = i.count; set = i.set; came = i.came }, lines-before site session call past lines parts all.1)

group-before : (site : Site) (session : ℕ) (its call : Call) (past : List Event) (group : GroupPage) → IsShownGroup site (Called session its ∷ past) call group → IsShownGroup site past call group
group-before site session its (Group dim level filter) past group i = record { lines = i.lines; all = i.all }
group-before site session its (Sync server) past group i = absurd i
group-before site session its (Split shard) past group i = absurd i
group-before site session its (Move shard worker) past group i = absurd i
group-before site session its (Balance _) past group i = absurd i
group-before site session its Barrier past group i = absurd i
group-before site session its Settle past group i = absurd i
group-before site session its Shards past group i = absurd i
group-before site session its (Tree shard) past group i = absurd i
group-before site session its Audit past group i = absurd i

pub shown-before : (site : Site) (session : ℕ) (call : Call) (past : List Event) (shown : Page) → IsShown site (Called session call ∷ past) call shown → IsShown site past call shown
shown-before site session call past (page.Shards lines) i = record { places = i.places; parts = i.parts; each = lines-before site session call past lines i.parts i.each; divided = i.divided }
shown-before site session call past (page.Tree tree) i =
    record { tree = i.tree; queue = i.queue; is_page = i.is_page; once = i.once; allowed = i.allowed; known = i.known; least = i.least; most = i.most }
shown-before site session call past (page.Audit audit) i = record { total = i.total; count = i.count }
shown-before site session call past (page.Group group) i = group-before site session call call past group i
