-- The same of trees, of their queues, of who is in them, and of stamps.
use Rattle.std.proofs.{Common.{◌≡◌, ◌≢◌, ℕ, ◌+◌, ◌*◌, ◌<◌, ◌≤◌, true, false, eqb, List, [], ◌++◌, length, Option, Some, None, IsSome, refl, sym, ap, ◌∙◌, subst, ◌⊎◌, inl, inr, arith, append-nil}, lemmas.Bool.{false≢true, eqb-true, eqb-false}}
use Rattle.cell_stock.specs.declared.purse.Spare.{Spare}
use Rattle.dim_hierarchy.specs.declared.row.Row.{Row}
use Rattle.dc_node.specs.{declared.block.Block.Block, declared.entry.Entry.Entry, declared.todo.Item.Item}
use Rattle.row_ledger.specs.declared.event.Event.{Event}
use Rattle.core_tree.specs.shard_store.specs.{Gate.IsQueueOf, declared.gate.Phase.TheVariants.{Frozen, Gone, Open}, declared.queue.Queue.Queue}
use Rattle.list_words.specs.Counts.{Among, Each}
use Rattle.list_words.proofs.{Each.{each-both, each-map, each-append, each-here, each-left, each-right, each-among}, Truth.{on_bool, eqb-self}}
use Rattle.core_tree.specs.tree_shape.specs.{Laws.OtherLaw, Queries.NoneWaits, Shape.{Shape, nodes}, Steps.{AreApart, AreSpares, IsSpare}, Trees.IsTree}
use Rattle.core_tree.specs.volap_cell.specs.{Errands.{AtBlock, InLeaf, RowWay, Taken, has_passed, taken_by, taken_of, way_of}, Ghost.{Ghost, InJob, InPurse, InTree, Owner}, Growing.{Growing, IsUnder, Queueing, Resting, table_of}, Invariant.InvWith, Querying.Pinning, Setting.{Setting, actor_count}, Stocking.{IsWhole, LeavesStamp, NoneExpects, Stamping, all_items, all_spares, cells_at, items_of_job, items_of_read, spent_of}, Turning.{IsIn, Turning, inside_of, is_inside}, Values.{ErrandValue, JobValue}, View.{View, view}, World.World, declared.role.Role.TheVariants.Admin}
use Rattle.core_tree.specs.volap_cell.proofs.{Cells.Blanks.spent-owner, Cells.Spares.among-cells, Persons.has-taken, Sums.sum-some}
use Rattle.core_tree.proofs.{Rows.Carriers.purse-owned, Stocks.Spares.{spares-distinct, spares-from}}
use Rattle.core_admin.proofs.{Retiring.Gates.{Retiring, gate-old, not-new, old-whole, whole-back}, Untouched.{expects-off, apart as apart-off, spares-off}}

-- an actor that has a row has a part
way-taken : (s : Setting) (w : World) (a : ℕ) (way : RowWay) → (view s w).ways a ≡ Some way → (t : Taken) × ((view s w).taken a ≡ Some t)
way-taken s w a way has = by (w.actors a).errand has
  where
    by : (errand : Option ErrandValue) → way_of errand ≡ Some way → (t : Taken) × (taken_of errand ≡ Some t)
    by None is = cc
    by (Some e) is = (taken_by e, refl)

module _ (s : Setting) (w : World) (v2 : View) (g g2 : Ghost) (n : ℕ) (i : InvWith s (view s w) g) (m : Retiring s (view s w) v2 g g2 n) (admin : (view s w).roles n ≡ Admin) where
  abbrev v : View
  v = view s w

  old : (c : ℕ) → IsSome (v.gates c) → m.new c ≡ false
  old = gate-old s v v2 g g2 n i m

  back : (c : ℕ) → m.new c ≡ false → IsWhole v2.gates v2.phases v2.pins c → IsWhole v.gates v.phases v.pins c
  back = whole-back s v v2 g g2 n i m

  off : (y c : ℕ) → IsWhole v.gates v.phases v.pins c → g.owner y ≡ InTree c → v2.blocks y ≡ v.blocks y
  off y c whole is = m.blocks_off y (not-new s v v2 g g2 n i m y (λ e. let no : InPurse n ≡ InTree c = sym e ∙ is in cc))

  trees-off : (c : ℕ) → IsWhole v.gates v.phases v.pins c → v2.trees c ≡ v.trees c
  trees-off c whole = m.trees_off c (old c whole.0)

  -- Trees and queues.

  pub retired-growing : OtherLaw → Growing s v.row v2.blocks v2.trees v2.gates v2.phases v2.pins g2.shape
  retired-growing other = record {
    tree = λ c whole. on_bool (m.new c)
        (m.tree_new c)
        (λ q. subst (λ (z : Shape). IsTree (table_of s v.row) (cells_at v2.blocks v2.trees c) z) (sym (m.shape_off c q)) (apart-off s v g other i v2.blocks v2.trees off trees-off c (back c q whole)).tree);
  }

  pub retired-queueing : Queueing s v.row v2.gates v2.phases v2.queues
  retired-queueing = record {
    queue = λ c is. on_bool (m.new c)
        (m.valid_new c)
        (λ q. on_bool (eqb c m.x)
        (λ e. subst (λ (z : ℕ). IsQueueOf s.hierarchy (v2.queues z)) (sym (eqb-true c m.x e)) m.valid_x)
        (λ e. subst (IsQueueOf s.hierarchy) (sym (m.queues_off c q (eqb-false c m.x e))) (i.queueing.queue c (subst IsSome (m.gates_off c q) is))));
    named = λ c is. on_bool (m.new c)
        (m.named_new c)
        (λ q. on_bool (eqb c m.x)
        (λ e. subst (λ (rows : List Row). Each (λ r. v.row r.no ≡ r) rows) (sym (ap (λ (z : ℕ). (v2.queues z).rows) (eqb-true c m.x e) ∙ m.queue_x)) tt)
        (λ e. subst (λ (z : Queue). Each (λ r. v.row r.no ≡ r) z.rows) (sym (m.queues_off c q (eqb-false c m.x e))) (i.queueing.named c (subst IsSome (m.gates_off c q) is))));
    upto = λ c k is. on_bool (m.new c)
        (λ q. let no : Some Open ≡ Some (Frozen k) = sym (m.phase_new c q) ∙ is in cc)
        (λ q. on_bool (eqb c m.x)
        (λ e. let no : Some Gone ≡ Some (Frozen k) = sym (ap v2.phases (eqb-true c m.x e) ∙ m.phase_x) ∙ is in cc)
        (λ e. let ne = eqb-false c m.x e in subst (λ (z : Queue). k ≤ length z.rows) (sym (m.queues_off c q ne)) (i.queueing.upto c k (sym (m.phases_off c q ne) ∙ is))));
  }

  -- Inserts in trees: nobody is in that of the old gate, and nobody in those of the new ones.

  idle : (c : ℕ) → v.active c ≡ 0 → (a : ℕ) (way : RowWay) → v.ways a ≡ Some way → is_inside c way.place ≡ 1 → ⊥
  idle c none a way has in_tree =
      let t = way-taken s w a way has in
      let there = has-taken s v i.numbering a t.0 t.1 in
      let some = sum-some (actor_count s) (λ b. inside_of c (v.ways b)) a there in
      let mine : inside_of c (v.ways a) ≡ 1 = ap (inside_of c) has ∙ in_tree in
      let all = i.turning.counts c in
      absurd (omega (arith, none, some, mine, all))

  at-block-old : (a c y : ℕ) (way : RowWay) → v.ways a ≡ Some way → way.place ≡ AtBlock c y → (m.new c ≡ false) × (c ≢ m.x)
  at-block-old a c y way has at =
      let in_tree : is_inside c way.place ≡ 1 = ap (is_inside c) at ∙ rw (eqb-self c) refl in (
        on_bool (m.new c) (λ q. absurd (idle c (m.blank c q).0 a way has in_tree)) (λ q. q),
        λ e. idle c (ap v.active e ∙ m.drained) a way has in_tree,
      )

  in-leaf-old : (a c : ℕ) (way : RowWay) → v.ways a ≡ Some way → way.place ≡ InLeaf c → (m.new c ≡ false) × (c ≢ m.x)
  in-leaf-old a c way has at =
      let in_tree : is_inside c way.place ≡ 1 = ap (is_inside c) at ∙ rw (eqb-self c) refl in (
        on_bool (m.new c) (λ q. absurd (idle c (m.blank c q).0 a way has in_tree)) (λ q. q),
        λ e. idle c (ap v.active e ∙ m.drained) a way has in_tree,
      )

  -- no row of the old tree is carried
  pub at-rest : (r : ℕ) → (g.shape m.x).placed r ≡ true → (g.shape m.x).carried r ≡ false
  at-rest r placed = on_bool ((g.shape m.x).carried r)
      (λ q.
      let k = i.turning.carried m.x r (λ e. let no : Some (Frozen m.upto) ≡ None = sym m.frozen ∙ e in cc) placed q in
      absurd ((at-block-old k.0 m.x k.1 k.2 k.3 k.5).1 refl))
      (λ q. q)

  not-admin : (a : ℕ) (way : RowWay) → v.ways a ≡ Some way → a ≢ n
  not-admin a way has e = (let t = way-taken s w a way has in i.numbering.parts a t.0 t.1 (ap v.roles e ∙ admin))

  -- a row that is in another tree is in a shard that has the gate as before
  pub retired-turning : ((r c : ℕ) → m.new c ≡ false → c ≢ m.x → g.placed r ≡ true → g.gate (g.home r) ≡ c → g2.gate (g2.home r) ≡ c)
      → Turning s v.ways v2.purses v.boxes v2.phases v2.active g2.gate g2.shape g2.home
  retired-turning kept =
      let k = i.turning in
      let passed : (a : ℕ) (way : RowWay) → v.ways a ≡ Some way → has_passed way.place ≡ true → g.placed way.row.no ≡ true = λ a way has far. (i.inserting.on_way a way has).passed ∙ far in
      let still : (c : ℕ) (way : RowWay) → g.placed way.row.no ≡ true → m.new c ≡ false → c ≢ m.x → IsIn v.phases g.gate g.shape g.home way c → IsIn v2.phases g2.gate g2.shape g2.home way c = λ c way there q ne o. record {
        stands = λ gone. o.stands (sym (m.phases_off c q ne) ∙ gone);
        gate_is = kept way.row.no c q ne there o.gate_is;
        placed = subst (λ (z : Shape). z.placed way.row.no ≡ true) (sym (m.shape_off c q)) o.placed;
      } in
      record {
        one = k.one;
        carrying = λ a c y way has at.
            let o = k.carrying a c y way has at in
            let q = at-block-old a c y way has at in
            (still c way (passed a way has (ap has_passed at)) q.0 q.1 o.0, subst (λ (z : Shape). z.carried way.row.no ≡ true) (sym (m.shape_off c q.0)) o.1, subst (λ (z : Shape). z.at way.row.no ≡ y) (sym (m.shape_off c q.0)) o.2);
        in_leaf = λ a c way has at.
            let o = k.in_leaf a c way has at in
            let q = in-leaf-old a c way has at in
            (still c way (passed a way has (ap has_passed at)) q.0 q.1 o.0, subst (λ (z : Shape). z.carried way.row.no ≡ false) (sym (m.shape_off c q.0)) o.1);
        carried = λ c r there placed carried. on_bool (m.new c)
            (λ q. absurd (false≢true (sym (m.settled c r q) ∙ carried)))
            (λ q. k.carried c r (was-there c q there) (subst (λ (z : Shape). z.placed r ≡ true) (m.shape_off c q) placed) (subst (λ (z : Shape). z.carried r ≡ true) (m.shape_off c q) carried));
        enough = λ a c y way has at.
            let o = k.enough a c y way has at in
            let q = at-block-old a c y way has at in
            subst (λ (ss : List Spare). ((g2.shape c).level y ≤ length ss) × (2 * length ss + 1 ≤ v.boxes a)) (sym (m.purses_off a (not-admin a way has)))
            (subst (λ (z : Shape). (z.level y ≤ length (v.purses a)) × (2 * length (v.purses a) + 1 ≤ v.boxes a)) (sym (m.shape_off c q.0)) o);
        boxed = λ a way has filled. subst (λ (ss : List Spare). 2 * length ss + 1 ≤ v.boxes a) (sym (m.purses_off a (not-admin a way has))) (k.boxed a way has filled);
        counts = λ c. on_bool (m.new c) (λ q. m.active_new c q ∙ sym (m.blank c q).0 ∙ k.counts c) (λ q. m.active_off c q ∙ k.counts c);
      }
    where
      was-there : (c : ℕ) → m.new c ≡ false → v2.phases c ≢ None → v.phases c ≢ None
      was-there c q there none = on_bool (eqb c m.x)
          (λ e. let no : Some (Frozen m.upto) ≡ None = sym m.frozen ∙ ap v.phases (sym (eqb-true c m.x e)) ∙ none in cc)
          (λ e. there (m.phases_off c q (eqb-false c m.x e) ∙ none))

  pub retired-pinning : Pinning s v2.gates v2.pins v.reads
  retired-pinning = record {
    counts = λ c. on_bool (m.new c) (λ q. m.pins_new c q ∙ sym (m.blank c q).1 ∙ i.pinning.counts c) (λ q. m.pins_off c q ∙ i.pinning.counts c);
    shard = λ a c p is pin. let was = i.pinning.shard a c p is pin in m.gates_off c (old c (subst IsSome (sym was) refl)) ∙ was;
  }

  -- the rows of the old tree are beneath its shard, over the history as it is now, and others where they were
  pub retired-resting : (history : List Event) → ((r : ℕ) → (g.shape m.x).placed r ≡ true → IsUnder history g.placed g2.home m.shard r)
      → ((c z r : ℕ) → v.gates c ≡ Some z → IsUnder v.history g.placed g.home z r → IsUnder history g.placed g2.home z r) → Resting history v2.gates v2.phases g2.shape g.placed g2.home
  retired-resting history mine others = record {
    rests = λ c z r is gone placed. on_bool (m.new c)
        (λ q. let no : Some Open ≡ Some Gone = sym (m.phase_new c q) ∙ gone in cc)
        (λ q.
        let was : v.gates c ≡ Some z = sym (m.gates_off c q) ∙ is in
        let there : (g.shape c).placed r ≡ true = subst (λ (z : Shape). z.placed r ≡ true) (m.shape_off c q) placed in
        let carried : (g.shape c).carried r ≡ false → (g2.shape c).carried r ≡ false = subst (λ (z : Shape). z.carried r ≡ false) (sym (m.shape_off c q)) in
        on_bool (eqb c m.x)
        (λ e.
        let at = eqb-true c m.x e in
        let both : Some m.shard ≡ Some z = sym m.is_gate ∙ ap v.gates (sym at) ∙ was in
        let same : m.shard ≡ z = cc in
        let here : (g.shape m.x).placed r ≡ true = subst (λ (y : ℕ). (g.shape y).placed r ≡ true) at there in
        (carried (subst (λ (y : ℕ). (g.shape y).carried r ≡ false) (sym at) (at-rest r here)), subst (λ (y : ℕ). IsUnder history g.placed g2.home y r) same (mine r here)))
        (λ e. let ne = eqb-false c m.x e in let o = i.resting.rests c z r was (sym (m.phases_off c q ne) ∙ gone) there in (carried o.0, others c z r was o.1)));
  }

  -- Stamps.

  spares-of : (P : ℕ → List Spare → Type 0) → P n [] → ((a : ℕ) → a ≢ n → P a (all_spares v.purses v.jobs a)) → (a : ℕ) → P a (all_spares v2.purses v2.jobs a)
  spares-of P none old a = on_bool (eqb a n)
      (λ q. subst (λ (z : ℕ). P z (all_spares v2.purses v2.jobs z)) (sym (eqb-true a n q)) (subst (P n) (sym (ap (λ (ss : List Spare). ss ++ spent_of (v2.jobs n)) m.purse ∙ m.spent)) none))
      (λ q. let ne = eqb-false a n q in
      subst (λ (ss : List Spare). P a (ss ++ spent_of (v2.jobs a))) (sym (m.purses_off a ne)) (subst (λ (j : Option JobValue). P a (v.purses a ++ spent_of j)) (sym (m.jobs_off a ne)) (old a ne)))

  items-left : (stamp b : ℕ) → NoneWaits stamp (all_items v.reads v.jobs b) → NoneWaits stamp (all_items v.reads v2.jobs b)
  items-left stamp b none = on_bool (eqb b n)
      (λ q. let e = eqb-true b n q in
      let now_is : all_items v.reads v2.jobs b ≡ items_of_read (v.reads b) =
      ap (λ (j : Option JobValue). items_of_read (v.reads b) ++ items_of_job j) (ap v2.jobs e) ∙ ap (λ (xs : List Item). items_of_read (v.reads b) ++ xs) m.items ∙ append-nil (items_of_read (v.reads b)) in
      subst (NoneWaits stamp) (sym now_is) (each-left (λ (z : Item). z.stamp ≢ stamp) (items_of_read (v.reads b)) (items_of_job (v.jobs b)) none))
      (λ q. subst (λ (j : Option JobValue). NoneWaits stamp (items_of_read (v.reads b) ++ items_of_job j)) (sym (m.jobs_off b (eqb-false b n q))) none)

  -- what another actor has isn't of the job
  abbrev IsOfOther : ℕ → Owner → Type 0
  IsOfOther a o = (o ≡ InPurse a) ⊎ (o ≡ InJob a)

  of-other : (a : ℕ) → Each (λ (y : Spare). IsOfOther a (g.owner y.cell)) (all_spares v.purses v.jobs a)
  of-other a = each-append (λ (y : Spare). IsOfOther a (g.owner y.cell)) (v.purses a) (spent_of (v.jobs a))
      (each-map (λ (y : Spare). g.owner y.cell ≡ InPurse a) (λ (y : Spare). IsOfOther a (g.owner y.cell)) (v.purses a) (λ y p. inl p) (purse-owned s v g i a))
      (each-here (λ (y : Spare). IsOfOther a (g.owner y.cell)) (spent_of (v.jobs a)) (λ y among. inr (spent-owner s w g i a y.cell (among-cells y (spent_of (v.jobs a)) among))))

  outside : (a c y : ℕ) → a ≢ n → m.new c ≡ true → IsOfOther a (g.owner y) → (g2.shape c).inside y ≡ false
  outside a c y ne new of = on_bool ((g2.shape c).inside y)
      (λ q. absurd (on_bool (eqb y c)
      (λ e. let own : g.owner y ≡ InPurse n = ap g.owner (eqb-true y c e) ∙ m.purse_cell c new in
      elim of [ inl p ↦ (let no : InPurse n ≡ InPurse a = sym own ∙ p in ne cc) | inr j ↦ (let no : InPurse n ≡ InJob a = sym own ∙ j in cc) ])
      (λ e. let own = (m.inside_new c y new q (eqb-false y c e)).0 in
      elim of [ inl p ↦ (let no : InJob n ≡ InPurse a = sym own ∙ p in cc) | inr j ↦ (let no : InJob n ≡ InJob a = sym own ∙ j in ne cc) ])))
      (λ q. q)

  -- an entry of a new tree has the stamp of a spare that the job has spent
  unexpected : (a c b l : ℕ) (y : Spare) → a ≢ n → m.new c ≡ true → Each (AreApart y) (all_spares v.purses v.jobs n) → (g2.shape c).inside b ≡ true → (g2.shape c).level b ≡ l + 1 → Each (λ (e : Entry). e.stamp ≢ y.stamp) (nodes (cells_at v2.blocks v2.trees c) b).entries
  unexpected a c b l y ne new apart inside level =
      each-map (λ (e : Entry). (z : Spare) × Among z (spent_of (v.jobs n)) × (e.stamp ≡ z.stamp)) (λ (e : Entry). e.stamp ≢ y.stamp) (nodes (cells_at v2.blocks v2.trees c) b).entries
      (λ e of is. (each-among-right (AreApart y) of.0 (v.purses n) (spent_of (v.jobs n)) apart of.1).1 (sym is ∙ of.2))
      (m.leads c b l new inside level)
    where
      each-among-right : (P : Spare → Type 0) (z : Spare) (xs ys : List Spare) → Each P (xs ++ ys) → Among z ys → P z
      each-among-right P z xs ys e among = each-among P z ys (each-right P xs ys e) among

  -- a block stands in no new gate's cell, so it is as it was
  old-block : (y : ℕ) → v2.made y ≡ true → (v.made y ≡ true) × ((v2.blocks y).stamp ≡ (v.blocks y).stamp)
  old-block y made =
      let q = on_bool (m.new y) (λ q. absurd (false≢true (sym (m.unmade y q) ∙ made))) (λ q. q) in
      (sym (m.made_off y q) ∙ made, ap (λ (x : Block). x.stamp) (m.blocks_off y q))

  pub retired-stamping : OtherLaw → Stamping v2.stock v2.blocks v2.made v2.trees v2.gates v2.phases v2.pins v2.purses v.reads v2.jobs g2.shape
  retired-stamping other =
      let k = i.stamping in record {
        blocks_given = λ y made. let old = old-block y made in let low = k.blocks_given y old.0 in let same = old.1 in let all = m.stamps in omega (arith, low, same, all);
        blocks_apart = λ y z ne my mz same. let a = old-block y my in let b = old-block z mz in k.blocks_apart y z ne a.0 b.0 (sym a.1 ∙ same ∙ b.1);
        unspared = λ a y made. let old = old-block y made in spares-of (λ a ss. Each (LeavesStamp y (v2.blocks y).stamp) ss) tt
            (λ a ne. subst (λ (stamp : ℕ). Each (LeavesStamp y stamp) (all_spares v.purses v.jobs a)) (sym old.1) (k.unspared a y old.0)) a;
        given = spares-of (λ a ss. Each (λ (y : Spare). y.stamp < v2.stock.stamps) ss) tt (λ a ne. subst (λ (m : ℕ). Each (λ (y : Spare). y.stamp < m) (all_spares v.purses v.jobs a)) (sym m.stamps) (k.given a));
        apart = λ a b ne. spares-of (λ a ss. a ≢ b → Each (λ (y : Spare). Each (AreApart y) (all_spares v2.purses v2.jobs b)) ss)
            (λ no. tt)
            (λ a na no. spares-of (λ b ss. a ≢ b → Each (λ (y : Spare). Each (AreApart y) ss) (all_spares v.purses v.jobs a))
            (λ no. each-map (λ (y : Spare). y.stamp < v.stock.stamps) (λ (y : Spare). Each (AreApart y) []) (all_spares v.purses v.jobs a) (λ y lt. tt) (k.given a)) (λ b nb no. k.apart a b no) b no)
            a ne;
        spare = λ a c whole. spares-of (λ a ss. AreSpares (g2.shape c) (nodes (cells_at v2.blocks v2.trees c)) ss) tt
            (λ a ne. on_bool (m.new c)
            (λ q. spares-from (g2.shape c) (nodes (cells_at v2.blocks v2.trees c)) (all_spares v.purses v.jobs a)
            (each-both (λ (y : Spare). IsOfOther a (g.owner y.cell)) (λ (y : Spare). Each (AreApart y) (all_spares v.purses v.jobs n)) (IsSpare (g2.shape c) (nodes (cells_at v2.blocks v2.trees c))) (all_spares v.purses v.jobs a)
            (λ y of apart. record { cell = outside a c y.cell ne q of; unexpected = λ b l inside level. unexpected a c b l y ne q apart inside level }) (of-other a) (k.apart a n ne))
            (spares-distinct (g.shape m.x) (nodes (cells_at v.blocks v.trees m.x)) (all_spares v.purses v.jobs a) (k.spare a m.x (old-whole s v v2 g g2 n i m))))
            (λ q. subst (λ (z : Shape). AreSpares z (nodes (cells_at v2.blocks v2.trees c)) (all_spares v.purses v.jobs a)) (sym (m.shape_off c q))
            (spares-off s v g other i v2.blocks v2.trees off trees-off c (back c q whole) (all_spares v.purses v.jobs a) (k.spare a c (back c q whole))))) a;
        waits = λ a b. spares-of (λ a ss. Each (λ (y : Spare). NoneWaits y.stamp (all_items v.reads v2.jobs b)) ss) tt
            (λ a ne. each-map (λ (y : Spare). NoneWaits y.stamp (all_items v.reads v.jobs b)) (λ (y : Spare). NoneWaits y.stamp (all_items v.reads v2.jobs b)) (all_spares v.purses v.jobs a) (λ y none. items-left y.stamp b none) (k.waits a b)) a;
        fresh = λ c stamp whole le. on_bool (m.new c)
            (λ q b l inside level. each-map (λ (e : Entry). (z : Spare) × Among z (spent_of (v.jobs n)) × (e.stamp ≡ z.stamp)) (λ (e : Entry). e.stamp ≢ stamp) (nodes (cells_at v2.blocks v2.trees c) b).entries
            (λ e of is.
            let lt = each-among (λ (y : Spare). y.stamp < v.stock.stamps) of.0 (spent_of (v.jobs n)) (each-right (λ (y : Spare). y.stamp < v.stock.stamps) (v.purses n) (spent_of (v.jobs n)) (k.given n)) of.1 in
            let a = of.2 in let b = m.stamps in absurd (omega (arith, lt, a, b, le, is)))
            (m.leads c b l q inside level))
            (λ q. subst (λ (z : Shape). NoneExpects z (cells_at v2.blocks v2.trees c) stamp) (sym (m.shape_off c q))
            (expects-off s v g other i v2.blocks v2.trees off trees-off c stamp (back c q whole) (k.fresh c stamp (back c q whole) (subst (λ (x : ℕ). x ≤ stamp) m.stamps le))));
        fresh_waits = λ b stamp le. items-left stamp b (k.fresh_waits b stamp (subst (λ (x : ℕ). x ≤ stamp) m.stamps le));
      }
