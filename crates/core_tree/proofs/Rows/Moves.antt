-- A row goes on in the tree of one gate: what the tree's law says of that tree, and that all else stays, gives the parts of the
-- invariant that speak of trees. One proof for every kind by which a row comes in, goes down or is put in its leaf.
use Rattle.std.proofs.{Common.{◌≡◌, ◌≢◌, ℕ, ◌+◌, ◌*◌, ◌<◌, ◌≤◌, Bool, true, false, cond, eqb, List, [], ◌∷◌, ◌++◌, length, Some, None, IsSome, refl, sym, ap, ◌∙◌, subst, inl, arith}, lemmas.Bool.{false≢true, eqb-true, eqb-false}}
use mathlib.Core.Path.{fun_ext}
use Rattle.cell_stock.specs.{Stock.cells_of, declared.purse.Spare.Spare}
use Rattle.dim_hierarchy.specs.declared.row.Row.{Row}
use Rattle.dc_node.specs.declared.todo.Item.{Item}
use Rattle.volap_cell.specs.shard_store.specs.{Gate.root_entry, declared.gate.Gate.Gate, declared.gate.Phase.TheVariants.Gone}
use Rattle.list_words.specs.Counts.{Each, same, times}
use Rattle.list_words.proofs.{Each.{each-map, each-both, each-here, each-left, each-right, each-among}, Truth.on_bool}
use Rattle.volap_cell.specs.tree_shape.specs.{Laws.OtherLaw, Queries.{IsUnfinished, NoneWaits}, Shape.{Table, TreeCells, nodes, Shape}, Steps.{IsSpare, AreSpares, AreApart, LeavesTree, AfterOther}, Trees.IsTree}
use Rattle.volap_cell.specs.{Errands.{RowWay, RowPlace, Outside, AtBlock, InLeaf, AtRest}, Ghost.{Ghost, Owner, InPurse, InTree, NotOfStock, AGate, is_unused, is_in_purse, is_in_tree, is_in_job}, Growing.{table_of, Growing}, Invariant.InvWith, Numbering.Numbering, Setting.{Setting, actor_count}, Stocking.{cells_at, IsWhole, LeavesStamp, Stocking, Stamping, NoneExpects, all_spares, spent_of, all_items}, Sums.sum_below, Turning.{Turning, IsIn, is_inside, inside_of}, View.View}
use Rattle.core_tree.proofs.{Rows.Carriers.purse-owned, Stocks.Spares.{spares-each, spares-distinct, spares-from, AreDistinct, each-drop, distinct-drop, distinct-right, spares-left, used-apart, moved_owner, on_used, each-times, times-off, times-cells, in-own, other-purse, other-tree}, Stocks.Stamps.{Restamps, restamped-apart, restamped-each}}

-- what a tree's law says: `used` are the spares that are blocks of the tree now
pub record Moved (table : Table) (before now : TreeCells) (g g2 : Shape) (r : ℕ) (used : List Spare) : Type 0 where
  pub tree : IsTree table now g2
  pub here : g2.placed r ≡ true
  pub placed : (q : ℕ) → q ≢ r → g2.placed q ≡ g.placed q
  pub carried : (q : ℕ) → q ≢ r → g2.carried q ≡ g.carried q
  pub at : (q : ℕ) → q ≢ r → g.placed q ≡ true → g.carried q ≡ true → g2.at q ≡ g.at q
  pub levels : (y : ℕ) → g.inside y ≡ true → y ≢ before.gate_cell → g2.level y ≡ g.level y
  pub inside : (y : ℕ) → Each (λ x. y ≢ x.cell) used → g2.inside y ≡ g.inside y
  pub filled : Each (λ x. g2.inside x.cell ≡ true) used
  pub spares : (x : Spare) → Each (AreApart x) used → IsSpare g (nodes before) x → IsSpare g2 (nodes now) x
  pub queries : (must fits : ℕ → Bool) (items : List Item) (counted : List ℕ) → Each (λ x. NoneWaits x.stamp items) used
      → (g.placed r ≡ false → (times r counted ≡ 0) × (must r ≡ false)) → IsUnfinished g (nodes before) must fits items counted → IsUnfinished g2 (nodes now) must fits items counted

-- the row is carried on, at a block of the tree for whose level the purse and the boxes are enough
pub record IsCarriedOn (g2 : Shape) (c r : ℕ) (purse : List Spare) (boxes d y : ℕ) : Type 0 where
  pub gate : d ≡ c
  pub carried : g2.carried r ≡ true
  pub at : g2.at r ≡ y
  pub level : g2.level y ≤ length purse
  pub boxed : 2 * length purse + 1 ≤ boxes

-- where the row is then: carried on, or in its leaf
abbrev pub Went : Shape → ℕ → ℕ → List Spare → ℕ → RowPlace → Type 0
Went g2 c r purse boxes (AtBlock d y) = IsCarriedOn g2 c r purse boxes d y
Went g2 c r purse boxes (InLeaf d) = (d ≡ c) × (g2.carried r ≡ false)
Went g2 c r purse boxes _ = ⊥

-- An actor brings its row on in the tree of the gate c. `v2` and `g2` are the view and the ghost after that. Nothing is said of
-- fields that are no matter of trees.
pub record TreeMoves (s : Setting) (v v2 : View) (g g2 : Ghost) (n c : ℕ) : Type 0 where
  pub way : RowWay
  pub place : RowPlace
  pub was : v.ways n ≡ Some way
  pub is : v2.ways n ≡ Some (record way { place = place; filled = false })
  pub from : (d y : ℕ) → way.place ≡ AtBlock d y → d ≡ c
  pub is_gate : IsSome (v.gates c)
  pub stands : v.phases c ≢ Some Gone
  pub gate_is : g2.gate (g2.home way.row.no) ≡ c
  pub used : List Spare
  pub purse : v.purses n ≡ v2.purses n ++ used
  pub moved : Moved (table_of s v.row) (cells_at v.blocks v.trees c) (cells_at v2.blocks v2.trees c) (g.shape c) (g2.shape c) way.row.no used
  pub went : Went (g2.shape c) c way.row.no (v2.purses n) (v2.boxes n) place
  pub off : (y : ℕ) → g.owner y ≢ InTree c → g.owner y ≢ InPurse n → v2.blocks y ≡ v.blocks y
  pub still : (y : ℕ) → v.made y ≡ true → v2.made y ≡ true
  pub fresh : Each (λ (x : Spare). v2.made x.cell ≡ true) used
  pub stamps : Restamps (g.shape c).inside v.made v2.made v.blocks v2.blocks used
  pub ways_off : (a : ℕ) → a ≢ n → v2.ways a ≡ v.ways a
  pub purses_off : (a : ℕ) → a ≢ n → v2.purses a ≡ v.purses a
  pub boxes_off : (a : ℕ) → a ≢ n → v2.boxes a ≡ v.boxes a
  pub trees_off : (d : ℕ) → d ≢ c → v2.trees d ≡ v.trees d
  pub shape_off : (d : ℕ) → d ≢ c → g2.shape d ≡ g.shape d
  pub owner : (y : ℕ) → g2.owner y ≡ moved_owner used c g.owner y
  pub gate_same : (x : ℕ) → g2.gate x ≡ g.gate x
  pub home_off : (q : ℕ) → q ≢ way.row.no → g2.home q ≡ g.home q

module _ (s : Setting) (v v2 : View) (g g2 : Ghost) (n c : ℕ) (other : OtherLaw) (i : InvWith s v g) (m : TreeMoves s v v2 g g2 n c) where
  abbrev r : ℕ
  r = m.way.row.no

  abbrev used : List Spare
  used = m.used

  abbrev now : RowWay
  now = record m.way { place = m.place; filled = false }

  -- at the gate, or at another one
  pub by_gate : (P : ℕ → Shape → Type 0) → P c (g2.shape c) → ((d : ℕ) → d ≢ c → P d (g.shape d)) → (d : ℕ) → P d (g2.shape d)
  by_gate P at els d = on_bool (eqb d c)
      (λ q. subst (λ (z : ℕ). P z (g2.shape z)) (sym (eqb-true _ _ q)) at)
      (λ q. let ne = eqb-false _ _ q in subst (P d) (sym (m.shape_off d ne)) (els d ne))

  -- of the actor, or of another one
  pub by_actor : {A : Type 0} (f f2 : ℕ → A) (P : ℕ → A → Type 0) → ((a : ℕ) → a ≢ n → f2 a ≡ f a) → P n (f2 n) → ((a : ℕ) → a ≢ n → P a (f a)) → (a : ℕ) → P a (f2 a)
  by_actor f f2 P same at els a = on_bool (eqb a n)
      (λ q. subst (λ (z : ℕ). P z (f2 z)) (sym (eqb-true _ _ q)) at)
      (λ q. let ne = eqb-false _ _ q in subst (P a) (sym (same a ne)) (els a ne))

  pub whole : IsWhole v.gates v.phases v.pins c
  whole = (m.is_gate, inl m.stands)

  pub tree : IsTree (table_of s v.row) (cells_at v.blocks v.trees c) (g.shape c)
  tree = i.growing.tree c whole

  -- another tree is as it was

  pub leaves : (d : ℕ) → d ≢ c → IsWhole v.gates v.phases v.pins d → LeavesTree (g.shape d) (cells_at v.blocks v.trees d) (cells_at v2.blocks v2.trees d)
  leaves d ne w = record {
    gate_cell = refl;
    gate = record { root = ap root_entry (m.trees_off d ne); height = ap (λ (z : Gate). z.height) (m.trees_off d ne) };
    block = λ y yi yd. let p = (i.stocking.tree d y w yi yd).0 in
        m.off y (λ e. let z : InTree d ≡ InTree c = sym p ∙ e in ne cc) (λ e. let z : InTree d ≡ InPurse n = sym p ∙ e in cc);
  }

  pub apart : (d : ℕ) → d ≢ c → IsWhole v.gates v.phases v.pins d → AfterOther (table_of s v.row) (g.shape d) (cells_at v.blocks v.trees d) (cells_at v2.blocks v2.trees d)
  apart d ne w = other (table_of s v.row) (g.shape d) (cells_at v.blocks v.trees d) (cells_at v2.blocks v2.trees d) (i.growing.tree d w) (leaves d ne w)

  pub moved-growing : Growing s v.row v2.blocks v2.trees v.gates v.phases v.pins g2.shape
  moved-growing = record {
    tree = λ d w. by_gate (λ d z. IsWhole v.gates v.phases v.pins d → IsTree (table_of s v.row) (cells_at v2.blocks v2.trees d) z)
        (λ w. m.moved.tree) (λ d ne w. (apart d ne w).tree) d w;
  }

  -- Numbering.

  none-left : (xs ys zs : List Spare) → xs ≡ ys ++ zs → xs ≡ [] → ys ≡ []
  none-left xs [] zs e n = refl
  none-left xs (y ∷ ys) zs e n = cc

  pub moved-numbering : Numbering s v.tags v.numbers v.roles v.settings v.counted_in v2.purses v.commands v.taken v.jobs
  moved-numbering =
      let k = i.numbering in record {
        setting = k.setting;
        tag = k.tag;
        number = k.number;
        role = k.role;
        about = k.about;
        beyond = k.beyond;
        nobody = λ a past. let no = k.nobody a past in
            (no.0, by_actor v.purses v2.purses (λ a ss. v.purses a ≡ [] → ss ≡ []) m.purses_off (none-left _ _ _ m.purse) (λ a ne e. e) a no.1, no.2, no.3, no.4);
        working = k.working;
        parts = k.parts;
        idle = λ a role none. by_actor v.purses v2.purses (λ a ss. v.purses a ≡ [] → ss ≡ []) m.purses_off (none-left _ _ _ m.purse) (λ a ne e. e) a (k.idle a role none);
      }

  -- Turning.

  pub mine : (w : RowWay) → v.ways n ≡ Some w → w ≡ m.way
  mine w is = (let z : Some w ≡ Some m.way = sym is ∙ m.was in cc)

  pub mine-now : (w : RowWay) → v2.ways n ≡ Some w → w ≡ now
  mine-now w is = (let z : Some w ≡ Some now = sym is ∙ m.is in cc)

  -- another actor has another row
  pub not-mine : (a : ℕ) (w : RowWay) → a ≢ n → v.ways a ≡ Some w → w.row.no ≢ r
  not-mine a w ne is e = ne (i.turning.one a n w m.way is m.was e)

  -- the row of an actor is the one it had
  pub row-before : (a : ℕ) (w : RowWay) → v2.ways a ≡ Some w → (u : RowWay) × (v.ways a ≡ Some u) × (u.row ≡ w.row)
  row-before a w is = on_bool (eqb a n)
      (λ q. let e = eqb-true _ _ q in (m.way, ap v.ways e ∙ m.was, ap (λ (u : RowWay). u.row) (sym (mine-now w (ap v2.ways (sym e) ∙ is)))))
      (λ q. (w, sym (m.ways_off a (eqb-false _ _ q)) ∙ is, refl))

  is-in : (a d : ℕ) (w : RowWay) → a ≢ n → v.ways a ≡ Some w → IsIn v.phases g.gate g.shape g.home w d → IsIn v.phases g2.gate g2.shape g2.home w d
  is-in a d w ne is o =
      let nm = not-mine a w ne is in record {
        stands = o.stands;
        gate_is = m.gate_same (g2.home w.row.no) ∙ ap g.gate (m.home_off w.row.no nm) ∙ o.gate_is;
        placed = by_gate (λ d z. (g.shape d).placed w.row.no ≡ true → z.placed w.row.no ≡ true) (λ p. m.moved.placed w.row.no nm ∙ p) (λ d nd p. p) d o.placed;
      }

  my-in : (d : ℕ) → d ≡ c → IsIn v.phases g2.gate g2.shape g2.home now d
  my-in d e = subst (λ (z : ℕ). IsIn v.phases g2.gate g2.shape g2.home now z) (sym e) (record { stands = m.stands; gate_is = m.gate_is; placed = m.moved.here })

  went-on : (d y : ℕ) → m.place ≡ AtBlock d y → IsCarriedOn (g2.shape c) c r (v2.purses n) (v2.boxes n) d y
  went-on d y e = subst (Went (g2.shape c) c r (v2.purses n) (v2.boxes n)) e m.went

  -- the level of a block of the tree is as before, and so is that of any in another tree
  levels-same : (d y : ℕ) → (d ≡ c → ((g.shape c).inside y ≡ true) × (y ≢ c)) → (g2.shape d).level y ≡ (g.shape d).level y
  levels-same d y = by_gate (λ d z. (d ≡ c → ((g.shape c).inside y ≡ true) × (y ≢ c)) → z.level y ≡ (g.shape d).level y)
      (λ f. let k = f refl in m.moved.levels y k.0 k.1) (λ d ne f. refl) d

  -- the block at which a row of the tree is
  at-block : (q y : ℕ) → (g.shape c).placed q ≡ true → (g.shape c).at q ≡ y → ((g.shape c).inside y ≡ true) × (y ≢ c)
  at-block q y p e = (ap (g.shape c).inside (sym e) ∙ tree.tree.shape.stands q p, (λ z. tree.entered q p (e ∙ z)))

  -- a carried row's level is as before
  pub level-kept : (a d y : ℕ) (w : RowWay) → v.ways a ≡ Some w → w.place ≡ AtBlock d y → (g2.shape d).level y ≡ (g.shape d).level y
  level-kept a d y w is p =
      let o = i.turning.carrying a d y w is p in
      levels-same d y (λ e. at-block w.row.no y (subst (λ (z : ℕ). (g.shape z).placed w.row.no ≡ true) e o.0.placed) (subst (λ (z : ℕ). (g.shape z).at w.row.no ≡ y) e o.2))

  -- where the row is still carried, its place is at the block
  still-carried : (p : RowPlace) → Went (g2.shape c) c r (v2.purses n) (v2.boxes n) p → (g2.shape c).carried r ≡ true → (y : ℕ) × (p ≡ AtBlock c y)
  still-carried Outside w e = absurd w
  still-carried (AtBlock d y) w e = (y, ap (λ (z : ℕ). AtBlock z y) w.gate)
  still-carried (InLeaf d) w e = (let z : true ≡ false = sym e ∙ w.1 in cc)
  still-carried AtRest w e = absurd w

  pub moved-turning : (active2 : ℕ → ℕ) → ((d : ℕ) → active2 d ≡ sum_below (actor_count s) (λ a. inside_of d (v2.ways a)))
      → Turning s v2.ways v2.purses v2.boxes v.phases active2 g2.gate g2.shape g2.home
  moved-turning active2 counts = record {
    one = λ a b w u isw isu e.
        let k = row-before a w isw in
        let l = row-before b u isu in
        i.turning.one a b k.0 l.0 k.1 l.1 (ap (λ (x : Row). x.no) k.2 ∙ e ∙ ap (λ (x : Row). x.no) (sym l.2));
    carrying = λ a d y. by_actor v.ways v2.ways
        (λ a o. (w : RowWay) → o ≡ Some w → w.place ≡ AtBlock d y → IsIn v.phases g2.gate g2.shape g2.home w d × ((g2.shape d).carried w.row.no ≡ true) × ((g2.shape d).at w.row.no ≡ y))
        m.ways_off
        (λ w is. subst (λ (w : RowWay). w.place ≡ AtBlock d y → IsIn v.phases g2.gate g2.shape g2.home w d × ((g2.shape d).carried w.row.no ≡ true) × ((g2.shape d).at w.row.no ≡ y)) (sym (mine-now w is))
        (λ p. let k = went-on d y p in
        (my-in d k.gate, ap (λ (z : ℕ). (g2.shape z).carried r) k.gate ∙ k.carried, ap (λ (z : ℕ). (g2.shape z).at r) k.gate ∙ k.at)))
        (λ a ne w is p.
        let o = i.turning.carrying a d y w is p in
        let nm = not-mine a w ne is in
        let q = w.row.no in
        let both = by_gate (λ d z. (g.shape d).placed q ≡ true → (g.shape d).carried q ≡ true → (g.shape d).at q ≡ y → (z.carried q ≡ true) × (z.at q ≡ y))
        (λ pl ca at. (m.moved.carried q nm ∙ ca, m.moved.at q nm pl ca ∙ at)) (λ d nd pl ca at. (ca, at)) d o.0.placed o.1 o.2 in
        (is-in a d w ne is o.0, both.0, both.1)) a;
    in_leaf = λ a d. by_actor v.ways v2.ways
        (λ a o. (w : RowWay) → o ≡ Some w → w.place ≡ InLeaf d → IsIn v.phases g2.gate g2.shape g2.home w d × ((g2.shape d).carried w.row.no ≡ false))
        m.ways_off
        (λ w is. subst (λ (w : RowWay). w.place ≡ InLeaf d → IsIn v.phases g2.gate g2.shape g2.home w d × ((g2.shape d).carried w.row.no ≡ false)) (sym (mine-now w is))
        (λ p. let k : (d ≡ c) × ((g2.shape c).carried r ≡ false) = subst (Went (g2.shape c) c r (v2.purses n) (v2.boxes n)) p m.went in
        (my-in d k.0, ap (λ (z : ℕ). (g2.shape z).carried r) k.0 ∙ k.1)))
        (λ a ne w is p.
        let o = i.turning.in_leaf a d w is p in
        let nm = not-mine a w ne is in
        (is-in a d w ne is o.0, by_gate (λ d z. (g.shape d).carried w.row.no ≡ false → z.carried w.row.no ≡ false) (λ ca. m.moved.carried w.row.no nm ∙ ca) (λ d nd ca. ca) d o.1)) a;
    carried = λ d q some pl ca. by_gate
        (λ d z. v.phases d ≢ None → z.placed q ≡ true → z.carried q ≡ true → (a : ℕ) × (y : ℕ) × (w : RowWay) × (v2.ways a ≡ Some w) × (w.row.no ≡ q) × (w.place ≡ AtBlock d y))
        (λ some pl ca. on_bool (eqb q r)
        (λ e. let is = eqb-true _ _ e in
        let k = still-carried m.place m.went (subst (λ (z : ℕ). (g2.shape c).carried z ≡ true) is ca) in
        (n, k.0, now, m.is, sym is, k.1))
        (λ e. let nm = eqb-false _ _ e in
        let k = i.turning.carried c q some (sym (m.moved.placed q nm) ∙ pl) (sym (m.moved.carried q nm) ∙ ca) in
        let na : k.0 ≢ n = (λ z. nm (sym k.4 ∙ ap (λ (w : RowWay). w.row.no) (mine k.2 (ap v.ways (sym z) ∙ k.3)))) in
        (k.0, k.1, k.2, m.ways_off k.0 na ∙ k.3, k.4, k.5)))
        (λ d nd some pl ca.
        let k = i.turning.carried d q some pl ca in
        let na : k.0 ≢ n = (λ z. nd (m.from d k.1 (ap (λ (w : RowWay). w.place) (sym (mine k.2 (ap v.ways (sym z) ∙ k.3))) ∙ k.5))) in
        (k.0, k.1, k.2, m.ways_off k.0 na ∙ k.3, k.4, k.5))
        d some pl ca;
    enough = λ a d y w is p. on_bool (eqb a n)
        (λ q. let e = eqb-true _ _ q in
        let k = went-on d y (ap (λ (u : RowWay). u.place) (sym (mine-now w (ap v2.ways (sym e) ∙ is))) ∙ p) in
        subst (λ (z : ℕ). ((g2.shape d).level y ≤ length (v2.purses z)) × (2 * length (v2.purses z) + 1 ≤ v2.boxes z)) (sym e)
        (subst (λ (z : ℕ). (g2.shape z).level y ≤ length (v2.purses n)) (sym k.gate) k.level, k.boxed))
        (λ q. let ne = eqb-false _ _ q in
        let old : v.ways a ≡ Some w = sym (m.ways_off a ne) ∙ is in
        let o = i.turning.enough a d y w old p in
        rw (m.purses_off a ne, m.boxes_off a ne, level-kept a d y w old p) o);
    boxed = λ a w is filled. on_bool (eqb a n)
        (λ q. absurd (false≢true (ap (λ (u : RowWay). u.filled) (sym (mine-now w (ap v2.ways (sym (eqb-true _ _ q)) ∙ is))) ∙ filled)))
        (λ q. let ne = eqb-false _ _ q in rw (m.purses_off a ne, m.boxes_off a ne) (i.turning.boxed a w (sym (m.ways_off a ne) ∙ is) filled));
    counts = counts;
  }

  -- where the row stays in the tree, each gate counts as many inserts as before
  pub counts-same : ((d : ℕ) → is_inside d m.place ≡ is_inside d m.way.place) → (d : ℕ) → v.active d ≡ sum_below (actor_count s) (λ a. inside_of d (v2.ways a))
  counts-same f d =
      i.turning.counts d ∙ ap (sum_below (actor_count s)) (fun_ext (λ a. sym (by_actor v.ways v2.ways (λ a o. inside_of d o ≡ inside_of d (v.ways a)) m.ways_off
      (ap (inside_of d) m.is ∙ f d ∙ ap (inside_of d) (sym m.was)) (λ a ne. refl) a)))

  -- Stocking.

  from-purse : Each (λ (x : Spare). g.owner x.cell ≡ InPurse n) used
  from-purse = each-right (λ (x : Spare). g.owner x.cell ≡ InPurse n) (v2.purses n) used (subst (Each (λ (x : Spare). g.owner x.cell ≡ InPurse n)) m.purse (purse-owned s v g i n))

  -- a cell is a used one, which was in the purse and is the tree's now, or its owner is as before
  on : {P : Type 0} (y : ℕ) → (g.owner y ≡ InPurse n → g2.owner y ≡ InTree c → ((Q : ℕ → Type 0) → Each (λ (x : Spare). Q x.cell) used → Q y) → P)
      → (Each (λ (x : Spare). y ≢ x.cell) used → g2.owner y ≡ g.owner y → P) → P
  on y f h = on_used used c n g.owner y from-purse (λ p t k. f p (m.owner y ∙ t) k) (λ o t. h o (m.owner y ∙ t))

  purse-count : (y : ℕ) → times y (cells_of (v.purses n)) ≡ times y (cells_of (v2.purses n)) + times y (cells_of used)
  purse-count y = ap (λ (ss : List Spare). times y (cells_of ss)) m.purse ∙ times-cells y (v2.purses n) used

  as-before : (f : Owner → Bool) → f (InPurse n) ≡ false → f (InTree c) ≡ false → (y : ℕ) → ◌≡◌ {A = ℕ} (cond (f (g.owner y)) 1 0) (cond (f (g2.owner y)) 1 0)
  as-before f a b y = on y
      (λ p t u. ap (λ (o : Owner). cond (f o) 1 0) p ∙ ap (λ (z : Bool). cond z 1 0) (a ∙ sym b) ∙ ap (λ (o : Owner). cond (f o) 1 0) (sym t))
      (λ o t. ap (λ (o : Owner). cond (f o) 1 0) (sym t))

  my-purse : (y : ℕ) → times y (cells_of (v2.purses n)) ≡ cond (is_in_purse n (g2.owner y)) 1 0
  my-purse y =
      let old = i.stocking.purse n y in
      let sum = purse-count y in
      on y
      (λ p t u.
      let one = u (λ z. 1 ≤ times z (cells_of used)) (each-times used) in
      let was : ◌≡◌ {A = ℕ} (cond (is_in_purse n (g.owner y)) 1 0) 1 = ap (λ (o : Owner). cond (is_in_purse n o) 1 0) p ∙ in-own n in
      let is : ◌≡◌ {A = ℕ} (cond (is_in_purse n (g2.owner y)) 1 0) 0 = ap (λ (o : Owner). cond (is_in_purse n o) 1 0) t in omega arith)
      (λ o t.
      let none = times-off y used o in
      let is : ◌≡◌ {A = ℕ} (cond (is_in_purse n (g2.owner y)) 1 0) (cond (is_in_purse n (g.owner y)) 1 0) = ap (λ (o : Owner). cond (is_in_purse n o) 1 0) t in omega arith)

  pub moved-stocking : Stocking s v.stock v2.made v.gates v.phases v.pins v.gone v2.purses v.jobs g2.owner g2.shape
  moved-stocking =
      let k = i.stocking in
      record {
        valid = k.valid;
        count = k.count;
        within = λ y ne. on y (λ p t u. k.within y (λ z. let e : InPurse n ≡ NotOfStock = sym p ∙ z in cc)) (λ o t. k.within y (λ z. ne (t ∙ z)));
        every = λ y high low no. on y (λ p t u. let z : InTree c ≡ NotOfStock = sym t ∙ no in cc) (λ o t. k.every y high low (sym t ∙ no));
        unused = λ y. k.unused y ∙ as-before is_unused refl refl y;
        purse = λ a y. on_bool (eqb a n)
            (λ q. subst (λ (z : ℕ). times y (cells_of (v2.purses z)) ≡ cond (is_in_purse z (g2.owner y)) 1 0) (sym (eqb-true _ _ q)) (my-purse y))
            (λ q. let ne = eqb-false _ _ q in
            ap (λ (ss : List Spare). times y (cells_of ss)) (m.purses_off a ne) ∙ k.purse a y ∙ as-before (is_in_purse a) (other-purse a n ne) refl y);
        job = λ a y. k.job a y ∙ as-before (is_in_job a) refl refl y;
        gate = λ d isg. on d (λ p t u. let z : InPurse n ≡ AGate = sym p ∙ k.gate d isg in cc) (λ o t. t ∙ k.gate d isg);
        gate_back = λ d own. on d (λ p t u. let z : InTree c ≡ AGate = sym t ∙ own in cc) (λ o t. k.gate_back d (sym t ∙ own));
        tree = λ d y w yi yd. by_gate (λ d z. IsWhole v.gates v.phases v.pins d → z.inside y ≡ true → y ≢ d → (g2.owner y ≡ InTree d) × (v2.made y ≡ true))
            (λ w yi yd. on y
            (λ p t u. (t, u (λ z. v2.made z ≡ true) m.fresh))
            (λ o t. let e = k.tree c y w (sym (m.moved.inside y o) ∙ yi) yd in (t ∙ e.0, m.still y e.1)))
            (λ d nd w yi yd. let e = k.tree d y w yi yd in
            on y (λ p t u. let z : InPurse n ≡ InTree d = sym p ∙ e.0 in cc) (λ o t. (t ∙ e.0, m.still y e.1)))
            d w yi yd;
        tree_back = λ d y own. on y
            (λ p t u.
            let e : c ≡ d = (let z : InTree c ≡ InTree d = sym t ∙ own in cc) in (
              subst (λ (z : ℕ). IsSome (v.gates z)) e m.is_gate,
              (λ w. (
                subst (λ (z : ℕ). (g2.shape z).inside y ≡ true) e (u (λ z. (g2.shape c).inside z ≡ true) m.moved.filled),
                (λ z. let q : InPurse n ≡ AGate = sym p ∙ ap g.owner z ∙ k.gate d (subst (λ (z : ℕ). IsSome (v.gates z)) e m.is_gate) in cc),
              )),
            ))
            (λ o t.
            let e = k.tree_back d y (sym t ∙ own) in
            (e.0, (λ w. let f = e.1 w in (by_gate (λ d z. (g.shape d).inside y ≡ true → z.inside y ≡ true) (λ p. m.moved.inside y o ∙ p) (λ d nd p. p) d f.0, f.1))));
        gone_cells = λ d isg y.
            let nd : d ≢ c = (λ e. m.stands (subst (λ (z : ℕ). v.phases z ≡ Some Gone) e isg)) in
            k.gone_cells d isg y ∙ as-before (is_in_tree d) refl (other-tree c d nd) y;
        none_gone = k.none_gone;
      }

  -- Stamping.

  -- the spares of an actor are fewer than before, or as before
  fewer : (P : Spare → Type 0) (a : ℕ) → Each P (all_spares v.purses v.jobs a) → Each P (all_spares v2.purses v.jobs a)
  fewer P a e = on_bool (eqb a n)
      (λ q. let is = eqb-true _ _ q in
      subst (λ (z : ℕ). Each P (all_spares v2.purses v.jobs z)) (sym is)
      (each-drop P (v2.purses n) used (spent_of (v.jobs n)) (subst (λ (ss : List Spare). Each P (ss ++ spent_of (v.jobs n))) m.purse (subst (λ (z : ℕ). Each P (all_spares v.purses v.jobs z)) is e))))
      (λ q. subst (λ (ss : List Spare). Each P (ss ++ spent_of (v.jobs a))) (sym (m.purses_off a (eqb-false _ _ q))) e)

  -- they are apart from each other
  distinct : (a : ℕ) → AreDistinct (all_spares v.purses v.jobs a)
  distinct a = spares-distinct (g.shape c) (nodes (cells_at v.blocks v.trees c)) (all_spares v.purses v.jobs a) (i.stamping.spare a c whole)

  my-distinct : AreDistinct ((v2.purses n ++ used) ++ spent_of (v.jobs n))
  my-distinct = subst (λ (ss : List Spare). AreDistinct (ss ++ spent_of (v.jobs n))) m.purse (distinct n)

  distinct-now : (a : ℕ) → AreDistinct (all_spares v2.purses v.jobs a)
  distinct-now = by_actor v.purses v2.purses (λ a ss. AreDistinct (ss ++ spent_of (v.jobs a))) m.purses_off
      (distinct-drop (v2.purses n) used (spent_of (v.jobs n)) my-distinct)
      (λ a ne. distinct a)

  -- and from the used ones
  pub used-part : (P : Spare → Type 0) → Each P (all_spares v.purses v.jobs n) → Each P used
  used-part P e = each-right P (v2.purses n) used (each-left P (v2.purses n ++ used) (spent_of (v.jobs n)) (subst (λ (ss : List Spare). Each P (ss ++ spent_of (v.jobs n))) m.purse e))

  away : (a : ℕ) → Each (λ (x : Spare). Each (AreApart x) used) (all_spares v2.purses v.jobs a)
  away = by_actor v.purses v2.purses (λ a ss. Each (λ (x : Spare). Each (AreApart x) used) (ss ++ spent_of (v.jobs a))) m.purses_off
      (used-apart (v2.purses n) used (spent_of (v.jobs n)) my-distinct)
      (λ a ne. each-map (λ (x : Spare). Each (AreApart x) (all_spares v.purses v.jobs n)) (λ (x : Spare). Each (AreApart x) used) (all_spares v.purses v.jobs a)
      (λ x e. used-part (AreApart x) e) (i.stamping.apart a n ne))

  -- the first cell is in no tree
  outside : (d : ℕ) → IsWhole v.gates v.phases v.pins d → (g.shape d).inside 0 ≡ false
  outside d w = on_bool ((g.shape d).inside 0)
      (λ q. on_bool (eqb 0 d)
      (λ e. let own : g.owner 0 ≡ AGate = ap g.owner (eqb-true _ _ e) ∙ i.stocking.gate d w.0 in
      absurd (not-first (λ z. let k : AGate ≡ NotOfStock = sym own ∙ z in cc)))
      (λ e. let own = (i.stocking.tree d 0 w q (eqb-false _ _ e)).0 in
      absurd (not-first (λ z. let k : InTree d ≡ NotOfStock = sym own ∙ z in cc))))
      (λ q. q)
    where
      not-first : g.owner 0 ≢ NotOfStock → ⊥
      not-first ne = (let k = (i.stocking.within 0 ne).0 in omega arith)

  -- a stamp that isn't given out yet, in the first cell, is apart from all used spares
  never : (stamp : ℕ) → v.stock.stamps ≤ stamp → Each (AreApart (record { cell = 0; stamp = stamp })) used
  never stamp le = each-both (λ (x : Spare). g.owner x.cell ≡ InPurse n) (λ (x : Spare). x.stamp < v.stock.stamps) (AreApart (record { cell = 0; stamp = stamp })) used
      (λ x p lt. ((λ e. absurd (in-stock x.cell p e)), (λ e. omega arith)))
      from-purse (used-part (λ (x : Spare). x.stamp < v.stock.stamps) (i.stamping.given n))
    where
      in-stock : (y : ℕ) → g.owner y ≡ InPurse n → 0 ≡ y → ⊥
      in-stock y p e = (let k = (i.stocking.within y (λ z. let q : InPurse n ≡ NotOfStock = sym p ∙ z in cc)).0 in omega arith)

  -- the used ones are apart from each other too
  used-distinct : AreDistinct used
  used-distinct =
      let look = nodes (cells_at v.blocks v.trees c) in
      distinct-right (v2.purses n) used (subst AreDistinct m.purse (spares-distinct (g.shape c) look (v.purses n) (spares-left (g.shape c) look (v.purses n) (spent_of (v.jobs n)) (i.stamping.spare n c whole))))

  -- a block of the tree is in no spare's cell
  off-spares : (a y : ℕ) → (g.shape c).inside y ≡ true → Each (λ (x : Spare). y ≢ x.cell) (all_spares v2.purses v.jobs a)
  off-spares a y there =
      let look = nodes (cells_at v.blocks v.trees c) in
      fewer (λ (x : Spare). y ≢ x.cell) a (each-map (IsSpare (g.shape c) look) (λ (x : Spare). y ≢ x.cell) (all_spares v.purses v.jobs a)
      (λ x is e. let k : true ≡ false = sym there ∙ ap (g.shape c).inside e ∙ is.cell in cc) (spares-each (g.shape c) look (all_spares v.purses v.jobs a) (i.stamping.spare a c whole)))

  pub moved-stamping : Stamping v.stock v2.blocks v2.made v2.trees v.gates v.phases v.pins v2.purses v.reads v.jobs g2.shape
  moved-stamping =
      let k = i.stamping in
      record {
        blocks_given = restamped-each (g.shape c).inside v.made v2.made v.blocks v2.blocks used (λ y stamp. stamp < v.stock.stamps) m.stamps k.blocks_given (λ head y stamp there low. low)
            (each-map (λ (x : Spare). x.stamp < v.stock.stamps) (λ (x : Spare). (y : ℕ) → x.stamp < v.stock.stamps) used (λ x low y. low) (used-part (λ (x : Spare). x.stamp < v.stock.stamps) (k.given n)));
        blocks_apart = restamped-apart (g.shape c).inside v.made v2.made v.blocks v2.blocks used k.blocks_apart (λ y made. used-part (LeavesStamp y (v.blocks y).stamp) (k.unspared n y made)) used-distinct m.stamps;
        unspared = λ a. restamped-each (g.shape c).inside v.made v2.made v.blocks v2.blocks used (λ y stamp. Each (LeavesStamp y stamp) (all_spares v2.purses v.jobs a)) m.stamps
            (λ y made. fewer (LeavesStamp y (v.blocks y).stamp) a (k.unspared a y made))
            (λ head y stamp there free. each-both (λ (x : Spare). head ≢ x.cell) (LeavesStamp head stamp) (LeavesStamp y stamp) (all_spares v2.purses v.jobs a) (λ x off leaves ne. leaves off) (off-spares a head there) free)
            (each-here (λ (x : Spare). (y : ℕ) → Each (LeavesStamp y x.stamp) (all_spares v2.purses v.jobs a)) used
            (λ x among y. each-map (λ (z : Spare). Each (AreApart z) used) (LeavesStamp y x.stamp) (all_spares v2.purses v.jobs a) (λ z apart ne same. (each-among (AreApart z) x used apart among).1 (sym same)) (away a)));
        given = λ a. fewer (λ (x : Spare). x.stamp < v.stock.stamps) a (k.given a);
        apart = λ a b ne. fewer (λ (x : Spare). Each (AreApart x) (all_spares v2.purses v.jobs b)) a
            (each-map (λ (x : Spare). Each (AreApart x) (all_spares v.purses v.jobs b)) (λ (x : Spare). Each (AreApart x) (all_spares v2.purses v.jobs b)) (all_spares v.purses v.jobs a)
            (λ x e. fewer (AreApart x) b e) (k.apart a b ne));
        spare = λ a d w. by_gate (λ d z. IsWhole v.gates v.phases v.pins d → AreSpares z (nodes (cells_at v2.blocks v2.trees d)) (all_spares v2.purses v.jobs a))
            (λ w. spares-from (g2.shape c) (nodes (cells_at v2.blocks v2.trees c)) (all_spares v2.purses v.jobs a)
            (each-both (λ (x : Spare). Each (AreApart x) used) (IsSpare (g.shape c) (nodes (cells_at v.blocks v.trees c))) (IsSpare (g2.shape c) (nodes (cells_at v2.blocks v2.trees c))) (all_spares v2.purses v.jobs a)
            (λ x o e. m.moved.spares x o e) (away a)
            (fewer (IsSpare (g.shape c) (nodes (cells_at v.blocks v.trees c))) a (spares-each (g.shape c) (nodes (cells_at v.blocks v.trees c)) (all_spares v.purses v.jobs a) (k.spare a c w))))
            (distinct-now a))
            (λ d nd w. spares-from (g.shape d) (nodes (cells_at v2.blocks v2.trees d)) (all_spares v2.purses v.jobs a)
            (each-map (IsSpare (g.shape d) (nodes (cells_at v.blocks v.trees d))) (IsSpare (g.shape d) (nodes (cells_at v2.blocks v2.trees d))) (all_spares v2.purses v.jobs a)
            (λ x e. (apart d nd w).spares x e)
            (fewer (IsSpare (g.shape d) (nodes (cells_at v.blocks v.trees d))) a (spares-each (g.shape d) (nodes (cells_at v.blocks v.trees d)) (all_spares v.purses v.jobs a) (k.spare a d w))))
            (distinct-now a)) d w;
        waits = λ a b. fewer (λ (x : Spare). NoneWaits x.stamp (all_items v.reads v.jobs b)) a (k.waits a b);
        fresh = λ d stamp w le. by_gate (λ d z. IsWhole v.gates v.phases v.pins d → NoneExpects z (cells_at v2.blocks v2.trees d) stamp)
            (λ w. (m.moved.spares (record { cell = 0; stamp = stamp }) (never stamp le) (record { cell = outside c w; unexpected = k.fresh c stamp w le })).unexpected)
            (λ d nd w. ((apart d nd w).spares (record { cell = 0; stamp = stamp }) (record { cell = outside d w; unexpected = k.fresh d stamp w le })).unexpected)
            d w;
        fresh_waits = k.fresh_waits;
      }
