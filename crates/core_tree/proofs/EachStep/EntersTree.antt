-- A row that comes in at a gate.
use Rattle.std.proofs.{Common.{◌≡◌, ◌≢◌, ℕ, ◌+◌, ◌*◌, ◌≤◌, Bool, true, false, cond, eqb, List, [], ◌∷◌, ◌++◌, length, map, Option, Some, IsSome, refl, sym, ap, ◌∙◌, subst, ◌⊎◌, inl, inr, arith, append-nil, append_assoc}, lemmas.Bool.{eqb-true, eqb-false}, lemmas.List.length-append}
use Rattle.dim_hierarchy.specs.{Dimension.Dimension, Rows.IsRowOf, declared.row.Row.Row}
use Rattle.dc_node.specs.{Block.is_full, declared.block.Block.Block}
use Rattle.cell_stock.specs.{Stock.PurseValue, declared.purse.Spare.Spare}
use Rattle.volap_cell.specs.link_descent.specs.{Descend.Enters, declared.entered.Entered.Entered, declared.entered.Fresh.Fresh}
use Rattle.mapping_table.specs.declared.place.Where.TheVariants as where_is
use Rattle.volap_cell.specs.shard_store.specs.{Gate.root_entry, declared.gate.Gate.Gate}
use Rattle.list_words.specs.Counts.{Each}
use Rattle.list_words.proofs.{Each.{each-map, each-both, each-append, each-left, each-right}, Truth.on_bool}
use Rattle.volap_cell.specs.tree_shape.specs.{Laws.{OtherLaw, CollectOtherLaw, InLaw, RootLaw, RootBehindLaw}, Shape.{Shape, Table, TreeCells, nodes}, Steps.{AreSpares, IsIdle, AfterStep}, Trees.{IsTree, IsBelow, HasBehind, IsBehind, cells_behind}}
use Rattle.volap_cell.specs.{Cells.{CellValue, OfStock, MapOf, GateCell, BlockCell, block_in, has_block, phase_of, tag_of, way_in, way_to_tree, active_in}, Errands.{RowWay, Outside, AtBlock, place_of, row_way, block_at, IsCarried}, Ghost.{Ghost, NotOfStock, AGate, InTree, InPurse}, Growing.table_of, Invariant.InvWith, Setting.Setting, Steps.{IsKept, Keeps}, Stocking.{cells_at, IsWhole, spent_of}, TreeKinds.{DoesEnterTree, IsTailIf, blocks_of}, Values.ActorValue, View.{View, view}, World.{World, Change, put, after, Agrees}, declared.kind.Kind.TheVariants.EnterTree}
use Rattle.volap_cell.proofs.{Cells.Numbers.tag-rest, Cells.Spares.enter-blank, Views.Fields.IsNewAt, Views.Frames.{AreAt, Same, third}, Views.Gates.gate-behind, Views.Seen.{CellSeen, beside, renewed}, Views.Shown.held-leads, Views.Touches.{IsBlank, all-read, tail-read, turned-block, others-blocks}, Views.Trees.{by_enter_tree, view-enter_tree}}
use Rattle.core_tree.proofs.{Calls.NewBlocks.{AreIn, count-filled, filled-each, filled-made, filled-off, filled-at, in-fresh, in-spares, put-skip, put-behind, seen-stays}, EachStep.ComesIn.{ComesIn, comes-in-kept, still-has}, EachStep.Descents.{tail-blocks, tail-numbers, each-numbers, tail-made, append-cancel, gate-phase}, Queries.TreeSteps.{IsOwn, of_steps}, Rows.Arrivals.{Arrives, arrives, filled-outside}, Rows.Carriers.purse-owned, Stocks.Counts.tree-placed, Stocks.Spares.{AreDistinct, apart-sym, spares-distinct, spares-left, distinct-right}, Stocks.Stamps.{KeepsStamp, Restamps, StampsWith, cuts-stamps, divides-once, restamps}}

-- The spares that a step in uses: none where the root has room, the last one where it is halved, and the last two where it is cut; the new
-- blocks have them in this order.
pub record UsesIn (purse purse2 : List Spare) (items : List Fresh) (height height_now : ℕ) (root root_now : Block) : Type 1 where
  pub used : List Spare
  pub in_order : List Spare
  pub purse_is : purse ≡ purse2 ++ used
  pub are_in : AreIn in_order items
  pub there : (P : Spare → Type 0) → Each P used → Each P in_order
  pub back : (P : Spare → Type 0) → Each P in_order → Each P used
  pub distinct : AreDistinct used → AreDistinct in_order
  pub many : length used ≡ length in_order
  pub few : height_now + length used ≤ height + 3
  pub stamps : StampsWith used items root root_now

pub spares-in : (h : List Dimension) (row : Row) (tail : List Block) (gate gate_now : Gate) (root root_now : Block) (purse purse_now : PurseValue) (entered : Entered)
    → Enters h row tail gate gate_now root root_now purse purse_now entered → UsesIn purse.spares purse_now.spares entered.fresh.items gate.height gate_now.height root root_now
spares-in h row tail gate gate_now root root_now purse purse_now entered enters = elim enters.step [
  | inl w ↦ (let high = ap (λ (x : Gate). x.height) w.1.gate_is in record {
    used = [];
    in_order = [];
    purse_is = ap (λ (p : PurseValue). p.spares) (sym w.2.purse_is) ∙ sym (append-nil purse_now.spares);
    are_in = subst (AreIn []) (sym w.2.fresh) tt;
    there = λ P e. e;
    back = λ P e. e;
    distinct = λ e. e;
    many = refl;
    few = omega arith;
    stamps = inl (refl, ap (λ (x : Block). x.stamp) w.2.head_is);
  })
  | inr more ↦ elim more [
    | inl w ↦ (let high = ap (λ (x : Gate). x.height) w.1.gate_is in record {
      used = w.2.spare ∷ [];
      in_order = w.2.spare ∷ [];
      purse_is = w.2.purse_is;
      are_in = subst (AreIn (w.2.spare ∷ [])) (sym w.2.fresh) (refl, tt);
      there = λ P e. e;
      back = λ P e. e;
      distinct = λ e. e;
      many = refl;
      few = omega arith;
      stamps = inr (divides-once w.2.spare entered.fresh.items root root_now w.2.new w.2.fresh (ap (λ (x : Block). x.stamp) w.2.halved.head_is) (ap (λ (x : Block). x.stamp) w.2.halved.new_is));
    })
    | inr w ↦ (let high = ap (λ (x : Gate). x.height) w.gate_is in record {
      used = w.top ∷ w.spare ∷ [];
      in_order = w.spare ∷ w.top ∷ [];
      purse_is = w.cuts.purse_is ∙ ap (λ (ss : List Spare). ss ++ w.spare ∷ []) w.purse_is ∙ append_assoc purse_now.spares (w.top ∷ []) (w.spare ∷ []);
      are_in = subst (AreIn (w.spare ∷ w.top ∷ [])) (sym w.fresh) (refl, (refl, tt));
      there = λ P e. (e.1.0, (e.0, tt));
      back = λ P e. (e.1.0, (e.0, tt));
      distinct = λ e. ((apart-sym w.top w.spare e.0.0, tt), (tt, tt));
      many = refl;
      few = omega arith;
      stamps = inr (let cut = cuts-stamps h tail (root_entry gate) w.left w.right root root_now purse w.between w.spare w.new w.cuts in record {
        spare = w.spare;
        among = inr (inl refl);
        head_is = cut.0;
        placed = λ now apart filled. let there = subst (Each (λ (f : Fresh). now f.cell ≡ f.block)) w.fresh filled in
            (ap (λ (x : Block). x.stamp) there.0 ∙ cut.1, (inr (apart.0.0, ap (λ (x : Block). x.stamp) there.1.0), (inl refl, tt)));
      });
    })
  ]
]

-- Of a gate a step in sees its way to the tree alone.

pub enters-way : (h : List Dimension) (row : Row) (tail : List Block) (gate gate_now : Gate) (root root_now : Block) (purse purse_now : PurseValue) (entered : Entered)
    → Enters h row tail gate gate_now root root_now purse purse_now entered → Enters h row tail (way_to_tree gate) (way_to_tree gate_now) root root_now purse purse_now entered
enters-way h row tail gate gate_now root root_now purse purse_now entered enters = record {
  step = elim enters.step [
    | inl w ↦ inl (w.0, record { gate_is = ap way_to_tree w.1.gate_is }, w.2)
    | inr more ↦ elim more [
      | inl w ↦ inr (inl (w.0, record { gate_is = ap way_to_tree w.1.gate_is }, w.2))
      | inr w ↦ inr (inr (record {
        spare = w.spare;
        new = w.new;
        left = w.left;
        right = w.right;
        between = w.between;
        cuts = w.cuts;
        top = w.top;
        purse_is = w.purse_is;
        fresh = w.fresh;
        entry_now = w.entry_now;
        entry_is = w.entry_is;
        gate_is = ap way_to_tree w.gate_is;
        at = w.at;
      }))
    ]
  ];
}

-- cells behind one another
pub put-append : (xs cs : List Change) (cells : ℕ → CellValue) (y : ℕ) → put (xs ++ cs) cells y ≡ put xs (put cs cells) y
put-append [] cs cells y = refl
put-append (x ∷ xs) cs cells y = ap (λ (z : CellValue). cond (eqb y x.number) x.now z) (put-append xs cs cells y)

module _ (ins : InLaw) (roots : RootLaw) (behinds : RootBehindLaw) (m gt root : Change) (others : List Change) (b : ActorValue) (s : Setting) (w : World) (n : ℕ) (g : Ghost) (i : InvWith s (view s w) g)
    (ag : Agrees w (m ∷ gt ∷ root ∷ others) n (w.actors n)) (d : DoesEnterTree s.hierarchy m gt root others (w.actors n) b) where
  abbrev v : View
  v = view s w

  abbrev cs : List Change
  cs = m ∷ gt ∷ root ∷ others

  abbrev w2 : World
  w2 = after w cs n b

  abbrev c : ℕ
  c = gt.number

  abbrev way : RowWay
  way = row_way d.e d.r

  abbrev r : ℕ
  r = way.row.no

  abbrev table : Table
  table = table_of s v.row

  abbrev shape : Shape
  shape = g.shape c

  abbrev cells : TreeCells
  cells = cells_at v.blocks v.trees c

  leads : (view s w).maps d.e.worker d.e.shard ≡ Some (where_is.Gate c)
  leads = (held-leads s w i.numbering.tag m ag.cells.0 d.e.worker d.e.shard (where_is.Gate c) d.leads).1

  outside : place_of d.r.way ≡ Outside
  outside = filled-outside d.r.way d.filled

  arr : Arrives s v g n c way
  arr = arrives s w g i n c d.e d.r d.has outside leads

  whole : IsWhole v.gates v.phases v.pins c
  whole = (subst IsSome (sym arr.is_gate) refl, inl arr.stands)

  tree : IsTree table cells shape
  tree = i.growing.tree c whole

  -- the cells before the step

  gate-was : w.cells c ≡ GateCell d.gate
  gate-was = ag.cells.1.0 ∙ d.counted.was

  trees-was : v.trees c ≡ way_to_tree d.gate
  trees-was = ap way_in gate-was

  root-at : (v.trees c).root ≡ root.number
  root-at = ap (λ (x : Gate). x.root) trees-was ∙ sym d.root_is

  root-was : v.blocks root.number ≡ d.head
  root-was = ap block_in (ag.cells.1.1.0 ∙ d.turns.was)

  ats : AreAt w.cells ((d.tail ++ d.fresh) ++ d.unfilled)
  ats = subst (AreAt w.cells) d.others_are ag.cells.1.1.1

  ats-front : AreAt w.cells (d.tail ++ d.fresh)
  ats-front = each-left (λ (x : Change). w.cells x.number ≡ x.before) (d.tail ++ d.fresh) d.unfilled ats

  tail-at : Each (λ (x : Change). v.blocks x.number ≡ block_in x.before) d.tail
  tail-at = each-map (λ (x : Change). w.cells x.number ≡ x.before) (λ (x : Change). v.blocks x.number ≡ block_in x.before) d.tail (λ x e. ap block_in e) (each-left (λ (x : Change). w.cells x.number ≡ x.before) d.tail d.fresh ats-front)

  below : IsBelow cells shape (v.trees c).root (v.trees c).height
  below = roots table cells shape tree

  root-inside : shape.inside root.number ≡ true
  root-inside = ap shape.inside (sym root-at) ∙ below.inside

  root-owner : g.owner root.number ≡ InTree c
  root-owner = (i.stocking.tree c root.number whole root-inside (λ e. below.block (root-at ∙ e))).0

  gate-owner : g.owner c ≡ AGate
  gate-owner = i.stocking.gate c whole.0

  root-not-gate : root.number ≢ c
  root-not-gate e = (let k : InTree c ≡ AGate = sym root-owner ∙ ap g.owner e ∙ gate-owner in cc)

  -- the table is another cell than any of the stock
  off-table : (y : ℕ) → g.owner y ≢ NotOfStock → y ≢ m.number
  off-table y own e =
      let stock = (i.stocking.within y own).0 in
      let of_stock : tag_of (w.cells y) ≡ OfStock = i.numbering.tag y ∙ tag-rest s y stock in
      let of_map : tag_of (w.cells y) ≡ MapOf d.e.worker = ap (λ (z : ℕ). tag_of (w.cells z)) e ∙ ap tag_of (ag.cells.0 ∙ d.leads.was) in
      let k : OfStock ≡ MapOf d.e.worker = sym of_stock ∙ of_map in cc

  -- behind the root

  found : is_full d.head.body ≡ true → map (λ (x : Change). x.number) d.tail ≡ cells_behind v.blocks (v.trees c).stamp 2 (v.trees c).root
  found q =
      let stamp : (v.trees c).stamp ≡ d.gate.stamp = ap (λ (x : Gate). x.stamp) trees-was in
      tail-numbers v.blocks d.gate.stamp 2 root.number d.head d.tail root-was tail-at (subst (λ (k : Bool). IsTailIf k d.gate.stamp d.head d.tail) q d.behind)
      ∙ (λ k. cells_behind v.blocks ((sym stamp) k) 2 ((sym root-at) k))

  has-behind : HasBehind cells shape (root_entry (v.trees c)) 2
  has-behind = behinds table cells shape 2 tree

  tail-owner : Each (λ (x : Change). g.owner x.number ≡ InTree c) d.tail
  tail-owner = on_bool (is_full d.head.body)
      (λ q. each-numbers (λ y. g.owner y ≡ InTree c) d.tail (subst (Each (λ y. g.owner y ≡ InTree c)) (sym (found q))
      (each-map (IsBehind cells shape (v.trees c).root) (λ y. g.owner y ≡ InTree c) (cells_behind v.blocks (v.trees c).stamp 2 (v.trees c).root)
      (λ y e. (i.stocking.tree c y whole e.inside e.block).0) has-behind.behind)))
      (λ q. let none : d.tail ≡ [] = subst (λ (k : Bool). IsTailIf k d.gate.stamp d.head d.tail) q d.behind in subst (Each (λ (x : Change). g.owner x.number ≡ InTree c)) (sym none) tt)

  -- nobody is at the root
  idle : IsIdle shape root.number
  idle q pl ca at =
      let k = i.turning.carried c q (gate-phase (w.cells c) whole.0) pl ca in
      let o = i.turning.carrying k.0 c k.1 k.2 k.3 k.5 in
      let there : k.1 ≡ root.number = sym o.2 ∙ ap shape.at k.4 ∙ at in
      let place : block_at k.2.place ≡ Some root.number = ap block_at k.5 ∙ ap Some there in
      on_bool (eqb k.0 n)
      (λ e. let same : Some k.2 ≡ Some way = sym k.3 ∙ ap v.ways (eqb-true _ _ e) ∙ arr.was in
      let mine : k.2 ≡ way = cc in
      let z : AtBlock c k.1 ≡ Outside = sym k.5 ∙ ap (λ (u : RowWay). u.place) mine ∙ outside in cc)
      (λ e. (ag.free k.0 (eqb-false _ _ e)).1.1.0 (subst (λ (u : Option RowWay). IsCarried u root.number) (sym k.3) place))

  -- the new blocks

  uses : UsesIn d.purse.spares d.purse_now.spares d.entered.fresh.items d.gate.height d.entered_gate.height d.head d.head_now
  uses = spares-in s.hierarchy d.r.row (blocks_of d.tail) d.gate d.entered_gate d.head d.head_now d.purse d.purse_now d.entered d.enters

  spares : AreSpares shape (nodes cells) d.purse.spares
  spares = subst (AreSpares shape (nodes cells)) (sym d.purse_was) (spares-left shape (nodes cells) (w.actors n).purse (spent_of (v.jobs n)) (i.stamping.spare n c whole))

  used-distinct : AreDistinct uses.used
  used-distinct = distinct-right d.purse_now.spares uses.used (subst AreDistinct uses.purse_is (spares-distinct shape (nodes cells) d.purse.spares spares))

  distinct : AreDistinct uses.in_order
  distinct = uses.distinct used-distinct

  order-owner : Each (λ (x : Spare). g.owner x.cell ≡ InPurse n) uses.in_order
  order-owner = uses.there (λ (x : Spare). g.owner x.cell ≡ InPurse n) (each-right (λ (x : Spare). g.owner x.cell ≡ InPurse n) d.purse_now.spares uses.used
      (subst (Each (λ (x : Spare). g.owner x.cell ≡ InPurse n)) (sym d.purse_was ∙ uses.purse_is) (purse-owned s v g i n)))

  fresh-owner : Each (λ (x : Change). g.owner x.number ≡ InPurse n) d.fresh
  fresh-owner = filled-each (λ y. g.owner y ≡ InPurse n) uses.in_order d.entered.fresh.items d.fresh uses.are_in d.are_filled order-owner

  -- a cell of the purse is no other changed one
  apart-from : (y : ℕ) → g.owner y ≡ InPurse n → put cs w.cells y ≡ put d.fresh (put d.unfilled w.cells) y
  apart-from y own =
      let away : (z : ℕ) → g.owner z ≡ InTree c → y ≢ z = (λ z t e. let k : InPurse n ≡ InTree c = sym own ∙ ap g.owner e ∙ t in cc) in
      put-skip m (gt ∷ root ∷ others) w.cells y (off-table y (λ z. let k : InPurse n ≡ NotOfStock = sym own ∙ z in cc))
      ∙ put-skip gt (root ∷ others) w.cells y (λ e. let k : InPurse n ≡ AGate = sym own ∙ ap g.owner e ∙ gate-owner in cc)
      ∙ put-skip root others w.cells y (away root.number root-owner)
      ∙ ap (λ (xs : List Change). put xs w.cells y) d.others_are
      ∙ put-append (d.tail ++ d.fresh) d.unfilled w.cells y
      ∙ put-behind d.tail d.fresh (put d.unfilled w.cells) y (each-map (λ (x : Change). g.owner x.number ≡ InTree c) (λ (x : Change). y ≢ x.number) d.tail (λ x t. away x.number t) tail-owner)

  filled : Each (λ (x : Fresh). put cs w.cells x.cell ≡ BlockCell x.block) d.entered.fresh.items
  filled = each-both (λ (x : Fresh). g.owner x.cell ≡ InPurse n) (λ (x : Fresh). put d.fresh (put d.unfilled w.cells) x.cell ≡ BlockCell x.block) (λ (x : Fresh). put cs w.cells x.cell ≡ BlockCell x.block) d.entered.fresh.items
      (λ x own is. apart-from x.cell own ∙ is) (in-fresh (λ y. g.owner y ≡ InPurse n) uses.in_order d.entered.fresh.items uses.are_in order-owner)
      (filled-at (put d.unfilled w.cells) uses.in_order d.entered.fresh.items d.fresh uses.are_in d.are_filled distinct)

  blank : Each (λ (x : Change). IsBlank x.before) d.fresh
  blank = enter-blank s w g i n s.hierarchy m gt root others (w.actors n) b ag d

  -- what is seen afterwards

  abbrev u : View
  u = view s w2

  abbrev v2 : View
  v2 = renewed by_enter_tree u v

  same : u ≡ v2
  same = view-enter_tree s w n s.hierarchy m gt root others (w.actors n) b ag d blank

  -- the blocks' cells keep all that isn't of blocks
  beside-blocks : Same (beside of_steps) (root ∷ others)
  beside-blocks = (
    turned-block of_steps refl d.turns,
    subst (Same (beside of_steps)) (sym d.others_are)
        (each-append (λ (x : Change). beside of_steps x.now ≡ beside of_steps x.before) (d.tail ++ d.fresh) d.unfilled
        (others-blocks of_steps refl d.entered.fresh.items d.tail d.fresh (tail-read d.gate.stamp d.head d.tail d.behind) d.are_filled blank) (all-read (beside of_steps) d.unfilled d.stay)),
  )

  keeps-seen : {A : Type 0} (f : CellSeen → A) → Each (λ (x : Change). f (beside of_steps x.now) ≡ f (beside of_steps x.before)) (root ∷ others)
  keeps-seen f = each-map (λ (x : Change). beside of_steps x.now ≡ beside of_steps x.before) (λ (x : Change). f (beside of_steps x.now) ≡ f (beside of_steps x.before)) (root ∷ others) (λ x e. ap f e) beside-blocks

  trees-new : IsNewAt (λ y. way_in (put cs w.cells y)) (λ y. way_in (w.cells y)) c (way_to_tree d.gate) (way_to_tree d.entered_gate)
  trees-new = gate-behind way_in w.cells m gt (root ∷ others) ag.cells d.e.worker (ap tag_of d.leads.was) d.leads.same d.counted (keeps-seen (λ (x : CellSeen). x.gate.tree))

  active-new : IsNewAt (λ y. active_in (put cs w.cells y)) (λ y. active_in (w.cells y)) c d.gate.active (d.gate.active + 1)
  active-new = gate-behind active_in w.cells m gt (root ∷ others) ag.cells d.e.worker (ap tag_of d.leads.was) d.leads.same d.counted (keeps-seen (λ (x : CellSeen). x.gate.active))

  root-now : u.blocks root.number ≡ d.head_now
  root-now = ap block_in (third m gt root others w.cells (off-table root.number (λ z. let k : InTree c ≡ NotOfStock = sym root-owner ∙ z in cc)) root-not-gate ∙ d.turns.is)

  -- the law

  new-row : shape.placed r ≡ false
  new-row = on_bool (shape.placed r) (λ q. let k : true ≡ false = sym (tree-placed s v g i c r whole q) ∙ arr.out in cc) (λ q. q)

  numbered : (v.row r).no ≡ r
  numbered = ap (λ (x : Row). x.no) arr.known

  valid : IsRowOf s.hierarchy (v.row r)
  valid = subst (IsRowOf s.hierarchy) (arr.row_is ∙ sym arr.known) (i.telling.rows r arr.insert arr.began).0

  step : Enters s.hierarchy (v.row r) (map v.blocks (map (λ (x : Change). x.number) d.tail)) (v.trees c) (way_to_tree d.entered_gate) (v.blocks (v.trees c).root) (u.blocks (v.trees c).root) d.purse d.purse_now d.entered
  step =
      let k0 = enters-way s.hierarchy d.r.row (blocks_of d.tail) d.gate d.entered_gate d.head d.head_now d.purse d.purse_now d.entered d.enters in
      let k1 = subst (λ (x : Row). Enters s.hierarchy x (blocks_of d.tail) (way_to_tree d.gate) (way_to_tree d.entered_gate) d.head d.head_now d.purse d.purse_now d.entered) (sym arr.known) k0 in
      let k2 = subst (λ (x : List Block). Enters s.hierarchy (v.row r) x (way_to_tree d.gate) (way_to_tree d.entered_gate) d.head d.head_now d.purse d.purse_now d.entered) (sym (tail-blocks v.blocks d.tail tail-at)) k1 in
      let k3 = subst (λ (x : Gate). Enters s.hierarchy (v.row r) (map v.blocks (map (λ (x : Change). x.number) d.tail)) x (way_to_tree d.entered_gate) d.head d.head_now d.purse d.purse_now d.entered) (sym trees-was) k2 in
      let k4 = subst (λ (x : Block). Enters s.hierarchy (v.row r) (map v.blocks (map (λ (x : Change). x.number) d.tail)) (v.trees c) (way_to_tree d.entered_gate) x d.head_now d.purse d.purse_now d.entered) (sym (ap v.blocks root-at ∙ root-was)) k3 in
      subst (λ (x : Block). Enters s.hierarchy (v.row r) (map v.blocks (map (λ (x : Change). x.number) d.tail)) (v.trees c) (way_to_tree d.entered_gate) (v.blocks (v.trees c).root) x d.purse d.purse_now d.entered) (sym (ap u.blocks root-at ∙ root-now)) k4

  others-off : {A : Type 0} (f : CellValue → A) (y : ℕ) → f (GateCell (record d.entered_gate { active = d.gate.active + 1 })) ≡ f (GateCell d.gate) → y ≢ root.number → Each (λ (x : Fresh). y ≢ x.cell) d.entered.fresh.items
      → f (put cs w.cells y) ≡ f (w.cells y)
  others-off f y gate nr nf = seen-stays f cs w.cells y ag.cells (
    inr (ap f d.leads.same),
    (
      inr (ap f d.counted.is ∙ gate ∙ sym (ap f d.counted.was)),
      (
        inl nr,
        subst (Each (λ (x : Change). (y ≢ x.number) ⊎ (f x.now ≡ f x.before))) (sym d.others_are)
            (each-append (λ (x : Change). (y ≢ x.number) ⊎ (f x.now ≡ f x.before)) (d.tail ++ d.fresh) d.unfilled
            (each-append (λ (x : Change). (y ≢ x.number) ⊎ (f x.now ≡ f x.before)) d.tail d.fresh
            (each-map (λ (x : Change). x.now ≡ x.before) (λ (x : Change). (y ≢ x.number) ⊎ (f x.now ≡ f x.before)) d.tail (λ x e. inr (ap f e)) (tail-read d.gate.stamp d.head d.tail d.behind))
            (each-map (λ (x : Change). y ≢ x.number) (λ (x : Change). (y ≢ x.number) ⊎ (f x.now ≡ f x.before)) d.fresh (λ x e. inl e) (filled-off y d.entered.fresh.items d.fresh d.are_filled nf)))
            (each-map (λ (x : Change). x.now ≡ x.before) (λ (x : Change). (y ≢ x.number) ⊎ (f x.now ≡ f x.before)) d.unfilled (λ x e. inr (ap f e)) d.stay)),
      ),
    ),
  )

  -- the new blocks as they stand
  filled-blocks : Each (λ (x : Fresh). u.blocks x.cell ≡ x.block) d.entered.fresh.items
  filled-blocks = each-map (λ (x : Fresh). put cs w.cells x.cell ≡ BlockCell x.block) (λ (x : Fresh). block_in (put cs w.cells x.cell) ≡ x.block) d.entered.fresh.items (λ x e. ap block_in e) filled

  -- blocks but the root and the new ones keep their stamps
  keeps-stamp : (y : ℕ) → y ≢ root.number → Each (λ (x : Spare). y ≢ x.cell) uses.used → u.made y ≡ true → KeepsStamp v.made v.blocks u.blocks y
  keeps-stamp y nr nf made =
      let off = in-fresh (λ z. y ≢ z) uses.in_order d.entered.fresh.items uses.are_in (uses.there (λ (x : Spare). y ≢ x.cell) nf) in
      record { made_before = sym (others-off has_block y refl nr off) ∙ made; same = ap (λ (x : Block). x.stamp) (others-off block_in y refl nr off) }

  stamps : Restamps shape.inside v.made u.made v.blocks u.blocks uses.used
  stamps =
      let with_was = subst (λ (x : Block). StampsWith uses.used d.entered.fresh.items x d.head_now) (sym root-was) uses.stamps in
      let with_now = subst (λ (x : Block). StampsWith uses.used d.entered.fresh.items (v.blocks root.number) x) (sym root-now) with_was in
      restamps shape.inside v.made u.made v.blocks u.blocks uses.used d.entered.fresh.items root.number with_now root-inside (ap has_block (ag.cells.1.1.0 ∙ d.turns.was))
      (each-map (λ (x : Spare). g.owner x.cell ≡ InPurse n) (λ (x : Spare). root.number ≢ x.cell) uses.used (λ x own e. let k : InTree c ≡ InPurse n = sym root-owner ∙ ap g.owner e ∙ own in cc)
      (uses.back (λ (x : Spare). g.owner x.cell ≡ InPurse n) order-owner))
      used-distinct filled-blocks keeps-stamp

  law : AfterStep table shape r d.entered.at (v2.trees c).height cells (cells_at v2.blocks v2.trees c) d.purse.spares d.purse_now.spares
  law = ins table shape r cells (cells_at v2.blocks v2.trees c) d.purse d.purse_now d.entered tree (record {
    gate_now = way_to_tree d.entered_gate;
    tail = map (λ (x : Change). x.number) d.tail;
    new = new-row;
    numbered = numbered;
    valid = valid;
    behind = λ full. found (ap (λ (x : Block). is_full x.body) (sym (ap v.blocks root-at ∙ root-was)) ∙ full) ∙ sym has-behind.found;
    step = step;
    idle = subst (IsIdle shape) (sym root-at) idle;
    spares = spares;
    filled = filled-blocks;
    other = λ y nr nf. others-off block_in y refl (λ e. nr (e ∙ sym root-at)) nf;
    gate_cell = refl;
    gate = record { root = ap root_entry trees-new.is_there; height = ap (λ (x : Gate). x.height) trees-new.is_there };
  })

  -- what a block had before has one now
  still : (y : ℕ) → v.made y ≡ true → u.made y ≡ true
  still y = still-has cs w.cells y ag.cells (
    (λ e. ap has_block d.leads.same ∙ e),
    (
      (λ e. let k : false ≡ true = sym (ap has_block d.counted.was) ∙ e in cc),
      (
        (λ e. ap has_block d.turns.is),
        subst (Each (λ (x : Change). has_block x.before ≡ true → has_block x.now ≡ true)) (sym d.others_are)
            (each-append (λ (x : Change). has_block x.before ≡ true → has_block x.now ≡ true) (d.tail ++ d.fresh) d.unfilled
            (each-map (λ (x : Change). has_block x.now ≡ true) (λ (x : Change). has_block x.before ≡ true → has_block x.now ≡ true) (d.tail ++ d.fresh) (λ x e k. e)
            (each-append (λ (x : Change). has_block x.now ≡ true) d.tail d.fresh (tail-made (is_full d.head.body) d.gate.stamp d.head d.tail d.behind) (filled-made d.entered.fresh.items d.fresh d.are_filled)))
            (each-map (λ (x : Change). x.now ≡ x.before) (λ (x : Change). has_block x.before ≡ true → has_block x.now ≡ true) d.unfilled (λ x e k. ap has_block e ∙ k) d.stay)),
      ),
    ),
  )

  own : Each (IsOwn g.owner c n) cs
  own = (
    inr (inr (ap block_in d.leads.same)),
    (
      inr (inr (ap block_in d.counted.is ∙ sym (ap block_in d.counted.was))),
      (
        inl root-owner,
        subst (Each (IsOwn g.owner c n)) (sym d.others_are) (each-append (IsOwn g.owner c n) (d.tail ++ d.fresh) d.unfilled
            (each-append (IsOwn g.owner c n) d.tail d.fresh
            (each-map (λ (x : Change). g.owner x.number ≡ InTree c) (IsOwn g.owner c n) d.tail (λ x e. inl e) tail-owner)
            (each-map (λ (x : Change). g.owner x.number ≡ InPurse n) (IsOwn g.owner c n) d.fresh (λ x e. inr (inl e)) fresh-owner))
            (each-map (λ (x : Change). x.now ≡ x.before) (IsOwn g.owner c n) d.unfilled (λ x e. inr (inr (ap block_in e))) d.stay)),
      ),
    ),
  )

  pub enter-step : ComesIn s w n cs b g
  enter-step =
      let purse_now : b.purse ≡ d.purse_now.spares = ap (λ (a : ActorValue). a.purse) d.actor_is in
      let same_used : law.used ≡ uses.used = append-cancel d.purse_now.spares law.used uses.used (sym law.purse_is ∙ uses.purse_is) in
      let long : length d.purse.spares ≡ length d.purse_now.spares + length uses.used = ap (λ (ss : List Spare). length ss) uses.purse_is ∙ length-append d.purse_now.spares uses.used in
      let had : length d.purse.spares ≡ length (w.actors n).purse = ap (λ (ss : List Spare). length ss) d.purse_was in
      let left : length b.purse ≡ length d.purse_now.spares = ap (λ (ss : List Spare). length ss) purse_now in
      let count = count-filled uses.in_order d.entered.fresh.items d.fresh uses.are_in d.are_filled in
      let many = uses.many in
      let few = uses.few in
      let boxes = d.boxes in
      let enough = d.enough in
      let boxed : 2 * length (w.actors n).purse + 1 ≤ (w.actors n).boxes = i.turning.boxed n way arr.was d.filled in
      let lower = law.level in
      let high : (v2.trees c).height ≡ d.entered_gate.height = ap (λ (x : Gate). x.height) trees-new.is_there in
      record {
        e = d.e;
        r = d.r;
        has = d.has;
        outside = outside;
        gate = c;
        arr = arr;
        at = d.entered.at;
        errand = ap (λ (a : ActorValue). a.errand) d.actor_is;
        seen = same;
        is_open = ap phase_of gate-was ∙ ap Some d.is_open;
        trees_off = trees-new.elsewhere;
        active_of = d.gate.active;
        active_was = active-new.was_there;
        active_is = active-new.is_there;
        active_off = active-new.elsewhere;
        new = new-row;
        still = still;
        own = own;
        shape = law.shape;
        used = law.used;
        purse = sym d.purse_was ∙ law.purse_is ∙ ap (λ (ss : List Spare). ss ++ law.used) (sym purse_now);
        fresh = subst (Each (λ (x : Spare). u.made x.cell ≡ true)) (sym same_used)
            (uses.back (λ (x : Spare). u.made x.cell ≡ true) (in-spares (λ y. u.made y ≡ true) uses.in_order d.entered.fresh.items uses.are_in
            (each-map (λ (x : Fresh). put cs w.cells x.cell ≡ BlockCell x.block) (λ (x : Fresh). u.made x.cell ≡ true) d.entered.fresh.items (λ x e. ap has_block e) filled)));
        stamps = subst (λ (ss : List Spare). Restamps shape.inside v.made u.made v.blocks u.blocks ss) (sym same_used) stamps;
        moved = record {
          tree = law.tree;
          here = law.row.placed;
          placed = law.row.others_placed;
          carried = law.row.others_carried;
          at = law.row.others_at;
          levels = law.levels;
          inside = law.inside;
          filled = law.filled;
          spares = law.spares;
          queries = law.queries;
        };
        went = record { gate = refl; carried = law.row.carried; at = law.row.at; level = omega arith; boxed = omega arith };
        command = ap (λ (a : ActorValue). a.command) d.actor_is;
        job = ap (λ (a : ActorValue). a.job) d.actor_is;
      }

enter-keeps-at : OtherLaw → CollectOtherLaw → InLaw → RootLaw → RootBehindLaw → (m gt root : Change) (others : List Change) (b : ActorValue) (s : Setting) (w : World) (n : ℕ) (g : Ghost) → InvWith s (view s w) g
    → Agrees w (m ∷ gt ∷ root ∷ others) n (w.actors n) → DoesEnterTree s.hierarchy m gt root others (w.actors n) b → IsKept s EnterTree n w (after w (m ∷ gt ∷ root ∷ others) n b) g
enter-keeps-at other collects ins roots behinds m gt root others b s w n g i ag d =
    comes-in-kept s w n (m ∷ gt ∷ root ∷ others) b g other collects i ag (enter-step ins roots behinds m gt root others b s w n g i ag d) EnterTree d tt

pub enter-keeps : OtherLaw → CollectOtherLaw → InLaw → RootLaw → RootBehindLaw → (h : List Dimension) (m gt root : Change) (others : List Change) (a b : ActorValue) (d : DoesEnterTree h m gt root others a b)
    → Keeps h EnterTree (m ∷ gt ∷ root ∷ others) a b d
enter-keeps other collects ins roots behinds h m gt root others a b d s w n g same i ag sight =
    enter-keeps-at other collects ins roots behinds m gt root others b s w n g i (record { cells = ag.cells; actor_is = refl; free = λ x ne. ag.free x ne })
    (subst (λ (z : ActorValue). DoesEnterTree s.hierarchy m gt root others z b) (sym ag.actor_is) (subst (λ (z : List Dimension). DoesEnterTree z m gt root others a b) (sym same) d))
