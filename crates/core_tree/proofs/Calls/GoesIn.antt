-- The call that takes a row in: what its callee asks for, and what it did.
use Rattle.std.proofs.{Common.{◌≡◌, ℕ, ◌+◌, ◌*◌, ◌^◌, ◌<◌, ◌≤◌, Bool, true, false, List, [], ◌∷◌, ◌++◌, length, map, Option, Some, None, IsSome, All, refl, sym, ap, ◌∙◌, subst, ◌⊎◌, inl, inr, arith, append_assoc}, lemmas.List.length-map}
use Rattle.std.specs.Option.{is_some}
use Rattle.dim_hierarchy.specs.{Dimension.{Dimension, IsHierarchy}, Rows.IsRowOf, declared.row.Row.Row}
use Rattle.describing_set.specs.Sets.{IsDescSetOf}
use Rattle.cell_stock.specs.{Stock.PurseValue, declared.purse.Spare.Spare}
use Rattle.dc_node.specs.{Block.{is_full, IsBodyOf}, Summary.row_count, declared.block.Block.Block}
use Rattle.volap_cell.specs.link_descent.specs.{Descend.Enters, Divide.together, declared.entered.Entered.Entered, declared.entered.Fresh.Fresh}
use Rattle.mapping_table.specs.declared.place.Where.TheVariants as where_is
use Rattle.volap_cell.specs.shard_store.specs.{Gate.root_entry, declared.gate.Gate.Gate}
use Rattle.list_words.specs.Counts.{Each}
use Rattle.list_words.proofs.{Each.{each-map, each-left}, Truth.on_bool}
use Rattle.volap_cell.specs.tree_shape.specs.{Laws.{OtherLaw, CollectOtherLaw, InLaw, GateLaw, BlockLaw, RootLaw, RootBehindLaw, RootBehindFitsLaw}, Shape.{Table, TreeCells, Shape}, Trees.{IsTree, IsBelow, BlockFits, BehindFits, cells_behind}}
use Rattle.volap_cell.specs.{Cells.{CellValue, BlockCell, GateCell, block_in, has_block, way_in, way_to_tree, active_in}, Errands.{RowWay, is_filled, row_way}, Ghost.Ghost, Growing.table_of, Invariant.InvWith, NewBlocks.HaveNew, Setting.Setting, Steps.{IsHere, Makes}, Stocking.{cells_at, IsWhole}, TreeKinds.{AreFilled, DoesEnterTree, HasRow, Leads, IsTailIf, IsTailOf, blocks_of, on_way}, Values.{ActorValue, ErrandValue, OfRow}, View.{View, view}, World.{World, Change, change, change_if, held}, declared.errand.RowErrand.RowErrand, declared.errand.Way.TheVariants.Carried, declared.kind.Kind.TheVariants.EnterTree}
use Rattle.volap_cell.proofs.Views.Shown.{held-leads}
use Rattle.core_tree.specs.Descent.{AreForNew, AreLast, CanEnterTree, CanComeIn, CameIn, blocks_if, two_if}
use Rattle.core_tree.proofs.{Calls.Behind.{MakesOne, tail-are, held-blocks, last-same, filled-length}, EachStep.Descents.{tail-blocks, tail-numbers}, EachStep.EntersTree.enter-keeps, Rows.Arrivals.{Arrives, arrives, filled-outside}, Stocks.Counts.{active-few, purse-few, tree-few, tree-set}}

-- what is known of the cells that were given
pub record GivenIn (root : CellValue) (gate : Gate) (tail : List Change) (h : List Dimension) (row : Row) (purse : List Spare) (boxes : ℕ) : Type 0 where
  pub made : has_block root ≡ true
  pub can : CanComeIn h row gate (block_in root) (blocks_of tail) purse boxes

module _ (gates : GateLaw) (blocks : BlockLaw) (roots : RootLaw) (fits : RootBehindFitsLaw) (h : List Dimension) (map_at : ℕ) (map_ : CellValue) (gate_at : ℕ) (cell : CellValue) (root_at : ℕ) (root : CellValue) (tail fresh : List Change) (a : ActorValue)
    (k : IsHere h (held map_at map_ ∷ held gate_at cell ∷ held root_at root ∷ (tail ++ fresh)) a) (due : CanEnterTree h map_at map_ gate_at cell root_at root tail fresh a) where
  abbrev s : Setting
  s = a.setting

  abbrev w : World
  w = k.world

  abbrev g : Ghost
  g = k.inv.ghost_of

  abbrev v : View
  v = view s w

  abbrev i : InvWith s v g
  i = k.inv.holds

  abbrev way : RowWay
  way = row_way due.e due.r

  abbrev table : Table
  table = table_of s v.row

  abbrev cells : TreeCells
  cells = cells_at v.blocks v.trees gate_at

  abbrev shape : Shape
  shape = g.shape gate_at

  has : HasRow (w.actors k.number) due.e due.r
  has = record { errand = ap (λ (z : ActorValue). z.errand) k.agrees.actor_is ∙ due.has.errand; row = due.has.row }

  arr : Arrives s v g k.number gate_at way
  arr = arrives s w g i k.number gate_at due.e due.r has (filled-outside due.r.way due.filled) (held-leads s w i.numbering.tag (held map_at map_) k.agrees.cells.0 due.e.worker due.e.shard (where_is.Gate gate_at) due.leads).1

  whole : IsWhole v.gates v.phases v.pins gate_at
  whole = (subst IsSome (sym arr.is_gate) refl, inl arr.stands)

  tree : IsTree table cells shape
  tree = i.growing.tree gate_at whole

  gate-was : w.cells gate_at ≡ GateCell due.gate
  gate-was = k.agrees.cells.1.0 ∙ due.gate_is

  trees-was : v.trees gate_at ≡ way_to_tree due.gate
  trees-was = ap way_in gate-was

  root-at : (v.trees gate_at).root ≡ root_at
  root-at = ap (λ (x : Gate). x.root) trees-was ∙ sym due.root_is

  root-was : v.blocks (v.trees gate_at).root ≡ block_in root
  root-was = ap v.blocks root-at ∙ ap block_in k.agrees.cells.1.1.0

  tail-was : Each (λ (c : Change). v.blocks c.number ≡ block_in c.before) tail
  tail-was = each-map (λ (c : Change). w.cells c.number ≡ c.before) (λ (c : Change). v.blocks c.number ≡ block_in c.before) tail (λ c e. ap block_in e)
      (each-left (λ (c : Change). w.cells c.number ≡ c.before) tail fresh k.agrees.cells.1.1.1)

  tall : IsHierarchy s.hierarchy
  tall = i.numbering.setting.hierarchy

  below : IsBelow cells shape (v.trees gate_at).root (v.trees gate_at).height
  below = roots table cells shape tree

  root-fits : BlockFits table cells (v.trees gate_at).root
  root-fits = blocks table cells shape (v.trees gate_at).root tree tall below.inside below.block

  behind-fits : (m : ℕ) → BehindFits table cells (root_entry (v.trees gate_at)) m
  behind-fits m = fits table cells shape m tree tall

  few-there : due.gate.agg.count < 2 ^ 31
  few-there = (let n = tree-few s v g i gates gate_at whole in let m = i.owing.few in let same = ap (λ (x : Gate). x.agg.count) trees-was in omega arith)

  -- the blocks that are lent, and no more rows are beneath them than the gate tells
  lent : All (λ (b : Block). IsBodyOf s.hierarchy b.body) (blocks_of tail) × (row_count (together (v.blocks (v.trees gate_at).root).body (blocks_of tail)) ≤ (v.trees gate_at).agg.count)
  lent = on_bool (is_full (block_in root).body)
      (λ q.
      let numbers = tail-numbers v.blocks due.gate.stamp 2 (v.trees gate_at).root (block_in root) tail root-was tail-was (subst (λ (b : Bool). IsTailIf b due.gate.stamp (block_in root) tail) q due.behind) in
      let stamp : (v.trees gate_at).stamp ≡ due.gate.stamp = ap (λ (x : Gate). x.stamp) trees-was in
      let same : map v.blocks (cells_behind v.blocks (v.trees gate_at).stamp 2 (v.trees gate_at).root) ≡ blocks_of tail =
      ap (λ (x : ℕ). map v.blocks (cells_behind v.blocks x 2 (v.trees gate_at).root)) stamp ∙ ap (map v.blocks) (sym numbers) ∙ tail-blocks v.blocks tail tail-was in
      let two = behind-fits 2 in
      subst (λ (bs : List Block). All (λ (b : Block). IsBodyOf s.hierarchy b.body) bs × (row_count (together (v.blocks (v.trees gate_at).root).body bs) ≤ (v.trees gate_at).agg.count)) same (two.bodies, two.count))
      (λ q.
      let none : tail ≡ [] = subst (λ (b : Bool). IsTailIf b due.gate.stamp (block_in root) tail) q due.behind in
      let zero_ = behind-fits 0 in
      subst (λ (cs : List Change). All (λ (b : Block). IsBodyOf s.hierarchy b.body) (blocks_of cs) × (row_count (together (v.blocks (v.trees gate_at).root).body (blocks_of cs)) ≤ (v.trees gate_at).agg.count)) (sym none) (zero_.bodies, zero_.count))

  can-at : CanComeIn s.hierarchy due.r.row due.gate (v.blocks (v.trees gate_at).root) (blocks_of tail) a.purse a.boxes
  can-at =
      let few = few-there in
      let same = ap (λ (x : Gate). x.agg.count) trees-was in
      let enough = due.enough in
      let boxed : 2 * length a.purse + 1 ≤ a.boxes = subst (λ (z : ActorValue). 2 * length z.purse + 1 ≤ z.boxes) k.agrees.actor_is (i.turning.boxed k.number way arr.was due.filled) in
      let count = lent.1 in
      let purse : length (v.purses k.number) ≡ length a.purse = ap (λ (z : ActorValue). length z.purse) k.agrees.actor_is in
      let purses = purse-few s v g i k.number in
      let all = i.numbering.setting.few in
      let inside = active-few s v g i gate_at in
      let active : v.active gate_at ≡ due.gate.active = ap active_in gate-was in
      let events = i.owing.few in
      record {
        fits = record {
          is_open = due.is_open;
          enough = due.enough;
          low = omega arith;
          set_valid = subst (IsDescSetOf s.hierarchy) (ap (λ (x : Gate). x.set) trees-was) (tree-set s v g i gates gate_at whole);
          few = omega arith;
          root_valid = root-fits.body;
          row_valid = subst (IsRowOf s.hierarchy) arr.row_is (i.telling.rows way.row.no arr.insert arr.began).0;
          tail_valid = lent.0;
          few_beneath = omega arith;
        };
        few_behind = (let n = (tail-are due.gate.stamp (block_in root) tail due.behind).1 in let m = length-map tail (λ (c : Change). block_in c.before) in omega arith);
        boxed = omega arith;
        active = omega arith;
      }

  pub given-in : GivenIn root due.gate tail h due.r.row a.purse a.boxes
  given-in = record {
    made = ap has_block (sym k.agrees.cells.1.1.0) ∙ (i.stocking.tree gate_at root_at whole (ap shape.inside (sym root-at) ∙ below.inside) (λ e. below.block (root-at ∙ e))).1;
    can = subst (λ (x : List Dimension). CanComeIn x due.r.row due.gate (block_in root) (blocks_of tail) a.purse a.boxes) k.about
        (subst (λ (x : Block). CanComeIn s.hierarchy due.r.row due.gate x (blocks_of tail) a.purse a.boxes) root-was can-at);
  }

-- The new blocks: none where the root has room, one where it is halved, and two where it is cut, in the cells of the last spares.

pub record MakesTwo (purse purse2 : List Spare) (items : List Fresh) : Type 0 where
  pub spare : Spare
  pub top : Spare
  pub between : List Spare
  pub new : Fresh
  pub high : Fresh
  pub items_are : items ≡ new ∷ high ∷ []
  pub cell : new.cell ≡ spare.cell
  pub high_cell : high.cell ≡ top.cell
  pub purse_is : purse ≡ between ++ spare ∷ []
  pub between_is : between ≡ purse2 ++ top ∷ []

abbrev pub NewIn : Bool → List Spare → List Spare → List Fresh → Type 0
NewIn full purse purse2 items = ((full ≡ false) × (items ≡ [])) ⊎ ((full ≡ true) × MakesOne purse purse2 items) ⊎ ((full ≡ true) × MakesTwo purse purse2 items)

pub new-in : (h : List Dimension) (row : Row) (tail : List Block) (gate gate_now : Gate) (root root_now : Block) (purse purse_now : PurseValue) (entered : Entered)
    → Enters h row tail gate gate_now root root_now purse purse_now entered → NewIn (is_full root.body) purse.spares purse_now.spares entered.fresh.items
new-in h row tail gate gate_now root root_now purse purse_now entered enters = elim enters.step [
  | inl w ↦ inl (w.2.room, w.2.fresh)
  | inr more ↦ elim more [
    | inl w ↦ inr (inl (w.2.full, record { spare = w.2.spare; new = record { cell = w.2.spare.cell; block = w.2.new }; items_are = w.2.fresh; cell = refl; purse_is = w.2.purse_is }))
    | inr w ↦ inr (inr (
      w.cuts.full,
      record {
        spare = w.spare;
        top = w.top;
        between = w.between.spares;
        new = record { cell = w.spare.cell; block = w.new };
        high = _;
        items_are = w.fresh;
        cell = refl;
        high_cell = refl;
        purse_is = w.cuts.purse_is;
        between_is = w.purse_is;
      },
    ))
  ]
]

-- the cells that have them, and the other one that is held
pub record AreSplit (items : List Fresh) (changes : List Change) : Type 0 where
  pub filled : List Change
  pub unfilled : List Change
  pub split : changes ≡ filled ++ unfilled
  pub are_filled : AreFilled items filled
  pub stay : Each (λ c. c.now ≡ c.before) unfilled

-- where two cells are held both are there
module _ (x_at y_at : ℕ) (purse purse2 : List Spare) (items : List Fresh) where
  split-none : (x y x2 y2 : Option CellValue) → two_if x_at x y_at y ≡ [] → x2 ∷ y2 ∷ [] ≡ x ∷ y ∷ [] → AreSplit [] (change_if x_at x x2 ++ change_if y_at y y2)
  split-none None None None None e same = record { filled = []; unfilled = []; split = refl; are_filled = tt; stay = tt }
  split-none None None None (Some z) e same = cc
  split-none None None (Some z) y2 e same = cc
  split-none None (Some z) x2 y2 e same = cc
  split-none (Some z) y x2 y2 e same = cc

  split-one : (m : MakesOne purse purse2 items) (x y x2 y2 : Option CellValue) → length (two_if x_at x y_at y) ≡ 2 → AreLast purse (two_if x_at x y_at y) → x2 ≡ Some (BlockCell m.new.block) → y2 ∷ [] ≡ y ∷ []
      → AreSplit (m.new ∷ []) (change_if x_at x x2 ++ change_if y_at y y2)
  split-one m (Some x) (Some y) (Some x2) (Some y2) two last is same =
      let (front, spare, purse_is, number, rest) = last in
      let last_is = last-same front purse2 spare m.spare (sym purse_is ∙ m.purse_is) in
      let block : x2 ≡ BlockCell m.new.block = cc in
      let stays : y2 ≡ y = cc in
      record {
        filled = change x_at x x2 ∷ [];
        unfilled = change y_at y y2 ∷ [];
        split = refl;
        are_filled = (number ∙ ap (λ (z : Spare). z.cell) last_is.1 ∙ sym m.cell, block, tt);
        stay = (stays, tt);
      }
  split-one m None None x2 y2 two last is same = absurd (omega arith)
  split-one m None (Some y) x2 y2 two last is same = absurd (omega arith)
  split-one m (Some x) None x2 y2 two last is same = absurd (omega arith)
  split-one m (Some x) (Some y) None y2 two last is same = cc
  split-one m (Some x) (Some y) (Some x2) None two last is same = cc

  split-two : (m : MakesTwo purse purse2 items) (x y x2 y2 : Option CellValue) → length (two_if x_at x y_at y) ≡ 2 → AreLast purse (two_if x_at x y_at y) → x2 ≡ Some (BlockCell m.new.block) → y2 ≡ Some (BlockCell m.high.block)
      → AreSplit (m.new ∷ m.high ∷ []) (change_if x_at x x2 ++ change_if y_at y y2)
  split-two m (Some x) (Some y) (Some x2) (Some y2) two last is high =
      let (front, spare, purse_is, number, (front2, spare2, front_is, number2, rest)) = last in
      let last_is = last-same front m.between spare m.spare (sym purse_is ∙ m.purse_is) in
      let next_is = last-same front2 purse2 spare2 m.top (sym front_is ∙ last_is.0 ∙ m.between_is) in
      let block : x2 ≡ BlockCell m.new.block = cc in
      let block2 : y2 ≡ BlockCell m.high.block = cc in
      record {
        filled = change x_at x x2 ∷ change y_at y y2 ∷ [];
        unfilled = [];
        split = refl;
        are_filled = (number ∙ ap (λ (z : Spare). z.cell) last_is.1 ∙ sym m.cell, block, (number2 ∙ ap (λ (z : Spare). z.cell) next_is.1 ∙ sym m.high_cell, block2, tt));
        stay = tt;
      }
  split-two m None None x2 y2 two last is high = absurd (omega arith)
  split-two m None (Some y) x2 y2 two last is high = absurd (omega arith)
  split-two m (Some x) None x2 y2 two last is high = absurd (omega arith)
  split-two m (Some x) (Some y) None y2 two last is high = cc
  split-two m (Some x) (Some y) (Some x2) None two last is high = cc

  pub split-in : (full : Bool) (x y x2 y2 : Option CellValue) → NewIn full purse purse2 items → AreForNew full 2 purse (two_if x_at x y_at y) → HaveNew items (x ∷ y ∷ []) (x2 ∷ y2 ∷ []) → AreSplit items (change_if x_at x x2 ++ change_if y_at y y2)
  split-in full x y x2 y2 made for_new have = elim made [
    | inl none ↦ subst (λ (fs : List Fresh). AreSplit fs (change_if x_at x x2 ++ change_if y_at y y2)) (sym none.1)
        (split-none x y x2 y2 (subst (λ (b : Bool). AreForNew b 2 purse (two_if x_at x y_at y)) none.0 for_new) (subst (λ (fs : List Fresh). HaveNew fs (x ∷ y ∷ []) (x2 ∷ y2 ∷ [])) none.1 have))
    | inr more ↦ elim more [
      | inl one ↦
          let asked = subst (λ (b : Bool). AreForNew b 2 purse (two_if x_at x y_at y)) one.0 for_new in
          let news = subst (λ (fs : List Fresh). HaveNew fs (x ∷ y ∷ []) (x2 ∷ y2 ∷ [])) one.1.items_are have in
          subst (λ (fs : List Fresh). AreSplit fs (change_if x_at x x2 ++ change_if y_at y y2)) (sym one.1.items_are) (split-one one.1 x y x2 y2 asked.0 asked.1 news.0 news.1)
      | inr two ↦
          let asked = subst (λ (b : Bool). AreForNew b 2 purse (two_if x_at x y_at y)) two.0 for_new in
          let news = subst (λ (fs : List Fresh). HaveNew fs (x ∷ y ∷ []) (x2 ∷ y2 ∷ [])) two.1.items_are have in
          subst (λ (fs : List Fresh). AreSplit fs (change_if x_at x x2 ++ change_if y_at y y2)) (sym two.1.items_are) (split-two two.1 x y x2 y2 asked.0 asked.1 news.0 news.1.0)
    ]
  ]

-- what the call did
pub enter-makes : OtherLaw → CollectOtherLaw → InLaw → RootLaw → RootBehindLaw → (h : List Dimension) (map_at : ℕ) (map_ : CellValue) (gate_at : ℕ) (cell : CellValue) (root_at : ℕ) (root : CellValue)
    (first_at : ℕ) (first : Option CellValue) (second_at : ℕ) (second : Option CellValue) (fresh_at : ℕ) (fresh fresh2 : Option CellValue) (top_at : ℕ) (top top2 : Option CellValue) (a b : ActorValue) (e : ErrandValue) (r : RowErrand)
    (q q2 : Gate) (c c2 : Block) (purse purse2 : PurseValue) (to : ℕ)
    → CanEnterTree h map_at map_ gate_at cell root_at root (two_if first_at first second_at second) (two_if fresh_at fresh top_at top) a → cell ≡ GateCell q → root ≡ BlockCell c → HasRow a e r → purse.spares ≡ a.purse
    → CameIn h r.row (blocks_if first second) q q2 c c2 purse purse2 fresh top fresh2 top2 a.boxes b.boxes to → b ≡ record a { purse = purse2.spares; boxes = b.boxes; errand = on_way e r (Carried gate_at to) }
    → Makes h EnterTree (held map_at map_ ∷ change gate_at cell (GateCell q2) ∷ change root_at root (BlockCell c2) ∷ (two_if first_at first second_at second ++ (change_if fresh_at fresh fresh2 ++ change_if top_at top top2))) a b
enter-makes other collects ins roots behinds h map_at map_ gate_at cell root_at root first_at first second_at second fresh_at fresh fresh2 top_at top top2 a b e r q q2 c c2 purse purse2 to due is_q is_c has same_purse came actor_is =
    let tail = two_if first_at first second_at second in
    let went = came.went in
    let es : due.e ≡ e = (let k : Some due.e ≡ Some e = sym due.has.errand ∙ has.errand in cc) in
    let row_same : due.r ≡ r = (let ts : OfRow due.r ≡ OfRow r = sym due.has.row ∙ ap (λ (z : ErrandValue). z.task) es ∙ has.row in cc) in
    let root_is : block_in root ≡ c = ap block_in is_c in
    let gate_same : due.gate ≡ q = (let k : GateCell due.gate ≡ GateCell q = sym due.gate_is ∙ is_q in cc) in
    let blocks_are : blocks_if first second ≡ blocks_of tail = held-blocks first_at first second_at second (tail-are due.gate.stamp (block_in root) tail due.behind).0 in
    let enters : Enters h r.row (blocks_of tail) q came.entered c c2 purse purse2 went.entered = subst (λ (bs : List Block). Enters h r.row bs q came.entered c c2 purse purse2 went.entered) blocks_are went.step in
    let for_new = subst (λ (ss : List Spare). AreForNew (is_full (block_in root).body) 2 ss (two_if fresh_at fresh top_at top)) (sym same_purse) due.for_new in
    let news = split-in fresh_at top_at purse.spares purse2.spares went.entered.fresh.items (is_full c.body) fresh top fresh2 top2
    (new-in h r.row (blocks_of tail) q came.entered c c2 purse purse2 went.entered enters)
    (subst (λ (z : Block). AreForNew (is_full z.body) 2 purse.spares (two_if fresh_at fresh top_at top)) root_is for_new) went.filled in
    let long = filled-length went.entered.fresh.items news.filled news.are_filled in
    let left = went.boxes_left in
    let does : DoesEnterTree h (held map_at map_) (change gate_at cell (GateCell q2)) (change root_at root (BlockCell c2)) (tail ++ (change_if fresh_at fresh fresh2 ++ change_if top_at top top2)) a b = record {
      e = e;
      r = r;
      has = has;
      filled = ap (λ (z : RowErrand). is_filled z.way) (sym row_same) ∙ due.filled;
      leads = subst (λ (z : ErrandValue). Leads (held map_at map_) z.worker z.shard (where_is.Gate gate_at)) es due.leads;
      gate = q;
      is_open = ap (λ (z : Gate). z.phase) (sym gate_same) ∙ due.is_open;
      enough = subst (λ (z : Gate). z.height + 2 ≤ length a.purse) gate_same due.enough;
      root_is = due.root_is ∙ ap (λ (z : Gate). z.root) gate_same;
      head = c;
      head_now = c2;
      tail = tail;
      fresh = news.filled;
      unfilled = news.unfilled;
      others_are = ap (λ (cs : List Change). tail ++ cs) news.split ∙ sym (append_assoc tail news.filled news.unfilled);
      stay = news.stay;
      behind = subst (λ (z : Block). IsTailOf q.stamp z tail) root_is (subst (λ (z : Gate). IsTailOf z.stamp (block_in root) tail) gate_same due.behind);
      entered_gate = came.entered;
      purse = purse;
      purse_was = same_purse;
      purse_now = purse2;
      entered = went.entered;
      enters = enters;
      counted = record { was = is_q; is = ap GateCell came.counted };
      turns = record { was = is_c; is = refl };
      are_filled = news.are_filled;
      boxes = omega arith;
      actor_is = actor_is ∙ (λ k. record a { purse = purse2.spares; boxes = b.boxes; errand = on_way e r (Carried gate_at (went.at_is k)) });
    } in
    record { does = does; keeps = enter-keeps other collects ins roots behinds h _ _ _ _ a b does }

-- Which of the two cells are there stays.

both-there : (items : List Fresh) (x y : CellValue) (x2 y2 : Option CellValue) → HaveNew items (Some x ∷ Some y ∷ []) (x2 ∷ y2 ∷ []) → (is_some x2 ≡ true) × (is_some y2 ≡ true)
both-there [] x y x2 y2 have = (let one : x2 ≡ Some x = cc in let two : y2 ≡ Some y = cc in (ap is_some one, ap is_some two))
both-there (f ∷ []) x y x2 y2 have = (let two : y2 ≡ Some y = (let k = have.1 in cc) in (ap is_some have.0, ap is_some two))
both-there (f ∷ f2 ∷ []) x y x2 y2 have = (ap is_some have.0, ap is_some have.1.0)
both-there (f ∷ f2 ∷ f3 ∷ items) x y x2 y2 have = absurd have.1.1

none-there : (items : List Fresh) (x2 y2 : Option CellValue) → items ≡ [] → HaveNew items (None ∷ None ∷ []) (x2 ∷ y2 ∷ []) → (is_some x2 ≡ false) × (is_some y2 ≡ false)
none-there [] x2 y2 e have = (let one : x2 ≡ None = cc in let two : y2 ≡ None = cc in (ap is_some one, ap is_some two))
none-there (f ∷ items) x2 y2 e have = cc

pub held-in : (x_at y_at : ℕ) (purse purse2 : List Spare) (items : List Fresh) (full : Bool) (x y x2 y2 : Option CellValue) → NewIn full purse purse2 items → AreForNew full 2 purse (two_if x_at x y_at y) → HaveNew items (x ∷ y ∷ []) (x2 ∷ y2 ∷ [])
    → (is_some x2 ≡ is_some x) × (is_some y2 ≡ is_some y)
held-in x_at y_at purse purse2 items full (Some x) (Some y) x2 y2 made asked have = both-there items x y x2 y2 have
held-in x_at y_at purse purse2 items true None None x2 y2 made asked have = absurd (let two = asked.0 in omega arith)
held-in x_at y_at purse purse2 items false None None x2 y2 made asked have = elim made [
  | inl none ↦ none-there items x2 y2 none.1 have
  | inr more ↦ elim more [
    | inl one ↦ (let no : false ≡ true = one.0 in cc)
    | inr two ↦ (let no : false ≡ true = two.0 in cc)
  ]
]
held-in x_at y_at purse purse2 items true None (Some y) x2 y2 made asked have = absurd (let two = asked.0 in omega arith)
held-in x_at y_at purse purse2 items false None (Some y) x2 y2 made asked have = cc
held-in x_at y_at purse purse2 items true (Some x) None x2 y2 made asked have = absurd (let two = asked.0 in omega arith)
held-in x_at y_at purse purse2 items false (Some x) None x2 y2 made asked have = cc
