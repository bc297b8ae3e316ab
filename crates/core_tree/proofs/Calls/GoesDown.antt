-- The call that takes a row down: what its callee asks for, and what it did.
use Rattle.std.specs.Prelude.{IfSome}
use Rattle.std.proofs.{Common.{◌≡◌, ℕ, ◌+◌, ◌*◌, ◌^◌, ◌<◌, ◌≤◌, Bool, true, List, [], ◌∷◌, ◌++◌, length, map, Option, Some, None, slice_get, get_or, All, refl, sym, ap, ◌∙◌, subst, inl, inr, arith}, lemmas.List.length-map, lemmas.Option.slice_get_cases}
use Rattle.dim_hierarchy.specs.{Dimension.{Dimension, IsHierarchy}, Rows.IsRowOf, declared.row.Row.Row}
use Rattle.cell_stock.specs.{Stock.PurseValue, declared.purse.Spare.Spare}
use Rattle.dc_node.specs.{Block.{is_full, entries_in, IsBodyOf}, Summary.row_count, declared.block.Block.Block, declared.entry.Entry.Entry}
use Rattle.volap_cell.specs.link_descent.specs.{Descend.StepsDown, Divide.together, Pick.IsPick}
use Rattle.list_words.specs.Counts.{Each}
use Rattle.list_words.proofs.{Each.{each-map, each-left}, Truth.on_bool}
use Rattle.volap_cell.specs.tree_shape.specs.{Laws.{OtherLaw, CollectOtherLaw, DownLaw, GateLaw, BlockLaw, ChildLaw, BehindLaw, BehindFitsLaw}, Shape.{Table, TreeCells, Shape}, Trees.{IsBelow, BlockFits, BehindFits, cells_behind}}
use Rattle.volap_cell.specs.{Cells.{CellValue, BlockCell, block_in, has_block}, Errands.{row_way, way_of, place_of}, Ghost.Ghost, Growing.table_of, Invariant.InvWith, NewBlocks.WentDown, Setting.Setting, Steps.{IsHere, Makes}, Stocking.cells_at, TreeKinds.{DoesDown, HasRow, IsTailIf, IsTailOf, blocks_of, on_way}, Values.{ActorValue, ErrandValue, OfRow}, View.{View, view}, World.{World, Change, change, change_if, held, held_if}, declared.errand.RowErrand.RowErrand, declared.errand.Way.TheVariants.Carried, declared.kind.Kind.TheVariants.Down}
use Rattle.volap_cell.proofs.Actors.{row-at}
use Rattle.core_tree.specs.Descent.{AreForNew, CanDown, CanStep, blocks_if, two_if}
use Rattle.core_tree.proofs.{Calls.Behind.{tail-are, held-blocks, new-down, filled-down, filled-length}, EachStep.Descents.{down-keeps, tail-blocks, tail-numbers}, Rows.Carriers.{Carries, carries, must-at}, Stocks.Counts.tree-few}

pub all-at : {A : Type 0} (P : A → Type 0) (xs : List A) (i : ℕ) (x : A) → slice_get xs i ≡ Some x → All P xs → P x
all-at P xs i x read all = elim (slice_get_cases xs i).1 [
  | inl k ↦ (let named : k.0 ≡ x = (let both : Some k.0 ≡ Some x = sym k.2 ∙ read in cc) in subst P (k.3 ∙ named) (all i k.0 k.1))
  | inr k ↦ (let bad : Some x ≡ None = sym read ∙ k.1 in cc)
]

pub if-at : {A : Type 0} (P : A → Type 0) (xs : List A) (i : ℕ) → All P xs → IfSome (slice_get xs i) P
if-at {A = A} P xs i all = elim (slice_get_cases xs i).1 [
  | inl k ↦ subst (λ (o : Option A). IfSome o P) (sym k.2) (subst P k.3 (all i k.0 k.1))
  | inr k ↦ subst (λ (o : Option A). IfSome o P) (sym k.1) tt
]

pub some-at : {A : Type 0} (xs : List A) (i : ℕ) (x : A) → slice_get xs i ≡ Some x → 0 < length xs
some-at xs i x read = elim (slice_get_cases xs i).1 [
  | inl k ↦ (let within = k.1 in omega arith)
  | inr k ↦ (let bad : Some x ≡ None = sym read ∙ k.1 in cc)
]

-- what is known of the cells that were given
pub record GivenDown (parent child : CellValue) (tail : List Change) (h : List Dimension) (row : Row) (purse : List Spare) (boxes : ℕ) : Type 0 where
  pub made : has_block child ≡ true
  pub can : CanStep h row (block_in parent) (block_in child) (blocks_of tail) purse boxes

module _ (gates : GateLaw) (blocks : BlockLaw) (childs : ChildLaw) (behinds : BehindLaw) (fits : BehindFitsLaw) (h : List Dimension) (at : ℕ) (parent : CellValue) (place child_at : ℕ) (child : CellValue) (tail fresh : List Change) (a : ActorValue)
    (k : IsHere h (held at parent ∷ held child_at child ∷ (tail ++ fresh)) a) (due : CanDown h at parent place child_at child tail fresh a) (e : ErrandValue) (r : RowErrand) (gate : ℕ) (has : HasRow a e r) (carried : r.way ≡ Carried gate at) where
  abbrev s : Setting
  s = a.setting

  abbrev w : World
  w = k.world

  abbrev g : Ghost
  g = k.inv.ghost_of

  abbrev v : View
  v = view s w

  abbrev i : InvWith s v g
  i = k.inv.holds

  abbrev table : Table
  table = table_of s v.row

  abbrev cells : TreeCells
  cells = cells_at v.blocks v.trees gate

  abbrev shape : Shape
  shape = g.shape gate

  was : v.ways k.number ≡ Some (row_way e r)
  was = ap (λ (z : ActorValue). way_of z.errand) k.agrees.actor_is ∙ row-at has

  here : Carries s v g gate at (row_way e r)
  here = carries s v g refl i k.number gate at (row_way e r) was (ap place_of carried)

  parent-was : v.blocks at ≡ block_in parent
  parent-was = ap block_in k.agrees.cells.0

  child-was : v.blocks due.entry.child ≡ block_in child
  child-was = ap v.blocks due.child_is ∙ ap block_in k.agrees.cells.1.0

  tail-was : Each (λ (c : Change). v.blocks c.number ≡ block_in c.before) tail
  tail-was = each-map (λ (c : Change). w.cells c.number ≡ c.before) (λ (c : Change). v.blocks c.number ≡ block_in c.before) tail (λ c e. ap block_in e)
      (each-left (λ (c : Change). w.cells c.number ≡ c.before) tail fresh k.agrees.cells.1.1)

  entry-at : slice_get (entries_in (v.blocks at).body) place ≡ Some due.entry
  entry-at = ap (λ (b : Block). slice_get (entries_in b.body) place) parent-was ∙ due.entry_at

  tall : IsHierarchy s.hierarchy
  tall = i.numbering.setting.hierarchy

  parent-fits : BlockFits table cells at
  parent-fits = blocks table cells shape at here.tree tall here.inside here.apart

  below : IsBelow cells shape due.entry.child (shape.level at)
  below = childs table cells shape at place due.entry here.tree here.inside here.apart entry-at

  child-fits : BlockFits table cells due.entry.child
  child-fits = blocks table cells shape due.entry.child here.tree tall below.inside below.block

  behind-fits : (m : ℕ) → BehindFits table cells due.entry m
  behind-fits m = fits table cells shape at place m due.entry here.tree tall here.inside here.apart entry-at

  few-there : (v.trees gate).agg.count < 2 ^ 31
  few-there = (let n = tree-few s v g i gates gate here.whole in let m = i.owing.few in omega arith)

  entry-few : due.entry.agg.count ≤ (v.trees gate).agg.count
  entry-few = all-at (λ (x : Entry). x.agg.count ≤ (v.trees gate).agg.count) (entries_in (v.blocks at).body) place due.entry entry-at parent-fits.entries

  -- the blocks that are lent, and no more rows are beneath them than the entry counts
  lent : All (λ (b : Block). IsBodyOf s.hierarchy b.body) (blocks_of tail) × (row_count (together (v.blocks due.entry.child).body (blocks_of tail)) ≤ due.entry.agg.count)
  lent = on_bool (is_full (block_in child).body)
      (λ q.
      let numbers = tail-numbers v.blocks due.entry.stamp 2 due.entry.child (block_in child) tail child-was tail-was (subst (λ (b : Bool). IsTailIf b due.entry.stamp (block_in child) tail) q due.behind) in
      let same : map v.blocks (cells_behind v.blocks due.entry.stamp 2 due.entry.child) ≡ blocks_of tail = ap (map v.blocks) (sym numbers) ∙ tail-blocks v.blocks tail tail-was in
      let two = behind-fits 2 in
      subst (λ (bs : List Block). All (λ (b : Block). IsBodyOf s.hierarchy b.body) bs × (row_count (together (v.blocks due.entry.child).body bs) ≤ due.entry.agg.count)) same (two.bodies, two.count))
      (λ q.
      let none : tail ≡ [] = subst (λ (b : Bool). IsTailIf b due.entry.stamp (block_in child) tail) q due.behind in
      let zero_ = behind-fits 0 in
      subst (λ (cs : List Change). All (λ (b : Block). IsBodyOf s.hierarchy b.body) (blocks_of cs) × (row_count (together (v.blocks due.entry.child).body (blocks_of cs)) ≤ due.entry.agg.count)) (sym none) (zero_.bodies, zero_.count))

  enough : (shape.level at ≤ length a.purse) × (2 * length a.purse + 1 ≤ a.boxes)
  enough = subst (λ (z : ActorValue). (shape.level at ≤ length z.purse) × (2 * length z.purse + 1 ≤ z.boxes)) k.agrees.actor_is (i.turning.enough k.number gate at (row_way e r) was (ap place_of carried))

  can-at : CanStep s.hierarchy r.row (v.blocks at) (v.blocks due.entry.child) (blocks_of tail) a.purse a.boxes
  can-at =
      let few = few-there in
      let one = entry-few in
      let level = below.below in
      let has_enough = enough.0 in
      let boxed = enough.1 in
      let count = lent.1 in
      record {
        room = (here.tree.blocks at here.inside here.apart).room r.row.no here.in_tree.placed here.carried here.at;
        entries = some-at (entries_in (v.blocks at).body) place due.entry entry-at;
        parent_valid = parent-fits.body;
        child_valid = child-fits.body;
        row_valid = subst (IsRowOf s.hierarchy) here.known (here.tree.numbered r.row.no here.in_tree.placed).1;
        some = omega arith;
        few = (λ n d lt. let x : (get_or (entries_in (v.blocks at).body) n d).agg.count ≤ (v.trees gate).agg.count = parent-fits.entries n d lt in omega arith);
        tail_valid = lent.0;
        few_behind = (let n = (tail-are due.entry.stamp (block_in child) tail due.behind).1 in let m = length-map tail (λ (c : Change). block_in c.before) in omega arith);
        few_beneath = omega arith;
        boxed = omega arith;
      }

  pub given-down : GivenDown parent child tail h r.row a.purse a.boxes
  given-down = record {
    made = ap has_block (sym k.agrees.cells.1.0) ∙ (i.stocking.tree gate child_at here.whole (ap shape.inside (sym due.child_is) ∙ below.inside) (λ e. below.block (due.child_is ∙ e))).1;
    can = subst (λ (x : List Dimension). CanStep x r.row (block_in parent) (block_in child) (blocks_of tail) a.purse a.boxes) k.about
        (subst (λ (x : Block). CanStep s.hierarchy r.row x (block_in child) (blocks_of tail) a.purse a.boxes) parent-was
        (subst (λ (x : Block). CanStep s.hierarchy r.row (v.blocks at) x (blocks_of tail) a.purse a.boxes) child-was can-at));
  }

-- the place is that of the entry for the row that the actor has
pub picked-for : (h : List Dimension) (at : ℕ) (parent : CellValue) (place child_at : ℕ) (child : CellValue) (tail fresh : List Change) (a : ActorValue) (e : ErrandValue) (r : RowErrand)
    → CanDown h at parent place child_at child tail fresh a → HasRow a e r → IsPick h r.row.at (map (λ (x : Entry). x.set) (entries_in (block_in parent).body)) place
picked-for h at parent place child_at child tail fresh a e r due has =
    let row_same : due.r ≡ r = (let k : Some due.e ≡ Some e = sym due.has.errand ∙ has.errand in let es : due.e ≡ e = cc in let ts : OfRow due.r ≡ OfRow r = sym due.has.row ∙ ap (λ (z : ErrandValue). z.task) es ∙ has.row in cc) in
    subst (λ (z : RowErrand). IsPick h z.row.at (map (λ (x : Entry). x.set) (entries_in (block_in parent).body)) place) row_same due.picked

-- what the call did
pub down-makes : OtherLaw → CollectOtherLaw → DownLaw → ChildLaw → BehindLaw → (h : List Dimension) (at : ℕ) (parent : CellValue) (child_at : ℕ) (child : CellValue)
    (first_at : ℕ) (first : Option CellValue) (second_at : ℕ) (second : Option CellValue) (fresh_at : ℕ) (fresh fresh_now : Option CellValue) (a b : ActorValue) (e : ErrandValue) (r : RowErrand) (gate y : ℕ)
    (p p2 c c2 : Block) (purse purse2 : PurseValue) (place to : ℕ)
    → CanDown h at parent place child_at child (two_if first_at first second_at second) (held_if fresh_at fresh) a → parent ≡ BlockCell p → child ≡ BlockCell c → HasRow a e r → r.way ≡ Carried gate y → purse.spares ≡ a.purse
    → WentDown h r.row place (blocks_if first second) p p2 c c2 purse purse2 fresh fresh_now a.boxes b.boxes to → b ≡ record a { purse = purse2.spares; boxes = b.boxes; errand = on_way e r (Carried gate to) }
    → Makes h Down (change at parent (BlockCell p2) ∷ change child_at child (BlockCell c2) ∷ (two_if first_at first second_at second ++ change_if fresh_at fresh fresh_now)) a b
down-makes other collects downs childs behinds h at parent child_at child first_at first second_at second fresh_at fresh fresh_now a b e r gate y p p2 c c2 purse purse2 place to due is_p is_c has carried same_purse went actor_is =
    let tail = two_if first_at first second_at second in
    let parent_is : block_in parent ≡ p = ap block_in is_p in
    let child_is : block_in child ≡ c = ap block_in is_c in
    let blocks_are : blocks_if first second ≡ blocks_of tail = held-blocks first_at first second_at second (tail-are due.entry.stamp (block_in child) tail due.behind).0 in
    let step : StepsDown h r.row place (blocks_of tail) p p2 c c2 purse purse2 went.entered = subst (λ (bs : List Block). StepsDown h r.row place bs p p2 c c2 purse purse2 went.entered) blocks_are went.step in
    let for_new = subst (λ (ss : List Spare). AreForNew (is_full (block_in child).body) 1 ss (held_if fresh_at fresh)) (sym same_purse) due.for_new in
    let filled = filled-down (is_full c.body) fresh_at fresh fresh_now purse.spares purse2.spares went.entered.fresh.items
    (new-down h r.row place (blocks_of tail) p p2 c c2 purse purse2 went.entered step)
    (subst (λ (z : Block). AreForNew (is_full z.body) 1 purse.spares (held_if fresh_at fresh)) child_is for_new) went.filled in
    let long = filled-length went.entered.fresh.items (change_if fresh_at fresh fresh_now) filled in
    let left = went.boxes_left in
    let does : DoesDown h (change at parent (BlockCell p2)) (change child_at child (BlockCell c2)) (tail ++ change_if fresh_at fresh fresh_now) a b = record {
      e = e;
      r = r;
      has = has;
      gate = gate;
      carried = carried ∙ ap (Carried gate) (must-at a e r gate y at has carried due.carried);
      parent = p;
      parent_now = p2;
      head = c;
      head_now = c2;
      place = place;
      picked = subst (λ (z : Block). IsPick h r.row.at (map (λ (x : Entry). x.set) (entries_in z.body)) place) parent_is (picked-for h at parent place child_at child tail (held_if fresh_at fresh) a e r due has);
      entry = due.entry;
      entry_at = ap (λ (z : Block). slice_get (entries_in z.body) place) (sym parent_is) ∙ due.entry_at;
      child = due.child_is;
      tail = tail;
      fresh = change_if fresh_at fresh fresh_now;
      others_are = refl;
      behind = subst (λ (z : Block). IsTailOf due.entry.stamp z tail) child_is due.behind;
      purse = purse;
      purse_was = same_purse;
      purse_now = purse2;
      entered = went.entered;
      step = step;
      turns_parent = record { was = is_p; is = refl };
      turns_head = record { was = is_c; is = refl };
      are_filled = filled;
      boxes = omega arith;
      actor_is = actor_is ∙ (λ k. record a { purse = purse2.spares; boxes = b.boxes; errand = on_way e r (Carried gate (went.at_is k)) });
    } in
    record { does = does; keeps = down-keeps other collects downs childs behinds h _ _ _ a b does }
