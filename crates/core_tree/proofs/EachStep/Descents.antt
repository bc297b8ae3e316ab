-- A row that goes down.
use Rattle.std.proofs.{Common.{◌≡◌, ◌≢◌, ℕ, zero, suc, ◌+◌, ◌*◌, ◌≤◌, Bool, true, false, cond, eqb, List, [], ◌∷◌, ◌++◌, length, map, Option, Some, None, IsSome, slice_get, refl, sym, ap, ◌∙◌, subst, ◌⊎◌, inl, inr, arith, append-nil}, lemmas.Bool.{eqb-true, eqb-false, ne_eqb}, lemmas.List.length-append}
use Rattle.std.specs.Option.{option_map_or}
use Rattle.dim_hierarchy.specs.{Dimension.Dimension, declared.row.Row.Row}
use Rattle.dc_node.specs.{Block.{is_full, entries_in}, declared.block.Block.Block}
use Rattle.cell_stock.specs.{Stock.PurseValue, declared.purse.Spare.Spare}
use Rattle.volap_cell.specs.link_descent.specs.{Descend.StepsDown, declared.entered.Entered.Entered, declared.entered.Fresh.Fresh}
use Rattle.list_words.specs.Counts.{Each}
use Rattle.list_words.proofs.{Each.{each-map, each-both, each-append, each-left, each-right}, Truth.{on_bool, eqb-self}}
use Rattle.volap_cell.specs.tree_shape.specs.{Laws.{OtherLaw, CollectOtherLaw, DownLaw, ChildLaw, BehindLaw}, Shape.{Shape, nodes}, Steps.{AreSpares, IsIdle, AfterStep}, Trees.{IsBelow, HasBehind, IsBehind, cells_behind}}
use Rattle.volap_cell.specs.{Cells.{CellValue, FreeCell, LedgerCell, StockCell, RegistryCell, ImageCell, DeskCell, MapCell, GateCell, BlockCell, block_in, has_block, gate_shard, phase_of, tag_of}, Errands.{RowWay, AtBlock, row_way, place_of, block_at, IsCarried}, Ghost.{Ghost, NotOfStock, AGate, InTree, InPurse}, Growing.table_of, Invariant.InvWith, Setting.Setting, Steps.{IsKept, Keeps}, Stocking.{cells_at, spent_of}, TreeKinds.{DoesDown, AreBehind, IsTailIf, blocks_of, most_behind}, Values.ActorValue, View.{View, view}, World.{World, Change, put, after, Agrees}, declared.errand.Way.TheVariants.Carried, declared.kind.Kind.TheVariants.Down}
use Rattle.volap_cell.proofs.{Actors.{row-at, row-taken, row-reads}, Cells.Numbers.tag-rest, Views.Frames.{AreAt, first, second}, Views.Seen.{beside, actor_beside}, Views.Touches.{IsBlank, tail-read, turned-block, others-blocks}}
use Rattle.core_tree.proofs.{Calls.NewBlocks.{AreIn, count-filled, filled-each, filled-made, filled-off, filled-at, in-fresh, in-spares, put-skip, put-behind, seen-stays}, Queries.TreeSteps.{TreeStep, IsOwn, tree-kept, with_shape, of_steps}, Rows.Carriers.{Carries, carries, purse-owned}, Stocks.Spares.{AreDistinct, spares-distinct, spares-left, distinct-right}, Stocks.Stamps.{KeepsStamp, StampsWith, Restamps, cuts-stamps, divides-once, restamps}}

-- a step down uses one spare for one new block, or none; the parent keeps its stamp
pub record UsesSpares (purse purse2 : List Spare) (items : List Fresh) (parent parent_now head head_now : Block) : Type 0 where
  pub used : List Spare
  pub few : length used ≤ 1
  pub purse_is : purse ≡ purse2 ++ used
  pub are_in : AreIn used items
  pub parent_stamp : parent_now.stamp ≡ parent.stamp
  pub stamps : StampsWith used items head head_now

pub spares-down : (h : List Dimension) (row : Row) (place : ℕ) (tail : List Block) (parent parent_now head head_now : Block) (purse purse_now : PurseValue) (entered : Entered)
    → StepsDown h row place tail parent parent_now head head_now purse purse_now entered → UsesSpares purse.spares purse_now.spares entered.fresh.items parent parent_now head head_now
spares-down h row place tail parent parent_now head head_now purse purse_now entered step = elim step.step [
  | inl w ↦ record {
    used = [];
    few = omega arith;
    purse_is = ap (λ (p : PurseValue). p.spares) (sym w.2.purse_is) ∙ sym (append-nil purse_now.spares);
    are_in = subst (AreIn []) (sym w.2.fresh) tt;
    parent_stamp = ap (λ (x : Block). x.stamp) w.1.parent_is;
    stamps = inl (refl, ap (λ (x : Block). x.stamp) w.2.head_is);
  }
  | inr more ↦ elim more [
    | inl w ↦ record {
      used = w.2.spare ∷ [];
      few = omega arith;
      purse_is = w.2.purse_is;
      are_in = subst (AreIn (w.2.spare ∷ [])) (sym w.2.fresh) (refl, tt);
      parent_stamp = ap (λ (x : Block). x.stamp) w.1.parent_is;
      stamps = inr (divides-once w.2.spare entered.fresh.items head head_now w.2.new w.2.fresh (ap (λ (x : Block). x.stamp) w.2.halved.head_is) (ap (λ (x : Block). x.stamp) w.2.halved.new_is));
    }
    | inr w ↦ record {
      used = w.spare ∷ [];
      few = omega arith;
      purse_is = w.cuts.purse_is;
      are_in = subst (AreIn (w.spare ∷ [])) (sym w.fresh) (refl, tt);
      parent_stamp = ap (λ (x : Block). x.stamp) w.parent_is;
      stamps = inr (let cut = cuts-stamps h tail step.entry w.left w.right head head_now purse purse_now w.spare w.new w.cuts in divides-once w.spare entered.fresh.items head head_now w.new w.fresh cut.0 cut.1);
    }
  ]
]

-- Small facts.

pub append-cancel : {A : Type 0} (xs ys zs : List A) → xs ++ ys ≡ xs ++ zs → ys ≡ zs
append-cancel [] ys zs e = e
append-cancel (x ∷ xs) ys zs e = append-cancel xs ys zs (let k : xs ++ ys ≡ xs ++ zs = cc in k)

-- a gate has a phase
pub gate-phase : (c : CellValue) → IsSome (gate_shard c) → phase_of c ≢ None
gate-phase (GateCell g) e n = cc
gate-phase FreeCell e n = cc
gate-phase (LedgerCell l) e n = cc
gate-phase (StockCell s) e n = cc
gate-phase (RegistryCell r) e n = cc
gate-phase (ImageCell s i) e n = cc
gate-phase (DeskCell s d) e n = cc
gate-phase (MapCell w m) e n = cc
gate-phase (BlockCell b) e n = cc

no-gate : (o : Option ℕ) → (IsSome o → ⊥) → o ≡ None
no-gate None f = refl
no-gate (Some x) f = absurd (f refl)

-- The blocks behind a head.

pub tail-blocks : (blocks : ℕ → Block) (cs : List Change) → Each (λ c. blocks c.number ≡ block_in c.before) cs → map blocks (map (λ (c : Change). c.number) cs) ≡ blocks_of cs
tail-blocks blocks [] e = refl
tail-blocks blocks (c ∷ cs) e = ap (λ (b : Block). b ∷ map blocks (map (λ (c : Change). c.number) cs)) e.0 ∙ ap (λ (bs : List Block). block_in c.before ∷ bs) (tail-blocks blocks cs e.1)

-- they are those that right links lead to
pub tail-numbers : (blocks : ℕ → Block) (expected most y : ℕ) (block : Block) (cs : List Change) → blocks y ≡ block → Each (λ c. blocks c.number ≡ block_in c.before) cs → AreBehind expected most block cs
    → map (λ (c : Change). c.number) cs ≡ cells_behind blocks expected most y
tail-numbers blocks expected zero y block [] is at b = refl
tail-numbers blocks expected (suc n) y block [] is at b = elim b [
  | inl z ↦ absurd (omega arith)
  | inr e ↦ (let q : eqb (blocks y).stamp expected ≡ true = ap (λ (k : Block). eqb k.stamp expected) is ∙ ap (λ (k : ℕ). eqb k expected) e ∙ eqb-self expected in
      sym (ap (λ (k : Bool). cond k [] (option_map_or (λ z. z ∷ cells_behind blocks expected n z) (blocks y).right [])) q))
]
tail-numbers blocks expected zero y block (c ∷ cs) is at b = absurd (let (left, more, off, right, read, behind) = b in omega arith)
tail-numbers blocks expected (suc n) y block (c ∷ cs) is at b =
    let (left, more, off, right, read, behind) = b in
    let same : left ≡ n = omega arith in
    let q : eqb (blocks y).stamp expected ≡ false = ap (λ (k : Block). eqb k.stamp expected) is ∙ ne_eqb block.stamp expected off in
    let next : (blocks y).right ≡ Some c.number = ap (λ (k : Block). k.right) is ∙ right in
    let ih = tail-numbers blocks expected n c.number (block_in c.before) cs at.0 at.1 (subst (λ m. AreBehind expected m (block_in c.before) cs) same behind) in
    ap (λ (ns : List ℕ). c.number ∷ ns) ih
    ∙ sym (ap (λ (k : Bool). cond k [] (option_map_or (λ z. z ∷ cells_behind blocks expected n z) (blocks y).right [])) q
    ∙ ap (λ (o : Option ℕ). option_map_or (λ z. z ∷ cells_behind blocks expected n z) o []) next)

pub each-numbers : (P : ℕ → Type 0) (cs : List Change) → Each P (map (λ (c : Change). c.number) cs) → Each (λ c. P c.number) cs
each-numbers P [] e = tt
each-numbers P (c ∷ cs) e = (e.0, each-numbers P cs e.1)

behind-made : (expected most : ℕ) (block : Block) (cs : List Change) → AreBehind expected most block cs → Each (λ c. has_block c.now ≡ true) cs
behind-made expected most block [] b = tt
behind-made expected most block (c ∷ cs) b = let (left, more, off, right, read, behind) = b in (ap has_block (read.same ∙ read.was), behind-made expected left (block_in c.before) cs behind)

pub tail-made : (full : Bool) (expected : ℕ) (head : Block) (cs : List Change) → IsTailIf full expected head cs → Each (λ c. has_block c.now ≡ true) cs
tail-made true expected head cs t = behind-made expected most_behind head cs t
tail-made false expected head cs t = subst (Each (λ (c : Change). has_block c.now ≡ true)) (sym t) tt

module _ (downs : DownLaw) (childs : ChildLaw) (behinds : BehindLaw) (p c : Change) (others : List Change) (b : ActorValue) (s : Setting) (w : World) (n : ℕ) (g : Ghost) (i : InvWith s (view s w) g)
    (ag : Agrees w (p ∷ c ∷ others) n (w.actors n)) (d : DoesDown s.hierarchy p c others (w.actors n) b) where
  abbrev v : View
  v = view s w

  abbrev cs : List Change
  cs = p ∷ c ∷ others

  abbrev w2 : World
  w2 = after w cs n b

  abbrev r : ℕ
  r = d.r.row.no

  abbrev gate : ℕ
  gate = d.gate

  abbrev shape : Shape
  shape = g.shape d.gate

  at-block : place_of d.r.way ≡ AtBlock gate p.number
  at-block = ap place_of d.carried

  was : v.ways n ≡ Some (row_way d.e d.r)
  was = row-at d.has

  here : Carries s v g gate p.number (row_way d.e d.r)
  here = carries s v g refl i n gate p.number (row_way d.e d.r) was at-block

  ats : AreAt w.cells (d.tail ++ d.fresh)
  ats = subst (AreAt w.cells) d.others_are ag.cells.1.1

  -- the cells before the step

  p-was : v.blocks p.number ≡ d.parent
  p-was = ap block_in (ag.cells.0 ∙ d.turns_parent.was)

  c-was : v.blocks c.number ≡ d.head
  c-was = ap block_in (ag.cells.1.0 ∙ d.turns_head.was)

  tail-at : Each (λ (x : Change). v.blocks x.number ≡ block_in x.before) d.tail
  tail-at = each-map (λ (x : Change). w.cells x.number ≡ x.before) (λ (x : Change). v.blocks x.number ≡ block_in x.before) d.tail (λ x e. ap block_in e) (each-left (λ (x : Change). w.cells x.number ≡ x.before) d.tail d.fresh ats)

  entry-at : slice_get (entries_in (v.blocks p.number).body) d.place ≡ Some d.entry
  entry-at = ap (λ (x : Block). slice_get (entries_in x.body) d.place) p-was ∙ d.entry_at

  below : IsBelow (cells_at v.blocks v.trees gate) shape d.entry.child (shape.level p.number)
  below = childs (table_of s v.row) (cells_at v.blocks v.trees gate) shape p.number d.place d.entry here.tree here.inside here.apart entry-at

  child-inside : shape.inside c.number ≡ true
  child-inside = ap shape.inside (sym d.child) ∙ below.inside

  child-owner : g.owner c.number ≡ InTree gate
  child-owner = (i.stocking.tree gate c.number here.whole child-inside (λ e. below.block (d.child ∙ e))).0

  two : c.number ≢ p.number
  two e = (let k : shape.level c.number ≡ shape.level p.number = ap shape.level e in let l : shape.level d.entry.child ≡ shape.level c.number = ap shape.level d.child in let m = below.below in absurd (omega arith))

  -- behind the head

  found : is_full d.head.body ≡ true → map (λ (x : Change). x.number) d.tail ≡ cells_behind v.blocks d.entry.stamp 2 d.entry.child
  found q = tail-numbers v.blocks d.entry.stamp 2 d.entry.child d.head d.tail (ap v.blocks d.child ∙ c-was) tail-at (subst (λ (k : Bool). IsTailIf k d.entry.stamp d.head d.tail) q d.behind)

  has-behind : HasBehind (cells_at v.blocks v.trees gate) shape d.entry 2
  has-behind = behinds (table_of s v.row) (cells_at v.blocks v.trees gate) shape p.number d.place 2 d.entry here.tree here.inside here.apart entry-at

  tail-owner : Each (λ (x : Change). g.owner x.number ≡ InTree gate) d.tail
  tail-owner = on_bool (is_full d.head.body)
      (λ q. each-numbers (λ y. g.owner y ≡ InTree gate) d.tail (subst (Each (λ y. g.owner y ≡ InTree gate)) (sym (found q))
      (each-map (IsBehind (cells_at v.blocks v.trees gate) shape d.entry.child) (λ y. g.owner y ≡ InTree gate) (cells_behind v.blocks d.entry.stamp 2 d.entry.child)
      (λ y e. (i.stocking.tree gate y here.whole e.inside e.block).0) has-behind.behind)))
      (λ q. let none : d.tail ≡ [] = subst (λ (k : Bool). IsTailIf k d.entry.stamp d.head d.tail) q d.behind in subst (Each (λ (x : Change). g.owner x.number ≡ InTree gate)) (sym none) tt)

  -- nobody is at the child
  idle : IsIdle shape c.number
  idle q pl ca at =
      let k = i.turning.carried gate q (gate-phase (w.cells gate) here.whole.0) pl ca in
      let o = i.turning.carrying k.0 gate k.1 k.2 k.3 k.5 in
      let there : k.1 ≡ c.number = sym o.2 ∙ ap shape.at k.4 ∙ at in
      let place : block_at k.2.place ≡ Some c.number = ap block_at k.5 ∙ ap Some there in
      on_bool (eqb k.0 n)
      (λ e. let same : Some k.2 ≡ Some (row_way d.e d.r) = sym k.3 ∙ ap v.ways (eqb-true _ _ e) ∙ was in
      let mine : k.2 ≡ row_way d.e d.r = cc in
      let z : AtBlock gate k.1 ≡ AtBlock gate p.number = sym k.5 ∙ ap (λ (u : RowWay). u.place) mine ∙ at-block in
      two (sym there ∙ (let y : k.1 ≡ p.number = cc in y)))
      (λ e. (ag.free k.0 (eqb-false _ _ e)).1.0 (subst (λ (u : Option RowWay). IsCarried u c.number) (sym k.3) place))

  -- the new blocks

  uses : UsesSpares d.purse.spares d.purse_now.spares d.entered.fresh.items d.parent d.parent_now d.head d.head_now
  uses = spares-down s.hierarchy d.r.row d.place (blocks_of d.tail) d.parent d.parent_now d.head d.head_now d.purse d.purse_now d.entered d.step

  spares : AreSpares shape (nodes (cells_at v.blocks v.trees gate)) d.purse.spares
  spares = subst (AreSpares shape (nodes (cells_at v.blocks v.trees gate))) (sym d.purse_was)
      (spares-left shape (nodes (cells_at v.blocks v.trees gate)) (w.actors n).purse (spent_of (v.jobs n)) (i.stamping.spare n gate here.whole))

  distinct : AreDistinct uses.used
  distinct = distinct-right d.purse_now.spares uses.used (subst AreDistinct uses.purse_is (spares-distinct shape (nodes (cells_at v.blocks v.trees gate)) d.purse.spares spares))

  used-owner : Each (λ (x : Spare). g.owner x.cell ≡ InPurse n) uses.used
  used-owner = each-right (λ (x : Spare). g.owner x.cell ≡ InPurse n) d.purse_now.spares uses.used
      (subst (Each (λ (x : Spare). g.owner x.cell ≡ InPurse n)) (sym d.purse_was ∙ uses.purse_is) (purse-owned s v g i n))

  fresh-owner : Each (λ (x : Change). g.owner x.number ≡ InPurse n) d.fresh
  fresh-owner = filled-each (λ y. g.owner y ≡ InPurse n) uses.used d.entered.fresh.items d.fresh uses.are_in d.are_filled used-owner

  -- a cell of the purse is no other changed one
  apart-from : (y : ℕ) → g.owner y ≡ InPurse n → put cs w.cells y ≡ put d.fresh w.cells y
  apart-from y own =
      let away : (z : ℕ) → g.owner z ≡ InTree gate → y ≢ z = (λ z t e. let k : InPurse n ≡ InTree gate = sym own ∙ ap g.owner e ∙ t in cc) in
      put-skip p (c ∷ others) w.cells y (away p.number here.owner) ∙ put-skip c others w.cells y (away c.number child-owner)
      ∙ ap (λ (xs : List Change). put xs w.cells y) d.others_are
      ∙ put-behind d.tail d.fresh w.cells y (each-map (λ (x : Change). g.owner x.number ≡ InTree gate) (λ (x : Change). y ≢ x.number) d.tail (λ x t. away x.number t) tail-owner)

  filled : Each (λ (x : Fresh). put cs w.cells x.cell ≡ BlockCell x.block) d.entered.fresh.items
  filled = each-both (λ (x : Fresh). g.owner x.cell ≡ InPurse n) (λ (x : Fresh). put d.fresh w.cells x.cell ≡ BlockCell x.block) (λ (x : Fresh). put cs w.cells x.cell ≡ BlockCell x.block) d.entered.fresh.items
      (λ x own is. apart-from x.cell own ∙ is) (in-fresh (λ y. g.owner y ≡ InPurse n) uses.used d.entered.fresh.items uses.are_in used-owner)
      (filled-at w.cells uses.used d.entered.fresh.items d.fresh uses.are_in d.are_filled distinct)

  blank : Each (λ (x : Change). IsBlank x.before) d.fresh
  blank = each-both (λ (x : Change). g.owner x.number ≡ InPurse n) (λ (x : Change). w.cells x.number ≡ x.before) (λ (x : Change). IsBlank x.before) d.fresh
      (λ x own is.
      let stock = (i.stocking.within x.number (λ z. let k : InPurse n ≡ NotOfStock = sym own ∙ z in cc)).0 in
      record {
        tag = ap tag_of (sym is) ∙ i.numbering.tag x.number ∙ tag-rest s x.number stock;
        no_gate = ap gate_shard (sym is) ∙ no-gate (v.gates x.number) (λ z. let k : InPurse n ≡ AGate = sym own ∙ i.stocking.gate x.number z in cc);
      })
      fresh-owner (each-right (λ (x : Change). w.cells x.number ≡ x.before) d.tail d.fresh ats)

  -- the law

  p-now : (view s w2).blocks p.number ≡ d.parent_now
  p-now = ap block_in (first p (c ∷ others) w.cells ∙ d.turns_parent.is)

  c-now : (view s w2).blocks c.number ≡ d.head_now
  c-now = ap block_in (second p c others w.cells two ∙ d.turns_head.is)

  step : StepsDown s.hierarchy (v.row r) d.place (map v.blocks (map (λ (x : Change). x.number) d.tail)) (v.blocks p.number) ((view s w2).blocks p.number) (v.blocks d.entry.child) ((view s w2).blocks d.entry.child) d.purse d.purse_now d.entered
  step =
      let k0 = subst (λ (x : Row). StepsDown s.hierarchy x d.place (blocks_of d.tail) d.parent d.parent_now d.head d.head_now d.purse d.purse_now d.entered) (sym here.known) d.step in
      let k1 = subst (λ (x : List Block). StepsDown s.hierarchy (v.row r) d.place x d.parent d.parent_now d.head d.head_now d.purse d.purse_now d.entered) (sym (tail-blocks v.blocks d.tail tail-at)) k0 in
      let k2 = subst (λ (x : Block). StepsDown s.hierarchy (v.row r) d.place (map v.blocks (map (λ (x : Change). x.number) d.tail)) x d.parent_now d.head d.head_now d.purse d.purse_now d.entered) (sym p-was) k1 in
      let k3 = subst (λ (x : Block). StepsDown s.hierarchy (v.row r) d.place (map v.blocks (map (λ (x : Change). x.number) d.tail)) (v.blocks p.number) x d.head d.head_now d.purse d.purse_now d.entered) (sym p-now) k2 in
      let k4 = subst (λ (x : Block). StepsDown s.hierarchy (v.row r) d.place (map v.blocks (map (λ (x : Change). x.number) d.tail)) (v.blocks p.number) ((view s w2).blocks p.number) x d.head_now d.purse d.purse_now d.entered) (sym (ap v.blocks d.child ∙ c-was)) k3 in
      subst (λ (x : Block). StepsDown s.hierarchy (v.row r) d.place (map v.blocks (map (λ (x : Change). x.number) d.tail)) (v.blocks p.number) ((view s w2).blocks p.number) (v.blocks d.entry.child) x d.purse d.purse_now d.entered) (sym (ap (view s w2).blocks d.child ∙ c-now)) k4

  others-off : {A : Type 0} (f : CellValue → A) (y : ℕ) → y ≢ p.number → y ≢ d.entry.child → Each (λ (x : Fresh). y ≢ x.cell) d.entered.fresh.items → f (put cs w.cells y) ≡ f (w.cells y)
  others-off f y np nc nf = seen-stays f cs w.cells y ag.cells (
    inl np,
    (
      inl (λ e. nc (e ∙ sym d.child)),
      subst (Each (λ (x : Change). (y ≢ x.number) ⊎ (f x.now ≡ f x.before))) (sym d.others_are)
          (each-append (λ (x : Change). (y ≢ x.number) ⊎ (f x.now ≡ f x.before)) d.tail d.fresh
          (each-map (λ (x : Change). x.now ≡ x.before) (λ (x : Change). (y ≢ x.number) ⊎ (f x.now ≡ f x.before)) d.tail (λ x e. inr (ap f e)) (tail-read d.entry.stamp d.head d.tail d.behind))
          (each-map (λ (x : Change). y ≢ x.number) (λ (x : Change). (y ≢ x.number) ⊎ (f x.now ≡ f x.before)) d.fresh (λ x e. inl e) (filled-off y d.entered.fresh.items d.fresh d.are_filled nf))),
    ),
  )

  -- the new blocks as they stand
  filled-blocks : Each (λ (x : Fresh). (view s w2).blocks x.cell ≡ x.block) d.entered.fresh.items
  filled-blocks = each-map (λ (x : Fresh). put cs w.cells x.cell ≡ BlockCell x.block) (λ (x : Fresh). block_in (put cs w.cells x.cell) ≡ x.block) d.entered.fresh.items (λ x e. ap block_in e) filled

  -- blocks but the head and the new ones keep their stamps
  keeps-stamp : (y : ℕ) → y ≢ c.number → Each (λ (x : Spare). y ≢ x.cell) uses.used → (view s w2).made y ≡ true → KeepsStamp v.made v.blocks (view s w2).blocks y
  keeps-stamp y nc nf made = on_bool (eqb y p.number)
      (λ q. let e = eqb-true y p.number q in record {
        made_before = ap v.made e ∙ ap has_block (ag.cells.0 ∙ d.turns_parent.was);
        same = ap (λ (z : ℕ). ((view s w2).blocks z).stamp) e ∙ ap (λ (x : Block). x.stamp) p-now ∙ uses.parent_stamp ∙ ap (λ (x : Block). x.stamp) (sym p-was) ∙ ap (λ (z : ℕ). (v.blocks z).stamp) (sym e);
      })
      (λ q.
      let np = eqb-false y p.number q in
      let off = in-fresh (λ z. y ≢ z) uses.used d.entered.fresh.items uses.are_in nf in
      let other : y ≢ d.entry.child = (λ e. nc (e ∙ d.child)) in
      record { made_before = sym (others-off has_block y np other off) ∙ made; same = ap (λ (x : Block). x.stamp) (others-off block_in y np other off) })

  stamps : Restamps shape.inside v.made (view s w2).made v.blocks (view s w2).blocks uses.used
  stamps =
      let c_stands : v.made c.number ≡ true = ap has_block (ag.cells.1.0 ∙ d.turns_head.was) in
      let with_was = subst (λ (x : Block). StampsWith uses.used d.entered.fresh.items x d.head_now) (sym c-was) uses.stamps in
      let with_now = subst (λ (x : Block). StampsWith uses.used d.entered.fresh.items (v.blocks c.number) x) (sym c-now) with_was in
      restamps shape.inside v.made (view s w2).made v.blocks (view s w2).blocks uses.used d.entered.fresh.items c.number with_now child-inside c_stands
      (each-map (λ (x : Spare). g.owner x.cell ≡ InPurse n) (λ (x : Spare). c.number ≢ x.cell) uses.used (λ x own e. let k : InTree gate ≡ InPurse n = sym child-owner ∙ ap g.owner e ∙ own in cc) used-owner)
      distinct filled-blocks keeps-stamp

  law : AfterStep (table_of s v.row) shape r d.entered.at (shape.level (shape.at r)) (cells_at v.blocks v.trees gate) (cells_at (view s w2).blocks v.trees gate) d.purse.spares d.purse_now.spares
  law = downs (table_of s v.row) shape r (cells_at v.blocks v.trees gate) (cells_at (view s w2).blocks v.trees gate) d.purse d.purse_now d.entered here.tree (record {
    parent = p.number;
    place = d.place;
    entry = d.entry;
    tail = map (λ (x : Change). x.number) d.tail;
    placed = here.in_tree.placed;
    carried = here.carried;
    at = here.at;
    entry_at = entry-at;
    behind = λ full. found (ap (λ (x : Block). is_full x.body) (sym (ap v.blocks d.child ∙ c-was)) ∙ full) ∙ sym has-behind.found;
    step = step;
    idle = subst (IsIdle shape) (sym d.child) idle;
    spares = spares;
    filled = filled-blocks;
    other = others-off block_in;
    gate_cell = refl;
    gate = record { root = refl; height = refl };
  })

  down-step : TreeStep s w n cs b g
  down-step =
      let purse_now : b.purse ≡ d.purse_now.spares = ap (λ (a : ActorValue). a.purse) d.actor_is in
      let same_used : law.used ≡ uses.used = append-cancel d.purse_now.spares law.used uses.used (sym law.purse_is ∙ uses.purse_is) in
      let long : length d.purse.spares ≡ length d.purse_now.spares + length uses.used = ap (λ (ss : List Spare). length ss) uses.purse_is ∙ length-append d.purse_now.spares uses.used in
      let had : length d.purse.spares ≡ length (w.actors n).purse = ap (λ (ss : List Spare). length ss) d.purse_was in
      let left : length b.purse ≡ length d.purse_now.spares = ap (λ (ss : List Spare). length ss) purse_now in
      let count = count-filled uses.used d.entered.fresh.items d.fresh uses.are_in d.are_filled in
      let few = uses.few in
      let boxes = d.boxes in
      let both = i.turning.enough n gate p.number (row_way d.e d.r) was at-block in
      let level : shape.level p.number ≤ length (w.actors n).purse = both.0 in
      let boxed : 2 * length (w.actors n).purse + 1 ≤ (w.actors n).boxes = both.1 in
      let lower = law.level in
      let top : shape.level (shape.at r) ≡ shape.level p.number = ap shape.level here.at in
      record {
        e = d.e;
        r = d.r;
        has = d.has;
        gate = gate;
        block = p.number;
        carried = d.carried;
        way = Carried gate d.entered.at;
        errand = ap (λ (a : ActorValue). a.errand) d.actor_is;
        rest = ap (actor_beside of_steps) d.actor_is ∙ (λ k. record (actor_beside of_steps (w.actors n)) { taken = row-taken (Carried gate d.entered.at) d.has k; reading = row-reads (Carried gate d.entered.at) d.has k });
        cells = (
          turned-block of_steps refl d.turns_parent,
          (
            turned-block of_steps refl d.turns_head,
            subst (Each (λ (x : Change). beside of_steps x.now ≡ beside of_steps x.before)) (sym d.others_are) (others-blocks of_steps refl d.entered.fresh.items d.tail d.fresh (tail-read d.entry.stamp d.head d.tail d.behind) d.are_filled blank),
          ),
        );
        made = (
          ap has_block d.turns_parent.is,
          (
            ap has_block d.turns_head.is,
            subst (Each (λ (x : Change). has_block x.now ≡ true)) (sym d.others_are)
                (each-append (λ (x : Change). has_block x.now ≡ true) d.tail d.fresh (tail-made (is_full d.head.body) d.entry.stamp d.head d.tail d.behind) (filled-made d.entered.fresh.items d.fresh d.are_filled)),
          ),
        );
        own = (
          inl here.owner,
          (
            inl child-owner,
            subst (Each (IsOwn g.owner gate n)) (sym d.others_are) (each-append (IsOwn g.owner gate n) d.tail d.fresh
                (each-map (λ (x : Change). g.owner x.number ≡ InTree gate) (IsOwn g.owner gate n) d.tail (λ x e. inl e) tail-owner)
                (each-map (λ (x : Change). g.owner x.number ≡ InPurse n) (IsOwn g.owner gate n) d.fresh (λ x e. inr (inl e)) fresh-owner)),
          ),
        );
        shape = law.shape;
        used = law.used;
        purse = sym d.purse_was ∙ law.purse_is ∙ ap (λ (ss : List Spare). ss ++ law.used) (sym purse_now);
        fresh = subst (Each (λ (x : Spare). has_block (put cs w.cells x.cell) ≡ true)) (sym same_used)
            (in-spares (λ y. has_block (put cs w.cells y) ≡ true) uses.used d.entered.fresh.items uses.are_in
            (each-map (λ (x : Fresh). put cs w.cells x.cell ≡ BlockCell x.block) (λ (x : Fresh). has_block (put cs w.cells x.cell) ≡ true) d.entered.fresh.items (λ x e. ap has_block e) filled));
        stamps = subst (λ (ss : List Spare). Restamps shape.inside v.made (view s w2).made v.blocks (view s w2).blocks ss) (sym same_used) stamps;
        moved = record {
          tree = law.tree;
          here = law.row.placed;
          placed = law.row.others_placed;
          carried = law.row.others_carried;
          at = law.row.others_at;
          levels = law.levels;
          inside = law.inside;
          filled = law.filled;
          spares = law.spares;
          queries = law.queries;
        };
        went = record { gate = refl; carried = law.row.carried; at = law.row.at; level = omega arith; boxed = omega arith };
        inside = λ x. refl;
        passed = refl;
        ahead = λ far. refl;
        less = (let k : (with_shape g.shape gate law.shape gate).level d.entered.at ≡ law.shape.level d.entered.at = ap (λ (q : Bool). (cond q law.shape (g.shape gate)).level d.entered.at) (eqb-self gate) in omega arith);
      }

down-keeps-at : OtherLaw → CollectOtherLaw → DownLaw → ChildLaw → BehindLaw → (p c : Change) (others : List Change) (b : ActorValue) (s : Setting) (w : World) (n : ℕ) (g : Ghost) → InvWith s (view s w) g
    → Agrees w (p ∷ c ∷ others) n (w.actors n) → DoesDown s.hierarchy p c others (w.actors n) b → IsKept s Down n w (after w (p ∷ c ∷ others) n b) g
down-keeps-at other collects downs childs behinds p c others b s w n g i ag d =
    tree-kept s w n (p ∷ c ∷ others) b g other collects i ag (down-step downs childs behinds p c others b s w n g i ag d) Down d tt

pub down-keeps : OtherLaw → CollectOtherLaw → DownLaw → ChildLaw → BehindLaw → (h : List Dimension) (p c : Change) (others : List Change) (a b : ActorValue) (d : DoesDown h p c others a b) → Keeps h Down (p ∷ c ∷ others) a b d
down-keeps other collects downs childs behinds h p c others a b d s w n g same i ag sight =
    down-keeps-at other collects downs childs behinds p c others b s w n g i (record { cells = ag.cells; actor_is = refl; free = λ x ne. ag.free x ne })
    (subst (λ (z : ActorValue). DoesDown s.hierarchy p c others z b) (sym ag.actor_is) (subst (λ (z : List Dimension). DoesDown z p c others a b) (sym same) d))
