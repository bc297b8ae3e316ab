-- A row that is put in its leaf.
use Rattle.std.proofs.{Common.{◌≡◌, ℕ, ◌+◌, ◌<◌, ◌≤◌, true, false, eqb, List, [], ◌∷◌, ◌++◌, Some, refl, sym, ap, ◌∙◌, subst, inl, arith, append-nil}, lemmas.Bool.{eqb-true, eqb-false}}
use Rattle.dim_hierarchy.specs.{Dimension.Dimension, declared.row.Row.Row}
use Rattle.dc_node.specs.{Block.{is_leaf, is_full, rows_in, with_rows}, declared.block.Block.Block, declared.block.Body.TheVariants.Rows}
use Rattle.volap_cell.specs.tree_shape.specs.{Laws.{OtherLaw, PutLaw, CollectOtherLaw}, Shape.Shape, Steps.AfterPut}
use Rattle.list_words.proofs.Truth.{on_bool}
use Rattle.volap_cell.specs.{Cells.{CellValue, BlockCell, block_in, has_block}, Errands.{AtBlock, row_way, way_of, place_of}, Ghost.Ghost, Growing.table_of, Invariant.InvWith, Setting.Setting, Steps.{IsHere, IsKept, Keeps, Makes}, Stocking.cells_at, TreeKinds.{DoesPutInLeaf, HasRow, on_way}, Values.{ActorValue, ErrandValue}, View.{View, view}, World.{World, Change, change, held, put, after, Agrees}, declared.errand.RowErrand.RowErrand, declared.errand.Way.TheVariants.{Carried, Put}, declared.kind.Kind.TheVariants.PutInLeaf}
use Rattle.volap_cell.proofs.{Actors.{row-at, row-taken, row-reads}, Views.Frames.{first, elsewhere}, Views.Seen.actor_beside, Views.Touches.turned-block}
use Rattle.core_tree.specs.Due.{CanPutInLeaf}
use Rattle.core_tree.proofs.{Queries.TreeSteps.{TreeStep, tree-kept, of_steps}, Rows.Carriers.{Carries, carries, carried-way, must-at}}

module _ (puts : PutLaw) (c : Change) (b : ActorValue) (s : Setting) (w : World) (n : ℕ) (g : Ghost) (i : InvWith s (view s w) g) (ag : Agrees w (c ∷ []) n (w.actors n)) (d : DoesPutInLeaf c (w.actors n) b) where
  abbrev v : View
  v = view s w

  abbrev r : ℕ
  r = d.r.row.no

  abbrev shape : Shape
  shape = g.shape d.gate

  at-block : place_of d.r.way ≡ AtBlock d.gate c.number
  at-block = ap place_of d.carried

  here : Carries s v g d.gate c.number (row_way d.e d.r)
  here = carries s v g refl i n d.gate c.number (row_way d.e d.r) (row-at d.has) at-block

  was : v.blocks c.number ≡ d.block
  was = ap block_in (ag.cells.0 ∙ d.last.was)

  is : (view s (after w (c ∷ []) n b)).blocks c.number ≡ with_rows d.block (rows_in d.block.body ++ d.r.row ∷ [])
  is = ap block_in (first c [] w.cells ∙ d.last.is)

  law : AfterPut (table_of s v.row) shape r (cells_at v.blocks v.trees d.gate) (cells_at (view s (after w (c ∷ []) n b)).blocks v.trees d.gate)
  law = puts (table_of s v.row) shape r (cells_at v.blocks v.trees d.gate) (cells_at (view s (after w (c ∷ []) n b)).blocks v.trees d.gate) here.tree (record {
    leaf = c.number;
    placed = here.in_tree.placed;
    carried = here.carried;
    at = here.at;
    kind = ap (λ (x : Block). is_leaf x.body) was ∙ d.leaf;
    stamp = ap (λ (x : Block). x.stamp) is ∙ ap (λ (x : Block). x.stamp) (sym was);
    right = ap (λ (x : Block). x.right) is ∙ ap (λ (x : Block). x.right) (sym was);
    body = ap (λ (x : Block). x.body) is ∙ ap (λ (x : Block). Rows (record { items = rows_in x.body ++ d.r.row ∷ [] })) (sym was)
        ∙ ap (λ (x : Row). Rows (record { items = rows_in (v.blocks c.number).body ++ x ∷ [] })) (sym here.known);
    other = λ y ne. ap block_in (elsewhere (c ∷ []) w.cells y (ne, tt));
    gate_cell = refl;
    gate = record { root = refl; height = refl };
  })

  put-step : TreeStep s w n (c ∷ []) b g
  put-step = record {
    e = d.e;
    r = d.r;
    has = d.has;
    gate = d.gate;
    block = c.number;
    carried = d.carried;
    way = Put d.gate;
    errand = ap (λ (a : ActorValue). a.errand) d.actor_is;
    rest = ap (actor_beside of_steps) d.actor_is ∙ (λ k. record (actor_beside of_steps (w.actors n)) { taken = row-taken (Put d.gate) d.has k; reading = row-reads (Put d.gate) d.has k });
    cells = (turned-block of_steps refl d.last, tt);
    made = (ap has_block d.last.is, tt);
    own = (inl here.owner, tt);
    shape = law.shape;
    used = [];
    purse = sym (append-nil b.purse ∙ ap (λ (a : ActorValue). a.purse) d.actor_is);
    fresh = tt;
    stamps = inl (λ y made. on_bool (eqb y c.number)
        (λ q. let e = eqb-true y c.number q in record {
          made_before = ap v.made e ∙ ap has_block (ag.cells.0 ∙ d.last.was);
          same = ap (λ (z : ℕ). ((view s (after w (c ∷ []) n b)).blocks z).stamp) e ∙ ap (λ (x : Block). x.stamp) is ∙ ap (λ (x : Block). x.stamp) (sym was) ∙ ap (λ (z : ℕ). (v.blocks z).stamp) (sym e);
        })
        (λ q. let off = elsewhere (c ∷ []) w.cells y (eqb-false y c.number q, tt) in record { made_before = ap has_block (sym off) ∙ made; same = ap (λ x. (block_in x).stamp) off }));
    moved = record {
      tree = law.tree;
      here = law.placed r ∙ here.in_tree.placed;
      placed = λ q ne. law.placed q;
      carried = law.carried;
      at = λ q ne pl ca. law.at q;
      levels = λ y yi ne. law.levels y;
      inside = λ y o. law.inside y;
      filled = tt;
      spares = λ q o k. law.spares q k;
      queries = λ must fits items counted o u k. law.queries must fits items counted k;
    };
    went = (refl, law.settled);
    inside = λ x. refl;
    passed = refl;
    ahead = λ far. refl;
    less = omega arith;
  }

put-keeps-at : OtherLaw → CollectOtherLaw → PutLaw → (c : Change) (b : ActorValue) (s : Setting) (w : World) (n : ℕ) (g : Ghost) → InvWith s (view s w) g → Agrees w (c ∷ []) n (w.actors n) → DoesPutInLeaf c (w.actors n) b
    → IsKept s PutInLeaf n w (after w (c ∷ []) n b) g
put-keeps-at other collects puts c b s w n g i ag d = tree-kept s w n (c ∷ []) b g other collects i ag (put-step puts c b s w n g i ag d) PutInLeaf d tt

pub put-keeps : OtherLaw → CollectOtherLaw → PutLaw → (h : List Dimension) (c : Change) (a b : ActorValue) (d : DoesPutInLeaf c a b) → Keeps h PutInLeaf (c ∷ []) a b d
put-keeps other collects puts h c a b d s w n g same i ag sight =
    put-keeps-at other collects puts c b s w n g i (record { cells = ag.cells; actor_is = refl; free = λ x ne. ag.free x ne }) (subst (λ (z : ActorValue). DoesPutInLeaf c z b) (sym ag.actor_is) d)

-- The call.

-- what it did, where it was given a leaf of the row that its actor carries
pub put-makes : OtherLaw → CollectOtherLaw → PutLaw → (h : List Dimension) (at : ℕ) (cell : CellValue) (block now : Block) (a b : ActorValue) (e : ErrandValue) (r : RowErrand) (gate y : ℕ)
    → CanPutInLeaf at cell a → cell ≡ BlockCell block → HasRow a e r → r.way ≡ Carried gate y → now ≡ with_rows block (rows_in block.body ++ r.row ∷ []) → a.boxes ≤ b.boxes + 1
    → b ≡ record a { boxes = b.boxes; errand = on_way e r (Put gate) } → Makes h PutInLeaf (change at cell (BlockCell now) ∷ []) a b
put-makes other collects puts h at cell block now a b e r gate y due is has carried put boxes actor_is =
    let does : DoesPutInLeaf (change at cell (BlockCell now)) a b = record {
      e = e;
      r = r;
      has = has;
      gate = gate;
      carried = carried ∙ ap (Carried gate) (must-at a e r gate y at has carried due.carried);
      block = block;
      leaf = ap (λ (z : CellValue). is_leaf (block_in z).body) (sym is) ∙ due.leaf;
      last = record { was = is; is = ap BlockCell put };
      boxes = boxes;
      actor_is = actor_is;
    } in
    record { does = does; keeps = put-keeps other collects puts h (change at cell (BlockCell now)) a b does }

-- what its callee asks for
pub record CanPut (cell : CellValue) (a : ActorValue) : Type 0 where
  pub made : has_block cell ≡ true
  pub room : is_full (block_in cell).body ≡ false
  pub boxes : 0 < a.boxes

pub can-put : (h : List Dimension) (at : ℕ) (cell : CellValue) (a : ActorValue) → IsHere h (held at cell ∷ []) a → CanPutInLeaf at cell a → CanPut cell a
can-put h at cell a k due =
    let i = k.inv.holds in
    let w = k.world in
    let (e, r, gate, has, carried) = carried-way a at due.carried in
    let same = k.agrees.actor_is in
    let was : way_of (w.actors k.number).errand ≡ Some (row_way e r) = ap (λ (z : ActorValue). way_of z.errand) same ∙ row-at has in
    let here = carries a.setting (view a.setting w) k.inv.ghost_of refl i k.number gate at (row_way e r) was (ap place_of carried) in
    let enough = (i.turning.enough k.number gate at (row_way e r) was (ap place_of carried)).1 in
    let boxes : (w.actors k.number).boxes ≡ a.boxes = ap (λ (z : ActorValue). z.boxes) same in
    record {
      made = ap has_block (sym k.agrees.cells.0) ∙ here.made;
      room = ap (λ (z : CellValue). is_full (block_in z).body) (sym k.agrees.cells.0) ∙ (here.tree.blocks at here.inside here.apart).room r.row.no here.in_tree.placed here.carried here.at;
      boxes = omega arith;
    }
