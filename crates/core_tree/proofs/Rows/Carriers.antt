-- What the invariant says of an actor that carries a row at a block.
use Rattle.std.proofs.Common.{◌≡◌, ◌≢◌, ℕ, ◌≤◌, arith, cond, Bool, true, false, ◌&&◌, ◌||◌, ◌==◌, List, [], ◌∷◌, Option, Some, None, IsSome, refl, sym, ap, ◌∙◌, subst, inl}
use Rattle.std.specs.List.{list_any}
use Rattle.cell_stock.specs.{Stock.cells_of, declared.purse.Spare.Spare}
use Rattle.dim_hierarchy.specs.declared.row.Row.{Row}
use Rattle.row_ledger.specs.Shards.{is_of, Place, frontier}
use Rattle.list_words.specs.Counts.{Each, times}
use Rattle.list_words.proofs.Truth.{on_bool, eqb-self}
use Rattle.volap_cell.specs.tree_shape.specs.Trees.{IsTree}
use Rattle.volap_cell.specs.{Errands.{RowWay, AtBlock, IsCarried, block_at, has_passed, place_of, way_in_task, way_of}, Ghost.{Ghost, InPurse, InTree, is_in_purse}, Growing.table_of, Invariant.InvWith, Setting.Setting, Stocking.{cells_at, IsWhole}, TreeKinds.HasRow, Turning.IsIn, Values.{ActorValue, ErrandValue, TaskValue, OfRow, Unread, Read}, View.{View, row_at, row_or}, World.MustKeep, declared.errand.RowErrand.RowErrand, declared.errand.Way.Way, declared.errand.Way.TheVariants.{Before, Carried, Put, Placed}}
use Rattle.volap_cell.proofs.Actors.{row-at}
use Rattle.core_tree.proofs.Stocks.Spares.{each-cell, owner-purse}

or-right : (a b : Bool) → b ≡ true → (a || b) ≡ true
or-right true b e = refl
or-right false b e = e

-- a shard that stands is on some worker
pub live-on : (x : ℕ) (ps : List Place) → list_any (is_of x) ps ≡ true → (worker : ℕ) × (list_any (λ (p : Place). is_of x p && (p.worker == worker)) ps ≡ true)
live-on x [] e = cc
live-on x (p ∷ ps) e = on_bool (is_of x p)
    (λ q. (p.worker, rw (q, eqb-self p.worker) refl))
    (λ q. let k = live-on x ps (ap (λ (b : Bool). b || list_any (is_of x) ps) (sym q) ∙ e) in (k.0, or-right (is_of x p && (p.worker == k.0)) (list_any (λ (p : Place). is_of x p && (p.worker == k.0)) ps) k.1))

-- the row is in the tree of the gate, carried at the block
pub record Carries (s : Setting) (v : View) (g : Ghost) (gate block : ℕ) (way : RowWay) : Type 0 where
  pub whole : IsWhole v.gates v.phases v.pins gate
  pub in_tree : IsIn v.phases g.gate g.shape g.home way gate
  pub carried : (g.shape gate).carried way.row.no ≡ true
  pub at : (g.shape gate).at way.row.no ≡ block
  pub tree : IsTree (table_of s v.row) (cells_at v.blocks v.trees gate) (g.shape gate)
  pub inside : (g.shape gate).inside block ≡ true
  pub apart : block ≢ gate
  pub owner : g.owner block ≡ InTree gate
  pub made : v.made block ≡ true
  pub known : v.row way.row.no ≡ way.row

pub carries : (s : Setting) (v : View) (g : Ghost) → v.row ≡ row_at v.history → InvWith s v g → (n gate block : ℕ) (way : RowWay) → v.ways n ≡ Some way → way.place ≡ AtBlock gate block → Carries s v g gate block way
carries s v g row i n gate block way was at_block =
    let o = i.turning.carrying n gate block way was at_block in
    let on_way = i.inserting.on_way n way was in
    let placed : g.placed way.row.no ≡ true = on_way.passed ∙ ap has_passed at_block in
    let on = live-on (g.home way.row.no) (frontier s.workers v.history) (i.placing.stands way.row.no placed) in
    let gate_of = (i.lineage.gate_of (g.home way.row.no) on.0 on.1).1 in
    let whole : IsWhole v.gates v.phases v.pins gate = (subst (λ (y : ℕ). IsSome (v.gates y)) o.0.gate_is (subst IsSome (sym gate_of) refl), inl o.0.stands) in
    let tree = i.growing.tree gate whole in
    let inside : (g.shape gate).inside block ≡ true = ap (g.shape gate).inside (sym o.2) ∙ tree.tree.shape.stands way.row.no o.0.placed in
    let apart : block ≢ gate = (λ e. tree.entered way.row.no o.0.placed (o.2 ∙ e)) in
    let cell = i.stocking.tree gate block whole inside apart in
    record {
      whole = whole;
      in_tree = o.0;
      carried = o.1;
      at = o.2;
      tree = tree;
      inside = inside;
      apart = apart;
      owner = cell.0;
      made = cell.1;
      known = ap (λ (f : ℕ → Row). f way.row.no) row ∙ ap row_or on_way.known.1 ∙ on_way.known.2;
    }

-- An actor must keep the block at which it carries a row.

way-at : (w : Way) (y : ℕ) → block_at (place_of w) ≡ Some y → (gate : ℕ) × (w ≡ Carried gate y)
way-at (Before height filled) y e = cc
way-at (Carried gate block) y e = (gate, ap (Carried gate) (let k : block ≡ y = cc in k))
way-at (Put gate) y e = cc
way-at Placed y e = cc

way-in : (a : ActorValue) (e : ErrandValue) (t : TaskValue) (y : ℕ) → a.errand ≡ Some e → e.task ≡ t → IsCarried (way_in_task e t) y → (r : RowErrand) × (gate : ℕ) × HasRow a e r × (r.way ≡ Carried gate y)
way-in a e (OfRow r) y is task k = (let w = way-at r.way y k in (r, w.0, record { errand = is; row = task }, w.1))
way-in a e (Unread f) y is task k = absurd k
way-in a e (Read r) y is task k = absurd k

way-of : (a : ActorValue) (o : Option ErrandValue) (y : ℕ) → a.errand ≡ o → IsCarried (way_of o) y → (e : ErrandValue) × (r : RowErrand) × (gate : ℕ) × HasRow a e r × (r.way ≡ Carried gate y)
way-of a None y is k = absurd k
way-of a (Some e) y is k = (let w = way-in a e e.task y is refl k in (e, w.0, w.1, w.2, w.3))

pub carried-way : (a : ActorValue) (y : ℕ) → MustKeep a y → (e : ErrandValue) × (r : RowErrand) × (gate : ℕ) × HasRow a e r × (r.way ≡ Carried gate y)
carried-way a y k = way-of a a.errand y refl k

-- the row that it carries is at that block
pub must-at : (a : ActorValue) (e : ErrandValue) (r : RowErrand) (gate block y : ℕ) → HasRow a e r → r.way ≡ Carried gate block → MustKeep a y → block ≡ y
must-at a e r gate block y has carried k =
    let there : block_at (place_of r.way) ≡ Some y = subst (λ (o : Option RowWay). IsCarried o y) (row-at has) k in
    let same : Some block ≡ Some y = sym (ap (λ (w : Way). block_at (place_of w)) carried) ∙ there in cc

-- the cells of a purse are its actor's
pub purse-owned : (s : Setting) (v : View) (g : Ghost) → InvWith s v g → (n : ℕ) → Each (λ (x : Spare). g.owner x.cell ≡ InPurse n) (v.purses n)
purse-owned s v g i n = each-cell (λ y. g.owner y ≡ InPurse n) (v.purses n) (λ y h. owner-purse n (g.owner y) (by-count y h))
  where
    by-count : (y : ℕ) → 1 ≤ times y (cells_of (v.purses n)) → is_in_purse n (g.owner y) ≡ true
    by-count y h = on_bool (is_in_purse n (g.owner y)) (λ q. q) (λ q. let k : times y (cells_of (v.purses n)) ≡ 0 = i.stocking.purse n y ∙ ap (λ (b : Bool). cond b 1 0) q in absurd (omega arith))
