-- What a step may hold: no other actor must keep a cell that is no block, nor the block at which an actor carries a row itself; and
-- each cell that isn't free has its place.
use Rattle.std.proofs.{Common.{◌≡◌, ◌≢◌, ℕ, ◌<◌, true, List, Option, Some, None, length, refl, sym, ap, ◌∙◌, subst, inl, inr}, lemmas.Bool.cases_lt}
use Rattle.shard_build.specs.tree_shape.specs.Trees.{IsTree}
use Rattle.volap_cell.specs.{Cells.{FreeCell, has_block}, Errands.{RowWay, RowPlace, Outside, AtBlock, InLeaf, AtRest, IsCarried, block_at, has_passed}, Ghost.{Ghost, InTree}, Growing.table_of, Invariant.InvWith, Setting.Setting, State.IsWorldOf, Stocking.{IsWhole, cells_at}, View.{View, view}, World.{World, MustKeep}, declared.actor.Actor.Actor, declared.cell.Cell.Cell}
use Rattle.volap_cell.proofs.{Histories.Standings.live-on}

-- Who must keep a block.

at-block : (p : RowPlace) (y : ℕ) → block_at p ≡ Some y → (c : ℕ) × (p ≡ AtBlock c y)
at-block Outside y e = absurd (cc)
at-block (AtBlock c z) y e = (let same : z ≡ y = cc in (c, ap (λ (k : ℕ). AtBlock c k) same))
at-block (InLeaf c) y e = absurd (cc)
at-block AtRest y e = absurd (cc)

on-way : (o : Option RowWay) (y : ℕ) → IsCarried o y → (x : RowWay) × (c : ℕ) × (o ≡ Some x) × (x.place ≡ AtBlock c y)
on-way None y k = absurd k
on-way (Some x) y k = (let at = at-block x.place y k in (x, at.0, refl, at.1))

-- a row that an actor carries at a block of a tree
pub record Carries (s : Setting) (v : View) (g : Ghost) (a y : ℕ) : Type 0 where
  pub way : RowWay
  pub gate : ℕ
  pub is_way : v.ways a ≡ Some way
  pub place : way.place ≡ AtBlock gate y
  pub whole : IsWhole v.gates v.phases v.pins gate
  pub placed : (g.shape gate).placed way.row.no ≡ true
  pub carried : (g.shape gate).carried way.row.no ≡ true
  pub at : (g.shape gate).at way.row.no ≡ y
  pub tree : IsTree (table_of s v.row) (cells_at v.blocks v.trees gate) (g.shape gate)
  pub owner : g.owner y ≡ InTree gate
  pub block : v.made y ≡ true

pub carries : (s : Setting) (v : View) (g : Ghost) → InvWith s v g → (a y : ℕ) → IsCarried (v.ways a) y → Carries s v g a y
carries s v g inv a y keeps =
    let way = on-way (v.ways a) y keeps in
    let turn = inv.turning.carrying a way.1 y way.0 way.2 way.3 in
    let passed : g.placed way.0.row.no ≡ true = (inv.inserting.on_way a way.0 way.2).passed ∙ ap has_passed way.3 in
    let live = inv.placing.stands way.0.row.no passed in
    let on = live-on s v (g.home way.0.row.no) live in
    let gate = inv.lineage.gate_of (g.home way.0.row.no) on.0 on.1 in
    let is_gate : v.gates way.1 ≡ Some (g.home way.0.row.no) = subst (λ (c : ℕ). v.gates c ≡ Some (g.home way.0.row.no)) turn.0.gate_is gate.1 in
    let whole : IsWhole v.gates v.phases v.pins way.1 = (rw is_gate refl, inl turn.0.stands) in
    let tree = inv.growing.tree way.1 whole in
    let used = inv.stocking.tree way.1 ((g.shape way.1).at way.0.row.no) whole (tree.tree.shape.stands way.0.row.no turn.0.placed) (tree.entered way.0.row.no turn.0.placed) in
    record {
      way = way.0;
      gate = way.1;
      is_way = way.2;
      place = way.3;
      whole = whole;
      placed = turn.0.placed;
      carried = turn.1;
      at = turn.2;
      tree = tree;
      owner = subst (λ (z : ℕ). g.owner z ≡ InTree way.1) turn.2 used.0;
      block = subst (λ (z : ℕ). v.made z ≡ true) turn.2 used.1;
    }

-- nobody must keep a cell that is no block
pub keeps-block : (s : Setting) (w : World) (g : Ghost) → InvWith s (view s w) g → (a y : ℕ) → MustKeep (w.actors a) y → has_block (w.cells y) ≡ true
keeps-block s w g inv a y keeps = (carries s (view s w) g inv a y keeps).block

-- no two actors must keep the same block
pub one-keeps : (s : Setting) (w : World) (g : Ghost) → InvWith s (view s w) g → (a b y : ℕ) → MustKeep (w.actors a) y → MustKeep (w.actors b) y → a ≡ b
one-keeps s w g inv a b y keeps keeps_too =
    let c = carries s (view s w) g inv a y keeps in
    let d = carries s (view s w) g inv b y keeps_too in
    let gates : InTree c.gate ≡ InTree d.gate = sym c.owner ∙ d.owner in
    let gate : c.gate ≡ d.gate = cc in
    let placed : (g.shape c.gate).placed d.way.row.no ≡ true = subst (λ (z : ℕ). (g.shape z).placed d.way.row.no ≡ true) (sym gate) d.placed in
    let carried : (g.shape c.gate).carried d.way.row.no ≡ true = subst (λ (z : ℕ). (g.shape z).carried d.way.row.no ≡ true) (sym gate) d.carried in
    let at : (g.shape c.gate).at d.way.row.no ≡ y = subst (λ (z : ℕ). (g.shape z).at d.way.row.no ≡ y) (sym gate) d.at in
    inv.turning.one a b c.way d.way c.is_way d.is_way (c.tree.alone c.way.row.no d.way.row.no c.placed c.carried placed carried (c.at ∙ sym at))

-- Places.

-- a cell that isn't free has its place
pub has-place : (cells : List (Option Cell)) (actors : List (Option Actor)) (w : World) (y : ℕ) → IsWorldOf cells actors w → w.cells y ≢ FreeCell → y < length cells
has-place cells actors w y is taken = elim (cases_lt y (length cells)) [
  | inl lt ↦ lt
  | inr ge ↦ absurd (taken (is.no_cell y ge))
]
