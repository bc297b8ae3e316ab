-- A row that isn't carried comes to rest: all rows that are carried stay so, at their blocks and by their actors.
use Rattle.std.proofs.{Common.{◌≡◌, ◌≢◌, ℕ, false, eqb, Option, Some, refl, sym, ap, ◌∙◌}, lemmas.Bool.{false≢true, eqb-true, eqb-false}}
use Rattle.cell_stock.specs.declared.purse.Spare.{Spare}
use Rattle.dim_hierarchy.specs.declared.row.Row.{Row}
use Rattle.volap_cell.specs.shard_store.specs.declared.gate.Phase.{Phase}
use Rattle.std.specs.Prelude.{List}
use Rattle.volap_cell.specs.tree_shape.specs.Shape.{Shape}
use Rattle.list_words.proofs.Truth.{on_bool}
use Rattle.volap_cell.specs.{Errands.{AtBlock, AtRest, InLeaf, RowWay}, Setting.{Setting, actor_count}, Sums.sum_below, Turning.{IsIn, Turning, inside_of}}
use Rattle.core_tree.proofs.Rows.Places.{Passes}

module _ (s : Setting) (ways ways_now : ℕ → Option RowWay) (n : ℕ) (way : RowWay) (go : Passes ways ways_now n way AtRest) (purses : ℕ → List Spare) (boxes : ℕ → ℕ) (phases : ℕ → Option Phase) (active : ℕ → ℕ) (gate : ℕ → ℕ) (shape : ℕ → Shape) (home : ℕ → ℕ)
    (i : Turning s ways purses boxes phases active gate shape home) where
  abbrev rested : RowWay
  rested = record way { place = AtRest; filled = false }

  mine : (w : RowWay) → ways n ≡ Some w → way ≡ w
  mine w is = (let both : ◌≡◌ {A = Option RowWay} (Some way) (Some w) = sym go.was ∙ is in cc)

  mine-now : (w : RowWay) → ways_now n ≡ Some w → rested ≡ w
  mine-now w is = (let both : ◌≡◌ {A = Option RowWay} (Some rested) (Some w) = sym go.is ∙ is in cc)

  -- an actor's row is the one that it had
  pub row-was : (a : ℕ) (w : RowWay) → ways_now a ≡ Some w → (u : RowWay) × (ways a ≡ Some u) × (u.row ≡ w.row)
  row-was a w is = on_bool (eqb a n)
      (λ q. let e = eqb-true _ _ q in (way, ap ways e ∙ go.was, ap (λ (u : RowWay). u.row) (mine-now w (ap ways_now (sym e) ∙ is))))
      (λ q. (w, sym (go.off a (eqb-false _ _ q)) ∙ is, refl))

  -- who isn't at rest is another one, whose row is another one
  still-on : {P : Type 0} (a : ℕ) (w : RowWay) → ways_now a ≡ Some w → w.place ≢ AtRest → (a ≢ n → ways a ≡ Some w → w.row.no ≢ way.row.no → P) → P
  still-on a w is on f = on_bool (eqb a n)
      (λ q. absurd (on (ap (λ (u : RowWay). u.place) (sym (mine-now w (ap ways_now (sym (eqb-true _ _ q)) ∙ is))))))
      (λ q. let ne = eqb-false _ _ q in let was = sym (go.off a ne) ∙ is in f ne was (λ e. ne (i.one a n w way was go.was e)))

  -- others than the carriers may be counted anew, and the row may have a home now
  pub turning-rested : (active_now : ℕ → ℕ) (home_now : ℕ → ℕ) → ((c y : ℕ) → way.place ≢ AtBlock c y) → ((q : ℕ) → q ≢ way.row.no → home_now q ≡ home q)
      → ((c : ℕ) → active_now c ≡ sum_below (actor_count s) (λ a. inside_of c (ways_now a)))
      → Turning s ways_now purses boxes phases active_now gate shape home_now
  turning-rested active_now home_now free same counts = record {
    one = λ a b w u is iu e.
        let (x, isx, rx) = row-was a w is in
        let (y, isy, ry) = row-was b u iu in
        i.one a b x y isx isy (ap (λ (z : Row). z.no) rx ∙ e ∙ ap (λ (z : Row). z.no) (sym ry));
    carrying = λ a c y w is p. still-on a w is (λ e. let no : AtBlock c y ≡ AtRest = sym p ∙ e in cc)
        (λ ne was off. let o = i.carrying a c y w was p in (is-in w c off o.0, o.1, o.2));
    in_leaf = λ a c w is p. still-on a w is (λ e. let no : InLeaf c ≡ AtRest = sym p ∙ e in cc)
        (λ ne was off. let o = i.in_leaf a c w was p in (is-in w c off o.0, o.1));
    carried = λ c q some pl ca.
        let k = i.carried c q some pl ca in
        let ne : k.0 ≢ n = (λ e. free c k.1 (ap (λ (u : RowWay). u.place) (mine k.2 (ap ways (sym e) ∙ k.3)) ∙ k.5)) in
        (k.0, k.1, k.2, go.off k.0 ne ∙ k.3, k.4, k.5);
    enough = λ a c y w is p. still-on a w is (λ e. let no : AtBlock c y ≡ AtRest = sym p ∙ e in cc) (λ ne was off. i.enough a c y w was p);
    boxed = λ a w is filled. on_bool (eqb a n)
        (λ q. absurd (false≢true (ap (λ (u : RowWay). u.filled) (mine-now w (ap ways_now (sym (eqb-true _ _ q)) ∙ is)) ∙ filled)))
        (λ q. i.boxed a w (sym (go.off a (eqb-false _ _ q)) ∙ is) filled);
    counts = counts;
  }
    where
      is-in : (w : RowWay) (c : ℕ) → w.row.no ≢ way.row.no → IsIn phases gate shape home w c → IsIn phases gate shape home_now w c
      is-in w c off o = record { stands = o.stands; gate_is = ap gate (same w.row.no off) ∙ o.gate_is; placed = o.placed }
