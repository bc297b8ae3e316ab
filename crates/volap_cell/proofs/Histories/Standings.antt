-- What the invariant gives of rows and of the shards that stand.
use Rattle.std.proofs.{Common.{◌≡◌, ℕ, List, [], ◌∷◌, Bool, true, false, refl, sym, ◌==◌, ◌∙◌, ◌&&◌, ◌||◌, inl}, lemmas.Bool.{eq-eqb, ne_eqb}}
use Rattle.std.specs.List.{list_any}
use Rattle.list_words.proofs.Truth.{eqb-self}
use Rattle.row_ledger.specs.{Shards.{Place, frontier, is_live, is_of}, Workers.is_on}
use Rattle.volap_cell.specs.{Ghost.Ghost, Invariant.InvWith, Promises.{Standing, IsInOne, IsInNone}, Setting.Setting, View.View}

-- a shard that stands is on a worker
on-worker : (places : List Place) (x : ℕ) → list_any (is_of x) places ≡ true → (w : ℕ) × (list_any (λ (p : Place). is_of x p && (p.worker == w)) places ≡ true)
on-worker [] x live = cc
on-worker (p ∷ places) x live = at (λ l. on-worker places x l) (is_of x p) refl live
  where
    at : (list_any (is_of x) places ≡ true → (w : ℕ) × (list_any (λ (p : Place). is_of x p && (p.worker == w)) places ≡ true))
        → (v : Bool) → is_of x p ≡ v → (v || list_any (is_of x) places) ≡ true → (w : ℕ) × (list_any (λ (p : Place). is_of x p && (p.worker == w)) (p ∷ places) ≡ true)
    at rest true is live = (p.worker, rw (is, eq-eqb p.worker p.worker refl) refl)
    at rest false is live = let more = rest live in (more.0, rw (is, more.1) refl)

pub live-on : (s : Setting) (v : View) (x : ℕ) → is_live s.workers v.history x ≡ true → (w : ℕ) × (is_on s.workers v.history x w ≡ true)
live-on s v x live = on-worker (frontier s.workers v.history) x live

-- the gates of the shards that stand, and the shapes of their trees
unfoldable pub standing : (s : Setting) (v : View) (g : Ghost) → InvWith s v g → Standing s v
standing s v g i = record {
  gate = g.gate;
  shape = g.shape;
  is_gate = λ x live. let w = live-on s v x live in let l = i.lineage.gate_of x w.0 w.1 in (l.1, l.2);
  tree = λ x live. let w = live-on s v x live in let l = i.lineage.gate_of x w.0 w.1 in i.growing.tree (g.gate x) (rw l.1 refl, inl l.2);
}

-- a row that has passed a gate is in the one shard that has it
pub in-one : (s : Setting) (v : View) (g : Ghost) (i : InvWith s v g) (r : ℕ) → g.placed r ≡ true → IsInOne s v (standing s v g i) r (g.home r)
unfolding standing
in-one s v g i r placed = record {
  stands = i.placing.stands r placed;
  once = i.placing.one (g.home r) r (i.placing.stands r placed) ∙ rw placed (rw (eqb-self (g.home r)) refl);
  others = λ y live other. i.placing.one y r live ∙ rw placed (rw (ne_eqb (g.home r) y (λ e. other (sym e))) refl);
}

-- any other row is in none
pub in-none : (s : Setting) (v : View) (g : Ghost) (i : InvWith s v g) (r : ℕ) → g.placed r ≡ false → IsInNone s v (standing s v g i) r
unfolding standing
in-none s v g i r out x live = i.placing.one x r live ∙ rw out refl
