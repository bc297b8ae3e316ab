-- A shard is split: its worker leads on to its children by the plane, and to the gate of either; all else leads where it did.
use Rattle.std.proofs.{Common.{◌≡◌, ◌≢◌, ℕ, ◌+◌, ◌<◌, List, ◌∷◌, true, eqb, Option, Some, None, IsSome, refl, sym, ap, ◌∙◌, subst, ◌⊎◌, inl, inr, arith, ◌==◌, ◌&&◌, ◌||◌, eq-eqb, filter_map}, lemmas.Bool.{or_left, or_right, eqb-true, eqb-false}}
use Rattle.std.specs.{List.list_any, Prelude.{IsTrue, Contains}}
use Rattle.describing_set.specs.{Plane.IsHierarchyPlane, declared.plane.Plane.Plane}
use Rattle.mapping_table.specs.declared.place.Where.{Where}
use Rattle.mapping_table.specs.declared.place.Where.TheVariants as where_is
use Rattle.row_ledger.specs.{Listings.places_of, Past.{Children, split_in}, Right.{EachEvent, IsRightSplit, Stands}, Shards.{frontier, ids_made, is_child, is_live}, Workers.{is_on, left_at}, declared.event.Event.Event, declared.event.Event.TheVariants.Split}
use Rattle.row_ledger.proofs.Changes.{split-changes}
use Rattle.list_words.proofs.Truth.{on_bool}
use Rattle.core_tree.specs.volap_cell.specs.{Ghost.Ghost, Invariant.InvWith, Lineage.{was_on, went_to}, Setting.{Setting, site_in}, View.View}
use Rattle.core_tree.specs.volap_cell.proofs.Histories.Departures.{on-stays-at}
use Rattle.core_admin.proofs.{Retiring.Gates.Retiring, SharedLineage.{IsNewEntry, LeadsOn}, Splitting.SplitShards.{left-live, left-on, off-left, off-right, on-before, on-still, right-live, right-on}}

-- The table and the registry. The shard's worker leads from it to its children, and from these to the gates yl and yr.
pub record Splitting (s : Setting) (v v2 : View) (g g2 : Ghost) (n : ℕ) (m : Retiring s v v2 g g2 n) : Type 0 where
  pub of : ℕ
  pub from : ℕ
  pub plane : Plane
  pub left : ℕ
  pub right : ℕ
  pub yl : ℕ
  pub yr : ℕ
  pub was_on : is_on s.workers v.history m.shard from ≡ true
  pub is_right : IsRightSplit (site_in s) v.history of m.shard left right
  pub is_plane : IsHierarchyPlane s.hierarchy plane
  pub new_l : m.new yl ≡ true
  pub new_r : m.new yr ≡ true
  pub only : (c : ℕ) → m.new c ≡ true → (c ≡ yl) ⊎ (c ≡ yr)
  pub shard_l : m.shard_of yl ≡ left
  pub shard_r : m.shard_of yr ≡ right
  pub at_shard : v2.maps from m.shard ≡ Some (where_is.Split plane left right)
  pub at_left : v2.maps from left ≡ Some (where_is.Gate yl)
  pub at_right : v2.maps from right ≡ Some (where_is.Gate yr)
  pub at_other : (z : ℕ) → z ≢ m.shard → z ≢ left → z ≢ right → v2.maps from z ≡ v.maps from z
  pub other_worker : (w : ℕ) → w ≢ from → v2.maps w ≡ v.maps w
  pub gate_l : g2.gate left ≡ yl
  pub gate_r : g2.gate right ≡ yr
  pub gate_other : (z : ℕ) → z ≢ left → z ≢ right → g2.gate z ≡ g.gate z
  pub ids : v2.stock.ids ≡ v.stock.ids + 2
  pub places : places_of v2.registry.frontier ≡ frontier s.workers (Split of m.shard left right ∷ v.history)

module _ (s : Setting) (v v2 : View) (g g2 : Ghost) (n : ℕ) (i : InvWith s v g) (m : Retiring s v v2 g g2 n) (t : Splitting s v v2 g g2 n m) where
  abbrev h : List Event
  h = v.history

  abbrev e : Event
  e = Split t.of m.shard t.left t.right

  each : EachEvent (Stands (site_in s) g.placed) h
  each = i.telling.right.right.each

  pub not-left : (x : ℕ) → x < ids_made s.workers h → x ≢ t.left
  not-left = off-left (site_in s) g.placed h each t.of m.shard t.left t.right t.from t.is_right t.was_on

  pub not-right : (x : ℕ) → x < ids_made s.workers h → x ≢ t.right
  not-right = off-right (site_in s) g.placed h each t.of m.shard t.left t.right t.from t.is_right t.was_on

  -- the gate of a shard that was made stays
  pub gate-made : (x : ℕ) → x < ids_made s.workers h → g2.gate x ≡ g.gate x
  gate-made x lt = t.gate_other x (not-left x lt) (not-right x lt)

  child-still : (x y : ℕ) → IsTrue (is_child h x y) → IsTrue (is_child (e ∷ h) x y)
  child-still x y is = or_right ((m.shard == x) && ((t.left == y) || (t.right == y))) (list_any (λ (c : Children). (c.shard == x) && ((c.left == y) || (c.right == y))) (filter_map split_in h)) is

  pub apart : t.left ≢ t.right
  apart same = (let next = t.is_right.next in let after = t.is_right.after in absurd (omega (arith, same, next, after)))

  new-left : IsTrue (is_child (e ∷ h) m.shard t.left)
  new-left = rw (eq-eqb m.shard m.shard refl, eq-eqb t.left t.left refl) refl

  new-right : IsTrue (is_child (e ∷ h) m.shard t.right)
  new-right = or_left ((m.shard == m.shard) && ((t.left == t.right) || (t.right == t.right))) _ (rw (eq-eqb m.shard m.shard refl) (or_right (t.left == t.right) (t.right == t.right) (eq-eqb t.right t.right refl)))

  left-entry : (w z : ℕ) → w ≡ t.from → z ≡ t.left → IsNewEntry s v v2 g g2 n m e w z
  left-entry w z on is = (t.yl, t.new_l, t.shard_l ∙ sym is, (λ j. v2.maps (on j) (is j)) ∙ t.at_left, (λ j. is_on s.workers (e ∷ h) (is j) (on j)) ∙ left-on (site_in s) g.placed h each t.of m.shard t.left t.right t.from t.is_right t.was_on)

  right-entry : (w z : ℕ) → w ≡ t.from → z ≡ t.right → IsNewEntry s v v2 g g2 n m e w z
  right-entry w z on is = (t.yr, t.new_r, t.shard_r ∙ sym is, (λ j. v2.maps (on j) (is j)) ∙ t.at_right, (λ j. is_on s.workers (e ∷ h) (is j) (on j)) ∙ right-on (site_in s) g.placed h each t.of m.shard t.left t.right t.from t.is_right t.was_on)

  abbrev AreChildren : Plane → ℕ → ℕ → Type 0
  AreChildren plane l r = IsTrue (is_child (e ∷ h) m.shard l) × IsTrue (is_child (e ∷ h) m.shard r) × (l ≢ r) × IsSome (v2.maps t.from l) × IsSome (v2.maps t.from r)
      × IsHierarchyPlane s.hierarchy plane × ((of : ℕ) × Contains (e ∷ h) (Split of m.shard l r)) × ((went_to (e ∷ h) m.shard t.from ≡ true) ⊎ (left_at s.workers (e ∷ h) m.shard t.from ≡ None))

  pub split-leads : LeadsOn s v v2 g g2 n m e
  split-leads =
      let k = i.lineage in record {
        from = t.from;
        was_on = t.was_on;
        forward = where_is.Split t.plane t.left t.right;
        entry = λ w z. on_bool (eqb w t.from)
            (λ q. let is = eqb-true w t.from q in on_bool (eqb z m.shard)
            (λ o. inr (inr (is, eqb-true z m.shard o, t.at_shard)))
            (λ o. on_bool (eqb z t.left)
            (λ a. inr (inl (left-entry w z is (eqb-true z t.left a))))
            (λ a. on_bool (eqb z t.right)
            (λ b. inr (inl (right-entry w z is (eqb-true z t.right b))))
            (λ b. inl (ap (λ (x : ℕ). v2.maps x z) is ∙ t.at_other z (eqb-false z m.shard o) (eqb-false z t.left a) (eqb-false z t.right b) ∙ sym (ap (λ (x : ℕ). v.maps x z) is), λ at. absurd (eqb-false z m.shard o at))))))
            (λ q. let ne = eqb-false w t.from q in inl (ap (λ (f : ℕ → Option Where). f z) (t.other_worker w ne), λ at. ne));
        no_gate = λ c is. cc;
        apart = λ l r plane on is.
            let same_p : t.plane ≡ plane = cc in
            let same_l : t.left ≡ l = cc in
            let same_r : t.right ≡ r = cc in
            subst (λ (p : Plane). AreChildren p l r) same_p (subst (λ (a : ℕ). AreChildren t.plane a r) same_l (subst (λ (a : ℕ). AreChildren t.plane t.left a) same_r
            (new-left, new-right, apart, subst IsSome (sym t.at_left) refl, subst IsSome (sym t.at_right) refl, t.is_plane, (t.of, (0, omega arith, refl)), on-stays-at (site_in s) g.placed h m.shard t.from each t.was_on)));
        onward = λ u on is. absurd (cc);
        on_still = λ z w is ne. on-still (site_in s) g.placed h each t.of m.shard t.left t.right t.from t.is_right t.was_on z w is ne;
        on_was = λ z w is. elim (on-before (site_in s) g.placed h each t.of m.shard t.left t.right t.from t.is_right t.was_on z w is) [
          | inl old ↦ inl old
          | inr new ↦ elim new.0 [ inl at ↦ inr (left-entry w z new.1 at) | inr at ↦ inr (right-entry w z new.1 at) ]
        ];
        live_new = λ c q. elim (t.only c q) [
          | inl at ↦ ap (is_live s.workers (e ∷ h)) (ap m.shard_of at ∙ t.shard_l) ∙ left-live (site_in s) g.placed h each t.of m.shard t.left t.right t.from t.is_right t.was_on
          | inr at ↦ ap (is_live s.workers (e ∷ h)) (ap m.shard_of at ∙ t.shard_r) ∙ right-live (site_in s) g.placed h each t.of m.shard t.left t.right t.from t.is_right t.was_on
        ];
        made_new = λ c q.
            let next = t.is_right.next in
            let after = t.is_right.after in
            elim (t.only c q) [
              | inl at ↦ (let is = ap m.shard_of at ∙ t.shard_l in omega (arith, is, next))
              | inr at ↦ (let is = ap m.shard_of at ∙ t.shard_r in omega (arith, is, after))
            ];
        child = child-still;
        left = λ w z off. refl;
        came = λ w z l r plane p was. (k.divided w z l r plane was).2;
        went = λ w z u p was. (k.moved w z u was).4;
        ids = t.ids ∙ ap (λ (z : ℕ). z + 2) k.ids ∙ sym (split-changes s.hierarchy s.workers t.of m.shard t.left t.right h).ids;
        front = t.places;
      }
