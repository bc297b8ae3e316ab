-- A shard moves: the worker that had it leads on to the other one, which leads to its new gate; all else leads where it did.
use Rattle.std.proofs.{Common.{◌≡◌, ◌≢◌, ℕ, ◌<◌, List, ◌∷◌, length, map, true, false, eqb, Some, refl, sym, ap, ◌∙◌, subst, inl, inr, ◌==◌}, lemmas.Bool.{eqb-true, eqb-false, ne_eqb}}
use Rattle.std.specs.Prelude.{IsTrue}
use Rattle.mapping_table.specs.declared.place.Where.TheVariants as where_is
use Rattle.row_ledger.specs.{Listings.places_of, Right.{EachEvent, Stands}, Shards.{frontier, ids_made, is_child, is_live}, Workers.{is_on, left_at}, declared.event.Event.Event, declared.event.Event.TheVariants.Moved}
use Rattle.row_ledger.proofs.{Ascent.frontier-ascends, Descent.live-last}
use Rattle.core_tree.specs.shard_store.specs.declared.gate.Phase.TheVariants.{Frozen, Gone}
use Rattle.list_words.proofs.Truth.{on_bool, eqb-self}
use Rattle.core_tree.specs.volap_cell.specs.{Ghost.Ghost, Invariant.InvWith, Lineage.{was_on, went_to}, Setting.{Setting, site_in}, View.View}
use Rattle.core_tree.specs.volap_cell.proofs.{Histories.Departures.older-made, Histories.Lines.child-comes}
use Rattle.core_admin.proofs.{Moving.MovedShards.{live-moved, moved_place, on-here, on-other, on-there, one-host}, Retiring.Gates.Retiring, SharedLineage.{IsNewEntry, LeadsOn}}

-- The tables and the registry. The shard goes from one worker to another one, or to the same, to the gate y.
pub record Moving (s : Setting) (v v2 : View) (g g2 : Ghost) (n : ℕ) (m : Retiring s v v2 g g2 n) : Type 0 where
  pub of : ℕ
  pub from : ℕ
  pub to : ℕ
  pub y : ℕ
  pub within : to < s.workers
  pub was_on : is_on s.workers v.history m.shard from ≡ true
  pub new_y : m.new y ≡ true
  pub only_y : (c : ℕ) → m.new c ≡ true → c ≡ y
  pub shard_y : m.shard_of y ≡ m.shard
  pub to_gate : v2.maps to m.shard ≡ Some (where_is.Gate y)
  pub leads_on : from ≢ to → v2.maps from m.shard ≡ Some (where_is.Moved to)
  pub other_worker : (w : ℕ) → w ≢ to → w ≢ from → v2.maps w m.shard ≡ v.maps w m.shard
  pub other_shard : (w z : ℕ) → z ≢ m.shard → v2.maps w z ≡ v.maps w z
  pub gate_there : g2.gate m.shard ≡ y
  pub gate_other : (z : ℕ) → z ≢ m.shard → g2.gate z ≡ g.gate z
  pub ids : v2.stock.ids ≡ v.stock.ids
  pub places : places_of v2.registry.frontier ≡ map (moved_place m.shard to) (places_of v.registry.frontier)

module _ (s : Setting) (v v2 : View) (g g2 : Ghost) (n : ℕ) (i : InvWith s v g) (m : Retiring s v v2 g g2 n) (t : Moving s v v2 g g2 n m) where
  abbrev h : List Event
  h = v.history

  abbrev e : Event
  e = Moved t.of m.shard t.to

  each : EachEvent (Stands (site_in s) g.placed) h
  each = i.telling.right.right.each

  live-here : is_live s.workers h m.shard ≡ true
  live-here = (i.lineage.live m.x m.shard m.is_gate (λ gone. let no : Some (Frozen m.upto) ≡ Some Gone = sym m.frozen ∙ gone in cc)).0

  pub live-same : (z : ℕ) → is_live s.workers (e ∷ h) z ≡ is_live s.workers h z
  live-same z = live-moved m.shard t.to z (frontier s.workers h)

  on-same : (z w : ℕ) → z ≢ m.shard → is_on s.workers (e ∷ h) z w ≡ is_on s.workers h z w
  on-same z w ne = on-other m.shard t.to z w ne (frontier s.workers h)

  on-now : is_on s.workers (e ∷ h) m.shard t.to ≡ true
  on-now = on-here m.shard t.to (frontier s.workers h) live-here

  alone : (w : ℕ) → is_on s.workers h m.shard w ≡ true → w ≡ t.from
  alone w is = one-host 0 m.shard w t.from (frontier s.workers h) (frontier-ascends (site_in s) g.placed h each) is t.was_on

  -- when a shard left

  left-other : (z w : ℕ) → z ≢ m.shard → left_at s.workers (e ∷ h) z w ≡ left_at s.workers h z w
  left-other z w ne = (let off : (m.shard == z) ≡ false = ne_eqb m.shard z (λ k. ne (sym k)) in rw off refl)

  left-elsewhere : (w : ℕ) → w ≢ t.from → left_at s.workers (e ∷ h) m.shard w ≡ left_at s.workers h m.shard w
  left-elsewhere w ne =
      let off : is_on s.workers h m.shard w ≡ false = on_bool (is_on s.workers h m.shard w) (λ is. absurd (ne (alone w is))) (λ is. is) in
      rw (eqb-self m.shard, off) refl

  left-from : t.from ≢ t.to → left_at s.workers (e ∷ h) m.shard t.from ≡ Some (length h)
  left-from ne = (let off : (t.to == t.from) ≡ false = ne_eqb t.to t.from (λ k. ne (sym k)) in rw (eqb-self m.shard, t.was_on, off) refl)

  went-other : (z w : ℕ) → z ≢ m.shard → went_to (e ∷ h) z w ≡ went_to h z w
  went-other z w ne = (let off : (m.shard == z) ≡ false = ne_eqb m.shard z (λ k. ne (sym k)) in rw off refl)

  went-here : (w : ℕ) → w ≢ t.to → went_to (e ∷ h) m.shard w ≡ false
  went-here w ne = (let off : (t.to == w) ≡ false = ne_eqb t.to w (λ k. ne (sym k)) in rw (eqb-self m.shard, off) refl)

  -- the shard stands, so it has no children
  childless : (l r : ℕ) → IsTrue (is_child h m.shard l) → IsTrue (is_child h m.shard r) → l ≢ r → ⊥
  childless l r left right ne =
      let a = child-comes (site_in s) g.placed h m.shard l each left in
      let b = child-comes (site_in s) g.placed h m.shard r each right in
      let c = live-last (site_in s) g.placed h m.shard l each live-here a.1 a.0 in
      let d = live-last (site_in s) g.placed h m.shard r each live-here b.1 b.0 in
      ne (c ∙ sym d)

  new-entry : (w z : ℕ) → w ≡ t.to → z ≡ m.shard → IsNewEntry s v v2 g g2 n m e w z
  new-entry w z on is = (t.y, t.new_y, t.shard_y ∙ sym is, (λ j. v2.maps (on j) (is j)) ∙ t.to_gate, (λ j. is_on s.workers (e ∷ h) (is j) (on j)) ∙ on-now)

  -- the shard of the new gate
  its-shard : (c : ℕ) → m.new c ≡ true → m.shard_of c ≡ m.shard
  its-shard c q = ap m.shard_of (t.only_y c q) ∙ t.shard_y

  pub moved-leads : LeadsOn s v v2 g g2 n m e
  moved-leads =
      let k = i.lineage in record {
        from = t.from;
        was_on = t.was_on;
        forward = where_is.Moved t.to;
        entry = λ w z. on_bool (eqb z m.shard)
            (λ q. let is = eqb-true z m.shard q in on_bool (eqb w t.to)
            (λ r. inr (inl (new-entry w z (eqb-true w t.to r) is)))
            (λ r. on_bool (eqb w t.from)
            (λ f. let here = eqb-true w t.from f in inr (inr (here, is, t.leads_on (λ o. eqb-false w t.to r (here ∙ o)))))
            (λ f. inl (ap (v2.maps w) is ∙ t.other_worker w (eqb-false w t.to r) (eqb-false w t.from f) ∙ sym (ap (v.maps w) is), λ at. eqb-false w t.from f))))
            (λ q. inl (t.other_shard w z (eqb-false z m.shard q), λ at. absurd (eqb-false z m.shard q at)));
        no_gate = λ c is. cc;
        apart = λ l r plane on is. absurd (cc);
        onward = λ u on is.
            let same : t.to ≡ u = cc in
            let ne : t.from ≢ t.to = (λ o. let no : Some (where_is.Gate t.y) ≡ Some (where_is.Moved t.to) = sym t.to_gate ∙ ap (λ (x : ℕ). v2.maps x m.shard) (sym o) ∙ on in cc) in
            subst (λ (x : ℕ). (x < s.workers) × (x ≢ t.from) × ((c : ℕ) × (v2.maps x m.shard ≡ Some (where_is.Gate c))) × (left_at s.workers (e ∷ h) m.shard t.from ≡ Some (length h)) × (went_to (e ∷ h) m.shard t.from ≡ false)) same
            (t.within, (λ o. ne (sym o)), (t.y, t.to_gate), left-from ne, went-here t.from ne);
        on_still = λ z w is ne. on-same z w ne ∙ is;
        on_was = λ z w is. on_bool (eqb z m.shard)
            (λ q. let here = eqb-true z m.shard q in inr (new-entry w z (on-there m.shard t.to w (frontier s.workers h) (subst (λ (x : ℕ). is_on s.workers (e ∷ h) x w ≡ true) here is)) here))
            (λ q. let ne = eqb-false z m.shard q in inl (sym (on-same z w ne) ∙ is, ne));
        live_new = λ c q. ap (is_live s.workers (e ∷ h)) (its-shard c q) ∙ live-same m.shard ∙ live-here;
        made_new = λ c q. subst (λ (x : ℕ). x < ids_made s.workers (e ∷ h)) (sym (its-shard c q)) (older-made s.workers e h m.shard (k.made m.x m.shard m.is_gate));
        child = λ x y is. is;
        left = λ w z off. on_bool (eqb z m.shard)
            (λ q. let is = eqb-true z m.shard q in ap (λ (x : ℕ). left_at s.workers (e ∷ h) x w) is ∙ left-elsewhere w (off is) ∙ sym (ap (λ (x : ℕ). left_at s.workers h x w) is))
            (λ q. left-other z w (eqb-false z m.shard q));
        came = λ w z l r plane p was. on_bool (eqb z m.shard)
            (λ q. let o = k.split w m.shard l r plane (ap (v.maps w) (sym (eqb-true z m.shard q)) ∙ was) in absurd (childless l r o.0 o.1 o.2))
            (λ q. let ne = eqb-false z m.shard q in elim (k.divided w z l r plane was).2 [ inl there ↦ inl (went-other z w ne ∙ there) | inr never ↦ inr (left-other z w ne ∙ never) ]);
        went = λ w z u p was. on_bool (eqb z m.shard)
            (λ q.
            let is = eqb-true z m.shard q in
            let off : w ≢ t.to = (λ o. let no : Some (where_is.Gate t.y) ≡ Some (where_is.Moved u) = sym t.to_gate ∙ (λ j. v2.maps (sym o j) (sym is j)) ∙ p.0 ∙ was in cc) in
            ap (λ (x : ℕ). went_to (e ∷ h) x w) is ∙ went-here w off)
            (λ q. went-other z w (eqb-false z m.shard q) ∙ (k.moved w z u was).4);
        ids = t.ids ∙ k.ids;
        front = t.places ∙ ap (map (moved_place m.shard t.to)) k.front;
      }
