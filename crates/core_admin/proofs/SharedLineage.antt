-- A gate retires, and new gates take its rows: where the tables of workers lead then, and what the registry has.
use Rattle.std.proofs.{Common.{◌≡◌, ◌≢◌, ℕ, ◌<◌, List, ◌∷◌, [], length, true, false, Option, Some, None, IsSome, refl, sym, ap, ◌∙◌, subst, ◌⊎◌, inl, inr, arith}, lemmas.Bool.or_cases, lemmas.List.Elements.{All-weaker, Contains-append_right}}
use Rattle.std.specs.Prelude.{IsTrue, Contains}
use Rattle.describing_set.specs.{Plane.IsHierarchyPlane, declared.listing.Spot.Spot, declared.plane.Plane.Plane}
use Rattle.mapping_table.specs.declared.place.Where.{Where}
use Rattle.mapping_table.specs.declared.place.Where.TheVariants as where_is
use Rattle.query_router.specs.{Desk.is_open, declared.part.Part.Part}
use Rattle.row_ledger.specs.{Listings.places_of, Right.{EachEvent, Stands}, Shards.{frontier, ids_made, is_child, is_live}, Workers.{is_on, left_at}, declared.event.Event.Event, declared.event.Event.TheVariants.Split}
use Rattle.row_ledger.proofs.{Ascent.frontier-ascends, Descent.live-made}
use Rattle.core_tree.specs.shard_store.specs.declared.gate.Phase.TheVariants.{Frozen, Gone, Open}
use Rattle.list_words.proofs.Truth.{on_bool}
use Rattle.core_tree.specs.volap_cell.specs.{Ghost.Ghost, Invariant.InvWith, Lineage.{Leading, Lineage, was_on, went_to}, Setting.{Setting, site_in}, View.View}
use Rattle.core_tree.specs.volap_cell.proofs.Histories.Departures.{older-made}
use Rattle.core_admin.proofs.{Moving.MovedShards.{left-within, one-host}, Retiring.Gates.{Retiring, gate-old}, SharedRows.SharesRows}

-- an entry of a table is as it was, and none of the worker that had the shard for it
abbrev pub IsKeptEntry : (v v2 : View) → ℕ → ℕ → ℕ → ℕ → Type 0
IsKeptEntry v v2 shard from w z = (v2.maps w z ≡ v.maps w z) × (z ≡ shard → w ≢ from)

-- or it leads to a new gate, on the worker that has it
abbrev pub IsNewEntry : (s : Setting) (v v2 : View) (g g2 : Ghost) (n : ℕ) → Retiring s v v2 g g2 n → Event → ℕ → ℕ → Type 0
IsNewEntry s v v2 g g2 n m e w z = (c : ℕ) × (m.new c ≡ true) × (m.shard_of c ≡ z) × (v2.maps w z ≡ Some (where_is.Gate c)) × (is_on s.workers (e ∷ v.history) z w ≡ true)

pub record LeadsOn (s : Setting) (v v2 : View) (g g2 : Ghost) (n : ℕ) (m : Retiring s v v2 g g2 n) (e : Event) : Type 0 where
  -- the worker that had the shard, whose table leads on from it, where it has no new gate there
  pub from : ℕ
  pub was_on : is_on s.workers v.history m.shard from ≡ true
  pub forward : Where
  pub entry : (w z : ℕ) → IsKeptEntry v v2 m.shard from w z ⊎ IsNewEntry s v v2 g g2 n m e w z ⊎ ((w ≡ from) × (z ≡ m.shard) × (v2.maps from m.shard ≡ Some forward))
  pub no_gate : (c : ℕ) → where_is.Gate c ≢ forward
  -- to children
  pub apart : (l r : ℕ) (plane : Plane) → v2.maps from m.shard ≡ Some forward → where_is.Split plane l r ≡ forward
      → IsTrue (is_child (e ∷ v.history) m.shard l) × IsTrue (is_child (e ∷ v.history) m.shard r) × (l ≢ r) × IsSome (v2.maps from l) × IsSome (v2.maps from r)
      × IsHierarchyPlane s.hierarchy plane × ((of : ℕ) × Contains (e ∷ v.history) (Split of m.shard l r)) × ((went_to (e ∷ v.history) m.shard from ≡ true) ⊎ (left_at s.workers (e ∷ v.history) m.shard from ≡ None))
  -- or to another worker, where the shard has its new gate
  pub onward : (u : ℕ) → v2.maps from m.shard ≡ Some forward → where_is.Moved u ≡ forward
      → (u < s.workers) × (u ≢ from) × ((c : ℕ) × (v2.maps u m.shard ≡ Some (where_is.Gate c))) × (left_at s.workers (e ∷ v.history) m.shard from ≡ Some (length v.history)) × (went_to (e ∷ v.history) m.shard from ≡ false)
  -- where shards stand
  pub on_still : (z w : ℕ) → is_on s.workers v.history z w ≡ true → z ≢ m.shard → is_on s.workers (e ∷ v.history) z w ≡ true
  pub on_was : (z w : ℕ) → is_on s.workers (e ∷ v.history) z w ≡ true → ((is_on s.workers v.history z w ≡ true) × (z ≢ m.shard)) ⊎ IsNewEntry s v v2 g g2 n m e w z
  pub live_new : (c : ℕ) → m.new c ≡ true → is_live s.workers (e ∷ v.history) (m.shard_of c) ≡ true
  pub made_new : (c : ℕ) → m.new c ≡ true → m.shard_of c < ids_made s.workers (e ∷ v.history)
  -- what is told of the others stays
  pub child : (x y : ℕ) → IsTrue (is_child v.history x y) → IsTrue (is_child (e ∷ v.history) x y)
  pub left : (w z : ℕ) → (z ≡ m.shard → w ≢ from) → left_at s.workers (e ∷ v.history) z w ≡ left_at s.workers v.history z w
  pub came : (w z l r : ℕ) (plane : Plane) → IsKeptEntry v v2 m.shard from w z → v.maps w z ≡ Some (where_is.Split plane l r) → (went_to (e ∷ v.history) z w ≡ true) ⊎ (left_at s.workers (e ∷ v.history) z w ≡ None)
  pub went : (w z u : ℕ) → IsKeptEntry v v2 m.shard from w z → v.maps w z ≡ Some (where_is.Moved u) → went_to (e ∷ v.history) z w ≡ false
  -- the stock's ids and the registry
  pub ids : v2.stock.ids ≡ ids_made s.workers (e ∷ v.history)
  pub front : places_of v2.registry.frontier ≡ frontier s.workers (e ∷ v.history)

module _ (s : Setting) (v v2 : View) (g g2 : Ghost) (n : ℕ) (i : InvWith s v g) (m : Retiring s v v2 g g2 n) (e : Event) (r : SharesRows s v v2 g g2 n m e) (t : LeadsOn s v v2 g g2 n m e) where
  abbrev h : List Event
  h = v.history

  each : EachEvent (Stands (site_in s) g.placed) h
  each = i.telling.right.right.each

  alone : (w : ℕ) → is_on s.workers h m.shard w ≡ true → w ≡ t.from
  alone w is = one-host 0 m.shard w t.from (frontier s.workers h) (frontier-ascends (site_in s) g.placed h each) is t.was_on

  gate-here : g.gate m.shard ≡ m.x
  gate-here = (i.lineage.live m.x m.shard m.is_gate (λ gone. let no : Some (Frozen m.upto) ≡ Some Gone = sym m.frozen ∙ gone in cc)).1

  by-entry : (P : ℕ → ℕ → Type 0) (w z : ℕ) → (IsKeptEntry v v2 m.shard t.from w z → P w z) → (IsNewEntry s v v2 g g2 n m e w z → P w z) → (v2.maps t.from m.shard ≡ Some t.forward → P t.from m.shard) → P w z
  by-entry P w z old new on = elim (t.entry w z) [
    | inl k ↦ old k
    | inr more ↦ elim more [ inl k ↦ new k | inr k ↦ subst (λ (x : ℕ). P x z) (sym k.0) (subst (P t.from) (sym k.1) (on k.2)) ]
  ]

  leads-still : (w z : ℕ) → IsSome (v.maps w z) → IsSome (v2.maps w z)
  leads-still w z is = by-entry (λ w z. IsSome (v.maps w z) → IsSome (v2.maps w z)) w z (λ k was. subst IsSome (sym k.0) was) (λ k was. subst IsSome (sym k.3) refl) (λ k was. subst IsSome (sym k) refl) is

  pub leading-shared : Leading s v2.maps v.images v.desks
  leading-shared = record {
    spots = λ server lt. All-weaker (λ (x : Spot). (x.worker < s.workers) × IsSome (v.maps x.worker x.shard)) (λ (x : Spot). (x.worker < s.workers) × IsSome (v2.maps x.worker x.shard))
        (λ x k. (k.0, leads-still x.worker x.shard k.1)) (v.images server).spots (i.leading.spots server lt);
    parts = λ server lt. All-weaker (λ (p : Part). is_open p ≡ true → (p.worker < s.workers) × IsSome (v.maps p.worker p.shard)) (λ (p : Part). is_open p ≡ true → (p.worker < s.workers) × IsSome (v2.maps p.worker p.shard))
        (λ p k on. let o = k on in (o.0, leads-still p.worker p.shard o.1)) (v.desks server).parts (i.leading.parts server lt);
  }

  -- the gate of a new entry
  new-gate : (w z : ℕ) → IsNewEntry s v v2 g g2 n m e w z → (v2.maps w z ≡ Some (where_is.Gate (g2.gate z))) × (v2.gates (g2.gate z) ≡ Some z) × (v2.phases (g2.gate z) ≢ Some Gone)
  new-gate w z k =
      let at : g2.gate z ≡ k.0 = ap g2.gate (sym k.2) ∙ r.gate_new k.0 k.1 in (
        k.3 ∙ ap (λ (c : ℕ). Some (where_is.Gate c)) (sym at),
        ap v2.gates at ∙ m.gate_new k.0 k.1 ∙ ap Some k.2,
        λ gone. let no : Some Open ≡ Some Gone = sym (m.phase_new k.0 k.1) ∙ ap v2.phases (sym at) ∙ gone in cc,
      )

  -- a table leads to the gate of a shard that stands
  gate-now : (z w : ℕ) → is_on s.workers (e ∷ h) z w ≡ true → (v2.maps w z ≡ Some (where_is.Gate (g2.gate z))) × (v2.gates (g2.gate z) ≡ Some z) × (v2.phases (g2.gate z) ≢ Some Gone)
  gate-now z w is = elim (t.on_was z w is) [
    | inr new ↦ new-gate w z new
    | inl old ↦ by-entry (λ w z. is_on s.workers h z w ≡ true → z ≢ m.shard → (v2.maps w z ≡ Some (where_is.Gate (g2.gate z))) × (v2.gates (g2.gate z) ≡ Some z) × (v2.phases (g2.gate z) ≢ Some Gone)) w z
        (λ k was ne.
        let o = i.lineage.gate_of z w was in
        let kept = gate-old s v v2 g g2 n i m (g.gate z) (subst IsSome (sym o.1) refl) in
        let off : g.gate z ≢ m.x = (λ is. let both : Some z ≡ Some m.shard = sym o.1 ∙ ap v.gates is ∙ m.is_gate in ne (cc)) in
        subst (λ (c : ℕ). (v2.maps w z ≡ Some (where_is.Gate c)) × (v2.gates c ≡ Some z) × (v2.phases c ≢ Some Gone)) (sym (r.gate_off z (i.lineage.made (g.gate z) z o.1) ne))
        (k.0 ∙ o.0, m.gates_off (g.gate z) kept ∙ o.1, λ gone. o.2 (sym (m.phases_off (g.gate z) kept off) ∙ gone)))
        (λ k was ne. new-gate w z k) (λ k was ne. absurd (ne refl)) old.0 old.1
  ]

  pub lineage-shared : Lineage s (e ∷ h) v2.stock v2.registry v2.maps v2.gates v2.phases g2.gate
  lineage-shared =
      let k = i.lineage in record {
        ids = t.ids;
        front = t.front;
        gate_of = gate-now;
        known = λ z w was. elim (or_cases (is_on s.workers (e ∷ h) z w) (was_on s.workers h z w) was) [
          | inl now ↦ subst IsSome (sym (gate-now z w now).0) refl
          | inr before ↦ leads-still w z (k.known z w before)
        ];
        live = λ c z is stands. on_bool (m.new c)
            (λ q.
            let both : Some (m.shard_of c) ≡ Some z = sym (m.gate_new c q) ∙ is in
            let same : m.shard_of c ≡ z = cc in
            subst (λ (x : ℕ). (is_live s.workers (e ∷ h) x ≡ true) × (g2.gate x ≡ c)) same (t.live_new c q, r.gate_new c q))
            (λ q.
            let was : v.gates c ≡ Some z = sym (m.gates_off c q) ∙ is in
            let off : c ≢ m.x = (λ at. stands (ap v2.phases at ∙ m.phase_x)) in
            let o = k.live c z was (λ gone. stands (m.phases_off c q off ∙ gone)) in
            let ne : z ≢ m.shard = (λ at. off (sym o.1 ∙ ap g.gate at ∙ gate-here)) in
            (r.still z o.0 ne, r.gate_off z (live-made (site_in s) g.placed h z each o.0) ne ∙ o.1));
        leads = λ w z c. by-entry (λ w z. v2.maps w z ≡ Some (where_is.Gate c) → (is_on s.workers (e ∷ h) z w ≡ true) × (g2.gate z ≡ c)) w z
            (λ p is.
            let o = k.leads w z c (sym p.0 ∙ is) in
            let ne : z ≢ m.shard = (λ at. p.1 at (alone w (subst (λ (x : ℕ). is_on s.workers h x w ≡ true) at o.0))) in
            (t.on_still z w o.0 ne, r.gate_off z (k.made c z (sym (ap v.gates o.1) ∙ (k.gate_of z w o.0).1)) ne ∙ o.1))
            (λ p is. let both : Some (where_is.Gate p.0) ≡ Some (where_is.Gate c) = sym p.3 ∙ is in let same : p.0 ≡ c = cc in (p.4, ap g2.gate (sym p.2) ∙ r.gate_new p.0 p.1 ∙ same))
            (λ p is. let both : Some t.forward ≡ Some (where_is.Gate c) = sym p ∙ is in absurd (t.no_gate c (cc)));
        split = λ w z a b plane. by-entry (λ w z. v2.maps w z ≡ Some (where_is.Split plane a b) → IsTrue (is_child (e ∷ h) z a) × IsTrue (is_child (e ∷ h) z b) × (a ≢ b) × IsSome (v2.maps w a) × IsSome (v2.maps w b)) w z
            (λ p is. let o = k.split w z a b plane (sym p.0 ∙ is) in (t.child z a o.0, t.child z b o.1, o.2, leads-still w a o.3, leads-still w b o.4))
            (λ p is. let no : Some (where_is.Gate p.0) ≡ Some (where_is.Split plane a b) = sym p.3 ∙ is in cc)
            (λ p is. let both : Some t.forward ≡ Some (where_is.Split plane a b) = sym p ∙ is in let o = t.apart a b plane p (cc) in (o.0, o.1, o.2, o.3, o.4));
        divided = λ w z a b plane. by-entry (λ w z. v2.maps w z ≡ Some (where_is.Split plane a b) → IsHierarchyPlane s.hierarchy plane × ((of : ℕ) × Contains (e ∷ h) (Split of z a b)) × ((went_to (e ∷ h) z w ≡ true) ⊎ (left_at s.workers (e ∷ h) z w ≡ None))) w z
            (λ p is. let o = k.divided w z a b plane (sym p.0 ∙ is) in (o.0, (o.1.0, Contains-append_right (e ∷ []) h _ o.1.1), t.came w z a b plane p (sym p.0 ∙ is)))
            (λ p is. let no : Some (where_is.Gate p.0) ≡ Some (where_is.Split plane a b) = sym p.3 ∙ is in cc)
            (λ p is. let both : Some t.forward ≡ Some (where_is.Split plane a b) = sym p ∙ is in let o = t.apart a b plane p (cc) in (o.5, o.6, o.7));
        moved = λ w z u. by-entry (λ w z. v2.maps w z ≡ Some (where_is.Moved u) → (u < s.workers) × (u ≢ w) × IsSome (v2.maps u z) × IsSome (left_at s.workers (e ∷ h) z w) × (went_to (e ∷ h) z w ≡ false)) w z
            (λ p is. let o = k.moved w z u (sym p.0 ∙ is) in (o.0, o.1, leads-still u z o.2, subst IsSome (sym (t.left w z p.1)) o.3, t.went w z u p (sym p.0 ∙ is)))
            (λ p is. let no : Some (where_is.Gate p.0) ≡ Some (where_is.Moved u) = sym p.3 ∙ is in cc)
            (λ p is. let both : Some t.forward ≡ Some (where_is.Moved u) = sym p ∙ is in let o = t.onward u p (cc) in (o.0, o.1, subst IsSome (sym o.2.1) refl, subst IsSome (sym o.3) refl, o.4));
        later = λ w z u x a b. by-entry (λ w z. v2.maps w z ≡ Some (where_is.Moved u) → v2.maps u z ≡ Some (where_is.Moved x) → left_at s.workers (e ∷ h) z w ≡ Some a → left_at s.workers (e ∷ h) z u ≡ Some b → a < b) w z
            (λ p is. by-entry (λ u z. v.maps w z ≡ Some (where_is.Moved u) → (z ≡ m.shard → w ≢ t.from) → v2.maps u z ≡ Some (where_is.Moved x) → left_at s.workers (e ∷ h) z w ≡ Some a → left_at s.workers (e ∷ h) z u ≡ Some b → a < b) u z
            (λ o was off next la lb. k.later w z u x a b was (sym o.0 ∙ next) (sym (t.left w z off) ∙ la) (sym (t.left u z o.1) ∙ lb))
            (λ o was off next. let no : Some (where_is.Gate o.0) ≡ Some (where_is.Moved x) = sym o.3 ∙ next in cc)
            (λ o was off next la lb.
            let early = left-within s.workers h m.shard w a (sym (t.left w m.shard off) ∙ la) in
            let both : Some t.forward ≡ Some (where_is.Moved x) = sym o ∙ next in
            let ends : ◌≡◌ {A = Option ℕ} (Some (length h)) (Some b) = sym (t.onward x o (cc)).3 ∙ lb in
            let last : length h ≡ b = cc in omega (arith, early, last))
            (sym p.0 ∙ is) p.1)
            (λ p is. let no : Some (where_is.Gate p.0) ≡ Some (where_is.Moved u) = sym p.3 ∙ is in cc)
            (λ p is next.
            let both : Some t.forward ≡ Some (where_is.Moved u) = sym p ∙ is in
            let o = t.onward u p (cc) in
            let no : Some (where_is.Gate o.2.0) ≡ Some (where_is.Moved x) = sym o.2.1 ∙ next in cc);
        made = λ c z is. on_bool (m.new c)
            (λ q. let both : Some (m.shard_of c) ≡ Some z = sym (m.gate_new c q) ∙ is in let same : m.shard_of c ≡ z = cc in subst (λ (x : ℕ). x < ids_made s.workers (e ∷ h)) same (t.made_new c q))
            (λ q. older-made s.workers e h z (k.made c z (sym (m.gates_off c q) ∙ is)));
      }
