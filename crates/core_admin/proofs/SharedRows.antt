-- A gate retires, and new gates take its rows: each row of its shard goes to the shard of one of them, and is once there, in its new
-- tree or its new queue. A split has two new gates, and a move one, of the same shard.
use Rattle.std.proofs.{Common.{◌≡◌, ◌≢◌, ℕ, ◌+◌, ◌<◌, ◌≤◌, List, ◌∷◌, Bool, true, false, cond, eqb, Some, IsSome, Contains, refl, sym, ap, ◌∙◌, subst, ◌⊎◌, inl, inr, arith}, lemmas.Bool.{eqb-true, eqb-false}}
use Rattle.row_ledger.specs.{Past.{Ack, acked, last_of}, Shards.{comes_from, ids_made, is_live}, declared.event.Event.Event}
use Rattle.row_ledger.proofs.Descent.{comes_from-self, live-made}
use Rattle.core_tree.specs.shard_store.specs.{declared.gate.Phase.TheVariants.{Frozen, Gone}, declared.queue.Queue.Queue}
use Rattle.list_words.specs.Counts.{same, times}
use Rattle.list_words.proofs.{Times.same_not, Truth.on_bool}
use Rattle.core_tree.specs.tree_shape.specs.Shape.{Shape, numbers}
use Rattle.core_tree.specs.volap_cell.specs.{Ghost.{Ghost, Owner}, Growing.{IsUnder, Resting}, Invariant.InvWith, Placing.{NobodyAt, Placing}, Setting.{Setting, site_in}, Turning.Turning, View.{View, view}, World.World, declared.role.Role.TheVariants.Admin}
use Rattle.core_tree.specs.volap_cell.proofs.{Histories.Standings.live-on, OneEvent.Older.insert-kept}
use Rattle.core_admin.proofs.{Retiring.Gates.{Retiring, gate-old}, Retiring.Trees.{retired-resting, retired-turning}, ShardLines.KeepsLines}

-- the ghost afterwards: rows are in the shards of the new gates
abbrev pub shared_ghost : Ghost → (ℕ → Owner) → (ℕ → ℕ) → (ℕ → Shape) → (ℕ → ℕ) → Ghost
shared_ghost g owner gate shape home = record g { owner = owner; gate = gate; shape = shape; home = home }

pub record SharesRows (s : Setting) (v v2 : View) (g g2 : Ghost) (n : ℕ) (m : Retiring s v v2 g g2 n) (e : Event) : Type 0 where
  -- which shards stand
  pub still : (z : ℕ) → is_live s.workers v.history z ≡ true → z ≢ m.shard → is_live s.workers (e ∷ v.history) z ≡ true
  pub stood : (z : ℕ) → is_live s.workers (e ∷ v.history) z ≡ true → ((is_live s.workers v.history z ≡ true) × (z ≢ m.shard)) ⊎ ((c : ℕ) × (m.new c ≡ true) × (m.shard_of c ≡ z))
  -- where their gates are
  pub gate_new : (c : ℕ) → m.new c ≡ true → g2.gate (m.shard_of c) ≡ c
  pub gate_off : (z : ℕ) → z < ids_made s.workers v.history → z ≢ m.shard → g2.gate z ≡ g.gate z
  -- where the rows are
  pub home_new : (q : ℕ) → g.home q ≡ m.shard → is_live s.workers (e ∷ v.history) (g2.home q) ≡ true
  pub home_away : (q z : ℕ) → g.home q ≡ m.shard → is_live s.workers v.history z ≡ true → z ≢ m.shard → g2.home q ≢ z
  pub home_off : (q : ℕ) → g.home q ≢ m.shard → g2.home q ≡ g.home q
  pub rows : (c q : ℕ) → m.new c ≡ true → cond ((g2.shape c).placed q) 1 0 + times q (numbers (v2.queues c).rows) ≡ cond (g.placed q) (same (g2.home q) (m.shard_of c)) 0

module _ (s : Setting) (w : World) (v2 : View) (g : Ghost) (owner : ℕ → Owner) (gate : ℕ → ℕ) (shape : ℕ → Shape) (home : ℕ → ℕ) (n : ℕ) (i : InvWith s (view s w) g) (m : Retiring s (view s w) v2 g (shared_ghost g owner gate shape home) n) (e : Event)
    (lines : KeepsLines s (view s w) g home e) (t : SharesRows s (view s w) v2 g (shared_ghost g owner gate shape home) n m e) where
  abbrev v : View
  v = view s w

  abbrev h : List Event
  h = v.history

  abbrev g2 : Ghost
  g2 = shared_ghost g owner gate shape home

  its-gate : (is_live s.workers h m.shard ≡ true) × (g.gate m.shard ≡ m.x)
  its-gate = i.lineage.live m.x m.shard m.is_gate (λ gone. let no : Some (Frozen m.upto) ≡ Some Gone = sym m.frozen ∙ gone in cc)

  made : (z : ℕ) → is_live s.workers h z ≡ true → z < ids_made s.workers h
  made z live = live-made (site_in s) g.placed h z i.telling.right.right.each live

  -- a row of the old tree is the shard's

  one-here : (q : ℕ) → cond ((g.shape m.x).placed q) 1 0 + times q (numbers (v.queues m.x).rows) ≡ cond (g.placed q) (same (g.home q) m.shard) 0
  one-here q = subst (λ (c : ℕ). cond ((g.shape c).placed q) 1 0 + times q (numbers (v.queues c).rows) ≡ cond (g.placed q) (same (g.home q) m.shard) 0) its-gate.1 (i.placing.one m.shard q its-gate.0)

  is-its : (b c : Bool) → 1 ≤ cond b (cond c 1 0) 0 → (b ≡ true) × (c ≡ true)
  is-its true true le = (refl, refl)
  is-its true false le = absurd (omega (arith, le))
  is-its false c le = absurd (omega (arith, le))

  old-under : (q : ℕ) → (g.shape m.x).placed q ≡ true → IsUnder (e ∷ h) g.placed home m.shard q
  old-under q there =
      let one = one-here q in
      let here : ◌≡◌ {A = ℕ} (cond ((g.shape m.x).placed q) 1 0) 1 = ap (λ (b : Bool). cond b 1 0) there in
      let its = is-its (g.placed q) (eqb (g.home q) m.shard) (omega (arith, one, here)) in
      lines.under m.shard q (record { is_placed = its.0; comes = ap (comes_from h m.shard) (eqb-true (g.home q) m.shard its.1) ∙ comes_from-self h m.shard })

  pub resting-shared : v.roles n ≡ Admin → Resting (e ∷ h) v2.gates v2.phases shape g.placed home
  resting-shared admin = retired-resting s w v2 g g2 n i m admin (e ∷ h) old-under (λ c z q is u. lines.under z q u)

  pub turning-shared : v.roles n ≡ Admin → Turning s v.ways v2.purses v.boxes v2.phases v2.active gate shape home
  turning-shared admin = retired-turning s w v2 g g2 n i m admin (λ q c old off placed at.
      let ne : g.home q ≢ m.shard = (λ is. off (sym at ∙ ap g.gate is ∙ its-gate.1)) in
      ap gate (t.home_off q ne) ∙ t.gate_off (g.home q) (made (g.home q) (i.placing.stands q placed)) ne ∙ at)

  -- a shard that stands still has its rows
  count-old : (z q : ℕ) → z ≢ m.shard → is_live s.workers h z ≡ true → cond (g.placed q) (same (home q) z) 0 ≡ cond (g.placed q) (same (g.home q) z) 0
  count-old z q ne live = on_bool (eqb (g.home q) m.shard)
      (λ k.
      let is = eqb-true (g.home q) m.shard k in
      ap (λ (a : ℕ). cond (g.placed q) a 0) (same_not (home q) z (t.home_away q z is live ne) ∙ sym (same_not (g.home q) z (λ at. ne (sym at ∙ is)))))
      (λ k. ap (λ (a : ℕ). cond (g.placed q) (same a z) 0) (t.home_off q (eqb-false (g.home q) m.shard k)))

  pub placing-shared : Placing s (e ∷ h) v.commands v.ways v2.queues gate shape g.placed home g.path
  placing-shared =
      let k = i.placing in record {
        one = λ z q live. elim (t.stood z live) [
          | inl old ↦
              let on = live-on s v z old.0 in
              let at = (i.lineage.gate_of z on.0 on.1).1 in
              let kept = gate-old s v v2 g g2 n i m (g.gate z) (subst IsSome (sym at) refl) in
              let off : g.gate z ≢ m.x = (λ is. let both : Some z ≡ Some m.shard = sym at ∙ ap v.gates is ∙ m.is_gate in old.1 cc) in
              subst (λ (c : ℕ). cond ((shape c).placed q) 1 0 + times q (numbers (v2.queues c).rows) ≡ cond (g.placed q) (same (home q) z) 0) (sym (t.gate_off z (made z old.0) old.1))
              (subst (λ (x : Shape). cond (x.placed q) 1 0 + times q (numbers (v2.queues (g.gate z)).rows) ≡ cond (g.placed q) (same (home q) z) 0) (sym (m.shape_off (g.gate z) kept))
              (subst (λ (x : Queue). cond ((g.shape (g.gate z)).placed q) 1 0 + times q (numbers x.rows) ≡ cond (g.placed q) (same (home q) z) 0) (sym (m.queues_off (g.gate z) kept off)) (k.one z q old.0 ∙ sym (count-old z q old.1 old.0))))
          | inr new ↦ subst (λ (x : ℕ). cond ((shape (gate x)).placed q) 1 0 + times q (numbers (v2.queues (gate x)).rows) ≡ cond (g.placed q) (same (home q) x) 0) new.2
              (subst (λ (c : ℕ). cond ((shape c).placed q) 1 0 + times q (numbers (v2.queues c).rows) ≡ cond (g.placed q) (same (home q) (m.shard_of new.0)) 0) (sym (t.gate_new new.0 new.1)) (t.rows new.0 q new.1))
        ];
        stands = λ q p. on_bool (eqb (g.home q) m.shard)
            (λ a. t.home_new q (eqb-true (g.home q) m.shard a))
            (λ a. let ne = eqb-false (g.home q) m.shard a in ap (is_live s.workers (e ∷ h)) (t.home_off q ne) ∙ t.still (g.home q) (k.stands q p) ne);
        begun = λ q p. let b = k.begun q p in (b.0, insert-kept e h q b.0 b.1);
        line = λ q p. let l = k.line q p in (l.0, (lines.under (last_of (g.path q)) q (record { is_placed = p; comes = l.1 })).comes);
        acked_rows = subst (λ (xs : List Ack). (a : Ack) → Contains xs a → (g.placed a.row.no ≡ true) × (g.path a.row.no ≡ a.path) × NobodyAt v.ways a.row.no) (sym lines.acks.acked) k.acked_rows;
        others = λ q p. elim (k.others q p) [ inl a ↦ inl (a.0, subst (λ (xs : List Ack). Contains xs a.0) (sym lines.acks.acked) a.1, a.2) | inr o ↦ inr o ];
      }
