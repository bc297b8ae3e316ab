-- Where the commands go one after the other, the actor of the first one that isn't over can step.
use Rattle.std.proofs.{Common.{◌≡◌, ◌≢◌, ◌∙◌, ℕ, ◌⊎◌, inl, inr, Bool, true, false, Option, Some, None, length, refl, sym, ap, arith, not}, lemmas.Bool.eq-eqb}
use Rattle.std.specs.{Option.option_map_or, Prelude.{◌==◌, ◌&&◌, ◌||◌, is_none, is_some}}
use Rattle.seeded_turns.proofs.Able.{able_place}
use Rattle.seeded_turns.specs.Drawn.{able}
use Rattle.core_pages.specs.volap_cell.proofs.Sums.{sum-zero}
use Rattle.core_pages.specs.volap_cell.specs.{Cells.active_in, Errands.way_of, Ghost.Ghost, Invariant.InvWith, Setting.{Setting, actor_count}, Steps.history_in, Turning.inside_of, Values.ErrandValue, View.view, World.World, declared.kind.Kind.Kind}
use Rattle.seeded_run.proofs.{Due.Dues.at-part-law, Phases.Ends.no-actor, Phases.Movers.{all-from, clash, free-or-none, meets-both, no-job, undrained}, Phases.Progress.{due-or-blocked, led-known}}
use Rattle.core_due.specs.Wants.{is_block_free, is_carried_at, is_drained, meets, wanted}
use Rattle.seeded_run.specs.{Can.{can, can_in_order, is_turn_of}, Due.{due, due_by}, Progress.{IsOrderedRun, IsScriptRun, OrderEndLaw}, Rests.{PhaseRun, first_open, rest_of}}

same-or : (a b : ℕ) → (a ≡ b) ⊎ (a ≢ b)
same-or a b = grind arith

-- who does nothing is at no part
no-part : (c e j q b : Bool) → (c && e && j && q && b) ≡ true → e ≡ true
no-part true true j q b is = refl
no-part true false j q b is = cc
no-part false e j q b is = cc

none-is : (o : Option ErrandValue) → is_none o ≡ true → o ≡ None
none-is None is = refl
none-is (Some e) is = cc

module _ (s : Setting) (p : PhaseRun) (w : World) (g : Ghost) (i : InvWith s (view s w) g) (run : IsScriptRun s w (rest_of p (history_in w))) (order : IsOrderedRun s p w)
    (n : ℕ) (first : first_open p (history_in w) ≡ Some n) where
  at-no-part : (a : ℕ) → a ≢ n → (w.actors a).errand ≡ None
  at-no-part a apart = none-is (w.actors a).errand (no-part _ _ _ _ _ (order.others n a first apart))

  own-due : (k : Kind) × (due_by s w (rest_of p (history_in w)) n ≡ Some k)
  own-due = elim (due-or-blocked s w g (rest_of p (history_in w)) i run n (order.here n first).0 (order.here n first).1 (w.actors n).errand refl) [
    | inl (inl k) ↦ k
    | inl (inr (b, e, at)) ↦ elim (same-or b n) [
      | inl is ↦ let here : (w.actors n).errand ≡ Some e = ap (λ m. (w.actors m).errand) (sym is) ∙ at in
          at-part-law s w (rest_of p (history_in w)) n e here (led-known s w g (rest_of p (history_in w)) i n e here)
      | inr apart ↦ let none = at-no-part b apart in absurd (clash (is_some (w.actors b).errand) (ap is_some at) (ap is_some none))
    ]
    | inr blocked ↦ clash _ (order.last n blocked.c blocked.more first blocked.free blocked.next blocked.closing) blocked.others
  ]

  free : (y : ℕ) → is_block_free s w n y ≡ true
  free y = all-from (actor_count s) _ (λ a low. elim (same-or a n) [
    | inl is ↦ or-first (a == n) (not (is_carried_at y (way_of (w.actors a).errand))) (eq-eqb a n is)
    | inr apart ↦ or-second (a == n) (not (is_carried_at y (way_of (w.actors a).errand))) (ap (λ o. not (is_carried_at y (way_of o))) (at-no-part a apart))
  ])
    where
      or-first : (a b : Bool) → a ≡ true → (a || b) ≡ true
      or-first true b e = refl
      or-first false b e = cc

      or-second : (a b : Bool) → b ≡ true → (a || b) ≡ true
      or-second true b e = refl
      or-second false b e = e

  drained : (o : Option ErrandValue) → (w.actors n).errand ≡ o → is_drained w (w.actors n).job ≡ true
  drained (Some e) errand = no-job s w g (rest_of p (history_in w)) i n e errand
  drained None errand = by (is_drained w (w.actors n).job) refl
    where
      outside : (c a : ℕ) → inside_of c (way_of (w.actors a).errand) ≡ 0
      outside c a = elim (same-or a n) [
        | inl is ↦ ap (λ m. inside_of c (way_of (w.actors m).errand)) is ∙ ap (λ o. inside_of c (way_of o)) errand
        | inr apart ↦ ap (λ o. inside_of c (way_of o)) (at-no-part a apart)
      ]

      by : (b : Bool) → is_drained w (w.actors n).job ≡ b → is_drained w (w.actors n).job ≡ true
      by true is = is
      by false is =
          let c = undrained s w g (rest_of p (history_in w)) i (w.actors n).job is in
          clash (active_in (w.cells c.0) == 0)
          (eq-eqb (active_in (w.cells c.0)) 0 (i.turning.counts c.0 ∙ sum-zero (actor_count s) (λ a. inside_of c.0 (way_of (w.actors a).errand)) (λ a low. outside c.0 a))) c.1

  first-can : can_in_order s p w n ≡ true
  first-can =
      let k = own-due in
      let here : can s p w n ≡ true = ap (λ o. option_map_or (meets s w n) o false) k.1
      ∙ meets-both s w n k.0 (free-or-none s w n (wanted s w (w.actors n) k.0) (λ y is. free y)) (drained (w.actors n).errand refl) in
      let own : is_turn_of (first_open p (history_in w)) n (due s p w n) ≡ true = ap (λ o. is_turn_of o n (due s p w n)) first ∙ eq-eqb n n refl in
      both (is_turn_of (first_open p (history_in w)) n (due s p w n)) (can s p w n) own here
    where
      both : (a b : Bool) → a ≡ true → b ≡ true → (a && b) ≡ true
      both true b x y = y
      both false b x y = cc

pub order-end-law : OrderEndLaw
order-end-law s p w g i run order none = by (first_open p (history_in w)) refl
  where
    by : (o : Option ℕ) → first_open p (history_in w) ≡ o → first_open p (history_in w) ≡ None
    by None is = is
    by (Some n) is =
        no-actor (able (can_in_order s p w) (actor_count s)) (length (able (can_in_order s p w) n)) n none
        (able_place (can_in_order s p w) (actor_count s) n (order.here n is).0 (first-can s p w g i run order n is))
