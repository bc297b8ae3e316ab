-- Moves of shards: which event is the last one that took a shard from a worker, and where a shard that stands was brought last.
use Rattle.std.proofs.{Common.{◌≡◌, ℕ, ◌+◌, ◌<◌, ◌≤◌, List, [], ◌∷◌, length, Bool, true, false, not, Option, Some, None, refl, sym, ap, subst, ◌∙◌, ◌⊎◌, inl, inr, arith, ◌==◌, ◌&&◌, ◌||◌}, lemmas.Bool.{and_parts, eq-eqb, eqb-true, false≢true, or_cases, or_right}, lemmas.List.Folds.list_any-append}
use Rattle.std.specs.{List.list_any, Prelude.{if◌then◌else◌, filter, map}}
use Rattle.row_ledger.specs.{Right.{EachEvent, Site, Stands}, Shards.{Place, children, frontier, ids_made, is_of, place, worker_of}, Workers.{is_on, left_at}, declared.event.Event.Event, declared.event.Event.TheVariants.{Moved, Split}}
use Rattle.row_ledger.proofs.Descent.{live-made}
use Rattle.volap_cell.specs.Lineage.{went_to}

-- Moves.

-- the event at a position moves the shard
abbrev pub MovesAt : List Event → ℕ → ℕ → Type 0
MovesAt [] x p = ⊥
MovesAt (e ∷ past) x p = ((length past ≡ p) × ((of : ℕ) × (to : ℕ) × (e ≡ Moved of x to))) ⊎ MovesAt past x p

-- where a shard last left a worker it was moved
pub left-moves : (workers : ℕ) (h : List Event) (x w p : ℕ) → left_at workers h x w ≡ Some p → MovesAt h x p
left-moves workers [] x w p is = (let never : ◌≡◌ {A = Option ℕ} None (Some p) = is in absurd (cc))
left-moves workers (Moved of moved to ∷ past) x w p is = at (λ older. left-moves workers past x w p older) ((moved == x) && is_on workers past x w && not (to == w)) refl is
  where
    at : (left_at workers past x w ≡ Some p → MovesAt past x p) → (b : Bool) → ((moved == x) && is_on workers past x w && not (to == w)) ≡ b → (if b then Some (length past) else left_at workers past x w) ≡ Some p → MovesAt (Moved of moved to ∷ past) x p
    at rest true b_is is =
        let moved_is : moved ≡ x = eqb-true moved x (and_parts (moved == x) (is_on workers past x w) (and_parts ((moved == x) && is_on workers past x w) (not (to == w)) b_is).0).0 in
        inl (cc, (of, to, ap (λ (y : ℕ). Moved of y to) moved_is))
    at rest false b_is is = inr (rest is)
left-moves workers (_ ∷ past) x w p is = inr (left-moves workers past x w p is)

-- an id stays made
pub older-made : (workers : ℕ) (e : Event) (past : List Event) (x : ℕ) → x < ids_made workers past → x < ids_made workers (e ∷ past)
older-made workers (Split of shard left right) past x below = omega arith
older-made workers _ past x below = below

-- a shard that was moved had its id
pub moves-made : (site : Site) (usable : ℕ → Bool) (h : List Event) (x p : ℕ) → EachEvent (Stands site usable) h → MovesAt h x p → x < ids_made site.workers h
moves-made site usable [] x p each moves = absurd moves
moves-made site usable (e ∷ past) x p each (inl here) =
    let (of, to, is) = here.1 in
    let stands : Stands site usable past (Moved of x to) = subst (λ (y : Event). Stands site usable past y) is each.0 in
    older-made site.workers e past x (live-made site usable past x each.1 stands.live)
moves-made site usable (e ∷ past) x p each (inr older) = older-made site.workers e past x (moves-made site usable past x p each.1 older)

-- a shard without an id left nobody
unmade-left : (site : Site) (usable : ℕ → Bool) (h : List Event) (x w : ℕ) → EachEvent (Stands site usable) h → ids_made site.workers h ≤ x → left_at site.workers h x w ≡ None
unmade-left site usable h x w each unmade = at (left_at site.workers h x w) refl
  where
    at : (o : Option ℕ) → left_at site.workers h x w ≡ o → left_at site.workers h x w ≡ None
    at None is = is
    at (Some p) is = (let made = moves-made site usable h x p each (left-moves site.workers h x w p is) in absurd (omega (arith, made, unmade)))

-- Where a shard stands: its last move brought it there, or it never left that worker.

abbrev pub StaysAt : ℕ → List Event → ℕ → ℕ → Type 0
StaysAt workers h x w = (went_to h x w ≡ true) ⊎ (left_at workers h x w ≡ None)

abbrev on : ℕ → ℕ → Place → Bool
on x w p = is_of x p && (p.worker == w)

on-without : (places : List Place) (shard x w : ℕ) → list_any (on x w) (filter (λ (p : Place). not (is_of shard p)) places) ≡ true → list_any (on x w) places ≡ true
on-without [] shard x w is = is
on-without (p ∷ places) shard x w is = at (λ more. on-without places shard x w more) (is_of shard p) is
  where
    at : (list_any (on x w) (filter (λ (p : Place). not (is_of shard p)) places) ≡ true → list_any (on x w) places ≡ true) → (b : Bool) → list_any (on x w) (if not b then p ∷ filter (λ (p : Place). not (is_of shard p)) places else filter (λ (p : Place). not (is_of shard p)) places) ≡ true → (on x w p || list_any (on x w) places) ≡ true
    at rest true is = or_right (on x w p) (list_any (on x w) places) (rest is)
    at rest false is = elim (or_cases (on x w p) _ is) [
      | inl here ↦ rw here refl
      | inr more ↦ or_right (on x w p) (list_any (on x w) places) (rest more)
    ]

on-children : (left right : ℕ) (worker : Option ℕ) (x w : ℕ) → list_any (on x w) (children left right worker) ≡ true → (x ≡ left) ⊎ (x ≡ right)
on-children left right None x w is = cc
on-children left right (Some worker) x w is = elim (or_cases ((left == x) && (worker == w)) _ is) [
  | inl here ↦ inl (sym (eqb-true left x (and_parts (left == x) (worker == w) here).0))
  | inr more ↦ elim (or_cases ((right == x) && (worker == w)) false more) [
    | inl here ↦ inr (sym (eqb-true right x (and_parts (right == x) (worker == w) here).0))
    | inr never ↦ absurd (false≢true never)
  ]
]

-- a shard that was moved is where it was moved to
on-moved : (places : List Place) (shard to x w : ℕ) → shard ≡ x → list_any (on x w) (map (λ (p : Place). if is_of shard p then place shard to else p) places) ≡ true → (to == w) ≡ true
on-moved [] shard to x w same is = absurd (false≢true is)
on-moved (p ∷ places) shard to x w same is = at (λ more. on-moved places shard to x w same more) (is_of shard p) refl is
  where
    at : (list_any (on x w) (map (λ (p : Place). if is_of shard p then place shard to else p) places) ≡ true → (to == w) ≡ true) → (b : Bool) → is_of shard p ≡ b → (on x w (if b then place shard to else p) || list_any (on x w) (map (λ (p : Place). if is_of shard p then place shard to else p) places)) ≡ true → (to == w) ≡ true
    at rest true here is = elim (or_cases ((shard == x) && (to == w)) _ is) [
      | inl first ↦ (and_parts (shard == x) (to == w) first).1
      | inr more ↦ rest more
    ]
    at rest false other is = elim (or_cases ((p.shard == x) && (p.worker == w)) _ is) [
      | inl first ↦
          let its : p.shard ≡ x = eqb-true p.shard x (and_parts (p.shard == x) (p.worker == w) first).0 in
          absurd (false≢true (sym other ∙ eq-eqb p.shard shard (its ∙ sym same)))
      | inr more ↦ rest more
    ]

-- another one is where it was
on-unmoved : (places : List Place) (shard to x w : ℕ) → (shard == x) ≡ false → list_any (on x w) (map (λ (p : Place). if is_of shard p then place shard to else p) places) ≡ true → list_any (on x w) places ≡ true
on-unmoved [] shard to x w ne is = is
on-unmoved (p ∷ places) shard to x w ne is = at (λ more. on-unmoved places shard to x w ne more) (is_of shard p) refl is
  where
    at : (list_any (on x w) (map (λ (p : Place). if is_of shard p then place shard to else p) places) ≡ true → list_any (on x w) places ≡ true) → (b : Bool) → is_of shard p ≡ b → (on x w (if b then place shard to else p) || list_any (on x w) (map (λ (p : Place). if is_of shard p then place shard to else p) places)) ≡ true → (on x w p || list_any (on x w) places) ≡ true
    at rest true here is = elim (or_cases ((shard == x) && (to == w)) _ is) [
      | inl first ↦ absurd (false≢true (sym ne ∙ (and_parts (shard == x) (to == w) first).0))
      | inr more ↦ or_right (on x w p) (list_any (on x w) places) (rest more)
    ]
    at rest false other is = elim (or_cases (on x w p) _ is) [
      | inl first ↦ rw first refl
      | inr more ↦ or_right (on x w p) (list_any (on x w) places) (rest more)
    ]

pub on-stays-at : (site : Site) (usable : ℕ → Bool) (h : List Event) (x w : ℕ) → EachEvent (Stands site usable) h → is_on site.workers h x w ≡ true → StaysAt site.workers h x w
on-stays-at site usable [] x w each is = inr refl
on-stays-at site usable (Moved of shard to ∷ past) x w each is = at (λ on_past. on-stays-at site usable past x w each.1 on_past) (shard == x) refl
  where
    at : (is_on site.workers past x w ≡ true → StaysAt site.workers past x w) → (b : Bool) → (shard == x) ≡ b → StaysAt site.workers (Moved of shard to ∷ past) x w
    at rest true same = inl (rw same (on-moved (frontier site.workers past) shard to x w (eqb-true shard x same) is))
    at rest false other = elim (rest (on-unmoved (frontier site.workers past) shard to x w other is)) [
      | inl there ↦ inl (rw other there)
      | inr never ↦ inr (rw other never)
    ]
on-stays-at site usable (Split of shard left right ∷ past) x w each is =
    let kept = filter (λ (p : Place). not (is_of shard p)) (frontier site.workers past) in
    let made = children left right (worker_of (frontier site.workers past) shard) in
    let next : left ≡ ids_made site.workers past = each.0.next in
    let after : right ≡ ids_made site.workers past + 1 = each.0.after in
    elim (or_cases (list_any (on x w) kept) (list_any (on x w) made) (sym (list_any-append (on x w) kept made) ∙ is)) [
      | inl old ↦ on-stays-at site usable past x w each.1 (on-without (frontier site.workers past) shard x w old)
      | inr new ↦ inr (unmade-left site usable past x w each.1 (elim (on-children left right (worker_of (frontier site.workers past) shard) x w new) [
        | inl is_left ↦ omega arith
        | inr is_right ↦ omega arith
      ]))
    ]
on-stays-at site usable (_ ∷ past) x w each is = on-stays-at site usable past x w each.1 is
