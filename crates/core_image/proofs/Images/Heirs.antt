-- No shard comes from one that stands, but that one itself.
use Rattle.std.proofs.{Common.{◌≡◌, ◌≢◌, ℕ, ◌+◌, ◌≤◌, ◌<◌, List, [], ◌∷◌, map, Bool, true, false, refl, sym, ap, subst, arith, ◌==◌, ◌∙◌, ◌||◌, inl, inr, eq-eqb, eqb-true}, lemmas.Bool.{cases_lt, cond_both, or_cases}, lemmas.Bool.Decides.nat_tests, lemmas.List.Folds.{Any-from_list_any, list_any-from_Any}}
use Rattle.std.specs.Prelude.{if◌then◌else◌}
use Rattle.row_ledger.specs.{Right.{Site, EachEvent, Stands}, Shards.{Place, comes_from, frontier, ids_made, is_live, is_of, parent_in, place}, declared.event.Event.Event, declared.event.Event.TheVariants.{Split, Moved}}
use Rattle.row_ledger.proofs.Descent.{comes_from-made, live-made, live-split}
use Rattle.list_words.proofs.Elements.{Contains-mapped}

-- What stands behind an event.

-- behind a move: what stood before
live-moved : (workers : ℕ) (past : List Event) (of shard worker x : ℕ) → is_live workers (Moved of shard worker ∷ past) x ≡ true → is_live workers past x ≡ true
live-moved workers past of shard worker x live =
    let places = frontier workers past in
    let move : Place → Place = λ p. if is_of shard p then place shard worker else p in
    let found = Any-from_list_any (is_of x) (map move places) live in
    let from = Contains-mapped move places found.1 (found.0, found.2, found.3) in
    let same : (move from.0).shard ≡ from.0.shard = cond_both (is_of shard from.0) (place shard worker) from.0 (λ (y : Place). y.shard ≡ from.0.shard) (λ is. sym (eqb-true from.0.shard shard is)) (λ off. refl) in
    let its : from.0.shard ≡ x = sym same ∙ ap (λ (y : Place). y.shard) from.2 ∙ eqb-true found.1.shard x found.4 in
    list_any-from_Any (is_of x) places (from.1.0, from.0, from.1.1, from.1.2, eq-eqb from.0.shard x its)

-- Ids.

-- an event's shards have ids behind it, so one without an id then is none of them
unmade-parent : (site : Site) (usable : ℕ → Bool) (past : List Event) (e : Event) (y : ℕ) → Stands site usable past e → ids_made site.workers (e ∷ past) ≤ y → (parent_in e y ≡ y) × (ids_made site.workers past ≤ y)
unmade-parent site usable past (Split of shard left right) y stands beyond =
    let next : left ≡ ids_made site.workers past = stands.next in
    let after : right ≡ ids_made site.workers past + 1 = stands.after in
    let other : (y == left) ≡ false = grind (arith, nat_tests) in
    let another : (y == right) ≡ false = grind (arith, nat_tests) in
    (rw (other, another) refl, omega arith)
unmade-parent site usable past _ y stands beyond = (refl, beyond)

-- a shard without an id comes from none but itself
unmade-alone : (site : Site) (usable : ℕ → Bool) (past : List Event) (x y : ℕ) → EachEvent (Stands site usable) past → ids_made site.workers past ≤ y → comes_from past x y ≡ true → y ≡ x
unmade-alone site usable [] x y each beyond comes = eqb-true y x comes
unmade-alone site usable (e ∷ past) x y each beyond comes = elim (or_cases (y == x) (comes_from past x (parent_in e y)) comes) [
  | inl same ↦ eqb-true y x same
  | inr older ↦
      let parent = unmade-parent site usable past e y each.0 beyond in
      unmade-alone site usable past x y each.1 parent.1 (subst (λ (z : ℕ). comes_from past x z ≡ true) parent.0 older)
]

-- what comes from a shard that stands is that shard
pub live-end : (site : Site) (usable : ℕ → Bool) (past : List Event) (x y : ℕ) → EachEvent (Stands site usable) past → is_live site.workers past x ≡ true → comes_from past x y ≡ true → y ≡ x
live-end site usable [] x y each live comes = eqb-true y x comes
live-end site usable (Split of shard left right ∷ past) x y each live comes =
    let next : left ≡ ids_made site.workers past = each.0.next in
    let after : right ≡ ids_made site.workers past + 1 = each.0.after in
    let parent : shard < ids_made site.workers past = live-made site usable past shard each.1 each.0.done.live in
    elim (or_cases (y == x) (comes_from past x (parent_in (Split of shard left right) y)) comes) [
      | inl same ↦ eqb-true y x same
      | inr older ↦ elim (live-split site.workers past of shard left right x live) [
        | inl old ↦ at ((y == left) || (y == right)) old.1 (live-end site usable past x (parent_in (Split of shard left right) y) each.1 old.0 older)
        | inr new ↦
            let beyond : ids_made site.workers past ≤ x = elim new [ inl is_left ↦ omega arith | inr is_right ↦ omega arith ] in
            elim (cases_lt (parent_in (Split of shard left right) y) (ids_made site.workers past)) [
              | inl made ↦ (let below = comes_from-made site usable past x (parent_in (Split of shard left right) y) each.1 made older in absurd (omega (arith, below, beyond)))
              | inr unmade ↦ (let same = unmade-alone site usable past x (parent_in (Split of shard left right) y) each.1 unmade older in
                  itself ((y == left) || (y == right)) parent unmade same)
            ]
      ]
    ]
  where
    at : (v : Bool) → x ≢ shard → (if v then shard else y) ≡ x → y ≡ x
    at true other same = absurd (other (sym same))
    at false other same = same

    itself : (v : Bool) → shard < ids_made site.workers past → ids_made site.workers past ≤ (if v then shard else y) → (if v then shard else y) ≡ x → y ≡ x
    itself true below beyond same = absurd (omega (arith, below, beyond))
    itself false below beyond same = same
live-end site usable (Moved of shard worker ∷ past) x y each live comes = elim (or_cases (y == x) (comes_from past x y) comes) [
  | inl same ↦ eqb-true y x same
  | inr older ↦ live-end site usable past x y each.1 (live-moved site.workers past of shard worker x live) older
]
live-end site usable (_ ∷ past) x y each live comes = elim (or_cases (y == x) (comes_from past x y) comes) [
  | inl same ↦ eqb-true y x same
  | inr older ↦ live-end site usable past x y each.1 live older
]
