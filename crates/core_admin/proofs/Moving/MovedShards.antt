-- A shard moves: what becomes of the places of the shards that stand, and of a registry's list of them.
use Rattle.std.proofs.{Common.{◌≡◌, ◌≢◌, ℕ, suc, ◌+◌, ◌<◌, ◌≤◌, List, [], ◌∷◌, length, map, Bool, true, false, Option, Some, slice_get, slice_set, refl, sym, ap, ◌∙◌, subst, inl, inr, arith, ◌==◌, ◌&&◌, ◌||◌, eqb-true, eq-eqb}, lemmas.Bool.{and_parts, false≢true, or_cases, or_right}}
use Rattle.std.specs.{List.list_any, Prelude.{if◌then◌else◌}}
use Rattle.describing_set.specs.declared.listing.Spot.{Spot}
use Rattle.row_ledger.specs.{Laws.AscendFrom, Listings.places_of, Shards.{Place, is_of, place}, Workers.left_at, declared.event.Event.Event}
use Rattle.server_image.specs.Spots.{place_of}
use Rattle.list_words.proofs.Truth.{on_bool}
use Rattle.core_tree.specs.volap_cell.proofs.Histories.Departures.{MovesAt, left-moves}

-- a place after the move
abbrev pub moved_place : ℕ → ℕ → Place → Place
moved_place shard to p = if is_of shard p then place shard to else p

abbrev pub on : ℕ → ℕ → Place → Bool
on x w p = is_of x p && (p.worker == w)

module _ (shard to : ℕ) where
  -- the same shards stand
  pub live-moved : (x : ℕ) (places : List Place) → list_any (is_of x) (map (moved_place shard to) places) ≡ list_any (is_of x) places
  live-moved x [] = refl
  live-moved x (p ∷ places) =
      let rest = live-moved x places in
      on_bool (is_of shard p)
      (λ q.
      let same : p.shard ≡ shard = eqb-true p.shard shard q in
      rw q (λ k. (sym same k == x) || rest k))
      (λ q. rw q (λ k. is_of x p || rest k))

  -- another shard is on the worker that it was on
  pub on-other : (x w : ℕ) → x ≢ shard → (places : List Place) → list_any (on x w) (map (moved_place shard to) places) ≡ list_any (on x w) places
  on-other x w ne [] = refl
  on-other x w ne (p ∷ places) =
      let rest = on-other x w ne places in
      on_bool (is_of shard p)
      (λ q.
      let same : p.shard ≡ shard = eqb-true p.shard shard q in
      let off : (shard == x) ≡ false = on_bool (shard == x) (λ e. absurd (ne (sym (eqb-true shard x e)))) (λ e. e) in
      let was : (p.shard == x) ≡ false = ap (λ (y : ℕ). y == x) same ∙ off in
      rw (q, off, was) rest)
      (λ q. rw q (λ k. on x w p || rest k))

  -- it is nowhere else
  pub on-there : (w : ℕ) (places : List Place) → list_any (on shard w) (map (moved_place shard to) places) ≡ true → w ≡ to
  on-there w [] is = absurd (false≢true is)
  on-there w (p ∷ places) is = at (λ more. on-there w places more) (is_of shard p) refl is
    where
      at : (list_any (on shard w) (map (moved_place shard to) places) ≡ true → w ≡ to) → (b : Bool) → is_of shard p ≡ b → (on shard w (if b then place shard to else p) || list_any (on shard w) (map (moved_place shard to) places)) ≡ true → w ≡ to
      at rest true q is = elim (or_cases ((shard == shard) && (to == w)) _ is) [
        | inl here ↦ sym (eqb-true to w (and_parts (shard == shard) (to == w) here).1)
        | inr more ↦ rest more
      ]
      at rest false q is = elim (or_cases ((p.shard == shard) && (p.worker == w)) _ is) [
        | inl here ↦ absurd (false≢true (sym q ∙ (and_parts (p.shard == shard) (p.worker == w) here).0))
        | inr more ↦ rest more
      ]

  pub on-here : (places : List Place) → list_any (is_of shard) places ≡ true → list_any (on shard to) (map (moved_place shard to) places) ≡ true
  on-here [] is = absurd (false≢true is)
  on-here (p ∷ places) is = at (λ more. on-here places more) (is_of shard p) refl is
    where
      at : (list_any (is_of shard) places ≡ true → list_any (on shard to) (map (moved_place shard to) places) ≡ true) → (b : Bool) → is_of shard p ≡ b → (b || list_any (is_of shard) places) ≡ true → (on shard to (if b then place shard to else p) || list_any (on shard to) (map (moved_place shard to) places)) ≡ true
      at rest true q is = rw (eq-eqb shard shard refl, eq-eqb to to refl) refl
      at rest false q is = or_right (on shard to p) _ (rest is)

  -- The list of the registry.

  untouched : (places : List Place) → AscendFrom (shard + 1) places → map (moved_place shard to) places ≡ places
  untouched [] ascend = refl
  untouched (p ∷ places) ascend =
      let off : is_of shard p ≡ false = on_bool (is_of shard p) (λ e. let same : p.shard ≡ shard = eqb-true p.shard shard e in let le = ascend.0 in absurd (omega (arith, same, le))) (λ e. e) in
      let le = ascend.0 in
      let rest = untouched places (lower (p.shard + 1) (shard + 1) places (omega (arith, le)) ascend.1) in
      rw off (ap (λ (ps : List Place). p ∷ ps) rest)
    where
      lower : (high low : ℕ) (places : List Place) → low ≤ high → AscendFrom high places → AscendFrom low places
      lower high low [] le ascend = tt
      lower high low (p ∷ places) le ascend = (let first = ascend.0 in omega (arith, first, le), ascend.1)

  pub rehosted : (from : ℕ) (spots : List Spot) (spot : Spot) → AscendFrom from (places_of spots) → slice_get spots (place_of shard spots) ≡ Some spot
      → places_of (slice_set spots (place_of shard spots) (record spot { worker = to })) ≡ map (moved_place shard to) (places_of spots)
  rehosted from [] spot ascend is = refl
  rehosted from (z ∷ zs) spot ascend is = at (λ later. rehosted (z.shard + 1) zs spot ascend.1 later) (z.shard == shard) refl
    where
      at : (slice_get zs (place_of shard zs) ≡ Some spot → places_of (slice_set zs (place_of shard zs) (record spot { worker = to })) ≡ map (moved_place shard to) (places_of zs)) → (b : Bool) → (z.shard == shard) ≡ b → places_of (slice_set (z ∷ zs) (place_of shard (z ∷ zs)) (record spot { worker = to })) ≡ map (moved_place shard to) (places_of (z ∷ zs))
      at ih true q =
          let first : place_of shard (z ∷ zs) ≡ 0 = rw q refl in
          let both : ◌≡◌ {A = Option Spot} (Some z) (Some spot) = sym (ap (slice_get (z ∷ zs)) first) ∙ is in
          let its : z ≡ spot = cc in
          let same : z.shard ≡ shard = eqb-true z.shard shard q in
          let rest = untouched (places_of zs) (subst (λ (y : ℕ). AscendFrom (y + 1) (places_of zs)) same ascend.1) in
          ap (λ (y : ℕ). places_of (slice_set (z ∷ zs) y (record spot { worker = to }))) first
          ∙ (λ k. place (ap (λ (y : Spot). y.shard) (sym its) k) to ∷ places_of zs)
          ∙ (λ k. place (same k) to ∷ sym rest k)
          ∙ rw q refl
      at ih false q =
          let next : place_of shard (z ∷ zs) ≡ suc (place_of shard zs) = rw q (omega arith) in
          let rest = ih (sym (ap (slice_get (z ∷ zs)) next) ∙ is) in
          ap (λ (y : ℕ). places_of (slice_set (z ∷ zs) y (record spot { worker = to }))) next
          ∙ ap (λ (ps : List Place). place z.shard z.worker ∷ ps) rest
          ∙ rw q refl

-- a shard stands on one worker
none-on : (x w : ℕ) (places : List Place) → AscendFrom (x + 1) places → list_any (on x w) places ≡ true → ⊥
none-on x w [] ascend is = false≢true is
none-on x w (p ∷ places) ascend is = elim (or_cases (on x w p) _ is) [
  | inl here ↦ (let same : p.shard ≡ x = eqb-true p.shard x (and_parts (p.shard == x) (p.worker == w) here).0 in let le = ascend.0 in absurd (omega (arith, same, le)))
  | inr more ↦ none-on x w places (by (p.shard + 1) places (let le = ascend.0 in omega (arith, le)) ascend.1) more
]
  where
    by : (high : ℕ) (places : List Place) → x + 1 ≤ high → AscendFrom high places → AscendFrom (x + 1) places
    by high [] le ascend = tt
    by high (p ∷ places) le ascend = (let first = ascend.0 in omega (arith, first, le), ascend.1)

pub one-host : (from x w u : ℕ) (places : List Place) → AscendFrom from places → list_any (on x w) places ≡ true → list_any (on x u) places ≡ true → w ≡ u
one-host from x w u [] ascend one two = absurd (false≢true one)
one-host from x w u (p ∷ places) ascend one two = elim (or_cases (on x w p) _ one) [
  | inl here ↦
      let h = and_parts (p.shard == x) (p.worker == w) here in
      let same : p.shard ≡ x = eqb-true p.shard x h.0 in
      elim (or_cases (on x u p) _ two) [
        | inl there ↦ (let t = and_parts (p.shard == x) (p.worker == u) there in sym (eqb-true p.worker w h.1) ∙ eqb-true p.worker u t.1)
        | inr later ↦ absurd (none-on x u places (subst (λ (y : ℕ). AscendFrom (y + 1) places) same ascend.1) later)
      ]
  | inr more ↦ elim (or_cases (on x u p) _ two) [
    | inl there ↦
        let t = and_parts (p.shard == x) (p.worker == u) there in
        let same : p.shard ≡ x = eqb-true p.shard x t.0 in
        absurd (none-on x w places (subst (λ (y : ℕ). AscendFrom (y + 1) places) same ascend.1) more)
    | inr later ↦ one-host (p.shard + 1) x w u places ascend.1 more later
  ]
]

-- a shard left a worker at a position of the history
pub left-within : (workers : ℕ) (h : List Event) (x w p : ℕ) → left_at workers h x w ≡ Some p → p < length h
left-within workers h x w p is = by h (left-moves workers h x w p is)
  where
    by : (h : List Event) → MovesAt h x p → p < length h
    by [] moves = absurd moves
    by (e ∷ past) (inl here) = (let at = here.0 in omega (arith, at))
    by (e ∷ past) (inr older) = (let lt = by past older in omega (arith, lt))
