-- The shards that stand are in the order of their ids.
use Rattle.std.proofs.{Common.{◌≡◌, ℕ, zero, suc, ◌+◌, ◌≤◌, ◌<◌, List, [], ◌∷◌, ◌++◌, Bool, true, false, not, refl, arith, ◌==◌, ◌||◌, map}, lemmas.Bool.{cond_both, eq-eqb, eqb-true, or_left, or_right}}
use Rattle.std.specs.{List.{list_any, range_with_len}, Prelude.{Option, Some, None, filter, if◌then◌else◌}}
use Rattle.row_ledger.specs.{Laws.AscendFrom, Right.{Site, EachEvent, Stands}, Shards.{Place, place, is_of, children, worker_of, frontier, ids_made}, declared.event.Event.Event, declared.event.Event.TheVariants.{Split, Moved}}
use Rattle.row_ledger.proofs.Descent.{live-made}

AscendFrom-lower : (low high : ℕ) (places : List Place) → low ≤ high → AscendFrom high places → AscendFrom low places
AscendFrom-lower low high [] below ascend = tt
AscendFrom-lower low high (p ∷ places) below ascend = let first : high ≤ p.shard = ascend.0 in (omega arith, ascend.1)

AscendFrom-filter : (test : Place → Bool) (from : ℕ) (places : List Place) → AscendFrom from places → AscendFrom from (filter test places)
AscendFrom-filter test from [] ascend = tt
AscendFrom-filter test from (p ∷ places) ascend =
    let first : from ≤ p.shard = ascend.0 in
    let rest : AscendFrom (p.shard + 1) (filter test places) = AscendFrom-filter test (p.shard + 1) places ascend.1 in
    cond_both (test p) (p ∷ filter test places) (filter test places) (AscendFrom from)
    (λ _. (first, rest))
    (λ _. AscendFrom-lower from (p.shard + 1) (filter test places) (omega arith) rest)

AscendFrom-moved : (shard worker from : ℕ) (places : List Place) → AscendFrom from places
    → AscendFrom from (map (λ (p : Place). if is_of shard p then place shard worker else p) places)
AscendFrom-moved shard worker from [] ascend = tt
AscendFrom-moved shard worker from (p ∷ places) ascend = at (AscendFrom-moved shard worker (p.shard + 1) places ascend.1) (is_of shard p) refl
  where
    changed : List Place
    changed = map (λ (p : Place). if is_of shard p then place shard worker else p) places

    at : AscendFrom (p.shard + 1) changed → (v : Bool) → is_of shard p ≡ v → AscendFrom from ((if v then place shard worker else p) ∷ changed)
    at rest true same =
        let q : p.shard ≡ shard = eqb-true p.shard shard same in
        let first : from ≤ p.shard = ascend.0 in
        (omega arith, rw q at rest)
    at rest false other = (ascend.0, rest)

-- ids above all that stand come behind them
AscendFrom-children : (from left right : ℕ) (worker : Option ℕ) (places : List Place)
    → from ≤ left → left < right → ((y : ℕ) → list_any (is_of y) places ≡ true → y < left) → AscendFrom from places
    → AscendFrom from (places ++ children left right worker)
AscendFrom-children from left right None [] least more below ascend = tt
AscendFrom-children from left right (Some worker) [] least more below ascend = (least, (omega arith, tt))
AscendFrom-children from left right worker (p ∷ places) least more below ascend =
    let here : p.shard < left = below p.shard (or_left (p.shard == p.shard) (list_any (is_of p.shard) places) (eq-eqb p.shard p.shard refl)) in (
      ascend.0,
      AscendFrom-children (p.shard + 1) left right worker places (omega arith) more
          (λ y is. below y (or_right (is_of y p) (list_any (is_of y) places) is)) ascend.1,
    )

AscendFrom-first : (from workers : ℕ) → AscendFrom from (map (λ w. place w w) (range_with_len from workers))
AscendFrom-first from zero = tt
AscendFrom-first from (suc n) = (omega arith, AscendFrom-first (from + 1) n)

filtered-any : (shard y : ℕ) (places : List Place) → list_any (is_of y) (filter (λ (p : Place). not (is_of shard p)) places) ≡ true → list_any (is_of y) places ≡ true
filtered-any shard y [] is = is
filtered-any shard y (p ∷ places) is = at (filtered-any shard y places) (is_of shard p) is
  where
    kept : List Place
    kept = filter (λ (p : Place). not (is_of shard p)) places

    at : (list_any (is_of y) kept ≡ true → list_any (is_of y) places ≡ true) → (v : Bool)
        → list_any (is_of y) (if not v then p ∷ kept else kept) ≡ true → (is_of y p || list_any (is_of y) places) ≡ true
    at rest true is = or_right (is_of y p) (list_any (is_of y) places) (rest is)
    at rest false is = here rest (is_of y p) is
      where
        here : (list_any (is_of y) kept ≡ true → list_any (is_of y) places ≡ true) → (w : Bool) → (w || list_any (is_of y) kept) ≡ true → (w || list_any (is_of y) places) ≡ true
        here rest true is = refl
        here rest false is = rest is

pub frontier-ascends : (site : Site) (usable : ℕ → Bool) (h : List Event) → EachEvent (Stands site usable) h → AscendFrom 0 (frontier site.workers h)
frontier-ascends site usable [] each = AscendFrom-first 0 site.workers
frontier-ascends site usable (Split of shard left right ∷ past) each =
    let next : left ≡ ids_made site.workers past = each.0.next in
    let after : right ≡ ids_made site.workers past + 1 = each.0.after in
    AscendFrom-children 0 left right (worker_of (frontier site.workers past) shard) (filter (λ (p : Place). not (is_of shard p)) (frontier site.workers past))
    (omega arith) (omega arith)
    (λ y is. let made : y < ids_made site.workers past = live-made site usable past y each.1 (filtered-any shard y (frontier site.workers past) is) in omega arith)
    (AscendFrom-filter (λ (p : Place). not (is_of shard p)) 0 (frontier site.workers past) (frontier-ascends site usable past each.1))
frontier-ascends site usable (Moved of shard worker ∷ past) each = AscendFrom-moved shard worker 0 (frontier site.workers past) (frontier-ascends site usable past each.1)
frontier-ascends site usable (_ ∷ past) each = frontier-ascends site usable past each.1
