-- What a balance has read: no row twice, and all rows that were acknowledged before it began.
use Rattle.std.proofs.{Common.{◌≡◌, ℕ, zero, suc, ◌+◌, ◌<◌, ◌≤◌, List, [], ◌∷◌, ◌++◌, Bool, true, false, eqb, map, refl, sym, ap, ◌∙◌, subst, arith, inl, inr, ◌==◌, All, Contains, eq-eqb, nat_eq}, lemmas.Bool.{cases_lt, or_left, or_right, eqb-true}, lemmas.List.map-append, lemmas.List.Elements.{All-append, All-contains_itself, All-head, All-nil, All-tail, All-weaker}}
use Rattle.std.specs.List.{AllByRecursion, IsDistinct, list_any}
use Rattle.dim_hierarchy.specs.declared.row.Row.{Row}
use Rattle.row_ledger.specs.{Laws.AscendFrom, Past.before, Right.{EachEvent, Stands}, Shards.{Place, comes_from, frontier, ids_made, is_live, is_of, place}, Work.{Reading, rows_read}, declared.event.Event.Event}
use Rattle.row_ledger.proofs.{Descent.{comes_from-comparable, live-last, live-made}, SettledAnswer.EachEvent-before}
use Rattle.list_words.proofs.{Elements.Contains-nil, Times.times-append, Truth.{on_bool, eqb-self}}
use Rattle.list_words.specs.Counts.{same, times}
use Rattle.volap_cell.specs.tree_shape.specs.Shape.{numbers}
use Rattle.volap_cell.specs.{Growing.IsUnder, Setting.{Setting, site_in}, Working.IsReadLoad}
use Rattle.core_image.proofs.Images.MadePaths.{comes-before}

-- Numbers that stand in a list once at most differ.

none-of : (x : ℕ) (ys : List ℕ) → times x ys ≡ 0 → AllByRecursion (λ other. nat_eq x other ≡ false) ys
none-of x [] none = tt
none-of x (y ∷ ys) none = (
  on_bool (nat_eq x y)
      (λ q. let one : same x y ≡ 1 = rw q refl in absurd (omega (arith, none, one)))
      (λ q. q),
  none-of x ys (omega (arith, none)),
)

distinct-of : (xs : List ℕ) → ((n : ℕ) → times n xs ≤ 1) → IsDistinct nat_eq xs
unfolding IsDistinct
distinct-of [] once = tt
distinct-of (x ∷ xs) once =
    let here = once x in
    let self : same x x ≡ 1 = rw (eqb-self x) refl in
    (none-of x xs (omega (arith, here, self)), distinct-of xs (λ n. let more = once n in omega (arith, more)))

-- the places of the shards that were read
abbrev pub places_read : List Reading → List Place
places_read rs = map (λ (r : Reading). place r.load.shard r.load.worker) rs

place-of : (rs : List Reading) (r : Reading) → Contains rs r → list_any (is_of r.load.shard) (places_read rs) ≡ true
place-of [] r has = absurd (Contains-nil r has)
place-of (x ∷ rs) r (zero, within, is) = or_left (x.load.shard == r.load.shard) _ (eq-eqb x.load.shard r.load.shard (ap (λ (y : Reading). y.load.shard) is))
place-of (x ∷ rs) r (suc k, within, is) = or_right (x.load.shard == r.load.shard) _ (place-of rs r (k, omega arith, is))

module _ (s : Setting) (h : List Event) (placed : ℕ → Bool) (home : ℕ → ℕ) (of : ℕ) (each : EachEvent (Stands (site_in s) placed) h) where
  abbrev past : List Event
  past = before h of

  abbrev IsLiveThen : ℕ → Type 0
  IsLiveThen x = is_live s.workers past x ≡ true

  each-then : EachEvent (Stands (site_in s) placed) past
  each-then = EachEvent-before (site_in s) placed h of each

  made-then : (x : ℕ) → IsLiveThen x → x < ids_made s.workers past
  made-then x live = live-made (site_in s) placed past x each-then live

  -- a shard that has its id comes from one that stood then only where it is that one
  pub last-then : (x y : ℕ) → IsLiveThen x → y < ids_made s.workers past → comes_from h x y ≡ true → y ≡ x
  last-then x y live made is = live-last (site_in s) placed past x y each-then live made (sym (comes-before (site_in s) placed h each of x y made) ∙ is)

  -- two shards that stood then are one where something comes from both
  one-shard : (x y z : ℕ) → IsLiveThen x → IsLiveThen y → z < ids_made s.workers h → comes_from h x z ≡ true → comes_from h y z ≡ true → x ≡ y
  one-shard x y z live_x live_y made from_x from_y = elim (comes_from-comparable (site_in s) placed h x y z each made from_x from_y) [
    | inl below ↦ sym (last-then x y live_x (made-then y live_y) below)
    | inr below ↦ last-then y x live_y (made-then x live_x) below
  ]

  -- No row twice.

  under-of : (x : ℕ) (rows : List Row) (n : ℕ) → All (λ (r : Row). IsUnder h placed home x r.no) rows → 1 ≤ times n (numbers rows) → IsUnder h placed home x n
  under-of x [] n all some = absurd (omega (arith, some))
  under-of x (r ∷ rows) n all some = on_bool (eqb n r.no)
      (λ q. subst (λ (k : ℕ). IsUnder h placed home x k) (sym (eqb-true n r.no q)) (All-head (λ (y : Row). IsUnder h placed home x y.no) r rows all))
      (λ q. let none : same n r.no ≡ 0 = rw q refl in under-of x rows n (All-tail (λ (y : Row). IsUnder h placed home x y.no) r rows all) (omega (arith, some, none)))

  module _ (stands : (n : ℕ) → placed n ≡ true → is_live s.workers h (home n) ≡ true) where
    made-home : (x n : ℕ) → IsUnder h placed home x n → home n < ids_made s.workers h
    made-home x n u = live-made (site_in s) placed h (home n) each (stands n u.is_placed)

    once-each : (from : ℕ) (rs : List Reading) → AscendFrom from (places_read rs) → All (λ (r : Reading). IsLiveThen r.load.shard) rs → All (IsReadLoad s h placed home of) rs
        → (n : ℕ) → (times n (numbers (rows_read rs)) ≤ 1) × (1 ≤ times n (numbers (rows_read rs)) → (x : ℕ) × (from ≤ x) × IsLiveThen x × IsUnder h placed home x n)
    once-each from [] ascend live loads n = (omega arith, λ some. absurd (omega (arith, some)))
    once-each from (r ∷ rs) ascend live loads n =
        let load = All-head (IsReadLoad s h placed home of) r rs loads in
        let live_r = All-head (λ (y : Reading). IsLiveThen y.load.shard) r rs live in
        let (most, where_) = once-each (r.load.shard + 1) rs ascend.1 (All-tail (λ (y : Reading). IsLiveThen y.load.shard) r rs live) (All-tail (IsReadLoad s h placed home of) r rs loads) n in
        let sum : times n (numbers (r.rows ++ rows_read rs)) ≡ times n (numbers r.rows) + times n (numbers (rows_read rs)) =
        ap (times n) (map-append (λ (y : Row). y.no) r.rows (rows_read rs)) ∙ times-append n (numbers r.rows) (numbers (rows_read rs)) in
        let here = load.once n in
        let least = ascend.0 in
        let apart : 1 ≤ times n (numbers r.rows) → 1 ≤ times n (numbers (rows_read rs)) → ⊥ = (λ a b.
        let (x, above, live_x, under_x) = where_ b in
        let under_r = under-of r.load.shard r.rows n load.under a in
        let one = one-shard r.load.shard x (home n) live_r live_x (made-home x n under_x) under_r.comes under_x.comes in
        omega (arith, above, one)) in
        elim (cases_lt 0 (times n (numbers r.rows))) [
          | inl some_here ↦ elim (cases_lt 0 (times n (numbers (rows_read rs)))) [
            | inl some_there ↦ absurd (apart some_here some_there)
            | inr none ↦ (omega (arith, sum, here, none), λ some. (r.load.shard, least, live_r, under-of r.load.shard r.rows n load.under some_here))
          ]
          | inr none ↦ (omega (arith, sum, most, none), λ some. let (x, above, live_x, under_x) = where_ (omega (arith, sum, some, none)) in (x, omega (arith, above, least), live_x, under_x))
        ]

    pub read-once : (rs : List Reading) → AscendFrom 0 (places_read rs) → All (λ (r : Reading). IsLiveThen r.load.shard) rs → All (IsReadLoad s h placed home of) rs → IsDistinct nat_eq (numbers (rows_read rs))
    read-once rs ascend live loads = distinct-of (numbers (rows_read rs)) (λ n. (once-each 0 rs ascend live loads n).0)

-- what holds of the rows of each reading holds of all that were read
pub all-read : (P : Row → Type 0) (rs : List Reading) → All (λ (r : Reading). All P r.rows) rs → All P (rows_read rs)
all-read P [] all = All-nil P
all-read P (r ∷ rs) all = All-append P r.rows (rows_read rs) (All-head (λ (x : Reading). All P x.rows) r rs all) (all-read P rs (All-tail (λ (x : Reading). All P x.rows) r rs all))

-- where the places are those that stood, each shard that was read stood
pub read-live : (workers : ℕ) (past : List Event) (rs : List Reading) → places_read rs ≡ frontier workers past → All (λ (r : Reading). is_live workers past r.load.shard ≡ true) rs
read-live workers past rs places = All-weaker (Contains rs) (λ (r : Reading). is_live workers past r.load.shard ≡ true)
    (λ r has. ap (list_any (is_of r.load.shard)) (sym places) ∙ place-of rs r has) rs (All-contains_itself rs)
