-- What is known of a list of parts by where the open ones begin, and by how many there are.
use Rattle.std.proofs.{Common.{◌≡◌, ℕ, zero, suc, ◌+◌, ◌-◌, ◌<◌, ◌≤◌, Bool, true, false, cond, if◌then◌else◌, nat_lt, List, [], ◌∷◌, Option, Some, None, ◌&&◌, ◌||◌, ◌==◌, option_map, length, take, drop, set, get_or, position, count_by, insert, slice_get, All, IfSome, IsTrue, refl, sym, ◌∙◌, ap, subst, arith, inl, inr}, lemmas.Bool.{cases_lt, false≢true}, lemmas.Iterator.Adapters.position_from-zero, lemmas.List.{get_or-take, length-drop, length-set, length-take-le, take-append-drop, take-append-le, take-set-le, take-take, take_all}, lemmas.List.Edits.length-insert, lemmas.List.Elements.{All-head, All-more, All-tail}, lemmas.List.Folds.{list_any-append, list_any_none}, lemmas.List.Sums.{get_or-le-sum_by, sum_by-cons, sum_by-insert, sum_by-set}, lemmas.Option.slice_get-get_or}
use Rattle.std.specs.{Int.from_bool, List.{list_any, position_from}}
use Rattle.query_router.specs.{Desk.{is_open, is_taken, is_waiting, is_with, waits_for, IsAt}, Progress.{HasEnded, IsProgress}, declared.part.Part.Part}

by_test : {P : Type 0} → (b : Bool) → (b ≡ true → P) → (b ≡ false → P) → P
by_test true f g = f refl
by_test false f g = g refl

-- Tests that only open parts pass.

or-right : (a b : Bool) → b ≡ true → a || b ≡ true
or-right true b h = refl
or-right false b h = h

and-right : (a b : Bool) → a && b ≡ true → b ≡ true
and-right true b h = h
and-right false b h = absurd (false≢true h)

pub waiting-opens : (p : Part) → is_waiting p ≡ true → is_open p ≡ true
waiting-opens p h = ap (λ b. b || is_taken p) h

pub taken-opens : (p : Part) → is_taken p ≡ true → is_open p ≡ true
taken-opens p h = or-right (is_waiting p) (is_taken p) h

pub waits_for-opens : (worker : ℕ) (p : Part) → waits_for worker p ≡ true → is_open p ≡ true
waits_for-opens worker p h = waiting-opens p (and-right (p.worker == worker) (is_waiting p) h)

pub is_with-opens : (shard worker : ℕ) (p : Part) → is_with shard worker p ≡ true → is_open p ≡ true
is_with-opens shard worker p h = taken-opens p (and-right (p.shard == shard && p.worker == worker) (is_taken p) h)

-- Where the first part is that passes a test.

-- the count may begin later
from-later : {A : Type 0} (t : A → Bool) (n i : ℕ) (xs : List A) → position_from t (n + i) xs ≡ option_map (λ k. n + k) (position_from t i xs)
from-later t n i [] = refl
from-later t n i (x ∷ xs) =
    let on : n + i + 1 ≡ n + (i + 1) = omega arith in
    by_test (t x) (λ h. rw h refl) (λ h. rw h (ap (λ k. position_from t k xs) on ∙ from-later t n (i + 1) xs))

-- those that don't pass may be left out
past : {A : Type 0} (t : A → Bool) (n i : ℕ) (xs : List A) → All (λ x. t x ≡ false) (take n xs) → n ≤ length xs → position_from t i xs ≡ position_from t (n + i) (drop n xs)
past t zero i xs none within = let same : i ≡ 0 + i = omega arith in ap (λ k. position_from t k xs) same
past t (suc n) i [] none within = absurd (omega arith)
past t (suc n) i (x ∷ xs) none within =
    let fails = All-head (λ y. t y ≡ false) x (take n xs) none in
    let on : n + (i + 1) ≡ suc n + i = omega arith in
    rw fails (past t n (i + 1) xs (All-tail (λ y. t y ≡ false) x (take n xs) none) (omega arith) ∙ ap (λ k. position_from t k (drop n xs)) on)

position-behind : {A : Type 0} (t : A → Bool) (n : ℕ) (xs : List A) → All (λ x. t x ≡ false) (take n xs) → n ≤ length xs
    → option_map (λ k. n + k) (position t (drop n xs)) ≡ position t xs
position-behind t n xs none within =
    let from : n + 0 ≡ n = omega arith in
    ap (option_map (λ k. n + k)) (position_from-zero t (drop n xs)) ∙ sym (from-later t n 0 (drop n xs)) ∙ sym (past t n 0 xs none within) ∙ sym (position_from-zero t xs)

-- a part that isn't open passes no test that only open ones pass
none-passes : (t : Part → Bool) → ((p : Part) → t p ≡ true → is_open p ≡ true) → (parts : List Part) → All (λ p. is_open p ≡ false) parts → All (λ p. t p ≡ false) parts
none-passes t opens parts none k d within =
    let p = get_or parts k d in
    by_test (t p) (λ h. absurd (false≢true (sym (none k d within) ∙ opens p h))) (λ h. h)

-- the first that passes among those behind the ended ones is the first of all
pub first-behind : (t : Part → Bool) → ((p : Part) → t p ≡ true → is_open p ≡ true) → (parts rest : List Part) (ended : ℕ) (found place : Option ℕ) → HasEnded parts ended
    → rest ≡ drop ended parts → found ≡ position t rest → place ≡ option_map (λ k. ended + k) found → place ≡ position t parts
first-behind t opens parts rest ended found place e is first counted =
    counted ∙ ap (option_map (λ k. ended + k)) (first ∙ ap (position t) is) ∙ position-behind t ended parts (none-passes t opens (take ended parts) e.none_open) e.within

-- and one passes among those behind where one does at all
pub any-behind : (t : Part → Bool) → ((p : Part) → t p ≡ true → is_open p ≡ true) → (parts rest : List Part) (ended : ℕ) (any : Bool) → HasEnded parts ended
    → rest ≡ drop ended parts → any ≡ list_any t rest → any ≡ list_any t parts
any-behind t opens parts rest ended any e is found =
    let none = list_any_none t (take ended parts) (none-passes t opens (take ended parts) e.none_open) in
    found ∙ ap (list_any t) is ∙ sym (ap (λ b. b || list_any t (drop ended parts)) none) ∙ sym (list_any-append t (take ended parts) (drop ended parts))
    ∙ ap (list_any t) (take-append-drop ended parts)

-- the part at a place passes the test
passes-at : (test : Part → Bool) (parts : List Part) (place : ℕ) (p : Part) → IsAt test parts place → test (get_or parts place p) ≡ true
passes-at test parts place p at = subst (λ o. IfSome o (λ q. IsTrue (test q))) (slice_get-get_or parts place p at.within) at.passes

slice_get-drop : (n i : ℕ) (parts : List Part) → slice_get (drop n parts) i ≡ slice_get parts (n + i)
slice_get-drop zero i parts = let same : i ≡ 0 + i = omega arith in ap (slice_get parts) same
slice_get-drop (suc n) i [] = refl
slice_get-drop (suc n) i (p ∷ ps) = let on : suc (n + i) ≡ suc n + i = omega arith in slice_get-drop n i ps ∙ ap (slice_get (p ∷ ps)) on

at-behind : (test : Part → Bool) (n i : ℕ) (parts : List Part) → IsAt test (drop n parts) i → IsAt test parts (n + i)
at-behind test n i parts at = record {
  within = let l = length-drop n parts in omega (arith, at.within, l);
  passes = subst (λ o. IfSome o (λ q. IsTrue (test q))) (slice_get-drop n i parts) at.passes;
}

at-counted : (test : Part → Bool) (parts : List Part) (ended : ℕ) (found : Option ℕ) → IfSome found (IsAt test (drop ended parts)) → IfSome (option_map (λ k. ended + k) found) (IsAt test parts)
at-counted test parts ended None at = at
at-counted test parts ended (Some i) at = at-behind test ended i parts at

-- a part that stands behind the ended ones stands at its place among all
pub some-behind : (test : Part → Bool) (parts rest : List Part) (ended : ℕ) (found place : Option ℕ) → rest ≡ drop ended parts → IfSome found (IsAt test rest)
    → place ≡ option_map (λ k. ended + k) found → IfSome place (IsAt test parts)
some-behind test parts rest ended found place is at counted =
    subst (λ o. IfSome o (IsAt test parts)) (sym counted) (at-counted test parts ended found (subst (λ xs. IfSome found (IsAt test xs)) is at))

-- what an index from a place on gives
pub rest-of : (items parts : List Part) (n : ℕ) → items ≡ parts → take (length items - n) (drop n items) ≡ drop n parts
rest-of items parts n is =
    let l = length-drop n items in
    let all : length (drop n items) ≤ length items - n = omega (arith, l) in
    take_all (length items - n) (drop n items) all ∙ ap (drop n) is

-- an open part stands at the end of the ended ones or behind
pub is-behind : (parts : List Part) (ended place : ℕ) (p : Part) → HasEnded parts ended → place < length parts → is_open (get_or parts place p) ≡ true → ended ≤ place
is-behind parts ended place p e within opens = elim (cases_lt place ended) [
  | inl before ↦
      let closed = e.none_open place p (subst (λ n. place < n) (sym (length-take-le ended parts e.within)) before) in
      absurd (false≢true (sym closed ∙ ap is_open (get_or-take ended parts place p before) ∙ opens))
  | inr behind ↦ behind
]

-- How many are open.

counted : (p : Part) (ps : List Part) → count_by is_open (p ∷ ps) ≡ cond (is_open p) 1 0 + count_by is_open ps
counted p ps = sum_by-cons (λ x. cond (is_open x) 1 0) p ps

some : (n : ℕ) → nat_lt 0 (1 + n) ≡ true
some n = grind arith

pub some-count : (parts : List Part) → nat_lt 0 (count_by is_open parts) ≡ list_any is_open parts
some-count [] = refl
some-count (p ∷ ps) = by_test (is_open p)
    (λ h. ap (nat_lt 0) (counted p ps) ∙ ap (λ b. nat_lt 0 (cond b 1 0 + count_by is_open ps)) h ∙ some (count_by is_open ps) ∙ sym (ap (λ b. b || list_any is_open ps) h))
    (λ h.
    let same : 0 + count_by is_open ps ≡ count_by is_open ps = omega arith in
    ap (nat_lt 0) (counted p ps) ∙ ap (λ b. nat_lt 0 (cond b 1 0 + count_by is_open ps)) h ∙ ap (nat_lt 0) same ∙ some-count ps ∙ sym (ap (λ b. b || list_any is_open ps) h))

-- Where a part is replaced.

pub ended-set : (parts : List Part) (ended place : ℕ) (p : Part) → HasEnded parts ended → ended ≤ place → HasEnded (set parts place p) ended
ended-set parts ended place p e behind = record {
  within = subst (λ n. ended ≤ n) (sym (length-set parts place p)) e.within;
  none_open = subst (All (λ q. is_open q ≡ false)) (sym (take-set-le ended parts place p behind)) e.none_open;
}

-- an open part is one of those that are counted
pub count-set : (parts : List Part) (place : ℕ) (p : Part) → place < length parts → is_open (get_or parts place p) ≡ true
    → count_by is_open (set parts place p) + 1 ≡ count_by is_open parts + cond (is_open p) 1 0
count-set parts place p within opens =
    let one : cond (is_open (get_or parts place p)) 1 0 ≡ 1 = ap (λ b. cond b 1 0) opens in
    subst (λ n. count_by is_open (set parts place p) + n ≡ count_by is_open parts + cond (is_open p) 1 0) one (sum_by-set (λ q. cond (is_open q) 1 0) parts place p p within)

pub some-open : (parts : List Part) (place : ℕ) (p : Part) → place < length parts → is_open (get_or parts place p) ≡ true → 1 ≤ count_by is_open parts
some-open parts place p within opens =
    let one : cond {A = ℕ} (is_open (get_or parts place p)) 1 0 ≡ 1 = ap (λ b. cond {A = ℕ} b 1 0) opens in
    subst (λ n. n ≤ count_by is_open parts) one (get_or-le-sum_by (λ q. cond (is_open q) 1 0) parts place p within)

-- one open part in the place of another leaves all as it is
pub progress-take : (parts : List Part) (ended count place : ℕ) (p : Part) → IsProgress parts ended count → IsAt is_waiting parts place → is_open p ≡ true → IsProgress (set parts place p) ended count
progress-take parts ended count place p k at still =
    let opens : is_open (get_or parts place p) ≡ true = waiting-opens (get_or parts place p) (passes-at is_waiting parts place p at) in
    let one : cond {A = ℕ} (is_open p) 1 0 ≡ 1 = ap (λ b. cond {A = ℕ} b 1 0) still in
    let c = count-set parts place p at.within opens in
    let same : count_by is_open parts ≡ count_by is_open (set parts place p) = omega (arith, c, one) in
    record { has_ended = ended-set parts ended place p k.has_ended (is-behind parts ended place p k.has_ended at.within opens); count = k.count ∙ same }

-- Where a taken part is replaced.

as-number : (b : Bool) → from_bool b ≡ cond {A = ℕ} b 1 0
as-number true = refl
as-number false = refl

pub taken-counts : (parts : List Part) (ended count place : ℕ) (p : Part) → IsProgress parts ended count → IsAt is_taken parts place → 1 ≤ count
taken-counts parts ended count place p k at =
    subst (λ n. 1 ≤ n) (sym k.count) (some-open parts place p at.within (taken-opens (get_or parts place p) (passes-at is_taken parts place p at)))

pub ended-put : (parts : List Part) (ended count place : ℕ) (p : Part) → IsProgress parts ended count → IsAt is_taken parts place → HasEnded (set parts place p) ended
ended-put parts ended count place p k at =
    let opens = taken-opens (get_or parts place p) (passes-at is_taken parts place p at) in
    ended-set parts ended place p k.has_ended (is-behind parts ended place p k.has_ended at.within opens)

pub count-put : (parts : List Part) (ended count place : ℕ) (p : Part) → IsProgress parts ended count → IsAt is_taken parts place → count - 1 + from_bool (is_open p) ≡ count_by is_open (set parts place p)
count-put parts ended count place p k at =
    let opens = taken-opens (get_or parts place p) (passes-at is_taken parts place p at) in
    let c = count-set parts place p at.within opens in
    let some = some-open parts place p at.within opens in
    let n = as-number (is_open p) in
    let all = k.count in
    omega (arith, c, some, n, all)

ended-insert : (parts : List Part) (ended i : ℕ) (p : Part) → HasEnded parts ended → ended ≤ i → i ≤ length parts → HasEnded (insert parts i p) ended
ended-insert parts ended i p e before within = record {
  within = let l = length-insert parts i p within in let old = e.within in omega (arith, l, old);
  none_open =
      let l = length-take-le i parts within in
      let same : take ended (insert parts i p) ≡ take ended parts = take-append-le ended (take i parts) (p ∷ drop i parts) (omega (arith, l, before)) ∙ take-take ended i parts before in
      subst (All (λ q. is_open q ≡ false)) (sym same) e.none_open;
}

-- two parts stand in the place of the taken one
pub progress-expand : (parts : List Part) (ended count place : ℕ) (left right : Part) → IsProgress parts ended count → IsAt is_taken parts place
    → IsProgress (insert (set parts place left) (place + 1) right) ended (count - 1 + from_bool (is_open left) + from_bool (is_open right))
progress-expand parts ended count place left right k at =
    let put = ended-put parts ended count place left k at in
    let opens = taken-opens (get_or parts place left) (passes-at is_taken parts place left at) in
    let behind = is-behind parts ended place left k.has_ended at.within opens in
    let l = length-set parts place left in
    let w = at.within in
    record {
      has_ended = ended-insert (set parts place left) ended (place + 1) right put (omega (arith, behind)) (omega (arith, l, w));
      count =
          ap (λ n. n + from_bool (is_open right)) (count-put parts ended count place left k at)
          ∙ ap (λ n. count_by is_open (set parts place left) + n) (as-number (is_open right))
          ∙ sym (sum_by-insert (λ q. cond (is_open q) 1 0) (set parts place left) (place + 1) right);
    }

pub when-ok : (ok : Bool) (now longer same : List Part) → ok ≡ true → now ≡ (if ok then longer else same) → now ≡ longer
when-ok ok now longer same h is = is ∙ ap (λ b. if b then longer else same) h

pub progress-are : (parts items : List Part) (ended count n : ℕ) → items ≡ parts → n ≡ count → IsProgress parts ended count → IsProgress items ended n
progress-are parts items ended count n items-are count-is k = record {
  has_ended = subst (λ xs. HasEnded xs ended) (sym items-are) k.has_ended;
  count = count-is ∙ k.count ∙ ap (count_by is_open) (sym items-are);
}

-- Where the ended ones end.

pub one-more : (parts : List Part) (ended : ℕ) (p : Part) → HasEnded parts ended → ended < length parts → is_open (get_or parts ended p) ≡ false → HasEnded parts (ended + 1)
one-more parts ended p e within closed = record {
  within = omega (arith, within);
  none_open = All-more (λ q. is_open q ≡ false) parts ended p within e.none_open closed;
}
