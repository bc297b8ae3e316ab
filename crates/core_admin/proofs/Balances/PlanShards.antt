-- A plan's actions are of shards that have a load, its moves go to workers that are there, and it has no more of them than it may.
use Rattle.std.proofs.{Common.{if◌then◌else◌, ◌≡◌, ℕ, zero, suc, ◌<◌, ◌≤◌, List, [], ◌∷◌, Bool, cond, filter, fold, length, map, nat_le, Option, Some, None, refl, sym, ap, ◌∙◌, subst, arith, ◌==◌, ◌||◌, All, option_and_then, slice_get, true, unwrap_or}, lemmas.List.Elements.{All-append, All-cons, All-head, All-nil, All-tail, All-weaker}}
use Rattle.std.specs.{List.list_any, Option.option_map_or, Prelude.⊤}
use Rattle.row_ledger.specs.Work.{shard_of}
use Rattle.shard_plan.specs.{Balancing.{after_move, earlier, emptiest, even_gap, first_by, fullest, gap, has_fewer, is_larger, is_movable, numbers_below, plan, plan_of_split, split_rows, to_look_at, to_move}, declared.action.Action.Action, declared.action.Load.Load}
use Rattle.shard_plan.specs.declared.action.Action.TheVariants as action
use Rattle.list_words.proofs.Truth.{on_bool}
use Rattle.core_tree.specs.volap_cell.specs.{Planning.{HasLoadNext, has_load}, declared.command.Balance.Balance}
use Rattle.core_image.proofs.Commands.NextAction.{all-behind}
use Rattle.core_admin.proofs.Balances.LoadLists.{each-among}

-- The first of a list by an order is one of them.

module _ {X : Type 0} (P : X → Type 0) (order : X → X → Bool) where
  earlier-has : (found : Option X) (x y : X) → ((z : X) → found ≡ Some z → P z) → P x → earlier order found x ≡ Some y → P y
  earlier-has None x y has p is = (let both : ◌≡◌ {A = Option X} (Some x) (Some y) = is in let same : x ≡ y = cc in subst P same p)
  earlier-has (Some f) x y has p is = on_bool (order x f)
      (λ q. let here : ◌≡◌ {A = Option X} (Some x) (Some y) = sym (ap (λ (b : Bool). Some (cond b x f)) q) ∙ is in let same : x ≡ y = cc in subst P same p)
      (λ q. let here : ◌≡◌ {A = Option X} (Some f) (Some y) = sym (ap (λ (b : Bool). Some (cond b x f)) q) ∙ is in let same : f ≡ y = cc in subst P same (has f refl))

  fold-has : (found : Option X) (xs : List X) → ((z : X) → found ≡ Some z → P z) → All P xs → (y : X) → fold (earlier order) found xs ≡ Some y → P y
  fold-has found [] has all y is = has y is
  fold-has found (x ∷ xs) has all y is =
      fold-has (earlier order found x) xs (λ z k. earlier-has found x z has (All-head P x xs all) k) (All-tail P x xs all) y is

  pub first-has : (xs : List X) → All P xs → (y : X) → first_by order xs ≡ Some y → P y
  first-has xs all y is = fold-has None xs (λ z k. let never : ◌≡◌ {A = Option X} None (Some z) = k in absurd (cc)) all y is

-- what passes a test is of the list
all-filtered : {X : Type 0} (P : X → Type 0) (test : X → Bool) (xs : List X) → All P xs → All P (filter test xs)
all-filtered P test [] all = All-nil P
all-filtered P test (x ∷ xs) all = (let rest = all-filtered P test xs (All-tail P x xs all) in on_bool (test x)
    (λ q. rw q (All-cons P x (filter test xs) (All-head P x xs all) rest))
    (λ q. rw q rest))

-- Workers.

all-below : (n : ℕ) → All (λ w. w < n) (numbers_below n)
all-below n = up-to n n (omega arith)
  where
    up-to : (k n : ℕ) → k ≤ n → All (λ w. w < n) (numbers_below k)
    up-to zero n le = All-nil (λ (w : ℕ). w < n)
    up-to (suc k) n le = All-append (λ (w : ℕ). w < n) (numbers_below k) (k ∷ []) (up-to k n (omega (arith, le))) (All-cons (λ (w : ℕ). w < n) k [] (omega (arith, le)) (All-nil (λ (w : ℕ). w < n)))

-- the emptiest worker is one
pub emptiest-there : (loads : List Load) (workers : ℕ) → 0 < workers → emptiest loads workers < workers
emptiest-there loads workers some = by (first_by (has_fewer loads) (numbers_below workers)) refl
  where
    by : (o : Option ℕ) → first_by (has_fewer loads) (numbers_below workers) ≡ o → unwrap_or o 0 < workers
    by None is = some
    by (Some w) is = first-has (λ (x : ℕ). x < workers) (has_fewer loads) (numbers_below workers) (all-below workers) w is

-- Shards.

abbrev pub shards_in : List Load → List ℕ
shards_in loads = map (λ (l : Load). l.shard) loads

-- a load is found by its shard alone
pub has-by-shard : (loads : List Load) (x : ℕ) → has_load loads x ≡ list_any (λ y. y == x) (shards_in loads)
has-by-shard [] x = refl
has-by-shard (l ∷ loads) x = ap (λ (b : Bool). (l.shard == x) || b) (has-by-shard loads x)

-- a move leaves the shards
moved-shards : (loads : List Load) (shard worker : ℕ) → shards_in (after_move loads shard worker) ≡ shards_in loads
moved-shards [] shard worker = refl
moved-shards (l ∷ loads) shard worker =
    let rest = moved-shards loads shard worker in
    let here : (if l.shard == shard then record l { worker = worker } else l).shard ≡ l.shard = on_bool (l.shard == shard) (λ q. rw q refl) (λ q. rw q refl) in
    λ k. here k ∷ rest k

-- what holds of the shards of all loads
all-shards : (P : ℕ → Type 0) (loads now : List Load) → shards_in now ≡ shards_in loads → All P (shards_in loads) → All P (shards_in now)
all-shards P loads now same all = subst (All P) (sym same) all

by-loads : (P : ℕ → Type 0) (loads : List Load) → All P (shards_in loads) → All (λ (l : Load). P l.shard) loads
by-loads P [] all = All-nil (λ (l : Load). P l.shard)
by-loads P (l ∷ loads) all = All-cons (λ (x : Load). P x.shard) l loads (All-head P l.shard (shards_in loads) all) (by-loads P loads (All-tail P l.shard (shards_in loads) all))

-- Actions.

-- an action of such a shard; a move goes to such a worker
abbrev pub IsOf : (ℕ → Type 0) → (ℕ → Type 0) → Action → Type 0
IsOf P Q (action.Split x) = P x
IsOf P Q (action.Move x worker) = P x × Q worker

module _ (P Q : ℕ → Type 0) (workers : ℕ) (emptiest_is : (loads : List Load) → Q (emptiest loads workers)) where
  split-of : (found : Option Load) → ((l : Load) → found ≡ Some l → P l.shard) → All (IsOf P Q) (plan_of_split found)
  split-of None has = All-nil (IsOf P Q)
  split-of (Some l) has = on_bool (nat_le split_rows l.rows)
      (λ q. rw q (All-cons (IsOf P Q) (action.Split l.shard) [] (has l refl) (All-nil (IsOf P Q))))
      (λ q. rw q (All-nil (IsOf P Q)))

  -- each action of a plan is of a shard with a load
  pub plan-of : (n : ℕ) (loads : List Load) → All P (shards_in loads) → All (IsOf P Q) (plan loads workers n)
  plan-of zero loads all = All-nil (IsOf P Q)
  plan-of (suc n) loads all =
      on_bool (nat_le (gap loads workers) even_gap)
      (λ q. rw q (All-nil (IsOf P Q)))
      (λ q. rw q (by (to_move loads workers) refl (λ l. plan-of n (after_move loads l.shard (emptiest loads workers)) (all-shards P loads (after_move loads l.shard (emptiest loads workers)) (moved-shards loads l.shard (emptiest loads workers)) all))))
    where
      by : (o : Option Load) → to_move loads workers ≡ o → ((l : Load) → All (IsOf P Q) (plan (after_move loads l.shard (emptiest loads workers)) workers n))
          → All (IsOf P Q) (option_map_or (λ (l : Load). action.Move l.shard (emptiest loads workers) ∷ plan (after_move loads l.shard (emptiest loads workers)) workers n) o (plan_of_split (to_look_at loads workers)))
      by None is rest = split-of (to_look_at loads workers)
          (λ l k. first-has (λ (z : Load). P z.shard) is_larger (filter (λ (z : Load). z.worker == fullest loads workers) loads) (all-filtered (λ (z : Load). P z.shard) (λ (z : Load). z.worker == fullest loads workers) loads (by-loads P loads all)) l k)
      by (Some l) is rest =
          let p : P l.shard = first-has (λ (z : Load). P z.shard) is_larger (filter (is_movable loads workers) loads) (all-filtered (λ (z : Load). P z.shard) (is_movable loads workers) loads (by-loads P loads all)) l is in
          let to = emptiest loads workers in
          All-cons (IsOf P Q) (action.Move l.shard to) (plan (after_move loads l.shard to) workers n) (p, emptiest_is loads)
          (rest l)

-- the shard of each action of a plan is among the loads
pub planned-stands : (b : Balance) (loads : List Load) (workers most : ℕ) → b.plan ≡ Some (plan loads workers most) → b.standing ≡ loads → HasLoadNext b
planned-stands b loads workers most plan_is standing_is a is =
    let here : slice_get (plan loads workers most) b.over ≡ Some a = sym (ap (option_and_then (λ (actions : List Action). slice_get actions b.over)) plan_is) ∙ is in
    let each : All (λ x. has_load loads x ≡ true) (shards_in loads) =
    All-weaker (λ x. list_any (λ y. y == x) (shards_in loads) ≡ true) (λ x. has_load loads x ≡ true) (λ x has. has-by-shard loads x ∙ has) (shards_in loads) (each-among (shards_in loads)) in
    let all = plan-of (λ x. has_load loads x ≡ true) (λ w. ⊤) workers (λ l. tt) most loads each in
    subst (λ (l : List Load). has_load l (shard_of a) ≡ true) (sym standing_is)
    (of-shard a (all-behind (IsOf (λ x. has_load loads x ≡ true) (λ w. ⊤)) 0 b.over (plan loads workers most) a all (omega arith) here))
  where
    of-shard : (a : Action) → IsOf (λ x. has_load loads x ≡ true) (λ w. ⊤) a → has_load loads (shard_of a) ≡ true
    of-shard (action.Split x) is = is
    of-shard (action.Move x worker) is = is.0

-- How many there are.

split-few : (found : Option Load) → length (plan_of_split found) ≤ 1
split-few None = omega arith
split-few (Some l) = on_bool (nat_le split_rows l.rows) (λ q. rw q (omega arith)) (λ q. rw q (omega arith))

pub plan-few : (loads : List Load) (workers n : ℕ) → length (plan loads workers n) ≤ n
plan-few loads workers zero = omega arith
plan-few loads workers (suc n) = on_bool (nat_le (gap loads workers) even_gap)
    (λ q. rw q (omega arith))
    (λ q. rw q (by (to_move loads workers) (λ l. plan-few (after_move loads l.shard (emptiest loads workers)) workers n)))
  where
    by : (o : Option Load) → ((l : Load) → length (plan (after_move loads l.shard (emptiest loads workers)) workers n) ≤ n) → length (option_map_or (λ (l : Load). action.Move l.shard (emptiest loads workers) ∷ plan (after_move loads l.shard (emptiest loads workers)) workers n) o (plan_of_split (to_look_at loads workers))) ≤ suc n
    by None rest = (let few = split-few (to_look_at loads workers) in omega (arith, few))
    by (Some l) rest = (let few = rest l in omega (arith, few))
