-- Loops over loads.
use Rattle.std.proofs.{Common.{◌≡◌, ℕ, ◌+◌, ◌<◌, ◌≤◌, Bool, true, false, not, cond, List, [], ◌∷◌, ◌++◌, length, take, drop, get_or, set, sum_by, filter, ◌==◌, refl, sym, ap, ◌∙◌, arith}, lemmas.Bool.{eq-eqb, ne_eqb}, lemmas.List.get_or_default, lemmas.List.Edits.map_over_more, lemmas.List.Filters.sum_by-filter_both, lemmas.List.Sums.{sum_by-cons, sum_by_more_le}}
use Rattle.shard_plan.specs.{Balancing.after_move, declared.action.Load.Load}
use Rattle.balancer.specs.Turn.{rows_of_all}

-- what passes a test is gone over: one more item is looked at

-- the sum so far and the next item are within the whole sum
pub sum_by-filter_bound : {X : Type 0} (f : X → ℕ) (test : X → Bool) (xs : List X) (i : ℕ) (d : X) → i < length xs
    → sum_by f (filter test (take i xs)) + f (get_or xs i d) ≤ sum_by f xs
sum_by-filter_bound f test xs i d within =
    omega (arith, sum_by-filter_both test (λ y. not (test y)) (λ y. refl) f (take i xs), sum_by_more_le f xs i d within)

-- a move leaves the rows

rows-move : (here : Bool) (l : Load) (worker : ℕ) → (cond here (record l { worker = worker }) l).rows ≡ l.rows
rows-move true l worker = refl
rows-move false l worker = refl

pub rows_of_all-move : (loads : List Load) (shard worker : ℕ) → rows_of_all (after_move loads shard worker) ≡ rows_of_all loads
rows_of_all-move [] shard worker = refl
rows_of_all-move (l ∷ loads) shard worker =
    omega (
      arith,
      sum_by-cons (λ (l : Load). l.rows) (cond (l.shard == shard) (record l { worker = worker }) l) (after_move loads shard worker),
      sum_by-cons (λ (l : Load). l.rows) l loads,
      rows-move (l.shard == shard) l worker,
      rows_of_all-move loads shard worker,
    )

-- one more load is looked at, and set where it is the one that moves

after_move-more : (xs ys : List Load) (i shard worker : ℕ) (d : Load) → i < length xs → i < length ys → ys ≡ after_move (take i xs) shard worker ++ drop i xs
    → set ys i (cond ((get_or ys i d).shard == shard) (record (get_or ys i d) { worker = worker }) (get_or ys i d))
    ≡ after_move (take (i + 1) xs) shard worker ++ drop (i + 1) xs
after_move-more xs ys i shard worker d within within_ys before =
    map_over_more (λ (l : Load). cond (l.shard == shard) (record l { worker = worker }) l) xs ys i (get_or ys i d) within before (get_or_default ys i d (get_or ys i d) within_ys)

pub after_move-here : (xs ys : List Load) (i shard worker : ℕ) (d : Load) → i < length xs → i < length ys → ys ≡ after_move (take i xs) shard worker ++ drop i xs
    → (get_or ys i d).shard ≡ shard → set ys i (record (get_or ys i d) { worker = worker }) ≡ after_move (take (i + 1) xs) shard worker ++ drop (i + 1) xs
after_move-here xs ys i shard worker d within within_ys before same =
    ap (λ b. set ys i (cond b (record (get_or ys i d) { worker = worker }) (get_or ys i d))) (sym (eq-eqb (get_or ys i d).shard shard same))
    ∙ after_move-more xs ys i shard worker d within within_ys before

pub after_move-elsewhere : (xs ys : List Load) (i shard worker : ℕ) (d : Load) → i < length xs → i < length ys → ys ≡ after_move (take i xs) shard worker ++ drop i xs
    → ((get_or ys i d).shard ≡ shard → ⊥) → set ys i (get_or ys i d) ≡ after_move (take (i + 1) xs) shard worker ++ drop (i + 1) xs
after_move-elsewhere xs ys i shard worker d within within_ys before other =
    ap (λ b. set ys i (cond b (record (get_or ys i d) { worker = worker }) (get_or ys i d))) (sym (ne_eqb (get_or ys i d).shard shard other))
    ∙ after_move-more xs ys i shard worker d within within_ys before
