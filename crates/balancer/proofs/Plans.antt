-- A plan turn by turn.
use Rattle.std.proofs.{Common.{◌≡◌, ℕ, suc, ◌+◌, ◌-◌, ◌<◌, filter, ◌==◌, sym, ap, ◌∙◌, arith, append-nil, append_assoc, Bool, true, false, cond, nat_le, List, [], ◌∷◌, ◌++◌, Option, Some, None, refl}, lemmas.Bool.lt-leb}
use Rattle.std.specs.Option.{option_map_or}
use Rattle.shard_plan.specs.{Balancing.{even_gap, split_rows, rows_on, fullest, emptiest, gap, largest, to_move, to_look_at, plan, plan_of_split, after_move}, declared.action.Action.Action, declared.action.Action.TheVariants.{Move, Split}, declared.action.Load.Load}
use Rattle.balancer.specs.Turn.{fits_gap, split_of, next_action}

-- a plan that begins with this action, or ends
abbrev pub plan_from : List Load → ℕ → ℕ → Option Action → List Action
plan_from loads workers n None = []
plan_from loads workers n (Some (Split shard)) = Split shard ∷ []
plan_from loads workers n (Some (Move shard worker)) = Move shard worker ∷ plan (after_move loads shard worker) workers n

-- each choice by itself

by_size : (loads : List Load) (workers n : ℕ) (large : Bool) (shard : ℕ)
    → cond large (Split shard ∷ []) [] ≡ plan_from loads workers n (cond large (Some (Split shard)) None)
by_size loads workers n true shard = refl
by_size loads workers n false shard = refl

by_choice : (loads : List Load) (workers n to : ℕ) (even : Bool) (move : Option Load) (look_at : Option Load)
    → cond even [] (option_map_or (λ (l : Load). Move l.shard to ∷ plan (after_move loads l.shard to) workers n) move (plan_of_split look_at))
    ≡ plan_from loads workers n (cond even None (option_map_or (λ (l : Load). Some (Move l.shard to)) move (split_of look_at)))
by_choice loads workers n to true move look_at = refl
by_choice loads workers n to false (Some l) look_at = refl
by_choice loads workers n to false None None = refl
by_choice loads workers n to false None (Some l) = by_size loads workers n (nat_le split_rows l.rows) l.shard

pub plan-turn : (loads : List Load) (workers n : ℕ) → plan loads workers (suc n) ≡ plan_from loads workers n (next_action loads workers)
plan-turn loads workers n = by_choice loads workers n (emptiest loads workers) (nat_le (gap loads workers) even_gap) (to_move loads workers) (to_look_at loads workers)

-- The same from what the calls found.

gap-is : (loads : List Load) (workers from to g : ℕ) → from ≡ fullest loads workers → to ≡ emptiest loads workers → g ≡ rows_on loads from - rows_on loads to
    → g ≡ gap loads workers
gap-is loads workers from to g from_is to_is g_is = g_is ∙ ap (λ w. rows_on loads w - rows_on loads to) from_is ∙ ap (λ w. rows_on loads (fullest loads workers) - rows_on loads w) to_is

move-is : (loads : List Load) (workers from g : ℕ) → from ≡ fullest loads workers → g ≡ gap loads workers
    → largest (filter (fits_gap from g) loads) ≡ to_move loads workers
move-is loads workers from g from_is g_is =
    ap (λ w. largest (filter (fits_gap w g) loads)) from_is
    ∙ ap (λ x. largest (filter (fits_gap (fullest loads workers) x) loads)) g_is

look_at-is : (loads : List Load) (workers from : ℕ) → from ≡ fullest loads workers
    → largest (filter (λ (l : Load). l.worker == from) loads) ≡ to_look_at loads workers
look_at-is loads workers from from_is = ap (λ w. largest (filter (λ (l : Load). l.worker == w) loads)) from_is

uneven : (loads : List Load) (workers g : ℕ) → g ≡ gap loads workers → 32 < g
    → option_map_or (λ (l : Load). Some (Move l.shard (emptiest loads workers))) (to_move loads workers) (split_of (to_look_at loads workers)) ≡ next_action loads workers
uneven loads workers g g_is large = ap (λ b. cond b None (option_map_or (λ (l : Load). Some (Move l.shard (emptiest loads workers))) (to_move loads workers) (split_of (to_look_at loads workers)))) (sym (lt-leb (gap loads workers) 32 (omega arith)))

pub next_action-move : (loads : List Load) (workers from to g : ℕ) (l : Load) → from ≡ fullest loads workers → to ≡ emptiest loads workers → g ≡ rows_on loads from - rows_on loads to → 32 < g
    → Some l ≡ largest (filter (fits_gap from g) loads) → Some (Move l.shard to) ≡ next_action loads workers
next_action-move loads workers from to g l from_is to_is g_is large found =
    let even = gap-is loads workers from to g from_is to_is g_is in
    ap (λ w. Some (Move l.shard w)) to_is
    ∙ ap (λ m. option_map_or (λ (l : Load). Some (Move l.shard (emptiest loads workers))) m (split_of (to_look_at loads workers))) (found ∙ move-is loads workers from g from_is even)
    ∙ uneven loads workers g even large

pub next_action-split : (loads : List Load) (workers from to g : ℕ) (o : Option Load) → from ≡ fullest loads workers → to ≡ emptiest loads workers → g ≡ rows_on loads from - rows_on loads to → 32 < g
    → None ≡ largest (filter (fits_gap from g) loads) → o ≡ largest (filter (λ (l : Load). l.worker == from) loads) → split_of o ≡ next_action loads workers
next_action-split loads workers from to g o from_is to_is g_is large none found =
    let even = gap-is loads workers from to g from_is to_is g_is in
    ap split_of (found ∙ look_at-is loads workers from from_is)
    ∙ ap (λ m. option_map_or (λ (l : Load). Some (Move l.shard (emptiest loads workers))) m (split_of (to_look_at loads workers))) (none ∙ move-is loads workers from g from_is even)
    ∙ uneven loads workers g even large

-- The loop: the actions so far and the plan for the loads as they stand are the whole plan.

so_far : (actions whole : List Action) (loads : List Load) (workers n turn : ℕ) → turn < n → actions ++ plan loads workers (n - turn) ≡ whole
    → actions ++ plan_from loads workers (n - (turn + 1)) (next_action loads workers) ≡ whole
so_far actions whole loads workers n turn within before =
    let more : n - turn ≡ suc (n - (turn + 1)) = omega arith in
    ap (λ rest. actions ++ rest) (sym (ap (plan loads workers) more ∙ plan-turn loads workers (n - (turn + 1)))) ∙ before

pub plan-ends : (actions whole : List Action) (loads : List Load) (workers n turn : ℕ) → turn < n → actions ++ plan loads workers (n - turn) ≡ whole
    → None ≡ next_action loads workers → actions ≡ whole
plan-ends actions whole loads workers n turn within before next =
    sym (append-nil actions)
    ∙ ap (λ o. actions ++ plan_from loads workers (n - (turn + 1)) o) next
    ∙ so_far actions whole loads workers n turn within before

pub plan-splits : (actions whole : List Action) (loads : List Load) (workers n turn shard : ℕ) → turn < n → actions ++ plan loads workers (n - turn) ≡ whole
    → Some (Split shard) ≡ next_action loads workers → actions ++ Split shard ∷ [] ≡ whole
plan-splits actions whole loads workers n turn shard within before next =
    ap (λ o. actions ++ plan_from loads workers (n - (turn + 1)) o) next ∙ so_far actions whole loads workers n turn within before

pub plan-moves : (actions more whole : List Action) (loads now : List Load) (workers n turn shard worker : ℕ) → turn < n
    → actions ++ plan loads workers (n - turn) ≡ whole → Some (Move shard worker) ≡ next_action loads workers
    → more ≡ actions ++ Move shard worker ∷ [] → now ≡ after_move loads shard worker → more ++ plan now workers (n - (turn + 1)) ≡ whole
plan-moves actions more whole loads now workers n turn shard worker within before next more_is now_is =
    ap (λ a. a ++ plan now workers (n - (turn + 1))) more_is
    ∙ ap (λ l. (actions ++ Move shard worker ∷ []) ++ plan l workers (n - (turn + 1))) now_is
    ∙ append_assoc actions (Move shard worker ∷ []) (plan (after_move loads shard worker) workers (n - (turn + 1)))
    ∙ ap (λ o. actions ++ plan_from loads workers (n - (turn + 1)) o) next
    ∙ so_far actions whole loads workers n turn within before
