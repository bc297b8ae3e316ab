-- The plan of a balance.
use Rattle.std.specs.{Option.option_map_or, Prelude.{ℕ, zero, suc, ◌-◌, ◌*◌, List, [], ◌∷◌, ◌++◌, Bool, ◌&&◌, ◌||◌, ◌==◌, nat_lt, nat_le, sum_by, map, filter, fold, Option, Some, None, unwrap_or, if◌then◌else◌}}
use Rattle.shard_plan.specs.{declared.action.Action.Action, declared.action.Action.TheVariants.{Move, Split}, declared.action.Load.Load}

-- the gap between the fullest and the emptiest worker that is left as it is, in rows
abbrev pub even_gap : ℕ
even_gap = 32

-- the fewest rows of a shard that is split
abbrev pub split_rows : ℕ
split_rows = 64

-- The first of a list by an order.

-- the one of two that comes first; the one that was found before stays where neither does
abbrev pub earlier : {X : Type 0} → (X → X → Bool) → Option X → X → Option X
earlier comes_before None x = Some x
earlier comes_before (Some found) x = Some (if comes_before x found then x else found)

abbrev pub first_by : {X : Type 0} → (X → X → Bool) → List X → Option X
first_by comes_before xs = fold (earlier comes_before) None xs

-- Workers, by the rows that they have.

-- the workers' numbers
abbrev pub numbers_below : ℕ → List ℕ
numbers_below zero = []
numbers_below (suc n) = numbers_below n ++ n ∷ []

abbrev pub rows_on : List Load → ℕ → ℕ
rows_on loads worker = sum_by (λ (l : Load). l.rows) (filter (λ (l : Load). l.worker == worker) loads)

-- more rows, or fewer; on a tie the lower number
abbrev pub has_more : List Load → ℕ → ℕ → Bool
has_more loads v w = nat_lt (rows_on loads w) (rows_on loads v) || ((rows_on loads v == rows_on loads w) && nat_lt v w)

abbrev pub has_fewer : List Load → ℕ → ℕ → Bool
has_fewer loads v w = nat_lt (rows_on loads v) (rows_on loads w) || ((rows_on loads v == rows_on loads w) && nat_lt v w)

-- the worker with the most rows, and the one with the fewest
abbrev pub fullest : List Load → ℕ → ℕ
fullest loads workers = unwrap_or (first_by (has_more loads) (numbers_below workers)) 0

abbrev pub emptiest : List Load → ℕ → ℕ
emptiest loads workers = unwrap_or (first_by (has_fewer loads) (numbers_below workers)) 0

abbrev pub gap : List Load → ℕ → ℕ
gap loads workers = rows_on loads (fullest loads workers) - rows_on loads (emptiest loads workers)

-- Shards of the fullest worker.

-- more rows; on a tie the lower id
abbrev pub is_larger : Load → Load → Bool
is_larger a b = nat_lt b.rows a.rows || ((a.rows == b.rows) && nat_lt a.shard b.shard)

abbrev pub largest : List Load → Option Load
largest loads = first_by is_larger loads

-- a shard that makes the gap smaller by a move: it has rows, and at most half the gap
abbrev pub is_movable : List Load → ℕ → Load → Bool
is_movable loads workers l = (l.worker == fullest loads workers) && nat_lt 0 l.rows && nat_le (2 * l.rows) (gap loads workers)

abbrev pub to_move : List Load → ℕ → Option Load
to_move loads workers = largest (filter (is_movable loads workers) loads)

abbrev pub to_look_at : List Load → ℕ → Option Load
to_look_at loads workers = largest (filter (λ (l : Load). l.worker == fullest loads workers) loads)

-- Plans.

-- the loads when the shard stands on the worker
abbrev pub after_move : List Load → ℕ → ℕ → List Load
after_move loads shard worker = map (λ (l : Load). if l.shard == shard then record l { worker = worker } else l) loads

-- the split of a shard that is large enough
abbrev pub plan_of_split : Option Load → List Action
plan_of_split None = []
plan_of_split (Some l) = if nat_le split_rows l.rows then Split l.shard ∷ [] else []

-- at most n actions: moves from the fullest worker to the emptiest one while their gap is too large and there is a shard to
-- move, each counted on with, and where there is none a split
abbrev pub plan : List Load → ℕ → ℕ → List Action
plan loads workers zero = []
plan loads workers (suc n) =
    if nat_le (gap loads workers) even_gap then []
    else option_map_or (λ (l : Load). Move l.shard (emptiest loads workers) ∷ plan (after_move loads l.shard (emptiest loads workers)) workers n)
    (to_move loads workers) (plan_of_split (to_look_at loads workers))
