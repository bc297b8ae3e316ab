-- One turn of a plan.
use Rattle.std.specs.{Option.option_map_or, Prelude.{ℕ, ◌*◌, List, Bool, ◌&&◌, ◌==◌, nat_lt, nat_le, sum_by, Option, Some, None, if◌then◌else◌}}
use Rattle.shard_plan.specs.{Balancing.{even_gap, split_rows, emptiest, gap, to_move, to_look_at}, declared.action.Action.Action, declared.action.Action.TheVariants.{Move, Split}, declared.action.Load.Load}

-- the rows of all loads together
abbrev pub rows_of_all : List Load → ℕ
rows_of_all loads = sum_by (λ (l : Load). l.rows) loads

-- the worker has the shard, which has rows, and at most half the gap
abbrev pub fits_gap : ℕ → ℕ → Load → Bool
fits_gap worker gap l = (l.worker == worker) && nat_lt 0 l.rows && nat_le (2 * l.rows) gap

-- the split of a shard that is large enough
abbrev pub split_of : Option Load → Option Action
split_of None = None
split_of (Some l) = if nat_le split_rows l.rows then Some (Split l.shard) else None

-- what the plan begins with
abbrev pub next_action : List Load → ℕ → Option Action
next_action loads workers =
    if nat_le (gap loads workers) even_gap then None
    else option_map_or (λ (l : Load). Some (Move l.shard (emptiest loads workers))) (to_move loads workers) (split_of (to_look_at loads workers))
