-- A part has no farther to go than is farthest of all, wherever it starts.
use Rattle.std.proofs.Common.{ℕ, ◌+◌, ◌*◌, ◌≤◌, List, [], ◌∷◌, Bool, true, false, length, arith, Option, ◌==◌}
use Rattle.std.specs.Prelude.{if◌then◌else◌}
use Rattle.row_ledger.specs.{Shards.comes_from, declared.event.Event.Event, declared.event.Event.TheVariants.{Split, Moved}}
use Rattle.volap_cell.specs.Falls.{count_events, departure, far, farthest, is_from, is_split_or_move, moves_ahead, splits_under}

-- 1 where a test passes
abbrev once : Bool → ℕ
once b = if b then 1 else 0

at-most : (b : Bool) → once b ≤ 1
at-most true = omega arith
at-most false = omega arith

-- an event is a split or a move, and not both
one-event : (h : List Event) (x : ℕ) (at : Option ℕ) (e : Event) (p : ℕ) → 2 * once (splits_under h x e) + once (moves_ahead h x at e p) ≤ 2 * once (is_split_or_move e)
one-event h x at (Split of shard left right) p = (let most = at-most (comes_from h x shard) in omega (arith, most))
one-event h x at (Moved of shard worker) p = (let most = at-most (if shard == x then is_from at p else comes_from h x shard) in omega (arith, most))
one-event h x at _ p = omega arith

all-events : (h : List Event) (x : ℕ) (at : Option ℕ) (past : List Event)
    → 2 * count_events (λ e p. splits_under h x e) past + count_events (moves_ahead h x at) past ≤ 2 * count_events (λ e p. is_split_or_move e) past
all-events h x at [] = omega arith
all-events h x at (e ∷ past) = (let here = one-event h x at e (length past) in let rest = all-events h x at past in omega (arith, here, rest))

pub far-most : (workers : ℕ) (h : List Event) (x w : ℕ) → far workers h x w ≤ farthest h
far-most workers h x w = (let all = all-events h x (departure workers h x w) h in omega (arith, all))
