-- Whether a shard stands on a worker, and when it left one.
use Rattle.std.specs.{List.list_any, Prelude.{ℕ, ◌==◌, Bool, not, ◌&&◌, Option, Some, None, if◌then◌else◌, List, [], ◌∷◌, length}}
use Rattle.row_ledger.specs.{Shards.{Place, is_of, frontier}, declared.event.Event.Event, declared.event.Event.TheVariants.Moved}

-- a shard stands on a worker
abbrev pub is_on : ℕ → List Event → ℕ → ℕ → Bool
is_on workers past shard worker = list_any (λ (p : Place). is_of shard p && (p.worker == worker)) (frontier workers past)

-- the position of the last move of a shard away from a worker
abbrev pub left_at : ℕ → List Event → ℕ → ℕ → Option ℕ
left_at workers [] shard worker = None
left_at workers (Moved of moved to ∷ past) shard worker =
    if (moved == shard) && is_on workers past shard worker && not (to == worker) then Some (length past) else left_at workers past shard worker
left_at workers (e ∷ past) shard worker = left_at workers past shard worker
