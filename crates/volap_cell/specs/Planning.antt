-- What a balance does next.
use Rattle.std.specs.{List.list_any, Prelude.{ℕ, ◌≡◌, ◌==◌, Bool, true, List, Option, Some, None, option_map, option_and_then, slice_get, find, unwrap_or}}
use Rattle.row_ledger.specs.Work.{shard_of}
use Rattle.shard_plan.specs.{declared.action.Action.Action, declared.action.Load.Load}
use Rattle.shard_plan.specs.declared.action.Action.TheVariants as action
use Rattle.volap_cell.specs.{Values.{JobValue, IsCalled}, declared.command.Balance.Balance}

-- the worker that has the shard
abbrev pub worker_among : List Load → ℕ → ℕ
worker_among loads shard = unwrap_or (option_map (λ (l : Load). l.worker) (find (λ (l : Load). l.shard == shard) loads)) 0

-- whether a shard is among the loads
abbrev pub has_load : List Load → ℕ → Bool
has_load loads shard = list_any (λ (l : Load). l.shard == shard) loads

-- the job of an action, at its beginning
abbrev pub job_for : List Load → Action → JobValue
job_for standing (action.Split shard) = record { shard = shard; worker = worker_among standing shard; to = None; stage = IsCalled }
job_for standing (action.Move shard worker) = record { shard = shard; worker = worker_among standing shard; to = Some worker; stage = IsCalled }

-- the job of the action that is next; none before the plan is made, and none after the last action
abbrev pub next_job : Balance → Option JobValue
next_job b = option_map (job_for b.standing) (option_and_then (λ (actions : List Action). slice_get actions b.over) b.plan)

-- the shard of the action that is next, if there is one, is among the loads
abbrev pub HasLoadNext : Balance → Type 0
HasLoadNext b = (action : Action) → option_and_then (λ (actions : List Action). slice_get actions b.over) b.plan ≡ Some action → has_load b.standing (shard_of action) ≡ true
