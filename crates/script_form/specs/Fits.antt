-- Settings in their ranges, and commands that fit their script.
use Rattle.std.specs.Prelude.{ℕ, ◌≡◌, ◌<◌, ◌≤◌, ⊤, length, All}
use Rattle.dim_hierarchy.specs.{Dimension.tree, Names.IsNamePick, Tree.leaf_level}
use Rattle.row_ledger.specs.{declared.settings.Call.Call, declared.settings.Use.Use}
use Rattle.row_ledger.specs.declared.settings.Call.TheVariants as call
use Rattle.script_form.specs.{Limits.{most_servers, most_workers, most_threads, fewest_cells, most_cells, shard_ids, worker_ids, most_actions}, declared.script.Command.Command, declared.script.Script.Script}
use Rattle.script_form.specs.declared.script.Command.TheVariants as command

-- settings in their ranges
pub record AreSettings (with : Use) : Type 0 where
  pub servers : (1 ≤ with.servers) × (with.servers ≤ most_servers)
  pub workers : (1 ≤ with.workers) × (with.workers ≤ most_workers)
  pub threads : (1 ≤ with.threads) × (with.threads ≤ most_threads)
  pub cells : (fewest_cells ≤ with.cells) × (with.cells ≤ most_cells)

-- the numbers of a call are in their ranges, where there are so many servers; a group is not called without its names
abbrev pub IsInRange : ℕ → Call → Type 0
IsInRange servers (call.Sync server) = server < servers
IsInRange servers (call.Split shard) = shard < shard_ids
IsInRange servers (call.Move shard worker) = (shard < shard_ids) × (worker < worker_ids)
IsInRange servers (call.Balance most) = (1 ≤ most) × (most ≤ most_actions)
IsInRange servers (call.Tree shard) = shard < shard_ids
IsInRange servers (call.Group dim level filter) = ⊥
IsInRange servers other = ⊤

-- a command of a server of the script, with a name or a pick for each dimension and its numbers in their ranges
abbrev pub Fits : Script → Command → Type 0
Fits s (command.Insert row) = (row.server < s.with.servers) × (length row.names ≡ length s.hierarchy)
Fits s (command.Query question) = (question.server < s.with.servers) × (length question.filter ≡ length s.hierarchy) × All IsNamePick question.filter
Fits s (command.Control call) = IsInRange s.with.servers call
Fits s (command.Group dim level filter) =
    (dim < length s.hierarchy) × (1 ≤ level) × (level ≤ leaf_level (tree s.hierarchy dim)) × (length filter ≡ length s.hierarchy) × All IsNamePick filter
