-- The table of the records: for each kind its word, the fields behind it, and what follows for each dimension.
use Rattle.std.specs.Prelude.{ℕ, ◌+◌, List, [], ◌∷◌, length, find, Option, bytes_eq, codes}
use Rattle.row_ledger.specs.declared.settings.Call.{Call}
use Rattle.row_ledger.specs.declared.settings.Call.TheVariants as call
use Rattle.script_form.specs.{Limits.{most_servers, most_workers, most_threads, fewest_cells, most_cells, most_levels, shard_ids, worker_ids, most_actions}, declared.script.Command.Command, declared.table.Each.Each, declared.table.Field.Field, declared.table.Kind.Kind}
use Rattle.script_form.specs.declared.script.Command.TheVariants as command
use Rattle.script_form.specs.declared.table.Each.TheVariants as each
use Rattle.script_form.specs.declared.table.Field.TheVariants as must
use Rattle.script_form.specs.declared.table.Kind.TheVariants as kind

-- a row
pub record Form : Type 0 where
  pub word : List ℕ
  pub fields : List Field
  pub each : Each

abbrev pub row : List ℕ → List Field → Each → Form
row word fields each = record { word = word; fields = fields; each = each }

-- the id of a shard
abbrev pub shard_id : Field
shard_id = must.Below shard_ids

-- with nothing for the dimensions
abbrev pub plain : List ℕ → List Field → Form
plain word fields = row word fields each.Nothing

-- the row of a kind
abbrev pub form_of : Kind → Form
form_of kind.Volap = plain (codes "volap") (must.Any ∷ [])
form_of kind.Use =
    plain (codes "use") (must.Range 1 most_servers ∷ must.Range 1 most_workers ∷ must.Range 1 most_threads ∷ must.Range fewest_cells most_cells ∷ [])
form_of kind.Dim = plain (codes "dim") (must.Name ∷ must.Range 1 most_levels ∷ [])
form_of kind.Concept = plain (codes "concept") (must.Name ∷ must.Name ∷ must.Parent ∷ [])
form_of kind.Insert = row (codes "insert") (must.Server ∷ must.Measure ∷ []) each.Name
form_of kind.Query = row (codes "query") (must.Server ∷ []) each.Pick
form_of kind.Group = row (codes "group") (must.Name ∷ must.Range 1 most_levels ∷ []) each.Pick
form_of kind.Sync = plain (codes "sync") (must.Server ∷ [])
form_of kind.Split = plain (codes "split") (shard_id ∷ [])
form_of kind.Move = plain (codes "move") (shard_id ∷ must.Below worker_ids ∷ [])
form_of kind.Balance = plain (codes "balance") (must.Range 1 most_actions ∷ [])
form_of kind.Barrier = plain (codes "barrier") []
form_of kind.Settle = plain (codes "settle") []
form_of kind.Shards = plain (codes "shards") []
form_of kind.Tree = plain (codes "tree") (shard_id ∷ [])
form_of kind.Audit = plain (codes "audit") []

-- all kinds
abbrev pub kinds : List Kind
kinds =
    kind.Volap
    ∷ kind.Use
    ∷ kind.Dim
    ∷ kind.Concept
    ∷ kind.Insert
    ∷ kind.Query
    ∷ kind.Group
    ∷ kind.Sync
    ∷ kind.Split
    ∷ kind.Move
    ∷ kind.Balance
    ∷ kind.Barrier
    ∷ kind.Settle
    ∷ kind.Shards
    ∷ kind.Tree
    ∷ kind.Audit
    ∷ []

-- the kind that a first field names
abbrev pub kind_of : List ℕ → Option Kind
kind_of word = find (λ k. bytes_eq word (form_of k).word) kinds

abbrev pub fields_each : Each → ℕ → ℕ
fields_each each.Nothing dims = 0
fields_each _ dims = dims

-- how many fields a record of a kind has where there are so many dimensions
abbrev pub width : Kind → ℕ → ℕ
width k dims = 1 + length (form_of k).fields + fields_each (form_of k).each dims

-- the kind of a called command
abbrev pub kind_called : Call → Kind
kind_called (call.Sync server) = kind.Sync
kind_called (call.Split shard) = kind.Split
kind_called (call.Move shard worker) = kind.Move
kind_called (call.Balance most) = kind.Balance
kind_called call.Barrier = kind.Barrier
kind_called call.Settle = kind.Settle
kind_called call.Shards = kind.Shards
kind_called (call.Tree shard) = kind.Tree
kind_called call.Audit = kind.Audit
kind_called (call.Group dim level filter) = kind.Group

-- the word of a command
abbrev pub word_of : Command → List ℕ
word_of (command.Insert new) = (form_of kind.Insert).word
word_of (command.Query question) = (form_of kind.Query).word
word_of (command.Control called) = (form_of (kind_called called)).word
word_of (command.Group dim level filter) = (form_of kind.Group).word
