-- Called commands by class: those of one class begin, go on and end alike.
use Rattle.std.specs.Prelude.{ℕ, Bool, true, List}
use Rattle.shard_plan.specs.declared.action.Action.TheVariants as action
use Rattle.row_ledger.specs.{Shards.is_live, declared.class.Class.Class, declared.class.Subject.Subject, declared.event.Event.Event, declared.settings.Call.Call, declared.settings.Call.TheVariants.{Sync, Split, Move, Balance, Barrier, Settle, Shards, Tree, Audit, Group}}
use Rattle.row_ledger.specs.declared.class.Class.TheVariants as class
use Rattle.row_ledger.specs.declared.class.Subject.TheVariants as subject

abbrev pub class_of : Call → Class
class_of (Sync server) = class.Sync server
class_of (Split shard) = class.Action (action.Split shard)
class_of (Move shard worker) = class.Action (action.Move shard worker)
class_of (Balance most) = class.Balance most
class_of Barrier = class.Bare
class_of Settle = class.Settle
class_of Shards = class.Page subject.Shards
class_of (Tree shard) = class.Page (subject.Tree shard)
class_of Audit = class.Page subject.Rows
class_of (Group dim level filter) = class.Page subject.Groups

-- there is what a page is of: a shard stands or does not, all shards and all rows are always there
abbrev pub is_there : ℕ → List Event → Subject → Bool
is_there workers past (subject.Tree shard) = is_live workers past shard
is_there workers past _ = true
