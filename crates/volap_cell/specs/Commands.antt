-- Commands: who may make which, what each still owes the history, which pull is next, and how each may end.
use Rattle.std.specs.Prelude.{ℕ, ◌≡◌, ◌+◌, ◌-◌, ◌<◌, ⊤, Bool, true, false, nat_lt, List, Option, Some, None, length, if◌then◌else◌}
use Rattle.shard_plan.specs.{Balancing.after_move, declared.action.Action.Action, declared.action.Load.Load}
use Rattle.row_ledger.specs.{Classes.class_of, declared.class.Class.Class, declared.settings.Call.Call, declared.settings.Decline.TheVariants.Unknown, declared.settings.How.How}
use Rattle.row_ledger.specs.declared.class.Class.TheVariants as class
use Rattle.row_ledger.specs.declared.settings.How.TheVariants as how
use Rattle.volap_cell.specs.{Values.{JobValue, StageValue, IsCalled, IsDeclined}, declared.command.Balance.Balance, declared.command.Work.Work, declared.role.Role.Role, declared.role.Role.TheVariants.{Session, Puller, Admin}}
use Rattle.volap_cell.specs.declared.command.Work.TheVariants as work_is

-- a session pulls for its own server, a puller for each; the administrator makes all other calls
abbrev pub MayCallAs : Role → Class → Type 0
MayCallAs (Session s) (class.Sync server) = server ≡ s
MayCallAs Puller (class.Sync server) = ⊤
MayCallAs Admin class.Settle = ⊤
MayCallAs Admin class.Bare = ⊤
MayCallAs Admin (class.Page subject) = ⊤
MayCallAs Admin (class.Action a) = ⊤
MayCallAs Admin (class.Balance most) = ⊤
MayCallAs role c = ⊥

abbrev pub MayCall : Role → Call → Type 0
MayCall role c = MayCallAs role (class_of c)

-- the server in the events of an actor's commands: a session's own; a called command has none, for which 0 stands
abbrev pub server_of : Role → ℕ
server_of (Session server) = server
server_of role = 0

-- How many pushes a command may still need: its end, and before it the one event of a split or a move, that of each action which
-- a balance may still make, or a page. A pull promises its own push when it is made.
abbrev pub owes : Work → ℕ
owes (work_is.Insert row routed) = 1
owes work_is.Query = 1
owes (work_is.Sync server pulled) = 1
owes (work_is.Settle pulls) = 1
owes work_is.Bare = 1
owes (work_is.Page subject there shown) = if shown then 1 else 2
owes (work_is.Action a) = 2
owes (work_is.Balance b) = b.most + 1 - b.over

-- Pulls.

-- the server for which a settle pulls next: each in the order of their numbers, and then each once more
abbrev pub settles_next : ℕ → ℕ → Option ℕ
settles_next servers pulls =
    if nat_lt pulls servers then Some pulls
    else if nat_lt pulls (servers + servers) then Some (pulls - servers) else None

abbrev pub due_pull : ℕ → Work → Option ℕ
due_pull servers (work_is.Sync server false) = Some server
due_pull servers (work_is.Settle pulls) = settles_next servers pulls
due_pull servers _ = None

abbrev pub pulled_once : Work → Work
pulled_once (work_is.Sync server pulled) = work_is.Sync server true
pulled_once (work_is.Settle pulls) = work_is.Settle (pulls + 1)
pulled_once work = work

-- Pages.

-- the command once its page is shown
abbrev pub once_shown : Work → Option Work
once_shown (work_is.Page subject true false) = Some (work_is.Page subject true true)
once_shown _ = None

-- Actions of a balance.

-- the loads as they stand after the action, where it was done
abbrev pub stands_after : Bool → ℕ → Option ℕ → List Load → List Load
stands_after true shard (Some to) loads = after_move loads shard to
stands_after done shard to loads = loads

-- one action more is over
abbrev pub after_action : Bool → JobValue → Balance → Balance
after_action done job b = record b { standing = stands_after done job.shard job.to b.standing; over = b.over + 1; done = if done then b.done + 1 else b.done }

-- Ends.

-- a split or a move ends by itself where it was unknown, is declined, or found no memory before it froze the shard
abbrev pub EndsStage : StageValue → How → Type 0
EndsStage (IsDeclined decline) (how.Declined why) = why ≡ decline
EndsStage IsCalled how.NoMemory = ⊤
EndsStage stage h = ⊥

abbrev pub EndsJob : Option JobValue → How → Type 0
EndsJob None (how.Declined why) = why ≡ Unknown
EndsJob None h = ⊥
EndsJob (Some job) h = EndsStage job.stage h

-- a balance is at its end when all that it planned is over
abbrev pub EndsBalance : Balance → How → Type 0
EndsBalance b (how.Balanced done planned) = (done ≡ b.done) × (b.over ≡ planned) × ((actions : List Action) × (b.plan ≡ Some actions) × (planned ≡ length actions))
EndsBalance b how.NoMemory = b.plan ≡ None
EndsBalance b h = ⊥

-- how a command's own note may end it; what it did is behind it, or it found no memory for what is still to do
abbrev pub MayNoteEnd : ℕ → Work → Option JobValue → How → Type 0
MayNoteEnd servers work_is.Bare job how.Fine = ⊤
MayNoteEnd servers (work_is.Sync server pulled) job how.Fine = pulled ≡ true
MayNoteEnd servers (work_is.Sync server pulled) job how.NoMemory = pulled ≡ false
MayNoteEnd servers (work_is.Settle pulls) job how.Fine = pulls ≡ servers + servers
MayNoteEnd servers (work_is.Settle pulls) job how.NoMemory = pulls < servers + servers
MayNoteEnd servers (work_is.Action a) job h = EndsJob job h
MayNoteEnd servers (work_is.Balance b) job h = EndsBalance b h
MayNoteEnd servers (work_is.Page subject there shown) job how.Fine = shown ≡ true
MayNoteEnd servers (work_is.Page subject there shown) job how.NoMemory = shown ≡ false
MayNoteEnd servers (work_is.Page subject there shown) job (how.Declined why) = (there ≡ false) × (why ≡ Unknown)
MayNoteEnd servers work job h = ⊥
