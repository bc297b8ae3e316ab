-- The history: it is kept right, and each actor's command is in it, open, and as far as the actor says.
use Rattle.std.specs.Prelude.{ℕ, ◌≡◌, ◌+◌, ◌<◌, ◌≤◌, ◌⊎◌, Bool, true, false, IsTrue, List, [], length, Option, Some, is_some, option_and_then}
use Rattle.dim_hierarchy.specs.{Filter.IsFilterOf, Rows.IsRowOf}
use Rattle.row_ledger.specs.{Classes.{class_of, is_there}, Kept.KeepsRight, Past.{Insert, Query, before, event_at, insert_at, query_at, call_at, has_ended, has_page, is_over, session_in, work}, Right.has_pulled, Work.is_known, declared.class.Class.Class, declared.event.Event.Event, declared.settings.Call.Call}
use Rattle.row_ledger.specs.declared.class.Class.TheVariants as class
use Rattle.volap_cell.specs.{Setting.{Setting, site_in}, Values.JobValue, declared.command.Command.Command, declared.command.Work.Work, declared.role.Role.Role, declared.role.Role.TheVariants.{Session, Admin}}
use Rattle.volap_cell.specs.declared.command.Work.TheVariants as work_is

-- a role is that of a session of this server
abbrev pub IsSessionOf : ℕ → Role → Type 0
IsSessionOf server role = role ≡ Session server

-- a call of this class began the command
abbrev pub IsCalledAs : List Event → ℕ → Class → Type 0
IsCalledAs h of class = (c : Call) × (call_at h of ≡ Some c) × (class_of c ≡ class)

-- What began a command, and how far it has come. A job is there exactly for a split or a move whose shard, and worker, stood
-- when it began; what is said of a balance stands with the jobs.
abbrev pub IsProgress : Setting → List Event → ℕ → Work → Option JobValue → Role → Type 0
IsProgress s h of (work_is.Insert row routed) job role = (server : ℕ) × IsSessionOf server role × (insert_at h of ≡ Some (record { server = server; row = row })) × (row.no ≡ of)
IsProgress s h of work_is.Query job role = (q : Query) × IsSessionOf q.server role × (query_at h of ≡ Some q)
IsProgress s h of (work_is.Sync server pulled) job role = IsCalledAs h of (class.Sync server) × (server < s.servers) × (pulled ≡ true → IsTrue (has_pulled h of server))
IsProgress s h of (work_is.Settle pulls) job role = IsCalledAs h of class.Settle × (pulls ≤ s.servers + s.servers)
IsProgress s h of work_is.Bare job role = IsCalledAs h of class.Bare
IsProgress s h of (work_is.Page subject there shown) job role =
    IsCalledAs h of (class.Page subject) × (has_page h of ≡ shown) × (is_there s.workers (before h of) subject ≡ there) × (shown ≡ true → there ≡ true)
IsProgress s h of (work_is.Action a) job role = IsCalledAs h of (class.Action a) × (work h of ≡ []) × (is_some job ≡ is_known (site_in s) (before h of) a)
IsProgress s h of (work_is.Balance b) job role = IsCalledAs h of (class.Balance b.most) × (role ≡ Admin)

-- a command has its end, or an actor is still at it
abbrev pub IsOverOrOpen : List Event → (ℕ → Option Command) → ℕ → Type 0
IsOverOrOpen h commands p = (is_over h p ≡ true) ⊎ ((a : ℕ) × (c : Command) × (commands a ≡ Some c) × (c.of ≡ p))

pub record Telling (s : Setting) (history : List Event) (commands : ℕ → Option Command) (jobs : ℕ → Option JobValue) (roles : ℕ → Role) (seen : ℕ → ℕ) (placed : ℕ → Bool) : Type 0 where
  pub right : KeepsRight (site_in s) placed history
  pub own : (a : ℕ) (c : Command) → commands a ≡ Some c → option_and_then session_in (event_at history c.of) ≡ Some a
  pub is_open : (a : ℕ) (c : Command) → commands a ≡ Some c → has_ended history c.of ≡ false
  pub progress : (a : ℕ) (c : Command) → commands a ≡ Some c → IsProgress s history c.of c.work (jobs a) (roles a)
  pub last : (a p : ℕ) → option_and_then session_in (event_at history p) ≡ Some a → p < seen a
  pub within : (a : ℕ) → seen a ≤ length history
  pub rows : (r : ℕ) (i : Insert) → insert_at history r ≡ Some i → IsRowOf s.hierarchy i.row × (i.server < s.servers)
  pub filters : (b : ℕ) (q : Query) → query_at history b ≡ Some q → IsFilterOf s.hierarchy q.filter × (q.server < s.servers) × (0 < length s.hierarchy)
  pub status : (a p : ℕ) → option_and_then session_in (event_at history p) ≡ Some a → IsOverOrOpen history commands p
