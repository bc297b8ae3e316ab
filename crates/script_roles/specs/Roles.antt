-- What the actors of a script's run are there for, and with which settings its core can open.
use Rattle.std.specs.Prelude.{ℕ, zero, suc, ◌≡◌, ◌+◌, ◌^◌, ◌<◌, ◌≤◌, List, [], ◌∷◌, ◌++◌, Some, slice_get}
use Rattle.dim_hierarchy.specs.Dimension.{Dimension, IsHierarchy}
use Rattle.row_ledger.specs.declared.settings.Use.{Use}
use Rattle.volap_cell.specs.{Setting.Setting, declared.role.Role.Role, declared.role.Role.TheVariants.{Admin, Hand, Puller, Session}}

-- a session for each server, in the order of their numbers
abbrev pub sessions_of : ℕ → List Role
sessions_of zero = []
sessions_of (suc n) = sessions_of n ++ Session n ∷ []

-- so many hands of one worker
abbrev pub hands_at : ℕ → ℕ → List Role
hands_at worker zero = []
hands_at worker (suc n) = hands_at worker n ++ Hand worker ∷ []

-- and so many of each, worker by worker
abbrev pub hands_of : ℕ → ℕ → List Role
hands_of threads zero = []
hands_of threads (suc n) = hands_of threads n ++ hands_at n threads

-- the sessions, then who pulls, the administrator, and the hands
abbrev pub roles_of : Use → List Role
roles_of with = sessions_of with.servers ++ Puller ∷ Admin ∷ hands_of with.threads with.workers

-- which number is whose: sessions have those of their servers, then come the puller, the administrator and the hands
abbrev pub IsNumbered : Role → Use → ℕ → Type 0
IsNumbered (Session server) with n = (server ≡ n) × (n < with.servers)
IsNumbered Puller with n = n ≡ with.servers
IsNumbered Admin with n = n ≡ with.servers + 1
IsNumbered (Hand worker) with n = (with.servers + 1 < n) × (worker < with.workers)

-- so it is with the actors of a core
pub record AreScriptRoles (s : Setting) : Type 0 where
  pub session : (server : ℕ) → server < s.servers → slice_get s.roles server ≡ Some (Session server)
  pub puller : slice_get s.roles s.servers ≡ Some Puller
  pub admin : slice_get s.roles (s.servers + 1) ≡ Some Admin
  pub hand : (a : ℕ) (role : Role) → s.servers + 2 ≤ a → slice_get s.roles a ≡ Some role → (worker : ℕ) × (role ≡ Hand worker)

-- There are servers and workers, cells enough for a shard on each worker, and so few cells that each has a number.
pub record CanOpen (h : List Dimension) (with : Use) : Type 0 where
  pub hierarchy : IsHierarchy h
  pub servers : 0 < with.servers
  pub workers : 0 < with.workers
  pub enough : with.workers + with.workers ≤ with.cells
  pub few : 3 + with.servers + with.servers + with.workers + with.cells < 2 ^ 32
