-- The ranges of the numbers in a script, and how long a name is.
use Rattle.std.specs.Prelude.{ℕ}

-- Settings, each at least 1 where no least value stands here.

abbrev pub most_servers : ℕ
most_servers = 16

abbrev pub most_workers : ℕ
most_workers = 16

-- for each worker
abbrev pub most_threads : ℕ
most_threads = 8

abbrev pub fewest_cells : ℕ
fewest_cells = 64

abbrev pub most_cells : ℕ
most_cells = 65536

-- A dimension has at least one level.
abbrev pub most_levels : ℕ
most_levels = 8

-- each id of a shard, and of a worker in a command, is below

abbrev pub shard_ids : ℕ
shard_ids = 4294967296

abbrev pub worker_ids : ℕ
worker_ids = 256

-- a balance makes at least one
abbrev pub most_actions : ℕ
most_actions = 16

-- a name has at least one byte
abbrev pub most_bytes : ℕ
most_bytes = 64
