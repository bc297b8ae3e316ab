-- What pages tell: of the tree of a shard, of the shards that stand, of all rows, and of the rows by concept.
use Rattle.std.specs.{List.{IsDistinct, AllZip, flat_map}, Prelude.{ℕ, ◌≡◌, ◌+◌, ◌*◌, ◌<◌, ◌≤◌, true, false, ⊤, List, [], ◌∷◌, ◌++◌, length, map, All, Contains, IsPermutation, nat_eq}}
use Rattle.dim_hierarchy.specs.{Dimension.Dimension, declared.row.Row.Row}
use Rattle.measure_agg.specs.Aggregate.{agg}
use Rattle.describing_set.specs.DescSet.{IsSetOf}
use Rattle.row_ledger.specs.{Bounds.numbers, Groups.{IsGroupPage, question}, Past.{Ack, acked, acked_rows, acked_into}, Shards.{Place, place, frontier}, Site.Site, declared.event.Event.Event, declared.page.AuditLine.AuditLine, declared.page.GroupPage.GroupPage, declared.page.NodeLine.NodeLine, declared.page.Page.Page, declared.page.ShardLine.ShardLine, declared.page.TreePage.TreePage, declared.settings.Call.Call, declared.settings.Call.TheVariants.Group}
use Rattle.row_ledger.specs.declared.page.Page.TheVariants as page

-- Trees.

-- The groups of a tree as they hang together: none; or a leaf group, by its line and its rows, and then more; or a
-- directory group, by its line and the groups beneath it, and then more.
pub data Groups : Type 0 where
  none : Groups
  leaf : NodeLine → List Row → Groups → Groups
  directory : NodeLine → Groups → Groups → Groups

-- the lines of these groups, without those beneath
abbrev pub tops : Groups → List NodeLine
tops none = []
tops (leaf line rows more) = line ∷ tops more
tops (directory line below more) = line ∷ tops more

-- the lines of all groups, each followed by those beneath it
abbrev pub listing : Groups → List NodeLine
listing none = []
listing (leaf line rows more) = line ∷ listing more
listing (directory line below more) = line ∷ (listing below ++ listing more)

-- the rows of all leaf groups
abbrev pub rows_beneath : Groups → List Row
rows_beneath none = []
rows_beneath (leaf line rows more) = rows ++ rows_beneath more
rows_beneath (directory line below more) = rows_beneath below ++ rows_beneath more

-- how many rows a block of a leaf group has room for, and how many groups a block of a directory group
abbrev pub leaf_room : ℕ
leaf_room = 32

abbrev pub directory_room : ℕ
directory_room = 16

-- A leaf group with these rows, so many groups below the root: its items are the rows, and it lies as deep as the tree is high.
pub record IsLeafGroup (h : List Dimension) (height at : ℕ) (rows : List Row) (line : NodeLine) : Type 0 where
  pub depth : line.depth ≡ at
  pub lowest : at + 1 ≡ height
  pub leaf : line.leaf ≡ true
  pub blocks : 1 ≤ line.blocks
  pub items : line.items ≡ length rows
  pub room : line.items ≤ leaf_room * line.blocks
  pub agg : line.agg ≡ agg rows
  pub set : IsSetOf h (map (λ r. r.at) rows) line.set

-- A directory group with these groups beneath it: its items are these groups, at least one.
pub record IsDirectoryGroup (h : List Dimension) (height at : ℕ) (below : Groups) (line : NodeLine) : Type 0 where
  pub depth : line.depth ≡ at
  pub higher : at + 1 < height
  pub leaf : line.leaf ≡ false
  pub blocks : 1 ≤ line.blocks
  pub items : line.items ≡ length (tops below)
  pub some : 1 ≤ line.items
  pub room : line.items ≤ directory_room * line.blocks
  pub agg : line.agg ≡ agg (rows_beneath below)
  pub set : IsSetOf h (map (λ r. r.at) (rows_beneath below)) line.set

-- each group is one or the other, and those beneath it lie one deeper
abbrev pub AreGroups : List Dimension → ℕ → ℕ → Groups → Type 0
AreGroups h height at none = ⊤
AreGroups h height at (leaf line rows more) = IsLeafGroup h height at rows line × AreGroups h height at more
AreGroups h height at (directory line below more) =
    IsDirectoryGroup h height at below line × AreGroups h height (at + 1) below × AreGroups h height at more

-- The page of a shard with these rows in its tree and these in its queue: the root's group and all beneath it, in whose
-- leaves are the tree's rows.
pub record IsPageOf (h : List Dimension) (tree queue : List Row) (page : TreePage) : Type 0 where
  pub groups : Groups
  pub listed : page.nodes ≡ listing groups
  pub root : length (tops groups) ≡ 1
  pub shape : AreGroups h page.height 0 groups
  pub beneath : IsPermutation (rows_beneath groups) tree
  pub rows : page.rows ≡ length tree
  pub queued : page.queued ≡ length queue

-- What a page may show behind this past: the shard's rows are acknowledged ones, each once, and all those that came to it
-- are among them. So there are at least as many as came to it, and at most as many as were acknowledged.
pub record IsShownTree (h : List Dimension) (past : List Event) (page : TreePage) : Type 0 where
  pub tree : List Row
  pub queue : List Row
  pub is_page : IsPageOf h tree queue page
  pub once : IsDistinct nat_eq (numbers (tree ++ queue))
  pub allowed : All (Contains (acked_rows past)) (tree ++ queue)
  pub known : All (λ (a : Ack). Contains (tree ++ queue) a.row) (acked_into page.shard past)
  pub least : length (acked_into page.shard past) ≤ page.rows + page.queued
  pub most : page.rows + page.queued ≤ length (acked past)

-- Shards.

-- the rows in a line's shard: as many as its tree and its queue have, their set, and among them all that came to the shard
pub record IsShardLine (h : List Dimension) (past : List Event) (line : ShardLine) (rows : List Row) : Type 0 where
  pub count : line.rows + line.queued ≡ length rows
  pub set : IsSetOf h (map (λ r. r.at) rows) line.set
  pub came : All (λ (a : Ack). Contains rows a.row) (acked_into line.shard past)

-- the shards and workers of a page
abbrev pub places_shown : List ShardLine → List Place
places_shown lines = map (λ (line : ShardLine). place line.shard line.worker) lines

-- What a page of the shards may show behind this past: those that stand, and the acknowledged rows divided among them, each row in one of them.
pub record AreShownShards (site : Site) (past : List Event) (lines : List ShardLine) : Type 0 where
  pub places : places_shown lines ≡ frontier site.workers past
  pub parts : List (List Row)
  pub each : AllZip (IsShardLine site.hierarchy past) lines parts
  pub divided : IsPermutation (acked_rows past) (flat_map (λ rows. rows) parts)

-- what an audit may show: the aggregate of the acknowledged rows, and how many shards stand
pub record IsShownAudit (site : Site) (past : List Event) (audit : AuditLine) : Type 0 where
  pub total : audit.agg ≡ agg (acked_rows past)
  pub count : audit.shards ≡ length (frontier site.workers past)

-- what a group may show: the page of the acknowledged rows
abbrev pub IsShownGroup : Site → List Event → Call → GroupPage → Type 0
IsShownGroup site past (Group dim level filter) shown = IsGroupPage (question site.hierarchy filter dim level) (acked_rows past) shown
IsShownGroup site past other shown = ⊥

-- what a page of a call tells is so behind this past
abbrev pub IsShown : Site → List Event → Call → Page → Type 0
IsShown site past call (page.Shards lines) = AreShownShards site past lines
IsShown site past call (page.Tree tree) = IsShownTree site.hierarchy past tree
IsShown site past call (page.Audit audit) = IsShownAudit site past audit
IsShown site past call (page.Group group) = IsShownGroup site past call group
