-- The steps of a row down a tree.
use Rattle.std.specs.Prelude.{ℕ, ◌≡◌, ◌+◌, ◌⊎◌, false, true, List, [], ◌∷◌, ◌++◌, slice_get, Some, None}
use Rattle.dim_hierarchy.specs.{Dimension.Dimension, declared.row.Row.Row}
use Rattle.describing_set.specs.Sets.{IsDescSetOf}
use Rattle.dc_node.specs.{Block.{is_full, entries_in, with_entries, replaced}, Entry.IsWithRow, Summary.IsSummary, declared.block.Block.Block, declared.block.Body.TheVariants.Entries, declared.entry.Entry.Entry}
use Rattle.cell_stock.specs.{Stock.PurseValue, declared.purse.Spare.Spare}
use Rattle.shard_store.specs.{Gate.root_entry, declared.gate.Gate.Gate}
use Rattle.link_descent.specs.{Divide.{together, ends_with, WhyHalved, IsCutInTwo, IsCutByHead, IsHalved}, Pick.IsPick, declared.entered.Entered.Entered}

-- the entry of one block: its cell, its stamp, and the aggregate and the set of its items
pub record IsEntryOf (h : List Dimension) (cell : ℕ) (block : Block) (e : Entry) : Type 0 where
  pub child : e.child ≡ cell
  pub stamp : e.stamp ≡ block.stamp
  pub summary : IsSummary h block.body e.agg e.set
  pub valid : IsDescSetOf h e.set

-- The entry of a group that starts at a cell: the stamp that is expected of its last block, and the aggregate and the
-- set of the items of all its blocks.
pub record IsGroupEntry (h : List Dimension) (cell expected : ℕ) (head : Block) (tail : List Block) (e : Entry) : Type 0 where
  pub child : e.child ≡ cell
  pub stamp : e.stamp ≡ expected
  pub summary : IsSummary h (together head.body tail) e.agg e.set
  pub valid : IsDescSetOf h e.set

-- a spare was taken from the purse, the last one first
abbrev pub IsTakenFrom : PurseValue → Spare → PurseValue → Type 0
IsTakenFrom before spare now = before.spares ≡ now.spares ++ spare ∷ []

-- the group that an entry leads to is its head alone
abbrev pub IsAlone : Entry → Block → Type 0
IsAlone entry head = head.stamp ≡ entry.stamp

-- of two entries one gets the row: the one that comes first for it
pub record IsShared (h : List Dimension) (row : Row) (left right : Entry) (left_now right_now chosen : Entry) : Type 0 where
  pub place : ℕ
  pub pick : IsPick h row.at (left.set ∷ right.set ∷ []) place
  pub shared : ((place ≡ 0) × IsWithRow h row left left_now × (right_now ≡ right) × (chosen ≡ left))
      ⊎ ((place ≡ 1) × IsWithRow h row right right_now × (left_now ≡ left) × (chosen ≡ right))

-- What a step onto a head leaves, where an entry of the parent leads to the head's group. The blocks behind the head,
-- as far as they are looked at, are its tail.

-- the head has room: nothing is divided
pub record Passes (h : List Dimension) (row : Row) (entry entry_now : Entry) (head head_now : Block) (purse purse_now : PurseValue) (entered : Entered) : Type 0 where
  pub room : is_full head.body ≡ false
  pub entry_is : IsWithRow h row entry entry_now
  pub head_is : head_now ≡ head
  pub purse_is : purse_now ≡ purse
  pub fresh : entered.fresh.items ≡ []
  pub at : entered.at ≡ entry.child

-- the head is full and is halved, since there is no good cut and no good head cut
pub record Halves (h : List Dimension) (row : Row) (tail : List Block) (entry entry_now : Entry) (head head_now : Block) (purse purse_now : PurseValue) (entered : Entered) : Type 0 where
  pub full : is_full head.body ≡ true
  pub why : WhyHalved h entry.stamp head tail
  pub spare : Spare
  pub purse_is : IsTakenFrom purse spare purse_now
  pub new : Block
  pub halved : IsHalved head spare.cell spare.stamp head_now new
  pub entry_is : IsWithRow h row entry entry_now
  pub fresh : entered.fresh.items ≡ record { cell = spare.cell; block = new } ∷ []
  pub at : entered.at ≡ entry.child

-- The head is full and is cut, by the good cut where it is its whole group, and by the good head cut where its tail is
-- the rest of it. Its two parts have an entry each: the left one is the head alone, and the right one has the new block
-- and the blocks behind it.
pub record Cuts (h : List Dimension) (tail : List Block) (entry left right : Entry) (head head_now : Block) (purse purse_now : PurseValue) (spare : Spare) (new : Block) : Type 0 where
  pub full : is_full head.body ≡ true
  pub purse_is : IsTakenFrom purse spare purse_now
  pub behind : List Block
  pub cut :
      (IsAlone entry head × IsCutInTwo h head spare.cell spare.stamp head_now new × (behind ≡ []))
      ⊎ ((¬ IsAlone entry head) × (ends_with entry.stamp tail ≡ true) × IsCutByHead h head tail spare.cell spare.stamp head_now new × (behind ≡ tail))
  pub left_is : IsEntryOf h entry.child head_now left
  pub right_is : IsGroupEntry h spare.cell entry.stamp new behind right

-- a step down by the entry at a place of a directory
pub record CutsDown (h : List Dimension) (row : Row) (place : ℕ) (tail : List Block) (entry : Entry) (parent parent_now head head_now : Block) (purse purse_now : PurseValue) (entered : Entered) : Type 0 where
  pub spare : Spare
  pub new : Block
  pub left : Entry
  pub right : Entry
  pub left_now : Entry
  pub right_now : Entry
  pub chosen : Entry
  pub cuts : Cuts h tail entry left right head head_now purse purse_now spare new
  pub shared : IsShared h row left right left_now right_now chosen
  pub parent_is : parent_now ≡ with_entries parent (replaced (entries_in parent.body) place (left_now ∷ right_now ∷ []))
  pub fresh : entered.fresh.items ≡ record { cell = spare.cell; block = new } ∷ []
  pub at : entered.at ≡ chosen.child

-- where the parent keeps one entry for the group
pub record KeepsEntry (place : ℕ) (entry_now : Entry) (parent parent_now : Block) : Type 0 where
  pub parent_is : parent_now ≡ with_entries parent (replaced (entries_in parent.body) place (entry_now ∷ []))

pub record StepsDown (h : List Dimension) (row : Row) (place : ℕ) (tail : List Block) (parent parent_now head head_now : Block) (purse purse_now : PurseValue) (entered : Entered) : Type 0 where
  pub entry : Entry
  pub entry_at : slice_get (entries_in parent.body) place ≡ Some entry
  pub step :
      ((entry_now : Entry) × KeepsEntry place entry_now parent parent_now × Passes h row entry entry_now head head_now purse purse_now entered)
      ⊎ ((entry_now : Entry) × KeepsEntry place entry_now parent parent_now × Halves h row tail entry entry_now head head_now purse purse_now entered)
      ⊎ CutsDown h row place tail entry parent parent_now head head_now purse purse_now entered

-- a step in at the gate, which leads to the root as an entry leads to its child

-- nothing of a gate changes but the aggregate and the set of its tree
pub record KeepsRoot (entry_now : Entry) (gate gate_now : Gate) : Type 0 where
  pub gate_is : gate_now ≡ record gate { agg = entry_now.agg; set = entry_now.set }

-- the root is cut in two under a new root, at which the row is carried: neither of its entries has the row
pub record CutsRoot (h : List Dimension) (row : Row) (tail : List Block) (gate gate_now : Gate) (head head_now : Block) (purse purse_now : PurseValue) (entered : Entered) : Type 0 where
  pub spare : Spare
  pub new : Block
  pub left : Entry
  pub right : Entry
  pub between : PurseValue
  pub cuts : Cuts h tail (root_entry gate) left right head head_now purse between spare new
  pub top : Spare
  pub purse_is : IsTakenFrom between top purse_now
  pub fresh : entered.fresh.items
      ≡ record { cell = spare.cell; block = new }
      ∷ record { cell = top.cell; block = record { stamp = top.stamp; right = None; body = Entries (record { items = left ∷ right ∷ [] }) } } ∷ []
  pub entry_now : Entry
  pub entry_is : IsWithRow h row (root_entry gate) entry_now
  pub gate_is : gate_now ≡ record gate { root = top.cell; stamp = top.stamp; height = gate.height + 1; agg = entry_now.agg; set = entry_now.set }
  pub at : entered.at ≡ top.cell

pub record Enters (h : List Dimension) (row : Row) (tail : List Block) (gate gate_now : Gate) (root root_now : Block) (purse purse_now : PurseValue) (entered : Entered) : Type 0 where
  pub step :
      ((entry_now : Entry) × KeepsRoot entry_now gate gate_now × Passes h row (root_entry gate) entry_now root root_now purse purse_now entered)
      ⊎ ((entry_now : Entry) × KeepsRoot entry_now gate gate_now × Halves h row tail (root_entry gate) entry_now root root_now purse purse_now entered)
      ⊎ CutsRoot h row tail gate gate_now root root_now purse purse_now entered
