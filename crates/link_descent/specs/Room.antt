-- How room is made at the head of an entry's group: the cases of a step, each beside what the code tells of it.
use Rattle.std.specs.{List.range_with_len, Prelude.{ℕ, ◌≡◌, ◌+◌, ◌≤◌, true, false, None, List, [], ◌∷◌, ◌++◌, IsPermutation}}
use Rattle.dim_hierarchy.specs.Dimension.{Dimension}
use Rattle.describing_set.specs.{Sets.IsDescSetOf, declared.set.DescSet.DescSet}
use Rattle.hierarchy_split.specs.{Cut.IsGoodCut, Flags.AreHeadCutsOf, Head.{GroupItems, kept_places, parted_places, IsGoodHeadCut}, declared.cut.Cut.Cut, declared.head.HeadCuts.HeadCuts, declared.head_cut.HeadCut.HeadCut}
use Rattle.cell_stock.specs.{Stock.PurseValue, declared.purse.Spare.Spare}
use Rattle.dc_node.specs.{Block.{size, is_full, IsBodyOf}, declared.block.Block.Block, declared.block.Body.Body, declared.block.Body.TheVariants.Entries, declared.entry.Entry.Entry}
use Rattle.link_descent.specs.{Descend.{IsEntryOf, IsGroupEntry, IsTakenFrom, Cuts}, Divide.{body_at, AreItemSets, left_block, right_block, ends_with, AreGroupSets, WhyHalved, IsCutInTwo, HasNoCut, IsCutByHead, HasNoHeadCut, IsHalved}, declared.descend.Room.Room, declared.descend.Room.TheVariants.{Had, Half, Two}, declared.divide.Division.Division, declared.divide.Division.TheVariants.{Halved, Cut as CutBy, HeadCut as HeadCutBy}, declared.entered.Entered.Entered, declared.entered.Fresh.Fresh}
use Rattle.shard_store.specs.declared.gate.Gate.{Gate}

-- the good cut of a head
pub record IsTheCut (h : List Dimension) (body : Body) (cut : Cut) : Type 0 where
  pub sets : List DescSet
  pub are_sets : AreItemSets h body sets
  pub good : IsGoodCut h sets cut
  pub order : IsPermutation (range_with_len 0 (size body)) cut.order.items
  pub left : cut.left ≤ size body

-- the places of the items that the good head cut of a group keeps, and those of the head's other items
pub record AreTheParts (h : List Dimension) (body : Body) (tail : List Block) (stays goes : List ℕ) : Type 0 where
  pub items : GroupItems
  pub are_sets : AreGroupSets h body tail items
  pub cut : HeadCut
  pub good : IsGoodHeadCut h items cut
  pub stays_is : stays ≡ kept_places h items.head cut
  pub goes_is : goes ≡ parted_places h items.head cut
  pub order : IsPermutation (range_with_len 0 (size body)) (stays ++ goes)

-- head cuts were told of the items of a body, beside those that they knew
pub record Strikes (h : List Dimension) (body : Body) (before now : HeadCuts) : Type 0 where
  pub sets : List DescSet
  pub are_sets : AreItemSets h body sets
  pub struck : (items : GroupItems) → AreHeadCutsOf h items before → AreHeadCutsOf h (record { head = items.head; others = items.others ++ sets }) now

-- the items at some places stay, and those at the others go to the new block
pub record IsCutBy (stays goes : List ℕ) (old : Block) (cell stamp : ℕ) (head new : Block) : Type 0 where
  pub head_is : head ≡ left_block cell stamp (body_at old.body stays)
  pub new_is : new ≡ right_block old (body_at old.body goes)

-- how a full head was divided that is its whole group

abbrev pub DividesAlone : List Dimension → Block → Spare → Block → Division → Type 0
DividesAlone h old spare head (Halved new) = HasNoCut h old.body × IsHalved old spare.cell spare.stamp head new
DividesAlone h old spare head (CutBy new) = IsCutInTwo h old spare.cell spare.stamp head new
DividesAlone h old spare head (HeadCutBy new) = ⊥

-- one whose tail is the rest of its group
abbrev pub DividesGroup : List Dimension → List Block → Block → Spare → Block → Division → Type 0
DividesGroup h tail old spare head (Halved new) = HasNoHeadCut h old.body tail × IsHalved old spare.cell spare.stamp head new
DividesGroup h tail old spare head (CutBy new) = ⊥
DividesGroup h tail old spare head (HeadCutBy new) = IsCutByHead h old tail spare.cell spare.stamp head new

-- and any one
abbrev pub Divides : List Dimension → List Block → ℕ → Block → Spare → Block → Division → Type 0
Divides h tail expected old spare head (Halved new) = WhyHalved h expected old tail × IsHalved old spare.cell spare.stamp head new
Divides h tail expected old spare head (CutBy new) = (old.stamp ≡ expected) × IsCutInTwo h old spare.cell spare.stamp head new
Divides h tail expected old spare head (HeadCutBy new) =
    (¬ (old.stamp ≡ expected)) × (ends_with expected tail ≡ true) × IsCutByHead h old tail spare.cell spare.stamp head new

-- a full head was halved
pub record HalvesHead (h : List Dimension) (tail : List Block) (entry : Entry) (head head_now : Block) (purse purse_now : PurseValue) (fresh : Fresh) : Type 0 where
  pub full : is_full head.body ≡ true
  pub why : WhyHalved h entry.stamp head tail
  pub spare : Spare
  pub purse_is : IsTakenFrom purse spare purse_now
  pub new : Block
  pub fresh_is : fresh ≡ record { cell = spare.cell; block = new }
  pub halved : IsHalved head spare.cell spare.stamp head_now new

-- a full head was cut, and the group has two entries
pub record CutsHead (h : List Dimension) (tail : List Block) (entry left right : Entry) (head head_now : Block) (purse purse_now : PurseValue) (fresh : Fresh) : Type 0 where
  pub spare : Spare
  pub new : Block
  pub fresh_is : fresh ≡ record { cell = spare.cell; block = new }
  pub cuts : Cuts h tail entry left right head head_now purse purse_now spare new

-- the new block is in its cell, and there is an entry of the head alone, and one of the new block with what is behind it
abbrev pub AreTwoGroups : List Dimension → List Block → Entry → Block → Block → ℕ → Room → Type 0
AreTwoGroups h behind entry head new cell (Two fresh left right) =
    (fresh ≡ record { cell = cell; block = new }) × IsEntryOf h entry.child head left × IsGroupEntry h cell entry.stamp new behind right
AreTwoGroups h behind entry head new cell _ = ⊥

-- how room was made at a head
abbrev pub MakesRoom : List Dimension → List Block → Entry → Block → Block → PurseValue → PurseValue → Room → Type 0
MakesRoom h tail entry head head_now purse purse_now Had = (is_full head.body ≡ false) × (head_now ≡ head) × (purse_now ≡ purse)
MakesRoom h tail entry head head_now purse purse_now (Half fresh) = HalvesHead h tail entry head head_now purse purse_now fresh
MakesRoom h tail entry head head_now purse purse_now (Two fresh left right) = CutsHead h tail entry left right head head_now purse purse_now fresh

-- how many blocks are new then
abbrev pub new_blocks : Room → ℕ
new_blocks Had = 0
new_blocks (Half fresh) = 1
new_blocks (Two fresh left right) = 1

-- a block of the hierarchy with room
pub record HasRoom (h : List Dimension) (block : Block) : Type 0 where
  pub valid : IsBodyOf h block.body
  pub room : is_full block.body ≡ false

-- an entry that so many rows at most are beneath
pub record IsCountable (h : List Dimension) (most : ℕ) (e : Entry) : Type 0 where
  pub valid : IsDescSetOf h e.set
  pub few : e.agg.count ≤ most

-- what is new where room was made at a head with so many rows beneath
abbrev pub AreNew : List Dimension → ℕ → Room → Type 0
AreNew h most Had = Unit {0}
AreNew h most (Half fresh) = HasRoom h fresh.block
AreNew h most (Two fresh left right) = HasRoom h fresh.block × IsCountable h most left × IsCountable h most right

-- a new root stands above the two blocks into which the root of a gate was cut
pub record IsRaised (gate gate_now : Gate) (cut : Fresh) (left right : Entry) (purse purse_now : PurseValue) (entered : Entered) : Type 0 where
  pub top : Spare
  pub purse_is : IsTakenFrom purse top purse_now
  pub fresh : entered.fresh.items
      ≡ cut
      ∷ record { cell = top.cell; block = record { stamp = top.stamp; right = None; body = Entries (record { items = left ∷ right ∷ [] }) } } ∷ []
  pub gate_is : gate_now ≡ record gate { root = top.cell; stamp = top.stamp; height = gate.height + 1 }
  pub at : entered.at ≡ top.cell
