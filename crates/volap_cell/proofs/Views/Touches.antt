-- What the changes of the kinds touch of a cell, told by the relations that say what becomes of it. Each lemma is for any touched
-- fields among which the ones that change are; where these are written out `refl` says so.
use Rattle.std.proofs.Common.{◌≡◌, ℕ, Bool, true, false, cond, List, [], ◌∷◌, ◌++◌, None, refl, sym, ap, ◌∙◌, subst}
use Rattle.dc_node.specs.{Block.is_full, declared.block.Block.Block}
use Rattle.shard_build.specs.link_descent.specs.declared.entered.Fresh.{Fresh}
use Rattle.query_router.specs.Desk.{DeskValue}
use Rattle.row_ledger.specs.declared.event.Event.{Event}
use Rattle.server_image.specs.Image.{ImageValue}
use Rattle.cell_stock.specs.Stock.{StockValue}
use Rattle.list_words.specs.Counts.{Each}
use Rattle.list_words.proofs.Each.{each-append}
use Rattle.volap_cell.specs.{AdminKinds.TurnsStock, Cells.{CellValue, FreeCell, LedgerCell, StockCell, RegistryCell, ImageCell, DeskCell, MapCell, GateCell, BlockCell, OfStock, tag_of, gate_shard, block_in}, ImageKinds.{Pushes, TurnsImage}, ShardKinds.TurnsDesk, TreeKinds.{TurnsBlock, AreFilled, AreBehind, IsTailOf, IsTailIf, most_behind}, World.Change}
use Rattle.volap_cell.proofs.{Views.Frames.Same, Views.Seen.{Touched, bare, beside}}

-- a cell that becomes another one in which no more is seen
pub turned : {A : Type 0} (f : CellValue → A) (c : Change) (old new : CellValue) → c.before ≡ old → c.now ≡ new → f new ≡ f old → f c.now ≡ f c.before
turned f c old new was is same = ap f is ∙ same ∙ sym (ap f was)

-- what is touched isn't seen
pub hidden : {A : Type 0} (t : Bool) (none now was : A) → t ≡ true → cond t none now ≡ cond t none was
hidden t none now was on = ap (λ (b : Bool). cond b none now) on ∙ sym (ap (λ (b : Bool). cond b none was) on)

-- Cells that stay.

abbrev pub AreRead : List Change → Type 0
AreRead cs = Each (λ c. c.now ≡ c.before) cs

-- of a cell that stays nothing is touched
pub all-read : {A : Type 0} (f : CellValue → A) (cs : List Change) → AreRead cs → Same f cs
all-read f [] r = tt
all-read f (c ∷ cs) r = (ap f r.0, all-read f cs r.1)

-- the blocks behind a head stay

pub behind-read : (expected most : ℕ) (block : Block) (cs : List Change) → AreBehind expected most block cs → AreRead cs
behind-read expected most block [] b = tt
behind-read expected most block (c ∷ cs) b = let (left, more, off, right, read, behind) = b in (read.same, behind-read expected left (block_in c.before) cs behind)

tail-if-read : (full : Bool) (expected : ℕ) (head : Block) (cs : List Change) → IsTailIf full expected head cs → AreRead cs
tail-if-read true expected head cs t = behind-read expected most_behind head cs t
tail-if-read false expected head cs t = subst AreRead (sym t) tt

pub tail-read : (expected : ℕ) (head : Block) (cs : List Change) → IsTailOf expected head cs → AreRead cs
tail-read expected head cs t = tail-if-read (is_full head.body) expected head cs t

-- Blocks.

-- beside blocks a block is as a free cell
block-bare : (t : Touched) → t.blocks ≡ true → (b : Block) → beside t (BlockCell b) ≡ beside t FreeCell
block-bare t on b =
    let block = hidden t.blocks bare.block b bare.block on in
    let made = hidden t.blocks bare.made true bare.made on in
    λ k. record (beside t FreeCell) { block = block k; made = made k }

-- a block becomes another one
pub turned-block : (t : Touched) → t.blocks ≡ true → {old new : Block} {c : Change} → TurnsBlock old new c → beside t c.now ≡ beside t c.before
turned-block t on {old} {new} {c} b = turned (beside t) c (BlockCell old) (BlockCell new) b.was b.is (block-bare t on new ∙ sym (block-bare t on old))

-- a cell in which nothing is but perhaps a block
pub record IsBlank (c : CellValue) : Type 0 where
  pub tag : tag_of c ≡ OfStock
  pub no_gate : gate_shard c ≡ None

blank-bare : (t : Touched) → t.blocks ≡ true → (c : CellValue) → tag_of c ≡ OfStock → gate_shard c ≡ None → beside t c ≡ beside t FreeCell
blank-bare t on FreeCell tag gate = refl
blank-bare t on (BlockCell b) tag gate = block-bare t on b
blank-bare t on (GateCell x) tag gate = cc
blank-bare t on (LedgerCell l) tag gate = cc
blank-bare t on (StockCell s) tag gate = cc
blank-bare t on (RegistryCell r) tag gate = cc
blank-bare t on (ImageCell s i) tag gate = cc
blank-bare t on (DeskCell s d) tag gate = cc
blank-bare t on (MapCell w m) tag gate = cc

-- a blank cell gets a block
pub filled-block : (t : Touched) → t.blocks ≡ true → (block : Block) (c : Change) → IsBlank c.before → c.now ≡ BlockCell block → beside t c.now ≡ beside t c.before
filled-block t on block c blank is = ap (beside t) is ∙ block-bare t on block ∙ sym (blank-bare t on c.before blank.tag blank.no_gate)

-- and one that is blank is free
pub freed-block : (t : Touched) → t.blocks ≡ true → (c : Change) → IsBlank c.before → c.now ≡ FreeCell → beside t c.now ≡ beside t c.before
freed-block t on c blank is = ap (beside t) is ∙ sym (blank-bare t on c.before blank.tag blank.no_gate)

pub filled-blocks : (t : Touched) → t.blocks ≡ true → (fresh : List Fresh) (cs : List Change) → AreFilled fresh cs → Each (λ c. IsBlank c.before) cs → Same (beside t) cs
filled-blocks t on [] [] f b = tt
filled-blocks t on [] (c ∷ cs) f b = absurd f
filled-blocks t on (x ∷ fresh) [] f b = absurd f
filled-blocks t on (x ∷ fresh) (c ∷ cs) f b = (filled-block t on x.block c b.0 f.1, filled-blocks t on fresh cs f.2 b.1)

-- the blocks behind a head stay, and new ones are filled
pub others-blocks : (t : Touched) → t.blocks ≡ true → (fresh : List Fresh) (tail filled : List Change) → AreRead tail → AreFilled fresh filled → Each (λ c. IsBlank c.before) filled → Same (beside t) (tail ++ filled)
others-blocks t on fresh tail filled r f b = each-append (λ c. beside t c.now ≡ beside t c.before) tail filled (all-read (beside t) tail r) (filled-blocks t on fresh filled f b)

-- Books.

-- a desk becomes another one
pub turned-desk : (t : Touched) → t.desks ≡ true → {server : ℕ} {old new : DeskValue} {c : Change} → TurnsDesk server old new c → beside t c.now ≡ beside t c.before
turned-desk t on {server} {old} {new} {c} d =
    let desk = hidden t.desks bare.desk new old on in
    turned (beside t) c (DeskCell server old) (DeskCell server new) d.was d.is (λ k. record (beside t (DeskCell server new)) { desk = desk k })

-- an image does
pub turned-image : (t : Touched) → t.images ≡ true → {server : ℕ} {old new : ImageValue} {c : Change} → TurnsImage server old new c → beside t c.now ≡ beside t c.before
turned-image t on {server} {old} {new} {c} d =
    let image = hidden t.images bare.image new old on in
    turned (beside t) c (ImageCell server old) (ImageCell server new) d.was d.is (λ k. record (beside t (ImageCell server new)) { image = image k })

-- the ledger gets an event
pub pushed : (t : Touched) → t.ledger ≡ true → {e : Event} {more used : ℕ} {c : Change} {seen : ℕ} → Pushes e more used c seen → beside t c.now ≡ beside t c.before
pushed t on {c} p =
    let ledger = hidden t.ledger bare.ledger p.ledger_now p.ledger on in
    turned (beside t) c (LedgerCell p.ledger) (LedgerCell p.ledger_now) p.was p.is (λ k. record (beside t (LedgerCell p.ledger)) { ledger = ledger k })

-- The stock.

pub turned-stock : (t : Touched) → t.stock ≡ true → {old new : StockValue} {c : Change} → TurnsStock old new c → beside t c.now ≡ beside t c.before
turned-stock t on {old} {new} {c} d =
    let stock = hidden t.stock bare.stock new old on in
    turned (beside t) c (StockCell old) (StockCell new) d.was d.is (λ k. record (beside t (StockCell new)) { stock = stock k })
