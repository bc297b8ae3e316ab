-- What a cell ends as whose contents are lent: it stands where it stood, and has what they end as.
use Rattle.std.specs.{Borrow.{Fml, Lends, MutBor}, Prelude.{ℕ}, Ptr.{Ptr, null_ptr}, declared.alloc.Global.Global}
use Rattle.dc_node.specs.declared.block.Block.{Block}
use Rattle.dc_node.specs.contracts.block.Block.{the_row as block-row}
use Rattle.shard_build.specs.shard_store.specs.declared.gate.Gate.{Gate}
use Rattle.shard_build.specs.shard_store.specs.contracts.gate.Gate.{the_row as gate-row}
use Rattle.cell_stock.specs.declared.stock.Stock.{Stock}
use Rattle.cell_stock.specs.contracts.stock.Stock.{the_row as stock-row}
use Rattle.row_ledger.specs.declared.ledger.Ledger.{Ledger}
use Rattle.row_ledger.specs.contracts.ledger.Ledger.{the_row as ledger-row}
use Rattle.mapping_table.specs.declared.map_table.MapTable.{MapTable}
use Rattle.mapping_table.specs.contracts.map_table.MapTable.{the_row as map-row}
use Rattle.query_router.specs.declared.desk.Desk.{Desk}
use Rattle.query_router.specs.contracts.desk.Desk.{the_row as desk-row}
use Rattle.server_image.specs.declared.image.Image.{Image}
use Rattle.server_image.specs.contracts.image.Image.{the_row as image-row}
use Rattle.server_image.specs.declared.registry.Registry.{Registry}
use Rattle.server_image.specs.contracts.registry.Registry.{the_row as registry-row}
use Rattle.volap_cell.specs.declared.cell.Cell.{Cell}
use Rattle.volap_cell.specs.declared.cell.Cell.TheVariants as cell
use Rattle.volap_cell.specs.contracts.cell.Cell.{the_row}

-- where a cell's contents stand, and from which heap they are
pub record Home : Type 0 where
  pub ptr : Ptr
  pub alloc : Global

abbrev pub home_of : Cell → Home
home_of cell.Free = record { ptr = null_ptr; alloc = record { memory = record { seal = tt } } }
home_of (cell.Ledger l) = record { ptr = l.ptr; alloc = l.alloc }
home_of (cell.Stock s) = record { ptr = s.ptr; alloc = s.alloc }
home_of (cell.Registry r) = record { ptr = r.ptr; alloc = r.alloc }
home_of (cell.Image s i) = record { ptr = i.ptr; alloc = i.alloc }
home_of (cell.Desk s d) = record { ptr = d.ptr; alloc = d.alloc }
home_of (cell.Map w m) = record { ptr = m.ptr; alloc = m.alloc }
home_of (cell.Gate g) = record { ptr = g.ptr; alloc = g.alloc }
home_of (cell.Block b) = record { ptr = b.ptr; alloc = b.alloc }

-- the server or the worker that a cell names
abbrev pub owner_of : Cell → ℕ
owner_of (cell.Image s i) = s
owner_of (cell.Desk s d) = s
owner_of (cell.Map w m) = w
owner_of _ = 0

module _ (c : Cell) where
  abbrev pub with_ledger : Ledger → Cell
  with_ledger x = cell.Ledger (record { ptr = (home_of c).ptr; alloc = (home_of c).alloc; value = x })

  abbrev pub with_stock : Stock → Cell
  with_stock x = cell.Stock (record { ptr = (home_of c).ptr; alloc = (home_of c).alloc; value = x })

  abbrev pub with_registry : Registry → Cell
  with_registry x = cell.Registry (record { ptr = (home_of c).ptr; alloc = (home_of c).alloc; value = x })

  abbrev pub with_image : Image → Cell
  with_image x = cell.Image (owner_of c) (record { ptr = (home_of c).ptr; alloc = (home_of c).alloc; value = x })

  abbrev pub with_desk : Desk → Cell
  with_desk x = cell.Desk (owner_of c) (record { ptr = (home_of c).ptr; alloc = (home_of c).alloc; value = x })

  abbrev pub with_map : MapTable → Cell
  with_map x = cell.Map (owner_of c) (record { ptr = (home_of c).ptr; alloc = (home_of c).alloc; value = x })

  abbrev pub with_gate : Gate → Cell
  with_gate x = cell.Gate (record { ptr = (home_of c).ptr; alloc = (home_of c).alloc; value = x })

  abbrev pub with_block : Block → Cell
  with_block x = cell.Block (record { ptr = (home_of c).ptr; alloc = (home_of c).alloc; value = x })

module _ (c : MutBor Cell) where
  abbrev pub LendsLedger : MutBor Ledger → Fml
  LendsLedger r = Lends the_row ledger-row c r (with_ledger c.now)

  abbrev pub LendsStock : MutBor Stock → Fml
  LendsStock r = Lends the_row stock-row c r (with_stock c.now)

  abbrev pub LendsRegistry : MutBor Registry → Fml
  LendsRegistry r = Lends the_row registry-row c r (with_registry c.now)

  abbrev pub LendsImage : MutBor Image → Fml
  LendsImage r = Lends the_row image-row c r (with_image c.now)

  abbrev pub LendsDesk : MutBor Desk → Fml
  LendsDesk r = Lends the_row desk-row c r (with_desk c.now)

  abbrev pub LendsMap : MutBor MapTable → Fml
  LendsMap r = Lends the_row map-row c r (with_map c.now)

  abbrev pub LendsGate : MutBor Gate → Fml
  LendsGate r = Lends the_row gate-row c r (with_gate c.now)

  abbrev pub LendsBlock : MutBor Block → Fml
  LendsBlock r = Lends the_row block-row c r (with_block c.now)
