-- A step that changes cells of no whole tree leaves each of these as it is, and every query that is pinned to one.
use Rattle.std.proofs.{Common.{◌≡◌, ◌≢◌, ℕ, true, eqb, Option, Some, None, List, refl, sym, ap, subst}, lemmas.Bool.eqb-false}
use Rattle.cell_stock.specs.declared.purse.Spare.{Spare}
use Rattle.dc_node.specs.{declared.block.Block.Block, declared.entry.Entry.Entry}
use Rattle.row_ledger.specs.Past.{Query}
use Rattle.core_tree.specs.shard_store.specs.{Gate.root_entry, declared.gate.Gate.Gate}
use Rattle.list_words.specs.Counts.{Each}
use Rattle.list_words.proofs.{Each.each-map, Truth.on_bool}
use Rattle.core_tree.specs.tree_shape.specs.{Laws.OtherLaw, Queries.fits, Shape.{Node, gate_node, node_of, nodes}, Steps.{AfterOther, AreSpares, IsSpare, LeavesTree}}
use Rattle.core_tree.specs.volap_cell.specs.{Errands.ReadPart, Ghost.{Ghost, InTree}, Growing.{Growing, table_of}, Invariant.InvWith, Querying.{IsWalk, Querying, must_hold}, Setting.Setting, Stocking.{IsWhole, NoneExpects, cells_at}, Values.ReadingValue, View.View}
use Rattle.core_tree.proofs.Stocks.Spares.{spares-distinct, spares-each, spares-from}

module _ (s : Setting) (v : View) (g : Ghost) (other : OtherLaw) (i : InvWith s v g) (blocks_now : ℕ → Block) (trees_now : ℕ → Gate) (off : (y c : ℕ) → IsWhole v.gates v.phases v.pins c → g.owner y ≡ InTree c → blocks_now y ≡ v.blocks y) (trees_off : (c : ℕ) → IsWhole v.gates v.phases v.pins c → trees_now c ≡ v.trees c) where
  abbrev Whole : ℕ → Type 0
  Whole d = IsWhole v.gates v.phases v.pins d

  pub leaves : (d : ℕ) → Whole d → LeavesTree (g.shape d) (cells_at v.blocks v.trees d) (cells_at blocks_now trees_now d)
  leaves d w = record {
    gate_cell = refl;
    gate = record { root = ap root_entry (trees_off d w); height = ap (λ (z : Gate). z.height) (trees_off d w) };
    block = λ y yi yd. off y d w (i.stocking.tree d y w yi yd).0;
  }

  pub apart : (d : ℕ) → Whole d → AfterOther (table_of s v.row) (g.shape d) (cells_at v.blocks v.trees d) (cells_at blocks_now trees_now d)
  apart d w = other (table_of s v.row) (g.shape d) (cells_at v.blocks v.trees d) (cells_at blocks_now trees_now d) (i.growing.tree d w) (leaves d w)

  node-same : (d y : ℕ) → Whole d → (g.shape d).inside y ≡ true → nodes (cells_at blocks_now trees_now d) y ≡ nodes (cells_at v.blocks v.trees d) y
  node-same d y w inside = on_bool (eqb y d)
      (λ q. rw q (ap gate_node (trees_off d w)))
      (λ q. rw q (ap node_of (off y d w (i.stocking.tree d y w inside (eqb-false y d q)).0)))

  pub growing-off : Growing s v.row blocks_now trees_now v.gates v.phases v.pins g.shape
  growing-off = record { tree = λ d w. (apart d w).tree }

  -- what is a spare stays one, and what no entry expects is still expected by none

  pub spares-off : (d : ℕ) → Whole d → (ss : List Spare) → AreSpares (g.shape d) (nodes (cells_at v.blocks v.trees d)) ss → AreSpares (g.shape d) (nodes (cells_at blocks_now trees_now d)) ss
  spares-off d w ss are =
      spares-from (g.shape d) (nodes (cells_at blocks_now trees_now d)) ss
      (each-map (IsSpare (g.shape d) (nodes (cells_at v.blocks v.trees d))) (IsSpare (g.shape d) (nodes (cells_at blocks_now trees_now d))) ss (apart d w).spares (spares-each (g.shape d) (nodes (cells_at v.blocks v.trees d)) ss are))
      (spares-distinct (g.shape d) (nodes (cells_at v.blocks v.trees d)) ss are)

  pub expects-off : (d stamp : ℕ) → Whole d → NoneExpects (g.shape d) (cells_at v.blocks v.trees d) stamp → NoneExpects (g.shape d) (cells_at blocks_now trees_now d) stamp
  expects-off d stamp w none b l inside level = subst (λ (node : Node). Each (λ (e : Entry). e.stamp ≢ stamp) node.entries) (sym (node-same d b w inside)) (none b l inside level)

  -- Queries.

  walk-off : (of : ℕ) (q : Query) (counted : List ℕ) (r : ReadingValue) (pin : Option ℕ) → ((d : ℕ) → pin ≡ Some d → Whole d)
      → IsWalk s v.history v.row v.blocks v.trees g.shape of q counted r pin → IsWalk s v.history v.row blocks_now trees_now g.shape of q counted r pin
  walk-off of q counted r None pinned k = k
  walk-off of q counted r (Some d) pinned k = (k.0, (apart d (pinned d refl)).queries (must_hold s.hierarchy v.history of q) (fits (table_of s v.row) q.filter) r.items counted k.1)

  pub querying-off : ((a d : ℕ) (p : ReadPart) → v.reads a ≡ Some p → p.reading.pin ≡ Some d → Whole d) → Querying s v.history v.row blocks_now trees_now v.desks v.taken v.reads g.shape g.placed g.home g.counted
  querying-off pinned =
      let k = i.querying in record {
        counts = k.counts;
        ends = k.ends;
        whole = k.whole;
        reading = λ a of q p is op asks. let o = k.reading a of q p is op asks in record {
          wanted = o.wanted;
          total = o.total;
          walk = walk-off of q (g.counted p.server p.shard) p.reading p.reading.pin (λ d pin. pinned a d p is pin) o.walk;
          holds = o.holds;
        };
        unread = k.unread;
      }
