use Rattle.std.proofs.Common.{◌≡◌, ◌∙◌, false, option_map, refl, sym, arith}
use Rattle.dc_node.specs.Block.{is_full}
use Rattle.volap_cell.specs.link_descent.specs.Pass.{passed}
use Rattle.volap_cell.specs.Cells.{cell_of}
use Rattle.core_tree.specs.Descent.{blocks_if}
use Rattle.core_tree.proofs.enters.come_in.Goals as goal

pub returns-then-not-is_full : goal.returns-then-not-is_full
returns-then-not-is_full c =
    let room : is_full c.args.root.now.body ≡ false = sym c.is_full.ensures ∙ c.if-not-is_full.true in
    record {
      entered = c.pass_root.new.gate;
      went = record {
        entered = passed c.args.gate.now.root;
        step = c.pass_root.ensures.step (blocks_if (option_map cell_of c.args.first.now) (option_map cell_of c.args.second.now)) c.args.root.now c.args.purse.now room;
        filled = refl;
        boxes_left = omega arith;
        at_is = refl;
      };
      counted = refl;
    }
