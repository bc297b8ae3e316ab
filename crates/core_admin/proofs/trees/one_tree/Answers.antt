use Rattle.std.proofs.Common.{List, ◌∙◌, ◌++◌, ap, refl}
use Rattle.std.specs.Prelude.{reverse}
use Rattle.core_tree.specs.volap_cell.specs.{Values.collecting_of, declared.job.Unbuilt.Unbuilt}
use Rattle.core_admin.specs.BuildDue.{blocks_of}
use Rattle.core_admin.proofs.Building.MadeTrees.{one-made}
use Rattle.core_admin.proofs.trees.one_tree.Goals as goal

pub returns-clause-made : goal.returns-clause-made
returns-clause-made c =
    one-made c.args.h.now (collecting_of c.args.collecting.now) c.args.purse.now c.build.new.purse c.in_ok-tree.tree _ c.in_ok-rows.rows.items (blocks_of c.place.new.room.unbuilt.items) c.requires.none
    (c.in_ok-rows.ensures ∙ c.as_slice-2.ensures) c.in_ok-tree.ensures.ok c.way_to-left.ensures refl
    (c.place.ensures.unbuilt ∙ ap (λ (us : List Unbuilt). blocks_of us ++ reverse c.in_ok-tree.tree.blocks.items) c.in_ok-room.ensures.1)
    (record {
      frozen_is = c.copy_of.ensures;
      read_is = c.from_vec.ensures ∙ c.in_ok-read.ensures ∙ c.as_slice.ensures;
      unbuilt = c.all_placed-unbuilt.ensures.unbuilt;
      spent = c.all_placed-unbuilt.ensures.spent;
    })
