use Rattle.std.proofs.Common.{List, ◌∙◌, ◌++◌, ap}
use Rattle.cell_stock.specs.declared.purse.Spare.{Spare}
use Rattle.core_tree.specs.volap_cell.specs.{AdminKinds.spent_by, declared.job.Unbuilt.Unbuilt}
use Rattle.core_admin.specs.BuildDue.{blocks_of}
use Rattle.core_admin.proofs.Collecting.RowLists.{map-turned}
use Rattle.core_admin.proofs.trees.all_placed.Goals as goal

pub returns-clause-unbuilt : goal.returns-clause-unbuilt
returns-clause-unbuilt c = ap blocks_of (c.from_vec.ensures ∙ c.reverse.ensures.items) ∙ map-turned (λ (u : Unbuilt). record { cell = u.cell; block = u.block.value }) c.args.room.unbuilt.items

pub returns-clause-spent : goal.returns-clause-spent
returns-clause-spent c =
    c.spend.ensures ∙ ap (λ (xs : List Spare). xs ++ spent_by (blocks_of c.as_slice.result.now)) c.requires.none
    ∙ ap (λ (us : List Unbuilt). spent_by (blocks_of us)) (c.as_slice.ensures.value ∙ c.reverse.ensures.items)
    ∙ ap spent_by (map-turned (λ (u : Unbuilt). record { cell = u.cell; block = u.block.value }) c.args.room.unbuilt.items)
