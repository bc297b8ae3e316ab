use Rattle.tree_shape.proofs.{Building.Gates.tree-law, Building.Leaves.leaves-law, Building.Levels.directories-law}
use Rattle.tree_shape.proofs.build_laws.Goals as goal

pub returns : goal.returns
returns c = record { leaves = leaves-law; directories = directories-law; tree = tree-law }
