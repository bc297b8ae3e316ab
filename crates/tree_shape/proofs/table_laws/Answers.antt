use Rattle.tree_shape.proofs.Whole.Tables.{tree-alike, query-alike}
use Rattle.tree_shape.proofs.table_laws.Goals as goal

pub returns : goal.returns
returns _ = record {
  tree = λ table other cells g alike tree. tree-alike table other g alike cells tree;
  query = query-alike;
}
