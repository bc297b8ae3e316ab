use Rattle.dim_hierarchy.specs.Dimension.{tree}
use Rattle.dim_hierarchy.proofs.Matching.{matches-Matches, IsPicked-nested}
use Rattle.dim_hierarchy.proofs.hierarchy.Hierarchy.filter_laws.Goals as goal

pub returns : goal.returns
returns c = record {
  meaning = matches-Matches c.args.self.now;
  nested = λ dim id ids more. IsPicked-nested (tree c.args.self.now dim) id ids more;
}
