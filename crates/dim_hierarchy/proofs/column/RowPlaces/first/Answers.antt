use Rattle.dim_hierarchy.proofs.Sifting.{are_first, first_places}
use Rattle.dim_hierarchy.proofs.column.RowPlaces.first.Goals as goal

pub invariant_of-result : goal.invariant_of-result
invariant_of-result c = are_first c.args.count c.requires

pub returns : goal.returns
returns c = first_places c.args.count c.requires
