use Rattle.std.proofs.Common.{refl}
use Rattle.dim_hierarchy.specs.{Concept.level_of, Dimension.tree}
use Rattle.dim_hierarchy.proofs.Ancestors.{up-self, up-up, IsUnder-self, IsUnder-trans}
use Rattle.dim_hierarchy.proofs.hierarchy.Hierarchy.ancestor_laws.Goals as goal

pub returns : goal.returns
returns c =
    let t = tree c.args.self.now c.args.dim in
    record {
      own_level = λ id. up-self t id (level_of id) refl;
      up_twice = up-up t (c.dims.ensures.valid.each c.args.dim c.requires).tree;
      under_itself = IsUnder-self t;
      under_under = IsUnder-trans t;
    }
