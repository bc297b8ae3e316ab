use Rattle.std.proofs.Common.{◌∙◌, ap, sym, [], get_or}
use Rattle.std.specs.Prelude.{None}
use Rattle.dim_hierarchy.specs.{Dimension.no_dimension, Row.leaf_named}
use Rattle.dim_hierarchy.proofs.Named.{get_or-paired}
use Rattle.dim_hierarchy.proofs.hierarchy.Hierarchy.leaf.Goals as goal

pub returns : goal.returns
returns c =
    let name = c.get-name.ensures ∙ ap (λ k. get_or c.args.names.now k []) c.from.ensures in
    c.find_leaf.ensures
    ∙ ap (leaf_named c.table.result.now) name
    ∙ ap (λ d. leaf_named d (get_or c.args.names.now c.args.dim [])) c.table.ensures.value
    ∙ sym (get_or-paired leaf_named c.args.self.now c.args.names.now c.args.dim no_dimension [] None c.requires.count c.requires.dim)
