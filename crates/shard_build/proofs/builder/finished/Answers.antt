use Rattle.std.proofs.Common.{get_or, ◌≡◌, List, subst}
use Rattle.tree_shape.specs.link_descent.specs.declared.entered.Fresh.{Fresh}
use Rattle.shard_build.specs.Building.{IsCountable}
use Rattle.shard_build.proofs.Lists.{all-at}
use Rattle.shard_build.proofs.builder.finished.Goals as goal

pub entry_of-entry-requires-clause-body : goal.entry_of-entry-requires-clause-body
entry_of-entry-requires-clause-body c =
    let x = c.index-root.result.now in
    let is : x ≡ get_or c.args.site.blocks c.args.place x = subst (λ (xs : List Fresh). x ≡ get_or xs c.args.place x) c.into_blocks-blocks.ensures c.index-root.ensures in
    (all-at (IsCountable c.args.h.now) c.args.place x c.args.site.blocks c.requires.within is c.requires.countable).body

pub entry_of-entry-requires-clause-few : goal.entry_of-entry-requires-clause-few
entry_of-entry-requires-clause-few c =
    let x = c.index-root.result.now in
    let is : x ≡ get_or c.args.site.blocks c.args.place x = subst (λ (xs : List Fresh). x ≡ get_or xs c.args.place x) c.into_blocks-blocks.ensures c.index-root.ensures in
    (all-at (IsCountable c.args.h.now) c.args.place x c.args.site.blocks c.requires.within is c.requires.countable).few
