use Rattle.std.proofs.{Common.{[], ◌∷◌, take, subst, arith}, lemmas.List.take_more}
use Rattle.tree_shape.specs.link_descent.specs.declared.entered.Fresh.{Fresh}
use Rattle.shard_build.specs.Building.{IsEntryTo}
use Rattle.shard_build.proofs.Lists.{zip-append}
use Rattle.shard_build.proofs.site.entered.Goals as goal

pub loop-child-preserved : goal.loop-child-preserved
loop-child-preserved c =
    let xs = c.args.children.now in
    let i = c.loop-child.child-index in
    let x = c.child-item.result in
    let e = c.entry_of.result in
    let h = c.args.h.now in (
      rw (take_more xs i x c.loop-child-test.true, c.push.ensures.items)
          (zip-append (IsEntryTo h) (take i xs) (_ ∷ []) c.loop-child.entries.items (e ∷ []) c.loop-child.invariant.0
          (subst (λ (f : Fresh). IsEntryTo h f e) c.child-item.is c.entry_of.ensures, tt)),
      omega (arith, c.push.ensures.len, c.loop-child.invariant.1),
    )
