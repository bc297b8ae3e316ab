use Rattle.std.proofs.{Common.{◌+◌, ◌-◌, length, take, drop, ap, ◌∙◌, arith}, lemmas.List.length_push}
use Rattle.shard_build.specs.Building.{leaf_in}
use Rattle.shard_build.proofs.Steps.{adds-leaf}
use Rattle.shard_build.proofs.builder.add_leaves.Goals as goal

pub loop-preserved : goal.loop-preserved
loop-preserved c =
    let w = c.loop.invariant in
    record {
      adds = adds-leaf c.args.rows.now c.loop.at c.min-end.result c.loop.site.blocks c.add_leaf.new.self.blocks c.next.result c.args.purse.now c.loop.purse c.next.new.self
          w.adds c.min-end.ensures c.add_leaf.ensures.blocks c.next.ensures.taken c.next.ensures.room;
      count = ap length c.add_leaf.ensures.blocks ∙ length_push c.loop.site.blocks (leaf_in c.next.result (take (c.min-end.result - c.loop.at) (drop c.loop.at c.args.rows.now))) ∙ ap (λ k. k + 1) w.count;
      boxes = omega (arith, c.add_leaf.ensures.leaves, w.boxes);
      directories = omega (arith, c.add_leaf.ensures.directories, w.directories);
    }
