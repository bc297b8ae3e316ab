use Rattle.std.proofs.{Common.{◌≡◌, ℕ, ◌+◌, ◌-◌, ◌++◌, List, [], map, length, drop, sym, ap, ◌∙◌, subst, arith, length-append}, lemmas.List.{take_all, take_rest}, lemmas.List.Sorted.All-permutation}
use Rattle.dim_hierarchy.specs.{Rows.IsRowOf, declared.row.Row.Row}
use Rattle.tree_shape.specs.link_descent.specs.declared.entered.Fresh.{Fresh}
use Rattle.shard_plan.specs.Building.{leaf_rows, leaves_for, cells_for, levels_for, levels_of}
use Rattle.tree_shape.specs.Forest.{all_rows}
use Rattle.std.specs.{List.Sorted.IsSortedBy, Prelude.{Contains, IsPermutation}}
use Rattle.shard_build.specs.{Building.{AreAlone, AreLeavesFirst, AreLeavesOf, AreLed, AreParentsOf, AreSmall, IsGrown, SiteValue, UsesUp, comes_before, spare_of, spare_to}, Built.{AreLevels, root_of}, Sizes.{built_sizes, put_by, sizes_of}}
use Rattle.shard_build.proofs.{Counts.{leaves-few, cells-first, cells-next, cells-all, many, parents-count}, Finished.built-tree, Grown.{leaves-grown, level-grown}, LeavesFirst.{kinds-first, kinds-next}, Led.{taken-first, taken-from}, Levels.{levels-first, levels-next, levels-all}, Lists.one-left, Sizes.{sizes-first, sizes-next, sizes-all}, Steps.uses-both}
use Rattle.shard_build.proofs.builder.build.Goals as goal

pub loop-init : goal.loop-init
loop-init c =
    let xs = c.as_slice.result.now in
    let ordered = c.in_order-rows.result.items in
    let blocks = c.add_leaves.new.site.blocks in
    let n : c.len-n.result ≡ length xs = omega (arith, c.len-n.ensures, c.as_slice.ensures.len) in
    let count : length blocks ≡ leaves_for c.len-n.result = c.add_leaves.ensures.count ∙ ap leaves_for (sym n) in
    let first = cells-first c.level_laws.ensures.root c.level_laws.ensures.parents (length blocks) c.len-n.result count in
    let leaves : AreLeavesOf ordered blocks = subst (λ (rows : List Row). AreLeavesOf rows blocks) (take_all (length xs) xs (omega arith) ∙ c.as_slice.ensures.value) c.add_leaves.ensures.leaves.leaves in
    let few = leaves-few c.level_laws.ensures.root c.level_laws.ensures.parents c.len-n.result in
    let boxes = ap (λ (s : SiteValue). s.directories) c.in_ok-site.ensures in
    record {
      grown = leaves-grown c.args.h.now ordered blocks c.build_laws.ensures.leaves
          (All-permutation (IsRowOf c.args.h.now) c.args.rows.items ordered c.in_order-rows.ensures.permutation c.requires.rows) (omega (arith, count)) leaves;
      cells = first.0;
      levels = first.1;
      kinds = kinds-first (leaves_for c.len-n.result) blocks count leaves.kind;
      sizes = sizes-first c.level_laws.ensures.root c.level_laws.ensures.parents blocks c.len-n.result count
          (c.add_leaves.ensures.leaves.sizes ∙ ap (put_by leaf_rows (length blocks)) (sym n));
      parents = levels-first c.level_laws.ensures.root c.level_laws.ensures.parents c.args.h.now blocks c.len-n.result count;
      boxes = omega (arith, count, few, boxes, c.add_leaves.ensures.directories, c.cells_for.ensures, c.leaves_for.ensures);
      uses = c.add_leaves.ensures.leaves.uses;
    }

pub loop-preserved : goal.loop-preserved
loop-preserved c =
    let h = c.args.h.now in
    let ordered = c.in_order-rows.result.items in
    let blocks = c.loop.site.blocks in
    let g = c.loop.invariant.grown in
    let w = c.add_level.ensures in
    let are : AreParentsOf h (drop c.loop.from blocks) w.parents = subst (λ (fs : List Fresh). AreParentsOf h fs w.parents) (take_rest blocks c.loop.from) w.are in
    let height = c.levels_for-height.ensures in
    let now : length c.add_level.new.site.blocks ≡ length blocks + length w.parents = ap length w.added ∙ length-append blocks w.parents in
    let next = cells-next c.level_laws.ensures.root c.level_laws.ensures.parents (length blocks) c.loop.from (length w.parents) c.loop.counter c.len-n.result (length c.add_level.new.site.blocks)
    g.within w.place w.last c.loop.invariant.cells c.loop.invariant.levels (omega (arith, c.loop-test.true, height)) now in
    let level = length blocks - c.loop.from in
    let more = many c.level_laws.ensures.root c.level_laws.ensures.parents level c.loop.counter c.len-n.result c.loop.invariant.levels (omega (arith, c.loop-test.true, height)) in
    let made = parents-count c.level_laws.ensures.root c.level_laws.ensures.parents (length blocks) c.loop.from (length w.parents) g.within w.place w.last in
    let grown = level-grown h ordered blocks w.parents c.loop.from (c.loop.counter - 1) c.build_laws.ensures.directories g are
    (omega (arith, g.within, w.place)) (omega (arith, c.in_order-rows.ensures.len, c.requires.few)) in
    let up : c.loop.counter - 1 + 1 ≡ c.loop.counter + 1 - 1 = omega (arith, c.loop.auto.counter) in
    rw c.blocks-to.ensures (record {
      grown = subst (λ (fs : List Fresh). IsGrown h ordered fs (length blocks) (c.loop.counter + 1 - 1)) (sym w.added)
          (subst (IsGrown h ordered (blocks ++ w.parents) (length blocks)) up grown);
      cells = next.0;
      levels = next.1;
      kinds = subst (AreLeavesFirst (leaves_for c.len-n.result)) (sym w.added) (kinds-next (leaves_for c.len-n.result) blocks w.parents c.loop.invariant.kinds are.kind);
      sizes = sizes-next c.level_laws.ensures.root c.level_laws.ensures.parents blocks w.parents c.add_level.new.site.blocks level c.len-n.result more made w.sizes
          c.loop.invariant.sizes w.added;
      parents = levels-next c.level_laws.ensures.root c.level_laws.ensures.parents h blocks w.parents c.add_level.new.site.blocks c.loop.from c.len-n.result more made are.entries
          c.loop.invariant.parents w.added;
      boxes = omega (arith, now, w.directories, c.loop.invariant.boxes);
      uses = subst (λ (fs : List Fresh). UsesUp fs c.args.purse.now c.add_level.new.purse) (sym w.added)
          (uses-both blocks w.parents c.args.purse.now c.loop.purse c.add_level.new.purse c.loop.invariant.uses w.uses);
    })

pub returns-clause-ok : goal.returns-clause-ok
returns-clause-ok c =
    let h = c.args.h.now in
    let rows = c.args.rows.items in
    let ordered = c.in_order-rows.result.items in
    let blocks = c.loop.site.blocks in
    let g = c.loop.invariant.grown in
    let b = c.finished.result in
    let height = c.levels_for-height.ensures in
    let all = cells-all c.level_laws.ensures.root c.level_laws.ensures.parents (length blocks) c.loop.from c.loop.counter c.len-n.result
    g.within c.loop.invariant.cells c.loop.invariant.levels (omega (arith, c.loop-test.false, height)) in
    let one = one-left c.loop.from blocks all.1 in
    let n : c.len-n.result ≡ length rows = omega (arith, c.len-n.ensures, c.as_slice.ensures.len, ap length c.as_slice.ensures.value, c.in_order-rows.ensures.len) in
    record {
      count = ap length c.finished.ensures.blocks ∙ all.0 ∙ ap cells_for n;
      height = c.finished.ensures.height ∙ height ∙ ap levels_for n;
      kinds = subst (λ (k : ℕ). AreLeavesFirst (leaves_for k) b.blocks.items) n (subst (AreLeavesFirst (leaves_for c.len-n.result)) (sym c.finished.ensures.blocks) c.loop.invariant.kinds);
      sizes = ap sizes_of c.finished.ensures.blocks
          ∙ sizes-all c.level_laws.ensures.root c.level_laws.ensures.parents blocks (length blocks - c.loop.from) c.len-n.result (omega (arith, all.1)) c.loop.invariant.sizes
          ∙ ap built_sizes n;
      levels = subst (λ (k : ℕ). AreLevels h (levels_of k) b.blocks.items) n (subst (AreLevels h (levels_of c.len-n.result)) (sym c.finished.ensures.blocks)
          (levels-all c.level_laws.ensures.root c.level_laws.ensures.parents h blocks c.loop.from c.len-n.result (omega (arith, all.1)) c.loop.invariant.parents));
      uses = subst (λ (fs : List Fresh). UsesUp fs c.args.purse.now c.loop.purse) (sym c.finished.ensures.blocks) c.loop.invariant.uses;
      permutation = subst (λ (fs : List Fresh). IsPermutation rows (all_rows fs)) (sym c.finished.ensures.blocks) (subst (IsPermutation rows) (sym g.rows_are) c.in_order-rows.ensures.permutation);
      ordered = subst (λ (fs : List Fresh). IsSortedBy comes_before (all_rows fs)) (sym c.finished.ensures.blocks) (subst (IsSortedBy comes_before) (sym g.rows_are) c.in_order-rows.ensures.sorted);
      small = subst AreSmall (sym c.finished.ensures.blocks) g.small;
      alone = subst AreAlone (sym c.finished.ensures.blocks) g.alone;
      led = subst AreLed (sym c.finished.ensures.blocks) g.led;
      root = subst (λ (fs : List Fresh). Contains (map spare_of fs) (spare_to (root_of b))) (sym c.finished.ensures.blocks) (taken-from c.loop.from blocks (spare_to (root_of b))
          (subst (λ (fs : List Fresh). Contains (map spare_of fs) (spare_to (root_of b))) (sym one.1) (taken-first h one.0 [] (root_of b) (c.finished.ensures.root one.0 one.1))));
      tree = built-tree h rows ordered blocks c.loop.from (c.loop.counter - 1) one.0 b c.build_laws.ensures.tree c.in_order-rows.ensures.permutation g one.1
          (c.finished.ensures.root one.0 one.1) c.finished.ensures.blocks (omega (arith, c.finished.ensures.height, height, all.2, c.loop.auto.counter));
    }
