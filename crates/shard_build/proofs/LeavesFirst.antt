-- The leaves come first
use Rattle.std.proofs.{Common.{◌≡◌, ℕ, true, false, List, ◌++◌, length, drop, sym, subst, arith, length-append}, lemmas.List.{drop_all, drop-append-le, take-append-le}, lemmas.List.Elements.{All-append, All-nil, All-take}}
use Rattle.std.specs.Prelude.{All}
use Rattle.dc_node.specs.Block.{is_leaf}
use Rattle.tree_shape.specs.link_descent.specs.declared.entered.Fresh.{Fresh}
use Rattle.shard_build.specs.Building.{AreLeavesFirst}

abbrev leaf : Fresh → Type 0
leaf f = is_leaf f.block.body ≡ true

abbrev directory : Fresh → Type 0
directory f = is_leaf f.block.body ≡ false

pub kinds-first : (n : ℕ) (blocks : List Fresh) → length blocks ≡ n → All leaf blocks → AreLeavesFirst n blocks
kinds-first n blocks is leaves = record {
  within = omega arith;
  leaves = All-take leaf n blocks leaves;
  directories = subst (All directory) (sym (drop_all n blocks (omega arith))) (All-nil directory);
}

pub kinds-next : (n : ℕ) (blocks made : List Fresh) → AreLeavesFirst n blocks → All directory made → AreLeavesFirst n (blocks ++ made)
kinds-next n blocks made w directories = record {
  within = (let le = w.within in omega (arith, length-append blocks made));
  leaves = subst (All leaf) (sym (take-append-le n blocks made w.within)) w.leaves;
  directories = subst (All directory) (sym (drop-append-le n blocks made w.within)) (All-append directory (drop n blocks) made w.directories directories);
}
