use Rattle.std.proofs.Common.{◌-◌, ap, sym, ◌∙◌, subst, length, take, drop, arith}
use Rattle.std.specs.Prelude.{All}
use Rattle.shard_build.specs.Building.{IsCountable}
use Rattle.shard_build.proofs.{Lists.{all-part, part-before}, Steps.adds-directory}
use Rattle.shard_build.proofs.builder.add_level.Goals as goal

pub add_directory-requires-clause-countable : goal.add_directory-requires-clause-countable
add_directory-requires-clause-countable c =
    let w = c.loop-at.invariant in
    let xs = c.args.site.now.blocks in
    let at = c.loop-at.at in
    let end = c.min-end.result in
    let to = ap length c.blocks-to.ensures in
    let p = w.place in
    let same = ap (λ zs. take (end - at) (drop at zs)) w.added ∙ part-before at end xs w.parents (omega (arith, c.min-end.ensures, c.loop-at-test.true)) (omega (arith, c.min-end.ensures)) in
    subst (All (IsCountable c.args.h.now)) (sym same) (all-part (IsCountable c.args.h.now) c.args.from at end xs (omega (arith, c.requires.within, p)) c.requires.countable)

pub loop-at-preserved : goal.loop-at-preserved
loop-at-preserved c =
    let to = ap length c.blocks-to.ensures in
    adds-directory c.args.h.now c.args.from c.loop-at.at c.min-end.result c.args.site.now c.loop-at.site c.add_directory.new.self c.next.result c.args.purse.now c.loop-at.purse c.next.new.self
    c.requires.within (omega (arith, c.loop-at-test.true)) c.loop-at.invariant (omega (arith, c.min-end.ensures)) c.add_directory.ensures.added c.add_directory.ensures.directories
    c.next.ensures.taken c.next.ensures.room
