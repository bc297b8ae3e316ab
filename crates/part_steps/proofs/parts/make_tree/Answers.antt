use Rattle.std.proofs.Common.{◌∙◌, arith, sym, subst}
use Rattle.seat_steps.specs.core_steps.specs.Trees.{tree_may_fail}
use Rattle.part_steps.specs.Parts.{CanEndPart}
use Rattle.part_steps.proofs.{Keeping.tree-kept, PartsMade.{may-fail, tree-asked, tree-few, went-behind, went-tree}}
use Rattle.part_steps.proofs.parts.make_tree.Goals as goal
use Rattle.seat_steps.specs.volap_turns.proofs.Turned.{when-err, when-ok}

pub make-requires-clause-some : goal.make-requires-clause-some
make-requires-clause-some g c = omega (arith, c.requires.at.count, (tree-few c.args.step).0)

pub make-requires-clause-few : goal.make-requires-clause-few
make-requires-clause-few g c = omega (arith, c.requires.at.count, (tree-few c.args.step).1)

pub make-requires-clause-asked : goal.make-requires-clause-asked
make-requires-clause-asked g c = tree-asked c.args.floor.now c.args.player.now c.requires.seated c.args.step c.requires.ready c.requires.at

pub make-requires-clause-kept : goal.make-requires-clause-kept
make-requires-clause-kept g c = tree-kept c.args.floor.now.hierarchy c.args.player.now c.args.step

pub returns-then-is_ok : goal.returns-then-is_ok
returns-then-is_ok g c =
    let made = when-ok c.make.result c.make.ensures.made (sym c.is_ok.ensures.value ∙ c.if-is_ok.true) in
    record { went = went-tree c.args.floor.now c.args.player.now c.requires.seated c.args.step c.make.new.player c.requires.row c.make.ensures.stands c.make.ensures.lists made }

pub end_part-requires-clause-ends : goal.end_part-requires-clause-ends
end_part-requires-clause-ends g c =
    let err = sym c.is_ok.ensures.value ∙ c.if-is_ok.false in
    subst CanEndPart (sym (when-err c.make.result c.make.ensures.same_actor err)) (c.requires.ends (may-fail (tree_may_fail c.args.step) c.make.result c.make.ensures.sure err))

pub returns : goal.returns
returns g c =
    let err = sym c.is_ok.ensures.value ∙ c.if-is_ok.false in
    record {
      went = went-behind c.args.floor.now c.args.player.now c.make.new.player c.end_part.new.player (when-err c.make.result c.make.ensures.same err) (when-err c.make.result c.make.ensures.same_actor err) (when-err c.make.result c.make.ensures.uncounted err) c.make.ensures.lists c.end_part.ensures.went;
    }
