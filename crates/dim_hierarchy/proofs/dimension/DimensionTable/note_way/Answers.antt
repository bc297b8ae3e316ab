use Rattle.std.proofs.{Common.{arith, ◌≡◌, ◌<◌}, lemmas.Result.on_ok_weaker}
use Rattle.dim_hierarchy.specs.Concept.{level_of}
use Rattle.dim_hierarchy.proofs.FewMarking.{NotesAbove-none, NotesAbove-more, NotesWay-listed}
use Rattle.dim_hierarchy.proofs.dimension.DimensionTable.note_way.Goals as goal

pub loop-level-init : goal.loop-level-init
loop-level-init c = NotesAbove-none c.args.self.now.tree c.args.id c.args.marks.now

pub loop-level-preserved : goal.loop-level-preserved
loop-level-preserved c =
    let lt : c.loop-level.level < level_of c.args.id = omega (arith, c.loop-level-test.true, c.level-level-end.ensures.value) in
    NotesAbove-more c.args.self.now.tree c.requires.tree c.args.id c.loop-level.level c.up.result c.args.marks.now c.loop-level.marks c.note_above.new.marks c.requires.concept lt c.up.ensures c.loop-level.invariant c.in_ok-note_above.ensures

pub returns : goal.returns
returns c =
    let e : c.loop-level.level ≡ level_of c.args.id = omega (arith, c.loop-level-test.false, c.loop-level.auto.level-end, c.level-level-end.ensures.value) in
    on_ok_weaker c.note_listed.result
    (NotesWay-listed c.args.self.now.tree c.requires.tree c.args.id c.loop-level.level c.args.marks.now c.loop-level.marks c.note_listed.new.marks c.requires.concept e c.loop-level.invariant)
    c.note_listed.ensures
