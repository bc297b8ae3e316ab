use Rattle.std.proofs.Common.{◌≡◌, length, rules}
use Rattle.dim_hierarchy.specs.Tree.{parents_at}
use Rattle.dim_hierarchy.proofs.Marking.{AreLevelMarks-listed, all_written}
use Rattle.dim_hierarchy.proofs.dimension.DimensionTable.level_marks.Goals as goal

pub returns : goal.returns
returns c =
    let t = c.args.self.now.tree in
    let written : length c.inherit.new.marks ≡ c.in_ok-all.all.len = search rules in
    let count : length c.inherit.new.marks ≡ length (parents_at t c.args.level) = search rules in
    rw (all_written c.in_ok-all.all.len c.inherit.new.marks _ written)
    (AreLevelMarks-listed t c.requires.tree c.args.level c.args.ids.now c.note_all.new.marks c.inherit.new.marks c.args.upper.now count c.requires.upper c.note_all.ensures c.inherit.ensures.top c.inherit.ensures.below)
