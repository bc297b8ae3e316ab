use Rattle.std.proofs.Common.{◌≡◌, ◌≢◌, ◌<◌, ◌≤◌, length, get_or, arith, rules}
use Rattle.dim_hierarchy.specs.Concept.{level_of}
use Rattle.dim_hierarchy.proofs.Marking.{At-up, at_within, Notes-higher, Notes-here, Notes-first, Notes-again}
use Rattle.dim_hierarchy.proofs.dimension.DimensionTable.note.Goals as goal

pub returns-then-level : goal.returns-then-level
returns-then-level c =
    Notes-higher c.args.self.now.tree c.requires.tree c.args.level c.args.id c.args.marks.now c.requires.concept (omega (arith, c.level.ensures.value, c.if-level.true))

pub bounds-marks-number : goal.bounds-marks-number
bounds-marks-number c =
    let t = c.args.self.now.tree in
    let deep : c.args.level ≤ level_of c.args.id = omega (arith, c.level.ensures.value, c.if-level.false) in
    let a = At-up t c.requires.tree c.args.level c.args.id c.up.result c.number-number.result c.requires.concept deep c.up.ensures c.number-number.ensures.value in
    omega (arith, at_within t c.args.level c.args.id c.number-number.result a, c.requires.count)

pub bounds-marks-number-else-level-2 : goal.bounds-marks-number-else-level-2
bounds-marks-number-else-level-2 c =
    let t = c.args.self.now.tree in
    let deep : c.args.level ≤ level_of c.args.id = omega (arith, c.level.ensures.value, c.if-level.false) in
    let a = At-up t c.requires.tree c.args.level c.args.id c.up.result c.number-number.result c.requires.concept deep c.up.ensures c.number-number.ensures.value in
    omega (arith, at_within t c.args.level c.args.id c.number-number.result a, c.requires.count)

pub bounds-marks-number-then-marks-number-eq-APART : goal.bounds-marks-number-then-marks-number-eq-APART
bounds-marks-number-then-marks-number-eq-APART c =
    let t = c.args.self.now.tree in
    let deep : c.args.level ≤ level_of c.args.id = omega (arith, c.level.ensures.value, c.if-level.false) in
    let a = At-up t c.requires.tree c.args.level c.args.id c.up.result c.number-number.result c.requires.concept deep c.up.ensures c.number-number.ensures.value in
    omega (arith, at_within t c.args.level c.args.id c.number-number.result a, c.requires.count)

pub returns-then-level-2 : goal.returns-then-level-2
returns-then-level-2 c =
    let t = c.args.self.now.tree in
    let deep : c.args.level ≤ level_of c.args.id = omega (arith, c.level.ensures.value, c.if-level.false) in
    let a = At-up t c.requires.tree c.args.level c.args.id c.up.result c.number-number.result c.requires.concept deep c.up.ensures c.number-number.ensures.value in
    Notes-here t c.args.level c.args.id c.number-number.result c.args.marks.now a (omega (arith, c.level-2.ensures.value, c.if-level-2.true))
    (omega (arith, at_within t c.args.level c.args.id c.number-number.result a, c.requires.count))

pub returns-then-marks-number-eq-APART : goal.returns-then-marks-number-eq-APART
returns-then-marks-number-eq-APART c =
    let t = c.args.self.now.tree in
    let deep : c.args.level ≤ level_of c.args.id = omega (arith, c.level.ensures.value, c.if-level.false) in
    let a = At-up t c.requires.tree c.args.level c.args.id c.up.result c.number-number.result c.requires.concept deep c.up.ensures c.number-number.ensures.value in
    let lt : c.number-number.result < length c.args.marks.now = omega (arith, at_within t c.args.level c.args.id c.number-number.result a, c.requires.count) in
    let z : get_or c.args.marks.now c.number-number.result 0 ≡ 0 = search rules in
    Notes-first t c.args.level c.args.id c.number-number.result c.args.marks.now a (omega (arith, deep, c.level-2.ensures.value, c.if-level-2.false)) lt z

pub returns-else-marks-number-eq-APART : goal.returns-else-marks-number-eq-APART
returns-else-marks-number-eq-APART c =
    let t = c.args.self.now.tree in
    let deep : c.args.level ≤ level_of c.args.id = omega (arith, c.level.ensures.value, c.if-level.false) in
    let a = At-up t c.requires.tree c.args.level c.args.id c.up.result c.number-number.result c.requires.concept deep c.up.ensures c.number-number.ensures.value in
    let lt : c.number-number.result < length c.args.marks.now = omega (arith, at_within t c.args.level c.args.id c.number-number.result a, c.requires.count) in
    let nz : get_or c.args.marks.now c.number-number.result 0 ≢ 0 = search rules in
    Notes-again t c.args.level c.args.id c.number-number.result c.args.marks.now a (omega (arith, deep, c.level-2.ensures.value, c.if-level-2.false)) nz
