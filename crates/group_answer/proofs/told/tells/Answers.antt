use Rattle.std.proofs.Common.{ℕ, ◌≡◌, ◌<◌, length, sym, ap, ◌∙◌, subst, arith}
use Rattle.dim_hierarchy.specs.{Meaning.Matches, declared.row.Coord.Coord}
use Rattle.describing_set.specs.{DescSet.part_at, Sets.Covers, declared.part.Part.Part}
use Rattle.group_answer.specs.Groups.{Question}
use Rattle.group_answer.proofs.Telling.{all-under, none-apart, none-empty}
use Rattle.group_answer.proofs.told.tells.Goals as goal

pub returns-then-is_empty-clause-rows : goal.returns-then-is_empty-clause-rows
returns-then-is_empty-clause-rows c =
    let q = c.args.asked.now in
    let none : length (part_at c.args.set.now q.dim).ids.items ≡ 0 =
    ap (λ (d : ℕ). length (part_at c.args.set.now d).ids.items) (sym (ap (λ (x : Question). x.dim) c.asked.view_is))
    ∙ ap (λ (p : Part). length p.ids.items) (sym c.part_of-part.ensures) ∙ c.is_empty.ensures.0 c.if-is_empty.true in
    λ rows are set_of. none-empty q c.requires.question c.args.set.now c.requires.set rows are set_of none

pub returns-in-Some-clause-rows : goal.returns-in-Some-clause-rows
returns-in-Some-clause-rows c = λ rows are set_of. all-under c.args.asked.now c.requires.question c.args.set.now c.requires.set rows are set_of c.in-Some.id c.in-Some.ensures.some

pub returns-else-overlaps-clause-rows : goal.returns-else-overlaps-clause-rows
returns-else-overlaps-clause-rows c =
    let q = c.args.asked.now in
    let some : 0 < length q.hierarchy = omega (arith, c.requires.question.dim) in
    let apart = subst (λ (x : Question). 0 < length x.hierarchy → (at : Coord) → Covers x.hierarchy c.args.set.now at → ¬ Matches x.hierarchy x.filter at) c.asked.view_is c.if-overlaps.ensures.none_match some in
    λ rows are set_of. none-apart q c.requires.question c.args.set.now c.requires.set rows are set_of apart
