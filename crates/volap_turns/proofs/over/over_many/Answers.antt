use Rattle.std.proofs.Common.{◌∙◌, ℕ, List, Option, ap}
use Rattle.core_steps.specs.Places.{held, things}
use Rattle.volap_turns.specs.Rows.{row_in}
use Rattle.volap_turns.proofs.Ordered.{are-ordered, as-held, each-at, made-as, now-at, over-as}
use Rattle.volap_turns.proofs.over.over_many.Goals as goal

pub arranged-cells-requires-clause-numbers : goal.arranged-cells-requires-clause-numbers
arranged-cells-requires-clause-numbers g c =
    let places = c.row_at-row.ensures ∙ c.places.ensures in
    let s = c.spread-first in
    let r = c.run-made in
    let now = held r.new.first r.new.second r.new.others in
    let over = over-as (row_in c.row_at-row.result) _ c.numbered-order.result.1 c.args.cells (held s.result.0 s.result.1 s.result.2) places c.numbered-order.ensures.same (record { fill = s.ensures.fill; is = s.ensures.cells; same = s.ensures.same }) in
    are-ordered over c.requires.at c.requires.own now r.ensures.fill c.gathered.result (c.gathered.ensures ∙ ap (λ (l : List (Option ℕ)). things l now) places) c.as_slice.result.now (c.as_slice.ensures.value ∙ c.numbered-order.ensures.numbers)

pub returns : goal.returns
returns g c =
    let places = c.row_at-row.ensures ∙ c.places.ensures in
    let s = c.spread-first in
    let r = c.run-made in
    let was = held s.result.0 s.result.1 s.result.2 in
    let now = held r.new.first r.new.second r.new.others in
    let over = over-as (row_in c.row_at-row.result) _ c.numbered-order.result.1 c.args.cells was places c.numbered-order.ensures.same (record { fill = s.ensures.fill; is = s.ensures.cells; same = s.ensures.same }) in
    let gathers = c.gathered.ensures ∙ ap (λ (l : List (Option ℕ)). things l now) places in
    let order = c.as_slice.ensures.value ∙ c.numbered-order.ensures.numbers in
    let a = c.arranged-cells in
    made-as was now r.ensures.went r.ensures.told r.ensures.sure r.ensures.room r.ensures.refused c.args.cells a.result over.is
    (now-at over c.requires.at c.requires.own now r.ensures.fill c.gathered.result gathers c.as_slice.result.now order a.result a.ensures.same)
    (a.ensures.order ∙ order)
    (each-at over c.requires.at c.requires.own now r.ensures.fill c.gathered.result gathers c.as_slice.result.now order a.result a.ensures.same)
    (as-held over c.requires.at c.requires.own now r.ensures.fill c.gathered.result gathers c.as_slice.result.now order a.result a.ensures.one)
