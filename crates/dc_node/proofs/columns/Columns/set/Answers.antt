use Rattle.std.proofs.{Common.{List, ◌≤◌, length, subst, sym, arith}, lemmas.List.take_all}
use Rattle.dim_hierarchy.specs.{Row.IsCoordOf, Rows.IsRowOf, declared.row.Coord.Coord, declared.row.Row.Row}
use Rattle.describing_set.specs.{DescSet.IsSetOf, Sets.GrowsBy}
use Rattle.dc_node.specs.{Columns.{row_at, rows_in_columns}, Summary.coords}
use Rattle.dc_node.proofs.{Rows.{length_rows, read_row, row_fact}, Summaries.grown_more}
use Rattle.dc_node.proofs.columns.Columns.set.Goals as goal

pub grow-requires-clause-at : goal.grow-requires-clause-at
grow-requires-clause-at c =
    let rows = c.args.self.now in
    subst (IsCoordOf c.args.h.now) (sym c.coord.ensures) (row_fact (IsRowOf c.args.h.now) rows c.args.count c.loop-place.place c.requires.rows c.loop-place-test.true)

pub loop-place-preserved : goal.loop-place-preserved
loop-place-preserved c =
    let h = c.args.h.now in
    let rows = c.args.self.now in
    let i = c.loop-place.place in
    let n = length_rows rows c.args.count in
    let grows = subst (λ (at : Coord). GrowsBy h at c.loop-place.set c.grow.new.self) c.coord.ensures c.grow.ensures.grown in (
      grown_more h c.laws.ensures.same (rows_in_columns rows c.args.count) i (row_at rows i) c.loop-place.set c.grow.new.self (omega (arith, n, c.loop-place-test.true)) (sym (read_row rows c.args.count i (row_at rows i) c.loop-place-test.true))
          c.requires.rows grows c.loop-place.invariant.0,
      c.grow.ensures.valid,
    )

pub returns-clause-set : goal.returns-clause-set
returns-clause-set c =
    let rows = c.args.self.now in
    let n = length_rows rows c.args.count in
    let all : length (rows_in_columns rows c.args.count) ≤ c.loop-place.place = omega (arith, n, c.loop-place-test.false) in
    subst (λ (xs : List Row). IsSetOf c.args.h.now (coords xs) c.loop-place.set) (take_all c.loop-place.place (rows_in_columns rows c.args.count) all) c.loop-place.invariant.0
