use Rattle.std.proofs.{Common.{All, arith, subst, sym}, lemmas.List.take_all}
use Rattle.dim_hierarchy.specs.Rows.{IsRowOf}
use Rattle.shard_codec.specs.Spelled.{IsSpelled}
use Rattle.core_admin.proofs.Collecting.RowLists.{all-more}
use Rattle.core_admin.proofs.trees.rows_fit.Goals as goal

pub loop-row-preserved : goal.loop-row-preserved
loop-row-preserved c = record {
  fit = all-more (IsSpelled c.args.h.now) c.args.rows.now c.loop-row.row-index c.row-item.result c.loop-row-test.true c.row-item.is c.loop-row.invariant.fit (record {
    valid = subst (IsRowOf c.args.h.now) (sym c.row-item.is) (c.requires.rows c.loop-row.row-index c.row-item.result c.loop-row-test.true);
    places = c.row_fits.ensures.places;
    number = c.row_fits.ensures.number;
    measures = c.row_fits.ensures.measures;
  });
}

pub returns : goal.returns
returns c = record {
  few = omega arith;
  each = subst (All (IsSpelled c.args.h.now)) (take_all c.loop-row.row-index c.args.rows.now (omega arith)) c.loop-row.invariant.fit;
}
