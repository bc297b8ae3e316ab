use Rattle.std.proofs.{Common.{arith, ap, length-take}, lemmas.Int.to_z-of_z}
use Rattle.dim_hierarchy.specs.declared.row.Row.{Row}
use Rattle.measure_agg.proofs.AggLaws.{agg-take_more}
use Rattle.measure_agg.proofs.agg.Agg.of_rows.Goals as goal

pub join-all-requires : goal.join-all-requires
join-all-requires c = omega (arith, ap (λ a. a.count) c.loop-row.invariant, ap (λ a. a.count) c.one.ensures, length-take {A = Row})

pub loop-row-preserved : goal.loop-row-preserved
loop-row-preserved c = grind (arith, to_z-of_z, agg-take_more)
