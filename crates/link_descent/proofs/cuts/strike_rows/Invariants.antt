use Rattle.std.proofs.Common.{take}
use Rattle.hierarchy_split.specs.Flags.{AreHeadCuts}
use Rattle.dc_node.specs.declared.block.Body.TheVariants.{Rows}
use Rattle.link_descent.specs.Room.{Strikes}
use Rattle.link_descent.proofs.cuts.strike_rows.Given as goal

abbrev pub invariant-loop-place : goal.invariant-loop-place
invariant-loop-place l = record {
  struck : Strikes l.h (Rows (record { items = take l.place l.rows.items })) l.fn.cuts l.cuts;
  cuts : AreHeadCuts l.h l.cuts;
}
