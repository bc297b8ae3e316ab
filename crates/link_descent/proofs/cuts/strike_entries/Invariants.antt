use Rattle.std.proofs.Common.{take}
use Rattle.hierarchy_split.specs.Flags.{AreHeadCuts}
use Rattle.dc_node.specs.declared.block.Body.TheVariants.{Entries}
use Rattle.link_descent.specs.Room.{Strikes}
use Rattle.link_descent.proofs.cuts.strike_entries.Given as goal

abbrev pub invariant-loop-entry : goal.invariant-loop-entry
invariant-loop-entry l = record {
  struck : Strikes l.h (Entries (record { items = take l.entry-index l.entries })) l.fn.cuts l.cuts;
  cuts : AreHeadCuts l.h l.cuts;
}
