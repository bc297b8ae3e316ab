use Rattle.std.proofs.Common.{◌≡◌, ◌++◌, drop}
use Rattle.dc_node.specs.Block.{entries_in}
use Rattle.core_pages.proofs.group.EntriesKeep.keep.Given as goal

abbrev pub invariant-loop-entry : goal.invariant-loop-entry
invariant-loop-entry l = record {
  entries : l.into.items ++ drop l.entry-index (entries_in l.block.body) ≡ l.initial.into.items ++ entries_in l.block.body;
  items : l.entry-items ≡ entries_in l.block.body;
}
