use Rattle.std.proofs.lemmas.List.Elements.{All-same}
use Rattle.describing_set.specs.Sets.{IsDescSetOf}
use Rattle.dc_node.proofs.block.Block.summary.Goals as goal

pub set_of_entries-requires : goal.set_of_entries-requires
set_of_entries-requires c =
    All-same (λ e. IsDescSetOf c.args.h.now e.set) c.as_slice-entries.result.now c.in-Entries.entries.items c.as_slice-entries.ensures.value (rw c.in-Entries.is at c.requires.body)
