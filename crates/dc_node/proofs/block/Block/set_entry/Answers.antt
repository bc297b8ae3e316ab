use Rattle.std.proofs.Common.{◌<◌, length, ap, ◌∙◌}
use Rattle.dc_node.specs.Block.{with_entries}
use Rattle.dc_node.proofs.Places.{set-entry}
use Rattle.dc_node.proofs.block.Block.set_entry.Goals as goal

pub returns-in-Entries : goal.returns-in-Entries
returns-in-Entries c =
    let within : c.args.place < length c.in-Entries.entries.items = rw c.in-Entries.is at c.requires in
    rw c.in-Entries.is
    (ap (with_entries c.args.self.now) (c.set.ensures ∙ set-entry c.in-Entries.entries.items c.args.place c.args.entry within))
