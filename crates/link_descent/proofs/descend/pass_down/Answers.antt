use Rattle.std.proofs.Common.{◌<◌, length, refl}
use Rattle.dc_node.specs.{declared.block.Block.Block, declared.block.Body.TheVariants.Entries}
use Rattle.link_descent.proofs.Passes.{passes-down}
use Rattle.link_descent.proofs.descend.pass_down.Goals as goal

pub returns-in-Entries : goal.returns-in-Entries
returns-in-Entries c =
    let within : c.args.place < length c.in-Entries.entries.items = rw c.in-Entries.is at c.requires.place in
    let parent : Block = record { stamp = c.args.parent.now.stamp; right = c.args.parent.now.right; body = Entries c.in-Entries.entries } in
    rw c.in-Entries.is (passes-down c.args.h.now c.args.row.now c.args.place c.from.result parent _ c.from.ensures within c.add_row.new.self.items c.add_row.ensures refl)
