use Rattle.std.proofs.Common.{◌∙◌, length, sym, ap}
use Rattle.dim_hierarchy.proofs.NameBytes.{length-names_in}
use Rattle.dim_hierarchy.proofs.row_names.RowNames.len.Goals as goal

pub returns : goal.returns
returns c = sym (length-names_in c.self.inside.count c.self.inside.bytes.items) ∙ ap length c.self.view_is
