use Rattle.std.proofs.Common.{◌∙◌, ap}
use Rattle.std.specs.FinMap as map
use Rattle.mapping_table.proofs.Places.{from_entries-removed}
use Rattle.mapping_table.proofs.map_table.MapTable.forget.Goals as goal

pub returns : goal.returns
returns c =
    from_entries-removed c.self.inside.places c.remove.new.self c.args.id c.remove.ensures.updates
    ∙ ap (λ m. map.remove m c.args.id) c.self.view_is
