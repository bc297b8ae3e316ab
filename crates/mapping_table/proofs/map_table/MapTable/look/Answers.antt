use Rattle.std.proofs.Common.{◌∙◌, ap}
use Rattle.std.specs.FinMap as map
use Rattle.mapping_table.proofs.Places.{lookup-entries}
use Rattle.mapping_table.proofs.map_table.MapTable.look.Goals as goal

pub returns : goal.returns
returns c =
    c.get.ensures.value ∙ lookup-entries c.args.id c.self.inside.places.entries ∙ ap (λ m. map.get m c.args.id) c.self.view_is
