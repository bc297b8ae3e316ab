use Rattle.std.proofs.Common.{[], refl}
use Rattle.core_due.specs.Look.{setting_by}
use Rattle.core_due.proofs.sights.desk_at.Goals as goal

pub returns : goal.returns
returns c = c.desk_place.ensures (setting_by [] c.args.with.now) refl
