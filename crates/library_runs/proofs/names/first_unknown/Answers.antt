use Rattle.std.specs.Prelude.{is_none, position}
use Rattle.dim_hierarchy.specs.Row.{leaves}
use Rattle.library_runs.proofs.Named.{all-known, one-unknown}
use Rattle.library_runs.proofs.names.first_unknown.Goals as goal

pub returns-in-Ok : goal.returns-in-Ok
returns-in-Ok c = all-known (position is_none (leaves c.args.h.now c.args.names.now)) c.coord.result _ c.in-Ok.is c.coord.ensures.unknown

pub returns-in-Err : goal.returns-in-Err
returns-in-Err c = one-unknown (position is_none (leaves c.args.h.now c.args.names.now)) c.coord.result c.in-Err.dim c.in-Err.is c.coord.ensures.unknown c.coord.ensures.known
