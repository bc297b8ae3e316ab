use Rattle.std.proofs.Common.{◌∙◌, arith, subst, sym}
use Rattle.actor_run.specs.Halls.{IsHallFor}
use Rattle.row_ledger.specs.declared.settings.Use.{Use}
use Rattle.hall_calls.proofs.Both.{first-in, hall-fits, one-in, opened-with}
use Rattle.hall_calls.proofs.group_tests.filled.Goals as goal

pub open-requires : goal.open-requires
open-requires g c =
    let fits = hall-fits c.args.hierarchy 2000 c.in_ok-roles.roles c.in_ok-roles.ensures c.dims-dims.ensures.valid c.requires.dims (omega arith) (omega arith) in
    record { fits = subst (λ (w : Use). IsHallFor c.args.hierarchy w c.in_ok-roles.roles) (sym c.two_servers.ensures) fits }

pub returns-clause-all : goal.returns-clause-all
returns-clause-all g c =
    let taken = c.in-Some.ensures.some in
    one-in c.in_ok-hall.passes c.take.new.self c.give.new.self c.in-Some.pass c.work-pass.result.0 c.in_ok-hall.ensures.opened.all taken (c.work-pass.ensures.number ∙ taken.number_is) c.give.ensures.given
