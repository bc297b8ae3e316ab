use Rattle.std.proofs.Common.{◌∙◌, sym, subst}
use Rattle.actor_run.specs.Halls.{IsHallFor}
use Rattle.row_ledger.specs.declared.settings.Use.{Use}
use Rattle.hall_calls.proofs.Both.{all-in, hall-fits, has-both, opened-with, second-in}
use Rattle.hall_calls.proofs.two.count_on_two_threads.Goals as goal

pub open-requires : goal.open-requires
open-requires g c =
    let fits = hall-fits c.args.hierarchy c.args.cells c.in_ok-roles.roles c.in_ok-roles.ensures c.dims-dims.ensures.valid c.requires.dims c.requires.enough c.requires.few in
    record { fits = subst (λ (w : Use). IsHallFor c.args.hierarchy w c.in_ok-roles.roles) (sym c.two_servers.ensures) fits }

pub unreachable-requires-in_default-take : goal.unreachable-requires-in_default-take
unreachable-requires-in_default-take g c =
    let opened = opened-with c.args.hierarchy c.args.cells c.in_ok-roles.roles c.two_servers.result c.in_ok-hall.hall c.in_ok-hall.passes c.two_servers.ensures c.in_ok-hall.ensures.opened in
    second-in c.args.hierarchy c.args.cells c.in_ok-roles.roles c.in_ok-hall.hall c.in_ok-hall.passes c.take.new.self c.in-Some.first c.in_ok-roles.ensures opened c.in-Some.ensures.some c.in_default-take.ensures.none

pub close-requires-clause-all : goal.close-requires-clause-all
close-requires-clause-all g c =
    let taken = c.in-Some.ensures.some in
    let other = c.in-Some-take.ensures.some in
    let worked = c.work_both-first.ensures in
    all-in c.in_ok-hall.passes c.take.new.self c.take-2.new.self c.give.new.self c.give-2.new.self c.in-Some.first c.in-Some-take.second c.work_both-first.result.0.0 c.work_both-first.result.1.0 c.in_ok-hall.ensures.opened.all taken other
    (worked.first.number ∙ taken.number_is) (worked.second.number ∙ other.number_is) c.give.ensures.given c.give-2.ensures.given

pub returns : goal.returns
returns g c =
    let opened = opened-with c.args.hierarchy c.args.cells c.in_ok-roles.roles c.two_servers.result c.in_ok-hall.hall c.in_ok-hall.passes c.two_servers.ensures c.in_ok-hall.ensures.opened in
    let worked = c.work_both-first.ensures in
    record {
      both = has-both c.args.hierarchy c.args.cells c.args.places.now.asked.now c.in_ok-roles.roles c.in_ok-hall.hall c.in_ok-hall.passes c.take.new.self c.take-2.new.self c.give.new.self c.give-2.new.self c.in-Some.first c.in-Some-take.second
          c.work_both-first.result.0.0 c.work_both-first.result.1.0 c.work_both-first.result.0.1 c.work_both-first.result.1.1 c.close.result c.in_ok-roles.ensures opened c.in-Some.ensures.some c.in-Some-take.ensures.some worked.first
          worked.second c.give.ensures.given c.give-2.ensures.given c.close.ensures.closed;
    }
