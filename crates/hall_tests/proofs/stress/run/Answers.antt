use Rattle.std.proofs.Common.{◌≡◌, ◌∙◌, length, ap, refl, arith}
use Rattle.hall_calls.proofs.Four.{all-in, can-work-all, hall-fits}
use Rattle.hall_tests.proofs.stress.run.Goals as goal

pub open-requires : goal.open-requires
open-requires g c =
    let one : length c.in_ok-h.h ≡ 1 = c.in_ok-h.ensures in
    record {
      fits = hall-fits c.in_ok-h.h _ c.in_ok-roles.roles 0 1 0 1 c.in_ok-roles.ensures c.dims-dims.ensures.valid (omega (arith, one))
          (record { servers = (omega arith, omega arith, omega arith, omega arith); one_worker = refl; enough = omega arith; few = omega arith });
    }

pub work_all-a-requires : goal.work_all-a-requires
work_all-a-requires g c =
    let opened = c.in_ok-hall.ensures.opened in
    let able = can-work-all c.in_ok-h.h _ c.in_ok-roles.roles 0 1 0 1 c.in_ok-hall.hall c.in_ok-hall.passes c.pass-a.new.passes c.pass-b.new.passes c.pass-c.new.passes c.pass-d.new.passes c.pass-a.result c.pass-b.result c.pass-c.result
    c.pass-d.result c.in_ok-roles.ensures opened c.pass-a.ensures.taken c.pass-b.ensures.taken c.pass-c.ensures.taken c.pass-d.ensures.taken c.pass-a.ensures.of c.pass-b.ensures.of c.pass-c.ensures.of c.pass-d.ensures.of in
    (c.type_bounds.sync-R, (able.0, (able.1, ap length opened.hierarchy ∙ c.in_ok-h.ensures)))

pub close-requires-clause-all : goal.close-requires-clause-all
close-requires-clause-all g c =
    let back = c.work_all-a.ensures in
    let a = c.pass-a.ensures.taken in
    let b = c.pass-b.ensures.taken in
    let d = c.pass-c.ensures.taken in
    let e = c.pass-d.ensures.taken in
    all-in c.in_ok-hall.passes c.pass-a.new.passes c.pass-b.new.passes c.pass-c.new.passes c.pass-d.new.passes c.give.new.self c.give-2.new.self c.give-3.new.self c.give-4.new.self c.pass-a.result c.pass-b.result c.pass-c.result c.pass-d.result
    c.work_all-a.result.0.0.0 c.work_all-a.result.0.1.0 c.work_all-a.result.1.0.0 c.work_all-a.result.1.1.0 c.in_ok-hall.ensures.opened.all a b d e
    (back.one.0.number ∙ a.number_is) (back.one.1.number ∙ b.number_is) (back.other.0.number ∙ d.number_is) (back.other.1.number ∙ e.number_is) c.give.ensures.given c.give-2.ensures.given c.give-3.ensures.given c.give-4.ensures.given
