use Rattle.std.proofs.Common.{◌∙◌, length, refl, sym, ap, arith}
use Rattle.hall_bench.proofs.Taking.{opened-in}
use Rattle.hall_calls.proofs.Four.{all-in, can-work-all, hall-fits}
use Rattle.hall_bench.proofs.deal.insert_in_hall.Goals as goal

pub open-requires : goal.open-requires
open-requires g c =
    let count = c.dims-dims.ensures.value in
    let some = c.if-dims-eq0.false in
    record {
      fits = hall-fits c.args.hierarchy _ c.in-Ok.roles 0 1 2 3 c.in-Ok.ensures c.dims-dims.ensures.valid (omega (arith, count, some))
          (record { servers = (omega arith, omega arith, omega arith, omega arith); one_worker = refl; enough = omega arith; few = omega arith });
    }

pub pass-a-requires-clause-rest : goal.pass-a-requires-clause-rest
pass-a-requires-clause-rest g c = opened-in c.args.hierarchy _ c.in-Ok.roles 0 1 2 3 c.in-Ok-open.hall c.in-Ok-open.passes c.in-Ok.ensures c.in-Ok-open.ensures.opened

pub insert_all-a-requires : goal.insert_all-a-requires
insert_all-a-requires g c =
    let opened = c.in-Ok-open.ensures.opened in
    let able = can-work-all c.args.hierarchy _ c.in-Ok.roles 0 1 2 3 c.in-Ok-open.hall c.in-Ok-open.passes c.pass-a.new.passes c.pass-b.new.passes c.pass-c.new.passes c.pass-d.new.passes c.pass-a.result c.pass-b.result c.pass-c.result
    c.pass-d.result c.in-Ok.ensures opened c.pass-a.ensures.taken c.pass-b.ensures.taken c.pass-c.ensures.taken c.pass-d.ensures.taken c.pass-a.ensures.of c.pass-b.ensures.of c.pass-c.ensures.of c.pass-d.ensures.of in
    (c.type_bounds.sync-R, (able.0, (able.1, (ap length opened.hierarchy ∙ sym (c.from.ensures ∙ c.dims-dims.ensures.value), c.requires))))

pub close-requires-clause-all : goal.close-requires-clause-all
close-requires-clause-all g c =
    let back = c.insert_all-a.ensures in
    let a = c.pass-a.ensures.taken in
    let b = c.pass-b.ensures.taken in
    let d = c.pass-c.ensures.taken in
    let e = c.pass-d.ensures.taken in
    all-in c.in-Ok-open.passes c.pass-a.new.passes c.pass-b.new.passes c.pass-c.new.passes c.pass-d.new.passes c.give.new.self c.give-2.new.self c.give-3.new.self c.give-4.new.self c.pass-a.result c.pass-b.result c.pass-c.result c.pass-d.result
    c.insert_all-a.result.0.0.0 c.insert_all-a.result.0.1.0 c.insert_all-a.result.1.0.0 c.insert_all-a.result.1.1.0 c.in-Ok-open.ensures.opened.all a b d e
    (back.early.0.number ∙ a.number_is) (back.early.1.number ∙ b.number_is) (back.late.0.number ∙ d.number_is) (back.late.1.number ∙ e.number_is) c.give.ensures.given c.give-2.ensures.given c.give-3.ensures.given c.give-4.ensures.given
