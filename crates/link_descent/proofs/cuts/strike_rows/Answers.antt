use Rattle.std.proofs.{Common.{[], subst, arith}, lemmas.List.take_all}
use Rattle.dc_node.specs.declared.block.Body.TheVariants.{Rows}
use Rattle.link_descent.specs.Room.{Strikes}
use Rattle.link_descent.proofs.Strikes.{Strikes-none, Strikes-row}
use Rattle.link_descent.proofs.cuts.strike_rows.Goals as goal

pub loop-place-init : goal.loop-place-init
loop-place-init c = record { struck = Strikes-none c.args.h.now (Rows (record { items = [] })) c.args.cuts.now tt; cuts = c.requires.cuts }

pub loop-place-preserved : goal.loop-place-preserved
loop-place-preserved c =
    let lt = c.loop-place-test.true in
    let n = c.len-place-end.ensures.value in
    record {
      struck = Strikes-row c.args.h.now c.args.rows.now.items c.loop-place.place c.set_at.result c.args.cuts.now c.loop-place.cuts c.strike.new.self (omega (arith, lt, n)) c.set_at.ensures.set c.loop-place.invariant.struck c.strike.ensures.cuts_of;
      cuts = c.strike.ensures.valid;
    }

pub returns-clause-struck : goal.returns-clause-struck
returns-clause-struck c =
    let rows = c.args.rows.now.items in
    let n = c.len-place-end.ensures.value in
    let all = take_all c.loop-place.place rows (let ge = c.loop-place-test.false in omega (arith, ge, n)) in
    subst (λ l. Strikes c.args.h.now (Rows (record { items = l })) c.args.cuts.now c.loop-place.cuts) all c.loop-place.invariant.struck
