use Rattle.std.proofs.Common.{◌∙◌, ap, option_map, refl, subst, sym, ℕ, Option, ◌+◌}
use Rattle.volap_cell.specs.{Cells.cell_of, Lending.with_stock, Values.{actor_of, errand_of, task_of}, declared.errand.Way.TheVariants.Before}
use Rattle.volap_cell.proofs.Outcomes.{as-err}
use Rattle.core_tree.specs.DueAtGates.{IsRefilled}
use Rattle.core_tree.proofs.EachStep.FillsPurse.{can-give, refill-makes}
use Rattle.core_tree.proofs.refills.refill.Goals as goal

pub exchange-requires-clause-out : goal.exchange-requires-clause-out
exchange-requires-clause-out c = can-give c.args.h.now c.args.stock_at (cell_of c.args.stock.now) (actor_of c.args.actor.now) c.stock_in-stock.result.now c.requires.here (ap cell_of c.stock_in-stock.ensures.value)

pub returns-clause-made : goal.returns-clause-made
returns-clause-made c =
    let (e, is, row) = c.row_in-going.ensures in
    let r = c.row_in-going.result.now in
    let go = c.go_on.ensures e r is row in
    let height = c.unwrap-height.result in
    refill-makes c.args.h.now c.args.stock_at (cell_of c.args.stock.now) c.stock_in-stock.result.now c.exchange.new.stock (actor_of c.args.actor.now) _ (errand_of e) r height c.in-Before.filled c.args.actor.now.purse c.exchange.new.purse c.requires.due
    (ap cell_of c.stock_in-stock.ensures.value)
    (record { errand = ap (option_map errand_of) is; row = ap task_of row })
    (c.in-Before.is ∙ ap (λ (o : Option ℕ). Before o c.in-Before.filled) c.unwrap-height.ensures)
    refl
    (subst (λ (n : ℕ). IsRefilled (n + 2) c.stock_in-stock.result.now c.exchange.new.stock c.args.actor.now.purse c.exchange.new.purse c.exchange.new.boxes) c.from-spares.ensures c.in_ok-exchange.ensures.ok)
    refl
    (λ k. record (actor_of c.args.actor.now) { purse = c.exchange.new.purse.spares; boxes = c.exchange.new.boxes; errand = option_map errand_of (go k) })

pub returns-in_err-exchange-clause-refused : goal.returns-in_err-exchange-clause-refused
returns-in_err-exchange-clause-refused c =
    let k = c.in_err-exchange.ensures.err in
    as-err c.from_residual.result (ap (with_stock c.args.stock.now) k.0 ∙ sym c.stock_in-stock.ensures.value, (λ i. record (actor_of c.args.actor.now) { purse = k.1 i; boxes = k.2 i }))
