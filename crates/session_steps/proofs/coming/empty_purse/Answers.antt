use Rattle.std.proofs.Common.{◌≡◌, ◌∙◌, ℕ, ◌<◌, true, false, ap, arith, sym, subst}
use Rattle.part_steps.specs.core_steps.specs.Places.{one_at}
use Rattle.session_steps.proofs.{Emptied.{give-asked, give-kept, give-makes, stays-empty, stock-there}, OneHeld.{HasOne, as-made, at-one, one-becomes, one-count, same-actor}}
use Rattle.turn_table.specs.Seat.{cell_count}
use Rattle.part_steps.specs.volap_cell.specs.{Setting.{ledger_cell, stock_cell}, Values.ActorValue}
use Rattle.session_steps.proofs.coming.empty_purse.Goals as goal

pub returns-then-is_spent : goal.returns-then-is_spent
returns-then-is_spent g c = record { emptied = stays-empty c.args.floor.now c.args.player.now c.requires.stands (sym c.is_spent.ensures ∙ c.if-is_spent.true) }

pub take_first-requires-clause-cell : goal.take_first-requires-clause-cell
take_first-requires-clause-cell g c =
    subst (λ (y : ℕ). y < cell_count c.args.floor.now.table) (sym c.stock_place.ensures) (stock-there c.args.floor.now c.args.player.now c.parts_prepared.ensures.spares c.requires.free (sym c.is_spent.ensures ∙ c.if-is_spent.false) c.requires.stands.seated)

pub make-requires-clause-some : goal.make-requires-clause-some
make-requires-clause-some g c =
    let t = c.take_first.ensures in
    let one : HasOne c.args.floor.now c.args.player.now c.take_first.new.player stock_cell 7 = subst (λ (y : ℕ). HasOne c.args.floor.now c.args.player.now c.take_first.new.player y 7) c.stock_place.ensures (record { took = t.took; seated = t.seated; ranks = t.ranks }) in
    let count = one-count one in
    omega (arith, count)

pub make-requires-clause-few : goal.make-requires-clause-few
make-requires-clause-few g c =
    let t = c.take_first.ensures in
    let one : HasOne c.args.floor.now c.args.player.now c.take_first.new.player stock_cell 7 = subst (λ (y : ℕ). HasOne c.args.floor.now c.args.player.now c.take_first.new.player y 7) c.stock_place.ensures (record { took = t.took; seated = t.seated; ranks = t.ranks }) in
    let count = one-count one in
    omega (arith, count)

pub make-requires-clause-at : goal.make-requires-clause-at
make-requires-clause-at g c =
    let t = c.take_first.ensures in
    let one : HasOne c.args.floor.now c.args.player.now c.take_first.new.player stock_cell 7 = subst (λ (y : ℕ). HasOne c.args.floor.now c.args.player.now c.take_first.new.player y 7) c.stock_place.ensures (record { took = t.took; seated = t.seated; ranks = t.ranks }) in
    at-one one

pub make-requires-clause-asked : goal.make-requires-clause-asked
make-requires-clause-asked g c =
    let t = c.take_first.ensures in
    let one : HasOne c.args.floor.now c.args.player.now c.take_first.new.player stock_cell 7 = subst (λ (y : ℕ). HasOne c.args.floor.now c.args.player.now c.take_first.new.player y 7) c.stock_place.ensures (record { took = t.took; seated = t.seated; ranks = t.ranks }) in
    give-asked c.args.floor.now c.args.player.now c.parts_prepared.ensures.spares c.requires.free (sym c.is_spent.ensures ∙ c.if-is_spent.false) one

pub make-requires-clause-kept : goal.make-requires-clause-kept
make-requires-clause-kept g c =
    let t = c.take_first.ensures in
    let one : HasOne c.args.floor.now c.args.player.now c.take_first.new.player stock_cell 7 = subst (λ (y : ℕ). HasOne c.args.floor.now c.args.player.now c.take_first.new.player y 7) c.stock_place.ensures (record { took = t.took; seated = t.seated; ranks = t.ranks }) in
    give-kept c.args.floor.now.hierarchy c.take_first.new.player (one_at stock_cell) (ap (λ (a : ActorValue). a.errand) (same-actor one) ∙ c.requires.free.errand)

pub returns : goal.returns
returns g c =
    let t = c.take_first.ensures in
    let one : HasOne c.args.floor.now c.args.player.now c.take_first.new.player stock_cell 7 = subst (λ (y : ℕ). HasOne c.args.floor.now c.args.player.now c.take_first.new.player y 7) c.stock_place.ensures (record { took = t.took; seated = t.seated; ranks = t.ranks }) in
    let made = as-made c.make.result c.make.ensures.made (c.make.ensures.sure (λ i. false)) in
    record { emptied = one-becomes one made _ (λ (e : stock_cell ≡ ledger_cell). absurd (omega (arith, e))) c.make.ensures.stands (give-makes c.requires.free one made) }
