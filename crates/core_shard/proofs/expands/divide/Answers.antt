use Rattle.std.proofs.{Common.{Some, sym, ap, ◌∙◌}, lemmas.Result.on_ok_weaker}
use Rattle.std.specs.Prelude.{option_copied}
use Rattle.core_shard.proofs.ExpandReady.{divided-row}
use Rattle.core_shard.proofs.expands.divide.Goals as goal

-- src/expands.rt:75:9
pub returns-in-Row-clause-done : goal.returns-in-Row-clause-done
returns-in-Row-clause-done c =
    let split = c.in-Some-Split in
    on_ok_weaker c.row_on.result (λ done.
    divided-row c.args.h.now c.args.map.now c.args.desk.now c.row_on.new.desk c.args.errand.now c.there-had.result.now c.there-had.ensures c.in-Row.field-0 c.in-Row.is split.plane split.left split.right
    (sym c.look.ensures ∙ ap option_copied split.is ∙ ap Some split.field-0-is) c.unwrap-place.result (sym c.taken.ensures.place ∙ c.unwrap-place.ensures) done) c.row_on.ensures.done
