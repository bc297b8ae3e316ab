use Rattle.std.proofs.Common.{◌∙◌, ◌<◌, ◌^◌, ℕ, subst, sym}
use Rattle.volap_turns.proofs.Filled.{as-many-actors, as-many-cells, has-ledger, idle-of, items-actors, items-cells, valid-of}
use Rattle.volap_turns.proofs.wholes.open.Goals as goal

pub new-requires-clause-valid : goal.new-requires-clause-valid
new-requires-clause-valid c = (let whole = c.requires.whole in valid-of whole c.requires.idle _ _ (items-cells whole _ c.in_ok-all_of.ensures) (items-actors whole _ c.in_ok-actors.ensures))

pub new-requires-clause-idle : goal.new-requires-clause-idle
new-requires-clause-idle c = (let whole = c.requires.whole in idle-of whole _ (items-actors whole _ c.in_ok-actors.ensures) c.requires.idle)

pub new-requires-clause-some : goal.new-requires-clause-some
new-requires-clause-some c =
    let whole = c.requires.whole in
    (has-ledger whole _ (items-cells whole _ c.in_ok-all_of.ensures), subst (λ (k : ℕ). 0 < k) (sym (as-many-actors whole _ (items-actors whole _ c.in_ok-actors.ensures))) c.requires.some)

pub new-requires-clause-few : goal.new-requires-clause-few
new-requires-clause-few c = (let whole = c.requires.whole in subst (λ (k : ℕ). k < 2 ^ 32) (sym (as-many-actors whole _ (items-actors whole _ c.in_ok-actors.ensures))) c.requires.few)

pub returns-clause-table : goal.returns-clause-table
returns-clause-table c = (let whole = c.requires.whole in c.in_ok-table.ensures.table ∙ as-many-cells whole _ (items-cells whole _ c.in_ok-all_of.ensures))

pub returns-clause-actors : goal.returns-clause-actors
returns-clause-actors c = items-actors c.requires.whole _ c.in_ok-actors.ensures

pub returns-clause-seat : goal.returns-clause-seat
returns-clause-seat c = (c.in_ok-all_of.field-0.items, items-cells c.requires.whole _ c.in_ok-all_of.ensures, c.in_ok-table.ensures.seat)
