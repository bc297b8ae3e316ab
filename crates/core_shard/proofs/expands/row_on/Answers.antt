use Rattle.std.proofs.Common.{Option, sym, ◌∙◌, subst, refl}
use Rattle.std.specs.Prelude.{IsSome}
use Rattle.list_words.proofs.Elements.{Some-same}
use Rattle.volap_cell.specs.declared.errand.Errand.{Errand}
use Rattle.core_shard.proofs.ExpandReady.{down-out, gone_down, row-on}
use Rattle.core_shard.proofs.expands.row_on.Goals as goal

-- src/expands.rt:103:5
pub leave-had-requires : goal.leave-had-requires
leave-had-requires c = (let due = c.requires.due in let went = c.in_ok-go_down.ensures.done due.e due.r due.had due.row in record { some = subst (λ (o : Option Errand). IsSome o) (sym went) refl })

-- src/expands.rt:105:5
pub waiting-part-requires-clause-out : goal.waiting-part-requires-clause-out
waiting-part-requires-clause-out c =
    let due = c.requires.due in
    let went = c.in_ok-go_down.ensures.done due.e due.r due.had due.row in
    down-out c.args.h.now c.args.plane.now c.args.left c.args.right c.args.errand.now c.leave-had.result due
    (Some-same c.leave-had.result (gone_down c.args.h.now c.args.plane.now c.args.left c.args.right due.e due.r) (sym c.leave-had.ensures.left ∙ went))

-- src/expands.rt:86:1
pub returns-clause-done : goal.returns-clause-done
returns-clause-done c = λ e r had row.
    let went = c.in_ok-go_down.ensures.done e r had row in
    row-on c.args.h.now c.args.plane.now c.args.left c.args.right c.args.place c.args.desk.now c.set.new.self e r c.leave-had.result c.waiting-part.result
    (Some-same c.leave-had.result (gone_down c.args.h.now c.args.plane.now c.args.left c.args.right e r) (sym c.leave-had.ensures.left ∙ went)) c.waiting-part.ensures.value c.set.ensures
