use Rattle.std.proofs.{Common.{◌≡◌, ◌<◌, List, length, set, sym, ap, ◌∙◌, subst, eqb-true, arith}, lemmas.Bool.eqb-false, lemmas.List.get_or_default}
use Rattle.describing_set.specs.Sorted.{Ascends}
use Rattle.measure_agg.specs.Aggregate.{Aggregate}
use Rattle.group_answer.specs.{Adding.{IsPlaceOf, concepts_in}, Groups.line}
use Rattle.row_ledger.specs.declared.page.GroupLine.{GroupLine}
use Rattle.group_answer.proofs.LineSteps.{ascends-with_line, line-few, line-inserted, line-written}
use Rattle.group_answer.proofs.lines.add.Goals as goal
use Rattle.group_answer.proofs.lines.add.Goals.{else-at-len-via-then-at-len+else-eq, else-at-len-via-else-at-len}

pub join-requires : goal.join-requires
join-requires c =
    let few = line-few c.args.lines.now.items c.place_of-at.result c.index-then-eq.result.now (omega (arith, c.if-at-len.true, c.len.ensures)) c.index-then-eq.ensures in
    omega (arith, few, c.requires.few)

pub returns-then-eq-clause-lines : goal.returns-then-eq-clause-lines
returns-then-eq-clause-lines c =
    let lines = c.args.lines.now.items in
    let at = c.place_of-at.result in
    let id = c.args.id in
    let x = c.index-then-eq.result.now in
    let lt : at < length lines = omega (arith, c.if-at-len.true, c.len.ensures) in
    let same : c.index.result.now ≡ x = c.index.ensures ∙ get_or_default lines at c.index.result.now x lt ∙ sym c.index-then-eq.ensures in
    let here : id ≡ x.id = sym (eqb-true c.index.result.now.id id (sym c.if-eq.ensures)) ∙ ap (λ (z : GroupLine). z.id) same in
    ap (λ (a : Aggregate). set lines at (line id a)) c.join.ensures ∙ line-written id c.args.agg.now lines at (subst (λ (l : List GroupLine). IsPlaceOf id l at) c.deref.ensures.value c.place_of-at.ensures) x lt c.index-then-eq.ensures here

pub returns-then-eq-clause-ascends : goal.returns-then-eq-clause-ascends
returns-then-eq-clause-ascends c =
    subst (λ (l : List GroupLine). Ascends (concepts_in l)) (sym (returns-then-eq-clause-lines c)) (ascends-with_line c.args.id c.args.agg.now c.args.lines.now.items c.requires.ascends)

pub returns-clause-lines : goal.returns-clause-lines
returns-clause-lines c =
    let lines = c.args.lines.now.items in
    let at = c.place_of-at.result in
    c.in_ok-insert.ensures.items
    ∙ line-inserted c.args.id c.args.agg.now lines at (subst (λ (l : List GroupLine). IsPlaceOf c.args.id l at) c.deref.ensures.value c.place_of-at.ensures) (λ x lt is. elim c.else-at-len.branch [
      | else-at-len-via-then-at-len+else-eq w ↦
          let same : w.index.result.now ≡ x = w.index.ensures ∙ get_or_default lines at w.index.result.now x lt ∙ sym is in
          λ e. eqb-false w.index.result.now.id c.args.id (sym w.if-eq.ensures) (ap (λ (z : GroupLine). z.id) same ∙ e)
      | else-at-len-via-else-at-len w ↦ λ e. omega (arith, lt, w.if-at-len.false, c.len.ensures)
    ])

pub returns-clause-ascends : goal.returns-clause-ascends
returns-clause-ascends c =
    subst (λ (l : List GroupLine). Ascends (concepts_in l)) (sym (returns-clause-lines c)) (ascends-with_line c.args.id c.args.agg.now c.args.lines.now.items c.requires.ascends)
