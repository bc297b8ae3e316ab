use Rattle.std.proofs.Common.{ℕ, ◌≡◌, ◌+◌, ◌-◌, ◌/◌, ◌<◌, ◌++◌, suc, length, take, drop, sym, ap, ◌∙◌, subst, arith}
use Rattle.std.specs.Ordering.{is_lt, nat_cmp}
use Rattle.row_ledger.specs.declared.page.GroupLine.{GroupLine}
use Rattle.group_answer.specs.Adding.{with_line}
use Rattle.group_answer.proofs.LineSteps.{front-behind, lower, next-here, not-lower}
use Rattle.group_answer.proofs.lines.place_of.Goals as goal

pub loop-from-preserved-then-lt : goal.loop-from-preserved-then-lt
loop-from-preserved-then-lt c =
    let lines = c.args.lines.now in
    let id = c.args.id in
    let at = c.loop-from.from + (c.loop-from.to - c.loop-from.from) / 2 in
    let x = c.index-lines-middle.result in
    let lt : at < length lines = omega (arith, c.loop-from-test.true, c.loop-from.invariant.within) in
    let low = lower x.id id (ap (λ (y : GroupLine). is_lt (nat_cmp y.id id)) c.index-lines-middle.is ∙ sym c.lt.ensures ∙ c.if-lt.true) in
    let up : suc at ≡ at + 1 = omega arith in
    record {
      order = omega (arith, c.loop-from-test.true);
      within = c.loop-from.invariant.within;
      front = λ total. subst (λ (n : ℕ). with_line id total lines ≡ take n lines ++ with_line id total (drop n lines)) up (front-behind id lines at x c.requires lt c.index-lines-middle.is low total);
      next = c.loop-from.invariant.next;
    }

pub loop-from-preserved : goal.loop-from-preserved
loop-from-preserved c =
    let lines = c.args.lines.now in
    let id = c.args.id in
    let at = c.loop-from.from + (c.loop-from.to - c.loop-from.from) / 2 in
    let x = c.index-lines-middle.result in
    let lt : at < length lines = omega (arith, c.loop-from-test.true, c.loop-from.invariant.within) in
    let high = not-lower x.id id (ap (λ (y : GroupLine). is_lt (nat_cmp y.id id)) c.index-lines-middle.is ∙ sym c.lt.ensures ∙ c.if-lt.false) in
    record {
      order = omega (arith, c.loop-from-test.true);
      within = omega (arith, lt);
      front = c.loop-from.invariant.front;
      next = next-here id lines at x lt c.index-lines-middle.is high;
    }
