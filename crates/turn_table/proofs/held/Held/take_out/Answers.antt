use Rattle.std.proofs.Common.{◌≡◌, [], ◌∷◌, ◌++◌, append_assoc, sym, ap, ◌∙◌}
use Rattle.turn_table.specs.Numbered.{value_of}
use Rattle.turn_table.proofs.Order.{out_here, passed_by}
use Rattle.turn_table.proofs.held.Held.take_out.Goals as goal

pub returns-then-at-number-clause-value : goal.returns-then-at-number-clause-value
returns-then-at-number-clause-value g c =
    let n = c.in-Some.next in let passed = c.loop-next.passed in let inv = c.loop-next.invariant in
    let whole : c.args.self ≡ passed ++ (c.args.number, n.0.1) ∷ n.1 = sym inv.all ∙ (ap (λ l. passed ++ l) c.in-Some.ensures.some ∙ ap (λ j. passed ++ (j, n.0.1) ∷ n.1) c.if-at-number.true) in
    ap (λ l. value_of l c.args.number) whole ∙ out_here passed n.1 c.args.number n.0.1 inv.apart

pub returns-then-at-number-clause-others : goal.returns-then-at-number-clause-others
returns-then-at-number-clause-others g c =
    let n = c.in-Some.next in let passed = c.loop-next.passed in let inv = c.loop-next.invariant in
    let whole : c.args.self ≡ passed ++ (c.args.number, n.0.1) ∷ n.1 = sym inv.all ∙ (ap (λ l. passed ++ l) c.in-Some.ensures.some ∙ ap (λ j. passed ++ (j, n.0.1) ∷ n.1) c.if-at-number.true) in
    (passed, n.1, whole, c.and.ensures, inv.apart)

pub loop-next-preserved : goal.loop-next-preserved
loop-next-preserved g c = let n = c.in-Some.next in let passed = c.loop-next.passed in let inv = c.loop-next.invariant in record {
  all = ap (λ l. l ++ n.1) c.with-passed.ensures ∙ (append_assoc passed (n.0 ∷ []) n.1 ∙ (ap (λ zs. passed ++ zs) (sym c.in-Some.ensures.some) ∙ inv.all));
  apart = ap (λ l. value_of l c.args.number) c.with-passed.ensures ∙ passed_by passed n.0.0 c.args.number n.0.1 inv.apart c.if-at-number.false;
}
