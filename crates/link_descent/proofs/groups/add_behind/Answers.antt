use Rattle.std.proofs.{Common.{subst, sym, [], ◌∷◌, ◌++◌}, lemmas.List.Elements.{All-nil, All-cons}}
use Rattle.std.specs.{Option.{option_copied, option_to_list}, Prelude.IfSome}
use Rattle.dc_node.specs.{Block.IsBodyOf, Summary.IsSummary, declared.block.Block.Block}
use Rattle.link_descent.specs.Divide.{together}
use Rattle.link_descent.proofs.Behind.{summary-more}
use Rattle.link_descent.proofs.groups.add_behind.Goals as goal

pub returns-clause-summary : goal.returns-clause-summary
returns-clause-summary c = λ tail valid s.
    let h = c.args.h.now in
    let P : Block → Type 0 = λ b. IsBodyOf h b.body in
    let body = c.args.head.now.body in
    let block = c.in-Some.block.now in
    let set = c.join-entry-2.result in
    let here : P block = subst (λ o. IfSome (option_copied o) P) c.in-Some.is c.requires.block in
    let more = summary-more h body tail (block ∷ []) c.args.entry.now.agg c.summary_behind-agg.result.0 c.args.entry.now.set c.summary_behind-agg.result.1 set
    c.laws.ensures.append c.agg_laws.ensures.joined_append c.join-entry-2.ensures.joined c.requires.head valid (All-cons P block [] here (All-nil P)) s c.summary_behind-agg.ensures.summary in
    subst (λ o. IsSummary h (together body (tail ++ option_to_list (option_copied o))) c.join-entry.result set) (sym c.in-Some.is)
    (subst (λ a. IsSummary h (together body (tail ++ block ∷ [])) a set) (sym c.join-entry.ensures) more)
