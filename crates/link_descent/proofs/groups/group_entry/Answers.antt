use Rattle.std.proofs.{Common.{sym, subst, ◌∙◌, arith, []}, lemmas.List.Elements.All-nil}
use Rattle.std.specs.Option.{option_copied, option_to_list}
use Rattle.dc_node.specs.{Block.IsBodyOf, Summary.IsSummary, declared.block.Block.Block}
use Rattle.hierarchy_split.proofs.Crossings.{all_left, all_right}
use Rattle.link_descent.specs.Divide.{together}
use Rattle.link_descent.proofs.{Behind.{AreValid, summary-alone, count-behind, count-two, listed-left, listed-only}, Parts.IsSummary-count}
use Rattle.link_descent.proofs.groups.group_entry.Goals as goal

pub summary-agg-requires-clause-few : goal.summary-agg-requires-clause-few
summary-agg-requires-clause-few c =
    let n = count-behind c.args.head.now.body c.args.tail.now in
    omega (arith, n, c.requires.few)

pub add_behind-requires-clause-block : goal.add_behind-requires-clause-block
add_behind-requires-clause-block c =
    let P : Block → Type 0 = λ b. IsBodyOf c.args.h.now b.body in
    let first = option_copied c.blocks-2.result.0 in
    let second = option_copied c.blocks-2.result.1 in
    listed-left P first (option_to_list second) (subst (AreValid c.args.h.now) (sym c.blocks-2.ensures) c.requires.tail)

pub add_behind-requires-clause-few : goal.add_behind-requires-clause-few
add_behind-requires-clause-few c =
    let body = c.args.head.now.body in
    let first = option_to_list (option_copied c.blocks-2.result.0) in
    let second = option_to_list (option_copied c.blocks-2.result.1) in
    let n = count-two body first second c.args.tail.now c.blocks-2.ensures in
    let m = IsSummary-count c.args.h.now body c.summary-agg.result.0 c.summary-agg.result.1 c.summary-agg.ensures.summary in
    omega (arith, n, m, c.requires.few)

pub add_behind-requires-2-clause-block : goal.add_behind-requires-2-clause-block
add_behind-requires-2-clause-block c =
    let P : Block → Type 0 = λ b. IsBodyOf c.args.h.now b.body in
    let first = option_copied c.blocks-2.result.0 in
    let second = option_copied c.blocks-2.result.1 in
    listed-only P second (all_right P (option_to_list first) (option_to_list second) (subst (AreValid c.args.h.now) (sym c.blocks-2.ensures) c.requires.tail))

pub add_behind-requires-2-clause-few : goal.add_behind-requires-2-clause-few
add_behind-requires-2-clause-few c =
    let h = c.args.h.now in
    let body = c.args.head.now.body in
    let first = option_to_list (option_copied c.blocks-2.result.0) in
    let second = option_to_list (option_copied c.blocks-2.result.1) in
    let n = count-two body first second c.args.tail.now c.blocks-2.ensures in
    let P : Block → Type 0 = λ b. IsBodyOf h b.body in
    let one = c.add_behind.ensures.summary [] (All-nil P) (summary-alone h body c.summary-agg.result.0 c.summary-agg.result.1 c.summary-agg.ensures.summary) in
    let m = IsSummary-count h (together body first) c.add_behind.new.entry.agg c.add_behind.new.entry.set one in
    let k = count-behind body first in
    omega (arith, n, m, k, c.requires.few)

pub returns : goal.returns
returns c =
    let h = c.args.h.now in
    let P : Block → Type 0 = λ b. IsBodyOf h b.body in
    let body = c.args.head.now.body in
    let first = option_to_list (option_copied c.blocks-2.result.0) in
    let second = option_to_list (option_copied c.blocks-2.result.1) in
    let one = c.add_behind.ensures.summary [] (All-nil P) (summary-alone h body c.summary-agg.result.0 c.summary-agg.result.1 c.summary-agg.ensures.summary) in
    let valid = all_left P first second (subst (AreValid h) (sym c.blocks-2.ensures) c.requires.tail) in
    let two = c.add_behind-2.ensures.summary first valid one in
    record {
      child = c.add_behind-2.ensures.child ∙ c.add_behind.ensures.child;
      stamp = c.add_behind-2.ensures.stamp ∙ c.add_behind.ensures.stamp;
      summary = subst (λ l. IsSummary h (together body l) c.add_behind-2.new.entry.agg c.add_behind-2.new.entry.set) c.blocks-2.ensures two;
      valid = c.add_behind-2.ensures.set;
    }
