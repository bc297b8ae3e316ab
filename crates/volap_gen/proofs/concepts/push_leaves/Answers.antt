use Rattle.std.proofs.Common.{◌≡◌, ◌++◌, ℕ, map, string_bytes, ap, ◌∙◌, arith}
use Rattle.std.specs.List.{range_with_len}
use Rattle.volap_gen.specs.{Generated.{text_of, leaf_record, leaf_records}, Names.leaf_count}
use Rattle.volap_gen.proofs.Texts.{text-more}
use Rattle.volap_gen.proofs.concepts.push_leaves.Goals as goal

pub loop-number-preserved : goal.loop-number-preserved
loop-number-preserved c =
    text-more (leaf_record c.args.above.above.dim c.args.above.above.number c.args.above.number) _ (string_bytes c.loop-number.text) _ c.loop-number.number c.loop-number.invariant c.in_ok-push_leaf.ensures

pub returns : goal.returns
unfolding leaf_records
returns c =
    let all : c.loop-number.number ≡ leaf_count c.args.above.above.dim = omega (arith, c.leaf_count-number-end.ensures) in
    c.loop-number.invariant
    ∙ ap (λ (n : ℕ). string_bytes c.args.text.now ++ text_of (map (leaf_record c.args.above.above.dim c.args.above.above.number c.args.above.number) (range_with_len 0 n))) all
