use Rattle.std.proofs.Common.{◌≡◌, ◌++◌, ◌∷◌, ℕ, string_bytes, ap, ◌∙◌, arith}
use Rattle.std.specs.List.{flat_map, range_with_len}
use Rattle.volap_gen.specs.{Generated.{text_of, middle_record, leaf_records, middle_records}, Names.middle_count}
use Rattle.volap_gen.proofs.Texts.{texts-more}
use Rattle.volap_gen.proofs.concepts.push_middles.Goals as goal

pub loop-number-preserved : goal.loop-number-preserved
loop-number-preserved c =
    let dim = c.args.above.dim in
    let i = c.args.above.number in
    texts-more (λ j. middle_record dim i j ∷ leaf_records dim i j) _ (string_bytes c.loop-number.text) _ c.loop-number.number c.loop-number.invariant c.in_ok-push_middle.ensures

pub returns : goal.returns
unfolding middle_records
returns c =
    let dim = c.args.above.dim in
    let i = c.args.above.number in
    let all : c.loop-number.number ≡ middle_count dim = omega (arith, c.middle_count-number-end.ensures) in
    c.loop-number.invariant
    ∙ ap (λ (n : ℕ). string_bytes c.args.text.now ++ text_of (flat_map (λ j. middle_record dim i j ∷ leaf_records dim i j) (range_with_len 0 n))) all
