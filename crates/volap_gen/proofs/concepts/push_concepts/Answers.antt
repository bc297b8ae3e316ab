use Rattle.std.proofs.Common.{◌≡◌, ◌++◌, ◌∷◌, ℕ, string_bytes, ap, ◌∙◌, arith}
use Rattle.std.specs.List.{flat_map, range_with_len}
use Rattle.volap_gen.specs.{Generated.{text_of, top_record, middle_records, concept_records}, Names.top_count}
use Rattle.volap_gen.proofs.Texts.{texts-more}
use Rattle.volap_gen.proofs.concepts.push_concepts.Goals as goal

pub loop-number-preserved : goal.loop-number-preserved
loop-number-preserved c =
    let dim = c.args.dim in
    texts-more (λ i. top_record dim i ∷ middle_records dim i) _ (string_bytes c.loop-number.text) _ c.loop-number.number c.loop-number.invariant c.in_ok-push_top.ensures

pub returns : goal.returns
unfolding concept_records
returns c =
    let dim = c.args.dim in
    let all : c.loop-number.number ≡ top_count dim = omega (arith, c.top_count-number-end.ensures) in
    c.loop-number.invariant
    ∙ ap (λ (n : ℕ). string_bytes c.args.text.now ++ text_of (flat_map (λ i. top_record dim i ∷ middle_records dim i) (range_with_len 0 n))) all
