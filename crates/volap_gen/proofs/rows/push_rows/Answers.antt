use Rattle.std.proofs.Common.{◌≡◌, ◌++◌, ℕ, string_bytes, ap, ◌∙◌, arith}
use Rattle.std.specs.List.{flat_map, range_with_len}
use Rattle.volap_gen.specs.Generated.{text_of, row_records, generated_rows}
use Rattle.volap_gen.proofs.Texts.{texts-more}
use Rattle.volap_gen.proofs.rows.push_rows.Goals as goal

pub loop-i-preserved : goal.loop-i-preserved
loop-i-preserved c =
    texts-more (row_records c.args.rows c.args.seed) _ (string_bytes c.loop-i.text) _ c.loop-i.i c.loop-i.invariant c.in_ok-push_row.ensures

pub returns : goal.returns
unfolding generated_rows
returns c =
    let all : c.loop-i.i ≡ c.args.rows = omega arith in
    c.loop-i.invariant ∙ ap (λ (n : ℕ). string_bytes c.args.text.now ++ text_of (flat_map (row_records c.args.rows c.args.seed) (range_with_len 0 n))) all
