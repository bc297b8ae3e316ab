use Rattle.std.proofs.Common.{◌≡◌, ◌∷◌, ◌++◌, string_bytes}
use Rattle.std.specs.List.{flat_map, range_with_len}
use Rattle.volap_gen.specs.Generated.{text_of, middle_record, leaf_records}
use Rattle.volap_gen.proofs.concepts.push_middles.Given as goal

abbrev pub invariant-loop-number : goal.invariant-loop-number
invariant-loop-number l =
    string_bytes l.text
    ≡ string_bytes l.initial.text
    ++ text_of (flat_map (λ j. middle_record l.above.dim l.above.number j ∷ leaf_records l.above.dim l.above.number j) (range_with_len 0 l.number))
