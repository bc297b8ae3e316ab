use Rattle.std.proofs.Common.{◌≡◌, ◌++◌, map, string_bytes}
use Rattle.std.specs.List.{range_with_len}
use Rattle.volap_gen.specs.Generated.{text_of, leaf_record}
use Rattle.volap_gen.proofs.concepts.push_leaves.Given as goal

abbrev pub invariant-loop-number : goal.invariant-loop-number
invariant-loop-number l =
    string_bytes l.text ≡ string_bytes l.initial.text ++ text_of (map (leaf_record l.above.above.dim l.above.above.number l.above.number) (range_with_len 0 l.number))
