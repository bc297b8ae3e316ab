use Rattle.std.proofs.Common.{◌≡◌, ◌++◌, string_bytes}
use Rattle.std.specs.List.{flat_map, range_with_len}
use Rattle.volap_gen.specs.Generated.{text_of, row_records}
use Rattle.volap_gen.proofs.rows.push_rows.Given as goal

abbrev pub invariant-loop-i : goal.invariant-loop-i
invariant-loop-i l = string_bytes l.text ≡ string_bytes l.initial.text ++ text_of (flat_map (row_records l.rows l.seed) (range_with_len 0 l.i))
