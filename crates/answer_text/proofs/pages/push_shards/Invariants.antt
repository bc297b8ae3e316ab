use Rattle.std.proofs.Common.{◌≡◌, ◌++◌, codes, string_bytes, take}
use Rattle.std.specs.List.{flat_map}
use Rattle.answer_text.specs.Printed.{line, shard_said}
use Rattle.answer_text.proofs.pages.push_shards.Given as goal

abbrev pub invariant-loop-shard : goal.invariant-loop-shard
invariant-loop-shard l =
    string_bytes l.text ≡ string_bytes l.fn.text ++ flat_map (λ shard. line l.number (codes "shard") (shard_said shard)) (take l.shard-index l.shards)
