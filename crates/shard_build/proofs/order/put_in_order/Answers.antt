use Rattle.std.proofs.{Common.rules, lemmas.List.Sorted.answers_always}
use Rattle.dim_hierarchy.specs.declared.row.Row.{Row}
use Rattle.shard_build.proofs.order.put_in_order.Goals as goal

pub returns-clause-sorted : goal.returns-clause-sorted
returns-clause-sorted c = c.sort_unstable_by_key.ensures.sorted (λ (r : Row). (r.at.at, r.no)) (answers_always _ _ _ (λ f a r g h. search rules))
