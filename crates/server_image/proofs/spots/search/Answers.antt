use Rattle.std.proofs.{Common.{rules}, lemmas.List.Sorted.{answers_always}}
use Rattle.server_image.proofs.Lists.{searched}
use Rattle.server_image.proofs.spots.search.Goals as goal

pub returns-clause-found : goal.returns-clause-found
returns-clause-found c =
    let facts = c.binary_search_by_key.ensures in
    let by_key = facts.position (λ spot. spot.shard) (answers_always _ _ _ (λ f a r g called. search rules)) in
    (searched c.args.spots.now c.args.id c.requires _ facts.bound by_key).found

pub returns-clause-absent : goal.returns-clause-absent
returns-clause-absent c =
    let facts = c.binary_search_by_key.ensures in
    let by_key = facts.position (λ spot. spot.shard) (answers_always _ _ _ (λ f a r g called. search rules)) in
    (searched c.args.spots.now c.args.id c.requires _ facts.bound by_key).absent
