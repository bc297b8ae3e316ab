use Rattle.std.proofs.Common.{◌∙◌, None, get_or}
use Rattle.core_steps.specs.Places.{others_held}
use Rattle.core_steps.proofs.Five.{put-five, put-length, put-more, put-none, put-within}
use Rattle.core_steps.proofs.moving.put.Goals as goal

pub put_at-requires-2 : goal.put_at-requires-2
put_at-requires-2 c = record {
  within = put-within c.args.places.now 3 _ _ (put-length (get_or c.args.places.now 4 None) _ _ _ c.put_at.ensures) c.requires.within;
}

pub put_at-requires-3 : goal.put_at-requires-3
put_at-requires-3 c = record {
  within = put-within c.args.places.now 2 _ _ (put-length (get_or c.args.places.now 3 None) _ _ _ c.put_at-2.ensures ∙ put-length (get_or c.args.places.now 4 None) _ _ _ c.put_at.ensures) c.requires.within;
}

pub put_at-requires-4 : goal.put_at-requires-4
put_at-requires-4 c = record {
  within = put-within c.args.places.now 1 _ _ (put-length (get_or c.args.places.now 2 None) _ _ _ c.put_at-3.ensures ∙ put-length (get_or c.args.places.now 3 None) _ _ _ c.put_at-2.ensures ∙ put-length (get_or c.args.places.now 4 None) _ _ _ c.put_at.ensures) c.requires.within;
}

pub put_at-requires-5 : goal.put_at-requires-5
put_at-requires-5 c = record {
  within = put-within c.args.places.now 0 _ _ (put-length (get_or c.args.places.now 1 None) _ _ _ c.put_at-4.ensures ∙ put-length (get_or c.args.places.now 2 None) _ _ _ c.put_at-3.ensures ∙ put-length (get_or c.args.places.now 3 None) _ _ _ c.put_at-2.ensures ∙ put-length (get_or c.args.places.now 4 None) _ _ _ c.put_at.ensures) c.requires.within;
}

pub returns : goal.returns
returns c =
    (put-five c.args.places.now (others_held c.args.held) c.args.cells.now.items c.put_at-5.new.cells.items c.told-places
    (put-more _ _ _ _ _ _ _ c.put_at-5.ensures (put-more _ _ _ _ _ _ _ c.put_at-4.ensures (put-more _ _ _ _ _ _ _ c.put_at-3.ensures
    (put-more _ _ _ _ _ _ _ c.put_at-2.ensures (put-more _ _ _ _ _ _ _ c.put_at.ensures (put-none _))))))).is
