use Rattle.script_run.proofs.PlaceFacts.{places_behind-length}
use Rattle.answer_text.proofs.ToldPlaces.{places-are}
use Rattle.answer_text.proofs.sums.summary.Goals as goal

pub count_lost-refused-requires-clause-same : goal.count_lost-refused-requires-clause-same
count_lost-refused-requires-clause-same c = rw (c.deref.ensures.value, c.in_ok-places.ensures) (places_behind-length _ _ _ _)

pub count_lost-refused-requires-clause-places : goal.count_lost-refused-requires-clause-places
count_lost-refused-requires-clause-places c = rw (c.deref.ensures.value, c.in_ok-places.ensures) (places-are _ _ _ _)

pub totals-requires-clause-same : goal.totals-requires-clause-same
totals-requires-clause-same c = rw (c.deref-2.ensures.value, c.in_ok-places.ensures) (places_behind-length _ _ _ _)

pub totals-requires-clause-places : goal.totals-requires-clause-places
totals-requires-clause-places c = rw (c.deref-2.ensures.value, c.in_ok-places.ensures) (places-are _ _ _ _)
