use Rattle.session_steps.proofs.desks.sum_at.Goals as goal

pub sum_in-requires : goal.sum_in-requires
sum_in-requires c = c.requires.sums _ c.see.ensures.value
