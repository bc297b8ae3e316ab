use Rattle.job_steps.proofs.ends.spares_of.Goals as goal

pub returns-clause-same : goal.returns-clause-same
returns-clause-same c = λ i. record c.args.player.now { actor = record c.args.player.now.actor { purse = c.last_two.ensures.unchanged i } }
