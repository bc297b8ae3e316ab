use Rattle.actor_run.proofs.passes.Pass.into_player.Goals as goal

pub returns : goal.returns
returns c = record { pass = c.self.invariant; same = c.self.view_is }
