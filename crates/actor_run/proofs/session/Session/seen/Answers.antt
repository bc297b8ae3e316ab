use Rattle.std.proofs.Common.{◌∙◌, length, ap}
use Rattle.actor_run.specs.Sessions.{SessionValue}
use Rattle.actor_run.proofs.session.Session.seen.Goals as goal

pub returns : goal.returns
returns c = c.self.invariant.count ∙ ap (λ (v : SessionValue). length v.seen) c.self.view_is
