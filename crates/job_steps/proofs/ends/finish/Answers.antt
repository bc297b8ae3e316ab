use Rattle.std.proofs.Common.{ℕ, Option, subst}
use Rattle.job_steps.specs.Dues.{IsToFinish}
use Rattle.seat_steps.specs.volap_cell.specs.Values.{actor_of}
use Rattle.job_steps.proofs.ends.finish.Goals as goal

pub finish_move-requires-clause-finishes : goal.finish_move-requires-clause-finishes
finish_move-requires-clause-finishes g c = subst (λ (o : Option ℕ). IsToFinish c.args.floor.now (actor_of c.args.player.now.actor) c.args.map c.args.gate o) c.in-Some.is c.requires.finishes

pub finish_split-requires-clause-finishes : goal.finish_split-requires-clause-finishes
finish_split-requires-clause-finishes g c = subst (λ (o : Option ℕ). IsToFinish c.args.floor.now (actor_of c.args.player.now.actor) c.args.map c.args.gate o) c.in-None.is c.requires.finishes
