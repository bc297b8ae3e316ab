use Rattle.std.proofs.Common.{◌∙◌}
use Rattle.job_steps.proofs.Made.{goes-since, opened-since}
use Rattle.seat_steps.proofs.Since.{before-unchanged, unchanged-on}
use Rattle.job_steps.proofs.steps.make_or_give_up.Goals as goal

pub give_up-requires-clause-opened : goal.give_up-requires-clause-opened
give_up-requires-clause-opened g c = opened-since (before-unchanged c.in-Err.ensures.same) c.requires.opened

pub give_up-requires-clause-due : goal.give_up-requires-clause-due
give_up-requires-clause-due g c q number actor = c.requires.instead q (number ∙ c.in-Err.ensures.same.number) (actor ∙ c.in-Err.ensures.same.actor)

pub returns-in-Ok : goal.returns-in-Ok
returns-in-Ok g c = record { came = λ p same has. goes-since c.args.floor.now same c.in-Ok.ensures.went }

pub returns-in-Err : goal.returns-in-Err
returns-in-Err g c = record { came = λ p same has. c.give_up.ensures.came p (unchanged-on same (before-unchanged c.in-Err.ensures.same)) has }
