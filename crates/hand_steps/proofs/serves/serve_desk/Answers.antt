use Rattle.std.proofs.Common.{◌∙◌, ap}
use Rattle.hand_steps.proofs.Served.{served-none, served-part}
use Rattle.hand_steps.specs.declared.hands.Found.TheVariants.{Nothing, NoSession}
use Rattle.session_steps.specs.volap_cell.specs.Values.{ActorValue}
use Rattle.hand_steps.proofs.serves.serve_desk.Goals as goal

pub do_part-requires-clause-stands : goal.do_part-requires-clause-stands
do_part-requires-clause-stands g c _ _ = c.in-Part.ensures.found.stands

pub do_part-requires-clause-no_command : goal.do_part-requires-clause-no_command
do_part-requires-clause-no_command g c _ _ = ap (λ (a : ActorValue). a.command) c.in-Part.ensures.found.actor ∙ c.requires.idle.free.command

pub do_part-requires-clause-no_job : goal.do_part-requires-clause-no_job
do_part-requires-clause-no_job g c _ _ = ap (λ (a : ActorValue). a.job) c.in-Part.ensures.found.actor ∙ c.requires.idle.free.job

pub returns-in-Part : goal.returns-in-Part
returns-in-Part g c = record { served = served-part c.args.floor.now c.args.server c.args.player.now c.look_for_part.new.player c.do_part.new.player c.requires.idle.free.errand c.in-Part.ensures.found c.do_part.ensures.done }

pub returns-in-Nothing : goal.returns-in-Nothing
returns-in-Nothing g c = record { served = served-none c.args.floor.now c.args.server Nothing c.args.player.now c.look_for_part.new.player c.in-Nothing.ensures.found (λ e. absurd (cc)) }

pub returns-in-NoSession : goal.returns-in-NoSession
returns-in-NoSession g c = record { served = served-none c.args.floor.now c.args.server NoSession c.args.player.now c.look_for_part.new.player c.in-NoSession.ensures.found.0 (λ e. c.in-NoSession.ensures.found.1) }
