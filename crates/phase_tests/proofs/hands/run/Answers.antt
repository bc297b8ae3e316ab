use Rattle.std.proofs.Common.{◌≡◌, ◌∙◌}
use Rattle.phase_tests.proofs.Pairing.{both-in}
use Rattle.phase_tests.proofs.hands.run.Goals as goal

pub close-requires-clause-all : goal.close-requires-clause-all
close-requires-clause-all g c =
    let one = c.pass-first.ensures.taken in
    let two = c.pass-hand.ensures.taken in
    let back = c.ask_beside-first.ensures in
    both-in c.in_ok-hall.passes c.pass-first.new.passes c.pass-hand.new.passes c.give.new.self c.give-2.new.self c.pass-first.result c.pass-hand.result c.ask_beside-first.result.0.0 c.ask_beside-first.result.1
    c.in_ok-hall.ensures.paired.all one two (back.session.1 ∙ c.begin-player.ensures.number ∙ one.number_is) (back.hand.number ∙ two.number_is) c.give.ensures.given c.give-2.ensures.given
