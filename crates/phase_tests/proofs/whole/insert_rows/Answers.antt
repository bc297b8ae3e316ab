use Rattle.std.proofs.Common.{◌≡◌, ◌∙◌, ap}
use Rattle.hall_hands.specs.actor_run.specs.Sessions.{SessionValue}
use Rattle.phase_tests.proofs.Pairing.{one-in}
use Rattle.phase_tests.proofs.whole.insert_rows.Goals as goal

pub returns-clause-all : goal.returns-clause-all
returns-clause-all g c =
    let taken = c.pass-first.ensures.taken in
    let number = c.end.ensures.made.number ∙ ap (λ (s : SessionValue). s.number) c.insert_three-acked.ensures.same ∙ c.new-session.ensures.made.number ∙ taken.number_is in
    one-in c.args.passes.now c.pass-first.new.passes c.give.new.self c.pass-first.result c.end.result c.requires.paired.all taken number c.give.ensures.given
