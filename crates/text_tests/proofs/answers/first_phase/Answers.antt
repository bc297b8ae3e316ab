use Rattle.std.proofs.Common.{◌≡◌}
use Rattle.answer_text.specs.Told.{seen_of}
use Rattle.text_tests.proofs.answers.first_phase.Goals as goal

pub phase-requires-clause-told : goal.phase-requires-clause-told
phase-requires-clause-told c = c.tellers_go_on.ensures.new _ _ _ c.in_ok-teller.teller c.in_ok-teller.ensures

pub phase-requires-clause-refers : goal.phase-requires-clause-refers
phase-requires-clause-refers c =
    let none : seen_of c.in_ok-teller.teller ≡ 0 = (c.in_ok-teller.ensures.has record { servers = 0; workers = 0; threads = 0; cells = 0 }).notes.seen in
    rw none tt
