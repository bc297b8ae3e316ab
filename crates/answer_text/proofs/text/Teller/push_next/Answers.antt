use Rattle.std.proofs.{Common.{◌≤◌, length, take, drop, reverse}, lemmas.List.{length-take-le, take_rest}}
use Rattle.script_run.proofs.PlaceFacts.{places_behind-length}
use Rattle.answer_text.proofs.{ToldLines.phase_behind-is, ToldPlaces.places-are}
use Rattle.answer_text.proofs.text.Teller.push_next.Goals as goal

pub push_phase-requires-clause-same : goal.push_phase-requires-clause-same
push_phase-requires-clause-same c =
    rw (take_rest c.args.commands.now c.args.self.now.told, c.deref.ensures.value, c.in_ok-places.ensures.places) (places_behind-length _ _ _ _)

pub push_phase-requires-clause-places : goal.push_phase-requires-clause-places
push_phase-requires-clause-places c =
    rw (c.deref.ensures.value, c.in_ok-places.ensures.places) (places-are _ _ _ _)

pub returns-clause-text : goal.returns-clause-text
returns-clause-text c =
    let cs = c.args.commands.now in
    let start = c.args.self.now.told in
    let within : start ≤ length cs = c.requires.within in
    let pushed = rw (take_rest cs start, c.deref.ensures.value, c.in_ok-places.ensures.places, c.of-index.ensures) at c.in_ok-push_phase.ensures in
    rw (phase_behind-is c.args.with.now (take start cs) (drop start cs) (reverse c.args.events.now), length-take-le start cs within) pushed
