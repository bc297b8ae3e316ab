use Rattle.std.proofs.{Common.{◌∙◌, ◌≡◌, ap, false, get_or, None, Some, sym, true}, lemmas.List.get_or_read}
use Rattle.seeded_run.specs.Look.{rests}
use Rattle.seeded_run.proofs.{Cursors.Firstly.{all-rest, first-busy, first-idle, kept-look, rests-so}, Holding.LeftAlone.apart, IdleHands.hands-noted}
use Rattle.seeded_run.proofs.machine.Running.look_first.Goals as goal

pub first_waiting-begun-requires : goal.first_waiting-begun-requires
first_waiting-begun-requires c = (let m = c.args.self.now in record { kept = kept-look m c.requires.kept m.begun m.first c.note.new.self c.requires.kept.begun })

pub returns-then-rests-clause-held : goal.returns-then-rests-clause-held
returns-then-rests-clause-held c =
    let m = c.args.self.now in
    let n = c.args.number in
    let hands = c.note.new.self in
    let place = get_or_read m.state.actors.items n _ c.requires.within c.index.ensures None in
    let read = get_or_read m.state.actors.items n _ c.requires.within c.index-2.ensures None in
    let resting : rests (get_or m.state.actors.items n None) ≡ true = sym (c.if-rests.ensures ∙ ap rests read) in
    let begun = c.first_waiting-begun.ensures in
    record {
      kept = kept-look m c.requires.kept c.first_waiting-begun.result c.session_at-self.result hands begun.begun;
      first = λ order.
          first-idle m c.requires.kept order (all-rest m c.requires.kept n c.requires.within c.requires.alone order resting) c.first_waiting-begun.result begun.begun begun.waits
          ∙ sym c.session_at-self.ensures;
      hands = hands-noted m n hands _ c.requires.kept c.requires.hands place c.note.ensures.own c.note.ensures.others;
    }

pub returns-else-rests-clause-held : goal.returns-else-rests-clause-held
returns-else-rests-clause-held c =
    let m = c.args.self.now in
    let n = c.args.number in
    let hands = c.note.new.self in
    let place = get_or_read m.state.actors.items n _ c.requires.within c.index.ensures None in
    let read = get_or_read m.state.actors.items n _ c.requires.within c.index-2.ensures None in
    let busy : rests (get_or m.state.actors.items n None) ≡ false = sym (c.if-rests.ensures ∙ ap rests read) in
    record {
      kept = kept-look m c.requires.kept m.begun (Some n) hands c.requires.kept.begun;
      first = λ order. first-busy m c.requires.kept order n (sym (rests-so m c.requires.kept n c.requires.within) ∙ busy);
      hands = hands-noted m n hands _ c.requires.kept c.requires.hands place c.note.ensures.own c.note.ensures.others;
    }

pub returns-then-not-self-clause-held : goal.returns-then-not-self-clause-held
returns-then-not-self-clause-held c =
    let m = c.args.self.now in
    let n = c.args.number in
    let hands = c.note.new.self in
    let place = get_or_read m.state.actors.items n _ c.requires.within c.index.ensures None in
    record {
      kept = kept-look m c.requires.kept m.begun m.first hands c.requires.kept.begun;
      first = λ order. apart m.in_order order c.if-not-self.true;
      hands = hands-noted m n hands _ c.requires.kept c.requires.hands place c.note.ensures.own c.note.ensures.others;
    }
