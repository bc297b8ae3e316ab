use Rattle.std.proofs.Common.{◌≡◌, reverse, sym, subst, take, arith}
use Rattle.answer_text.specs.Notes.{Knows}
use Rattle.answer_text.proofs.text.Teller.of.Goals as goal

pub read-requires-clause-within : goal.read-requires-clause-within
read-requires-clause-within c =
    let none : c.in_ok-teller.teller.notes.seen ≡ 0 = (c.in_ok-teller.ensures.has c.args.with.now).notes.seen in
    omega (arith, none)

pub read-requires-clause-known : goal.read-requires-clause-known
read-requires-clause-known c =
    let has = c.in_ok-teller.ensures.has c.args.with.now in
    let none : c.in_ok-teller.teller.notes.seen ≡ 0 = has.notes.seen in
    subst (λ n. Knows c.in_ok-teller.teller.notes (reverse (take n c.args.events.now))) (sym none) has.notes

pub read-requires-clause-refers : goal.read-requires-clause-refers
read-requires-clause-refers c =
    let none : c.in_ok-teller.teller.notes.seen ≡ 0 = (c.in_ok-teller.ensures.has c.args.with.now).notes.seen in
    rw none tt

pub returns-clause-read : goal.returns-clause-read
returns-clause-read c =
    let has = c.in_ok-teller.ensures.has c.args.with.now in
    record { told = has.told; counts = has.counts; notes = c.in_ok-read.ensures }
