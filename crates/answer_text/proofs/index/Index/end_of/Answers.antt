use Rattle.std.proofs.{Common.{reverse, arith}, lemmas.List.length-reverse}
use Rattle.row_ledger.specs.Past.{end_in}
use Rattle.answer_text.proofs.MarkFacts.{noted-event, noted-position}
use Rattle.answer_text.proofs.index.Index.end_of.Goals as goal

pub event_at-requires : goal.event_at-requires
event_at-requires c =
    rw (c.noted_at.ensures, c.deref.ensures.value)
    (noted-position end_in (reverse c.args.self.now.events.now) c.args.self.now.notes.now.ends.items c.args.position c.args.self.now.known.marks.ends (omega (arith, length-reverse c.args.self.now.events.now)))

pub returns : goal.returns
returns c =
    rw (c.event_at.ensures, c.noted_at.ensures, c.deref.ensures.value)
    (noted-event end_in (reverse c.args.self.now.events.now) c.args.self.now.notes.now.ends.items c.args.position c.args.self.now.known.marks.ends (omega (arith, length-reverse c.args.self.now.events.now)))
