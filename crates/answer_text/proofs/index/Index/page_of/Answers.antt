use Rattle.std.proofs.{Common.{reverse, refl, arith}, lemmas.List.length-reverse}
use Rattle.answer_text.specs.Marks.{shown_for}
use Rattle.answer_text.proofs.MarkFacts.{noted-page, noted-position}
use Rattle.answer_text.proofs.index.Index.page_of.Goals as goal

pub event_at-requires : goal.event_at-requires
event_at-requires c =
    rw (c.noted_at.ensures, c.deref.ensures.value)
    (noted-position shown_for (reverse c.args.self.now.events.now) c.args.self.now.notes.now.pages.items c.args.position c.args.self.now.known.marks.pages (omega (arith, length-reverse c.args.self.now.events.now)))

pub returns-in-Some : goal.returns-in-Some
returns-in-Some c =
    let page = noted-page (reverse c.args.self.now.events.now) c.args.self.now.notes.now.pages.items c.args.position c.args.self.now.known.marks.pages (omega (arith, length-reverse c.args.self.now.events.now)) in
    rw (← page, ← c.deref.ensures.value, ← c.noted_at.ensures, ← c.event_at.ensures, c.in-Some.is) c.shown.ensures

pub returns-in-None : goal.returns-in-None
returns-in-None c =
    let page = noted-page (reverse c.args.self.now.events.now) c.args.self.now.notes.now.pages.items c.args.position c.args.self.now.known.marks.pages (omega (arith, length-reverse c.args.self.now.events.now)) in
    rw (← page, ← c.deref.ensures.value, ← c.noted_at.ensures, ← c.event_at.ensures, c.in-None.is) refl
