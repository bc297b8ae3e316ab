use Rattle.std.proofs.{Common.{◌≡◌, true, false, reverse, arith}, lemmas.List.length-reverse}
use Rattle.row_ledger.specs.Past.{has_ended}
use Rattle.answer_text.proofs.MarkFacts.{noted-ended}
use Rattle.answer_text.proofs.index.Index.is_over.Goals as goal

pub returns-then-is_some : goal.returns-then-is_some
returns-then-is_some c =
    let known = noted-ended (reverse c.args.self.now.events.now) c.args.self.now.notes.now.ends.items c.args.position c.args.self.now.known.marks.ends (omega (arith, length-reverse c.args.self.now.events.now)) in
    let over : has_ended (reverse c.args.self.now.events.now) c.args.position ≡ true = cc in
    rw over c.if-is_some.true

pub returns-else-is_some : goal.returns-else-is_some
returns-else-is_some c =
    let known = noted-ended (reverse c.args.self.now.events.now) c.args.self.now.notes.now.ends.items c.args.position c.args.self.now.known.marks.ends (omega (arith, length-reverse c.args.self.now.events.now)) in
    let open_yet : has_ended (reverse c.args.self.now.events.now) c.args.position ≡ false = cc in
    rw (open_yet, c.get.ensures) c.ends_itself.ensures
