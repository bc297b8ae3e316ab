use Rattle.std.proofs.Common.{◌≤◌, length, take, reverse, arith}
use Rattle.answer_text.proofs.MarkFacts.{marks_further}
use Rattle.answer_text.proofs.notes.Notes.read.Goals as goal

pub loop-i-init : goal.loop-i-init
loop-i-init c =
    let past = reverse (take c.args.self.now.seen c.args.events.now) in
    let low : length past ≤ length c.args.events.now = omega (arith, c.requires.known.seen) in
    marks_further (length c.args.events.now) c.args.self.now past low c.requires.refers c.requires.known.marks
