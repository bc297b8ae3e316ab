use Rattle.std.proofs.{Common.{◌≡◌, ◌∙◌, length, take, reverse, arith}, lemmas.Grind.common_steps}
use Rattle.answer_text.proofs.MarkFacts.{marks_more, past_length, past_more}
use Rattle.answer_text.proofs.notes.Notes.read_at.Goals as goal

pub returns : goal.returns
returns c =
    let past = reverse (take c.args.i c.args.events.now) in
    let e = c.index-events-i.result in
    let at : length past ≡ c.in-Ok.position = past_length c.args.events.now c.args.i (omega arith) ∙ grind (arith, common_steps) in
    let has = c.in_ok-note.ensures in
    rw (past_more c.args.events.now c.args.i e c.requires.within c.index-events-i.is)
    (marks_more (length c.args.events.now) c.args.self.now c.note.new.self past e c.in-Ok.position c.requires.known at has.begins has.ends has.pages has.splits)
