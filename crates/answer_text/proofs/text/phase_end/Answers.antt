use Rattle.std.proofs.{Math.Nat.add-sub_cancel_left, lemmas.List.take_rest}
use Rattle.answer_text.proofs.text.phase_end.Goals as goal

pub returns-clause-phase : goal.returns-clause-phase
returns-clause-phase c =
    let phase = rw (take_rest c.args.commands.now c.args.start) at c.phase_len.ensures.phase in
    rw (add-sub_cancel_left c.args.start c.phase_len.result) phase
