use Rattle.std.proofs.Common.{refl}
use Rattle.row_ledger.specs.Past.{end_in}
use Rattle.answer_text.specs.{Marks.shown_for, Printed.split_for}
use Rattle.answer_text.proofs.MarkFacts.{begins_none, newest_nothing}
use Rattle.answer_text.proofs.notes.Notes.new.Goals as goal

pub returns : goal.returns
returns c = record {
  seen = refl;
  marks = record {
    begins = begins_none c.in_ok-begins.begins.items c.in_ok-begins.ensures.len c.in_ok-begins.ensures.none;
    ends = newest_nothing end_in c.new.result.items c.new.ensures.items;
    pages = newest_nothing shown_for c.new-2.result.items c.new-2.ensures.items;
    splits = newest_nothing split_for c.new-3.result.items c.new-3.ensures.items;
  };
}
