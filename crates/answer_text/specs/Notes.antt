-- What notes know of a history.
use Rattle.std.specs.Prelude.{ℕ, ◌≡◌, List, length}
use Rattle.row_ledger.specs.{Past.end_in, declared.event.Event.Event}
use Rattle.answer_text.specs.{Marks.{KnowsBegins, KnowsNewest, shown_for}, Printed.split_for, declared.notes.Notes.Notes}

-- the beginnings of this past, and the marks of the commands at the first n positions
pub record KnowsMarks (n : ℕ) (notes : Notes) (past : List Event) : Type 0 where
  pub begins : KnowsBegins notes.begins.items past
  pub ends : KnowsNewest end_in n notes.ends.items past
  pub pages : KnowsNewest shown_for n notes.pages.items past
  pub splits : KnowsNewest split_for n notes.splits.items past

pub record Knows (notes : Notes) (past : List Event) : Type 0 where
  pub seen : notes.seen ≡ length past
  pub marks : KnowsMarks (length past) notes past
