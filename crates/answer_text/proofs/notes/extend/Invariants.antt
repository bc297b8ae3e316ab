use Rattle.std.proofs.Common.{◌≡◌, ℕ, None, length, get_or}
use Rattle.answer_text.proofs.notes.extend.Given as goal

abbrev pub invariant-loop-position : goal.invariant-loop-position
invariant-loop-position l = (length l.noted.items ≡ l._position) × ((p : ℕ) → get_or l.noted.items p None ≡ get_or l.fn.noted.items p None)
