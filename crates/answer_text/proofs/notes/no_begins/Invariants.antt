use Rattle.std.proofs.Common.{◌≡◌, ◌<◌, ℕ, [], length, get_or}
use Rattle.answer_text.proofs.notes.no_begins.Given as goal

abbrev pub invariant-loop-session : goal.invariant-loop-session
invariant-loop-session l =
    (length l.begins.items ≡ l._session) × ((s : ℕ) → s < l._session → get_or l.begins.items s [] ≡ [])
