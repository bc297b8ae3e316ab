use Rattle.std.proofs.Common.{◌∙◌, ℕ, List, ◌∷◌, ◌++◌, Option, Some, sym, ap}
use Rattle.core_steps.specs.Places.{thing_at}
use Rattle.turn_table.specs.Numbered.{value_of}
use Rattle.turn_table.proofs.Order.{in_front}
use Rattle.core_told.specs.volap_cell.specs.declared.cell.Cell.{Cell}
use Rattle.volap_turns.proofs.spread.next.Goals as goal

pub returns-in-Some-clause-same : goal.returns-in-Some-clause-same
returns-in-Some-clause-same c = λ k.
    let o = c.take_out-cell.ensures.others in
    let n = c.in-Some.number in
    let cell = c.take_out-cell.result.0 in
    ap (λ (l : List (ℕ × Cell)). value_of l k) o.2 ∙ sym (in_front o.0 o.1 n cell o.4 k) ∙ ap (λ (l : List (ℕ × Cell)). value_of ((n, cell) ∷ l) k) (sym o.3)
    ∙ ap (λ (p : Option ℕ). value_of (thing_at p (Some cell) ++ c.take_out-cell.result.1) k) (sym c.in-Some.is)
