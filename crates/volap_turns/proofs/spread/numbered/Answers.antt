use Rattle.std.proofs.Common.{◌≡◌, ◌∙◌, ◌+◌, ◌≤◌, ℕ, List, [], ◌∷◌, ◌++◌, length, append_assoc, length-append, sym, ap, arith}
use Rattle.turn_table.specs.Numbered.{numbers_of}
use Rattle.turn_table.proofs.Seats.{numbers_append}
use Rattle.core_told.specs.volap_cell.specs.declared.cell.Cell.{Cell}
use Rattle.volap_turns.proofs.Placed.{length-numbers}
use Rattle.volap_turns.proofs.spread.numbered.Goals as goal

pub push-requires : goal.push-requires
push-requires c =
    let inv = c.loop-next.invariant in
    let few : length c.args.cells ≤ 7 = c.requires.few in
    let all : length c.loop-next.done + length c.loop-next.left ≡ length c.args.cells = sym (length-append c.loop-next.done c.loop-next.left) ∙ ap (λ (l : List (ℕ × Cell)). length l) inv.all in
    let some = ap (λ (l : List (ℕ × Cell)). length l) c.in-Some.ensures.some in
    let many : length c.loop-next.numbers.items ≡ length c.loop-next.done = ap (λ (l : List ℕ). length l) inv.numbers ∙ length-numbers c.loop-next.done in
    (omega arith, omega arith)

pub loop-next-preserved : goal.loop-next-preserved
loop-next-preserved c =
    let inv = c.loop-next.invariant in let n = c.in-Some.next in let done = c.loop-next.done in record {
      numbers = c.push.ensures.items ∙ ap (λ (l : List ℕ). l ++ n.0.0 ∷ []) inv.numbers ∙ sym (numbers_append done (n.0 ∷ [])) ∙ ap (λ (l : List (ℕ × Cell)). numbers_of l) (sym c.with-done.ensures);
      all = ap (λ (l : List (ℕ × Cell)). l ++ n.1) c.with-done.ensures ∙ append_assoc done (n.0 ∷ []) n.1 ∙ ap (λ (l : List (ℕ × Cell)). done ++ l) (sym c.in-Some.ensures.some) ∙ inv.all;
    }
