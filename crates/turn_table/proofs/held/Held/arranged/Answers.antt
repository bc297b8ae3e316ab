use Rattle.std.proofs.Common.{◌≡◌, ◌≢◌, ℕ, suc, ◌+◌, ◌≤◌, ◌<◌, List, [], ◌∷◌, ◌++◌, length, take, append-nil, length-append, append_assoc, slice_index_or, sym, ap, ◌∙◌, arith}
use Rattle.std.proofs.Math.Seq.{take-suc, take-length}
use Rattle.turn_table.specs.Numbered.{value_of, numbers_of}
use Rattle.turn_table.proofs.{Order.{behind_same, out_else, in_front, same_order, none_left}, Seats.numbers_append}
use Rattle.turn_table.proofs.held.Held.arranged.Goals as goal

pub with-done-requires : goal.with-done-requires
with-done-requires g c =
    let few : length c.args.self ≤ 7 = c.requires.few in let inside : c.loop-number.number-index < length c.args.numbers.now = c.loop-number-test.true in
    omega (arith, few, inside, c.requires.numbers.count, c.loop-number.invariant.placed)

pub loop-number-preserved : goal.loop-number-preserved
loop-number-preserved g c =
    let inv = c.loop-number.invariant in
    let i : ℕ = c.loop-number.number-index in
    let numbers : List ℕ = c.args.numbers.now in
    let inside : i < length numbers = c.loop-number-test.true in
    let n : ℕ = slice_index_or numbers i 0 in
    let v = c.take_out-value.result.0 in
    let left = c.take_out-value.result.1 in
    let done = c.loop-number.done in
    let o = c.take_out-value.ensures.others in let xs = o.0 in let ys = o.1 in record {
      order = ap numbers_of c.with-done.ensures ∙ (numbers_append done ((n, v) ∷ []) ∙ (ap (λ l. l ++ n ∷ []) inv.order ∙ (sym (take-suc numbers i 0 inside) ∙ (let e : suc i ≡ i + 1 = omega arith in ap (λ j. take j numbers) e))));
      placed = (let e = inv.placed in omega (arith, e, ap length c.with-done.ensures, length-append done ((n, v) ∷ [])));
      count = (let e = inv.count in omega (arith, e, ap length o.2, length-append xs ((n, v) ∷ ys), ap length o.3, length-append xs ys));
      same = λ k. ap (λ l. value_of (l ++ left) k) c.with-done.ensures ∙ (ap (λ l. value_of l k) (append_assoc done ((n, v) ∷ []) left) ∙ (ap (λ l. value_of (done ++ (n, v) ∷ l) k) o.3
          ∙ (behind_same done ((n, v) ∷ (xs ++ ys)) (xs ++ (n, v) ∷ ys) k (in_front xs ys n v o.4 k) ∙ (ap (λ l. value_of (done ++ l) k) (sym o.2) ∙ inv.same k))));
      there = λ j low high. let low' : i < j = omega (arith, low) in let t = inv.there j (omega (arith, low)) high in let m : ℕ = slice_index_or numbers j 0 in
          let ne : m ≢ n = λ e. c.requires.numbers.apart i j 0 low' high (sym e) in (t.0, ap (λ l. value_of l m) o.3 ∙ (out_else xs ys n m v ne ∙ (ap (λ l. value_of l m) (sym o.2) ∙ t.1)));
    }

pub returns-clause-one : goal.returns-clause-one
returns-clause-one g c = λ cells order same. let inv = c.loop-number.invariant in
    let i : ℕ = c.loop-number.number-index in
    let numbers : List ℕ = c.args.numbers.now in
    let done = c.loop-number.done in
    let ends : length numbers ≤ i = c.loop-number-test.false in
    let all : i ≡ length numbers = (let within : i ≤ length numbers = c.loop-number.auto.number-index-end in omega (arith, ends, within)) in
    let count : i + length c.loop-number.left ≡ length numbers = inv.count in
    let left : c.loop-number.left ≡ [] = none_left c.loop-number.left (omega (arith, count, ends)) in
    same_order done cells numbers c.requires.numbers.apart (inv.order ∙ (ap (λ (j : ℕ). take j numbers) all ∙ take-length numbers)) order
    (λ k. ap (λ l. value_of l k) (sym (append-nil done) ∙ ap (λ l. done ++ l) (sym left)) ∙ (inv.same k ∙ sym (same k)))
