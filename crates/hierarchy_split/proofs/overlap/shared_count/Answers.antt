use Rattle.std.proofs.{Common.{ℕ, ◌≡◌, ◌+◌, ◌-◌, Bool, true, false, eqb, List, ◌∷◌, length, take, drop, ap, sym, ◌∙◌, arith}, lemmas.List.take_rest}
use Rattle.std.specs.List.{list_any}
use Rattle.hierarchy_split.specs.Order.{shared_count}
use Rattle.hierarchy_split.proofs.{Shares.{shared_count-last, shared_count-again, shared_count-absent, shared_count-step}, overlap.shared_count.Goals.{then-contains+then-not-contains, else-contains, else-contains-via-then-contains+else-not-contains, else-contains-via-else-contains}}
use Rattle.hierarchy_split.proofs.overlap.shared_count.Goals as goal

-- the test of the rest, as the code's slice has it
rest_has : (xs : List ℕ) (i x : ℕ) (b : Bool) → b ≡ list_any (λ y. eqb y x) (take (length xs - i) (drop i xs)) → list_any (λ y. eqb y x) (drop i xs) ≡ b
rest_has xs i x b e = ap (λ l. list_any (λ y. eqb y x) l) (sym (take_rest xs i)) ∙ sym e

pub loop-i-preserved : goal.loop-i-preserved
loop-i-preserved c =
    let xs = c.args.left.now in
    let ys = c.args.right.now in
    let x = c.index-left-i.result in
    let i = c.loop-i.i in
    let rest = drop (i + 1) xs in
    let count = c.loop-i.count in
    let total = shared_count xs ys in
    elim c.if-contains.branch [
      | then-contains+then-not-contains w ↦
          let here = shared_count-last x rest ys true (rest_has xs (i + 1) x false w.if-not-contains.ensures.value) (sym w.if-contains.ensures.value) in
          (shared_count-step xs ys i x 1 count c.if-contains.count total c.loop-i-test.true c.index-left-i.is here c.loop-i.invariant.0 w.count-is, omega (arith, c.loop-i.invariant.1, w.count-is))
      | else-contains w ↦
          let none : shared_count (x ∷ rest) ys ≡ 0 + shared_count rest ys = elim w.else-contains.branch [
            | else-contains-via-then-contains+else-not-contains v ↦ let again = shared_count-again x rest ys (rest_has xs (i + 1) x true v.if-not-contains.ensures.value) in omega (arith, again)
            | else-contains-via-else-contains v ↦ let absent = shared_count-absent x rest ys (sym v.if-contains.ensures.value) in omega (arith, absent)
          ] in
          (shared_count-step xs ys i x 0 count c.if-contains.count total c.loop-i-test.true c.index-left-i.is none c.loop-i.invariant.0 (omega (arith, w.count-is)), omega (arith, c.loop-i.invariant.1, w.count-is))
    ]
