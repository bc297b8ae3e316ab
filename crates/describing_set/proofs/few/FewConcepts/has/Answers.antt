use Rattle.std.proofs.Common.{ℕ, sym, ap, ◌∙◌, arith}
use Rattle.std.specs.{List.list_any, Prelude.{◌==◌, Contains}}
use Rattle.arrayvec.specs.ArrayVec.{ArrayVec}
use Rattle.describing_set.proofs.{Covering.{means, has-Contains}, Membership.{any-take, any-six, read}}
use Rattle.describing_set.proofs.few.FewConcepts.has.Goals as goal

pub returns-clause-test : goal.returns-clause-test
returns-clause-test c =
    let xs = c.self.inside.places in
    let id = c.args.id in
    let i = c.self.invariant in
    let len = i.long in
    let all = any-take c.self.inside.count xs id i c.requires in
    let v = ap (λ (s : ArrayVec ℕ). list_any (λ x. x == id) s.items) c.self.view_is in
    let p = read xs 0 c.index-p-0.result id c.eq.result (omega (arith, len)) c.eq.ensures in
    let q = read xs 1 c.index-p-1.result id c.eq-2.result (omega (arith, len)) c.eq-2.ensures in
    let r = read xs 2 c.index-p-2.result id c.eq-3.result (omega (arith, len)) c.eq-3.ensures in
    let s = read xs 3 c.index-p-3.result id c.eq-4.result (omega (arith, len)) c.eq-4.ensures in
    let t = read xs 4 c.index-p-4.result id c.eq-5.result (omega (arith, len)) c.eq-5.ensures in
    let u = read xs 5 c.index-p-5.result id c.eq-6.result (omega (arith, len)) c.eq-6.ensures in
    rw p (rw q (rw r (rw s (rw t (rw u (sym (any-six xs id len) ∙ sym all ∙ v))))))

pub returns-clause-meaning : goal.returns-clause-meaning
returns-clause-meaning c =
    let xs = c.args.self.now.items in
    means _ (list_any (λ x. x == c.args.id) xs) (Contains xs c.args.id) (returns-clause-test c) (has-Contains xs c.args.id)
