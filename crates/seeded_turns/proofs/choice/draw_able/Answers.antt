use Rattle.std.proofs.Common.{◌∙◌, ap, sym, ◌%◌, ℕ, slice_get, length}
use Rattle.rand_pcg.specs.Lcg.{Lcg}
use Rattle.seeded_turns.specs.Drawn.{able}
use Rattle.seeded_turns.proofs.Able.{some_so}
use Rattle.seeded_turns.proofs.choice.draw_able.Goals as goal

pub returns-clause-some : goal.returns-clause-some
returns-clause-some g c =
    let actors = able (g.M.Machine.can c.args.machine.now) (g.M.Machine.actors c.args.machine.now) in
    let word = ap (λ (p : ℕ × Lcg). p.0) c.next_word.ensures in
    let place = ap (λ (k : ℕ). k % length actors) (sym word) ∙ ap (λ (k : ℕ). c.next_word.result % k) (sym c.list_able-count.ensures.count) in
    some_so c.find_able.result _ _ (λ x found. (
      ap (λ (p : ℕ × Lcg). p.1) c.next_word.ensures,
      ap (slice_get actors) place ∙ found.0,
      found.1,
      found.2,
    )) c.find_able.ensures.due
