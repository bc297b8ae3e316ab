use Rattle.std.proofs.{Common.{◌+◌, arith, refl, set, subst, sym, true}, lemmas.Nat.mod_below}
use Rattle.seeded_run.proofs.{Surveys.{AreMarked, marks-no-more, marks-one}, survey.carried_by.Goals.{in-Some, in_default}}
use Rattle.seeded_run.proofs.survey.carried_by.Goals as goal

pub loop-number-init : goal.loop-number-init
loop-number-init c = record { count = refl; set = λ n block low. absurd (omega (arith, low)) }

pub loop-number-preserved : goal.loop-number-preserved
loop-number-preserved c =
    let actors = c.args.actors.now in
    let marks = c.loop-number.carried in
    let n = c.loop-number.number in
    elim c.match-carried_at.branch [
      | in-Some w ↦
          subst (λ m. AreMarked actors m (n + 1)) (sym w.carried-is)
          (subst (λ k. AreMarked actors (set marks k true) (n + 1)) (sym w.mark_of.ensures)
          (marks-one actors marks n c.loop-number.invariant c.carried_at.result c.carried_at.ensures w.in-Some.block w.in-Some.is (mod_below w.in-Some.block 256 (omega arith))))
      | in_default w ↦ subst (λ m. AreMarked actors m (n + 1)) (sym w.carried-is) (marks-no-more actors marks n c.loop-number.invariant c.carried_at.result c.carried_at.ensures w.in_default.is)
    ]

pub returns : goal.returns
returns c = λ n block low. c.loop-number.invariant.set n block (omega (arith, low))
