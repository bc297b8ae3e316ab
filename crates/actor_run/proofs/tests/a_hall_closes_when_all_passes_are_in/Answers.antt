use Rattle.std.proofs.Common.{◌∙◌, ℕ, ◌+◌, ◌==◌, if◌then◌else◌, List, count_by, ap, subst, arith}
use Rattle.actor_run.specs.Passes.{AreAllIn, HasGiven, HasTaken, PassValue, PassesValue}
use Rattle.actor_run.proofs.Missing.{none-counted}
use Rattle.actor_run.proofs.tests.a_hall_closes_when_all_passes_are_in.Goals as goal

-- two passes are out and in again
all-back : (p0 p1 p2 p3 p4 : PassesValue) (a b : PassValue) (m n : ℕ) → AreAllIn p0 → HasTaken m p0 p1 a → HasTaken n p1 p2 b → HasGiven b p2 p3 → HasGiven a p3 p4 → AreAllIn p4
all-back p0 p1 p2 p3 p4 a b m n all first second third last = none-counted p4.out (λ k.
    let none = ap (λ (l : List ℕ). count_by (λ x. x == k) l) all in
    let one = first.out k in
    let two = second.out k in
    let back = third.out k ∙ ap (λ (j : ℕ). count_by (λ x. x == k) p3.out + (if k == j then 1 else 0)) second.number_is in
    let over = last.out k ∙ ap (λ (j : ℕ). count_by (λ x. x == k) p4.out + (if k == j then 1 else 0)) first.number_is in
    omega (arith, none, one, two, back, over))

pub close-state-requires-clause-all : goal.close-state-requires-clause-all
close-state-requires-clause-all g c =
    let same = c.in-None-take.ensures.same ∙ c.in-None.ensures.same in
    all-back c.in_ok-hall.passes c.take.new.self c.take-2.new.self c.give.new.self c.give-2.new.self c.in-Some.first c.in-Some-take.second 0 1 c.in_ok-hall.ensures.all c.in-Some.ensures.some c.in-Some-take.ensures.some
    (subst (λ (p : PassesValue). HasGiven c.in-Some-take.second p c.give.new.self) same c.give.ensures.given) c.give-2.ensures.given
