use Rattle.std.proofs.Common.{◌∙◌, ◌+◌, ℕ, List, arith, subst, sym}
use Rattle.seeded_turns.proofs.{Able.{AreSeen, able_few, sees_none, sees_one}, choice.list_able.Goals.{else-is_some, then-is_some}}
use Rattle.seeded_turns.proofs.choice.list_able.Goals as goal

pub overflow_add-seen : goal.overflow_add-seen
overflow_add-seen g c = let few = able_few (g.M.Machine.can c.args.machine.now) c.loop-actor.actor in omega arith

pub loop-actor-preserved : goal.loop-actor-preserved
loop-actor-preserved g c =
    let can = g.M.Machine.can c.args.machine.now in
    let n = c.loop-actor.actor in
    let seen = c.loop-actor.seen in
    let told = sym c.due_by.ensures.can ∙ sym c.is_some.ensures in
    elim c.if-is_some.branch [
      | then-is_some w ↦ subst (λ (xs : List ℕ). AreSeen can (n + 1) c.if-is_some.seen xs) (sym w.listed-is) (subst (λ (k : ℕ). AreSeen can (n + 1) k w.list_at.new.listed) (sym w.seen-is)
          (sees_one can n seen c.loop-actor.listed c.loop-actor.invariant w.list_at.new.listed (told ∙ w.if-is_some.true) w.list_at.ensures.own w.list_at.ensures.others))
      | else-is_some w ↦ subst (λ (xs : List ℕ). AreSeen can (n + 1) c.if-is_some.seen xs) (sym w.listed-is) (subst (λ (k : ℕ). AreSeen can (n + 1) k c.loop-actor.listed) (sym w.seen-is)
          (sees_none can n seen c.loop-actor.listed c.loop-actor.invariant (told ∙ w.if-is_some.false)))
    ]
