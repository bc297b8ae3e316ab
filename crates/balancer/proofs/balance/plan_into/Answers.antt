use Rattle.std.proofs.Common.{◌≡◌, if◌then◌else◌, is_ok, true, ◌++◌, [], ◌∷◌, sym, ap, ◌∙◌, arith, Some, None}
use Rattle.shard_plan.specs.declared.action.Action.TheVariants.{Move, Split}
use Rattle.balancer.specs.Turn.{next_action, rows_of_all}
use Rattle.balancer.proofs.{Loads.rows_of_all-move, Plans.{plan-ends, plan-splits, plan-moves}}
use Rattle.balancer.proofs.balance.plan_into.Goals as goal

pub returns-in_default : goal.returns-in_default
returns-in_default c =
    let planned : None ≡ next_action c.loop-turn.standing c.args.workers = sym c.in_default.is ∙ c.next_action.ensures in
    plan-ends c.loop-turn.actions.items _ c.loop-turn.standing c.args.workers c.args.n c.loop-turn._turn c.loop-turn-test.true c.loop-turn.invariant.planned planned

pub returns-in-Split : goal.returns-in-Split
returns-in-Split c =
    let ok : is_ok c.push-pushed.result ≡ true = sym c.is_ok.ensures.value ∙ c.if-prove.false in
    let pushed : c.push-pushed.new.self.items ≡ c.loop-turn.actions.items ++ c.in-Some.action ∷ [] = c.push-pushed.ensures.items ∙ (λ k. if ok k then c.loop-turn.actions.items ++ c.in-Some.action ∷ [] else c.loop-turn.actions.items) in
    let planned : Some (Split c.in-Split.shard) ≡ next_action c.loop-turn.standing c.args.workers = ap Some (sym c.in-Split.is) ∙ sym c.in-Some.is ∙ c.next_action.ensures in
    pushed ∙ ap (λ a. c.loop-turn.actions.items ++ a ∷ []) c.in-Split.is
    ∙ plan-splits c.loop-turn.actions.items _ c.loop-turn.standing c.args.workers c.args.n c.loop-turn._turn c.in-Split.shard c.loop-turn-test.true c.loop-turn.invariant.planned planned

pub loop-turn-preserved : goal.loop-turn-preserved
loop-turn-preserved c =
    let standing = c.loop-turn.standing in
    let ok : is_ok c.push-pushed.result ≡ true = sym c.is_ok.ensures.value ∙ c.if-prove.false in
    let pushed : c.push-pushed.new.self.items ≡ c.loop-turn.actions.items ++ c.in-Some.action ∷ [] = c.push-pushed.ensures.items ∙ (λ k. if ok k then c.loop-turn.actions.items ++ c.in-Some.action ∷ [] else c.loop-turn.actions.items) in
    let planned : Some (Move c.in-Move.shard c.in-Move.worker) ≡ next_action standing c.args.workers = ap Some (sym c.in-Move.is) ∙ sym c.in-Some.is ∙ c.next_action.ensures in
    record {
      bound = omega (arith, ap rows_of_all c.move_shard.ensures, rows_of_all-move standing c.in-Move.shard c.in-Move.worker, c.loop-turn.invariant.bound);
      room = omega (arith, c.loop-turn.invariant.room, c.loop-turn-test.true, c.push-pushed.ensures.capacity, c.push-pushed.ensures.upper_bound);
      planned =
          plan-moves c.loop-turn.actions.items _ _ standing _ c.args.workers c.args.n c.loop-turn._turn c.in-Move.shard c.in-Move.worker c.loop-turn-test.true c.loop-turn.invariant.planned planned
          (pushed ∙ ap (λ a. c.loop-turn.actions.items ++ a ∷ []) c.in-Move.is) c.move_shard.ensures;
    }
