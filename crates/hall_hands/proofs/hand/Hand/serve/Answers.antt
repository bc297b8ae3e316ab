use Rattle.std.proofs.Common.{subst}
use Rattle.hall_hands.proofs.HandOver.{hand-idle, hand-served, hand-stands, hand-still, worker-there}
use Rattle.hall_hands.specs.Hands.{HandValue, HasServedAll, hand_of}
use Rattle.hall_hands.proofs.hand.Hand.serve.Goals as goal

pub serve-requires-clause-stands : goal.serve-requires-clause-stands
serve-requires-clause-stands g c _ _ = hand-stands c.self.inside.hall.now c.self.inside.worker c.self.inside.player c.self.invariant

pub serve-requires-clause-idle : goal.serve-requires-clause-idle
serve-requires-clause-idle g c _ _ = hand-idle c.self.inside.hall.now c.self.inside.worker c.self.inside.player c.self.invariant

pub serve-requires-clause-worker : goal.serve-requires-clause-worker
serve-requires-clause-worker g c _ _ = worker-there c.self.inside.hall.now c.self.inside.worker c.self.inside.player c.self.invariant

pub invariant_of-self : goal.invariant_of-self
invariant_of-self g c = hand-still c.self.inside.hall.now c.self.inside.worker c.self.inside.player c.self.invariant c.serve.new.player c.serve.ensures.served

pub returns : goal.returns
returns g c = record {
  served = subst (λ (h : HandValue). HasServedAll h (hand_of c.self.inside.hall.now c.self.inside.worker c.serve.new.player)) c.self.view_is
      (hand-served c.self.inside.hall.now c.self.inside.worker c.self.inside.player c.self.invariant c.serve.new.player c.serve.ensures.served);
}
