use Rattle.std.proofs.Common.{ℕ, IfNone, None, Some, Option, refl, subst, arith}
use Rattle.actor_run.specs.Passes.{HasTaken, IsOut, PassesValue, pass_of, passes_of}
use Rattle.actor_run.proofs.Gathered.{here-are, here-view}
use Rattle.actor_run.proofs.Taken.{are-left, has-taken, is-out, is-pass, splits}
use Rattle.actor_run.proofs.passes.Passes.take.Goals as goal

if-none : {T : Type 0} (o : Option T) {P : Type 0} → P → IfNone o P
if-none None p = p
if-none (Some x) p = tt

pub returns-in_err-actor-clause-none : goal.returns-in_err-actor-clause-none
returns-in_err-actor-clause-none c =
    if-none c.from_residual.result (subst (λ (z : ℕ × PassesValue). IsOut z.0 z.1) (λ i. (c.from-number.ensures i, c.self.view_is i)) (is-out c.self.invariant.0 c.from-number.result c.in_err-actor.ensures.none))

pub split_seat-seat-requires-clause-actor : goal.split_seat-seat-requires-clause-actor
split_seat-seat-requires-clause-actor c = (let here = c.in_ok-actor.ensures.some in splits (here-are c.in-Some.is c.self.inside.own c.self.inside.actors.items c.self.invariant.0) here.0 here.1)

pub invariant_of-result : goal.invariant_of-result
invariant_of-result c =
    (let here = c.in_ok-actor.ensures.some in let split = c.split_seat-seat in is-pass (here-are c.in-Some.is c.self.inside.own c.self.inside.actors.items c.self.invariant.0) here.0 here.1 split.result split.ensures.value split.ensures.possible.1)

pub invariant_of-self-2 : goal.invariant_of-self-2
invariant_of-self-2 c =
    let here = c.in_ok-actor.ensures.some in
    let split = c.split_seat-seat.ensures in
    let room = c.taken.ensures.room in
    (are-left (here-are c.in-Some.is c.self.inside.own c.self.inside.actors.items c.self.invariant.0) here.0 here.1 split.seat c.taken.ensures.now split.possible.0, omega (arith, c.self.invariant.1, room.0, room.1), refl)

pub returns-clause-some : goal.returns-clause-some
returns-clause-some c =
    let here = c.in_ok-actor.ensures.some in
    let split = c.split_seat-seat in
    let pass = pass_of (record { number = c.from-number.result; actor = c.in_ok-actor.actor; seat = split.result }) in
    subst (λ (z : ℕ × PassesValue). HasTaken z.0 z.1 (passes_of split.new.seat c.self.inside.own c.taken.new.actors.items) pass) (λ i. (c.from-number.ensures i, here-view c.in-Some.is c.self.inside.own c.self.inside.actors.items c.self.view_is i))
    (has-taken (here-are c.in-Some.is c.self.inside.own c.self.inside.actors.items c.self.invariant.0) here.0 here.1 split.ensures.seat c.taken.ensures.now split.result split.ensures.value)
