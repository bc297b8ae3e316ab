use Rattle.std.proofs.Common.{ℕ, Option, sym, subst}
use Rattle.seat_steps.specs.core_steps.specs.Places.{number_at}
use Rattle.part_steps.specs.Heads.{AreUpToBlocks, CanTake, TakesAll}
use Rattle.seat_steps.specs.{Floors.IsSeated, declared.floor.Player.Player}
use Rattle.seat_steps.proofs.Around.{around}
use Rattle.part_steps.proofs.heads.take_next.Goals as goal

pub take_if-requires-clause-seated : goal.take_if-requires-clause-seated
take_if-requires-clause-seated g c = subst (IsSeated c.args.floor.now) (sym c.next_behind-next.ensures.same) c.requires.seated

pub take_if-requires-clause-can : goal.take_if-requires-clause-can
take_if-requires-clause-can g c =
    let f = c.args.floor.now in
    let (s, w, a) = around f c.args.player.now c.requires.seated in
    subst (λ (x : Player). CanTake f x (number_at c.next_behind-next.result)) (sym c.next_behind-next.ensures.same)
    (subst (λ (o : Option ℕ). CanTake f c.args.player.now (number_at o)) (sym (c.next_behind-next.ensures.next s w a)) (c.requires.can s w a))

pub take_if-requires-clause-ranks : goal.take_if-requires-clause-ranks
take_if-requires-clause-ranks g c = subst (λ (x : Player). AreUpToBlocks x.seat.ranks) (sym c.next_behind-next.ensures.same) c.requires.ranks

pub returns-clause-took : goal.returns-clause-took
returns-clause-took g c = subst (λ (x : Player). TakesAll (number_at c.next_behind-next.result) x c.take_if.new.player) c.next_behind-next.ensures.same c.take_if.ensures.took
