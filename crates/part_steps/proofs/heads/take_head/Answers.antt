use Rattle.std.proofs.Common.{◌≡◌, ℕ, ◌≤◌, [], ◌∷◌, length, None, refl, sym, subst, arith}
use Rattle.seat_steps.specs.core_steps.specs.Places.{numbers}
use Rattle.part_steps.specs.{Heads.{AreUpToBlocks, InAll, TakesAll, head_at, places_behind}, declared.heads.Head.Head}
use Rattle.seat_steps.specs.{Floors.IsSeated, declared.floor.Player.Player}
use Rattle.part_steps.proofs.{BlocksTaken.{held-more, taken-there, takes-on, takes-one, up-still}, FullHeads.{AreLeft, full-is, full-left, room-is}}
use Rattle.seat_steps.proofs.Around.{around}
use Rattle.part_steps.proofs.heads.take_head.Goals as goal
use Rattle.seat_steps.specs.volap_turns.specs.Rows.{IsThere}

pub take-requires-clause-cell : goal.take-requires-clause-cell
take-requires-clause-cell g c = (let k = around c.args.floor.now c.args.player.now c.requires.seated in (c.requires.can k.0 k.1 k.2).within.0)

pub take-requires-clause-other : goal.take-requires-clause-other
take-requires-clause-other g c = (let k = around c.args.floor.now c.args.player.now c.requires.seated in (c.requires.can k.0 k.1 k.2).other.0)

pub take-requires-clause-rank : goal.take-requires-clause-rank
take-requires-clause-rank g c = λ k r e. (c.requires.ranks k r e, λ same ne. absurd (ne refl))

pub is_full_at-requires-clause-held : goal.is_full_at-requires-clause-held
is_full_at-requires-clause-held g c = (taken-there (takes-one c.args.group.head c.args.player.now c.take.new.player c.take.ensures.took)).0

pub take_behind-requires-clause-seated : goal.take_behind-requires-clause-seated
take_behind-requires-clause-seated g c = subst (IsSeated c.args.floor.now) (sym c.is_full_at.ensures.same) c.take.ensures.seated

pub take_behind-requires-clause-held : goal.take_behind-requires-clause-held
take_behind-requires-clause-held g c =
    let took = takes-one c.args.group.head c.args.player.now c.take.new.player c.take.ensures.took in
    subst (λ (x : Player). IsThere x.seat.view.held c.args.group.head) (sym c.is_full_at.ensures.same) (taken-there took).0

pub take_behind-requires-clause-can : goal.take_behind-requires-clause-can
take_behind-requires-clause-can g c =
    let f = c.args.floor.now in
    let was = c.args.player.now in
    let mid = c.take.new.player in
    let took = takes-one c.args.group.head was mid c.take.ensures.took in
    let look = c.is_full_at in
    subst (λ (x : Player). AreLeft f c.args.group c.args.last c.args.before x) (sym look.ensures.same)
    (full-left f c.args.group c.args.last c.args.before was mid took c.requires.seated c.requires.can look.result (taken-there took).0 look.ensures.seen c.if-is_full_at.true)

pub take_behind-requires-clause-ranks : goal.take_behind-requires-clause-ranks
take_behind-requires-clause-ranks g c =
    subst (λ (x : Player). AreUpToBlocks x.seat.ranks) (sym c.is_full_at.ensures.same) (up-still (takes-one c.args.group.head c.args.player.now c.take.new.player c.take.ensures.took) c.requires.ranks)

pub take_behind-requires-clause-room : goal.take_behind-requires-clause-room
take_behind-requires-clause-room g c =
    let more = held-more (takes-one c.args.group.head c.args.player.now c.take.new.player c.take.ensures.took) in
    subst (λ (x : Player). length x.seat.view.held ≤ 3) (sym c.is_full_at.ensures.same) (omega (arith, more, c.requires.room))

pub returns-then-is_full_at-clause-head : goal.returns-then-is_full_at-clause-head
returns-then-is_full_at-clause-head g c =
    let f = c.args.floor.now in
    let was = c.args.player.now in
    let mid = c.take.new.player in
    let took = takes-one c.args.group.head was mid c.take.ensures.took in
    let look = c.is_full_at in
    let rest = c.take_behind in
    let more = subst (λ (x : Player). TakesAll (numbers (places_behind rest.result)) x rest.new.player) look.ensures.same rest.ensures.took in
    full-is f c.args.group c.args.last c.args.before was mid took c.requires.seated c.requires.can look.result (taken-there took).0 look.ensures.seen c.if-is_full_at.true rest.new.player rest.result rest.ensures.head c.take.ensures.seated more

pub returns-then-is_full_at-clause-took : goal.returns-then-is_full_at-clause-took
returns-then-is_full_at-clause-took g c =
    let was = c.args.player.now in
    let mid = c.take.new.player in
    let rest = c.take_behind in
    let more = subst (λ (x : Player). TakesAll (numbers (places_behind rest.result)) x rest.new.player) c.is_full_at.ensures.same rest.ensures.took in
    subst (λ (y : ℕ). TakesAll (y ∷ numbers (places_behind rest.result)) was rest.new.player) (sym rest.ensures.at) (takes-on was mid rest.new.player (takes-one c.args.group.head was mid c.take.ensures.took) more)

pub returns-clause-seated : goal.returns-clause-seated
returns-clause-seated g c = subst (IsSeated c.args.floor.now) (sym c.is_full_at.ensures.same) c.take.ensures.seated

pub returns-clause-head : goal.returns-clause-head
returns-clause-head g c =
    let f = c.args.floor.now in
    let was = c.args.player.now in
    let mid = c.take.new.player in
    let took = takes-one c.args.group.head was mid c.take.ensures.took in
    let look = c.is_full_at in
    let head : Head = record { at = c.args.group.head; first = None; second = None; fresh = None; top = None } in
    subst (λ (x : Player). InAll f x (λ w. head ≡ head_at w c.args.group c.args.last c.args.before)) (sym look.ensures.same)
    (room-is f c.args.group c.args.last c.args.before was mid took c.requires.seated c.requires.can look.result (taken-there took).0 look.ensures.seen c.if-is_full_at.false)

pub returns-clause-took : goal.returns-clause-took
returns-clause-took g c =
    let was = c.args.player.now in
    subst (λ (x : Player). TakesAll (c.args.group.head ∷ []) was x) (sym c.is_full_at.ensures.same) (takes-one c.args.group.head was c.take.new.player c.take.ensures.took)
