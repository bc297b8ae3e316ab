use Rattle.std.proofs.Common.{◌≡◌, ◌∙◌, ℕ, ◌≤◌, length, Option, None, sym, ap, subst}
use Rattle.seat_steps.specs.core_due.specs.Spares.{last_spare}
use Rattle.seat_steps.specs.core_steps.specs.Places.{numbers}
use Rattle.part_steps.specs.Heads.{AreUpToBlocks, CanTake, InAll, TakesAll, head_at, places_of}
use Rattle.seat_steps.specs.{Floors.IsSeated, declared.floor.Player.Player}
use Rattle.part_steps.proofs.RowsDown.{block-there, can-pick, down-can, down-taken, down-up, one-held}
use Rattle.part_steps.proofs.rows.take_down.Goals as goal
use Rattle.seat_steps.specs.volap_cell.specs.Values.{actor_of}

pub pick_at-place-requires-clause-held : goal.pick_at-place-requires-clause-held
pick_at-place-requires-clause-held g c = block-there c.args.floor.now c.args.player.now c.args.block c.requires.stands c.requires.descends

pub pick_at-place-requires-clause-can : goal.pick_at-place-requires-clause-can
pick_at-place-requires-clause-can g c = can-pick c.args.floor.now c.args.player.now c.args.block c.requires.stands c.requires.descends

pub take_head-head-requires-clause-seated : goal.take_head-head-requires-clause-seated
take_head-head-requires-clause-seated g c = subst (IsSeated c.args.floor.now) (sym c.pick_at-place.ensures.same) c.requires.stands.seated

pub take_head-head-requires-clause-can : goal.take_head-head-requires-clause-can
take_head-head-requires-clause-can g c =
    let f = c.args.floor.now in
    let p = c.args.player.now in
    let look = c.pick_at-place in
    let last : c.last_spare-last.result ≡ last_spare (actor_of p.actor).purse = c.last_spare-last.ensures ∙ ap (λ (x : Player). last_spare (actor_of x.actor).purse) look.ensures.same in
    subst (λ (x : Player × Option ℕ). InAll f x.0 (λ w. CanTake f x.0 (numbers (places_of (head_at w look.result.1 x.1 None))))) (λ i. (sym look.ensures.same i, sym last i))
    (down-can f p c.args.block c.requires.stands c.requires.descends look.result.0 look.result.1 look.ensures.seen)

pub take_head-head-requires-clause-ranks : goal.take_head-head-requires-clause-ranks
take_head-head-requires-clause-ranks g c = subst (λ (x : Player). AreUpToBlocks x.seat.ranks) (sym c.pick_at-place.ensures.same) (down-up c.args.floor.now c.args.player.now c.args.block c.requires.stands c.requires.descends)

pub take_head-head-requires-clause-room : goal.take_head-head-requires-clause-room
take_head-head-requires-clause-room g c = subst (λ (x : Player). length x.seat.view.held ≤ 2) (sym c.pick_at-place.ensures.same) (one-held c.args.floor.now c.args.player.now c.args.block c.requires.stands c.requires.descends)

pub returns : goal.returns
returns g c =
    let f = c.args.floor.now in
    let p = c.args.player.now in
    let look = c.pick_at-place in
    let took = c.take_head-head in
    let last : c.last_spare-last.result ≡ last_spare (actor_of p.actor).purse = c.last_spare-last.ensures ∙ ap (λ (x : Player). last_spare (actor_of x.actor).purse) look.ensures.same in
    let taken = subst (λ (x : Player). TakesAll (numbers (places_of took.result)) x took.new.player) look.ensures.same took.ensures.took in
    let is = subst (λ (o : Option ℕ). InAll f took.new.player (λ w. took.result ≡ head_at w look.result.1 o None)) last took.ensures.head in
    record {
      same = taken.same;
      ready = down-taken f p c.args.block c.requires.stands c.requires.descends look.result.0 look.result.1 look.ensures.seen took.new.player took.result took.ensures.seated taken is;
    }
