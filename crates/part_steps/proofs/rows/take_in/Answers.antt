use Rattle.std.proofs.Common.{◌≡◌, ◌∙◌, ℕ, ◌≤◌, length, Option, sym, ap, subst}
use Rattle.seat_steps.specs.core_due.specs.Spares.{last_spare, spare_before}
use Rattle.seat_steps.specs.core_steps.specs.Places.{numbers}
use Rattle.part_steps.specs.Heads.{AreUpToBlocks, CanTake, InAll, TakesAll, head_at, places_of}
use Rattle.seat_steps.specs.{Floors.IsSeated, declared.floor.Player.Player}
use Rattle.part_steps.proofs.RowsIn.{gate-there, in-can, in-taken, in-up, two-held}
use Rattle.part_steps.proofs.rows.take_in.Goals as goal
use Rattle.seat_steps.specs.volap_cell.specs.Values.{actor_of}

pub root_at-group-requires-clause-held : goal.root_at-group-requires-clause-held
root_at-group-requires-clause-held g c = gate-there c.args.floor.now c.args.player.now c.args.map c.args.gate c.requires.seated c.requires.held c.requires.enters

pub take_head-head-requires-clause-seated : goal.take_head-head-requires-clause-seated
take_head-head-requires-clause-seated g c = subst (IsSeated c.args.floor.now) (sym (c.spares_of-last.ensures.same ∙ c.root_at-group.ensures.same)) c.requires.seated

pub take_head-head-requires-clause-can : goal.take_head-head-requires-clause-can
take_head-head-requires-clause-can g c =
    let f = c.args.floor.now in
    let p = c.args.player.now in
    let look = c.root_at-group in
    let two = c.spares_of-last in
    let same = two.ensures.same ∙ look.ensures.same in
    let last : two.result.0 ≡ last_spare (actor_of p.actor).purse = two.ensures.last ∙ ap (λ (x : Player). last_spare (actor_of x.actor).purse) look.ensures.same in
    let before : two.result.1 ≡ spare_before (actor_of p.actor).purse = two.ensures.before ∙ ap (λ (x : Player). spare_before (actor_of x.actor).purse) look.ensures.same in
    subst (λ (x : Player × (Option ℕ × Option ℕ)). InAll f x.0 (λ w. CanTake f x.0 (numbers (places_of (head_at w look.result x.1.0 x.1.1))))) (λ i. (sym same i, (sym last i, sym before i)))
    (in-can f p c.args.map c.args.gate c.requires.seated c.requires.held c.requires.enters look.result look.ensures.seen)

pub take_head-head-requires-clause-ranks : goal.take_head-head-requires-clause-ranks
take_head-head-requires-clause-ranks g c =
    subst (λ (x : Player). AreUpToBlocks x.seat.ranks) (sym (c.spares_of-last.ensures.same ∙ c.root_at-group.ensures.same)) (in-up c.args.floor.now c.args.player.now c.args.map c.args.gate c.requires.seated c.requires.held c.requires.enters)

pub take_head-head-requires-clause-room : goal.take_head-head-requires-clause-room
take_head-head-requires-clause-room g c =
    subst (λ (x : Player). length x.seat.view.held ≤ 2) (sym (c.spares_of-last.ensures.same ∙ c.root_at-group.ensures.same)) (two-held c.args.floor.now c.args.player.now c.args.map c.args.gate c.requires.seated c.requires.held c.requires.enters)

pub returns : goal.returns
returns g c =
    let f = c.args.floor.now in
    let p = c.args.player.now in
    let look = c.root_at-group in
    let two = c.spares_of-last in
    let took = c.take_head-head in
    let last : two.result.0 ≡ last_spare (actor_of p.actor).purse = two.ensures.last ∙ ap (λ (x : Player). last_spare (actor_of x.actor).purse) look.ensures.same in
    let before : two.result.1 ≡ spare_before (actor_of p.actor).purse = two.ensures.before ∙ ap (λ (x : Player). spare_before (actor_of x.actor).purse) look.ensures.same in
    let taken = subst (λ (x : Player). TakesAll (numbers (places_of took.result)) x took.new.player) (two.ensures.same ∙ look.ensures.same) took.ensures.took in
    let is = subst (λ (x : Option ℕ × Option ℕ). InAll f took.new.player (λ w. took.result ≡ head_at w look.result x.0 x.1)) (λ i. (last i, before i)) took.ensures.head in
    record {
      same = taken.same;
      ready = in-taken f p c.args.map c.args.gate c.requires.seated c.requires.held c.requires.enters look.result look.ensures.seen took.new.player took.result took.ensures.seated taken is;
    }
