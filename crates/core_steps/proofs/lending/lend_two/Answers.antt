use Rattle.std.proofs.{Common.{◌∙◌, ◌<◌, refl, arith}, lemmas.List.set_comm}
use Rattle.core_steps.proofs.Two.{high-get, low-get, two-set}
use Rattle.core_steps.proofs.lending.lend_two.Goals as goal

pub returns-then-a-b : goal.returns-then-a-b
returns-then-a-b g c =
    let s = c.split_at_mut-low.ensures in
    let lt = c.if-a-b.true in (
      ((refl, refl), two-set _ _ s.value s.front_len lt),
      record { writes_back = tt; first = low-get _ _ s.value s.front_len lt _ c.index-low-a.is; second = high-get _ _ s.value s.front_len lt _ c.index-high-0.is },
    )

pub returns-else-a-b : goal.returns-else-a-b
returns-else-a-b g c =
    let s = c.split_at_mut-low-else-a-b.ensures in
    let le = c.if-a-b.false in
    let apart = c.requires.apart in
    let lt : c.args.b < c.args.a = omega arith in (
      ((refl, refl), λ x y. two-set _ _ s.value s.front_len lt y x ∙ set_comm c.args.places.now c.args.b c.args.a y x apart),
      record { writes_back = tt; first = high-get _ _ s.value s.front_len lt _ c.index-high-0-else-a-b.is; second = low-get _ _ s.value s.front_len lt _ c.index-low-b.is },
    )
