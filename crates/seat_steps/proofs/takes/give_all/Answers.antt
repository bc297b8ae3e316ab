use Rattle.std.proofs.Common.{◌≡◌, ◌∙◌, ℕ, ◌<◌, List, length, Option, Some, ap, sym, subst}
use Rattle.list_words.specs.Counts.{Each}
use Rattle.seat_steps.specs.Floors.{AreTold, at_block, kept_by}
use Rattle.seat_steps.proofs.Left.{less-without}
use Rattle.seat_steps.proofs.Told.{alone-left, keeps-named}
use Rattle.turn_table.specs.Numbered.{value_of}
use Rattle.turn_table.proofs.Numbered.{find_same}
use Rattle.core_due.specs.volap_cell.specs.{Values.actor_of, declared.actor.Actor.Actor}
use Rattle.seat_steps.proofs.takes.give_all.Goals as goal

pub give-requires-clause-held : goal.give-requires-clause-held
give-requires-clause-held c =
    let seat = c.loop-cell.player.seat in
    let told = c.in-Some.ensures.some in
    find_same seat.ranks seat.view.held c.in-Some.cell told.0 (sym c.loop-cell.invariant.seated.holds.rows) (ap (λ (l : List (ℕ × Option ℕ)). value_of l c.in-Some.cell) (sym c.held.ensures.ranks) ∙ told.1)

pub give-requires-clause-free : goal.give-requires-clause-free
give-requires-clause-free c keeps =
    let p = c.loop-cell.player in
    c.in-Some.ensures.other (keeps-named c.kept_by-kept.result (actor_of p.actor) c.in-Some.cell (c.kept_by-kept.ensures ∙ ap (λ (a : Actor). kept_by (actor_of a)) (sym c.loop-cell.invariant.gave.actor)) keeps)

pub loop-cell-smaller : goal.loop-cell-smaller
loop-cell-smaller c =
    let ranks = c.loop-cell.player.seat.ranks in
    let told = c.in-Some.ensures.some in
    subst (λ (l : List (ℕ × Option ℕ)). length l < length ranks) (sym c.give.ensures.gave.ranks) (less-without ranks c.in-Some.cell told.0 (ap (λ (l : List (ℕ × Option ℕ)). value_of l c.in-Some.cell) (sym c.held.ensures.ranks) ∙ told.1))

pub returns-clause-stands : goal.returns-clause-stands
returns-clause-stands c =
    let p = c.loop-cell.player in
    let kept = c.kept_by-kept.result in
    let same : at_block kept ≡ kept_by (actor_of p.actor) = c.kept_by-kept.ensures ∙ ap (λ (a : Actor). kept_by (actor_of a)) (sym c.loop-cell.invariant.gave.actor) in
    record {
      seated = c.loop-cell.invariant.seated;
      bare = alone-left kept p.seat.ranks c.held.ensures.apart (subst (λ (l : List (ℕ × Option ℕ)). AreTold p.seat.ranks l) (sym same) c.loop-cell.invariant.seated.kept) (subst (λ (l : List (ℕ × Option ℕ)). Each (λ told. kept ≡ Some told.0) l) c.held.ensures.ranks c.in_default.ensures.none)
          ∙ same;
    }
