use Rattle.std.proofs.Common.{◌∙◌, ℕ, ◌<◌, List, [], ◌∷◌, ◌++◌, length, Option, Some, ap, subst, sym}
use Rattle.session_steps.proofs.Servers.{places-are}
use Rattle.part_steps.specs.seat_steps.proofs.WithLedger.{held-below, one-below, order-image}
use Rattle.turn_table.proofs.Numbered.{find_else, none_same}
use Rattle.turn_table.specs.{Numbered.value_of, Seat.IsInOrder}
use Rattle.session_steps.proofs.books.take_image.Goals as goal

pub take-requires-clause-cell : goal.take-requires-clause-cell
take-requires-clause-cell g c = (places-are c.requires.books).0

pub take-requires-clause-other : goal.take-requires-clause-other
take-requires-clause-other g c =
    let seat = c.args.player.now.seat in
    none_same seat.ranks seat.view.held c.args.image (sym c.requires.seated.holds.rows)
    (ap (λ (l : List (ℕ × Option ℕ)). value_of l c.args.image) c.requires.ranks ∙ find_else [] c.args.desk c.args.image (Some 4) (places-are c.requires.books).1)

pub take-requires-clause-rank : goal.take-requires-clause-rank
take-requires-clause-rank g c = subst (λ (l : List (ℕ × Option ℕ)). IsInOrder l c.args.image 5) (sym c.requires.ranks) (order-image c.args.desk c.args.image)

pub take-requires-clause-room : goal.take-requires-clause-room
take-requires-clause-room g c = held-below c.args.floor.now c.args.player.now c.requires.seated 7 (subst (λ (l : List (ℕ × Option ℕ)). length l < 7) (sym c.requires.ranks) one-below)

pub returns-clause-ranks : goal.returns-clause-ranks
returns-clause-ranks g c = c.take.ensures.took.ranks ∙ ap (λ (l : List (ℕ × Option ℕ)). l ++ (c.args.image, Some 5) ∷ []) c.requires.ranks
