use Rattle.std.proofs.Common.{◌≡◌, ℕ, List, length, ap, ◌∙◌, arith}
use Rattle.turn_table.specs.Seat.{values_of}
use Rattle.turn_table.proofs.{Emptied.{all_taken, none_taken, one_taken}, Seats.{pair_path, told_front}}
use Rattle.turn_table.proofs.table.TurnTable.take_one.Goals as goal

pub take_at-requires-clause-front : goal.take_at-requires-clause-front
take_at-requires-clause-front g c =
    let ps : List (ℕ × g.row.C-Cell.Denot) = values_of c.args.place.now.me.1 in
    let row = c.args.row.now in
    let count : length row ≡ 1 = c.requires.row.1 in
    let s0 = none_taken c.args.place.now.me.1 c.requires.full in
    told_front ps 0 row _ c.requires.row.0 (omega arith) s0

pub returns-clause-values : goal.returns-clause-values
returns-clause-values g c =
    let ps : List (ℕ × g.row.C-Cell.Denot) = values_of c.args.place.now.me.1 in
    let row = c.args.row.now in
    let count : length row ≡ 1 = c.requires.row.1 in
    let s0 = none_taken c.args.place.now.me.1 c.requires.full in
    let s1 = one_taken ps 0 row c.args.place.now.me.1 c.take_at.new.place.me.1 c.take_at.result c.requires.row.0 (omega arith) s0 c.take_at.ensures.number c.take_at.ensures.value (ap (λ m. m.1) c.take_at.ensures.slots) in
    let all = all_taken ps 1 row c.take_at.new.place.me.1 c.requires.row.0 count s1.0 in
    s1.1 ∙ all.1

pub returns-clause-slots : goal.returns-clause-slots
returns-clause-slots g c =
    let ps : List (ℕ × g.row.C-Cell.Denot) = values_of c.args.place.now.me.1 in
    let row = c.args.row.now in
    let count : length row ≡ 1 = c.requires.row.1 in
    let s0 = none_taken c.args.place.now.me.1 c.requires.full in
    let s1 = one_taken ps 0 row c.args.place.now.me.1 c.take_at.new.place.me.1 c.take_at.result c.requires.row.0 (omega arith) s0 c.take_at.ensures.number c.take_at.ensures.value (ap (λ m. m.1) c.take_at.ensures.slots) in
    let all = all_taken ps 1 row c.take_at.new.place.me.1 c.requires.row.0 count s1.0 in
    pair_path (ap (λ m. m.0) c.take_at.ensures.slots) all.0
