use Rattle.std.proofs.Common.{◌≡◌, ℕ, List, [], ◌∷◌, ◌++◌, length, ap, ◌∙◌, arith}
use Rattle.turn_table.specs.Seat.{values_of}
use Rattle.turn_table.proofs.{Emptied.{all_taken, none_taken, one_taken}, Seats.{pair_path, told_front}}
use Rattle.turn_table.proofs.table.TurnTable.take_two.Goals as goal

pub take_at-a-requires-clause-front : goal.take_at-a-requires-clause-front
take_at-a-requires-clause-front g c =
    let ps : List (ℕ × g.row.C-Cell.Denot) = values_of c.args.place.now.me.1 in
    let row = c.args.row.now in
    let count : length row ≡ 2 = c.requires.row.1 in
    let s0 = none_taken c.args.place.now.me.1 c.requires.full in
    told_front ps 0 row _ c.requires.row.0 (omega arith) s0

pub take_at-b-requires-clause-front : goal.take_at-b-requires-clause-front
take_at-b-requires-clause-front g c =
    let ps : List (ℕ × g.row.C-Cell.Denot) = values_of c.args.place.now.me.1 in
    let row = c.args.row.now in
    let count : length row ≡ 2 = c.requires.row.1 in
    let s0 = none_taken c.args.place.now.me.1 c.requires.full in
    let s1 = one_taken ps 0 row c.args.place.now.me.1 c.take_at-a.new.place.me.1 c.take_at-a.result c.requires.row.0 (omega arith) s0 c.take_at-a.ensures.number c.take_at-a.ensures.value (ap (λ m. m.1) c.take_at-a.ensures.slots) in
    told_front ps 1 row _ c.requires.row.0 (omega arith) s1.0

pub returns-clause-values : goal.returns-clause-values
returns-clause-values g c =
    let ps : List (ℕ × g.row.C-Cell.Denot) = values_of c.args.place.now.me.1 in
    let row = c.args.row.now in
    let count : length row ≡ 2 = c.requires.row.1 in
    let s0 = none_taken c.args.place.now.me.1 c.requires.full in
    let s1 = one_taken ps 0 row c.args.place.now.me.1 c.take_at-a.new.place.me.1 c.take_at-a.result c.requires.row.0 (omega arith) s0 c.take_at-a.ensures.number c.take_at-a.ensures.value (ap (λ m. m.1) c.take_at-a.ensures.slots) in
    let s2 = one_taken ps 1 row c.take_at-a.new.place.me.1 c.take_at-b.new.place.me.1 c.take_at-b.result c.requires.row.0 (omega arith) s1.0 c.take_at-b.ensures.number c.take_at-b.ensures.value (ap (λ m. m.1) c.take_at-b.ensures.slots) in
    let all = all_taken ps 2 row c.take_at-b.new.place.me.1 c.requires.row.0 count s2.0 in
    (ap (λ (l : List (ℕ × g.row.C-Cell.Denot)). l ++ c.take_at-b.result ∷ []) (s1.1) ∙ s2.1) ∙ all.1

pub returns-clause-slots : goal.returns-clause-slots
returns-clause-slots g c =
    let ps : List (ℕ × g.row.C-Cell.Denot) = values_of c.args.place.now.me.1 in
    let row = c.args.row.now in
    let count : length row ≡ 2 = c.requires.row.1 in
    let s0 = none_taken c.args.place.now.me.1 c.requires.full in
    let s1 = one_taken ps 0 row c.args.place.now.me.1 c.take_at-a.new.place.me.1 c.take_at-a.result c.requires.row.0 (omega arith) s0 c.take_at-a.ensures.number c.take_at-a.ensures.value (ap (λ m. m.1) c.take_at-a.ensures.slots) in
    let s2 = one_taken ps 1 row c.take_at-a.new.place.me.1 c.take_at-b.new.place.me.1 c.take_at-b.result c.requires.row.0 (omega arith) s1.0 c.take_at-b.ensures.number c.take_at-b.ensures.value (ap (λ m. m.1) c.take_at-b.ensures.slots) in
    let all = all_taken ps 2 row c.take_at-b.new.place.me.1 c.requires.row.0 count s2.0 in
    pair_path (ap (λ m. m.0) c.take_at-b.ensures.slots ∙ ap (λ m. m.0) c.take_at-a.ensures.slots) all.0
