use Rattle.std.proofs.Common.{◌≤◌, ℕ, List, [], ◌∷◌, ◌++◌, length, true, false, Option, None, ap, ◌∙◌, arith, slice_index_or}
use Rattle.turn_table.specs.Seat.{slots_of, values_of}
use Rattle.turn_table.proofs.Seats.{told_emptied, told_front, take_all, drop_all, length_numbers}
use Rattle.turn_table.proofs.table.TurnTable.empty_slots.Goals as goal

pub take_front-value-requires-clause-front : goal.take_front-value-requires-clause-front
take_front-value-requires-clause-front g c = told_front (values_of c.args.place.now.me.1) c.loop-told.told-index c.args.row.now _ c.requires.row.0 c.loop-told-test.true (ap (λ m. m.1) c.loop-told.invariant.slots)

pub loop-told-preserved : goal.loop-told-preserved
loop-told-preserved g c =
    let ps : List (ℕ × g.row.C-Cell.Denot) = values_of c.args.place.now.me.1 in
    let told : ℕ × Option ℕ = slice_index_or c.args.row.now c.loop-told.told-index (0, None) in
    let t = told_emptied ps c.loop-told.told-index c.args.row.now _ _ c.requires.row.0 c.loop-told-test.true (ap (λ m. m.1) c.loop-told.invariant.slots) c.take_front-value.ensures.value in record {
      table = c.take_front-value.ensures.same.0 ∙ c.loop-told.invariant.table;
      id = c.take_front-value.ensures.same.1 ∙ c.loop-told.invariant.id;
      slots = c.take_front-value.ensures.slots ∙ (λ i. ((ap (λ m. m.0) c.loop-told.invariant.slots) i, t.0 i));
      held = c.with-held.ensures ∙ (ap (λ zs. zs ++ (told.0, c.take_front-value.result) ∷ []) c.loop-told.invariant.held ∙ t.1);
    }

pub returns-clause-values : goal.returns-clause-values
returns-clause-values g c = let ps : List (ℕ × g.row.C-Cell.Denot) = values_of c.args.place.now.me.1 in
    let all : length ps ≤ c.loop-told.told-index = let t : length c.args.row.now ≤ c.loop-told.told-index = c.loop-told-test.false in omega (arith, ap length c.requires.row.0, length_numbers ps, length_numbers c.args.row.now) in
    c.loop-told.invariant.held ∙ take_all ps c.loop-told.told-index all

pub returns-clause-slots : goal.returns-clause-slots
returns-clause-slots g c = let ps : List (ℕ × g.row.C-Cell.Denot) = values_of c.args.place.now.me.1 in
    let all : length ps ≤ c.loop-told.told-index = let t : length c.args.row.now ≤ c.loop-told.told-index = c.loop-told-test.false in omega (arith, ap length c.requires.row.0, length_numbers ps, length_numbers c.args.row.now) in
    c.loop-told.invariant.slots ∙ (λ i. (c.args.place.now.me.0, slots_of false (drop_all ps c.loop-told.told-index all i) ++ slots_of true (take_all ps c.loop-told.told-index all i)))
