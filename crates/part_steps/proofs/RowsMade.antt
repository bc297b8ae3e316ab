-- A step of a row over the cells that the actor holds: what is asked for it is so, and the actor has gone on by it.
use Rattle.std.proofs.Common.{◌≡◌, ◌∙◌, ℕ, ◌<◌, ◌≤◌, List, [], ◌∷◌, length, Option, Some, None, sym, ap, subst, arith}
use Rattle.std.specs.Prelude.{⊤}
use Rattle.seat_steps.specs.core_steps.specs.{Places.{numbers, values, values_at}, Rows.{row_asks, row_kind, row_places}, declared.rows.RowStep.RowStep}
use Rattle.seat_steps.specs.core_steps.specs.declared.rows.RowStep.TheVariants as row
use Rattle.dim_hierarchy.specs.Dimension.{Dimension}
use Rattle.part_steps.specs.{Goings.WentOn, Heads.IsToMake}
use Rattle.seat_steps.specs.{Floors.Stands, Made.HasMade, declared.floor.{Floor.Floor, Player.Player}}
use Rattle.part_steps.proofs.{BlocksTaken.are-at, Keeping.row-beside, NoRows.{read-alone, row-not, unread-alone}}
use Rattle.seat_steps.proofs.Around.{around, asked-held}
use Rattle.turn_table.specs.Numbered.{Extends}
use Rattle.seat_steps.specs.volap_cell.specs.Values.{actor_of}
use Rattle.seat_steps.specs.volap_turns.specs.Rows.{AreAt, cells_for}
use Rattle.seat_steps.specs.volap_turns.proofs.Placed.{length-numbers}

-- a step has two cells at least, and seven at most

some-cells : (step : RowStep) → 0 < length (numbers (row_places step))
some-cells (row.Down parent place child first second fresh) = omega arith
some-cells (row.EnterTree map gate root first second fresh top) = omega arith

few-numbers : (places : List (Option ℕ)) → length (numbers places) ≤ length places
few-numbers [] = omega arith
few-numbers (None ∷ places) = (let rest = few-numbers places in omega arith)
few-numbers (Some y ∷ places) = (let rest = few-numbers places in omega arith)

seven-places : (step : RowStep) → length (row_places step) ≡ 7
seven-places (row.Down parent place child first second fresh) = omega arith
seven-places (row.EnterTree map gate root first second fresh top) = omega arith

module _ (f : Floor) (p : Player) (step : RowStep) (ready : IsToMake f p step) where
  as-many : length p.seat.view.held ≡ length (numbers (row_places step))
  as-many = sym (length-numbers p.seat.view.held) ∙ ap (λ (l : List ℕ). length l) ready.held

  pub row-some : 0 < length p.seat.view.held
  row-some = (let many = as-many in let some = some-cells step in omega arith)

  pub row-few : length p.seat.view.held ≤ 7
  row-few = (let many = as-many in let few = few-numbers (row_places step) in let seven = seven-places step in omega arith)

  pub row-at : AreAt (row_places step) p.seat.view.held
  row-at = (let (s, w, a) = around f p ready.seated in are-at (row_places step) p.seat.view.held ready.held (ready.prepared s w a).apart)

  -- what is asked is so of the cells that are held
  pub row-asked : row_asks step f.hierarchy (values (cells_for p.seat.view.held (row_places step))) (actor_of p.actor)
  row-asked =
      let (s, w, a) = around f p ready.seated in
      asked-held f p s w a (row_places step) (row_asks step f.hierarchy) row-at
      (subst (λ (h : List Dimension). row_asks step h (values_at w.cells (row_places step)) (w.actors p.number)) a.about (ready.prepared s w a).asked)

pub went-row : (f : Floor) (was now : Player) (step : RowStep) → Stands f now → Extends now.seat.view.seen was.seat.view.seen
    → HasMade f.hierarchy (row_kind step) (λ s w n. ⊤) (λ a was now. ⊤) (row_places step) was now → WentOn f was now
went-row f was now step stands seen made = record {
  stands = stands;
  number = made.number;
  beside = row-beside step made.went.makes;
  seen = seen;
  unvisited = λ u. absurd (row-not f.hierarchy (actor_of was.actor) (actor_of now.actor) u.e u.errand (unread-alone u) step _ made.went.makes.does);
  counted = made.counted;
  alone = λ k. absurd (row-not f.hierarchy (actor_of was.actor) (actor_of now.actor) k.unread.e k.unread.errand (unread-alone k.unread) step _ made.went.makes.does);
  over = λ k. absurd (row-not f.hierarchy (actor_of was.actor) (actor_of now.actor) k.e k.errand (read-alone k) step _ made.went.makes.does);
}
