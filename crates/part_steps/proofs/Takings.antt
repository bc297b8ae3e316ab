-- Turns that may be waited for, by the ranks that were told; and cells that then stand at the places of a step.
use Rattle.std.proofs.Common.{◌≡◌, ◌≢◌, ◌∙◌, ℕ, ◌<◌, List, [], ◌∷◌, ◌++◌, Option, Some, length, refl, sym, ap, subst, arith}
use mathlib.Core.Logic.{dite}
use mathlib.Core.Option.{some}
use native.Mathlib.Decide.{ℕ_discrete}
use Rattle.seat_steps.specs.core_steps.specs.Places.{numbers}
use Rattle.list_words.specs.Counts.{Each}
use Rattle.part_steps.specs.Parts.{MayWaitFor}
use Rattle.seat_steps.specs.{Floors.IsSeated, Takes.Takes, declared.floor.{Floor.Floor, Player.Player}}
use Rattle.seat_steps.proofs.{Ranks.{order-more, order-none}, Left.no-numbers}
use Rattle.turn_table.specs.{Numbered.{numbers_of, value_of}, Seat.cell_count}
use Rattle.turn_table.proofs.{Numbered.{find_else, find_here, none_same}, Seats.numbers_append}
use Rattle.seat_steps.specs.volap_cell.specs.{State.AreDifferent, declared.cell.Cell.Cell}
use Rattle.seat_steps.specs.volap_turns.specs.Rows.{AreAt, IsThere}
use Rattle.seat_steps.specs.volap_turns.proofs.Placed.{length-numbers}

-- what has a number in a list is found there
there-in : (ps all : List (ℕ × Cell)) → ((k : ℕ) (x : Cell) → value_of ps k ≡ some x → IsThere all k) → Each (IsThere all) (numbers_of ps)
there-in [] all find = tt
there-in (p ∷ ps) all find = (
  find p.0 p.1 (find_here ps p.0 p.1),
  there-in ps all (λ k x e. dite (ℕ_discrete p.0 k) (λ (same : p.0 ≡ k). find k p.1 (ap (value_of (p ∷ ps)) (sym same) ∙ find_here ps p.0 p.1)) (λ (ne : p.0 ≢ k). find k x (find_else ps p.0 k p.1 ne ∙ e))),
)

module _ (f : Floor) (p : Player) (seated : IsSeated f p) where
  count : (ranks : List (ℕ × Option ℕ)) → p.seat.ranks ≡ ranks → length p.seat.view.held ≡ length ranks
  count ranks is = sym (length-numbers p.seat.view.held) ∙ ap (λ (l : List ℕ). length l) seated.holds.rows ∙ length-numbers p.seat.ranks ∙ ap (λ (l : List (ℕ × Option ℕ)). length l) is

  pub none-held : p.seat.ranks ≡ [] → p.seat.view.held ≡ []
  none-held bare = no-numbers p.seat.view.held (seated.holds.rows ∙ ap (λ (l : List (ℕ × Option ℕ)). numbers_of l) bare)

  -- a first turn
  pub first-turn : (cell rank : ℕ) → cell < cell_count f.table → p.seat.ranks ≡ [] → MayWaitFor f p cell rank
  first-turn cell rank within bare = record {
    within = within;
    other = ap (λ (l : List (ℕ × Cell)). value_of l cell) (none-held bare);
    order = λ k r e. order-none cell rank k r (ap (λ (l : List (ℕ × Option ℕ)). value_of l k) (sym bare) ∙ e);
    room = (let many = count [] bare in omega (arith, many));
  }

  -- a second one, of a higher rank
  pub second-turn : (cell rank first low : ℕ) → cell < cell_count f.table → p.seat.ranks ≡ (first, Some low) ∷ [] → low < rank → cell ≢ first → MayWaitFor f p cell rank
  second-turn cell rank first low within ranks lower other = record {
    within = within;
    other = none_same p.seat.ranks p.seat.view.held cell (sym seated.holds.rows) (ap (λ (l : List (ℕ × Option ℕ)). value_of l cell) ranks ∙ find_else [] first cell (Some low) (λ e. other (sym e)));
    order = λ k r e. order-more [] first low cell rank (omega (arith, lower), λ same. absurd (omega (arith, lower, same))) (order-none cell rank) k r (ap (λ (l : List (ℕ × Option ℕ)). value_of l k) (sym ranks) ∙ e);
    room = (let many = count ((first, Some low) ∷ []) ranks in omega (arith, many));
  }

  -- a cell for which a rank was told is held
  pub told-held : (ranks : List (ℕ × Option ℕ)) → p.seat.ranks ≡ ranks → Each (IsThere p.seat.view.held) (numbers_of ranks)
  told-held ranks is =
      subst (Each (IsThere p.seat.view.held)) (seated.holds.rows ∙ ap (λ (l : List (ℕ × Option ℕ)). numbers_of l) is) (there-in p.seat.view.held p.seat.view.held (λ k x e. (x, e)))

  -- the held cells are those of a step
  pub all-at : (row : List (Option ℕ)) → numbers row ≡ numbers_of p.seat.ranks → AreDifferent (numbers row) → AreAt row p.seat.view.held
  all-at row same apart = record {
    there = subst (Each (IsThere p.seat.view.held)) (sym same) (told-held p.seat.ranks refl);
    apart = apart;
    count = sym (length-numbers p.seat.view.held) ∙ ap (λ (l : List ℕ). length l) (seated.holds.rows ∙ sym same);
  }

-- the number of a cell that was taken stands behind the others
pub numbers-taken : (cell rank : ℕ) (was now : Player) → Takes cell rank was now → numbers_of now.seat.ranks ≡ numbers_of was.seat.ranks ++ cell ∷ []
numbers-taken cell rank was now took = ap (λ (l : List (ℕ × Option ℕ)). numbers_of l) took.ranks ∙ numbers_append was.seat.ranks ((cell, Some rank) ∷ [])
