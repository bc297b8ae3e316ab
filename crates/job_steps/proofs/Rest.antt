-- An actor that held nothing has taken cells of a step, in whatever order: what is left of the step's cells can be taken, and all of
-- them are held in the end.
use Rattle.std.proofs.Common.{◌≡◌, ◌≢◌, ℕ, ◌+◌, ◌<◌, ◌≤◌, List, [], ◌∷◌, ◌++◌, length, Option, None, sym, ap, subst, arith}
use Rattle.std.specs.Prelude.{⊤}
use mathlib.Core.Option.{none}
use Rattle.seat_steps.specs.core_due.specs.Ready.{IsLendable}
use Rattle.seat_steps.specs.core_steps.specs.{Jobs.job_places, Places.numbers, declared.jobs.JobStep.JobStep}
use Rattle.job_steps.proofs.Cells.{takes-one}
use Rattle.job_steps.specs.{Dues.IsJobDue, Turns.{AreInOrder, IsBehind, MayTake, TakesSome}}
use Rattle.list_words.proofs.Each.{each-both, each-here, each-left, each-map, each-right}
use Rattle.list_words.specs.Counts.{Each}
use Rattle.seat_steps.proofs.{Around.{around, within}, Ranks.order-none, Since.{nothing-held, nothing-told}}
use Rattle.seat_steps.specs.{Floors.{IsSeated, Stands}, Takes.Takes, declared.floor.{Floor.Floor, Player.Player}}
use Rattle.turn_table.specs.{Numbered.value_of, Seat.{IsInOrder, cell_count}}
use Rattle.seat_steps.specs.volap_cell.specs.{State.AreDifferent, Values.actor_of, declared.cell.Cell.Cell}
use Rattle.seat_steps.specs.volap_turns.specs.Rows.{AreAt}

-- Numbers that are apart.

apart-left : (ys zs : List ℕ) → AreDifferent (ys ++ zs) → AreDifferent ys
apart-left [] zs a = tt
apart-left (y ∷ ys) zs a = (each-left (λ z. z ≢ y) ys zs a.0, apart-left ys zs a.1)

apart-right : (ys zs : List ℕ) → AreDifferent (ys ++ zs) → AreDifferent zs
apart-right [] zs a = a
apart-right (y ∷ ys) zs a = apart-right ys zs a.1

apart-between : (ys zs : List ℕ) → AreDifferent (ys ++ zs) → Each (λ z. Each (λ y. z ≢ y) ys) zs
apart-between [] zs a = each-here (λ z. Unit {0}) zs (λ z among. tt)
apart-between (y ∷ ys) zs a = each-both (λ z. z ≢ y) (λ z. Each (λ x. z ≢ x) ys) (λ z. Each (λ x. z ≢ x) (y ∷ ys)) zs (λ z ne rest. (ne, rest)) (each-right (λ z. z ≢ y) ys zs a.0) (apart-between ys zs a.1)

-- The cells of a step that is due.
module _ (f : Floor) (p : Player) (seated : IsSeated f p) (step : JobStep) (due : IsJobDue f p step) where
  pub all-within : Each (λ y. y < cell_count f.table) (numbers (job_places step))
  all-within =
      let it = around f p seated in
      each-map (IsLendable it.0 it.1 p.number ⊤) (λ y. y < cell_count f.table) (numbers (job_places step)) (λ y can. within f p it.0 it.1 it.2 y can.within) (due.prepared it.0 it.1 it.2).cells

  pub all-apart : AreDifferent (numbers (job_places step))
  all-apart = (let it = around f p seated in (due.prepared it.0 it.1 it.2).apart)

module _ (f : Floor) (p : Player) (stands : Stands f p) (no_part : (actor_of p.actor).errand ≡ None) where
  off-all : (k : ℕ) → value_of p.seat.view.held k ≡ none
  off-all k = ap (λ (l : List (ℕ × Cell)). value_of l k) (nothing-held stands no_part)

  order-all : (cell rank : ℕ) → IsInOrder p.seat.ranks cell rank
  order-all cell rank = subst (λ (l : List (ℕ × Option ℕ)). IsInOrder l cell rank) (sym (nothing-told stands no_part)) (order-none cell rank)

  none-held : length p.seat.view.held ≡ 0
  none-held = ap (λ (l : List (ℕ × Cell)). length l) (nothing-held stands no_part)

  -- the first cell
  pub first-some : {cell rank : ℕ} {q : Player} → Takes cell rank p q → TakesSome (cell ∷ []) rank p q
  first-some {cell} {rank} took = takes-one (off-all cell) (order-all cell rank) took

  -- or the first two
  pub first-may : (ys zs : List ℕ) → Each (λ y. y < cell_count f.table) (ys ++ zs) → AreDifferent (ys ++ zs) → length ys ≤ 7 → MayTake f p ys
  first-may ys zs low apart few = record {
    within = each-left (λ y. y < cell_count f.table) ys zs low;
    apart = apart-left ys zs apart;
    other = each-here (λ y. value_of p.seat.view.held y ≡ none) ys (λ y among. off-all y);
    room = (let many = none-held in omega (arith, many, few));
  }

  pub first-order : (x y rank : ℕ) → AreInOrder p (x ∷ y ∷ []) rank
  first-order x y rank = (order-all x rank, (order-all y rank, tt))

  -- others behind them
  pub rest-may : {rank : ℕ} {q : Player} (xs ys zs : List ℕ) → TakesSome xs rank p q → Each (λ y. y < cell_count f.table) (xs ++ (ys ++ zs)) → AreDifferent (xs ++ (ys ++ zs)) → length xs + length ys ≤ 7 → MayTake f q ys
  rest-may {rank} {q} xs ys zs took low apart few = record {
    within = each-left (λ y. y < cell_count f.table) ys zs (each-right (λ y. y < cell_count f.table) xs (ys ++ zs) low);
    apart = apart-left ys zs (apart-right xs (ys ++ zs) apart);
    other = each-map (λ y. Each (λ x. y ≢ x) xs) (λ y. value_of q.seat.view.held y ≡ none) ys (λ y off. took.others y (off-all y) off) (each-left (λ y. Each (λ x. y ≢ x) xs) ys zs (apart-between xs (ys ++ zs) apart));
    room = (let none = none-held in let many = took.count in omega (arith, none, many, few));
  }

  -- all of them
  pub all-at : {rank : ℕ} {q : Player} (row : List (Option ℕ)) → TakesSome (numbers row) rank p q → AreDifferent (numbers row) → AreAt row q.seat.view.held
  all-at row took apart = record { there = took.there; apart = apart; count = (let none = none-held in let many = took.count in omega (arith, none, many)) }

-- a higher rank may be told for two cells, or for three

pub behind-two : (q : Player) (low rank x y : ℕ) → low < rank → IsBehind q low → AreInOrder q (x ∷ y ∷ []) rank
behind-two q low rank x y lower behind = (behind x rank lower, (behind y rank lower, tt))

pub behind-three : (q : Player) (low rank x y z : ℕ) → low < rank → IsBehind q low → AreInOrder q (x ∷ y ∷ z ∷ []) rank
behind-three q low rank x y z lower behind = (behind x rank lower, (behind y rank lower, (behind z rank lower, tt)))
