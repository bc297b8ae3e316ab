use Rattle.std.proofs.Common.{◌≡◌, ◌∙◌, ℕ, List, [], ◌∷◌, ◌++◌, length, cond, eq-eqb, refl, sym, ap, arith}
use mathlib.Core.Option.{some}
use Rattle.turn_table.proofs.Numbered.{find_here}
use Rattle.row_ledger.specs.declared.event.Event.{Event}
use Rattle.whole_steps.specs.seat_steps.specs.declared.floor.Floor.{Floor}
use Rattle.turn_table.specs.{Numbered.{value_of, without}, Seat.SeatValue}
use Rattle.whole_steps.specs.volap_cell.specs.declared.{actor.Actor.Actor, cell.Cell.Cell}
use Rattle.actor_run.proofs.cursor_tests.visit_beside.Goals as goal

-- where no cell is held, one that is taken is there, and none is left when it is given back

held-alone : {A : Type 0} (held : List (ℕ × A)) (cell : ℕ) (x : A) → held ≡ [] → value_of (held ++ (cell, x) ∷ []) cell ≡ some x
held-alone held cell x none = ap (λ l. value_of (l ++ (cell, x) ∷ []) cell) none ∙ find_here [] cell x

none-left : {A : Type 0} (held : List (ℕ × A)) (cell : ℕ) (x : A) → held ≡ [] → without (held ++ (cell, x) ∷ []) cell ≡ []
none-left held cell x none = ap (λ l. without (l ++ (cell, x) ∷ []) cell) none ∙ ap (λ b. cond b [] ((cell, x) ∷ [])) (eq-eqb cell cell refl)

abbrev Value : Type 0
Value = SeatValue Cell Actor Event

pub try_take-requires-clause-own : goal.try_take-requires-clause-own
try_take-requires-clause-own c = c.requires.own ∙ ap (λ (f : Floor). f.table) (sym c.hall.view_is)

pub try_take-requires-clause-cell : goal.try_take-requires-clause-cell
try_take-requires-clause-cell c = (omega (arith, c.len.ensures), ap (λ (l : List (ℕ × Cell)). value_of l c.args.cell) c.requires.empty)

pub try_take-requires-clause-room : goal.try_take-requires-clause-room
try_take-requires-clause-room c = omega (arith, ap (length {A = ℕ × Cell}) c.requires.empty)

pub release-requires-clause-own : goal.release-requires-clause-own
release-requires-clause-own c = ap (λ (s : Value). s.table_id) c.in-Ok.ensures.ok.1 ∙ c.requires.own ∙ ap (λ (f : Floor). f.table) (sym c.hall.view_is)

pub release-requires-clause-held : goal.release-requires-clause-held
release-requires-clause-held c =
    let took = c.in-Ok.ensures.ok in
    (took.0, ap (λ (s : Value). value_of s.view.held c.args.cell) took.1 ∙ held-alone c.args.seat.now.view.held c.args.cell took.0 c.requires.empty)

pub release-requires-clause-home : goal.release-requires-clause-home
release-requires-clause-home c = ap (λ (s : Value). s.lifted) c.in-Ok.ensures.ok.1 ∙ c.requires.home

pub release-requires-clause-free : goal.release-requires-clause-free
release-requires-clause-free c j x has needs =
    c.requires.idle j x c.args.cell (ap (λ (s : Value). value_of s.view.actors j) (sym c.in-Ok.ensures.ok.1) ∙ has) needs

pub returns-in-Err : goal.returns-in-Err
returns-in-Err c =
    let same = c.in-Err.ensures.err.3 in
    record {
      own = ap (λ (s : Value). s.table_id) same ∙ c.requires.own;
      empty = ap (λ (s : Value). s.view.held) same ∙ c.requires.empty;
      home = ap (λ (s : Value). s.lifted) same ∙ c.requires.home;
      idle = λ j x y has. c.requires.idle j x y (ap (λ (s : Value). value_of s.view.actors j) (sym same) ∙ has);
    }

pub returns-in-Ok : goal.returns-in-Ok
returns-in-Ok c =
    let took = c.in-Ok.ensures.ok in
    let gave = c.release.ensures.seat in
    record {
      own = ap (λ (s : Value). s.table_id) gave ∙ ap (λ (s : Value). s.table_id) took.1 ∙ c.requires.own;
      empty = ap (λ (s : Value). s.view.held) gave ∙ ap (λ (s : Value). without s.view.held c.args.cell) took.1 ∙ none-left c.args.seat.now.view.held c.args.cell took.0 c.requires.empty;
      home = ap (λ (s : Value). s.lifted) gave ∙ ap (λ (s : Value). s.lifted) took.1 ∙ c.requires.home;
      idle = λ j x y has. c.requires.idle j x y (sym (ap (λ (s : Value). value_of s.view.actors j) took.1) ∙ sym (ap (λ (s : Value). value_of s.view.actors j) gave) ∙ has);
    }
