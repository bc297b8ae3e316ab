-- A seat behind a step that was made, or that found no memory.
use Rattle.std.proofs.Common.{◌≡◌, ◌≢◌, ◌∙◌, ℕ, List, Option, Some, Result, Ok, Err, sym, ap, subst}
use Rattle.std.specs.Prelude.{OnErr, OnOk}
use mathlib.Core.Logic.{dite}
use native.Mathlib.Decide.{ℕ_discrete}
use Rattle.volap_turns.specs.core_counts.specs.Counting.{went_after}
use Rattle.core_due.specs.core_steps.specs.Steps.{Went}
use Rattle.row_ledger.specs.declared.event.Event.{Event}
use Rattle.seat_steps.specs.{Floors.{AreTold, IsSeated, kept_by}, Made.{HasMade, IsKeptBy}, Takes.GaveAll, declared.floor.{Floor.Floor, Player.Player}}
use Rattle.seat_steps.proofs.Told.{kept-told}
use Rattle.turn_table.specs.{Numbered.{after_first, value_of}, Seat.{SeatValue, free_rank}, declared.view.View.View}
use Rattle.turn_table.proofs.Numbered.{find_same, replace_else}
use Rattle.core_due.specs.volap_cell.specs.{Cells.CellValue, Setting.Setting, Values.{ActorValue, actor_of}, World.World, declared.actor.Actor.Actor, declared.cell.Cell.Cell, declared.kind.Kind.Kind}
use Rattle.volap_turns.specs.{Rows.cells_for, Seats.{HasStepped, Holds, IsStillHeld}}
use Rattle.volap_turns.proofs.Turned.{numbers-first}

module _ (f : Floor) (was : Player) (kind : Kind) (Sees : Setting → World → ℕ → Type 0) (Tells : ActorValue → (was now : List (Option CellValue)) → Type 0) (row : List (Option ℕ)) (seated : IsSeated f was)
    (kept : IsKeptBy f.hierarchy kind Sees Tells row was) where
  -- what the actor must keep behind the step is still held
  pub left-held : IsStillHeld f.hierarchy kind Sees Tells row was.seat.view.held (actor_of was.actor)
  left-held b now went told y keeps =
      find_same (after_first was.seat.ranks) (after_first was.seat.view.held) y (Some free_rank) (numbers-first was.seat.ranks was.seat.view.held (sym seated.holds.rows)) (kept-told (after_first was.seat.ranks) b y (kept b now went told) keeps)

  -- the actor is at its seat behind it
  pub seated-behind : {T E : Type 0} (r : Result T E) (now : Player) → now.number ≡ was.number → Holds f.hierarchy f.table now.seat now.number now.actor
      → OnOk r (HasStepped f.hierarchy kind Sees Tells row was.seat now.seat was.number was.actor now.actor) → OnErr r ((now.seat ≡ was.seat) × (actor_of now.actor ≡ actor_of was.actor)) → IsSeated f now
  seated-behind (Ok x) now number holds stepped same = record {
    holds = holds;
    alone = λ j x at. dite (ℕ_discrete j was.number)
        (λ (own : j ≡ was.number). own ∙ sym number)
        (λ (ne : j ≢ was.number). seated.alone j x (sym (replace_else was.seat.view.actors was.number j now.actor ne) ∙ ap (λ (v : View Cell Actor Event). value_of v.actors j) (sym stepped.view) ∙ at) ∙ sym number);
    servers = ap (λ (s : Setting). s.servers) stepped.setting ∙ seated.servers;
    workers = ap (λ (s : Setting). s.workers) stepped.setting ∙ seated.workers;
    kept = subst (λ (l : List (ℕ × Option ℕ)). AreTold l (kept_by (actor_of now.actor))) (sym stepped.ranks) (kept (actor_of now.actor) (cells_for stepped.new row) stepped.went stepped.told);
  }
  seated-behind (Err x) now number holds stepped same = record {
    holds = holds;
    alone = λ j x at. seated.alone j x (ap (λ (z : SeatValue Cell Actor Event). value_of z.view.actors j) (sym same.0) ∙ at) ∙ sym number;
    servers = ap (λ (a : ActorValue). a.setting.servers) same.1 ∙ seated.servers;
    workers = ap (λ (a : ActorValue). a.setting.workers) same.1 ∙ seated.workers;
    kept = subst (λ (x : SeatValue Cell Actor Event × ActorValue). AreTold x.0.ranks (kept_by x.1)) (λ i. (sym same.0 i, sym same.1 i)) seated.kept;
  }

-- the step was made, whatever cells were given back behind it
pub made-behind : {T E : Type 0} (f : Floor) (was mid now : Player) (kind : Kind) (Sees : Setting → World → ℕ → Type 0) (Tells : ActorValue → (was now : List (Option CellValue)) → Type 0) (row : List (Option ℕ)) (r : Result T E) → mid.number ≡ was.number
    → OnOk r (HasStepped f.hierarchy kind Sees Tells row was.seat mid.seat was.number was.actor mid.actor) → GaveAll mid now → OnOk r (HasMade f.hierarchy kind Sees Tells row was now)
made-behind f was mid now kind Sees Tells row (Ok x) same stepped gave = record {
  new = stepped.new;
  numbers = stepped.same_numbers;
  number = gave.number ∙ same;
  went = subst (λ (a : Actor). Went f.hierarchy kind Sees row (cells_for was.seat.view.held row) (cells_for stepped.new row) (actor_of was.actor) (actor_of a)) (sym gave.actor) stepped.went;
  told = stepped.told;
  seen = gave.seen ∙ ap (λ (v : View Cell Actor Event). v.seen) stepped.view;
  counted = subst (λ (a : Actor). a.went ≡ went_after (actor_of was.actor) (actor_of a) was.actor.went) (sym gave.actor) stepped.counted;
}
made-behind f was mid now kind Sees Tells row (Err x) same stepped gave = tt

-- Where it found no memory, all is as it was.

pub actor-behind : {T E : Type 0} (was mid now : Player) (r : Result T E) → OnErr r ((mid.seat ≡ was.seat) × (actor_of mid.actor ≡ actor_of was.actor)) → GaveAll mid now → OnErr r (actor_of now.actor ≡ actor_of was.actor)
actor-behind was mid now (Ok x) same gave = tt
actor-behind was mid now (Err x) same gave = ap actor_of gave.actor ∙ same.1

pub uncounted-behind : {T E : Type 0} (was mid now : Player) (r : Result T E) → OnErr r (mid.actor.went ≡ was.actor.went) → GaveAll mid now → OnErr r (now.actor.went ≡ was.actor.went)
uncounted-behind was mid now (Ok x) same gave = tt
uncounted-behind was mid now (Err x) same gave = ap (λ (a : Actor). a.went) gave.actor ∙ same

pub seen-behind : {T E : Type 0} (was mid now : Player) (r : Result T E) → OnErr r ((mid.seat ≡ was.seat) × (actor_of mid.actor ≡ actor_of was.actor)) → GaveAll mid now → OnErr r (now.seat.view.seen ≡ was.seat.view.seen)
seen-behind was mid now (Ok x) same gave = tt
seen-behind was mid now (Err x) same gave = gave.seen ∙ ap (λ (s : SeatValue Cell Actor Event). s.view.seen) same.0
