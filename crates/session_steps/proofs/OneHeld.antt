-- An actor that holds one cell alone: the cell is the one place of a step, and what the step makes of it.
use Rattle.std.proofs.Common.{◌≡◌, ◌≢◌, ◌∙◌, ℕ, true, false, List, [], ◌∷◌, length, Option, Some, None, Result, Ok, Err, refl, sym, ap, subst}
use Rattle.std.specs.Prelude.{IsOk, OnOk}
use mathlib.Core.Option.{none}
use mathlib.Core.Option as maybe
use Rattle.part_steps.specs.core_steps.specs.Places.{one_at, swaps}
use Rattle.dim_hierarchy.specs.Dimension.{Dimension}
use Rattle.row_ledger.specs.declared.event.Event.{Event}
use Rattle.part_steps.specs.seat_steps.specs.{Floors.{IsSeated, Stands}, Made.HasMade, Takes.Takes, declared.floor.{Floor.Floor, Player.Player}}
use Rattle.session_steps.specs.Coming.{Becomes}
use Rattle.turn_table.specs.{Numbered.{Extends, numbers_of, value_of}, Views.seen_of}
use Rattle.turn_table.proofs.Numbered.{find_else, find_here, find_same, none_same}
use Rattle.part_steps.specs.volap_cell.specs.{Cells.{CellValue, cell_of}, Setting.{Setting, ledger_cell}, State.changes_of, Steps.Makes, Values.{ActorValue, actor_of}, World.{World, change}, declared.actor.Actor.Actor, declared.cell.Cell.Cell, declared.kind.Kind.Kind}
use Rattle.part_steps.specs.volap_turns.specs.{Rows.{AreAt, IsThere, maybe_cell}, Rule.history_of}

-- a list in which one number stands alone
single : {A : Type 0} (ps : List (ℕ × A)) (y : ℕ) → numbers_of ps ≡ y ∷ [] → (x : A) × (ps ≡ (y, x) ∷ [])
single [] y e = absurd (cc)
single (p ∷ []) y e = (let same : p.0 ≡ y = cc in (p.1, λ i. (same i, p.1) ∷ []))
single (p ∷ q ∷ ps) y e = absurd (cc)

-- an actor that held none has taken one cell
pub record HasOne (f : Floor) (was now : Player) (y rank : ℕ) : Type 0 where
  pub took : Takes y rank was now
  pub seated : IsSeated f now
  pub ranks : now.seat.ranks ≡ (y, Some rank) ∷ []

module _ {f : Floor} {was now : Player} {y rank : ℕ} (one : HasOne f was now y rank) where
  -- it is the same actor
  pub same-actor : actor_of now.actor ≡ actor_of was.actor
  same-actor = ap (λ (a : Actor). actor_of a) one.took.same.actor

  held-is : (c : Cell) × (now.seat.view.held ≡ (y, c) ∷ [])
  held-is = single now.seat.view.held y (one.seated.holds.rows ∙ ap (λ (l : List (ℕ × Option ℕ)). numbers_of l) one.ranks)

  pub one-there : IsThere now.seat.view.held y
  one-there = (held-is.0, ap (λ (l : List (ℕ × Cell)). value_of l y) held-is.1 ∙ find_here [] y held-is.0)

  pub one-count : length now.seat.view.held ≡ 1
  one-count = ap (λ (l : List (ℕ × Cell)). length l) held-is.1

  -- the cell is the one place of a step
  pub at-one : AreAt (one_at y) now.seat.view.held
  at-one = subst (AreAt (one_at y)) (sym held-is.1) (record { there = ((held-is.0, find_here [] y held-is.0), tt); apart = (tt, tt); count = refl })

  -- no other one is held
  other-off : (k : ℕ) → y ≢ k → value_of now.seat.view.held k ≡ none
  other-off k ne = ap (λ (l : List (ℕ × Cell)). value_of l k) held-is.1 ∙ find_else [] y k held-is.0 ne

  -- A step over that cell.

  module _ {h : List Dimension} {kind : Kind} {Sees : Setting → World → ℕ → Type 0} {Tells : ActorValue → (was now : List (Option CellValue)) → Type 0} {then : Player} (made : HasMade h kind Sees Tells (one_at y) now then) where
    -- it changed the cell
    pub one-made : (d : Cell) × Makes h kind (change y (cell_of one-there.0) (cell_of d) ∷ []) (actor_of now.actor) (actor_of then.actor)
    one-made =
        let there = find_same now.seat.view.held made.new y one-there.0 (sym made.numbers) one-there.1 in (
          there.0,
          subst
              (λ (x : Option Cell × Option Cell). Makes h kind (changes_of (swaps (one_at y) (x.0 ∷ None ∷ None ∷ None ∷ None ∷ None ∷ None ∷ []) (x.1 ∷ None ∷ None ∷ None ∷ None ∷ None ∷ None ∷ []))) (actor_of now.actor) (actor_of then.actor))
              (λ i. (maybe_cell (one-there.1 i), maybe_cell (there.1 i)))
              made.went.makes,
        )

    -- without the ledger no event is seen
    seen-same : y ≢ ledger_cell → then.seat.view.seen ≡ now.seat.view.seen
    seen-same ne = made.seen ∙ ap (λ (o : maybe.Option Cell). seen_of history_of o now.seat.view.seen) (none_same now.seat.view.held made.new ledger_cell (sym made.numbers) (other-off ledger_cell ne))

    -- what becomes of the actor
    pub one-becomes : (b : ActorValue) → y ≢ ledger_cell → Stands f then → actor_of then.actor ≡ b → Becomes f b was then
    one-becomes b ne stands is = record {
      stands = stands;
      number = made.number ∙ one.took.same.number;
      actor = is;
      seen = subst (λ (l : List Event). Extends l was.seat.view.seen) (sym (seen-same ne)) one.took.same.seen;
    }

-- what is so where a call went, which can't fail
pub as-made : {T E : Type 0} (r : Result T E) {P : Type 0} → OnOk r P → IsOk r → P
as-made (Ok x) p ok = p
as-made (Err e) p ok = (let never : false ≡ true = ok in absurd (cc))
