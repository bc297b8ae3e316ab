-- An actor with nothing to do gives the spares in its purse back: what that asks is so, and what it makes of the actor.
use Rattle.std.proofs.Common.{◌≡◌, ◌∙◌, ℕ, ◌<◌, true, false, List, [], ◌∷◌, Option, Some, None, refl, sym, ap, subst, inl, inr}
use Rattle.std.specs.Prelude.{⊤}
use Rattle.cell_stock.specs.declared.purse.Spare.{Spare}
use Rattle.part_steps.specs.core_due.specs.{Due.is_empty, Laws.SparesPreparedLaw, Ready.HasSpares}
use Rattle.part_steps.specs.core_steps.specs.{Places.{one_at, swaps, values}, Trees.tree_asks, declared.trees.TreeStep.TheVariants.GiveBack}
use Rattle.dim_hierarchy.specs.Dimension.{Dimension}
use Rattle.part_steps.specs.seat_steps.specs.{Floors.{AreTold, IsSeated, Stands, kept_on}, Made.{HasMade, IsKeptBy}, declared.floor.{Floor.Floor, Player.Player}}
use Rattle.session_steps.specs.Coming.{HasEmptied}
use Rattle.part_steps.specs.seat_steps.proofs.Around.{around, asked-held, within}
use Rattle.session_steps.proofs.OneHeld.{HasOne, at-one, one-made, one-there, same-actor}
use Rattle.turn_table.specs.{Numbered.after_first, Seat.cell_count}
use Rattle.part_steps.specs.volap_cell.specs.{Cells.{CellValue, cell_of}, Errands.way_of, ImageKinds.IsFree, Kinds.Does, Setting.{Setting, stock_cell}, State.changes_of, Values.{ActorValue, ErrandValue, actor_of}, World.{Change, World, change}, declared.kind.Kind.TheVariants.Refill}
use Rattle.part_steps.specs.volap_turns.specs.Rows.{cells_for}

-- an actor at no part has its purse emptied, and isn't changed else
refill-empties : (h : List Dimension) (cs : List Change) (a b : ActorValue) → Does h Refill cs a b → a.errand ≡ None → b ≡ record a { purse = [] }
refill-empties h [] a b does none = absurd does
refill-empties h (c ∷ []) a b does none = elim does.does [
  | inl fills ↦ (let never : Some fills.1.e ≡ None = sym fills.1.has.errand ∙ none in absurd (cc))
  | inr empties ↦ empties.actor_is
]
refill-empties h (c ∷ d ∷ more) a b does none = absurd does

-- so what it becomes carries nothing
pub give-kept : (h : List Dimension) (p : Player) (row : List (Option ℕ)) → (actor_of p.actor).errand ≡ None → IsKeptBy h Refill (λ s w n. ⊤) (λ a was now. ⊤) row p
give-kept h p row none b now went told =
    subst (λ (o : Option ErrandValue). AreTold (after_first p.seat.ranks) (kept_on (way_of o)))
    (sym (ap (λ (x : ActorValue). x.errand) (refill-empties h (changes_of (swaps row (cells_for p.seat.view.held row) now)) (actor_of p.actor) b went.makes.does none) ∙ none))
    tt

-- an actor whose purse is empty has given all back
pub stays-empty : (f : Floor) (p : Player) → Stands f p → is_empty (actor_of p.actor).purse ≡ true → HasEmptied f p p
stays-empty f p stands empty = record {
  stands = stands;
  number = refl;
  actor = λ i. record (actor_of p.actor) { purse = none (actor_of p.actor).purse empty i };
  seen = ([], refl);
}
  where
    none : (xs : List Spare) → is_empty xs ≡ true → xs ≡ []
    none [] e = refl
    none (x ∷ xs) e = absurd (cc)

module _ (f : Floor) (was : Player) (law : SparesPreparedLaw) (free : IsFree (actor_of was.actor)) (some : is_empty (actor_of was.actor).purse ≡ false) where
  has-spares : (w : World) (p : Player) → w.actors p.number ≡ actor_of p.actor → actor_of p.actor ≡ actor_of was.actor → HasSpares (w.actors p.number)
  has-spares w p is same = subst HasSpares (sym (is ∙ same)) (record { no_errand = free.errand; no_job = free.job; some = some })

  -- the stock is there
  pub stock-there : IsSeated f was → stock_cell < cell_count f.table
  stock-there seated =
      let (s, w, is) = around f was seated in
      within f was s w is stock_cell (law s w was.number is.inv (has-spares w was is.actor refl)).cells.0.within

  -- what the step asks is so when the actor took it
  pub give-asked : {mid : Player} (one : HasOne f was mid stock_cell 7) → tree_asks GiveBack f.hierarchy (values (cells_for mid.seat.view.held (one_at stock_cell))) (actor_of mid.actor)
  give-asked {mid} one =
      let (s, w, is) = around f mid one.seated in
      asked-held f mid s w is (one_at stock_cell) (tree_asks GiveBack f.hierarchy) (at-one one) (law s w mid.number is.inv (has-spares w mid is.actor (same-actor one))).asked

-- and the purse is empty behind it
pub give-makes : {h : List Dimension} {Sees : Setting → World → ℕ → Type 0} {Tells : ActorValue → (was now : List (Option CellValue)) → Type 0} {f : Floor} {was mid now : Player} → IsFree (actor_of was.actor) → HasOne f was mid stock_cell 7
    → HasMade h Refill Sees Tells (one_at stock_cell) mid now → actor_of now.actor ≡ record (actor_of was.actor) { purse = [] }
give-makes {h} {Sees} {Tells} {f} {was} {mid} {now} free one made =
    let there = one-there one in
    let it = one-made one made in
    refill-empties h (change stock_cell (cell_of there.0) (cell_of it.0) ∷ []) (actor_of mid.actor) (actor_of now.actor) it.1.does (ap (λ (x : ActorValue). x.errand) (same-actor one) ∙ free.errand) ∙ (λ i. record (same-actor one i) { purse = [] })
