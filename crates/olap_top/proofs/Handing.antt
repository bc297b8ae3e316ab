-- The ledger in its cell, of a state that is handed out.
use Rattle.std.proofs.{Common.{◌≡◌, ◌∙◌, ℕ, zero, suc, true, false, eqb, List, [], ◌∷◌, length, get_or, set, Option, Some, None, refl, sym, ap, subst, arith}, lemmas.Bool.ne_eqb, lemmas.List.length-set, lemmas.List.Elements.{All-cons, All-from_get_or, All-tail}}
use Rattle.std.specs.Prelude.{All, is_some}
use Rattle.dim_hierarchy.specs.Dimension.{Dimension}
use Rattle.row_ledger.specs.{LedgerValue.LedgerValue, declared.settings.Use.Use}
use Rattle.seeded_run.proofs.Worlds.{its-setting, its-world, state-of}
use Rattle.seeded_run.specs.{Core.HasState, Phase.{IsCoreHeld, about, held}}
use Rattle.core_laws.specs.volap_cell.specs.{Cells.{FreeCell, LedgerCell, cell_of}, Filling.cell_or, Setting.{actor_count, cell_count, ledger_cell}, State.Has, Steps.Inv, Values.actor_of, World.{change, put}, declared.actor.Actor.Actor, declared.cell.Cell.Cell, declared.state.State.State}
use Rattle.core_laws.specs.volap_cell.specs.declared.cell.Cell.TheVariants as cell
use Rattle.olap_top.specs.OneRun.{IsWhole}

-- a state that is held meets the invariant
pub state-inv : (h : List Dimension) (with : Use) (x : State) → HasState h with x.cells.items x.actors.items → Inv (about h with x) (held h with x)
state-inv h with x has =
    let c = has.is_state in
    let setting = its-setting h with x.cells.items x.actors.items has.setting has.world c in
    let world = its-world h with x.cells.items x.actors.items has.setting has.world c in
    subst (λ s. Inv s (held h with x)) setting (subst (Inv has.setting) world c.inv)

-- and so does a script's core
pub core-state : (h : List Dimension) (with : Use) (x : State) → IsCoreHeld h with x → HasState h with x.cells.items x.actors.items
core-state h with x core = record { setting = core.0.setting; world = core.0.world; is_state = state-of h with x.cells.items x.actors.items core.0.setting core.0.world core.0.is_core }

pub held-inv : (h : List Dimension) (with : Use) (x : State) → IsCoreHeld h with x → Inv (about h with x) (held h with x)
held-inv h with x core = state-inv h with x (core-state h with x core)

-- The cells once the ledger was moved out of its cell and back.
pub cells-back : (xs : List (Option Cell)) (b : Cell) (l : LedgerValue) → get_or xs 0 None ≡ Some b → cell_of b ≡ LedgerCell l → (y : ℕ)
    → put (change ledger_cell FreeCell (LedgerCell l) ∷ []) (λ z. cell_or (get_or (set (set xs 0 None) 0 (Some cell.Free)) z None)) y
    ≡ cell_or (get_or xs y None)
cells-back [] b l at is y = cc
cells-back (x ∷ xs) b l at is zero = sym is ∙ ap cell_or (sym at)
cells-back (x ∷ xs) b l at is (suc y) = let other : eqb (suc y) 0 ≡ false = ne_eqb (suc y) 0 (λ e. absurd (omega (arith, e))) in rw other refl

pub cell-freed : (xs : List (Option Cell)) (b : Cell) → get_or xs 0 None ≡ Some b → get_or (set (set xs 0 None) 0 (Some cell.Free)) 0 None ≡ Some cell.Free
cell-freed [] b at = cc
cell-freed (x ∷ xs) b at = refl

-- The state that is left is whole.

stands-so : {A : Type 0} (o : Option A) (P : A → Type 0) → Has o P → is_some o ≡ true
stands-so None P has = absurd has
stands-so (Some x) P has = refl

pub whole-left : (h : List Dimension) (with : Use) (x : State) → HasState h with x.cells.items x.actors.items → (rest : State) → rest.cells.items ≡ set (set x.cells.items 0 None) 0 (Some cell.Free) → rest.actors.items ≡ x.actors.items
    → IsWhole (about h with x) rest
whole-left h with x has rest is actors_are =
    let c = has.is_state in
    let same : has.setting ≡ about h with x = its-setting h with x.cells.items x.actors.items has.setting has.world c in
    let stand = All-from_get_or (λ (o : Option Cell). is_some o ≡ true) x.cells.items None (λ y low. stands-so (get_or x.cells.items y None) (λ b. cell_of b ≡ has.world.cells y) (c.is.cell y low)) in
    record {
      cells = ap length is ∙ length-set (set x.cells.items 0 None) 0 (Some cell.Free) ∙ length-set x.cells.items 0 None ∙ c.places ∙ ap cell_count same;
      actors = ap length actors_are ∙ c.count ∙ ap actor_count same;
      each_cell = subst (All (λ (o : Option Cell). is_some o ≡ true)) (sym is) (all-back x.cells.items stand);
      each_actor = subst (All (λ (o : Option Actor). is_some o ≡ true)) (sym actors_are)
          (All-from_get_or (λ (o : Option Actor). is_some o ≡ true) x.actors.items None (λ a low. stands-so (get_or x.actors.items a None) (λ b. actor_of b ≡ has.world.actors a) (c.is.actor a low)));
    }
  where
    all-back : (xs : List (Option Cell)) → All (λ (o : Option Cell). is_some o ≡ true) xs → All (λ (o : Option Cell). is_some o ≡ true) (set (set xs 0 None) 0 (Some cell.Free))
    all-back [] all = all
    all-back (y ∷ ys) all = All-cons (λ (o : Option Cell). is_some o ≡ true) (Some cell.Free) ys refl (All-tail (λ (o : Option Cell). is_some o ≡ true) y ys all)
