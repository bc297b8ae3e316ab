-- Cells that an actor may hold at once, of a state that meets the invariant: each can be lent to it, and none stands twice.
use Rattle.std.proofs.Common.{ℕ, ◌≡◌, ◌≢◌, ◌<◌, ◌≤◌, List, [], ◌∷◌, ◌++◌, Option, Some, sym, ap, ◌∙◌, arith}
use Rattle.std.specs.Prelude.{IsSome, ⊤}
use Rattle.cell_stock.specs.Stock.{cells_of}
use Rattle.core_due.specs.Ready.{IsLendable, IsPrepared}
use Rattle.core_due.proofs.Owned.{lend-fixed, lend-spare, spare-owned}
use Rattle.core_steps.specs.Places.{numbers, values_at}
use Rattle.list_words.proofs.Each.{each-append}
use Rattle.list_words.specs.Counts.{Among, Each}
use Rattle.core_steps.specs.volap_cell.proofs.{Cells.Blanks.spare-owner, Cells.States.{stands}, Persons.has-command}
use Rattle.core_steps.specs.volap_cell.specs.{Cells.{CellValue, OfStock, Tag, TheLedger, TheRegistry, TheStock, gate_shard, tag_of}, Ghost.{AGate, Ghost, InPurse}, Invariant.InvWith, Setting.{Setting, actor_count, first_stock_cell, ledger_cell, registry_cell, stock_cell}, State.{AreDifferent}, Steps.Inv, Values.{ActorValue}, View.view, World.{World}, declared.command.Command.Command}

-- a cell that can be lent for a step that wants none free
abbrev pub CanHold : Setting → World → (n y : ℕ) → Type 0
CanHold s w n y = IsLendable s w n ⊤ y

-- some of them, each once
pub record CanHoldAll (s : Setting) (w : World) (n : ℕ) (ys : List ℕ) : Type 0 where
  pub each : Each (CanHold s w n) ys
  pub apart : AreDifferent ys

-- Cells that aren't the same.

-- the registry, the stock and the ledger stand before all others
off-three : (y : ℕ) → 3 ≤ y → Each (λ z. z ≢ y) (registry_cell ∷ stock_cell ∷ ledger_cell ∷ [])
off-three y low = ((λ e. absurd (omega (arith, e, low))), ((λ e. absurd (omega (arith, e, low))), ((λ e. absurd (omega (arith, e, low))), tt)))

three-apart : AreDifferent (registry_cell ∷ stock_cell ∷ ledger_cell ∷ [])
three-apart = (((λ e. absurd (omega (arith, e))), ((λ e. absurd (omega (arith, e))), tt)), (((λ e. absurd (omega (arith, e))), tt), (tt, tt)))

apart-from-three : (ys : List ℕ) → Each (λ y. 3 ≤ y) ys → AreDifferent ys → AreDifferent (ys ++ registry_cell ∷ stock_cell ∷ ledger_cell ∷ [])
apart-from-three [] low apart = three-apart
apart-from-three (y ∷ ys) low apart = (each-append (λ z. z ≢ y) ys (registry_cell ∷ stock_cell ∷ ledger_cell ∷ []) apart.0 (off-three y low.0), apart-from-three ys low.1 apart.1)

-- Of a state.

module _ (s : Setting) (w : World) (inv : Inv s w) (n : ℕ) where
  abbrev g : Ghost
  g = inv.ghost_of

  abbrev i : InvWith s (view s w) inv.ghost_of
  i = inv.holds

  -- who has a command is there
  pub there : (c : Command) → (w.actors n).command ≡ Some c → n < actor_count s
  there c is = has-command s (view s w) i.numbering n c is

  -- the cells of the actor's spares

  pub spare-low : (y : ℕ) → Among y (cells_of (w.actors n).purse) → first_stock_cell s ≤ y
  spare-low y mine = (i.stocking.within y (spare-owned s w g i n y (spare-owner s w g i n y mine))).0

  pub hold-spare : (y : ℕ) → Among y (cells_of (w.actors n).purse) → CanHold s w n y
  hold-spare y mine = lend-spare s w g i n ⊤ y (spare-owner s w g i n y mine)

  pub spare-off-gate : (y gate : ℕ) → Among y (cells_of (w.actors n).purse) → IsSome (gate_shard (w.cells gate)) → y ≢ gate
  spare-off-gate y gate mine stands e = (let never : AGate ≡ InPurse n = sym (i.stocking.gate gate stands) ∙ ap g.owner (sym e) ∙ spare-owner s w g i n y mine in cc)

  -- cells with these tags

  pub hold-one : (y : ℕ) (t : Tag) → tag_of (w.cells y) ≡ t → t ≢ OfStock → CanHold s w n y
  hold-one y t is fixed = lend-fixed s w g i n ⊤ y (λ e. fixed (sym is ∙ e))

  tags-differ : (y z : ℕ) (t u : Tag) → tag_of (w.cells y) ≡ t → tag_of (w.cells z) ≡ u → u ≢ t → z ≢ y
  tags-differ y z t u is also ne e = ne (sym also ∙ ap (λ (k : ℕ). tag_of (w.cells k)) e ∙ is)

  pub hold-two : (y z : ℕ) (t u : Tag) → tag_of (w.cells y) ≡ t → tag_of (w.cells z) ≡ u → t ≢ OfStock → u ≢ OfStock → u ≢ t → CanHoldAll s w n (y ∷ z ∷ [])
  hold-two y z t u is also fixed fixed_too ne = record {
    each = (hold-one y t is fixed, (hold-one z u also fixed_too, tt));
    apart = ((tags-differ y z t u is also ne, tt), (tt, tt));
  }

  pub hold-three : (x y z : ℕ) (t u v : Tag) → tag_of (w.cells x) ≡ t → tag_of (w.cells y) ≡ u → tag_of (w.cells z) ≡ v → t ≢ OfStock → u ≢ OfStock → v ≢ OfStock → u ≢ t → v ≢ t → v ≢ u → CanHoldAll s w n (x ∷ y ∷ z ∷ [])
  hold-three x y z t u v is also third ft fu fv ut vt vu = record {
    each = (hold-one x t is ft, (hold-one y u also fu, (hold-one z v third fv, tt)));
    apart = ((tags-differ x y t u is also ut, (tags-differ x z t v is third vt, tt)), ((tags-differ y z u v also third vu, tt), (tt, tt)));
  }

  -- and others beside the registry, the stock and the ledger
  pub hold-with-three : (ys : List ℕ) → CanHoldAll s w n ys → Each (λ y. 3 ≤ y) ys → CanHoldAll s w n (ys ++ registry_cell ∷ stock_cell ∷ ledger_cell ∷ [])
  hold-with-three ys can low = record {
    each = each-append (CanHold s w n) ys (registry_cell ∷ stock_cell ∷ ledger_cell ∷ []) can.each
        (hold-one registry_cell TheRegistry (i.numbering.tag registry_cell) (λ e. cc), (hold-one stock_cell TheStock (i.numbering.tag stock_cell) (λ e. cc), (hold-one ledger_cell TheLedger (i.numbering.tag ledger_cell) (λ e. cc), tt)));
    apart = apart-from-three ys low can.apart;
  }

  -- so a step is prepared that asks this of them
  pub prepared : (row : List (Option ℕ)) (Asks : List (Option CellValue) → ActorValue → Type 0) → n < actor_count s → CanHoldAll s w n (numbers row) → Asks (values_at w.cells row) (w.actors n) → IsPrepared s w n row Asks ⊤
  prepared row Asks lt can asked = record { cells = can.each; apart = can.apart; actor = lt; asked = asked }
