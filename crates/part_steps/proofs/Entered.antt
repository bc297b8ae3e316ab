-- The block at which a row is carried behind a step to a head is the head, or the cell of a new block; so it is one of the cells that
-- the step holds.
use Rattle.std.proofs.{Common.{◌≡◌, ◌∙◌, ℕ, zero, suc, List, [], ◌∷◌, ◌++◌, drop, slice_get, Option, Some, None, sym, ap, subst, inl, inr}}
use Rattle.cell_stock.specs.{Stock.PurseValue, declared.purse.Spare.Spare}
use Rattle.seat_steps.specs.core_steps.specs.Places.{numbers, swaps}
use Rattle.dc_node.specs.{Block.entries_in, declared.block.Block.Block, declared.entry.Entry.Entry}
use Rattle.dim_hierarchy.specs.{Dimension.Dimension, declared.row.Row.Row}
use Rattle.link_descent.specs.{Descend.{Cuts, Enters, IsShared, StepsDown}, declared.entered.Entered.Entered, declared.entered.Fresh.Fresh}
use Rattle.list_words.proofs.{Each.{each-left, each-right}, Elements.Some-same}
use Rattle.list_words.specs.Counts.{Each}
use Rattle.part_steps.specs.Goings.{IsBesidePart}
use Rattle.seat_steps.specs.Floors.{kept_by}
use Rattle.part_steps.proofs.Uncarried.{beside}
use Rattle.seat_steps.specs.shard_store.specs.declared.gate.Gate.{Gate}
use Rattle.turn_table.specs.Seat.{free_rank}
use Rattle.seat_steps.specs.volap_cell.specs.{Kinds.Does, State.changes_of, TreeKinds.{AreFilled, blocks_of, on_way}, Values.ActorValue, World.Change, declared.cell.Cell.Cell, declared.errand.Way.TheVariants.Carried}
use Rattle.seat_steps.specs.volap_cell.specs.declared.kind.Kind.TheVariants as kind

module _ (P : ℕ → Type 0) where
  -- The cells of a step.

  less : (k : ℕ) (y : ℕ) (ys : List ℕ) → Each P (drop k (y ∷ ys)) → Each P (drop k ys)
  less zero y ys each = each.1
  less (suc k) y [] each = tt
  less (suc k) y (z ∷ zs) each = less k z zs each

  nothing : (k : ℕ) → Each (λ (c : Change). P c.number) (drop k [])
  nothing zero = tt
  nothing (suc k) = tt

  -- what holds of the numbers behind the first places holds of the cells that are changed behind as many
  pub behind : (k : ℕ) (row : List (Option ℕ)) (was now : List (Option Cell)) → Each P (drop k (numbers row)) → Each (λ c. P c.number) (drop k (changes_of (swaps row was now)))
  behind k [] was now each = nothing k
  behind k (p ∷ row) [] now each = nothing k
  behind k (p ∷ row) (b ∷ was) [] each = nothing k
  behind k (None ∷ row) (b ∷ was) (n ∷ now) each = behind k row was now each
  behind k (Some y ∷ row) (None ∷ was) (n ∷ now) each = behind k row was now (less k y (numbers row) each)
  behind k (Some y ∷ row) (Some b ∷ was) (None ∷ now) each = behind k row was now (less k y (numbers row) each)
  behind zero (Some y ∷ row) (Some b ∷ was) (Some n ∷ now) each = (each.0, behind zero row was now each.1)
  behind (suc k) (Some y ∷ row) (Some b ∷ was) (Some n ∷ now) each = behind k row was now each

  filled-cells : (fresh : List Fresh) (cs : List Change) → AreFilled fresh cs → Each (λ c. P c.number) cs → Each (λ f. P f.cell) fresh
  filled-cells [] cs are each = tt
  filled-cells (f ∷ fresh) [] are each = absurd are
  filled-cells (f ∷ fresh) (c ∷ cs) are each = (subst P are.0 each.0, filled-cells fresh cs are.2 each.1)

  -- What is entered.

  -- of two parts of a head the row goes to the one or the other
  chosen-at : (h : List Dimension) (row : Row) (tail : List Block) (entry left right left_now right_now chosen : Entry) (head head_now new : Block) (purse purse_now : PurseValue) (spare : Spare)
      → Cuts h tail entry left right head head_now purse purse_now spare new → IsShared h row left right left_now right_now chosen → P entry.child → P spare.cell → P chosen.child
  chosen-at h row tail entry left right left_now right_now chosen head head_now new purse purse_now spare cuts shared child cell = elim shared.shared [
    | inl s ↦ subst P (sym (ap (λ (e : Entry). e.child) s.3 ∙ cuts.left_is.child)) child
    | inr s ↦ subst P (sym (ap (λ (e : Entry). e.child) s.3 ∙ cuts.right_is.child)) cell
  ]

  down-at : (h : List Dimension) (row : Row) (place : ℕ) (tail : List Block) (parent parent_now head head_now : Block) (purse purse_now : PurseValue) (entered : Entered)
      → StepsDown h row place tail parent parent_now head head_now purse purse_now entered → ((entry : Entry) → slice_get (entries_in parent.body) place ≡ Some entry → P entry.child)
      → Each (λ f. P f.cell) entered.fresh.items → P entered.at
  down-at h row place tail parent parent_now head head_now purse purse_now entered step child fresh = elim step.step [
    | inl w ↦ subst P (sym w.2.at) (child step.entry step.entry_at)
    | inr more ↦ elim more [
      | inl w ↦ subst P (sym w.2.at) (child step.entry step.entry_at)
      | inr w ↦ subst P (sym w.at)
          (chosen-at h row tail step.entry w.left w.right w.left_now w.right_now w.chosen head head_now w.new purse purse_now w.spare w.cuts w.shared (child step.entry step.entry_at) (subst (Each (λ (f : Fresh). P f.cell)) w.fresh fresh).0)
    ]
  ]

  enter-at : (h : List Dimension) (row : Row) (tail : List Block) (gate gate_now : Gate) (root root_now : Block) (purse purse_now : PurseValue) (entered : Entered)
      → Enters h row tail gate gate_now root root_now purse purse_now entered → P gate.root → Each (λ f. P f.cell) entered.fresh.items → P entered.at
  enter-at h row tail gate gate_now root root_now purse purse_now entered enters child fresh = elim enters.step [
    | inl w ↦ subst P (sym w.2.at) child
    | inr more ↦ elim more [
      | inl w ↦ subst P (sym w.2.at) child
      | inr w ↦ subst P (sym w.at) (subst (Each (λ (f : Fresh). P f.cell)) w.fresh fresh).1.0
    ]
  ]

  -- The steps.

  -- the row is carried at a cell of which this holds
  abbrev pub CarriesOn : ActorValue → Type 0
  CarriesOn b = (y : ℕ) × (kept_by b ≡ (y, Some free_rank) ∷ []) × P y

  module _ (h : List Dimension) (a b : ActorValue) where
    pub down-on : (cs : List Change) → Each (λ c. P c.number) (drop 1 cs) → Does h kind.Down cs a b → CarriesOn b
    down-on (p ∷ c ∷ others) each d =
        let child = λ (entry : Entry) (at : slice_get (entries_in d.parent.body) d.place ≡ Some entry). subst P (sym (ap (λ (e : Entry). e.child) (sym (Some-same entry d.entry (sym at ∙ d.entry_at))) ∙ d.child)) each.0 in
        let fresh = filled-cells d.entered.fresh.items d.fresh d.are_filled (each-right (λ (x : Change). P x.number) d.tail d.fresh (subst (Each (λ (x : Change). P x.number)) d.others_are each.1)) in
        (d.entered.at, ap kept_by d.actor_is, down-at h d.r.row d.place (blocks_of d.tail) d.parent d.parent_now d.head d.head_now d.purse d.purse_now d.entered d.step child fresh)
    down-on cs each d = absurd d

    pub enter-on : (cs : List Change) → Each (λ c. P c.number) (drop 2 cs) → Does h kind.EnterTree cs a b → CarriesOn b
    enter-on (m ∷ g ∷ root ∷ others) each d =
        let new = each-left (λ (x : Change). P x.number) (d.tail ++ d.fresh) d.unfilled (subst (Each (λ (x : Change). P x.number)) d.others_are each.1) in
        let fresh = filled-cells d.entered.fresh.items d.fresh d.are_filled (each-right (λ (x : Change). P x.number) d.tail d.fresh new) in
        (d.entered.at, ap kept_by d.actor_is, enter-at h d.r.row (blocks_of d.tail) d.gate d.entered_gate d.head d.head_now d.purse d.purse_now d.entered d.enters (subst P d.root_is each.0) fresh)
    enter-on cs each d = absurd d

module _ (h : List Dimension) (a b : ActorValue) where
  pub down-beside : (cs : List Change) → Does h kind.Down cs a b → IsBesidePart a b
  down-beside (p ∷ c ∷ others) d = beside a b (on_way d.e d.r (Carried d.gate d.entered.at)) d.purse_now.spares b.boxes d.actor_is
  down-beside cs d = absurd d

  pub enter-beside : (cs : List Change) → Does h kind.EnterTree cs a b → IsBesidePart a b
  enter-beside (m ∷ g ∷ root ∷ others) d = beside a b (on_way d.e d.r (Carried g.number d.entered.at)) d.purse_now.spares b.boxes d.actor_is
  enter-beside cs d = absurd d
