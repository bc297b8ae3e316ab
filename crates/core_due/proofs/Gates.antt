-- Gates, and whether a row may come in.
use Rattle.std.proofs.{Common.{◌≡◌, ◌≢◌, ◌∙◌, ℕ, ◌+◌, ◌≤◌, inl, inr, Bool, true, false, IsSome, length, Some, refl, sym, ap}, lemmas.Bool.{leb-false, leb-true}}
use Rattle.std.specs.Prelude.{◌&&◌, nat_le}
use Rattle.core_due.specs.Due.{is_gate_open, may_enter}
use Rattle.core_steps.specs.shard_store.specs.{declared.gate.Gate.Gate, declared.gate.Phase.Phase, declared.gate.Phase.TheVariants.{Frozen, Gone, Open}}
use Rattle.core_steps.specs.volap_cell.specs.{Cells.{BlockCell, CellValue, DeskCell, FreeCell, GateCell, ImageCell, LedgerCell, MapCell, RegistryCell, StockCell, gate_shard}, Errands.is_filled, TreeKinds.MayQueue, Values.ActorValue, declared.errand.Way.Way}
use Rattle.core_steps.specs.volap_cell.specs.declared.errand.Way.TheVariants as way

pub gate-is : (c : CellValue) → IsSome (gate_shard c) → (gate : Gate) × (c ≡ GateCell gate)
gate-is (GateCell gate) some = (gate, refl)
gate-is FreeCell some = (let never : false ≡ true = some in absurd (cc))
gate-is (LedgerCell l) some = (let never : false ≡ true = some in absurd (cc))
gate-is (StockCell k) some = (let never : false ≡ true = some in absurd (cc))
gate-is (RegistryCell r) some = (let never : false ≡ true = some in absurd (cc))
gate-is (ImageCell t i) some = (let never : false ≡ true = some in absurd (cc))
gate-is (DeskCell t d) some = (let never : false ≡ true = some in absurd (cc))
gate-is (MapCell t m) some = (let never : false ≡ true = some in absurd (cc))
gate-is (BlockCell b) some = (let never : false ≡ true = some in absurd (cc))

open-phase : (p : Phase) → is_gate_open (Some p) ≡ true → p ≡ Open
open-phase Open e = refl
open-phase (Frozen n) e = cc
open-phase Gone e = cc

closed-phase : (p : Phase) → is_gate_open (Some p) ≡ false → p ≢ Open
closed-phase p e is = (let never : true ≡ false = sym (ap (λ (q : Phase). is_gate_open (Some q)) is) ∙ e in cc)

-- where a row may enter
pub record MayEnter (gate : Gate) (a : ActorValue) : Type 0 where
  pub is_open : gate.phase ≡ Open
  pub enough : gate.height + 2 ≤ length a.purse

pub may-enter : (gate : Gate) (a : ActorValue) → may_enter (GateCell gate) a ≡ true → MayEnter gate a
may-enter gate a = by (is_gate_open (Some gate.phase)) (nat_le (gate.height + 2) (length a.purse)) refl refl
  where
    by : (x y : Bool) → is_gate_open (Some gate.phase) ≡ x → nat_le (gate.height + 2) (length a.purse) ≡ y → (x && y) ≡ true → MayEnter gate a
    by true true p q may = record { is_open = open-phase gate.phase p; enough = leb-true _ _ q }
    by true false p q may = cc
    by false y p q may = cc

-- and where it must go to the queue
pub must-queue : (gate : Gate) (a : ActorValue) (height : ℕ) (on : Way) → on ≡ way.Before (Some height) true → may_enter (GateCell gate) a ≡ false → MayQueue gate a on
must-queue gate a height on is = by (is_gate_open (Some gate.phase)) (nat_le (gate.height + 2) (length a.purse)) refl refl
  where
    by : (x y : Bool) → is_gate_open (Some gate.phase) ≡ x → nat_le (gate.height + 2) (length a.purse) ≡ y → (x && y) ≡ false → MayQueue gate a on
    by true true p q may = cc
    by true false p q may = inr (leb-false _ _ q, ap is_filled is)
    by false y p q may = inl (closed-phase gate.phase p)
