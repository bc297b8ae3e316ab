-- The history of a core goes on with each turn, and each state that turns lead to meets the invariant.
use Rattle.std.proofs.Common.{◌∙◌, ℕ, Bool, List, [], ◌∷◌, ◌++◌, refl, sym, ap, subst, append_assoc}
use Rattle.row_ledger.specs.declared.event.Event.{Event}
use Rattle.seeded_run.specs.core_told.proofs.Told.{told-law}
use Rattle.seeded_run.specs.core_told.specs.Told.{OfBeginning, OfDeed, OfEnd, OfNothing, OfPage, OfPull, Told}
use Rattle.seeded_run.specs.{Can.able_in, Phase.IsKeptTurn, Rests.PhaseRun}
use Rattle.seeded_turns.specs.Drawn.{AreTurns, Moment}
use Rattle.core_laws.specs.volap_cell.specs.{Setting.Setting, Steps.{Inv, Step, history_in}, World.World, declared.kind.Kind.Kind}
use Rattle.olap_top.specs.RunSoFar.{HasGrown}

pub grown-none : (h : List Event) → HasGrown h h
grown-none h = record { newer = []; grown = refl }

pub grown-on : (a b c : List Event) → HasGrown a b → HasGrown b c → HasGrown a c
grown-on a b c first next = record {
  newer = next.newer ++ first.newer;
  grown = next.grown ∙ ap (λ l. next.newer ++ l) first.grown ∙ sym (append_assoc next.newer first.newer a);
}

told-grows : (s : Setting) (k : Kind) (n : ℕ) (w now : World) → Told s k n w now → HasGrown (history_in w) (history_in now)
told-grows s k n w now (OfNothing t) = record { newer = []; grown = t.history }
told-grows s k n w now (OfDeed t) = record { newer = t.deed ∷ []; grown = t.history }
told-grows s k n w now (OfPull t) = record { newer = _ ∷ []; grown = t.history }
told-grows s k n w now (OfPage t) = record { newer = _ ∷ []; grown = t.history }
told-grows s k n w now (OfEnd t) = record { newer = t.end_is ∷ t.deeds; grown = t.history }
told-grows s k n w now (OfBeginning t) = record { newer = t.begins ∷ []; grown = t.history }

step-grows : (s : Setting) (k : Kind) (n : ℕ) (w now : World) → Inv s w → Inv s now → Step s k n w now → HasGrown (history_in w) (history_in now)
step-grows s k n w now before after step = told-grows s k n w now (told-law s k n w now before.ghost_of after.ghost_of before.holds after.holds step)

-- what turns lead to
pub record Comes (s : Setting) (from to : World) : Type 0 where
  pub inv : Inv s to
  pub grows : HasGrown (history_in from) (history_in to)

pub turns-come : (in_order : Bool) (s : Setting) (p : PhaseRun) (from : Moment World) (turns : List (Moment World)) (to : Moment World) → Inv s from.state
    → AreTurns World (able_in in_order s p) (IsKeptTurn in_order s p) from turns to → Comes s from.state to.state
turns-come in_order s p from [] to inv are = subst (λ (m : Moment World). Comes s from.state m.state) (sym are) (record { inv = inv; grows = grown-none (history_in from.state) })
turns-come in_order s p from (mid ∷ more) to inv are =
    let before = turns-come in_order s p from more mid inv are.1 in
    let turn = are.0.step in
    record {
      inv = turn.inv;
      grows = grown-on (history_in from.state) (history_in mid.state) (history_in to.state) before.grows (step-grows s turn.turn.made are.0.actor mid.state to.state before.inv turn.inv turn.turn.step);
    }
