-- Two turns from one moment.
use Rattle.std.proofs.Common.{◌≡◌, ◌∙◌, ℕ, Bool, Option, Some, sym, subst}
use Rattle.seeded_turns.specs.Drawn.{Moment}
use Rattle.core_pages.specs.volap_cell.specs.{Setting.Setting, World.World}
use Rattle.seeded_run.specs.{Due.due, Phase.IsTurnOf, Rests.PhaseRun}

one-value : {A : Type 0} (o : Option A) (a b : A) → o ≡ Some a → o ≡ Some b → a ≡ b
one-value {A} o a b x y = (let both : ◌≡◌ {A = Option A} (Some a) (Some b) = sym x ∙ y in cc)

pub one-turn : (in_order : Bool) (s : Setting) (p : PhaseRun) (before a b : Moment World) (x : IsTurnOf in_order s p before a) (y : IsTurnOf in_order s p before b)
    → (x.actor ≡ y.actor) × (x.step.turn.due_kind ≡ y.step.turn.due_kind) × (a.schedule ≡ b.schedule)
one-turn in_order s p before a b x y =
    let actor = one-value _ x.actor y.actor x.is_chosen y.is_chosen in
    let due_there = subst (λ (n : ℕ). due s p before.state n ≡ Some y.step.turn.due_kind) (sym actor) y.step.turn.is_due in (
      actor,
      one-value (due s p before.state x.actor) x.step.turn.due_kind y.step.turn.due_kind x.step.turn.is_due due_there,
      x.schedule ∙ sym y.schedule,
    )
