use Rattle.std.proofs.Common.{◌≡◌, ◌∙◌, ℕ, List, [], ◌∷◌, ◌++◌, Option, Some, append_assoc, ap, sym, subst, rules}
use mathlib.Core.Option.{some}
use Rattle.list_words.specs.Counts.{Each}
use Rattle.turn_table.specs.Numbered.{value_of}
use Rattle.seat_steps.proofs.Left.{found-within, nothing}
use Rattle.seat_steps.proofs.takes.last_but.Goals as goal

pub returns-then-ne-clause-some : goal.returns-then-ne-clause-some
returns-then-ne-clause-some c =
    let told = c.in-Some.told.now in
    let others = c.in-Some.others.now in
    let inv = c.loop-told.invariant in
    let whole = inv.1 ∙ ap (λ (l : List (ℕ × Option ℕ)). l ++ inv.0) c.in-Some.ensures.cases.0 ∙ append_assoc others (told ∷ []) inv.0 in
    subst (λ (l : List (ℕ × Option ℕ)). (x : Option ℕ) × (value_of l told.0 ≡ some x)) (sym whole) (found-within others inv.0 told)

pub loop-told-preserved : goal.loop-told-preserved
loop-told-preserved c =
    let told = c.in-Some.told.now in
    let inv = c.loop-told.invariant in
    let whole = inv.1 ∙ ap (λ (l : List (ℕ × Option ℕ)). l ++ inv.0) c.in-Some.ensures.cases.0 ∙ append_assoc c.in-Some.others.now (told ∷ []) inv.0 in
    (told ∷ inv.0, whole, (search rules, inv.2))

pub returns-clause-none : goal.returns-clause-none
returns-clause-none c =
    let inv = c.loop-told.invariant in
    let whole = inv.1 ∙ ap (λ (l : List (ℕ × Option ℕ)). l ++ inv.0) (nothing c.loop-told.left.now c.in_default.ensures.cases) in
    subst (λ (l : List (ℕ × Option ℕ)). Each (λ told. c.args.kept ≡ Some told.0) l) (sym whole) inv.2
