use Rattle.std.proofs.Common.{ℕ, sym, subst}
use Rattle.core_pages.specs.{Looks.StateValue, Seen.{CanSeeIn, IsOfGate, IsSeenIn}}
use Rattle.whole_steps.proofs.Telling.{gate-same, if-ok-on}
use Rattle.whole_steps.proofs.pages.tree_of.Goals as goal

pub tree_page_at-requires-clause-can : goal.tree_page_at-requires-clause-can
tree_page_at-requires-clause-can g c =
    let can = c.requires.tells in
    let same = gate-same can.stands c.gate_of-gate.ensures.gate in
    subst (λ (x : StateValue). CanSeeIn x c.len.result c.gate_of-gate.result) (sym c.gate_of-gate.ensures.same)
    (subst (λ (k : ℕ). CanSeeIn (g.C.Cells.state c.args.cells.now) c.len.result k) same (subst (λ (k : ℕ). CanSeeIn (g.C.Cells.state c.args.cells.now) k can.gate) (sym c.len.ensures) can.can_see))

pub returns-clause-page : goal.returns-clause-page
returns-clause-page g c =
    if-ok-on c.tree_page_at.result c.tree_page_at.ensures.page
    (λ p seen s w about at inv. subst (λ (x : StateValue). IsSeenIn x p) c.gate_of-gate.ensures.same seen s w at inv)

pub returns-clause-shard : goal.returns-clause-shard
returns-clause-shard g c =
    let can = c.requires.tells in
    let same = gate-same can.stands c.gate_of-gate.ensures.gate in
    if-ok-on c.tree_page_at.result c.tree_page_at.ensures.shard
    (λ p of. can.of_shard p (subst (λ (k : ℕ). IsOfGate (g.C.Cells.state c.args.cells.now) k p) (sym same) (subst (λ (x : StateValue). IsOfGate x c.gate_of-gate.result p) c.gate_of-gate.ensures.same of)))
