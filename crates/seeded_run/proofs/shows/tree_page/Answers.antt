use Rattle.std.proofs.Common.{ℕ, ◌≡◌, ◌∙◌, [], length, List, Option, Some, sym, ap, subst, arith}
use Rattle.core_due.specs.Look.{setting_by, world_by}
use Rattle.core_pages.specs.Seen.{CanSeeIn, IsOfGate}
use Rattle.dim_hierarchy.specs.Dimension.{Dimension}
use Rattle.mapping_table.specs.declared.place.Where.{Where}
use Rattle.mapping_table.specs.declared.place.Where.TheVariants as where_is
use Rattle.row_ledger.specs.declared.settings.Use.{Use}
use Rattle.core_pages.specs.volap_cell.specs.{declared.cell.Cell.Cell, declared.state.State.State}
use Rattle.seeded_run.specs.Pages.{ShowsTree, place_of, seen}
use Rattle.seeded_run.proofs.shows.tree_page.Goals as goal

same-gate : (o : Option Where) (found : Where) (gate other : ℕ) → found ≡ where_is.Gate gate → Some found ≡ o → o ≡ Some (where_is.Gate other) → gate ≡ other
same-gate o found gate other is at stands = cc

-- the gate that was found in the cells that were lent is the one where the shard stands
its-gate : (h : List Dimension) (with : Use) (state : State) (n shard : ℕ) (k : ShowsTree h with state n shard) (lent : List (Option Cell)) (found : Where) (gate : ℕ)
    → lent ≡ state.cells.items → found ≡ where_is.Gate gate → Some found ≡ place_of (setting_by [] with) (world_by lent) shard → gate ≡ k.gate
its-gate h with state n shard k lent found gate same is at =
    same-gate (place_of (setting_by [] with) (world_by state.cells.items) shard) found gate k.gate is (at ∙ ap (λ (cells : List (Option Cell)). place_of (setting_by [] with) (world_by cells) shard) same) k.stands

pub tree_page_at-requires-clause-can : goal.tree_page_at-requires-clause-can
tree_page_at-requires-clause-can c =
    let k : ShowsTree c.args.h.now c.args.with.now c.args.state.now c.args.number c.args.shard = c.requires.can.shows in
    let many : c.len-many.result ≡ length c.args.state.now.cells.items = omega (arith, c.len-many.ensures, c.deref.ensures.len, ap length c.deref.ensures.value) in
    let gate : c.in-Some-Gate.gate ≡ k.gate =
    its-gate c.args.h.now c.args.with.now c.args.state.now c.args.number c.args.shard k c.deref.result.now c.in-Some-Gate.field-0.now c.in-Some-Gate.gate c.deref.ensures.value c.in-Some-Gate.field-0-is c.in-Some-Gate.ensures in
    subst (λ (g : ℕ). CanSeeIn (seen c.args.state.now) c.len-many.result g) (sym gate) (subst (λ (m : ℕ). CanSeeIn (seen c.args.state.now) m k.gate) (sym many) k.can_see)

pub returns : goal.returns
returns c =
    let k : ShowsTree c.args.h.now c.args.with.now c.args.state.now c.args.number c.args.shard = c.requires.can.shows in
    let gate : c.in-Some-Gate.gate ≡ k.gate =
    its-gate c.args.h.now c.args.with.now c.args.state.now c.args.number c.args.shard k c.deref.result.now c.in-Some-Gate.field-0.now c.in-Some-Gate.gate c.deref.ensures.value c.in-Some-Gate.field-0-is c.in-Some-Gate.ensures in
    k.may_tell c.in_ok-tree_page_at.field-0 c.in_ok-tree_page_at.ensures.page (subst (λ (g : ℕ). IsOfGate (seen c.args.state.now) g c.in_ok-tree_page_at.field-0) gate c.in_ok-tree_page_at.ensures.shard)
