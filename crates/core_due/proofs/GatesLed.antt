-- Where the tables of a state lead: each to gates of shards that stand.
use Rattle.std.proofs.{Common.{ℕ, ◌≡◌, ◌≢◌, ◌<◌, ◌∙◌, Some, inl, inr, refl, sym, subst, arith}, lemmas.Bool.cases_lt}
use Rattle.std.specs.Prelude.{IsSome}
use Rattle.core_due.proofs.{Owned.map-tag, Tables.no-place}
use Rattle.mapping_table.specs.declared.place.Where.{Where}
use Rattle.mapping_table.specs.declared.place.Where.TheVariants as where_is
use Rattle.core_steps.specs.volap_cell.proofs.Cells.Numbers.{is-map, tag-rest}
use Rattle.core_steps.specs.volap_cell.specs.{Cells.{BlockCell, CellValue, DeskCell, FreeCell, GateCell, ImageCell, LedgerCell, MapCell, MapOf, OfStock, RegistryCell, StockCell, gate_shard, tag_of, where_in}, Ghost.Ghost, Invariant.InvWith, Setting.{Setting, map_cell}, View.view, World.World}

-- what is the stock's leads nowhere
stock-leads : {P : Type 0} (c : CellValue) (shard : ℕ) (to : Where) → tag_of c ≡ OfStock → where_in c shard ≡ Some to → P
stock-leads (MapCell own places) shard to tag leads = (let never : MapOf own ≡ OfStock = tag in absurd (cc))
stock-leads FreeCell shard to tag leads = no-place to leads
stock-leads (LedgerCell l) shard to tag leads = no-place to leads
stock-leads (StockCell k) shard to tag leads = no-place to leads
stock-leads (RegistryCell r) shard to tag leads = no-place to leads
stock-leads (ImageCell t i) shard to tag leads = no-place to leads
stock-leads (DeskCell t d) shard to tag leads = no-place to leads
stock-leads (GateCell g) shard to tag leads = no-place to leads
stock-leads (BlockCell b) shard to tag leads = no-place to leads

pub map-fixed : (c : CellValue) (worker : ℕ) → tag_of c ≡ MapOf worker → tag_of c ≢ OfStock
map-fixed c worker is e = (let never : MapOf worker ≡ OfStock = sym is ∙ e in cc)

module _ (s : Setting) (w : World) (g : Ghost) (i : InvWith s (view s w) g) where
  -- a worker whose table leads anywhere is there
  pub worker-there : (worker shard : ℕ) (to : Where) → where_in (w.cells (map_cell s worker)) shard ≡ Some to → worker < s.workers
  worker-there worker shard to leads = elim (cases_lt worker s.workers) [
    | inl lt ↦ lt
    | inr ge ↦ stock-leads (w.cells (map_cell s worker)) shard to (i.numbering.tag (map_cell s worker) ∙ tag-rest s (map_cell s worker) (omega (arith, ge))) leads
  ]

  pub led-tag : (worker shard : ℕ) (to : Where) → where_in (w.cells (map_cell s worker)) shard ≡ Some to → tag_of (w.cells (map_cell s worker)) ≡ MapOf worker
  led-tag worker shard to leads = map-tag s w g i worker (worker-there worker shard to leads)

  -- the gate to which a worker's table leads
  pub led-stands : (worker shard gate : ℕ) → where_in (w.cells (map_cell s worker)) shard ≡ Some (where_is.Gate gate) → IsSome (gate_shard (w.cells gate))
  led-stands worker shard gate leads =
      let on = i.lineage.leads worker shard gate leads in
      let there = (i.lineage.gate_of shard worker on.0).1 in
      subst (λ (k : ℕ). IsSome (gate_shard (w.cells k))) on.1 (subst IsSome (sym there) refl)

  -- a table that is told by its tag
  pub gate-stands : (y worker shard gate : ℕ) → tag_of (w.cells y) ≡ MapOf worker → where_in (w.cells y) shard ≡ Some (where_is.Gate gate) → IsSome (gate_shard (w.cells gate))
  gate-stands y worker shard gate tag leads =
      let here = (is-map s y worker (sym (i.numbering.tag y) ∙ tag)).0 in
      led-stands worker shard gate (subst (λ (k : ℕ). where_in (w.cells k) shard ≡ Some (where_is.Gate gate)) here leads)
