-- All rows of the shards that stand: the gates to which the tables lead have their aggregate, and they are no more than the events.
use Rattle.std.proofs.{Common.{ℕ, ◌≡◌, ◌+◌, ◌^◌, ◌<◌, ◌≤◌, List, [], ◌∷◌, length, map, take, drop, Some, None, refl, sym, ap, ◌∙◌, subst, arith}, lemmas.List.{take_more, map_push, map-append, take-append-drop}, lemmas.Option.{slice_get_within, get_or_from_slice_get}}
use Rattle.std.specs.{List.AllZip, Prelude.{flat_map, slice_get}}
use Rattle.dc_node.specs.Summary.{joined}
use Rattle.dc_node.proofs.Summaries.{JoinLaws, joined-append}
use Rattle.describing_set.specs.declared.listing.Spot.{Spot}
use Rattle.dim_hierarchy.specs.{Dimension.Dimension, declared.row.Row.Row}
use Rattle.measure_agg.specs.{Aggregate.{Aggregate, agg}, Joining.join}
use Rattle.measure_agg.proofs.AggLaws.{agg-append, join_associative, join_empty_left, join_empty_right}
use Rattle.row_ledger.specs.declared.page.AuditLine.{AuditLine}
use Rattle.list_words.specs.Counts.{Each}
use Rattle.core_image.specs.volap_cell.specs.{Cells.CellValue, Ghost.Ghost, Invariant.InvWith, Setting.Setting, Sights.{HasAll, SeesAudit}, Steps.Inv, View.{View, view}, World.World}
use Rattle.core_pages.specs.{Looks.{IsSeenOf, IsValid, StateValue, cells_in}, Seen.{IsAuditedIn, IsQuietIn}, Shards.{agg_of_gate, agg_of_spots, frontier_in, gate_of}}
use Rattle.core_image.proofs.Pages.RowsDivided.{few-rows}
use Rattle.core_pages.proofs.StateLines.{IsThere, all-there, its-part}

-- Aggregates of several spots.

joins : JoinLaws
joins = record { append = agg-append; associative = join_associative; empty_left = join_empty_left; empty_right = join_empty_right }

module _ (servers : ℕ) (cells : ℕ → CellValue) (spots : List Spot) (i : ℕ) where
  abbrev agg_at : Spot → Aggregate
  agg_at spot = agg_of_gate (gate_of servers cells spot)

  first-few : (agg_of_spots servers cells (take i spots)).count ≤ (agg_of_spots servers cells spots).count
  first-few =
      let whole : agg_of_spots servers cells spots ≡ join (agg_of_spots servers cells (take i spots)) (agg_of_spots servers cells (drop i spots)) =
      ap (agg_of_spots servers cells) (sym (take-append-drop i spots))
      ∙ ap joined (map-append agg_at (take i spots) (drop i spots))
      ∙ joined-append joins (map agg_at (take i spots)) (map agg_at (drop i spots)) in
      omega (arith, ap (λ (a : Aggregate). a.count) whole)

  pub one-more : (spot : Spot) → slice_get spots i ≡ Some spot → agg_of_spots servers cells (take (i + 1) spots) ≡ join (agg_of_spots servers cells (take i spots)) (agg_at spot)
  one-more spot found =
      rw (take_more spots i spot (slice_get_within spots i spot found), get_or_from_slice_get spots i spot spot found, map_push)
      (joined-append joins (map agg_at (take i spots)) (agg_at spot ∷ []) ∙ ap (join (agg_of_spots servers cells (take i spots))) (join_empty_right (agg_at spot)))

-- where there is room for all, there is for the first ones and one more
pub room-for-one : (servers : ℕ) (cells : ℕ → CellValue) (spots : List Spot) (i : ℕ) (spot : Spot) → slice_get spots i ≡ Some spot → (agg_of_spots servers cells spots).count < 2 ^ 63
    → (agg_of_spots servers cells (take i spots)).count + (agg_of_gate (gate_of servers cells spot)).count < 2 ^ 63
room-for-one servers cells spots i spot found few =
    let more = one-more servers cells spots i spot found in
    let first = first-few servers cells spots (i + 1) in
    omega (arith, few, first, ap (λ (a : Aggregate). a.count) more)

-- The state.

-- what is read of these spots
record Reads (s : Setting) (v : View) (cells : ℕ → CellValue) (spots : List Spot) : Type 0 where
  pub parts : List (List Row)
  pub all : AllZip (HasAll s v) spots parts
  pub total : agg_of_spots s.servers cells spots ≡ agg (flat_map (λ rows. rows) parts)

module _ (s : Setting) (w : World) (ghost : Ghost) (inv : InvWith s (view s w) ghost) (quiet : (a : ℕ) → (w.actors a).errand ≡ None) where
  abbrev v : View
  v = view s w

  each-part : (spots : List Spot) → Each (IsThere s w ghost inv quiet) spots → Reads s v w.cells spots
  each-part [] each = record { parts = []; all = tt; total = refl }
  each-part (spot ∷ spots) each =
      let (part, has, total) = its-part s w ghost inv quiet spot each.0 in
      let more = each-part spots each.1 in
      record {
        parts = part ∷ more.parts;
        all = (has, more.all);
        total = (λ k. join (total k) (more.total k)) ∙ sym (agg-append part (flat_map (λ rows. rows) more.parts));
      }

  reads : Reads s v w.cells v.registry.frontier
  reads = each-part v.registry.frontier (all-there s w ghost inv quiet)

  few-all : (agg_of_spots s.servers w.cells v.registry.frontier).count < 2 ^ 63
  few-all =
      let few = few-rows s w ghost inv reads.parts reads.all in
      let short = inv.owing.few in
      omega (arith, few, short, ap (λ (a : Aggregate). a.count) reads.total)

  sees-all : (audit : AuditLine) → audit.agg ≡ agg_of_spots s.servers w.cells v.registry.frontier → audit.shards ≡ length v.registry.frontier → SeesAudit s v audit
  sees-all audit total shards = record { parts = reads.parts; each = reads.all; total = total ∙ reads.total; shards = shards }

-- The same of whatever state is seen.
module _ (servers : ℕ) (state : StateValue) (quiet : IsQuietIn servers state) where
  abbrev all : Aggregate
  all = agg_of_spots servers (cells_in state) (frontier_in (cells_in state))

  same-total : (s : Setting) (w : World) → IsSeenOf state w → Inv s w → all ≡ agg_of_spots s.servers w.cells (frontier_in w.cells)
  same-total s w is inv = λ k. agg_of_spots (sym (quiet s w is inv).servers_are k) (is.cells k) (frontier_in (is.cells k))

  pub few-in : (h : List Dimension) → IsValid h state → all.count < 2 ^ 63
  few-in h has =
      let s = has.setting in
      let w = has.world in
      subst (λ (a : Aggregate). a.count < 2 ^ 63) (sym (same-total s w has.is has.inv)) (few-all s w has.inv.ghost_of has.inv.holds (quiet s w has.is has.inv).quiet)

  pub audited-in : (audit : AuditLine) → audit.agg ≡ all → audit.shards ≡ length (frontier_in (cells_in state)) → IsAuditedIn state audit
  audited-in audit total shards s w is inv =
      sees-all s w inv.ghost_of inv.holds (quiet s w is inv).quiet audit (total ∙ same-total s w is inv) (shards ∙ ap (λ (cells : ℕ → CellValue). length (frontier_in cells)) is.cells)
