-- The lines of the shards that stand: the tables of the workers lead to their gates.
use Rattle.std.proofs.{Common.{ℕ, zero, suc, ◌≡◌, ◌==◌, ◌&&◌, ◌||◌, true, List, [], ◌∷◌, ◌++◌, Option, Some, None, inl, inr, refl, sym, ap, ◌∙◌, subst}, lemmas.Bool.{eq-eqb, or_right}, lemmas.List.map-append}
use Rattle.std.specs.{List.{AllZip, list_any}, Prelude.{IsSome, slice_get}}
use Rattle.dc_node.specs.Summary.{coords}
use Rattle.dc_node.proofs.Summaries.{valid_coords}
use Rattle.describing_set.specs.declared.listing.Spot.{Spot}
use Rattle.dim_hierarchy.specs.{Dimension.Dimension, declared.row.Row.Row}
use Rattle.measure_agg.specs.{Aggregate.{Aggregate, agg}, Joining.join}
use Rattle.measure_agg.proofs.AggLaws.{agg-append}
use Rattle.row_ledger.specs.{Listings.places_of, Shards.{Place, is_of}, Workers.is_on, declared.page.ShardLine.ShardLine}
use Rattle.core_image.specs.shard_store.specs.declared.gate.Gate.{Gate}
use Rattle.list_words.specs.Counts.{Among, Each}
use Rattle.list_words.proofs.Each.{each-here}
use Rattle.core_image.specs.volap_cell.specs.{Cells.{CellValue, OfStock, TheRegistry, tag_of}, Ghost.Ghost, Invariant.InvWith, Setting.{Setting, registry_cell}, Sights.{HasAll, HasRows, SeesLine}, View.{View, view}, World.World}
use Rattle.core_pages.specs.{Looks.{IsValid, StateValue, cells_in, gate_in, gate_there}, Seen.{AreSeenIn, CanSee, IsQuiet, IsQuietIn}, Shards.{CanLead, HasGate, HasGateAt, HasLine, IsGateAt, IsLineOf, agg_of_gate, frontier_in, gate_of, gate_place}}
use Rattle.core_pages.proofs.{LookedAt.there-unless, StateTrees.{has-rows, queue-is, tree-sums, tree_rows}}

-- what holds of each element holds of that at a place
pub each-at : {A : Type 0} (P : A → Type 0) (xs : List A) (i : ℕ) (x : A) → Each P xs → slice_get xs i ≡ Some x → P x
each-at {A} P [] i x each found = (let never : ◌≡◌ {A = Option A} None (Some x) = found in absurd (cc))
each-at P (y ∷ xs) zero x each found = (let same : y ≡ x = cc in subst P same each.0)
each-at P (y ∷ xs) (suc i) x each found = each-at P xs i x each.1 found

-- a spot's place is one of the places
any-place : (spots : List Spot) (spot : Spot) → Among spot spots → list_any (λ (p : Place). is_of spot.shard p && (p.worker == spot.worker)) (places_of spots) ≡ true
any-place [] spot among = absurd among
any-place (x ∷ spots) spot among = elim among [
  | inl e ↦ subst (λ (z : Spot). (((z.shard == spot.shard) && (z.worker == spot.worker)) || list_any (λ (p : Place). is_of spot.shard p && (p.worker == spot.worker)) (places_of spots)) ≡ true) e
      (rw (eq-eqb spot.shard spot.shard refl, eq-eqb spot.worker spot.worker refl) refl)
  | inr later ↦ or_right ((x.shard == spot.shard) && (x.worker == spot.worker)) _ (any-place spots spot later)
]

module _ (s : Setting) (w : World) (ghost : Ghost) (inv : InvWith s (view s w) ghost) (quiet : (a : ℕ) → (w.actors a).errand ≡ None) where
  abbrev v : View
  v = view s w

  abbrev pub IsThere : Spot → Type 0
  IsThere spot = is_on s.workers v.history spot.shard spot.worker ≡ true

  pub all-there : Each IsThere v.registry.frontier
  all-there = each-here IsThere v.registry.frontier (λ spot among.
      subst (λ (places : List Place). list_any (λ (p : Place). is_of spot.shard p && (p.worker == spot.worker)) places ≡ true) inv.lineage.front (any-place v.registry.frontier spot among))

  -- a spot's gate
  module _ (spot : Spot) (there : IsThere spot) where
    abbrev pub at : ℕ
    at = ghost.gate spot.shard

    abbrev gate : Gate
    gate = gate_in (w.cells at)

    pub can : CanSee w at
    can = (let led = inv.lineage.gate_of spot.shard spot.worker there in record { gate = subst IsSome (sym led.1) refl; stands = led.2; quiet = quiet })

    pub place-is : gate_place s.servers w.cells spot ≡ at
    place-is = ap gate_there (inv.lineage.gate_of spot.shard spot.worker there).0

    abbrev rows : List Row
    rows = tree_rows s w ghost inv at can

    its-rows : HasRows s v spot.shard rows gate.queue.rows
    its-rows = has-rows s w ghost inv at can spot.shard (inv.lineage.gate_of spot.shard spot.worker there).1

    -- what an audit reads of it
    pub its-part : (part : List Row) × HasAll s v spot part × (agg_of_gate (gate_of s.servers w.cells spot) ≡ agg part)
    its-part =
        let tree_agg : gate.agg ≡ agg rows = (tree-sums s w ghost inv at can).agg in
        let queue_agg : gate.queue.agg ≡ agg gate.queue.rows = (queue-is s w ghost inv at can).summary.agg in (
          rows ++ gate.queue.rows,
          (rows, gate.queue.rows, its-rows, refl),
          ap (λ (y : ℕ). agg_of_gate (gate_in (w.cells y))) place-is ∙ (λ k. join (tree_agg k) (queue_agg k)) ∙ sym (agg-append rows gate.queue.rows),
        )

    pub its-gate : HasGate s.hierarchy s.servers w.cells spot
    its-gate =
        let sums = tree-sums s w ghost inv at can in
        record {
          table = subst IsSome (sym (inv.lineage.gate_of spot.shard spot.worker there).0) refl;
          there = subst (λ (y : ℕ). HasGateAt s.hierarchy (w.cells y)) (sym place-is)
              (record {
                gate = can.gate;
                set = record { hierarchy = inv.numbering.setting.hierarchy; rows = coords rows; valid = valid_coords s.hierarchy rows sums.valid; set_of = sums.set_of };
                queue = (queue-is s w ghost inv at can).valid;
              });
        }

    its-line : (line : ShardLine) → HasLine s.hierarchy s.servers w.cells spot line → SeesLine s v spot line
    its-line line has =
        let is_line : IsLineOf s.hierarchy spot gate line = subst (λ (y : ℕ). IsLineOf s.hierarchy spot (gate_in (w.cells y)) line) place-is has in
        let sums = tree-sums s w ghost inv at can in
        let queued = (queue-is s w ghost inv at can).summary in
        record {
          shard = is_line.shard;
          worker = is_line.worker;
          tree = rows;
          queue = gate.queue.rows;
          has = its-rows;
          rows = is_line.rows ∙ ap (λ (a : Aggregate). a.count) sums.agg;
          queued = is_line.queued;
          set = rw map-append (is_line.set.joined (coords rows) (coords gate.queue.rows) (valid_coords s.hierarchy rows sums.valid) (valid_coords s.hierarchy gate.queue.rows queued.valid) sums.set_of queued.set_of);
        }

  pub each-line : (spots : List Spot) (lines : List ShardLine) → Each IsThere spots → AllZip (HasLine s.hierarchy s.servers w.cells) spots lines → AllZip (SeesLine s v) spots lines
  each-line [] [] each has = tt
  each-line [] (line ∷ lines) each has = absurd has
  each-line (spot ∷ spots) [] each has = absurd has
  each-line (spot ∷ spots) (line ∷ lines) each has = (its-line spot each.0 line has.0, each-line spots lines each.1 has.1)

-- The same of whatever state is seen.
module _ (servers : ℕ) (state : StateValue) (quiet : IsQuietIn servers state) where
  module _ (h : List Dimension) (valid : IsValid h state) where
    abbrev s : Setting
    s = valid.setting

    abbrev w : World
    w = valid.world

    abbrev q : IsQuiet servers s w
    q = quiet s w valid.is valid.inv

    -- the registry stands in its cell
    registry-there : IsSome (state.cells registry_cell)
    registry-there =
        let tag : tag_of (w.cells registry_cell) ≡ TheRegistry = valid.inv.holds.numbering.tag registry_cell in
        there-unless (state.cells registry_cell) (λ free. let never : TheRegistry ≡ OfStock = sym tag ∙ ap tag_of (sym (ap (λ (cells : ℕ → CellValue). cells registry_cell) valid.is.cells) ∙ free) in cc)

    -- a spot's table leads to a gate
    gate-in : (place : ℕ) (spot : Spot) → slice_get (frontier_in (cells_in state)) place ≡ Some spot → HasGate h servers (cells_in state) spot
    gate-in place spot found =
        let there = each-at (IsThere s w valid.inv.ghost_of valid.inv.holds q.quiet) (view s w).registry.frontier place spot (all-there s w valid.inv.ghost_of valid.inv.holds q.quiet)
        (subst (λ (cells : ℕ → CellValue). slice_get (frontier_in cells) place ≡ Some spot) valid.is.cells found) in
        subst (λ (cells : ℕ → CellValue). HasGate h servers cells spot) (sym valid.is.cells)
        (subst (λ (n : ℕ). HasGate h n w.cells spot) q.servers_are
        (subst (λ (d : List Dimension). HasGate d s.servers w.cells spot) valid.hierarchy (its-gate s w valid.inv.ghost_of valid.inv.holds q.quiet spot there)))

    pub can-lead : CanLead servers state
    can-lead = record { registry = registry-there; table = λ place spot found. (gate-in place spot found).table }

    -- the cell that is looked at after the spot and its table, where the same is seen after each look
    pub gate-at : (place : ℕ) (spot : Spot) (at : ℕ) (first second : StateValue) → first ≡ state → second ≡ first → slice_get (frontier_in (cells_in first)) place ≡ Some spot → at ≡ gate_place servers (cells_in first) spot
        → IsGateAt h servers (cells_in state) place spot (cells_in second at)
    gate-at place spot at first second first_is second_is found at_is =
        let here = subst (λ (seen : StateValue). slice_get (frontier_in (cells_in seen)) place ≡ Some spot) first_is found in
        let cell : cells_in second at ≡ cells_in state (gate_place servers (cells_in state) spot)
        = ap (λ (seen : StateValue). cells_in seen at) (second_is ∙ first_is) ∙ ap (cells_in state) (at_is ∙ ap (λ (seen : StateValue). gate_place servers (cells_in seen) spot) first_is) in
        record { found = here; is = cell; gate = subst (HasGateAt h) (sym cell) (gate-in place spot here).there }

  pub lines-in : (h : List Dimension) (lines : List ShardLine) → AllZip (HasLine h servers (cells_in state)) (frontier_in (cells_in state)) lines → AreSeenIn h state lines
  lines-in h lines has s w same is inv =
      let q = quiet s w is inv in
      each-line s w inv.ghost_of inv.holds q.quiet (view s w).registry.frontier lines (all-there s w inv.ghost_of inv.holds q.quiet)
      (subst (λ (d : List Dimension). AllZip (HasLine d s.servers w.cells) (frontier_in w.cells) lines) (sym same)
      (subst (λ (n : ℕ). AllZip (HasLine h n w.cells) (frontier_in w.cells) lines) (sym q.servers_are)
      (subst (λ (cells : ℕ → CellValue). AllZip (HasLine h servers cells) (frontier_in cells) lines) is.cells has)))
