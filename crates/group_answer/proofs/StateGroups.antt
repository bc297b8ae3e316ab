-- Where nobody is at a part, the gates to which the tables lead can be read, and their rows are those of the shards that stand.
use Rattle.std.proofs.{Common.{ℕ, zero, suc, ◌≡◌, ◌+◌, ◌-◌, ◌^◌, ◌<◌, List, [], ◌∷◌, ◌++◌, length, map, take, drop, Some, None, refl, sym, ap, ◌∙◌, subst, arith}, lemmas.List.{append-nil, length-append, take-append-drop, take_more}, lemmas.List.Concat.flat_map-append, lemmas.List.Sorted.IsPermutation-sym, lemmas.Option.{get_or_from_slice_get, slice_get_within}}
use Rattle.std.specs.{List.AllZip, Prelude.{flat_map, slice_get}}
use Rattle.dc_node.specs.{Summary.{IsSummaryOf, coords}, declared.entry.Entry.Entry}
use Rattle.dc_node.proofs.Summaries.{moved_summary, valid_coords}
use Rattle.describing_set.specs.declared.listing.Spot.{Spot}
use Rattle.describing_set.proofs.Laws.{IsSetOf-same}
use Rattle.dim_hierarchy.specs.{Dimension.{Dimension, IsHierarchy}, declared.row.Row.Row}
use Rattle.list_words.specs.Counts.{Each}
use Rattle.list_words.proofs.Each.{each-map}
use Rattle.measure_agg.specs.Aggregate.{Aggregate}
use Rattle.measure_agg.proofs.AggLaws.{agg-IsPermutation}
use Rattle.core_pages.specs.shard_store.specs.{Gate.root_entry, declared.gate.Gate.Gate}
use Rattle.core_pages.specs.tree_shape.specs.{PageLines.{CellBlocks, group_entries}, Shape.{Shape, Table}}
use Rattle.core_pages.specs.volap_cell.specs.{Cells.{CellValue, queue_in}, Ghost.Ghost, Growing.table_of, Invariant.InvWith, Setting.{Setting, cell_count}, Sights.{HasAll, HasGroups, HasRows, blocks_seen}, Steps.Inv, View.{View, view}, World.World}
use Rattle.core_pages.specs.{Looks.{IsSeenOf, IsValid, StateValue, blocks_of, cells_in, gate_in}, Seen.{CanSee, IsQuietIn}, Shards.{frontier_in, gate_place}, Still.IsStill}
use Rattle.core_pages.proofs.{AnyShape.same-placed, Counts.{IsEntry, entries-ok, named-ok, root-ok, rows-ok}, Listing.rows_at as listed_at, Numbers.perm-rows, StateLines.{IsThere, all-there, at, can, each-at, place-is}, StateTrees.{as-read, has-gate, queue-is, still, tall}}
use Rattle.core_pages.specs.core_image.proofs.Pages.RowsDivided.{few-rows}
use Rattle.group_answer.specs.{Adding.with_rows, Groups.{IsGroupPage, Question, all_of}, Reading.{AreSummed, IsReadable, IsSummed, rows_at, rows_of, rows_of_spot, rows_of_spots}, Seen.{AreGroupsIn, HasCountIn}}
use Rattle.row_ledger.specs.declared.page.{GroupLine.GroupLine, GroupPage.GroupPage}
use Rattle.row_ledger.proofs.Grouping.{IsShuffled, groups-shuffled, matching-shuffled}
use Rattle.group_answer.proofs.{Grouped.{all-groups, grouped}, Orders.{shuffled-append, shuffled-comm, shuffled-length}, RowSteps.rows-few}

-- the rows beneath an entry are those that its groups of leaves have
listed-same : (blocks : CellBlocks) (level : ℕ) (e : Entry) → rows_at blocks level e ≡ listed_at blocks level e
listed-same blocks zero e = refl
listed-same blocks (suc level) e = λ k. flat_map (λ (x : Entry). listed-same blocks level x k) (group_entries blocks e)

module _ (table : Table) (home : ℕ) (gate : Gate) (blocks : CellBlocks) (g : Shape) (rests : IsStill table home gate blocks g) (valid : IsHierarchy table.hierarchy) where
  entry-here : (l : ℕ) (e : Entry) → l < gate.height → IsEntry table home gate blocks g rests l e → IsSummed table.hierarchy e (rows_at blocks l e)
  entry-here l e lt ok =
      let rows = listed_at blocks l e in
      let moved = perm-rows table rows (g.below e.child) (named-ok table home gate blocks g rests l e lt ok) (rows-ok table home gate blocks g rests l e lt ok) in
      let sums : IsSummaryOf table.hierarchy rows e.agg e.set =
      moved_summary table.hierarchy (IsSetOf-same table.hierarchy) agg-IsPermutation (map table.row (g.below e.child)) rows e.agg e.set (IsPermutation-sym rows (map table.row (g.below e.child)) moved) ok.summary in
      subst (IsSummed table.hierarchy e) (sym (listed-same blocks l e))
      (record { summary = sums; valid = record { hierarchy = valid; rows = coords rows; valid = valid_coords table.hierarchy rows sums.valid; set_of = sums.set_of } })

  pub entry-summed : (l : ℕ) (e : Entry) → l < gate.height → IsEntry table home gate blocks g rests l e → AreSummed table.hierarchy blocks l e
  entry-summed zero e lt ok = entry-here zero e lt ok
  entry-summed (suc l) e lt ok = (
    entry-here (suc l) e lt ok,
    each-map (IsEntry table home gate blocks g rests l) (λ x. AreSummed table.hierarchy blocks l x) (group_entries blocks e) (λ x o. entry-summed l x (omega arith) o)
        (entries-ok table home gate blocks g rests l (suc l) e (omega arith) lt ok),
  )

-- what is read of some spots: parts of the shards, and the same rows in the order in which they are read
record ReadsRows (s : Setting) (v : View) (cells : ℕ → CellValue) (spots : List Spot) : Type 0 where
  pub parts : List (List Row)
  pub all : AllZip (HasAll s v) spots parts
  pub moved : IsShuffled (rows_of_spots s.servers (cell_count s) cells spots) (flat_map (λ rows. rows) parts)

module _ (s : Setting) (w : World) (ghost : Ghost) (inv : InvWith s (view s w) ghost) (quiet : (a : ℕ) → (w.actors a).errand ≡ None) where
  abbrev v : View
  v = view s w

  abbrev blocks : CellBlocks
  blocks = blocks_seen s v

  abbrev table : Table
  table = table_of s v.row

  -- of one spot
  module _ (spot : Spot) (there : IsThere s w ghost inv quiet spot) where
    abbrev here : ℕ
    here = at s w ghost inv quiet spot there

    abbrev seen : CanSee w here
    seen = can s w ghost inv quiet spot there

    abbrev gate : Gate
    gate = gate_in (w.cells here)

    abbrev g0 : Shape
    g0 = ghost.shape here

    abbrev rests : IsStill table here gate blocks g0
    rests = still s w ghost inv here seen

    abbrev root : Entry
    root = root_entry gate

    low : gate.height - 1 < gate.height
    low = let up = tall s w ghost inv here seen in omega (arith, up)

    readable-here : IsReadable s.hierarchy blocks (w.cells here)
    readable-here = record {
      gate = seen.gate;
      queue = queue-is s w ghost inv here seen;
      tall = tall s w ghost inv here seen;
      summed = entry-summed table here gate blocks g0 rests inv.numbering.setting.hierarchy (gate.height - 1) root low (root-ok table here gate blocks g0 rests);
    }

    readable : IsReadable s.hierarchy blocks (w.cells (gate_place s.servers w.cells spot))
    readable = subst (λ (y : ℕ). IsReadable s.hierarchy blocks (w.cells y)) (sym (place-is s w ghost inv quiet spot there)) readable-here

    its-rows : HasRows s v spot.shard (listed_at blocks (gate.height - 1) root) gate.queue.rows
    its-rows = record {
      gate = here;
      is_gate = (inv.lineage.gate_of spot.shard spot.worker there).1;
      stands = seen.stands;
      queue_is = ap (λ (c : CellValue). (queue_in c).rows) (has-gate (w.cells here) seen.gate);
      named = named-ok table here gate blocks g0 rests (gate.height - 1) root low (root-ok table here gate blocks g0 rests);
      tree_is = λ g is r. rows-ok table here gate blocks g0 rests (gate.height - 1) root low (root-ok table here gate blocks g0 rests) r ∙ same-placed table here gate blocks g0 g rests (as-read s w ghost inv here seen g is) r;
    }

    moved-here : IsShuffled (rows_of_spot s.servers (cell_count s) w.cells spot) (listed_at blocks (gate.height - 1) root ++ gate.queue.rows)
    moved-here =
        let place : rows_of_spot s.servers (cell_count s) w.cells spot ≡ gate.queue.rows ++ rows_at blocks (gate.height - 1) root =
        ap (λ (y : ℕ). rows_of blocks (gate_in (w.cells y))) (place-is s w ghost inv quiet spot there) in
        let listed : gate.queue.rows ++ rows_at blocks (gate.height - 1) root ≡ gate.queue.rows ++ listed_at blocks (gate.height - 1) root = ap (λ (l : List Row). gate.queue.rows ++ l) (listed-same blocks (gate.height - 1) root) in
        subst (λ (l : List Row). IsShuffled l (listed_at blocks (gate.height - 1) root ++ gate.queue.rows)) (sym (place ∙ listed)) (shuffled-comm gate.queue.rows (listed_at blocks (gate.height - 1) root))

  reads-each : (spots : List Spot) → Each (IsThere s w ghost inv quiet) spots → ReadsRows s v w.cells spots
  reads-each [] each = record { parts = []; all = tt; moved = refl }
  reads-each (spot ∷ spots) each =
      let more = reads-each spots each.1 in
      let h = here spot each.0 in
      let one = gate spot each.0 in
      let part = listed_at blocks (one.height - 1) (root_entry one) in
      record {
        parts = (part ++ one.queue.rows) ∷ more.parts;
        all = ((part, one.queue.rows, its-rows spot each.0, refl), more.all);
        moved = shuffled-append (rows_of_spot s.servers (cell_count s) w.cells spot) (part ++ one.queue.rows) (rows_of_spots s.servers (cell_count s) w.cells spots) (flat_map (λ rows. rows) more.parts) (moved-here spot each.0) more.moved;
      }

  reads : ReadsRows s v w.cells v.registry.frontier
  reads = reads-each v.registry.frontier (all-there s w ghost inv quiet)

  few-all : length (rows_of_spots s.servers (cell_count s) w.cells v.registry.frontier) < 2 ^ 63
  few-all =
      let few = few-rows s w ghost inv reads.parts reads.all in
      let short = inv.owing.few in
      let same = shuffled-length (rows_of_spots s.servers (cell_count s) w.cells v.registry.frontier) (flat_map (λ rows. rows) reads.parts) reads.moved in
      omega (arith, few, short, same)

  sees : (q : Question) (page : GroupPage) → IsGroupPage q (rows_of_spots s.servers (cell_count s) w.cells v.registry.frontier) page → HasGroups q s v page
  sees q page is =
      let xs = rows_of_spots s.servers (cell_count s) w.cells v.registry.frontier in
      let ys = flat_map (λ rows. rows) reads.parts in
      record {
        parts = reads.parts;
        each = reads.all;
        is_page = record { lines = is.lines ∙ groups-shuffled q xs ys reads.moved; all = is.all ∙ matching-shuffled q xs ys reads.moved };
      }

-- The same of whatever state is seen.
module _ (servers many : ℕ) (state : StateValue) (quiet : IsQuietIn servers state) (count : HasCountIn many state) where
  abbrev pub rows_in : List Row
  rows_in = rows_of_spots servers many (cells_in state) (frontier_in (cells_in state))

  same-rows : (s : Setting) (w : World) → IsSeenOf state w → Inv s w → rows_in ≡ rows_of_spots s.servers (cell_count s) w.cells (frontier_in w.cells)
  same-rows s w is inv =
      let n : servers ≡ s.servers = sym (quiet s w is inv).servers_are in
      let m : many ≡ cell_count s = sym (count s w is inv) in
      λ k. rows_of_spots (n k) (m k) (is.cells k) (frontier_in (is.cells k))

  pub few-in : (h : List Dimension) → IsValid h state → length rows_in < 2 ^ 63
  few-in h has =
      let s = has.setting in
      let w = has.world in
      subst (λ (l : List Row). length l < 2 ^ 63) (sym (same-rows s w has.is has.inv)) (few-all s w has.inv.ghost_of has.inv.holds (quiet s w has.is has.inv).quiet)

  pub groups-in : (q : Question) (page : GroupPage) → IsGroupPage q rows_in page → AreGroupsIn q state page
  groups-in q page is s w about seen inv =
      sees s w inv.ghost_of inv.holds (quiet s w seen inv).quiet q page (subst (λ (l : List Row). IsGroupPage q l page) (same-rows s w seen inv) is)

  -- lines of all rows make the page
  module _ (q : Question) (lines : List GroupLine) (are : lines ≡ with_rows q rows_in []) where
    pub few-lines : (h : List Dimension) → IsValid h state → (all_of lines).count < 2 ^ 63
    few-lines h has =
        let few = few-in h has in
        let less = rows-few q rows_in [] in
        omega (arith, few, less, ap (λ (l : List GroupLine). (all_of l).count) are)

    pub page-of : (all : Aggregate) → all ≡ all_of lines → AreGroupsIn q state (record { lines = lines; all = all })
    page-of all is = groups-in q (record { lines = lines; all = all })
        (record { lines = are ∙ grouped q rows_in; all = is ∙ ap all_of (are ∙ grouped q rows_in) ∙ all-groups q rows_in })

  pub readable-in : (h : List Dimension) → IsValid h state → (place : ℕ) (spot : Spot) → slice_get (frontier_in (cells_in state)) place ≡ Some spot
      → IsReadable h (blocks_of many (cells_in state)) (cells_in state (gate_place servers (cells_in state) spot))
  readable-in h has place spot found =
      let s = has.setting in
      let w = has.world in
      let q = quiet s w has.is has.inv in
      let there = each-at (IsThere s w has.inv.ghost_of has.inv.holds q.quiet) (view s w).registry.frontier place spot (all-there s w has.inv.ghost_of has.inv.holds q.quiet)
      (subst (λ (cells : ℕ → CellValue). slice_get (frontier_in cells) place ≡ Some spot) has.is.cells found) in
      subst (λ (cells : ℕ → CellValue). IsReadable h (blocks_of many cells) (cells (gate_place servers cells spot))) (sym has.is.cells)
      (subst (λ (n : ℕ). IsReadable h (blocks_of many w.cells) (w.cells (gate_place n w.cells spot))) q.servers_are
      (subst (λ (n : ℕ). IsReadable h (blocks_of n w.cells) (w.cells (gate_place s.servers w.cells spot))) (count s w has.is has.inv)
      (subst (λ (d : List Dimension). IsReadable d (blocks_of (cell_count s) w.cells) (w.cells (gate_place s.servers w.cells spot))) has.hierarchy
      (readable s w has.inv.ghost_of has.inv.holds q.quiet spot there))))

-- one spot more
pub one-more : (servers many : ℕ) (cells : ℕ → CellValue) (spots : List Spot) (i : ℕ) (spot : Spot) → slice_get spots i ≡ Some spot
    → rows_of_spots servers many cells (take (i + 1) spots) ≡ rows_of_spots servers many cells (take i spots) ++ rows_of_spot servers many cells spot
one-more servers many cells spots i spot found =
    let rows : Spot → List Row = λ (x : Spot). rows_of_spot servers many cells x in
    ap (flat_map rows) (take_more spots i spot (slice_get_within spots i spot found) ∙ ap (λ (x : Spot). take i spots ++ x ∷ []) (get_or_from_slice_get spots i spot spot found))
    ∙ flat_map-append rows (take i spots) (spot ∷ [])
    ∙ ap (λ (l : List Row). rows_of_spots servers many cells (take i spots) ++ l) (append-nil (rows spot))

-- where there is room for all, there is for the first ones and one more
pub room-for-one : (servers many : ℕ) (cells : ℕ → CellValue) (spots : List Spot) (i : ℕ) (spot : Spot) → slice_get spots i ≡ Some spot → length (rows_of_spots servers many cells spots) < 2 ^ 63
    → length (rows_of_spots servers many cells (take i spots)) + length (rows_of_spot servers many cells spot) < 2 ^ 63
room-for-one servers many cells spots i spot found few =
    let rows : Spot → List Row = λ (x : Spot). rows_of_spot servers many cells x in
    let more = ap length (one-more servers many cells spots i spot found) in
    let both = length-append (rows_of_spots servers many cells (take i spots)) (rows spot) in
    let whole = ap (λ (l : List Spot). length (flat_map rows l)) (sym (take-append-drop (i + 1) spots)) in
    let parts = ap length (flat_map-append rows (take (i + 1) spots) (drop (i + 1) spots)) in
    let sum = length-append (flat_map rows (take (i + 1) spots)) (flat_map rows (drop (i + 1) spots)) in
    omega (arith, few, more, both, whole, parts, sum)
