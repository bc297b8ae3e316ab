-- A row's step down from the block at which it is carried: there is one, and it is prepared where the child is free.
use Rattle.std.proofs.Common.{◌≡◌, ◌≢◌, ◌∙◌, ℕ, ◌≤◌, List, ◌∷◌, ◌++◌, length, slice_get, Option, Some, refl, sym, ap, subst, arith}
use Rattle.std.proofs.lemmas.Bool.{eqb-false}
use Rattle.std.specs.{Option.IfSome, Prelude.{option_and_then, option_map}}
use Rattle.cell_stock.specs.declared.purse.Spare.{Spare}
use Rattle.core_due.specs.{Ready.{IsDescending, IsFree, IsLendable, IsRowPrepared}, Rows.{descent_of, down_by, down_for, first_behind, held_for, row_in, row_of, second_behind}, Spares.{last_spare}}
use Rattle.core_due.proofs.{AtParts.part-there, Heads.{AreBeside, beside, of-each, spare-off}, Behind.{AreSpareCells, IsHeldTail, held-tail, numbers-of-two, one-held, one-spare, tail_numbers, two-held}, Owned.{lend-block, lend-own}, Picks.{HasPick, entries-some, has-pick}, StepsPrepared.carried-own}
use Rattle.core_steps.specs.{Places.{number_at, numbers}, Rows.row_places}
use Rattle.core_steps.specs.core_tree.specs.Descent.{AreForNew}
use Rattle.core_steps.specs.core_tree.proofs.{Calls.Lends.{lends-behind}, Rows.Carriers.{Carries, carries, purse-owned}}
use Rattle.dc_node.specs.{Block.{IsBodyOf, entries_in, is_full}, declared.entry.Entry.Entry}
use Rattle.dim_hierarchy.specs.{Rows.IsRowOf, declared.row.Row.Row}
use Rattle.list_words.specs.Counts.{Each}
use Rattle.core_steps.specs.tree_shape.specs.{Shape.{Shape, Table, TreeCells}, Trees.{IsBehind, IsBelow}}
use Rattle.core_steps.specs.tree_shape.proofs.Whole.Totals.{block-fits, entry-leads, leads-down}
use Rattle.core_steps.specs.volap_cell.proofs.Actors.{row-at}
use Rattle.core_steps.specs.volap_cell.specs.{Cells.{block_in}, Errands.{place_of, row_way}, Ghost.{Ghost, InPurse, InTree}, Growing.table_of, Invariant.InvWith, Setting.Setting, State.AreDifferent, Stocking.cells_at, TreeKinds.{HasRow, IsTailOf}, View.{View, view}, World.World}

-- The step, and the child to which it leads.
pub record IsDescent (s : Setting) (w : World) (n block : ℕ) : Type 0 where
  pub d : IsDescending w n block
  pub pick : HasPick s.hierarchy d.r.row.at (entries_in (block_in (w.cells block)).body)
  pub step_is : descent_of s.hierarchy w (w.actors n) block ≡ Some (down_by w (w.actors n).purse block pick.place pick.entry)
  pub prepared : IsRowPrepared s w n (down_by w (w.actors n).purse block pick.place pick.entry)
  -- the block and the row are of the dimensions
  pub body : IsBodyOf s.hierarchy (block_in (w.cells block)).body
  pub row_valid : IfSome (row_of (w.actors n).errand) (IsRowOf s.hierarchy)

module _ (s : Setting) (w : World) (g : Ghost) (i : InvWith s (view s w) g) (n block : ℕ) (d : IsDescending w n block) where
  abbrev v : View
  v = view s w

  abbrev cells : TreeCells
  cells = cells_at (view s w).blocks (view s w).trees d.gate

  abbrev shape : Shape
  shape = g.shape d.gate

  abbrev table : Table
  table = table_of s (view s w).row

  abbrev entries : List Entry
  entries = entries_in (block_in (w.cells block)).body

  abbrev purse : List Spare
  purse = (w.actors n).purse

  has : HasRow (w.actors n) d.e d.r
  has = record { errand = d.errand; row = d.row }

  here : Carries s (view s w) g d.gate block (row_way d.e d.r)
  here = carries s (view s w) g refl i n d.gate block (row_way d.e d.r) (row-at has) (ap place_of d.way_is)

  some-entries : 1 ≤ length entries
  some-entries =
      let fits = here.tree.blocks block here.inside here.apart in
      let ne = eqb-false (shape.level block) 0 (sym fits.kind ∙ d.directory) in
      entries-some (block_in (w.cells block)).body d.directory (fits.some (omega arith))

  abbrev pick : HasPick s.hierarchy d.r.row.at entries
  pick = has-pick s.hierarchy d.r.row.at (entries_in (block_in (w.cells block)).body) some-entries

  abbrev entry : Entry
  entry = (has-pick s.hierarchy d.r.row.at (entries_in (block_in (w.cells block)).body) some-entries).entry

  below : IsBelow cells shape entry.child (shape.level block)
  below = leads-down table cells shape block pick.place entry here.tree here.inside here.apart pick.entry_at

  child-used : g.owner entry.child ≡ InTree d.gate
  child-used = (i.stocking.tree d.gate entry.child here.whole below.inside below.block).0

  tail : IsHeldTail w cells shape entry
  tail = held-tail w table d.gate (view s w).trees shape here.tree entry (entry-leads table cells shape block pick.place entry here.tree here.inside here.apart pick.entry_at)
      (lends-behind s w g i d.gate here.whole leads-down block pick.place entry here.inside here.apart pick.entry_at)

  abbrev behind : List ℕ
  behind = tail_numbers w entry.stamp entry.child

  abbrev fresh : List ℕ
  fresh = number_at (held_for (block_in (w.cells entry.child)) (last_spare purse))

  some-spares : 1 ≤ length purse
  some-spares = (let enough = (i.turning.enough n d.gate block (row_way d.e d.r) (row-at has) (ap place_of d.way_is)).0 in let low = below.below in omega arith)

  spare : AreSpareCells w.cells (λ y. g.owner y ≡ InPurse n) (is_full (block_in (w.cells entry.child)).body) 1 purse fresh
  spare = one-spare w.cells (λ y. g.owner y ≡ InPurse n) purse (purse-owned s (view s w) g i n) (is_full (block_in (w.cells entry.child)).body) some-spares

  abbrev Free : Type 0
  Free = IsFree w n (has-pick s.hierarchy d.r.row.at (entries_in (block_in (w.cells block)).body) some-entries).entry.child

  others : AreBeside s w g n d.gate entry.child Free (behind ++ fresh)
  others = beside s w g i n d.gate here.whole entry Free child-used tail fresh spare.own spare.apart

  child-off : entry.child ≢ block
  child-off e = (let low = below.below in let same = ap shape.level e in absurd (omega arith))

  behind-off : (y : ℕ) → IsBehind cells shape entry.child y → y ≢ block
  behind-off y b e = (let low = below.below in let same = ap shape.level e in let level = b.level in absurd (omega arith))

  -- its numbers, in a row
  row-is : numbers (row_places (down_by w purse block pick.place entry)) ≡ block ∷ entry.child ∷ (behind ++ fresh)
  row-is =
      ap (λ (zs : List ℕ). block ∷ entry.child ∷ zs)
      (numbers-of-two (first_behind entry.stamp (block_in (w.cells entry.child))) (second_behind w entry.stamp (first_behind entry.stamp (block_in (w.cells entry.child)))) fresh)

  down-prepared : IsRowPrepared s w n (down_by w purse block pick.place entry)
  down-prepared =
      let own = carried-own (w.actors n) d.e d.r d.gate block d.errand d.row d.way_is in
      record {
        cells = subst (Each (IsLendable s w n Free)) (sym row-is) (lend-own s w g i n Free block own, (lend-block s w g i n Free d.gate entry.child child-used (λ free. free), others.can));
        apart = subst AreDifferent (sym row-is) (
          (child-off, of-each s w g n d.gate entry.child (behind ++ fresh) (λ y. y ≢ block) behind-off (λ y k. spare-off g n d.gate block y here.owner k) others.each),
          (others.off, others.apart),
        );
        actor = part-there s w g i n d.e d.errand;
        asked = record {
          carried = own;
          e = d.e;
          r = d.r;
          has = has;
          picked = pick.pick;
          entry = entry;
          entry_at = pick.entry_at;
          child_is = refl;
          behind = subst (IsTailOf entry.stamp (block_in (w.cells entry.child)))
              (sym (two-held w.cells (first_behind entry.stamp (block_in (w.cells entry.child))) (second_behind w entry.stamp (first_behind entry.stamp (block_in (w.cells entry.child))))))
              tail.asked;
          for_new = subst (AreForNew (is_full (block_in (w.cells entry.child)).body) 1 purse) (sym (one-held w.cells (held_for (block_in (w.cells entry.child)) (last_spare purse)))) spare.asked;
        };
      }

  row-there : row_of (w.actors n).errand ≡ Some d.r.row
  row-there = ap row_of d.errand ∙ ap row_in d.row

  down-is : descent_of s.hierarchy w (w.actors n) block ≡ Some (down_by w purse block pick.place entry)
  down-is =
      ap (option_and_then (λ (row : Row). down_for s.hierarchy w purse block row entries)) row-there
      ∙ ap (option_and_then (λ place. option_map (down_by w purse block place) (slice_get entries place))) pick.place_is
      ∙ ap (option_map (down_by w purse block pick.place)) pick.entry_at

  pub descent : IsDescent s w n block
  descent = record {
    d = d;
    pick = pick;
    step_is = down-is;
    prepared = down-prepared;
    body = (block-fits table cells shape here.tree block here.inside here.apart i.numbering.setting.hierarchy).body;
    row_valid = subst (λ (o : Option Row). IfSome o (IsRowOf s.hierarchy)) (sym row-there) (subst (IsRowOf s.hierarchy) here.known (here.tree.numbered d.r.row.no here.in_tree.placed).1);
  }
