-- A row's step in at the gate to which its worker's table leads: there is one, and it is prepared where the root is free.
use Rattle.std.proofs.Common.{◌≡◌, ◌≢◌, ◌∙◌, ℕ, ◌<◌, inl, Bool, IsSome, List, [], ◌∷◌, ◌++◌, Option, Some, refl, sym, ap, subst, arith}
use Rattle.std.proofs.lemmas.List.{append_assoc}
use Rattle.std.specs.Prelude.{option_map}
use Rattle.cell_stock.specs.declared.purse.Spare.{Spare}
use Rattle.core_due.specs.{Due.may_enter, Ready.{IsEntering, IsFree, IsLendable, IsRowPrepared}, Rows.{entrance_of, first_behind, gate_in, held_for, in_by, second_behind}, Spares.{last_spare, spare_before}}
use Rattle.core_due.proofs.{AtParts.{led-gate, part-places, part-there}, Behind.{AreSpareCells, IsHeldTail, held-tail, numbers-of-two, tail_numbers, two-held, two-spares}, Gates.{MayEnter, gate-is, may-enter}, Heads.{AreBeside, beside, of-each}, Tables.{IsTable, table-of}, Owned.{behind-owned, gate-owned, lend-block, lend-gate, lend-map, map-tag, off-map, spare-owned, tree-owned}}
use Rattle.core_steps.specs.{Places.{number_at, numbers}, Rows.row_places}
use Rattle.core_steps.specs.core_tree.specs.Descent.{AreForNew}
use Rattle.core_steps.specs.core_tree.proofs.{Calls.Lends.{lends-root, lent_as}, Rows.Carriers.purse-owned, Stocks.Spares.{AreDistinct, spares-distinct, spares-left}}
use Rattle.dc_node.specs.{Block.is_full}
use Rattle.list_words.specs.Counts.{Each}
use Rattle.mapping_table.specs.declared.place.Where.TheVariants as where_is
use Rattle.core_steps.specs.shard_store.specs.{Gate.root_entry, declared.gate.Gate.Gate, declared.gate.Phase.TheVariants.{Gone, Open}}
use Rattle.core_steps.specs.tree_shape.specs.{Shape.{Shape, Table, TreeCells, nodes}, Trees.{IsBehind, IsBelow, IsTree}}
use Rattle.core_steps.specs.tree_shape.proofs.Whole.Totals.{leads-root, root-leads}
use Rattle.core_steps.specs.volap_cell.specs.{Cells.{CellValue, GateCell, block_in, gate_shard, phase_of, way_in}, Errands.is_filled, Ghost.{AGate, Ghost, InPurse, InTree}, Growing.table_of, Invariant.InvWith, Setting.{Setting, map_cell}, State.AreDifferent, Stocking.{IsWhole, cells_at, spent_of}, TreeKinds.IsTailOf, View.{view}, World.World}

-- The step: in at the gate.
pub record IsEntrance (s : Setting) (w : World) (n map gate : ℕ) : Type 0 where
  pub step_is : entrance_of w (w.actors n).purse map gate ≡ Some (in_by w (w.actors n).purse map gate (way_in (w.cells gate)))
  pub prepared : IsRowPrepared s w n (in_by w (w.actors n).purse map gate (way_in (w.cells gate)))

module _ (s : Setting) (w : World) (g : Ghost) (i : InvWith s (view s w) g) (n gate : ℕ) where
  abbrev purse : List Spare
  purse = (w.actors n).purse

  abbrev root : ℕ
  root = (way_in (w.cells gate)).root

  abbrev stamp : ℕ
  stamp = (way_in (w.cells gate)).stamp

  abbrev full : Bool
  full = is_full (block_in (w.cells (way_in (w.cells gate)).root)).body

  abbrev cells : TreeCells
  cells = cells_at (view s w).blocks (view s w).trees gate

  abbrev shape : Shape
  shape = g.shape gate

  abbrev table : Table
  table = table_of s (view s w).row

  abbrev behind : List ℕ
  behind = tail_numbers w (way_in (w.cells gate)).stamp (way_in (w.cells gate)).root

  abbrev new : List ℕ
  new = number_at (held_for (block_in (w.cells (way_in (w.cells gate)).root)) (last_spare (w.actors n).purse)) ++ number_at (held_for (block_in (w.cells (way_in (w.cells gate)).root)) (spare_before (w.actors n).purse))

  abbrev Free : Type 0
  Free = IsFree w n (way_in (w.cells gate)).root

  module _ (map : ℕ) (d : IsEntering s w n map gate) where
    worker-low : d.e.worker < s.workers
    worker-low = (part-places s w g i n d.e d.errand).1

    gate-there : IsSome (gate_shard (w.cells gate))
    gate-there = led-gate s w g i n d.e d.errand gate d.leads

    the-gate : (found : Gate) × (w.cells gate ≡ GateCell found)
    the-gate = gate-is (w.cells gate) gate-there

    enters : MayEnter the-gate.0 (w.actors n)
    enters = may-enter the-gate.0 (w.actors n) (ap (λ (c : CellValue). may_enter c (w.actors n)) (sym the-gate.1) ∙ d.may)

    whole : IsWhole (view s w).gates (view s w).phases (view s w).pins gate
    whole = (gate-there, inl (λ gone. let phase : Some the-gate.0.phase ≡ Some Gone = sym (ap phase_of the-gate.1) ∙ gone in let never : Open ≡ Gone = sym enters.is_open ∙ (cc) in cc))

    tree : IsTree table cells shape
    tree = i.growing.tree gate whole

    below : IsBelow cells shape root (way_in (w.cells gate)).height
    below = leads-root table cells shape tree

    root-used : g.owner root ≡ InTree gate
    root-used = (i.stocking.tree gate root whole below.inside below.block).0

    tail : IsHeldTail w cells shape (root_entry ((view s w).trees gate))
    tail = held-tail w table gate (view s w).trees shape tree (root_entry ((view s w).trees gate)) (root-leads table cells shape tree) (lends-root s w g i gate whole leads-root)

    distinct : AreDistinct purse
    distinct = spares-distinct shape (nodes cells) purse (spares-left shape (nodes cells) purse (spent_of (w.actors n).job) (i.stamping.spare n gate whole))

    spares : AreSpareCells w.cells (λ y. g.owner y ≡ InPurse n) full 2 purse new
    spares = two-spares w.cells (λ y. g.owner y ≡ InPurse n) purse (purse-owned s (view s w) g i n) full (let enough = enters.enough in omega arith) distinct

    others : AreBeside s w g n gate root Free (behind ++ new)
    others = beside s w g i n gate whole (root_entry ((view s w).trees gate)) Free root-used tail new spares.own spares.apart

    off-gate : (y : ℕ) → g.owner y ≡ InPurse n → y ≢ gate
    off-gate y own e = (let never : InPurse n ≡ AGate = sym own ∙ ap g.owner e ∙ i.stocking.gate gate gate-there in cc)

    all : (P : ℕ → Type 0) → ((y : ℕ) → IsBehind cells shape root y → P y) → ((y : ℕ) → g.owner y ≡ InPurse n → P y) → Each P (behind ++ new)
    all P of_tail of_spares = of-each s w g n gate root (behind ++ new) P of_tail of_spares others.each

    abbrev map_at : ℕ
    map_at = map_cell s d.e.worker

    abbrev first : Option ℕ
    first = first_behind (way_in (w.cells gate)).stamp (block_in (w.cells (way_in (w.cells gate)).root))

    abbrev second : Option ℕ
    second = second_behind w (way_in (w.cells gate)).stamp (first_behind (way_in (w.cells gate)).stamp (block_in (w.cells (way_in (w.cells gate)).root)))

    -- its numbers, in a row

    last-row : number_at first ++ (number_at second ++ (number_at (held_for (block_in (w.cells root)) (last_spare purse)) ++ (number_at (held_for (block_in (w.cells root)) (spare_before purse)) ++ []))) ≡ behind ++ new
    last-row =
        ap (λ (zs : List ℕ). number_at first ++ (number_at second ++ zs)) (sym (append_assoc (number_at (held_for (block_in (w.cells root)) (last_spare purse))) (number_at (held_for (block_in (w.cells root)) (spare_before purse))) []))
        ∙ numbers-of-two first second new

    row-is : numbers (row_places (in_by w purse map_at gate (way_in (w.cells gate)))) ≡ map_at ∷ gate ∷ root ∷ (behind ++ new)
    row-is = ap (λ (zs : List ℕ). map_at ∷ gate ∷ root ∷ zs) last-row

    in-prepared : IsRowPrepared s w n (in_by w purse map_at gate (way_in (w.cells gate)))
    in-prepared =
        let leads : IsTable (w.cells map_at) d.e.worker d.e.shard (where_is.Gate gate) = table-of (w.cells map_at) d.e.worker d.e.shard (where_is.Gate gate) (map-tag s w g i d.e.worker worker-low) d.leads in
        record {
          cells = subst (Each (IsLendable s w n Free)) (sym row-is) (
            lend-map s w g i n Free d.e.worker worker-low,
            (lend-gate s w g i n Free gate gate-there, (lend-block s w g i n Free gate root root-used (λ free. free), others.can)),
          );
          apart = subst AreDifferent (sym row-is) (
            (
              off-map s w g i d.e.worker gate worker-low (gate-owned s w g i gate gate-there),
              (
                off-map s w g i d.e.worker root worker-low (tree-owned s w g i gate root root-used),
                all (λ y. y ≢ map_at) (λ y b. off-map s w g i d.e.worker y worker-low (tree-owned s w g i gate y (behind-owned s w g i gate root y whole b))) (λ y k. off-map s w g i d.e.worker y worker-low (spare-owned s w g i n y k)),
              ),
            ),
            ((below.block, all (λ y. y ≢ gate) (λ y b. b.block) off-gate), (others.off, others.apart)),
          );
          actor = part-there s w g i n d.e d.errand;
          asked = record {
            e = d.e;
            r = d.r;
            has = record { errand = d.errand; row = d.row };
            filled = ap is_filled d.way_is;
            leads = record { table = leads.places; was = leads.is; leads = leads.leads; same = refl };
            gate = the-gate.0;
            gate_is = the-gate.1;
            is_open = enters.is_open;
            enough = enters.enough;
            root_is = ap (λ (c : CellValue). (way_in c).root) the-gate.1;
            behind = subst (IsTailOf the-gate.0.stamp (block_in (w.cells root))) (sym (two-held w.cells first second))
                (subst (λ (k : ℕ). IsTailOf k (block_in (w.cells root)) (lent_as w.cells behind)) (ap (λ (c : CellValue). (way_in c).stamp) the-gate.1) tail.asked);
            for_new = subst (AreForNew full 2 purse) (sym (two-held w.cells (held_for (block_in (w.cells root)) (last_spare purse)) (held_for (block_in (w.cells root)) (spare_before purse)))) spares.asked;
          };
        }

    in-is : entrance_of w purse map gate ≡ Some (in_by w purse map gate (way_in (w.cells gate)))
    in-is =
        ap (λ (c : CellValue). option_map (in_by w purse map gate) (gate_in c)) the-gate.1
        ∙ sym (ap (λ (c : CellValue). Some (in_by w purse map gate (way_in c))) the-gate.1)

    pub entrance : IsEntrance s w n map gate
    entrance = record { step_is = in-is; prepared = subst (λ (m : ℕ). IsRowPrepared s w n (in_by w purse m gate (way_in (w.cells gate)))) (sym d.map_is) in-prepared }
