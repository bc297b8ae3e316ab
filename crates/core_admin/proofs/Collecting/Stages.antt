-- A block of a frozen shard is read, or a row of its queue: what the parts say of what is collected then.
use Rattle.std.proofs.{Common.{◌≡◌, ◌≢◌, ℕ, zero, suc, ◌<◌, ◌≤◌, Bool, true, false, cond, eqb, List, [], ◌∷◌, ◌++◌, length, map, Option, Some, None, refl, sym, ap, ◌∙◌, subst, arith, ◌==◌}, lemmas.Bool.{eqb-true, eqb-false, ne_eqb}}
use Rattle.std.specs.Option.{option_map_or}
use Rattle.cell_stock.specs.declared.purse.Spare.{Spare}
use Rattle.dc_node.specs.{Block.{entries_in, is_leaf}, declared.block.Block.Block, declared.block.Body.Body, declared.block.Body.TheVariants.{Rows, Entries}, declared.entry.Entry.Entry, declared.todo.Item.Item}
use Rattle.core_tree.specs.link_descent.specs.Visit.{noted_right}
use Rattle.core_tree.specs.tree_shape.specs.{Collecting.{IsCollecting, IsReadable, entry_items}, Queries.NoneWaits, Shape.{Node, Shape, Table, TreeCells, gate_node, node_of, nodes}, Trees.IsTree}
use Rattle.list_words.specs.Counts.{Each, times}
use Rattle.list_words.proofs.{Each.{each-map, each-append, each-left, each-right}, Truth.on_bool}
use Rattle.core_tree.specs.volap_cell.specs.{Ghost.{AGate, Ghost, InTree, NotOfStock}, Invariant.InvWith, Setting.{Setting, cell_count}, Stocking.{IsWhole, NoneExpects, all_items, all_spares, items_in, items_of_job, items_of_read}, Values.JobValue, View.View}
use Rattle.core_tree.specs.volap_cell.proofs.Counting.{length-few}

-- What is noted of a block waits for no stamp that nothing expects.

waits-entries : (stamp : ℕ) (es : List Entry) → Each (λ (e : Entry). e.stamp ≢ stamp) es → NoneWaits stamp (map (λ (e : Entry). record { cell = e.child; stamp = e.stamp }) es)
waits-entries stamp [] e = tt
waits-entries stamp (x ∷ xs) e = (e.0, waits-entries stamp xs e.1)

waits-right : (b : Block) (stamp expected : ℕ) → expected ≢ stamp → NoneWaits stamp (noted_right b expected)
waits-right b stamp expected ne = on_bool (b.stamp == expected) (λ q. rw q tt) (λ q. rw q (to-right b.right))
  where
    to-right : (o : Option ℕ) → NoneWaits stamp (option_map_or (λ x. record { cell = x; stamp = expected } ∷ []) o [])
    to-right None = tt
    to-right (Some x) = (ne, tt)

no-entries : (b : Body) → is_leaf b ≡ true → (stamp : ℕ) → Each (λ (e : Entry). e.stamp ≢ stamp) (entries_in b)
no-entries (Rows rs) l stamp = tt
no-entries (Entries es) l stamp = cc

-- the entries of a block of a tree, of which a leaf has none, are expected
unexpected : (table : Table) (cells : TreeCells) (g : Shape) (y stamp : ℕ) → IsTree table cells g → g.inside y ≡ true → y ≢ cells.gate_cell → NoneExpects g cells stamp → Each (λ (e : Entry). e.stamp ≢ stamp) (entries_in (cells.block y).body)
unexpected table cells g y stamp tree inside ne none = at (g.level y) refl
  where
    node : nodes cells y ≡ node_of (cells.block y)
    node = ap (λ (b : Bool). cond b (gate_node cells.gate) (node_of (cells.block y))) (ne_eqb y cells.gate_cell ne)

    at : (l : ℕ) → g.level y ≡ l → Each (λ (e : Entry). e.stamp ≢ stamp) (entries_in (cells.block y).body)
    at zero level = no-entries (cells.block y).body ((tree.blocks y inside ne).kind ∙ ap (λ (k : ℕ). eqb k 0) level) stamp
    at (suc l) level = subst (λ (k : Node). Each (λ (e : Entry). e.stamp ≢ stamp) k.entries) node (none y l inside (omega (arith, level)))

-- all that is noted when the block of an item was read
pub waits-read : (table : Table) (cells : TreeCells) (g : Shape) (items : List Item) (item : Item) (stamp : ℕ) → IsTree table cells g → IsReadable cells g item → NoneExpects g cells stamp → NoneWaits stamp (items ++ item ∷ [])
    → NoneWaits stamp (items ++ entry_items (cells.block item.cell).body ++ noted_right (cells.block item.cell) item.stamp)
waits-read table cells g items item stamp tree readable none old =
    let front = each-left (λ (x : Item). x.stamp ≢ stamp) items (item ∷ []) old in
    let last = (each-right (λ (x : Item). x.stamp ≢ stamp) items (item ∷ []) old).0 in
    each-append (λ (x : Item). x.stamp ≢ stamp) (items ++ entry_items (cells.block item.cell).body) (noted_right (cells.block item.cell) item.stamp)
    (each-append (λ (x : Item). x.stamp ≢ stamp) items (entry_items (cells.block item.cell).body) front
    (waits-entries stamp (entries_in (cells.block item.cell).body) (unexpected table cells g item.cell stamp tree readable.inside readable.block none)))
    (waits-right (cells.block item.cell) stamp item.stamp last)

-- Blocks that were read.

module _ (s : Setting) (v : View) (g : Ghost) (i : InvWith s v g) where
  -- a block of a tree that is whole is a cell
  inside-within : (c y : ℕ) → IsWhole v.gates v.phases v.pins c → (g.shape c).inside y ≡ true → y < cell_count s
  inside-within c y whole inside = on_bool (eqb y c)
      (λ q. let own = ap g.owner (eqb-true _ _ q) ∙ i.stocking.gate c whole.0 in (i.stocking.within y (λ z. let never : AGate ≡ NotOfStock = sym own ∙ z in cc)).1)
      (λ q. let own = (i.stocking.tree c y whole inside (eqb-false _ _ q)).0 in (i.stocking.within y (λ z. let never : InTree c ≡ NotOfStock = sym own ∙ z in cc)).1)

  -- no block is read twice, so there are no more than cells
  pub read-few : (c : ℕ) (cells : TreeCells) (items : List Item) (read collected : List ℕ) → IsWhole v.gates v.phases v.pins c → IsCollecting cells (g.shape c) items read collected → length read ≤ cell_count s
  read-few c cells items read collected whole k = length-few read (cell_count s)
      (λ y. on_bool ((g.shape c).inside y)
      (λ q. let one = k.blocks y q in on_bool (eqb y cells.gate_cell)
      (λ e. let z : ◌≡◌ {A = ℕ} (cond (eqb y cells.gate_cell) 0 1) 0 = ap (λ (b : Bool). cond b 0 1) e in omega (arith, one, z))
      (λ e. let z : ◌≡◌ {A = ℕ} (cond (eqb y cells.gate_cell) 0 1) 1 = ap (λ (b : Bool). cond b 0 1) e in omega (arith, one, z)))
      (λ q. none y (times y read) refl q))
      (λ y some. inside-within c y whole (k.inside y some))
    where
      none : (y m : ℕ) → times y read ≡ m → (g.shape c).inside y ≡ false → times y read ≤ 1
      none y zero is out = omega (arith, is)
      none y (suc m) is out = (let inside = k.inside y (omega (arith, is)) in let never : true ≡ false = sym inside ∙ out in absurd (cc))

  -- what an actor has noted for its job waits for no stamp of a spare, and for none that is given out later

  pub job-waits : (n : ℕ) (job : JobValue) (items : List Item) → v.jobs n ≡ Some job → items_in job.stage ≡ items → (a : ℕ) → Each (λ (x : Spare). NoneWaits x.stamp items) (all_spares v.purses v.jobs a)
  job-waits n job items is_job noted a =
      each-map (λ (x : Spare). NoneWaits x.stamp (all_items v.reads v.jobs n)) (λ (x : Spare). NoneWaits x.stamp items) (all_spares v.purses v.jobs a) (λ x all. its n job items is_job noted x.stamp all) (i.stamping.waits a n)
    where
      its : (n : ℕ) (job : JobValue) (items : List Item) → v.jobs n ≡ Some job → items_in job.stage ≡ items → (stamp : ℕ) → NoneWaits stamp (all_items v.reads v.jobs n) → NoneWaits stamp items
      its n job items is_job noted stamp all = subst (NoneWaits stamp) (ap items_of_job is_job ∙ noted) (each-right (λ (x : Item). x.stamp ≢ stamp) (items_of_read (v.reads n)) (items_of_job (v.jobs n)) all)

  pub job-fresh : (n : ℕ) (job : JobValue) (items : List Item) → v.jobs n ≡ Some job → items_in job.stage ≡ items → (stamp : ℕ) → v.stock.stamps ≤ stamp → NoneWaits stamp items
  job-fresh n job items is_job noted stamp le = subst (NoneWaits stamp) (ap items_of_job is_job ∙ noted) (each-right (λ (x : Item). x.stamp ≢ stamp) (items_of_read (v.reads n)) (items_of_job (v.jobs n)) (i.stamping.fresh_waits n stamp le))
