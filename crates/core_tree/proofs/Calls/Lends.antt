-- What a driver finds before a step onto a head: the blocks behind the head that the step asks to hold are there, and nobody must keep
-- one of them, nor a cell of a purse.
use Rattle.std.proofs.{Common.{◌≡◌, ◌≢◌, ℕ, zero, suc, ◌<◌, ◌≤◌, Bool, true, cond, eqb, List, [], ◌∷◌, map, Option, Some, slice_get, refl, sym, ap, ◌∙◌, subst, inl, inr, arith}, lemmas.Bool.ne_eqb}
use Rattle.std.specs.Option.{option_map_or}
use Rattle.dc_node.specs.{Block.entries_in, declared.entry.Entry.Entry}
use Rattle.volap_cell.specs.shard_store.specs.Gate.{root_entry}
use Rattle.list_words.specs.Counts.{Each, times}
use Rattle.list_words.proofs.{Times.same_is, Truth.eqb-self}
use Rattle.volap_cell.specs.tree_shape.specs.{Laws.{ChildLaw, RootLaw}, Shape.{Node, Shape, Table, TreeCells, nodes, node_of, gate_node}, Trees.{EntryOk, IsTree, IsBehind, cells_behind}, Walks.IsTail}
use Rattle.volap_cell.specs.{Cells.{CellValue, FreeCell, LedgerCell, StockCell, RegistryCell, ImageCell, DeskCell, MapCell, GateCell, BlockCell, block_in, has_block}, Errands.{row_way, place_of}, Ghost.{Ghost, InPurse, InTree}, Growing.table_of, Invariant.InvWith, Setting.Setting, Stocking.{cells_at, IsWhole}, TreeKinds.{AreBehind, most_behind}, View.{View, view}, World.{World, Change, MustKeep, held}}
use Rattle.volap_cell.proofs.Actors.{row-at}
use Rattle.core_tree.proofs.Rows.Carriers.{carries, carried-way}

-- cells that are lent as they are
abbrev pub lent_as : (ℕ → CellValue) → List ℕ → List Change
lent_as cells numbers = map (λ y. held y (cells y)) numbers

is-block : (c : CellValue) → has_block c ≡ true → c ≡ BlockCell (block_in c)
is-block (BlockCell b) e = refl
is-block FreeCell e = cc
is-block (LedgerCell l) e = cc
is-block (StockCell s) e = cc
is-block (RegistryCell r) e = cc
is-block (ImageCell s i) e = cc
is-block (DeskCell s d) e = cc
is-block (MapCell w m) e = cc
is-block (GateCell g) e = cc

-- the walk from a head along right links leads over the blocks that are asked for
walked : (cells : ℕ → CellValue) (look : ℕ → Node) (expected n y : ℕ) (zs : List ℕ) → ((z : ℕ) → 1 ≤ times z (y ∷ zs) → (look z ≡ node_of (block_in (cells z))) × (has_block (cells z) ≡ true)) → IsTail look expected y zs
    → AreBehind expected n (block_in (cells y)) (lent_as cells (cells_behind (λ z. block_in (cells z)) expected n y))
walked cells look expected zero y zs there t = inl refl
walked cells look expected (suc n) y [] there t =
    let here : look y ≡ node_of (block_in (cells y)) = (there y (let o = same_is y y refl in omega arith)).0 in
    let end : (block_in (cells y)).stamp ≡ expected = ap (λ (x : Node). x.stamp) (sym here) ∙ t in
    let q : eqb (block_in (cells y)).stamp expected ≡ true = ap (λ (x : ℕ). eqb x expected) end ∙ eqb-self expected in
    subst (λ (ys : List ℕ). AreBehind expected (suc n) (block_in (cells y)) (lent_as cells ys))
    (sym (ap (λ (b : Bool). cond b [] (option_map_or (λ x. x ∷ cells_behind (λ x. block_in (cells x)) expected n x) (block_in (cells y)).right [])) q)) (inr end)
walked cells look expected (suc n) y (z ∷ zs) there t =
    let here : look y ≡ node_of (block_in (cells y)) = (there y (let o = same_is y y refl in omega arith)).0 in
    let off : (block_in (cells y)).stamp ≢ expected = (λ e. t.0 (ap (λ (x : Node). x.stamp) here ∙ e)) in
    let to : (block_in (cells y)).right ≡ Some z = ap (λ (x : Node). x.right) (sym here) ∙ t.1 in
    let block = is-block (cells z) (there z (let o = same_is z z refl in omega arith)).1 in
    let ih = walked cells look expected n z zs (λ x k. there x (omega arith)) t.2 in
    subst (λ (ys : List ℕ). AreBehind expected (suc n) (block_in (cells y)) (lent_as cells ys))
    (sym (ap (λ (b : Bool). cond b [] (option_map_or (λ x. x ∷ cells_behind (λ x. block_in (cells x)) expected n x) (block_in (cells y)).right [])) (ne_eqb (block_in (cells y)).stamp expected off)
    ∙ ap (λ (o : Option ℕ). option_map_or (λ x. x ∷ cells_behind (λ x. block_in (cells x)) expected n x) o []) to))
    (n, (omega arith), off, to, record { was = block; same = refl }, ih)

each-place : {A : Type 0} (P : A → Type 0) (xs : List A) (place : ℕ) (x : A) → slice_get xs place ≡ Some x → Each P xs → P x
each-place P [] place x at e = cc
each-place P (y ∷ xs) zero x at e = subst P (let k : y ≡ x = cc in k) e.0
each-place P (y ∷ xs) (suc n) x at e = each-place P xs n x at e.1

module _ (s : Setting) (w : World) (g : Ghost) (i : InvWith s (view s w) g) where
  abbrev v : View
  v = view s w

  abbrev table : Table
  table = table_of s v.row

  -- whoever must keep a block carries a row at it, which is the head of a group
  pub kept-head : (a y : ℕ) → MustKeep (w.actors a) y → (c : ℕ) × (g.owner y ≡ InTree c) × ((g.shape c).head y ≡ y)
  kept-head a y keeps =
      let (e, r, gate, has, carried) = carried-way (w.actors a) y keeps in
      let here = carries s v g refl i a gate y (row_way e r) (row-at has) (ap place_of carried) in
      let head = here.tree.heads r.row.no here.in_tree.placed here.carried in
      (gate, here.owner, subst (λ (z : ℕ). (g.shape gate).head z ≡ z) here.at head)

  pub spare-unkept : (n a y : ℕ) → g.owner y ≡ InPurse n → ¬ MustKeep (w.actors a) y
  spare-unkept n a y own keeps = (let k = kept-head a y keeps in let z : InPurse n ≡ InTree k.0 = sym own ∙ k.1 in cc)

  module _ (c : ℕ) (whole : IsWhole v.gates v.phases v.pins c) where
    abbrev cells : TreeCells
    cells = cells_at v.blocks v.trees c

    abbrev shape : Shape
    shape = g.shape c

    tree : IsTree table cells shape
    tree = i.growing.tree c whole

    pub behind-unkept : (a head y : ℕ) → IsBehind cells shape head y → ¬ MustKeep (w.actors a) y
    behind-unkept a head y b keeps =
        let own = (i.stocking.tree c y whole b.inside b.block).0 in
        let k = kept-head a y keeps in
        let same : k.0 ≡ c = (let z : InTree k.0 ≡ InTree c = sym k.1 ∙ own in cc) in
        b.apart (sym (subst (λ (z : ℕ). (g.shape z).head y ≡ y) same k.2) ∙ b.head)

    -- the blocks behind the head of an entry's group
    lends : (l : ℕ) (e : Entry) → l < (v.trees c).height → EntryOk shape (nodes cells) table l e
        → AreBehind e.stamp most_behind (block_in (w.cells e.child)) (lent_as w.cells (cells_behind v.blocks e.stamp most_behind e.child))
    lends l e low ok =
        let (zs, is, t) = ok.group.walks in
        walked w.cells (nodes cells) e.stamp most_behind e.child zs
        (λ z k.
        let inside = ok.group.cells z (subst (λ (ws : List ℕ). 1 ≤ times z ws) (sym is) k) in
        let level = inside.1 in
        let top = tree.level in
        let off : z ≢ c = (λ e. let x = ap shape.level e in absurd (omega arith)) in
        (ap (λ (b : Bool). cond b (gate_node (v.trees c)) (node_of (v.blocks z))) (ne_eqb z c off), (i.stocking.tree c z whole inside.0 off).1))
        t

    -- of an entry of a directory, and of the root

    pub lends-behind : ChildLaw → (b place : ℕ) (e : Entry) → shape.inside b ≡ true → b ≢ c → slice_get (entries_in (v.blocks b).body) place ≡ Some e
        → AreBehind e.stamp most_behind (block_in (w.cells e.child)) (lent_as w.cells (cells_behind v.blocks e.stamp most_behind e.child))
    lends-behind childs b place e inside off at =
        let below = (childs table cells shape b place e tree inside off at).below in
        let height = tree.height in
        let high = tree.tree.shape.below b inside in
        let low : shape.level b ≢ (v.trees c).height = (λ k. off (tree.only b inside k)) in
        let entries : (nodes cells b).entries ≡ entries_in (v.blocks b).body = ap (λ (x : Bool). (cond x (gate_node (v.trees c)) (node_of (v.blocks b))).entries) (ne_eqb b c off) in
        lends (shape.level e.child) e (omega arith)
        (each-place (EntryOk shape (nodes cells) table (shape.level e.child)) (nodes cells b).entries place e (ap (λ (es : List Entry). slice_get es place) entries ∙ at) (tree.tree.dirs b (shape.level e.child) inside (sym below)).entries)

    pub lends-root : RootLaw → AreBehind (v.trees c).stamp most_behind (block_in (w.cells (v.trees c).root)) (lent_as w.cells (cells_behind v.blocks (v.trees c).stamp most_behind (v.trees c).root))
    lends-root roots =
        let below = (roots table cells shape tree).below in
        let level = tree.level in
        let l = shape.level (v.trees c).root in
        let entries : (nodes cells c).entries ≡ root_entry (v.trees c) ∷ [] = ap (λ (x : Bool). (cond x (gate_node (v.trees c)) (node_of (v.blocks c))).entries) (eqb-self c) in
        lends l (root_entry (v.trees c)) (omega arith) (subst (Each (EntryOk shape (nodes cells) table l)) entries (tree.tree.dirs c l tree.top (omega arith)).entries).0
