-- What a row's step holds besides its head: the blocks behind it where that is full, and the cells of the last spares.
use Rattle.std.proofs.{Common.{◌≡◌, ◌≢◌, ◌∙◌, ℕ, ◌≤◌, Bool, true, false, cond, eqb, List, [], ◌∷◌, ◌++◌, length, take, drop, Option, Some, None, refl, sym, ap, subst, arith}, lemmas.List.{append-nil, append_assoc}}
use Rattle.std.specs.{Option.option_map_or, Prelude.{if◌then◌else◌, option_and_then, option_map}}
use Rattle.cell_stock.specs.declared.purse.Spare.{Spare}
use Rattle.core_due.specs.{Rows.{first_behind, next_behind, second_behind}, Spares.{last_spare, spare_before}}
use Rattle.core_due.proofs.LastItems.{ends-in, ends-in-two, first-before, second-last, spare-last}
use Rattle.core_steps.specs.{Places.number_at, Rows.number_of}
use Rattle.core_steps.specs.core_tree.specs.Descent.{AreForNew, two_if}
use Rattle.core_steps.specs.core_tree.proofs.{Calls.Lends.lent_as, Stocks.Spares.{AreDistinct, distinct-right}}
use Rattle.dc_node.specs.{Block.is_full, declared.block.Block.Block, declared.entry.Entry.Entry}
use Rattle.list_words.specs.Counts.{Each, times}
use Rattle.list_words.proofs.{Each.{each-append, each-map, each-right}, Times.same_is, Truth.on_bool}
use Rattle.core_steps.specs.shard_store.specs.declared.gate.Gate.{Gate}
use Rattle.core_steps.specs.tree_shape.specs.{Shape.{Shape, Table, TreeCells, nodes}, Trees.{IsBehind, IsTree, cells_behind}}
use Rattle.core_steps.specs.tree_shape.proofs.{Whole.Tails.behind-head, Whole.Totals.{LeadsTo, has-behind}}
use Rattle.core_steps.specs.volap_cell.specs.{Cells.{CellValue, block_in}, State.AreDifferent, Stocking.cells_at, TreeKinds.{AreBehind, IsTailIf, IsTailOf, most_behind}, World.{World, held_if}}

-- Numbers.

-- different ones behind others, of which none is one of them
pub apart-append : (xs ys : List ℕ) → AreDifferent xs → AreDifferent ys → Each (λ x. Each (λ y. y ≢ x) ys) xs → AreDifferent (xs ++ ys)
apart-append [] ys a b c = b
apart-append (x ∷ xs) ys a b c = (each-append (λ y. y ≢ x) xs ys a.0 c.0, apart-append xs ys a.1 b c.1)

pub apart-by : (P Q : ℕ → Type 0) → ((x y : ℕ) → P x → Q y → y ≢ x) → (xs ys : List ℕ) → Each P xs → Each Q ys → Each (λ x. Each (λ y. y ≢ x) ys) xs
apart-by P Q apart [] ys p q = tt
apart-by P Q apart (x ∷ xs) ys p q = (each-map Q (λ y. y ≢ x) ys (λ y k. apart x y p.0 k) q, apart-by P Q apart xs ys p.1 q)

-- the numbers of a step's last places: two of blocks, and the others
pub numbers-of-two : (o p : Option ℕ) (rest : List ℕ) → number_at o ++ (number_at p ++ (rest ++ [])) ≡ (number_at o ++ number_at p) ++ rest
numbers-of-two o p rest = ap (λ (zs : List ℕ). number_at o ++ (number_at p ++ zs)) (append-nil rest) ∙ sym (append_assoc (number_at o) (number_at p) rest)

-- What is held there, as a step sees it.

pub one-held : (f : ℕ → CellValue) (p : Option ℕ) → held_if (number_of p) (option_map f p) ≡ lent_as f (number_at p)
one-held f None = refl
one-held f (Some y) = refl

pub two-held : (f : ℕ → CellValue) (o p : Option ℕ) → two_if (number_of o) (option_map f o) (number_of p) (option_map f p) ≡ lent_as f (number_at o ++ number_at p)
two-held f None None = refl
two-held f None (Some z) = refl
two-held f (Some y) None = refl
two-held f (Some y) (Some z) = refl

-- Behind a head.

-- the blocks that are held there
abbrev pub tail_numbers : World → (expected head : ℕ) → List ℕ
tail_numbers w expected head =
    number_at (first_behind expected (block_in (w.cells head))) ++ number_at (second_behind w expected (first_behind expected (block_in (w.cells head))))

ones : (b : Bool) (right : Option ℕ) (k : ℕ → List ℕ) → cond b [] (option_map_or k right []) ≡ option_map_or k (if b then None else right) []
ones true right k = refl
ones false right k = refl

two : (f : ℕ → Option ℕ) (o : Option ℕ) → number_at o ++ number_at (option_and_then f o) ≡ option_map_or (λ z. z ∷ option_map_or (λ u. u ∷ []) (f z) []) o []
two f None = refl
two f (Some z) = by (f z)
  where
    by : (p : Option ℕ) → z ∷ number_at p ≡ z ∷ option_map_or (λ u. u ∷ []) p []
    by None = refl
    by (Some u) = refl

two-behind : (blocks : ℕ → Block) (expected y : ℕ) → cells_behind blocks expected most_behind y
    ≡ option_map_or (λ z. z ∷ option_map_or (λ u. u ∷ []) (next_behind expected (blocks z)) []) (next_behind expected (blocks y)) []
two-behind blocks expected y =
    ones (eqb (blocks y).stamp expected) (blocks y).right (λ z. z ∷ cells_behind blocks expected 1 z)
    ∙ (λ k. option_map_or (λ z. z ∷ ones (eqb (blocks z).stamp expected) (blocks z).right (λ u. u ∷ []) k) (next_behind expected (blocks y)) [])

-- behind a full head they are those that right links lead to
full-numbers : (w : World) (expected head : ℕ) → is_full (block_in (w.cells head)).body ≡ true → tail_numbers w expected head ≡ cells_behind (λ z. block_in (w.cells z)) expected most_behind head
full-numbers w expected head full =
    ap (λ (b : Bool). number_at (if b then next_behind expected (block_in (w.cells head)) else None)
    ++ number_at (second_behind w expected (if b then next_behind expected (block_in (w.cells head)) else None))) full
    ∙ two (λ y. next_behind expected (block_in (w.cells y))) (next_behind expected (block_in (w.cells head)))
    ∙ sym (two-behind (λ z. block_in (w.cells z)) expected head)

-- and none behind one with room
room-numbers : (w : World) (expected head : ℕ) → is_full (block_in (w.cells head)).body ≡ false → tail_numbers w expected head ≡ []
room-numbers w expected head room =
    ap (λ (b : Bool). number_at (if b then next_behind expected (block_in (w.cells head)) else None)
    ++ number_at (second_behind w expected (if b then next_behind expected (block_in (w.cells head)) else None))) room

-- blocks behind a head of a tree, each once
pub record AreInTail (cells : TreeCells) (g : Shape) (head : ℕ) (ys : List ℕ) : Type 0 where
  pub behind : Each (IsBehind cells g head) ys
  pub apart : AreDifferent ys

take-apart : (zs : List ℕ) → ((y : ℕ) → 1 ≤ times y zs → times y zs ≡ 1) → AreDifferent (take 2 zs)
take-apart [] once = tt
take-apart (a ∷ []) once = (tt, tt)
take-apart (a ∷ b ∷ zs) once = (((λ e. let p = same_is a a refl in let q = same_is a b (sym e) in let one = once a (omega arith) in absurd (omega arith)), tt), (tt, tt))

in-tail : (table : Table) (cells : TreeCells) (g : Shape) → IsTree table cells g → (e : Entry) → LeadsTo table cells g e → AreInTail cells g e.child (cells_behind cells.block e.stamp most_behind e.child)
in-tail table cells g tree e lead =
    let k = has-behind table cells g tree lead.level e lead.low lead.ok most_behind in
    let walk = lead.ok.group.walks in
    record {
      behind = k.behind;
      apart = subst AreDifferent (sym (ap (λ (ws : List ℕ). take 2 (drop 1 ws)) walk.1) ∙ k.found)
          (take-apart walk.0 (λ y there. (behind-head g (nodes cells) table lead.level e.child walk.0 e lead.ok refl walk.1 y there).once));
    }

-- the blocks that are held behind the head to which an entry leads
pub record IsHeldTail (w : World) (cells : TreeCells) (g : Shape) (e : Entry) : Type 0 where
  pub tail : AreInTail cells g e.child (tail_numbers w e.stamp e.child)
  pub asked : IsTailOf e.stamp (block_in (w.cells e.child)) (lent_as w.cells (tail_numbers w e.stamp e.child))

pub held-tail : (w : World) (table : Table) (gate : ℕ) (trees : ℕ → Gate) (g : Shape) → IsTree table (cells_at (λ y. block_in (w.cells y)) trees gate) g → (e : Entry)
    → LeadsTo table (cells_at (λ y. block_in (w.cells y)) trees gate) g e
    → AreBehind e.stamp most_behind (block_in (w.cells e.child)) (lent_as w.cells (cells_behind (λ y. block_in (w.cells y)) e.stamp most_behind e.child))
    → IsHeldTail w (cells_at (λ y. block_in (w.cells y)) trees gate) g e
held-tail w table gate trees g tree e lead lends = on_bool (is_full (block_in (w.cells e.child)).body)
    (λ q. let numbers = full-numbers w e.stamp e.child q in record {
      tail = subst (AreInTail _ g e.child) (sym numbers) (in-tail table _ g tree e lead);
      asked = subst (λ (b : Bool). IsTailIf b e.stamp (block_in (w.cells e.child)) (lent_as w.cells (tail_numbers w e.stamp e.child))) (sym q)
          (subst (λ (ys : List ℕ). AreBehind e.stamp most_behind (block_in (w.cells e.child)) (lent_as w.cells ys)) (sym numbers) lends);
    })
    (λ q. let none = room-numbers w e.stamp e.child q in record {
      tail = subst (AreInTail _ g e.child) (sym none) (record { behind = tt; apart = tt });
      asked = subst (λ (b : Bool). IsTailIf b e.stamp (block_in (w.cells e.child)) (lent_as w.cells (tail_numbers w e.stamp e.child))) (sym q) (ap (lent_as w.cells) none);
    })

-- Spares.

-- these are the cells that are held for new blocks, P holds of each, and none of them stands twice
pub record AreSpareCells (cells : ℕ → CellValue) (P : ℕ → Type 0) (full : Bool) (most : ℕ) (purse : List Spare) (ys : List ℕ) : Type 0 where
  pub own : Each P ys
  pub apart : AreDifferent ys
  pub asked : AreForNew full most purse (lent_as cells ys)

module _ (cells : ℕ → CellValue) (P : ℕ → Type 0) (purse : List Spare) (all : Each (λ (z : Spare). P z.cell) purse) where
  pub one-spare : (full : Bool) → 1 ≤ length purse → AreSpareCells cells P full 1 purse (number_at (if full then last_spare purse else None))
  one-spare false some = record { own = tt; apart = tt; asked = refl }
  one-spare true some =
      let e = ends-in purse some in
      let own = each-right (λ (y : Spare). P y.cell) e.front (e.last ∷ []) (subst (Each (λ (y : Spare). P y.cell)) e.is all) in
      subst (λ (o : Option ℕ). AreSpareCells cells P true 1 purse (number_at o)) (sym (ap last_spare e.is ∙ spare-last e.front e.last))
      (record { own = (own.0, tt); apart = (tt, tt); asked = (refl, (e.front, e.last, e.is, refl, tt)) })

  pub two-spares : (full : Bool) → 2 ≤ length purse → AreDistinct purse
      → AreSpareCells cells P full 2 purse (number_at (if full then last_spare purse else None) ++ number_at (if full then spare_before purse else None))
  two-spares false some distinct = record { own = tt; apart = tt; asked = refl }
  two-spares true some distinct =
      let e = ends-in-two purse some in
      let own = each-right (λ (y : Spare). P y.cell) e.front (e.before ∷ e.last ∷ []) (subst (Each (λ (y : Spare). P y.cell)) e.is all) in
      let off = (distinct-right e.front (e.before ∷ e.last ∷ []) (subst AreDistinct e.is distinct)).0.0.0 in
      let step : AreSpareCells cells P true 2 purse ((e.last).cell ∷ (e.before).cell ∷ []) = record {
        own = (own.1.0, (own.0, tt));
        apart = ((off, tt), (tt, tt));
        asked = (refl, (e.front ++ e.before ∷ [], e.last, e.is ∙ sym (append_assoc e.front (e.before ∷ []) (e.last ∷ [])), refl, (e.front, e.before, refl, refl, tt)));
      } in
      subst (λ (o : Option ℕ). AreSpareCells cells P true 2 purse (number_at o ++ number_at (spare_before purse))) (sym (second-last purse e))
      (subst (λ (o : Option ℕ). AreSpareCells cells P true 2 purse ((e.last).cell ∷ number_at o)) (sym (first-before purse e)) step)
