-- What is held besides a head: the blocks behind it, and the cells of spares. Each is there, none stands twice, and nobody else must keep
-- one of them.
use Rattle.std.proofs.Common.{◌≡◌, ◌≢◌, ◌∙◌, ℕ, ◌⊎◌, inl, inr, List, ◌++◌, sym, ap}
use Rattle.core_due.specs.Ready.{IsLendable}
use Rattle.core_due.proofs.{Behind.{IsHeldTail, apart-append, apart-by, tail_numbers}, Owned.{behind-owned, lend-behind, lend-spare}}
use Rattle.dc_node.specs.declared.entry.Entry.{Entry}
use Rattle.list_words.specs.Counts.{Each}
use Rattle.list_words.proofs.Each.{each-append, each-map}
use Rattle.core_steps.specs.tree_shape.specs.Trees.{IsBehind}
use Rattle.core_steps.specs.volap_cell.specs.{Ghost.{Ghost, InPurse, InTree}, Invariant.InvWith, Setting.Setting, State.AreDifferent, Stocking.{IsWhole, cells_at}, View.view, World.World}

-- it is one or the other
abbrev pub IsBeside : Setting → World → Ghost → (n c head : ℕ) → ℕ → Type 0
IsBeside s w g n c head y = IsBehind (cells_at (view s w).blocks (view s w).trees c) (g.shape c) head y ⊎ (g.owner y ≡ InPurse n)

pub record AreBeside (s : Setting) (w : World) (g : Ghost) (n c head : ℕ) (If : Type 0) (ys : List ℕ) : Type 0 where
  pub each : Each (IsBeside s w g n c head) ys
  pub apart : AreDifferent ys
  pub off : Each (λ y. y ≢ head) ys
  pub can : Each (IsLendable s w n If) ys

-- what holds of a block behind the head and of a spare's cell holds of each
pub of-each : (s : Setting) (w : World) (g : Ghost) (n c head : ℕ) (ys : List ℕ) (P : ℕ → Type 0) → ((y : ℕ) → IsBehind (cells_at (view s w).blocks (view s w).trees c) (g.shape c) head y → P y) → ((y : ℕ) → g.owner y ≡ InPurse n → P y)
    → Each (IsBeside s w g n c head) ys → Each P ys
of-each s w g n c head ys P of_tail of_spares each = each-map (IsBeside s w g n c head) P ys (λ y k. elim k [ inl b ↦ of_tail y b | inr own ↦ of_spares y own ]) each

-- a spare's cell is no block of a tree
pub spare-off : (g : Ghost) (n c x y : ℕ) → g.owner x ≡ InTree c → g.owner y ≡ InPurse n → y ≢ x
spare-off g n c x y in_tree own e = (let never : InTree c ≡ InPurse n = sym in_tree ∙ ap g.owner (sym e) ∙ own in cc)

module _ (s : Setting) (w : World) (g : Ghost) (i : InvWith s (view s w) g) (n c : ℕ) (whole : IsWhole (view s w).gates (view s w).phases (view s w).pins c) (e : Entry) (If : Type 0) where
  -- the blocks behind the head to which an entry leads, and these cells of spares
  pub beside : g.owner e.child ≡ InTree c → IsHeldTail w (cells_at (view s w).blocks (view s w).trees c) (g.shape c) e → (fresh : List ℕ) → Each (λ y. g.owner y ≡ InPurse n) fresh → AreDifferent fresh
      → AreBeside s w g n c e.child If (tail_numbers w e.stamp e.child ++ fresh)
  beside head tail fresh own apart =
      let ys = tail_numbers w e.stamp e.child in
      let all = each-append (IsBeside s w g n c e.child) ys fresh
      (each-map (IsBehind (cells_at (view s w).blocks (view s w).trees c) (g.shape c) e.child) (IsBeside s w g n c e.child) ys (λ y b. inl b) tail.tail.behind)
      (each-map (λ y. g.owner y ≡ InPurse n) (IsBeside s w g n c e.child) fresh (λ y k. inr k) own) in
      record {
        each = all;
        apart = apart-append ys fresh tail.tail.apart apart
            (apart-by (λ y. g.owner y ≡ InTree c) (λ y. g.owner y ≡ InPurse n) (spare-off g n c) ys fresh
            (each-map (IsBehind (cells_at (view s w).blocks (view s w).trees c) (g.shape c) e.child) (λ y. g.owner y ≡ InTree c) ys (λ y b. behind-owned s w g i c e.child y whole b) tail.tail.behind) own);
        off = of-each s w g n c e.child (ys ++ fresh) (λ y. y ≢ e.child) (λ y b. b.apart) (λ y k. spare-off g n c e.child y head k) all;
        can = of-each s w g n c e.child (ys ++ fresh) (IsLendable s w n If) (λ y b. lend-behind s w g i n If c e.child y whole b) (λ y k. lend-spare s w g i n If y k) all;
      }
