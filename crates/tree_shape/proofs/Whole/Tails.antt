-- The blocks behind the head of a group, its tail
use Rattle.std.proofs.{Common.{◌≡◌, ◌≢◌, ℕ, zero, suc, ◌≤◌, ◌⊎◌, inl, inr, true, eqb, List, [], ◌∷◌, map, take, refl, sym, ap, ◌∙◌, subst, arith}, lemmas.Bool.{eqb-true, eqb-false, ne_eqb, eq-eqb}}
use Rattle.std.specs.Prelude.{Some}
use Rattle.dim_hierarchy.specs.Dimension.{Dimension}
use Rattle.dc_node.specs.{declared.block.Block.Block, declared.entry.Entry.Entry}
use Rattle.link_descent.specs.Divide.{ends_with, IsCutInTwo, IsCutByHead}
use Rattle.list_words.specs.Counts.{same, times}
use Rattle.list_words.proofs.{Times.{same_is, same_not, same-le}, Truth.on_bool}
use Rattle.tree_shape.specs.{Shape.{Node, Shape, Table, node_of}, Trees.{EntryOk, cells_behind}, Walks.{IsNoted, IsTail, IsWalk}}

-- a block of the tail of the head c
pub record IsInTail (g : Shape) (k c : ℕ) (tail : List ℕ) (y : ℕ) : Type 0 where
  pub inside : g.inside y ≡ true
  pub level : g.level y ≡ k
  pub apart : y ≢ c
  pub once : times y tail ≡ 1
  pub head : g.head y ≡ c

-- how a head is cut, by the good cut or the good head cut, and which blocks are behind the new one then
abbrev pub IsCutOf : List Dimension → ℕ → List Block → Block → ℕ → ℕ → Block → Block → List Block → Type 0
IsCutOf h expected tail head cell stamp now new behind =
    ((head.stamp ≡ expected) × IsCutInTwo h head cell stamp now new × (behind ≡ []))
    ⊎ ((¬ (head.stamp ≡ expected)) × (ends_with expected tail ≡ true) × IsCutByHead h head tail cell stamp now new × (behind ≡ tail))

-- an entry's group is c and its tail
module _ (g : Shape) (look : ℕ → Node) (table : Table) (k c : ℕ) (tail : List ℕ) (e : Entry) (ok : EntryOk g look table k e) (child : e.child ≡ c) (is : g.group c ≡ c ∷ tail) where
  pub group-noted : IsNoted g look (record { cell = c; stamp = e.stamp; level = k; walk = c ∷ tail })
  group-noted =
      let w = subst (λ (x : ℕ). IsNoted g look (record { cell = x; stamp = e.stamp; level = k; walk = g.group x })) child ok.group in
      subst (λ (ws : List ℕ). IsNoted g look (record { cell = c; stamp = e.stamp; level = k; walk = ws })) is w

  pub group-members : (y : ℕ) → g.inside y ≡ true → g.level y ≡ k → times y (c ∷ tail) ≡ same (g.head y) c
  group-members y i lv =
      subst (λ (ws : List ℕ). times y ws ≡ same (g.head y) c) is
      (subst (λ (x : ℕ). times y (g.group x) ≡ same (g.head y) x) child (ok.members y i lv))

  pub head-off : times c tail ≡ 0
  head-off =
      let o = same_is c c refl in
      let w = group-noted.cells c (omega arith) in
      let m = group-members c w.0 w.1 in
      let l = same-le (g.head c) c in
      omega arith

  pub behind-head : (y : ℕ) → 1 ≤ times y tail → IsInTail g k c tail y
  behind-head y h =
      let w = group-noted.cells y (omega arith) in
      let m = group-members y w.0 w.1 in
      let l = same-le (g.head y) c in
      let yc : y ≢ c = (λ e. let o = same_is y c e in absurd (omega arith)) in
      let z = same_not y c yc in
      record {
        inside = w.0;
        level = w.1;
        apart = yc;
        once = omega arith;
        head = on_bool (eqb (g.head y) c) (λ q. eqb-true _ _ q) (λ q. let n = same_not (g.head y) c (eqb-false _ _ q) in absurd (omega arith));
      }

-- what is left of a walk behind its first block
pub walk-behind : (look : ℕ → Node) (c n s : ℕ) (ws : List ℕ) → IsWalk look c s (c ∷ n ∷ ws) → IsTail look s n ws
walk-behind look c n s ws (zs, is, h) =
    let e : zs ≡ n ∷ ws = cc in
    (subst (IsTail look s c) e h).2

-- the tail of a head with the expected stamp is empty
pub tail-none : (look : ℕ → Node) (s c : ℕ) (zs : List ℕ) → (look c).stamp ≡ s → IsTail look s c zs → zs ≡ []
tail-none look s c [] e h = refl
tail-none look s c (z ∷ zs) e h = absurd (h.0 e)

-- a head has one tail up to a stamp, whichever of two lookups with the same stamps and links finds it
pub tail-one : (look other : ℕ → Node) (s y : ℕ) (zs ws : List ℕ)
    → (other y).stamp ≡ (look y).stamp → (other y).right ≡ (look y).right → ((z : ℕ) → 1 ≤ times z zs → ((other z).stamp ≡ (look z).stamp) × ((other z).right ≡ (look z).right))
    → IsTail look s y zs → IsTail other s y ws → ws ≡ zs
tail-one look other s y [] [] es er f h k = refl
tail-one look other s y [] (w ∷ ws) es er f h k = absurd (k.0 (es ∙ h))
tail-one look other s y (z ∷ zs) [] es er f h k = absurd (h.0 (sym es ∙ k))
tail-one look other s y (z ∷ zs) (w ∷ ws) es er f h k =
    let a : Some w ≡ Some z = sym k.1 ∙ er ∙ h.1 in
    let b : w ≡ z = cc in
    let o = same_is z z refl in
    let u = f z (omega arith) in
    let rest = tail-one look other s z zs ws u.0 u.1 (λ x i. f x (omega arith)) h.2 (subst (λ x. IsTail other s x ws) b k.2) in
    cc

-- the first two blocks behind a head are all where they end with the expected stamp
pub tail-whole : (look : ℕ → Node) (block : ℕ → Block) (s y : ℕ) (zs : List ℕ) → ((z : ℕ) → 1 ≤ times z zs → (look z).stamp ≡ (block z).stamp) → IsTail look s y zs
    → ends_with s (map block (take 2 zs)) ≡ true → take 2 zs ≡ zs
tail-whole look block s y [] f h e = refl
tail-whole look block s y (a ∷ []) f h e = refl
tail-whole look block s y (a ∷ b ∷ []) f h e = refl
tail-whole look block s y (a ∷ b ∷ c ∷ more) f h e =
    let o = same_is b b refl in
    let last : (block b).stamp ≡ s = eqb-true _ _ e in
    absurd (h.2.2.0 (f b (omega arith) ∙ last))

-- the blocks that a cut leaves behind the new one are the head's tail
pub behind-cut : (h : List Dimension) (look : ℕ → Node) (block : ℕ → Block) (s c : ℕ) (cells zs : List ℕ) (head now new : Block) (cell stamp : ℕ) (behind : List Block)
    → (look c).stamp ≡ head.stamp → ((z : ℕ) → 1 ≤ times z zs → (look z).stamp ≡ (block z).stamp) → IsTail look s c zs → cells ≡ take 2 zs
    → IsCutOf h s (map block cells) head cell stamp now new behind → behind ≡ map block zs
behind-cut h look block s c cells zs head now new cell stamp behind e f w is cut = elim cut [
  | inl u ↦ u.2 ∙ ap (map block) (sym (tail-none look s c zs (e ∙ u.0) w))
  | inr u ↦ (let ends : ends_with s (map block (take 2 zs)) ≡ true = subst (λ (ws : List ℕ). ends_with s (map block ws) ≡ true) is u.1 in
      u.3 ∙ ap (map block) (is ∙ tail-whole look block s c zs f w ends))
]

-- a head's tail is found along right links
pub tail-found : (look : ℕ → Node) (block : ℕ → Block) (s n y : ℕ) (zs : List ℕ) → look y ≡ node_of (block y) → ((z : ℕ) → 1 ≤ times z zs → look z ≡ node_of (block z)) → IsTail look s y zs
    → take n zs ≡ cells_behind block s n y
tail-found look block s zero y zs e f h = refl
tail-found look block s (suc n) y [] e f h = rw (eq-eqb (block y).stamp s (sym (ap (λ (b : Node). b.stamp) e) ∙ h)) refl
tail-found look block s (suc n) y (z ∷ zs) e f h =
    let o = same_is z z refl in
    let right : (block y).right ≡ Some z = sym (ap (λ (b : Node). b.right) e) ∙ h.1 in
    let stamp : (block y).stamp ≢ s = λ q. h.0 (ap (λ (b : Node). b.stamp) e ∙ q) in
    rw (ne_eqb (block y).stamp s stamp, right) (ap (λ (ws : List ℕ). z ∷ ws) (tail-found look block s n z zs (f z (omega arith)) (λ x i. f x (omega arith)) h.2))
