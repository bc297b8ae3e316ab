-- The entries of each level lead to the level below
use Rattle.std.proofs.{Common.{◌≡◌, ℕ, ◌-◌, ◌<◌, ◌≤◌, List, [], ◌∷◌, ◌++◌, length, take, drop, sym, ap, ◌∙◌, refl, subst, inl, inr, arith, length-append, length-drop, append_assoc}, lemmas.Bool.cases_lt, lemmas.List.{append-nil, take_at, drop_at}}
use Rattle.std.specs.{Int.div_ceil, List.AllZip}
use Rattle.dim_hierarchy.specs.Dimension.{Dimension}
use Rattle.tree_shape.specs.link_descent.specs.declared.entered.Fresh.{Fresh}
use Rattle.shard_plan.specs.Building.{leaves_for, levels_of, parent_nodes}
use Rattle.tree_shape.specs.Forest.{all_entries}
use Rattle.shard_build.specs.{Building.IsEntryTo, Built.AreLevels}
use Rattle.shard_build.proofs.Counts.{ParentsLaw, RootLaw, levels_from}

-- The blocks are levels of the tree of n rows as far as the one from a place on: with that one and whatever levels are put over
-- it they are all levels.
abbrev pub AreLevelsTo : List Dimension → ℕ → List Fresh → ℕ → Type 0
AreLevelsTo h n blocks from =
    (more : List Fresh) → AreLevels h (levels_from (length blocks - from)) (drop from blocks ++ more) → AreLevels h (levels_of n) (blocks ++ more)

-- a level, and behind it the parents and whatever levels are put over them
over : (h : List Dimension) (level made : ℕ) (above : List ℕ) (top parents more : List Fresh) → length top ≡ level → length parents ≡ made
    → AllZip (IsEntryTo h) top (all_entries parents) → AreLevels h (made ∷ above) (parents ++ more) → AreLevels h (level ∷ made ∷ above) (top ++ (parents ++ more))
over h level made above top parents more wide high z w =
    let lower : take level (top ++ (parents ++ more)) ≡ top = take_at top (parents ++ more) level wide in
    let behind : drop level (top ++ (parents ++ more)) ≡ parents ++ more = drop_at top (parents ++ more) level wide in
    let upper : take made (parents ++ more) ≡ parents = take_at parents more made high in
    rw (lower, behind, upper) (z, w)

module _ (root : RootLaw) (parents : ParentsLaw) (h : List Dimension) where
  -- the levels from one up begin with it
  begin : (n : ℕ) → (above : List ℕ) × (levels_from n ≡ n ∷ above)
  begin n = elim (cases_lt 1 n) [ inl many ↦ (levels_from (div_ceil n parent_nodes), parents n many) | inr one ↦ ([], root n one) ]

  -- the leaves are the first level
  pub levels-first : (blocks : List Fresh) (n : ℕ) → length blocks ≡ leaves_for n → AreLevelsTo h n blocks 0
  levels-first blocks n is more w =
      let e : length blocks - 0 ≡ leaves_for n = omega arith in
      subst (λ (k : ℕ). AreLevels h (levels_from k) (blocks ++ more)) e w

  -- the parents of a level are the next one
  pub levels-next : (blocks made now : List Fresh) (from n : ℕ) → 1 < length blocks - from → length made ≡ div_ceil (length blocks - from) parent_nodes
      → AllZip (IsEntryTo h) (drop from blocks) (all_entries made) → AreLevelsTo h n blocks from → now ≡ blocks ++ made → AreLevelsTo h n now (length blocks)
  levels-next blocks made now from n many count z before is more w =
      let level = length blocks - from in
      let above = begin (length made) in
      let e : length now - length blocks ≡ length made = omega (arith, ap length is, length-append blocks made) in
      let behind : drop (length blocks) now ≡ made = ap (drop (length blocks)) is ∙ drop_at blocks made (length blocks) refl in
      let sizes : levels_from level ≡ level ∷ length made ∷ above.0 =
      parents level many ∙ ap (λ (k : ℕ). level ∷ levels_from k) (sym count) ∙ ap (λ (ns : List ℕ). level ∷ ns) above.1 in
      let rest : AreLevels h (length made ∷ above.0) (made ++ more) =
      subst (λ (ns : List ℕ). AreLevels h ns (made ++ more)) above.1
      (subst (λ (fs : List Fresh). AreLevels h (levels_from (length made)) (fs ++ more)) behind
      (subst (λ (k : ℕ). AreLevels h (levels_from k) (drop (length blocks) now ++ more)) e w)) in
      let all = before (made ++ more) (subst (λ (ns : List ℕ). AreLevels h ns (drop from blocks ++ (made ++ more))) (sym sizes)
      (over h level (length made) above.0 (drop from blocks) made more (length-drop from blocks) refl z rest)) in
      subst (AreLevels h (levels_of n)) (sym (ap (λ (fs : List Fresh). fs ++ more) is ∙ append_assoc blocks made more)) all

  -- there is no level over the root
  pub levels-all : (blocks : List Fresh) (from n : ℕ) → length blocks - from ≤ 1 → AreLevelsTo h n blocks from → AreLevels h (levels_of n) blocks
  levels-all blocks from n one before =
      subst (AreLevels h (levels_of n)) (append-nil blocks)
      (before [] (subst (λ (ns : List ℕ). AreLevels h ns (drop from blocks ++ [])) (sym (root (length blocks - from) one)) tt))
