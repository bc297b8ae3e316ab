-- Spares of a purse that new blocks take.
use Rattle.std.specs.Prelude.{Option, reverse}
use Rattle.std.proofs.{Common.{◌≡◌, ℕ, ◌+◌, ◌≤◌, eqb, List, [], ◌∷◌, ◌++◌, length, map, refl, sym, ap, ◌∙◌, subst, inl, inr, arith}, lemmas.Bool.{eqb-true, eqb-false}, lemmas.List.{map-append, reverse-append}}
use Rattle.cell_stock.specs.{Stock.{PurseValue, cells_of, stamps_of}, declared.purse.Spare.Spare}
use Rattle.dim_hierarchy.specs.{Dimension.Dimension, declared.row.Row.Row}
use Rattle.describing_set.specs.declared.plane.Plane.{Plane}
use Rattle.core_tree.specs.link_descent.specs.declared.entered.Fresh.{Fresh}
use Rattle.core_tree.specs.shard_build.specs.Building.{UsesUp, spare_of}
use Rattle.list_words.specs.Counts.{Among, Each, same, times, total}
use Rattle.list_words.proofs.{Each.{among-left, among-right, each-append, each-here, each-among, each-map}, Times.{same_is, same_not}, Totals.{total-append, total-map, total-one}, Truth.on_bool}
use Rattle.core_tree.specs.tree_shape.specs.{Shape.{Node, Shape}, Steps.{AreApart, AreSpares}}
use Rattle.core_tree.specs.volap_cell.specs.{AdminKinds.{IsBuiltOf, spent_by}, Values.BuildingValue}

total-reverse : {A : Type 0} (f : A → ℕ) (xs : List A) → total f (reverse xs) ≡ total f xs
total-reverse f [] = refl
total-reverse f (x ∷ xs) =
    let both = ap (total f) (reverse-append (x ∷ []) xs) ∙ total-append f (reverse xs) (x ∷ []) in
    let rest = total-reverse f xs in omega (arith, both, rest)

among-reverse : {A : Type 0} (xs : List A) (x : A) → Among x xs → Among x (reverse xs)
among-reverse [] x m = absurd m
among-reverse (y ∷ xs) x m = subst (Among x) (sym (reverse-append (y ∷ []) xs)) (elim m [
  | inl is ↦ among-right (reverse xs) (y ∷ []) x (inl is)
  | inr more ↦ among-left (reverse xs) (y ∷ []) x (among-reverse xs x more)
])

-- Of the spares of a purse some are left, and the others are spent.
pub record Spends (purse purse_now spent : List Spare) : Type 0 where
  pub counts : (f : Spare → ℕ) → total f purse ≡ total f purse_now + total f spent
  pub left : Each (λ (x : Spare). Among x purse) purse_now
  pub gone : Each (λ (x : Spare). Among x purse) spent

uses-spends : (blocks : List Fresh) (before now : PurseValue) → UsesUp blocks before now → Spends before.spares now.spares (spent_by blocks)
uses-spends blocks before now u = record {
  counts = λ f. let all = ap (total f) u.spares ∙ total-append f now.spares (reverse (map spare_of blocks)) in let turned = total-reverse f (map spare_of blocks) in omega (arith, all, turned);
  left = each-here (λ (x : Spare). Among x before.spares) now.spares (λ x m. subst (Among x) (sym u.spares) (among-left now.spares (reverse (map spare_of blocks)) x m));
  gone = each-here (λ (x : Spare). Among x before.spares) (spent_by blocks) (λ x m. subst (Among x) (sym u.spares) (among-right now.spares (reverse (map spare_of blocks)) x (among-reverse (map spare_of blocks) x m)));
}

spends-both : (a b c x y : List Spare) → Spends a b x → Spends b c y → Spends a c (x ++ y)
spends-both a b c x y d e = record {
  counts = λ f. let k = d.counts f in let l = e.counts f in let both = total-append f x y in omega (arith, k, l, both);
  left = each-map (λ (z : Spare). Among z b) (λ (z : Spare). Among z a) c (λ z m. each-among (λ (z : Spare). Among z a) z b d.left m) e.left;
  gone = each-append (λ (z : Spare). Among z a) x y d.gone (each-map (λ (z : Spare). Among z b) (λ (z : Spare). Among z a) y (λ z m. each-among (λ (z : Spare). Among z a) z b d.left m) e.gone);
}

pub built-spends : (h : List Dimension) (plane : Option Plane) (rows : List Row) (purse purse_now : PurseValue) (b : BuildingValue) → IsBuiltOf h plane rows purse purse_now b → Spends purse.spares purse_now.spares b.spent
built-spends h plane rows purse purse_now b d = subst (Spends purse.spares purse_now.spares) (sym d.spent) (elim d.built [
  | inl one ↦ (let (none, its) = one in let (tree, built, left, right, unbuilt) = its in subst (λ (xs : List Fresh). Spends purse.spares purse_now.spares (spent_by xs)) (sym unbuilt) (uses-spends tree.blocks.items purse purse_now built.uses))
  | inr two ↦ (let (cut, is, both) = two in
      let (left, right, between, built_left, built_right, left_is, right_is, unbuilt) = both in
      subst (λ (xs : List Fresh). Spends purse.spares purse_now.spares (spent_by xs)) (sym unbuilt)
      (subst (Spends purse.spares purse_now.spares) (sym (map-append spare_of left.blocks.items right.blocks.items))
      (spends-both purse.spares between.spares purse_now.spares (spent_by left.blocks.items) (spent_by right.blocks.items) (uses-spends left.blocks.items purse between built_left.uses) (uses-spends right.blocks.items between purse_now built_right.uses))))
])

-- What is counted in it.

module _ (purse purse_now spent : List Spare) (d : Spends purse purse_now spent) where
  pub cells-spent : (y : ℕ) → times y (cells_of purse) ≡ times y (cells_of purse_now) + times y (cells_of spent)
  cells-spent y =
      let all = d.counts (λ (x : Spare). same y x.cell) in
      let a = total-map (λ (z : ℕ). same y z) (λ (x : Spare). x.cell) purse in
      let b = total-map (λ (z : ℕ). same y z) (λ (x : Spare). x.cell) purse_now in
      let c = total-map (λ (z : ℕ). same y z) (λ (x : Spare). x.cell) spent in
      omega (arith, all, a, b, c)

  pub stamps-spent : (y : ℕ) → times y (stamps_of purse) ≡ times y (stamps_of (purse_now ++ spent))
  stamps-spent y =
      let all = d.counts (λ (x : Spare). same y x.stamp) in
      let a = total-map (λ (z : ℕ). same y z) (λ (x : Spare). x.stamp) purse in
      let b = total-map (λ (z : ℕ). same y z) (λ (x : Spare). x.stamp) (purse_now ++ spent) in
      let c = total-append (λ (x : Spare). same y x.stamp) purse_now spent in
      omega (arith, all, a, b, c)

  pub length-spent : length purse ≡ length purse_now + length spent
  length-spent = (let all = d.counts (λ (x : Spare). 1) in let a = total-one purse in let b = total-one purse_now in let c = total-one spent in omega (arith, all, a, b, c))

-- no stamp stands twice among spares
pub stamps-once : (g : Shape) (look : ℕ → Node) (xs : List Spare) → AreSpares g look xs → (y : ℕ) → times y (stamps_of xs) ≤ 1
stamps-once g look [] a y = omega arith
stamps-once g look (x ∷ xs) a y = on_bool (eqb y x.stamp)
    (λ q. let e = eqb-true _ _ q in let one = same_is y x.stamp e in let none = ap (λ (z : ℕ). times z (stamps_of xs)) e ∙ none-there x xs a.1 in omega (arith, one, none))
    (λ q. let none = same_not y x.stamp (eqb-false _ _ q) in let rest = stamps-once g look xs a.2 y in omega (arith, none, rest))
  where
    none-there : (x : Spare) (xs : List Spare) → Each (AreApart x) xs → times x.stamp (stamps_of xs) ≡ 0
    none-there x [] e = refl
    none-there x (z ∷ xs) e = (let s = same_not x.stamp z.stamp e.0.1 in let rest = none-there x xs e.1 in omega (arith, s, rest))
