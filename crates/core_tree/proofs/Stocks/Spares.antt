-- Spares in a purse of which the end is used, and the owners of their cells.
use Rattle.std.proofs.{Common.{◌≡◌, ◌≢◌, ℕ, ◌+◌, ◌≤◌, arith, inl, inr, Bool, true, false, cond, eqb, List, [], ◌∷◌, ◌++◌, refl, sym, ap, subst, ◌∙◌}, lemmas.Bool.{eqb-true, eqb-false, ne_eqb}}
use Rattle.cell_stock.specs.{Stock.cells_of, declared.purse.Spare.Spare}
use Rattle.list_words.specs.Counts.{Each, Among, times}
use Rattle.list_words.proofs.{Each.{each-both, each-append, each-here, each-left, each-right}, Times.{same_is, same_not}, Truth.{on_bool, eqb-self}}
use Rattle.volap_cell.specs.tree_shape.specs.{Shape.{Shape, Node}, Steps.{IsSpare, AreSpares, AreApart}}
use Rattle.volap_cell.specs.Ghost.{Owner, NotOfStock, Unused, InPurse, AGate, InTree, InJob, is_in_purse, is_in_tree}

pub apart-sym : (x y : Spare) → AreApart x y → AreApart y x
apart-sym x y a = ((λ e. a.0 (sym e)), (λ e. a.1 (sym e)))

-- no cell and no stamp stands twice
abbrev pub AreDistinct : List Spare → Type 0
AreDistinct [] = Unit {0}
AreDistinct (s ∷ ss) = Each (AreApart s) ss × AreDistinct ss

pub spares-each : (g : Shape) (look : ℕ → Node) (ss : List Spare) → AreSpares g look ss → Each (IsSpare g look) ss
spares-each g look [] a = tt
spares-each g look (s ∷ ss) a = (a.0, spares-each g look ss a.2)

pub spares-distinct : (g : Shape) (look : ℕ → Node) (ss : List Spare) → AreSpares g look ss → AreDistinct ss
spares-distinct g look [] a = tt
spares-distinct g look (s ∷ ss) a = (a.1, spares-distinct g look ss a.2)

pub spares-from : (g : Shape) (look : ℕ → Node) (ss : List Spare) → Each (IsSpare g look) ss → AreDistinct ss → AreSpares g look ss
spares-from g look [] e d = tt
spares-from g look (s ∷ ss) e d = (e.0, d.0, spares-from g look ss e.1 d.1)

pub distinct-right : (us ys : List Spare) → AreDistinct (us ++ ys) → AreDistinct ys
distinct-right [] ys d = d
distinct-right (u ∷ us) ys d = distinct-right us ys d.1

pub spares-left : (g : Shape) (look : ℕ → Node) (xs ys : List Spare) → AreSpares g look (xs ++ ys) → AreSpares g look xs
spares-left g look [] ys a = tt
spares-left g look (x ∷ xs) ys a = (a.0, each-left (AreApart x) xs ys a.1, spares-left g look xs ys a.2)

-- without the used ones, which stand between

pub each-drop : (P : Spare → Type 0) (xs us ys : List Spare) → Each P ((xs ++ us) ++ ys) → Each P (xs ++ ys)
each-drop P xs us ys e = each-append P xs ys (each-left P xs us (each-left P (xs ++ us) ys e)) (each-right P (xs ++ us) ys e)

pub distinct-drop : (xs us ys : List Spare) → AreDistinct ((xs ++ us) ++ ys) → AreDistinct (xs ++ ys)
distinct-drop [] us ys d = distinct-right us ys d
distinct-drop (x ∷ xs) us ys d = (each-drop (AreApart x) xs us ys d.0, distinct-drop xs us ys d.1)

apart-behind : (us ys : List Spare) → AreDistinct (us ++ ys) → Each (λ y. Each (AreApart y) us) ys
apart-behind [] ys d = each-here (λ y. Unit {0}) ys (λ y a. tt)
apart-behind (u ∷ us) ys d =
    each-both (AreApart u) (λ y. Each (AreApart y) us) (λ y. Each (AreApart y) (u ∷ us)) ys (λ y p q. (apart-sym u y p, q))
    (each-right (AreApart u) us ys d.0) (apart-behind us ys d.1)

pub used-apart : (xs us ys : List Spare) → AreDistinct ((xs ++ us) ++ ys) → Each (λ x. Each (AreApart x) us) (xs ++ ys)
used-apart [] us ys d = apart-behind us ys d
used-apart (x ∷ xs) us ys d = (each-right (AreApart x) xs us (each-left (AreApart x) (xs ++ us) ys d.0), used-apart xs us ys d.1)

-- the owners of the cells where some spares became cells of a tree
abbrev pub moved_owner : List Spare → ℕ → (ℕ → Owner) → ℕ → Owner
moved_owner [] c owner y = owner y
moved_owner (s ∷ ss) c owner y = cond (eqb y s.cell) (InTree c) (moved_owner ss c owner y)

-- a cell is a used one, which was in the purse, or its owner is as before
pub on_used : {P : Type 0} (used : List Spare) (c n : ℕ) (owner : ℕ → Owner) (y : ℕ) → Each (λ s. owner s.cell ≡ InPurse n) used
    → (owner y ≡ InPurse n → moved_owner used c owner y ≡ InTree c → ((Q : ℕ → Type 0) → Each (λ s. Q s.cell) used → Q y) → P)
    → (Each (λ s. y ≢ s.cell) used → moved_owner used c owner y ≡ owner y → P) → P
on_used [] c n owner y e f g = g tt refl
on_used (s ∷ ss) c n owner y e f g =
    let ih = on_used ss c n owner y e.1 in
    on_bool (eqb y s.cell)
    (λ q. let is = eqb-true _ _ q in f (ap owner is ∙ e.0) (ap (λ (b : Bool). cond b (InTree c) (moved_owner ss c owner y)) q) (λ Q all. subst Q (sym is) all.0))
    (λ q. let ne = eqb-false _ _ q in
    let same : moved_owner (s ∷ ss) c owner y ≡ moved_owner ss c owner y = ap (λ (b : Bool). cond b (InTree c) (moved_owner ss c owner y)) q in
    ih (λ p t k. f p (same ∙ t) (λ Q all. k Q all.1)) (λ off t. g (ne, off) (same ∙ t)))

-- Counting cells.

pub each-cell : (P : ℕ → Type 0) (xs : List Spare) → ((y : ℕ) → 1 ≤ times y (cells_of xs) → P y) → Each (λ x. P x.cell) xs
each-cell P [] f = tt
each-cell P (x ∷ xs) f = (f x.cell (let k = same_is x.cell x.cell refl in omega arith), each-cell P xs (λ y h. f y (omega arith)))

among-times : (x : Spare) (xs : List Spare) → Among x xs → 1 ≤ times x.cell (cells_of xs)
among-times x [] a = absurd a
among-times x (y ∷ ys) a = elim a [
  | inl e ↦ (let k = same_is x.cell y.cell (ap (λ (z : Spare). z.cell) e) in omega arith)
  | inr w ↦ (let k = among-times x ys w in omega arith)
]

pub each-times : (xs : List Spare) → Each (λ x. 1 ≤ times x.cell (cells_of xs)) xs
each-times xs = each-here (λ x. 1 ≤ times x.cell (cells_of xs)) xs (λ x a. among-times x xs a)

pub times-off : (y : ℕ) (xs : List Spare) → Each (λ x. y ≢ x.cell) xs → times y (cells_of xs) ≡ 0
times-off y [] e = refl
times-off y (x ∷ xs) e = (let k = same_not y x.cell e.0 in let l = times-off y xs e.1 in omega arith)

pub times-cells : (y : ℕ) (xs ys : List Spare) → times y (cells_of (xs ++ ys)) ≡ times y (cells_of xs) + times y (cells_of ys)
times-cells y [] ys = omega arith
times-cells y (x ∷ xs) ys = (let k = times-cells y xs ys in omega arith)

-- Owners.

pub owner-purse : (n : ℕ) (o : Owner) → is_in_purse n o ≡ true → o ≡ InPurse n
owner-purse n (InPurse b) e = ap InPurse (eqb-true b n e)
owner-purse n NotOfStock e = cc
owner-purse n Unused e = cc
owner-purse n AGate e = cc
owner-purse n (InTree d) e = cc
owner-purse n (InJob a) e = cc

pub in-own : (n : ℕ) → ◌≡◌ {A = ℕ} (cond (is_in_purse n (InPurse n)) 1 0) 1
in-own n = rw (eqb-self n) refl

pub other-purse : (a n : ℕ) → a ≢ n → is_in_purse a (InPurse n) ≡ false
other-purse a n ne = ne_eqb n a (λ e. ne (sym e))

pub other-tree : (c d : ℕ) → d ≢ c → is_in_tree d (InTree c) ≡ false
other-tree c d ne = ne_eqb c d (λ e. ne (sym e))
