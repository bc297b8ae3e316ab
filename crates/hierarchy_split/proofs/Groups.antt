-- What is kept of a group's head cuts, and what it says of them.
use Rattle.std.proofs.{Common.{ℕ, ◌≡◌, ◌+◌, ◌<◌, ◌≤◌, Bool, Option, Some, None, List, [], ◌∷◌, ◌++◌, length, map, get_or, refl, sym, ap, subst, ◌∙◌, arith, inl, inr}, Math.Seq.get_or-append_seam, lemmas.Bool.cases_lt, lemmas.List.{length-map, get_or_append_left}, lemmas.List.Sums.length-filter}
use Rattle.std.specs.{List.count_by, Option.unwrap_or, Prelude.{IfSome, IfNone, ◌==◌}}
use Rattle.dim_hierarchy.specs.Dimension.{Dimension}
use Rattle.describing_set.specs.{DescSet.part_at, declared.set.DescSet.DescSet}
use Rattle.hierarchy_split.specs.{Best.{IsBestWith, IsBetterOf, IsFlaggedGood, IsFlaggedAt}, Crossing.is_crossed, Cut.{lifted, leasts}, Flags.{AreDimCutsOf, cuts_at, AreHeadCutsOf, IsFlaggedIn, IsFlagged}, Head.{GroupItems, with_other, IsHeadLevel, is_kept, kept_items, IsHeadCut, IsGoodHead, IsGoodHeadCut}, Order.least, declared.head.DimCuts.DimCuts, declared.head.HeadCuts.HeadCuts, declared.head_cut.HeadCut.HeadCut}
use Rattle.hierarchy_split.proofs.{Crossings.{all_left, count_by-map, apart_from_uncrossed, uncrossed_from_apart}, Cuts.IsCutLevel-unique, Heads.IsBestWith-both}

-- Head levels.

pub less_level : (h : List Dimension) (items : GroupItems) (set : DescSet) (dim level : ℕ) → IsHeadLevel h (with_other items set) dim level → IsHeadLevel h items dim level
less_level h items set dim level l = record { cut_level = l.cut_level; others = all_left (λ other. level ≤ (part_at other dim).level) items.others (set ∷ []) l.others }

pub IsHeadLevel-unique : (h : List Dimension) (items : GroupItems) (dim a b : ℕ) → IsHeadLevel h items dim a → IsHeadLevel h items dim b → a ≡ b
IsHeadLevel-unique h items dim a b p q = IsCutLevel-unique h items.head dim a b p.cut_level q.cut_level

-- A dimension's cuts.

pub no_cuts : (h : List Dimension) (items : GroupItems) (dim : ℕ) (cuts : DimCuts) → cuts.level ≡ None → ((level : ℕ) → ¬ IsHeadLevel h items dim level) → AreDimCutsOf h items dim cuts
no_cuts h items dim cuts e none = record {
  level = subst (λ o. IfSome o (IsHeadLevel h items dim)) (sym e) tt;
  none = subst (λ o. IfNone o ((level : ℕ) → ¬ IsHeadLevel h items dim level)) (sym e) none;
  crossed = subst (λ o. IfSome o (λ level. cuts.crossed.items ≡ map (is_crossed h items.head items.others dim level) items.head)) (sym e) tt;
}

-- what is kept for a dimension with a level
pub record HasCutsAt (h : List Dimension) (items : GroupItems) (dim level : ℕ) (crossed : List Bool) : Type 0 where
  pub head_level : IsHeadLevel h items dim level
  pub crossed_is : crossed ≡ map (is_crossed h items.head items.others dim level) items.head

pub cuts_level : (h : List Dimension) (items : GroupItems) (dim level : ℕ) (cuts : DimCuts) → cuts.level ≡ Some level → AreDimCutsOf h items dim cuts → HasCutsAt h items dim level cuts.crossed.items
cuts_level h items dim level cuts e a = record {
  head_level = subst (λ o. IfSome o (IsHeadLevel h items dim)) e a.level;
  crossed_is = subst (λ o. IfSome o (λ level. cuts.crossed.items ≡ map (is_crossed h items.head items.others dim level) items.head)) e a.crossed;
}

pub cuts_none : (h : List Dimension) (items : GroupItems) (dim : ℕ) (cuts : DimCuts) → cuts.level ≡ None → AreDimCutsOf h items dim cuts → (level : ℕ) → ¬ IsHeadLevel h items dim level
cuts_none h items dim cuts e a = subst (λ o. IfNone o ((level : ℕ) → ¬ IsHeadLevel h items dim level)) e a.none

-- An item of another block more.

pub struck_none : (h : List Dimension) (items : GroupItems) (set : DescSet) (dim : ℕ) (cuts now : DimCuts) → cuts.level ≡ None → now.level ≡ None → AreDimCutsOf h items dim cuts → AreDimCutsOf h (with_other items set) dim now
struck_none h items set dim cuts now e n a = no_cuts h (with_other items set) dim now n (λ level l. cuts_none h items dim cuts e a level (less_level h items set dim level l))

-- what is kept for the dimensions below a number, and for this one
pub cuts_pushed : (P : ℕ → DimCuts → Type 0) (dims now : List DimCuts) (n : ℕ) (cuts : DimCuts) → now ≡ dims ++ cuts ∷ [] → length dims ≡ n → ((k : ℕ) → k < n → P k (cuts_at dims k)) → P n cuts → (k : ℕ) → k < n + 1 → P k (cuts_at now k)
cuts_pushed P dims now n cuts e count below here k lt =
    let none : DimCuts = record { level = None; crossed = record { items = [] } } in
    subst (λ l. P k (cuts_at l k)) (sym e) (elim (cases_lt k n) [
      | inl less ↦ subst (λ c. P k c) (sym (get_or_append_left dims (cuts ∷ []) none k (omega (arith, count, less)))) (below k less)
      | inr high ↦
          let same : n ≡ k = omega (arith, lt, high) in
          let read = ap (λ j. get_or (dims ++ cuts ∷ []) j none) (sym count) ∙ get_or-append_seam dims cuts [] none in
          subst (λ j. P j (cuts_at (dims ++ cuts ∷ []) j)) same (subst (λ c. P n c) (sym read) here)
    ])

-- What the calls ask.

-- Good by what is kept, and good.

pub kept_is : (h : List Dimension) (head : List DescSet) (cut : HeadCut) → length (kept_items h head cut) ≡ count_by (λ x. x == cut.concept) (leasts h head cut.dim cut.level)
kept_is h head cut = length-filter (is_kept h cut) head ∙ sym (count_by-map (λ x. x == cut.concept) (λ set. least (lifted h cut.dim cut.level set)) head)

-- a head cut that is good
pub record IsGoodOne (h : List Dimension) (items : GroupItems) (cut : HeadCut) : Type 0 where
  pub head_cut : IsHeadCut h items cut
  pub good : IsGoodHead h items cut

pub good_from_flagged : (h : List Dimension) (items : GroupItems) (cuts : HeadCuts) → AreHeadCutsOf h items cuts → (cut : HeadCut) → IsFlagged h cuts.head.now cuts.dims.items cut → IsGoodOne h items cut
good_from_flagged h items cuts a cut f =
    let dim_cuts = cuts_at cuts.dims.items cut.dim in
    let at = cuts_level h items cut.dim cut.level dim_cuts f.flagged.level (a.dims cut.dim f.dim) in
    let xs = leasts h items.head cut.dim cut.level in
    let moved = subst (λ sets. IsFlaggedGood (leasts h sets cut.dim cut.level) dim_cuts.crossed.items cut) a.head f.flagged.good in
    let good = subst (λ crossed. IsFlaggedGood xs crossed cut) at.crossed_is moved in
    let n = length-map items.head (λ set. least (lifted h cut.dim cut.level set)) in
    record {
      head_cut = record { dim = f.dim; level = at.head_level; kept = good.kept ∙ sym (kept_is h items.head cut) };
      good = record {
        third = let t = good.third in omega (arith, n, t);
        part = let p = good.part in omega (arith, n, p);
        apart = apart_from_uncrossed h items cut good.apart;
      };
    }

level_is : (h : List Dimension) (items : GroupItems) (dim level : ℕ) (cuts : DimCuts) (own : Option ℕ) → cuts.level ≡ own → AreDimCutsOf h items dim cuts → IsHeadLevel h items dim level → own ≡ Some level
level_is h items dim level cuts None e a l = absurd (cuts_none h items dim cuts e a level l)
level_is h items dim level cuts (Some own) e a l = ap (λ n. Some n) (IsHeadLevel-unique h items dim own level (cuts_level h items dim own cuts e a).head_level l)

pub flagged_from_good : (h : List Dimension) (items : GroupItems) (cuts : HeadCuts) → AreHeadCutsOf h items cuts → (cut : HeadCut) → IsHeadCut h items cut → IsGoodHead h items cut → IsFlagged h cuts.head.now cuts.dims.items cut
flagged_from_good h items cuts a cut c g =
    let dim_cuts = cuts_at cuts.dims.items cut.dim in
    let here = a.dims cut.dim c.dim in
    let level = level_is h items cut.dim cut.level dim_cuts dim_cuts.level refl here c.level in
    let at = cuts_level h items cut.dim cut.level dim_cuts level here in
    let n = length-map items.head (λ set. least (lifted h cut.dim cut.level set)) in
    let good : IsFlaggedGood (leasts h items.head cut.dim cut.level) (map (is_crossed h items.head items.others cut.dim cut.level) items.head) cut = record {
      kept = c.kept ∙ kept_is h items.head cut;
      third = let t = g.third in omega (arith, n, t);
      part = let p = g.part in omega (arith, n, p);
      apart = uncrossed_from_apart h items cut g.apart;
    } in
    let moved = subst (λ crossed. IsFlaggedGood (leasts h items.head cut.dim cut.level) crossed cut) (sym at.crossed_is) good in
    record {
      dim = c.dim;
      flagged = record { in_dim = refl; level = level; good = subst (λ sets. IsFlaggedGood (leasts h sets cut.dim cut.level) dim_cuts.crossed.items cut) (sym a.head) moved };
    }

pub best_is_good : (h : List Dimension) (items : GroupItems) (cuts : HeadCuts) (best : Option HeadCut) → AreHeadCutsOf h items cuts → IsBestWith (IsFlagged h cuts.head.now cuts.dims.items) best → IfSome best (IsGoodHeadCut h items)
best_is_good h items cuts None a b = tt
best_is_good h items cuts (Some cut) a b =
    let good = good_from_flagged h items cuts a cut b.holds in
    record { head_cut = good.head_cut; good = good.good; first = λ other c g. b.first other (flagged_from_good h items cuts a other c g) }

pub none_is_good : (h : List Dimension) (items : GroupItems) (cuts : HeadCuts) (best : Option HeadCut) → AreHeadCutsOf h items cuts → IsBestWith (IsFlagged h cuts.head.now cuts.dims.items) best → IfNone best ((cut : HeadCut) → IsHeadCut h items cut → ¬ IsGoodHead h items cut)
none_is_good h items cuts None a b = λ cut c g. b cut (flagged_from_good h items cuts a cut c g)
none_is_good h items cuts (Some cut) a b = tt

-- The dimensions one by one.

pub IsBestWith-same : (P Q : HeadCut → Type 0) (best : Option HeadCut) → ((cut : HeadCut) → P cut → Q cut) → ((cut : HeadCut) → Q cut → P cut) → IsBestWith P best → IsBestWith Q best
IsBestWith-same P Q None to from b = λ cut q. b cut (from cut q)
IsBestWith-same P Q (Some cut) to from b = record { holds = to cut b.holds; first = λ other q. b.first other (from other q) }

some_is : (a b : ℕ) → Some a ≡ Some b → a ≡ b
some_is a b e = ap (λ o. unwrap_or o 0) e

pub best_of_level : (h : List Dimension) (head : List DescSet) (dim level : ℕ) (cuts : DimCuts) (xs : List ℕ) (crossed : List Bool) (best : Option HeadCut) → cuts.level ≡ Some level → xs ≡ leasts h head dim level → crossed ≡ cuts.crossed.items → IsBestWith (IsFlaggedAt dim level xs crossed) best → IsBestWith (IsFlaggedIn h head dim cuts) best
best_of_level h head dim level cuts xs crossed best e read m b =
    IsBestWith-same (IsFlaggedAt dim level xs crossed) (IsFlaggedIn h head dim cuts) best
    (λ cut f. record {
      in_dim = f.in_dim;
      level = e ∙ ap (λ n. Some n) (sym f.at_level);
      good = subst (λ l. IsFlaggedGood (leasts h head dim l) cuts.crossed.items cut) (sym f.at_level) (subst (λ l. IsFlaggedGood l cuts.crossed.items cut) read (subst (λ l. IsFlaggedGood xs l cut) m f.good));
    })
    (λ cut f.
    let same = some_is cut.level level (sym f.level ∙ e) in
    record {
      in_dim = f.in_dim;
      at_level = same;
      good = subst (λ l. IsFlaggedGood xs l cut) (sym m) (subst (λ l. IsFlaggedGood l cuts.crossed.items cut) (sym read) (subst (λ l. IsFlaggedGood (leasts h head dim l) cuts.crossed.items cut) same f.good));
    })
    b

-- it is good by what is kept for a dimension below a number
pub record IsFlaggedBelow (h : List Dimension) (head : List DescSet) (dims : List DimCuts) (n : ℕ) (cut : HeadCut) : Type 0 where
  pub flagged : IsFlagged h head dims cut
  pub below : cut.dim < n

pub best_below_more : (h : List Dimension) (head : List DescSet) (dims : List DimCuts) (n : ℕ) (cuts : DimCuts) (best found now : Option HeadCut) → n < length h → cuts ≡ cuts_at dims n → IsBestWith (IsFlaggedBelow h head dims n) best → IsBestWith (IsFlaggedIn h head n cuts) found → IsBetterOf best found now → IsBestWith (IsFlaggedBelow h head dims (n + 1)) now
best_below_more h head dims n cuts best found now lt read b f better =
    IsBestWith-both (IsFlaggedBelow h head dims n) (IsFlaggedIn h head n cuts) (IsFlaggedBelow h head dims (n + 1)) best found now
    (λ cut i. elim (cases_lt cut.dim n) [
      | inl less ↦ inl (record { flagged = i.flagged; below = less })
      | inr high ↦
          let low = i.below in
          let e : cut.dim ≡ n = omega (arith, low, high) in
          inr (subst (λ c. IsFlaggedIn h head n c cut) (sym read) (subst (λ d. IsFlaggedIn h head d (cuts_at dims d) cut) e i.flagged.flagged))
    ])
    (λ cut i. let low = i.below in record { flagged = i.flagged; below = omega (arith, low) })
    (λ cut i.
    let e = i.in_dim in
    record {
      flagged = record { dim = omega (arith, e, lt); flagged = subst (λ d. IsFlaggedIn h head d (cuts_at dims d) cut) (sym e) (subst (λ c. IsFlaggedIn h head n c cut) read i) };
      below = omega (arith, e);
    })
    b f better

pub best_below_all : (h : List Dimension) (head : List DescSet) (dims : List DimCuts) (n : ℕ) (best : Option HeadCut) → length h ≤ n → IsBestWith (IsFlaggedBelow h head dims n) best → IsBestWith (IsFlagged h head dims) best
best_below_all h head dims n best le b =
    IsBestWith-same (IsFlaggedBelow h head dims n) (IsFlagged h head dims) best (λ cut f. f.flagged)
    (λ cut f. let lt = f.dim in record { flagged = f; below = omega (arith, lt, le) }) b
