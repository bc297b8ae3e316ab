-- The items of a head in two parts, as far as they are looked at.
use Rattle.std.proofs.{Common.{ℕ, zero, suc, ◌≡◌, ◌+◌, ◌<◌, ◌≤◌, Bool, true, false, not, cond, List, [], ◌∷◌, ◌++◌, length, take, get_or, filter, refl, sym, ap, subst, ◌∙◌, arith}, lemmas.List.{append-nil, length-append, take_all, get_or_default}, lemmas.List.Elements.filter-append, lemmas.List.Filters.length-filter_more, lemmas.List.Sorted.IsPermutation-filter_both, lemmas.Option.slice_get_read}
use Rattle.std.specs.{List.range_with_len, Option.option_map_or, Prelude.IsPermutation}
use Rattle.dim_hierarchy.specs.Dimension.{Dimension}
use Rattle.describing_set.specs.declared.set.DescSet.{DescSet}
use Rattle.hierarchy_split.specs.{Head.{is_kept, is_kept_at, kept_items, kept_places, parted_places}, declared.head_cut.HeadCut.HeadCut}
use Rattle.hierarchy_split.proofs.Orders.{range_more}

-- the first n items, those that are kept and the others
pub record Parting (h : List Dimension) (head : List DescSet) (cut : HeadCut) (n : ℕ) (kept parted : List ℕ) : Type 0 where
  pub kept_is : kept ≡ filter (is_kept_at h head cut) (range_with_len 0 n)
  pub parted_is : parted ≡ filter (λ place. not (is_kept_at h head cut place)) (range_with_len 0 n)
  pub all : length kept + length parted ≡ n

-- one place more, of which the test is known
filter-next : (p : ℕ → Bool) (n : ℕ) → filter p (range_with_len 0 (n + 1)) ≡ filter p (range_with_len 0 n) ++ cond (p n) (n ∷ []) []
filter-next p n = ap (filter p) (range_more n) ∙ filter-append p (range_with_len 0 n) (n ∷ [])

filter-with : (p : ℕ → Bool) (n : ℕ) → p n ≡ true → filter p (range_with_len 0 (n + 1)) ≡ filter p (range_with_len 0 n) ++ n ∷ []
filter-with p n e = filter-next p n ∙ ap (λ b. filter p (range_with_len 0 n) ++ cond b (n ∷ []) []) e

filter-without : (p : ℕ → Bool) (n : ℕ) → p n ≡ false → filter p (range_with_len 0 (n + 1)) ≡ filter p (range_with_len 0 n)
filter-without p n e = filter-next p n ∙ ap (λ b. filter p (range_with_len 0 n) ++ cond b (n ∷ []) []) e ∙ append-nil (filter p (range_with_len 0 n))

kept-here : (h : List Dimension) (head : List DescSet) (cut : HeadCut) (n : ℕ) (set : DescSet) → n < length head → set ≡ get_or head n set → is_kept_at h head cut n ≡ is_kept h cut set
kept-here h head cut n set lt read = ap (λ o. option_map_or (is_kept h cut) o false) (slice_get_read head (length head) n set refl lt read)

pub Parting-keeps : (h : List Dimension) (head : List DescSet) (cut : HeadCut) (n : ℕ) (kept parted : List ℕ) (set : DescSet) → Parting h head cut n kept parted → n < length head → set ≡ get_or head n set → is_kept h cut set ≡ true
    → Parting h head cut (n + 1) (kept ++ n ∷ []) parted
Parting-keeps h head cut n kept parted set p lt read test =
    let here = kept-here h head cut n set lt read ∙ test in
    let long = length-append kept (n ∷ []) in
    record {
      kept_is = ap (λ l. l ++ n ∷ []) p.kept_is ∙ sym (filter-with (is_kept_at h head cut) n here);
      parted_is = p.parted_is ∙ sym (filter-without (λ place. not (is_kept_at h head cut place)) n (ap not here));
      all = omega (arith, p.all, long);
    }

pub Parting-parts : (h : List Dimension) (head : List DescSet) (cut : HeadCut) (n : ℕ) (kept parted : List ℕ) (set : DescSet) → Parting h head cut n kept parted → n < length head → set ≡ get_or head n set → is_kept h cut set ≡ false
    → Parting h head cut (n + 1) kept (parted ++ n ∷ [])
Parting-parts h head cut n kept parted set p lt read test =
    let here = kept-here h head cut n set lt read ∙ test in
    let long = length-append parted (n ∷ []) in
    record {
      kept_is = p.kept_is ∙ sym (filter-without (is_kept_at h head cut) n here);
      parted_is = ap (λ l. l ++ n ∷ []) p.parted_is ∙ sym (filter-with (λ place. not (is_kept_at h head cut place)) n (ap not here));
      all = omega (arith, p.all, long);
    }

-- as many places are kept as items

abbrev weight : Bool → ℕ
weight b = cond b 1 0

length-one : (b : Bool) (n : ℕ) → length (cond b (n ∷ []) []) ≡ weight b
length-one true n = refl
length-one false n = refl

count-below : (h : List Dimension) (head : List DescSet) (cut : HeadCut) (d : DescSet) (n : ℕ) → n ≤ length head → length (filter (is_kept_at h head cut) (range_with_len 0 n)) ≡ length (filter (is_kept h cut) (take n head))
count-below h head cut d zero few = refl
count-below h head cut d (suc n) few =
    let p = is_kept_at h head cut in
    let set = get_or head n d in
    let ih = count-below h head cut d n (omega (arith, few)) in
    let more = length-filter_more (is_kept h cut) head n d (omega (arith, few)) in
    let here = ap weight (kept-here h head cut n set (omega (arith, few)) (sym (get_or_default head n set d (omega (arith, few))))) in
    let next = ap length (filter-next p n) ∙ length-append (filter p (range_with_len 0 n)) (cond (p n) (n ∷ []) []) in
    let one = length-one (p n) n in
    let same : n + 1 ≡ suc n = omega arith in
    subst (λ k. length (filter p (range_with_len 0 k)) ≡ length (filter (is_kept h cut) (take k head))) same (omega (arith, ih, more, here, next, one))

pub kept_count : (h : List Dimension) (head : List DescSet) (cut : HeadCut) → length (kept_places h head cut) ≡ length (kept_items h head cut)
kept_count h [] cut = refl
kept_count h (d ∷ ds) cut =
    let head = d ∷ ds in
    count-below h head cut d (length head) (omega arith) ∙ ap (λ l. length (filter (is_kept h cut) l)) (take_all (length head) head (omega arith))

-- both kinds are all places
pub parts-order : (h : List Dimension) (head : List DescSet) (cut : HeadCut) → IsPermutation (range_with_len 0 (length head)) (kept_places h head cut ++ parted_places h head cut)
parts-order h head cut =
    IsPermutation-filter_both (is_kept_at h head cut) (λ place. not (is_kept_at h head cut place)) (λ place. refl) (range_with_len 0 (length head))

-- all items
pub record Parted (h : List Dimension) (head : List DescSet) (cut : HeadCut) (kept parted : List ℕ) : Type 0 where
  pub kept_is : kept ≡ kept_places h head cut
  pub parted_is : parted ≡ parted_places h head cut
  pub order : IsPermutation (range_with_len 0 (length head)) (kept ++ parted)

pub Parting-all : (h : List Dimension) (head : List DescSet) (cut : HeadCut) (n : ℕ) (kept parted : List ℕ) → n ≡ length head → Parting h head cut n kept parted → Parted h head cut kept parted
Parting-all h head cut n kept parted e p =
    let kept_is : kept ≡ kept_places h head cut = p.kept_is ∙ ap (λ k. filter (is_kept_at h head cut) (range_with_len 0 k)) e in
    let parted_is : parted ≡ parted_places h head cut = p.parted_is ∙ ap (λ k. filter (λ place. not (is_kept_at h head cut place)) (range_with_len 0 k)) e in
    record {
      kept_is = kept_is;
      parted_is = parted_is;
      order = rw (kept_is, parted_is) (parts-order h head cut);
    }
