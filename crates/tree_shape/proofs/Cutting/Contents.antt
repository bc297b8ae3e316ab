-- What a division leaves of the items of a block, by halves, by a cut and by a head cut.
use Rattle.std.proofs.{Common.{◌≡◌, ℕ, ◌+◌, ◌-◌, ◌*◌, ◌<◌, ◌≤◌, Bool, true, false, cond, List, [], ◌∷◌, length, take, drop, refl, sym, ap, ◌∙◌, arith}, lemmas.Bool.{eqb-true, ne_eqb}, lemmas.List.{length-take, length-drop}, lemmas.List.FromFn.length-range_with_len}
use Rattle.std.specs.{List.range_with_len, Option.option_map_or, Prelude.{IsPermutation, Option, Some, None, slice_get, filter, not}}
use Rattle.hierarchy_split.specs.{Cut.IsGoodCut, Head.{GroupItems, is_kept, kept_items, is_kept_at, kept_places, parted_places, IsGoodHeadCut}, declared.cut.Cut.Cut, declared.head_cut.HeadCut.HeadCut}
use Rattle.hierarchy_split.proofs.Orders.{places_length}
use Rattle.describing_set.specs.declared.set.DescSet.{DescSet}
use Rattle.dim_hierarchy.specs.{Dimension.Dimension, declared.row.Row.Row}
use Rattle.dc_node.specs.{Block.{rows_in, entries_in, is_leaf, is_full, size}, declared.block.Body.Body, declared.block.Body.TheVariants.{Rows, Entries}, declared.entry.Entry.Entry}
use Rattle.link_descent.specs.Divide.{items_at, body_at, front, rest, half, AreItemSets}
use Rattle.list_words.specs.Counts.{Among, Each, same, times, total}
use Rattle.list_words.proofs.{Each.{each-here, take-among, drop-among}, Totals.{total-map, total-one, total-halves, total-same}, Truth.on_bool}
use Rattle.tree_shape.specs.{Shape.numbers, Trees.limit}
use Rattle.tree_shape.proofs.Cutting.Parts.{total-order, total-items, total-range, or_zero, length-items, items-among}
use Rattle.link_descent.proofs.Parts.{AreItemSets-length}

-- two bodies that have the items of a full one
pub record ArePartsOf (body left right : Body) : Type 0 where
  pub rows : (q : ℕ) → times q (numbers (rows_in body)) ≡ times q (numbers (rows_in left)) + times q (numbers (rows_in right))
  pub entries : (f : Entry → ℕ) → total f (entries_in body) ≡ total f (entries_in left) + total f (entries_in right)
  pub left_entries : Each (λ e. Among e (entries_in body)) (entries_in left)
  pub right_entries : Each (λ e. Among e (entries_in body)) (entries_in right)
  pub left_rows : Each (λ r. Among r (rows_in body)) (rows_in left)
  pub right_rows : Each (λ r. Among r (rows_in body)) (rows_in right)
  pub left_kind : is_leaf left ≡ is_leaf body
  pub right_kind : is_leaf right ≡ is_leaf body
  pub left_some : 1 ≤ size left
  pub right_some : 1 ≤ size right
  pub left_few : size left ≤ limit left
  pub right_few : size right ≤ limit right
  pub left_room : is_full left ≡ false
  pub right_room : is_full right ≡ false

times-numbers : (q : ℕ) (rs : List Row) → times q (numbers rs) ≡ total (λ r. same q r.no) rs
times-numbers q rs = total-map (λ y. same q y) (λ r. r.no) rs

half-sizes : {A : Type 0} (xs : List A) (n m : ℕ) → length xs ≡ m → m ≡ n + n → (length (drop n xs) ≡ n) × (length (take n xs) ≡ n)
half-sizes xs n m e h =
    let s = total-halves (λ _. 1) xs n in
    let a = total-one xs in
    let b = total-one (drop n xs) in
    let c = total-one (take n xs) in
    let d = length-drop n xs in
    (omega arith, omega arith)

pub halves : (body : Body) → is_full body ≡ true → ArePartsOf body (rest body (half body)) (front body (half body))
halves (Rows rows) full =
    let e : length rows.items ≡ 32 = eqb-true _ _ full in
    let z = half-sizes rows.items 16 32 e refl in
    let a = z.0 in
    let b = z.1 in
    record {
      rows = λ q. times-numbers q rows.items ∙ total-halves (λ r. same q r.no) rows.items 16 ∙ sym (let u = times-numbers q (drop 16 rows.items) in let v = times-numbers q (take 16 rows.items) in omega arith);
      entries = λ f. refl;
      left_entries = tt;
      right_entries = tt;
      left_rows = drop-among rows.items 16;
      right_rows = take-among rows.items 16;
      left_kind = refl;
      right_kind = refl;
      left_some = omega arith;
      right_some = omega arith;
      left_few = omega arith;
      right_few = omega arith;
      left_room = ne_eqb _ _ (omega arith);
      right_room = ne_eqb _ _ (omega arith);
    }
halves (Entries entries) full =
    let e : length entries.items ≡ 16 = eqb-true _ _ full in
    let z = half-sizes entries.items 8 16 e refl in
    let a = z.0 in
    let b = z.1 in
    record {
      rows = λ q. refl;
      entries = λ f. total-halves f entries.items 8;
      left_entries = drop-among entries.items 8;
      right_entries = take-among entries.items 8;
      left_rows = tt;
      right_rows = tt;
      left_kind = refl;
      right_kind = refl;
      left_some = omega arith;
      right_some = omega arith;
      left_few = omega arith;
      right_few = omega arith;
      left_room = ne_eqb _ _ (omega arith);
      right_room = ne_eqb _ _ (omega arith);
    }

-- a cut with a third of the items at least on each side
cut-sizes : {A : Type 0} (xs : List A) (order : List ℕ) (k n : ℕ) → IsPermutation (range_with_len 0 (length xs)) order → length xs ≡ n → 1 ≤ n → n ≤ 3 * k → n ≤ 3 * (n - k)
    → (length (items_at xs (take k order)) ≡ k) × (length (items_at xs (drop k order)) ≡ n - k)
cut-sizes xs order k n p e some left right =
    let s = total-order (λ _. 1) xs order k p in
    let a = total-one xs in
    let b = total-one (items_at xs (take k order)) in
    let c = total-one (items_at xs (drop k order)) in
    let l = length-items xs (take k order) in
    let r = length-items xs (drop k order) in
    let o = places_length (length xs) order p in
    let t = length-take k order in
    let d = length-drop k order in
    (omega arith, omega arith)

-- the items at some places of a body, and those at the others
at-places : (body : Body) (ps qs : List ℕ) → is_full body ≡ true
    → ((f : Row → ℕ) → total f (rows_in body) ≡ total f (rows_in (body_at body ps)) + total f (rows_in (body_at body qs)))
    → ((f : Entry → ℕ) → total f (entries_in body) ≡ total f (entries_in (body_at body ps)) + total f (entries_in (body_at body qs)))
    → 1 ≤ size (body_at body ps) → 1 ≤ size (body_at body qs) → ArePartsOf body (body_at body ps) (body_at body qs)
at-places (Rows rows) ps qs full tr te sl sr =
    let e : length rows.items ≡ 32 = eqb-true _ _ full in
    let z = tr (λ _. 1) in
    let a = total-one rows.items in
    let b = total-one (items_at rows.items ps) in
    let c = total-one (items_at rows.items qs) in
    record {
      rows = λ q. times-numbers q rows.items ∙ tr (λ r. same q r.no) ∙ sym (let u = times-numbers q (items_at rows.items ps) in let v = times-numbers q (items_at rows.items qs) in omega arith);
      entries = λ f. refl;
      left_entries = tt;
      right_entries = tt;
      left_rows = items-among rows.items ps;
      right_rows = items-among rows.items qs;
      left_kind = refl;
      right_kind = refl;
      left_some = sl;
      right_some = sr;
      left_few = omega arith;
      right_few = omega arith;
      left_room = ne_eqb _ _ (omega arith);
      right_room = ne_eqb _ _ (omega arith);
    }
at-places (Entries entries) ps qs full tr te sl sr =
    let e : length entries.items ≡ 16 = eqb-true _ _ full in
    let z = te (λ _. 1) in
    let a = total-one entries.items in
    let b = total-one (items_at entries.items ps) in
    let c = total-one (items_at entries.items qs) in
    record {
      rows = λ q. refl;
      entries = te;
      left_entries = items-among entries.items ps;
      right_entries = items-among entries.items qs;
      left_rows = tt;
      right_rows = tt;
      left_kind = refl;
      right_kind = refl;
      left_some = sl;
      right_some = sr;
      left_few = omega arith;
      right_few = omega arith;
      left_room = ne_eqb _ _ (omega arith);
      right_room = ne_eqb _ _ (omega arith);
    }

pub cuts : (body : Body) (places : List ℕ) (k : ℕ) → is_full body ≡ true → IsPermutation (range_with_len 0 (size body)) places → size body ≤ 3 * k → size body ≤ 3 * (size body - k)
    → ArePartsOf body (body_at body (take k places)) (body_at body (drop k places))
cuts (Rows rows) places k full p l r =
    let e : length rows.items ≡ 32 = eqb-true _ _ full in
    let z = cut-sizes rows.items places k (length rows.items) p refl (omega arith) l r in
    let a = z.0 in
    let b = z.1 in
    at-places (Rows rows) (take k places) (drop k places) full (λ f. total-order f rows.items places k p) (λ f. refl) (omega arith) (omega arith)
cuts (Entries entries) places k full p l r =
    let e : length entries.items ≡ 16 = eqb-true _ _ full in
    let z = cut-sizes entries.items places k (length entries.items) p refl (omega arith) l r in
    let a = z.0 in
    let b = z.1 in
    at-places (Entries entries) (take k places) (drop k places) full (λ f. refl) (λ f. total-order f entries.items places k p) (omega arith) (omega arith)

pub cut-parts : (h : List Dimension) (body : Body) (sets : List DescSet) (cut : Cut) → is_full body ≡ true → AreItemSets h body sets → IsGoodCut h sets cut → IsPermutation (range_with_len 0 (size body)) cut.order.items
    → ArePartsOf body (body_at body (take cut.left cut.order.items)) (body_at body (drop cut.left cut.order.items))
cut-parts h body sets cut full a good p =
    let n = AreItemSets-length h body sets a in
    let l = good.good.left in
    let r = good.good.right in
    cuts body cut.order.items cut.left full p (omega arith) (omega arith)

-- What a head cut keeps, and what it doesn't.

total-filter : {A : Type 0} (f : A → ℕ) (test : A → Bool) (xs : List A) → total f xs ≡ total f (filter test xs) + total f (filter (λ x. not (test x)) xs)
total-filter f test [] = refl
total-filter f test (x ∷ xs) =
    let ih = total-filter f test xs in
    on_bool (test x)
    (λ q. rw q (omega arith))
    (λ q. rw q (omega arith))

total-tested : {A : Type 0} (test : A → Bool) (xs : List A) → length (filter test xs) ≡ total (λ x. cond (test x) 1 0) xs
total-tested test [] = refl
total-tested test (x ∷ xs) =
    let ih = total-tested test xs in
    on_bool (test x)
    (λ q. rw q (omega arith))
    (λ q. rw q (omega arith))

-- the items at the places that pass a test, and those at the others, are all items
tested-items : {A : Type 0} (f : A → ℕ) (xs : List A) (test : ℕ → Bool) (n : ℕ) → n ≡ length xs
    → total f xs ≡ total f (items_at xs (filter test (range_with_len 0 n))) + total f (items_at xs (filter (λ p. not (test p)) (range_with_len 0 n)))
tested-items f xs test n is =
    let places = range_with_len 0 n in
    let h : ℕ → ℕ = λ p. or_zero f (slice_get xs p) in
    let a = total-items f xs (filter test places) in
    let b = total-items f xs (filter (λ p. not (test p)) places) in
    let s = total-filter h test places in
    let r = ap (λ m. total (λ p. or_zero f (slice_get xs p)) (range_with_len 0 m)) is ∙ total-range f xs in
    omega arith

-- as many places are kept as there are sets that the cut keeps
kept-count : (h : List Dimension) (cut : HeadCut) (sets : List DescSet) → length (kept_places h sets cut) ≡ length (kept_items h sets cut)
kept-count h cut sets =
    let places = range_with_len 0 (length sets) in
    let one : DescSet → ℕ = λ s. cond (is_kept h cut s) 1 0 in
    total-tested (is_kept_at h sets cut) places
    ∙ total-same (λ p. cond (is_kept_at h sets cut p) 1 0 ≡ or_zero one (slice_get sets p)) (λ p. cond (is_kept_at h sets cut p) 1 0) (λ p. or_zero one (slice_get sets p)) places (λ p e. e) (each-here (λ p. cond (is_kept_at h sets cut p) 1 0 ≡ or_zero one (slice_get sets p)) places (λ p _. at (slice_get sets p)))
    ∙ total-range one sets
    ∙ sym (total-tested (is_kept h cut) sets)
  where
    at : (o : Option DescSet) → cond (option_map_or (is_kept h cut) o false) 1 0 ≡ or_zero (λ s. cond (is_kept h cut s) 1 0) o
    at None = refl
    at (Some s) = refl

-- some of the items stay, and some go
kept-sizes : {A : Type 0} (h : List Dimension) (xs : List A) (sets : List DescSet) (cut : HeadCut) → length sets ≡ length xs → 1 ≤ length xs → length xs ≤ 3 * length (kept_items h sets cut) → length (kept_items h sets cut) < length xs
    → (1 ≤ length (items_at xs (kept_places h sets cut))) × (1 ≤ length (items_at xs (parted_places h sets cut)))
kept-sizes h xs sets cut n some third part =
    let places = range_with_len 0 (length sets) in
    let k = kept-count h cut sets in
    let all = total-filter (λ _. 1) (is_kept_at h sets cut) places in
    let a = total-one places in
    let b = total-one (kept_places h sets cut) in
    let c = total-one (parted_places h sets cut) in
    let d = length-range_with_len 0 (length sets) in
    let s = tested-items (λ _. 1) xs (is_kept_at h sets cut) (length sets) n in
    let x = total-one xs in
    let u = total-one (items_at xs (kept_places h sets cut)) in
    let v = total-one (items_at xs (parted_places h sets cut)) in
    let l = length-items xs (kept_places h sets cut) in
    let r = length-items xs (parted_places h sets cut) in
    (omega arith, omega arith)

pub head-parts : (h : List Dimension) (body : Body) (items : GroupItems) (cut : HeadCut) → is_full body ≡ true → AreItemSets h body items.head → IsGoodHeadCut h items cut
    → ArePartsOf body (body_at body (kept_places h items.head cut)) (body_at body (parted_places h items.head cut))
head-parts h (Rows rows) items cut full a good =
    let n = AreItemSets-length h (Rows rows) items.head a in
    let e : length rows.items ≡ 32 = eqb-true _ _ full in
    let k = good.head_cut.kept in
    let t = good.good.third in
    let m = good.good.part in
    let z = kept-sizes h rows.items items.head cut n (omega arith) (omega arith) (omega arith) in
    at-places (Rows rows) (kept_places h items.head cut) (parted_places h items.head cut) full (λ f. tested-items f rows.items (is_kept_at h items.head cut) (length items.head) n) (λ f. refl) z.0 z.1
head-parts h (Entries entries) items cut full a good =
    let n = AreItemSets-length h (Entries entries) items.head a in
    let e : length entries.items ≡ 16 = eqb-true _ _ full in
    let k = good.head_cut.kept in
    let t = good.good.third in
    let m = good.good.part in
    let z = kept-sizes h entries.items items.head cut n (omega arith) (omega arith) (omega arith) in
    at-places (Entries entries) (kept_places h items.head cut) (parted_places h items.head cut) full (λ f. refl) (λ f. tested-items f entries.items (is_kept_at h items.head cut) (length items.head) n) z.0 z.1
