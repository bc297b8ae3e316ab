-- The parts of a divided body: they are of the same hierarchy, they have room, and they share the rows beneath.
use Rattle.std.proofs.{Common.{ℕ, ◌≡◌, ◌+◌, ◌<◌, true, false, List, [], ◌∷◌, ◌++◌, length, take, drop, refl, sym, ap, subst, ◌∙◌, arith}, lemmas.Bool.eqb-true, lemmas.Bool.Decides.nat_tests, lemmas.List.{length-append, length-take, length-drop, length-map, take-append-drop}, lemmas.List.Elements.{All-take, All-drop}, lemmas.List.Sorted.{sum_by-IsPermutation, length_permutation}, lemmas.List.Sums.{sum_by-append, sum_by-cons}, lemmas.Slice.Zip.AllZip-long}
use Rattle.std.specs.{List.range_with_len, Prelude.{◌==◌, sum_by, All, IsPermutation}}
use Rattle.dim_hierarchy.specs.{Dimension.Dimension, Rows.IsRowOf, declared.row.Row.Row}
use Rattle.measure_agg.specs.Aggregate.{Aggregate, agg}
use Rattle.describing_set.specs.{Sets.IsDescSetOf, declared.set.DescSet.DescSet}
use Rattle.hierarchy_split.proofs.{Crossings.{all_left, all_right}, Cuts.cut_length, Orders.{places_length, places_below}, Partings.{kept_count, parts-order}}
use Rattle.hierarchy_split.specs.Head.{kept_places, parted_places}
use Rattle.dc_node.specs.{Block.{size, is_full, IsBodyOf}, Summary.{joined, aggs, row_count, IsSummary}, declared.block.Block.Block, declared.block.Body.Body, declared.block.Body.TheVariants.{Rows, Entries}, declared.entry.Entry.Entry}
use Rattle.link_descent.specs.Divide.{items_at, body_at, front, rest, half, AreItemSets, IsCutInTwo, IsCutByHead, IsHalved}
use Rattle.link_descent.proofs.Items.{length-items_at, All-items_at, items_at-parts}

-- Room.

-- how many items there is room for
abbrev capacity : Body → ℕ
capacity (Rows rows) = 32
capacity (Entries entries) = 16

full_size : (b : Body) → is_full b ≡ true → size b ≡ capacity b
full_size (Rows rows) full = eqb-true (length rows.items) 32 full
full_size (Entries entries) full = eqb-true (length entries.items) 16 full

differ : (a b : ℕ) → a < b → (a == b) ≡ false
differ a b less = grind (arith, nat_tests)

-- fewer items of a full body
fewer : (b part : Body) → is_full b ≡ true → capacity part ≡ capacity b → size part < size b → is_full part ≡ false
fewer b (Rows rows) full same less = differ (length rows.items) 32 (let m = full_size b full in omega (arith, m, same, less))
fewer b (Entries entries) full same less = differ (length entries.items) 16 (let m = full_size b full in omega (arith, m, same, less))

-- The rows beneath.

abbrev pub weigh : Entry → ℕ
weigh e = e.agg.count

pub joined-count : (entries : List Entry) → (joined (aggs entries)).count ≡ sum_by weigh entries
joined-count [] = refl
joined-count (e ∷ entries) = ap (λ n. e.agg.count + n) (joined-count entries) ∙ sym (sum_by-cons weigh e entries)

joined-parts : (entries some more : List Entry) → IsPermutation entries (some ++ more) → (joined (aggs some)).count + (joined (aggs more)).count ≡ (joined (aggs entries)).count
joined-parts entries some more p =
    let a = joined-count entries in
    let b = joined-count some in
    let c = joined-count more in
    let d = sum_by-append weigh some more in
    let e = sum_by-IsPermutation weigh entries (some ++ more) p in
    omega (arith, a, b, c, d, e)

rows-parts : (rows some more : List Row) → IsPermutation rows (some ++ more) → (agg some).count + (agg more).count ≡ (agg rows).count
rows-parts rows some more p =
    let d = length-append some more in
    let e = length_permutation rows (some ++ more) p in
    omega (arith, d, e)

pub IsSummary-count : (h : List Dimension) (b : Body) (total : Aggregate) (set : DescSet) → IsSummary h b total set → total.count ≡ row_count b
IsSummary-count h (Rows rows) total set s = ap (λ a. a.count) s.0
IsSummary-count h (Entries entries) total set s = ap (λ a. a.count) s.0

-- The parts of a cut.

capacity-body_at : (b : Body) (places : List ℕ) → capacity (body_at b places) ≡ capacity b
capacity-body_at (Rows rows) places = refl
capacity-body_at (Entries entries) places = refl

size-body_at : (b : Body) (places : List ℕ) → All (λ place. place < size b) places → size (body_at b places) ≡ length places
size-body_at (Rows rows) places within = length-items_at rows.items places within
size-body_at (Entries entries) places within = length-items_at entries.items places within

IsBodyOf-body_at : (h : List Dimension) (b : Body) (places : List ℕ) → All (λ place. place < size b) places → IsBodyOf h b → IsBodyOf h (body_at b places)
IsBodyOf-body_at h (Rows rows) places within all = All-items_at (IsRowOf h) rows.items places within all
IsBodyOf-body_at h (Entries entries) places within all = All-items_at (λ e. IsDescSetOf h e.set) entries.items places within all

row_count-body_at : (b : Body) (some more : List ℕ) → IsPermutation (range_with_len 0 (size b)) (some ++ more) → row_count (body_at b some) + row_count (body_at b more) ≡ row_count b
row_count-body_at (Rows rows) some more p = rows-parts rows.items (items_at rows.items some) (items_at rows.items more) (items_at-parts rows.items some more p)
row_count-body_at (Entries entries) some more p = joined-parts entries.items (items_at entries.items some) (items_at entries.items more) (items_at-parts entries.items some more p)

-- what is known of a part of a full body
pub record IsPart (h : List Dimension) (part : Body) : Type 0 where
  pub valid : IsBodyOf h part
  pub room : is_full part ≡ false

pub record ArePartsOf (h : List Dimension) (b left right : Body) : Type 0 where
  pub left_is : IsPart h left
  pub right_is : IsPart h right
  pub rows : row_count left + row_count right ≡ row_count b

cut_parts : (h : List Dimension) (b : Body) (some more : List ℕ) → is_full b ≡ true → IsBodyOf h b → IsPermutation (range_with_len 0 (size b)) (some ++ more) → 0 < length some → length some < size b → ArePartsOf h b (body_at b some) (body_at b more)
cut_parts h b some more full valid p few less =
    let P : ℕ → Type 0 = λ place. place < size b in
    let below = places_below (size b) (some ++ more) p in
    let count = places_length (size b) (some ++ more) p in
    let long = length-append some more in
    let left = all_left P some more below in
    let right = all_right P some more below in
    let left_size = size-body_at b some left in
    let right_size = size-body_at b more right in
    record {
      left_is = record {
        valid = IsBodyOf-body_at h b some left valid;
        room = fewer b (body_at b some) full (capacity-body_at b some) (omega (arith, left_size, less));
      };
      right_is = record {
        valid = IsBodyOf-body_at h b more right valid;
        room = fewer b (body_at b more) full (capacity-body_at b more) (omega (arith, right_size, long, count, few));
      };
      rows = row_count-body_at b some more p;
    }

pub AreItemSets-length : (h : List Dimension) (b : Body) (sets : List DescSet) → AreItemSets h b sets → length sets ≡ size b
AreItemSets-length h (Rows rows) sets all = AllZip-long _ rows.items sets all
AreItemSets-length h (Entries entries) sets e = ap length e ∙ length-map entries.items (λ e. e.set)

pub IsCutInTwo-parts : (h : List Dimension) (old : Block) (cell stamp : ℕ) (head new : Block) → is_full old.body ≡ true → IsBodyOf h old.body → IsCutInTwo h old cell stamp head new → ArePartsOf h old.body head.body new.body
IsCutInTwo-parts h old cell stamp head new full valid c =
    let k = c.cut.left in
    let order = c.cut.order.items in
    let between = c.good.dim_cut.place.between in
    let m = cut_length h c.sets c.cut c.good.dim_cut in
    let count = AreItemSets-length h old.body c.sets c.are_sets in
    let long = places_length (size old.body) order c.order in
    let t = length-take k order in
    let below = between.below in
    let above = between.above in
    let whole = subst (IsPermutation (range_with_len 0 (size old.body))) (sym (take-append-drop k order)) c.order in
    let parts = cut_parts h old.body (take k order) (drop k order) full valid whole (omega (arith, t, long, above, below, m, count)) (omega (arith, t, long, below, m, count)) in
    subst (λ b. ArePartsOf h old.body b new.body) (ap (λ b. b.body) (sym c.head_is))
    (subst (λ b. ArePartsOf h old.body (body_at old.body (take k order)) b) (ap (λ b. b.body) (sym c.new_is)) parts)

pub IsCutByHead-parts : (h : List Dimension) (old : Block) (tail : List Block) (cell stamp : ℕ) (head new : Block) → is_full old.body ≡ true → IsBodyOf h old.body → IsCutByHead h old tail cell stamp head new → ArePartsOf h old.body head.body new.body
IsCutByHead-parts h old tail cell stamp head new full valid c =
    let sets = c.items.head in
    let stays = kept_places h sets c.cut in
    let goes = parted_places h sets c.cut in
    let count = AreItemSets-length h old.body sets c.are_sets.head in
    let kept = c.good.head_cut.kept in
    let same = kept_count h sets c.cut in
    let third = c.good.good.third in
    let part = c.good.good.part in
    let order = subst (λ n. IsPermutation (range_with_len 0 n) (stays ++ goes)) count (parts-order h sets c.cut) in
    let parts = cut_parts h old.body stays goes full valid order (omega (arith, kept, same, third, part)) (omega (arith, kept, same, part, count)) in
    subst (λ b. ArePartsOf h old.body b new.body) (ap (λ b. b.body) (sym c.head_is))
    (subst (λ b. ArePartsOf h old.body (body_at old.body stays) b) (ap (λ b. b.body) (sym c.new_is)) parts)

-- The parts of a halving.

front_part : (h : List Dimension) (b : Body) → is_full b ≡ true → IsBodyOf h b → IsPart h (front b (half b))
front_part h (Rows rows) full valid = record {
  valid = All-take (IsRowOf h) 16 rows.items valid;
  room = differ (length (take 16 rows.items)) 32 (let t = length-take 16 rows.items in omega (arith, t));
}
front_part h (Entries entries) full valid = record {
  valid = All-take (λ e. IsDescSetOf h e.set) 8 entries.items valid;
  room = differ (length (take 8 entries.items)) 16 (let t = length-take 8 entries.items in omega (arith, t));
}

rest_part : (h : List Dimension) (b : Body) → is_full b ≡ true → IsBodyOf h b → IsPart h (rest b (half b))
rest_part h (Rows rows) full valid = record {
  valid = All-drop (IsRowOf h) 16 rows.items valid;
  room = differ (length (drop 16 rows.items)) 32 (let t = length-drop 16 rows.items in let m = full_size (Rows rows) full in omega (arith, t, m));
}
rest_part h (Entries entries) full valid = record {
  valid = All-drop (λ e. IsDescSetOf h e.set) 8 entries.items valid;
  room = differ (length (drop 8 entries.items)) 16 (let t = length-drop 8 entries.items in let m = full_size (Entries entries) full in omega (arith, t, m));
}

pub record AreHalves (h : List Dimension) (head new : Body) : Type 0 where
  pub head_is : IsPart h head
  pub new_is : IsPart h new

pub IsHalved-parts : (h : List Dimension) (old : Block) (cell stamp : ℕ) (head new : Block) → is_full old.body ≡ true → IsBodyOf h old.body → IsHalved old cell stamp head new → AreHalves h head.body new.body
IsHalved-parts h old cell stamp head new full valid d = record {
  head_is = subst (λ b. IsPart h b) (ap (λ b. b.body) (sym d.head_is)) (rest_part h old.body full valid);
  new_is = subst (λ b. IsPart h b) (ap (λ b. b.body) (sym d.new_is)) (front_part h old.body full valid);
}
