-- How many rows are beneath blocks and entries
use Rattle.std.proofs.{Common.{◌≡◌, ℕ, ◌+◌, ◌^◌, ◌<◌, ◌≤◌, true, false, List, [], ◌∷◌, ◌++◌, length, refl, sym, ap, ◌∙◌, arith, length-append}, lemmas.List.Elements.{All-nil, All-cons, All-head, All-tail}, lemmas.List.Sums.{sum_by-cons, sum_by-append}}
use Rattle.std.specs.{List.AllZip, Prelude.{sum_by, All}}
use Rattle.dim_hierarchy.specs.{Dimension.Dimension, Rows.IsRowOf, declared.row.Row.Row}
use Rattle.describing_set.specs.Sets.{IsDescSetOf}
use Rattle.dc_node.specs.{Block.{rows_in, entries_in, is_leaf, size, IsBodyOf}, Summary.{aggs, joined, row_count}, declared.block.Body.Body, declared.block.Body.TheVariants.{Rows, Entries}, declared.entry.Entry.Entry}
use Rattle.tree_shape.specs.link_descent.specs.declared.entered.Fresh.{Fresh}
use Rattle.shard_plan.specs.Building.{leaf_rows}
use Rattle.tree_shape.specs.Forest.{all_entries, all_rows}
use Rattle.tree_shape.proofs.Whole.Assembled.{no-rows}
use Rattle.shard_build.specs.Building.{AreSmall, IsCountable, IsEntryTo, most, rows_under}
use Rattle.tree_shape.specs.link_descent.proofs.Parts.{IsSummary-count}

abbrev pub entry_count : Entry → ℕ
entry_count e = e.agg.count

all-left : {A : Type 0} (P : A → Type 0) (xs ys : List A) → All P (xs ++ ys) → All P xs
all-left P [] ys h = All-nil P
all-left P (x ∷ xs) ys h = All-cons P x xs (All-head P x (xs ++ ys) h) (all-left P xs ys (All-tail P x (xs ++ ys) h))

all-right : {A : Type 0} (P : A → Type 0) (xs ys : List A) → All P (xs ++ ys) → All P ys
all-right P [] ys h = h
all-right P (x ∷ xs) ys h = all-right P xs ys (All-tail P x (xs ++ ys) h)

-- Leaves.

leaf-count : (body : Body) → is_leaf body ≡ true → row_count body ≡ length (rows_in body)
leaf-count (Rows rows) k = refl
leaf-count (Entries entries) k = cc

leaf-few : (body : Body) → is_leaf body ≡ true → size body ≤ most body → length (rows_in body) ≤ leaf_rows
leaf-few (Rows rows) k le = le
leaf-few (Entries entries) k le = cc

leaf-body : (h : List Dimension) (body : Body) → is_leaf body ≡ true → All (IsRowOf h) (rows_in body) → IsBodyOf h body
leaf-body h (Rows rows) k v = v
leaf-body h (Entries entries) k v = cc

pub leaves-beneath : (fs : List Fresh) → All (λ f. is_leaf f.block.body ≡ true) fs → sum_by rows_under fs ≡ length (all_rows fs)
leaves-beneath [] k = refl
leaves-beneath (f ∷ fs) k =
    let a = leaf-count f.block.body (All-head (λ (f : Fresh). is_leaf f.block.body ≡ true) f fs k) in
    let ih = leaves-beneath fs (All-tail (λ (f : Fresh). is_leaf f.block.body ≡ true) f fs k) in
    omega (arith, sum_by-cons rows_under f fs, length-append (rows_in f.block.body) (all_rows fs))

pub leaves-countable : (h : List Dimension) (fs : List Fresh) → All (λ f. is_leaf f.block.body ≡ true) fs → AreSmall fs
    → All (IsRowOf h) (all_rows fs) → All (IsCountable h) fs
leaves-countable h [] k few v = All-nil (IsCountable h)
leaves-countable h (f ∷ fs) k few v =
    let kind = All-head (λ (f : Fresh). is_leaf f.block.body ≡ true) f fs k in
    let a = leaf-count f.block.body kind in
    let b = leaf-few f.block.body kind (All-head (λ (f : Fresh). size f.block.body ≤ most f.block.body) f fs few) in
    All-cons (IsCountable h) f fs
    (record { body = leaf-body h f.block.body kind (all-left (IsRowOf h) (rows_in f.block.body) (all_rows fs) v); few = omega arith })
    (leaves-countable h fs (All-tail (λ (f : Fresh). is_leaf f.block.body ≡ true) f fs k) (All-tail (λ (f : Fresh). size f.block.body ≤ most f.block.body) f fs few)
    (all-right (IsRowOf h) (rows_in f.block.body) (all_rows fs) v))

-- Directories.

joined-count : (es : List Entry) → (joined (aggs es)).count ≡ sum_by entry_count es
joined-count [] = refl
joined-count (e ∷ es) = ap (λ n. e.agg.count + n) (joined-count es) ∙ sym (sum_by-cons entry_count e es)

directory-count : (body : Body) → is_leaf body ≡ false → row_count body ≡ sum_by entry_count (entries_in body)
directory-count (Rows rows) k = cc
directory-count (Entries entries) k = joined-count entries.items

directory-body : (h : List Dimension) (body : Body) → is_leaf body ≡ false → All (λ e. IsDescSetOf h e.set) (entries_in body) → IsBodyOf h body
directory-body h (Rows rows) k v = cc
directory-body h (Entries entries) k v = v

entries-beneath : (h : List Dimension) (fs : List Fresh) (es : List Entry) → AllZip (IsEntryTo h) fs es → sum_by entry_count es ≡ sum_by rows_under fs
entries-beneath h [] [] z = refl
entries-beneath h [] (e ∷ es) z = absurd z
entries-beneath h (f ∷ fs) [] z = absurd z
entries-beneath h (f ∷ fs) (e ∷ es) z =
    let a = IsSummary-count h f.block.body e.agg e.set z.0.summary in
    let ih = entries-beneath h fs es z.1 in
    omega (arith, sum_by-cons entry_count e es, sum_by-cons rows_under f fs)

entries-valid : (h : List Dimension) (fs : List Fresh) (es : List Entry) → AllZip (IsEntryTo h) fs es → All (λ e. IsDescSetOf h e.set) es
entries-valid h [] [] z = All-nil (λ (e : Entry). IsDescSetOf h e.set)
entries-valid h [] (e ∷ es) z = absurd z
entries-valid h (f ∷ fs) [] z = absurd z
entries-valid h (f ∷ fs) (e ∷ es) z = All-cons (λ (e : Entry). IsDescSetOf h e.set) e es z.0.valid (entries-valid h fs es z.1)

parents-sum : (fs : List Fresh) → All (λ f. is_leaf f.block.body ≡ false) fs → sum_by rows_under fs ≡ sum_by entry_count (all_entries fs)
parents-sum [] k = refl
parents-sum (f ∷ fs) k =
    let a = directory-count f.block.body (All-head (λ (f : Fresh). is_leaf f.block.body ≡ false) f fs k) in
    let ih = parents-sum fs (All-tail (λ (f : Fresh). is_leaf f.block.body ≡ false) f fs k) in
    omega (arith, sum_by-cons rows_under f fs, sum_by-append entry_count (entries_in f.block.body) (all_entries fs))

parents-ok : (h : List Dimension) (fs : List Fresh) → All (λ f. is_leaf f.block.body ≡ false) fs → All (λ e. IsDescSetOf h e.set) (all_entries fs) → sum_by rows_under fs < 2 ^ 63
    → All (IsCountable h) fs
parents-ok h [] k v few = All-nil (IsCountable h)
parents-ok h (f ∷ fs) k v few =
    let s = sum_by-cons rows_under f fs in
    All-cons (IsCountable h) f fs
    (record {
      body = directory-body h f.block.body (All-head (λ (f : Fresh). is_leaf f.block.body ≡ false) f fs k)
          (all-left (λ (e : Entry). IsDescSetOf h e.set) (entries_in f.block.body) (all_entries fs) v);
      few = omega arith;
    })
    (parents-ok h fs (All-tail (λ (f : Fresh). is_leaf f.block.body ≡ false) f fs k)
    (all-right (λ (e : Entry). IsDescSetOf h e.set) (entries_in f.block.body) (all_entries fs) v) (omega arith))

-- the directories over blocks have the same rows beneath
pub parents-beneath : (h : List Dimension) (children parents : List Fresh) → All (λ f. is_leaf f.block.body ≡ false) parents → AllZip (IsEntryTo h) children (all_entries parents)
    → sum_by rows_under parents ≡ sum_by rows_under children
parents-beneath h children parents k z = parents-sum parents k ∙ entries-beneath h children (all_entries parents) z

pub parents-countable : (h : List Dimension) (children parents : List Fresh) → All (λ f. is_leaf f.block.body ≡ false) parents → AllZip (IsEntryTo h) children (all_entries parents)
    → sum_by rows_under children < 2 ^ 63 → All (IsCountable h) parents
parents-countable h children parents k z few =
    parents-ok h parents k (entries-valid h children (all_entries parents) z) (omega (arith, parents-beneath h children parents k z))

-- directories have no rows of their own
pub parents-rows : (parents : List Fresh) → All (λ f. is_leaf f.block.body ≡ false) parents → all_rows parents ≡ []
parents-rows [] k = refl
parents-rows (f ∷ fs) k =
    ap (λ (xs : List Row). xs ++ all_rows fs) (no-rows f.block.body (All-head (λ (f : Fresh). is_leaf f.block.body ≡ false) f fs k))
    ∙ parents-rows fs (All-tail (λ (f : Fresh). is_leaf f.block.body ≡ false) f fs k)

-- and leaves have no entries
no-entries : (body : Body) → is_leaf body ≡ true → entries_in body ≡ []
no-entries (Rows rows) k = refl
no-entries (Entries entries) k = cc

pub leaves-entries : (leaves : List Fresh) → All (λ f. is_leaf f.block.body ≡ true) leaves → all_entries leaves ≡ []
leaves-entries [] k = refl
leaves-entries (f ∷ fs) k =
    ap (λ (es : List Entry). es ++ all_entries fs) (no-entries f.block.body (All-head (λ (f : Fresh). is_leaf f.block.body ≡ true) f fs k))
    ∙ leaves-entries fs (All-tail (λ (f : Fresh). is_leaf f.block.body ≡ true) f fs k)
