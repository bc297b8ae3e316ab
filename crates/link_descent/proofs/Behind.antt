-- The items of the blocks of a group together.
use Rattle.std.proofs.{Common.{ℕ, ◌≡◌, ◌+◌, Bool, true, false, not, Option, Some, None, List, [], ◌∷◌, ◌++◌, length, map, refl, sym, ap, subst, ◌∙◌, arith}, Math.Bool.beq, lemmas.Bool.{false≢true}, lemmas.List.{append-nil, append_assoc, map-append, length-append}, lemmas.List.Concat.flat_map-append, lemmas.List.Elements.{All-nil, All-append, All-tail}, lemmas.List.Sums.sum_by-append}
use Rattle.std.specs.{List.flat_map, Option.option_to_list, Prelude.{All, IfSome, sum_by}}
use Rattle.dim_hierarchy.specs.{Dimension.Dimension, Rows.IsRowOf, declared.row.Row.Row}
use Rattle.measure_agg.specs.{Aggregate.{Aggregate, agg}, Joining.join}
use Rattle.describing_set.specs.{DescSet.IsSetOf, Sets.JoinsTo, declared.set.DescSet.DescSet}
use Rattle.dc_node.specs.{Block.{rows_in, entries_in, is_leaf, IsBodyOf}, Summary.{coords, aggs, joined, row_count, IsSummary, IsUnionOf}, declared.block.Block.Block, declared.block.Body.Body, declared.block.Body.TheVariants.{Rows, Entries}, declared.entry.Entry.Entry}
use Rattle.dc_node.proofs.Summaries.{IsUnionOf-none, IsUnionOf-append, valid_coords}
use Rattle.link_descent.specs.Divide.{front, together}
use Rattle.link_descent.proofs.{Entries.All-rows, Parts.{weigh, joined-count}}

-- the laws that calls of the crates below state
abbrev pub AggAppend : Type 0
AggAppend = (xs ys : List Row) → agg (xs ++ ys) ≡ join (agg xs) (agg ys)

abbrev pub JoinedAppend : Type 0
JoinedAppend = (xs ys : List Aggregate) → joined (xs ++ ys) ≡ join (joined xs) (joined ys)

abbrev pub AreValid : List Dimension → List Block → Type 0
AreValid h tail = All (λ b. IsBodyOf h b.body) tail

-- the rows, and the entries, of some blocks

abbrev rows_in_blocks : List Block → List Row
rows_in_blocks blocks = flat_map (λ b. rows_in b.body) blocks

abbrev entries_of : List Block → List Entry
entries_of blocks = flat_map (λ b. entries_in b.body) blocks

valid_rows : (h : List Dimension) (blocks : List Block) → AreValid h blocks → All (IsRowOf h) (rows_in_blocks blocks)
valid_rows h [] all = All-nil (IsRowOf h)
valid_rows h (b ∷ blocks) all =
    All-append (IsRowOf h) (rows_in b.body) (rows_in_blocks blocks) (All-rows h b.body (all 0 b (omega arith))) (valid_rows h blocks (All-tail (λ x. IsBodyOf h x.body) b blocks all))

rows-more : (rows : List Row) (xs ys : List Block) → rows ++ rows_in_blocks (xs ++ ys) ≡ (rows ++ rows_in_blocks xs) ++ rows_in_blocks ys
rows-more rows xs ys = ap (λ l. rows ++ l) (flat_map-append (λ (b : Block). rows_in b.body) xs ys) ∙ sym (append_assoc rows (rows_in_blocks xs) (rows_in_blocks ys))

entries-more : (entries : List Entry) (xs ys : List Block) → entries ++ entries_of (xs ++ ys) ≡ (entries ++ entries_of xs) ++ entries_of ys
entries-more entries xs ys = ap (λ l. entries ++ l) (flat_map-append (λ (b : Block). entries_in b.body) xs ys) ∙ sym (append_assoc entries (entries_of xs) (entries_of ys))

-- more blocks behind
pub summary-more : (h : List Dimension) (body : Body) (tail more : List Block) (a b : Aggregate) (s t both : DescSet) → AggAppend → JoinedAppend → JoinsTo h s t both → IsBodyOf h body → AreValid h tail → AreValid h more
    → IsSummary h (together body tail) a s → IsSummary h (together (front body 0) more) b t → IsSummary h (together body (tail ++ more)) (join a b) both
summary-more h (Rows rows) tail more a b s t both append joins_append joins valid valid_tail valid_more p q =
    let xs = rows.items ++ rows_in_blocks tail in
    let ys = rows_in_blocks more in
    let e = rows-more rows.items tail more in
    let one : All (IsRowOf h) xs = All-append (IsRowOf h) rows.items (rows_in_blocks tail) valid (valid_rows h tail valid_tail) in
    let here = joins.joined (coords xs) (coords ys) (valid_coords h xs one) (valid_coords h ys (valid_rows h more valid_more)) p.1 q.1 in (
      ap (λ x. join x b) p.0 ∙ ap (join (agg xs)) q.0 ∙ sym (append xs ys) ∙ ap agg (sym e),
      subst (λ l. IsSetOf h l both) (sym (map-append (λ (r : Row). r.at) xs ys) ∙ ap coords (sym e)) here,
    )
summary-more h (Entries entries) tail more a b s t both append joins_append joins valid valid_tail valid_more p q =
    let xs = entries.items ++ entries_of tail in
    let ys = entries_of more in
    let e = entries-more entries.items tail more in
    let sets : List Entry → List DescSet = map (λ x. x.set) in (
      ap (λ x. join x b) p.0 ∙ ap (join (joined (aggs xs))) q.0 ∙ sym (joins_append (aggs xs) (aggs ys)) ∙ ap joined (sym (map-append (λ (x : Entry). x.agg) xs ys)) ∙ ap (λ l. joined (aggs l)) (sym e),
      subst (λ l. IsUnionOf h l both) (sym (map-append (λ (x : Entry). x.set) xs ys) ∙ ap sets (sym e)) (IsUnionOf-append h (sets xs) (sets ys) s t both joins p.1 q.1),
    )

-- a head by itself

together-none : (body : Body) → together body [] ≡ body
together-none (Rows rows) = ap (λ l. Rows (record { items = l })) (append-nil rows.items)
together-none (Entries entries) = ap (λ l. Entries (record { items = l })) (append-nil entries.items)

pub summary-alone : (h : List Dimension) (body : Body) (a : Aggregate) (s : DescSet) → IsSummary h body a s → IsSummary h (together body []) a s
summary-alone h body a s p = subst (λ b. IsSummary h b a s) (sym (together-none body)) p

pub count-alone : (body : Body) → row_count (together body []) ≡ row_count body
count-alone body = ap row_count (together-none body)

-- how many rows are beneath the blocks of a group

pub count-more : (body : Body) (tail more : List Block) → row_count (together body (tail ++ more)) ≡ row_count (together body tail) + row_count (together (front body 0) more)
count-more (Rows rows) tail more =
    let e = ap length (rows-more rows.items tail more) in
    let l = length-append (rows.items ++ rows_in_blocks tail) (rows_in_blocks more) in
    omega (arith, e, l)
count-more (Entries entries) tail more =
    let e = ap (sum_by weigh) (entries-more entries.items tail more) in
    let l = sum_by-append weigh (entries.items ++ entries_of tail) (entries_of more) in
    let x = joined-count (entries.items ++ entries_of (tail ++ more)) in
    let y = joined-count (entries.items ++ entries_of tail) in
    let z = joined-count (entries_of more) in
    omega (arith, e, l, x, y, z)

pub count-behind : (body : Body) (tail : List Block) → row_count (together body tail) ≡ row_count body + row_count (together (front body 0) tail)
count-behind body tail = count-more body [] tail ∙ ap (λ n. n + row_count (together (front body 0) tail)) (count-alone body)

-- of two parts of a head the one stays, and the blocks behind are behind the other
pub count-parted : (old head new : Body) (tail : List Block) → front new 0 ≡ front old 0 → row_count head + row_count new ≡ row_count old → row_count head + row_count (together new tail) ≡ row_count (together old tail)
count-parted old head new tail kind rows =
    let a = count-behind old tail in
    let b = count-behind new tail in
    let c = ap (λ x. row_count (together x tail)) kind in
    omega (arith, a, b, c, rows)

-- Blocks that may be there, as a list.

pub listed-left : {A : Type 0} (P : A → Type 0) (o : Option A) (rest : List A) → All P (option_to_list o ++ rest) → IfSome o P
listed-left P None rest all = tt
listed-left P (Some x) rest all = all 0 x (omega arith)

pub listed-only : {A : Type 0} (P : A → Type 0) (o : Option A) → All P (option_to_list o) → IfSome o P
listed-only P None all = tt
listed-only P (Some x) all = all 0 x (omega arith)

-- the rows beneath two blocks behind a head
pub count-two : (body : Body) (xs ys tail : List Block) → xs ++ ys ≡ tail → row_count (together body tail) ≡ row_count body + row_count (together (front body 0) xs) + row_count (together (front body 0) ys)
count-two body xs ys tail e =
    ap (λ l. row_count (together body l)) (sym e) ∙ count-more body xs ys ∙ ap (λ n. n + row_count (together (front body 0) ys)) (count-behind body xs)

-- a block whose items are of another kind adds nothing
pub none-behind : (h : List Dimension) (body other : Body) (stamp : ℕ) (right : Option ℕ) (set : DescSet) → (is_leaf body ≡ is_leaf other → ⊥) → IsSetOf h [] set
    → IsSummary h (together (front body 0) (record { stamp = stamp; right = right; body = other } ∷ [])) (agg []) set
none-behind h (Rows rows) (Rows others) stamp right set differ s = absurd (differ refl)
none-behind h (Rows rows) (Entries others) stamp right set differ s = (refl, s)
none-behind h (Entries entries) (Rows others) stamp right set differ s = (refl, IsUnionOf-none h set s)
none-behind h (Entries entries) (Entries others) stamp right set differ s = absurd (differ refl)

-- of the test whether two kinds differ
pub kinds-differ : (a b : Bool) → not (beq a b) ≡ true → a ≡ b → ⊥
kinds-differ true true test e = false≢true test
kinds-differ false false test e = false≢true test
kinds-differ true false test e = false≢true (sym e)
kinds-differ false true test e = false≢true e
