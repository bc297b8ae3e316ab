-- Rows by columns as a list.
use Rattle.std.proofs.{Common.{ℕ, zero, suc, ◌≡◌, ◌≢◌, ◌+◌, ◌<◌, ℤ, pos, List, [], ◌∷◌, ◌++◌, Some, map, length, get_or, set, refl, ap, subst, ◌∙◌, arith}, lemmas.List.{get_or-set_same, get_or-set_other}, lemmas.List.FromFn.{length-map-range_with_len, get_or-map-range_with_len, map-range_with_len_more}, lemmas.Option.slice_get-get_or}
use Rattle.std.specs.{List.range_with_len, Prelude.{All, slice_get}}
use Rattle.dim_hierarchy.specs.{Row.concept_at, declared.row.Coord.Coord, declared.row.Row.Row}
use Rattle.dc_node.specs.{Columns.{id_at, coord_at, row_at, rows_in_columns, IsPut}, declared.columns.Columns.Columns}

pub length_rows : (c : Columns) (k : ℕ) → length (rows_in_columns c k) ≡ k
length_rows c k = length-map-range_with_len (row_at c) 0 k

pub read_row : (c : Columns) (k i : ℕ) (d : Row) → i < k → get_or (rows_in_columns c k) i d ≡ row_at c i
read_row c k i d lt = get_or-map-range_with_len (row_at c) 0 k i i d lt (omega arith)

pub row_of_rows : (c : Columns) (k i : ℕ) → i < k → slice_get (rows_in_columns c k) i ≡ Some (row_at c i)
row_of_rows c k i lt =
    slice_get-get_or (rows_in_columns c k) i (row_at c i) (let n = length_rows c k in omega (arith, n, lt)) ∙ ap Some (read_row c k i (row_at c i) lt)

-- a fact of all rows holds of one
pub row_fact : (P : Row → Type 0) (c : Columns) (k i : ℕ) → All P (rows_in_columns c k) → i < k → P (row_at c i)
row_fact P c k i all lt =
    let n = length_rows c k in
    subst P (read_row c k i (row_at c i) lt) (all i (row_at c i) (omega (arith, n, lt)))

-- two functions that agree below a number
map_below : {X : Type 0} (f g : ℕ → X) (a n : ℕ) → ((i : ℕ) → i < a + n → f i ≡ g i) → map f (range_with_len a n) ≡ map g (range_with_len a n)
map_below f g a zero e = refl
map_below f g a (suc n) e = rw (e a (omega arith)) (ap (λ l. g a ∷ l) (map_below f g (a + 1) n (λ i lt. e i (omega (arith, lt)))))

-- a row of its parts
same_row : (n : ℕ) (at : Coord) (m : ℤ) (row : Row) → n ≡ row.no → at ≡ row.at → m ≡ row.measures → record { no = n; at = at; measures = m } ≡ row
same_row n at m row e f g = rw (e, f, g) refl

eight : (xs : List ℕ) → length xs ≡ 8 → get_or xs 0 0 ∷ get_or xs 1 0 ∷ get_or xs 2 0 ∷ get_or xs 3 0 ∷ get_or xs 4 0 ∷ get_or xs 5 0 ∷ get_or xs 6 0 ∷ get_or xs 7 0 ∷ [] ≡ xs
eight (a ∷ b ∷ c ∷ d ∷ e ∷ f ∷ g ∷ h ∷ []) is = refl
eight _ is = grind arith

same_coord : (cs : List (List ℕ)) (k : ℕ) (at : Coord) → length at.at ≡ 8 → ((dim : ℕ) → dim < 8 → id_at cs dim k ≡ concept_at at dim) → coord_at cs k ≡ at
same_coord cs k at n e =
    rw (e 0 (omega arith), e 1 (omega arith), e 2 (omega arith), e 3 (omega arith), e 4 (omega arith), e 5 (omega arith), e 6 (omega arith), e 7 (omega arith))
    (ap (λ l. record { at = l }) (eight at.at n))

-- a row is written behind the others
pub push_rows : (ns : List ℕ) (ms : List ℤ) (cs new : List (List ℕ)) (k : ℕ) (row : Row) (m : ℤ) → m ≡ row.measures → k < length ns → k < length ms
    → IsPut cs new k row.at.at
    → rows_in_columns (record { concepts = new; measures = set ms k m; numbers = set ns k row.no }) (k + 1) ≡ rows_in_columns (record { concepts = cs; measures = ms; numbers = ns }) k ++ row ∷ []
push_rows ns ms cs new k row m em ln lm p =
    let f = row_at (record { concepts = new; measures = set ms k m; numbers = set ns k row.no }) in
    let g = row_at (record { concepts = cs; measures = ms; numbers = ns }) in
    let last : f k ≡ row = same_row _ _ _ row (get_or-set_same ns k row.no 0 ln) (same_coord new k row.at p.eight p.here) (get_or-set_same ms k m (pos 0) lm ∙ em) in
    let first : map f (range_with_len 0 k) ≡ map g (range_with_len 0 k) = map_below f g 0 k (λ i lt. kept i (omega (arith, lt))) in
    map-range_with_len_more f 0 k k (omega arith) ∙ rw (first, last) refl
  where
    kept : (i : ℕ) → i ≢ k → row_at (record { concepts = new; measures = set ms k m; numbers = set ns k row.no }) i ≡ row_at (record { concepts = cs; measures = ms; numbers = ns }) i
    kept i ne = rw (get_or-set_other ns k i row.no 0 ne, get_or-set_other ms k i m (pos 0) ne, p.others 0 i ne, p.others 1 i ne, p.others 2 i ne, p.others 3 i ne, p.others 4 i ne, p.others 5 i ne, p.others 6 i ne, p.others 7 i ne) refl
