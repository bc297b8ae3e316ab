-- Numbers of cells that differ.
use Rattle.std.proofs.{Common.{ℕ, ◌≡◌, ◌+◌, ◌-◌, ◌<◌, ◌≤◌, eqb, List, [], ◌∷◌, ◌++◌, length, get_or, refl, sym, ap, ◌∙◌, subst, arith, lit<, take, drop, ◌^◌, All, Contains, IsPermutation}, lemmas.Bool.{ne_eqb, eqb-true, eqb-false}, lemmas.Bool.Decides.{same_from_decides, Decides-eqb, Decides-like}, lemmas.List.{length-append, get_or_append_left, get_or-append-add, get_or_default, take-append-drop, length_push, map-id, map_push, map-append, append_assoc, append-nil, length-map}, lemmas.List.Elements.{All-from_get_or, All-append, All-take, All-cons, All-nil, All-contains_itself, Contains-append_right}, lemmas.List.Folds.Any-from_list_any, lemmas.List.FromFn.{map-range_with_len_more, length-range_with_len, get_or-range_with_len}, lemmas.List.Sorted.{All-permutation, IsPermutation-append_comm, IsPermutation-append_left, IsPermutation-append_right}, lemmas.Map.Keys.{IsDistinct-from_apart, apart_from_distinct, IsDistinct-IsPermutation}, lemmas.Map.Steps.length-le_from_distinct_below}
use Rattle.std.specs.List.{IsDistinct, range_with_len}
use Rattle.cell_stock.specs.{Stock.{StockValue, PurseValue, IsStock, AreOut, IsOut, Takes, Gives, AreFresh, Fills, cells_of}, declared.purse.Spare.Spare}

pub IsDistinct-range : (first n : ℕ) → IsDistinct eqb (range_with_len first n)
IsDistinct-range first n = IsDistinct-from_apart eqb (range_with_len first n)
    (λ i j d less within.
    let m = length-range_with_len first n in
    let a = get_or-range_with_len first n i d (omega arith) in
    let b = get_or-range_with_len first n j d (omega arith) in
    ne_eqb (get_or (range_with_len first n) i d) (get_or (range_with_len first n) j d) (λ e. omega (arith, a, b, e)))

pub range_below : (first n : ℕ) → All (λ cell. cell < n) (range_with_len first (n - first))
range_below first n = All-from_get_or (λ cell. cell < n) (range_with_len first (n - first)) 0
    (λ i within. let m = length-range_with_len first (n - first) in let e = get_or-range_with_len first (n - first) i 0 (omega arith) in omega (arith, e))

-- numbers below n that differ are at most n
pub length-le_from_distinct : (xs : List ℕ) (n : ℕ) → IsDistinct eqb xs → All (λ cell. cell < n) xs → length xs ≤ n
length-le_from_distinct xs n distinct below = length-le_from_distinct_below xs n distinct
    (λ q e.
    let w = Any-from_list_any (eqb q) xs e in
    let b = below w.0 w.1 w.2 in
    let is = w.3 in
    let same = eqb-true q w.1 w.4 in
    omega (arith, b, is, same))

eqb-flips : (x y : ℕ) → eqb x y ≡ eqb y x
eqb-flips x y = same_from_decides (eqb x y) (eqb y x) (Decides-eqb x y) (Decides-like (eqb y x) sym sym (Decides-eqb y x))

-- the front and the rest of a list of numbers that differ

pub IsDistinct-left : (xs ys : List ℕ) → IsDistinct eqb (xs ++ ys) → IsDistinct eqb xs
IsDistinct-left xs ys distinct = IsDistinct-from_apart eqb xs
    (λ i j d less within.
    let e = apart_from_distinct eqb (xs ++ ys) i j d distinct less (omega (arith, length-append xs ys)) in
    rw (get_or_append_left xs ys d i (omega arith), get_or_append_left xs ys d j within) at e)

pub IsDistinct-right : (xs ys : List ℕ) → IsDistinct eqb (xs ++ ys) → IsDistinct eqb ys
IsDistinct-right xs ys distinct = IsDistinct-left ys xs (IsDistinct-IsPermutation eqb eqb-flips (xs ++ ys) (ys ++ xs) (IsPermutation-append_comm xs ys) distinct)

-- no number stands in both
pub IsDistinct-apart : (xs ys : List ℕ) → IsDistinct eqb (xs ++ ys) → All (λ y. ¬ Contains xs y) ys
IsDistinct-apart xs ys distinct = λ j d within in_xs.
    let e = apart_from_distinct eqb (xs ++ ys) in_xs.0 (length xs + j) d distinct (omega (arith, in_xs.1)) (omega (arith, length-append xs ys)) in
    let f = rw (get_or_append_left xs ys d in_xs.0 in_xs.1, get_or-append-add xs ys j d) at e in
    let same = get_or_default xs in_xs.0 d (get_or ys j d) in_xs.1 in
    eqb-false (get_or xs in_xs.0 d) (get_or ys j d) f (same ∙ in_xs.2)

pub IsStock-over : (first n : ℕ) → IsStock (record { cells = n; free = range_with_len first (n - first); stamps = 0; ids = 0 })
IsStock-over first n = record {
  known = range_below first n;
  once = IsDistinct-range first (n - first);
  stamps = lit< tt;
  ids = lit< tt;
}

-- the stock after the cells behind the first ones were taken
pub IsStock-taken : (s : StockValue) (kept n : ℕ) → IsStock s → s.stamps + n < 2 ^ 63 → IsStock (record s { free = take kept s.free; stamps = s.stamps + n })
IsStock-taken s kept n v fits = record {
  known = All-take (λ cell. cell < s.cells) kept s.free v.known;
  once = IsDistinct-left (take kept s.free) (drop kept s.free) (subst (IsDistinct eqb) (sym (take-append-drop kept s.free)) v.once);
  stamps = fits;
  ids = v.ids;
}

-- there is room for them
pub room_for_given : (s : StockValue) (spares : List Spare) → IsStock s → AreOut s spares → length s.free + length spares ≤ s.cells
room_for_given s spares v out =
    let all = length-le_from_distinct (s.free ++ cells_of spares) s.cells out.once (All-append (λ cell. cell < s.cells) s.free (cells_of spares) v.known out.known) in
    omega (arith, all, length-append s.free (cells_of spares), length-map spares (λ (s : Spare). s.cell))

-- and for one cell
pub room_for_one : (s : StockValue) (cell : ℕ) → IsStock s → IsOut s cell → length s.free + 1 ≤ s.cells
room_for_one s cell v out = room_for_given s (record { cell = cell; stamp = 0 } ∷ []) v (record { known = All-cons (λ c. c < s.cells) cell [] out.known (All-nil (λ c. c < s.cells)); once = out.once })

range_more : (a n : ℕ) → range_with_len a (n + 1) ≡ range_with_len a n ++ (a + n) ∷ []
range_more a n =
    sym (map-id (range_with_len a (n + 1))) ∙ map-range_with_len_more (λ x. x) a n (a + n) refl
    ∙ ap (λ l. l ++ (a + n) ∷ []) (map-id (range_with_len a n))

-- one spare more
pub Fills-push : (cells : List ℕ) (stamp i cell : ℕ) (before now : List Spare) → Fills cells stamp before now → length cells ≡ i → Fills (cells ++ cell ∷ []) stamp before (now ++ record { cell = cell; stamp = stamp + i } ∷ [])
Fills-push cells stamp i cell before now f count =
    let spare : Spare = record { cell = cell; stamp = stamp + i } in
    record {
      spares = f.spares ++ spare ∷ [];
      filled = ap (λ xs. xs ++ spare ∷ []) f.filled ∙ append_assoc before f.spares (spare ∷ []);
      cells_are = map_push (λ (s : Spare). s.cell) f.spares spare ∙ ap (λ xs. xs ++ cell ∷ []) f.cells_are;
      stamps_are = map_push (λ (s : Spare). s.stamp) f.spares spare ∙ ap (λ xs. xs ++ (stamp + i) ∷ []) f.stamps_are
          ∙ ap (λ n. range_with_len stamp (length cells) ++ (stamp + n) ∷ []) (sym count)
          ∙ sym (range_more stamp (length cells)) ∙ ap (range_with_len stamp) (sym (length_push cells cell));
    }

-- the laws

All-append_right : (P : ℕ → Type 0) (xs ys : List ℕ) → All P (xs ++ ys) → All P ys
All-append_right P xs ys all = λ k d within.
    subst P (get_or-append-add xs ys k d) (all (length xs + k) d (let n = length-append xs ys in omega (arith, n)))

range_within : (a n : ℕ) → All (λ i. (a ≤ i) × (i < a + n)) (range_with_len a n)
range_within a n = All-from_get_or (λ i. (a ≤ i) × (i < a + n)) (range_with_len a n) 0
    (λ i within.
    let m = length-range_with_len a n in
    let e = get_or-range_with_len a n i 0 (omega arith) in
    (omega (arith, e), omega (arith, e)))

cells_of-append : (xs ys : List Spare) → cells_of (xs ++ ys) ≡ cells_of xs ++ cells_of ys
cells_of-append xs ys = map-append (λ (s : Spare). s.cell) xs ys

pub Takes-AreFresh : (n : ℕ) (before now : StockValue) (purse purse_now : PurseValue) → IsStock before → (t : Takes n before now purse purse_now) → AreFresh before now t.spares
Takes-AreFresh n before now purse purse_now v t =
    let cells = cells_of t.spares in
    let once : IsDistinct eqb (now.free ++ cells) = subst (IsDistinct eqb) t.cells v.once in
    let gone = IsDistinct-apart now.free cells once in
    let stamps = subst (λ m. All (λ stamp. (before.stamps ≤ stamp) × (stamp < m)) (range_with_len before.stamps n)) (sym t.next) (range_within before.stamps n) in
    record {
      cells = λ k d within. (
        subst (λ xs. Contains xs (get_or cells k d)) (sym t.cells) (Contains-append_right now.free cells (get_or cells k d) (All-contains_itself cells k d within)),
        gone k d within,
      );
      apart = IsDistinct-right now.free cells once;
      stamps = subst (All (λ stamp. (before.stamps ≤ stamp) × (stamp < now.stamps))) (sym t.stamps) stamps;
    }

-- the first of three lists goes behind the second
moved : (xs ys zs : List ℕ) → IsPermutation (xs ++ (ys ++ zs)) ((ys ++ xs) ++ zs)
moved xs ys zs = subst (λ l. IsPermutation l ((ys ++ xs) ++ zs)) (append_assoc xs ys zs)
    (IsPermutation-append_left zs (xs ++ ys) (ys ++ xs) (IsPermutation-append_comm xs ys))

pub none-AreOut : (s : StockValue) → IsStock s → AreOut s []
none-AreOut s v = record {
  known = All-nil (λ cell. cell < s.cells);
  once = rw append-nil v.once;
}

pub Takes-AreOut : (n : ℕ) (before now : StockValue) (purse purse_now : PurseValue) (others : List Spare) → IsStock before → AreOut before (purse.spares ++ others) → Takes n before now purse purse_now → AreOut now (purse_now.spares ++ others)
Takes-AreOut n before now purse purse_now others v out t =
    let had = cells_of purse.spares in
    let new = cells_of t.spares in
    let rest = cells_of others in
    let free = now.free in
    let below : ℕ → Type 0 = λ cell. cell < before.cells in
    let known : All below (had ++ rest) = subst (All below) (cells_of-append purse.spares others) out.known in
    let known_new : All below new = All-append_right below free new (subst (All below) t.cells v.known) in
    let all : All below ((had ++ new) ++ rest) = All-permutation below (new ++ (had ++ rest)) ((had ++ new) ++ rest) (moved new had rest)
    (All-append below new (had ++ rest) known_new known) in
    let once : IsDistinct eqb ((free ++ new) ++ (had ++ rest)) = rw (t.cells, cells_of-append purse.spares others) at out.once in
    let once_now = IsDistinct-IsPermutation eqb eqb-flips (free ++ (new ++ (had ++ rest))) (free ++ ((had ++ new) ++ rest))
    (IsPermutation-append_right free (new ++ (had ++ rest)) ((had ++ new) ++ rest) (moved new had rest))
    (subst (IsDistinct eqb) (append_assoc free new (had ++ rest)) once) in
    let e : cells_of (purse_now.spares ++ others) ≡ (had ++ new) ++ rest = cells_of-append purse_now.spares others ∙ ap (λ xs. xs ++ rest) (ap cells_of t.filled ∙ cells_of-append purse.spares t.spares) in
    record {
      known = rw (e, t.all) all;
      once = rw e once_now;
    }

pub Gives-AreOut : (before now : StockValue) (purse purse_now : PurseValue) (others : List Spare) → AreOut before (purse.spares ++ others) → Gives before now purse purse_now → AreOut now others
Gives-AreOut before now purse purse_now others out g =
    let cells = cells_of purse.spares in
    let rest = cells_of others in
    let below : ℕ → Type 0 = λ cell. cell < before.cells in
    let e = cells_of-append purse.spares others in
    record {
      known = rw g.all (All-append_right below cells rest (subst (All below) e out.known));
      once = rw (g.cells, append_assoc) (subst (λ xs. IsDistinct eqb (before.free ++ xs)) e out.once);
    }
