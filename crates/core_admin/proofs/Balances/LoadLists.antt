-- Lists of loads of which one is read; and how many shards can stand.
use Rattle.std.proofs.{Common.{if◌then◌else◌, ◌≡◌, ℕ, zero, suc, ◌+◌, ◌*◌, ◌≤◌, List, [], ◌∷◌, Bool, true, false, not, filter, length, map, set, slice_get, Option, Some, None, Contains, refl, sym, ap, ◌∙◌, subst, arith, ◌==◌, ◌&&◌, ◌||◌, All, suc-mul, eq-eqb}, lemmas.Bool.{or_left, or_right}, lemmas.List.{length-append, length-map}, lemmas.List.Elements.{All-contains_itself, All-head, All-tail, All-weaker}, lemmas.List.FromFn.length-map-range_with_len, lemmas.List.Sums.sum_by-cons}
use Rattle.std.specs.List.{list_any}
use Rattle.row_ledger.specs.{Shards.{Place, children, frontier, is_of, place, places_after, worker_of}, declared.event.Event.Event, declared.event.Event.TheVariants.{Split, Moved}}
use Rattle.list_words.proofs.{Elements.Contains-nil, Truth.on_bool}
use Rattle.shard_plan.specs.declared.action.Load.{Load}
use Rattle.core_tree.specs.volap_cell.specs.{Planning.worker_among, Working.places_in}
use Rattle.balancer.specs.Turn.{rows_of_all}

-- An element is replaced by one that f doesn't tell from it.

pub set-alike : {A B : Type 0} (f : A → B) (i : ℕ) (xs : List A) (x y : A) → slice_get xs i ≡ Some x → f y ≡ f x → map f (set xs i y) ≡ map f xs
set-alike {A} f i [] x y is same = (let never : ◌≡◌ {A = Option A} None (Some x) = is in absurd (cc))
set-alike {A} f zero (z ∷ xs) x y is same = (let both : ◌≡◌ {A = Option A} (Some z) (Some x) = is in let here : z ≡ x = cc in λ k. (same ∙ ap f (sym here)) k ∷ map f xs)
set-alike f (suc i) (z ∷ xs) x y is same = ap (λ (ys : List _). f z ∷ ys) (set-alike f i xs x y is same)

-- Rows of loads.

pub rows-most : (loads : List Load) (m : ℕ) → All (λ (l : Load). l.rows ≤ m) loads → rows_of_all loads ≤ length loads * m
rows-most [] m all = omega arith
rows-most (l ∷ loads) m all =
    let sum = sum_by-cons (λ (x : Load). x.rows) l loads in
    let here = All-head (λ (x : Load). x.rows ≤ m) l loads all in
    let rest = rows-most loads m (All-tail (λ (x : Load). x.rows ≤ m) l loads all) in
    let product = suc-mul (length loads) m in
    omega (arith, sum, here, rest, product)

-- Shards that stand.

-- a split takes the place of its shard where it gives two
split-few : (shard left right : ℕ) (places : List Place) → length (filter (λ (p : Place). not (is_of shard p)) places) + length (children left right (worker_of places shard)) ≤ length places + 1
split-few shard left right [] = omega arith
split-few shard left right (p ∷ places) = (let rest = split-few shard left right places in on_bool (is_of shard p)
    (λ q. rw q (let few = kept places in omega (arith, few)))
    (λ q. rw q (omega (arith, rest))))
  where
    kept : (ps : List Place) → length (filter (λ (p : Place). not (is_of shard p)) ps) ≤ length ps
    kept [] = omega arith
    kept (x ∷ ps) = (let few = kept ps in on_bool (is_of shard x) (λ q. rw q (omega (arith, few))) (λ q. rw q (omega (arith, few))))

one-more : (places : List Place) (e : Event) → length (places_after places e) ≤ length places + 1
one-more places (Split of shard left right) =
    let few = split-few shard left right places in
    let both = length-append (filter (λ (p : Place). not (is_of shard p)) places) (children left right (worker_of places shard)) in
    omega (arith, few, both)
one-more places (Moved of shard worker) = (let same = length-map places (λ (p : Place). if is_of shard p then place shard worker else p) in omega (arith, same))
one-more places _ = omega arith

pub few-places : (workers : ℕ) (h : List Event) → length (frontier workers h) ≤ workers + length h
few-places workers [] = (let all = length-map-range_with_len (λ w. place w w) 0 workers in omega (arith, all))
few-places workers (e ∷ past) = (let before = few-places workers past in let now = one-more (frontier workers past) e in omega (arith, before, now))

-- Where loads stand.

-- a shard with a load stands where the loads have it
pub stands-there : (loads : List Load) (x : ℕ) → list_any (λ (l : Load). l.shard == x) loads ≡ true → list_any (λ (p : Place). is_of x p && (p.worker == worker_among loads x)) (places_in loads) ≡ true
stands-there [] x has = (let never : false ≡ true = has in absurd (cc))
stands-there (l ∷ loads) x has = on_bool (l.shard == x)
    (λ q. let here : worker_among (l ∷ loads) x ≡ l.worker = rw q refl in
    or_left ((l.shard == x) && (l.worker == worker_among (l ∷ loads) x)) _ ((λ k. q k && (l.worker == here k)) ∙ eq-eqb l.worker l.worker refl))
    (λ q. let more : list_any (λ (z : Load). z.shard == x) loads ≡ true = sym (ap (λ (b : Bool). b || list_any (λ (z : Load). z.shard == x) loads) q) ∙ has in
    let later : worker_among (l ∷ loads) x ≡ worker_among loads x = rw q refl in
    rw q (subst (λ (w : ℕ). list_any (λ (p : Place). is_of x p && (p.worker == w)) (places_in loads) ≡ true) (sym later) (stands-there loads x more)))

among : (xs : List ℕ) (x : ℕ) → Contains xs x → list_any (λ y. y == x) xs ≡ true
among [] x has = absurd (Contains-nil x has)
among (y ∷ xs) x (zero, within, is) = or_left (y == x) _ (eq-eqb y x is)
among (y ∷ xs) x (suc k, within, is) = or_right (y == x) _ (among xs x (k, omega arith, is))

-- each of a list is in it
pub each-among : (xs : List ℕ) → All (λ x. list_any (λ y. y == x) xs ≡ true) xs
each-among xs = All-weaker (Contains xs) (λ x. list_any (λ y. y == x) xs ≡ true) (λ x has. among xs x has) xs (All-contains_itself xs)
