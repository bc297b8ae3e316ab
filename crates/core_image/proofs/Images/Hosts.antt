-- What the registry tells of the shards that stand is what the history tells of them.
use Rattle.std.proofs.{Common.{◌≡◌, ℕ, List, [], ◌∷◌, Bool, true, false, Option, Some, None, is_some, refl, sym, ap, ◌∙◌, ◌==◌, ◌&&◌, ◌||◌, Any, length-append, ◌≤◌, ◌*◌, ◌+◌, length, filter, not, map, arith, suc}, lemmas.Bool.{eq-eqb, false≢true, or_right}, lemmas.List.length-map, lemmas.List.Folds.Any-from_list_any, lemmas.List.FromFn.length-map-range_with_len}
use Rattle.std.specs.{List.list_any, Prelude.{if◌then◌else◌}}
use Rattle.describing_set.specs.declared.listing.Spot.{Spot}
use Rattle.row_ledger.specs.{Listings.places_of, Shards.{Place, frontier, is_live, is_of, place, children, places_after, worker_of}, Workers.is_on, declared.event.Event.Event, declared.event.Event.TheVariants.{Split, Moved}}
use Rattle.server_image.specs.{Registry.{RegistryValue, host_of, on_frontier}, Spots.{has_spot, worker_in}}
use Rattle.list_words.proofs.Truth.{on_bool}
use Rattle.shard_plan.specs.declared.action.Load.{Load}
use Rattle.volap_cell.specs.{ImageKinds.{job_called, unread_load}, Values.{JobValue, IsCalled}, Working.places_in}

pub has-place : (x : ℕ) (spots : List Spot) → has_spot x spots ≡ list_any (is_of x) (places_of spots)
has-place x [] = refl
has-place x (spot ∷ spots) = ap (λ (b : Bool). (spot.shard == x) || b) (has-place x spots)

-- a shard stands where the registry has it
pub stands-live : (workers : ℕ) (h : List Event) (r : RegistryValue) → places_of r.frontier ≡ frontier workers h → (x : ℕ) → on_frontier x r ≡ is_live workers h x
stands-live workers h r front x = has-place x r.frontier ∙ ap (list_any (is_of x)) front

-- and there it has a worker

worker-of : (x : ℕ) (spots : List Spot) → has_spot x spots ≡ true → (w : ℕ) × (worker_in x spots ≡ Some w) × (list_any (λ (p : Place). is_of x p && (p.worker == w)) (places_of spots) ≡ true)
worker-of x [] none = absurd (false≢true none)
worker-of x (spot ∷ spots) has = on_bool (spot.shard == x)
    (λ q. (spot.worker, rw q refl, rw q (rw (eq-eqb spot.worker spot.worker refl) refl)))
    (λ q.
    let rest : has_spot x spots ≡ true = ap (λ (b : Bool). b || has_spot x spots) (sym q) ∙ has in
    let (w, is, on) = worker-of x spots rest in
    (w, ap (λ (b : Bool). if b then Some spot.worker else worker_in x spots) q ∙ is, or_right ((spot.shard == x) && (spot.worker == w)) _ on))

pub host-on : (workers : ℕ) (h : List Event) (r : RegistryValue) → places_of r.frontier ≡ frontier workers h → (x : ℕ) → on_frontier x r ≡ true → (w : ℕ) × (host_of x r ≡ Some w) × (is_on workers h x w ≡ true)
host-on workers h r front x has =
    let (w, is, on) = worker-of x r.frontier has in
    (w, rw is refl, ap (λ (places : List Place). list_any (λ (p : Place). is_of x p && (p.worker == w)) places) (sym front) ∙ on)

-- The job of a split or a move as it begins: there is one where the shard, and the worker, are known.

pub job-known : (r : RegistryValue) (x : ℕ) (to : Option ℕ) (known : Bool) → (known ≡ true → (w : ℕ) × (host_of x r ≡ Some w)) → is_some (job_called r x to known) ≡ known
job-known r x to true has = (let h = has refl in rw (h.1) refl)
job-known r x to false has = refl

pub job-new : (r : RegistryValue) (x : ℕ) (to : Option ℕ) (known : Bool) → (w : ℕ) → host_of x r ≡ Some w → (j : JobValue) → job_called r x to known ≡ Some j → (known ≡ true) × (j ≡ record { shard = x; worker = w; to = to; stage = IsCalled })
job-new r x to true w host j is =
    let here : job_called r x to true ≡ Some (record { shard = x; worker = w; to = to; stage = IsCalled }) = rw host refl in
    let same : ◌≡◌ {A = Option JobValue} (Some (record { shard = x; worker = w; to = to; stage = IsCalled })) (Some j) = sym here ∙ is in
    (refl, cc)
job-new r x to false w host j is = (let never : ◌≡◌ {A = Option JobValue} None (Some j) = is in absurd (cc))

-- The loads of a balance as it begins.

pub places-unread : (spots : List Spot) → places_in (map unread_load spots) ≡ places_of spots
places-unread [] = refl
places-unread (spot ∷ spots) = ap (λ (places : List Place). place spot.shard spot.worker ∷ places) (places-unread spots)

any-unread : (x : ℕ) (spots : List Spot) → list_any (λ (l : Load). l.shard == x) (map unread_load spots) ≡ has_spot x spots
any-unread x [] = refl
any-unread x (spot ∷ spots) = ap (λ (b : Bool). (spot.shard == x) || b) (any-unread x spots)

-- a shard that stands has a load
pub has-load : (x : ℕ) (r : RegistryValue) → on_frontier x r ≡ true → Any (λ (l : Load). (l.shard == x) ≡ true) (map unread_load r.frontier)
has-load x r has = Any-from_list_any (λ (l : Load). l.shard == x) (map unread_load r.frontier) (any-unread x r.frontier ∙ has)

-- How many shards stand: no more than twice as many as there are events, and those of the opening.

filter-few : (test : Place → Bool) (places : List Place) → length (filter test places) ≤ length places
filter-few test [] = omega arith
filter-few test (p ∷ places) = on_bool (test p)
    (λ q. let more = filter-few test places in let at : length (filter test (p ∷ places)) ≡ suc (length (filter test places)) = rw q refl in omega (arith, more, at))
    (λ q. let more = filter-few test places in let at : length (filter test (p ∷ places)) ≡ length (filter test places) = rw q refl in omega (arith, more, at))

children-two : (left right : ℕ) (worker : Option ℕ) → length (children left right worker) ≤ 2
children-two left right None = omega arith
children-two left right (Some worker) = omega arith

after-few : (places : List Place) (e : Event) → length (places_after places e) ≤ length places + 2
after-few places (Split of shard left right) =
    let kept = filter-few (λ (p : Place). not (is_of shard p)) places in
    let new = children-two left right (worker_of places shard) in
    let both = length-append (filter (λ (p : Place). not (is_of shard p)) places) (children left right (worker_of places shard)) in
    omega (arith, kept, new, both)
after-few places (Moved of shard worker) = (let same = length-map places (λ (p : Place). if is_of shard p then place shard worker else p) in omega (arith, same))
after-few places _ = omega arith

pub few-stand : (workers : ℕ) (h : List Event) → length (frontier workers h) ≤ workers + 2 * length h
few-stand workers [] = (let all = length-map-range_with_len (λ w. place w w) 0 workers in omega (arith, all))
few-stand workers (e ∷ past) = (let before = few-stand workers past in let now = after-few (frontier workers past) e in omega (arith, before, now))
