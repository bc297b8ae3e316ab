-- An opening meets the parts of the invariant that speak of shards, tables and images.
use Rattle.std.proofs.{Common.{◌≡◌, ◌≢◌, ◌∙◌, ℕ, zero, suc, ◌+◌, ◌<◌, ◌≤◌, ◌⊎◌, inl, inr, Bool, true, List, [], ◌∷◌, map, refl, sym, ap, subst, arith}, lemmas.Bool.{eqb-true, false≢true, or_cases, or_right}, lemmas.List.Elements.{All-cons, All-nil, All-weaker}, lemmas.List.Folds.Any-from_list_any}
use Rattle.std.specs.{List.{AllZip, list_any, range_with_len}, Prelude.{Some, IsSome, IsTrue, is_some, All, Any, Contains, ◌==◌, ◌&&◌}}
use Rattle.dim_hierarchy.specs.{Dimension.Dimension, declared.row.Row.Row}
use Rattle.describing_set.specs.{DescSet.IsSetOf, declared.listing.Spot.Spot, declared.plane.Plane.Plane}
use Rattle.cell_stock.specs.Stock.{StockValue}
use Rattle.mapping_table.specs.declared.place.Where.TheVariants as where_is
use Rattle.query_router.specs.{Desk.is_open, declared.part.Part.Part}
use Rattle.row_ledger.specs.{Bounds.{known, listing_of, may, published}, Listings.{IsBox, places_of}, Past.{Ack, acked, last_of}, Shards.{Place, place, comes_from, first_places, frontier, ids_made, is_live, is_of}, Workers.is_on}
use Rattle.server_image.specs.Registry.{RegistryValue, IsFirstSpot}
use Rattle.shard_build.specs.shard_store.specs.declared.gate.Phase.TheVariants.{Gone}
use Rattle.volap_cell.specs.{Ghost.Ghost, Imaging.{Covering, Fits, HasGrown, Imaging, IsCovered, IsGrowth, IsImageOf}, Lineage.{Leading, Lineage}, Numbering.IsSetting, Opening.IsOpening, Setting.{Setting, site_in}, View.View, World.World}
use Rattle.volap_cell.proofs.{FirstState.Past.{first-is, first-on, first-there, opening-acked, opening-comes, opening-comes_self, opening-frontier, opening-ids, opening-known, opening-published, opening-was}, FirstState.Shapes.{ghost, is-gate}, FirstState.View.{v, gate-shard, growths-none, lists, not-gone, opens, own-map, parts-none, registry-is, spots-are, stock-is, table-is}}

-- Spots.

-- the first shards of a registry, as places
pub first-spots : (h : List Dimension) (from n : ℕ) (spots : List Spot) → AllZip (IsFirstSpot h) (range_with_len from n) spots → places_of spots ≡ map (λ w. place w w) (range_with_len from n)
first-spots h from zero [] all = refl
first-spots h from zero (x ∷ spots) all = absurd all
first-spots h from (suc n) [] all = absurd all
first-spots h from (suc n) (x ∷ spots) all =
    let first = all.0 in
    let rest = first-spots h (from + 1) n spots all.1 in
    let shard = first.shard in let worker = first.worker in
    cc

pub first-boxes : (h : List Dimension) (from n : ℕ) (spots : List Spot) → AllZip (IsFirstSpot h) (range_with_len from n) spots → All (λ (x : Spot). IsSetOf h [] x.set) spots
first-boxes h from zero [] all = All-nil (λ (x : Spot). IsSetOf h [] x.set)
first-boxes h from zero (x ∷ spots) all = absurd all
first-boxes h from (suc n) [] all = absurd all
first-boxes h from (suc n) (x ∷ spots) all = All-cons (λ (x : Spot). IsSetOf h [] x.set) x spots all.0.box (first-boxes h (from + 1) n spots all.1)

-- a spot of a worker's first shard
record IsFirst (n : ℕ) (x : Spot) : Type 0 where
  pub shard : x.shard ≡ x.worker
  pub low : x.worker < n

are-first : (from n : ℕ) (spots : List Spot) → places_of spots ≡ map (λ w. place w w) (range_with_len from n) → All (IsFirst (from + n)) spots
are-first from zero [] is = All-nil (IsFirst (from + 0))
are-first from zero (x ∷ spots) is = absurd (let never : ⊥ = cc in never)
are-first from (suc n) [] is = All-nil (IsFirst (from + suc n))
are-first from (suc n) (x ∷ spots) is =
    let one : place x.shard x.worker ≡ place from from = cc in
    let rest : places_of spots ≡ map (λ w. place w w) (range_with_len (from + 1) n) = cc in
    let shard : x.shard ≡ from = ap (λ (p : Place). p.shard) one in
    let worker : x.worker ≡ from = ap (λ (p : Place). p.worker) one in
    All-cons (IsFirst (from + suc n)) x spots (record { shard = shard ∙ sym worker; low = omega arith })
    (subst (λ (k : ℕ). All (IsFirst k) spots) (omega arith) (are-first (from + 1) n spots rest))

grown-same : (h : List Dimension) (spots : List Spot) → AllZip (HasGrown h) spots spots
grown-same h [] = tt
grown-same h (x ∷ spots) = ((λ at is covers. covers), grown-same h spots)

-- each shard of the places is that of a spot
spot-of : (test : Spot → Bool) (x : ℕ) (spots : List Spot) → ((spot : Spot) → (spot.shard == x) ≡ true → test spot ≡ true) → list_any (is_of x) (places_of spots) ≡ true → list_any test spots ≡ true
spot-of test x [] passes is = absurd (false≢true is)
spot-of test x (spot ∷ spots) passes is = elim (or_cases (spot.shard == x) (list_any (is_of x) (places_of spots)) is) [
  | inl here ↦ rw (passes spot here) refl
  | inr more ↦ or_right (test spot) (list_any test spots) (spot-of test x spots passes more)
]

-- a set of no rows is a box
no-box : (h : List Dimension) (rows : List Row) (x : Spot) → IsSetOf h [] x.set → IsBox h rows x.set
no-box h rows x is = record { rows = []; usable = All-nil (Contains rows); set_of = is }

pub all-none : {A : Type 0} (P : A → Type 0) (xs : List A) → xs ≡ [] → All P xs
all-none P xs none = subst (All P) (sym none) (All-nil P)

module _ (s : Setting) (w : World) (set : IsSetting s) (o : IsOpening s w) where
  abbrev vs : View
  vs = v s w set o

  abbrev g : Ghost
  g = ghost s w set o

  -- Shards.

  stands : frontier s.workers vs.history ≡ first_places s.workers
  stands = opening-frontier (site_in s) s.workers vs.history (opens s w set o)

  ids : ids_made s.workers vs.history ≡ s.workers
  ids = opening-ids (site_in s) s.workers vs.history (opens s w set o)

  on-own : (x worker : ℕ) → is_on s.workers vs.history x worker ≡ true → (x ≡ worker) × (0 ≤ x) × (x < 0 + s.workers)
  on-own x worker is = first-is 0 s.workers x worker (subst (λ (places : List Place). list_any (λ (p : Place). is_of x p && (p.worker == worker)) places ≡ true) stands is)

  own-on : (x : ℕ) → x < s.workers → is_on s.workers vs.history x x ≡ true
  own-on x low = subst (λ (places : List Place). list_any (λ (p : Place). is_of x p && (p.worker == x)) places ≡ true) (sym stands) (first-on 0 s.workers x (omega arith) (omega arith))

  pub live : (x : ℕ) → x < s.workers → is_live s.workers vs.history x ≡ true
  live x low = subst (λ (places : List Place). list_any (is_of x) places ≡ true) (sym stands) (first-there 0 s.workers x (omega arith) (omega arith))

  shard-is : (c x : ℕ) → vs.gates c ≡ Some x → (x < s.workers) × (o.gate x ≡ c)
  shard-is c x is =
      let i = is-gate s w set o c (ap is_some is) in
      let own = gate-shard s w set o i.0 i.1 in
      let there : vs.gates (o.gate i.0) ≡ Some x = ap vs.gates i.2 ∙ is in
      let same : i.0 ≡ x = cc in
      (subst (λ (k : ℕ). k < s.workers) same i.1, ap o.gate (sym same) ∙ i.2)

  gate-of : (x worker : ℕ) → is_on s.workers vs.history x worker ≡ true
      → (vs.maps worker x ≡ Some (where_is.Gate (o.gate x))) × (vs.gates (o.gate x) ≡ Some x) × (vs.phases (o.gate x) ≢ Some Gone)
  gate-of x worker is =
      let own = on-own x worker is in
      let same : x ≡ worker = own.0 in
      let low : x < s.workers = (let l = own.2 in omega arith) in
      (ap (λ (k : ℕ). vs.maps k x) (sym same) ∙ own-map s w set o x low, gate-shard s w set o x low, not-gone s w set o (o.gate x))

  leads : (worker x c : ℕ) → vs.maps worker x ≡ Some (where_is.Gate c) → (is_on s.workers vs.history x worker ≡ true) × (o.gate x ≡ c)
  leads worker x c is = elim (table-is s w set o worker x).is [
    | inl none ↦ absurd (let never : ⊥ = cc in never)
    | inr found ↦
        let same : x ≡ worker = found.1 in
        let there = found.2 in
        let to : o.gate worker ≡ c = cc in
        (subst (λ (k : ℕ). is_on s.workers vs.history k worker ≡ true) (sym same) (own-on worker found.0), ap o.gate same ∙ to)
  ]

  -- every place is that of a gate
  no-split : {P : Type 0} (worker x l r : ℕ) (plane : Plane) → vs.maps worker x ≡ Some (where_is.Split plane l r) → P
  no-split worker x l r plane is = elim (table-is s w set o worker x).is [
    | inl none ↦ absurd (let never : ⊥ = cc in never)
    | inr found ↦ (let there = found.2 in absurd (let never : ⊥ = cc in never))
  ]

  no-moved : {P : Type 0} (worker x to : ℕ) → vs.maps worker x ≡ Some (where_is.Moved to) → P
  no-moved worker x to is = elim (table-is s w set o worker x).is [
    | inl none ↦ absurd (let never : ⊥ = cc in never)
    | inr found ↦ (let there = found.2 in absurd (let never : ⊥ = cc in never))
  ]

  lineage-own : Lineage s vs.history o.stock o.registry vs.maps vs.gates vs.phases g.gate
  lineage-own = record {
    ids = o.ids ∙ sym ids;
    front = first-spots s.hierarchy 0 s.workers o.registry.frontier o.is_new.first ∙ sym stands;
    gate_of = gate-of;
    known = λ x worker was. subst IsSome (sym (gate-of x worker (opening-was (site_in s) s.workers x worker vs.history (opens s w set o) was)).0) refl;
    live = λ c x is not_gone. (live x (shard-is c x is).0, (shard-is c x is).1);
    leads = leads;
    split = λ worker x l r plane is. no-split worker x l r plane is;
    divided = λ worker x l r plane is. no-split worker x l r plane is;
    moved = λ worker x to is. no-moved worker x to is;
    later = λ worker x to u p q is then left_one left_two. no-moved worker x to is;
    made = λ c x is. subst (λ (k : ℕ). x < k) (sym ids) (shard-is c x is).0;
  }

  pub lineage : Lineage s vs.history vs.stock vs.registry vs.maps vs.gates vs.phases g.gate
  lineage = subst (λ (x : StockValue). Lineage s vs.history x vs.registry vs.maps vs.gates vs.phases g.gate) (sym (stock-is s w set o))
      (subst (λ (x : RegistryValue). Lineage s vs.history o.stock x vs.maps vs.gates vs.phases g.gate) (sym (registry-is s w set o)) lineage-own)

  -- Images.

  spots-first : (server : ℕ) → server < s.servers → All (IsFirst s.workers) (vs.images server).spots
  spots-first server low =
      let places : places_of (vs.images server).spots ≡ first_places s.workers = ap places_of (spots-are s w set o server low) ∙ (lists s w set o server low).places in
      subst (λ (k : ℕ). All (IsFirst k) (vs.images server).spots) (omega arith) (are-first 0 s.workers (vs.images server).spots places)

  leads-spot : (x : Spot) → IsFirst s.workers x → (x.worker < s.workers) × IsSome (vs.maps x.worker x.shard)
  leads-spot x first = (first.low, ap (λ (k : ℕ). is_some (vs.maps x.worker k)) first.shard ∙ ap is_some (own-map s w set o x.worker first.low))

  pub leading : Leading s vs.maps vs.images vs.desks
  leading = record {
    spots = λ server low. All-weaker (IsFirst s.workers) (λ (x : Spot). (x.worker < s.workers) × IsSome (vs.maps x.worker x.shard)) leads-spot (vs.images server).spots (spots-first server low);
    parts = λ server low. all-none (λ (p : Part). is_open p ≡ true → (p.worker < s.workers) × IsSome (vs.maps p.worker p.shard)) (vs.desks server).parts (parts-none s w set o server low);
  }

  -- each shard that stands is listed
  listed : (server x : ℕ) → server < s.servers → is_live s.workers vs.history x ≡ true → Any (λ (spot : Spot). IsTrue (comes_from vs.history spot.shard x)) (vs.images server).spots
  listed server x low is =
      let places : places_of (vs.images server).spots ≡ frontier s.workers vs.history = ap places_of (spots-are s w set o server low) ∙ (lists s w set o server low).places ∙ sym stands in
      Any-from_list_any (λ (spot : Spot). comes_from vs.history spot.shard x) (vs.images server).spots
      (spot-of (λ (spot : Spot). comes_from vs.history spot.shard x) x (vs.images server).spots
      (λ spot same. subst (λ (k : ℕ). comes_from vs.history k x ≡ true) (sym (eqb-true spot.shard x same)) (opening-comes_self (site_in s) vs.history (opens s w set o) x))
      (subst (λ (places : List Place). list_any (is_of x) places ≡ true) (sym places) is))

  image-of : (server : ℕ) → server < s.servers → IsImageOf s vs.history vs.row g.placed server (vs.images server)
  image-of server low =
      let spots = spots-are s w set o server low in
      record {
        places = ap places_of spots;
        grown = subst (AllZip (HasGrown s.hierarchy) (listing_of vs.history server)) (sym spots) (grown-same s.hierarchy (listing_of vs.history server));
        apart = λ x y some other comes. sym (opening-comes (site_in s) vs.history (opens s w set o) x y comes);
        whole = λ x is. listed server x low is;
        boxes = subst (All (λ (spot : Spot). IsBox s.hierarchy (may g.placed vs.history) spot.set)) (sym spots)
            (All-weaker (λ (spot : Spot). IsSetOf s.hierarchy [] spot.set) (λ (spot : Spot). IsBox s.hierarchy (may g.placed vs.history) spot.set) (no-box s.hierarchy (may g.placed vs.history)) (listing_of vs.history server) (lists s w set o server low).boxes);
        growths = all-none (IsGrowth s vs.history vs.row g.placed) (vs.images server).growths (growths-none s w set o server low);
      }

  pub imaging : Imaging s vs.history vs.row vs.images g.placed
  imaging = record { image = image-of }

  covering-own : Covering s vs.history vs.row o.registry vs.images g.placed g.home g.path
  covering-own = record {
    boxes = All-weaker (λ (spot : Spot). IsSetOf s.hierarchy [] spot.set) (λ (spot : Spot). IsBox s.hierarchy (may g.placed vs.history) spot.set) (no-box s.hierarchy (may g.placed vs.history)) o.registry.frontier
        (first-boxes s.hierarchy 0 s.workers o.registry.frontier o.is_new.first);
    came = λ r placed other. absurd (false≢true placed);
    pushed = all-none (λ (k : Ack). Fits s.hierarchy vs.row g.home o.registry.frontier k.row.no) (published vs.history) (opening-published (site_in s) vs.history (opens s w set o));
    noted = all-none (λ (k : Ack). Fits s.hierarchy vs.row g.home o.registry.frontier k.row.no ⊎ Contains (vs.images k.server).growths (record { shard = last_of k.path; at = k.row.at })) (acked vs.history)
        (opening-acked (site_in s) vs.history (opens s w set o));
    must = λ server low. all-none (λ (k : Ack). IsCovered s.hierarchy vs.history vs.row g.home (vs.images server).spots k.row.no) (known s.hierarchy vs.history server) (opening-known (site_in s) vs.history (opens s w set o) s.hierarchy server);
    unacked = λ r i placed is not. absurd (false≢true placed);
  }

  pub covering : Covering s vs.history vs.row vs.registry vs.images g.placed g.home g.path
  covering = subst (λ (x : RegistryValue). Covering s vs.history vs.row x vs.images g.placed g.home g.path) (sym (registry-is s w set o)) covering-own
