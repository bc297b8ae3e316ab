-- A row passes its gate: no shard had it, and now one that stands has it, to which it came by its part's path. What that leaves of each
-- part of the invariant, wherever in its shard the row is: `telling-placed`, `resting-placed`, `placing-placed`, `inserting-placed`,
-- `imaging-placed` and `covering-placed`; of queries and jobs in PlacesRead.
use Rattle.std.proofs.{Common.{◌≡◌, ◌≢◌, ℕ, ◌+◌, ◌<◌, Bool, true, false, cond, eqb, IsTrue, List, [], ◌∷◌, Option, Some, All, Any, Contains, refl, sym, ap, ◌∙◌, subst, ◌⊎◌, inl, inr, arith}, lemmas.Bool.{eqb-true, eqb-false, ne_eqb}, lemmas.List.Elements.{All-weaker, All-contains}}
use Rattle.describing_set.specs.{DescSet.covers, declared.listing.Spot.Spot}
use Rattle.dim_hierarchy.specs.declared.row.Row.{Row}
use Rattle.query_router.specs.{Desk.DeskValue, declared.part.Part.Part, declared.part.PartState.PartState}
use Rattle.query_router.specs.declared.part.PartState.TheVariants as state
use Rattle.row_ledger.specs.{Bounds.{known, may, published}, Listings.IsBox, Past.{Ack, Insert, acked, insert_at, is_kept, last_of}, Shards.{comes_from, is_live}, declared.event.Event.Event}
use Rattle.row_ledger.proofs.{Descent.comes_from-self, Fresh.is_kept-open, Growth.KeepsRight-place, Within.{Within, IsBox-within}}
use Rattle.server_image.specs.{Image.ImageValue, Registry.RegistryValue}
use Rattle.volap_cell.specs.shard_store.specs.{declared.gate.Phase.Phase, declared.queue.Queue.Queue}
use Rattle.list_words.specs.Counts.{same, times}
use Rattle.list_words.proofs.Truth.{on_bool, eqb-self}
use Rattle.volap_cell.specs.tree_shape.specs.Shape.{Shape, numbers}
use Rattle.volap_cell.specs.{Errands.{RowWay, RowPlace, has_passed}, Growing.{IsUnder, Resting}, Imaging.{Covering, Fits, Imaging, IsCovered, IsGrowth}, Placing.{Inserting, IsLead, IsOnWay, IsRouted, IsRowPart, NobodyAt, Placing}, Setting.{Setting, site_in}, Telling.Telling, Values.JobValue, declared.command.Command.Command, declared.role.Role.Role}
use Rattle.volap_cell.proofs.OneEvent.Known.{All-inside, AreOlder, known-acked, published-acked}

-- One more.

-- a function that is as another one but at one number
abbrev pub with_one : {A : Type 0} → (ℕ → A) → ℕ → A → ℕ → A
with_one f r x q = cond (eqb q r) x (f q)

pub at-one : {A : Type 0} (f : ℕ → A) (r : ℕ) (x : A) → with_one f r x r ≡ x
at-one f r x = rw (eqb-self r) refl

pub off-one : {A : Type 0} (f : ℕ → A) (r : ℕ) (x : A) (q : ℕ) → q ≢ r → with_one f r x q ≡ f q
off-one f r x q ne = rw (ne_eqb q r ne) refl

-- an actor's row goes on to a place past its gate
pub record Passes (ways ways_now : ℕ → Option RowWay) (n : ℕ) (way : RowWay) (place : RowPlace) : Type 0 where
  pub was : ways n ≡ Some way
  pub is : ways_now n ≡ Some (record way { place = place; filled = false })
  pub off : (a : ℕ) → a ≢ n → ways_now a ≡ ways a
  pub passed : has_passed place ≡ true

-- how often the tree and the queue of a gate have a row
abbrev pub times_at : Shape → Queue → ℕ → ℕ
times_at shape queue q = cond (shape.placed q) 1 0 + times q (numbers queue.rows)

-- each shard that stands has the rows that it had, and one of them has a further one
abbrev pub HaveOneMore : Setting → List Event → (ℕ → ℕ) → (shape shape_now : ℕ → Shape) → (queues queues_now : ℕ → Queue) → (r x : ℕ) → Type 0
HaveOneMore s h gate shape shape_now queues queues_now r x =
    (y q : ℕ) → is_live s.workers h y ≡ true → times_at (shape_now (gate y)) (queues_now (gate y)) q ≡ times_at (shape (gate y)) (queues (gate y)) q + cond (eqb q r) (same x y) 0

-- a path has a shard
pub path-some : (h : List Event) (images : ℕ → ImageValue) (server : ℕ) (path : List ℕ) (shard : ℕ) → IsLead h images server path shard → path ≢ []
path-some h images server [] shard lead = (let no : false ≡ true = lead.is_path in cc)
path-some h images server (x ∷ path) shard lead = λ e. cc

module _ (h : List Event) (placed : ℕ → Bool) (home : ℕ → ℕ) (path : ℕ → List ℕ) (way : RowWay) (out : placed way.row.no ≡ false) where
  abbrev r : ℕ
  r = way.row.no

  abbrev placed_now : ℕ → Bool
  placed_now = with_one placed r true

  abbrev home_now : ℕ → ℕ
  home_now = with_one home r way.shard

  abbrev path_now : ℕ → List ℕ
  path_now = with_one path r way.path

  -- Rows that passed their gates before are others, of which nothing changed.

  before-off : (q : ℕ) → placed q ≡ true → q ≢ r
  before-off q was e = (let no : true ≡ false = sym was ∙ ap placed e ∙ out in cc)

  pub still-placed : (q : ℕ) → placed q ≡ true → placed_now q ≡ true
  still-placed q was = off-one placed r true q (before-off q was) ∙ was

  same-home : (q : ℕ) → placed q ≡ true → home_now q ≡ home q
  same-home q was = off-one home r way.shard q (before-off q was)

  same-path : (q : ℕ) → placed q ≡ true → path_now q ≡ path q
  same-path q was = off-one path r way.path q (before-off q was)

  was-placed : (q : ℕ) → q ≢ r → placed_now q ≡ true → placed q ≡ true
  was-placed q ne now = sym (off-one placed r true q ne) ∙ now

  pub placed-within : Within placed placed_now
  placed-within q was = still-placed q was

  -- what is so of the row that passes its gate, and of those that did before
  by-row : (P : ℕ → ℕ → List ℕ → Type 0) → P r way.shard way.path → ((q : ℕ) → placed q ≡ true → P q (home q) (path q)) → (q : ℕ) → placed_now q ≡ true → P q (home_now q) (path_now q)
  by-row P new old q now = on_bool (eqb q r)
      (λ e. subst (λ (z : ℕ). P z (home_now z) (path_now z)) (sym (eqb-true _ _ e))
      (subst (λ (z : ℕ). P r z (path_now r)) (sym (at-one home r way.shard)) (subst (P r way.shard) (sym (at-one path r way.path)) new)))
      (λ e. let ne = eqb-false _ _ e in
      subst (λ (z : ℕ). P q z (path_now q)) (sym (off-one home r way.shard q ne)) (subst (P q (home q)) (sym (off-one path r way.path q ne)) (old q (was-placed q ne now))))

  pub under-placed : (y q : ℕ) → IsUnder h placed home y q → IsUnder h placed_now home_now y q
  under-placed y q u = record { is_placed = still-placed q u.is_placed; comes = subst (λ (z : ℕ). IsTrue (comes_from h y z)) (sym (same-home q u.is_placed)) u.comes }

  pub under-before : (y q : ℕ) → placed q ≡ true → IsUnder h placed_now home_now y q → IsUnder h placed home y q
  under-before y q was u = record { is_placed = was; comes = subst (λ (z : ℕ). IsTrue (comes_from h y z)) (same-home q was) u.comes }

  pub resting-placed : (gates : ℕ → Option ℕ) (phases : ℕ → Option Phase) (shape : ℕ → Shape) → Resting h gates phases shape placed home → Resting h gates phases shape placed_now home_now
  resting-placed gates phases shape i = record { rests = λ c y q is gone there. let t = i.rests c y q is gone there in (t.0, under-placed y q t.1) }

  -- The history. The insert is open, so it hasn't failed.

  pub telling-placed : (s : Setting) (commands : ℕ → Option Command) (jobs : ℕ → Option JobValue) (roles : ℕ → Role) (seen : ℕ → ℕ) → IsRouted commands r
      → Telling s h commands jobs roles seen placed → Telling s h commands jobs roles seen placed_now
  telling-placed s commands jobs roles seen (a, row, is) i = record {
    right = KeepsRight-place (site_in s) placed placed_now h i.right placed-within
        (λ q now. on_bool (eqb q r)
        (λ e. subst (λ (z : ℕ). is_kept h z ≡ true) (sym (eqb-true _ _ e)) (is_kept-open h r (i.is_open a _ is)))
        (λ e. i.right.kept q (was-placed q (eqb-false _ _ e) now)));
    own = i.own;
    is_open = i.is_open;
    progress = i.progress;
    last = i.last;
    within = i.within;
    rows = i.rows;
    filters = i.filters;
    status = i.status;
  }

  -- Where rows are.

  pub placing-placed : (s : Setting) (commands : ℕ → Option Command) (images : ℕ → ImageValue) (ways ways_now : ℕ → Option RowWay) (queues queues_now : ℕ → Queue) (gate : ℕ → ℕ) (shape shape_now : ℕ → Shape)
      → (insert : Insert) → insert_at h r ≡ Some insert → is_live s.workers h way.shard ≡ true → IsLead h images way.server way.path way.shard → IsRouted commands r
      → ((q : ℕ) → NobodyAt ways q → NobodyAt ways_now q) → HaveOneMore s h gate shape shape_now queues queues_now r way.shard
      → Placing s h commands ways queues gate shape placed home path → Placing s h commands ways_now queues_now gate shape_now placed_now home_now path_now
  placing-placed s commands images ways ways_now queues queues_now gate shape shape_now insert began live lead routed nobody more i = record {
    one = λ y q stands. on_bool (eqb q r)
        (λ e. subst (λ (z : ℕ). times_at (shape_now (gate y)) (queues_now (gate y)) z ≡ cond (placed_now z) (same (home_now z) y) 0) (sym (eqb-true _ _ e))
        (let now = more y r stands in
        let was : times_at (shape (gate y)) (queues (gate y)) r ≡ 0 = i.one y r stands ∙ ap (λ (b : Bool). cond b (same (home r) y) 0) out in
        let added : cond (eqb r r) (same way.shard y) 0 ≡ same way.shard y = ap (λ (b : Bool). cond b (same way.shard y) 0) (eqb-self r) in
        let there : cond (placed_now r) (same (home_now r) y) 0 ≡ same way.shard y = ap (λ (b : Bool). cond b (same (home_now r) y) 0) (at-one placed r true) ∙ ap (λ (z : ℕ). same z y) (at-one home r way.shard) in
        omega (arith, now, was, added, there)))
        (λ e. let ne = eqb-false _ _ e in
        let now = more y q stands in
        let was = i.one y q stands in
        let added : cond (eqb q r) (same way.shard y) 0 ≡ 0 = ap (λ (b : Bool). cond b (same way.shard y) 0) e in
        let is = off-one placed r true q ne in
        let at = off-one home r way.shard q ne in
        let there : cond (placed_now q) (same (home_now q) y) 0 ≡ cond (placed q) (same (home q) y) 0 = (λ k. cond (is k) (same (at k) y) 0) in
        omega (arith, now, was, added, there));
    stands = by-row (λ q z w. is_live s.workers h z ≡ true) live i.stands;
    begun = by-row (λ q z w. (x : Insert) × (insert_at h q ≡ Some x)) (insert, began) i.begun;
    line = by-row (λ q z w. (w ≢ []) × IsTrue (comes_from h (last_of w) z))
        (path-some h images way.server way.path way.shard lead, subst (λ (z : ℕ). IsTrue (comes_from h z way.shard)) (sym lead.last) (comes_from-self h way.shard)) i.line;
    acked_rows = λ k has. let o = i.acked_rows k has in (still-placed k.row.no o.0, same-path k.row.no o.0 ∙ o.1, nobody k.row.no o.2);
    others = by-row (λ q z w. ((k : Ack) × Contains (acked h) k × (k.row.no ≡ q)) ⊎ IsRouted commands q) (inr routed) i.others;
  }

  -- How far inserts are.

  module _ (ways ways_now : ℕ → Option RowWay) (n : ℕ) (place : RowPlace) (go : Passes ways ways_now n way place) (one : (a : ℕ) (w : RowWay) → ways a ≡ Some w → w.row.no ≡ r → a ≡ n) where
    -- actors have the rows that they had
    pub nobody-placed : (q : ℕ) → NobodyAt ways q → NobodyAt ways_now q
    nobody-placed q none a w is e = on_bool (eqb a n)
        (λ k. let its : ◌≡◌ {A = Option RowWay} (Some (record way { place = place; filled = false })) (Some w) = sym go.is ∙ ap ways_now (sym (eqb-true _ _ k)) ∙ is in
        let row : way.row.no ≡ w.row.no = cc in none n way go.was (row ∙ e))
        (λ k. none a w (sym (go.off a (eqb-false _ _ k)) ∙ is) e)

    -- a row that nobody is at is another one
    nobody-off : (q : ℕ) → NobodyAt ways q → q ≢ r
    nobody-off q none e = none n way go.was (sym e)

    part-placed : (images : ℕ → ImageValue) (server q : ℕ) (p : Part) (st : PartState) → IsRowPart h images ways placed path server q p st → IsRowPart h images ways_now placed_now path_now server q p st
    part-placed images server q p (state.Waiting wanted) o = (off-one placed r true q (nobody-off q o.1) ∙ o.0, nobody-placed q o.1, o.2)
    part-placed images server q p (state.Placed w) o = (still-placed q o.0, same-path q o.0 ∙ o.1, nobody-placed q o.2, o.3)
    part-placed images server q p state.NoMemory o = (off-one placed r true q (nobody-off q o.1) ∙ o.0, nobody-placed q o.1, o.2)
    part-placed images server q p state.Taken o = o
    part-placed images server q p (state.Done total) o = o

    pub inserting-placed : (s : Setting) (images : ℕ → ImageValue) (desks : ℕ → DeskValue) (commands : ℕ → Option Command)
        → Inserting s h images desks commands ways placed path → Inserting s h images desks commands ways_now placed_now path_now
    inserting-placed s images desks commands i = record {
      unrouted = λ a q row is. let o = i.unrouted a q row is in (off-one placed r true q (nobody-off q o.1) ∙ o.0, nobody-placed q o.1);
      parts = λ server q insert within op is. All-weaker (λ (p : Part). IsRowPart h images ways placed path server q p p.state) (λ (p : Part). IsRowPart h images ways_now placed_now path_now server q p p.state)
          (λ p. part-placed images server q p p.state) (desks server).parts (i.parts server q insert within op is);
      on_way = λ a w is. on_bool (eqb a n)
          (λ k. let its : ◌≡◌ {A = Option RowWay} (Some (record way { place = place; filled = false })) (Some w) = sym go.is ∙ ap ways_now (sym (eqb-true _ _ k)) ∙ is in
          let w_is : record way { place = place; filled = false } ≡ w = cc in
          let o = i.on_way n way go.was in
          subst (IsOnWay h images placed_now path_now) w_is (record { known = o.known; lead = o.lead; passed = at-one placed r true ∙ sym go.passed; came = λ e. at-one path r way.path }))
          (λ k. let ne = eqb-false _ _ k in
          let was = sym (go.off a ne) ∙ is in
          let off : w.row.no ≢ r = (λ e. ne (one a w was e)) in
          let o = i.on_way a w was in
          record { known = o.known; lead = o.lead; passed = off-one placed r true w.row.no off ∙ o.passed; came = λ e. off-one path r way.path w.row.no off ∙ o.came e });
    }

  -- What servers know.

  pub boxes-placed : (s : Setting) (spots : List Spot) → All (λ (spot : Spot). IsBox s.hierarchy (may placed h) spot.set) spots → All (λ (spot : Spot). IsBox s.hierarchy (may placed_now h) spot.set) spots
  boxes-placed s spots boxes = All-weaker (λ (spot : Spot). IsBox s.hierarchy (may placed h) spot.set) (λ (spot : Spot). IsBox s.hierarchy (may placed_now h) spot.set)
      (λ spot box. IsBox-within s.hierarchy placed placed_now placed-within h spot.set box) spots boxes

  pub imaging-placed : (s : Setting) (row : ℕ → Row) (images : ℕ → ImageValue) → Imaging s h row images placed → Imaging s h row images placed_now
  imaging-placed s row images i = record {
    image = λ server within. let o = i.image server within in record {
      places = o.places;
      grown = o.grown;
      apart = o.apart;
      whole = o.whole;
      boxes = boxes-placed s (images server).spots o.boxes;
      growths = All-weaker (IsGrowth s h row placed) (IsGrowth s h row placed_now) (λ g k. record { made = k.made; number = k.number; is_placed = still-placed k.number k.is_placed; at = k.at }) (images server).growths o.growths;
    };
  }

  fits-placed : (s : Setting) (row : ℕ → Row) (spots : List Spot) (q : ℕ) → placed q ≡ true → Fits s.hierarchy row home spots q → Fits s.hierarchy row home_now spots q
  fits-placed s row spots q was f = subst (λ (z : ℕ). Any (λ (spot : Spot). (spot.shard ≡ z) × (covers s.hierarchy spot.set (row q).at ≡ true)) spots) (sym (same-home q was)) f

  covered-placed : (s : Setting) (row : ℕ → Row) (spots : List Spot) (q : ℕ) → placed q ≡ true → IsCovered s.hierarchy h row home spots q → IsCovered s.hierarchy h row home_now spots q
  covered-placed s row spots q was f = subst (λ (z : ℕ). Any (λ (spot : Spot). IsTrue (comes_from h spot.shard z) × (covers s.hierarchy spot.set (row q).at ≡ true)) spots) (sym (same-home q was)) f

  -- the server lists a shard of the path, since it lists one from which the part's shard comes
  listed-placed : (s : Setting) (row : ℕ → Row) (images : ℕ → ImageValue) → way.server < s.servers → is_live s.workers h way.shard ≡ true → IsLead h images way.server way.path way.shard → Imaging s h row images placed
      → Any (λ (spot : Spot). Contains way.path spot.shard) (images way.server).spots
  listed-placed s row images within live lead i =
      let any = (i.image way.server within).whole way.shard live in
      let on = All-contains (λ (spot : Spot). IsTrue (comes_from h spot.shard way.shard) → Contains way.path spot.shard) (images way.server).spots any.1 lead.listed (any.0, any.2, any.3) in
      (any.0, any.1, any.2, any.3, on any.4)

  pub covering-placed : (s : Setting) (row : ℕ → Row) (registry : RegistryValue) (images : ℕ → ImageValue) → AreOlder h placed
      → (insert : Insert) → insert_at h r ≡ Some insert → insert.server ≡ way.server → way.server < s.servers → is_live s.workers h way.shard ≡ true → IsLead h images way.server way.path way.shard
      → Imaging s h row images placed → Covering s h row registry images placed home path → Covering s h row registry images placed_now home_now path_now
  covering-placed s row registry images older insert began server within live lead known_there i = record {
    boxes = boxes-placed s registry.frontier i.boxes;
    came = by-row (λ q z w. z ≢ last_of w → Any (λ (spot : Spot). (spot.shard ≡ z) × (covers s.hierarchy spot.set (row q).at ≡ true)) registry.frontier)
        (λ off. absurd (off (sym lead.last))) i.came;
    pushed = All-inside (λ (k : Ack). Fits s.hierarchy row home registry.frontier k.row.no) (λ (k : Ack). Fits s.hierarchy row home_now registry.frontier k.row.no) (published h)
        (λ k has. fits-placed s row registry.frontier k.row.no (older.acked_rows k (published-acked h k has))) i.pushed;
    noted = All-inside (λ (k : Ack). Fits s.hierarchy row home registry.frontier k.row.no ⊎ Contains (images k.server).growths (record { shard = last_of k.path; at = k.row.at }))
        (λ (k : Ack). Fits s.hierarchy row home_now registry.frontier k.row.no ⊎ Contains (images k.server).growths (record { shard = last_of k.path; at = k.row.at })) (acked h)
        (λ k has o. elim o [ inl f ↦ inl (fits-placed s row registry.frontier k.row.no (older.acked_rows k has) f) | inr g ↦ inr g ]) i.noted;
    must = λ x lt. All-inside (λ (k : Ack). IsCovered s.hierarchy h row home (images x).spots k.row.no) (λ (k : Ack). IsCovered s.hierarchy h row home_now (images x).spots k.row.no) (known s.hierarchy h x)
        (λ k has. covered-placed s row (images x).spots k.row.no (older.acked_rows k (known-acked s.hierarchy h x k has))) (i.must x lt);
    unacked = λ q its now. by-row
        (λ q z w. insert_at h q ≡ Some its → ((k : Ack) → Contains (acked h) k → k.row.no ≢ q)
        → Any (λ (spot : Spot). Contains w spot.shard) (images its.server).spots ⊎ Any (λ (spot : Spot). IsTrue (comes_from h spot.shard z) × (covers s.hierarchy spot.set (row q).at ≡ true)) (images its.server).spots)
        (λ is none. let both : ◌≡◌ {A = Option Insert} (Some insert) (Some its) = sym began ∙ is in
        let at : way.server ≡ its.server = (let e : insert.server ≡ its.server = cc in sym server ∙ e) in
        inl (subst (λ (x : ℕ). Any (λ (spot : Spot). Contains way.path spot.shard) (images x).spots) at (listed-placed s row images within live lead known_there)))
        (λ q was is none. i.unacked q its was is none) q now;
  }
