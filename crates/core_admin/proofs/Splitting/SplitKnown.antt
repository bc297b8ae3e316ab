-- A shard is split: its rows go to its children, which come from it, and the registry has a box for each child that covers its rows.
use Rattle.std.proofs.{Common.{◌≡◌, ℕ, List, ◌∷◌, Bool, true, false, refl, sym, ap, ◌∙◌, subst, inl, inr, ◌==◌, ◌||◌, cond, eqb, eqb-true, eq-eqb, ◌<◌, arith, ◌≢◌, zero, suc, [], ◌++◌, not, Contains, All, Any}, lemmas.Bool.{or_cases, or_right, eqb-false, ne_eqb}, lemmas.List.Elements.{All-append, All-cons, All-contains, All-head, All-nil, All-tail}}
use Rattle.std.specs.Prelude.{if◌then◌else◌}
use Rattle.row_ledger.specs.{Bounds.may, Listings.IsBox, Right.{EachEvent, IsRightSplit, Stands}, Shards.{comes_from, frontier, ids_made, is_live}, declared.event.Event.Event, declared.event.Event.TheVariants.Split}
use Rattle.row_ledger.proofs.{Changes.split-changes, Descent.{comes_from-older, live-made}}
use Rattle.list_words.proofs.{Elements.Contains-map, Truth.on_bool}
use Rattle.core_tree.specs.volap_cell.specs.{Ghost.Ghost, Growing.IsUnder, Imaging.Fits, Invariant.InvWith, Setting.{Setting, site_in}, View.{View, view}, World.World}
use Rattle.core_admin.proofs.{ShardLines.{KeepsLines, KeepsBoxes}, Splitting.SplitShards.{live-before, worker-found, without-first, without-next}}
use Rattle.dim_hierarchy.specs.{Row.IsCoordOf, declared.row.Row.Row}
use Rattle.dc_node.specs.Summary.{coords}
use Rattle.describing_set.specs.{DescSet.{IsSetOf, covers}, declared.listing.Spot.Spot, declared.set.DescSet.DescSet}
use Rattle.describing_set.proofs.Covering.{covers-Covers, IsSetOf-Covers}
use Rattle.server_image.specs.{Registry.RegistryValue, Spots.without}

-- the shard of a row afterwards: one of the children, where it was in the shard that is split
abbrev pub split_home : ℕ → ℕ → ℕ → (ℕ → Bool) → (ℕ → ℕ) → ℕ → ℕ
split_home shard l r side home q = cond (eqb (home q) shard) (cond (side q) l r) (home q)

-- Lists.

any-later : {X : Type 0} (P : X → Type 0) (x : X) (xs : List X) → Any P xs → Any P (x ∷ xs)
any-later P x xs (k, y, within, here, is) = (suc k, y, omega (arith, within), here, is)

any-first : {X : Type 0} (P : X → Type 0) (x : X) (xs : List X) → P x → Any P (x ∷ xs)
any-first P x xs is = (0, x, omega arith, refl, is)

any-before : {X : Type 0} (P : X → Type 0) (xs ys : List X) → Any P xs → Any P (xs ++ ys)
any-before P [] ys (k, y, within, here, is) = absurd (omega (arith, within))
any-before P (x ∷ xs) ys (zero, y, within, here, is) = (0, y, omega arith, here, is)
any-before P (x ∷ xs) ys (suc k, y, within, here, is) = any-later P x (xs ++ ys) (any-before P xs ys (k, y, omega (arith, within), here, is))

any-behind : {X : Type 0} (P : X → Type 0) (xs ys : List X) → Any P ys → Any P (xs ++ ys)
any-behind P [] ys has = has
any-behind P (x ∷ xs) ys has = any-later P x (xs ++ ys) (any-behind P xs ys has)

-- a spot of another shard stays
any-without : (P : Spot → Type 0) (id : ℕ) → ((x : Spot) → P x → x.shard ≢ id) → (xs : List Spot) → Any P xs → Any P (without id xs)
any-without P id off [] (k, y, within, here, is) = absurd (omega (arith, within))
any-without P id off (x ∷ xs) (zero, y, within, here, is) =
    let its : P x = subst P (sym here) is in
    on_bool (x.shard == id)
    (λ q. absurd (off x its (eqb-true x.shard id q)))
    (λ q. subst (Any P) (sym (without-next id x xs q)) (any-first P x (without id xs) its))
any-without P id off (x ∷ xs) (suc k, y, within, here, is) =
    let more : Any P xs = (k, y, omega (arith, within), here, is) in
    let rest = any-without P id off xs more in
    on_bool (x.shard == id)
    (λ q. subst (Any P) (sym (without-first id x xs q)) more)
    (λ q. subst (Any P) (sym (without-next id x xs q)) (any-later P x (without id xs) rest))

all-without : (P : Spot → Type 0) (id : ℕ) (xs : List Spot) → All P xs → All P (without id xs)
all-without P id [] all = all
all-without P id (x ∷ xs) all = (let more = All-tail P x xs all in let rest = all-without P id xs more in on_bool (x.shard == id)
    (λ q. subst (All P) (sym (without-first id x xs q)) more)
    (λ q. subst (All P) (sym (without-next id x xs q)) (All-cons P x (without id xs) (All-head P x xs all) rest)))

-- The box of a child is the set of its rows.
pub record IsChildBox (s : Setting) (v : View) (g : Ghost) (shard : ℕ) (its : ℕ → Bool) (box : DescSet) : Type 0 where
  pub rows : List Row
  pub valid : All (IsCoordOf s.hierarchy) (coords rows)
  pub usable : All (Contains (may g.placed v.history)) rows
  pub set_of : IsSetOf s.hierarchy (coords rows) box
  pub has : (q : ℕ) → g.placed q ≡ true → g.home q ≡ shard → its q ≡ true → Contains rows (v.row q)

-- it covers them
child-covers : {s : Setting} {v : View} {g : Ghost} {shard : ℕ} {its : ℕ → Bool} {box : DescSet} → IsChildBox s v g shard its box → (q : ℕ) → g.placed q ≡ true → g.home q ≡ shard → its q ≡ true → covers s.hierarchy box (v.row q).at ≡ true
child-covers {s} {v} {g} {shard} {its} {box} k q placed home is =
    let there : Contains (coords k.rows) (v.row q).at = Contains-map (λ (x : Row). x.at) k.rows (v.row q) (k.has q placed home is) in
    (covers-Covers s.hierarchy box (v.row q).at k.set_of.count (All-contains (IsCoordOf s.hierarchy) (coords k.rows) (v.row q).at k.valid there)).1 (IsSetOf-Covers s.hierarchy (coords k.rows) box (v.row q).at k.set_of there)

module _ (s : Setting) (w : World) (g : Ghost) (i : InvWith s (view s w) g) (of shard l r : ℕ) (side : ℕ → Bool) (right : IsRightSplit (site_in s) (view s w).history of shard l r) where
  abbrev v : View
  v = view s w

  abbrev h : List Event
  h = v.history

  abbrev e : Event
  e = Split of shard l r

  abbrev pub home2 : ℕ → ℕ
  home2 = split_home shard l r side g.home

  each : EachEvent (Stands (site_in s) g.placed) h
  each = i.telling.right.right.each

  -- to a shard that was made before

  pub comes : (x y : ℕ) → y < ids_made s.workers h → comes_from (e ∷ h) x y ≡ comes_from h x y
  comes x y lt = comes_from-older (site_in s) g.placed h e x y right lt

  -- to a child

  pub from-child : (x : ℕ) (b : Bool) → comes_from h x shard ≡ true → comes_from (e ∷ h) x (cond b l r) ≡ true
  from-child x true is = rw (eq-eqb l l refl) (or_right (l == x) (comes_from h x shard) is)
  from-child x false is = on_bool (r == l)
      (λ q. rw q (or_right (r == x) (comes_from h x shard) is))
      (λ q. rw (q, eq-eqb r r refl) (or_right (r == x) (comes_from h x shard) is))

  pub back-child : (x : ℕ) (b : Bool) → x < ids_made s.workers h → comes_from (e ∷ h) x (cond b l r) ≡ true → comes_from h x shard ≡ true
  back-child x true lt is =
      let next = right.next in
      elim (or_cases (l == x) (comes_from h x shard) (by (l == l) (eq-eqb l l refl) is)) [
        | inl same ↦ (let k = eqb-true l x same in absurd (omega (arith, k, lt, next)))
        | inr from ↦ from
      ]
    where
      by : (b : Bool) → b ≡ true → ((l == x) || comes_from h x (if b || (l == r) then shard else l)) ≡ true → ((l == x) || comes_from h x shard) ≡ true
      by true k is = is
      by false k is = cc
  back-child x false lt is =
      let after = right.after in
      elim (or_cases (r == x) (comes_from h x shard) (by (r == l) (r == r) (eq-eqb r r refl) is)) [
        | inl same ↦ (let k = eqb-true r x same in absurd (omega (arith, k, lt, after)))
        | inr from ↦ from
      ]
    where
      by : (a b : Bool) → b ≡ true → ((r == x) || comes_from h x (if a || b then shard else r)) ≡ true → ((r == x) || comes_from h x shard) ≡ true
      by true b k is = is
      by false true k is = is
      by false false k is = cc

  -- Rows of shards.

  home-made : (q : ℕ) → g.placed q ≡ true → g.home q < ids_made s.workers h
  home-made q placed = live-made (site_in s) g.placed h (g.home q) each (i.placing.stands q placed)

  pub under-split : (x q : ℕ) → IsUnder h g.placed g.home x q → IsUnder (e ∷ h) g.placed home2 x q
  under-split x q u = record {
    is_placed = u.is_placed;
    comes = on_bool (eqb (g.home q) shard)
        (λ k. rw k (from-child x (side q) (ap (comes_from h x) (sym (eqb-true (g.home q) shard k)) ∙ u.comes)))
        (λ k. rw k (comes x (g.home q) (home-made q u.is_placed) ∙ u.comes));
  }

  pub under-back : (x q : ℕ) → x < ids_made s.workers h → IsUnder (e ∷ h) g.placed home2 x q → IsUnder h g.placed g.home x q
  under-back x q lt u = record {
    is_placed = u.is_placed;
    comes = on_bool (eqb (g.home q) shard)
        (λ k. ap (comes_from h x) (eqb-true (g.home q) shard k) ∙ back-child x (side q) lt (subst (λ (z : Bool). comes_from (e ∷ h) x (cond z (cond (side q) l r) (g.home q)) ≡ true) k u.comes))
        (λ k. sym (comes x (g.home q) (home-made q u.is_placed)) ∙ subst (λ (z : Bool). comes_from (e ∷ h) x (cond z (cond (side q) l r) (g.home q)) ≡ true) k u.comes);
  }

  -- a child that stands comes from its shard
  split-from : (x : ℕ) → is_live s.workers (e ∷ h) x ≡ true → (y : ℕ) × (is_live s.workers h y ≡ true) × ((z : ℕ) → comes_from h z y ≡ true → comes_from (e ∷ h) z x ≡ true)
  split-from x is =
      let on = worker-found shard (frontier s.workers h) right.done.live in
      elim (live-before (site_in s) g.placed h each of shard l r on.0 right on.2 x is) [
        | inl old ↦ (x, old.0, λ z c. comes z x (live-made (site_in s) g.placed h x each old.0) ∙ c)
        | inr new ↦ (
          shard,
          right.done.live,
          λ z c. elim new [
            | inl is_left ↦ subst (λ (y : ℕ). comes_from (e ∷ h) z y ≡ true) (sym is_left) (from-child z true c)
            | inr is_right ↦ subst (λ (y : ℕ). comes_from (e ∷ h) z y ≡ true) (sym is_right) (from-child z false c)
          ],
        )
      ]

  pub split-lines : KeepsLines s v g home2 e
  split-lines =
      let k = split-changes s.hierarchy s.workers of shard l r h in
      record { no_insert = refl; no_query = refl; acks = k.acks; pulls = k.pulls; knowledge = k.knowledge; comes = comes; under = under-split; under_was = under-back; from = split-from }

  -- Where its rows are.

  pub home-in : (q : ℕ) → g.home q ≡ shard → home2 q ≡ cond (side q) l r
  home-in q is = (let k : eqb (g.home q) shard ≡ true = ap (λ (x : ℕ). eqb x shard) is ∙ eq-eqb shard shard refl in ap (λ (b : Bool). cond b (cond (side q) l r) (g.home q)) k)

  pub home-off : (q : ℕ) → g.home q ≢ shard → home2 q ≡ g.home q
  home-off q ne = ap (λ (b : Bool). cond b (cond (side q) l r) (g.home q)) (ne_eqb (g.home q) shard ne)

  -- Boxes.

  module _ (worker : ℕ) (left_box right_box : DescSet) (left : IsChildBox s v g shard side left_box) (right_child : IsChildBox s v g shard (λ q. not (side q)) right_box) (registry : RegistryValue)
      (front : registry.frontier ≡ without shard v.registry.frontier ++ record { shard = l; worker = worker; set = left_box } ∷ record { shard = r; worker = worker; set = right_box } ∷ []) where
    abbrev left_spot : Spot
    left_spot = record { shard = l; worker = worker; set = left_box }

    abbrev right_spot : Spot
    right_spot = record { shard = r; worker = worker; set = right_box }

    abbrev children : List Spot
    children = left_spot ∷ right_spot ∷ []

    abbrev IsFit : ℕ → ℕ → Spot → Type 0
    IsFit q home z = (z.shard ≡ home) × (covers s.hierarchy z.set (v.row q).at ≡ true)

    fits-child : (q : ℕ) → g.placed q ≡ true → g.home q ≡ shard → Fits s.hierarchy v.row home2 registry.frontier q
    fits-child q placed home =
        let F : Spot → Type 0 = IsFit q (cond (side q) l r) in
        let among : Any F children = on_bool (side q)
        (λ b. any-first F left_spot (right_spot ∷ []) (sym (ap (λ (x : Bool). cond x l r) b), child-covers left q placed home b))
        (λ b. any-later F left_spot (right_spot ∷ []) (any-first F right_spot [] (sym (ap (λ (x : Bool). cond x l r) b), child-covers right_child q placed home (ap not b)))) in
        subst (λ (x : ℕ). Any (IsFit q x) registry.frontier) (sym (home-in q home)) (subst (Any F) (sym front) (any-behind F (without shard v.registry.frontier) children among))

    fits-on : (q : ℕ) → g.placed q ≡ true → Fits s.hierarchy v.row g.home v.registry.frontier q → Fits s.hierarchy v.row home2 registry.frontier q
    fits-on q placed f = on_bool (eqb (g.home q) shard)
        (λ k. fits-child q placed (eqb-true (g.home q) shard k))
        (λ k.
        let ne = eqb-false (g.home q) shard k in
        subst (λ (x : ℕ). Any (IsFit q x) registry.frontier) (sym (home-off q ne)) (subst (Any (IsFit q (g.home q))) (sym front)
        (any-before (IsFit q (g.home q)) (without shard v.registry.frontier) children (any-without (IsFit q (g.home q)) shard (λ x both same. ne (sym both.0 ∙ same)) v.registry.frontier f))))

    pub split-boxes : KeepsBoxes s v g home2 registry
    split-boxes =
        let P : Spot → Type 0 = λ z. IsBox s.hierarchy (may g.placed v.history) z.set in record {
          boxes = subst (All P) (sym front) (All-append P (without shard v.registry.frontier) children (all-without P shard v.registry.frontier i.covering.boxes)
              (All-cons P left_spot (right_spot ∷ []) (record { rows = left.rows; usable = left.usable; set_of = left.set_of }) (All-cons P right_spot [] (record { rows = right_child.rows; usable = right_child.usable; set_of = right_child.set_of }) (All-nil P))));
          fits = fits-on;
          came = λ q p off. on_bool (eqb (g.home q) shard)
              (λ z. fits-child q p (eqb-true (g.home q) shard z))
              (λ z. fits-on q p (i.covering.came q p (λ is. off (home-off q (eqb-false (g.home q) shard z) ∙ is))));
        }
