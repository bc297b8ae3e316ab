-- The rows of the shards that stand: each that has passed a gate is in one of them, once; so they are no more than the events.
use Rattle.std.proofs.{Common.{◌≡◌, ℕ, ◌+◌, ◌<◌, ◌≤◌, List, [], ◌∷◌, ◌++◌, Bool, true, false, cond, eqb, length, map, Option, Some, None, refl, sym, ap, ◌∙◌, subst, arith, inl, inr, ◌==◌, eqb-true}, lemmas.Bool.{or_cases, eqb-false}, lemmas.List.{length-map, map-append}}
use Rattle.std.specs.{List.{AllZip, list_any}, Prelude.{flat_map, option_and_then}}
use Rattle.dim_hierarchy.specs.declared.row.Row.{Row}
use Rattle.describing_set.specs.declared.listing.Spot.{Spot}
use Rattle.row_ledger.specs.{Laws.AscendFrom, Listings.places_of, Past.{Insert, insert_in}, Right.{EachEvent, Stands}, Shards.{Place, frontier, is_live, is_of}, declared.event.Event.Event}
use Rattle.row_ledger.proofs.{Ascent.frontier-ascends, Fresh.event_at-within}
use Rattle.list_words.specs.Counts.{same, times}
use Rattle.list_words.proofs.{Times.{times-append, same_is, same_not}, Truth.on_bool}
use Rattle.volap_cell.specs.tree_shape.specs.Shape.{numbers}
use Rattle.volap_cell.specs.{Ghost.Ghost, Invariant.InvWith, Setting.{Setting, site_in}, Sights.{HasAll, HasRows}, View.{View, view}, World.World}
use Rattle.volap_cell.proofs.Counting.{length-few}

-- Places in the order of their ids.

abbrev ids_of : List Place → List ℕ
ids_of places = map (λ (p : Place). p.shard) places

standing-some : (x : ℕ) (places : List Place) → list_any (is_of x) places ≡ true → 1 ≤ times x (ids_of places)
standing-some x [] live = absurd (let never : false ≡ true = live in cc)
standing-some x (p ∷ places) live = elim (or_cases (p.shard == x) (list_any (is_of x) places) live) [
  | inl here ↦ let one = same_is x p.shard (sym (eqb-true p.shard x here)) in omega (arith, one)
  | inr later ↦ let rest = standing-some x places later in omega (arith, rest)
]

above-none : (x from : ℕ) (places : List Place) → AscendFrom from places → x < from → times x (ids_of places) ≡ 0
above-none x from [] ascend less = refl
above-none x from (p ∷ places) ascend less =
    let first : from ≤ p.shard = ascend.0 in
    let none = same_not x p.shard (λ is. absurd (omega (arith, first, less, is))) in
    let rest = above-none x (p.shard + 1) places ascend.1 (omega (arith, first, less)) in
    omega (arith, none, rest)

ascend-few : (x from : ℕ) (places : List Place) → AscendFrom from places → times x (ids_of places) ≤ 1
ascend-few x from [] ascend = omega arith
ascend-few x from (p ∷ places) ascend = on_bool (eqb x p.shard)
    (λ q. let is = eqb-true x p.shard q in let one = same_is x p.shard is in let none = above-none x (p.shard + 1) places ascend.1 (omega (arith, is)) in omega (arith, one, none))
    (λ q. let none = same_not x p.shard (eqb-false x p.shard q) in let rest = ascend-few x (p.shard + 1) places ascend.1 in omega (arith, none, rest))

ids-same : (spots : List Spot) → ids_of (places_of spots) ≡ map (λ (spot : Spot). spot.shard) spots
ids-same [] = refl
ids-same (spot ∷ spots) = let rest = ids-same spots in λ k. spot.shard ∷ rest k

module _ (s : Setting) (w : World) (g : Ghost) (i : InvWith s (view s w) g) where
  abbrev v : View
  v = view s w

  abbrev h : List Event
  h = v.history

  each : EachEvent (Stands (site_in s) g.placed) h
  each = i.telling.right.right.each

  -- a gate that has rows is that of a shard that stands
  pub its-gate : (x : ℕ) (tree queue : List Row) (has : HasRows s v x tree queue) → (is_live s.workers h x ≡ true) × (g.gate x ≡ has.gate)
  its-gate x tree queue has = i.lineage.live has.gate x has.is_gate has.stands

  pub count-rows : (x : ℕ) (tree queue : List Row) → HasRows s v x tree queue → (n : ℕ) → times n (numbers (tree ++ queue)) ≡ cond (g.placed n) (same (g.home n) x) 0
  count-rows x tree queue has n =
      let its = its-gate x tree queue has in
      let both : times n (numbers (tree ++ queue)) ≡ times n (numbers tree) + times n (numbers queue) = ap (times n) (map-append (λ (y : Row). y.no) tree queue) ∙ times-append n (numbers tree) (numbers queue) in
      let in_tree : times n (numbers tree) ≡ cond ((g.shape has.gate).placed n) 1 0 = has.tree_is (g.shape has.gate) (i.growing.tree has.gate (rw has.is_gate refl, inl has.stands)) n in
      let in_queue : times n (numbers (v.queues has.gate).rows) ≡ times n (numbers queue) = ap (λ (ys : List Row). times n (numbers ys)) has.queue_is in
      let one = subst (λ (c : ℕ). cond ((g.shape c).placed n) 1 0 + times n (numbers (v.queues c).rows) ≡ cond (g.placed n) (same (g.home n) x) 0) its.1 (i.placing.one x n its.0) in
      omega (arith, both, in_tree, in_queue, one)

  pub count-parts : (spots : List Spot) (parts : List (List Row)) → AllZip (HasAll s v) spots parts → (n : ℕ) → times n (numbers (flat_map (λ rows. rows) parts)) ≡ cond (g.placed n) (times (g.home n) (map (λ (spot : Spot). spot.shard) spots)) 0
  count-parts [] [] all n = on_bool (g.placed n) (λ q. rw q refl) (λ q. rw q refl)
  count-parts [] (part ∷ parts) all n = absurd all
  count-parts (spot ∷ spots) [] all n = absurd all
  count-parts (spot ∷ spots) (part ∷ parts) all n =
      let (tree, queue, has, is) = all.0 in
      let here : times n (numbers part) ≡ cond (g.placed n) (same (g.home n) spot.shard) 0 = ap (λ (ys : List Row). times n (numbers ys)) is ∙ count-rows spot.shard tree queue has n in
      let rest = count-parts spots parts all.1 n in
      let both : times n (numbers (part ++ flat_map (λ rows. rows) parts)) ≡ times n (numbers part) + times n (numbers (flat_map (λ rows. rows) parts)) =
      ap (times n) (map-append (λ (y : Row). y.no) part (flat_map (λ rows. rows) parts)) ∙ times-append n (numbers part) (numbers (flat_map (λ rows. rows) parts)) in
      added (g.placed n) (same (g.home n) spot.shard) (times (g.home n) (map (λ (y : Spot). y.shard) spots)) _ _ _ both here rest
    where
      added : (b : Bool) (x y sum one more : ℕ) → sum ≡ one + more → one ≡ cond b x 0 → more ≡ cond b y 0 → sum ≡ cond b (x + y) 0
      added true x y sum one more a c d = omega (arith, a, c, d)
      added false x y sum one more a c d = omega (arith, a, c, d)

  -- the home of a row stands, once
  pub home-once : (n : ℕ) → g.placed n ≡ true → times (g.home n) (map (λ (spot : Spot). spot.shard) v.registry.frontier) ≡ 1
  home-once n p =
      let ids : ids_of (frontier s.workers h) ≡ map (λ (spot : Spot). spot.shard) v.registry.frontier = ap ids_of (sym i.lineage.front) ∙ ids-same v.registry.frontier in
      let counted : times (g.home n) (ids_of (frontier s.workers h)) ≡ times (g.home n) (map (λ (spot : Spot). spot.shard) v.registry.frontier) = ap (times (g.home n)) ids in
      let some = standing-some (g.home n) (frontier s.workers h) (i.placing.stands n p) in
      let few = ascend-few (g.home n) 0 (frontier s.workers h) (frontier-ascends (site_in s) g.placed h each) in
      omega (arith, counted, some, few)

  -- of all shards, each row that has passed a gate is there once
  count-all : (parts : List (List Row)) → AllZip (HasAll s v) v.registry.frontier parts → (n : ℕ) → times n (numbers (flat_map (λ rows. rows) parts)) ≡ cond (g.placed n) 1 0
  count-all parts all n = on_bool (g.placed n)
      (λ q. let counted = count-parts v.registry.frontier parts all n in let once = home-once n q in rw q (counted ∙ (rw q once)))
      (λ q. let counted = count-parts v.registry.frontier parts all n in rw q (counted ∙ (rw q refl)))

  one-or-none : (b : Bool) → cond b 1 0 ≤ 1
  one-or-none true = omega arith
  one-or-none false = omega arith

  -- so the rows are no more than the events
  pub few-rows : (parts : List (List Row)) → AllZip (HasAll s v) v.registry.frontier parts → length (flat_map (λ rows. rows) parts) ≤ length h
  few-rows parts all =
      let rows : List Row = flat_map (λ rows. rows) parts in
      let few = length-few (numbers rows) (length h)
      (λ n. let counted = count-all parts all n in let one = one-or-none (g.placed n) in omega (arith, counted, one))
      (λ n some. on_bool (g.placed n)
      (λ q. let (insert, at) = i.placing.begun n q in event_at-within h n (λ none. let never : ◌≡◌ {A = Option Insert} None (Some insert) = sym (ap (option_and_then insert_in) none) ∙ at in absurd (cc)))
      (λ q. let none : ◌≡◌ {A = ℕ} (cond (g.placed n) 1 0) 0 = rw q refl in let counted = count-all parts all n in absurd (omega (arith, some, none, counted)))) in
      let same_length = length-map rows (λ (r : Row). r.no) in
      omega (arith, few, same_length)
