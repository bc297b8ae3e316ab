-- Which shard comes from which: laws of right histories.
use Rattle.std.proofs.{Common.{◌≡◌, ◌≢◌, ℕ, zero, suc, ◌+◌, ◌≤◌, ◌<◌, List, [], ◌∷◌, ◌++◌, Bool, true, false, not, refl, sym, ap, subst, arith, ◌==◌, ◌∙◌, ◌||◌, ◌⊎◌, inl, inr, map}, lemmas.Bool.{eq-eqb, eqb-true, false≢true, or_cases, or_right}, lemmas.Bool.Decides.nat_tests}
use Rattle.std.specs.{List.{list_any, range_with_len}, Prelude.{Option, Some, None, Contains, filter, if◌then◌else◌}}
use Rattle.row_ledger.specs.{Right.{Site, EachEvent, Stands, IsRightSplit}, Shards.{Place, place, is_of, worker_of, children, frontier, is_live, ids_made, parent_in, comes_from}, declared.event.Event.Event, declared.event.Event.TheVariants.{Split, Moved}}
use Rattle.list_words.proofs.Elements.{Contains-nil}

-- a shard is its own line
pub comes_from-self : (past : List Event) (x : ℕ) → comes_from past x x ≡ true
comes_from-self [] x = eq-eqb x x refl
comes_from-self (e ∷ past) x = rw (eq-eqb x x refl) refl

-- Places of a list.

abbrev has : List Place → ℕ → Bool
has places x = list_any (is_of x) places

-- what is left without a shard was there, and is another one
has-without : (places : List Place) (x y : ℕ) → has (filter (λ (p : Place). not (is_of x p)) places) y ≡ true → (has places y ≡ true) × (y ≢ x)
has-without [] x y is = cc
has-without (p ∷ places) x y is = at (has-without places x y) (p.shard == x) refl is
  where
    rest : (has places y ≡ true) × (y ≢ x) → (has (p ∷ places) y ≡ true) × (y ≢ x)
    rest found = (or_right (is_of y p) (has places y) found.0, found.1)

    here : (p.shard == x) ≡ false → is_of y p ≡ true → (has (p ∷ places) y ≡ true) × (y ≢ x)
    here other same = (rw same refl, λ equal. let q : p.shard ≡ y = eqb-true p.shard y same in false≢true (sym other ∙ eq-eqb p.shard x (q ∙ equal)))

    at : (has (filter (λ (p : Place). not (is_of x p)) places) y ≡ true → (has places y ≡ true) × (y ≢ x)) → (v : Bool) → (p.shard == x) ≡ v
        → has (if not v then p ∷ filter (λ (p : Place). not (is_of x p)) places else filter (λ (p : Place). not (is_of x p)) places) y ≡ true
        → (has (p ∷ places) y ≡ true) × (y ≢ x)
    at older true same is = rest (older is)
    at older false other is = elim (or_cases (is_of y p) _ is) [ inl same ↦ here other same | inr is ↦ rest (older is) ]

has-append : (xs ys : List Place) (y : ℕ) → has (xs ++ ys) y ≡ true → (has xs y ≡ true) ⊎ (has ys y ≡ true)
has-append [] ys y is = inr is
has-append (p ∷ xs) ys y is = at (has-append xs ys y) (is_of y p) is
  where
    at : (has (xs ++ ys) y ≡ true → (has xs y ≡ true) ⊎ (has ys y ≡ true)) → (v : Bool)
        → (v || has (xs ++ ys) y) ≡ true → ((v || has xs y) ≡ true) ⊎ (has ys y ≡ true)
    at rest true is = inl refl
    at rest false is = rest is

has-children : (left right : ℕ) (worker : Option ℕ) (y : ℕ) → has (children left right worker) y ≡ true → (y ≡ left) ⊎ (y ≡ right)
has-children left right None y is = cc
has-children left right (Some worker) y is = elim (or_cases (left == y) _ is) [
  | inl same ↦ inl (sym (eqb-true left y same))
  | inr more ↦ elim (or_cases (right == y) false more) [ inl same ↦ inr (sym (eqb-true right y same)) | inr never ↦ absurd (false≢true never) ]
]

-- a move leaves the shards as they are
has-moved : (places : List Place) (x w y : ℕ) → has (map (λ (p : Place). if is_of x p then place x w else p) places) y ≡ has places y
has-moved [] x w y = refl
has-moved (p ∷ places) x w y = at (has-moved places x w y) (is_of x p) refl
  where
    at : has (map (λ (p : Place). if is_of x p then place x w else p) places) y ≡ has places y → (v : Bool) → is_of x p ≡ v
        → (is_of y (if v then place x w else p) || has (map (λ (p : Place). if is_of x p then place x w else p) places) y) ≡ (is_of y p || has places y)
    at rest true same = rw (rest, eqb-true p.shard x same) refl
    at rest false other = rw rest refl

-- Ids.

first-made : (from workers y : ℕ) → has (map (λ w. place w w) (range_with_len from workers)) y ≡ true → y < from + workers
first-made from zero y is = cc
first-made from (suc n) y is = elim (or_cases (from == y) _ is) [
  | inl same ↦ let q : from ≡ y = eqb-true from y same in omega arith
  | inr more ↦ let below : y < (from + 1) + n = first-made (from + 1) n y more in omega arith
]

-- what stands behind a split is a child of its, or stood before and is another one
pub live-split : (workers : ℕ) (past : List Event) (of shard left right y : ℕ) → is_live workers (Split of shard left right ∷ past) y ≡ true
    → ((is_live workers past y ≡ true) × (y ≢ shard)) ⊎ ((y ≡ left) ⊎ (y ≡ right))
live-split workers past of shard left right y is =
    elim (has-append (filter (λ (p : Place). not (is_of shard p)) (frontier workers past)) _ y is) [
      | inl old ↦ inl (has-without (frontier workers past) shard y old)
      | inr new ↦ inr (has-children left right (worker_of (frontier workers past) shard) y new)
    ]

-- a shard that stands has an id that was made
pub live-made : (site : Site) (usable : ℕ → Bool) (past : List Event) (y : ℕ) → EachEvent (Stands site usable) past → is_live site.workers past y ≡ true → y < ids_made site.workers past
live-made site usable [] y each is = let below : y < 0 + site.workers = first-made 0 site.workers y is in omega arith
live-made site usable (Split of shard left right ∷ past) y each is =
    let next : left ≡ ids_made site.workers past = each.0.next in
    let after : right ≡ ids_made site.workers past + 1 = each.0.after in
    elim (live-split site.workers past of shard left right y is) [
      | inl old ↦ let below : y < ids_made site.workers past = live-made site usable past y each.1 old.0 in omega arith
      | inr new ↦ elim new [ inl is_left ↦ omega arith | inr is_right ↦ omega arith ]
    ]
live-made site usable (Moved of shard worker ∷ past) y each is =
    live-made site usable past y each.1 (sym (has-moved (frontier site.workers past) shard worker y) ∙ is)
live-made site usable (_ ∷ past) y each is = live-made site usable past y each.1 is

is_false : (b : Bool) → (b ≡ true → ⊥) → b ≡ false
is_false true never = absurd (never refl)
is_false false never = refl

-- Lines.

-- an event that stands rightly makes no shard that had its id before
parent_in-older : (site : Site) (usable : ℕ → Bool) (past : List Event) (e : Event) (y : ℕ)
    → Stands site usable past e → y < ids_made site.workers past → parent_in e y ≡ y
parent_in-older site usable past (Split of shard left right) y stands made =
    let next : left ≡ ids_made site.workers past = stands.next in
    let after : right ≡ ids_made site.workers past + 1 = stands.after in
    let other : (y == left) ≡ false = grind (arith, nat_tests) in
    let another : (y == right) ≡ false = grind (arith, nat_tests) in
    rw (other, another) refl
parent_in-older site usable past _ y stands made = refl

-- the shard from which one is made, or that one itself, had its id before
pub parent_in-made : (site : Site) (usable : ℕ → Bool) (past : List Event) (e : Event) (y : ℕ)
    → EachEvent (Stands site usable) past → Stands site usable past e → y < ids_made site.workers (e ∷ past) → parent_in e y < ids_made site.workers past
parent_in-made site usable past (Split of shard left right) y each stands made =
    let next : left ≡ ids_made site.workers past = stands.next in
    let after : right ≡ ids_made site.workers past + 1 = stands.after in
    let parent : shard < ids_made site.workers past = live-made site usable past shard each stands.done.live in
    at (y == left) refl (y == right) refl next after parent made
  where
    at : (v : Bool) → (y == left) ≡ v → (w : Bool) → (y == right) ≡ w → left ≡ ids_made site.workers past → right ≡ ids_made site.workers past + 1
        → shard < ids_made site.workers past → y < ids_made site.workers (Split of shard left right ∷ past)
        → (if v || w then shard else y) < ids_made site.workers past
    at true is w is_w next after parent made = parent
    at false is true is_w next after parent made = parent
    at false is false is_w next after parent made = let below : y < ids_made site.workers past + 2 = omega arith in grind (arith, nat_tests)
parent_in-made site usable past _ y each stands made = made

-- what comes from where among shards that had their ids before stays
pub comes_from-older : (site : Site) (usable : ℕ → Bool) (past : List Event) (e : Event) (x y : ℕ)
    → Stands site usable past e → y < ids_made site.workers past → comes_from (e ∷ past) x y ≡ comes_from past x y
comes_from-older site usable past e x y stands made =
    rw (parent_in-older site usable past e y stands made) (at (y == x) refl)
  where
    at : (v : Bool) → (y == x) ≡ v → (v || comes_from past x y) ≡ comes_from past x y
    at true same = rw (eqb-true y x same) (sym (comes_from-self past x))
    at false other = refl

pub ids_made-older : (site : Site) (e : Event) (past : List Event) (x : ℕ) → x < ids_made site.workers past → x < ids_made site.workers (e ∷ past)
ids_made-older site (Split of shard left right) past x below = omega arith
ids_made-older site _ past x below = below

-- what a shard with an id comes from had an id
pub comes_from-made : (site : Site) (usable : ℕ → Bool) (past : List Event) (x y : ℕ)
    → EachEvent (Stands site usable) past → y < ids_made site.workers past → comes_from past x y ≡ true → x < ids_made site.workers past
comes_from-made site usable [] x y each made is = let same : y ≡ x = eqb-true y x is in omega arith
comes_from-made site usable (e ∷ past) x y each made is = elim (or_cases (y == x) (comes_from past x (parent_in e y)) is) [
  | inl same ↦ let q : y ≡ x = eqb-true y x same in omega arith
  | inr from ↦
      let below : x < ids_made site.workers past =
      comes_from-made site usable past x (parent_in e y) each.1 (parent_in-made site usable past e y each.1 each.0 made) from in
      ids_made-older site e past x below
]

-- a shard without an id is what no shard with one comes from
comes_from-unmade : (site : Site) (usable : ℕ → Bool) (past : List Event) (x y : ℕ)
    → EachEvent (Stands site usable) past → y < ids_made site.workers past → ids_made site.workers past ≤ x → comes_from past x y ≡ true → ⊥
comes_from-unmade site usable past x y each made unmade is =
    let below : x < ids_made site.workers past = comes_from-made site usable past x y each made is in omega arith

-- of two shards from which a third one comes, one comes from the other
pub comes_from-comparable : (site : Site) (usable : ℕ → Bool) (past : List Event) (x y z : ℕ)
    → EachEvent (Stands site usable) past → z < ids_made site.workers past → comes_from past x z ≡ true → comes_from past y z ≡ true
    → (comes_from past x y ≡ true) ⊎ (comes_from past y x ≡ true)
comes_from-comparable site usable [] x y z each made from_x from_y =
    let same_x : z ≡ x = eqb-true z x from_x in
    let same_y : z ≡ y = eqb-true z y from_y in
    inl (eq-eqb y x (sym same_y ∙ same_x))
comes_from-comparable site usable (e ∷ past) x y z each made from_x from_y =
    elim (or_cases (z == x) (comes_from past x (parent_in e z)) from_x) [
      | inl same ↦ inr (subst (λ t. comes_from (e ∷ past) y t ≡ true) (eqb-true z x same) from_y)
      | inr older_x ↦ elim (or_cases (z == y) (comes_from past y (parent_in e z)) from_y) [
        | inl same ↦ inl (subst (λ t. comes_from (e ∷ past) x t ≡ true) (eqb-true z y same) from_x)
        | inr older_y ↦
            let parent : parent_in e z < ids_made site.workers past = parent_in-made site usable past e z each.1 each.0 made in
            let made_x = comes_from-made site usable past x (parent_in e z) each.1 parent older_x in
            let made_y = comes_from-made site usable past y (parent_in e z) each.1 parent older_y in
            elim (comes_from-comparable site usable past x y (parent_in e z) each.1 parent older_x older_y) [
              | inl below ↦ inl (comes_from-older site usable past e x y each.0 made_y ∙ below)
              | inr below ↦ inr (comes_from-older site usable past e y x each.0 made_x ∙ below)
            ]
      ]
    ]

-- of the shards that stand none comes from another
pub live-apart : (site : Site) (usable : ℕ → Bool) (past : List Event) (x y : ℕ)
    → EachEvent (Stands site usable) past → is_live site.workers past x ≡ true → is_live site.workers past y ≡ true → comes_from past x y ≡ true → y ≡ x
live-apart site usable [] x y each live_x live_y is = eqb-true y x is
live-apart site usable (Split of shard left right ∷ past) x y each live_x live_y is =
    elim (or_cases (y == x) _ is) [
      | inl same ↦ eqb-true y x same
      | inr from ↦
          let next : left ≡ ids_made site.workers past = each.0.next in
          let after : right ≡ ids_made site.workers past + 1 = each.0.after in
          let parent : shard < ids_made site.workers past = live-made site usable past shard each.1 each.0.done.live in
          elim (live-split site.workers past of shard left right x live_x) [
            | inl old_x ↦ elim (live-split site.workers past of shard left right y live_y) [
              | inl old_y ↦
                  let made : y < ids_made site.workers past = live-made site usable past y each.1 old_y.0 in
                  live-apart site usable past x y each.1 old_x.0 old_y.0
                  (sym (ap (λ p. comes_from past x p) (parent_in-older site usable past (Split of shard left right) y each.0 made)) ∙ from)
              | inr new_y ↦ absurd (old_x.1 (sym (live-apart site usable past x shard each.1 old_x.0 each.0.done.live (from_parent new_y from))))
            ]
            | inr new_x ↦
                let unmade : ids_made site.workers past ≤ x = elim new_x [ inl is_left ↦ omega arith | inr is_right ↦ omega arith ] in
                absurd (comes_from-unmade site usable past x (parent_in (Split of shard left right) y) each.1
                (parent_in-made site usable past (Split of shard left right) y each.1 each.0 (live-made site usable (Split of shard left right ∷ past) y each live_y))
                unmade from)
          ]
    ]
  where
    from_parent : (y ≡ left) ⊎ (y ≡ right) → comes_from past x (parent_in (Split of shard left right) y) ≡ true → comes_from past x shard ≡ true
    from_parent (inl same) from = rw (eq-eqb y left same) at from
    from_parent (inr same) from = go (y == left) (eq-eqb y right same) from
      where
        go : (v : Bool) → (y == right) ≡ true → comes_from past x (if v || (y == right) then shard else y) ≡ true → comes_from past x shard ≡ true
        go true is from = from
        go false is from = rw is at from
live-apart site usable (Moved of shard worker ∷ past) x y each live_x live_y is =
    let was_x : is_live site.workers past x ≡ true = sym (has-moved (frontier site.workers past) shard worker x) ∙ live_x in
    let was_y : is_live site.workers past y ≡ true = sym (has-moved (frontier site.workers past) shard worker y) ∙ live_y in
    live-apart site usable past x y each.1 was_x was_y
    (sym (comes_from-older site usable past (Moved of shard worker) x y each.0 (live-made site usable past y each.1 was_y)) ∙ is)
live-apart site usable (e ∷ past) x y each live_x live_y is =
    live-apart site usable past x y each.1 live_x live_y
    (sym (comes_from-older site usable past e x y each.0 (live-made site usable past y each.1 live_y)) ∙ is)

-- of the shards that have an id none comes from one that stands, but for that one itself
pub live-last : (site : Site) (usable : ℕ → Bool) (past : List Event) (x y : ℕ)
    → EachEvent (Stands site usable) past → is_live site.workers past x ≡ true → y < ids_made site.workers past → comes_from past x y ≡ true → y ≡ x
live-last site usable [] x y each live made is = eqb-true y x is
live-last site usable (Split of shard left right ∷ past) x y each live made is =
    elim (or_cases (y == x) _ is) [
      | inl same ↦ eqb-true y x same
      | inr from ↦
          let next : left ≡ ids_made site.workers past = each.0.next in
          let after : right ≡ ids_made site.workers past + 1 = each.0.after in
          let parent = parent_in-made site usable past (Split of shard left right) y each.1 each.0 made in
          elim (live-split site.workers past of shard left right x live) [
            | inl old ↦ at ((y == left) || (y == right)) old.1 (live-last site usable past x (parent_in (Split of shard left right) y) each.1 old.0 parent from)
            | inr new ↦
                let unmade : ids_made site.workers past ≤ x = elim new [ inl is_left ↦ omega arith | inr is_right ↦ omega arith ] in
                absurd (comes_from-unmade site usable past x (parent_in (Split of shard left right) y) each.1 parent unmade from)
          ]
    ]
  where
    at : (v : Bool) → x ≢ shard → (if v then shard else y) ≡ x → y ≡ x
    at true other same = absurd (other (sym same))
    at false other same = same
live-last site usable (Moved of shard worker ∷ past) x y each live made is =
    let was : is_live site.workers past x ≡ true = sym (has-moved (frontier site.workers past) shard worker x) ∙ live in
    live-last site usable past x y each.1 was made (sym (comes_from-older site usable past (Moved of shard worker) x y each.0 made) ∙ is)
live-last site usable (e ∷ past) x y each live made is =
    live-last site usable past x y each.1 live made (sym (comes_from-older site usable past e x y each.0 made) ∙ is)

-- Split shards.

-- what stands, or the shard from which it was just made, stood before
live-parent : (site : Site) (usable : ℕ → Bool) (past : List Event) (e : Event) (y : ℕ)
    → EachEvent (Stands site usable) past → Stands site usable past e → is_live site.workers (e ∷ past) y ≡ true → is_live site.workers past (parent_in e y) ≡ true
live-parent site usable past (Split of shard left right) y each stands live =
    elim (live-split site.workers past of shard left right y live) [
      | inl old ↦ rw (parent_in-older site usable past (Split of shard left right) y stands (live-made site usable past y each old.0)) old.0
      | inr new ↦ child new
    ]
  where
    child : (y ≡ left) ⊎ (y ≡ right) → is_live site.workers past (parent_in (Split of shard left right) y) ≡ true
    child (inl same) = rw (eq-eqb y left same) stands.done.live
    child (inr same) = go (y == left) (eq-eqb y right same)
      where
        go : (v : Bool) → (y == right) ≡ true → is_live site.workers past (if v || (y == right) then shard else y) ≡ true
        go true is = stands.done.live
        go false is = rw is stands.done.live
live-parent site usable past (Moved of shard worker) y each stands live = sym (has-moved (frontier site.workers past) shard worker y) ∙ live
live-parent site usable past _ y each stands live = live

-- for a shard that had its id before, one counts as the shard from which it was just made
comes_from-parent : (site : Site) (usable : ℕ → Bool) (past : List Event) (e : Event) (x y : ℕ)
    → Stands site usable past e → x < ids_made site.workers past → comes_from (e ∷ past) x y ≡ comes_from past x (parent_in e y)
comes_from-parent site usable past e x y stands made = at (y == x) refl
  where
    at : (v : Bool) → (y == x) ≡ v → (v || comes_from past x (parent_in e y)) ≡ comes_from past x (parent_in e y)
    at true same =
        let q : y ≡ x = eqb-true y x same in
        let stays : parent_in e y ≡ y = parent_in-older site usable past e y stands (omega arith) in
        sym (ap (comes_from past x) (stays ∙ q) ∙ comes_from-self past x)
    at false other = refl

-- a split stands in a past
abbrev pub WasSplit : List Event → ℕ → ℕ → ℕ → Type 0
WasSplit past shard left right = (of : ℕ) × Contains past (Split of shard left right)

-- the shard of a split and its children have ids
pub split-made : (site : Site) (usable : ℕ → Bool) (past : List Event) (shard left right : ℕ) → EachEvent (Stands site usable) past → WasSplit past shard left right
    → (shard < ids_made site.workers past) × (left < ids_made site.workers past) × (right < ids_made site.workers past)
split-made site usable [] shard left right each was = absurd (Contains-nil _ was.1)
split-made site usable (e ∷ past) shard left right each (of, (zero, within, here)) =
    let stands : IsRightSplit site past of shard left right = subst (λ (x : Event). Stands site usable past x) here each.0 in
    let next : left ≡ ids_made site.workers past = stands.next in
    let after : right ≡ ids_made site.workers past + 1 = stands.after in
    let parent : shard < ids_made site.workers past = live-made site usable past shard each.1 stands.done.live in
    subst (λ (x : Event). (shard < ids_made site.workers (x ∷ past)) × (left < ids_made site.workers (x ∷ past)) × (right < ids_made site.workers (x ∷ past))) (sym here)
    (omega arith, omega arith, omega arith)
split-made site usable (e ∷ past) shard left right each (of, (suc k, within, here)) =
    let older = split-made site usable past shard left right each.1 (of, (k, omega arith, here)) in
    (ids_made-older site e past shard older.0, ids_made-older site e past left older.1, ids_made-older site e past right older.2)

newest_child : (site : Site) (usable : ℕ → Bool) (past : List Event) (of shard left right y : ℕ)
    → EachEvent (Stands site usable) past → IsRightSplit site past of shard left right → is_live site.workers (Split of shard left right ∷ past) y ≡ true
    → comes_from (Split of shard left right ∷ past) shard y ≡ true
    → comes_from (Split of shard left right ∷ past) left y ≡ not (comes_from (Split of shard left right ∷ past) right y)
newest_child site usable past of shard left right y each stands live is =
    let next : left ≡ ids_made site.workers past = stands.next in
    let after : right ≡ ids_made site.workers past + 1 = stands.after in
    let parent : shard < ids_made site.workers past = live-made site usable past shard each stands.done.live in
    let no_left : comes_from past left shard ≡ false = is_false _ (comes_from-unmade site usable past left shard each parent (omega arith)) in
    let no_right : comes_from past right shard ≡ false = is_false _ (comes_from-unmade site usable past right shard each parent (omega arith)) in
    let apart : (left == right) ≡ false = grind (arith, nat_tests) in
    let turned : (right == left) ≡ false = grind (arith, nat_tests) in
    elim (live-split site.workers past of shard left right y live) [
      | inl old ↦
          let same : y ≡ shard =
          live-apart site usable past shard y each stands.done.live old.0
          (sym (comes_from-older site usable past (Split of shard left right) shard y stands (live-made site usable past y each old.0)) ∙ is) in
          absurd (old.1 same)
      | inr new ↦ elim new [
        | inl is_left ↦ rw (is_left, eq-eqb left left refl, apart, no_right) refl
        | inr is_right ↦ rw (is_right, eq-eqb right right refl, turned, no_left) refl
      ]
    ]

-- a shard that stands and comes from one that was split comes from one of its children, and not from the other
pub comes_from-child : (site : Site) (usable : ℕ → Bool) (past : List Event) (shard left right y : ℕ)
    → EachEvent (Stands site usable) past → WasSplit past shard left right → is_live site.workers past y ≡ true → comes_from past shard y ≡ true
    → comes_from past left y ≡ not (comes_from past right y)
comes_from-child site usable [] shard left right y each was live is = absurd (Contains-nil _ was.1)
comes_from-child site usable (e ∷ past) shard left right y each (of, (zero, within, here)) live is =
    let stands : IsRightSplit site past of shard left right = subst (λ (x : Event). Stands site usable past x) here each.0 in
    subst (λ (x : Event). comes_from (x ∷ past) left y ≡ not (comes_from (x ∷ past) right y)) (sym here)
    (newest_child site usable past of shard left right y each.1 stands
    (subst (λ (x : Event). is_live site.workers (x ∷ past) y ≡ true) here live)
    (subst (λ (x : Event). comes_from (x ∷ past) shard y ≡ true) here is))
comes_from-child site usable (e ∷ past) shard left right y each (of, (suc k, within, here)) live is =
    let older : WasSplit past shard left right = (of, (k, omega arith, here)) in
    let made = split-made site usable past shard left right each.1 older in
    rw (comes_from-parent site usable past e left y each.0 made.1, comes_from-parent site usable past e right y each.0 made.2)
    (comes_from-child site usable past shard left right (parent_in e y) each.1 older
    (live-parent site usable past e y each.1 each.0 live)
    (sym (comes_from-parent site usable past e shard y each.0 made.0) ∙ is))
