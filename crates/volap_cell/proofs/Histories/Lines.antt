-- Lines of shards: what comes from a shard comes from all from which that comes, and what the children of a split are to it and to one another.
use Rattle.std.proofs.{Common.{◌≡◌, ℕ, zero, suc, ◌+◌, ◌<◌, ◌≤◌, List, [], ◌∷◌, ◌++◌, Bool, true, false, refl, sym, ap, subst, arith, ◌==◌, ◌∙◌, ◌||◌, ◌&&◌, ◌⊎◌, inl, inr}, lemmas.Bool.{and_parts, eqb-true, eq-eqb, false≢true, or_cases, or_right}, lemmas.Bool.Decides.nat_tests}
use Rattle.std.specs.{List.list_any, Prelude.{IsTrue, if◌then◌else◌, filter_map}}
use Rattle.row_ledger.specs.{Past.{Children, last_of, split_in}, Right.{EachEvent, IsRightSplit, Site, Stands}, Shards.{comes_from, descends, ids_made, is_child, is_path, parent_in, was_listed}, declared.event.Event.Event, declared.event.Event.TheVariants.Split}
use Rattle.row_ledger.proofs.Descent.{WasSplit, comes_from-made, comes_from-older, comes_from-self, live-made, parent_in-made, split-made}
use Rattle.list_words.proofs.Elements.{Contains-nil}

-- what comes from a shard comes from all from which that comes
pub comes_from-through : (site : Site) (usable : ℕ → Bool) (past : List Event) (x y z : ℕ)
    → EachEvent (Stands site usable) past → z < ids_made site.workers past → comes_from past x y ≡ true → comes_from past y z ≡ true → comes_from past x z ≡ true
comes_from-through site usable [] x y z each made upper lower = subst (λ t. comes_from [] x t ≡ true) (sym (eqb-true z y lower)) upper
comes_from-through site usable (e ∷ past) x y z each made upper lower = elim (or_cases (z == y) (comes_from past y (parent_in e z)) lower) [
  | inl same ↦ subst (λ t. comes_from (e ∷ past) x t ≡ true) (sym (eqb-true z y same)) upper
  | inr older ↦
      let parent = parent_in-made site usable past e z each.1 each.0 made in
      let was_made : y < ids_made site.workers past = comes_from-made site usable past y (parent_in e z) each.1 parent older in
      let was : comes_from past x y ≡ true = sym (comes_from-older site usable past e x y each.0 was_made) ∙ upper in
      or_right (z == x) (comes_from past x (parent_in e z)) (comes_from-through site usable past x y (parent_in e z) each.1 parent was older)
]

-- a child comes from its shard, and has its id
pub child-comes : (site : Site) (usable : ℕ → Bool) (past : List Event) (x y : ℕ) → EachEvent (Stands site usable) past → is_child past x y ≡ true → (comes_from past x y ≡ true) × (y < ids_made site.workers past)
child-comes site usable [] x y each is = absurd (false≢true is)
child-comes site usable (Split of shard left right ∷ past) x y each is =
    elim (or_cases ((shard == x) && ((left == y) || (right == y))) (list_any (λ (c : Children). (c.shard == x) && ((c.left == y) || (c.right == y))) (filter_map split_in past)) is) [
      | inl new ↦
          let next : left ≡ ids_made site.workers past = each.0.next in
          let after : right ≡ ids_made site.workers past + 1 = each.0.after in
          let parts = and_parts (shard == x) ((left == y) || (right == y)) new in
          elim (or_cases (left == y) (right == y) parts.1) [
            | inl is_left ↦
                let q : left ≡ y = eqb-true left y is_left in (
                  or_right (y == x) (comes_from past x (parent_in (Split of shard left right) y))
                      (rw (eq-eqb y left (sym q), eqb-true shard x parts.0) (comes_from-self past x)),
                  omega arith,
                )
            | inr is_right ↦
                let q : right ≡ y = eqb-true right y is_right in
                (or_right (y == x) (comes_from past x (parent_in (Split of shard left right) y)) (at q (y == left) (eqb-true shard x parts.0)), omega arith)
          ]
      | inr old ↦
          let below = child-comes site usable past x y each.1 old in
          let lt = below.1 in
          (comes_from-older site usable past (Split of shard left right) x y each.0 lt ∙ below.0, omega (arith, lt))
    ]
  where
    at : right ≡ y → (v : Bool) → shard ≡ x → comes_from past x (if v || (y == right) then shard else y) ≡ true
    at q true s = subst (λ t. comes_from past x t ≡ true) (sym s) (comes_from-self past x)
    at q false s = rw (eq-eqb y right (sym q), s) (comes_from-self past x)
child-comes site usable (e ∷ past) x y each is = (let old = child-comes site usable past x y each.1 is in (comes_from-older site usable past e x y each.0 old.1 ∙ old.0, old.1))

-- Children of a split.

-- what comes from a shard is that one, or was made
pub comes-made : (site : Site) (usable : ℕ → Bool) (past : List Event) (x y : ℕ) → EachEvent (Stands site usable) past → comes_from past x y ≡ true → (y ≡ x) ⊎ (y < ids_made site.workers past)
comes-made site usable [] x y each is = inl (eqb-true y x is)
comes-made site usable (Split of shard left right ∷ past) x y each is =
    let next : left ≡ ids_made site.workers past = each.0.next in
    let after : right ≡ ids_made site.workers past + 1 = each.0.after in
    elim (or_cases (y == x) (comes_from past x (parent_in (Split of shard left right) y)) is) [
      | inl same ↦ inl (eqb-true y x same)
      | inr older ↦ made (y == left) refl (y == right) refl next after (comes-made site usable past x (parent_in (Split of shard left right) y) each.1 older)
    ]
  where
    made : (v : Bool) → (y == left) ≡ v → (w : Bool) → (y == right) ≡ w → left ≡ ids_made site.workers past → right ≡ ids_made site.workers past + 1
        → ((if v || w then shard else y) ≡ x) ⊎ ((if v || w then shard else y) < ids_made site.workers past) → (y ≡ x) ⊎ (y < ids_made site.workers (Split of shard left right ∷ past))
    made true is w is_w next after older = (let here : y ≡ left = eqb-true y left is in inr (omega arith))
    made false is true is_w next after older = (let here : y ≡ right = eqb-true y right is_w in inr (omega arith))
    made false is false is_w next after (inl same) = inl same
    made false is false is_w next after (inr below) = inr (omega arith)
comes-made site usable (e ∷ past) x y each is = elim (or_cases (y == x) (comes_from past x y) is) [
  | inl same ↦ inl (eqb-true y x same)
  | inr older ↦ comes-made site usable past x y each.1 older
]

-- what is true of a shard's split in the past in which it stands, and stays so with each event, holds

is-not : (b : Bool) → (b ≡ true → ⊥) → b ≡ false
is-not true never = absurd (never refl)
is-not false never = refl

pub record AreChildren (past : List Event) (x l r : ℕ) : Type 0 where
  pub from_left : comes_from past x l ≡ true
  pub from_right : comes_from past x r ≡ true
  pub above_left : (z : ℕ) → comes_from past z l ≡ true → (l ≡ z) ⊎ (comes_from past z x ≡ true)
  pub above_right : (z : ℕ) → comes_from past z r ≡ true → (r ≡ z) ⊎ (comes_from past z x ≡ true)
  pub left_right : comes_from past l r ≡ false
  pub right_left : comes_from past r l ≡ false
  pub left_back : comes_from past l x ≡ false
  pub right_back : comes_from past r x ≡ false

pub are-children : (site : Site) (usable : ℕ → Bool) (past : List Event) (x l r : ℕ) → EachEvent (Stands site usable) past → WasSplit past x l r → AreChildren past x l r
are-children site usable [] x l r each was = absurd (Contains-nil _ was.1)
are-children site usable (e ∷ past) x l r each (of, (zero, within, here)) =
    let stands : IsRightSplit site past of x l r = subst (λ (z : Event). Stands site usable past z) here each.0 in
    let next : l ≡ ids_made site.workers past = stands.next in
    let after : r ≡ ids_made site.workers past + 1 = stands.after in
    let parent : x < ids_made site.workers past = live-made site usable past x each.1 stands.done.live in
    let is : Stands site usable past (Split of x l r) = stands in
    let unmade : (z : ℕ) → ids_made site.workers past ≤ z → comes_from past z x ≡ false =
    λ z le. is-not (comes_from past z x) (λ comes. let made = comes_from-made site usable past z x each.1 parent comes in absurd (omega (arith, made, le))) in
    let old : (z : ℕ) → comes_from (Split of x l r ∷ past) z x ≡ comes_from past z x = λ z. comes_from-older site usable past (Split of x l r) z x is parent in
    let of_left : parent_in (Split of x l r) l ≡ x = rw (eq-eqb l l refl) refl in
    let of_right : parent_in (Split of x l r) r ≡ x = by-right (r == l) in
    let other : (r == l) ≡ false = grind (arith, nat_tests) in
    let turned : (l == r) ≡ false = grind (arith, nat_tests) in
    subst (λ (z : Event). AreChildren (z ∷ past) x l r) (sym here) (record {
      from_left = or_right (l == x) (comes_from past x (parent_in (Split of x l r) l)) (ap (comes_from past x) of_left ∙ comes_from-self past x);
      from_right = or_right (r == x) (comes_from past x (parent_in (Split of x l r) r)) (ap (comes_from past x) of_right ∙ comes_from-self past x);
      above_left = λ z comes. elim (or_cases (l == z) (comes_from past z (parent_in (Split of x l r) l)) comes) [
        | inl same ↦ inl (eqb-true l z same)
        | inr older ↦ inr (old z ∙ sym (ap (comes_from past z) of_left) ∙ older)
      ];
      above_right = λ z comes. elim (or_cases (r == z) (comes_from past z (parent_in (Split of x l r) r)) comes) [
        | inl same ↦ inl (eqb-true r z same)
        | inr older ↦ inr (old z ∙ sym (ap (comes_from past z) of_right) ∙ older)
      ];
      left_right = rw (other, eq-eqb r r refl) (unmade l (omega (arith, next)));
      right_left = rw (turned, eq-eqb l l refl) (unmade r (omega (arith, after)));
      left_back = old l ∙ unmade l (omega (arith, next));
      right_back = old r ∙ unmade r (omega (arith, after));
    })
  where
    by-right : (b : Bool) → (if b || (r == r) then x else r) ≡ x
    by-right true = refl
    by-right false = rw (eq-eqb r r refl) refl
are-children site usable (e ∷ past) x l r each (of, (suc k, within, here)) =
    let was : WasSplit past x l r = (of, (k, omega arith, here)) in
    let made = split-made site usable past x l r each.1 was in
    let c = are-children site usable past x l r each.1 was in
    let at_x : (z : ℕ) → comes_from (e ∷ past) z x ≡ comes_from past z x = λ z. comes_from-older site usable past e z x each.0 made.0 in
    let at_l : (z : ℕ) → comes_from (e ∷ past) z l ≡ comes_from past z l = λ z. comes_from-older site usable past e z l each.0 made.1 in
    let at_r : (z : ℕ) → comes_from (e ∷ past) z r ≡ comes_from past z r = λ z. comes_from-older site usable past e z r each.0 made.2 in
    record {
      from_left = at_l x ∙ c.from_left;
      from_right = at_r x ∙ c.from_right;
      above_left = λ z comes. elim (c.above_left z (sym (at_l z) ∙ comes)) [ inl same ↦ inl same | inr older ↦ inr (at_x z ∙ older) ];
      above_right = λ z comes. elim (c.above_right z (sym (at_r z) ∙ comes)) [ inl same ↦ inl same | inr older ↦ inr (at_x z ∙ older) ];
      left_right = at_r l ∙ c.left_right;
      right_left = at_l r ∙ c.right_left;
      left_back = at_x l ∙ c.left_back;
      right_back = at_x r ∙ c.right_back;
    }

-- a path goes on to a child of its last shard

descends-on : (past : List Event) (x : ℕ) (path : List ℕ) (y : ℕ) → descends past x path ≡ true → is_child past (last_of (x ∷ path)) y ≡ true → descends past x (path ++ y ∷ []) ≡ true
descends-on past x [] y d child = rw child refl
descends-on past x (z ∷ path) y d child =
    let parts = and_parts (is_child past x z) (descends past z path) d in
    rw (parts.0, descends-on past z path y parts.1 child) refl

pub path-on : (past : List Event) (server : ℕ) (path : List ℕ) (y : ℕ) → IsTrue (is_path past server path) → is_child past (last_of path) y ≡ true → IsTrue (is_path past server (path ++ y ∷ []))
path-on past server [] y is child = cc
path-on past server (x ∷ path) y is child =
    let parts = and_parts (was_listed past server x) (descends past x path) is in
    rw (parts.0, descends-on past x path y parts.1 child) refl

pub last-on : (path : List ℕ) (y : ℕ) → last_of (path ++ y ∷ []) ≡ y
last-on [] y = refl
last-on (x ∷ []) y = refl
last-on (x ∷ z ∷ path) y = last-on (z ∷ path) y
