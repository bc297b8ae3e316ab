-- A dimension of three levels while concepts are added whose keys grow.
use Rattle.std.proofs.{Common.{◌≡◌, ◌≢◌, ◌<◌, ◌≤◌, ◌^◌, ◌∙◌, ◌+◌, ◌++◌, ℕ, List, [], ◌∷◌, length, true, Option, Some, None, ap, sym, refl, arith, inl, inr, length-append}, lemmas.Bool.Decides.nat_tests, lemmas.List.length-set}
use Rattle.std.specs.FinMap as map
use Rattle.dim_hierarchy.specs.{Concept.level_of, Dimension.{Dimension, with_concept}, Tree.{IsConcept, Tree, is_concept, next_under, parents_at, with_child}}
use Rattle.dim_hierarchy.proofs.{Growth.{IsConcept-with_child, level_of-next_under, next_under-IsConcept, parents_other, parents_same, same_or_not}, Names.{get-insert_other, get-insert_same, same_name}}
use Rattle.volap_gen.proofs.Walks.{key}

-- so many concepts at most are on a level, and no name's key is more than this
pub record IsFilled (d : Dimension) (most n : ℕ) : Type 0 where
  pub levels : length d.tree ≡ 4
  pub named : (name : List ℕ) (id : ℕ) → map.get d.names name ≡ Some id → key name ≤ most
  pub rooms : (l : ℕ) → length (parents_at d.tree l) ≤ n + 1
  pub all : IsConcept d.tree 0

-- a concept of this level has this name
pub record StandsAt (d : Dimension) (level : ℕ) (name : List ℕ) : Type 0 where
  pub id : ℕ
  pub found : map.get d.names name ≡ Some id
  pub level_is : level_of id ≡ level
  pub concept : IsConcept d.tree id

pub concept_is : (t : Tree) (id : ℕ) → IsConcept t id → is_concept t id ≡ true
concept_is t id c =
    let l = c.level in
    let n = c.number in
    grind (arith, nat_tests)

none_by : (o : Option ℕ) → ((id : ℕ) → o ≡ Some id → ⊥) → o ≡ None
none_by None never = refl
none_by (Some id) never = absurd (never id refl)

-- a name of a greater key is new
pub is_new : (d : Dimension) (most n : ℕ) (name : List ℕ) → IsFilled d most n → most < key name → map.get d.names name ≡ None
is_new d most n name filled more = none_by (map.get d.names name) (λ id e. let few = filled.named name id e in omega (arith, few))

rooms_more : (t : Tree) (p l n : ℕ) → level_of p + 1 < length t → ((k : ℕ) → length (parents_at t k) ≤ n + 1) → length (parents_at (with_child t p) l) ≤ (n + 1) + 1
rooms_more t p l n within rooms = elim (same_or_not l (level_of p + 1)) [
  | inl same ↦
      let q : length (parents_at (with_child t p) l) ≡ length (parents_at t (level_of p + 1) ++ p ∷ []) = ap (λ k. length (parents_at (with_child t p) k)) same ∙ ap length (parents_same t p within) in
      let r = length-append (parents_at t (level_of p + 1)) (p ∷ []) in
      let h = rooms (level_of p + 1) in
      omega (arith, q, r, h)
  | inr other ↦
      let q = ap length (parents_other t p l other) in
      let h = rooms l in
      omega (arith, q, h)
]

pub record HasGrown (d e : Dimension) (name : List ℕ) (level most n : ℕ) : Type 0 where
  pub filled : IsFilled e most n
  pub new : StandsAt e level name
  pub kept : (l : ℕ) (other : List ℕ) → StandsAt d l other → StandsAt e l other

pub grown : (d : Dimension) (most n : ℕ) (name : List ℕ) (p : ℕ) → IsFilled d most n → most < key name → IsConcept d.tree p → level_of p < 3 → n + 2 < 2 ^ 28
    → HasGrown d (with_concept d name p) name (level_of p + 1) (key name) (n + 1)
grown d most n name p filled more concept low room =
    let t = d.tree in
    let len = filled.levels in
    let within : level_of p + 1 < length t = omega (arith, len, low) in
    let here = filled.rooms (level_of p + 1) in
    let fits : length (parents_at t (level_of p + 1)) < 2 ^ 28 = omega (arith, here, room) in
    let fresh = is_new d most n name filled more in
    let there : (q : List ℕ) → q ≢ name → map.get (map.insert d.names name (next_under t p)) q ≡ map.get d.names q = get-insert_other d.names name (next_under t p) in
    record {
      filled = record {
        levels = length-set t (level_of p + 1) (parents_at t (level_of p + 1) ++ p ∷ []) ∙ len;
        named = λ q id e. elim (same_name q name) [
          | inl same ↦ let k = ap key same in omega (arith, k)
          | inr other ↦ let few = filled.named q id (sym (there q other) ∙ e) in omega (arith, few, more)
        ];
        rooms = λ l. rooms_more t p l n within filled.rooms;
        all = IsConcept-with_child t p 0 within filled.all;
      };
      new = record {
        id = next_under t p;
        found = get-insert_same d.names name (next_under t p);
        level_is = level_of-next_under t p fits;
        concept = next_under-IsConcept t p within fits;
      };
      kept = λ l other stands.
          let differ : other ≢ name = λ same. let z = ap (map.get d.names) same in let f = stands.found in cc in
          record { id = stands.id; found = there other differ ∙ stands.found; level_is = stands.level_is; concept = IsConcept-with_child t p stands.id within stands.concept };
    }
