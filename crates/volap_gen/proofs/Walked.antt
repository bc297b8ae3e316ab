-- Records of concepts that stand in order are fine, each behind those before it.
use Rattle.std.proofs.{Common.{◌≡◌, ◌<◌, ◌^◌, ◌∙◌, ◌+◌, ◌-◌, ℕ, List, [], ◌∷◌, length, Bool, true, false, ◌&&◌, Option, Some, None, ap, refl, arith, inl, inr}, lemmas.Bool.{and_parts, cases_Bool}, lemmas.Bool.Decides.nat_tests, lemmas.Slice.Eq.bytes_eq-Decides}
use Rattle.std.specs.{Prelude.{not, nat_le, nat_lt, ◌==◌, ◌||◌, codes, is_some, slice_set, if◌then◌else◌}, Str.bytes_eq}
use Rattle.std.specs.FinMap as map
use Rattle.dim_hierarchy.specs.{Concept.level_of, Dimension.{Dimension, concept_fault, dimension, find, find_dim, tree, with_concept}, Tree.{IsConcept, is_concept, leaf_level}}
use Rattle.dim_hierarchy.specs.declared.hierarchy.ConceptFault.TheVariants as concept
use Rattle.row_ledger.specs.declared.settings.Use.{Use}
use Rattle.script_form.specs.{Causes.{cause_at, parent_of}, Fields.{Record, is_name, is_star}, Scripts.{after, with_named}, declared.script.Script.Script}
use Rattle.script_form.proofs.Standing.{Fine, afters, concept_after, concept_fine}
use Rattle.volap_gen.proofs.{Growing.{IsFilled, StandsAt, concept_is, grown, is_new}, Walks.{key, walk}}

-- a script without commands
abbrev pub at_work : Use → List Dimension → Script
at_work with h = record { with = with; hierarchy = h; commands = [] }

-- one of three dimensions, which the others do not stand for
pub record IsSlot (place : Dimension → List Dimension) (i : ℕ) (of : List ℕ) : Type 0 where
  pub found : (d : Dimension) → d.name ≡ of → find_dim (place d) of ≡ Some i
  pub at : (d : Dimension) → dimension (place d) i ≡ d
  pub put : (d e : Dimension) → slice_set (place d) i e ≡ place e
  pub len : (d : Dimension) → length (place d) ≡ 3
  pub within : i < 3
  pub named : is_name of ≡ true

none_stands : (a b c d : Bool) → a ≡ false → b ≡ false → c ≡ false → d ≡ false
    → (if a then Some concept.NoDim else if b then Some concept.NoParent else if c then Some concept.Twice else if d then Some concept.TooDeep else None) ≡ None
none_stands a b c d ae be ce de = rw (ae, be, ce, de) refl

is_none : (o : Option ℕ) → o ≡ None → is_some o ≡ false
is_none o is = rw is refl

not_deep : (level len : ℕ) → len ≡ 4 → level < 3 → (level == len - 1) ≡ false
not_deep level len four low = rw four (grind (arith, nat_tests))

within_is : (len i : ℕ) → len ≡ 3 → i < 3 → nat_le len i ≡ false
within_is len i three low = rw three (grind (arith, nat_tests))

no_fault : (h : List Dimension) (i : ℕ) (d : Dimension) (most n : ℕ) (name : List ℕ) (p : ℕ) → dimension h i ≡ d → length h ≡ 3 → i < 3 → IsFilled d most n → most < key name
    → IsConcept d.tree p → level_of p < 3 → concept_fault h i name p ≡ None
no_fault h i d most n name p at len within filled more is low =
    none_stands (nat_le (length h) i) (not (is_concept (tree h i) p)) (is_some (find h i name)) (level_of p == leaf_level (tree h i))
    (within_is (length h) i len within)
    (ap (λ (x : Dimension). not (is_concept x.tree p)) at ∙ ap not (concept_is d.tree p is))
    (ap (λ (x : Dimension). is_some (map.get x.names name)) at ∙ is_none (map.get d.names name) (is_new d most n name filled more))
    (ap (λ (x : Dimension). level_of p == leaf_level x.tree) at ∙ not_deep (level_of p) (length d.tree) filled.levels low)

-- One record.

record IsAdded (with : Use) (place : Dimension → List Dimension) (place_no : ℕ) (d e : Dimension) (r : Record) : Type 0 where
  cause : cause_at place_no (at_work with (place d)) r ≡ None
  then_is : after (at_work with (place d)) r ≡ at_work with (place e)

added : (with : Use) (place : Dimension → List Dimension) (i : ℕ) (of : List ℕ) (place_no : ℕ) (d : Dimension) (most n : ℕ) (name parent : List ℕ) (p : ℕ) → IsSlot place i of → 0 < place_no
    → d.name ≡ of → IsFilled d most n → most < key name → is_name name ≡ true → (is_star parent || is_name parent) ≡ true → parent_of (place d) i parent ≡ Some p → IsConcept d.tree p → level_of p < 3
    → IsAdded with place place_no d (with_concept d name p) (codes "concept" ∷ of ∷ name ∷ parent ∷ [])
added with place i of place_no d most n name parent p slot behind called filled more named named_parent under is low =
    let s = at_work with (place d) in
    let found = slot.found d called in
    let fault = no_fault (place d) i d most n name p (slot.at d) (slot.len d) slot.within filled more is low in
    let put : with_named (place d) i name p ≡ place (with_concept d name p) = ap (λ (x : Dimension). slice_set (place d) i (with_concept x name p)) (slot.at d) ∙ slot.put d (with_concept d name p) in
    record {
      cause = concept_fine place_no s of name parent i p behind refl slot.named named named_parent found under fault;
      then_is = concept_after s of name parent i p found under ∙ ap (λ h. at_work with h) put;
    }

-- All records of a dimension.

pub record IsWalked (with : Use) (place : Dimension → List Dimension) (of : List ℕ) (place_no : ℕ) (d : Dimension) (rs : List Record) : Type 0 where
  pub grown_to : Dimension
  pub called : grown_to.name ≡ of
  pub fine : Fine place_no (at_work with (place d)) rs
  pub then_is : afters (at_work with (place d)) rs ≡ at_work with (place grown_to)

more_walked : (with : Use) (place : Dimension → List Dimension) (of : List ℕ) (place_no : ℕ) (d e : Dimension) (r : Record) (rs : List Record) → IsAdded with place place_no d e r
    → IsWalked with place of (place_no + 1) e rs → IsWalked with place of place_no d (r ∷ rs)
more_walked with place of place_no d e r rs one walked = record {
  grown_to = walked.grown_to;
  called = walked.called;
  fine = (one.cause, rw one.then_is walked.fine);
  then_is = rw one.then_is walked.then_is;
}

-- the newest concept of a level, where there is one
abbrev IsNewest : Dimension → ℕ → List ℕ → Type 0
IsNewest d level name = is_name name ≡ true → StandsAt d level name

no_newest : (d : Dimension) (level : ℕ) → IsNewest d level []
no_newest d level named = cc

same_record : (word of at name parent : List ℕ) → word ≡ codes "concept" → at ≡ of → let r : Record = codes "concept" ∷ of ∷ name ∷ parent ∷ [] in r ≡ word ∷ at ∷ name ∷ parent ∷ []
same_record word of at name parent w o = rw (w, o) refl

star_or : (a b : Bool) → a ≡ true → (a || b) ≡ true
star_or a b is = rw is refl

or_name : (a b : Bool) → b ≡ true → (a || b) ≡ true
or_name true b is = refl
or_name false b is = is

then_branch : (b x y : Bool) → b ≡ true → (if b then x else y) ≡ true → x ≡ true
then_branch b x y is all = rw is at all

else_branch : (b x y : Bool) → b ≡ false → (if b then x else y) ≡ true → y ≡ true
else_branch b x y is all = rw is at all

same_level : (d : Dimension) (name : List ℕ) (l m : ℕ) → l ≡ m → StandsAt d l name → StandsAt d m name
same_level d name l m is stands = record { id = stands.id; found = stands.found; level_is = stands.level_is ∙ is; concept = stands.concept }

-- a parent that a name tells
parent_is : (place : Dimension → List Dimension) (i : ℕ) (of : List ℕ) (d : Dimension) (parent : List ℕ) (p : ℕ) → IsSlot place i of → is_star parent ≡ false → map.get d.names parent ≡ Some p
    → parent_of (place d) i parent ≡ Some p
parent_is place i of d parent p slot star found =
    ap (λ b. if b then Some 0 else find (place d) i parent) star ∙ ap (λ (x : Dimension). map.get x.names parent) (slot.at d) ∙ found

pub walked : (with : Use) (place : Dimension → List Dimension) (i : ℕ) (of : List ℕ) (rs : List Record) (place_no most n : ℕ) (top mid : List ℕ) (d : Dimension) → IsSlot place i of → 0 < place_no
    → walk of most top mid rs ≡ true → d.name ≡ of → IsFilled d most n → IsNewest d 1 top → IsNewest d 2 mid → n + length rs + 2 < 2 ^ 28 → IsWalked with place of place_no d rs
unfolding walk
walked with place i of [] place_no most n top mid d slot behind walks called filled newest_top newest_mid room =
    record { grown_to = d; called = called; fine = tt; then_is = refl }
walked with place i of ((word ∷ at ∷ name ∷ parent ∷ []) ∷ rs) place_no most n top mid d slot behind walks called filled newest_top newest_mid room =
    let by_star = walk of (key name) name [] rs in
    let by_top = walk of (key name) top name rs in
    let by_mid = bytes_eq parent mid && walk of (key name) top mid rs in
    let by_name = is_name parent && (if bytes_eq parent top then by_top else by_mid) in
    let four = and_parts (bytes_eq word (codes "concept") && bytes_eq at of && is_name name && nat_lt most (key name)) (if is_star parent then by_star else by_name) walks in
    let three = and_parts (bytes_eq word (codes "concept") && bytes_eq at of && is_name name) (nat_lt most (key name)) four.0 in
    let two = and_parts (bytes_eq word (codes "concept") && bytes_eq at of) (is_name name) three.0 in
    let one = and_parts (bytes_eq word (codes "concept")) (bytes_eq at of) two.0 in
    let is = same_record word of at name parent ((bytes_eq-Decides word (codes "concept")).0 one.0) ((bytes_eq-Decides at of).0 one.1) in
    let named = two.1 in
    let more : most < key name = let m = three.1 in grind (arith, nat_tests) in
    let fits : n + 2 < 2 ^ 28 = omega (arith, room) in
    let left : (n + 1) + length rs + 2 < 2 ^ 28 = omega (arith, room) in
    elim (cases_Bool (is_star parent)) [
      | inl star ↦
          let grow = grown d most n name 0 filled more filled.all (omega arith) fits in
          let step = added with place i of place_no d most n name parent 0 slot behind called filled more named (star_or (is_star parent) (is_name parent) star) (ap (λ b. if b then Some 0 else find (place d) i parent) star) filled.all (omega arith) in
          let rest = walked with place i of rs (place_no + 1) (key name) (n + 1) name [] (with_concept d name 0) slot (omega arith) (then_branch (is_star parent) by_star by_name star four.1) called grow.filled (λ _. grow.new) (no_newest (with_concept d name 0) 2) left in
          more_walked with place of place_no d (with_concept d name 0) (word ∷ at ∷ name ∷ parent ∷ []) rs (rw (← is) step) rest
      | inr other ↦
          let by = and_parts (is_name parent) (if bytes_eq parent top then by_top else by_mid) (else_branch (is_star parent) by_star by_name other four.1) in
          elim (cases_Bool (bytes_eq parent top)) [
            | inl first ↦
                let same = (bytes_eq-Decides parent top).0 first in
                let stands : StandsAt d 1 parent = rw same (newest_top (rw same at by.0)) in
                let low : level_of stands.id < 3 = let l = stands.level_is in omega (arith, l) in
                let grow = grown d most n name stands.id filled more stands.concept low fits in
                let step = added with place i of place_no d most n name parent stands.id slot behind called filled more named (or_name (is_star parent) (is_name parent) by.0) (parent_is place i of d parent stands.id slot other stands.found) stands.concept low in
                let deeper : level_of stands.id + 1 ≡ 2 = let l = stands.level_is in omega (arith, l) in
                let rest = walked with place i of rs (place_no + 1) (key name) (n + 1) top name (with_concept d name stands.id) slot (omega arith) (then_branch (bytes_eq parent top) by_top by_mid first by.1) called grow.filled (λ t. grow.kept 1 top (newest_top t)) (λ _. same_level (with_concept d name stands.id) name (level_of stands.id + 1) 2 deeper grow.new) left in
                more_walked with place of place_no d (with_concept d name stands.id) (word ∷ at ∷ name ∷ parent ∷ []) rs (rw (← is) step) rest
            | inr second ↦
                let both = and_parts (bytes_eq parent mid) (walk of (key name) top mid rs) (else_branch (bytes_eq parent top) by_top by_mid second by.1) in
                let same = (bytes_eq-Decides parent mid).0 both.0 in
                let stands : StandsAt d 2 parent = rw same (newest_mid (rw same at by.0)) in
                let low : level_of stands.id < 3 = let l = stands.level_is in omega (arith, l) in
                let grow = grown d most n name stands.id filled more stands.concept low fits in
                let step = added with place i of place_no d most n name parent stands.id slot behind called filled more named (or_name (is_star parent) (is_name parent) by.0) (parent_is place i of d parent stands.id slot other stands.found) stands.concept low in
                let rest = walked with place i of rs (place_no + 1) (key name) (n + 1) top mid (with_concept d name stands.id) slot (omega arith) both.1 called grow.filled (λ t. grow.kept 1 top (newest_top t)) (λ t. grow.kept 2 mid (newest_mid t)) left in
                more_walked with place of place_no d (with_concept d name stands.id) (word ∷ at ∷ name ∷ parent ∷ []) rs (rw (← is) step) rest
          ]
    ]
walked with place i of ([] ∷ rs) place_no most n top mid d slot behind walks called filled newest_top newest_mid room = cc
walked with place i of ((a ∷ []) ∷ rs) place_no most n top mid d slot behind walks called filled newest_top newest_mid room = cc
walked with place i of ((a ∷ b ∷ []) ∷ rs) place_no most n top mid d slot behind walks called filled newest_top newest_mid room = cc
walked with place i of ((a ∷ b ∷ c ∷ []) ∷ rs) place_no most n top mid d slot behind walks called filled newest_top newest_mid room = cc
walked with place i of ((a ∷ b ∷ c ∷ e ∷ f ∷ fs) ∷ rs) place_no most n top mid d slot behind walks called filled newest_top newest_mid room = cc
