-- Concepts, coordinates and filters that names stand for.
use Rattle.std.proofs.{Common.{ℕ, zero, suc, ◌≡◌, ◌+◌, ◌<◌, ◌≤◌, List, [], ◌∷◌, ◌++◌, length, get_or, drop, map, refl, sym, ap, subst, ◌∙◌, arith, append_assoc}, lemmas.List.{at_drop_more, drop_all, append-nil, get_or_read}}
use Rattle.std.specs.Prelude.{Option, Some, None, option_map, option_and_then, IsSome, is_some, zip, ◌&&◌, All as Each}
use Rattle.std.specs.FinMap as fin
use Rattle.dim_hierarchy.specs.{Dimension.{Dimension, IsDimension}, Filter.{ids_named, pick_named, IsPickOf}, Names.IsNamePick, Tree.IsConcept, declared.filter.NamePick.NamePick, declared.filter.Pick.Pick, declared.filter.Pick.TheVariants.{All, Ids}}
use Rattle.dim_hierarchy.specs.declared.filter.NamePick.TheVariants as by_name

-- What a function makes of the elements of two lists, place by place.

abbrev pub paired : {A B C : Type 0} → (A → B → C) → List A → List B → List C
paired f xs ys = map (λ p. f p.0 p.1) (zip xs ys)

pub length-paired : {A B C : Type 0} (f : A → B → C) (xs : List A) (ys : List B) → length ys ≡ length xs → length (paired f xs ys) ≡ length xs
length-paired f [] [] e = refl
length-paired f [] (y ∷ ys) e = absurd (omega arith)
length-paired f (x ∷ xs) [] e = absurd (omega arith)
length-paired f (x ∷ xs) (y ∷ ys) e = ap suc (length-paired f xs ys (omega arith))

pub get_or-paired : {A B C : Type 0} (f : A → B → C) (xs : List A) (ys : List B) (k : ℕ) (a : A) (b : B) (c : C) → length ys ≡ length xs → k < length xs → get_or (paired f xs ys) k c ≡ f (get_or xs k a) (get_or ys k b)
get_or-paired f [] ys k a b c e lt = absurd (omega arith)
get_or-paired f (x ∷ xs) [] k a b c e lt = absurd (omega arith)
get_or-paired f (x ∷ xs) (y ∷ ys) zero a b c e lt = refl
get_or-paired f (x ∷ xs) (y ∷ ys) (suc k) a b c e lt = get_or-paired f xs ys k a b c (omega arith) (omega arith)

-- the same from what the code reads at a place
pub paired-read : {A B C : Type 0} (f : A → B → C) (xs : List A) (ys read : List B) (k i : ℕ) (x a : A) (y : B) (c : C) → length ys ≡ length xs → k < length xs → read ≡ ys → i ≡ k → x ≡ get_or xs k a → y ≡ get_or read i y → f x y ≡ get_or (paired f xs ys) k c
paired-read {B = B} f xs ys read k i x a y c e lt re ie xe ye =
    let here : y ≡ get_or ys k y = ye ∙ ap (λ (l : List B). get_or l i y) re ∙ ap (λ j. get_or ys j y) ie in
    ap (λ z. f z y) xe ∙ ap (f (get_or xs k a)) here ∙ sym (get_or-paired f xs ys k a y c e lt)

-- all of them known
pub all_Some : {X : Type 0} (os : List (Option X)) (xs : List X) (d : X) → length os ≡ length xs → ((k : ℕ) → k < length xs → get_or os k None ≡ Some (get_or xs k d)) → os ≡ map Some xs
all_Some [] [] d e h = refl
all_Some [] (x ∷ xs) d e h = absurd (omega arith)
all_Some (o ∷ os) [] d e h = absurd (omega arith)
all_Some (o ∷ os) (x ∷ xs) d e h =
    let first : o ≡ Some x = h 0 (omega arith) in
    let rest = all_Some os xs d (omega arith) (λ k lt. h (suc k) (omega arith)) in
    cc

-- The concepts of a list of names.

-- from a place on
pub ids_named-drop : (d : Dimension) (names : List (List ℕ)) (k : ℕ) → k < length names → ids_named d (drop k names) ≡ option_and_then (λ id. option_map (λ ids. id ∷ ids) (ids_named d (drop (k + 1) names))) (fin.get d.names (get_or names k []))
ids_named-drop d names k lt = at_drop_more (ids_named d) names k [] lt

pub is_some-ids_named-drop : (d : Dimension) (names : List (List ℕ)) (k : ℕ) → k < length names → is_some (ids_named d (drop k names)) ≡ (is_some (fin.get d.names (get_or names k [])) && is_some (ids_named d (drop (k + 1) names)))
is_some-ids_named-drop d names k lt = ap is_some (ids_named-drop d names k lt) ∙ both (fin.get d.names (get_or names k [])) (ids_named d (drop (k + 1) names))
  where
    both : (o : Option ℕ) (rest : Option (List ℕ)) → is_some (option_and_then (λ id. option_map (λ ids. id ∷ ids) rest) o) ≡ (is_some o && is_some rest)
    both None rest = refl
    both (Some id) None = refl
    both (Some id) (Some ids) = refl

-- a name as the code reads it
pub get-read : (d : Dimension) (names : List (List ℕ)) (k : ℕ) (name read : List ℕ) (found : Option ℕ) → k < length names → name ≡ get_or names k name → read ≡ name → found ≡ fin.get d.names read → found ≡ fin.get d.names (get_or names k [])
get-read d names k name read found lt n r f = f ∙ ap (λ x. fin.get d.names x) (r ∙ get_or_read names k name lt n [])

-- the concepts of the names before a place are these
pub record IsGathered (d : Dimension) (names : List (List ℕ)) (k : ℕ) (ids : List ℕ) : Type 0 where
  pub is : ids_named d names ≡ option_map (λ rest. ids ++ rest) (ids_named d (drop k names))

pub IsGathered-start : (d : Dimension) (names : List (List ℕ)) → IsGathered d names 0 []
IsGathered-start d names = record { is = same (ids_named d names) }
  where
    same : (o : Option (List ℕ)) → o ≡ option_map (λ rest. [] ++ rest) o
    same None = refl
    same (Some ids) = refl

pub IsGathered-next : (d : Dimension) (names : List (List ℕ)) (k id : ℕ) (ids : List ℕ) → IsGathered d names k ids → k < length names → fin.get d.names (get_or names k []) ≡ Some id → IsGathered d names (k + 1) (ids ++ id ∷ [])
IsGathered-next d names k id ids g lt e = record {
  is = g.is
      ∙ ap (option_map (λ rest. ids ++ rest)) (ids_named-drop d names k lt ∙ ap (option_and_then (λ i. option_map (λ r. i ∷ r) (ids_named d (drop (k + 1) names)))) e)
      ∙ joined (ids_named d (drop (k + 1) names));
}
  where
    joined : (o : Option (List ℕ)) → option_map (λ rest. ids ++ rest) (option_map (λ r. id ∷ r) o) ≡ option_map (λ rest. (ids ++ id ∷ []) ++ rest) o
    joined None = refl
    joined (Some rest) = ap Some (sym (append_assoc ids (id ∷ []) rest))

pub IsGathered-end : (d : Dimension) (names : List (List ℕ)) (k : ℕ) (ids : List ℕ) → IsGathered d names k ids → length names ≤ k → ids_named d names ≡ Some ids
IsGathered-end d names k ids g le =
    g.is ∙ ap (λ l. option_map (λ rest. ids ++ rest) (ids_named d l)) (drop_all k names le) ∙ ap Some (append-nil ids)

-- where all names are known, the next one is
pub IsGathered-known : (d : Dimension) (names : List (List ℕ)) (k : ℕ) (ids : List ℕ) → IsGathered d names k ids → k < length names → IsSome (ids_named d names) → IsSome (fin.get d.names (get_or names k []))
IsGathered-known d names k ids g lt all =
    known (fin.get d.names (get_or names k [])) (ids_named d (drop (k + 1) names)) (subst IsSome (g.is ∙ ap (option_map (λ rest. ids ++ rest)) (ids_named-drop d names k lt)) all)
  where
    known : (o : Option ℕ) (rest : Option (List ℕ)) → IsSome (option_map (λ r. ids ++ r) (option_and_then (λ id. option_map (λ r. id ∷ r) rest) o)) → IsSome o
    known None rest s = s
    known (Some id) rest s = refl

-- What known names stand for is of the hierarchy.

ids_named-nil : (d : Dimension) (names : List (List ℕ)) → ids_named d names ≡ Some [] → names ≡ []
ids_named-nil d [] e = refl
ids_named-nil d (name ∷ names) e = absurd (not_nil (fin.get d.names name) (ids_named d names) e)
  where
    not_nil : (o : Option ℕ) (rest : Option (List ℕ)) → option_and_then (λ id. option_map (λ ids. id ∷ ids) rest) o ≡ Some [] → ⊥
    not_nil None rest e = cc
    not_nil (Some id) None e = cc
    not_nil (Some id) (Some ids) e = cc

-- the head and the rest of a list of concepts by name
record IsSplit (d : Dimension) (name : List ℕ) (names : List (List ℕ)) (id : ℕ) (ids : List ℕ) : Type 0 where
  pub first : fin.get d.names name ≡ Some id
  pub rest : ids_named d names ≡ Some ids

ids_named-split : (d : Dimension) (name : List ℕ) (names : List (List ℕ)) (id : ℕ) (ids : List ℕ) → ids_named d (name ∷ names) ≡ Some (id ∷ ids) → IsSplit d name names id ids
ids_named-split d name names id ids e = let s = split (fin.get d.names name) (ids_named d names) e in record { first = s.0; rest = s.1 }
  where
    split : (o : Option ℕ) (rest : Option (List ℕ)) → option_and_then (λ i. option_map (λ r. i ∷ r) rest) o ≡ Some (id ∷ ids) → (o ≡ Some id) × (rest ≡ Some ids)
    split None rest e = absurd cc
    split (Some i) None e = absurd cc
    split (Some i) (Some r) e = (cc, cc)

ids_named-IsConcept : (d : Dimension) → IsDimension d → (names : List (List ℕ)) (ids : List ℕ) → ids_named d names ≡ Some ids → Each (IsConcept d.tree) ids
ids_named-IsConcept d w names [] e k x lt = absurd (omega arith)
ids_named-IsConcept d w [] (id ∷ ids) e k x lt = absurd cc
ids_named-IsConcept d w (name ∷ names) (id ∷ ids) e zero x lt = (w.named name id (ids_named-split d name names id ids e).first).0
ids_named-IsConcept d w (name ∷ names) (id ∷ ids) e (suc k) x lt = ids_named-IsConcept d w names ids (ids_named-split d name names id ids e).rest k x (omega arith)

pub pick_named-IsPickOf : (d : Dimension) → IsDimension d → (np : NamePick) (p : Pick) → IsNamePick np → pick_named d np ≡ Some p → IsPickOf d.tree p
pick_named-IsPickOf d w np All s e = tt
pick_named-IsPickOf d w by_name.All (Ids ids) s e = absurd cc
pick_named-IsPickOf d w (by_name.Any names) (Ids ids) s e =
    let all : ids_named d names ≡ Some ids = inside (ids_named d names) e in
    (λ nil. s (ids_named-nil d names (all ∙ ap Some nil)), ids_named-IsConcept d w names ids all)
  where
    inside : (o : Option (List ℕ)) → option_map Ids o ≡ Some (Ids ids) → o ≡ Some ids
    inside None e = absurd cc
    inside (Some is) e = cc
