-- Where the ways of names end, before and after a name comes.
use Rattle.std.proofs.{Common.{ℕ, zero, suc, ◌≡◌, ◌≢◌, ◌<◌, ◌≤◌, ◌+◌, ◌-◌, ◌/◌, ◌%◌, ◌⊎◌, inl, inr, List, [], ◌∷◌, ◌++◌, length, set, Vec, Global, refl, sym, ap, ◌∙◌, cond, Bool, true, false, ◌&&◌, nat_eq, nat_lt, get_or, eq-eqb, arith}, lemmas.Bool.{eqb-true, ltb-true, false≢true}, lemmas.List.{length-set, length-append, get_or-set_same, get_or-set_other}, lemmas.Option.{same_Some, slice_get_read, slice_get_past, slice_get_within}}
use Rattle.std.specs.{List.{slice_get, slice_index}, Option.option_map, Prelude.{Option, Some, None, replicate}, Str.bytes_eq}
use Rattle.dim_hierarchy.proofs.Names.{bytes_eq-is, bytes_eq-itself}
use Rattle.dim_hierarchy.specs.{NameNodes.{new_node, hash_of, stop_at, stop_behind, stop_of, found_among, told_at}, declared.name_nodes.NameNode.NameNode, declared.name_nodes.Stop.Stop, declared.name_nodes.Stop.TheVariants.{Here, Free, Full}}

-- where a way goes on behind a node
abbrev pub onward : (nodes : List NameNode) (q : List ℕ) (hash left at d : ℕ) → NameNode → Stop
onward nodes q hash left at d n = cond (nat_eq (slice_index n.next (d % 8)) 0) (Free at (d % 8)) (stop_behind nodes q hash left (slice_index n.next (d % 8)) (d / 8))

-- Stops differ.

abbrev is_here : Stop → Bool
is_here (Here at) = true
is_here (Free at digit) = false
is_here Full = false

abbrev is_free : Stop → Bool
is_free (Here at) = false
is_free (Free at digit) = true
is_free Full = false

abbrev place_of : Stop → ℕ
place_of (Here at) = at
place_of (Free at digit) = at
place_of Full = 0

abbrev digit_of : Stop → ℕ
digit_of (Here at) = 0
digit_of (Free at digit) = digit
digit_of Full = 0

-- the name of the node at a place
pub record HasName (nodes : List NameNode) (at : ℕ) (name : List ℕ) : Type 0 where
  pub node : NameNode
  pub is : slice_get nodes at ≡ Some node
  pub named : node.name.items ≡ name

here_or : (b c : Bool) (at j : ℕ) (s : Stop) → cond b (cond c (Here at) Full) s ≡ Here j → ((c ≡ true) × (at ≡ j)) ⊎ (s ≡ Here j)
here_or true true at j s e = inl (refl, ap place_of e)
here_or true false at j s e = absurd (false≢true (ap is_here e))
here_or false c at j s e = inr e

module _ (nodes : List NameNode) (name : List ℕ) where
  here-at : (hash at j : ℕ) (o : Option NameNode) → slice_get nodes at ≡ o → (onward : NameNode → Stop) → ((n : NameNode) → onward n ≡ Here j → HasName nodes j name) → stop_at name hash at o onward ≡ Here j → HasName nodes j name
  here-at hash at j None is onward more e = absurd (false≢true (ap is_here e))
  here-at hash at j (Some n) is onward more e = pick (here_or (nat_eq n.hash hash) (bytes_eq n.name.items name) at j (onward n) e)
    where
      pick : ((bytes_eq n.name.items name ≡ true) × (at ≡ j)) ⊎ (onward n ≡ Here j) → HasName nodes j name
      pick (inl this) = record { node = n; is = ap (slice_get nodes) (sym this.1) ∙ is; named = bytes_eq-is n.name.items name this.0 }
      pick (inr later) = more n later

  -- a way that ends at a node of the name ends at a node of that name
  pub stop-here : (hash left at digits j : ℕ) → stop_behind nodes name hash left at digits ≡ Here j → HasName nodes j name
  stop-here hash zero at digits j e = here-at hash at j (slice_get nodes at) refl (λ n. Full) (λ n e2. absurd (false≢true (ap is_here e2))) e
  stop-here hash (suc left) at digits j e = here-at hash at j (slice_get nodes at) refl _ (λ n e2. behind (λ x f. stop-here hash left x (digits / 8) j f) (nat_eq (slice_index n.next (digits % 8)) 0) (slice_index n.next (digits % 8)) e2) e
    where
      behind : ((x : ℕ) → stop_behind nodes name hash left x (digits / 8) ≡ Here j → HasName nodes j name) → (b : Bool) (next : ℕ) → cond b (Free at (digits % 8)) (stop_behind nodes name hash left next (digits / 8)) ≡ Here j → HasName nodes j name
      behind ih true next f = absurd (false≢true (ap is_here f))
      behind ih false next f = ih next f

free_or : (b c : Bool) (at last digit : ℕ) (s : Stop) → cond b (cond c (Here at) Full) s ≡ Free last digit → s ≡ Free last digit
free_or true true at last digit s e = absurd (false≢true (ap is_free e))
free_or true false at last digit s e = absurd (false≢true (ap is_free e))
free_or false c at last digit s e = e

abbrev next_in : Option NameNode → List ℕ
next_in None = []
next_in (Some n) = n.next

module _ (nodes : List NameNode) (name : List ℕ) (last digit : ℕ) (m : NameNode) (is_m : slice_get nodes last ≡ Some m) where
  free-at : (hash at : ℕ) (o : Option NameNode) → slice_get nodes at ≡ o → (onward : NameNode → Stop) → ((n : NameNode) → slice_get nodes at ≡ Some n → onward n ≡ Free last digit → slice_index m.next digit ≡ 0)
      → stop_at name hash at o onward ≡ Free last digit → slice_index m.next digit ≡ 0
  free-at hash at None is onward more e = absurd (false≢true (ap is_free e))
  free-at hash at (Some n) is onward more e = more n is (free_or (nat_eq n.hash hash) (bytes_eq n.name.items name) at last digit (onward n) e)

  -- a way that ends free at a node's digit has nothing behind it there
  pub stop-free : (hash left at digits : ℕ) → stop_behind nodes name hash left at digits ≡ Free last digit → slice_index m.next digit ≡ 0
  stop-free hash zero at digits e = free-at hash at (slice_get nodes at) refl (λ n. Full) (λ n is e2. absurd (false≢true (ap is_free e2))) e
  stop-free hash (suc left) at digits e =
      free-at hash at (slice_get nodes at) refl _ (λ n is e2. behind (λ x f. stop-free hash left x (digits / 8) f) n is (nat_eq (slice_index n.next (digits % 8)) 0) refl e2) e
    where
      behind : ((x : ℕ) → stop_behind nodes name hash left x (digits / 8) ≡ Free last digit → slice_index m.next digit ≡ 0) → (n : NameNode) → slice_get nodes at ≡ Some n
          → (b : Bool) → nat_eq (slice_index n.next (digits % 8)) 0 ≡ b → cond b (Free at (digits % 8)) (stop_behind nodes name hash left (slice_index n.next (digits % 8)) (digits / 8)) ≡ Free last digit → slice_index m.next digit ≡ 0
      behind ih n is true none e2 =
          ap (slice_index m.next) (sym (ap digit_of e2))
          ∙ ap (λ x. slice_index x (digits % 8)) (ap next_in (sym is_m ∙ ap (slice_get nodes) (sym (ap place_of e2)) ∙ is))
          ∙ eqb-true (slice_index n.next (digits % 8)) 0 none
      behind ih n is false none e2 = ih (slice_index n.next (digits % 8)) e2

-- What is found in lists of nodes.

pub get-pushed : {A : Type 0} (xs : List A) (y : A) → slice_get (xs ++ y ∷ []) (length xs) ≡ Some y
get-pushed [] y = refl
get-pushed (x ∷ xs) y = get-pushed xs y

pub get-before : {A : Type 0} (xs : List A) (y : A) (i : ℕ) → i < length xs → slice_get (xs ++ y ∷ []) i ≡ slice_get xs i
get-before [] y i lt = absurd (omega (arith, lt))
get-before (x ∷ xs) y zero lt = refl
get-before (x ∷ xs) y (suc i) lt = get-before xs y i (omega (arith, lt))

pub get-set_here : {A : Type 0} (xs : List A) (i : ℕ) (y : A) → i < length xs → slice_get (set xs i y) i ≡ Some y
get-set_here [] i y lt = absurd (omega (arith, lt))
get-set_here (x ∷ xs) zero y lt = refl
get-set_here (x ∷ xs) (suc i) y lt = get-set_here xs i y (omega (arith, lt))

pub get-set_other : {A : Type 0} (xs : List A) (i j : ℕ) (y : A) → j ≢ i → slice_get (set xs i y) j ≡ slice_get xs j
get-set_other [] i j y ne = refl
get-set_other (x ∷ xs) zero zero y ne = absurd (ne refl)
get-set_other (x ∷ xs) zero (suc j) y ne = refl
get-set_other (x ∷ xs) (suc i) zero y ne = refl
get-set_other (x ∷ xs) (suc i) (suc j) y ne = get-set_other xs i j y (λ e. ne (ap suc e))

-- Where a way ends, step by step.

pub stop_of-is : (ns : List NameNode) (name : List ℕ) (hash : ℕ) → stop_of ns name hash ≡ stop_behind ns name hash 21 0 hash
unfolding stop_of
stop_of-is ns name hash = refl

pub stop-nowhere : (ns : List NameNode) (name : List ℕ) (hash left at d : ℕ) → slice_get ns at ≡ None → stop_behind ns name hash left at d ≡ Full
stop-nowhere ns name hash zero at d none = ap (λ o. stop_at name hash at o (λ n. Full)) none
stop-nowhere ns name hash (suc left) at d none = ap (λ o. stop_at name hash at o (onward ns name hash left at d)) none

pub stop-same_hash : (ns : List NameNode) (name : List ℕ) (hash left at d : ℕ) (n : NameNode) → slice_get ns at ≡ Some n → n.hash ≡ hash → stop_behind ns name hash left at d ≡ cond (bytes_eq n.name.items name) (Here at) Full
stop-same_hash ns name hash zero at d n is e =
    ap (λ o. stop_at name hash at o (λ z. Full)) is ∙ ap (λ b. cond b (cond (bytes_eq n.name.items name) (Here at) Full) Full) (eq-eqb n.hash hash e)
stop-same_hash ns name hash (suc left) at d n is e =
    ap (λ o. stop_at name hash at o (onward ns name hash left at d)) is
    ∙ ap (λ b. cond b (cond (bytes_eq n.name.items name) (Here at) Full) (onward ns name hash left at d n)) (eq-eqb n.hash hash e)

other_hash : (a b : ℕ) → a ≢ b → nat_eq a b ≡ false
other_hash a b ne = untrue (nat_eq a b) refl
  where
    untrue : (x : Bool) → nat_eq a b ≡ x → nat_eq a b ≡ false
    untrue true e = absurd (ne (eqb-true a b e))
    untrue false e = e

pub stop-ended : (ns : List NameNode) (name : List ℕ) (hash left at d : ℕ) (n : NameNode) → slice_get ns at ≡ Some n → n.hash ≢ hash → left ≡ 0 → stop_behind ns name hash left at d ≡ Full
stop-ended ns name hash left at d n is ne none =
    ap (λ k. stop_behind ns name hash k at d) none ∙ ap (λ o. stop_at name hash at o (λ z. Full)) is
    ∙ ap (λ b. cond b (cond (bytes_eq n.name.items name) (Here at) Full) Full) (other_hash n.hash hash ne)

pub stop-onward : (ns : List NameNode) (name : List ℕ) (hash left at d : ℕ) (n : NameNode) → slice_get ns at ≡ Some n → n.hash ≢ hash → left ≢ 0 → stop_behind ns name hash left at d ≡ onward ns name hash (left - 1) at d n
stop-onward ns name hash zero at d n is ne more = absurd (more refl)
stop-onward ns name hash (suc left) at d n is ne more =
    let one : left ≡ suc left - 1 = omega arith in
    ap (λ o. stop_at name hash at o (onward ns name hash left at d)) is
    ∙ ap (λ b. cond b (cond (bytes_eq n.name.items name) (Here at) Full) (onward ns name hash left at d n)) (other_hash n.hash hash ne)
    ∙ ap (λ k. onward ns name hash k at d n) one

-- behind a node a way is free where no node is next, and else goes on there
pub onward-free : (ns : List NameNode) (name : List ℕ) (hash left at d : ℕ) (n : NameNode) → slice_index n.next (d % 8) ≡ 0 → onward ns name hash left at d n ≡ Free at (d % 8)
onward-free ns name hash left at d n e = ap (λ x. cond (nat_eq x 0) (Free at (d % 8)) (stop_behind ns name hash left x (d / 8))) e

pub onward-on : (ns : List NameNode) (name : List ℕ) (hash left at d : ℕ) (n : NameNode) → slice_index n.next (d % 8) ≢ 0 → onward ns name hash left at d n ≡ stop_behind ns name hash left (slice_index n.next (d % 8)) (d / 8)
onward-on ns name hash left at d n ne = ap (λ b. cond b (Free at (d % 8)) (stop_behind ns name hash left (slice_index n.next (d % 8)) (d / 8))) (other_hash (slice_index n.next (d % 8)) 0 ne)

-- what a read of a place tells
pub read-some : {A : Type 0} (xs : List A) (i : ℕ) (y : A) → true ≡ nat_lt i (length xs) → y ≡ get_or xs i y → slice_get xs i ≡ Some y
read-some xs i y lt e = slice_get_read xs (length xs) i y refl (ltb-true i (length xs) (sym lt)) e

-- One node of another concept.

-- nodes that lead alike
abbrev pub Alike : Option NameNode → Option NameNode → Type 0
Alike None None = Unit
Alike None (Some m) = ⊥
Alike (Some n) None = ⊥
Alike (Some n) (Some m) = (n.hash ≡ m.hash) × (n.name ≡ m.name) × (n.next ≡ m.next)

pub Alike-itself : (o : Option NameNode) → Alike o o
Alike-itself None = tt
Alike-itself (Some n) = (refl, refl, refl)

stop_at-alike : (name : List ℕ) (hash at : ℕ) (o p : Option NameNode) → Alike o p → (f g : NameNode → Stop) → ((n m : NameNode) → n.next ≡ m.next → f n ≡ g m) → stop_at name hash at o f ≡ stop_at name hash at p g
stop_at-alike name hash at None None a f g same = refl
stop_at-alike name hash at None (Some m) a f g same = absurd a
stop_at-alike name hash at (Some n) None a f g same = absurd a
stop_at-alike name hash at (Some n) (Some m) a f g same =
    ap (λ x. cond (nat_eq x hash) (cond (bytes_eq n.name.items name) (Here at) Full) (f n)) a.0
    ∙ ap (λ v. cond (nat_eq m.hash hash) (cond (bytes_eq v.items name) (Here at) Full) (f n)) a.1
    ∙ ap (λ s. cond (nat_eq m.hash hash) (cond (bytes_eq m.name.items name) (Here at) Full) s) (same n m a.2)

pub stop-alike : (ns ms : List NameNode) → ((i : ℕ) → Alike (slice_get ns i) (slice_get ms i)) → (name : List ℕ) (hash left at digits : ℕ) → stop_behind ns name hash left at digits ≡ stop_behind ms name hash left at digits
stop-alike ns ms a name hash zero at digits = stop_at-alike name hash at _ _ (a at) _ _ (λ n m e. refl)
stop-alike ns ms a name hash (suc left) at digits = stop_at-alike name hash at _ _ (a at) _ _ (λ n m e.
    ap (λ x. cond (nat_eq (slice_index x (digits % 8)) 0) (Free at (digits % 8)) (stop_behind ns name hash left (slice_index x (digits % 8)) (digits / 8))) e
    ∙ ap (λ s. cond (nat_eq (slice_index m.next (digits % 8)) 0) (Free at (digits % 8)) s) (stop-alike ns ms a name hash left (slice_index m.next (digits % 8)) (digits / 8)))

-- One node more.

-- a node before and after one is put behind another, at the digit where the way of the new one ended
pub record KeepsNode (place last digit at : ℕ) (n m : NameNode) : Type 0 where
  pub hash : m.hash ≡ n.hash
  pub name : m.name ≡ n.name
  pub id : m.id ≡ n.id
  pub next : (k : ℕ) → slice_index m.next k ≡ cond (nat_eq at last && nat_eq k digit) place (slice_index n.next k)

-- the nodes `ms` are `ns` and one more, behind the node `last` at this digit
pub record GrowsBehind (ns ms : List NameNode) (last digit : ℕ) (new : NameNode) : Type 0 where
  pub here : slice_get ms (length ns) ≡ Some new
  pub past : (at : ℕ) → length ns < at → slice_get ms at ≡ None
  pub kept : (at : ℕ) (n : NameNode) → slice_get ns at ≡ Some n → (m : NameNode) × (slice_get ms at ≡ Some m) × KeepsNode (length ns) last digit at n m
  pub free : (n : NameNode) → slice_get ns last ≡ Some n → slice_index n.next digit ≡ 0
  pub bare : (k : ℕ) → slice_index new.next k ≡ 0

and-true : (a b : Bool) → (a && b) ≡ true → (a ≡ true) × (b ≡ true)
and-true true true e = (refl, refl)
and-true true false e = absurd (false≢true e)
and-true false b e = absurd (false≢true e)

not_true : (b : Bool) → (b ≡ true → ⊥) → b ≡ false
not_true true n = absurd (n refl)
not_true false n = refl

get-none : {A : Type 0} (xs : List A) (i : ℕ) → slice_get xs i ≡ None → length xs ≤ i
get-none [] i e = omega arith
get-none (x ∷ xs) zero e = let f : Some x ≡ None = e in cc
get-none (x ∷ xs) (suc i) e = let le = get-none xs i e in omega (arith, le)

module _ (ns ms : List NameNode) (last digit : ℕ) (new : NameNode) (g : GrowsBehind ns ms last digit new) (others : List (Vec ℕ Global × ℕ)) where
  -- at the new node another name is told as among the others
  told-new_node : (q : List ℕ) → new.name.items ≢ q → (hash : ℕ) (f : NameNode → Stop) → told_at ms others q (f new) ≡ found_among others q → told_at ms others q (stop_at q hash (length ns) (slice_get ms (length ns)) f) ≡ found_among others q
  told-new_node q ne hash f e =
      ap (λ o. told_at ms others q (stop_at q hash (length ns) o f)) g.here
      ∙ ap (λ c. told_at ms others q (cond (nat_eq new.hash hash) (cond c (Here (length ns)) Full) (f new))) (not_true (bytes_eq new.name.items q) (λ t. ne (bytes_eq-is new.name.items q t)))
      ∙ either (nat_eq new.hash hash)
    where
      either : (b : Bool) → told_at ms others q (cond b Full (f new)) ≡ found_among others q
      either true = refl
      either false = e

  told-at_new : (q : List ℕ) → new.name.items ≢ q → (hash left d : ℕ) → told_at ms others q (stop_behind ms q hash left (length ns) d) ≡ found_among others q
  told-at_new q ne hash zero d = told-new_node q ne hash (λ n. Full) refl
  told-at_new q ne hash (suc left) d = told-new_node q ne hash (onward ms q hash left (length ns) d)
      (ap (λ x. told_at ms others q (cond (nat_eq x 0) (Free (length ns) (d % 8)) (stop_behind ms q hash left x (d / 8)))) (g.bare (d % 8)))

  told-nowhere : (q : List ℕ) (hash left at d : ℕ) → slice_get ms at ≡ None → told_at ms others q (stop_behind ms q hash left at d) ≡ found_among others q
  told-nowhere q hash zero at d none = ap (λ o. told_at ms others q (stop_at q hash at o (λ n. Full))) none
  told-nowhere q hash (suc left) at d none = ap (λ o. told_at ms others q (stop_at q hash at o (onward ms q hash left at d))) none

  -- where no node stood, another name is told as among the others
  told-past : (q : List ℕ) → new.name.items ≢ q → (hash left at d : ℕ) → slice_get ns at ≡ None → told_at ms others q (stop_behind ms q hash left at d) ≡ found_among others q
  told-past q ne hash left at d none = elim (nat_eq at (length ns)) as (λ b. b ≡ nat_eq at (length ns) → told_at ms others q (stop_behind ms q hash left at d) ≡ found_among others q) [
    | true ↦ λ e. ap (λ x. told_at ms others q (stop_behind ms q hash left x d)) (eqb-true at (length ns) (sym e)) ∙ told-at_new q ne hash left d
    | false ↦ λ e. told-nowhere q hash left at d (g.past at (beyond (λ same. false≢true (e ∙ eq-eqb at (length ns) same))))
  ] refl
    where
      beyond : at ≢ length ns → length ns < at
      beyond ne2 = let le = get-none ns at none in grind (arith, le, ne2)

  -- nodes with the same name and concept tell alike, where their ways tell alike further on
  told-alike : (q : List ℕ) (at : ℕ) (b c : Bool) (s t : Stop) → told_at ms others q (Here at) ≡ told_at ns others q (Here at) → told_at ms others q s ≡ told_at ns others q t → told_at ms others q (cond b (cond c (Here at) Full) s) ≡ told_at ns others q (cond b (cond c (Here at) Full) t)
  told-alike q at true true s t here e = here
  told-alike q at true false s t here e = refl
  told-alike q at false c s t here e = e

  told-node : (q : List ℕ) (hash at : ℕ) (n m : NameNode) → slice_get ns at ≡ Some n → slice_get ms at ≡ Some m → KeepsNode (length ns) last digit at n m → (f h : NameNode → Stop)
      → told_at ms others q (f m) ≡ told_at ns others q (h n) → told_at ms others q (stop_at q hash at (slice_get ms at) f) ≡ told_at ns others q (stop_at q hash at (slice_get ns at) h)
  told-node q hash at n m is_n is_m k f h e =
      ap (λ o. told_at ms others q (stop_at q hash at o f)) is_m
      ∙ ap (λ x. told_at ms others q (cond (nat_eq x hash) (cond (bytes_eq m.name.items q) (Here at) Full) (f m))) k.hash
      ∙ ap (λ v. told_at ms others q (cond (nat_eq n.hash hash) (cond (bytes_eq v.items q) (Here at) Full) (f m))) k.name
      ∙ told-alike q at (nat_eq n.hash hash) (bytes_eq n.name.items q) (f m) (h n) (ap (option_map (λ z. z.id)) is_m ∙ ap Some k.id ∙ ap (option_map (λ z. z.id)) (sym is_n)) e
      ∙ ap (λ o. told_at ns others q (stop_at q hash at o h)) (sym is_n)

  -- behind a node that stood another name is told as before, where it is so at all places behind that
  told-onward : (q : List ℕ) → new.name.items ≢ q → (hash left at d : ℕ) (n m : NameNode) → slice_get ns at ≡ Some n → KeepsNode (length ns) last digit at n m
      → ((x : ℕ) → told_at ms others q (stop_behind ms q hash left x (d / 8)) ≡ told_at ns others q (stop_behind ns q hash left x (d / 8)))
      → told_at ms others q (onward ms q hash left at d m) ≡ told_at ns others q (onward ns q hash left at d n)
  told-onward q ne hash left at d n m is_n k ih = ap (λ x. told_at ms others q (step ms x)) (k.next (d % 8)) ∙ go (nat_eq at last && nat_eq (d % 8) digit) refl
    where
      step : List NameNode → ℕ → Stop
      step nodes x = cond (nat_eq x 0) (Free at (d % 8)) (stop_behind nodes q hash left x (d / 8))

      to_new : (b : Bool) → told_at ms others q (cond b (Free at (d % 8)) (stop_behind ms q hash left (length ns) (d / 8))) ≡ found_among others q
      to_new true = refl
      to_new false = told-at_new q ne hash left (d / 8)

      same : (b : Bool) (x : ℕ) → told_at ms others q (cond b (Free at (d % 8)) (stop_behind ms q hash left x (d / 8))) ≡ told_at ns others q (cond b (Free at (d % 8)) (stop_behind ns q hash left x (d / 8)))
      same true x = refl
      same false x = ih x

      was_free : (nat_eq at last && nat_eq (d % 8) digit) ≡ true → slice_index n.next (d % 8) ≡ 0
      was_free e = let both = and-true (nat_eq at last) (nat_eq (d % 8) digit) e in
          ap (slice_index n.next) (eqb-true (d % 8) digit both.1) ∙ g.free n (ap (slice_get ns) (sym (eqb-true at last both.0)) ∙ is_n)

      go : (b : Bool) → b ≡ (nat_eq at last && nat_eq (d % 8) digit) → told_at ms others q (step ms (cond b (length ns) (slice_index n.next (d % 8)))) ≡ told_at ns others q (step ns (slice_index n.next (d % 8)))
      go true e = to_new (nat_eq (length ns) 0) ∙ ap (λ x. told_at ns others q (step ns x)) (sym (was_free (sym e)))
      go false e = same (nat_eq (slice_index n.next (d % 8)) 0) (slice_index n.next (d % 8))

  pub told-kept : (q : List ℕ) → new.name.items ≢ q → (hash left at d : ℕ) → told_at ms others q (stop_behind ms q hash left at d) ≡ told_at ns others q (stop_behind ns q hash left at d)
  told-kept q ne hash zero at d = by (slice_get ns at) refl
    where
      by : (o : Option NameNode) → slice_get ns at ≡ o → told_at ms others q (stop_behind ms q hash zero at d) ≡ told_at ns others q (stop_behind ns q hash zero at d)
      by None is = told-past q ne hash zero at d is ∙ ap (λ o. told_at ns others q (stop_at q hash at o (λ n. Full))) (sym is)
      by (Some n) is = let k = g.kept at n is in told-node q hash at n k.0 is k.1 k.2 (λ z. Full) (λ z. Full) refl
  told-kept q ne hash (suc left) at d = by (λ x. told-kept q ne hash left x (d / 8)) (slice_get ns at) refl
    where
      by : ((x : ℕ) → told_at ms others q (stop_behind ms q hash left x (d / 8)) ≡ told_at ns others q (stop_behind ns q hash left x (d / 8))) → (o : Option NameNode) → slice_get ns at ≡ o → told_at ms others q (stop_behind ms q hash (suc left) at d) ≡ told_at ns others q (stop_behind ns q hash (suc left) at d)
      by ih None is = told-past q ne hash (suc left) at d is ∙ ap (λ o. told_at ns others q (stop_at q hash at o (onward ns q hash left at d))) (sym is)
      by ih (Some n) is = let k = g.kept at n is in
          told-node q hash at n k.0 is k.1 k.2 (onward ms q hash left at d) (onward ns q hash left at d) (told-onward q ne hash left at d n k.0 is k.2 ih)

  -- the new name's way, which ended where the node has come, ends at the node
  module _ (name : List ℕ) (named : new.name.items ≡ name) (hash : ℕ) (hashed : new.hash ≡ hash) where
    told-there : (left d : ℕ) (f : NameNode → Stop) → told_at ms others name (stop_at name hash (length ns) (slice_get ms (length ns)) f) ≡ Some new.id
    told-there left d f =
        ap (λ o. told_at ms others name (stop_at name hash (length ns) o f)) g.here
        ∙ ap (λ b. told_at ms others name (cond b (cond (bytes_eq new.name.items name) (Here (length ns)) Full) (f new))) (eq-eqb new.hash hash hashed)
        ∙ ap (λ c. told_at ms others name (cond c (Here (length ns)) Full)) (ap (bytes_eq new.name.items) (sym named) ∙ bytes_eq-itself new.name.items)
        ∙ ap (option_map (λ z. z.id)) g.here

    pub told-behind : (left d : ℕ) → told_at ms others name (stop_behind ms name hash left (length ns) d) ≡ Some new.id
    told-behind zero d = told-there zero d (λ n. Full)
    told-behind (suc left) d = told-there (suc left) d (onward ms name hash left (length ns) d)

    free-behind : (b c : Bool) (at : ℕ) (s : Stop) → cond b (cond c (Here at) Full) s ≡ Free last digit → (b ≡ false) × (s ≡ Free last digit)
    free-behind true true at s e = absurd (false≢true (ap is_free e))
    free-behind true false at s e = absurd (false≢true (ap is_free e))
    free-behind false c at s e = (refl, e)

    pub told-come : length ns ≢ 0 → (left at d : ℕ) → stop_behind ns name hash left at d ≡ Free last digit → told_at ms others name (stop_behind ms name hash left at d) ≡ Some new.id
    told-come some zero at d e = by (slice_get ns at) refl
      where
        by : (o : Option NameNode) → slice_get ns at ≡ o → told_at ms others name (stop_behind ms name hash zero at d) ≡ Some new.id
        by None is = absurd (false≢true (ap is_free (ap (λ o. stop_at name hash at o (λ n. Full)) (sym is) ∙ e)))
        by (Some n) is =
            let f = free-behind (nat_eq n.hash hash) (bytes_eq n.name.items name) at Full (ap (λ o. stop_at name hash at o (λ z. Full)) (sym is) ∙ e) in
            absurd (false≢true (ap is_free f.1))
    told-come some (suc left) at d e = by (λ x f. told-come some left x (d / 8) f) (slice_get ns at) refl
      where
        by : ((x : ℕ) → stop_behind ns name hash left x (d / 8) ≡ Free last digit → told_at ms others name (stop_behind ms name hash left x (d / 8)) ≡ Some new.id) → (o : Option NameNode) → slice_get ns at ≡ o → told_at ms others name (stop_behind ms name hash (suc left) at d) ≡ Some new.id
        by ih None is = absurd (false≢true (ap is_free (ap (λ o. stop_at name hash at o (onward ns name hash left at d)) (sym is) ∙ e)))
        by ih (Some n) is = there (g.kept at n is) (free-behind (nat_eq n.hash hash) (bytes_eq n.name.items name) at (onward ns name hash left at d n) (ap (λ o. stop_at name hash at o (onward ns name hash left at d)) (sym is) ∙ e))
          where
            step : ℕ → Stop
            step x = cond (nat_eq x 0) (Free at (d % 8)) (stop_behind ms name hash left x (d / 8))

            go : (x : ℕ) (m : NameNode) → x ≡ slice_index n.next (d % 8) → KeepsNode (length ns) last digit at n m → (b : Bool) → b ≡ nat_eq x 0 → cond b (Free at (d % 8)) (stop_behind ns name hash left x (d / 8)) ≡ Free last digit
                → told_at ms others name (step (cond (nat_eq at last && nat_eq (d % 8) digit) (length ns) x)) ≡ Some new.id
            go x m is_x k true zero_x e2 =
                ap (λ b. told_at ms others name (step (cond (b && nat_eq (d % 8) digit) (length ns) x))) (eq-eqb at last (ap place_of e2))
                ∙ ap (λ b. told_at ms others name (step (cond b (length ns) x))) (eq-eqb (d % 8) digit (ap digit_of e2))
                ∙ ap (λ b. told_at ms others name (cond b (Free at (d % 8)) (stop_behind ms name hash left (length ns) (d / 8)))) (not_true (nat_eq (length ns) 0) (λ t. some (eqb-true (length ns) 0 t)))
                ∙ told-behind left (d / 8)
            go x m is_x k false apart e2 =
                ap (λ b. told_at ms others name (step (cond b (length ns) x))) (not_true (nat_eq at last && nat_eq (d % 8) digit) (λ t. false≢true (apart ∙ ap (λ z. nat_eq z 0) (is_x ∙ was_free t))))
                ∙ ap (λ b. told_at ms others name (cond b (Free at (d % 8)) (stop_behind ms name hash left x (d / 8)))) (sym apart)
                ∙ ih x e2
              where
                was_free : (nat_eq at last && nat_eq (d % 8) digit) ≡ true → slice_index n.next (d % 8) ≡ 0
                was_free t = let both = and-true (nat_eq at last) (nat_eq (d % 8) digit) t in
                    ap (slice_index n.next) (eqb-true (d % 8) digit both.1) ∙ g.free n (ap (slice_get ns) (sym (eqb-true at last both.0)) ∙ is)

            there : (m : NameNode) × (slice_get ms at ≡ Some m) × KeepsNode (length ns) last digit at n m → (nat_eq n.hash hash ≡ false) × (onward ns name hash left at d n ≡ Free last digit)
                → told_at ms others name (stop_behind ms name hash (suc left) at d) ≡ Some new.id
            there k f =
                ap (λ o. told_at ms others name (stop_at name hash at o (onward ms name hash left at d))) k.1
                ∙ ap (λ b. told_at ms others name (cond b (cond (bytes_eq k.0.name.items name) (Here at) Full) (onward ms name hash left at d k.0))) (ap (λ x. nat_eq x hash) k.2.hash ∙ f.0)
                ∙ ap (λ x. told_at ms others name (step x)) (k.2.next (d % 8))
                ∙ go (slice_index n.next (d % 8)) k.0 refl k.2 (nat_eq (slice_index n.next (d % 8)) 0) refl f.1

-- The nodes with one more.

index-set : (xs : List ℕ) (i v k : ℕ) → i < length xs → slice_index (set xs i v) k ≡ cond (nat_eq k i) v (slice_index xs k)
index-set xs i v k lt = by (nat_eq k i) refl
  where
    by : (b : Bool) → nat_eq k i ≡ b → slice_index (set xs i v) k ≡ cond (nat_eq k i) v (slice_index xs k)
    by true e = ap (slice_index (set xs i v)) (eqb-true k i e) ∙ get_or-set_same xs i v 0 lt ∙ ap (λ b. cond b v (slice_index xs k)) (sym e)
    by false e = get_or-set_other xs i k v 0 (λ same. false≢true (sym e ∙ eq-eqb k i same)) ∙ ap (λ b. cond b v (slice_index xs k)) (sym e)

-- a node that leads to this place at a digit
abbrev pub leading : (digit place : ℕ) → NameNode → NameNode
leading digit place n = record { hash = n.hash; name = n.name; id = n.id; next = set n.next digit place }

pub grown-behind : (ns : List NameNode) (last digit : ℕ) (old new : NameNode) → slice_get ns last ≡ Some old → digit < length old.next → slice_index old.next digit ≡ 0
    → ((k : ℕ) → slice_index new.next k ≡ 0) → GrowsBehind ns (set (ns ++ new ∷ []) last (leading digit (length ns) old)) last digit new
grown-behind ns last digit old new is within free bare = record {
  here = get-set_other ps last (length ns) m (λ e. omega (arith, e, lt)) ∙ get-pushed ns new;
  past = λ at gt. slice_get_past (set ps last m) at (omega (arith, len, gt));
  kept = λ at n is_n. kept at n is_n (nat_eq at last) refl;
  free = λ n is_n. ap (λ x. slice_index x digit) (ap next_in (sym is_n ∙ is)) ∙ free;
  bare = bare;
}
  where
    ps : List NameNode
    ps = ns ++ new ∷ []

    m : NameNode
    m = leading digit (length ns) old

    lt : last < length ns
    lt = slice_get_within ns last old is

    len : length (set (ns ++ new ∷ []) last (leading digit (length ns) old)) ≡ length ns + 1
    len = length-set (ns ++ new ∷ []) last (leading digit (length ns) old) ∙ length-append ns (new ∷ [])

    before : last < length (ns ++ new ∷ [])
    before = let l = length-append ns (new ∷ []) in omega (arith, l, lt)

    kept : (at : ℕ) (n : NameNode) → slice_get ns at ≡ Some n → (b : Bool) → nat_eq at last ≡ b → (z : NameNode) × (slice_get (set ps last m) at ≡ Some z) × KeepsNode (length ns) last digit at n z
    kept at n is_n true e = let same : n ≡ old = same_Some n old (sym is_n ∙ ap (slice_get ns) (eqb-true at last e) ∙ is) in (
      m,
      ap (slice_get (set ps last m)) (eqb-true at last e) ∙ get-set_here ps last m before,
      record {
        hash = ap (λ z. z.hash) (sym same);
        name = ap (λ z. z.name) (sym same);
        id = ap (λ z. z.id) (sym same);
        next = λ k. index-set old.next digit (length ns) k within ∙ ap (λ z. cond (nat_eq k digit) (length ns) (slice_index z.next k)) (sym same) ∙ ap (λ b. cond (b && nat_eq k digit) (length ns) (slice_index n.next k)) (sym e);
      },
    )
    kept at n is_n false e = (
      n,
      get-set_other ps last at m (λ same. false≢true (sym e ∙ eq-eqb at last same)) ∙ get-before ns new at (slice_get_within ns at n is_n) ∙ is_n,
      record { hash = refl; name = refl; id = refl; next = λ k. ap (λ b. cond (b && nat_eq k digit) (length ns) (slice_index n.next k)) (sym e) },
    )

pub grown-first : (new : NameNode) → ((k : ℕ) → slice_index new.next k ≡ 0) → GrowsBehind [] (new ∷ []) 0 0 new
grown-first new bare = record {
  here = refl;
  past = λ at gt. slice_get_past (new ∷ []) at (omega (arith, gt));
  kept = λ at n is. let f : None ≡ Some n = is in cc;
  free = λ n is. let f : None ≡ Some n = is in cc;
  bare = bare;
}

-- a new node has nothing behind it
zeros : (count k : ℕ) → slice_index (replicate count 0) k ≡ 0
zeros zero k = refl
zeros (suc count) zero = refl
zeros (suc count) (suc k) = zeros count k

pub new_node-bare : (new : NameNode) (hash : ℕ) (v : Vec ℕ Global) (id : ℕ) → new ≡ new_node hash v id → (k : ℕ) → slice_index new.next k ≡ 0
new_node-bare new hash v id e k = ap (λ n. slice_index n.next k) e ∙ zeros 8 k

-- The same of whole ways.

-- where a way ends, in the words of those who ask
pub stop-told : (ns given : List NameNode) (name asked : List ℕ) (hash : ℕ) (s : Stop) → given ≡ ns → asked ≡ name → hash ≡ hash_of name → s ≡ stop_of given asked hash → s ≡ stop_of ns name (hash_of name)
stop-told ns given name asked hash s is_ns is_name hashed e = e ∙ ap (λ z. stop_of z asked hash) is_ns ∙ ap (λ z. stop_of ns z hash) is_name ∙ ap (stop_of ns name) hashed

pub free-of : (ns : List NameNode) (name : List ℕ) (hash last digit : ℕ) (m : NameNode) → slice_get ns last ≡ Some m → stop_of ns name hash ≡ Free last digit → slice_index m.next digit ≡ 0
unfolding stop_of
free-of ns name hash last digit m is e = stop-free ns name last digit m is hash 21 0 hash e

pub here-of : (ns : List NameNode) (name : List ℕ) (hash at : ℕ) → stop_of ns name hash ≡ Here at → HasName ns at name
unfolding stop_of
here-of ns name hash at e = stop-here ns name hash 21 0 hash at e

pub alike-of : (ns ms : List NameNode) → ((i : ℕ) → Alike (slice_get ns i) (slice_get ms i)) → (name : List ℕ) (hash : ℕ) → stop_of ns name hash ≡ stop_of ms name hash
unfolding stop_of
alike-of ns ms a name hash = stop-alike ns ms a name hash 21 0 hash

module _ (ns ms : List NameNode) (last digit : ℕ) (new : NameNode) (g : GrowsBehind ns ms last digit new) (others : List (Vec ℕ Global × ℕ)) where
  pub kept-of : (q : List ℕ) → new.name.items ≢ q → (hash : ℕ) → told_at ms others q (stop_of ms q hash) ≡ told_at ns others q (stop_of ns q hash)
  unfolding stop_of
  kept-of q ne hash = told-kept ns ms last digit new g others q ne hash 21 0 hash

  pub come-of : length ns ≢ 0 → new.hash ≡ hash_of new.name.items → stop_of ns new.name.items (hash_of new.name.items) ≡ Free last digit → told_at ms others new.name.items (stop_of ms new.name.items (hash_of new.name.items)) ≡ Some new.id
  unfolding stop_of
  come-of some hashed e = told-come ns ms last digit new g others new.name.items refl (hash_of new.name.items) hashed some 21 0 (hash_of new.name.items) e

pub first-of : (new : NameNode) → GrowsBehind [] (new ∷ []) 0 0 new → (others : List (Vec ℕ Global × ℕ)) → new.hash ≡ hash_of new.name.items → told_at (new ∷ []) others new.name.items (stop_of (new ∷ []) new.name.items (hash_of new.name.items)) ≡ Some new.id
unfolding stop_of
first-of new g others hashed = told-behind [] (new ∷ []) 0 0 new g others new.name.items refl (hash_of new.name.items) hashed 21 (hash_of new.name.items)
