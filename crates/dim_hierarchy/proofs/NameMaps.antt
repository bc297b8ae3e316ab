-- The map that nodes and the names behind them stand for.
use Rattle.std.proofs.{Common.{ℕ, zero, suc, ◌≡◌, ◌≢◌, ◌<◌, ◌+◌, ◌⊎◌, inl, inr, List, [], ◌∷◌, ◌++◌, length, map, set, Vec, Global, refl, sym, ap, subst, ◌∙◌, cond, Bool, true, false, nat_eq, get_or, eq-eqb, arith}, lemmas.Bool.{eqb-true, false≢true}, lemmas.List.length-append, lemmas.Option.{slice_get_read, slice_get_within, get_or_from_slice_get}}
use Rattle.std.specs.{BTreeMap.is_at, Cmp.Lexicographic.nat_list_cmp_total, FinMap.{slice_cmp-IsAntisymmetric, nat_cmp-IsAntisymmetric}, List.{flat_map, slice_get, slice_index}, Map.KeepsOthers, Option.option_map, Ordering.is_eq, Prelude.{Option, Some, None}}
use Rattle.std.specs.FinMap as fin
use Rattle.dim_hierarchy.proofs.{NameStops.{HasName, GrowsBehind, Alike, Alike-itself, here-of, alike-of, kept-of, come-of, first-of, get-set_here, get-set_other, get-before, leading, grown-behind, grown-first, free-of}, Names.{by_byte, by_byte-is_eq, by_byte-itself}}
use Rattle.dim_hierarchy.specs.{NameNodes.{HaveDigits, IsStop, hash_of, stop_of, found_among, told_at, named_in, entry_of, names_of, name_map}, declared.name_nodes.NameNode.NameNode, declared.name_nodes.Stop.Stop, declared.name_nodes.Stop.TheVariants.{Here, Free, Full}}

-- a name is among these
abbrev pub IsNamed : List (List ℕ) → List ℕ → Type 0
IsNamed [] q = ⊥
IsNamed (k ∷ ks) q = (q ≡ k) ⊎ IsNamed ks q

-- where each name that is told is among the keys, a look-up finds what is told
find-entries : (a : List ℕ → Option ℕ) (keys : List (List ℕ)) (q : List ℕ) → ((v : ℕ) → a q ≡ Some v → IsNamed keys q) → fin.find by_byte q (flat_map (λ k. entry_of k (a k)) keys) ≡ a q
find-entries a [] q has = by (a q) refl
  where
    by : (o : Option ℕ) → a q ≡ o → None ≡ a q
    by None e = sym e
    by (Some v) e = absurd (has v e)
find-entries a (k ∷ ks) q has = by (λ h. find-entries a ks q h) (a k) refl
  where
    rest : List (List ℕ × ℕ)
    rest = flat_map (λ z. entry_of z (a z)) ks

    none_here : a k ≡ None → (v : ℕ) → a q ≡ Some v → (q ≡ k) ⊎ IsNamed ks q → IsNamed ks q
    none_here is v e (inl same) = let f : None ≡ Some v = sym is ∙ ap a (sym same) ∙ e in cc
    none_here is v e (inr later) = later

    apart : is_eq (by_byte q k) ≡ false → (q ≡ k) ⊎ IsNamed ks q → IsNamed ks q
    apart ne (inl same) = absurd (false≢true (sym ne ∙ ap (λ z. is_eq (by_byte z k)) same ∙ ap is_eq (by_byte-itself k)))
    apart ne (inr later) = later

    two : (((v : ℕ) → a q ≡ Some v → IsNamed ks q) → fin.find by_byte q (flat_map (λ z. entry_of z (a z)) ks) ≡ a q) → (w : ℕ) → a k ≡ Some w → (b : Bool) → is_eq (by_byte q k) ≡ b → cond (is_eq (by_byte q k)) (Some w) (fin.find by_byte q rest) ≡ a q
    two ih w is true e = ap (λ b. cond b (Some w) (fin.find by_byte q rest)) e ∙ sym (ap a (by_byte-is_eq q k e) ∙ is)
    two ih w is false e = ap (λ b. cond b (Some w) (fin.find by_byte q rest)) e ∙ ih (λ v e2. apart e (has v e2))

    by : (((v : ℕ) → a q ≡ Some v → IsNamed ks q) → fin.find by_byte q (flat_map (λ z. entry_of z (a z)) ks) ≡ a q) → (o : Option ℕ) → a k ≡ o → fin.find by_byte q (entry_of k (a k) ++ rest) ≡ a q
    by ih None is = ap (λ o. fin.find by_byte q (entry_of k o ++ rest)) is ∙ ih (λ v e. none_here is v e (has v e))
    by ih (Some w) is = ap (λ o. fin.find by_byte q (entry_of k o ++ rest)) is ∙ two ih w is (is_eq (by_byte q k)) refl

IsNamed-node : (ns : List NameNode) (ys : List (List ℕ)) (q : List ℕ) (j : ℕ) (n : NameNode) → slice_get ns j ≡ Some n → n.name.items ≡ q → IsNamed (map (λ z. z.name.items) ns ++ ys) q
IsNamed-node [] ys q j n is named = let f : None ≡ Some n = is in cc
IsNamed-node (m ∷ ns) ys q zero n is named = inl (sym named ∙ sym (ap name_in is))
  where
    name_in : Option NameNode → List ℕ
    name_in None = []
    name_in (Some z) = z.name.items
IsNamed-node (m ∷ ns) ys q (suc j) n is named = inr (IsNamed-node ns ys q j n is named)

IsNamed-other : (os : List (Vec ℕ Global × ℕ)) (q : List ℕ) (v : ℕ) → found_among os q ≡ Some v → IsNamed (map (λ e. e.0.items) os) q
IsNamed-other [] q v e = let f : None ≡ Some v = e in cc
IsNamed-other (o ∷ os) q v e = two (λ f. IsNamed-other os q v f) (is_eq (by_byte q o.0.items)) refl
  where
    two : (found_among os q ≡ Some v → IsNamed (map (λ z. z.0.items) os) q) → (b : Bool) → is_eq (by_byte q o.0.items) ≡ b → (q ≡ o.0.items) ⊎ IsNamed (map (λ z. z.0.items) os) q
    two ih true is = inl (by_byte-is_eq q o.0.items is)
    two ih false is = inr (ih (ap (λ b. cond b (Some o.1) (found_among os q)) (sym is) ∙ e))

IsNamed-behind : (xs ys : List (List ℕ)) (q : List ℕ) → IsNamed ys q → IsNamed (xs ++ ys) q
IsNamed-behind [] ys q h = h
IsNamed-behind (x ∷ xs) ys q h = inr (IsNamed-behind xs ys q h)

named-has : (ns : List NameNode) (os : List (Vec ℕ Global × ℕ)) (q : List ℕ) (v : ℕ) → named_in ns os q ≡ Some v → IsNamed (names_of ns os) q
named-has ns os q v e = by (stop_of ns q (hash_of q)) refl
  where
    other : found_among os q ≡ Some v → IsNamed (names_of ns os) q
    other f = IsNamed-behind (map (λ z. z.name.items) ns) (map (λ z. z.0.items) os) q (IsNamed-other os q v f)

    by : (s : Stop) → stop_of ns q (hash_of q) ≡ s → IsNamed (names_of ns os) q
    by (Here j) is = let there = here-of ns q (hash_of q) j is in IsNamed-node ns (map (λ z. z.0.items) os) q j there.node there.is there.named
    by (Free at digit) is = other (ap (told_at ns os q) (sym is) ∙ e)
    by Full is = other (ap (told_at ns os q) (sym is) ∙ e)

-- a look-up in the map finds what the way of the name leads to
pub get-name_map : (ns : List NameNode) (os : List (Vec ℕ Global × ℕ)) (q : List ℕ) → fin.get (name_map ns os) q ≡ named_in ns os q
get-name_map ns os q = fin.get-from_entries nat_list_cmp_total _ q ∙ find-entries (named_in ns os) (names_of ns os) q (named-has ns os q)

-- a name whose way ends at no node of its own is told as among the others
pub told-others : (ns : List NameNode) (os : List (Vec ℕ Global × ℕ)) (q : List ℕ) (s : Stop) → ((at : ℕ) × (digit : ℕ) × (s ≡ Free at digit)) ⊎ (s ≡ Full) → told_at ns os q s ≡ found_among os q
told-others ns os q s (inl free) = ap (told_at ns os q) free.2
told-others ns os q s (inr full) = ap (told_at ns os q) full

-- a name that comes, as look-ups tell it
abbrev TakesName : (ns ms : List NameNode) (old new : List (Vec ℕ Global × ℕ)) (name : List ℕ) (id : ℕ) → Type 0
TakesName ns ms old new name id = (q : List ℕ) → (b : Bool) → is_eq (by_byte q name) ≡ b → named_in ms new q ≡ cond b (Some id) (named_in ns old q)

names-inserted : (ns ms : List NameNode) (old new : List (Vec ℕ Global × ℕ)) (name : List ℕ) (id : ℕ) → TakesName ns ms old new name id → name_map ms new ≡ fin.insert (name_map ns old) name id
names-inserted ns ms old new name id h = fin.same_map nat_list_cmp_total (slice_cmp-IsAntisymmetric nat_cmp-IsAntisymmetric) _ _ (λ q.
    get-name_map ms new q ∙ h q (is_eq (by_byte q name)) refl
    ∙ sym (fin.get-insert nat_list_cmp_total (name_map ns old) name id q ∙ ap (λ x. cond (is_eq (by_byte q name)) (Some id) x) (get-name_map ns old q)))

apart-names : (q name : List ℕ) → is_eq (by_byte q name) ≡ false → q ≢ name
apart-names q name ne same = false≢true (sym ne ∙ ap (λ z. is_eq (by_byte z name)) same ∙ ap is_eq (by_byte-itself name))

-- a node behind another
pub names-grown : (ns ms : List NameNode) (last digit : ℕ) (new : NameNode) → GrowsBehind ns ms last digit new → (others : List (Vec ℕ Global × ℕ)) → length ns ≢ 0
    → new.hash ≡ hash_of new.name.items → stop_of ns new.name.items (hash_of new.name.items) ≡ Free last digit → name_map ms others ≡ fin.insert (name_map ns others) new.name.items new.id
names-grown ns ms last digit new g others some hashed stop = names-inserted ns ms others others name new.id by
  where
    name : List ℕ
    name = new.name.items

    by : TakesName ns ms others others name new.id
    by q true e = ap (named_in ms others) (by_byte-is_eq q name e) ∙ come-of ns ms last digit new g others some hashed stop
    by q false e = kept-of ns ms last digit new g others q (λ same. apart-names q name e (sym same)) (hash_of q)

-- the first node
pub names-first : (new : NameNode) → GrowsBehind [] (new ∷ []) 0 0 new → (others : List (Vec ℕ Global × ℕ)) → new.hash ≡ hash_of new.name.items → name_map (new ∷ []) others ≡ fin.insert (name_map [] others) new.name.items new.id
names-first new g others hashed = names-inserted [] (new ∷ []) others others name new.id by
  where
    name : List ℕ
    name = new.name.items

    by : TakesName [] (new ∷ []) others others name new.id
    by q true e = ap (named_in (new ∷ []) others) (by_byte-is_eq q name e) ∙ first-of new g others hashed
    by q false e = kept-of [] (new ∷ []) 0 0 new g others q (λ same. apart-names q name e (sym same)) (hash_of q)

-- a node behind another, which is put last as the other one is led to it
pub names-behind : (ns ps : List NameNode) (os : List (Vec ℕ Global × ℕ)) (last digit place : ℕ) (old new : NameNode) → HaveDigits ns → IsStop ns (Free last digit) → ps ≡ ns ++ new ∷ [] → old ≡ get_or ps last old → place ≡ length ns
    → ((k : ℕ) → slice_index new.next k ≡ 0) → new.hash ≡ hash_of new.name.items → stop_of ns new.name.items (hash_of new.name.items) ≡ Free last digit
    → name_map (set ps last (leading digit place old)) os ≡ fin.insert (name_map ns os) new.name.items new.id
names-behind ns ps os last digit place old new digits within pushed was is_place bare hashed stop =
    ap (λ z. name_map (set z last (leading digit place old)) os) pushed
    ∙ ap (λ z. name_map (set (ns ++ new ∷ []) last (leading digit z old)) os) is_place
    ∙ names-grown ns (set (ns ++ new ∷ []) last (leading digit (length ns) old)) last digit new (grown-behind ns last digit old new read fits free bare) os some hashed stop
  where
    read : slice_get ns last ≡ Some old
    read = sym (get-before ns new last within.0) ∙ slice_get_read (ns ++ new ∷ []) (length ns + 1) last old (sym (length-append ns (new ∷ []))) (omega (arith, within.0)) (was ∙ ap (λ z. get_or z last old) pushed)

    some : length ns ≢ 0
    some e = omega (arith, e, within.0)

    free : slice_index old.next digit ≡ 0
    free = free-of ns new.name.items (hash_of new.name.items) last digit old read stop

    fits : digit < length old.next
    fits = let is = get_or_from_slice_get ns last old old read in let eight = ap (λ n. length n.next) (sym is) ∙ digits last old within.0 in omega (arith, eight, within.1)

-- the first node, which is put last as any other
pub names-alone : (ns ps : List NameNode) (os : List (Vec ℕ Global × ℕ)) (new : NameNode) → ns ≡ [] → ps ≡ ns ++ new ∷ [] → ((k : ℕ) → slice_index new.next k ≡ 0) → new.hash ≡ hash_of new.name.items → name_map ps os ≡ fin.insert (name_map ns os) new.name.items new.id
names-alone ns ps os new none pushed bare hashed =
    ap (λ z. name_map z os) (pushed ∙ ap (λ z. z ++ new ∷ []) none) ∙ names-first new (grown-first new bare) os hashed ∙ ap (λ z. fin.insert (name_map z os) new.name.items new.id) (sym none)

-- a name among the others
found-inserted : (old new : List (Vec ℕ Global × ℕ)) (name : Vec ℕ Global) (id : ℕ) → found_among new name.items ≡ Some id → KeepsOthers (λ x y. is_eq (by_byte x.items y.items)) (is_at (λ k. by_byte name.items k.items)) old new
    → (q : List ℕ) → is_eq (by_byte q name.items) ≡ false → found_among new q ≡ found_among old q
unfolding KeepsOthers
found-inserted old new name id here others q ne = others (λ k. is_eq (by_byte q k.items))
    (λ x y t. ap (λ z. is_eq (by_byte z y.items)) (by_byte-is_eq q x.items t))
    (λ k t. ap (λ z. is_eq (by_byte q z)) (sym (by_byte-is_eq name.items k.items t)) ∙ ne)

pub names-others : (ns : List NameNode) (old new : List (Vec ℕ Global × ℕ)) (name : Vec ℕ Global) (id : ℕ) → ((os : List (Vec ℕ Global × ℕ)) → named_in ns os name.items ≡ found_among os name.items)
    → found_among new name.items ≡ Some id → KeepsOthers (λ x y. is_eq (by_byte x.items y.items)) (is_at (λ k. by_byte name.items k.items)) old new → name_map ns new ≡ fin.insert (name_map ns old) name.items id
names-others ns old new name id behind here others = names-inserted ns ns old new name.items id by
  where
    stays : (q : List ℕ) → found_among new q ≡ found_among old q → (s : Stop) → told_at ns new q s ≡ told_at ns old q s
    stays q e (Here at) = refl
    stays q e (Free at digit) = e
    stays q e Full = e

    by : TakesName ns ns old new name.items id
    by q true e = ap (named_in ns new) (by_byte-is_eq q name.items e) ∙ behind new ∙ here
    by q false e = stays q (found-inserted old new name id here others q e) (stop_of ns q (hash_of q))

-- a name that stands for another concept
pub names-replaced : (ns : List NameNode) (others : List (Vec ℕ Global × ℕ)) (name : List ℕ) (at : ℕ) (n m : NameNode) → stop_of ns name (hash_of name) ≡ Here at → slice_get ns at ≡ Some n
    → m.hash ≡ n.hash → m.name ≡ n.name → m.next ≡ n.next → name_map (set ns at m) others ≡ fin.insert (name_map ns others) name m.id
names-replaced ns others name at n m stop is hash same_name next = names-inserted ns (set ns at m) others others name m.id by
  where
    open_ : (i : ℕ) → (b : Bool) → nat_eq i at ≡ b → Alike (slice_get ns i) (slice_get (set ns at m) i)
    open_ i true e = subst (λ z. Alike (slice_get ns z) (slice_get (set ns at m) z)) (sym (eqb-true i at e))
        (subst (λ o. Alike o (slice_get (set ns at m) at)) (sym is) (subst (Alike (Some n)) (sym (get-set_here ns at m (slice_get_within ns at n is))) (sym hash, sym same_name, sym next)))
    open_ i false e = subst (Alike (slice_get ns i)) (sym (get-set_other ns at i m (λ same. false≢true (sym e ∙ eq-eqb i at same)))) (Alike-itself (slice_get ns i))

    stops : (q : List ℕ) → stop_of (set ns at m) q (hash_of q) ≡ stop_of ns q (hash_of q)
    stops q = sym (alike-of ns (set ns at m) (λ i. open_ i (nat_eq i at) refl) q (hash_of q))

    here : HasName ns at name
    here = here-of ns name (hash_of name) at stop

    stays : (q : List ℕ) → q ≢ name → (s : Stop) → stop_of ns q (hash_of q) ≡ s → told_at (set ns at m) others q s ≡ told_at ns others q s
    stays q ne (Here j) e = let there = here-of ns q (hash_of q) j e in
        ap (option_map (λ z. z.id)) (get-set_other ns at j m (λ same. ne (sym there.named ∙ ap name_in (sym there.is ∙ ap (slice_get ns) same ∙ here.is) ∙ here.named)))
      where
        name_in : Option NameNode → List ℕ
        name_in None = []
        name_in (Some z) = z.name.items
    stays q ne (Free j digit) e = refl
    stays q ne Full e = refl

    by : TakesName ns (set ns at m) others others name m.id
    by q true e = ap (named_in (set ns at m) others) (by_byte-is_eq q name e) ∙ ap (told_at (set ns at m) others name) (stops name ∙ stop) ∙ ap (option_map (λ z. z.id)) (get-set_here ns at m (slice_get_within ns at n is))
    by q false e = ap (told_at (set ns at m) others q) (stops q) ∙ stays q (apart-names q name e) (stop_of ns q (hash_of q)) refl

-- The names while one of a concept is sought.

-- each name of the concept is among these
abbrev pub AreLeft : (names : fin.FinMap by_byte ℕ) (id : ℕ) (left : List (List ℕ)) → Type 0
AreLeft names id left = (q : List ℕ) → fin.get names q ≡ Some id → IsNamed left q

pub AreLeft-all : (ns : List NameNode) (os : List (Vec ℕ Global × ℕ)) (names : fin.FinMap by_byte ℕ) (id : ℕ) → name_map ns os ≡ names → AreLeft names id (names_of ns os)
AreLeft-all ns os names id seen q e = named-has ns os q id (sym (get-name_map ns os q) ∙ ap (λ m. fin.get m q) seen ∙ e)

pub AreLeft-next : (names : fin.FinMap by_byte ℕ) (id : ℕ) (name : List ℕ) (left : List (List ℕ)) → AreLeft names id (name ∷ left) → fin.get names name ≢ Some id → AreLeft names id left
AreLeft-next names id name left a other q e = past (a q e)
  where
    past : (q ≡ name) ⊎ IsNamed left q → IsNamed left q
    past (inl same) = absurd (other (ap (fin.get names) (sym same) ∙ e))
    past (inr later) = later

pub AreLeft-none : (names : fin.FinMap by_byte ℕ) (id : ℕ) → AreLeft names id [] → (name : List ℕ) → fin.get names name ≢ Some id
AreLeft-none names id a name e = a name e
