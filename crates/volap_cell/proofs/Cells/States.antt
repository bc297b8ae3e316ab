-- Cells that are moved out of a vector, changed by a kind and put back: what a kind asks is there, and the vectors are the state
-- after its step. One lemma for any number of cells.
use Rattle.std.proofs.{Common.{◌≡◌, ◌≢◌, ℕ, zero, suc, ◌<◌, ◌≤◌, cond, eqb, List, [], ◌∷◌, map, length, Option, Some, None, get_or, set, refl, sym, ap, ◌∙◌, subst, inl, inr, arith}, lemmas.Bool.{cases_lt, eqb-true, eqb-false, ne_eqb}, lemmas.List.{length-set, get_or-set_same, get_or-set_other}}
use Rattle.dim_hierarchy.specs.Dimension.{Dimension}
use Rattle.list_words.specs.Counts.{Each}
use Rattle.list_words.proofs.Truth.{on_bool}
use Rattle.volap_cell.specs.{Cells.{CellValue, cell_of}, Errands.{IsCarried, way_of}, Ghost.Ghost, Invariant.InvWith, Opening.IsFresh, Setting.Setting, State.{Has, IsWorldOf, HasInv, Stand, taken, given, Exchange, numbers_of, cells_before, cells_now, changes_of, still, IsUnkept, MayHold, Stepped}, Steps.{HasSight, Inv, IsHere, Makes}, Values.{ActorValue, ErrandValue, actor_of}, View.view, World.{World, Change, Agrees, MustKeep, after, change, put}, declared.actor.Actor.Actor, declared.cell.Cell.Cell, declared.kind.Kind.Kind}
use Rattle.volap_cell.proofs.Runs.{reached-on}

-- What stands at a place.

-- a place where something stands is one of the vector's
pub within : {A : Type 0} (xs : List (Option A)) (y : ℕ) (x : A) → get_or xs y None ≡ Some x → y < length xs
within [] y x e = (let e2 : None ≡ Some x = e in absurd (cc))
within (o ∷ xs) zero x e = omega arith
within (o ∷ xs) (suc y) x e = (let lt = within xs y x e in omega arith)

pub stands : {A : Type 0} (o : Option A) (P : A → Type 0) → Has o P → (x : A) × (o ≡ Some x) × P x
stands None P p = absurd p
stands (Some x) P p = (x, refl, p)

pub of-it : {A : Type 0} (o : Option A) (P : A → Type 0) (x : A) → Has o P → o ≡ Some x → P x
of-it None P x p e = absurd p
of-it (Some y) P x p e = (let s : y ≡ x = cc in subst P s p)

pub is-some : {A : Type 0} (o : Option A) (P : A → Type 0) (x : A) → o ≡ Some x → P x → Has o P
is-some {A} o P x e p = subst (λ (z : Option A). Has z P) (sym e) p

-- Taking out and putting in.

pub length-taken : {A : Type 0} (ys : List ℕ) (xs : List (Option A)) → length (taken ys xs) ≡ length xs
length-taken [] xs = refl
length-taken (y ∷ ys) xs = length-taken ys (set xs y None) ∙ length-set xs y None

pub length-given : {A : Type 0} (things : List (ℕ × A)) (xs : List (Option A)) → length (given things xs) ≡ length xs
length-given [] xs = refl
length-given (t ∷ things) xs = length-set (given things xs) t.0 (Some t.1) ∙ length-given things xs

-- what isn't taken stays
pub taken-off : {A : Type 0} (ys : List ℕ) (xs : List (Option A)) (y : ℕ) → Each (λ z. y ≢ z) ys → get_or (taken ys xs) y None ≡ get_or xs y None
taken-off [] xs y off = refl
taken-off (z ∷ zs) xs y off = taken-off zs (set xs z None) y off.1 ∙ get_or-set_other xs z y None None off.0

-- what is put in a place is there, and every other place is as it was
get-set : {A : Type 0} (xs : List A) (i : ℕ) (v d : A) → i < length xs → (j : ℕ) → get_or (set xs i v) j d ≡ cond (eqb j i) v (get_or xs j d)
get-set xs i v d h j = on_bool (eqb j i)
    (λ q. let e = eqb-true _ _ q in rw q (ap (λ (k : ℕ). get_or (set xs i v) k d) e ∙ get_or-set_same xs i v d h))
    (λ q. let ne = eqb-false _ _ q in rw q (get_or-set_other xs i j v d ne))

-- a cell that is one of those put back, or that wasn't taken
given-at : (xs : List Exchange) (base : List (Option Cell)) (cells : ℕ → CellValue) (y : ℕ) → Each (λ x. x.number < length base) xs
    → (Each (λ z. y ≢ z) (numbers_of xs) → Has (get_or base y None) (λ c. cell_of c ≡ cells y))
    → Has (get_or (given (cells_now xs) base) y None) (λ c. cell_of c ≡ put (changes_of xs) cells y)
given-at [] base cells y lt f = f tt
given-at (x ∷ xs) base cells y lt f =
    let here : x.number < length (given (cells_now xs) base) = (let l = length-given (cells_now xs) base in let m = lt.0 in omega arith) in
    on_bool (eqb y x.number)
    (λ q. let e = eqb-true _ _ q in
    let got : get_or (set (given (cells_now xs) base) x.number (Some x.now)) y None ≡ Some x.now = get-set (given (cells_now xs) base) x.number (Some x.now) None here y ∙ (rw q refl) in
    is-some (get_or (set (given (cells_now xs) base) x.number (Some x.now)) y None) (λ c. cell_of c ≡ cond (eqb y x.number) (cell_of x.now) (put (changes_of xs) cells y)) x.now got (rw q refl))
    (λ q. let ne = eqb-false _ _ q in
    let got : get_or (set (given (cells_now xs) base) x.number (Some x.now)) y None ≡ get_or (given (cells_now xs) base) y None = get_or-set_other (given (cells_now xs) base) x.number y (Some x.now) None ne in
    let old : Has (get_or (given (cells_now xs) base) y None) (λ c. cell_of c ≡ cond (eqb y x.number) (cell_of x.now) (put (changes_of xs) cells y)) = rw q (given-at xs base cells y lt.1 (λ off. f (ne, off))) in
    subst (λ (o : Option Cell). Has o (λ c. cell_of c ≡ cond (eqb y x.number) (cell_of x.now) (put (changes_of xs) cells y))) (sym got) old)

stand-within : (cells : List (Option Cell)) (xs : List Exchange) → Stand cells (cells_before xs) → Each (λ x. x.number < length cells) xs
stand-within cells [] st = tt
stand-within cells (x ∷ xs) st = (within cells x.number x.before st.0, stand-within cells xs st.1)

past : (xs : List Exchange) (cells : ℕ → CellValue) (y k : ℕ) → Each (λ x. x.number < k) xs → k ≤ y → put (changes_of xs) cells y ≡ cells y
past [] cells y k lt le = refl
past (x ∷ xs) cells y k lt le = (let l = lt.0 in let ne : y ≢ x.number = (λ e. absurd (omega arith)) in rw (ne_eqb y x.number ne) (past xs cells y k lt.1 le))

-- the state after the commit
pub world-after : (cells : List (Option Cell)) (actors : List (Option Actor)) (w : World) (xs : List Exchange) (n : ℕ) (now : Actor)
    → IsWorldOf cells actors w → Each (λ x. x.number < length cells) xs → n < length actors
    → IsWorldOf (given (cells_now xs) (taken (numbers_of xs) cells)) (set (set actors n None) n (Some now)) (after w (changes_of xs) n (actor_of now))
world-after cells actors w xs n now is lt ln =
    let many : length (given (cells_now xs) (taken (numbers_of xs) cells)) ≡ length cells = length-given (cells_now xs) (taken (numbers_of xs) cells) ∙ length-taken (numbers_of xs) cells in
    let some : length (set (set actors n None) n (Some now)) ≡ length actors = length-set (set actors n None) n (Some now) ∙ length-set actors n None in
    let ln2 : n < length (set actors n None) = (let l = length-set actors n None in omega arith) in
    record {
      cell = λ y ly. (let ly2 : y < length cells = omega arith in
          given-at xs (taken (numbers_of xs) cells) w.cells y (rw (length-taken (numbers_of xs) cells) lt)
          (λ off. subst (λ (o : Option Cell). Has o (λ c. cell_of c ≡ w.cells y)) (sym (taken-off (numbers_of xs) cells y off)) (is.cell y ly2)));
      no_cell = λ y ly. (let ly2 : length cells ≤ y = omega arith in past xs w.cells y (length cells) lt ly2 ∙ is.no_cell y ly2);
      actor = λ a la. (let la2 : a < length actors = omega arith in
          on_bool (eqb a n)
          (λ q. let got : get_or (set (set actors n None) n (Some now)) a None ≡ Some now = get-set (set actors n None) n (Some now) None ln2 a ∙ (rw q refl) in
          is-some (get_or (set (set actors n None) n (Some now)) a None) (λ x. actor_of x ≡ cond (eqb a n) (actor_of now) (w.actors a)) now got (rw q refl))
          (λ q. let ne = eqb-false _ _ q in
          let got : get_or (set (set actors n None) n (Some now)) a None ≡ get_or actors a None = get-set (set actors n None) n (Some now) None ln2 a ∙ (rw q (get_or-set_other actors n a None None ne)) in
          let old : Has (get_or actors a None) (λ x. actor_of x ≡ cond (eqb a n) (actor_of now) (w.actors a)) = rw q (is.actor a la2) in
          subst (λ (o : Option Actor). Has o (λ x. actor_of x ≡ cond (eqb a n) (actor_of now) (w.actors a))) (sym got) old));
      no_actor = λ a la. (let la2 : length actors ≤ a = omega arith in
          let ne : a ≢ n = (λ e. absurd (omega arith)) in
          subst (λ (x : ActorValue). IsFresh x.setting a x) (sym (rw (ne_eqb a n ne) refl)) (is.no_actor a la2));
    }

-- What a kind asks.

-- each of some cells that stand at their places is that of the state
pub stand-world : (cells : List (Option Cell)) (actors : List (Option Actor)) (w : World) (things : List (ℕ × Cell)) → IsWorldOf cells actors w → Stand cells things → Each (λ t. w.cells t.0 ≡ cell_of t.1) things
stand-world cells actors w [] is st = tt
stand-world cells actors w (t ∷ things) is st = (
  sym (of-it (get_or cells t.0 None) (λ c. cell_of c ≡ w.cells t.0) t.1 (is.cell t.0 (within cells t.0 t.1 st.0)) st.0),
  stand-world cells actors w things is st.1,
)

two-of : (o : Option Actor) (v : ActorValue) (y : ℕ) → Has o (λ x. actor_of x ≡ v) → Has o (λ x. ¬ MustKeep (actor_of x) y) → MustKeep v y → ⊥
two-of None v y a b k = absurd a
two-of (Some x) v y a b k = b (subst (λ (z : ActorValue). MustKeep z y) (sym a) k)

fresh-keeps : (s : Setting) (a y : ℕ) (x : ActorValue) → IsFresh s a x → MustKeep x y → ⊥
fresh-keeps s a y x fresh k = subst (λ (e : Option ErrandValue). IsCarried (way_of e) y) fresh.errand k

-- a cell that no other actor of the vector must keep is one that no other actor of the state must keep
pub unkept-world : (cells : List (Option Cell)) (actors : List (Option Actor)) (w : World) (n y a : ℕ) → IsWorldOf cells actors w → IsUnkept actors n y → a ≢ n → ¬ MustKeep (w.actors a) y
unkept-world cells actors w n y a is unkept ne = λ k. elim (cases_lt a (length actors)) [
  | inl lt ↦ two-of (get_or actors a None) (w.actors a) y (is.actor a lt) (unkept a ne lt) k
  | inr ge ↦ fresh-keeps (w.actors a).setting a y (w.actors a) (is.no_actor a ge) k
]

pub same-actor : (cells : List (Option Cell)) (actors : List (Option Actor)) (w : World) (n : ℕ) (a : Actor) → IsWorldOf cells actors w → get_or actors n None ≡ Some a → w.actors n ≡ actor_of a
same-actor cells actors w n a is e = sym (of-it (get_or actors n None) (λ x. actor_of x ≡ w.actors n) a (is.actor n (within actors n a e)) e)

each-of : {A B : Type 0} (f : A → B) (P : B → Type 0) (xs : List A) → Each (λ x. P (f x)) xs → Each P (map f xs)
each-of f P [] e = tt
each-of f P (x ∷ xs) e = (e.0, each-of f P xs e.1)

-- the same of what a list is made from
each-from : {A B : Type 0} (f : A → B) (P : B → Type 0) (xs : List A) → Each P (map f xs) → Each (λ x. P (f x)) xs
each-from f P [] e = tt
each-from f P (x ∷ xs) e = (e.0, each-from f P xs e.1)

all-unkept : (cells : List (Option Cell)) (actors : List (Option Actor)) (w : World) (n a : ℕ) (things : List (ℕ × Cell)) → IsWorldOf cells actors w → Each (λ t. IsUnkept actors n t.0) things → a ≢ n → Each (λ t. ¬ MustKeep (w.actors a) t.0) things
all-unkept cells actors w n a [] is u ne = tt
all-unkept cells actors w n a (t ∷ things) is u ne = (unkept-world cells actors w n t.0 a is u.0 ne, all-unkept cells actors w n a things is u.1 ne)

-- the state agrees with what may be held of it
pub agrees-world : (cells : List (Option Cell)) (actors : List (Option Actor)) (w : World) (xs : List Exchange) (n : ℕ) (a : Actor)
    → IsWorldOf cells actors w → MayHold cells actors (cells_before xs) n a → Agrees w (changes_of xs) n (actor_of a)
agrees-world cells actors w xs n a is may =
    let at : Exchange → ℕ × Cell = λ x. (x.number, x.before) in
    let to : Exchange → Change = λ x. change x.number (cell_of x.before) (cell_of x.now) in
    record {
      cells = each-of to (λ (c : Change). w.cells c.number ≡ c.before) xs (each-from at (λ (t : ℕ × Cell). w.cells t.0 ≡ cell_of t.1) xs (stand-world cells actors w (cells_before xs) is may.stand));
      actor_is = same-actor cells actors w n a is may.actor_is;
      free = λ b ne. each-of to (λ (c : Change). ¬ MustKeep (w.actors b) c.number) xs
          (each-from at (λ (t : ℕ × Cell). ¬ MustKeep (w.actors b) t.0) xs (all-unkept cells actors w n b (cells_before xs) is may.unkept ne));
    }

pub agrees-still : (cells : List (Option Cell)) (actors : List (Option Actor)) (w : World) (things : List (ℕ × Cell)) (n : ℕ) (a : Actor)
    → IsWorldOf cells actors w → MayHold cells actors things n a → Agrees w (still things) n (actor_of a)
agrees-still cells actors w things n a is may =
    let to : ℕ × Cell → Change = λ t. change t.0 (cell_of t.1) (cell_of t.1) in
    record {
      cells = each-of to (λ (c : Change). w.cells c.number ≡ c.before) things (stand-world cells actors w things is may.stand);
      actor_is = same-actor cells actors w n a is may.actor_is;
      free = λ b ne. each-of to (λ (c : Change). ¬ MustKeep (w.actors b) c.number) things (all-unkept cells actors w n b things is may.unkept ne);
    }

-- what an actor is about is what the state is about
pub same-setting : (s : Setting) (cells : List (Option Cell)) (actors : List (Option Actor)) (w : World) (ghost : Ghost) (n : ℕ) (a : Actor)
    → IsWorldOf cells actors w → InvWith s (view s w) ghost → get_or actors n None ≡ Some a → (actor_of a).setting ≡ s
same-setting s cells actors w ghost n a is holds e = ap (λ (x : ActorValue). x.setting) (sym (same-actor cells actors w n a is e)) ∙ holds.numbering.about n

-- what each kind asks is there: a state that meets the invariant has these cells and this actor
pub is-here : (h : List Dimension) (cells : List (Option Cell)) (actors : List (Option Actor)) (things : List (ℕ × Cell)) (n : ℕ) (a : Actor)
    → HasInv h cells actors → MayHold cells actors things n a → IsHere h (still things) (actor_of a)
is-here h cells actors things n a has may =
    let same = same-setting has.setting cells actors has.world has.inv.ghost_of n a has.is has.inv.holds may.actor_is in
    record {
      about = ap (λ (s : Setting). s.hierarchy) same ∙ has.hierarchy;
      world = has.world;
      number = n;
      inv = subst (λ (s : Setting). Inv s has.world) (sym same) has.inv;
      agrees = agrees-still cells actors has.world things n a has.is may;
    }

-- What becomes of the vectors.

-- whatever state they were, they are the state after one step of the kind
pub has-stepped : (h : List Dimension) (kind : Kind) (cells : List (Option Cell)) (actors : List (Option Actor)) (xs : List Exchange) (n : ℕ) (a now : Actor)
    → MayHold cells actors (cells_before xs) n a → (makes : Makes h kind (changes_of xs) (actor_of a) (actor_of now))
    → ((s : Setting) (w : World) → s.hierarchy ≡ h → IsWorldOf cells actors w → Inv s w → HasSight s w n h kind (changes_of xs) (actor_of a) (actor_of now) makes.does)
    → Stepped h kind n cells actors (given (cells_now xs) (taken (numbers_of xs) cells)) (set (set actors n None) n (Some now))
has-stepped h kind cells actors xs n a now may makes sight = record {
  cells_kept = length-given (cells_now xs) (taken (numbers_of xs) cells) ∙ length-taken (numbers_of xs) cells;
  actors_kept = length-set (set actors n None) n (Some now) ∙ length-set actors n None;
  step = λ s w ghost same is holds reached. (
      let kept = makes.keeps s w n ghost same holds (agrees-world cells actors w xs n a is may) (sight s w same is (record { ghost_of = ghost; holds = holds; reached = reached })) in
      record {
        now = after w (changes_of xs) n (actor_of now);
        is = world-after cells actors w xs n now is (stand-within cells xs may.stand) (within actors n a may.actor_is);
        kept = kept;
        reached = reached-on s kind n w (after w (changes_of xs) n (actor_of now)) reached kept.step;
      });
}

-- the same of vectors that are known by equations
pub stepped-to : (h : List Dimension) (kind : Kind) (n : ℕ) (cells xs ys : List (Option Cell)) (actors zs us : List (Option Actor)) → ys ≡ xs → us ≡ zs → Stepped h kind n cells actors xs zs → Stepped h kind n cells actors ys us
stepped-to h kind n cells xs ys actors zs us e f s =
    subst (λ (vs : List (Option Cell)). Stepped h kind n cells actors vs us) (sym e) (subst (λ (vs : List (Option Actor)). Stepped h kind n cells actors xs vs) (sym f) s)

-- A driver's step in one: with the cells and the actor moved out, the kind made, and all put back, the vectors are stepped on.
pub drives : (h : List Dimension) (kind : Kind) (cells cells_out cells_back : List (Option Cell)) (actors actors_out actors_back : List (Option Actor)) (xs : List Exchange) (n : ℕ) (a now : Actor)
    → cells_out ≡ taken (numbers_of xs) cells → actors_out ≡ set actors n None → cells_back ≡ given (cells_now xs) cells_out → actors_back ≡ set actors_out n (Some now)
    → MayHold cells actors (cells_before xs) n a → (makes : Makes h kind (changes_of xs) (actor_of a) (actor_of now))
    → ((s : Setting) (w : World) → s.hierarchy ≡ h → IsWorldOf cells actors w → Inv s w → HasSight s w n h kind (changes_of xs) (actor_of a) (actor_of now) makes.does)
    → Stepped h kind n cells actors cells_back actors_back
drives h kind cells cells_out cells_back actors actors_out actors_back xs n a now e f e2 f2 may makes sight =
    stepped-to h kind n cells (given (cells_now xs) (taken (numbers_of xs) cells)) cells_back actors (set (set actors n None) n (Some now)) actors_back
    (e2 ∙ ap (λ (zs : List (Option Cell)). given (cells_now xs) zs) e) (f2 ∙ ap (λ (zs : List (Option Actor)). set zs n (Some now)) f)
    (has-stepped h kind cells actors xs n a now may makes sight)
