-- The rule holds at the start, and what it says at the end.
use Rattle.std.proofs.Common.{◌≡◌, ◌≢◌, ℕ, zero, suc, ◌+◌, ◌-◌, ◌<◌, List, [], ◌∷◌, map, replicate, length, get_or, false, sym, refl, ap, ◌∙◌, subst, ⊎_elim, inl, inr, arith, Option, Some}
use mathlib.Core.Option.{none, some, some-ne-none, some-injective}
use mathlib.Core.Option as maybe
use lib.ListN.{get_elem?, length-map, length-replicate}
use Rattle.atomic_table.specs.Table.{State, Me, opening, Final, Seen}
use Rattle.atomic_table.proofs.Lists.{at_map}
use Rattle.turn_table.specs.{Law.IsClosed, Numbered.{value_of, numbers_of, HaveOwnNumbers, with_numbers, Extends}, Rule.{Agrees, IsPlaced, Rests, IsHeld, IsUnderTurns}, Seat.IsSeated, Views.{HasAll, seen_of, first_view}, declared.view.View.View}
use Rattle.turn_table.proofs.{Allowed.{only_active, all_seen, possible}, Numbered.{find_here, find_else, found, some_or_none, there, starts_self, starts_nil}}

module _ {A : Type 0} where
  numbered_at : (n : ℕ) (xs : List A) (i : ℕ) (a : A) → value_of (with_numbers n xs) i ≡ some a → (j : ℕ) × (i ≡ n + j) × (get_elem? xs j ≡ some a)
  numbered_at n [] i a e = absurd (some-ne-none a (sym e))
  numbered_at n (x ∷ xs) i a e = ⊎_elim
      (λ (t : (n ≡ i) × (x ≡ a)). (0, omega arith, ap (λ (z : A). some z) t.1))
      (λ (t : (n ≢ i) × (value_of (with_numbers (n + 1) xs) i ≡ some a)). let u = numbered_at (n + 1) xs i a t.1 in (suc u.0, (let e1 : i ≡ n + 1 + u.0 = u.1 in omega arith), u.2))
      (found (with_numbers (n + 1) xs) n i x a e)

  numbered_has : (n : ℕ) (xs : List A) (j : ℕ) (a : A) → get_elem? xs j ≡ some a → value_of (with_numbers n xs) (n + j) ≡ some a
  numbered_has n [] j a e = absurd (some-ne-none a (sym e))
  numbered_has n (x ∷ xs) zero a e = let z : n + 0 ≡ n = omega arith in ap (value_of (with_numbers n (x ∷ xs))) z ∙ (find_here (with_numbers (n + 1) xs) n x ∙ e)
  numbered_has n (x ∷ xs) (suc j) a e = let ne : n ≢ n + suc j = λ q. omega arith in let s : n + suc j ≡ n + 1 + j = omega arith in
      find_else (with_numbers (n + 1) xs) n (n + suc j) x ne ∙ (ap (value_of (with_numbers (n + 1) xs)) s ∙ numbered_has (n + 1) xs j a e)

  pub numbered_own : (xs : List A) (i : ℕ) (a : A) → value_of (with_numbers 0 xs) i ≡ some a → get_elem? xs i ≡ some a
  numbered_own xs i a e = let t = numbered_at 0 xs i a e in let h : i ≡ t.0 = let u : i ≡ 0 + t.0 = t.1 in omega arith in ap (get_elem? xs) h ∙ t.2

  pub numbered_find : (xs : List A) (i : ℕ) (a : A) → get_elem? xs i ≡ some a → value_of (with_numbers 0 xs) i ≡ some a
  numbered_find xs i a e = let z : i ≡ 0 + i = omega arith in ap (value_of (with_numbers 0 xs)) z ∙ numbered_has 0 xs i a e

  -- nothing before the first number has a place
  numbered_before : (n : ℕ) (xs : List A) (i : ℕ) → i < n → value_of (with_numbers n xs) i ≡ none
  numbered_before n xs i low = elim (some_or_none (value_of (with_numbers n xs) i)) [
    | inl t ↦ absurd (let u = numbered_at n xs i t.0 t.1 in let e : i ≡ n + u.0 = u.1 in omega arith)
    | inr e ↦ e
  ]

  pub numbered_apart : (n : ℕ) (xs : List A) → HaveOwnNumbers (with_numbers n xs)
  numbered_apart n [] = tt
  numbered_apart n (x ∷ xs) = (numbered_before (n + 1) xs n (omega arith), numbered_apart (n + 1) xs)

get_or_replicate : (n k : ℕ) → get_or (replicate {A = ℕ} n 0) k 0 ≡ 0
get_or_replicate zero k = refl
get_or_replicate (suc n) zero = refl
get_or_replicate (suc n) (suc k) = get_or_replicate n k

module _ {Cell Actor Entry : Type 0} (invariant : List Cell → List Actor → Type 0) (log_at : ℕ) (log : Cell → List Entry) (needs : Actor → ℕ → Type 0) (count : ℕ) where
  abbrev V : Type 0
  V = View Cell Actor Entry

  abbrev Rule : State (Option Cell) V → Type 0
  Rule = IsUnderTurns invariant log_at log needs count

  first_active : (cells : List Cell) (actors : List Actor) → 0 < length actors → (first_view log_at log cells actors).actors ≢ []
  first_active cells [] h = absurd (omega arith)
  first_active cells (a ∷ as') h = λ e. absurd (cc)

  only_first : (v d : V) (j : ℕ) → get_elem? (v ∷ []) j ≡ some d → (j ≡ 0) × (v ≡ d)
  only_first v d zero e = (refl, some-injective v d e)
  only_first v d (suc j) e = absurd (some-ne-none d (sym e))

  pub opens : (cells : List Cell) (actors : List Actor) → 0 < length actors → length actors ≡ count → log_at < length cells → invariant cells actors → ((i : ℕ) (a : Actor) (k : ℕ) → get_elem? actors i ≡ some a → needs a k → ⊥)
      → Rule (opening (replicate (length cells) 0) (map Some cells) (first_view log_at log cells actors))
  opens cells actors some_actor many logged valid idle =
      let w : V = first_view log_at log cells actors in
      let active : w.actors ≢ [] = first_active cells actors some_actor in record {
        cells = cells;
        actors = actors;
        holder = λ _. 0;
        home = λ _. 0;
        wide = length-replicate (length cells) 0;
        deep = length-map (map Some cells) (λ (x : Option Cell). some x) ∙ length-map cells (λ (x : Cell). Some x);
        many = many;
        logged = logged;
        valid = valid;
        each_cell = λ k c e. inl (get_or_replicate (length cells) k, at_map (λ (x : Option Cell). some x) (map Some cells) k (Some c) (at_map (λ (x : Cell). Some x) cells k c e));
        each_seat = λ j v e. let t = only_first w v j e in subst (λ (z : ℕ × V). Agrees log_at log cells actors z.1 × IsPlaced needs (λ _. 0) (λ _. 0) (replicate (length cells) 0) z.0 z.1) (λ i. (sym t.0 i, t.1 i)) (
          record {
            held = λ k c f. absurd (some-ne-none c (sym f));
            own = λ i a f. numbered_own actors i a f;
            seen = λ c f. subst (λ (o : maybe.Option Cell). Extends (log c) (seen_of log o [])) (sym f) (starts_self (log c));
            told = λ c f. starts_nil (log c);
            fresh = λ c f. absurd (some-ne-none c (sym f));
          },
          record {
            holds = λ k c f. absurd (some-ne-none c (sym f));
            has = λ i a f. refl;
            distinct = tt;
            apart = numbered_apart 0 actors;
            own = λ _. let b = there actors (length actors - 1) (omega arith) in (b.0, numbered_find actors (length actors - 1) b.0 b.1);
            bare = λ e. absurd (active e);
            keep = λ i a j f n. absurd (idle i a j (numbered_own actors i a f) n);
          },
        );
        each_count = λ j v e n. let t = only_first w v j e in (ap (λ (u : V). u.cell_count) (sym t.1), ap (λ (u : V). u.actor_count) (sym t.1));
        each_actor = λ i a e. (w, refl, numbered_find actors i a e);
        each_known = λ j v e all k c f. let t = only_first w v j e in numbered_own cells k c (ap (λ (u : V). value_of u.known k) t.1 ∙ f);
        whole = (0, w, refl, active, λ c f. sym (ap (λ (o : maybe.Option Cell). seen_of log o []) f));
      }

  -- at the end every cell is at home, and with the actors they are a valid state
  pub closes : (ws : List ℕ) (xs : List (Option Cell)) (id : ℕ) (v : V) → HasAll v.actor_count v → v.held ≡ [] → v.actors ≢ [] → Final (Seen Rule id v) ws xs → IsClosed invariant log_at log xs v
  closes ws xs id v own_all bare active f =
      let s : State (Option Cell) V = f.0 in let r : Rule s = f.1.0 in let at : get_elem? s.views id ≡ some v = f.1.1 in
      let mine = r.each_seat id v at in
      let is_count : count ≡ v.actor_count = sym ((r.each_count id v at active).1 ∙ r.many) in
      let all : HasAll count v = subst (λ (n : ℕ). HasAll n v) (sym is_count) own_all in
      let lives = only_active invariant log_at log needs count s r id v at all in
      let home : (k : ℕ) (c : Cell) → get_elem? r.cells k ≡ some c → get_elem? xs k ≡ some (Some c) = λ k c e. ⊎_elim
      (λ (t : Rests s k c). f.4 k (Some c) t.1)
      (λ (t : IsHeld s (r.holder k) k c). absurd (let u : V = t.1.0 in let held_not : u.held ≢ [] = λ q. some-ne-none c (sym t.1.2 ∙ ap (λ (ps : List (ℕ × Cell)). value_of ps k) q) in
      let n : u.actors ≢ [] = λ q. held_not ((r.each_seat (r.holder k) u t.1.1).1.bare q) in held_not (ap (λ (z : V). z.held) (lives (r.holder k) u t.1.1 n) ∙ bare)))
      (r.each_cell k c e) in
      record {
        cells = r.cells;
        actors = r.actors;
        cell_count = sym f.3 ∙ r.deep;
        actor_count = r.many ∙ is_count;
        valid = r.valid;
        each_cell = home;
        own = mine.0.own;
        seen = all_seen invariant log_at log needs count s r id v at all;
        known = r.each_known id v at all;
      }

module _ {Cell Actor Entry : Type 0} (invariant : List Cell → List Actor → Type 0) (log_at : ℕ) (log : Cell → List Entry) (needs : Actor → ℕ → Type 0) where
  pub opens_as : (cells cells' : List Cell) (actors actors' : List Actor) (ws : List ℕ) (slots : List (Option Cell)) → 0 < length actors → log_at < length cells → invariant cells actors → ((i : ℕ) (a : Actor) (k : ℕ) → get_elem? actors i ≡ some a → needs a k → ⊥) → cells' ≡ cells → actors' ≡ actors
      → ws ≡ replicate (length cells) 0 → slots ≡ map Some cells → IsUnderTurns invariant log_at log needs (length actors') (opening ws slots (first_view log_at log cells' actors'))
  opens_as cells cells' actors actors' ws slots any logged valid idle e f w h =
      let P : List Cell × List Actor × List ℕ × List (Option Cell) → Type 0 = λ z. IsUnderTurns invariant log_at log needs (length z.1) (opening z.2 z.3 (first_view log_at log z.0 z.1)) in
      subst P (λ i. (sym e i, sym f i, sym w i, sym h i)) (opens invariant log_at log needs (length actors) cells actors any refl logged valid idle)

  pub first_seated : (cells cells' : List Cell) (actors actors' : List Actor) (words number : ℕ) (row : List (ℕ × Option ℕ)) (m : Me (Option Cell) (View Cell Actor Entry)) → 0 < length actors → log_at < length cells → invariant cells actors → ((i : ℕ) (a : Actor) (k : ℕ) → get_elem? actors i ≡ some a → needs a k → ⊥) → cells' ≡ cells → actors' ≡ actors
      → m ≡ (first_view log_at log cells' actors', []) → number ≡ length actors - 1 → row ≡ [] → IsSeated invariant log_at log needs words number row false m
  first_seated cells cells' actors actors' words number row m any logged valid idle e f is n r =
      let w : View Cell Actor Entry = first_view log_at log cells actors in
      let rule = opens invariant log_at log needs (length actors) cells actors any refl logged valid idle in
      let mine = rule.each_seat 0 w refl in
      let P : Me (Option Cell) (View Cell Actor Entry) → Type 0 = λ z. IsSeated invariant log_at log needs words number row false z in
      let whole : m ≡ (w, []) = is ∙ (λ i. (first_view log_at log (e i) (f i), [])) in
      subst P (sym whole) record {
        numbered = sym n;
        active = first_active invariant log_at log needs (length actors) cells actors any;
        own = mine.1.own (first_active invariant log_at log needs (length actors) cells actors any);
        rows = ap numbers_of r;
        slots = refl;
        distinct = tt;
        possible = possible invariant log_at log needs (length actors) _ rule 0 w refl (first_active invariant log_at log needs (length actors) cells actors any);
        inside = λ k c g. absurd (some-ne-none c (sym g));
      }
