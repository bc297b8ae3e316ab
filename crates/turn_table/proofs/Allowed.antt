-- Each step on a word is allowed.
use Rattle.std.proofs.Common.{◌≡◌, ◌≢◌, ℕ, ◌+◌, ◌<◌, ◌≤◌, eqb, List, [], ◌∷◌, length, get_or, set, sym, refl, ap, ◌∙◌, subst, ⊎_elim, arith, Option, Some, length-set}
use mathlib.Core.Logic.{dite}
use native.Mathlib.Decide.{ℕ_discrete}
use mathlib.Core.Option.{none, some, some-ne-none, some-injective}
use lib.ListN.{get_elem?}
use prog.Atomic.{either}
use Rattle.atomic_table.specs.Table.{State, Me, step, takes as taking, gives as giving, keeps as staying, stepped, Allows, Splits, Joins, rest}
use Rattle.atomic_table.proofs.Lists.{set_here, exchanged}
use Rattle.turn_table.specs.{Law.{Sight, sight, AreSameCells, IsLawful, IsUnkept, IsPossible, Took, GaveBack, Looked, IsCommit, IsRelease}, Numbered.{value_of, HaveOwnNumbers, write_all, replace, Extends}, Rule.{Rests, IsHeld, IsUnderTurns}, Views.{HasAll, seen_of, after_take, after_commit, after_release, after_refusal, after_split, split_view, joined_view, spent_view}, declared.view.View.View}
use Rattle.turn_table.proofs.{Kept.{takes, gives, notes, splits, joins}, Numbered.{below_length, there, length_write_all, write_all_here, write_all_else, starts_self, some_or_none, numbers_replace, replace_found, find_append_first, find_append_second, find_here, find_else, prefix_two, not_empty, without_else, back_in_front, apart_in_front}}

module _ {Cell Actor Entry : Type 0} (invariant : List Cell → List Actor → Type 0) (log_at : ℕ) (log : Cell → List Entry) (needs : Actor → ℕ → Type 0) (count : ℕ) where
  abbrev V : Type 0
  V = View Cell Actor Entry

  abbrev St : Type 0
  St = State (Option Cell) V

  abbrev M : Type 0
  M = Me (Option Cell) V

  abbrev Rule : St → Type 0
  Rule = IsUnderTurns invariant log_at log needs count

  unkept : (s : St) (r : Rule s) (id : ℕ) (v : V) → get_elem? s.views id ≡ some v → IsUnkept needs r.actors v
  unkept s r id v at j x n f g h = ⊎_elim
      (λ (t : (d : Cell) × (value_of v.held n ≡ some d)). absurd (let mine = r.each_seat id v at in let u = r.each_actor j x f in let p = r.each_seat (r.home j) u.0 u.1 in let o = p.1.keep j x n u.2 h in
      let home : r.home j ≡ id = sym (p.1.holds n o.0 o.1).0 ∙ (mine.1.holds n t.0 t.1).0 in let uv : u.0 ≡ v = some-injective u.0 v (sym u.1 ∙ (ap (get_elem? s.views) home ∙ at)) in
      some-ne-none x (sym u.2 ∙ (ap (λ (z : V). value_of z.actors j) uv ∙ g))))
      (λ (e : value_of v.held n ≡ none). e) (some_or_none (value_of v.held n))

  -- the actors that the view says are all are all
  has_all : (s : St) (r : Rule s) (id : ℕ) (v : V) → get_elem? s.views id ≡ some v → v.actors ≢ [] → HasAll v.actor_count v → HasAll count v
  has_all s r id v at active all = subst (λ (n : ℕ). HasAll n v) ((r.each_count id v at active).1 ∙ r.many) all

  -- where a seat has all actors no other has one
  pub only_active : (s : St) (r : Rule s) (id : ℕ) (v : V) → get_elem? s.views id ≡ some v → HasAll count v → (j : ℕ) (u : V) → get_elem? s.views j ≡ some u → u.actors ≢ [] → u ≡ v
  only_active s r id v at all j u e n =
      let mine = r.each_seat id v at in let p = r.each_seat j u e in let o = p.1.own n in
      let i : u.number < count = let b = below_length r.actors u.number o.0 (p.0.own u.number o.0 o.1) in omega (arith, r.many) in let h = all u.number i in
      let same : j ≡ id = sym (p.1.has u.number o.0 o.1) ∙ mine.1.has u.number h.0 h.1 in some-injective u v (sym e ∙ (ap (get_elem? s.views) same ∙ at))

  -- so it has seen the whole list
  pub all_seen : (s : St) (r : Rule s) (id : ℕ) (v : V) → get_elem? s.views id ≡ some v → HasAll count v → (c : Cell) → get_elem? r.cells log_at ≡ some c → log c ≡ v.seen
  all_seen s r id v at all c e = r.whole.4 c e ∙ ap (λ (u : V). u.seen) (only_active s r id v at all r.whole.0 r.whole.1 r.whole.2 r.whole.3)

  -- what the rule says to a seat
  pub possible : (s : St) (r : Rule s) (id : ℕ) (v : V) → get_elem? s.views id ≡ some v → v.actors ≢ [] → IsPossible invariant log_at log needs v
  possible s r id v at active = let counts = r.each_count id v at active in record {
    cells = r.cells;
    actors = r.actors;
    valid = r.valid;
    cell_count = counts.0;
    actor_count = counts.1;
    agrees = (r.each_seat id v at).0;
    unkept = unkept s r id v at;
    known = λ all. r.each_known id v at (has_all s r id v at active all);
    whole = λ all. all_seen s r id v at (has_all s r id v at active all);
  }

  -- the list of the cell after_take begins with what was seen
  starts : (s : St) (r : Rule s) (id k : ℕ) (v : V) (c : Cell) → get_elem? s.views id ≡ some v → get_elem? r.cells k ≡ some c → Extends (after_take log_at log v k c).seen v.seen
  starts s r id k v c at here = dite (ℕ_discrete k log_at)
      (λ (q : k ≡ log_at). subst (λ (o : mathlib.Core.Option.Option Cell). Extends (seen_of log o v.seen) v.seen) (sym (ap (value_of ((k, c) ∷ [])) (sym q) ∙ find_here [] k c)) ((r.each_seat id v at).0.seen c (ap (get_elem? r.cells) (sym q) ∙ here)))
      (λ (n : k ≢ log_at). subst (λ (o : mathlib.Core.Option.Option Cell). Extends (seen_of log o v.seen) v.seen) (sym (find_else [] k log_at c n)) (starts_self v.seen))

  -- a cell that this seat doesn't hold and that isn't free is held by a seat of another number
  another : (s : St) (r : Rule s) (id k : ℕ) (v : V) (c : Cell) → get_elem? s.views id ≡ some v → v.actors ≢ [] → get_elem? r.cells k ≡ some c → get_or s.words k 0 ≢ 0 → value_of v.held k ≡ none → get_or s.words k 0 ≢ v.number + 1
  another s r id k v c at active here busy apart same = ⊎_elim (λ (t : Rests s k c). busy t.0)
      (λ (t : IsHeld s (r.holder k) k c).
      let u : V = t.1.0 in let p = r.each_seat (r.holder k) u t.1.1 in let mine = r.each_seat id v at in
      let w : get_or s.words k 0 ≡ u.number + 1 = (p.1.holds k c t.1.2).1 in let n : u.number ≡ v.number = omega arith in
      let lives : u.actors ≢ [] = λ e. some-ne-none c (sym t.1.2 ∙ ap (λ (ps : List (ℕ × Cell)). value_of ps k) (p.1.bare e)) in
      let o = p.1.own lives in let q = mine.1.own active in
      let home : r.holder k ≡ id = sym (p.1.has u.number o.0 o.1) ∙ (ap r.home n ∙ mine.1.has v.number q.0 q.1) in
      let uv : u ≡ v = some-injective u v (sym t.1.1 ∙ (ap (get_elem? s.views) home ∙ at)) in
      some-ne-none c (sym t.1.2 ∙ (ap (λ (z : V). value_of z.held k) uv ∙ apart)))
      (r.each_cell k c here)

  pub take_allowed : (slots id k : ℕ) (m : M) → m.0.actors ≢ [] → k < slots → Allows Rule slots id m k (λ n. either (eqb n 0) (m.0.number + 1) n) (Took invariant log_at log needs (step slots k 0 (m.0.number + 1) none) m)
  take_allowed slots id k m active inside s r deep at small =
      let n : ℕ = get_or s.words k 0 in
      let within : k < length r.cells = omega (arith, r.deep) in
      let c : (c : Cell) × (get_elem? r.cells k ≡ some c) = there r.cells k within in
      let at' : (w : V) → get_elem? (set s.views id w) id ≡ some w = λ w. set_here s.views id w (below_length s.views id m.0 at) in
      exchanged n 0 (m.0.number + 1)
      (λ (x : ℕ). (w : V) × (a : Rattle.atomic_table.specs.Table.Act (Option Cell)) × Rattle.atomic_table.specs.Table.Valid s.homes m.1 a × Rule (stepped s k x id m.1 w a) × Took invariant log_at log needs (step slots k 0 (m.0.number + 1) none) m n (w, Rattle.atomic_table.specs.Table.carried_after m.1 a))
      (λ free.
      let home : get_elem? s.homes k ≡ some (some (Some c.0)) = ⊎_elim (λ (t : Rests s k c.0). t.1) (λ (t : IsHeld s (r.holder k) k c.0). absurd (t.0 free)) (r.each_cell k c.0 c.1) in
      let r' = takes invariant log_at log needs count s r id k m.0 c.0 at active c.1 free in (
        after_take log_at log m.0 k c.0,
        taking k (Some c.0),
        home,
        r',
        (
          (λ _. (
            c.0,
            refl,
            possible _ r' id (after_take log_at log m.0 k c.0) (at' (after_take log_at log m.0 k c.0)) active,
            starts s r id k m.0 c.0 at c.1,
            λ all d f. some-injective c.0 d (sym c.1 ∙ r.each_known id m.0 at (has_all s r id m.0 at active all) k d f),
          )),
          λ ne. absurd (ne free),
        ),
      ))
      (λ busy.
      (after_refusal m.0 k n, staying, tt, notes invariant log_at log needs count s r id k m.0 (after_refusal m.0 k n) at refl refl refl refl refl refl refl refl, ((λ z. absurd (busy z)), λ _. (refl, another s r id k m.0 c.0 at active c.1 busy))))

  pub take_allowed_as : (slots id k number : ℕ) (m : M) → m.0.number ≡ number → m.0.actors ≢ [] → k < slots → Allows Rule slots id m k (λ n. either (eqb n 0) (number + 1) n) (Took invariant log_at log needs (step slots k 0 (number + 1) none) m)
  take_allowed_as slots id k number m is active inside = let P : ℕ → Type 0 = λ x. Allows Rule slots id m k (λ n. either (eqb n 0) (x + 1) n) (Took invariant log_at log needs (step slots k 0 (x + 1) none) m) in subst P is (take_allowed slots id k m active inside)

  -- a commit at the cell k, which has the new value c'. The other held cells have the values in `others`
  pub commit_allowed : (change : Sight Cell Actor → List (ℕ × Cell) → ℕ → Actor → Actor → Type 0) → IsLawful invariant log_at log needs change
      → (slots id k : ℕ) (m : M) (c' : Cell) (others : List (ℕ × Cell)) (i : ℕ) (a b : Actor) (next : V → V)
      → m.1 ≡ (k, Some c') ∷ rest m.1 → next m.0 ≡ after_commit log_at log m.0 ((k, c') ∷ others) i b
      → AreSameCells m.0.held ((k, c') ∷ others) → HaveOwnNumbers ((k, c') ∷ others) → value_of m.0.actors i ≡ some a → change (sight m.0) ((k, c') ∷ others) i a b
      → ((j : ℕ) (x : Actor) (n : ℕ) → value_of (replace m.0.actors i b) j ≡ some x → needs x n → (d : Cell) × (value_of others n ≡ some d))
      → Allows Rule slots id m k (λ _. 0) (GaveBack invariant log_at log needs next (step slots k 0 0 none) m)
  commit_allowed change law slots id k m c' others i a b next front next_is same distinct has goes left s r deep at small =
      let v : V = m.0 in
      let new : List (ℕ × Cell) = (k, c') ∷ others in
      let w : V = after_commit log_at log v new i b in
      let mine = r.each_seat id v at in
      let h : (e : Cell) × (value_of v.held k ≡ some e) = same.0 k c' (Rattle.turn_table.proofs.Numbered.find_here others k c') in
      let active : v.actors ≢ [] = λ e. some-ne-none a (sym has ∙ ap (λ (ps : List (ℕ × Actor)). value_of ps i) e) in
      let still_active : w.actors ≢ [] = not_empty v.actors (replace v.actors i b) (sym (numbers_replace v.actors i b)) active in
      let counts = r.each_count id v at active in
      let lawful = law r.cells r.actors (sight v) new i a b r.valid counts.0 counts.1 mine.0.held mine.0.own (λ all. r.each_known id v at (has_all s r id v at active all)) (unkept s r id v at) same distinct has goes in
      let here : get_elem? r.actors i ≡ some a = mine.0.own i a has in
      let longer' : Extends w.seen v.seen = ⊎_elim
      (λ (t : (e : Cell) × (value_of new log_at ≡ some e)). let o = same.0 log_at t.0 t.1 in let was = mine.0.held log_at o.0 o.1 in
      subst (λ (l : List Entry). Extends w.seen l) (sym (mine.0.fresh o.0 o.1))
      (subst (λ (l : List Entry). Extends l (log o.0)) (sym (ap (λ (z : mathlib.Core.Option.Option Cell). seen_of log z v.seen) t.1))
      (lawful.1 o.0 t.0 was (write_all_here r.cells new log_at t.0 (below_length r.cells log_at o.0 was) t.1))))
      (λ (n : value_of new log_at ≡ none). subst (λ (z : mathlib.Core.Option.Option Cell). Extends (seen_of log z v.seen) v.seen) (sym n) (starts_self v.seen))
      (some_or_none (value_of new log_at)) in
      let r' : Rule record { words = set s.words k 0; homes = set s.homes k (some (Some c')); views = set s.views id w } =
      gives invariant log_at log needs count s r id k v w h.0 c' (write_all r.cells new) (set r.actors i b) at h.1 distinct same.0 same.1 refl (numbers_replace v.actors i b) lawful.0 (length_write_all r.cells new) (length-set r.actors i b)
      (λ j d f. let o = same.0 j d f in write_all_here r.cells new j d (below_length r.cells j o.0 (mine.0.held j o.0 o.1)) f)
      (λ j f. write_all_else r.cells new j f)
      (λ j x f. ⊎_elim (λ (t : (j ≡ i) × (b ≡ x)). ap (get_elem? (set r.actors i b)) t.0 ∙ (set_here r.actors i b (below_length r.actors i a here) ∙ ap (λ (z : Actor). some z) t.1))
      (λ (t : (j ≢ i) × (value_of v.actors j ≡ some x)). Rattle.atomic_table.proofs.Lists.set_else r.actors i j b t.0 ∙ mine.0.own j x t.1) (replace_found v.actors i j b x a has f))
      (λ j f. Rattle.atomic_table.proofs.Lists.set_else r.actors i j b (λ q. some-ne-none a (sym has ∙ (ap (value_of v.actors) (sym q) ∙ f))))
      lawful.1
      (λ d f. ap (λ (o : mathlib.Core.Option.Option Cell). seen_of log o v.seen) f)
      (λ f. ap (λ (o : mathlib.Core.Option.Option Cell). seen_of log o v.seen) f)
      (λ all k1 c1 f. ⊎_elim
      (λ (t : (x : Cell) × (value_of new k1 ≡ some x)). let o = same.0 k1 t.0 t.1 in let xc : t.0 ≡ c1 = some-injective t.0 c1 (sym (find_append_first new v.known k1 t.0 t.1) ∙ f) in
      write_all_here r.cells new k1 t.0 (below_length r.cells k1 o.0 (mine.0.held k1 o.0 o.1)) t.1 ∙ ap (λ (x : Cell). some x) xc)
      (λ (n : value_of new k1 ≡ none). write_all_else r.cells new k1 n ∙ r.each_known id v at all k1 c1 (sym (find_append_second new v.known k1 n) ∙ f))
      (some_or_none (value_of new k1)))
      left refl refl refl in
      let P : V → Type 0 = λ u. Rule record { words = set s.words k 0; homes = set s.homes k (some (Some c')); views = set s.views id u } in
      let Q : List (ℕ × Option Cell) → Type 0 = λ cs. Rule (stepped s k 0 id cs (next v) giving) in
      (next v, giving, tt, subst Q (sym front) (subst P (sym next_is) r'), (refl, subst (IsPossible invariant log_at log needs) (sym next_is) (possible _ r' id w (set_here s.views id w (below_length s.views id v at)) still_active), subst (λ (u : V). Extends u.seen v.seen) (sym next_is) longer'))

  -- the release of the cell k, which no actor of the seat must keep
  pub release_allowed : (slots id k : ℕ) (m : M) (c : Cell) (next : V → V)
      → m.1 ≡ (k, Some c) ∷ rest m.1 → next m.0 ≡ after_release m.0 k → value_of m.0.held k ≡ some c → HaveOwnNumbers m.0.held
      → ((j : ℕ) (x : Actor) → value_of m.0.actors j ≡ some x → needs x k → ⊥)
      → Allows Rule slots id m k (λ _. 0) (GaveBack invariant log_at log needs next (step slots k 0 0 none) m)
  release_allowed slots id k m c next front next_is had distinct free s r deep at small =
      let v : V = m.0 in
      let w : V = after_release v k in
      let mine = r.each_seat id v at in
      let same = back_in_front v.held k c had in
      let active : v.actors ≢ [] = λ e. some-ne-none c (sym had ∙ ap (λ (ps : List (ℕ × Cell)). value_of ps k) (mine.1.bare e)) in
      let r' : Rule record { words = set s.words k 0; homes = set s.homes k (some (Some c)); views = set s.views id w } =
      gives invariant log_at log needs count s r id k v w c c r.cells r.actors at had (apart_in_front v.held k c distinct) (λ j d f. (d, sym (same j) ∙ f)) (λ j f. sym (same j) ∙ f) refl refl r.valid refl refl
      (λ j d f. mine.0.held j d (sym (same j) ∙ f))
      (λ j f. refl)
      (λ j x f. mine.0.own j x f)
      (λ j f. refl)
      (λ d e f g. let de : d ≡ e = some-injective d e (sym f ∙ g) in subst (λ (z : Cell). Extends (log z) (log d)) de (starts_self (log d)))
      (λ d f. mine.0.fresh d (sym (same log_at) ∙ f))
      (λ f. refl)
      (λ all k1 c1 f. r.each_known id v at all k1 c1 f)
      (λ j x n f h. let o = mine.1.keep j x n f h in (o.0, without_else v.held k n (λ q. free j x f (subst (λ (z : ℕ). needs x z) q h)) ∙ o.1))
      refl refl refl in
      let P : V → Type 0 = λ u. Rule record { words = set s.words k 0; homes = set s.homes k (some (Some c)); views = set s.views id u } in
      let Q : List (ℕ × Option Cell) → Type 0 = λ cs. Rule (stepped s k 0 id cs (next v) giving) in
      (next v, giving, tt, subst Q (sym front) (subst P (sym next_is) r'), (refl, subst (IsPossible invariant log_at log needs) (sym next_is) (possible _ r' id w (set_here s.views id w (below_length s.views id v at)) active), subst (λ (u : V). Extends u.seen v.seen) (sym next_is) (starts_self v.seen)))

  pub split_allowed : (id n : ℕ) (v : V) (a : Actor) → value_of v.actors n ≡ some a → n ≢ v.number → ((k : ℕ) → needs a k → ⊥) → Splits Rule id v (after_split v n) (split_view v n)
  split_allowed id n v a has other free s r at = splits invariant log_at log needs count s r id n v a at has other free

  pub join_allowed : (id : ℕ) (v : V) (other : ℕ) (w : V) → v.actors ≢ [] → w.held ≡ [] → Joins Rule id v other w (joined_view v w) spent_view
  join_allowed id v other w active bare s r at apart at' = joins invariant log_at log needs count s r id other v w at apart at' active bare

  pub commits_allowed : (change : Sight Cell Actor → List (ℕ × Cell) → ℕ → Actor → Actor → Type 0) → IsLawful invariant log_at log needs change
      → (slots id k : ℕ) (m : M) (next : V → V) → IsCommit log_at log needs change m next k → Allows Rule slots id m k (λ _. 0) (GaveBack invariant log_at log needs next (step slots k 0 0 none) m)
  commits_allowed change law slots id k m next p = commit_allowed change law slots id k m p.now p.others p.number p.before p.after next p.front p.next_is p.same p.distinct p.has p.goes p.left

  pub releases_allowed : (slots id k : ℕ) (m : M) (next : V → V) → IsRelease needs m next k → Allows Rule slots id m k (λ _. 0) (GaveBack invariant log_at log needs next (step slots k 0 0 none) m)
  releases_allowed slots id k m next p = release_allowed slots id k m p.now next p.front p.next_is p.had p.distinct p.free

  pub look_allowed : (slots id k : ℕ) (m : M) → m.0.actors ≢ [] → length m.0.told ≤ length m.0.seen → Allows Rule slots id m k (λ n. n) (Looked invariant log_at log needs (step slots k 0 0 none) m)
  look_allowed slots id k m active less s r deep at small = let r' = notes invariant log_at log needs count s r id k m.0 m.0 at refl refl refl refl refl refl refl refl in
      let mine = r.each_seat id m.0 at in let c = there r.cells log_at r.logged in let a = mine.0.told c.0 c.1 in let b = mine.0.seen c.0 c.1 in
      (m.0, staying, tt, r', (refl, possible s r id m.0 at active, prefix_two m.0.told m.0.seen a.0 b.0 (sym a.1 ∙ b.1) less, mine.1.apart))

  pub split_allowed_as : (id n : ℕ) (v left right : V) (a : Actor) → left ≡ after_split v n → right ≡ split_view v n → value_of v.actors n ≡ some a → n ≢ v.number → ((k : ℕ) → needs a k → ⊥) → Splits Rule id v left right
  split_allowed_as id n v left right a e f has other free = let P : V × V → Type 0 = λ z. Splits Rule id v z.0 z.1 in subst P (λ i. (sym e i, sym f i)) (split_allowed id n v a has other free)
