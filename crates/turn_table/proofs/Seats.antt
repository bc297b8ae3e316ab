-- A seat's row of numbers_of and its slots stay those of the cells in its view.
use Rattle.std.proofs.{Common.{◌≡◌, ◌≢◌, ℕ, zero, suc, ◌⊎◌, ⊎_elim, remove, ◌+◌, ◌<◌, ◌≤◌, nat_lt, Bool, true, false, cond, List, [], ◌∷◌, ◌++◌, length, sym, refl, ap, ◌∙◌, subst, arith, Option, Some, None, length-append, take, drop, get_or, append_assoc, set, get_or-set_same, get_or-set_other, length-drop}, Math.Seq.drop-append_seam, lemmas.Bool.{lt-ltb, le-ltb}}
use mathlib.Core.Option.{none, some, some-ne-none, some-injective}
use lib.ListN.{get_elem?}
use Rattle.atomic_table.proofs.Lists.{drop_at}
use mathlib.Core.Logic.{dite}
use native.Mathlib.Decide.{ℕ_discrete, dec_lt}
use mathlib.Core.List.{head-eq_of_cons-eq}
use Rattle.atomic_table.specs.Table.{Me, turned, rest}
use Rattle.turn_table.specs.{Law.{Sight, sight, IsPossible, IsCommit, IsRelease}, Numbered.{value_of, numbers_of, HaveOwnNumbers, replace, without, after_first, Extends, longer, shorter}, Seat.{IsSeated, slots_of, values_of}, Views.{HasAll, lone, after_take, after_commit, after_release, after_refusal, after_split, split_view, joined_view}, declared.view.View.View}
use Rattle.turn_table.proofs.Numbered.{distinct_end, found, find_append, find_same, none_same, distinct_same, find_here, find_else, numbers_replace, not_empty, without_here, without_else, find_append_first, starts_self, starts_nil, below_length, at_same, at_found, without_at, apart_in_front}

module _ {A : Type 0} where
  pub length_numbers : (ps : List (ℕ × A)) → length (numbers_of ps) ≡ length ps
  length_numbers [] = refl
  length_numbers (p ∷ ps) = let h : length (numbers_of ps) ≡ length ps = length_numbers ps in omega arith

  pub numbers_append : (ps qs : List (ℕ × A)) → numbers_of (ps ++ qs) ≡ numbers_of ps ++ numbers_of qs
  numbers_append [] qs = refl
  numbers_append (p ∷ ps) qs = ap (λ (ns : List ℕ). p.0 ∷ ns) (numbers_append ps qs)

  pub slots_append : (lifted : Bool) (ps qs : List (ℕ × A)) → slots_of lifted (ps ++ qs) ≡ slots_of lifted ps ++ slots_of lifted qs
  slots_append lifted [] qs = refl
  slots_append lifted (p ∷ ps) qs = ap (λ (ns : List (ℕ × Option A)). (p.0, cond lifted None (Some p.1)) ∷ ns) (slots_append lifted ps qs)

  numbers_remove : (ps : List (ℕ × A)) (i : ℕ) → numbers_of (remove ps i) ≡ remove (numbers_of ps) i
  numbers_remove [] zero = refl
  numbers_remove [] (suc i) = refl
  numbers_remove (p ∷ ps) zero = refl
  numbers_remove (p ∷ ps) (suc i) = ap (λ (ns : List ℕ). p.0 ∷ ns) (numbers_remove ps i)

  pub first_number : (ps : List (ℕ × A)) (p : ℕ × A) → p ≡ get_or ps 0 p → p.0 ≡ get_or (numbers_of ps) 0 p.0
  first_number [] p e = refl
  first_number (q ∷ ps) p e = ap (λ (z : ℕ × A). z.0) e

  slots_remove : (ps : List (ℕ × A)) (i : ℕ) → slots_of false (remove ps i) ≡ remove (slots_of false ps) i
  slots_remove [] zero = refl
  slots_remove [] (suc i) = refl
  slots_remove (p ∷ ps) zero = refl
  slots_remove (p ∷ ps) (suc i) = ap (λ (ns : List (ℕ × Option A)). (p.0, Some p.1) ∷ ns) (slots_remove ps i)

  slots_at : (ps : List (ℕ × A)) (i : ℕ) (p : ℕ × A) → get_elem? ps i ≡ some p → get_elem? (slots_of false ps) i ≡ some (p.0, Some p.1)
  slots_at [] i p e = absurd (some-ne-none p (sym e))
  slots_at (q ∷ ps) zero p e = ap (λ (z : ℕ × A). let w : ℕ × Option A = (z.0, Some z.1) in some w) (some-injective q p e)
  slots_at (q ∷ ps) (suc i) p e = slots_at ps i p e

  length_slots : (lifted : Bool) (ps : List (ℕ × A)) → length (slots_of lifted ps) ≡ length ps
  length_slots lifted [] = refl
  length_slots lifted (p ∷ ps) = let h : length (slots_of lifted ps) ≡ length ps = length_slots lifted ps in omega arith

  pub values_slots : (ps : List (ℕ × A)) → values_of (slots_of false ps) ≡ ps
  values_slots [] = refl
  values_slots (p ∷ ps) = ap (λ (ns : List (ℕ × A)). p ∷ ns) (values_slots ps)

module _ {B : Type 0} where
  -- all but the element at a place
  taken_out : (xs : List B) (i : ℕ) → take i xs ++ drop (suc i) xs ≡ remove xs i
  taken_out [] zero = refl
  taken_out [] (suc i) = refl
  taken_out (x ∷ xs) zero = refl
  taken_out (x ∷ xs) (suc i) = ap (λ (ys : List B). x ∷ ys) (taken_out xs i)

  pub swapped : (xs ys : List B) → drop (length xs) (xs ++ ys) ++ take (length xs) (xs ++ ys) ≡ ys ++ xs
  swapped xs ys = (λ i. drop-append_seam xs ys i ++ take_first xs ys i)
    where
      take_first : (xs ys : List B) → take (length xs) (xs ++ ys) ≡ xs
      take_first [] ys = refl
      take_first (x ∷ xs) ys = ap (λ (zs : List B). x ∷ zs) (take_first xs ys)

module _ {Cell Actor Entry : Type 0} (invariant : List Cell → List Actor → Type 0) (log_at : ℕ) (log : Cell → List Entry) (needs : Actor → ℕ → Type 0) where
  abbrev M : Type 0
  M = Me (Option Cell) (View Cell Actor Entry)

  pub seated_taken : (words words' number k : ℕ) (rank : Option ℕ) (row : List (ℕ × Option ℕ)) (lifted : Bool) (m m' : M) (c : Cell) → IsSeated invariant log_at log needs words number row lifted m → lifted ≡ false → value_of m.0.held k ≡ none → k < words
      → m' ≡ (after_take log_at log m.0 k c, m.1 ++ (k, Some c) ∷ []) → IsPossible invariant log_at log needs (after_take log_at log m.0 k c) → words' ≡ words → IsSeated invariant log_at log needs words' number (row ++ (k, rank) ∷ []) lifted m'
  seated_taken words words' number k rank row lifted m m' c s home apart less is possible wide = let P : ℕ × M → Type 0 = λ x. IsSeated invariant log_at log needs x.0 number (row ++ (k, rank) ∷ []) lifted x.1 in subst P (λ z. (sym wide z, sym is z)) record {
    numbered = s.numbered;
    active = s.active;
    own = s.own;
    rows = numbers_append row ((k, rank) ∷ []) ∙ ap (λ (ns : List ℕ). ns ++ k ∷ []) s.rows ∙ sym (numbers_append m.0.held ((k, c) ∷ []));
    slots = ap (λ (ns : List (ℕ × Option Cell)). ns ++ (k, Some c) ∷ []) s.slots ∙ (ap (λ (b : Bool). slots_of lifted m.0.held ++ (k, cond b None (Some c)) ∷ []) (sym home) ∙ sym (slots_append lifted m.0.held ((k, c) ∷ [])));
    distinct = distinct_end m.0.held k c apart s.distinct;
    possible = possible;
    inside = λ j d f. ⊎_elim (λ (t : value_of m.0.held j ≡ some d). s.inside j d t) (λ (t : value_of ((k, c) ∷ []) j ≡ some d). ⊎_elim (λ (u : (k ≡ j) × (c ≡ d)). subst (λ (n : ℕ). n < words) u.0 less) (λ (u : (k ≢ j) × (value_of [] j ≡ some d)). absurd (some-ne-none d (sym u.1))) (found [] k j c d t))
        (find_append m.0.held ((k, c) ∷ []) j d f);
  }

  -- a refused try changes the note alone
  pub seated_refused : (words words' number k word : ℕ) (row : List (ℕ × Option ℕ)) (lifted : Bool) (m m' : M) → IsSeated invariant log_at log needs words number row lifted m → m' ≡ (after_refusal m.0 k word, m.1) → words' ≡ words → IsSeated invariant log_at log needs words' number row lifted m'
  seated_refused words words' number k word row lifted m m' s is wide = let P : ℕ × M → Type 0 = λ x. IsSeated invariant log_at log needs x.0 number row lifted x.1 in let p = s.possible in subst P (λ z. (sym wide z, sym is z)) record {
    numbered = s.numbered;
    active = s.active;
    own = s.own;
    rows = s.rows;
    slots = s.slots;
    distinct = s.distinct;
    possible = record {
      cells = p.cells;
      actors = p.actors;
      valid = p.valid;
      cell_count = p.cell_count;
      actor_count = p.actor_count;
      agrees = record { held = p.agrees.held; own = p.agrees.own; seen = p.agrees.seen; told = p.agrees.told; fresh = p.agrees.fresh };
      unkept = p.unkept;
      known = p.known;
      whole = p.whole;
    };
    inside = s.inside;
  }

  pub seated_lifted : (words words' number : ℕ) (row : List (ℕ × Option ℕ)) (from to : Bool) (m m' : M) (cells : List (ℕ × Cell)) → IsSeated invariant log_at log needs words number row from m → cells ≡ m.0.held → m' ≡ (m.0, slots_of to cells) → words' ≡ words → IsSeated invariant log_at log needs words' number row to m'
  seated_lifted words words' number row from to m m' cells s same is wide = let P : ℕ × M → Type 0 = λ x. IsSeated invariant log_at log needs x.0 number row to x.1 in subst P (λ z. (sym wide z, sym is z)) record {
    numbered = s.numbered;
    active = s.active;
    own = s.own;
    rows = s.rows;
    slots = ap (slots_of to) same;
    distinct = s.distinct;
    possible = s.possible;
    inside = s.inside;
  }

  -- the seat after a commit of these cells
  pub seated_committed : (words words' number i : ℕ) (b : Actor) (row : List (ℕ × Option ℕ)) (m m' : M) (cells : List (ℕ × Cell)) → IsSeated invariant log_at log needs words number row true m → numbers_of cells ≡ numbers_of m.0.held → 0 < length cells
      → m' ≡ (after_commit log_at log m.0 cells i b, rest (slots_of false cells)) → IsPossible invariant log_at log needs m'.0 → words' ≡ words → IsSeated invariant log_at log needs words' number (remove row 0) false m'
  seated_committed words words' number i b row m m' [] s same any is possible wide = absurd (omega arith)
  seated_committed words words' number i b row m m' (p ∷ ps) s same any is possible wide = let P : ℕ × M → Type 0 = λ x. IsSeated invariant log_at log needs x.0 number (remove row 0) false x.1 in
      let d : HaveOwnNumbers (p ∷ ps) = distinct_same m.0.held (p ∷ ps) (sym same) s.distinct in subst P (λ z. (sym wide z, sym is z)) record {
        numbered = s.numbered;
        own = find_same m.0.actors (replace m.0.actors i b) m.0.number s.own.0 (sym (numbers_replace m.0.actors i b)) s.own.1;
        active = λ e. not_empty m.0.actors (replace m.0.actors i b) (sym (numbers_replace m.0.actors i b)) s.active e;
        rows = numbers_remove row 0 ∙ ap (λ (ns : List ℕ). remove ns 0) (s.rows ∙ sym same);
        slots = refl;
        distinct = d.1;
        possible = subst (IsPossible invariant log_at log needs) (ap (λ (x : M). x.0) is) possible;
        inside = λ k c f. let ne : p.0 ≢ k = λ q. some-ne-none c (sym f ∙ (ap (value_of ps) (sym q) ∙ d.0)) in let t = find_same (p ∷ ps) m.0.held k c same (find_else ps p.0 k p.1 ne ∙ f) in s.inside k t.0 t.1;
      }

  pub commit_ready : (change : Sight Cell Actor → List (ℕ × Cell) → ℕ → Actor → Actor → Type 0) (words number i k : ℕ) (a b : Actor) (row : List (ℕ × Option ℕ)) (m m' : M) (cells : List (ℕ × Cell)) → IsSeated invariant log_at log needs words number row true m
      → numbers_of cells ≡ numbers_of m.0.held → 0 < length cells → m' ≡ (m.0, slots_of false cells) → k ≡ get_or (numbers_of row) 0 k → value_of m.0.actors i ≡ some a → change (sight m.0) cells i a b
      → ((j : ℕ) (x : Actor) (n : ℕ) → value_of (replace m.0.actors i b) j ≡ some x → needs x n → (d : Cell) × (value_of (after_first cells) n ≡ some d))
      → IsCommit log_at log needs change m' (λ v. after_commit log_at log v (values_of m'.1) i b) k
  commit_ready change words number i k a b row m m' [] s same any is first has goes left = absurd (omega arith)
  commit_ready change words number i k a b row m m' (p ∷ ps) s same any is first has goes left =
      let P : M → Type 0 = λ x. IsCommit log_at log needs change x (λ v. after_commit log_at log v (values_of x.1) i b) k in
      let d : HaveOwnNumbers (p ∷ ps) = distinct_same m.0.held (p ∷ ps) (sym same) s.distinct in
      let n : k ≡ p.0 = first ∙ ap (λ (ns : List ℕ). get_or ns 0 k) (s.rows ∙ sym same) in
      let entry : ℕ → ℕ × Cell = λ z. (z, p.1) in
      let Q : ℕ → Type 0 = λ z. IsCommit log_at log needs change (m.0, slots_of false (p ∷ ps)) (λ v. after_commit log_at log v (values_of (slots_of false (p ∷ ps))) i b) z in
      subst P (sym is) (subst Q (sym n) record {
        now = p.1;
        others = ps;
        number = i;
        before = a;
        after = b;
        front = refl;
        next_is = ap (λ (cs : List (ℕ × Cell)). after_commit log_at log m.0 cs i b) (values_slots (p ∷ ps));
        same = ((λ j c f. find_same (p ∷ ps) m.0.held j c same f), (λ j f. none_same (p ∷ ps) m.0.held j same f));
        distinct = d;
        has = has;
        goes = goes;
        left = left;
      })

  pub first_inside : (words number k : ℕ) (row : List (ℕ × Option ℕ)) (m : M) (cells : List (ℕ × Cell)) → IsSeated invariant log_at log needs words number row true m → numbers_of cells ≡ numbers_of m.0.held → 0 < length cells → k ≡ get_or (numbers_of row) 0 k → k < words
  first_inside words number k row m [] s same any first = absurd (omega arith)
  first_inside words number k row m (p ∷ ps) s same any first =
      let n : k ≡ p.0 = first ∙ ap (λ (ns : List ℕ). get_or ns 0 k) (s.rows ∙ sym same) in
      let t = find_same (p ∷ ps) m.0.held p.0 p.1 same (find_here ps p.0 p.1) in subst (λ (z : ℕ). z < words) (sym n) (s.inside p.0 t.0 t.1)

  -- the seat after the release of the cell k, which stood at the place i
  pub seated_released : (words words' number i k : ℕ) (rank : Option ℕ) (row : List (ℕ × Option ℕ)) (lifted : Bool) (m m' : M) → IsSeated invariant log_at log needs words number row lifted m → lifted ≡ false → get_elem? row i ≡ some (k, rank)
      → m' ≡ (after_release m.0 k, slots_of false (remove m.0.held i)) → IsPossible invariant log_at log needs m'.0 → words' ≡ words → IsSeated invariant log_at log needs words' number (remove row i) lifted m'
  seated_released words words' number i k rank row lifted m m' s home at is possible wide = let P : ℕ × M → Type 0 = λ x. IsSeated invariant log_at log needs x.0 number (remove row i) lifted x.1 in
      let h = at_same row m.0.held i (k, rank) s.rows at in
      let gone : without m.0.held k ≡ remove m.0.held i = without_at m.0.held i (k, h.0) s.distinct h.1 in subst P (λ z. (sym wide z, sym is z)) record {
        numbered = s.numbered;
        active = s.active;
        own = s.own;
        rows = numbers_remove row i ∙ (ap (λ (ns : List ℕ). remove ns i) s.rows ∙ (sym (numbers_remove m.0.held i) ∙ ap numbers_of (sym gone)));
        slots = λ z. slots_of (sym home z) (sym gone z);
        distinct = (apart_in_front m.0.held k h.0 s.distinct).1;
        possible = subst (IsPossible invariant log_at log needs) (ap (λ (x : M). x.0) is) possible;
        inside = λ j c f. dite (ℕ_discrete j k)
            (λ (q : j ≡ k). absurd (some-ne-none c (sym f ∙ (ap (value_of (without m.0.held k)) q ∙ without_here m.0.held k))))
            (λ (ne : j ≢ k). s.inside j c (sym (without_else m.0.held k j ne) ∙ f));
      }

  -- a seat has as many slots as it has told cells
  pub as_many : (words number : ℕ) (row : List (ℕ × Option ℕ)) (lifted : Bool) (m : M) → IsSeated invariant log_at log needs words number row lifted m → length m.1 ≡ length row
  as_many words number row lifted m s = ap length s.slots ∙ (length_slots lifted m.0.held ∙ (sym (length_numbers m.0.held) ∙ (ap length (sym s.rows) ∙ length_numbers row)))

  -- a held cell is one of those told
  pub held_told : (words number k : ℕ) (row : List (ℕ × Option ℕ)) (lifted : Bool) (m : M) (c : Cell) → IsSeated invariant log_at log needs words number row lifted m → value_of m.0.held k ≡ some c → (r : Option ℕ) × (value_of row k ≡ some r)
  held_told words number k row lifted m c s h = find_same m.0.held row k c (sym s.rows) h

  pub told_released : (words number i k : ℕ) (rank : Option ℕ) (row : List (ℕ × Option ℕ)) (lifted : Bool) (m : M) → IsSeated invariant log_at log needs words number row lifted m → get_elem? row i ≡ some (k, rank) → without row k ≡ remove row i
  told_released words number i k rank row lifted m s at = without_at row i (k, rank) (distinct_same m.0.held row (sym s.rows) s.distinct) at

  -- the slots of a seat, turned so that the i-th comes first
  pub slots_turned : (number words i k : ℕ) (rank : Option ℕ) (row : List (ℕ × Option ℕ)) (lifted : Bool) (m : M) → IsSeated invariant log_at log needs words number row lifted m → lifted ≡ false → get_elem? row i ≡ some (k, rank)
      → (c : Cell) × (get_elem? m.0.held i ≡ some (k, c)) × (drop i m.1 ++ take i m.1 ≡ (k, Some c) ∷ (drop (i + 1) m.1 ++ take i m.1))
  slots_turned number words i k rank row lifted m s home at =
      let h = at_same row m.0.held i (k, rank) s.rows at in
      let slots : m.1 ≡ slots_of false m.0.held = s.slots ∙ ap (λ (b : Bool). slots_of b m.0.held) home in
      let here : get_elem? m.1 i ≡ some (k, Some h.0) = ap (λ (l : List (ℕ × Option Cell)). get_elem? l i) slots ∙ slots_at m.0.held i (k, h.0) h.1 in
      let e : suc i ≡ i + 1 = omega arith in
      (h.0, h.1, ap (λ (l : List (ℕ × Option Cell)). l ++ take i m.1) (drop_at m.1 i (k, Some h.0) here ∙ ap (λ (n : ℕ). (k, Some h.0) ∷ drop n m.1) e))

  pub release_ready : (words number i k : ℕ) (rank : Option ℕ) (row : List (ℕ × Option ℕ)) (lifted : Bool) (m m' : M) → IsSeated invariant log_at log needs words number row lifted m → lifted ≡ false → get_elem? row i ≡ some (k, rank)
      → m' ≡ (m.0, drop i m.1 ++ take i m.1) → ((j : ℕ) (x : Actor) → value_of m.0.actors j ≡ some x → needs x k → ⊥)
      → IsRelease needs m' (λ v. after_release v k) k × (k < words)
  release_ready words number i k rank row lifted m m' s home at is free =
      let t = slots_turned number words i k rank row lifted m s home at in
      let had : value_of m.0.held k ≡ some t.0 = at_found m.0.held i (k, t.0) s.distinct t.1 in
      let P : M → Type 0 = λ x. IsRelease needs x (λ v. after_release v k) k × (k < words) in
      subst P (sym is) (
        record {
          now = t.0;
          front = t.2 ∙ ap (λ (l : List (ℕ × Option Cell)). (k, Some t.0) ∷ l) (sym (ap rest t.2));
          next_is = refl;
          had = had;
          distinct = s.distinct;
          free = free;
        },
        s.inside k t.0 had,
      )

  -- after the release the other slots are turned back to their order
  pub released_slots : (words number i k n : ℕ) (rank : Option ℕ) (row : List (ℕ × Option ℕ)) (lifted : Bool) (m : M) → IsSeated invariant log_at log needs words number row lifted m → lifted ≡ false → get_elem? row i ≡ some (k, rank) → n + i + 1 ≡ length row
      → (xs : List (ℕ × Option Cell)) → xs ≡ rest (drop i m.1 ++ take i m.1) → (drop n xs ++ take n xs ≡ slots_of false (remove m.0.held i)) × (n ≤ length xs)
  released_slots words number i k n rank row lifted m s home at total xs is =
      let t = slots_turned number words i k rank row lifted m s home at in
      let slots : m.1 ≡ slots_of false m.0.held = s.slots ∙ ap (λ (b : Bool). slots_of b m.0.held) home in
      let ys : List (ℕ × Option Cell) = drop (i + 1) m.1 in
      let zs : List (ℕ × Option Cell) = take i m.1 in
      let both : xs ≡ ys ++ zs = is ∙ ap rest t.2 in
      let many : length m.1 ≡ length row = as_many words number row lifted m s in
      let long : length ys ≡ n = omega (arith, many, total, length-drop (i + 1) m.1) in
      let back : zs ++ ys ≡ remove m.1 i = (let e : i + 1 ≡ suc i = omega arith in ap (λ (j : ℕ). zs ++ drop j m.1) e) ∙ taken_out m.1 i in (
        ap (λ (l : List (ℕ × Option Cell)). drop n l ++ take n l) both ∙ (ap (λ (j : ℕ). drop j (ys ++ zs) ++ take j (ys ++ zs)) (sym long) ∙ (swapped ys zs ∙ (back ∙ (ap (λ (l : List (ℕ × Option Cell)). remove l i) slots ∙ sym (slots_remove m.0.held i))))),
        omega (arith, ap length both, length-append ys zs, long),
      )

  actor_there : (ps : List (ℕ × Actor)) (n : ℕ) (a : Actor) → value_of ps n ≡ some a → ps ≢ []
  actor_there ps n a h e = some-ne-none a (sym h ∙ ap (λ (qs : List (ℕ × Actor)). value_of qs n) e)

  possible_left : (v : View Cell Actor Entry) (n : ℕ) (a : Actor) → value_of v.actors n ≡ some a → ((k : ℕ) → needs a k → ⊥) → IsPossible invariant log_at log needs v → IsPossible invariant log_at log needs (after_split v n)
  possible_left v n a has free p = record {
    cells = p.cells;
    actors = p.actors;
    valid = p.valid;
    cell_count = p.cell_count;
    actor_count = p.actor_count;
    agrees = record {
      held = p.agrees.held;
      own = λ i b f. dite (ℕ_discrete i n) (λ (q : i ≡ n). absurd (some-ne-none b (sym f ∙ (ap (value_of (without v.actors n)) q ∙ without_here v.actors n)))) (λ (ne : i ≢ n). p.agrees.own i b (sym (without_else v.actors n i ne) ∙ f));
      seen = p.agrees.seen;
      told = p.agrees.told;
      fresh = p.agrees.fresh;
    };
    unkept = λ j x k g f m. dite (ℕ_discrete j n)
        (λ (q : j ≡ n). let xa : x ≡ a = some-injective x a (sym g ∙ (ap (get_elem? p.actors) q ∙ p.agrees.own n a has)) in absurd (free k (subst (λ (z : Actor). needs z k) xa m)))
        (λ (ne : j ≢ n). p.unkept j x k g (sym (without_else v.actors n j ne) ∙ f) m);
    known = λ all. absurd (not_all all);
    whole = λ all. absurd (not_all all);
  }
    where
      not_all : HasAll v.actor_count (after_split v n) → ⊥
      not_all all = let b = below_length p.actors n a (p.agrees.own n a has) in let t = all n (omega (arith, p.actor_count)) in some-ne-none t.0 (sym t.1 ∙ without_here v.actors n)

  possible_alone : (v : View Cell Actor Entry) (n : ℕ) (a o : Actor) → value_of v.actors n ≡ some a → value_of v.actors v.number ≡ some o → n ≢ v.number → IsPossible invariant log_at log needs v → IsPossible invariant log_at log needs (split_view v n)
  possible_alone v n a o h own other p = record {
    cells = p.cells;
    actors = p.actors;
    valid = p.valid;
    cell_count = p.cell_count;
    actor_count = p.actor_count;
    agrees = record {
      held = λ k c f. absurd (some-ne-none c (sym f));
      own = λ i b f. ⊎_elim (λ (t : (n ≡ i) × (a ≡ b)). p.agrees.own i b (ap (value_of v.actors) (sym t.0) ∙ (h ∙ ap (λ (z : Actor). some z) t.1))) (λ (t : (n ≢ i) × (value_of [] i ≡ some b)). absurd (some-ne-none b (sym t.1)))
          (only i b f);
      seen = p.agrees.seen;
      told = λ c f. starts_nil (log c);
      fresh = λ c f. absurd (some-ne-none c (sym f));
    };
    unkept = λ j x k g f m. refl;
    known = λ all k c f. absurd (some-ne-none c (sym f));
    whole = λ all. absurd (let b = below_length p.actors v.number o (p.agrees.own v.number o own) in let t = all v.number (omega (arith, p.actor_count)) in ⊎_elim
        (λ (u : (n ≡ v.number) × (a ≡ t.0)). other u.0) (λ (u : (n ≢ v.number) × (value_of [] v.number ≡ some t.0)). some-ne-none t.0 (sym u.1)) (only v.number t.0 t.1));
  }
    where
      only : (i : ℕ) (b : Actor) → value_of (lone (value_of v.actors n) n) i ≡ some b → ((n ≡ i) × (a ≡ b)) ⊎ ((n ≢ i) × (value_of [] i ≡ some b))
      only i b f = found [] n i a b (ap (λ (o : mathlib.Core.Option.Option Actor). value_of (lone o n) i) (sym h) ∙ f)

  pub seated_left : (words words' number n : ℕ) (row : List (ℕ × Option ℕ)) (lifted : Bool) (m m' : M) (a : Actor) → value_of m.0.actors n ≡ some a → ((k : ℕ) → needs a k → ⊥) → IsSeated invariant log_at log needs words number row lifted m → n ≢ m.0.number → m' ≡ (after_split m.0 n, m.1) → words' ≡ words → IsSeated invariant log_at log needs words' number row lifted m'
  seated_left words words' number n row lifted m m' a has free s other is wide = let P : ℕ × M → Type 0 = λ x. IsSeated invariant log_at log needs x.0 number row lifted x.1 in
      let own : value_of (without m.0.actors n) m.0.number ≡ some s.own.0 = without_else m.0.actors n m.0.number (λ e. other (sym e)) ∙ s.own.1 in subst P (λ z. (sym wide z, sym is z)) record {
        numbered = s.numbered;
        active = actor_there (without m.0.actors n) m.0.number s.own.0 own;
        own = (s.own.0, own);
        rows = s.rows;
        slots = s.slots;
        distinct = s.distinct;
        possible = possible_left m.0 n a has free s.possible;
        inside = s.inside;
      }

  pub seated_alone : (words words' number : ℕ) (row : List (ℕ × Option ℕ)) (lifted : Bool) (from : List (ℕ × Option ℕ)) (was : Bool) (first : ℕ) (m m' : M) (a : Actor) → IsSeated invariant log_at log needs words first from was m → value_of m.0.actors number ≡ some a → number ≢ m.0.number → m' ≡ (split_view m.0 number, []) → row ≡ []
      → IsSeated invariant log_at log needs words' number row lifted m'
  seated_alone words words' number row lifted from was first m m' a s has other is bare = let P : M → Type 0 = λ x. IsSeated invariant log_at log needs words' number row lifted x in
      let own : value_of (lone (value_of m.0.actors number) number) number ≡ some a = ap (λ (o : mathlib.Core.Option.Option Actor). value_of (lone o number) number) has ∙ find_here [] number a in subst P (sym is) record {
        numbered = refl;
        active = actor_there (lone (value_of m.0.actors number) number) number a own;
        own = (a, own);
        rows = ap numbers_of bare;
        slots = refl;
        distinct = tt;
        possible = possible_alone m.0 number a s.own.0 has s.own.1 other s.possible;
        inside = λ k c f. absurd (some-ne-none c (sym f));
      }

  pub joined_active : (v w : View Cell Actor Entry) (a : Actor) → value_of v.actors v.number ≡ some a → (joined_view v w).actors ≢ []
  joined_active v w a h = actor_there (v.actors ++ w.actors) v.number a (find_append_first v.actors w.actors v.number a h)

  pub seated_together : (words words' number : ℕ) (row : List (ℕ × Option ℕ)) (lifted : Bool) (m m' : M) (w : View Cell Actor Entry) → IsSeated invariant log_at log needs words number row lifted m → m' ≡ (joined_view m.0 w, m.1) → IsPossible invariant log_at log needs m'.0 → words' ≡ words → IsSeated invariant log_at log needs words' number row lifted m'
  seated_together words words' number row lifted m m' w s is possible wide = let P : ℕ × M → Type 0 = λ x. IsSeated invariant log_at log needs x.0 number row lifted x.1 in
      let own : value_of (m.0.actors ++ w.actors) m.0.number ≡ some s.own.0 = find_append_first m.0.actors w.actors m.0.number s.own.0 s.own.1 in subst P (λ z. (sym wide z, sym is z)) record {
        numbered = s.numbered;
        active = actor_there (m.0.actors ++ w.actors) m.0.number s.own.0 own;
        own = (s.own.0, own);
        rows = s.rows;
        slots = s.slots;
        distinct = s.distinct;
        possible = subst (IsPossible invariant log_at log needs) (ap (λ (x : M). x.0) is) possible;
        inside = s.inside;
      }

number_at : (row : List (ℕ × Option ℕ)) (i : ℕ) → get_or (numbers_of row) i 0 ≡ (get_or row i (0, None)).0
number_at [] i = refl
number_at (p ∷ ps) zero = refl
number_at (p ∷ ps) (suc i) = number_at ps i

module _ {A : Type 0} where
  split_here : (ps : List (ℕ × A)) (i : ℕ) → i < length ps → (p : ℕ × A) × (drop i ps ≡ p ∷ drop (suc i) ps) × (take (suc i) ps ≡ take i ps ++ p ∷ []) × (get_or (numbers_of ps) i 0 ≡ p.0)
  split_here [] i h = absurd (omega arith)
  split_here (p ∷ ps) zero h = (p, refl, refl, refl)
  split_here (p ∷ ps) (suc i) h = let t = split_here ps i (omega arith) in (t.0, t.1, ap (λ (zs : List (ℕ × A)). p ∷ zs) t.2, t.3)

  pub at_split : (ps : List (ℕ × A)) (i : ℕ) → i < length ps → (p : ℕ × A) × (drop i ps ≡ p ∷ drop (i + 1) ps) × (take (i + 1) ps ≡ take i ps ++ p ∷ []) × (get_or (numbers_of ps) i 0 ≡ p.0)
  at_split ps i h = let t = split_here ps i h in let e : i + 1 ≡ suc i = omega arith in (t.0, t.1 ∙ ap (λ (j : ℕ). t.0 ∷ drop j ps) (sym e), ap (λ (j : ℕ). take j ps) e ∙ t.2, t.3)

  emptied_at : (ps : List (ℕ × A)) (i : ℕ) (row : List ℕ) (before : List (ℕ × Option A)) (x : A) (p : ℕ × A) → drop i ps ≡ p ∷ drop (i + 1) ps → take (i + 1) ps ≡ take i ps ++ p ∷ []
      → before ≡ slots_of false (drop i ps) ++ slots_of true (take i ps)
      → before ≡ (get_or row i 0, Some x) ∷ rest before
      → (rest before ++ (get_or row i 0, None) ∷ [] ≡ slots_of false (drop (i + 1) ps) ++ slots_of true (take (i + 1) ps)) × (take i ps ++ (get_or row i 0, x) ∷ [] ≡ take (i + 1) ps)
  emptied_at ps i row before x p dropped after_take is front =
      let was : before ≡ (p.0, Some p.1) ∷ (slots_of false (drop (i + 1) ps) ++ slots_of true (take i ps)) = is ∙ ap (λ (zs : List (ℕ × A)). slots_of false zs ++ slots_of true (take i ps)) dropped in
      let one : ℕ × Option A = (get_or row i 0, Some x) in
      let two : ℕ × Option A = (p.0, Some p.1) in
      let both : one ∷ rest before ≡ two ∷ (slots_of false (drop (i + 1) ps) ++ slots_of true (take i ps)) = sym front ∙ was in
      let heads : one ≡ two = head-eq_of_cons-eq both in
      let n : get_or row i 0 ≡ p.0 = ap (λ (z : ℕ × Option A). z.0) heads in
      let somes : Some x ≡ Some p.1 = ap (λ (z : ℕ × Option A). z.1) heads in
      let xs : x ≡ p.1 = cc in
      let others : rest before ≡ slots_of false (drop (i + 1) ps) ++ slots_of true (take i ps) = ap rest was in
      let empty_of : ℕ → ℕ × Option A = λ z. (z, None) in
      let pair_of : ℕ → A → ℕ × A = λ z y. (z, y) in (
        (λ j. others j ++ empty_of (n j) ∷ []) ∙ (append_assoc (slots_of false (drop (i + 1) ps)) (slots_of true (take i ps)) ((p.0, None) ∷ [])
            ∙ ap (λ (zs : List (ℕ × Option A)). slots_of false (drop (i + 1) ps) ++ zs) (sym (slots_append true (take i ps) (p ∷ [])) ∙ ap (slots_of true) (sym after_take))),
        (λ j. take i ps ++ pair_of (n j) (xs j) ∷ []) ∙ sym after_take,
      )

  emptied : (ps : List (ℕ × A)) (i : ℕ) (row : List ℕ) (before : List (ℕ × Option A)) (x : A) → row ≡ numbers_of ps → i < length row → before ≡ slots_of false (drop i ps) ++ slots_of true (take i ps)
      → before ≡ (get_or row i 0, Some x) ∷ rest before
      → (rest before ++ (get_or row i 0, None) ∷ [] ≡ slots_of false (drop (i + 1) ps) ++ slots_of true (take (i + 1) ps)) × (take i ps ++ (get_or row i 0, x) ∷ [] ≡ take (i + 1) ps)
  emptied ps i row before x rows inside is front =
      let within : i < length ps = omega (arith, ap length rows, length_numbers ps) in
      let t = at_split ps i within in emptied_at ps i row before x t.0 t.1 t.2 is front

  filled_at : (left others done : List (ℕ × A)) (p : ℕ × A) (before : List (ℕ × Option A)) → left ≡ p ∷ others → before ≡ slots_of true left ++ slots_of false done
      → rest before ++ (p.0, Some p.1) ∷ [] ≡ slots_of true others ++ slots_of false (done ++ p ∷ [])
  filled_at left others done p before e is =
      let was : before ≡ (p.0, None) ∷ (slots_of true others ++ slots_of false done) = is ∙ ap (λ (zs : List (ℕ × A)). slots_of true zs ++ slots_of false done) e in
      ap (λ (zs : List (ℕ × Option A)). rest zs ++ (p.0, Some p.1) ∷ []) was ∙ (append_assoc (slots_of true others) (slots_of false done) ((p.0, Some p.1) ∷ []) ∙ ap (λ (zs : List (ℕ × Option A)). slots_of true others ++ zs) (sym (slots_append false done (p ∷ []))))

  pub filled : (left others done : List (ℕ × A)) (p : ℕ × A) (before : List (ℕ × Option A)) → left ≡ p ∷ others → before ≡ slots_of true left ++ slots_of false done
      → rest before ++ (p.0, Some p.1) ∷ [] ≡ slots_of true others ++ slots_of false (done ++ p ∷ [])
  filled = filled_at

  take_front_at : (ps : List (ℕ × A)) (i : ℕ) (row : List ℕ) (before : List (ℕ × Option A)) → row ≡ numbers_of ps → i < length row → before ≡ slots_of false (drop i ps) ++ slots_of true (take i ps)
      → (x : A) × (before ≡ (get_or row i 0, Some x) ∷ rest before)
  take_front_at ps i row before rows inside is =
      let within : i < length ps = omega (arith, ap length rows, length_numbers ps) in
      let t = at_split ps i within in
      let p : ℕ × A = t.0 in
      let n : get_or row i 0 ≡ p.0 = ap (λ (ns : List ℕ). get_or ns i 0) rows ∙ t.3 in
      let was : before ≡ (p.0, Some p.1) ∷ (slots_of false (drop (i + 1) ps) ++ slots_of true (take i ps)) = is ∙ ap (λ (zs : List (ℕ × A)). slots_of false zs ++ slots_of true (take i ps)) t.1 in
      (p.1, was ∙ (λ j. (sym n j, Some p.1) ∷ sym (ap rest was) j))

  -- the next slot to be emptied has a value
  pub told_front : (ps : List (ℕ × A)) (i : ℕ) (row : List (ℕ × Option ℕ)) (before : List (ℕ × Option A)) → numbers_of row ≡ numbers_of ps → i < length row → before ≡ slots_of false (drop i ps) ++ slots_of true (take i ps)
      → (x : A) × (before ≡ ((get_or row i (0, None)).0, Some x) ∷ rest before)
  told_front ps i row before rows inside is = subst (λ (k : ℕ). (x : A) × (before ≡ (k, Some x) ∷ rest before)) (number_at row i)
      (take_front_at ps i (numbers_of row) before rows (omega (arith, length_numbers row)) is)

  -- and what is there once it is empty
  pub told_emptied : (ps : List (ℕ × A)) (i : ℕ) (row : List (ℕ × Option ℕ)) (before : List (ℕ × Option A)) (x : A) → numbers_of row ≡ numbers_of ps → i < length row → before ≡ slots_of false (drop i ps) ++ slots_of true (take i ps)
      → before ≡ ((get_or row i (0, None)).0, Some x) ∷ rest before
      → (rest before ++ ((get_or row i (0, None)).0, None) ∷ [] ≡ slots_of false (drop (i + 1) ps) ++ slots_of true (take (i + 1) ps)) × (take i ps ++ ((get_or row i (0, None)).0, x) ∷ [] ≡ take (i + 1) ps)
  told_emptied ps i row before x rows inside is front =
      let front' : before ≡ (get_or (numbers_of row) i 0, Some x) ∷ rest before = subst (λ (k : ℕ). before ≡ (k, Some x) ∷ rest before) (sym (number_at row i)) front in
      subst (λ (k : ℕ). (rest before ++ (k, None) ∷ [] ≡ slots_of false (drop (i + 1) ps) ++ slots_of true (take (i + 1) ps)) × (take i ps ++ (k, x) ∷ [] ≡ take (i + 1) ps)) (number_at row i)
      (emptied ps i (numbers_of row) before x rows (omega (arith, length_numbers row)) is front')

  pub drop_all : (ps : List (ℕ × A)) (i : ℕ) → length ps ≤ i → drop i ps ≡ []
  drop_all [] zero h = refl
  drop_all [] (suc i) h = refl
  drop_all (p ∷ ps) zero h = absurd (omega arith)
  drop_all (p ∷ ps) (suc i) h = drop_all ps i (omega arith)

  pub take_all : (ps : List (ℕ × A)) (i : ℕ) → length ps ≤ i → take i ps ≡ ps
  take_all [] zero h = refl
  take_all [] (suc i) h = refl
  take_all (p ∷ ps) zero h = absurd (omega arith)
  take_all (p ∷ ps) (suc i) h = ap (λ (zs : List (ℕ × A)). p ∷ zs) (take_all ps i (omega arith))

pub pair_path : {X Y : Type 0} {x x' : X} {y y' : Y} → x ≡ x' → y ≡ y' → let z : X × Y = (x, y) in let z' : X × Y = (x', y') in z ≡ z'
pair_path p q = λ i. (p i, q i)

pub values_full : {A : Type 0} (ps : List (ℕ × A)) (lifted : Bool) (slots : List (ℕ × Option A)) → slots ≡ slots_of lifted ps → lifted ≡ false → values_of slots ≡ ps
values_full ps lifted slots e h = ap values_of e ∙ (ap (λ (b : Bool). values_of (slots_of b ps)) h ∙ values_slots ps)

pub slots_empty : {A : Type 0} (ps : List (ℕ × A)) (qs : List (ℕ × A)) → numbers_of ps ≡ numbers_of qs → slots_of true ps ≡ slots_of true qs
slots_empty [] [] e = refl
slots_empty [] (q ∷ qs) e = absurd (cc)
slots_empty (p ∷ ps) [] e = absurd (cc)
slots_empty {A} (p ∷ ps) (q ∷ qs) e = let heads : p.0 ≡ q.0 = cc in let tails : numbers_of ps ≡ numbers_of qs = cc in let empty_of : ℕ → ℕ × Option A = λ z. (z, None) in λ i. empty_of (heads i) ∷ slots_empty ps qs tails i

take_here : {A : Type 0} (xs : List A) (i : ℕ) (x : A) → lib.ListN.get_elem? xs i ≡ mathlib.Core.Option.some x → take (suc i) xs ≡ take i xs ++ x ∷ []
take_here [] i x e = absurd (some-ne-none x (sym e))
take_here (y ∷ ys) zero x e = λ k. mathlib.Core.Option.some-injective y x e k ∷ []
take_here (y ∷ ys) (suc i) x e = λ k. y ∷ take_here ys i x e k

pub take_at : {A : Type 0} (xs : List A) (i : ℕ) (x : A) → lib.ListN.get_elem? xs i ≡ mathlib.Core.Option.some x → take (i + 1) xs ≡ take i xs ++ x ∷ []
take_at xs i x e = let s : i + 1 ≡ suc i = omega arith in ap (λ (j : ℕ). take j xs) s ∙ take_here xs i x e

pub freed_more : (filled : List Bool) (i k : ℕ) → i < length filled → ((j : ℕ) → j < i → get_or filled j false ≡ false) → k < i + 1 → get_or (set filled i false) k false ≡ false
freed_more filled i k within below less = dite (ℕ_discrete k i)
    (λ (q : k ≡ i). ap (λ (j : ℕ). get_or (set filled i false) j false) q ∙ get_or-set_same filled i false false within)
    (λ (ne : k ≢ i). get_or-set_other filled i k false false ne ∙ below k (omega arith))

pub shorter_less : {E : Type 0} (xs ys : List E) → length (shorter xs ys) ≤ length (longer xs ys)
shorter_less xs ys = dite (dec_lt (length xs) (length ys))
    (λ (l : length xs < length ys). subst (λ (t : Bool). length (cond t xs ys) ≤ length (cond t ys xs)) (sym (lt-ltb (length xs) (length ys) l)) (omega arith))
    (λ (l : ¬ (length xs < length ys)). subst (λ (t : Bool). length (cond t xs ys) ≤ length (cond t ys xs)) (sym (le-ltb (length xs) (length ys) (omega arith))) (omega arith))

pub both_begin : {E : Type 0} (xs ys : List E) → Extends (longer xs ys) (shorter xs ys) → Extends (longer xs ys) xs × Extends (longer xs ys) ys
both_begin xs ys h = go (nat_lt (length xs) (length ys)) h
  where
    go : (t : Bool) → Extends (cond t ys xs) (cond t xs ys) → Extends (cond t ys xs) xs × Extends (cond t ys xs) ys
    go true h = (h, starts_self ys)
    go false h = (starts_self xs, h)

-- one turn more
pub turned_more : {A : Type 0} (xs : List (ℕ × A)) (i : ℕ) (before : List (ℕ × A)) → i < length xs → before ≡ drop i xs ++ take i xs → turned before ≡ drop (i + 1) xs ++ take (i + 1) xs
turned_more {A} xs i before inside is = let t = at_split xs i inside in let B : Type 0 = List (ℕ × A) in
    ap turned (is ∙ ap (λ (l : B). l ++ take i xs) t.1) ∙ (append_assoc (drop (i + 1) xs) (take i xs) (t.0 ∷ []) ∙ ap (λ (l : B). drop (i + 1) xs ++ l) (sym t.2))

-- The search for a held cell.
module _ {A : Type 0} where
  pub found_place : (ps : List (ℕ × A)) (i k : ℕ) (d : ℕ × A) → i < length ps → (get_or ps i d).0 ≡ k → (x : A) × (get_elem? ps i ≡ some (k, x))
  found_place [] i k d inside e = absurd (omega arith)
  found_place (p ∷ ps) zero k d inside e = let pair : ℕ → ℕ × A = λ z. (z, p.1) in (p.1, ap (λ (z : ℕ). some (pair z)) e)
  found_place (p ∷ ps) (suc i) k d inside e = found_place ps i k d (omega arith) e

  next_place : (ps : List (ℕ × A)) (i k : ℕ) (d : ℕ × A) → i < length ps → (get_or ps i d).0 ≢ k → value_of (drop (suc i) ps) k ≡ value_of (drop i ps) k
  next_place [] i k d inside ne = absurd (omega arith)
  next_place (p ∷ ps) zero k d inside ne = sym (find_else ps p.0 k p.1 ne)
  next_place (p ∷ ps) (suc i) k d inside ne = next_place ps i k d (omega arith) ne

  pub still_behind : (ps : List (ℕ × A)) (i k : ℕ) (d : ℕ × A) → i < length ps → (get_or ps i d).0 ≢ k → value_of (drop i ps) k ≡ value_of ps k → value_of (drop (i + 1) ps) k ≡ value_of ps k
  still_behind ps i k d inside ne e = let s : i + 1 ≡ suc i = omega arith in ap (λ (j : ℕ). value_of (drop j ps) k) s ∙ (next_place ps i k d inside ne ∙ e)

  pub none_behind : (ps : List (ℕ × A)) (i k : ℕ) (x : A) → length ps ≤ i → value_of (drop i ps) k ≡ value_of ps k → value_of ps k ≡ some x → ⊥
  none_behind ps i k x all e h = some-ne-none x (sym h ∙ (sym e ∙ ap (λ (l : List (ℕ × A)). value_of l k) (drop_all ps i all)))
