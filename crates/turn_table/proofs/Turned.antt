-- A seat whose slots a look has turned, and the same seat once they are turned back.
use Rattle.std.proofs.Common.{◌≡◌, ℕ, ◌+◌, ◌-◌, ◌<◌, ◌≤◌, Bool, true, false, List, [], ◌∷◌, ◌++◌, length, take, drop, append-nil, length-drop, take-append-drop, length-append, zero, suc, sym, refl, ap, ◌∙◌, subst, arith, Option, Some, None}
use mathlib.Core.Option.{some}
use lib.ListN.{get_elem?}
use Rattle.atomic_table.specs.Table.{Me, rest}
use Rattle.turn_table.specs.{Numbered.{value_of}, Seat.{IsSeated, IsTurned, slots_of, turned_by}, declared.view.View.View}
use Rattle.turn_table.proofs.{Numbered.{below_length, at_found}, Seats.{as_many, length_numbers, slots_turned, swapped}}

module _ {A : Type 0} where
  bare_turned : (k : ℕ) → turned_by {A = A} k [] ≡ []
  bare_turned zero = refl
  bare_turned (suc k) = refl

  pub none_turned : (k : ℕ) (xs : List A) → xs ≡ [] → turned_by k xs ≡ []
  none_turned k xs e = ap (turned_by k) e ∙ bare_turned k

  length_turned : (k : ℕ) (xs : List A) → length (turned_by k xs) ≡ length xs
  length_turned k xs = omega (arith, length-append (drop k xs) (take k xs), length-append (take k xs) (drop k xs), ap length (take-append-drop k xs))

  -- what was turned by k is turned back by the rest
  turn_back : (k : ℕ) (xs : List A) → k ≤ length xs → turned_by (length xs - k) (turned_by k xs) ≡ xs
  turn_back k xs few = ap (λ (n : ℕ). turned_by n (turned_by k xs)) (sym (length-drop k xs)) ∙ (swapped (drop k xs) (take k xs) ∙ take-append-drop k xs)

module _ {Cell Actor Entry : Type 0} (invariant : List Cell → List Actor → Type 0) (log_at : ℕ) (log : Cell → List Entry) (needs : Actor → ℕ → Type 0) where
  abbrev M : Type 0
  M = Me (Option Cell) (View Cell Actor Entry)

  -- no slot is turned where all stand as their cells were taken
  pub straight : (words number ahead : ℕ) (row : List (ℕ × Option ℕ)) (lifted : Bool) (m : M) → ahead ≡ 0 → IsSeated invariant log_at log needs words number row lifted m → IsTurned invariant log_at log needs words number ahead row lifted m
  straight words number ahead row lifted m e s =
      let xs : List (ℕ × Option Cell) = slots_of lifted m.0.held in
      let P : List (ℕ × Option Cell) → Type 0 = λ ys. IsSeated invariant log_at log needs words number row lifted (m.0, ys) in record {
        seated = subst P s.slots s;
        turned = s.slots ∙ (sym (append-nil xs) ∙ ap (λ (k : ℕ). turned_by k xs) (sym e));
        few = omega (arith, e);
        home = λ _. e;
      }

  -- where the values are out, no slot is turned
  pub still : (words number ahead : ℕ) (row : List (ℕ × Option ℕ)) (lifted : Bool) (m : M) → lifted ≡ true → IsTurned invariant log_at log needs words number ahead row lifted m → IsSeated invariant log_at log needs words number row lifted m
  still words number ahead row lifted m out t =
      let xs : List (ℕ × Option Cell) = slots_of lifted m.0.held in
      let slots : m.1 ≡ xs = t.turned ∙ (ap (λ (k : ℕ). turned_by k xs) (t.home out) ∙ append-nil xs) in
      let P : List (ℕ × Option Cell) → Type 0 = λ ys. IsSeated invariant log_at log needs words number row lifted (m.0, ys) in subst P (sym slots) t.seated

  slot_count : (words number ahead : ℕ) (row : List (ℕ × Option ℕ)) (lifted : Bool) (m : M) → IsTurned invariant log_at log needs words number ahead row lifted m → length (slots_of lifted m.0.held) ≡ length row
  slot_count words number ahead row lifted m t = as_many invariant log_at log needs words number row lifted (m.0, slots_of lifted m.0.held) t.seated

  -- so many slots can be turned back
  pub may_straighten : (words number ahead n : ℕ) (row : List (ℕ × Option ℕ)) (lifted : Bool) (m : M) → IsTurned invariant log_at log needs words number ahead row lifted m → n ≡ length row → (ahead ≤ n) × (n ≤ length m.1)
  may_straighten words number ahead n row lifted m t e =
      let xs : List (ℕ × Option Cell) = slots_of lifted m.0.held in
      let count : length xs ≡ length row = slot_count words number ahead row lifted m t in
      let held : length m.0.held ≡ length row = sym (length_numbers m.0.held) ∙ (ap length (sym t.seated.rows) ∙ length_numbers row) in
      let few = t.few in
      let all : length m.1 ≡ length xs = ap length t.turned ∙ length_turned ahead xs in
      (omega (arith, few, held, e), omega (arith, all, count, e))

  -- the slots are turned back
  pub back : (words words' number ahead n : ℕ) (row : List (ℕ × Option ℕ)) (lifted : Bool) (m m' : M) → IsTurned invariant log_at log needs words number ahead row lifted m → n ≡ length row → m' ≡ (m.0, turned_by (n - ahead) m.1) → words' ≡ words → IsSeated invariant log_at log needs words' number row lifted m'
  back words words' number ahead n row lifted m m' t e is wide =
      let xs : List (ℕ × Option Cell) = slots_of lifted m.0.held in
      let count : n ≡ length xs = e ∙ sym (slot_count words number ahead row lifted m t) in
      let few : ahead ≤ length xs = (let h : length m.0.held ≡ length row = sym (length_numbers m.0.held) ∙ (ap length (sym t.seated.rows) ∙ length_numbers row) in let f = t.few in omega (arith, f, h, e, count)) in
      let all : turned_by (n - ahead) m.1 ≡ xs = (λ i. turned_by (count i - ahead) (t.turned i)) ∙ turn_back ahead xs few in
      let whole : m' ≡ (m.0, xs) = is ∙ ap (λ (ys : List (ℕ × Option Cell)). let w : M = (m.0, ys) in w) all in
      let P : ℕ × M → Type 0 = λ x. IsSeated invariant log_at log needs x.0 number row lifted x.1 in subst P (λ z. (sym wide z, sym whole z)) t.seated

  -- another view of the same cells
  pub moved_on : (words words' number ahead : ℕ) (row : List (ℕ × Option ℕ)) (lifted : Bool) (m m' : M) (v : View Cell Actor Entry) → IsTurned invariant log_at log needs words number ahead row lifted m → m' ≡ (v, m.1) → v.held ≡ m.0.held → IsSeated invariant log_at log needs words' number row lifted (v, slots_of lifted m.0.held)
      → IsTurned invariant log_at log needs words' number ahead row lifted m'
  moved_on words words' number ahead row lifted m m' v t is same s =
      let P : M → Type 0 = λ x. IsTurned invariant log_at log needs words' number ahead row lifted x in subst P (sym is) record {
        seated = subst (λ (ps : List (ℕ × Cell)). IsSeated invariant log_at log needs words' number row lifted (v, slots_of lifted ps)) (sym same) s;
        turned = t.turned ∙ ap (λ (ps : List (ℕ × Cell)). turned_by ahead (slots_of lifted ps)) (sym same);
        few = subst (λ (ps : List (ℕ × Cell)). ahead ≤ length ps) (sym same) t.few;
        home = t.home;
      }

  -- the i-th slot is turned to the front
  pub turned_on : (words words' number i k : ℕ) (rank : Option ℕ) (row : List (ℕ × Option ℕ)) (lifted : Bool) (m m' : M) → IsSeated invariant log_at log needs words number row lifted m → lifted ≡ false → get_elem? row i ≡ some (k, rank) → m' ≡ (m.0, turned_by i m.1) → words' ≡ words
      → IsTurned invariant log_at log needs words' number i row lifted m'
  turned_on words words' number i k rank row lifted m m' s home at is wide =
      let xs : List (ℕ × Option Cell) = slots_of lifted m.0.held in
      let Q : List (ℕ × Option Cell) → Type 0 = λ ys. IsSeated invariant log_at log needs words number row lifted (m.0, ys) in
      let P : ℕ × M → Type 0 = λ x. IsTurned invariant log_at log needs x.0 number i row lifted x.1 in subst P (λ z. (sym wide z, sym is z)) record {
        seated = subst Q s.slots s;
        turned = ap (turned_by i) s.slots;
        few = (let low : i < length row = below_length row i _ at in let held : length m.0.held ≡ length row = sym (length_numbers m.0.held) ∙ (ap length (sym s.rows) ∙ length_numbers row) in omega (arith, low, held));
        home = λ out. absurd (let never : false ≡ true = sym home ∙ out in cc);
      }

  -- the slot in front has the value of its cell
  pub lent : (words number i k : ℕ) (rank : Option ℕ) (row : List (ℕ × Option ℕ)) (lifted : Bool) (m m' : M) → IsSeated invariant log_at log needs words number row lifted m → lifted ≡ false → get_elem? row i ≡ some (k, rank) → m' ≡ (m.0, turned_by i m.1)
      → (c : Cell) × (m'.1 ≡ (k, Some c) ∷ rest m'.1) × ((x : Cell) → m'.1 ≡ (k, Some x) ∷ rest m'.1 → value_of m.0.held k ≡ some x)
  lent words number i k rank row lifted m m' s home at is =
      let t = slots_turned invariant log_at log needs number words i k rank row lifted m s home at in
      let front : m'.1 ≡ (k, Some t.0) ∷ (drop (i + 1) m.1 ++ take i m.1) = ap (λ (x : M). x.1) is ∙ t.2 in
      let had : value_of m.0.held k ≡ some t.0 = at_found m.0.held i (k, t.0) s.distinct t.1 in (
        t.0,
        front ∙ ap (λ (l : List (ℕ × Option Cell)). (k, Some t.0) ∷ l) (sym (ap rest front)),
        (λ x has. had ∙ ap some (ap (first t.0) (sym front ∙ has))),
      )
    where
      inner : Cell → Option Cell → Cell
      inner d None = d
      inner d (Some c) = c

      first : Cell → List (ℕ × Option Cell) → Cell
      first d [] = d
      first d (p ∷ ps) = inner d p.1
