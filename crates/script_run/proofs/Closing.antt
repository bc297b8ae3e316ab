-- A command that closes its phase stands alone.
use Rattle.std.proofs.{Common.{◌≡◌, ◌∙◌, ℕ, zero, suc, ◌+◌, ◌*◌, ◌<◌, ◌≤◌, inl, inr, true, List, [], ◌∷◌, length, get_or, refl, sym, ap, subst, arith}, lemmas.Bool.cases_lt}
use Rattle.std.specs.{List.AllZip, Prelude.{Option, Some, None, Contains, slice_get, zip}}
use Rattle.dim_hierarchy.specs.Dimension.{Dimension}
use Rattle.row_ledger.specs.{Classes.class_of, Past.{before, event_at}, declared.event.Event.Event, declared.event.Event.TheVariants.Called, declared.settings.Call.Call, declared.settings.Use.Use}
use Rattle.script_form.specs.{declared.script.Command.Command, declared.script.Command.TheVariants.{Insert, Query, Control, Group}}
use Rattle.script_run.proofs.{Begin.bool-or, Ranks.{least, ranks-closing, ranks-open}, Whole.{places-length, ranks-length, same-default, second}}
use Rattle.script_run.specs.{Between.ClosingLaw, Parts.place_in, Phases.{closes, is_closing, ranks, ranks_from}, Places.places, Runs.{Begins, BeginsAt, EndsBefore, IsRunSoFar}}

-- Ranks.

-- a closing command's rank is above that of an open one in its phase
least-closing : (k : ℕ) (cs : List Command) (i : ℕ) (c : Command) → slice_get cs i ≡ Some c → closes c ≡ true → i < length cs → 2 * k + 1 ≤ get_or (ranks_from k cs) i 0
least-closing k [] i c at is h = absurd (omega arith)
least-closing k (d ∷ cs) zero c at is h =
    let same : d ≡ c = cc in
    let closing : closes d ≡ true = ap closes same ∙ is in
    subst (λ l. 2 * k + 1 ≤ get_or l 0 0) (sym (ranks-closing k d cs closing)) (omega arith)
least-closing k (d ∷ cs) (suc i) c at is h = elim (bool-or (closes d)) [
  | inl closing ↦ let more = least (k + 1) cs i (omega arith) in subst (λ l. 2 * k + 1 ≤ get_or l (suc i) 0) (sym (ranks-closing k d cs closing)) (omega arith)
  | inr open_ ↦ subst (λ l. 2 * k + 1 ≤ get_or l (suc i) 0) (sym (ranks-open k d cs open_)) (least-closing k cs i c at is (omega arith))
]

-- its rank is below those behind it
below-later : (k : ℕ) (cs : List Command) (i j : ℕ) (c : Command) → slice_get cs i ≡ Some c → closes c ≡ true → i < j → j < length cs → get_or (ranks_from k cs) i 0 < get_or (ranks_from k cs) j 0
below-later k [] i j c at is less h = absurd (omega arith)
below-later k (d ∷ cs) i zero c at is less h = absurd (omega arith)
below-later k (d ∷ cs) zero (suc j) c at is less h =
    let same : d ≡ c = cc in
    let closing : closes d ≡ true = ap closes same ∙ is in
    let more = least (k + 1) cs j (omega arith) in
    subst (λ l. get_or l 0 0 < get_or l (suc j) 0) (sym (ranks-closing k d cs closing)) (omega arith)
below-later k (d ∷ cs) (suc i) (suc j) c at is less h = elim (bool-or (closes d)) [
  | inl closing ↦ subst (λ l. get_or l (suc i) 0 < get_or l (suc j) 0) (sym (ranks-closing k d cs closing)) (below-later (k + 1) cs i j c at is (omega arith) (omega arith))
  | inr open_ ↦ subst (λ l. get_or l (suc i) 0 < get_or l (suc j) 0) (sym (ranks-open k d cs open_)) (below-later k cs i j c at is (omega arith) (omega arith))
]

-- and above those before it
above-earlier : (k : ℕ) (cs : List Command) (i j : ℕ) (c : Command) → slice_get cs i ≡ Some c → closes c ≡ true → j < i → i < length cs → get_or (ranks_from k cs) j 0 < get_or (ranks_from k cs) i 0
above-earlier k [] i j c at is less h = absurd (omega arith)
above-earlier k (d ∷ cs) zero j c at is less h = absurd (omega arith)
above-earlier k (d ∷ cs) (suc i) zero c at is less h = elim (bool-or (closes d)) [
  | inl closing ↦ let more = least (k + 1) cs i (omega arith) in subst (λ l. get_or l 0 0 < get_or l (suc i) 0) (sym (ranks-closing k d cs closing)) (omega arith)
  | inr open_ ↦ let more = least-closing k cs i c at is (omega arith) in subst (λ l. get_or l 0 0 < get_or l (suc i) 0) (sym (ranks-open k d cs open_)) (omega arith)
]
above-earlier k (d ∷ cs) (suc i) (suc j) c at is less h = elim (bool-or (closes d)) [
  | inl closing ↦ subst (λ l. get_or l (suc j) 0 < get_or l (suc i) 0) (sym (ranks-closing k d cs closing)) (above-earlier (k + 1) cs i j c at is (omega arith) (omega arith))
  | inr open_ ↦ subst (λ l. get_or l (suc j) 0 < get_or l (suc i) 0) (sym (ranks-open k d cs open_)) (above-earlier k cs i j c at is (omega arith) (omega arith))
]

-- Commands at places.

all-zip-at : {A B : Type 0} → (R : A → B → Type 0) (xs : List A) (ys : List B) (i : ℕ) (d : B) → AllZip R xs ys → i < length ys → (x : A) × (slice_get xs i ≡ Some x) × R x (get_or ys i d)
all-zip-at R xs [] i d all h = absurd (omega arith)
all-zip-at R [] (y ∷ ys) i d all h = absurd all
all-zip-at R (x ∷ xs) (y ∷ ys) zero d all h = (x, refl, all.0)
all-zip-at R (x ∷ xs) (y ∷ ys) (suc i) d all h = all-zip-at R xs ys i d all.1 (omega arith)

-- the command that is called by an event closes its phase where the call does
calls-closing : (with : Use) (h : List Dimension) (past : List Event) (session : ℕ) (call : Call) (c : Command) → Begins with h past c (Called session call) → is_closing (class_of call) ≡ true → closes c ≡ true
calls-closing with h past session call (Insert new) begins is = absurd begins
calls-closing with h past session call (Query question) begins is = absurd begins
calls-closing with h past session call (Control called) begins is = ap (λ (x : Call). is_closing (class_of x)) (sym begins.1) ∙ is
calls-closing with h past session call (Group dim level names) begins is = refl

begun-closing : (with : Use) (h : List Dimension) (history : List Event) (session : ℕ) (call : Call) (c : Command) (of : ℕ) → BeginsAt with h history c (Some of)
    → event_at history of ≡ Some (Called session call) → is_closing (class_of call) ≡ true → closes c ≡ true
begun-closing with h history session call c of begun at is =
    let same : begun.0 ≡ Called session call = (let first = begun.1 in cc) in
    calls-closing with h (before history of) session call c (subst (Begins with h (before history of) c) same begun.2) is

-- where two commands have their places, the one of the lower rank ends before the other begins
ends-by-rank : (with : Use) (h : List Dimension) (commands : List Command) (history : List Event) → IsRunSoFar with h commands history → (i j p q : ℕ) → i < j → j < length commands
    → place_in with commands history i ≡ Some p → place_in with commands history j ≡ Some q → get_or (ranks commands) i 0 < get_or (ranks commands) j 0
    → EndsBefore history (Some p) (Some q)
ends-by-rank with h commands history part i j p q less low at_i at_j lower =
    let ps = places with commands history in
    let len = ranks-length 0 commands in
    let plen = places-length with commands history in
    let d : ℕ × Option ℕ = (0, None) in
    let within : j < length (zip (ranks commands) ps) = omega (arith, length-zip (ranks commands) ps (plen ∙ sym len), len) in
    let first = second with commands history (ranks commands) i d len (omega (arith, within, less)) in
    let last = second with commands history (ranks commands) j d len within in
    subst (λ o. EndsBefore history o (Some q)) (first.0 ∙ at_i)
    (subst (λ o. EndsBefore history (get_or (zip (ranks commands) ps) i d).1 o) (last.0 ∙ at_j)
    (part.phased i j d less within (omega (arith, lower, first.1, last.1))))
  where
    length-zip : (xs : List ℕ) (ys : List (Option ℕ)) → length ys ≡ length xs → length (zip xs ys) ≡ length xs
    length-zip [] ys len = refl
    length-zip (x ∷ xs) [] len = absurd (omega arith)
    length-zip (x ∷ xs) (y ∷ ys) len = ap suc (length-zip xs ys (omega arith))

pub closing-law : ClosingLaw
closing-law with h commands history of p session call e part called closing at beginning other =
    let ps = places with commands history in
    let plen = places-length with commands history in
    let its : Contains ps (Some of) = part.only of (Called session call) called refl in
    let also : Contains ps (Some p) = part.only p e at beginning in
    let i = its.0 in
    let j = also.0 in
    let i_is : place_in with commands history i ≡ Some of = same-default ps i None (Some of) its.1 ∙ its.2 in
    let j_is : place_in with commands history j ≡ Some p = same-default ps j None (Some p) also.1 ∙ also.2 in
    let begun = all-zip-at (BeginsAt with h history) commands ps i (Some of) part.begun its.1 in
    let closes_it : closes begun.0 ≡ true = begun-closing with h history session call begun.0 of (subst (BeginsAt with h history begun.0) its.2 begun.2) called closing in
    let low : i < length commands = omega (arith, its.1, plen) in
    let lower : j < length commands = omega (arith, also.1, plen) in
    elim (cases_lt j i) [
      | inl before ↦ inl (ends-by-rank with h commands history part j i p of before low j_is i_is (above-earlier 0 commands i j begun.0 begun.1 closes_it before low))
      | inr not_before ↦ elim (cases_lt i j) [
        | inl behind ↦ inr (ends-by-rank with h commands history part i j of p behind lower i_is j_is (below-later 0 commands i j begun.0 begun.1 closes_it behind lower))
        | inr here ↦
            let same : i ≡ j = omega arith in
            let places_same : ◌≡◌ {A = Option ℕ} (Some of) (Some p) = sym i_is ∙ ap (place_in with commands history) same ∙ j_is in
            absurd (other (let one : p ≡ of = cc in one))
      ]
    ]
