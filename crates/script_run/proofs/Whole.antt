-- A part by places is a part of a run.
use Rattle.std.proofs.{Common.{◌≡◌, ◌∙◌, ℕ, zero, suc, true, false, ◌+◌, ◌*◌, ◌<◌, ◌≤◌, inl, inr, List, [], ◌∷◌, length, get_or, refl, sym, ap, subst, arith}, lemmas.Option.{slice_get-get_or, slice_get_within}, lemmas.Slice.Zip.get_or-zip}
use Rattle.std.specs.{List.AllZip, Prelude.{Option, Some, None, slice_get, zip, if◌then◌else◌}}
use Rattle.dim_hierarchy.specs.Dimension.{Dimension}
use Rattle.row_ledger.specs.{declared.event.Event.Event, declared.settings.Use.Use}
use Rattle.script_form.specs.declared.script.Command.{Command}
use Rattle.script_run.specs.{Parts.{IsPartAt, Waits, place_in, PartLaw, SerialLaw}, Phases.{ranks, ranks_from, closes}, Places.{session_of, places}, Runs.{BeginsAt, EndsBefore}}
use Rattle.script_run.proofs.PlaceFacts.{places_behind-length}

all-zip : {A B : Type 0} → (R : A → B → Type 0) (xs : List A) (ys : List B) (d : B) → length ys ≡ length xs
    → ((i : ℕ) (x : A) → slice_get xs i ≡ Some x → R x (get_or ys i d)) → AllZip R xs ys
all-zip R [] [] d len h = tt
all-zip R [] (y ∷ ys) d len h = absurd (omega arith)
all-zip R (x ∷ xs) [] d len h = absurd (omega arith)
all-zip R (x ∷ xs) (y ∷ ys) d len h = (h 0 x refl, all-zip R xs ys d (omega arith) (λ i z at. h (suc i) z at))

-- what stands in a list doesn't depend on the default
pub same-default : {A : Type 0} → (xs : List A) (i : ℕ) (d e : A) → i < length xs → get_or xs i d ≡ get_or xs i e
same-default [] i d e h = absurd (omega arith)
same-default (x ∷ xs) zero d e h = refl
same-default (x ∷ xs) (suc i) d e h = same-default xs i d e (omega arith)

length-zip : {A B : Type 0} → (xs : List A) (ys : List B) → length (zip xs ys) ≤ length xs
length-zip [] ys = omega arith
length-zip (x ∷ xs) [] = omega arith
length-zip (x ∷ xs) (y ∷ ys) = let more = length-zip xs ys in omega arith

pub ranks-length : (k : ℕ) (cs : List Command) → length (ranks_from k cs) ≡ length cs
unfolding ranks_from
ranks-length k [] = refl
ranks-length k (c ∷ cs) = elim (closes c) as (λ b. length (if b then (2 * k + 1) ∷ ranks_from (k + 1) cs else (2 * k) ∷ ranks_from k cs) ≡ suc (length cs)) [
  | true ↦ ap suc (ranks-length (k + 1) cs)
  | false ↦ ap suc (ranks-length k cs)
]

pub places-length : (with : Use) (commands : List Command) (history : List Event) → length (places with commands history) ≡ length commands
places-length with commands history = places_behind-length with [] commands history

pub get-some : {A : Type 0} → (xs : List A) (i : ℕ) → i < length xs → (x : A) × (slice_get xs i ≡ Some x)
get-some [] i h = absurd (omega arith)
get-some (x ∷ xs) zero h = (x, refl)
get-some (x ∷ xs) (suc i) h = get-some xs i (omega arith)

some-injective : {A : Type 0} → (x y : A) (o : Option A) → o ≡ Some x → o ≡ Some y → x ≡ y
some-injective x y o a b = cc

pair-at : {A B : Type 0} → (xs : List A) (ys : List B) (i : ℕ) (d : A × B) → length ys ≡ length xs → i < length (zip xs ys) → (get_or (zip xs ys) i d ≡ (get_or xs i d.0, get_or ys i d.1)) × (i < length xs)
pair-at xs ys i d len h =
    let low : i < length xs = omega (arith, length-zip xs ys) in
    (get_or-zip xs ys i d low (omega arith), low)

-- the ends of a pair of commands, at its places
ends : (with : Use) (h : List Dimension) (commands : List Command) (waits : ℕ → ℕ → Type 0) (history : List Event)
    → IsPartAt with h commands waits history (place_in with commands history) → (i j : ℕ) → i < length commands → j < length commands → waits i j
    → EndsBefore history (place_in with commands history i) (place_in with commands history j)
ends with h commands waits history part i j low lower w =
    let c = get-some commands i low in
    let d = get-some commands j lower in
    part.in_turn i j c.0 d.0 c.1 d.1 w

-- the second members of a list of pairs
pub second : {A : Type 0} → (with : Use) (commands : List Command) (history : List Event) (xs : List A) (i : ℕ) (d : A × Option ℕ) → length xs ≡ length commands
    → i < length (zip xs (places with commands history))
    → ((get_or (zip xs (places with commands history)) i d).1 ≡ place_in with commands history i) × ((get_or (zip xs (places with commands history)) i d).0 ≡ get_or xs i d.0) × (i < length commands)
second {A} with commands history xs i d len h =
    let ps = places with commands history in
    let plen = places-length with commands history in
    let at = pair-at xs ps i d (plen ∙ sym len) h in
    let low : i < length ps = omega (arith, at.1) in
    (ap (λ (p : A × Option ℕ). p.1) at.0 ∙ same-default ps i d.1 None low, ap (λ (p : A × Option ℕ). p.0) at.0, omega (arith, at.1))

at-command : (commands : List Command) (i : ℕ) (c d : Command) → slice_get commands i ≡ Some c → i < length commands → get_or commands i d ≡ c
at-command commands i c d at low = some-injective (get_or commands i d) c (slice_get commands i) (slice_get-get_or commands i d low) at

pub part_law : PartLaw
part_law with h commands history part = record {
  begun = all-zip (BeginsAt with h history) commands (places with commands history) None (places-length with commands history) part.begun;
  only = λ p e at beginning.
      let found = part.only p e at beginning in
      let low : found.0 < length (places with commands history) = omega (arith, slice_get_within commands found.0 found.1 found.2, places-length with commands history) in
      (found.0, low, same-default (places with commands history) found.0 (Some p) None low ∙ found.3);
  in_order = λ i j d below within same.
      let first = second with commands history commands i d refl (omega arith) in
      let last = second with commands history commands j d refl within in
      let sessions : session_of with (get_or commands i d.0) ≡ session_of with (get_or commands j d.0) =
      ap (session_of with) (sym first.1) ∙ same ∙ ap (session_of with) last.1 in
      let w : Waits with commands i j = (
        below,
        inl (λ b c at_b at_c.
            ap (session_of with) (sym (at-command commands i b d.0 at_b first.2)) ∙ sessions ∙ ap (session_of with) (at-command commands j c d.0 at_c last.2)),
      ) in
      subst (λ o. EndsBefore history o (get_or (zip commands (places with commands history)) j d).1) (sym first.0)
      (subst (λ o. EndsBefore history (place_in with commands history i) o) (sym last.0)
      (ends with h commands (Waits with commands) history part i j first.2 last.2 w));
  phased = λ i j d below within less.
      let len = ranks-length 0 commands in
      let first = second with commands history (ranks commands) i d len (omega arith) in
      let last = second with commands history (ranks commands) j d len within in
      let lower : get_or (ranks commands) i 0 < get_or (ranks commands) j 0 =
      omega (arith, less, first.1, last.1, same-default (ranks commands) i d.0 0 (omega (arith, first.2, len)), same-default (ranks commands) j d.0 0 (omega (arith, last.2, len))) in
      let w : Waits with commands i j = (below, inr lower) in
      subst (λ o. EndsBefore history o (get_or (zip (ranks commands) (places with commands history)) j d).1) (sym first.0)
      (subst (λ o. EndsBefore history (place_in with commands history i) o) (sym last.0)
      (ends with h commands (Waits with commands) history part i j first.2 last.2 w));
  pulls = part.pulls;
}

pub serial_law : SerialLaw
serial_law with h commands history part = λ i j d below within.
    let ps = places with commands history in
    let plen = places-length with commands history in
    let first : i < length commands = omega (arith, within, below, plen) in
    let last : j < length commands = omega (arith, within, plen) in
    subst (λ o. EndsBefore history o (get_or ps j d)) (same-default ps i None d (omega arith))
    (subst (λ o. EndsBefore history (place_in with commands history i) o) (same-default ps j None d within)
    (ends with h commands (λ i j. i < j) history part i j first last below))
