-- Where a list of records is a script, and where it is bad.
use Rattle.std.proofs.{Common.{◌≡◌, ◌<◌, ◌+◌, ◌++◌, ◌⊎◌, ℕ, List, [], ◌∷◌, length, Option, Some, None, Ok, Err, arith, refl, sym, ◌∙◌, ap, inl, inr, length-append}, lemmas.List.{append_assoc, append-nil}}
use Rattle.std.specs.{Option.option_or, Prelude.option_map}
use Rattle.script_form.specs.{Faults.{AreFine, IsFirstFault}, Fields.Record, Scripts.{first_cause, first_fault, script, script_of, unless}, declared.script.Cause.Cause, declared.script.Script.Script, declared.script.ScriptFault.ScriptFault, declared.script.ScriptFault.TheVariants.Bad}

-- none of the records has a cause, each behind the first list and those before it
abbrev FineBehind : List Record → List Record → Type 0
FineBehind before rs = (front : List Record) (r : Record) (rest : List Record) → rs ≡ front ++ r ∷ rest → first_cause (before ++ front) r ≡ None

none_fine : (before : List Record) → FineBehind before []
none_fine before front r rest is = absurd (omega (arith, ap length is, length-append front (r ∷ rest)))

more_fine : (before rs : List Record) (r : Record) → first_cause before r ≡ None → FineBehind (before ++ r ∷ []) rs → FineBehind before (r ∷ rs)
more_fine before rs r none fine [] bad rest is = let same : r ≡ bad = cc in rw (append-nil before, ← same) none
more_fine before rs r none fine (first ∷ front) bad rest is =
    let same : r ≡ first = cc in
    let tail : rs ≡ front ++ bad ∷ rest = cc in
    rw (← same) (rw append_assoc at (fine front bad rest tail))

head_fine : (before rs : List Record) (r : Record) → FineBehind before (r ∷ rs) → first_cause before r ≡ None
head_fine before rs r fine = rw (append-nil before) at (fine [] r rs refl)

tail_fine : (before rs : List Record) (r : Record) → FineBehind before (r ∷ rs) → FineBehind (before ++ r ∷ []) rs
tail_fine before rs r fine front bad rest is = rw append_assoc (fine (r ∷ front) bad rest (ap (λ l. r ∷ l) is))

-- No fault.

or_none : (o : Option Cause) (fault : Cause → ScriptFault) (later : Option ScriptFault) → option_or (option_map fault o) later ≡ None → (o ≡ None) × (later ≡ None)
or_none None fault later is = (refl, is)
or_none (Some c) fault later is = cc

fine_by_fault : (before rs : List Record) → first_fault before rs ≡ None → FineBehind before rs
fine_by_fault before [] is = none_fine before
fine_by_fault before (r ∷ rs) is =
    let parts = or_none (first_cause before r) (λ c. Bad (length before + 1) c) (first_fault (before ++ r ∷ []) rs) is in
    more_fine before rs r parts.0 (fine_by_fault (before ++ r ∷ []) rs parts.1)

fault_by_fine : (before rs : List Record) → FineBehind before rs → first_fault before rs ≡ None
fault_by_fine before [] fine = refl
fault_by_fine before (r ∷ rs) fine = rw (head_fine before rs r fine) (fault_by_fine (before ++ r ∷ []) rs (tail_fine before rs r fine))

-- The first fault.

record FaultBehind (before rs : List Record) (f : ScriptFault) : Type 0 where
  front : List Record
  bad : Record
  rest : List Record
  why : Cause
  whole : rs ≡ front ++ bad ∷ rest
  fine : FineBehind before front
  cause : first_cause (before ++ front) bad ≡ Some why
  told : f ≡ Bad (length (before ++ front) + 1) why

or_some : (o : Option Cause) (fault : Cause → ScriptFault) (later : Option ScriptFault) (f : ScriptFault) → option_or (option_map fault o) later ≡ Some f
    → ((c : Cause) × (o ≡ Some c) × (f ≡ fault c)) ⊎ ((o ≡ None) × (later ≡ Some f))
or_some None fault later f is = inr (refl, is)
or_some (Some c) fault later f is = inl (c, refl, cc)

behind_by_fault : (before rs : List Record) (f : ScriptFault) → first_fault before rs ≡ Some f → FaultBehind before rs f
behind_by_fault before [] f is = cc
behind_by_fault before (r ∷ rs) f is =
    elim (or_some (first_cause before r) (λ c. Bad (length before + 1) c) (first_fault (before ++ r ∷ []) rs) f is) [
      | inl here ↦ record {
        front = [];
        bad = r;
        rest = rs;
        why = here.0;
        whole = refl;
        fine = none_fine before;
        cause = rw (append-nil before) here.1;
        told = rw (append-nil before) here.2;
      }
      | inr later ↦
          let behind = behind_by_fault (before ++ r ∷ []) rs f later.1 in
          record {
            front = r ∷ behind.front;
            bad = behind.bad;
            rest = behind.rest;
            why = behind.why;
            whole = ap (λ l. r ∷ l) behind.whole;
            fine = more_fine before behind.front r later.0 behind.fine;
            cause = rw append_assoc at behind.cause;
            told = rw append_assoc at behind.told;
          }
    ]

fault_by_behind : (before front rest : List Record) (bad : Record) (c : Cause) → FineBehind before front → first_cause (before ++ front) bad ≡ Some c
    → first_fault before (front ++ bad ∷ rest) ≡ Some (Bad (length (before ++ front) + 1) c)
fault_by_behind before [] rest bad c fine cause = let here = rw (append-nil before) at cause in rw (append-nil before, here) refl
fault_by_behind before (r ∷ front) rest bad c fine cause =
    let later = fault_by_behind (before ++ r ∷ []) front rest bad c (tail_fine before front r fine) (rw append_assoc cause) in
    rw (head_fine before front r fine) (rw append_assoc at later)

-- The laws.

unless_ok : (o : Option ScriptFault) (s t : Script) → unless o s ≡ Ok t → (o ≡ None) × (t ≡ s)
unless_ok None s t is = (refl, cc)
unless_ok (Some f) s t is = cc

unless_err : (o : Option ScriptFault) (s : Script) (f : ScriptFault) → unless o s ≡ Err f → o ≡ Some f
unless_err None s f is = cc
unless_err (Some e) s f is = let same : e ≡ f = cc in ap Some same

pub bad_is_first : (rs : List Record) (at : ℕ) (c : Cause) → 0 < length rs → script rs ≡ Err (Bad at c) → IsFirstFault rs at c
bad_is_first [] at c some is = absurd (omega arith)
bad_is_first (r ∷ rs) at c some is =
    let behind = behind_by_fault [] (r ∷ rs) (Bad at c) (unless_err (first_fault [] (r ∷ rs)) (script_of (r ∷ rs)) (Bad at c) is) in
    let same : c ≡ behind.why = let told = behind.told in cc in
    record {
      front = behind.front;
      bad = behind.bad;
      rest = behind.rest;
      whole = behind.whole;
      fine = behind.fine;
      cause = behind.cause ∙ ap Some (sym same);
      number = let told = behind.told in cc;
    }

pub first_is_bad : (rs : List Record) (at : ℕ) (c : Cause) → IsFirstFault rs at c → script rs ≡ Err (Bad at c)
first_is_bad [] at c first = absurd (omega (arith, ap length first.whole, length-append first.front (first.bad ∷ first.rest)))
first_is_bad (r ∷ rs) at c first =
    let fault = fault_by_behind [] first.front first.rest first.bad c first.fine first.cause in
    let all = ap (first_fault []) first.whole ∙ fault ∙ ap (λ n. Some (Bad n c)) (sym first.number) in
    ap (λ o. unless o (script_of (r ∷ rs))) all

pub good_is_fine : (rs : List Record) (s : Script) → script rs ≡ Ok s → (0 < length rs) × AreFine rs × (s ≡ script_of rs)
good_is_fine [] s is = cc
good_is_fine (r ∷ rs) s is =
    let parts = unless_ok (first_fault [] (r ∷ rs)) (script_of (r ∷ rs)) s is in
    (omega arith, fine_by_fault [] (r ∷ rs) parts.0, parts.1)

pub fine_is_good : (rs : List Record) (s : Script) → 0 < length rs → AreFine rs → s ≡ script_of rs → script rs ≡ Ok s
fine_is_good [] s some fine is = absurd (omega arith)
fine_is_good (r ∷ rs) s some fine is = rw (fault_by_fine [] (r ∷ rs) fine, is) refl
