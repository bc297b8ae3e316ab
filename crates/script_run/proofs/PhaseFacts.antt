-- Phases: how a list of commands falls into them.
use Rattle.std.proofs.{Common.{◌≡◌, ◌∙◌, ℕ, zero, suc, ◌<◌, ◌≤◌, true, false, List, [], ◌∷◌, ◌++◌, length, take, drop, refl, sym, ap, arith, subst, get_or, inl, inr}, Math.Seq.{take-length, drop-length}, lemmas.Bool.cases_Bool, lemmas.Grind.flat_map-append}
use Rattle.std.specs.List.{AllByRecursion}
use Rattle.script_form.specs.declared.script.Command.{Command}
use Rattle.script_run.specs.{Phases.{closes, with_first, phases, all_of}, Streams.NoneCloses}

-- commands up to the first that closes are a phase

-- and so are all where none closes
pub phases-open : (c : Command) (cs : List Command) → NoneCloses (c ∷ cs) → phases (c ∷ cs) ≡ (c ∷ cs) ∷ []
unfolding phases
phases-open c [] none = rw none.0 refl
phases-open c (x ∷ cs) none = rw none.0 (ap (with_first c) (phases-open x cs none.1))

pub phases-nil : phases [] ≡ []
unfolding phases
phases-nil = refl

-- a phase is not empty
abbrev pub IsSome : List Command → Type 0
IsSome cs = 0 < length cs

some-with_first : (c : Command) (ps : List (List Command)) → AllByRecursion IsSome ps → AllByRecursion IsSome (with_first c ps)
some-with_first c [] some = (omega arith, tt)
some-with_first c (p ∷ ps) some = (omega arith, some.1)

pub phases-some : (cs : List Command) → AllByRecursion IsSome (phases cs)
unfolding phases
phases-some [] = tt
phases-some (c ∷ cs) = elim (cases_Bool (closes c)) [
  | inl closed ↦ rw closed (omega arith, phases-some cs)
  | inr other ↦ rw other (some-with_first c (phases cs) (phases-some cs))
]

-- together the phases are the commands

all_of-with_first : (c : Command) (ps : List (List Command)) → all_of (with_first c ps) ≡ c ∷ all_of ps
all_of-with_first c [] = refl
all_of-with_first c (p ∷ ps) = refl

pub all_of-phases : (cs : List Command) → all_of (phases cs) ≡ cs
unfolding phases
all_of-phases [] = refl
all_of-phases (c ∷ cs) = elim (cases_Bool (closes c)) [
  | inl closed ↦ rw closed (ap (λ l. c ∷ l) (all_of-phases cs))
  | inr other ↦ rw other (all_of-with_first c (phases cs) ∙ ap (λ l. c ∷ l) (all_of-phases cs))
]

pub all_of-append : (ps qs : List (List Command)) → all_of (ps ++ qs) ≡ all_of ps ++ all_of qs
all_of-append ps qs = flat_map-append (λ phase. phase) ps qs

-- the first phase ends with the first command that closes
pub phases-at : (cs : List Command) (i : ℕ) (d : Command) → i < length cs → NoneCloses (take i cs) → closes (get_or cs i d) ≡ true
    → phases cs ≡ take (suc i) cs ∷ phases (drop (suc i) cs)
unfolding phases
phases-at [] i d within none closed = absurd (omega arith)
phases-at (x ∷ cs) zero d within none closed = rw closed refl
phases-at (x ∷ cs) (suc i) d within none closed = rw none.0 (ap (with_first x) (phases-at cs i d (omega arith) none.1 closed))

-- or is all there is
pub phases-all : (cs : List Command) (i : ℕ) → 0 < length cs → i ≡ length cs → NoneCloses (take i cs) → phases cs ≡ take (length cs) cs ∷ phases (drop (length cs) cs)
phases-all [] i some past none = absurd (omega arith)
phases-all (c ∷ cs) i some past none =
    let none_all : NoneCloses (c ∷ cs) = subst NoneCloses (ap (λ k. take k (c ∷ cs)) past ∙ take-length (c ∷ cs)) none in
    phases-open c cs none_all
    ∙ ap (λ p. p ∷ []) (sym (take-length (c ∷ cs)))
    ∙ ap (λ ps. take (length (c ∷ cs)) (c ∷ cs) ∷ ps) (sym phases-nil ∙ ap phases (sym (drop-length (c ∷ cs))))

-- and one command more that doesn't close
pub NoneCloses-more : (cs : List Command) (i : ℕ) (d : Command) → i < length cs → NoneCloses (take i cs) → closes (get_or cs i d) ≡ false → NoneCloses (take (suc i) cs)
NoneCloses-more [] i d within none other = absurd (omega arith)
NoneCloses-more (x ∷ cs) zero d within none other = (other, tt)
NoneCloses-more (x ∷ cs) (suc i) d within none other = (none.0, NoneCloses-more cs i d (omega arith) none.1 other)

-- and with fewer
pub NoneCloses-fewer : (cs : List Command) (i j : ℕ) → j ≤ i → NoneCloses (take i cs) → NoneCloses (take j cs)
NoneCloses-fewer [] i zero low none = tt
NoneCloses-fewer [] i (suc j) low none = tt
NoneCloses-fewer (x ∷ cs) i zero low none = tt
NoneCloses-fewer (x ∷ cs) zero (suc j) low none = absurd (omega arith)
NoneCloses-fewer (x ∷ cs) (suc i) (suc j) low none = (none.0, NoneCloses-fewer cs i j (omega arith) none.1)
