-- What a command waits for by its rank.
use Rattle.std.proofs.Common.{◌≡◌, ◌∙◌, ℕ, zero, suc, ◌+◌, ◌*◌, ◌<◌, ◌≤◌, inl, inr, Bool, true, false, List, [], ◌∷◌, ◌++◌, length, get_or, refl, sym, ap, subst, arith}
use Rattle.std.specs.Prelude.{if◌then◌else◌}
use Rattle.script_form.specs.declared.script.Command.{Command}
use Rattle.script_run.specs.{Phases.{ranks_from, closes}, Streams.NoneCloses}
use Rattle.script_run.proofs.Begin.{bool-or}

yes-of : (b : Bool) → b ≡ true → (xs ys : List ℕ) → (if b then xs else ys) ≡ xs
yes-of b is xs ys = rw is refl

no-of : (b : Bool) → b ≡ false → (xs ys : List ℕ) → (if b then xs else ys) ≡ ys
no-of b is xs ys = rw is refl

pub ranks-closing : (k : ℕ) (c : Command) (cs : List Command) → closes c ≡ true → ranks_from k (c ∷ cs) ≡ (2 * k + 1) ∷ ranks_from (k + 1) cs
unfolding ranks_from
ranks-closing k c cs is = yes-of (closes c) is ((2 * k + 1) ∷ ranks_from (k + 1) cs) ((2 * k) ∷ ranks_from k cs)

pub ranks-open : (k : ℕ) (c : Command) (cs : List Command) → closes c ≡ false → ranks_from k (c ∷ cs) ≡ (2 * k) ∷ ranks_from k cs
unfolding ranks_from
ranks-open k c cs is = no-of (closes c) is ((2 * k + 1) ∷ ranks_from (k + 1) cs) ((2 * k) ∷ ranks_from k cs)

-- no rank is below the first
pub least : (k : ℕ) (cs : List Command) (i : ℕ) → i < length cs → 2 * k ≤ get_or (ranks_from k cs) i 0
least k [] i h = absurd (omega arith)
least k (c ∷ cs) zero h = elim (bool-or (closes c)) [
  | inl is ↦ subst (λ l. 2 * k ≤ get_or l 0 0) (sym (ranks-closing k c cs is)) (omega arith)
  | inr is ↦ subst (λ l. 2 * k ≤ get_or l 0 0) (sym (ranks-open k c cs is)) (omega arith)
]
least k (c ∷ cs) (suc i) h = elim (bool-or (closes c)) [
  | inl is ↦ let more = least (k + 1) cs i (omega arith) in subst (λ l. 2 * k ≤ get_or l (suc i) 0) (sym (ranks-closing k c cs is)) (omega arith)
  | inr is ↦ subst (λ l. 2 * k ≤ get_or l (suc i) 0) (sym (ranks-open k c cs is)) (least k cs i (omega arith))
]

-- a command that closes nothing, behind others such, has the first rank
first-rank : (k : ℕ) (front : List Command) (c : Command) (back : List Command) → NoneCloses front → closes c ≡ false → get_or (ranks_from k (front ++ c ∷ back)) (length front) 0 ≡ 2 * k
first-rank k [] c back none is = ap (λ l. get_or l 0 0) (ranks-open k c back is)
first-rank k (d ∷ front) c back none is = ap (λ l. get_or l (suc (length front)) 0) (ranks-open k d (front ++ c ∷ back) none.0) ∙ first-rank k front c back none.1 is

pub law-from : (k : ℕ) (done front : List Command) (c : Command) (back : List Command) (i : ℕ) → NoneCloses front → closes c ≡ false
    → i < length (done ++ (front ++ c ∷ back)) → get_or (ranks_from k (done ++ (front ++ c ∷ back))) i 0 < get_or (ranks_from k (done ++ (front ++ c ∷ back))) (length done + length front) 0
    → i < length done
law-from k [] front c back i none is low less =
    let at : get_or (ranks_from k (front ++ c ∷ back)) (0 + length front) 0 ≡ 2 * k = ap (λ n. get_or (ranks_from k (front ++ c ∷ back)) n 0) (omega arith) ∙ first-rank k front c back none is in
    let more = least k (front ++ c ∷ back) i low in
    absurd (omega (arith, less, at, more))
law-from k (d ∷ done) front c back zero none is low less = omega arith
law-from k (d ∷ done) front c back (suc i) none is low less =
    let rest = done ++ (front ++ c ∷ back) in
    let index : suc (length done) + length front ≡ suc (length done + length front) = omega arith in
    let less_on = subst (λ n. get_or (ranks_from k (d ∷ rest)) (suc i) 0 < get_or (ranks_from k (d ∷ rest)) n 0) index less in
    elim (bool-or (closes d)) [
      | inl closing ↦ let more = law-from (k + 1) done front c back i none is (omega arith)
          (subst (λ l. get_or l (suc i) 0 < get_or l (suc (length done + length front)) 0) (ranks-closing k d rest closing) less_on) in omega arith
      | inr open_ ↦ let more = law-from k done front c back i none is (omega arith)
          (subst (λ l. get_or l (suc i) 0 < get_or l (suc (length done + length front)) 0) (ranks-open k d rest open_) less_on) in omega arith
    ]
