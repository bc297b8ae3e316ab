-- A good script on which no fault rises is run to its end, unless memory runs out.
use Rattle.std.proofs.{Common.{◌≡◌, ◌∙◌, ◌+◌, ◌^◌, ◌⊎◌, inl, inr, ℕ, Bool, List, ◌++◌, length, append-nil, refl, sym, ap, arith}, lemmas.List.length-append}
use Rattle.std.specs.Prelude.{Option, Some, None, Err}
use Rattle.script_form.specs.{Scripts.{records_of, script}, declared.script.Cause.Cause, declared.script.ScriptFault.TheVariants.Bad}
use Rattle.volap_io.specs.Causes.{Gave}
use Rattle.olap_top.specs.{Outcomes.{HasGoodScript, IsGoodScript, IsNoScript, IsReadWhole}, declared.outcome.Status.Status, declared.wanted.Wanted.Wanted, declared.wanted.Wanted.TheVariants.{Step, Seeded, Run, Load}}
use Rattle.olap_top.specs.declared.outcome.Status.TheVariants as status_is

-- a source that tells few bytes gives no more
few-given : (left now : Option (List ℕ)) → IsGoodScript left → Gave left now (λ count. count ≡ 2 ^ 26 + 1) → ⊥
few-given None now good gave = let tells = good.tells in cc
few-given (Some xs) None good gave = gave.1
few-given (Some xs) (Some ys) good gave =
    let same : xs ≡ good.bytes = let tells = good.tells in cc in
    omega (arith, ap length (sym same ∙ gave.1), length-append gave.0 ys, good.few, gave.2)

-- what it tells, read to its end, is a script
whole-good : (left now : Option (List ℕ)) (bytes : List ℕ) (at : ℕ) (cause : Cause) → IsGoodScript left → IsReadWhole left now bytes → script (records_of bytes) ≡ Err (Bad at cause) → ⊥
whole-good None now bytes at cause good read bad = let tells = good.tells in cc
whole-good (Some xs) None bytes at cause good read bad = read.consumed
whole-good (Some xs) (Some ys) bytes at cause good read bad =
    let same : xs ≡ good.bytes = let tells = good.tells in cc in
    let whole : bytes ≡ good.bytes = sym (append-nil bytes) ∙ ap (λ l. bytes ++ l) (sym read.at_end) ∙ sym read.consumed ∙ same in
    let other = sym (ap (λ l. script (records_of l)) whole ∙ good.is_script.1) ∙ bad in
    cc

-- where five statuses are ruled out
two-left : (status : Status) → (status ≡ status_is.ReadFault → ⊥) → (status ≡ status_is.BadWords → ⊥) → (status ≡ status_is.BadScript → ⊥) → (status ≡ status_is.WriteFault → ⊥) → (status ≡ status_is.TooLarge → ⊥)
    → (status ≡ status_is.Done) ⊎ (status ≡ status_is.NoMemory)
two-left status_is.Done no_read no_words no_script no_write no_large = inl refl
two-left status_is.ReadFault no_read no_words no_script no_write no_large = absurd (no_read refl)
two-left status_is.BadWords no_read no_words no_script no_write no_large = absurd (no_words refl)
two-left status_is.BadScript no_read no_words no_script no_write no_large = absurd (no_script refl)
two-left status_is.WriteFault no_read no_words no_script no_write no_large = absurd (no_write refl)
two-left status_is.NoMemory no_read no_words no_script no_write no_large = inr refl
two-left status_is.TooLarge no_read no_words no_script no_write no_large = absurd (no_large refl)

of-good : (status : Status) (left now taken_before taken_now : Option (List ℕ)) (faults_before faults_now : ℕ) → IsGoodScript left
    → (status ≡ status_is.ReadFault → ⊥) → (status ≡ status_is.BadWords → ⊥) → (status ≡ status_is.WriteFault → ⊥)
    → (status ≡ status_is.BadScript → IsNoScript left now taken_before taken_now faults_before faults_now)
    → (status ≡ status_is.TooLarge → Gave left now (λ count. count ≡ 2 ^ 26 + 1))
    → (status ≡ status_is.Done) ⊎ (status ≡ status_is.NoMemory)
of-good status left now taken_before taken_now faults_before faults_now good no_read no_words no_write bad large =
    two-left status no_read no_words (λ is. let no = bad is in whole-good left now no.bytes no.at no.cause good no.read no.no_script) no_write (λ is. few-given left now good (large is))

pub complete : (wanted : Wanted) (status : Status) (left now taken_before taken_now : Option (List ℕ)) (faults_before faults_now : ℕ) → HasGoodScript wanted left
    → (status ≡ status_is.ReadFault → ⊥) → (status ≡ status_is.BadWords → ⊥) → (status ≡ status_is.WriteFault → ⊥)
    → (status ≡ status_is.BadScript → IsNoScript left now taken_before taken_now faults_before faults_now)
    → (status ≡ status_is.TooLarge → Gave left now (λ count. count ≡ 2 ^ 26 + 1))
    → ((rows seed : ℕ) (threads : Bool) → wanted ≡ Load rows seed threads → (status ≡ status_is.Done) ⊎ (status ≡ status_is.WriteFault) ⊎ (status ≡ status_is.NoMemory))
    → (status ≡ status_is.Done) ⊎ (status ≡ status_is.NoMemory)
complete Step status left now taken_before taken_now faults_before faults_now good no_read no_words no_write bad large load =
    of-good status left now taken_before taken_now faults_before faults_now good no_read no_words no_write bad large
complete (Seeded seed) status left now taken_before taken_now faults_before faults_now good no_read no_words no_write bad large load =
    of-good status left now taken_before taken_now faults_before faults_now good no_read no_words no_write bad large
complete Run status left now taken_before taken_now faults_before faults_now good no_read no_words no_write bad large load =
    of-good status left now taken_before taken_now faults_before faults_now good no_read no_words no_write bad large
complete (Load rows seed threads) status left now taken_before taken_now faults_before faults_now good no_read no_words no_write bad large load = elim (load rows seed threads refl) [
  | inl done ↦ inl done
  | inr (inl fault) ↦ absurd (no_write fault)
  | inr (inr shortage) ↦ inr shortage
]
