-- What the answers of the top call say of bytes in memory.
use Rattle.std.proofs.Common.{◌≡◌, ◌∙◌, ℕ, ◌+◌, ◌<◌, ◌^◌, List, [], ◌∷◌, ◌++◌, append-nil, length, length-append, sym, ap, subst, arith}
use Rattle.std.specs.{Prelude.{Ok, Err, Some, Option, String, codes, map, string_bytes}, declared.alloc.Global.Global}
use Rattle.volap_io.specs.Causes.{Gave}
use Rattle.list_words.proofs.Elements.{Some-same}
use Rattle.row_ledger.specs.declared.event.Event.{Event}
use Rattle.script_form.specs.{Scripts.{records_of, script}, declared.script.ScriptFault.TheVariants.Bad}
use Rattle.olap_top.proofs.WantedFacts.{is_wanted}
use Rattle.olap_top.specs.{Outcomes.{IsDone, IsNoScript, IsReadWhole}, Words.{Want, ForSomeWanted}, declared.wanted.Wanted.Wanted, declared.wanted.Wanted.TheVariants.Step}
use Rattle.library_runs.specs.Text.{IsAnswer, IsBadText}

-- what was read to the end is all
read-all : (xs ys bytes : List ℕ) → xs ≡ bytes ++ ys → ys ≡ [] → bytes ≡ xs
read-all xs ys bytes all end = sym (all ∙ ap (λ l. bytes ++ l) end ∙ append-nil bytes)

-- the word alone asks for nothing but a script's commands one after the other
wants-step : (words : List (List ℕ)) (wanted : Wanted) → words ≡ codes "step" ∷ [] → Want words wanted → wanted ≡ Step
wants-step words wanted alone want = Some-same Step wanted (sym (is_wanted words Step alone) ∙ is_wanted words wanted want)

pub is-answer : (words : List (String Global)) (bytes given left empty taken : List ℕ) (history : List Event) → given ≡ bytes → empty ≡ [] → map string_bytes words ≡ codes "step" ∷ []
    → ForSomeWanted words (λ wanted. IsDone wanted (Some given) (Some left) (Some empty) (Some taken) history) → IsAnswer bytes taken history
is-answer words bytes given left empty taken history given_is empty_is alone done =
    let step = wants-step (map string_bytes words) done.0 alone done.1 in
    let asked : IsDone Step (Some given) (Some left) (Some empty) (Some taken) history = subst (λ wanted. IsDone wanted (Some given) (Some left) (Some empty) (Some taken) history) step done.2 in
    let read : IsDone Step (Some bytes) (Some left) (Some empty) (Some taken) history = subst (λ l. IsDone Step (Some l) (Some left) (Some empty) (Some taken) history) given_is asked in
    let is : IsDone Step (Some bytes) (Some left) (Some []) (Some taken) history = subst (λ l. IsDone Step (Some bytes) (Some left) (Some l) (Some taken) history) empty_is read in
    let whole : IsReadWhole (Some bytes) (Some left) is.read.bytes = is.read.asked in
    record {
      asked = is.script;
      read = subst (λ l. script (records_of l) ≡ Ok is.script) (read-all bytes left is.read.bytes whole.consumed whole.at_end) is.read.is_script;
      ran = is.ran;
      text_is = is.took;
    }

pub is-bad : (bytes left : List ℕ) (taken_before taken_now : Option (List ℕ)) (faults_before faults_now : ℕ) → IsNoScript (Some bytes) (Some left) taken_before taken_now faults_before faults_now → IsBadText bytes
is-bad bytes left taken_before taken_now faults_before faults_now is = record {
  at = is.at;
  cause = is.cause;
  bad = subst (λ l. script (records_of l) ≡ Err (Bad is.at is.cause)) (read-all bytes left is.bytes is.read.consumed is.read.at_end) is.no_script;
}

pub is-large : (bytes left : List ℕ) → Gave (Some bytes) (Some left) (λ count. count ≡ 2 ^ 26 + 1) → 2 ^ 26 < length bytes
is-large bytes left gave = let all = ap length gave.1 in omega (arith, all, length-append gave.0 left, gave.2)
