-- What is asked to be written, as phases are told or not.
use Rattle.std.proofs.{Common.{◌≡◌, ◌∙◌, ◌≤◌, ◌^◌, ◌⊎◌, inl, inr, ℕ, Bool, true, List, [], Vec, Global, refl, sym, ap, subst, arith}, lemmas.Bool.{false≢true}}
use Rattle.std.specs.{Io.KnownBytes.{Consumes, IsAtEnd}, Prelude.{Option, Result, Ok, Err, IfOk, vec_len, if◌then◌else◌}}
use Rattle.answer_text.specs.Printed.{told, told_to}
use Rattle.row_ledger.specs.declared.event.Event.{Event}
use Rattle.script_form.specs.{Scripts.{records_of, script}, declared.script.Cause.Cause, declared.script.Script.Script, declared.script.ScriptFault.TheVariants.Bad}
use Rattle.volap_gen.specs.Law.{GoodScriptLaw}
use Rattle.volap_io.specs.declared.source.ReadEnd.{ReadEnd}
use Rattle.olap_top.specs.{Outcomes.{AreAsked, IsReadWhole, RanTo, RanToPhase, asked_text, asked_text_to}, RunSoFar.tells_phases, declared.wanted.Wanted.Wanted, declared.wanted.Wanted.TheVariants.{Step, Seeded, Run, Load}}

pub asked-to : (wanted : Wanted) (k : ℕ) (s : Script) (history : List Event) → asked_text_to k wanted s history ≡ (if tells_phases wanted then told_to k s.with s.commands history else [])
asked-to Step k s history = refl
asked-to (Seeded seed) k s history = refl
asked-to Run k s history = refl
asked-to (Load rows seed threads) k s history = refl

-- a script from the source is wanted
abbrev pub IsRead : Wanted → Type 0
IsRead wanted = (wanted ≡ Step) ⊎ ((seed : ℕ) × (wanted ≡ Seeded seed)) ⊎ (wanted ≡ Run)

pub tells-step : (wanted : Wanted) → IsRead wanted → tells_phases wanted ≡ true
tells-step wanted (inl is) = ap tells_phases is
tells-step wanted (inr (inl is)) = ap tells_phases is.1
tells-step wanted (inr (inr is)) = ap tells_phases is

-- where phases are told, their text is what is asked for
pub asked-told : (wanted : Wanted) (s : Script) (history : List Event) → tells_phases wanted ≡ true → asked_text wanted s history ≡ told s.with s.commands history
asked-told Step s history telling = refl
asked-told (Seeded seed) s history telling = refl
asked-told Run s history telling = refl
asked-told (Load rows seed threads) s history telling = absurd (false≢true telling)

pub ran-to : (wanted : Wanted) (s : Script) (taken_before taken_now : Option (List ℕ)) (history : List Event) → tells_phases wanted ≡ true → RanToPhase s taken_before taken_now history → RanTo wanted s taken_before taken_now history
ran-to Step s taken_before taken_now history telling ran = ran
ran-to (Seeded seed) s taken_before taken_now history telling ran = ran
ran-to Run s taken_before taken_now history telling ran = ran
ran-to (Load rows seed threads) s taken_before taken_now history telling ran = absurd (false≢true telling)

-- What was read to its end is asked for, but by a load.

asked-whole : (wanted : Wanted) → IsRead wanted → (before now : Option (List ℕ)) (bytes : List ℕ) → IsReadWhole before now bytes → AreAsked wanted before now bytes
asked-whole wanted (inl is) before now bytes whole = subst (λ (w : Wanted). AreAsked w before now bytes) (sym is) whole
asked-whole wanted (inr (inl is)) before now bytes whole = subst (λ (w : Wanted). AreAsked w before now bytes) (sym is.1) whole
asked-whole wanted (inr (inr is)) before now bytes whole = subst (λ (w : Wanted). AreAsked w before now bytes) (sym is) whole

pub asked-read : (wanted : Wanted) → IsRead wanted → (before now : Option (List ℕ)) (r : Result (Vec ℕ Global) ReadEnd)
    → IfOk r (λ v. Consumes before now v.items × IsAtEnd now) → IfOk r (λ v. vec_len v ≤ 2 ^ 26) → IfOk r (λ v. AreAsked wanted before now v.items)
asked-read wanted step before now (Ok v) all within = asked-whole wanted step before now v.items (record { consumed = all.0; at_end = all.1; few = let few : v.len ≤ 2 ^ 26 = within in omega (arith, v.ok.0) })
asked-read wanted step before now (Err e) all within = tt

-- The generated text is a script.
pub load-good : (rows seed : ℕ) (threads : Bool) (before now : Option (List ℕ)) (bytes : List ℕ) (at : ℕ) (cause : Cause) → GoodScriptLaw → AreAsked (Load rows seed threads) before now bytes
    → script (records_of bytes) ≡ Err (Bad at cause) → ⊥
load-good rows seed threads before now bytes at cause law asked bad = let same = sym (ap (λ l. script (records_of l)) asked.1 ∙ (law rows seed).1) ∙ bad in cc

-- What is no script was read.
pub no-script : (wanted : Wanted) (before now : Option (List ℕ)) (bytes : List ℕ) (at : ℕ) (cause : Cause) → GoodScriptLaw → AreAsked wanted before now bytes → script (records_of bytes) ≡ Err (Bad at cause)
    → IsReadWhole before now bytes
no-script Step before now bytes at cause law asked bad = asked
no-script (Seeded seed) before now bytes at cause law asked bad = asked
no-script Run before now bytes at cause law asked bad = asked
no-script (Load rows seed threads) before now bytes at cause law asked bad = absurd (load-good rows seed threads before now bytes at cause law asked bad)
