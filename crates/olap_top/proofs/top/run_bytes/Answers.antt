use Rattle.std.proofs.Common.{◌≡◌, ◌∙◌, inl, inr, refl, sym, subst}
use Rattle.std.specs.Prelude.{Ok}
use Rattle.script_form.specs.Scripts.{records_of, script}
use Rattle.olap_top.specs.declared.outcome.Status.TheVariants as status_is
use Rattle.olap_top.proofs.top.run_bytes.Goals as goal

pub run_script-requires-clause-settings : goal.run_script-requires-clause-settings
run_script-requires-clause-settings g c κs within = c.in-Ok.ensures.settings

pub run_script-requires-clause-fits : goal.run_script-requires-clause-fits
run_script-requires-clause-fits g c κs within = c.in-Ok.ensures.fits

pub run_script-requires-clause-dims : goal.run_script-requires-clause-dims
run_script-requires-clause-dims g c κs within = c.in-Ok.ensures.dims

pub returns-in-Ok-clause-kinds : goal.returns-in-Ok-clause-kinds
returns-in-Ok-clause-kinds g c = elim c.run_script.ensures.kinds [
  | inl done ↦ inl done
  | inr rest ↦ inr (inr rest)
]

pub returns-in-Ok-clause-bad_script : goal.returns-in-Ok-clause-bad_script
returns-in-Ok-clause-bad_script g c = λ is. absurd (elim c.run_script.ensures.kinds [
  | inl done ↦ let other = sym done ∙ is in cc
  | inr (inl fault) ↦ let other = sym fault ∙ is in cc
  | inr (inr shortage) ↦ let other = sym shortage ∙ is in cc
])

pub returns-in-Ok-clause-no_memory : goal.returns-in-Ok-clause-no_memory
returns-in-Ok-clause-no_memory g c = λ is.
    let found : script (records_of c.args.bytes.items) ≡ Ok c.in-Ok.script = subst (λ l. script (records_of l) ≡ Ok c.in-Ok.script) c.deref.ensures.value c.in-Ok.ensures.answer in
    elim (c.run_script.ensures.no_memory is) [
      | inl none ↦ inl none
      | inr ran ↦ inr (c.in-Ok.script, found, ran)
    ]

pub returns-in-Ok-clause-write_fault : goal.returns-in-Ok-clause-write_fault
returns-in-Ok-clause-write_fault g c = λ is.
    let found : script (records_of c.args.bytes.items) ≡ Ok c.in-Ok.script = subst (λ l. script (records_of l) ≡ Ok c.in-Ok.script) c.deref.ensures.value c.in-Ok.ensures.answer in
    let fault = c.run_script.ensures.write_fault is in
    (fault.0, (c.in-Ok.script, found, fault.1))

pub returns-in-Ok-clause-done : goal.returns-in-Ok-clause-done
returns-in-Ok-clause-done g c = λ is.
    let found : script (records_of c.args.bytes.items) ≡ Ok c.in-Ok.script = subst (λ l. script (records_of l) ≡ Ok c.in-Ok.script) c.deref.ensures.value c.in-Ok.ensures.answer in
    let ran = c.run_script.ensures.done is in
    (c.in-Ok.script, found, ran.0, ran.1)

pub returns-in-Ok-clause-run : goal.returns-in-Ok-clause-run
returns-in-Ok-clause-run g c =
    let found : script (records_of c.args.bytes.items) ≡ Ok c.in-Ok.script = subst (λ l. script (records_of l) ≡ Ok c.in-Ok.script) c.deref.ensures.value c.in-Ok.ensures.answer in
    elim c.run_script.ensures.run [
      | inl none ↦ inl (inr none.0, none.1)
      | inr leaves ↦ inr (c.in-Ok.script, found, leaves)
    ]

pub returns-in-Err-NoMemory-clause-kinds : goal.returns-in-Err-NoMemory-clause-kinds
returns-in-Err-NoMemory-clause-kinds g c = inr (inr (inr c.without_run.ensures.status))

pub returns-in-Err-NoMemory-clause-bad_script : goal.returns-in-Err-NoMemory-clause-bad_script
returns-in-Err-NoMemory-clause-bad_script g c = λ is. absurd (let other : status_is.NoMemory ≡ status_is.BadScript = sym c.without_run.ensures.status ∙ is in cc)

pub returns-in-Err-NoMemory-clause-no_memory : goal.returns-in-Err-NoMemory-clause-no_memory
returns-in-Err-NoMemory-clause-no_memory g c = λ is. inl (refl, c.without_run.ensures.nothing)

pub returns-in-Err-NoMemory-clause-write_fault : goal.returns-in-Err-NoMemory-clause-write_fault
returns-in-Err-NoMemory-clause-write_fault g c = λ is. absurd (let other : status_is.NoMemory ≡ status_is.WriteFault = sym c.without_run.ensures.status ∙ is in cc)

pub returns-in-Err-NoMemory-clause-done : goal.returns-in-Err-NoMemory-clause-done
returns-in-Err-NoMemory-clause-done g c = λ is. absurd (let other : status_is.NoMemory ≡ status_is.Done = sym c.without_run.ensures.status ∙ is in cc)

pub returns-in-Err-NoMemory-clause-run : goal.returns-in-Err-NoMemory-clause-run
returns-in-Err-NoMemory-clause-run g c = inl (inr c.without_run.ensures.status, c.without_run.ensures.nothing)

pub returns-in-Err-Bad-clause-kinds : goal.returns-in-Err-Bad-clause-kinds
returns-in-Err-Bad-clause-kinds g c = elim c.tell_bad.ensures.kinds [
  | inl bad ↦ inr (inl bad)
  | inr shortage ↦ inr (inr (inr shortage))
]

pub returns-in-Err-Bad-clause-no_memory : goal.returns-in-Err-Bad-clause-no_memory
returns-in-Err-Bad-clause-no_memory g c = λ is. inl (c.tell_bad.ensures.no_memory is, c.tell_bad.ensures.nothing)

pub returns-in-Err-Bad-clause-write_fault : goal.returns-in-Err-Bad-clause-write_fault
returns-in-Err-Bad-clause-write_fault g c = λ is. absurd (elim c.tell_bad.ensures.kinds [
  | inl bad ↦ let other = sym bad ∙ is in cc
  | inr shortage ↦ let other = sym shortage ∙ is in cc
])

pub returns-in-Err-Bad-clause-done : goal.returns-in-Err-Bad-clause-done
returns-in-Err-Bad-clause-done g c = λ is. absurd (elim c.tell_bad.ensures.kinds [
  | inl bad ↦ let other = sym bad ∙ is in cc
  | inr shortage ↦ let other = sym shortage ∙ is in cc
])

pub returns-in-Err-Bad-clause-run : goal.returns-in-Err-Bad-clause-run
returns-in-Err-Bad-clause-run g c = inl (c.tell_bad.ensures.kinds, c.tell_bad.ensures.nothing)
