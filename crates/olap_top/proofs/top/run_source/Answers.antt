use Rattle.std.proofs.Common.{◌≡◌, ◌∙◌, Err, inl, inr, refl, sym, subst}
use Rattle.volap_io.specs.declared.source.ReadEnd.TheVariants as end_is
use Rattle.olap_top.specs.{Outcomes.AreAsked, declared.wanted.Wanted.Wanted}
use Rattle.olap_top.specs.declared.outcome.Status.TheVariants as status_is
use Rattle.olap_top.proofs.{Asked.{load-good, no-script}, Ends.not-either}
use Rattle.olap_top.proofs.top.run_source.Goals as goal

pub wanted_bytes-requires : goal.wanted_bytes-requires
wanted_bytes-requires g c = c.requires

pub returns-in-Ok-clause-words : goal.returns-in-Ok-clause-words
returns-in-Ok-clause-words g c = λ is. elim c.run_bytes.ensures.kinds [
  | inl done ↦ let same = sym done ∙ is in cc
  | inr (inl bad) ↦ let same = sym bad ∙ is in cc
  | inr (inr (inl fault)) ↦ let same = sym fault ∙ is in cc
  | inr (inr (inr shortage)) ↦ let same = sym shortage ∙ is in cc
]

pub returns-in-Ok-clause-read_fault : goal.returns-in-Ok-clause-read_fault
returns-in-Ok-clause-read_fault g c = λ is. absurd (elim c.run_bytes.ensures.kinds [
  | inl done ↦ let same = sym done ∙ is in cc
  | inr (inl bad) ↦ let same = sym bad ∙ is in cc
  | inr (inr (inl fault)) ↦ let same = sym fault ∙ is in cc
  | inr (inr (inr shortage)) ↦ let same = sym shortage ∙ is in cc
])

pub returns-in-Ok-clause-too_large : goal.returns-in-Ok-clause-too_large
returns-in-Ok-clause-too_large g c = λ is. absurd (elim c.run_bytes.ensures.kinds [
  | inl done ↦ let same = sym done ∙ is in cc
  | inr (inl bad) ↦ let same = sym bad ∙ is in cc
  | inr (inr (inl fault)) ↦ let same = sym fault ∙ is in cc
  | inr (inr (inr shortage)) ↦ let same = sym shortage ∙ is in cc
])

pub returns-in-Ok-clause-bad_script : goal.returns-in-Ok-clause-bad_script
returns-in-Ok-clause-bad_script g c = λ is.
    let bad = c.run_bytes.ensures.bad_script is in (
      record {
        bytes = c.in-Ok.bytes.items;
        read = no-script c.args.wanted (g.S.Source.left c.args.source.now) (g.S.Source.left c.wanted_bytes.new.source) c.in-Ok.bytes.items bad.0 bad.1 c.generated_is_a_script.ensures c.in-Ok.ensures.asked bad.2;
        at = bad.0;
        cause = bad.1;
        no_script = bad.2;
        took = bad.4;
      },
      bad.3,
    )

pub returns-in-Ok-clause-write_fault : goal.returns-in-Ok-clause-write_fault
returns-in-Ok-clause-write_fault g c = λ is. let fault = c.run_bytes.ensures.write_fault is in (fault.0, record { script = fault.1.0; read = record { bytes = c.in-Ok.bytes.items; asked = c.in-Ok.ensures.asked; is_script = fault.1.1 }; ran = fault.1.2 })

pub returns-in-Ok-clause-no_memory : goal.returns-in-Ok-clause-no_memory
returns-in-Ok-clause-no_memory g c = λ is. elim (c.run_bytes.ensures.no_memory is) [
  | inl none ↦ inl none
  | inr ran ↦ inr (record { script = ran.0; read = record { bytes = c.in-Ok.bytes.items; asked = c.in-Ok.ensures.asked; is_script = ran.1 }; ran = ran.2 })
]

pub returns-in-Ok-clause-done : goal.returns-in-Ok-clause-done
returns-in-Ok-clause-done g c = λ is. let ran = c.run_bytes.ensures.done is in record { script = ran.0; read = record { bytes = c.in-Ok.bytes.items; asked = c.in-Ok.ensures.asked; is_script = ran.1 }; ran = ran.2; took = ran.3 }

pub returns-in-Ok-clause-run : goal.returns-in-Ok-clause-run
returns-in-Ok-clause-run g c = elim c.run_bytes.ensures.run [
  | inl none ↦ inl (λ is. not-either c.run_bytes.result.status status_is.BadScript status_is.NoMemory status_is.Done none.0 (λ same. cc) (λ same. cc) is, λ is. not-either c.run_bytes.result.status status_is.BadScript status_is.NoMemory status_is.WriteFault none.0 (λ same. cc) (λ same. cc) is, none.1)
  | inr ran ↦ inr (record { script = ran.0; read = record { bytes = c.in-Ok.bytes.items; asked = c.in-Ok.ensures.asked; is_script = ran.1 }; leaves = ran.2 })
]

pub returns-in-Ok-clause-load : goal.returns-in-Ok-clause-load
returns-in-Ok-clause-load g c = λ rows seed threads load. (
  (c.wanted_bytes.ensures.load rows seed threads load).0,
  elim c.run_bytes.ensures.kinds [
    | inl done ↦ inl done
    | inr (inl is) ↦
        let bad = c.run_bytes.ensures.bad_script is in
        absurd (load-good rows seed threads (g.S.Source.left c.args.source.now) (g.S.Source.left c.wanted_bytes.new.source) c.in-Ok.bytes.items bad.0 bad.1 c.generated_is_a_script.ensures (subst (λ (w : Wanted). AreAsked w (g.S.Source.left c.args.source.now) (g.S.Source.left c.wanted_bytes.new.source) c.in-Ok.bytes.items) load c.in-Ok.ensures.asked) bad.2)
    | inr (inr rest) ↦ inr rest
  ],
)

pub returns-in-Err-ReadFault-clause-words : goal.returns-in-Err-ReadFault-clause-words
returns-in-Err-ReadFault-clause-words g c = λ is. let same : status_is.ReadFault ≡ status_is.BadWords = sym c.without_run.ensures.status ∙ is in cc

pub returns-in-Err-ReadFault-clause-read_fault : goal.returns-in-Err-ReadFault-clause-read_fault
returns-in-Err-ReadFault-clause-read_fault g c = λ is.
    let failed : c.wanted_bytes.result ≡ Err end_is.ReadFault = let first = c.in-Err-ReadFault.is in let second = c.in-Err-ReadFault.field-0-is in cc in
    let fault = c.wanted_bytes.ensures.fault failed in
    (fault.0, fault.1, refl, c.without_run.ensures.nothing)

pub returns-in-Err-ReadFault-clause-too_large : goal.returns-in-Err-ReadFault-clause-too_large
returns-in-Err-ReadFault-clause-too_large g c = λ is. absurd (let same : status_is.ReadFault ≡ status_is.TooLarge = sym c.without_run.ensures.status ∙ is in cc)

pub returns-in-Err-ReadFault-clause-bad_script : goal.returns-in-Err-ReadFault-clause-bad_script
returns-in-Err-ReadFault-clause-bad_script g c = λ is. absurd (let same : status_is.ReadFault ≡ status_is.BadScript = sym c.without_run.ensures.status ∙ is in cc)

pub returns-in-Err-ReadFault-clause-write_fault : goal.returns-in-Err-ReadFault-clause-write_fault
returns-in-Err-ReadFault-clause-write_fault g c = λ is. absurd (let same : status_is.ReadFault ≡ status_is.WriteFault = sym c.without_run.ensures.status ∙ is in cc)

pub returns-in-Err-ReadFault-clause-no_memory : goal.returns-in-Err-ReadFault-clause-no_memory
returns-in-Err-ReadFault-clause-no_memory g c = λ is. inl (refl, c.without_run.ensures.nothing)

pub returns-in-Err-ReadFault-clause-done : goal.returns-in-Err-ReadFault-clause-done
returns-in-Err-ReadFault-clause-done g c = λ is. absurd (let same : status_is.ReadFault ≡ status_is.Done = sym c.without_run.ensures.status ∙ is in cc)

pub returns-in-Err-ReadFault-clause-run : goal.returns-in-Err-ReadFault-clause-run
returns-in-Err-ReadFault-clause-run g c = inl (λ is. let same : status_is.ReadFault ≡ status_is.Done = sym c.without_run.ensures.status ∙ is in cc, λ is. let same : status_is.ReadFault ≡ status_is.WriteFault = sym c.without_run.ensures.status ∙ is in cc, c.without_run.ensures.nothing)

pub returns-in-Err-ReadFault-clause-load : goal.returns-in-Err-ReadFault-clause-load
returns-in-Err-ReadFault-clause-load g c = λ rows seed threads load.
    let failed : c.wanted_bytes.result ≡ Err end_is.ReadFault = let first = c.in-Err-ReadFault.is in let second = c.in-Err-ReadFault.field-0-is in cc in
    absurd ((c.wanted_bytes.ensures.load rows seed threads load).2 failed)

pub returns-in-Err-TooLarge-clause-words : goal.returns-in-Err-TooLarge-clause-words
returns-in-Err-TooLarge-clause-words g c = λ is. let same : status_is.TooLarge ≡ status_is.BadWords = sym c.without_run-in-Err-TooLarge.ensures.status ∙ is in cc

pub returns-in-Err-TooLarge-clause-read_fault : goal.returns-in-Err-TooLarge-clause-read_fault
returns-in-Err-TooLarge-clause-read_fault g c = λ is. absurd (let same : status_is.TooLarge ≡ status_is.ReadFault = sym c.without_run-in-Err-TooLarge.ensures.status ∙ is in cc)

pub returns-in-Err-TooLarge-clause-too_large : goal.returns-in-Err-TooLarge-clause-too_large
returns-in-Err-TooLarge-clause-too_large g c = λ is.
    let failed : c.wanted_bytes.result ≡ Err end_is.TooLarge = let first = c.in-Err-TooLarge.is in let second = c.in-Err-TooLarge.field-0-is in cc in
    (c.wanted_bytes.ensures.large failed, refl, c.without_run-in-Err-TooLarge.ensures.nothing)

pub returns-in-Err-TooLarge-clause-bad_script : goal.returns-in-Err-TooLarge-clause-bad_script
returns-in-Err-TooLarge-clause-bad_script g c = λ is. absurd (let same : status_is.TooLarge ≡ status_is.BadScript = sym c.without_run-in-Err-TooLarge.ensures.status ∙ is in cc)

pub returns-in-Err-TooLarge-clause-write_fault : goal.returns-in-Err-TooLarge-clause-write_fault
returns-in-Err-TooLarge-clause-write_fault g c = λ is. absurd (let same : status_is.TooLarge ≡ status_is.WriteFault = sym c.without_run-in-Err-TooLarge.ensures.status ∙ is in cc)

pub returns-in-Err-TooLarge-clause-no_memory : goal.returns-in-Err-TooLarge-clause-no_memory
returns-in-Err-TooLarge-clause-no_memory g c = λ is. inl (refl, c.without_run-in-Err-TooLarge.ensures.nothing)

pub returns-in-Err-TooLarge-clause-done : goal.returns-in-Err-TooLarge-clause-done
returns-in-Err-TooLarge-clause-done g c = λ is. absurd (let same : status_is.TooLarge ≡ status_is.Done = sym c.without_run-in-Err-TooLarge.ensures.status ∙ is in cc)

pub returns-in-Err-TooLarge-clause-run : goal.returns-in-Err-TooLarge-clause-run
returns-in-Err-TooLarge-clause-run g c = inl (λ is. let same : status_is.TooLarge ≡ status_is.Done = sym c.without_run-in-Err-TooLarge.ensures.status ∙ is in cc, λ is. let same : status_is.TooLarge ≡ status_is.WriteFault = sym c.without_run-in-Err-TooLarge.ensures.status ∙ is in cc, c.without_run-in-Err-TooLarge.ensures.nothing)

pub returns-in-Err-TooLarge-clause-load : goal.returns-in-Err-TooLarge-clause-load
returns-in-Err-TooLarge-clause-load g c = λ rows seed threads load.
    let failed : c.wanted_bytes.result ≡ Err end_is.TooLarge = let first = c.in-Err-TooLarge.is in let second = c.in-Err-TooLarge.field-0-is in cc in
    absurd ((c.wanted_bytes.ensures.load rows seed threads load).1 failed)

pub returns-in-Err-NoMemory-clause-words : goal.returns-in-Err-NoMemory-clause-words
returns-in-Err-NoMemory-clause-words g c = λ is. let same : status_is.NoMemory ≡ status_is.BadWords = sym c.without_run-in-Err-NoMemory.ensures.status ∙ is in cc

pub returns-in-Err-NoMemory-clause-read_fault : goal.returns-in-Err-NoMemory-clause-read_fault
returns-in-Err-NoMemory-clause-read_fault g c = λ is. absurd (let same : status_is.NoMemory ≡ status_is.ReadFault = sym c.without_run-in-Err-NoMemory.ensures.status ∙ is in cc)

pub returns-in-Err-NoMemory-clause-too_large : goal.returns-in-Err-NoMemory-clause-too_large
returns-in-Err-NoMemory-clause-too_large g c = λ is. absurd (let same : status_is.NoMemory ≡ status_is.TooLarge = sym c.without_run-in-Err-NoMemory.ensures.status ∙ is in cc)

pub returns-in-Err-NoMemory-clause-bad_script : goal.returns-in-Err-NoMemory-clause-bad_script
returns-in-Err-NoMemory-clause-bad_script g c = λ is. absurd (let same : status_is.NoMemory ≡ status_is.BadScript = sym c.without_run-in-Err-NoMemory.ensures.status ∙ is in cc)

pub returns-in-Err-NoMemory-clause-write_fault : goal.returns-in-Err-NoMemory-clause-write_fault
returns-in-Err-NoMemory-clause-write_fault g c = λ is. absurd (let same : status_is.NoMemory ≡ status_is.WriteFault = sym c.without_run-in-Err-NoMemory.ensures.status ∙ is in cc)

pub returns-in-Err-NoMemory-clause-no_memory : goal.returns-in-Err-NoMemory-clause-no_memory
returns-in-Err-NoMemory-clause-no_memory g c = λ is. inl (refl, c.without_run-in-Err-NoMemory.ensures.nothing)

pub returns-in-Err-NoMemory-clause-done : goal.returns-in-Err-NoMemory-clause-done
returns-in-Err-NoMemory-clause-done g c = λ is. absurd (let same : status_is.NoMemory ≡ status_is.Done = sym c.without_run-in-Err-NoMemory.ensures.status ∙ is in cc)

pub returns-in-Err-NoMemory-clause-run : goal.returns-in-Err-NoMemory-clause-run
returns-in-Err-NoMemory-clause-run g c = inl (λ is. let same : status_is.NoMemory ≡ status_is.Done = sym c.without_run-in-Err-NoMemory.ensures.status ∙ is in cc, λ is. let same : status_is.NoMemory ≡ status_is.WriteFault = sym c.without_run-in-Err-NoMemory.ensures.status ∙ is in cc, c.without_run-in-Err-NoMemory.ensures.nothing)

pub returns-in-Err-NoMemory-clause-load : goal.returns-in-Err-NoMemory-clause-load
returns-in-Err-NoMemory-clause-load g c = λ rows seed threads load. ((c.wanted_bytes.ensures.load rows seed threads load).0, inr (inr c.without_run-in-Err-NoMemory.ensures.status))
