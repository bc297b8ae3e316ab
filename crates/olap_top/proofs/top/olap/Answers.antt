use Rattle.std.proofs.Common.{◌≡◌, ◌∙◌, true, inl, inr, refl, sym, subst}
use Rattle.olap_top.specs.{Outcomes.{goes_in_order, HasGoodScript, IsSerialRun}, declared.wanted.Wanted.Wanted, declared.wanted.Wanted.TheVariants.Load}
use Rattle.olap_top.specs.declared.outcome.Status.TheVariants as status_is
use Rattle.olap_top.proofs.Complete.{complete}
use Rattle.olap_top.proofs.top.olap.Goals as goal

pub run_source-requires : goal.run_source-requires
run_source-requires g c = (c.type_bounds.sync-R, (c.type_bounds.sync-M, c.in-Some.ensures.few))

pub returns-in-Some-clause-words : goal.returns-in-Some-clause-words
returns-in-Some-clause-words g c = (λ is wanted ask. c.run_source.ensures.words is, λ none. absurd (none c.in-Some.wanted c.in-Some.ensures.some))

pub returns-in-Some-clause-bad_words : goal.returns-in-Some-clause-bad_words
returns-in-Some-clause-bad_words g c = λ is. absurd (c.run_source.ensures.words is)

pub returns-in-Some-clause-read_fault : goal.returns-in-Some-clause-read_fault
returns-in-Some-clause-read_fault g c = c.run_source.ensures.read_fault

pub returns-in-Some-clause-too_large : goal.returns-in-Some-clause-too_large
returns-in-Some-clause-too_large g c = c.run_source.ensures.too_large

pub returns-in-Some-clause-bad_script : goal.returns-in-Some-clause-bad_script
returns-in-Some-clause-bad_script g c = c.run_source.ensures.bad_script

pub returns-in-Some-clause-write_fault : goal.returns-in-Some-clause-write_fault
returns-in-Some-clause-write_fault g c = λ is. let fault = c.run_source.ensures.write_fault is in (fault.0, (c.in-Some.wanted, c.in-Some.ensures.some, fault.1))

pub returns-in-Some-clause-no_memory : goal.returns-in-Some-clause-no_memory
returns-in-Some-clause-no_memory g c = λ is. elim (c.run_source.ensures.no_memory is) [
  | inl none ↦ inl none
  | inr starved ↦ inr (c.in-Some.wanted, c.in-Some.ensures.some, starved)
]

pub returns-in-Some-clause-done : goal.returns-in-Some-clause-done
returns-in-Some-clause-done g c = λ is. (c.in-Some.wanted, c.in-Some.ensures.some, c.run_source.ensures.done is)

pub returns-in-Some-clause-settle : goal.returns-in-Some-clause-settle
returns-in-Some-clause-settle g c = elim c.run_source.ensures.run [
  | inl none ↦ inl none.2.0
  | inr left ↦ inr (c.in-Some.wanted, c.in-Some.ensures.some, record { script = left.script; read = left.read; of_all = left.leaves.settling.of_all })
]

pub returns-in-Some-clause-run : goal.returns-in-Some-clause-run
returns-in-Some-clause-run g c = elim c.run_source.ensures.run [
  | inl none ↦ inl none
  | inr leaves ↦ inr (c.in-Some.wanted, c.in-Some.ensures.some, leaves)
]

pub returns-in-Some-clause-serial : goal.returns-in-Some-clause-serial
returns-in-Some-clause-serial g c = λ wanted ask order.
    let same : c.in-Some.wanted ≡ wanted = let asked = c.of_words.ensures.sole wanted ask in let found = c.in-Some.is in cc in
    elim c.run_source.ensures.run [
      | inl none ↦ inl none.2.0
      | inr left ↦ inr (subst (λ (t : Wanted). IsSerialRun t (g.S.Source.left c.args.source.now) (g.S.Source.left c.run_source.new.source) c.run_source.result.ledger.history) same (record { script = left.script; read = left.read; runs = left.leaves.serial (subst (λ (t : Wanted). goes_in_order t ≡ true) (sym same) order) }))
    ]

pub returns-in-Some-clause-complete : goal.returns-in-Some-clause-complete
returns-in-Some-clause-complete g c = λ wanted ask good no_read_fault no_write_fault.
    let same : c.in-Some.wanted ≡ wanted = let asked = c.of_words.ensures.sole wanted ask in let found = c.in-Some.is in cc in
    complete c.in-Some.wanted c.run_source.result.status (g.S.Source.left c.args.source.now) (g.S.Source.left c.run_source.new.source) (g.K.Sink.taken c.args.sink.now) (g.K.Sink.taken c.run_source.new.sink) (g.K.Sink.faults c.args.sink.now) (g.K.Sink.faults c.run_source.new.sink)
    (subst (λ (t : Wanted). HasGoodScript t (g.S.Source.left c.args.source.now)) (sym same) good)
    (λ is. no_read_fault (c.run_source.ensures.read_fault is).0) c.run_source.ensures.words (λ is. no_write_fault (c.run_source.ensures.write_fault is).0)
    (λ is. (c.run_source.ensures.bad_script is).0) (λ is. (c.run_source.ensures.too_large is).0) (λ rows seed threads load. (c.run_source.ensures.load rows seed threads load).1)

pub returns-in-Some-clause-load : goal.returns-in-Some-clause-load
returns-in-Some-clause-load g c = λ rows seed threads ask.
    let same : c.in-Some.wanted ≡ Load rows seed threads = let asked = c.of_words.ensures.sole (Load rows seed threads) ask in let found = c.in-Some.is in cc in
    c.run_source.ensures.load rows seed threads same

pub returns-in-None-clause-words : goal.returns-in-None-clause-words
returns-in-None-clause-words g c = (λ is wanted ask. c.of_words.ensures.none c.in-None.is wanted ask, λ none. c.without_run.ensures.status)

pub returns-in-None-clause-bad_words : goal.returns-in-None-clause-bad_words
returns-in-None-clause-bad_words g c = λ is. (refl, refl, c.without_run.ensures.nothing)

pub returns-in-None-clause-read_fault : goal.returns-in-None-clause-read_fault
returns-in-None-clause-read_fault g c = λ is. absurd (let same : status_is.BadWords ≡ status_is.ReadFault = sym c.without_run.ensures.status ∙ is in cc)

pub returns-in-None-clause-too_large : goal.returns-in-None-clause-too_large
returns-in-None-clause-too_large g c = λ is. absurd (let same : status_is.BadWords ≡ status_is.TooLarge = sym c.without_run.ensures.status ∙ is in cc)

pub returns-in-None-clause-bad_script : goal.returns-in-None-clause-bad_script
returns-in-None-clause-bad_script g c = λ is. absurd (let same : status_is.BadWords ≡ status_is.BadScript = sym c.without_run.ensures.status ∙ is in cc)

pub returns-in-None-clause-write_fault : goal.returns-in-None-clause-write_fault
returns-in-None-clause-write_fault g c = λ is. absurd (let same : status_is.BadWords ≡ status_is.WriteFault = sym c.without_run.ensures.status ∙ is in cc)

pub returns-in-None-clause-no_memory : goal.returns-in-None-clause-no_memory
returns-in-None-clause-no_memory g c = λ is. absurd (let same : status_is.BadWords ≡ status_is.NoMemory = sym c.without_run.ensures.status ∙ is in cc)

pub returns-in-None-clause-done : goal.returns-in-None-clause-done
returns-in-None-clause-done g c = λ is. absurd (let same : status_is.BadWords ≡ status_is.Done = sym c.without_run.ensures.status ∙ is in cc)

pub returns-in-None-clause-settle : goal.returns-in-None-clause-settle
returns-in-None-clause-settle g c = inl c.without_run.ensures.nothing.0

pub returns-in-None-clause-run : goal.returns-in-None-clause-run
returns-in-None-clause-run g c = inl (λ is. let same : status_is.BadWords ≡ status_is.Done = sym c.without_run.ensures.status ∙ is in cc, λ is. let same : status_is.BadWords ≡ status_is.WriteFault = sym c.without_run.ensures.status ∙ is in cc, c.without_run.ensures.nothing)

pub returns-in-None-clause-serial : goal.returns-in-None-clause-serial
returns-in-None-clause-serial g c = λ wanted ask order. inl c.without_run.ensures.nothing.0

pub returns-in-None-clause-complete : goal.returns-in-None-clause-complete
returns-in-None-clause-complete g c = λ wanted ask good no_read_fault no_write_fault. absurd (c.of_words.ensures.none c.in-None.is wanted ask)

pub returns-in-None-clause-load : goal.returns-in-None-clause-load
returns-in-None-clause-load g c = λ rows seed threads ask. absurd (c.of_words.ensures.none c.in-None.is (Load rows seed threads) ask)
