use Rattle.std.proofs.Common.{◌∙◌, inl, inr, refl, subst}
use Rattle.std.specs.Io.KnownBytes.{Appends}
use Rattle.olap_top.specs.Outcomes.{TookPart}
use Rattle.olap_top.proofs.top.write_summary.Goals as goal

pub returns-in_default-clause-kinds : goal.returns-in_default-clause-kinds
returns-in_default-clause-kinds g c = inr (inr refl)

pub returns-in_default-clause-no_memory : goal.returns-in_default-clause-no_memory
returns-in_default-clause-no_memory g c = λ is. refl

pub returns-in_default-clause-write_fault : goal.returns-in_default-clause-write_fault
returns-in_default-clause-write_fault g c = λ is. absurd cc

pub returns-in_default-clause-done : goal.returns-in_default-clause-done
returns-in_default-clause-done g c = λ is. absurd cc

pub returns-in_default-write_all-clause-kinds : goal.returns-in_default-write_all-clause-kinds
returns-in_default-write_all-clause-kinds g c = inr (inl refl)

pub returns-in_default-write_all-clause-no_memory : goal.returns-in_default-write_all-clause-no_memory
returns-in_default-write_all-clause-no_memory g c = λ is. absurd cc

pub returns-in_default-write_all-clause-write_fault : goal.returns-in_default-write_all-clause-write_fault
returns-in_default-write_all-clause-write_fault g c = λ is.
    let part = c.in_default-write_all.ensures.part in (
      c.in_default-write_all.ensures.cause.failed,
      subst (TookPart (g.K.Sink.taken c.args.sink.now) (g.K.Sink.taken c.write_all.new.sink)) (c.deref.ensures.value ∙ c.in-Ok.ensures.text) (record { count = part.0; part = part.1; took = part.2 }),
    )

pub returns-in_default-write_all-clause-done : goal.returns-in_default-write_all-clause-done
returns-in_default-write_all-clause-done g c = λ is. absurd cc

pub returns-clause-kinds : goal.returns-clause-kinds
returns-clause-kinds g c = inl refl

pub returns-clause-no_memory : goal.returns-clause-no_memory
returns-clause-no_memory g c = λ is. absurd cc

pub returns-clause-write_fault : goal.returns-clause-write_fault
returns-clause-write_fault g c = λ is. absurd cc

pub returns-clause-done : goal.returns-clause-done
returns-clause-done g c = λ is. subst (Appends (g.K.Sink.taken c.args.sink.now) (g.K.Sink.taken c.write_all.new.sink)) (c.deref.ensures.value ∙ c.in-Ok.ensures.text) c.in-Ok-write_all.ensures.all
