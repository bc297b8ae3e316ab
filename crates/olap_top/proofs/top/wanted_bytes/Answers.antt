use Rattle.std.proofs.{Common.{◌≡◌, ◌∙◌, refl, sym, ap, subst}, lemmas.Bool.{false≢true}, lemmas.Result.err_from_is_err_and}
use Rattle.volap_io.specs.declared.source.ReadEnd.TheVariants as end_is
use Rattle.olap_top.specs.{Outcomes.AreAsked, RunSoFar.tells_phases, Wanted.AreFewRows, declared.wanted.Wanted.Wanted}
use Rattle.olap_top.proofs.{Asked.{asked-read, tells-step}, Ends.if_ok-none}
use Rattle.olap_top.proofs.top.wanted_bytes.Goals as goal

pub generate-requires : goal.generate-requires
generate-requires g c = subst AreFewRows c.in-Load.is c.requires

pub returns-in_err-generate-in-Load-clause-asked : goal.returns-in_err-generate-in-Load-clause-asked
returns-in_err-generate-in-Load-clause-asked g c =
    let failed = err_from_is_err_and c.from_residual.result c.from_residual.ensures.1 in
    if_ok-none c.from_residual.result failed.0 _ failed.1

pub returns-in_err-generate-in-Load-clause-large : goal.returns-in_err-generate-in-Load-clause-large
returns-in_err-generate-in-Load-clause-large g c = λ is.
    let failed = err_from_is_err_and c.from_residual.result c.from_residual.ensures.1 in
    let none : failed.0 ≡ end_is.NoMemory = failed.2 in
    absurd (let same = sym failed.1 ∙ is in cc)

pub returns-in_err-generate-in-Load-clause-fault : goal.returns-in_err-generate-in-Load-clause-fault
returns-in_err-generate-in-Load-clause-fault g c = λ is.
    let failed = err_from_is_err_and c.from_residual.result c.from_residual.ensures.1 in
    let none : failed.0 ≡ end_is.NoMemory = failed.2 in
    absurd (let same = sym failed.1 ∙ is in cc)

pub returns-in_err-generate-in-Load-clause-load : goal.returns-in_err-generate-in-Load-clause-load
returns-in_err-generate-in-Load-clause-load g c = λ rows seed threads load.
    let failed = err_from_is_err_and c.from_residual.result c.from_residual.ensures.1 in
    let none : failed.0 ≡ end_is.NoMemory = failed.2 in
    (refl, λ is. let same = sym failed.1 ∙ is in cc, λ is. let same = sym failed.1 ∙ is in cc)

pub returns-in-Step : goal.returns-in-Step
returns-in-Step g c = record {
  asked = asked-read c.args.wanted c.in-Step.is (g.S.Source.left c.args.source.now) (g.S.Source.left c.read_all.new.source) c.read_all.result c.read_all.ensures.all c.read_all.ensures.within;
  large = c.read_all.ensures.large;
  fault = λ is. (c.read_all.ensures.fault is, c.read_all.ensures.fault_within is);
  load = λ rows seed threads load. absurd (false≢true (sym (ap tells_phases load) ∙ tells-step c.args.wanted c.in-Step.is));
}

pub returns-in_ok-generate-in-Load-clause-asked : goal.returns-in_ok-generate-in-Load-clause-asked
returns-in_ok-generate-in-Load-clause-asked g c =
    let left = g.S.Source.left c.args.source.now in
    subst (λ (w : Wanted). AreAsked w left left c.in_ok-generate-in-Load.field-0.items) (sym c.in-Load.is) (refl, c.in_ok-generate-in-Load.ensures)

pub returns-in_ok-generate-in-Load-clause-large : goal.returns-in_ok-generate-in-Load-clause-large
returns-in_ok-generate-in-Load-clause-large g c = λ is. absurd cc

pub returns-in_ok-generate-in-Load-clause-fault : goal.returns-in_ok-generate-in-Load-clause-fault
returns-in_ok-generate-in-Load-clause-fault g c = λ is. absurd cc

pub returns-in_ok-generate-in-Load-clause-load : goal.returns-in_ok-generate-in-Load-clause-load
returns-in_ok-generate-in-Load-clause-load g c = λ rows seed threads load. (refl, λ is. cc, λ is. cc)
