use Rattle.std.proofs.Common.{◌∙◌, sym, ap, subst}
use Rattle.hall_hands.specs.actor_run.specs.Passes.{IsPass, IsPassOf, PassValue, pass_of}
use Rattle.list_words.proofs.Elements.{Some-same}
use Rattle.hall_hands.specs.seat_steps.specs.declared.floor.Player.{Player}
use Rattle.threaded_run.specs.Jobs.{HasCome, IsBack}
use Rattle.threaded_run.proofs.phases.give.Goals as goal

pub of-requires : goal.of-requires
of-requires c =
    let back = c.requires.back.3 in
    let same = Some-same c.in-Some.player back.player (sym c.in-Some.is ∙ c.take.ensures.value ∙ back.is) in
    subst IsPass same back.back.is.pass

pub give-requires-clause-of : goal.give-requires-clause-of
give-requires-clause-of c =
    let back = c.requires.back.3 in
    let same = Some-same c.in-Some.player back.player (sym c.in-Some.is ∙ c.take.ensures.value ∙ back.is) in
    let own = subst (λ (p : Player). IsPassOf c.args.hall.now (pass_of p)) same back.back.is.own in
    subst (λ (p : PassValue). IsPassOf c.args.hall.now p) (sym c.of.ensures) own

pub returns-clause-given : goal.returns-clause-given
returns-clause-given c n commands past back =
    let same = Some-same c.in-Some.player back.player (sym c.in-Some.is ∙ c.take.ensures.value ∙ back.is) in
    let here = subst (λ (p : Player). IsBack c.args.hall.now n commands past p c.args.job.now.stopped) same back.back in
    record {
      pass = c.of.result;
      number = ap (λ (p : PassValue). p.number) c.of.ensures ∙ here.number;
      came = subst (λ (p : PassValue). HasCome c.args.job.now.stopped c.args.hall.now n commands past p.seen) (sym c.of.ensures) here.came;
      given = c.give.ensures.given;
    }
