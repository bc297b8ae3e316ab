use Rattle.std.proofs.Common.{◌≡◌, ◌∙◌, ◌+◌, ◌<◌, ℕ, Bool, true, false, length, length-set, refl, sym, subst, arith}
use Rattle.std.proofs.lemmas.{Bool.false≢true, Option.slice_get-get_or}
use Rattle.threaded_run.proofs.Passing.{get-behind-set, one-given}
use Rattle.threaded_run.specs.Phases.{HasGivenSome}
use Rattle.threaded_run.proofs.phases.give_all.Goals.{else-give, then-give}
use Rattle.threaded_run.proofs.phases.give_all.Goals as goal

pub give-requires-clause-back : goal.give-requires-clause-back
give-requires-clause-back c =
    let t = c.requires.taken in
    let k = c.loop-place.invariant in
    let place = c.loop-place.place in
    let low : place < length c.loop-place.jobs = (let test = c.loop-place-test.true in let count = k.count in omega (arith, test, count)) in
    let at = sym (k.left place (omega arith)) ∙ slice_get-get_or c.loop-place.jobs place c.index-jobs-place.result low in
    (place, t.0, t.1.seen, t.3 place _ at)

pub loop-place-preserved : goal.loop-place-preserved
loop-place-preserved c =
    let f = c.args.hall.now in
    let k = c.loop-place.invariant in
    let place = c.loop-place.place in
    let many = length c.args.jobs.now in
    let test : place < many = c.loop-place-test.true in
    let low : place < length c.loop-place.jobs = (let count = k.count in omega (arith, test, count)) in
    let at = sym (k.left place (omega arith)) ∙ slice_get-get_or c.loop-place.jobs place c.index-jobs-place.result low in
    record {
      given = λ commands was given back. (
          let one = c.give.ensures.given place commands was.seen (back place _ at) in
          let some = k.given commands was given back in
          elim c.if-give.branch [
            | then-give w ↦ subst (λ (s : Bool). HasGivenSome f commands many (place + 1) s was c.give.new.passes) (sym w.stopped-is)
                (one-given f commands was many place c.loop-place.stopped c.loop-place.passes some test c.give.result c.give.new.passes c.give.ensures.own one true (λ e. refl) (λ e. refl))
            | else-give w ↦ subst (λ (s : Bool). HasGivenSome f commands many (place + 1) s was c.give.new.passes) (sym w.stopped-is)
                (one-given f commands was many place c.loop-place.stopped c.loop-place.passes some test c.give.result c.give.new.passes c.give.ensures.own one c.loop-place.stopped (λ e. e)
                (λ e. absurd (false≢true (sym w.if-give.false ∙ e))))
          ]
          );
      count = length-set c.loop-place.jobs place c.give.new.job ∙ k.count;
      left = λ n above. get-behind-set c.loop-place.jobs place n c.give.new.job (omega (arith, above)) ∙ k.left n (omega (arith, above));
    }

pub returns : goal.returns
returns c =
    let f = c.args.hall.now in
    let many = length c.args.jobs.now in
    let end : c.loop-place.place ≡ many = (let past = c.loop-place-test.false in let until = c.loop-place.auto.place-end in omega (arith, past, until)) in
    record {
      given = λ commands was given back. subst (λ (n : ℕ). HasGivenSome f commands many n c.loop-place.stopped was c.loop-place.passes) end (c.loop-place.invariant.given commands was given back);
    }
