use Rattle.std.proofs.Common.{◌≡◌, ◌∙◌, sym, subst}
use Rattle.list_words.proofs.Elements.{Some-same}
use Rattle.hall_hands.specs.seat_steps.specs.declared.floor.Player.{Player}
use Rattle.threaded_run.specs.Jobs.{IsReady}
use Rattle.threaded_run.proofs.threads.do_job.Goals as goal

pub returns : goal.returns
returns g c = record {
  back = λ n past ready. (
      let same : ready.player ≡ c.in-Some.player = Some-same c.in-Some.player ready.player (sym c.in-Some.is ∙ c.take.ensures.value ∙ ready.is) in
      let now = subst (λ (p : Player). IsReady c.args.hall.now n past p c.args.job.now.seen) same ready.ready in
      record { player = c.work-player.result.0; is = c.replace.ensures.after; back = c.work-player.ensures.back n past now }
      );
}
