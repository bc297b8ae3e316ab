use Rattle.std.proofs.Common.{ℕ, false, subst}
use Rattle.threaded_run.proofs.Coming.{back-behind}
use Rattle.threaded_run.specs.Jobs.{IsBack, IsReadyAs}
use Rattle.script_roles.specs.volap_cell.specs.declared.role.Role.{Role}
use Rattle.threaded_run.proofs.jobs.work.Goals as goal

pub returns-in-Session : goal.returns-in-Session
returns-in-Session g c =
    let f = c.args.hall.now in
    let p = c.args.player in
    let start = p.seat.view.seen in
    let commands = c.args.commands.now in
    record {
      back = λ n past ready. (
          let kind = subst (λ (r : Role). IsReadyAs r f n p c.args.seen) c.in-Session.is ready.kind in
          let back = subst (λ (k : ℕ). IsBack f k commands start c.do_all.result.0 c.do_all.result.1) kind.0 c.do_all.ensures.back in
          back-behind f n commands past start c.do_all.result.0 c.do_all.result.1 ready.nothing back
          );
    }

pub returns-in-Puller : goal.returns-in-Puller
returns-in-Puller g c =
    let f = c.args.hall.now in
    let start = c.args.player.seat.view.seen in
    let commands = c.args.commands.now in
    record {
      back = λ n past ready. back-behind f n commands past start c.pull.result.0 c.pull.result.1 ready.nothing
          (subst (λ (k : ℕ). IsBack f k commands start c.pull.result.0 c.pull.result.1) ready.number c.pull.ensures.back);
    }

pub returns-in-Admin : goal.returns-in-Admin
returns-in-Admin g c =
    let f = c.args.hall.now in
    let start = c.args.player.seat.view.seen in
    let commands = c.args.commands.now in
    record {
      back = λ n past ready. back-behind f n commands past start c.manage.result.0 c.manage.result.1 ready.nothing
          (subst (λ (k : ℕ). IsBack f k commands start c.manage.result.0 c.manage.result.1) ready.number c.manage.ensures.back);
    }

pub returns-in-Hand : goal.returns-in-Hand
returns-in-Hand g c =
    let f = c.args.hall.now in
    let start = c.args.player.seat.view.seen in
    let commands = c.args.commands.now in
    record {
      back = λ n past ready. back-behind f n commands past start c.serve.result false ready.nothing
          (subst (λ (k : ℕ). IsBack f k commands start c.serve.result false) ready.number (c.serve.ensures.back commands c.requires.fits));
    }
