use Rattle.std.proofs.Common.{◌∙◌, refl, ap, arith}
use Rattle.job_steps.proofs.Reusing.{reuse-actor, reuse-asked, reuse-few, reuse-kept}
use Rattle.job_steps.specs.Reuses.{after_reuse}
use Rattle.seat_steps.specs.volap_turns.proofs.Turned.{when-ok}
use Rattle.job_steps.proofs.reuses.make_reuse.Goals as goal

pub make-requires-clause-some : goal.make-requires-clause-some
make-requires-clause-some c = omega (arith, c.requires.at.count, (reuse-few c.args.step).0)

pub make-requires-clause-few : goal.make-requires-clause-few
make-requires-clause-few c = omega (arith, c.requires.at.count, (reuse-few c.args.step).1)

pub make-requires-clause-asked : goal.make-requires-clause-asked
make-requires-clause-asked c = reuse-asked c.args.floor.now c.args.player.now c.requires.seated c.args.step c.requires.due c.requires.at

pub make-requires-clause-kept : goal.make-requires-clause-kept
make-requires-clause-kept c = reuse-kept c.args.floor.now.hierarchy c.args.player.now c.args.step c.requires.between.no_part

pub returns : goal.returns
returns c = record {
  reused = λ p same. (
      let made = when-ok c.make.result c.make.ensures.made (c.make.ensures.sure refl) in
      record {
        stands = c.make.ensures.stands;
        step = c.args.step;
        cell_is = refl;
        mid = c.args.player.now;
        same = same;
        at = c.requires.at;
        made = made;
        actor = reuse-actor c.args.floor.now.hierarchy c.args.step c.requires.at made ∙ ap (after_reuse c.args.step) same.actor;
        seen = c.make.ensures.lists;
      }
      );
}
