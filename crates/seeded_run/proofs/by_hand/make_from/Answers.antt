use Rattle.std.proofs.Common.{◌∙◌, ap, false, length, List, Option, refl, subst}
use Rattle.core_pages.specs.volap_cell.specs.{declared.actor.Actor.Actor, declared.state.State.State}
use Rattle.seeded_run.specs.{Hands.AreFreeHands, Machine.streams_open, Phase.StopsBehindAny}
use Rattle.seeded_run.proofs.Cursors.FirstCursors.{first-moment}
use Rattle.seeded_run.proofs.by_hand.make_from.Goals as goal

pub make_whole-made-requires : goal.make_whole-made-requires
make_whole-made-requires c = record {
  first = first-moment _ c.args.state.now c.replace.ensures.value c.requires.core c.requires.may_run c.requires.closes c.requires.idle
      c.of-before.ensures c.requires.first (c.streams_open-left.ensures ∙ ap (streams_open (length c.args.phase.now)) c.deref.ensures.value) refl
      (subst (λ (actors : List (Option Actor)). AreFreeHands actors c.among-hands.result) c.deref-2.ensures.value c.among-hands.ensures);
}

pub returns-clause-into : goal.returns-clause-into
returns-clause-into c =
    subst (λ (x : State). StopsBehindAny false c.args.h.now c.args.with.now c.args.phase.now x c.make_whole-made.new.running.state) c.of-before.ensures c.make_whole-made.ensures.into
