use Rattle.std.proofs.{Common.{◌∙◌, ap, arith, false, get_or, ◌||◌}, lemmas.List.take_all}
use Rattle.std.specs.List.{list_any}
use Rattle.query_router.specs.Desk.{waits_for}
use Rattle.seeded_run.proofs.Surveys.{all-kept, noted-all, noted-first, parts-more}
use Rattle.seeded_run.proofs.survey.note_parts.Goals as goal

pub loop-place-init : goal.loop-place-init
loop-place-init c = noted-first c.args.workers c.args.parts.now c.args.first c.args.known c.args.awaited.now c.requires.first c.requires.known

pub first_unknown-known-requires : goal.first_unknown-known-requires
first_unknown-known-requires c = record {
  known = all-kept c.loop-place.awaited c.note_part.new.awaited c.loop-place.known c.index-parts-place.result (omega arith) c.loop-place.invariant.all c.note_part.ensures;
}

pub loop-place-preserved : goal.loop-place-preserved
loop-place-preserved c = record {
  noted = λ w low.
      parts-more w c.args.parts.now c.loop-place.place c.index-parts-place.result (get_or c.args.awaited.now w false) (get_or c.loop-place.awaited w false) _ (omega arith) c.index-parts-place.is
      (c.loop-place.invariant.noted w low) (c.note_part.ensures w (omega (arith, low)));
  all = c.first_unknown-known.ensures.known;
}

pub returns-then-known-workers-clause-noted : goal.returns-then-known-workers-clause-noted
returns-then-known-workers-clause-noted c =
    noted-all c.args.workers c.args.parts.now c.loop-place.place c.loop-place.known c.args.awaited.now c.loop-place.awaited c.loop-place.invariant c.if-known-workers.true

pub returns-clause-noted : goal.returns-clause-noted
returns-clause-noted c = λ w low.
    c.loop-place.invariant.noted w low ∙ ap (λ ps. list_any (waits_for w) ps || get_or c.args.awaited.now w false) (take_all c.loop-place.place c.args.parts.now (omega arith))
