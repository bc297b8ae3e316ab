use Rattle.std.proofs.{Common.{◌∙◌, ◌≡◌, None, ap, arith, false, get_or, length, sym}, lemmas.Bool.ne_eqb, lemmas.List.get_or_read}
use Rattle.std.specs.Prelude.{◌==◌, ◌||◌}
use Rattle.seeded_run.proofs.Holding.Others.{all-fails, both-fail}
use Rattle.seeded_run.specs.Look.{rests}
use Rattle.seeded_run.proofs.alone.others_rest.Goals as goal

pub returns-then-not-rests : goal.returns-then-not-rests
returns-then-not-rests c =
    let actors = c.args.actors.now in
    let other = c.loop-other.other in
    let read = get_or_read actors other _ (omega arith) c.index-actors-other.is None in
    let busy : rests (get_or actors other None) ≡ false = sym (c.if-not-rests.ensures ∙ ap rests read) in
    sym (all-fails (length actors) (λ a. a == c.args.number || rests (get_or actors a None)) other (omega arith)
    (both-fail (other == c.args.number) (rests (get_or actors other None)) (ne_eqb other c.args.number c.if-other-number.true) busy))
