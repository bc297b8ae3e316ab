use Rattle.std.proofs.{Common.{◌∙◌, ◌≡◌, None, ap, arith, false, get_or, length, not, sym}, lemmas.Bool.ne_eqb, lemmas.List.get_or_read}
use Rattle.std.specs.Prelude.{◌==◌, ◌||◌}
use Rattle.seeded_run.proofs.Holding.Others.{all-fails, both-fail}
use Rattle.seeded_run.specs.Takes.{carries_at}
use Rattle.seeded_run.proofs.wanted.is_free.Goals as goal

pub returns-then-carries_at : goal.returns-then-carries_at
returns-then-carries_at c =
    let actors = c.args.actors.now in
    let other = c.loop-other.other in
    let read = get_or_read actors other _ (omega arith) c.index-actors-other.is None in
    let taken : not (carries_at (get_or actors other None) c.args.block) ≡ false = ap not (sym (c.if-carries_at.ensures ∙ ap (λ o. carries_at o c.args.block) read)) in
    sym (all-fails (length actors) (λ a. a == c.args.number || not (carries_at (get_or actors a None) c.args.block)) other (omega arith)
    (both-fail (other == c.args.number) (not (carries_at (get_or actors other None) c.args.block)) (ne_eqb other c.args.number c.if-other-number.true) taken))
