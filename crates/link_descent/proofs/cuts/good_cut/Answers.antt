use Rattle.std.proofs.Common.{subst, sym, ap, length, ◌∙◌}
use Rattle.link_descent.specs.Divide.{AreItemSets}
use Rattle.link_descent.proofs.Divisions.{the_cut, no_cut}
use Rattle.link_descent.proofs.cuts.good_cut.Goals as goal

pub returns-clause-cut : goal.returns-clause-cut
returns-clause-cut c =
    let are = subst (AreItemSets c.args.h.now c.args.body.now) (sym c.as_slice.ensures.value) c.item_sets.ensures.sets in
    the_cut c.args.h.now c.args.body.now c.as_slice.result.now c.choose.result are (ap length c.as_slice.ensures.value ∙ c.item_sets.ensures.count) c.choose.ensures.cut c.choose.ensures.order

pub returns-clause-none : goal.returns-clause-none
returns-clause-none c =
    let are = subst (AreItemSets c.args.h.now c.args.body.now) (sym c.as_slice.ensures.value) c.item_sets.ensures.sets in
    no_cut c.args.h.now c.args.body.now c.as_slice.result.now c.choose.result are c.choose.ensures.none
