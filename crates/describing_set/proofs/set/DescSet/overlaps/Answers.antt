use Rattle.std.proofs.{Common.{◌<◌, length, sym, ◌∙◌, arith}, lemmas.Bool.{OnFalse_from, false≢true, lt-ltb}}
use Rattle.describing_set.specs.Filter.{Overlaps, overlaps}
use Rattle.describing_set.proofs.{Covering.means, Filters.{overlaps-Overlaps, matched_overlaps}}
use Rattle.describing_set.proofs.set.DescSet.overlaps.Goals as goal

pub returns-then-dims-gt0-clause-test : goal.returns-then-dims-gt0-clause-test
returns-then-dims-gt0-clause-test c =
    let lt : 0 < length c.args.h.now = omega (arith, c.if-dims-gt0.true, c.dims.ensures.value) in
    rw (lt-ltb 0 (length c.args.h.now) lt) c.is_met_by.ensures

pub returns-then-dims-gt0-clause-meaning : goal.returns-then-dims-gt0-clause-meaning
returns-then-dims-gt0-clause-meaning c =
    means c.is_met_by.result (overlaps c.args.h.now c.args.self.now c.args.filter.now) (Overlaps c.args.h.now c.args.self.now c.args.filter.now) (returns-then-dims-gt0-clause-test c)
    (overlaps-Overlaps c.args.h.now c.args.self.now c.args.filter.now c.requires.set c.requires.filter)

pub returns-then-dims-gt0-clause-none_match : goal.returns-then-dims-gt0-clause-none_match
returns-then-dims-gt0-clause-none_match c =
    OnFalse_from c.is_met_by.result _ (λ no pos at v m.
    false≢true (sym no ∙ (returns-then-dims-gt0-clause-meaning c).1 (matched_overlaps c.args.h.now c.args.self.now c.args.filter.now at pos v m)))
