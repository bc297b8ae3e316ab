use Rattle.std.proofs.{Common.get_or, lemmas.List.Elements.All-contains_itself}
use Rattle.describing_set.proofs.{Covering.{covers-Covers, IsSetOf-Covers}, Laws.{IsSetOf-same, IsSetOf-unique, IsSetOf-Describes, IsSetOf-wider}}
use Rattle.describing_set.proofs.set.DescSet.laws.Goals as goal

pub returns-clause-describes : goal.returns-clause-describes
returns-clause-describes c = λ rows set all s. IsSetOf-Describes c.args.h.now rows set c.dims-dims.ensures.valid all s

pub returns-clause-unique : goal.returns-clause-unique
returns-clause-unique c = λ rows set other s t. IsSetOf-unique c.args.h.now rows set other s t

pub returns-clause-same : goal.returns-clause-same
returns-clause-same c = λ rows others set f g s. IsSetOf-same c.args.h.now rows others set f g s

pub returns-clause-wider : goal.returns-clause-wider
returns-clause-wider c = λ rows more set other at all among valid s o v.
    IsSetOf-wider c.args.h.now rows more set other at c.dims-dims.ensures.valid all among s o valid v

pub returns-clause-members : goal.returns-clause-members
returns-clause-members c = λ rows some set among s k at lt.
    IsSetOf-Covers c.args.h.now rows set (get_or some k at) s (among (get_or some k at) (All-contains_itself some k at lt))

pub returns-clause-test : goal.returns-clause-test
returns-clause-test c = λ set at s valid. covers-Covers c.args.h.now set at s.set_of.count valid
