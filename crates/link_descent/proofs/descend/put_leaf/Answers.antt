use Rattle.link_descent.proofs.Steps.{valid_with_row}
use Rattle.link_descent.proofs.descend.put_leaf.Goals as goal

pub returns-clause-valid : goal.returns-clause-valid
returns-clause-valid c = λ h valid known. valid_with_row h c.args.block.now c.add_row.new.self c.args.row.now c.add_row.ensures.row valid known
