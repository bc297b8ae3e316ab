use Rattle.std.proofs.Common.{refl}
use Rattle.part_steps.proofs.RowsMade.{row-asked, row-at, row-few, row-some, went-row}
use Rattle.part_steps.proofs.rows.make_row.Goals as goal
use Rattle.seat_steps.specs.volap_turns.proofs.Turned.{when-ok}

pub make-requires-clause-some : goal.make-requires-clause-some
make-requires-clause-some c = row-some c.args.floor.now c.args.player.now c.args.step c.requires.ready

pub make-requires-clause-few : goal.make-requires-clause-few
make-requires-clause-few c = row-few c.args.floor.now c.args.player.now c.args.step c.requires.ready

pub make-requires-clause-at : goal.make-requires-clause-at
make-requires-clause-at c = row-at c.args.floor.now c.args.player.now c.args.step c.requires.ready

pub make-requires-clause-asked : goal.make-requires-clause-asked
make-requires-clause-asked c = row-asked c.args.floor.now c.args.player.now c.args.step c.requires.ready

pub returns : goal.returns
returns c = record { went = went-row c.args.floor.now c.args.player.now c.make.new.player c.args.step c.make.ensures.stands c.make.ensures.lists (when-ok c.make.result c.make.ensures.made (c.make.ensures.sure refl)) }
