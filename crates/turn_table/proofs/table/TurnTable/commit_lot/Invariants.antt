use Rattle.turn_table.specs.{Seat.values_of, Views.after_commit}
use Rattle.turn_table.proofs.table.TurnTable.commit_lot.Given as goal

abbrev pub ghosts-commit_as : goal.ghosts-commit_as
ghosts-commit_as g a = record { next = λ v. after_commit g.C.Core.log_at g.C.Core.log v (values_of a.place.now.me.1) a._number a._actor.now }
