use Rattle.turn_table.specs.Views.{after_split, split_view}
use Rattle.turn_table.proofs.table.TurnTable.split_seat.Given as goal

abbrev pub ghosts-cut : goal.ghosts-cut
ghosts-cut g a = record { kept = λ v. after_split v a.number; given = λ v. split_view v a.number }
