use Rattle.turn_table.specs.Views.{after_release}
use Rattle.turn_table.proofs.table.TurnTable.release.Given as goal

abbrev pub ghosts-release_as : goal.ghosts-release_as
ghosts-release_as g a = record { next = λ v. after_release v a.cell }
