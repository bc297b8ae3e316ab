use Rattle.whole_steps.proofs.tells.make_page.Given as goal

abbrev pub ghosts-make_from : goal.ghosts-make_from
ghosts-make_from g a = record { seat = a.seat }
