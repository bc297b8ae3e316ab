use Rattle.hall_tests.proofs.work.insert_unknown.Goals as goal

pub returns-in-Ok : goal.returns-in-Ok
returns-in-Ok g c = record { same = c.insert-end.ensures.does.goes.same }

pub returns-in-Unknown : goal.returns-in-Unknown
returns-in-Unknown g c = record { same = c.insert-end.ensures.does.goes.same }

pub returns-in-NoMemory : goal.returns-in-NoMemory
returns-in-NoMemory g c = record { same = c.insert-end.ensures.does.goes.same }
