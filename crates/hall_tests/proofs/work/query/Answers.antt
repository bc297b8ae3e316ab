use Rattle.hall_tests.proofs.work.query.Goals as goal

pub returns-after-of-seen : goal.returns-after-of-seen
returns-after-of-seen g c = record { same = c.query-end.ensures.does.goes.same }

pub returns-in-Unknown : goal.returns-in-Unknown
returns-in-Unknown g c = record { same = c.query-end.ensures.does.goes.same }

pub returns-in-NoMemory : goal.returns-in-NoMemory
returns-in-NoMemory g c = record { same = c.query-end.ensures.does.goes.same }
