use Rattle.hall_tests.proofs.work.query_unknown.Goals as goal

pub returns-in-Answer : goal.returns-in-Answer
returns-in-Answer g c = record { same = c.query-end.ensures.does.goes.same }

pub returns-in-Unknown : goal.returns-in-Unknown
returns-in-Unknown g c = record { same = c.query-end.ensures.does.goes.same }

pub returns-in-NoMemory : goal.returns-in-NoMemory
returns-in-NoMemory g c = record { same = c.query-end.ensures.does.goes.same }
