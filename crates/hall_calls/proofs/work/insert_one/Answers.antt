use Rattle.std.proofs.Common.{pos, arith}
use Rattle.hall_calls.proofs.Tellings.{acked-more, acked-still}
use Rattle.hall_calls.proofs.work.insert_one.Goals as goal

pub returns-in-Ok : goal.returns-in-Ok
returns-in-Ok g c =
    let does = c.in-Ok.ensures.does in
    record { same = does.goes.same; few = omega arith; own = acked-more c.in-Ok.of c.args.names.now (pos 1) c.args.session.now c.insert.new.self c.args.acked does.goes does.ends c.requires.own }

pub returns-in-Unknown : goal.returns-in-Unknown
returns-in-Unknown g c =
    let goes = c.in-Unknown.ensures.does.goes in
    record { same = goes.same; few = omega arith; own = acked-still c.args.session.now c.insert.new.self c.args.acked goes c.requires.own }

pub returns-in-NoMemory : goal.returns-in-NoMemory
returns-in-NoMemory g c =
    let goes = c.in-NoMemory.ensures.does.goes in
    record { same = goes.same; few = omega arith; own = acked-still c.args.session.now c.insert.new.self c.args.acked goes c.requires.own }
