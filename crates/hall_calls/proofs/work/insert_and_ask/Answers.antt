use Rattle.hall_calls.proofs.Tellings.{on-from, still-fits, told-own}
use Rattle.hall_calls.proofs.work.insert_and_ask.Goals as goal

pub query-answer-requires-clause-count : goal.query-answer-requires-clause-count
query-answer-requires-clause-count g c κs within = still-fits c.args.session.now c.insert_in_turn-acked.new.session c.insert_in_turn-acked.ensures.same c.requires.names.pick_each

pub query-answer-requires-clause-some : goal.query-answer-requires-clause-some
query-answer-requires-clause-some g c κs within = c.requires.names.some

pub returns : goal.returns
returns g c =
    let does = c.query-answer.ensures.does in
    let before = c.insert_in_turn-acked.ensures in
    record {
      same = on-from c.args.session.now c.insert_in_turn-acked.new.session c.query-answer.new.self before.same does.goes.same;
      told = told-own c.args.places.now.asked.now c.insert_in_turn-acked.new.session c.query-answer.new.self c.insert_in_turn-acked.result c.query-answer.result c.count.result before.own does;
    }
