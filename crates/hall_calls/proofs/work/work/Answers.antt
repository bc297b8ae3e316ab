use Rattle.std.proofs.Common.{rules}
use Rattle.hall_calls.proofs.Tellings.{has-worked, names-for}
use Rattle.hall_calls.proofs.work.work.Goals as goal

pub insert_and_ask-told-requires : goal.insert_and_ask-told-requires
insert_and_ask-told-requires g c =
    let fit = names-for c.args.hall.now c.args.pass c.new-session.result c.args.places.now.one.now c.args.places.now.other.now c.args.places.now.asked.now c.new-session.ensures.made c.requires.names in
    search (rules, fit)

pub returns : goal.returns
returns g c =
    let told = c.insert_and_ask-told.ensures in
    has-worked c.args.hall.now c.args.places.now.asked.now c.args.pass c.end.result c.new-session.result c.insert_and_ask-told.new.session c.insert_and_ask-told.result c.new-session.ensures.made told.same told.told c.end.ensures.of
    c.end.ensures.made
