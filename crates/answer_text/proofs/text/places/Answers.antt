use Rattle.std.proofs.Common.{◌≡◌, ◌++◌, ◌∷◌, [], take, reverse, arith}
use Rattle.answer_text.proofs.ToldPlaces.{count_read, counts-le, counts_more, taken_all, taken_more}
use Rattle.answer_text.proofs.text.places.Goals as goal

pub overflow_add-count : goal.overflow_add-count
overflow_add-count c =
    let before = take c.loop-i.i c.args.commands.now in
    let read = count_read c.loop-i.counts.items c.args.with.now before c.session_of-session.result c.index-count.result.now c.loop-i.invariant.counts c.session_of-session.ensures.few c.index-count.ensures in
    let few = counts-le c.args.with.now c.args.commands.now c.loop-i.i c.session_of-session.result in
    omega (arith, read, few)

pub loop-i-preserved : goal.loop-i-preserved
loop-i-preserved c =
    let before = take c.loop-i.i c.args.commands.now in
    let read = count_read c.loop-i.counts.items c.args.with.now before c.session_of-session.result c.index-count.result.now c.loop-i.invariant.counts c.session_of-session.ensures.few c.index-count.ensures in
    let pushed : c.push.new.self.items ≡ c.loop-i.places.items ++ c.place.result ∷ [] = c.in_ok-push.ensures.items in
    record {
      counts = counts_more c.loop-i.counts.items c.args.with.now c.args.commands.now c.loop-i.i c.index-commands-i.result c.session_of-session.result c.index-count.result.now c.loop-i-test.true c.index-commands-i.is c.session_of-session.ensures.value read c.loop-i.invariant.counts;
      places = rw pushed (taken_more c.loop-i.places.items _ c.args.with.now c.args.commands.now c.loop-i.i c.index-commands-i.result (reverse c.args.index.now.events.now) c.session_of-session.result c.index-count.result.now c.place.result c.loop-i-test.true c.index-commands-i.is c.session_of-session.ensures.value read c.place.ensures c.loop-i.invariant.places);
    }

pub returns-clause-places : goal.returns-clause-places
returns-clause-places c =
    taken_all c.loop-i.places.items _ c.args.with.now c.args.commands.now c.loop-i.i (reverse c.args.index.now.events.now) c.loop-i-test.false c.loop-i.invariant.places
