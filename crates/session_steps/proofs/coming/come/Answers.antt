use Rattle.std.proofs.Common.{◌∙◌, true, false, ap, arith}
use Rattle.part_steps.specs.core_steps.specs.Places.{one_at}
use Rattle.session_steps.proofs.{Counted.{comes-asked, count-kept, count-makes, desk-apart}, OneHeld.{HasOne, as-made, at-one, one-becomes, one-count, same-actor}}
use Rattle.part_steps.specs.volap_cell.specs.Values.{ActorValue}
use Rattle.session_steps.proofs.coming.come.Goals as goal

pub books_of-desk-requires-clause-session : goal.books_of-desk-requires-clause-session
books_of-desk-requires-clause-session g c = (c.requires.nothing.server, c.requires.nothing.role)

pub make-requires-clause-some : goal.make-requires-clause-some
make-requires-clause-some g c =
    let t = c.take_first.ensures in
    let one : HasOne c.args.floor.now c.args.player.now c.take_first.new.player c.books_of-desk.result.0 4 = record { took = t.took; seated = t.seated; ranks = t.ranks } in
    let count = one-count one in
    omega (arith, count)

pub make-requires-clause-few : goal.make-requires-clause-few
make-requires-clause-few g c =
    let t = c.take_first.ensures in
    let one : HasOne c.args.floor.now c.args.player.now c.take_first.new.player c.books_of-desk.result.0 4 = record { took = t.took; seated = t.seated; ranks = t.ranks } in
    let count = one-count one in
    omega (arith, count)

pub make-requires-clause-at : goal.make-requires-clause-at
make-requires-clause-at g c =
    let t = c.take_first.ensures in
    let one : HasOne c.args.floor.now c.args.player.now c.take_first.new.player c.books_of-desk.result.0 4 = record { took = t.took; seated = t.seated; ranks = t.ranks } in
    at-one one

pub make-requires-clause-asked : goal.make-requires-clause-asked
make-requires-clause-asked g c =
    let t = c.take_first.ensures in
    let one : HasOne c.args.floor.now c.args.player.now c.take_first.new.player c.books_of-desk.result.0 4 = record { took = t.took; seated = t.seated; ranks = t.ranks } in
    comes-asked c.books_of-desk.ensures one c.requires.away c.requires.few

pub make-requires-clause-kept : goal.make-requires-clause-kept
make-requires-clause-kept g c =
    let t = c.take_first.ensures in
    let one : HasOne c.args.floor.now c.args.player.now c.take_first.new.player c.books_of-desk.result.0 4 = record { took = t.took; seated = t.seated; ranks = t.ranks } in
    count-kept c.args.floor.now.hierarchy c.take_first.new.player (one_at c.books_of-desk.result.0) (ap (λ (a : ActorValue). a.errand) (same-actor one) ∙ c.requires.nothing.free.errand)

pub returns : goal.returns
returns g c =
    let t = c.take_first.ensures in
    let one : HasOne c.args.floor.now c.args.player.now c.take_first.new.player c.books_of-desk.result.0 4 = record { took = t.took; seated = t.seated; ranks = t.ranks } in
    let made = as-made c.make.result c.make.ensures.made (c.make.ensures.sure (λ i. false)) in
    record { come = one-becomes one made _ (desk-apart c.books_of-desk.ensures one) c.make.ensures.stands (count-makes c.books_of-desk.ensures one true c.requires.away made) }
