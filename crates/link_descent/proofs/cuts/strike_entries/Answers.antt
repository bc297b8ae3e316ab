use Rattle.std.proofs.{Common.{[], refl, subst}, lemmas.List.take_all}
use Rattle.dc_node.specs.declared.block.Body.TheVariants.{Entries}
use Rattle.link_descent.specs.Room.{Strikes}
use Rattle.link_descent.proofs.Strikes.{Strikes-none, Strikes-entry}
use Rattle.link_descent.proofs.cuts.strike_entries.Goals as goal

pub loop-entry-init : goal.loop-entry-init
loop-entry-init c = record { struck = Strikes-none c.args.h.now (Entries (record { items = [] })) c.args.cuts.now refl; cuts = c.requires.cuts }

pub loop-entry-preserved : goal.loop-entry-preserved
loop-entry-preserved c = record {
  struck = Strikes-entry c.args.h.now c.args.entries.now c.loop-entry.entry-index c.entry-item.result c.args.cuts.now c.loop-entry.cuts c.strike.new.self c.loop-entry-test.true c.entry-item.is c.loop-entry.invariant.struck c.strike.ensures.cuts_of;
  cuts = c.strike.ensures.valid;
}

pub returns-clause-struck : goal.returns-clause-struck
returns-clause-struck c =
    let all = take_all c.loop-entry.entry-index c.args.entries.now c.loop-entry-test.false in
    subst (λ l. Strikes c.args.h.now (Entries (record { items = l })) c.args.cuts.now c.loop-entry.cuts) all c.loop-entry.invariant.struck
