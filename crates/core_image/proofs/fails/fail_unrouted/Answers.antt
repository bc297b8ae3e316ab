use Rattle.std.proofs.Common.{ap}
use Rattle.volap_cell.specs.{Cells.{cell_of}, Lending.owner_of, Values.actor_of}
use Rattle.core_image.proofs.EachStep.Failing.{unrouted-makes, unrouted-owed, unrouted-promised}
use Rattle.core_image.proofs.fails.fail_unrouted.Goals as goal

pub forgo-requires : goal.forgo-requires
forgo-requires c =
    unrouted-owed c.args.h.now c.args.image_at c.args.ledger_at (cell_of c.args.image.now) (cell_of c.args.ledger.now) (actor_of c.args.actor.now) c.requires.here c.requires.due
    (owner_of c.args.image.now) c.image_in-image.result.now (ap cell_of c.image_in-image.ensures.value)
    c.ledger_in-ledger.result.now (ap cell_of c.ledger_in-ledger.ensures.value)

pub push-requires : goal.push-requires
push-requires c =
    unrouted-promised c.args.h.now c.args.image_at c.args.ledger_at (cell_of c.args.image.now) (cell_of c.args.ledger.now) (actor_of c.args.actor.now) c.requires.here c.requires.due
    (owner_of c.args.image.now) c.image_in-image.result.now (ap cell_of c.image_in-image.ensures.value)
    c.ledger_in-ledger.result.now (ap cell_of c.ledger_in-ledger.ensures.value)

pub returns : goal.returns
returns c =
    record {
      made = unrouted-makes c.args.h.now c.args.image_at c.args.ledger_at (cell_of c.args.image.now) (cell_of c.args.ledger.now) (actor_of c.args.actor.now) c.requires.here c.requires.due
          (owner_of c.args.image.now) c.image_in-image.result.now (ap cell_of c.image_in-image.ensures.value)
          c.ledger_in-ledger.result.now (ap cell_of c.ledger_in-ledger.ensures.value)
          c.there-command.result.now c.there-command.ensures c.forgo.new.self c.forgo.ensures c.push.new.self c.push.ensures.history c.push.ensures.promised
          _ c.len-actor.ensures.value;
    }
