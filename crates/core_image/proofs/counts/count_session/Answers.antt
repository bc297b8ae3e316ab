use Rattle.std.proofs.Common.{ap}
use Rattle.volap_cell.specs.{Cells.{cell_of}, Lending.owner_of, Values.actor_of}
use Rattle.core_image.proofs.EachStep.CountsSession.{count-makes, may-count}
use Rattle.core_image.proofs.counts.count_session.Goals as goal

pub count-requires : goal.count-requires
count-requires c =
    record {
      can = may-count c.args.h.now c.args.desk_at (cell_of c.args.desk.now) (actor_of c.args.actor.now) c.args.come c.requires.here c.requires.due
          (owner_of c.args.desk.now) c.desk_in-desk.result.now (ap cell_of c.desk_in-desk.ensures.value);
    }

pub returns : goal.returns
returns c =
    record {
      made = count-makes c.args.h.now c.args.desk_at (cell_of c.args.desk.now) (actor_of c.args.actor.now) c.args.come c.requires.here c.requires.due
          (owner_of c.args.desk.now) c.desk_in-desk.result.now (ap cell_of c.desk_in-desk.ensures.value)
          c.count.new.desk c.count.ensures.counts;
    }
