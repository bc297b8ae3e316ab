use Rattle.std.proofs.Common.{ap}
use Rattle.std.specs.Prelude.{option_map}
use Rattle.actor_run.proofs.{CursorOpen.before-taken, Opened.{command-on, has-open, part-on}}
use Rattle.whole_steps.specs.volap_cell.specs.Values.{errand_of, task_of}
use Rattle.actor_run.proofs.gates.go_nearer.Goals as goal

pub take_waiting-requires-clause-stands : goal.take_waiting-requires-clause-stands
take_waiting-requires-clause-stands g c = c.requires.command.1.stands

pub take_waiting-requires-clause-open : goal.take_waiting-requires-clause-open
take_waiting-requires-clause-open g c = has-open c.args.floor.now c.requires.command.0 c.args.player.now c.requires.command.1 (ap (option_map errand_of) c.in-None.is)

pub go_on_at_part-requires-clause-stands : goal.go_on_at_part-requires-clause-stands
go_on_at_part-requires-clause-stands g c = c.requires.command.1.stands

pub returns-in-None : goal.returns-in-None
returns-in-None g c = record {
  since = λ start since. command-on c.args.floor.now start c.args.player.now since c.take_waiting.new.player c.take_waiting.ensures.open;
  unvisited = before-taken c.args.floor.now.hierarchy c.take_waiting.result _ c.take_waiting.ensures.taken c.take_waiting.ensures.none;
}

pub returns-in-Unread : goal.returns-in-Unread
returns-in-Unread g c =
    let went = c.go_on_at_part.ensures.went in
    record {
      since = λ start since. part-on c.args.floor.now start c.args.player.now since c.go_on_at_part.new.player went;
      unvisited = went.unvisited (record {
        e = errand_of c.in-Some.errand;
        filter = c.in-Unread.field-0;
        errand = ap (option_map errand_of) c.in-Some.is;
        unread = ap task_of c.in-Unread.is;
      });
    }
