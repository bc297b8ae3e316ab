use Rattle.std.proofs.Common.{◌∙◌, refl, ap, arith}
use Rattle.std.specs.Prelude.{option_map}
use Rattle.seat_steps.specs.core_due.specs.Wants.{last_noted}
use Rattle.part_steps.proofs.QueryCosts.{not-read}
use Rattle.part_steps.proofs.parts.go_on_at_part.Goals as goal
use Rattle.seat_steps.specs.volap_cell.specs.{Values.{actor_of, errand_of, reading_of, task_of}, declared.errand.Reading.Reading}

pub go_on_with_row-requires-clause-way : goal.go_on_with_row-requires-clause-way
go_on_with_row-requires-clause-way g c = record {
  e = errand_of c.in-Some.errand;
  r = c.in-Row.going;
  has = record { errand = ap (option_map errand_of) c.in-Some.is; row = ap task_of c.in-Row.is };
  way_is = refl;
}

pub go_by_table-requires-clause-due : goal.go_by_table-requires-clause-due
go_by_table-requires-clause-due g c = record {
  e = errand_of c.in-Some.errand;
  filter = c.in-Unread.field-0;
  errand = ap (option_map errand_of) c.in-Some.is;
  unread = ap task_of c.in-Unread.is;
}

pub go_on_with_query-requires-clause-reading : goal.go_on_with_query-requires-clause-reading
go_on_with_query-requires-clause-reading g c = record {
  e = errand_of c.in-Some.errand;
  reading = reading_of c.in-Read.reading.value;
  errand = ap (option_map errand_of) c.in-Some.is;
  task = ap task_of c.in-Read.is;
  last = c.last_noted-noted.ensures ∙ ap (λ (r : Reading). last_noted r.todo.items) c.deref.ensures;
}

pub returns-in-Row : goal.returns-in-Row
returns-in-Row g c = record {
  went = c.go_on_with_row.ensures.went;
  costs = record { kept = omega arith; before = λ u. omega arith; behind = λ r. refl };
}

pub returns-in-Unread : goal.returns-in-Unread
returns-in-Unread g c = record {
  went = c.go_by_table.ensures.went;
  costs = record {
    kept = c.go_by_table.ensures.kept;
    before = c.go_by_table.ensures.few;
    behind = λ r. not-read (actor_of c.args.player.now.actor)
        (record { e = errand_of c.in-Some.errand; filter = c.in-Unread.field-0; errand = ap (option_map errand_of) c.in-Some.is; unread = ap task_of c.in-Unread.is }) r.e r.reading r.errand r.task;
  };
}

pub returns-in-Read : goal.returns-in-Read
returns-in-Read g c = record {
  went = c.go_on_with_query.ensures.went;
  costs = record {
    kept = c.go_on_with_query.ensures.kept;
    before = λ u. not-read (actor_of c.args.player.now.actor) u.unread (errand_of c.in-Some.errand) (reading_of c.in-Read.reading.value) (ap (option_map errand_of) c.in-Some.is) (ap task_of c.in-Read.is);
    behind = c.go_on_with_query.ensures.none;
  };
}
