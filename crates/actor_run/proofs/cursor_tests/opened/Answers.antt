use Rattle.std.proofs.Common.{List, sym, subst, arith}
use Rattle.actor_run.proofs.TwoSessions.{two-fit, with}
use Rattle.actor_run.specs.Halls.{IsHallFor}
use Rattle.whole_steps.specs.volap_cell.specs.declared.role.Role.{Role}
use Rattle.actor_run.proofs.cursor_tests.opened.Goals as goal

pub open-requires : goal.open-requires
open-requires c =
    let one = c.in_ok-h.ensures.one in
    record {
      fits = subst (λ (roles : List Role). IsHallFor c.in_ok-h.h (with 1 0 0) roles) (sym c.in_ok-roles.ensures)
          (two-fit 1 0 0 (omega arith) (omega arith) (omega arith) c.in_ok-h.h (omega arith) c.in_ok-h.ensures.valid);
    }
