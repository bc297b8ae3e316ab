use Rattle.std.proofs.Common.{refl, subst, sym}
use Rattle.seeded_run.specs.Drives.{StopsAtDesk}
use Rattle.seeded_run.specs.declared.works.Instead.{Instead}
use Rattle.seeded_run.proofs.{GivesWay.{book-made, book-stands, desk-stops, goes-on-instead}, States.may-fail}
use Rattle.core_pages.specs.volap_cell.specs.declared.kind.Kind.TheVariants.{Note}
use Rattle.seeded_run.proofs.works.go_on_at_desk.Goals as goal

pub make_instead-requires-clause-may : goal.make_instead-requires-clause-may
make_instead-requires-clause-may c =
    let fails = may-fail _ c.make.result c.in-Err.field-0 c.in-Err.is c.make.ensures.sure in
    subst (λ (x : Instead). StopsAtDesk c.args.h.now c.make.new.state c.args.number x) (sym c.instead_of-instead.ensures)
    (desk-stops c.args.h.now c.make.new.state c.args.number c.args.step fails (c.requires.instead c.make.new.state c.in-Err.ensures.same).1)

pub returns-in-Ok : goal.returns-in-Ok
returns-in-Ok c = record { made = book-made c.args.step c.args.h.now c.args.number c.args.state.now c.make.new.state c.in-Ok.ensures.further c.in-Ok.ensures.told }

pub returns-in-Err : goal.returns-in-Err
returns-in-Err c =
    let fails = may-fail _ c.make.result c.in-Err.field-0 c.in-Err.is c.make.ensures.sure in
    record { made = goes-on-instead c.args.state.now c.make.new.state c.in-Err.ensures.same _ Note (book-stands c.args.step fails) refl c.args.h.now c.args.number c.make_instead.new.state c.make_instead.ensures.made }
