use Rattle.std.proofs.{Common.{◌≡◌, true, is_none, refl, sym, ap, subst, to_z, of_z, w64, rules}, lemmas.Int.to_z-of_z}
use Rattle.core_due.specs.core_steps.specs.Steps.{IsFurther}
use Rattle.script_form.specs.declared.script.Command.TheVariants.{Insert}
use Rattle.core_pages.specs.volap_cell.specs.declared.kind.Kind.{Kind}
use Rattle.seeded_run.specs.{Commands.beginning_if, Due.are_known}
use Rattle.seeded_run.proofs.{Due.DueBegins.{known-names, unknown-name}, Ready.BeginsReady.{begun-insert, insert-may}, States.core-sound}
use Rattle.seeded_run.proofs.beginnings.begin_insert.Goals as goal

pub make-requires-clause-sound : goal.make-requires-clause-sound
make-requires-clause-sound c = core-sound c.args.h.now c.args.with.now c.args.state.now c.requires.core

pub make-requires-clause-may : goal.make-requires-clause-may
make-requires-clause-may c =
    insert-may c.args.h.now c.args.with.now c.args.state.now c.requires.core c.args.number c.args.new.now c.requires.begins c.in-Ok.at c.in-Ok.ensures.ok c.args.new.now.measures c.image_place-image.result c.image_place-image.ensures

pub returns-in_ok-make-in-Ok-clause-made : goal.returns-in_ok-make-in-Ok-clause-made
returns-in_ok-make-in-Ok-clause-made c =
    let new = c.args.new.now in
    let known : are_known c.args.h.now (Insert new) ≡ true = ap is_none (known-names _ c.in-Ok.at c.coord.result c.in-Ok.is c.coord.ensures.unknown) in
    subst (λ (k : Kind). IsFurther c.args.h.now k c.args.number c.args.state.now c.make.new.state) (sym (ap (beginning_if (Insert new)) known)) c.in_ok-make-in-Ok.ensures.further

pub returns-in_ok-make-in-Ok-clause-begun : goal.returns-in_ok-make-in-Ok-clause-begun
returns-in_ok-make-in-Ok-clause-begun c =
    let new = c.args.new.now in
    let measured : to_z w64 (of_z w64 new.measures) ≡ new.measures = to_z-of_z w64 new.measures (search rules) in
    begun-insert c.args.h.now c.args.with.now c.args.state.now c.requires.core c.args.number (Insert new) c.requires.begins c.make.new.state new refl c.in-Ok.at _ c.in-Ok.ensures.ok measured c.in_ok-make-in-Ok.ensures.told

pub returns-in-Err-clause-unknown : goal.returns-in-Err-clause-unknown
returns-in-Err-clause-unknown c = λ dim is.
    let first = unknown-name _ c.in-Err.dim c.coord.result c.in-Err.is c.coord.ensures.unknown c.coord.ensures.known in
    let same : c.in-Err.dim ≡ dim = cc in
    cc
