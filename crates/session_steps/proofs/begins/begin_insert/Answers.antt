use Rattle.std.proofs.Common.{◌∙◌, ℤ, ap, subst, sym, arith, rules, to_z, of_z, w64}
use Rattle.std.proofs.lemmas.Int.{to_z-of_z}
use Rattle.std.specs.Prelude.{is_some}
use Rattle.part_steps.specs.core_steps.specs.declared.begins.BeginStep.TheVariants.{Insert}
use Rattle.part_steps.proofs.Keeping.{begin-kept}
use Rattle.session_steps.proofs.{Beginning.{began-at, insert-begun}, Servers.{books-still, insert-due}}
use Rattle.part_steps.specs.seat_steps.proofs.{Since.{as-before, as-err, before-unchanged, unchanged, unchanged-on}, WithLedger.up-one}
use Rattle.session_steps.specs.Begins.{HasBegunInsert}
use Rattle.part_steps.specs.volap_cell.specs.ImageKinds.{IsFree}
use Rattle.part_steps.specs.volap_cell.specs.Values.{ActorValue}
use Rattle.session_steps.proofs.begins.begin_insert.Goals as goal

pub make_booked-requires-clause-held : goal.make_booked-requires-clause-held
make_booked-requires-clause-held g c = up-one c.take_image_alone.new.player _ 5 (omega arith) c.take_image_alone.ensures.ranks

pub make_booked-requires-clause-due : goal.make_booked-requires-clause-due
make_booked-requires-clause-due g c =
    let same = (unchanged c.take_image_alone.ensures.took.same).actor in
    insert-due c.args.floor.now c.take_image_alone.new.player _ _ (books-still c.args.player.now c.take_image_alone.new.player same c.books_of-desk.ensures) c.args.at (to_z w64 (of_z w64 c.args.measures))
    (subst IsFree (sym same) c.requires.begins.free) c.requires.coord

pub make_booked-requires-clause-kept : goal.make_booked-requires-clause-kept
make_booked-requires-clause-kept g c q e =
    begin-kept c.args.floor.now.hierarchy q (Insert c.books_of-desk.result.1 c.args.at (to_z w64 (of_z w64 c.args.measures))) (ap (λ (a : ActorValue). a.errand) (e ∙ (unchanged c.take_image_alone.ensures.took.same).actor) ∙ c.requires.begins.free.errand)

pub there-requires : goal.there-requires
there-requires g c =
    ap (λ (a : ActorValue). is_some a.command) (insert-begun (unchanged c.take_image_alone.ensures.took.same) c.requires.begins.noted _ c.args.at _ c.in_ok-make_booked.ensures.booked).actor

pub returns-clause-begun : goal.returns-clause-begun
returns-clause-begun g c =
    let begun = insert-begun (unchanged c.take_image_alone.ensures.took.same) c.requires.begins.noted _ c.args.at _ c.in_ok-make_booked.ensures.booked in
    let of = began-at _ _ c.make_booked.new.player _ (ap (λ (a : ActorValue). a.command) begun.actor) c.there.ensures in
    subst (λ (m : ℤ). HasBegunInsert c.args.floor.now c.there.result.now.of c.args.at m c.args.player.now c.make_booked.new.player) (to_z-of_z w64 c.args.measures (search rules))
    (subst (λ n. HasBegunInsert c.args.floor.now n c.args.at (to_z w64 (of_z w64 c.args.measures)) c.args.player.now c.make_booked.new.player) (sym of) begun)

pub returns-in_err-make_booked-clause-same : goal.returns-in_err-make_booked-clause-same
returns-in_err-make_booked-clause-same g c =
    let same = c.in_err-make_booked.ensures.same in
    as-err c.from_residual.result (as-before c.args.floor.now same.stands (unchanged-on (unchanged c.take_image_alone.ensures.took.same) (before-unchanged same)))
