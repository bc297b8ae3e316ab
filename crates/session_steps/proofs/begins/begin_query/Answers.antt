use Rattle.std.proofs.Common.{◌≡◌, ◌∙◌, [], ap, refl, subst, sym, arith}
use Rattle.std.specs.Prelude.{is_some}
use mathlib.Core.Option.{none}
use Rattle.part_steps.specs.core_steps.specs.{Begins.{begin_asks, begin_places}, declared.begins.BeginStep.TheVariants.Query}
use Rattle.part_steps.proofs.Keeping.{begin-kept}
use Rattle.session_steps.proofs.{Beginning.{began-at, query-begun}, Servers.{books-still, places-are, query-due}, Since.unchanged-back}
use Rattle.part_steps.specs.seat_steps.proofs.{Since.{as-before, before-unchanged, looked, unchanged, unchanged-on}, WithLedger.{due-still, first-there, ledger-off, up-two}}
use Rattle.part_steps.specs.seat_steps.specs.{Booked.IsDue, Floors.IsSeated, declared.floor.Player.Player}
use Rattle.session_steps.specs.Begins.{HasAsked}
use Rattle.turn_table.specs.Numbered.{value_of}
use Rattle.part_steps.specs.volap_cell.specs.{ImageKinds.IsFree, Values.ActorValue}
use Rattle.session_steps.proofs.begins.begin_query.Goals as goal

pub is_empty_at-requires-clause-held : goal.is_empty_at-requires-clause-held
is_empty_at-requires-clause-held g c = first-there c.args.floor.now c.take_first.new.player c.take_first.ensures.seated _ 4 [] c.take_first.ensures.ranks

pub take_image-requires-clause-seated : goal.take_image-requires-clause-seated
take_image-requires-clause-seated g c = subst (IsSeated c.args.floor.now) (sym c.is_empty_at.ensures.same) c.take_first.ensures.seated

pub take_image-requires-clause-books : goal.take_image-requires-clause-books
take_image-requires-clause-books g c =
    books-still c.args.player.now c.is_empty_at.new.player (looked (unchanged c.take_first.ensures.took.same) c.is_empty_at.ensures.same).actor c.books_of-desk.ensures

pub take_image-requires-clause-ranks : goal.take_image-requires-clause-ranks
take_image-requires-clause-ranks g c = ap (λ (p : Player). p.seat.ranks) c.is_empty_at.ensures.same ∙ c.take_first.ensures.ranks

pub make_booked-requires-clause-held : goal.make_booked-requires-clause-held
make_booked-requires-clause-held g c = up-two c.take_image.new.player _ _ 4 5 (omega arith) (omega arith) c.take_image.ensures.ranks

pub make_booked-requires-clause-due : goal.make_booked-requires-clause-due
make_booked-requires-clause-due g c =
    let f = c.args.floor.now in
    let m = c.take_first.new.player in
    let same = (unchanged c.take_first.ensures.took.same).actor in
    let books = books-still c.args.player.now m same c.books_of-desk.ensures in
    let seated = c.take_first.ensures.seated in
    let ranks = c.take_first.ensures.ranks in
    let step = Query c.books_of-desk.result.0 c.books_of-desk.result.1 c.args.filter in
    let due : IsDue f m (begin_places step) (begin_asks step) =
    query-due f m _ _ books c.args.filter (subst IsFree (sym same) c.requires.begins.free) c.requires.filter c.requires.dims (first-there f m seated _ 4 [] ranks)
    (λ x e. sym (c.is_empty_at.ensures.seen x e) ∙ c.if-not-is_empty_at.false) in
    due-still f (begin_places step) c.take_image.ensures.took
    (subst (λ (p : Player). value_of p.seat.view.held 0 ≡ none) (sym c.is_empty_at.ensures.same) (ledger-off f m seated _ 4 (places-are books).2 ranks))
    (subst (λ (p : Player). IsDue f p (begin_places step) (begin_asks step)) (sym c.is_empty_at.ensures.same) due)

pub make_booked-requires-clause-kept : goal.make_booked-requires-clause-kept
make_booked-requires-clause-kept g c q e =
    let same = unchanged-on (looked (unchanged c.take_first.ensures.took.same) c.is_empty_at.ensures.same) (unchanged c.take_image.ensures.took.same) in
    begin-kept c.args.floor.now.hierarchy q (Query c.books_of-desk.result.0 c.books_of-desk.result.1 c.args.filter) (ap (λ (a : ActorValue). a.errand) (e ∙ same.actor) ∙ c.requires.begins.free.errand)

pub there-requires : goal.there-requires
there-requires g c =
    let same = unchanged-on (looked (unchanged c.take_first.ensures.took.same) c.is_empty_at.ensures.same) (unchanged c.take_image.ensures.took.same) in
    ap (λ (a : ActorValue). is_some a.command) (query-begun same c.requires.begins.noted c.requires.begins.free _ _ c.args.filter c.in-Ok.ensures.booked).actor

pub returns-in-Ok : goal.returns-in-Ok
returns-in-Ok g c =
    let same = unchanged-on (looked (unchanged c.take_first.ensures.took.same) c.is_empty_at.ensures.same) (unchanged c.take_image.ensures.took.same) in
    let begun = query-begun same c.requires.begins.noted c.requires.begins.free _ _ c.args.filter c.in-Ok.ensures.booked in
    let of = began-at _ _ c.make_booked.new.player _ (ap (λ (a : ActorValue). a.command) begun.actor) c.there.ensures in
    record { begun = subst (λ n. HasAsked c.args.floor.now n c.args.filter c.args.player.now c.make_booked.new.player) (sym of) begun }

pub returns-in-Err : goal.returns-in-Err
returns-in-Err g c =
    let same = unchanged-on (looked (unchanged c.take_first.ensures.took.same) c.is_empty_at.ensures.same) (unchanged c.take_image.ensures.took.same) in
    record { begun = as-before c.args.floor.now c.in-Err.ensures.same.stands (unchanged-on same (before-unchanged c.in-Err.ensures.same)) }

pub returns-then-not-is_empty_at : goal.returns-then-not-is_empty_at
returns-then-not-is_empty_at g c =
    let same = looked (unchanged c.take_first.ensures.took.same) c.is_empty_at.ensures.same in
    record { begun = (refl, as-before c.args.floor.now c.give_all.ensures.stands (unchanged-back same c.give_all.ensures.gave)) }
