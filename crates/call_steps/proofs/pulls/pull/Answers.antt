use Rattle.std.proofs.Common.{◌∙◌, ℕ, List, [], ◌∷◌, ◌++◌, Option, ap, arith, subst, sym}
use Rattle.std.specs.Prelude.{is_some}
use Rattle.call_steps.proofs.{CallsDue.pulls-due, CallsMade.has-pulled}
use Rattle.session_steps.specs.core_steps.specs.{Books.{book_asks, book_places}, declared.books.BookStep.TheVariants.Sync}
use Rattle.session_steps.specs.part_steps.proofs.Keeping.{book-kept}
use Rattle.session_steps.specs.seat_steps.proofs.{Since.{as-before, before-unchanged, map-err, map-ok, nothing-told, unchanged-on}, WithLedger.{next-cell, up-two}}
use Rattle.session_steps.specs.seat_steps.specs.Booked.{IsDue, IsUpToLedger}
use Rattle.turn_table.specs.Numbered.{numbers_of}
use Rattle.session_steps.specs.volap_cell.specs.{Setting.{image_cell, ledger_cell, registry_cell}, Values.ActorValue}
use Rattle.call_steps.proofs.pulls.pull.Goals as goal

pub there-requires : goal.there-requires
there-requires g c = ap is_some c.requires.pulls.command

pub take_listings-requires-clause-within : goal.take_listings-requires-clause-within
take_listings-requires-clause-within g c =
    let f = c.args.floor.now in
    let p = c.args.player.now in
    let can = c.requires.pulls in
    let image = image_cell c.args.server in
    let due = pulls-due f p can.of can.work c.args.server can.command can.due c.tell_bytes.ensures.servers in
    (next-cell f p (book_places (Sync image)) c.requires.stands.seated due image (registry_cell ∷ ledger_cell ∷ []) (ap (λ (l : List (ℕ × Option ℕ)). numbers_of l ++ image ∷ registry_cell ∷ ledger_cell ∷ []) (nothing-told c.requires.stands can.no_part))).0

pub make_booked-requires-clause-held : goal.make_booked-requires-clause-held
make_booked-requires-clause-held g c =
    subst (λ (i : ℕ). IsUpToLedger c.take_listings.new.player (book_places (Sync i))) (sym c.image_place-image.ensures) (up-two c.take_listings.new.player (image_cell c.args.server) registry_cell 5 6 (omega arith) (omega arith) c.take_listings.ensures.ranks)

pub make_booked-requires-clause-due : goal.make_booked-requires-clause-due
make_booked-requires-clause-due g c =
    let f = c.args.floor.now in
    let p = c.take_listings.new.player in
    let can = c.requires.pulls in
    subst (λ (i : ℕ). IsDue f p (book_places (Sync i)) (book_asks (Sync i))) (sym c.image_place-image.ensures)
    (pulls-due f p can.of can.work c.args.server (ap (λ (a : ActorValue). a.command) c.take_listings.ensures.same.actor ∙ can.command) can.due c.tell_bytes.ensures.servers)

pub make_booked-requires-clause-kept : goal.make_booked-requires-clause-kept
make_booked-requires-clause-kept g c q e = book-kept c.args.floor.now.hierarchy q (Sync c.image_place-image.result) (ap (λ (a : ActorValue). a.errand) (e ∙ c.take_listings.ensures.same.actor) ∙ c.requires.pulls.no_part)

pub returns-clause-pulled : goal.returns-clause-pulled
returns-clause-pulled g c = map-ok c.make_booked.result (has-pulled c.image_place-image.result c.args.server c.requires.stands.seated c.take_listings.ensures.same c.requires.pulls) c.make_booked.ensures.booked

pub returns-clause-same : goal.returns-clause-same
returns-clause-same g c = map-err c.make_booked.result (λ same. as-before c.args.floor.now same.stands (unchanged-on c.take_listings.ensures.same (before-unchanged same))) c.make_booked.ensures.same
