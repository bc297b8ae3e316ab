use Rattle.std.proofs.Common.{◌∙◌, ℕ, List, [], ◌∷◌, ◌++◌, Option, ap, arith, refl, subst, sym}
use Rattle.std.specs.Prelude.{is_some}
use Rattle.call_steps.proofs.CallsDue.{pulls-due}
use Rattle.call_steps.specs.core_steps.specs.{Books.{book_asks, book_places}, declared.books.BookStep.TheVariants.Sync}
use Rattle.call_steps.specs.part_steps.proofs.Keeping.{book-kept}
use Rattle.call_steps.specs.seat_steps.proofs.{Since.map-ok, WithLedger.up-two}
use Rattle.call_steps.specs.seat_steps.specs.Booked.{IsUpToLedger}
use Rattle.turn_table.specs.Numbered.{numbers_of}
use Rattle.core_pages.specs.volap_cell.specs.{Setting.{image_cell, ledger_cell, registry_cell}, Values.ActorValue}
use Rattle.whole_steps.proofs.{Adding.{next-cell, registry-within}, Alone.{everyone-of, sole-on}, Calling.{due-sole, waited-before}, Settling.{can-pull-on, due-turned, has-pulled, pulled-before}, Turned.none-held}
use Rattle.whole_steps.specs.Sole.{IsDueSole, player}
use Rattle.whole_steps.proofs.settles.pull.Goals as goal

pub there-requires : goal.there-requires
there-requires g c = ap is_some c.requires.pulls.command

pub take_listings-requires-clause-everyone : goal.take_listings-requires-clause-everyone
take_listings-requires-clause-everyone g c = everyone-of c.args.floor.now (player c.args.number c.args.actor.now c.args.seat.now) c.requires.stands.sole

pub take_listings-requires-clause-image : goal.take_listings-requires-clause-image
take_listings-requires-clause-image g c =
    let f = c.args.floor.now in
    let p = player c.args.number c.args.actor.now c.args.seat.now in
    let can = c.requires.pulls in
    let image = image_cell c.args.server in
    let due = due-sole f p (book_places (Sync image)) (pulls-due f p can.of can.work c.args.server can.command can.due c.tell_bytes.ensures.servers) in
    (next-cell f p (book_places (Sync image)) c.requires.stands.sole due image (registry_cell ∷ ledger_cell ∷ []) (ap (λ (l : List (ℕ × Option ℕ)). numbers_of l ++ image ∷ registry_cell ∷ ledger_cell ∷ []) c.requires.stands.bare)).0

pub take_listings-requires-clause-registry : goal.take_listings-requires-clause-registry
take_listings-requires-clause-registry g c = registry-within c.args.floor.now (player c.args.number c.args.actor.now c.args.seat.now) c.requires.stands.sole registry_cell refl

pub add-requires-clause-sole : goal.add-requires-clause-sole
add-requires-clause-sole g c = sole-on c.args.floor.now (player c.args.number c.args.actor.now c.args.seat.now) c.take_listings.new.seat c.requires.stands.sole c.take_listings.ensures.turned c.take_listings.ensures.everyone

pub add-requires-clause-held : goal.add-requires-clause-held
add-requires-clause-held g c =
    subst (λ (i : ℕ). IsUpToLedger (player c.args.number c.args.actor.now c.take_listings.new.seat) (book_places (Sync i))) (sym c.image_place-image.ensures) (up-two (player c.args.number c.args.actor.now c.take_listings.new.seat) (image_cell c.args.server) registry_cell 5 6 (omega arith) (omega arith) c.take_listings.ensures.ranks)

pub add-requires-clause-due : goal.add-requires-clause-due
add-requires-clause-due g c =
    let f = c.args.floor.now in
    let n = c.args.number in
    let a = c.args.actor.now in
    let can = c.requires.pulls in
    let image = image_cell c.args.server in
    subst (λ (i : ℕ). IsDueSole f (player n a c.take_listings.new.seat) (book_places (Sync i)) (book_asks (Sync i))) (sym c.image_place-image.ensures)
    (due-sole f (player n a c.take_listings.new.seat) (book_places (Sync image))
    (due-turned f n a c.args.seat.now c.take_listings.new.seat (book_places (Sync image)) c.take_listings.ensures.turned (none-held (everyone-of f (player n a c.args.seat.now) c.requires.stands.sole) c.requires.stands.bare)
    (pulls-due f (player n a c.args.seat.now) can.of can.work c.args.server can.command can.due c.tell_bytes.ensures.servers)))

pub add-requires-clause-sees : goal.add-requires-clause-sees
add-requires-clause-sees g c now turned s w about inv seen = tt

pub add-requires-clause-kept : goal.add-requires-clause-kept
add-requires-clause-kept g c q e = book-kept c.args.floor.now.hierarchy q (Sync c.image_place-image.result) (ap (λ (a : ActorValue). a.errand) e ∙ c.requires.pulls.no_part)

pub returns-clause-pulled : goal.returns-clause-pulled
returns-clause-pulled g c =
    let f = c.args.floor.now in
    let n = c.args.number in
    let a = c.args.actor.now in
    pulled-before f n a c.add.new.actor c.args.seat.now c.take_listings.new.seat c.add.new.seat c.args.server c.take_listings.ensures.turned c.add.result
    (map-ok c.add.result (λ has. has-pulled c.image_place-image.result c.args.server (sole-on f (player n a c.args.seat.now) c.take_listings.new.seat c.requires.stands.sole c.take_listings.ensures.turned c.take_listings.ensures.everyone)
    (can-pull-on f c.args.server n a c.args.seat.now c.take_listings.new.seat c.take_listings.ensures.turned c.requires.pulls) has) c.add.ensures.made)

pub returns-clause-same : goal.returns-clause-same
returns-clause-same g c = waited-before c.args.floor.now c.args.number c.args.actor.now c.add.new.actor c.args.seat.now c.take_listings.new.seat c.add.new.seat c.take_listings.ensures.turned c.add.result c.add.ensures.same
