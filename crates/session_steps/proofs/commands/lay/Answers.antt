use Rattle.std.proofs.Common.{◌∙◌, ℕ, List, [], ◌∷◌, Option, Some, inl, sym, subst, ap, arith}
use Rattle.part_steps.specs.core_steps.specs.{Books.book_places, declared.books.BookStep.TheVariants.Route}
use Rattle.part_steps.proofs.Keeping.{book-kept}
use Rattle.session_steps.proofs.{CommandsMade.{route-errand, route-further}, Servers.places-are, Since.{none-ended, open-since, open-still}}
use Rattle.part_steps.specs.seat_steps.proofs.{HeldLedger.seen-same, Since.{as-before, map-err, map-ok, refused-unchanged, unchanged, unchanged-on}, WithLedger.{above-none, due-asked, due-at, due-still, few-held, ledger-off}}
use Rattle.session_steps.specs.Commands.{HasOpen}
use Rattle.turn_table.proofs.Numbered.{find_else, none_same, starts_self}
use Rattle.turn_table.specs.Numbered.{Extends, numbers_of, value_of}
use Rattle.part_steps.specs.volap_cell.specs.Values.{ActorValue, actor_of}
use Rattle.session_steps.proofs.commands.lay.Goals as goal

pub make-requires-clause-few : goal.make-requires-clause-few
make-requires-clause-few g c = (few-held c.args.floor.now c.take_image.new.player c.take_image.ensures.seated _ c.take_image.ensures.ranks (omega arith) (omega arith)).1

pub make-requires-clause-at : goal.make-requires-clause-at
make-requires-clause-at g c =
    let f = c.args.floor.now in let was = c.args.player.now in let row = book_places (Route c.args.desk c.args.image) in
    let off = ledger-off f was c.requires.seated c.args.desk 4 (places-are c.requires.books).2 c.requires.ranks in
    due-at f c.take_image.new.player row c.take_image.ensures.seated (due-still f row c.take_image.ensures.took off c.requires.due) (ap (λ (l : List (ℕ × Option ℕ)). numbers_of l) c.take_image.ensures.ranks)

pub make-requires-clause-asked : goal.make-requires-clause-asked
make-requires-clause-asked g c =
    let f = c.args.floor.now in let was = c.args.player.now in let row = book_places (Route c.args.desk c.args.image) in
    let off = ledger-off f was c.requires.seated c.args.desk 4 (places-are c.requires.books).2 c.requires.ranks in
    due-asked f c.take_image.new.player row c.take_image.ensures.seated (due-still f row c.take_image.ensures.took off c.requires.due) (ap (λ (l : List (ℕ × Option ℕ)). numbers_of l) c.take_image.ensures.ranks)

pub make-requires-clause-kept : goal.make-requires-clause-kept
make-requires-clause-kept g c =
    book-kept c.args.floor.now.hierarchy c.take_image.new.player (Route c.args.desk c.args.image) (ap (λ (a : ActorValue). a.errand) (unchanged c.take_image.ensures.took.same).actor ∙ c.requires.opened.no_part)

pub returns-clause-laid : goal.returns-clause-laid
returns-clause-laid g c =
    let f = c.args.floor.now in let mid = c.take_image.new.player in let now = c.make.new.player in
    let same_mid = unchanged c.take_image.ensures.took.same in
    let has : HasOpen mid = open-since same_mid.actor c.requires.opened in
    let two = ap (λ (l : List (ℕ × Option ℕ)). numbers_of l) c.take_image.ensures.ranks in
    let low = places-are c.requires.books in
    let off = none_same mid.seat.ranks mid.seat.view.held 0 (sym c.take_image.ensures.seated.holds.rows)
    (ap (λ (l : List (ℕ × Option ℕ)). value_of l 0) c.take_image.ensures.ranks ∙ find_else ((c.args.image, Some 5) ∷ []) c.args.desk 0 (Some 4) (above-none c.args.desk low.2) ∙ find_else [] c.args.image 0 (Some 5) (above-none c.args.image low.3)) in
    map-ok c.make.result (λ made p same. (
    let seen = seen-same made off in
    let count = none-ended (actor_of mid.actor) (actor_of now.actor) has.of has.work has.command has.no_part mid.actor.went in
    open-still (unchanged-on same same_mid) c.make.ensures.stands made.number (route-further c.args.desk c.args.image made.went.makes)
    (subst (λ l. Extends l mid.seat.view.seen) (sym seen) (starts_self mid.seat.view.seen)) (made.counted ∙ count)
    (λ of q command asked. inl (route-errand c.args.desk c.args.image made.went.makes ∙ has.no_part))
    )) c.make.ensures.made

pub returns-clause-same : goal.returns-clause-same
returns-clause-same g c =
    map-err c.make.result (λ same. as-before c.args.floor.now c.make.ensures.stands (unchanged-on (unchanged c.take_image.ensures.took.same) same)) (refused-unchanged c.make.result _ _ c.make.ensures.same c.make.ensures.same_actor c.make.ensures.uncounted c.make.ensures.same_seen)
