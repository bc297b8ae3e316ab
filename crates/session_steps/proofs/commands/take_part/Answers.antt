use Rattle.std.proofs.Common.{◌∙◌, ℕ, List, Option, ap, arith, inr, refl, subst, sym}
use Rattle.part_steps.specs.core_steps.specs.{Parts.part_places, declared.parts.PartStep.TheVariants.TakePart}
use Rattle.part_steps.proofs.Keeping.{take-kept}
use Rattle.part_steps.specs.seat_steps.proofs.{HeldLedger.seen-same, WithLedger.{due-asked, due-at, few-held, ledger-off}}
use Rattle.session_steps.proofs.{CommandsMade.take-further, QueryParts.taken-asks, Servers.places-are, Since.{none-ended, open-still}}
use Rattle.turn_table.proofs.Numbered.{starts_self}
use Rattle.turn_table.specs.Numbered.{Extends, numbers_of}
use Rattle.part_steps.specs.volap_cell.specs.Values.{actor_of}
use Rattle.part_steps.specs.volap_turns.proofs.Turned.{when-ok}
use Rattle.session_steps.proofs.commands.take_part.Goals as goal

pub make-requires-clause-few : goal.make-requires-clause-few
make-requires-clause-few c = (few-held c.args.floor.now c.args.player.now c.requires.seated _ c.requires.ranks (omega arith) (omega arith)).1

pub make-requires-clause-at : goal.make-requires-clause-at
make-requires-clause-at c = due-at c.args.floor.now c.args.player.now (part_places (TakePart c.args.desk)) c.requires.seated c.requires.due (ap (λ (l : List (ℕ × Option ℕ)). numbers_of l) c.requires.ranks)

pub make-requires-clause-asked : goal.make-requires-clause-asked
make-requires-clause-asked c = due-asked c.args.floor.now c.args.player.now (part_places (TakePart c.args.desk)) c.requires.seated c.requires.due (ap (λ (l : List (ℕ × Option ℕ)). numbers_of l) c.requires.ranks)

pub make-requires-clause-kept : goal.make-requires-clause-kept
make-requires-clause-kept c = take-kept c.args.floor.now.hierarchy c.args.player.now c.args.desk

pub returns-clause-still : goal.returns-clause-still
returns-clause-still c =
    let f = c.args.floor.now in
    let was = c.args.player.now in
    let now = c.make.new.player in
    let has = c.requires.opened in
    let (image, books) = c.requires.books in
    let made = when-ok c.make.result c.make.ensures.made (c.make.ensures.sure refl) in
    let at = due-at f was (part_places (TakePart c.args.desk)) c.requires.seated c.requires.due (ap (λ (l : List (ℕ × Option ℕ)). numbers_of l) c.requires.ranks) in
    let seen = seen-same made (ledger-off f was c.requires.seated c.args.desk 4 (places-are books).2 c.requires.ranks) in
    let count = none-ended (actor_of was.actor) (actor_of now.actor) has.of has.work has.command has.no_part was.actor.went in
    λ p same. open-still same c.make.ensures.stands made.number (take-further c.args.desk made.went.makes) (subst (λ l. Extends l was.seat.view.seen) (sym seen) (starts_self was.seat.view.seen)) (made.counted ∙ count)
    (λ of q command asked. let it = taken-asks f was c.args.desk image of books command now c.requires.seated at made in inr (it.0, it.1 q asked))

pub returns-clause-unread : goal.returns-clause-unread
returns-clause-unread c =
    let f = c.args.floor.now in
    let was = c.args.player.now in
    let (image, books) = c.requires.books in
    let at = due-at f was (part_places (TakePart c.args.desk)) c.requires.seated c.requires.due (ap (λ (l : List (ℕ × Option ℕ)). numbers_of l) c.requires.ranks) in
    λ of asks. (taken-asks f was c.args.desk image of books asks c.make.new.player c.requires.seated at (when-ok c.make.result c.make.ensures.made (c.make.ensures.sure refl))).0
