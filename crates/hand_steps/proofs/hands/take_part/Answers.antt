use Rattle.std.proofs.Common.{◌∙◌, ℕ, List, Option, ap, arith, refl, subst, sym}
use Rattle.session_steps.specs.core_steps.specs.{Parts.part_places, declared.parts.PartStep.TheVariants.TakePart}
use Rattle.hand_steps.proofs.AtDesks.{take-makes}
use Rattle.session_steps.specs.part_steps.proofs.Keeping.{take-kept}
use Rattle.row_ledger.specs.declared.event.Event.{Event}
use Rattle.session_steps.specs.seat_steps.proofs.{HeldLedger.seen-same, Since.extends-on, WithLedger.{due-asked, due-at, few-held, ledger-off}}
use Rattle.turn_table.proofs.Numbered.{starts_self}
use Rattle.turn_table.specs.Numbered.{Extends, numbers_of}
use Rattle.session_steps.specs.volap_cell.specs.Values.{ActorValue, actor_of}
use Rattle.session_steps.specs.volap_turns.proofs.Turned.{when-ok}
use Rattle.hand_steps.proofs.hands.take_part.Goals as goal

pub make-requires-clause-few : goal.make-requires-clause-few
make-requires-clause-few c = (few-held c.args.floor.now c.args.player.now c.requires.seated _ c.requires.ranks (omega arith) (omega arith)).1

pub make-requires-clause-at : goal.make-requires-clause-at
make-requires-clause-at c = due-at c.args.floor.now c.args.player.now (part_places (TakePart c.args.desk)) c.requires.seated c.requires.due (ap (λ (l : List (ℕ × Option ℕ)). numbers_of l) c.requires.ranks)

pub make-requires-clause-asked : goal.make-requires-clause-asked
make-requires-clause-asked c = due-asked c.args.floor.now c.args.player.now (part_places (TakePart c.args.desk)) c.requires.seated c.requires.due (ap (λ (l : List (ℕ × Option ℕ)). numbers_of l) c.requires.ranks)

pub make-requires-clause-kept : goal.make-requires-clause-kept
make-requires-clause-kept c = take-kept c.args.floor.now.hierarchy c.args.player.now c.args.desk

pub returns : goal.returns
returns c =
    let was = c.args.player.now in
    let now = c.make.new.player in
    let made = when-ok c.make.result c.make.ensures.made (c.make.ensures.sure refl) in
    let seen = seen-same made (ledger-off c.args.floor.now was c.requires.seated c.args.desk 4 c.requires.behind c.requires.ranks) in
    let it = take-makes c.args.desk made.went.makes in
    record {
      taken = λ p same. record {
        stands = c.make.ensures.stands;
        number = made.number ∙ same.number;
        part = it.0;
        actor = it.1 ∙ ap (λ (a : ActorValue). record a { errand = (actor_of now.actor).errand }) same.actor;
        seen = extends-on now.seat.view.seen was.seat.view.seen p.seat.view.seen (subst (λ (l : List Event). Extends l was.seat.view.seen) (sym seen) (starts_self was.seat.view.seen)) same.seen;
      };
    }
