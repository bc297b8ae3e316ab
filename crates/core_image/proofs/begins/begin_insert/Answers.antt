use Rattle.std.proofs.{Common.{ℕ, ℤ, ◌≡◌, refl, ap, sym, subst, ◌∙◌, rules, to_z, of_z, w64}, lemmas.Int.to_z-of_z}
use Rattle.std.specs.Prelude.{IsSome}
use Rattle.row_ledger.specs.{declared.event.Event.TheVariants.Begun}
use Rattle.core_image.specs.NotesDue.{OpensInsert}
use Rattle.volap_cell.specs.{Cells.{Tag, cell_of, owned_by}, Lending.{owner_of, with_ledger, with_image}, Values.actor_of}
use Rattle.volap_cell.proofs.{Outcomes.as-err}
use Rattle.core_image.proofs.{Here.Telling.tells-begun, EachStep.BeginsInsert.begin-makes}
use Rattle.core_image.proofs.begins.begin_insert.Goals as goal

pub owner_in-server-requires : goal.owner_in-server-requires
owner_in-server-requires c = subst (λ (t : Tag). IsSome (owned_by t)) (sym c.requires.due.image_is) refl

-- src/begins.rt:19:1
pub returns-clause-made : goal.returns-clause-made
returns-clause-made c =
    begin-makes c.args.h.now c.args.image_at c.args.ledger_at c.args.at (cell_of c.args.image.now) (cell_of c.args.ledger.now) (actor_of c.args.actor.now) c.requires.due
    (owner_of c.args.image.now) c.image_in-image.result.now (ap cell_of c.image_in-image.ensures.value)
    c.ledger_in-ledger.result.now (ap cell_of c.ledger_in-ledger.ensures.value)
    c.open.new.image c.open.new.ledger _ c.len.ensures.value refl
    (subst (λ (s : ℕ). OpensInsert (Begun (actor_of c.args.actor.now).number s (record { no = c.len.result; at = c.args.at; measures = to_z w64 (of_z w64 c.args.measures) })) c.image_in-image.result.now c.open.new.image c.ledger_in-ledger.result.now c.open.new.ledger)
    c.owner_in-server.ensures c.in_ok-open.ensures.ok) _ c.len-actor.ensures.value

pub returns-clause-told : goal.returns-clause-told
returns-clause-told c =
    let measured : to_z w64 (of_z w64 c.args.measures) ≡ c.args.measures = to_z-of_z w64 c.args.measures (search rules) in
    tells-begun c.args.at c.args.measures (actor_of c.args.actor.now) (cell_of c.args.image.now) (cell_of c.args.ledger.now) c.requires.due.server c.requires.due.role c.requires.due.image_is
    (owner_of c.args.image.now) c.image_in-image.result.now (ap cell_of c.image_in-image.ensures.value)
    c.ledger_in-ledger.result.now (ap cell_of c.ledger_in-ledger.ensures.value)
    _ c.len.ensures.value
    c.open.new.image c.open.new.ledger
    (subst (λ (m : ℤ). OpensInsert (Begun (actor_of c.args.actor.now).number (owner_of c.args.image.now) (record { no = c.len.result; at = c.args.at; measures = m })) c.image_in-image.result.now c.open.new.image c.ledger_in-ledger.result.now c.open.new.ledger)
    measured
    (subst (λ (s : ℕ). OpensInsert (Begun (actor_of c.args.actor.now).number s (record { no = c.len.result; at = c.args.at; measures = to_z w64 (of_z w64 c.args.measures) })) c.image_in-image.result.now c.open.new.image c.ledger_in-ledger.result.now c.open.new.ledger)
    c.owner_in-server.ensures c.in_ok-open.ensures.ok))

pub returns-in_err-open-clause-refused : goal.returns-in_err-open-clause-refused
returns-in_err-open-clause-refused c =
    let k = c.in_err-open.ensures.err in
    as-err c.from_residual.result (ap (with_image c.args.image.now) k.0 ∙ sym c.image_in-image.ensures.value, ap (with_ledger c.args.ledger.now) k.1 ∙ sym c.ledger_in-ledger.ensures.value, refl)
