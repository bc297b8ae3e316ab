use Rattle.std.proofs.Common.{◌∙◌, ℕ, List, [], ◌∷◌, ◌++◌, Option, IsSome, refl, sym, ap, subst}
use Rattle.seat_steps.specs.core_steps.specs.declared.parts.PartStep.TheVariants.{FinishPart, FinishPinned}
use Rattle.part_steps.proofs.{PartsMade.part-first, PartsSure.{end-bare, finish-sure, pinned-sure}}
use Rattle.part_steps.proofs.parts.end_part.Goals as goal
use Rattle.turn_table.specs.Numbered.{numbers_of}

pub end_pinned-requires-clause-bare : goal.end_pinned-requires-clause-bare
end_pinned-requires-clause-bare g c = c.requires.stands.bare ∙ end-bare c.requires.ends

pub end_pinned-requires-clause-can : goal.end_pinned-requires-clause-can
end_pinned-requires-clause-can g c =
    let ends = c.requires.ends in
    let gate = c.in-Some.gate in
    let desk = c.desk_of-desk.result in
    let pin = sym (c.pin_of.ensures ends.e ends.errand) ∙ c.in-Some.is in
    part-first c.args.floor.now c.args.player.now c.requires.stands.seated (FinishPinned gate desk) (pinned-sure c.args.floor.now c.args.player.now ends.e ends.errand desk (c.desk_of-desk.ensures ends.e ends.errand) ends.ends gate pin) gate 2 (desk ∷ [])
    (c.requires.stands.bare ∙ end-bare ends) refl

pub end_pinned-requires-clause-ready : goal.end_pinned-requires-clause-ready
end_pinned-requires-clause-ready g c =
    let ends = c.requires.ends in
    pinned-sure c.args.floor.now c.args.player.now ends.e ends.errand c.desk_of-desk.result (c.desk_of-desk.ensures ends.e ends.errand) ends.ends c.in-Some.gate (sym (c.pin_of.ensures ends.e ends.errand) ∙ c.in-Some.is)

pub take_to_end-requires-clause-can : goal.take_to_end-requires-clause-can
take_to_end-requires-clause-can g c =
    let ends = c.requires.ends in
    let desk = c.desk_of-desk.result in
    part-first c.args.floor.now c.args.player.now c.requires.stands.seated (FinishPart desk)
    (finish-sure c.args.floor.now c.args.player.now ends.e ends.errand desk (c.desk_of-desk.ensures ends.e ends.errand) ends.ends (sym (c.pin_of.ensures ends.e ends.errand) ∙ c.in-None.is)) desk 4 [] (c.requires.stands.bare ∙ end-bare ends) refl

pub take_to_end-requires-clause-last : goal.take_to_end-requires-clause-last
take_to_end-requires-clause-last g c = ap (λ (l : List (ℕ × Option ℕ)). numbers_of l ++ c.desk_of-desk.result ∷ []) (sym (c.requires.stands.bare ∙ end-bare c.requires.ends))

pub take_to_end-requires-clause-ready : goal.take_to_end-requires-clause-ready
take_to_end-requires-clause-ready g c =
    let ends = c.requires.ends in
    finish-sure c.args.floor.now c.args.player.now ends.e ends.errand c.desk_of-desk.result (c.desk_of-desk.ensures ends.e ends.errand) ends.ends (sym (c.pin_of.ensures ends.e ends.errand) ∙ c.in-None.is)

pub desk_of-desk-requires : goal.desk_of-desk-requires
desk_of-desk-requires g c = record { part = subst IsSome (sym c.requires.ends.errand) refl }
